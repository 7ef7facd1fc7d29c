-- The check: table and history are loaded, decided, and loaded again.
--   checked_pyramid == where the check says yes, it is a pyramid
--   loaded_beyond   == loading keeps what stands beyond the four parts
--   decided_beyond  == and so does deciding
--   too_many_lem        == no where there are more than D/2 operations
--   load_no         == no where tests 1 to 5 fail
--   loaded_area     == loaded: the work area holds the map
--   check_finds     == its numbers are those of the table and the history
--   decide_no       == no where the decision says no
--   decide_base     == a base stands there still, and its forest judges the coming kernel
--   decide_yes      == loaded again: the work area holds the map, and its forest judges the coming kernel
use mathlib.Core.Bool.{Bool, true, false, false≢true}
use mathlib.Core.List.{List}
use mathlib.Core.Path.{◌≡◌, refl, sym, ap, ◌∙◌}
use Prim.Native.Nat.{ℕ, ◌+◌, ◌*◌, ◌/◌, ◌≤◌, ◌<◌}
use native.Mathlib.Omega.{arith}
use lib.ListN.{length, drop}
use lib.Seq.{drop-drop}
use Rattle.permutations.specs.Choice.{true→T}
use Rattle.darts.specs.Calls.{table_of, past_of}
use Rattle.darts.specs.Pyramid.{Pyramid, is_pyramid}
use Rattle.darts.specs.State.{State, counted}
use Rattle.laws.proofs.claims.Decided.{pyramid_decided}
use Rattle.area.specs.Area.{Room, table_in, past_in, tried}
use Rattle.area.specs.Load.{loads}
use Rattle.engine.specs.Held.{Area, Beyond}
use Rattle.engine.specs.Checks.{Decided, Checked}
use Rattle.engine.specs.Counted.{CyclesAre}
use Rattle.engine.proofs.Area.{room_kept}
use Rattle.engine.proofs.Beside.{beside_table, beside_past, beside_area, beside_rooted}
use Rattle.engine.proofs.Decides.{refuted, pyramid_loads, pyramid_few}
use Rattle.engine.proofs.Given.{linked_stand}
use Rattle.engine.proofs.Loaded.{Loaded, loads_right}
use Rattle.engine.proofs.Ready.{beyond_trans}

-- WHERE THE CHECK SAYS YES, IT IS A PYRAMID
pub checked_pyramid : {s : State} {coming : ℕ} {t h w w' : List ℕ} {r : Bool} → Checked s coming t h w w' r → r ≡ true
    → Pyramid (counted s (table_of s t) (past_of s h)) (table_of s t) (past_of s h)
checked_pyramid {s} {t = t} {h = h} C e = (pyramid_decided (counted s (table_of s t) (past_of s h)) (table_of s t) (past_of s h)).0 (true→T (sym C.answer ∙ e))

-- ---- what stands beyond the four parts

pub loaded_beyond : {D n : ℕ} {t h w v : List ℕ} {r : Bool} → Loaded D n t h w (tried r v) → Beyond D w v
loaded_beyond L = record { size = L.size; rest = L.rest }

pub decided_beyond : {s : State} {coming : ℕ} {w v : List ℕ} {r : Bool} → Decided s coming w v r → Beyond s.darts w v
decided_beyond {s} {w = w} {v = v} δ =
    let D = s.darts in
    let e : 4 * D ≡ 3 * D + D = omega arith in
    record { size = δ.size; rest = rw e (sym (drop-drop D (3 * D) v) ∙ ap (drop D) δ.rest ∙ drop-drop D (3 * D) w) }

-- ---- the check

module _ (s : State) (coming : ℕ) (t h : List ℕ) where
  abbrev D : ℕ
  D = s.darts

  abbrev n : ℕ
  n = s.operations

  refuses : {w w' : List ℕ} → Beyond D w w' → ¬ Pyramid (counted s (table_of s t) (past_of s h)) (table_of s t) (past_of s h) → Checked s coming t h w w' false
  refuses beyond none = record {
    answer = refuted none;
    beyond = beyond;
    area = λ e. absurd (false≢true e);
    table = λ e. absurd (false≢true e);
    past = λ e. absurd (false≢true e);
    ready = λ e. absurd (false≢true e);
  }

  pub too_many_lem : (w : List ℕ) → D / 2 < n → Checked s coming t h w w false
  too_many_lem w many = refuses (record { size = refl; rest = refl }) (λ P. let few = pyramid_few P in omega arith)

  module _ {w : List ℕ} (room : Room D w) (long : D ≤ length t) (enough : n ≤ length h) (few : n ≤ D / 2)
      {m : Bool} {v : List ℕ} (loaded : tried m v ≡ loads D n t h w) where
    L : Loaded D n t h w (tried m v)
    L = rw loaded (loads_right linked_stand n t h w room long enough few)

    pub load_no : m ≡ false → Checked s coming t h w v false
    unfolding table_of past_of
    load_no e = refuses (loaded_beyond L) (λ P. rw (← L.fine, e) at (pyramid_loads P))

    -- what is found of the loaded map is found of the table and the history
    pub check_finds : {x y : ℕ} → CyclesAre D (table_in D v) (past_in D n v) x y → CyclesAre D (table_of s t) (past_of s h) x y
    unfolding table_of past_of
    check_finds F = rw (L.table, L.past) at F

    module _ (fine : m ≡ true) where
      pub loaded_area : Area D n v
      loaded_area = L.area (true→T fine)

      module _ {b : Bool} {u : List ℕ} (δ : Decided s coming v u b) where
        decided : b ≡ is_pyramid (counted s (table_of s t) (past_of s h)) (table_of s t) (past_of s h)
        unfolding table_of past_of
        decided = rw (L.table, L.past) at δ.answer

        u_beyond : Beyond D w u
        u_beyond = beyond_trans (loaded_beyond L) (decided_beyond δ)

        pub decide_no : b ≡ false → Checked s coming t h w u b
        decide_no e =
            rw e (refuses u_beyond (λ P. rw (← decided, e) at ((pyramid_decided (counted s (table_of s t) (past_of s h)) (table_of s t) (past_of s h)).1 P)))

        -- A BASE STANDS THERE STILL
        pub decide_base : b ≡ true → n ≡ 0 → Checked s coming t h w u b
        unfolding table_of past_of
        decide_base e none =
            let o = δ.kept e none in
            let A = beside_area o loaded_area in
            record {
              answer = decided;
              beyond = u_beyond;
              area = λ _. A;
              table = λ _. beside_table o ∙ L.table;
              past = λ _. beside_past o n ∙ L.past;
              ready = λ _ k. record { kind = k; area = A; falls = δ.falls e k; roots = beside_rooted o n coming (δ.roots e k) };
            }

        module _ (yes_decided : b ≡ true) {r : Bool} {x : List ℕ} (again : tried r x ≡ loads D n t h u) where
          M : Loaded D n t h u (tried r x)
          M = rw again (loads_right linked_stand n t h u (room_kept w u u_beyond.size room) long enough few)

          r_true : r ≡ true
          r_true = M.fine ∙ sym L.fine ∙ fine

          x_area : Area D n x
          x_area = M.area (true→T r_true)

          -- LOADED AGAIN, AND THE FOREST KEPT
          pub decide_yes : Checked s coming t h w x b
          unfolding table_of past_of
          decide_yes = record {
            answer = decided;
            beyond = beyond_trans u_beyond (loaded_beyond M);
            area = λ _. x_area;
            table = λ _. M.table;
            past = λ _. M.past;
            ready = λ _ k. record {
              kind = k;
              area = x_area;
              falls = rw M.forest (δ.falls yes_decided k);
              roots = rw (M.forest, M.table, M.past) (rw (L.table, L.past) at (δ.roots yes_decided k));
            };
          }
