-- Table and history loaded: the tests 1 to 5 of a pyramid, and a work area that holds the map.
--   LinkedStand D      == a table that passes tests 3 to 5 holds a map: the law of those tests
--   Loaded D n t h w a == a is what loading the table t and the first n numbers of the history h gives
--   loads_right        == tests 1 to 5 are passed as the table's and the past's are, and then the work area holds the map
--   relinks_right      == the same of a table and a history that stand in the work area already
use mathlib.Core.Bool.{Bool, true, false, ◌&&◌}
use mathlib.Core.List.{List, reverse}
use mathlib.Core.Logic.{◌⊎◌, inl, inr}
use mathlib.Core.Path.{◌≡◌, refl, sym, ap, ◌∙◌}
use Prim.Native.Nat.{ℕ, zero, suc, ◌*◌, ◌/◌, ◌%◌, ◌≤◌, ◌<◌}
use native.Mathlib.Decide.{ℕ_discrete}
use native.Mathlib.Nat.{not-suc-le-zero}
use native.Mathlib.Omega.{arith}
use lib.Dec.{T, eqb, T_not}
use lib.ListN.{length, take, drop}
use lib.Seq.{length-take-le}
use Rattle.permutations.specs.Choice.{true→T, T→true, not_T→false, eqb_iff, or_intro, and_intro}
use Rattle.std.proofs.Common.{if◌then◌else◌}
use Rattle.darts.specs.Map.{successor, gone, survives, live, before, passed}
use Rattle.darts.specs.Tests.{numbered, led, survivors_test, linked}
use Rattle.area.specs.Area.{Room, prev, table_in, past_in, forest_in, Tried}
use Rattle.area.specs.Verdicts.{passing}
use Rattle.area.specs.Load.{marks, links, links_after, relinks, loads}
use Rattle.laws.specs.Standing.{Standing}
use Rattle.laws.proofs.bridge.Standing.{live_iff}
use Rattle.laws.proofs.bridge.Before.{before_live, before_leads}
use Rattle.engine.specs.Held.{Area}
use Rattle.engine.proofs.Edges.{not_gone_live}
use Rattle.engine.proofs.Parts.{past_rest, rest_from, forest_rest}
use Rattle.engine.proofs.Area.{area_of, room_kept}
use Rattle.engine.proofs.Laid.{Laid, given_laid, stays_laid}
use Rattle.engine.proofs.Marked.{Marks, marks_right}
use Rattle.engine.proofs.Linked.{Linking, Links, links_right}

abbrev pub LinkedStand : ℕ → Type 0
LinkedStand D = (t past : List ℕ) → D % 2 ≡ 0 → length t ≡ D → T (linked D t past) → Standing D t past

pub record Loaded (D n : ℕ) (t h w : List ℕ) (a : Tried) : Type 0 where
  pub fine : a.fine ≡ (numbered D (reverse (take n h)) && linked D (take D t) (reverse (take n h)))
  pub table : table_in D a.work ≡ take D t
  pub past : past_in D n a.work ≡ reverse (take n h)
  pub area : T a.fine → Area D n a.work
  pub forest : forest_in D a.work ≡ forest_in D w
  pub rest : drop (4 * D) a.work ≡ drop (4 * D) w
  pub size : length a.work ≡ length w

-- ---- all darts noted

-- a survivor below n that leads to y is found
led_found : (n : ℕ) (t past : List ℕ) (z y : ℕ) → z < n → T (survives past z) → successor t z ≡ y → T (led t past n y)
unfolding led
led_found zero t past z y l s e = absurd (not-suc-le-zero l)
led_found (suc n) t past z y l s e = or_intro (survives past n && eqb (successor t n) y) (led t past n y) (go (ℕ_discrete z n) (λ k. led_found n t past z y k s e))
  where
    go : Dec (z ≡ n) → (z < n → T (led t past n y)) → T (survives past n && eqb (successor t n) y) ⊎ T (led t past n y)
    go (yes c) rest = inl (and_intro (survives past n) (eqb (successor t n) y) (rw (← c) s) ((eqb_iff (successor t n) y).1 (rw (← c) e)))
    go (no c) rest = inr (rest (omega arith))

module _ {D : ℕ} {t past w : List ℕ} (S : Standing D t past) (L : Linking D t past D w) where
  all_known : (x : ℕ) → T (live D past x) → prev D w x ≡ before D t past x
  unfolding before survives
  all_known x h =
      let i = (live_iff D past x).0 h in
      let b : ℕ = before D t past x in
      let j = (live_iff D past b).0 (before_live S x h) in
      let g : gone past x ≡ false = not_T→false (gone past x) (T_not (gone past x) i.1) in
      let l : led t past D x ≡ true = T→true (led t past D x) (led_found D t past b x j.0 j.1 (before_leads S x h)) in
      rw (L.each x i.0, g, l)

  all_gones : (x : ℕ) → x < D → ¬ T (live D past x) → D ≤ prev D w x
  all_gones x x_d h = go (gone past x) refl
    where
      go : (b : Bool) → gone past x ≡ b → D ≤ prev D w x
      go true g = rw (L.each x x_d, g) (omega arith)
      go false g = absurd (h (not_gone_live D past x x_d g))

-- ---- marks, then links

module _ {D : ℕ} (stands : LinkedStand D) (n : ℕ) (t h w : List ℕ) (room : Room D w) (long : D ≤ length t) (few : n ≤ D / 2)
    (e : List ℕ) (E : Laid D n t h w e) where
  abbrev past : List ℕ
  past = reverse (take n h)

  abbrev a : Tried
  a = marks D e 0 n

  M : Marks D n e a
  M = marks_right D n e room.even (omega arith) (rw E.size room.fits) E.unknown

  a_past : past_in D n a.work ≡ past
  a_past = past_rest D n a.work e M.rest ∙ E.past

  a_fine : a.fine ≡ numbered D past
  a_fine = M.fine ∙ ap (numbered D) E.past

  -- a test of the history failed
  refused : a.fine ≡ false → Loaded D n t h w a
  refused f = record {
    fine = f ∙ ap (λ b. b && linked D (take D t) past) (sym f ∙ a_fine);
    table = M.table ∙ E.table;
    past = a_past;
    area = λ k. absurd (rw f at k);
    forest = forest_rest D a.work e M.rest ∙ E.forest;
    rest = rest_from D (4 * D) a.work e M.rest (omega arith) ∙ E.rest;
    size = M.size ∙ E.size;
  }

  module _ (f : T a.fine) where
    abbrev v : Tried
    v = passing (links D n a.work 0 D)

    L : Links D (take D t) past D 0 a.work (links D n a.work 0 D)
    L = links_right D n (take D t) past a.work (λ e. rw e refl) (M.table ∙ E.table) (omega (arith, M.size, E.size, room.fits)) (rw E.past at (M.marked f))

    v_table : table_in D v.work ≡ take D t
    v_table = L.table ∙ M.table ∙ E.table

    v_past : past_in D n v.work ≡ past
    v_past = past_rest D n v.work a.work L.rest ∙ a_past

    v_size : length v.work ≡ length w
    v_size = L.size ∙ M.size ∙ E.size

    numbers : T (numbered D past)
    numbers = rw a_fine at f

    v_fine : v.fine ≡ linked D (take D t) past
    unfolding survivors_test
    v_fine = ap passed L.verdict

    v_area : T v.fine → Area D n v.work
    v_area k =
        let S : Standing D (take D t) past = stands (take D t) past room.even (length-take-le D t long) (rw v_fine at k) in
        area_of n v.work v_past (room_kept w v.work v_size room) few numbers
        (rw v_table S) (rw v_table (all_known S (L.noted k))) (all_gones S (L.noted k))

    accepted : Loaded D n t h w v
    accepted = record {
      fine = rw (T→true (numbered D past) numbers) v_fine;
      table = v_table;
      past = v_past;
      area = v_area;
      forest = forest_rest D v.work a.work L.rest ∙ forest_rest D a.work e M.rest ∙ E.forest;
      rest = rest_from D (4 * D) v.work a.work L.rest (omega arith) ∙ rest_from D (4 * D) a.work e M.rest (omega arith) ∙ E.rest;
      size = v_size;
    }

  laid_right : Loaded D n t h w (links_after D n (marks D e 0 n))
  unfolding links_after
  laid_right = go a.fine refl
    where
      go : (b : Bool) → a.fine ≡ b → Loaded D n t h w (if b then passing (links D n a.work 0 D) else a)
      go true f = accepted (true→T f)
      go false f = refused f

module _ {D : ℕ} (stands : LinkedStand D) (n : ℕ) where
  -- LOADED, OR REFUSED
  pub loads_right : (t h w : List ℕ) → Room D w → D ≤ length t → n ≤ length h → n ≤ D / 2 → Loaded D n t h w (loads D n t h w)
  unfolding loads relinks
  loads_right t h w room long enough few = laid_right stands n t h w room long few _ (given_laid D n t h w room long enough few)

  -- LINKED ANEW, OR REFUSED
  pub relinks_right : (w : List ℕ) → Room D w → n ≤ D / 2 → Loaded D n w (drop (3 * D) w) w (relinks D n w)
  unfolding relinks
  relinks_right w room few = laid_right stands n w (drop (3 * D) w) w room (omega (arith, room.fits)) few _ (stays_laid D n w room)
