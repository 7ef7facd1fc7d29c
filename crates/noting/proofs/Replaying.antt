-- The replay under way: after t operations.
--   Replaying D n w₀ w t == w is w₀ after the first t of n operations: what is left from here answers, joins and merges the same as the whole, and what
--                           the first t merge is noted
--   replay_begin == none is done yet
--   replay_room, number_below == what the next operation asks for
--   turn_on      == the next operation passes
--   turn_refused == it does not: the answer is no
--   replay_ends  == none is left: the answer is yes
use mathlib.Core.Bool.{Bool, true, false, false≢true}
use mathlib.Core.List.{List, ◌∷◌}
use mathlib.Core.Logic.{◌≢◌}
use mathlib.Core.Path.{◌≡◌, refl, sym, ap, ◌∙◌, subst}
use Prim.Native.Nat.{ℕ, suc, ◌+◌, ◌*◌, ◌/◌, ◌≤◌, ◌<◌}
use native.Mathlib.Decide.{ℕ_discrete}
use native.Mathlib.Numerals.{add-one}
use native.Mathlib.Omega.{arith}
use lib.Dec.{eqb}
use lib.ListN.{get_or, length, drop}
use lib.Seq.{drop-drop}
use borrow.Author.Tests.{eqb-true}
use Rattle.permutations.specs.Choice.{pick, eqb_same}
use Rattle.darts.specs.Operation.{kind_of, edge_of}
use Rattle.forest.specs.Forest.{Falls, root}
use Rattle.forest.specs.Roots.{root_own}
use Rattle.slices.specs.Part.{part}
use Rattle.area.specs.Area.{Room, forest_in}
use Rattle.area.specs.Shape.{history_in}
use Rattle.area.proofs.Parts.{part_cons, part_none}
use Rattle.operations.specs.Replay.{replayed, Numbered}
use Rattle.operations.specs.Trees.{rooted}
use Rattle.operations.proofs.Outside.{outside_front, outside_rest, outside_room}
use Rattle.sheets.specs.Sheets.{Merge, none, into, low_into, last_into}
use Rattle.sheets.specs.Notes.{note_of}
use Rattle.yarn.specs.Places.{zoned, places_after, merge_by, merges_of}
use Rattle.noting.specs.Links.{came_from, recorded, Starts, Stepped, Replayed}
use Rattle.noting.proofs.Places.{Among, zoned_rejoins, merges_among}
use Rattle.noting.proofs.Recorded.{Inside, low_none, recorded_size, recorded_rest, recorded_forest, recorded_else, recorded_note, recorded_link, recorded_kept}
use Rattle.noting.proofs.Stepping.{roots_below, step_answer, step_refused}

-- the operations from place t on
abbrev left : ℕ → ℕ → List ℕ → ℕ → List ℕ
left D n w t = part (3 * D + t) (3 * D + n) w

-- what the operations of the history in w merge
abbrev ms : ℕ → ℕ → List ℕ → ℕ → Merge
ms D n w = merges_of (rooted D w) (history_in D n w)

pub record Replaying (D n : ℕ) (w₀ w : List ℕ) (t : ℕ) : Type 0 where
  pub low : t ≤ n
  pub size : length w ≡ length w₀
  pub rest : drop (4 * D) w ≡ drop (4 * D) w₀
  pub falls : Falls (forest_in D w)
  pub history : (i : ℕ) → i < n → get_or w (3 * D + i) 0 ≡ get_or w₀ (3 * D + i) 0
  pub answer : replayed 1 (rooted D w₀) (history_in D n w₀) ≡ replayed 1 (rooted D w) (left D n w₀ t)
  pub roots : places_after (rooted D w₀) (history_in D n w₀) ≡ places_after (rooted D w) (left D n w₀ t)
  pub ahead : (i : ℕ) → ms D n w₀ (t + i) ≡ merges_of (rooted D w) (left D n w₀ t) i
  pub notes : (i : ℕ) → i < t → get_or w (3 * D + D / 2 + i) 0 ≡ note_of (ms D n w₀ i)
  pub links : (x : ℕ) → x < D → get_or w x 0 ≡ pick (eqb (rooted D w₀ x) x) (last_into (ms D n w₀) t x) D
  pub kept : (i : ℕ) → i < t → get_or w (D + i) 0 ≡ came_from D (last_into (ms D n w₀) i) (ms D n w₀ i)

pub replay_begin : {D n : ℕ} {w : List ℕ} → Falls (forest_in D w) → Starts D w → Replaying D n w w 0
unfolding last_into
replay_begin {D} {n} {w} F S =
    let e : 3 * D ≡ 3 * D + 0 = omega arith in
    record {
      low = omega arith;
      size = refl;
      rest = refl;
      falls = F;
      history = λ i h. refl;
      answer = ap (λ a. replayed 1 (rooted D w) (part a (3 * D + n) w)) e;
      roots = ap (λ a. places_after (rooted D w) (part a (3 * D + n) w)) e;
      ahead = λ i. let k : 0 + i ≡ i = omega arith in rw k (ap (λ a. merges_of (rooted D w) (part a (3 * D + n) w) i) e);
      notes = λ i h. absurd (omega arith);
      links = S.each;
      kept = λ i h. absurd (omega arith);
    }

-- a record that is merged into is at a place
place_low : (R : ℕ → ℕ) (m : Merge) → Among (λ x. R x ≡ x) m → (x : ℕ) → low_into m x ≡ true → eqb (R x) x ≡ true
unfolding low_into
place_low R none a x e = absurd (false≢true e)
place_low R (into low high) a x e = let own : R x ≡ x = subst (λ z. R z ≡ z) (eqb-true low x e) a.0 in eqb_same own

came_same : {D : ℕ} (f g R : ℕ → ℕ) (m : Merge) → Inside D m → Among (λ x. R x ≡ x) m
    → ((x : ℕ) → x < D → f x ≡ pick (eqb (R x) x) (g x) D) → came_from D f m ≡ came_from D g m
unfolding came_from
came_same f g R none a b s = refl
came_same f g R (into low high) a b s = s low a.0 ∙ rw (eqb_same b.0)

module _ {D n : ℕ} {w₀ w : List ℕ} {t : ℕ} where
  pub replay_room : Room D w₀ → Replaying D n w₀ w t → Room D w
  replay_room r now = record { even = r.even; some = r.some; small = r.small; fits = omega (arith, now.size, r.fits) }

  pub number_below : Numbered D n w₀ → Replaying D n w₀ w t → t < n → {h : ℕ} → h ≡ get_or w (3 * D + t) 0 → h < 2 * D
  number_below N now more {h} read = rw (read, now.history t more) (N.each t more)

module _ {D n : ℕ} {w₀ w : List ℕ} {t : ℕ} (room : Room D w₀) (F : Falls (forest_in D w₀)) (few : n ≤ D / 2) (now : Replaying D n w₀ w t) (more : t < n)
    {h : ℕ} (read : h ≡ get_or w (3 * D + t) 0) {w' : List ℕ} {r : Bool} (S : Stepped D t h w w' r) where
  abbrev R₀ : ℕ → ℕ
  R₀ = rooted D w₀

  abbrev R : ℕ → ℕ
  R = rooted D w

  abbrev m : Merge
  m = merge_by (kind_of h) R (edge_of h)

  abbrev u : List ℕ
  u = S.joined

  head : left D n w₀ t ≡ h ∷ left D n w₀ (t + 1)
  head =
      let e : 3 * D + t + 1 ≡ 3 * D + (t + 1) = omega arith in
      part_cons (3 * D + t) (3 * D + n) w₀ (omega arith) (omega (arith, room.fits))
      ∙ rw (← (now.history t more), ← read, e) refl

  merges_here : ms D n w₀ t ≡ m
  unfolding merges_of
  merges_here = let e : t + 0 ≡ t = omega arith in ap (ms D n w₀) (sym e) ∙ now.ahead 0 ∙ ap (λ l. merges_of R l 0) head

  inside : Inside D m
  inside = subst (Inside D) merges_here (merges_among (λ x. x < D) R₀ (roots_below room F) (history_in D n w₀) t)

  places : Among (λ x. R₀ x ≡ x) m
  places = subst (Among (λ x. R₀ x ≡ x)) merges_here (merges_among (λ x. R₀ x ≡ x) R₀ (root_own F) (history_in D n w₀) t)

  u_room : Room D u
  u_room = outside_room S.outside (replay_room room now)

  t_few : t < D / 2
  t_few = omega arith

  u_rest : drop (4 * D) u ≡ drop (4 * D) w₀
  u_rest =
      let e : 4 * D ≡ 3 * D + D = omega arith in
      rw e (sym (drop-drop D (3 * D) u) ∙ ap (drop D) S.outside.rest ∙ drop-drop D (3 * D) w) ∙ now.rest

  pub turn_refused : r ≡ false → Replayed D n w₀ w' false
  turn_refused fails =
      let is : w' ≡ u = S.left ∙ ap (λ b. pick b (recorded D t m u) u) fails in
      record {
        size = rw is (S.outside.size ∙ now.size);
        rest = rw is u_rest;
        falls = subst (λ l. Falls (forest_in D l)) (sym is) S.falls;
        answer = sym (now.answer ∙ ap (replayed 1 R) head ∙ step_refused R h (left D n w₀ (t + 1)) (sym fails ∙ S.answer));
        roots = λ e. absurd (false≢true e);
        notes = λ e. absurd (false≢true e);
        links = λ e. absurd (false≢true e);
        kept = λ e. absurd (false≢true e);
      }

  module _ (passes : r ≡ true) where
    abbrev v : List ℕ
    v = recorded D t m u

    is : w' ≡ v
    is = S.left ∙ ap (λ b. pick b (recorded D t m u) u) passes

    v_roots : rooted D v ≡ zoned (kind_of h) R (edge_of h)
    v_roots = ap root (recorded_forest D t u u_room t_few m inside) ∙ S.roots

    -- any number that is not written
    else_same : (i : ℕ) → D ≤ i → i ≢ 3 * D + D / 2 + t → i ≢ D + t → get_or v i 0 ≡ get_or u i 0
    else_same i l a b = recorded_else D t u u_room t_few m i a b (low_none m inside i l)

    v_notes : (i : ℕ) → i < t + 1 → Dec (i ≡ t) → get_or v (3 * D + D / 2 + i) 0 ≡ note_of (ms D n w₀ i)
    v_notes i l (yes e) = rw e (recorded_note D t u u_room t_few m inside ∙ ap note_of (sym merges_here))
    v_notes i l (no o) =
        let k : 3 * D + D / 2 + i ≡ 3 * D + (D / 2 + i) = omega arith in
        else_same (3 * D + D / 2 + i) (omega arith) (λ e. omega arith) (λ e. omega arith)
        ∙ rw k (outside_rest S.outside (D / 2 + i))
        ∙ now.notes i (omega arith)

    v_links : (x : ℕ) → x < D → get_or v x 0 ≡ pick (eqb (R₀ x) x) (last_into (ms D n w₀) (suc t) x) D
    unfolding last_into
    v_links x l =
        recorded_link D t u u_room t_few m inside x l
        ∙ ap (pick (low_into m x) (suc t)) (outside_front S.outside x (omega arith) ∙ now.links x l)
        ∙ rw merges_here (go (low_into m x) refl)
      where
        go : (b : Bool) → low_into m x ≡ b
            → pick b (suc t) (pick (eqb (R₀ x) x) (last_into (ms D n w₀) t x) D) ≡ pick (eqb (R₀ x) x) (pick b (suc t) (last_into (ms D n w₀) t x)) D
        go true e = rw (place_low R₀ m places x e)
        go false e = refl

    v_kept : (i : ℕ) → i < t + 1 → Dec (i ≡ t) → get_or v (D + i) 0 ≡ came_from D (last_into (ms D n w₀) i) (ms D n w₀ i)
    v_kept i l (yes e) =
        rw (e, merges_here)
        (recorded_kept D t u u_room t_few m inside
        ∙ came_same (λ x. get_or u x 0) (last_into (ms D n w₀) t) R₀ m inside places (λ x h. outside_front S.outside x (omega arith) ∙ now.links x h))
    v_kept i l (no o) =
        else_same (D + i) (omega arith) (λ e. omega arith) (λ e. omega arith)
        ∙ outside_front S.outside (D + i) (omega arith)
        ∙ now.kept i (omega arith)

    -- ONE OPERATION MORE
    pub turn_on : Replaying D n w₀ w' (t + 1)
    unfolding places_after merges_of
    turn_on = rw is record {
      low = omega arith;
      size = recorded_size D t u u_room t_few m ∙ S.outside.size ∙ now.size;
      rest = recorded_rest D t u u_room t_few m inside ∙ u_rest;
      falls = subst Falls (sym (recorded_forest D t u u_room t_few m inside)) S.falls;
      history = λ i l.
          else_same (3 * D + i) (omega arith) (λ e. omega arith) (λ e. omega arith) ∙ outside_rest S.outside i ∙ now.history i l;
      answer = now.answer ∙ ap (replayed 1 R) head ∙ step_answer R h (left D n w₀ (t + 1)) (sym passes ∙ S.answer)
          ∙ ap (λ Q. replayed 1 Q (left D n w₀ (t + 1))) (sym (v_roots ∙ zoned_rejoins R h));
      roots = now.roots ∙ ap (places_after R) head ∙ ap (λ Q. places_after Q (left D n w₀ (t + 1))) (sym v_roots);
      ahead = λ i.
          let k : t + 1 + i ≡ t + suc i = omega arith in
          ap (ms D n w₀) k ∙ now.ahead (suc i) ∙ ap (λ l. merges_of R l (suc i)) head ∙ ap (λ Q. merges_of Q (left D n w₀ (t + 1)) i) (sym v_roots);
      notes = λ i l. v_notes i l (ℕ_discrete i t);
      links = λ x l. rw (add-one t) (v_links x l);
      kept = λ i l. v_kept i l (ℕ_discrete i t);
    }

pub replay_ends : {D n : ℕ} {w₀ w : List ℕ} {t : ℕ} → Replaying D n w₀ w t → n ≤ t → Replayed D n w₀ w true
unfolding replayed places_after
replay_ends {D} {n} {w₀} {w} {t} now all =
    let e = part_none (3 * D + t) (3 * D + n) w₀ (omega arith) in
    let k : t ≡ n = omega (arith, now.low) in
    record {
      size = now.size;
      rest = now.rest;
      falls = now.falls;
      answer = sym (now.answer ∙ ap (replayed 1 (rooted D w)) e);
      roots = λ _. sym (now.roots ∙ ap (places_after (rooted D w)) e);
      notes = λ _ i l. now.notes i (omega arith);
      links = λ _ x l. now.links x l ∙ ap (λ j. pick (eqb (rooted D w₀ x) x) (last_into (ms D n w₀) j x) D) k;
      kept = λ _ i l. now.kept i (omega arith);
    }
