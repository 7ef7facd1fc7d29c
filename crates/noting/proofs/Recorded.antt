-- The note and the links of one operation: what stands where once they are written.
--   recorded_size, recorded-room == the work area is as long as it was
--   recorded_rest   == what stands beyond the four parts is kept
--   recorded_forest == and so is the forest
--   recorded_else   == and so is any other number
--   recorded_note   == the note of the operation
--   recorded_link   == the last that came into the record at x
--   recorded_kept   == what the record came from that the operation kept
use mathlib.Core.Bool.{false}
use mathlib.Core.List.{List}
use mathlib.Core.Logic.{◌≢◌, inl, inr}
use mathlib.Core.Path.{◌≡◌, refl, sym, ◌∙◌}
use Prim.Native.Nat.{ℕ, suc, ◌+◌, ◌*◌, ◌/◌, ◌≤◌, ◌<◌}
use native.Mathlib.Decide.{ℕ_discrete}
use native.Mathlib.Numerals.{add-one}
use native.Mathlib.Omega.{arith}
use lib.Dec.{eqb}
use lib.ListN.{get_or, set, length, drop, length-set}
use lib.Seq.{get_or-set_same, get_or-set_other, drop-set-lt}
use borrow.Author.Tests.{eqb-false}
use Rattle.permutations.specs.Choice.{pick, eqb_same, eqb_other}
use Rattle.area.specs.Area.{Room, forest_in}
use Rattle.operations.proofs.Outside.{set_forest}
use Rattle.sheets.specs.Sheets.{Merge, none, into, low_into}
use Rattle.sheets.specs.Notes.{note_of}
use Rattle.noting.specs.Links.{came_from, recorded}
use Rattle.noting.proofs.Places.{Among}

abbrev pub Inside : ℕ → Merge → Type 0
Inside D m = Among (λ x. x < D) m

pub low_none : {D : ℕ} (m : Merge) → Inside D m → (i : ℕ) → D ≤ i → low_into m i ≡ false
unfolding low_into
low_none none a i l = refl
low_none (into low high) a i l = let k : low < _ = a.0 in let n : low ≢ i = omega arith in eqb_other n

module _ (D t : ℕ) (w : List ℕ) (room : Room D w) (few : t < D / 2) where
  abbrev p : ℕ
  p = 3 * D + D / 2 + t

  pub recorded_size : (m : Merge) → length (recorded D t m w) ≡ length w
  unfolding recorded
  recorded_size none = simp length-set
  recorded_size (into low high) = simp length-set

  pub recorded_rest : (m : Merge) → Inside D m → drop (4 * D) (recorded D t m w) ≡ drop (4 * D) w
  unfolding recorded
  recorded_rest none a = drop-set-lt (4 * D) (set w p (note_of none)) (D + t) D (omega arith) ∙ drop-set-lt (4 * D) w p (note_of none) (omega arith)
  recorded_rest (into low high) a =
      let n : ℕ = note_of (into low high) in
      let v : List ℕ = set w p n in
      drop-set-lt (4 * D) (set v (D + t) (get_or v low 0)) low (t + 1) (omega (arith, a.0))
      ∙ drop-set-lt (4 * D) v (D + t) (get_or v low 0) (omega arith)
      ∙ drop-set-lt (4 * D) w p n (omega arith)

  pub recorded_forest : (m : Merge) → Inside D m → forest_in D (recorded D t m w) ≡ forest_in D w
  unfolding recorded
  recorded_forest none a =
      set_forest D (set w p (note_of none)) (D + t) D (simp length-set room.fits) (inl (omega arith))
      ∙ set_forest D w p (note_of none) room.fits (inr (omega arith))
  recorded_forest (into low high) a =
      let n : ℕ = note_of (into low high) in
      let v : List ℕ = set w p n in
      set_forest D (set v (D + t) (get_or v low 0)) low (t + 1) (simp length-set room.fits) (inl (omega (arith, a.0)))
      ∙ set_forest D v (D + t) (get_or v low 0) (simp length-set room.fits) (inl (omega arith))
      ∙ set_forest D w p n room.fits (inr (omega arith))

  pub recorded_else : (m : Merge) (i : ℕ) → i ≢ p → i ≢ D + t → low_into m i ≡ false → get_or (recorded D t m w) i 0 ≡ get_or w i 0
  unfolding recorded low_into
  recorded_else none i a b c = get_or-set_other (set w p (note_of none)) (D + t) i D 0 b ∙ get_or-set_other w p i (note_of none) 0 a
  recorded_else (into low high) i a b c =
      let n : ℕ = note_of (into low high) in
      let v : List ℕ = set w p n in
      get_or-set_other (set v (D + t) (get_or v low 0)) low i (t + 1) 0 (λ e. eqb-false low i c (sym e))
      ∙ get_or-set_other v (D + t) i (get_or v low 0) 0 b
      ∙ get_or-set_other w p i n 0 a

  pub recorded_note : (m : Merge) → Inside D m → get_or (recorded D t m w) p 0 ≡ note_of m
  unfolding recorded
  recorded_note none a =
      get_or-set_other (set w p (note_of none)) (D + t) p D 0 (λ e. omega arith) ∙ get_or-set_same w p (note_of none) 0 (omega (arith, room.fits))
  recorded_note (into low high) a =
      let n : ℕ = note_of (into low high) in
      let v : List ℕ = set w p n in
      get_or-set_other (set v (D + t) (get_or v low 0)) low p (t + 1) 0 (λ e. omega (arith, a.0))
      ∙ get_or-set_other v (D + t) p (get_or v low 0) 0 (λ e. omega arith)
      ∙ get_or-set_same w p n 0 (omega (arith, room.fits))

  pub recorded_link : (m : Merge) → Inside D m → (x : ℕ) → x < D → get_or (recorded D t m w) x 0 ≡ pick (low_into m x) (suc t) (get_or w x 0)
  unfolding recorded low_into
  recorded_link none a x l = recorded_else none x (λ e. omega arith) (λ e. omega arith) refl
  recorded_link (into low high) a x l = go (ℕ_discrete low x)
    where
      v : List ℕ
      v = set w p (note_of (into low high))

      go : Dec (low ≡ x) → get_or (set (set v (D + t) (get_or v low 0)) low (t + 1)) x 0 ≡ pick (eqb low x) (suc t) (get_or w x 0)
      go (yes e) =
          rw (← e, eqb_same {m = low} refl)
          (get_or-set_same (set v (D + t) (get_or v low 0)) low (t + 1) 0 (simp length-set (omega (arith, a.0, room.fits))) ∙ add-one t)
      go (no n) = rw (eqb_other n) (recorded_else (into low high) x (λ e. omega arith) (λ e. omega arith) (eqb_other n))

  pub recorded_kept : (m : Merge) → Inside D m → get_or (recorded D t m w) (D + t) 0 ≡ came_from D (λ x. get_or w x 0) m
  unfolding recorded came_from
  recorded_kept none a = get_or-set_same (set w p (note_of none)) (D + t) D 0 (simp length-set (omega (arith, room.fits)))
  recorded_kept (into low high) a =
      let n : ℕ = note_of (into low high) in
      let v : List ℕ = set w p n in
      get_or-set_other (set v (D + t) (get_or v low 0)) low (D + t) (t + 1) 0 (λ e. omega (arith, a.0))
      ∙ get_or-set_same v (D + t) (get_or v low 0) 0 (simp length-set (omega (arith, room.fits)))
      ∙ get_or-set_other w p low n 0 (λ e. omega (arith, a.0))
