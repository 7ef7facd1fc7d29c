-- The places of a base's records, found.
--   lowest_taken   == where the first D numbers of a table are darts, the vertices and their lowest darts are read off those alone
--   placed_counted == what was counted is labelled
--   unfit_found    == the first place whose record is not fit
--   placed_own     == the labels lead to it
use mathlib.Core.Bool.{◌||◌}
use mathlib.Core.List.{List, []}
use mathlib.Core.Path.{◌≡◌, refl, ap, ◌∙◌, subst}
use Prim.Native.Nat.{ℕ, zero, suc, ◌+◌, ◌≤◌, ◌<◌}
use Rattle.std.proofs.Common.{Result, Ok, Err}
use native.Mathlib.Omega.{arith}
use lib.Dec.{eqb}
use lib.ListN.{take}
use lib.Seq.{get_or-take}
use Rattle.permutations.specs.Cycle.{meets_in}
use Rattle.darts.specs.Map.{successor, same_vertex, permutes}
use Rattle.area.specs.Verdicts.{verdict_of}
use Rattle.area.specs.declared.Culprits.{Culprits}
use Rattle.laws.proofs.bridge.Verdicts.{not_permutes}
use Rattle.engine.specs.Counted.{BaseCounted}
use Rattle.engine.specs.declared.Cycles.{Cycles}
use Rattle.sheets.specs.Sheets.{Sheets}
use Rattle.sheets.specs.Notes.{unfit_in}
use Rattle.yarn.specs.Places.{lowest_from, lowest, is_place}
use Rattle.yarn.specs.Calls.{unfit_from, first_unfit}
use Rattle.noting.specs.Running.{Placed}
use Rattle.noting.proofs.Lowest.{label_lowest, Own}

-- ---- the first D numbers of a table

module _ (D : ℕ) (t : List ℕ) (inside : (x : ℕ) → x < D → successor (take D t) x < D) where
  entry_taken : (x : ℕ) → x < D → successor (take D t) x ≡ successor t x
  unfolding successor
  entry_taken x l = get_or-take D t x 0 l

  meets_taken : (n x y : ℕ) → x < D → meets_in (successor (take D t)) n x y ≡ meets_in (successor t) n x y
  unfolding meets_in
  meets_taken zero x y l = refl
  meets_taken (suc n) x y l =
      ap (λ b. eqb x y || b) (meets_taken n (successor (take D t) x) y (inside x l) ∙ ap (λ z. meets_in (successor t) n z y) (entry_taken x l))

  lowest_from_lem : (x n y : ℕ) → y + n ≤ D → lowest_from D (take D t) x n y ≡ lowest_from D t x n y
  unfolding lowest_from same_vertex
  lowest_from_lem x zero y l = refl
  lowest_from_lem x (suc n) y l = rw (meets_taken D y x (omega arith), lowest_from_lem x n (suc y) (omega arith)) refl

  pub lowest_taken : (x : ℕ) → lowest D (take D t) x ≡ lowest D t x
  unfolding lowest
  lowest_taken x = lowest_from_lem x D 0 (omega arith)

-- ---- the table counted

pub placed_counted : {D : ℕ} (t w : List ℕ) {v : List ℕ} {r : Result Cycles Culprits} → BaseCounted D t w v r → Placed D t w v r
placed_counted {D} t w {v} {r = Ok c} C = record {
  verdict = C.verdict;
  beyond = C.beyond;
  labels = λ _ x l.
      let A = C.area refl in
      label_lowest A (C.vertices refl) x l
      ∙ ap (λ b. lowest D b x) (C.table refl)
      ∙ lowest_taken D t (λ z m. subst (λ b. successor b z < D) (C.table refl) (A.stands.inside z m)) x;
}
placed_counted t w {r = Err c} C = record { verdict = C.verdict; beyond = C.beyond; labels = λ e. absurd (not_permutes e) }

-- ---- the first place whose record is not fit

-- only the first sheet is looked at
module _ (D : ℕ) (t v : List ℕ) (own : Own D t v) (S : Sheets) where
  unfit_from_lem : (n x : ℕ) → x + n ≤ D → unfit_in D v (record { sheet = S.sheet; kept = [] }) n x ≡ unfit_from D t S n x
  unfolding unfit_in unfit_from
  unfit_from_lem zero x l = refl
  unfit_from_lem (suc n) x l = rw (own x (omega arith), unfit_from_lem n (suc x) (omega arith)) refl

  -- "place the first such record"
  pub unfit_found : unfit_in D v (record { sheet = S.sheet; kept = [] }) D 0 ≡ first_unfit D t S
  unfolding first_unfit
  unfit_found = unfit_from_lem D 0 (omega arith)

pub placed_own : {D : ℕ} {t w v : List ℕ} {r : Result Cycles Culprits} → Placed D t w v r → verdict_of r ≡ permutes → Own D t v
unfolding is_place
placed_own P passes x l = ap (λ y. eqb y x) (P.labels passes x l)
