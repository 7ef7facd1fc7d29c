-- Answers 1 and 2 of a call that is lent both sheets, by lengths alone.
--   fit_plain == what the plain call says comes first
--   fit_short == then a sheet that is too short
--   fit_done  == neither
--   fit_of    == and so of slices and sheets of these lengths
--   fit_fine  == neither
--   fine_fits, fine_asks == then all that is lent is long enough, and so the slices are for a check
use mathlib.Core.Bool.{Bool, true, false, not, ◌&&◌}
use mathlib.Core.List.{List}
use mathlib.Core.Logic.{◌≢◌, ◌⊎◌, ⊎_elim}
use mathlib.Core.Path.{◌≡◌, refl, sym, ap}
use Prim.Native.Nat.{ℕ, ◌/◌, ◌≤◌, ◌<◌}
use native.Mathlib.Omega.{arith}
use borrow.Author.Tests.{eq-eqb, ne_eqb, le-leb, lt-leb}
use lib.Dec.{leb}
use lib.ListN.{length}
use Rattle.permutations.specs.Choice.{pick}
use Rattle.darts.specs.Answers.{Answer, done, too_short}
use Rattle.darts.specs.Calls.{fitting as fittingPlain}
use Rattle.area.specs.Area.{Room}
use Rattle.sheets.specs.Sheets.{Sheets}
use Rattle.yarn.specs.Calls.{fitting, fitting_of}
use Rattle.yarn.proofs.sentences.Lengths.{Fits, fits}

module _ (D t h w s k : ℕ) (a : Answer) (E : a ≡ fittingPlain D t h w) where
  pub fit_plain : a.number ≢ 0 → a ≡ fitting D t h w s k
  unfolding fitting
  fit_plain n = rw (← E, ne_eqb a.number 0 n)

  module _ (fine : a.number ≡ 0) where
    pub fit_short : (s < D) ⊎ (k < D / 2) → too_short ≡ fitting D t h w s k
    unfolding fitting
    fit_short = ⊎_elim
        (λ l. rw (← E, eq-eqb a.number 0 fine, lt-leb D s l))
        (λ l. rw (← E, eq-eqb a.number 0 fine, lt-leb (D / 2) k l) (sym (either (leb D s))))
      where
        either : (b : Bool) → pick (not (b && false)) too_short done ≡ too_short
        either true = refl
        either false = refl

    pub fit_done : D ≤ s → D / 2 ≤ k → done ≡ fitting D t h w s k
    unfolding fitting
    fit_done l m = rw (← E, eq-eqb a.number 0 fine, le-leb D s l, le-leb (D / 2) k m)

pub fit_of : (D : ℕ) (t h w : List ℕ) (S : Sheets) {k l : ℕ} {a : Answer} → a ≡ fitting D (length t) (length h) (length w) k l
    → k ≡ length S.sheet → l ≡ length S.kept → a ≡ fitting_of D t h w S
unfolding fitting_of
fit_of D t h w S E e f = rw (← e, ← f) E

pub fit_fine : (D : ℕ) (t h w : List ℕ) (S : Sheets) {k l : ℕ} → done ≡ fitting D (length t) (length h) (length w) k l
    → k ≡ length S.sheet → l ≡ length S.kept → (fitting_of D t h w S).number ≡ 0
fit_fine D t h w S E e f = sym (ap (λ (b : Answer). b.number) (fit_of D t h w S E e f))

module _ (D : ℕ) (t h w : List ℕ) (S : Sheets) (fine : (fitting_of D t h w S).number ≡ 0) where
  pub fine_fits : Fits D t h w S
  fine_fits = fits D t h w S fine

  pub fine_asks : Room D w × ((D ≤ length t) × (D / 2 ≤ length h))
  fine_asks =
      let F = fine_fits in
      let m = F.count.some in (
        record { even = F.count.even; some = omega arith; small = F.count.small; fits = F.lengths.work },
        (F.lengths.table, F.lengths.history),
      )
