-- The ways that counts end.
--   counts_refused_lem == 1, 2 or 4
--   counts_given_lem   == the counts of the present level, which the state stores
use mathlib.Core.List.{List}
use mathlib.Core.Logic.{◌≢◌}
use mathlib.Core.Path.{◌≡◌, refl, sym, ap, ap₂, ◌∙◌}
use Prim.Native.Nat.{ℕ, ◌-◌, ◌*◌}
use native.Mathlib.Omega.{arith}
use borrow.Author.Tests.{ne_eqb}
use Rattle.darts.specs.Answers.{Answer, done}
use Rattle.darts.specs.Counts.{Counts, counts_from, counts_of, no_counts, surviving}
use Rattle.darts.specs.State.{State}
use Rattle.darts.specs.Calls.{Counted, counts, table_of, past_of, cleared, work_after}
use Rattle.laws.proofs.calls.Cleared.{cleared_kept}
use Rattle.laws.proofs.calls.Judging.{judged_lent}
use Rattle.laws.proofs.runs.Pyramids.{pyramid_built}
use Rattle.area.specs.Area.{past_in}
use Rattle.engine.specs.Held.{Area}
use Rattle.engine.proofs.Parts.{past_length}
use Rattle.engine.proofs.Survivors.{surviving_count}
use Rattle.pyramid.specs.Steps.{Judged}
use Rattle.pyramid.proofs.Judges.{lent_of}

-- how many darts survive
survivors_left : {D n : ℕ} {w : List ℕ} → Area D n w → surviving (past_in D n w) D ≡ D - 2 * n
survivors_left {D} {n} {w} A =
    let f = A.few in
    let r = A.room.fits in
    surviving_count D (past_in D n w) A.numbers A.room.even ∙ ap (λ (m : ℕ). D - 2 * m) (past_length D n w (omega arith))

module _ {s : State} {k : ℕ} {t h w v : List ℕ} {a : Answer} (J : Judged s k t h w v a) where
  abbrev leaves : Answer → Counts → List ℕ → Counted
  leaves b n u = record { answer = b; counts = n; table = t; history = h; work = u }

  pub counts_refused_lem : a.number ≢ 0 → leaves a no_counts v ≡ counts s t h w
  unfolding counts
  counts_refused_lem n = sym (rw (← J.answer, ne_eqb a.number 0 n, J.refused n))

  module _ (fine : a.number ≡ 0) where
    survivors : surviving (past_of s h) s.darts ≡ s.darts - 2 * s.operations
    survivors =
        let C = J.checked fine in
        ap (λ (past : List ℕ). surviving past s.darts) (sym (C.past refl)) ∙ survivors_left (C.area refl)

    tallied : counts_from (s.darts - 2 * s.operations) s.vertices s.faces ≡ counts_of s.darts (table_of s t) (past_of s h)
    unfolding counts_of
    tallied =
        let N = (pyramid_built (lent_of J fine).pyramid).stored in
        rw (← survivors) (ap₂ (counts_from (surviving (past_of s h) s.darts)) N.vertices N.faces)

    pub counts_given_lem : leaves done (counts_from (s.darts - 2 * s.operations) s.vertices s.faces) (cleared s.darts v) ≡ counts s t h w
    unfolding counts work_after
    counts_given_lem =
        ap₂ (leaves done) tallied (cleared_kept s.darts w v (J.checked fine).beyond.rest)
        ∙ sym (rw (judged_lent s t h w (lent_of J fine)))
