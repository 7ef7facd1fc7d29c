-- A call with sheets at a base: the plain call judges all but the records, and its forest of vertices says where they are.
--   base_refused == what it refuses
--   unfit_asks  == where it is done, the records can be looked at
--   refuse_asks == and the work area cleared
--   right_fit   == the sheets are right exactly where each record of the base is fit
--   base_right  == no place has a record that is not fit: it is done
--   base_wrong  == one has: 4
use mathlib.Core.List.{List, [], reverse}
use mathlib.Core.Logic.{◌≢◌, ◌⊎◌, ◌↔◌, inl, inr}
use mathlib.Core.Path.{◌≡◌, refl, sym, ap, subst, ◌∙◌}
use Prim.Native.Nat.{ℕ, ◌*◌, ◌≤◌, ◌<◌}
use native.Mathlib.Omega.{arith}
use lib.ListN.{length}
use Rattle.darts.specs.Answers.{Answer, done, no_pyramid}
use Rattle.darts.specs.Calls.{table_of, past_of, judged, cleared}
use Rattle.darts.specs.Operation.{undone}
use Rattle.darts.specs.State.{State}
use Rattle.laws.specs.Standing.{Standing}
use Rattle.laws.proofs.calls.Judging.{Judging, uncounted, cramped, other, lent, judging, judged_lent}
use Rattle.area.specs.Area.{Room, table_in}
use Rattle.operations.specs.Trees.{rooted}
use Rattle.engine.specs.Held.{Ready}
use Rattle.engine.proofs.Parts.{past_none}
use Rattle.sheets.specs.Sheets.{Sheets}
use Rattle.sheets.specs.Notes.{unfit_in}
use Rattle.yarn.specs.Places.{lowest, zone_of, places_after}
use Rattle.yarn.specs.Given.{Fit}
use Rattle.yarn.specs.Calls.{fitting_of, base_of, first_unfit, judged as judgedWith}
use Rattle.yarn.proofs.StartWith.{fit_given}
use Rattle.yarn.proofs.sentences.Judging.{Right, judged_other, judged_strange, judged_costed}
use Rattle.yarn.proofs.sentences.Lengths.{Fits}
use Rattle.yarn.proofs.sentences.Unfit.{FirstUnfit, some_or_none}
use Rattle.noting.proofs.Lowest.{Own, ready_lowest, ready_own}
use Rattle.noting.proofs.Placed.{unfit_found}
use Rattle.pyramid.specs.Costs.{JudgedWith}
use Rattle.pyramid.specs.Steps.{Judged}
use Rattle.pyramid.proofs.Judges.{lent_of, stood_of}
use Rattle.pyramid.proofs.JudgesWith.{refused_four}
use Rattle.pyramid.proofs.Sized.{fine_fits}

-- ---- beside the records

-- where the lengths fit, what is refused without sheets is refused so with them
refused_same : (s : State) (t h w : List ℕ) (C : Sheets) → (fitting_of s.darts t h w C).number ≡ 0 → (judged s t h w).number ≢ 0
    → judged s t h w ≡ judgedWith s t h w C
refused_same s t h w C zero n = go (judging s t h w)
  where
    F : Fits s.darts t h w C
    F = fine_fits s.darts t h w C zero

    go : Judging s t h w → judged s t h w ≡ judgedWith s t h w C
    go (uncounted c e) = absurd (c F.count)
    go (cramped c l e) = absurd (l F.lengths)
    go (other c l p e) = e ∙ sym (judged_other s t h w C F p)
    go (lent L e) = absurd (n (ap (λ (b : Answer). b.number) e))

pub base_refused : {s : State} {t h w v : List ℕ} {a : Answer} → Judged s 1 t h w v a → a.number ≢ 0
    → (C : Sheets) → (fitting_of s.darts t h w C).number ≡ 0 → JudgedWith s t h w v C a
base_refused {s} {t} {h} {w} J n C fine = record {
  answer = J.answer ∙ refused_same s t h w C fine (λ z. n (ap (λ (b : Answer). b.number) J.answer ∙ z));
  refused = J.refused;
  beyond = λ z. absurd (n z);
  stood = λ z. absurd (n z);
}

-- ---- the records

module _ {s : State} {t h w v : List ℕ} {a : Answer} (P : Judged s 1 t h w v a) (fine : a.number ≡ 0)
    (base : s.operations ≡ 0) (C : Sheets) (zero : (fitting_of s.darts t h w C).number ≡ 0) where
  abbrev D : ℕ
  D = s.darts

  abbrev b : List ℕ
  b = table_of s t

  fits : Fits D t h w C
  fits = fine_fits s.darts t h w C zero

  J : Judged s 1 t h w v done
  J = record { answer = sym (judged_lent s t h w (lent_of P fine)); refused = λ n. absurd (n refl); checked = λ _. P.checked fine }

  ready : Ready D 0 1 v
  ready = subst (λ n. Ready D n 1 v) base ((J.checked refl).ready refl (omega arith))

  table : table_in D v ≡ b
  table = (J.checked refl).table refl

  pub refuse_asks : Room D v
  refuse_asks = ready.area.room

  pub unfit_asks : (3 * D ≤ length v) × (D ≤ length C.sheet)
  unfit_asks = (omega (arith, refuse_asks.fits), fits.room.sheet)

  -- ---- nothing was done yet

  past : past_of s h ≡ []
  unfolding past_of
  past = rw base

  stands : Standing D b []
  stands = rw (past_none D v, table) at ready.area.stands

  right_fit : Fit D b C ↔ Right s t h C
  unfolding base_of undone
  right_fit = rw past (fit_given stands C fits.room.sheet)

  zones : (x : ℕ) → x < D → rooted D v x ≡ zone_of D (base_of s b (past_of s h)) (reverse (past_of s h)) x
  unfolding zone_of places_after base_of undone
  zones x l = rw past (ready_lowest ready x l ∙ ap (λ t. lowest D t x) table)

  -- ---- the first place whose record is not fit

  found : unfit_in D v (record { sheet = C.sheet; kept = [] }) D 0 ≡ first_unfit D b C
  found = unfit_found D b v (subst (λ t. Own D t v) table (ready_own ready)) C

  -- none was found: each record of the base is fit
  fit : D ≡ unfit_in D v (record { sheet = C.sheet; kept = [] }) D 0 → Fit D b C
  fit is = go (some_or_none D b C)
    where
      go : FirstUnfit D b C (first_unfit D b C) ⊎ ((first_unfit D b C ≡ D) × Fit D b C) → Fit D b C
      go (inl u) = absurd (let l = u.dart in let z : D ≡ first_unfit D b C = is ∙ found in omega arith)
      go (inr (z, all)) = all

  -- one was found
  unfit : {x : ℕ} → x < D → x ≡ unfit_in D v (record { sheet = C.sheet; kept = [] }) D 0 → ¬ (Fit D b C)
  unfit {x} few is all = go (some_or_none D b C)
    where
      go : FirstUnfit D b C (first_unfit D b C) ⊎ ((first_unfit D b C ≡ D) × Fit D b C) → ⊥
      go (inl u) = u.such.unfit (all.each _ u.dart u.such.place)
      go (inr (z, _)) = let e : x ≡ D = is ∙ found ∙ z in omega arith

  -- THE RECORDS OF THE BASE ARE FIT
  pub base_right : D ≡ unfit_in D v (record { sheet = C.sheet; kept = [] }) D 0 → JudgedWith s t h w v C done
  base_right none = record {
    answer = sym (judged_costed s t h w C (record { lent = lent_of J refl; room = fits.room; right = right_fit.0 (fit none) }));
    refused = λ n. absurd (n refl);
    beyond = λ _. (J.checked refl).beyond;
    stood = λ _. record { stood = stood_of J refl; notes = λ i l. absurd (omega arith); zones = zones };
  }

  -- ONE OF THEM IS NOT
  pub base_wrong : {x : ℕ} → (x < D) × (x ≡ unfit_in D v (record { sheet = C.sheet; kept = [] }) D 0) → {u : List ℕ} {c : Answer}
      → (c ≡ no_pyramid) × (u ≡ cleared D v) → JudgedWith s t h w u C c
  base_wrong (few, is) (four, clears) =
      rw (four, clears)
      (refused_four s t h w C zero (J.checked refl).beyond (sym (judged_strange s t h w C fits (λ r. unfit few is (right_fit.1 r)))))
