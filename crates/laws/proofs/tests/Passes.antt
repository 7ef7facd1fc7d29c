-- A pyramid passes the tests.
--   Sound D t past    == the table stands, and its past passes tests 1, 2 and 6 to 15; each operation is legal at its turn
--   Shaped D s t past == and the state has the shape of that past
use mathlib.Core.List.{List, [], ◌∷◌, ◌++◌, reverse}
use mathlib.Core.Path.{◌≡◌, sym, ap, ◌∙◌, subst}
use Prim.Native.Nat.{ℕ, ◌+◌, ◌<◌}
use native.Mathlib.Omega.{arith}
use lib.Dec.{T}
use lib.ListN.{length, take, length-reverse}
use Rattle.permutations.specs.Choice.{and_intro}
use Rattle.darts.specs.Operation.{Kind, lead, operate, number}
use Rattle.darts.specs.Kernel.{judge, Operation, each}
use Rattle.darts.specs.State.{State, gives, raised, reduce}
use Rattle.darts.specs.Pyramid.{Kernel, Pyramid, build}
use Rattle.laws.proofs.Lists.{reverse_onto}
use Rattle.laws.specs.Standing.{Standing}
use Rattle.laws.proofs.bridge.Bases.{base_stands}
use Rattle.laws.proofs.bridge.Judged.{judge_legal}
use Rattle.laws.proofs.bridge.Numbers.{number_kind, number_lead, number_edge}
use Rattle.laws.proofs.bridge.Lead.{lead_leads}
use Rattle.laws.proofs.bridge.Operate.{operate_stands, undo_operate}
use Rattle.laws.proofs.runs.Operations.{AllDone, none, first, run_iff, told_count, told_longer, told_kinds}
use Rattle.laws.proofs.runs.Ends.{Layered, layered_base, marks_raised}
use Rattle.laws.proofs.runs.Results.{then, same_result}
use Rattle.laws.proofs.runs.Reduces.{Reduced, reduce_raises, reduced, reduced_layered}
use Rattle.darts.specs.Tests.{numbered, fits, backs, one_kind, rises}
use Rattle.laws.proofs.tests.Fits.{numbered_iff}
use Rattle.laws.proofs.tests.Forth.{redo_fits}
use Rattle.laws.proofs.tests.Replays.{Allowed}
use Rattle.laws.proofs.tests.Shape.{one_kind_lem, rises_more}

pub record Sound (D : ℕ) (t past : List ℕ) : Type 0 where
  pub standing : Standing D t past
  pub numbers : T (numbered D past)
  pub fitting : T (backs D t past)
  pub legal : Allowed D t past

-- ---- one operation more, and several

sound_base : {D : ℕ} {t : List ℕ} → Standing D t [] → Sound D t []
unfolding numbered backs
sound_base S = record { standing = S; numbers = tt; fitting = tt; legal = tt }

sound_more : {D : ℕ} {t past : List ℕ} → Sound D t past → (k : Kind) (e : ℕ) → judge k D t past e ≡ 0
    → Sound D (operate k D t past e) (number k (lead k t e) ∷ past)
unfolding backs
sound_more {D} {t} {past} Q k e fine =
    let S = Q.standing in
    let legal = (judge_legal S k e).0 fine in
    let back = undo_operate S k e fine in
    record {
      standing = operate_stands S k e fine;
      numbers = (numbered_iff D (number k (lead k t e)) past).1 (rw (number_lead k (lead k t e)) (lead_leads S k e legal).lives, Q.numbers);
      fitting =
          and_intro (fits D (operate k D t past e) (number k (lead k t e)) past) _ (redo_fits S k e fine)
          (subst (λ w. T (backs D w past)) (sym back) Q.fitting);
      legal = rw (back, number_kind k (lead k t e), number_edge k t e) (legal, Q.legal);
    }

sound_all : {D : ℕ} {t past u new : List ℕ} → Sound D t past → (os : List Operation) → AllDone D t past os u new → Sound D u new
sound_all Q [] none = Q
sound_all {D} {t} {past} Q (o ∷ os) (first fine rest) = sound_all {t = operate o.kind D t past o.edge} {past = number o.kind (lead o.kind t o.edge) ∷ past} (sound_more Q o.kind o.edge fine) os rest

-- ---- one level more

pub record Shaped (D : ℕ) (s : State) (t past : List ℕ) : Type 0 where
  pub sound : Sound D t past
  pub layered : Layered D s past
  pub rising : T (rises 0 (take s.levels s.ends) (reverse past))

module _ {D : ℕ} {s : State} {t past : List ℕ} {z : State} {u new : List ℕ} (Q : Shaped D s t past)
    (k : Kernel) (e : reduce k.kind k.edges s t past ≡ gives z u new) where
  R : Reduced D s t past k z u new
  R = reduced Q.sound.standing Q.layered k e

  rising_more : T (rises 0 (take z.levels z.ends) (reverse new))
  unfolding raised
  rising_more = rw (R.state, marks_raised Q.layered R.room u new R.grows, longer, history)
      (rises_more 0 (take s.levels s.ends) (reverse past) numbers Q.rising one some)
    where
      numbers : List ℕ
      numbers = R.ran.tells.numbers

      history : reverse new ≡ reverse past ++ numbers
      history = ap reverse R.ran.tells.history ∙ reverse_onto numbers past

      one : T (one_kind numbers)
      one = one_kind_lem k.kind numbers k.edges (told_kinds k.kind k.edges numbers R.ran.tells.told)

      longer : length new ≡ 0 + length (reverse past) + length numbers
      longer = let h = told_longer R.ran.tells in let c = told_count R.ran.tells in simp length-reverse (omega arith)

      some : 0 < length numbers
      some = let h = told_longer R.ran.tells in let c = told_count R.ran.tells in let g = R.grows in omega arith

  shaped_more : Shaped D z u new
  shaped_more = record {
    sound =
        let stood = rw Q.layered.size at (reduce_raises s t past k.kind k.edges e).stood in
        sound_all Q.sound (each k.kind k.edges) ((run_iff k.kind D t past k.edges).0 stood);
    layered = reduced_layered Q.layered R;
    rising = rising_more;
  }

shaped_build : {D : ℕ} {s : State} {t past : List ℕ} {z : State} {u new : List ℕ} → Shaped D s t past
    → (ks : List Kernel) → build s t past ks ≡ gives z u new → Shaped D z u new
unfolding build
shaped_build {D} Q [] e = same_result (Shaped D) e Q
shaped_build {D} {s} {t} {past} Q (k ∷ ks) e =
    let B = then (reduce k.kind k.edges s t past) (λ s t past. build s t past ks) e in
    shaped_build {s = B.state} {t = B.table} {past = B.past} (shaped_more Q k B.first) ks B.next

-- EVERY PYRAMID IS SO SHAPED
pub pyramid_shaped : {s : State} {t past : List ℕ} → Pyramid s t past → Shaped s.darts s t past
unfolding rises
pyramid_shaped {s} P =
    let S = base_stands s.darts P.base P.count P.size P.permutation in
    shaped_build (record { sound = sound_base S; layered = layered_base s.darts P.base; rising = tt }) P.kernels P.built
