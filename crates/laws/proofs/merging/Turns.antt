-- Merging: one pass over the edges by rising number, which contracts those that a test takes, unless 9 or 11 would be given (document 02, request
-- One: the first kernel of a plan, where the test is that both ends have the same code).
--   unless_shared D same == an edge is taken: `same` takes it, and it is given neither 9 nor 11 at its turn
--   merging D same t    == the run of the pass on the base t
--   merged D same t     == the edges that the pass takes
--   Passed D same u past m == edge m is passed over: `same` does not take it, or it is given 9 or 11
--   Turns D same t m es u past == the first m edges have had their turns: es were taken, and the map stands at u and past
--   judged_three        == an edge that is not gone is given 0, 9 or 11
--   turns_taken, turns_run, turns_stand == the pass over the first m edges takes these, they may be contracted at their turns, and it stands there
use mathlib.Core.Bool.{Bool, true, false, ◌&&◌, ◌||◌, not, and-false}
use mathlib.Core.List.{List, [], ◌∷◌, ◌++◌, append-nil, append_assoc}
use mathlib.Core.Logic.{◌⊎◌, inl, inr}
use mathlib.Core.Path.{◌≡◌, refl, sym, ap, ◌∙◌}
use Prim.Native.Nat.{ℕ, suc, ◌+◌, ◌*◌, ◌/◌, ◌<◌}
use native.Mathlib.Omega.{arith}
use lib.Dec.{eqb, leb, leb→le}
use Rattle.permutations.specs.Choice.{not_T→false}
use Rattle.std.proofs.Common.{if◌then◌else◌}
use Rattle.darts.specs.Map.{same_vertex, gone}
use Rattle.darts.specs.Operation.{contraction, whole_edge, lead, operate, number}
use Rattle.darts.specs.Kernel.{judge, shared, each, rising, Run, stands, Test, pass, run}
use Rattle.laws.proofs.runs.Taking.{taken, pass_taken}
use Rattle.laws.proofs.sentences.Kernels.{run_none, run_done}

-- "contracted where both ends have the same code, unless 9 or 11 would be given at its turn"
unfoldable pub unless_shared : ℕ → (ℕ → Bool) → Test
unless_shared D same t past e =
    let n : ℕ = judge contraction D t past e in
    same e && not (eqb n 9 || eqb n 11)

-- "edges by rising number"
unfoldable pub merging : ℕ → (ℕ → Bool) → List ℕ → Run
merging D same t = pass (unless_shared D same) D t [] (each contraction (rising 0 (D / 2)))

abbrev pub merged : ℕ → (ℕ → Bool) → List ℕ → List ℕ
merged D same t = taken (unless_shared D same) contraction D t [] (rising 0 (D / 2))

-- why an edge is passed over
pub data Passed (D : ℕ) (same : ℕ → Bool) (u past : List ℕ) (m : ℕ) : Type 0 where
  other : same m ≡ false → Passed D same u past m
  nine : same m ≡ true → judge contraction D u past m ≡ 9 → Passed D same u past m
  eleven : same m ≡ true → judge contraction D u past m ≡ 11 → Passed D same u past m

pub data Turns (D : ℕ) (same : ℕ → Bool) (t : List ℕ) : ℕ → List ℕ → List ℕ → List ℕ → Type 0 where
  begins : Turns D same t 0 [] t []
  passes : {m : ℕ} {es u past : List ℕ} → Turns D same t m es u past → Passed D same u past m → Turns D same t (suc m) es u past
  joins : {m : ℕ} {es u past : List ℕ} → Turns D same t m es u past → same m ≡ true → judge contraction D u past m ≡ 0
      → Turns D same t (suc m) (es ++ (m ∷ [])) (operate contraction D u past m) (number contraction (lead contraction u m) ∷ past)

-- ---- an edge at its turn

-- by the two tests that are left: one vertex at both ends, a whole piece
three : (b c : Bool) → let n : ℕ = if b then 9 else 0 in let j : ℕ = if leb 1 n then n else if c then 11 else 0 in (j ≡ 0) ⊎ ((j ≡ 9) ⊎ (j ≡ 11))
three true c = inr (inl refl)
three false true = inr (inr refl)
three false false = inl refl

pub judged_three : (D : ℕ) (t past : List ℕ) (e : ℕ) → e < D / 2 → gone past (2 * e) ≡ false
    → (judge contraction D t past e ≡ 0) ⊎ ((judge contraction D t past e ≡ 9) ⊎ (judge contraction D t past e ≡ 11))
unfolding judge shared
judged_three D t past e below stays =
    let edge : leb (D / 2) e ≡ false = not_T→false (leb (D / 2) e) (λ l. let k = leb→le (D / 2) e l in omega arith) in
    rw (edge, stays) (three (same_vertex D t (2 * e) (2 * e + 1)) (whole_edge t e))

module _ (D : ℕ) (same : ℕ → Bool) (t past : List ℕ) (e : ℕ) where
  passed_over : Passed D same t past e → unless_shared D same t past e ≡ false
  unfolding unless_shared
  passed_over (other s) = rw s
  passed_over (nine s j) = rw j (and-false (same e))
  passed_over (eleven s j) = rw j (and-false (same e))

  takes_free : same e ≡ true → judge contraction D t past e ≡ 0 → unless_shared D same t past e ≡ true
  unfolding unless_shared
  takes_free s j = rw (s, j)

-- ---- the pass takes these edges, and stands there

module _ {D : ℕ} {same : ℕ → Bool} {t : List ℕ} where
  -- of m and n more edges it takes es, and what it takes of the n others from there on
  taken_on : {m : ℕ} {es u past : List ℕ} → Turns D same t m es u past → (n k : ℕ) → m + n ≡ k
      → taken (unless_shared D same) contraction D t [] (rising 0 k) ≡ es ++ taken (unless_shared D same) contraction D u past (rising m n)
  unfolding taken rising
  taken_on begins n k e = let all : k ≡ n = omega arith in ap (λ x. taken (unless_shared D same) contraction D t [] (rising 0 x)) all
  taken_on (passes {m} {u = u} {past = past} P w) n k e = taken_on P (suc n) k (omega arith) ∙ rw (passed_over D same u past m w)
  taken_on (joins {m} {es = es} {u = u} {past = past} P s j) n k e =
      taken_on P (suc n) k (omega arith) ∙ rw (takes_free D same u past m s j) (sym (append_assoc es (m ∷ []) _))

  pub turns_taken : {m : ℕ} {es u past : List ℕ} → Turns D same t m es u past → taken (unless_shared D same) contraction D t [] (rising 0 m) ≡ es
  unfolding taken rising
  turns_taken {m} {es} P = taken_on P 0 m (omega arith) ∙ append-nil es

  -- what is taken may be contracted at its turn
  pub turns_run : {m : ℕ} {es u past : List ℕ} → Turns D same t m es u past → run contraction D t [] es ≡ stands u past
  turns_run begins = run_none contraction D t []
  turns_run (passes P w) = turns_run P
  turns_run (joins {m} {es = es} P s j) = run_done contraction D es t [] (turns_run P) m j

  -- THE PASS OVER THE FIRST EDGES STANDS WHERE THEIR TURNS LEAD
  pub turns_stand : {m : ℕ} {es u past : List ℕ} → Turns D same t m es u past
      → pass (unless_shared D same) D t [] (each contraction (rising 0 m)) ≡ stands u past
  turns_stand {m} P =
      pass_taken (unless_shared D same) contraction D t [] (rising 0 m) ∙ ap (run contraction D t []) (turns_taken P) ∙ turns_run P
