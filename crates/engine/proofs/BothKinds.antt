-- Both kinds at once, by a number k: 0 for a removal and 1 for a contraction.
--   number_in      == the history number
--   same k D t x y == x and y share a vertex (contraction) or a face (removal)
--   judge_in       == the answer's number for an edge
use mathlib.Core.Bool.{Bool, true, false}
use mathlib.Core.List.{List}
use mathlib.Core.Path.{◌≡◌, refl, ap}
use Prim.Native.Nat.{ℕ, zero, suc, ◌+◌, ◌-◌, ◌*◌, ◌/◌, ◌≤◌}
use native.Mathlib.Omega.{arith}
use lib.Dec.{T, leb}
use Rattle.permutations.specs.Choice.{pick, T→true}
use Rattle.std.proofs.Common.{if◌then◌else◌}
use Rattle.darts.specs.Map.{gone, same_vertex, same_face}
use Rattle.darts.specs.Operation.{Kind, contraction, removal, number, kind_of, whole_edge}
use Rattle.darts.specs.Kernel.{judge, shared}

pub number_in : (k : ℕ) → k ≤ 1 → (p : ℕ) → 2 * p + k ≡ number (kind_of k) p
unfolding number kind_of
number_in zero l p = omega arith
number_in (suc zero) l p = refl
number_in (suc (suc k)) l p = absurd (omega arith)

-- ---- the answer

abbrev pub same : Kind → ℕ → List ℕ → ℕ → ℕ → Bool
same contraction = same_vertex
same removal = same_face

-- an answer that is given is not 0
given : (c : ℕ) → T (leb 1 c) → (b : Bool) (n : ℕ) → pick (leb 1 (pick b c 0)) (pick b c 0) n ≡ pick b c n
given c h true n = rw (T→true (leb 1 c) h)
given c h false n = refl

pub judge_in : (k : ℕ) → k ≤ 1 → (D : ℕ) (t past : List ℕ) (e : ℕ) → judge (kind_of k) D t past e ≡ (
    if leb (D / 2) e then 7
    else if gone past (2 * e) then 8
    else if same (kind_of k) D t (2 * e) (2 * e + 1) then 10 - k
    else if whole_edge t e then 11
    else 0)
unfolding judge shared kind_of
judge_in zero l D t past e =
    ap (λ n. pick (leb (D / 2) e) 7 (pick (gone past (2 * e)) 8 n)) (given 10 tt (same_face D t (2 * e) (2 * e + 1)) (pick (whole_edge t e) 11 0))
judge_in (suc zero) l D t past e =
    ap (λ n. pick (leb (D / 2) e) 7 (pick (gone past (2 * e)) 8 n)) (given 9 tt (same_vertex D t (2 * e) (2 * e + 1)) (pick (whole_edge t e) 11 0))
judge_in (suc (suc k)) l D t past e = absurd (omega arith)
