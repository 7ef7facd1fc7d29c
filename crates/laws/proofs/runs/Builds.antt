-- Kernels one after another.
--   Built D s t past ks z u new == what holds once the kernels ks were accepted, one after another
use mathlib.Core.List.{List, [], ◌∷◌, ◌++◌, append_assoc, append-nil}
use mathlib.Core.Path.{◌≡◌, refl, sym, ◌∙◌, ap, fun_ext}
use Prim.Native.Nat.{ℕ, ◌+◌}
use native.Mathlib.Omega.{arith}
use lib.ListN.{length}
use Rattle.darts.specs.Operation.{undone}
use Rattle.darts.specs.State.{State, gives, and_then, raised, reduce}
use Rattle.darts.specs.Pyramid.{Kernel, build, kernels_of}
use Rattle.laws.specs.Standing.{Standing}
use Rattle.laws.proofs.runs.Ends.{Layered, Stores}
use Rattle.laws.proofs.runs.Results.{then, then_gives, then_then, same_result}
use Rattle.laws.proofs.runs.Reduces.{Reduced, reduced, reduced_layered, reduced_stores, reduced_kernels, reduced_base}

pub record Built (D : ℕ) (s : State) (t past : List ℕ) (ks : List Kernel) (z : State) (u new : List ℕ) : Type 0 where
  pub standing : Standing D u new
  pub layered : Layered D z new
  pub stored : Stores z u new
  pub height : z.levels ≡ s.levels + length ks
  -- the level ends cut the past into exactly these kernels
  pub kernels : kernels_of z new ≡ kernels_of s past ++ ks
  -- everything undone, the base is the same
  pub base : undone D (length new) u new ≡ undone D (length past) t past

built_none : {D : ℕ} {s : State} {t past : List ℕ} → Standing D t past → Layered D s past → Stores s t past → Built D s t past [] s t past
built_none {D} {s} {t} {past} S L N = record {
  standing = S;
  layered = L;
  stored = N;
  height = omega arith;
  kernels = sym (append-nil (kernels_of s past));
  base = refl;
}

module _ {D : ℕ} {s : State} {t past : List ℕ} {k : Kernel} {s₁ : State} {t₁ past₁ : List ℕ} (L : Layered D s past) (R : Reduced D s t past k s₁ t₁ past₁) where
  one_level : s₁.levels ≡ s.levels + 1
  unfolding raised
  one_level = ap (λ z. z.levels) R.state

  built_more : {ks : List Kernel} {z : State} {u new : List ℕ} → Built D s₁ t₁ past₁ ks z u new → Built D s t past (k ∷ ks) z u new
  built_more {ks} {z} {u} {new} B = record {
    standing = B.standing;
    layered = B.layered;
    stored = B.stored;
    height = let h = B.height in let one = one_level in omega arith;
    kernels = B.kernels ∙ ap (λ l. l ++ ks) (reduced_kernels L R) ∙ append_assoc (kernels_of s past) (k ∷ []) ks;
    base = B.base ∙ reduced_base L R;
  }

-- WHAT ACCEPTED KERNELS HAVE DONE
pub built : {D : ℕ} {s : State} {t past : List ℕ} {z : State} {u new : List ℕ} → Standing D t past → Layered D s past → Stores s t past
    → (ks : List Kernel) → build s t past ks ≡ gives z u new → Built D s t past ks z u new
unfolding build
built {D} {s} {t} {past} S L N [] e = same_result (Built D s t past []) e (built_none S L N)
built {D} {s} {t} {past} S L N (k ∷ ks) e =
    let first = then (reduce k.kind k.edges s t past) (λ s t past. build s t past ks) e in
    let R = reduced S L k first.first in
    built_more L R (built {s = first.state} {t = first.table} {past = first.past} R.ran.standing (reduced_layered L R) (reduced_stores L R) ks first.next)

-- ---- the last kernel

pub build_last : (s : State) (t past : List ℕ) (ks : List Kernel) (k : Kernel)
    → build s t past (ks ++ (k ∷ [])) ≡ and_then (build s t past ks) (reduce k.kind k.edges)
unfolding build
build_last s t past [] k = then_gives (reduce k.kind k.edges s t past)
build_last s t past (l ∷ ks) k =
    ap (and_then (reduce l.kind l.edges s t past)) (fun_ext (λ s. fun_ext (λ t. fun_ext (λ past. build_last s t past ks k))))
    ∙ sym (then_then (reduce l.kind l.edges s t past) (λ s t past. build s t past ks) (reduce k.kind k.edges))
