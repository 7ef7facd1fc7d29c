-- The claims of document 02, request Four: "It must agree with unfolding on every dart and level."
--   comes_unfolds    == whatever pyramid table and ends come from: the walk at level k gives what unfolding it to level k gives
--   pyramid_comes    == base and ends of every pyramid come from a pyramid
--   pyramid_unfolds  == for every pyramid, every level up to its top and every dart that survives there, the walk over its base and its ends gives
--                       the successor that unfolding gives, and passes at most two darts for each operation done by then
use mathlib.Core.List.{List, map}
use mathlib.Core.Logic.{inl}
use mathlib.Core.Path.{◌≡◌, sym, ◌∙◌, ap, subst}
use Prim.Native.Nat.{ℕ, zero, suc, ◌+◌, ◌/◌, ◌<◌}
use native.Mathlib.Nat.{not-suc-le-zero}
use native.Mathlib.Omega.{arith}
use lib.Dec.{T, eqb, eqb_refl}
use lib.ListN.{get_or}
use Rattle.permutations.specs.Choice.{or_intro}
use Rattle.darts.specs.Map.{gone, survives}
use Rattle.darts.specs.Kernel.{rising}
use Rattle.darts.specs.State.{State, gives}
use Rattle.darts.specs.Levels.{unfold_to}
use Rattle.darts.specs.Pyramid.{Pyramid, kernels_of}
use Rattle.laws.proofs.claims.Decided.{kernels_cut}
use Rattle.ends.specs.Ends.{gone_by}
use Rattle.ends.specs.Comes.{end_in, ends_in, ends_so, Comes}
use Rattle.ends.proofs.Unfolds.{AtLevel, gone_level, walk_level, unfold_cut}

-- WHATEVER PYRAMID TABLE AND ENDS COME FROM
pub comes_unfolds : {D : ℕ} {t ends : List ℕ} (C : Comes D t ends) (k : ℕ) {z : State} {u new : List ℕ}
    → unfold_to k C.state C.table C.past ≡ gives z u new → (x : ℕ) → x < D → T (survives new x) → AtLevel D k t ends u new x
comes_unfolds {D} {t} {ends} C k {z} {u} {new} e x h stays =
    let c = unfold_cut D t C.count C.size C.permutation C.kernels C.built k e in
    let told = subst (λ ks. (i : ℕ) → i < D / 2 → T (ends_so (get_or ends i 0) (end_in 1 ks i))) (sym c.whole) C.told in
    subst (λ n. AtLevel D n t ends u new x) c.height
    (walk_level D t ends C.count C.size C.permutation c.low c.high told c.built x h stays)

-- gone by level k is gone at level k
pub comes_gone : {D : ℕ} {t ends : List ℕ} (C : Comes D t ends) (k : ℕ) {z : State} {u new : List ℕ}
    → unfold_to k C.state C.table C.past ≡ gives z u new → (x : ℕ) → x < D → gone_by k ends x ≡ gone new x
comes_gone {D} {t} {ends} C k {z} {u} {new} e x h =
    let c = unfold_cut D t C.count C.size C.permutation C.kernels C.built k e in
    let told = subst (λ ks. (i : ℕ) → i < D / 2 → T (ends_so (get_or ends i 0) (end_in 1 ks i))) (sym c.whole) C.told in
    subst (λ n. gone_by n ends x ≡ gone new x) c.height
    (gone_level D t ends C.count C.size C.permutation c.low c.high told c.built x h)

-- ---- the ends of a pyramid

pub rising_at : (f : ℕ → ℕ) (n e i : ℕ) → i < n → get_or (map f (rising e n)) i 0 ≡ f (e + i)
unfolding rising
rising_at f zero e i h = absurd (not-suc-le-zero h)
rising_at f (suc n) e zero h = ap f (omega arith)
rising_at f (suc n) e (suc i) h = rising_at f n (suc e) i (omega arith) ∙ ap f (omega arith)

so_itself : (v : ℕ) → T (ends_so v v)
unfolding ends_so
so_itself v = or_intro (eqb v v) _ (inl (eqb_refl v))

module _ {s : State} {t past : List ℕ} (P : Pyramid s t past) where
  -- BASE AND ENDS OF EVERY PYRAMID COME FROM A PYRAMID
  pub pyramid_comes : Comes s.darts P.base (ends_in s past)
  unfolding ends_in
  pyramid_comes = record {
    count = P.count;
    size = P.size;
    permutation = P.permutation;
    kernels = P.kernels;
    state = s;
    table = t;
    past = past;
    built = P.built;
    told = λ e h. rw (rising_at (end_in 1 (kernels_of s past)) (s.darts / 2) 0 e h, kernels_cut P) (subst (λ i. T (ends_so (end_in 1 P.kernels (0 + e)) (end_in 1 P.kernels i))) (let z : 0 + e ≡ e = omega arith in z) (so_itself (end_in 1 P.kernels (0 + e))));
  }

  -- THE WALK OVER ITS BASE AND ITS ENDS GIVES WHAT UNFOLDING GIVES
  pub pyramid_unfolds : (k : ℕ) {z : State} {u new : List ℕ} → unfold_to k s t past ≡ gives z u new
      → (x : ℕ) → x < s.darts → T (survives new x) → AtLevel s.darts k P.base (ends_in s past) u new x
  unfolding pyramid_comes
  pyramid_unfolds k e = comes_unfolds pyramid_comes k e
