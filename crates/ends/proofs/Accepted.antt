-- Accepted kernels: no edge is taken twice, and none of them is empty.
--   judged_fine   == an operation that may be done is on an edge, and one that survives
--   done_distinct == operations accepted one by one are on edges that survive, none of them twice
--   built_some    == none of the kernels accepted one after another is empty
--   so_iff        == what it is that one end is another
--   comes_ended   == the kernels of a pyramid end each edge as the ends say that come from it
use mathlib.Core.Bool.{Bool, true, false, ◌&&◌}
use mathlib.Core.List.{List, [], ◌∷◌, ◌++◌, map, map-append}
use mathlib.Core.Logic.{◌≢◌, ◌↔◌, ◌⊎◌, inl, inr, ⊎_elim}
use mathlib.Core.Path.{◌≡◌, refl, sym, ap, ap₂, ◌∙◌, subst}
use Prim.Native.Nat.{ℕ, ◌*◌, ◌/◌, ◌<◌}
use native.Mathlib.Decide.{dec_lt}
use native.Mathlib.Omega.{arith}
use lib.Dec.{T, eqb, leb, nleb→lt}
use lib.ListN.{length, length-map, get_or-eq_default}
use Rattle.permutations.specs.Choice.{eqb_iff, or_intro, or_iff, and_iff}
use Rattle.permutations.specs.Live.{has}
use Rattle.std.proofs.Common.{if◌then◌else◌}
use Rattle.darts.specs.Map.{gone}
use Rattle.darts.specs.Operation.{Kind, lead, number, edge_of}
use Rattle.darts.specs.Kernel.{Operation, each, judge}
use Rattle.darts.specs.State.{State, base_state, gives, reduce}
use Rattle.darts.specs.Pyramid.{Kernel, build}
use Rattle.darts.specs.OneByOne.{operations_of, NoneEmpty}
use Rattle.laws.proofs.bridge.Numbers.{number_edge}
use Rattle.laws.proofs.runs.Operations.{after, past_after, AllDone, none, first, run_iff, done_told, told_longer}
use Rattle.laws.proofs.runs.Results.{then as taken-apart}
use Rattle.laws.proofs.runs.Reduces.{reduce_raises}
use Rattle.laws.proofs.runs.Cuts.{kernels_done}
use Rattle.ends.specs.Ends.{level_of}
use Rattle.ends.specs.Comes.{end_in, ends_so, Comes}
use Rattle.ends.proofs.Members.{Distinct, has_none, has_cons}
use Rattle.ends.proofs.Levels.{at}
use Rattle.ends.proofs.Ended.{edges_of, end_none, end_level, Ended}

abbrev pub edges : List Operation → List ℕ
edges = map (λ o. o.edge)

-- ---- no edge is taken twice

judged_fine : (k : Kind) (D : ℕ) (t past : List ℕ) (e : ℕ) → judge k D t past e ≡ 0 → (e < D / 2) × ¬ T (gone past (2 * e))
unfolding judge
judged_fine k D t past e fine = go (leb (D / 2) e) (gone past (2 * e)) _ refl refl fine
  where
    go : (a b : Bool) (n : ℕ) → leb (D / 2) e ≡ a → gone past (2 * e) ≡ b → (if a then 7 else if b then 8 else n) ≡ 0
        → (e < D / 2) × ¬ T (gone past (2 * e))
    go true b n p q z = absurd (omega arith)
    go false true n p q z = absurd (omega arith)
    go false false n p q z = (nleb→lt (D / 2) e (rw p tt), λ h. subst T q h)

-- an edge that survives an operation is another one, and survived before it
still : (o : Operation) (t past : List ℕ) (e : ℕ) → ¬ T (gone (number o.kind (lead o.kind t o.edge) ∷ past) (2 * e))
    → (e ≢ o.edge) × ¬ T (gone past (2 * e))
unfolding gone edge_of
still o t past e n =
    let h : ℕ = number o.kind (lead o.kind t o.edge) in
    let own = number_edge o.kind t o.edge in (
      λ q. n (or_intro (eqb (h / 4) (2 * e / 2)) (gone past (2 * e)) (inl ((eqb_iff (h / 4) (2 * e / 2)).1 (own ∙ sym q ∙ omega arith)))),
      λ g. n (or_intro (eqb (h / 4) (2 * e / 2)) (gone past (2 * e)) (inr g)),
    )

abbrev pub Fresh : ℕ → List ℕ → List Operation → Type 0
Fresh D past os = Distinct (edges os) × ((e : ℕ) → T (has (edges os) e) → (e < D / 2) × ¬ T (gone past (2 * e)))

pub done_distinct : {D : ℕ} {t past u new : List ℕ} (os : List Operation) → AllDone D t past os u new → Fresh D past os
done_distinct [] none = (tt, λ e h. absurd (has_none e h))
done_distinct {D} {t} {past} (o ∷ os) (first fine rest) =
    let R = done_distinct {t = after D t past o} {past = past_after t past o} os rest in
    let later : (e : ℕ) → T (has (edges os) e) → (e ≢ o.edge) × ¬ T (gone past (2 * e)) = λ e h. still o t past e (R.1 e h).1 in
    let own = judged_fine o.kind D t past o.edge fine in (
      (λ h. (later o.edge h).0 refl, R.0),
      λ e h. ⊎_elim (λ (q : e ≡ o.edge). subst (λ d. (d < D / 2) × ¬ T (gone past (2 * d))) (sym q) own)
          (λ k. ((R.1 e k).0, (later e k).1)) ((has_cons o.edge (edges os) e).0 h),
    )

-- ---- the edges of kernels

pub each_edges : (k : Kind) (es : List ℕ) → edges (each k es) ≡ es
each_edges k [] = refl
each_edges k (e ∷ es) = ap (λ l. e ∷ l) (each_edges k es)

kernels_edges : (ks : List Kernel) → edges (operations_of ks) ≡ edges_of ks
kernels_edges [] = refl
kernels_edges (k ∷ ks) =
    map-append (λ o. o.edge) (each k.kind k.edges) (operations_of ks)
    ∙ ap₂ ◌++◌ (each_edges k.kind k.edges) (kernels_edges ks)

-- NONE OF THE KERNELS IS EMPTY
pub built_some : {z : State} {u new : List ℕ} (s : State) (t past : List ℕ) (ks : List Kernel) → build s t past ks ≡ gives z u new → NoneEmpty ks
unfolding build
built_some s t past [] e = tt
built_some s t past (k ∷ ks) e =
    let one = taken-apart (reduce k.kind k.edges s t past) (λ s t past. build s t past ks) e in
    let R = reduce_raises s t past k.kind k.edges one.first in
    let longer = told_longer (done_told (each k.kind k.edges) ((run_iff k.kind s.darts t past k.edges).0 R.stood)) in
    let count : length (each k.kind k.edges) ≡ length k.edges = length-map k.edges _ in
    let more = R.more in
    (omega arith, built_some one.state one.table one.past ks one.next)

-- ---- ends that come from a pyramid

-- the same end, or an edge that survives in both
pub so_iff : (v w : ℕ) → T (ends_so v w) ↔ ((v ≡ w) ⊎ ((level_of v ≡ 0) × (level_of w ≡ 0)))
unfolding ends_so
so_iff v w =
    or_iff (eqb v w) (eqb (level_of v) 0 && eqb (level_of w) 0) (eqb_iff v w)
    (and_iff (eqb (level_of v) 0) (eqb (level_of w) 0) (eqb_iff (level_of v) 0) (λ h. eqb_iff (level_of w) 0))

-- THE KERNELS OF A PYRAMID END EACH EDGE AS THE ENDS SAY THAT COME FROM IT
pub comes_ended : {D : ℕ} {t ends : List ℕ} → length ends ≡ D / 2 → (C : Comes D t ends) → Ended ends C.kernels
unfolding level_of
comes_ended {D} {t} {ends} size C = record {
  distinct = subst Distinct (kernels_edges ks) fresh.0;
  taken = λ e h.
      let l = (end_level 1 ks e h).0 in
      ⊎_elim (λ q. q) (λ z. let k = z.1 in absurd (omega arith)) ((so_iff (at ends e) (end_in 1 ks e)).0 (C.told e (inside e h)));
  left = λ e n. go e n (dec_lt e (D / 2));
}
  where
    ks : List Kernel
    ks = C.kernels

    fresh : Fresh D [] (operations_of ks)
    fresh = done_distinct (operations_of ks) (kernels_done (base_state D t) t [] ks C.built)

    inside : (e : ℕ) → T (has (edges_of ks) e) → e < D / 2
    inside e h = (fresh.1 e (subst (λ l. T (has l e)) (sym (kernels_edges ks)) h)).0

    go : (e : ℕ) → ¬ T (has (edges_of ks) e) → Dec (e < D / 2) → level_of (at ends e) ≡ 0
    go e n (yes l) =
        let z = end_none 1 ks e n in
        ⊎_elim (λ q. omega arith) (λ z. z.0) ((so_iff (at ends e) (end_in 1 ks e)).0 (C.told e l))
    go e n (no m) = let z : at ends e ≡ 0 = get_or-eq_default ends 0 (omega arith) in omega arith
