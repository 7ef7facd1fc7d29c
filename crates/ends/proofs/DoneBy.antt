-- The operations done by a level, counted in the ends.
--   done_picked     == as many as edges are picked
--   done_operations == whatever pyramid table and ends come from, level k has so many operations
use mathlib.Core.Bool.{Bool, true, false}
use mathlib.Core.List.{List, [], ◌∷◌, ◌++◌, Permᴰ}
use mathlib.Core.Logic.{◌↔◌}
use mathlib.Core.Path.{◌≡◌, refl, sym, ◌∙◌, ap, subst}
use Prim.Native.Nat.{ℕ, suc, ◌+◌, ◌/◌, ◌<◌}
use native.Mathlib.Omega.{arith}
use lib.Dec.{T}
use lib.ListN.{length, get_or, length-map}
use Rattle.permutations.specs.Live.{has}
use Rattle.std.proofs.Common.{if◌then◌else◌}
use Rattle.darts.specs.Kernel.{Operation}
use Rattle.darts.specs.State.{State, base_state, gives}
use Rattle.darts.specs.Levels.{unfold_to}
use Rattle.darts.specs.Pyramid.{Kernel, build}
use Rattle.darts.specs.OneByOne.{operations_of}
use Rattle.laws.proofs.runs.Cuts.{kernels_done}
use Rattle.laws.proofs.runs.Operations.{done_told, told_longer}
use Rattle.laws.proofs.runs.Pyramids.{built_pyramid}
use Rattle.laws.proofs.sentences.Steps.{pyramid_fitted}
use Rattle.ends.specs.Ends.{ends_by, done_by}
use Rattle.ends.specs.Comes.{end_in, ends_so, Comes}
use Rattle.ends.proofs.Members.{same_members}
use Rattle.ends.proofs.Picked.{picked, distinct_picked, has_picked}
use Rattle.ends.proofs.Accepted.{edges, Fresh, done_distinct}
use Rattle.ends.proofs.Told.{so_by, told_edges}
use Rattle.ends.proofs.Unfolds.{unfold_cut}

done_picked : (k a : ℕ) (ends : List ℕ) → length (picked (ends_by k) a ends) ≡ done_by k ends
unfolding picked done_by
done_picked k a [] = refl
done_picked k a (v ∷ ends) = go (ends_by k v) (done_picked k (suc a) ends)
  where
    go : (b : Bool) → length (picked (ends_by k) (suc a) ends) ≡ done_by k ends
        → length (if b then a ∷ picked (ends_by k) (suc a) ends else picked (ends_by k) (suc a) ends) ≡ (if b then suc (done_by k ends) else done_by k ends)
    go true r = ap suc r
    go false r = r

perm_length : {l m : List ℕ} → Permᴰ l m → length l ≡ length m
perm_length Permᴰ.nil = refl
perm_length (Permᴰ.cons e d) = ap suc (perm_length d)
perm_length (Permᴰ.swap e k) = refl
perm_length (Permᴰ.trans c d) = perm_length c ∙ perm_length d

module _ (D : ℕ) (t ends : List ℕ) (size : length ends ≡ D / 2) (low high : List Kernel)
    (told : (e : ℕ) → e < D / 2 → T (ends_so (get_or ends e 0) (end_in 1 (low ++ high) e)))
    {z : State} {u new : List ℕ} (built : build (base_state D t) t [] low ≡ gives z u new) where
  abbrev os : List Operation
  os = operations_of low

  fresh : Fresh D [] os
  fresh = done_distinct os (kernels_done (base_state D t) t [] low built)

  -- an edge of these operations is one that ends by their level
  edge_by : (e : ℕ) → e < D / 2 → has (edges os) e ≡ ends_by (length low) (get_or ends e 0)
  edge_by e l =
      told_edges high 0 low e ∙ ap (λ n. ends_by n (end_in 1 (low ++ high) e)) (let h : 0 + length low ≡ length low = omega arith in h)
      ∙ sym (so_by (length low) (get_or ends e 0) (end_in 1 (low ++ high) e) (told e l))

  same_edges : (e : ℕ) → T (has (edges os) e) ↔ T (has (picked (ends_by (length low)) 0 ends) e)
  same_edges e = (
    λ h. let l = (fresh.1 e h).0 in (has_picked (ends_by (length low)) ends e).1 (omega arith, subst T (edge_by e l) h),
    λ h. let p = (has_picked (ends_by (length low)) ends e).0 h in subst T (sym (edge_by e (let l = p.0 in omega arith))) p.1,
  )

  level_count : length new ≡ done_by (length low) ends
  level_count =
      let longer = told_longer (done_told os (kernels_done (base_state D t) t [] low built)) in
      let mapped : length (edges os) ≡ length os = length-map os _ in
      let same = perm_length (same_members (edges os) (picked (ends_by (length low)) 0 ends) fresh.0 (distinct_picked (ends_by (length low)) 0 ends) same_edges) in
      let counted = done_picked (length low) 0 ends in
      omega arith

-- THE OPERATIONS OF LEVEL k
pub done_operations : {D : ℕ} {t ends : List ℕ} → length ends ≡ D / 2 → (C : Comes D t ends) (k : ℕ) {z : State} {u new : List ℕ}
    → unfold_to k C.state C.table C.past ≡ gives z u new → z.operations ≡ done_by k ends
done_operations {D} {t} {ends} size C k {z} {u} {new} e =
    let c = unfold_cut D t C.count C.size C.permutation C.kernels C.built k e in
    let told = subst (λ ks. (i : ℕ) → i < D / 2 → T (ends_so (get_or ends i 0) (end_in 1 ks i))) (sym c.whole) C.told in
    let P = built_pyramid D t C.count C.size C.permutation c.low c.built in
    sym (pyramid_fitted P).history ∙ level_count D t ends size c.low c.high told c.built ∙ ap (λ n. done_by n ends) c.height
