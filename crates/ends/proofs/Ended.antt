-- Kernels that end each edge as the ends say.
--   edges_of ks        == the edges of the kernels ks, one after another
--   end_here, end_later, end_none == where an edge ends: in the first kernel, in a later one, in none
--   end_level         == an edge that is in a kernel ends at the level of one of them
--   end_same          == two edges that end at one level have the same end
--   Ended ends ks     == no edge is in the kernels twice, and they end each edge as the ends say
--   ended_level, ended_member == the edges in them are those that do not survive, and end at the level of one of them
--   ended_told        == their operations are those that the ends tell
use mathlib.Core.List.{List, [], ◌∷◌, ◌++◌, map, map-append}
use mathlib.Core.Logic.{◌≢◌, ◌⊎◌, inl, inr, ⊎_elim}
use mathlib.Core.Path.{◌≡◌, refl, sym, ap, ap₂, ◌∙◌}
use Prim.Native.Nat.{ℕ, suc, ◌+◌, ◌≤◌, ◌<◌}
use native.Mathlib.Omega.{arith}
use lib.Dec.{T}
use lib.ListN.{length}
use Rattle.permutations.specs.Choice.{T?, T→true, not_T→false}
use Rattle.permutations.specs.Live.{has}
use Rattle.darts.specs.Operation.{Kind, kind_of, lead_of, number}
use Rattle.darts.specs.Pyramid.{Kernel}
use Rattle.darts.specs.OneByOne.{operations_of}
use Rattle.laws.proofs.bridge.Numbers.{number_kind, number_lead}
use Rattle.ends.specs.Ends.{level_of}
use Rattle.ends.specs.Comes.{end_in}
use Rattle.ends.proofs.Members.{Distinct, has_none, has_append, append_distinct}
use Rattle.ends.proofs.Levels.{at}
use Rattle.ends.proofs.Tells.{told_by, Tells, each_told}

abbrev pub edges_of : List Kernel → List ℕ
edges_of [] = []
edges_of (k ∷ ks) = k.edges ++ edges_of ks

pub number_level : (k : Kind) (L : ℕ) → level_of (number k L) ≡ L
unfolding level_of lead_of
number_level k L = number_lead k L

-- ---- where an edge ends

module _ (L : ℕ) (k : Kernel) (ks : List Kernel) (e : ℕ) where
  pub end_here : T (has k.edges e) → end_in L (k ∷ ks) e ≡ number k.kind L
  unfolding end_in
  end_here h = rw (T→true (has k.edges e) h)

  pub end_later : ¬ T (has k.edges e) → end_in L (k ∷ ks) e ≡ end_in (suc L) ks e
  unfolding end_in
  end_later n = rw (not_T→false (has k.edges e) n)

  -- an edge of the kernels that is not in the first is in a later one
  in_later : T (has (edges_of (k ∷ ks)) e) → ¬ T (has k.edges e) → T (has (edges_of ks) e)
  in_later h n = ⊎_elim (λ a. absurd (n a)) (λ b. b) ((has_append k.edges (edges_of ks) e).0 h)

pub end_none : (L : ℕ) (ks : List Kernel) (e : ℕ) → ¬ T (has (edges_of ks) e) → end_in L ks e ≡ 0
unfolding end_in
end_none L [] e n = refl
end_none L (k ∷ ks) e n =
    end_later L k ks e (λ h. n ((has_append k.edges (edges_of ks) e).1 (inl h)))
    ∙ end_none (suc L) ks e (λ h. n ((has_append k.edges (edges_of ks) e).1 (inr h)))

pub end_level : (L : ℕ) (ks : List Kernel) (e : ℕ) → T (has (edges_of ks) e) → (L ≤ level_of (end_in L ks e)) × (level_of (end_in L ks e) < L + length ks)
end_level L [] e h = absurd (has_none e h)
end_level L (k ∷ ks) e h = go (T? (has k.edges e)) (end_level (suc L) ks e)
  where
    go : Dec (T (has k.edges e))
        → (T (has (edges_of ks) e) → (suc L ≤ level_of (end_in (suc L) ks e)) × (level_of (end_in (suc L) ks e) < suc L + length ks))
        → (L ≤ level_of (end_in L (k ∷ ks) e)) × (level_of (end_in L (k ∷ ks) e) < L + suc (length ks))
    go (yes t) rest = rw (end_here L k ks e t, number_level k.kind L) (omega arith, omega arith)
    go (no n) rest = let (a, b) = rest (in_later L k ks e h n) in rw (end_later L k ks e n) (omega arith, omega arith)

pub end_same : (L : ℕ) (ks : List Kernel) (e d : ℕ) → T (has (edges_of ks) e) → T (has (edges_of ks) d)
    → level_of (end_in L ks e) ≡ level_of (end_in L ks d) → end_in L ks e ≡ end_in L ks d
end_same L [] e d h k q = absurd (has_none e h)
end_same L (k ∷ ks) e d h j q = go (T? (has k.edges e)) (T? (has k.edges d)) (end_same (suc L) ks e d)
  where
    other : (x y : ℕ) → T (has k.edges x) → T (has (edges_of (k ∷ ks)) y) → ¬ T (has k.edges y)
        → level_of (end_in L (k ∷ ks) x) ≢ level_of (end_in L (k ∷ ks) y)
    other x y t i n s =
        let here : level_of (end_in L (k ∷ ks) x) ≡ L = ap level_of (end_here L k ks x t) ∙ number_level k.kind L in
        let there : level_of (end_in L (k ∷ ks) y) ≡ level_of (end_in (suc L) ks y) = ap level_of (end_later L k ks y n) in
        let l = (end_level (suc L) ks y (in_later L k ks y i n)).0 in
        omega arith

    go : Dec (T (has k.edges e)) → Dec (T (has k.edges d))
        → (T (has (edges_of ks) e) → T (has (edges_of ks) d) → level_of (end_in (suc L) ks e) ≡ level_of (end_in (suc L) ks d)
        → end_in (suc L) ks e ≡ end_in (suc L) ks d)
        → end_in L (k ∷ ks) e ≡ end_in L (k ∷ ks) d
    go (yes t) (yes u) rest = end_here L k ks e t ∙ sym (end_here L k ks d u)
    go (yes t) (no n) rest = absurd (other e d t j n q)
    go (no n) (yes u) rest = absurd (other d e u h n (sym q))
    go (no n) (no m) rest =
        let a = end_later L k ks e n in
        let b = end_later L k ks d m in
        a ∙ rest (in_later L k ks e h n) (in_later L k ks d j m) (ap level_of (sym a) ∙ q ∙ ap level_of b) ∙ sym b

-- ---- the operations of kernels that end each edge as the ends say

kernels_told : (ends : List ℕ) (L : ℕ) (ks : List Kernel) → Distinct (edges_of ks)
    → ((e : ℕ) → T (has (edges_of ks) e) → at ends e ≡ end_in L ks e) → operations_of ks ≡ map (told_by ends) (edges_of ks)
kernels_told ends L [] d taken = refl
kernels_told ends L (k ∷ ks) d taken =
    let apart = append_distinct k.edges (edges_of ks) d in
    let inside : (e : ℕ) → T (has k.edges e) ⊎ T (has (edges_of ks) e) → T (has (edges_of (k ∷ ks)) e) =
    λ e. (has_append k.edges (edges_of ks) e).1 in
    ap₂ ◌++◌
    (each_told ends k.kind k.edges (λ e h. ap kind_of (taken e (inside e (inl h)) ∙ end_here L k ks e h) ∙ number_kind k.kind L))
    (kernels_told ends (suc L) ks apart.0 (λ e h. taken e (inside e (inr h)) ∙ end_later L k ks e (λ a. apart.1 e a h)))
    ∙ sym (map-append (told_by ends) k.edges (edges_of ks))

pub record Ended (ends : List ℕ) (ks : List Kernel) : Type 0 where
  pub distinct : Distinct (edges_of ks)
  pub taken : (e : ℕ) → T (has (edges_of ks) e) → at ends e ≡ end_in 1 ks e
  -- the other edges survive
  pub left : (e : ℕ) → ¬ T (has (edges_of ks) e) → level_of (at ends e) ≡ 0

module _ {ends : List ℕ} {ks : List Kernel} (E : Ended ends ks) where
  pub ended_level : (e : ℕ) → T (has (edges_of ks) e) → (1 ≤ level_of (at ends e)) × (level_of (at ends e) ≤ length ks)
  ended_level e h = let (a, b) = end_level 1 ks e h in rw (E.taken e h) (a, omega arith)

  pub ended_member : (e : ℕ) → 1 ≤ level_of (at ends e) → T (has (edges_of ks) e)
  ended_member e l = go (T? (has (edges_of ks) e))
    where
      go : Dec (T (has (edges_of ks) e)) → T (has (edges_of ks) e)
      go (yes h) = h
      go (no n) = let z = E.left e n in absurd (omega arith)

  -- THEIR OPERATIONS ARE THOSE THAT THE ENDS TELL
  pub ended_told : Tells ends (operations_of ks)
  ended_told = record {
    edges = edges_of ks;
    told = kernels_told ends 1 ks E.distinct E.taken;
    distinct = E.distinct;
    members = λ e. (λ h. (ended_level e h).0, ended_member e);
  }
