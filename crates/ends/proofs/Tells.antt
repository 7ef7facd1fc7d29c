-- The operations that the ends tell.
--   told_by ends e   == the operation on edge e that the ends tell
--   Tells ends os   == the operations os are those that the ends tell, in some order, none of them twice
--   same_operations == any two such lists are each other rearranged
--   each_told       == a kernel's operations are so told where its edges end by its kind
--   operations_told == the contractions, and then the removals, are such a list
use mathlib.Core.List.Permᴰ
use mathlib.Core.List.{List, ◌++◌, map, map-append, [], ◌∷◌, Permᴰ}
use mathlib.Core.Logic.Iff
use mathlib.Core.Logic.{◌↔◌, ◌⊎◌, inl, inr, ⊎_elim}
use mathlib.Core.Path.{◌≡◌, refl, sym, ap₂, ◌∙◌, subst, subst₂}
use Prim.Native.Nat.{ℕ, ◌≤◌}
use lib.Dec.{T, leb, leb→le, le→leb}
use Rattle.permutations.specs.Choice.{and_left, and_right, and_intro}
use Rattle.permutations.specs.Live.{has}
use Rattle.darts.specs.Operation.{Kind, contraction, removal, kind_of}
use Rattle.darts.specs.Kernel.{Operation, each}
use Rattle.darts.specs.Tests.{same_kind}
use Rattle.laws.proofs.tests.Shape.{same_kind_lem}
use Rattle.ends.specs.Ends.{level_of, ending}
use Rattle.ends.specs.Comes.{operations}
use Rattle.ends.proofs.Members.{Distinct, has_cons, has_append, distinct_append, same_members}
use Rattle.ends.proofs.Picked.{has_picked, distinct_picked, ends_as, ending_picked}
use Rattle.ends.proofs.Levels.{at, at_inside}

abbrev pub told_by : List ℕ → ℕ → Operation
told_by ends e = record { kind = kind_of (at ends e); edge = e }

pub record Tells (ends : List ℕ) (os : List Operation) : Type 0 where
  pub edges : List ℕ
  pub told : os ≡ map (told_by ends) edges
  pub distinct : Distinct edges
  -- an edge is among them where it does not survive
  pub members : (e : ℕ) → T (has edges e) ↔ (1 ≤ level_of (at ends e))

module _ (ends : List ℕ) where
  -- ANY TWO LISTS THAT THE ENDS TELL ARE EACH OTHER REARRANGED
  pub same_operations : {os ns : List Operation} → Tells ends os → Tells ends ns → Permᴰ os ns
  same_operations A B =
      subst₂ Permᴰ (sym A.told) (sym B.told)
      (Permᴰ.map (told_by ends) (same_members A.edges B.edges A.distinct B.distinct
      (λ e. Iff.trans (A.members e) (Iff.symm (B.members e)))))

  pub each_told : (k : Kind) (es : List ℕ) → ((e : ℕ) → T (has es e) → kind_of (at ends e) ≡ k) → each k es ≡ map (told_by ends) es
  each_told k [] kinds = refl
  each_told k (e ∷ es) kinds =
      let kind : kind_of (at ends e) ≡ k = kinds e ((has_cons e es e).1 (inl refl)) in
      let this : record { kind = k; edge = e } ≡ told_by ends e = λ i. record { kind = sym kind i; edge = e } in
      ap₂ ◌∷◌ this (each_told k es (λ d h. kinds d ((has_cons e es d).1 (inr h))))

  -- ---- the contractions, and then the removals

  has_ending : (k : Kind) (e : ℕ) → T (has (ending k ends) e) ↔ ((1 ≤ level_of (at ends e)) × (kind_of (at ends e) ≡ k))
  has_ending k e = rw (ending_picked k ends) (
    λ h.
        let t = ((has_picked (ends_as k) ends e).0 h).1 in (
          leb→le 1 (level_of (at ends e)) (and_left (leb 1 (level_of (at ends e))) (same_kind k (kind_of (at ends e))) t),
          sym ((same_kind_lem k (kind_of (at ends e))).0 (and_right (leb 1 (level_of (at ends e))) (same_kind k (kind_of (at ends e))) t)),
        ),
    λ h. (has_picked (ends_as k) ends e).1 (
      at_inside ends e h.0,
      and_intro (leb 1 (level_of (at ends e))) (same_kind k (kind_of (at ends e))) (le→leb 1 (level_of (at ends e)) h.0)
          ((same_kind_lem k (kind_of (at ends e))).1 (sym h.1)),
    ),
  )

  distinct_ending : (k : Kind) → Distinct (ending k ends)
  distinct_ending k = rw (ending_picked k ends) (distinct_picked (ends_as k) 0 ends)

  two_kinds : ¬ (contraction ≡ removal)
  unfolding same_kind
  two_kinds e = subst (λ k. T (same_kind contraction k)) e tt

  pub operations_told : Tells ends (operations ends)
  unfolding operations
  operations_told = record {
    edges = ending contraction ends ++ ending removal ends;
    told =
        ap₂ ◌++◌ (each_told contraction (ending contraction ends) (λ e h. ((has_ending contraction e).0 h).1))
        (each_told removal (ending removal ends) (λ e h. ((has_ending removal e).0 h).1))
        ∙ sym (map-append (told_by ends) (ending contraction ends) (ending removal ends));
    distinct = distinct_append (ending contraction ends) (ending removal ends) (distinct_ending contraction) (distinct_ending removal)
        (λ e h k. two_kinds (sym ((has_ending contraction e).0 h).1 ∙ ((has_ending removal e).0 k).1));
    members = λ e. (
      λ h. ⊎_elim (λ a. ((has_ending contraction e).0 a).0) (λ b. ((has_ending removal e).0 b).0)
          ((has_append (ending contraction ends) (ending removal ends) e).0 h),
      λ l. (has_append (ending contraction ends) (ending removal ends) e).1 (go e l (kind_of (at ends e)) refl),
    );
  }
    where
      go : (e : ℕ) → 1 ≤ level_of (at ends e) → (k : Kind) → kind_of (at ends e) ≡ k
          → T (has (ending contraction ends) e) ⊎ T (has (ending removal ends) e)
      go e l contraction q = inl ((has_ending contraction e).1 (l, q))
      go e l removal q = inr ((has_ending removal e).1 (l, q))
