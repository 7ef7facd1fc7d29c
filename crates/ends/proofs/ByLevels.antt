-- The kernels that ends in the form of a pyramid's tell.
--   kernel_at ends L        == the edges of level L by rising number, of the kind of the first end there
--   kernels_from ends L n   == these kernels for n levels from L on
--   kernels_count          == they are n
--   kernels_some           == none is empty where each level has an end
--   kernels_ended          == from level 1 up to the top they end each edge as the ends say
use mathlib.Core.Bool.{Bool}
use mathlib.Core.List.{List, [], ◌∷◌}
use mathlib.Core.Logic.{◌≢◌, ◌↔◌, ◌⊎◌, inl, inr, ⊎_elim}
use mathlib.Core.Path.{◌≡◌, refl, sym, ap, ap₂, ◌∙◌}
use Prim.Native.Nat.{ℕ, zero, suc, ◌+◌, ◌%◌, ◌≤◌, ◌<◌}
use native.Mathlib.Decide.{ℕ_discrete, dec_lt}
use native.Mathlib.Omega.{arith}
use lib.Dec.{T, eqb, eqb→eq}
use lib.ListN.{length}
use Rattle.permutations.specs.Choice.{eqb_iff, eqb_same, eqb_other}
use Rattle.permutations.specs.Live.{has}
use Rattle.darts.specs.Operation.{kind_of, number}
use Rattle.darts.specs.Pyramid.{Kernel}
use Rattle.darts.specs.OneByOne.{NoneEmpty}
use Rattle.ends.specs.Ends.{level_of, top, first_at}
use Rattle.ends.specs.Comes.{end_in}
use Rattle.ends.proofs.Members.{Distinct, has_none, has_append, distinct_append}
use Rattle.ends.proofs.Picked.{picked, has_picked, distinct_picked}
use Rattle.ends.proofs.Levels.{at, at_inside, level_top, First, OneKind}
use Rattle.ends.proofs.Ended.{edges_of, end_here, end_later, Ended}

abbrev is_at : ℕ → ℕ → Bool
is_at L v = eqb (level_of v) L

abbrev pub kernel_at : List ℕ → ℕ → Kernel
kernel_at ends L = record { kind = kind_of (first_at L ends); edges = picked (is_at L) 0 ends }

abbrev pub kernels_from : List ℕ → ℕ → ℕ → List Kernel
kernels_from ends L zero = []
kernels_from ends L (suc n) = kernel_at ends L ∷ kernels_from ends (suc L) n

-- an end is told by its kind and its level
number_of : (v : ℕ) → number (kind_of v) (level_of v) ≡ v
unfolding number kind_of level_of
number_of v = go (ℕ_discrete (v % 2) 0)
  where
    go : Dec (v % 2 ≡ 0) → number (kind_of v) (level_of v) ≡ v
    go (yes e) = rw (eqb_same e) (omega arith)
    go (no n) = rw (eqb_other n) (omega arith)

has_some : (l : List ℕ) (x : ℕ) → T (has l x) → 0 < length l
has_some [] x h = absurd (has_none x h)
has_some (y ∷ l) x h = omega arith

module _ (ends : List ℕ) where
  pub kernels_count : (L n : ℕ) → length (kernels_from ends L n) ≡ n
  kernels_count L zero = refl
  kernels_count L (suc n) = ap suc (kernels_count (suc L) n)

  -- ---- which edges they have

  has_level : (L e : ℕ) → 1 ≤ L → T (has (kernel_at ends L).edges e) ↔ (level_of (at ends e) ≡ L)
  has_level L e l = (
    λ h. eqb→eq (level_of (at ends e)) L ((has_picked (is_at L) ends e).0 h).1,
    λ q. (has_picked (is_at L) ends e).1 (at_inside ends e (omega arith), (eqb_iff (level_of (at ends e)) L).1 q),
  )

  has_levels : (L n e : ℕ) → 1 ≤ L → T (has (edges_of (kernels_from ends L n)) e) ↔ ((L ≤ level_of (at ends e)) × (level_of (at ends e) < L + n))
  has_levels L zero e l = (λ h. absurd (has_none e h), λ h. let (a, b) = h in absurd (omega arith))
  has_levels L (suc n) e l =
      let rest = has_levels (suc L) n e (omega arith) in
      let both = has_append (kernel_at ends L).edges (edges_of (kernels_from ends (suc L) n)) e in (
        λ h. ⊎_elim (λ t. let q = (has_level L e l).0 t in (omega arith, omega arith))
            (λ t. let (a, b) = rest.0 t in (omega arith, omega arith)) (both.0 h),
        λ h. both.1 (go h.0 h.1 rest.1 (ℕ_discrete (level_of (at ends e)) L)),
      )
    where
      go : L ≤ level_of (at ends e) → level_of (at ends e) < L + suc n
          → ((suc L ≤ level_of (at ends e)) × (level_of (at ends e) < suc L + n) → T (has (edges_of (kernels_from ends (suc L) n)) e))
          → Dec (level_of (at ends e) ≡ L) → T (has (kernel_at ends L).edges e) ⊎ T (has (edges_of (kernels_from ends (suc L) n)) e)
      go a b rest (yes q) = inl ((has_level L e l).1 q)
      go a b rest (no m) = inr (rest (omega arith, omega arith))

  distinct_levels : (L n : ℕ) → 1 ≤ L → Distinct (edges_of (kernels_from ends L n))
  distinct_levels L zero l = tt
  distinct_levels L (suc n) l =
      distinct_append (kernel_at ends L).edges (edges_of (kernels_from ends (suc L) n)) (distinct_picked (is_at L) 0 ends)
      (distinct_levels (suc L) n (omega arith))
      (λ e h k. let q = (has_level L e l).0 h in let m = ((has_levels (suc L) n e (omega arith)).0 k).0 in omega arith)

  pub kernels_some : (L n : ℕ) → 1 ≤ L → ((M : ℕ) → L ≤ M → M < L + n → First M ends) → NoneEmpty (kernels_from ends L n)
  kernels_some L zero l firsts = tt
  kernels_some L (suc n) l firsts =
      let F = firsts L (omega arith) (omega arith) in (
        has_some (kernel_at ends L).edges F.edge ((has_level L F.edge l).1 (ap level_of F.end ∙ F.level)),
        kernels_some (suc L) n (omega arith) (λ M a b. firsts M (omega arith) (omega arith)),
      )

  -- ---- where they end each edge

  module _ (kinds : OneKind ends ends) where
    end_levels : (L n e : ℕ) → 1 ≤ L → L ≤ level_of (at ends e) → level_of (at ends e) < L + n → end_in L (kernels_from ends L n) e ≡ at ends e
    end_levels L zero e l a b = absurd (omega arith)
    end_levels L (suc n) e l a b = go (ℕ_discrete (level_of (at ends e)) L) (λ m. end_levels (suc L) n e (omega arith) (omega arith) (omega arith))
      where
        go : Dec (level_of (at ends e) ≡ L) → (level_of (at ends e) ≢ L → end_in (suc L) (kernels_from ends (suc L) n) e ≡ at ends e)
            → end_in L (kernel_at ends L ∷ kernels_from ends (suc L) n) e ≡ at ends e
        go (yes q) rest =
            let own : at ends e ≡ first_at L ends = kinds e (omega arith) ∙ ap (λ M. first_at M ends) q in
            end_here L (kernel_at ends L) (kernels_from ends (suc L) n) e ((has_level L e l).1 q)
            ∙ ap₂ number (ap kind_of (sym own)) (sym q) ∙ number_of (at ends e)
        go (no m) rest = end_later L (kernel_at ends L) (kernels_from ends (suc L) n) e (λ h. m ((has_level L e l).0 h)) ∙ rest m

    -- THE KERNELS OF ALL LEVELS END EACH EDGE AS THE ENDS SAY
    pub kernels_ended : Ended ends (kernels_from ends 1 (top ends))
    kernels_ended = record {
      distinct = distinct_levels 1 (top ends) (omega arith);
      taken = λ e h.
          let (a, b) = (has_levels 1 (top ends) e (omega arith)).0 h in
          sym (end_levels 1 (top ends) e (omega arith) a b);
      left = λ e n. go e n (dec_lt 0 (level_of (at ends e)));
    }
      where
        go : (e : ℕ) → ¬ T (has (edges_of (kernels_from ends 1 (top ends))) e) → Dec (0 < level_of (at ends e)) → level_of (at ends e) ≡ 0
        go e n (yes l) = let t = level_top ends e in absurd (n ((has_levels 1 (top ends) e (omega arith)).1 (omega arith, omega arith)))
        go e n (no m) = omega arith
