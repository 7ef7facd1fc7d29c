-- What a pyramid is (document 01, "Levels and calls"), and its decision.
--   dart_count D           == D is even, 2 to 65,536
--   Kernel                == a kind and a list of edges
--   build s t past ks     == the kernels ks, one after another
--   Pyramid s t past      == some base and some kernels give exactly this state, table and past
--   kernels_of s past      == the kernels that the level ends cut the past into
--   is_pyramid s t past    == the decision: undo everything, and build it up again
use Rattle.std.specs.Prelude.{Bool, true, false, ◌&&◌, List, [], ◌∷◌, map, reverse, ◌≡◌, ℕ, ◌-◌, ◌%◌, T, eqb, leb, length, take, drop}
use Rattle.darts.specs.Map.{permutes, permutation_test, passed}
use Rattle.darts.specs.Operation.{Kind, contraction, kind_of, edge_of, undone}
use Rattle.darts.specs.State.{State, base_state, Result, gives, refuses, and_then, reduce}

-- "There are D darts, 0 to D-1, D even, 2 to 65,536."
unfoldable pub dart_count : ℕ → Bool
dart_count D = eqb (D % 2) 0 && (leb 2 D && leb D 65536)

-- "A kernel is a list of edges of one kind (given as one of two values, so that there is no third)"
pub record Kernel : Type 0 where
  pub kind : Kind
  pub edges : List ℕ

-- "accepted one after another"
unfoldable pub build : State → List ℕ → List ℕ → List Kernel → Result
build s t past [] = gives s t past
build s t past (k ∷ ks) = and_then (reduce k.kind k.edges s t past) (λ s t past. build s t past ks)

-- "A state with its table and history is a pyramid when some base and some kernels, accepted one after another, give exactly this state, this
-- table (gone darts too) and these history numbers."
pub record Pyramid (s : State) (t past : List ℕ) : Type 0 where
  pub count : T (dart_count s.darts)
  pub base : List ℕ
  pub size : length base ≡ s.darts
  pub permutation : permutation_test s.darts base ≡ permutes
  pub kernels : List Kernel
  pub built : build (base_state s.darts base) base [] kernels ≡ gives s t past

-- the kernel whose history numbers these are: its kind is its first operation's
unfoldable pub kernel_of : List ℕ → Kernel
kernel_of [] = record { kind = contraction; edges = [] }
kernel_of (h ∷ hs) = record { kind = kind_of h; edges = map edge_of (h ∷ hs) }

-- the history, from the operation count `from` on, cut at the level ends
unfoldable pub cut : ℕ → List ℕ → List ℕ → List Kernel
cut from [] history = []
cut from (end ∷ ends) history = kernel_of (take (end - from) history) ∷ cut end ends (drop (end - from) history)

unfoldable pub kernels_of : State → List ℕ → List Kernel
kernels_of s past = cut 0 (take s.levels s.ends) (reverse past)

unfoldable pub same_numbers : List ℕ → List ℕ → Bool
same_numbers [] [] = true
same_numbers [] (y ∷ ys) = false
same_numbers (x ∷ xs) [] = false
same_numbers (x ∷ xs) (y ∷ ys) = eqb x y && same_numbers xs ys

unfoldable pub same_state : State → State → Bool
same_state s z =
    eqb s.darts z.darts && (eqb s.operations z.operations
    && (eqb s.levels z.levels && (same_numbers s.ends z.ends
    && (eqb s.vertices z.vertices && eqb s.faces z.faces))))

-- a result gives exactly this state, table and past
unfoldable pub is_exactly : State → List ℕ → List ℕ → Result → Bool
is_exactly s t past (gives z u new) = same_state s z && (same_numbers t u && same_numbers past new)
is_exactly s t past (refuses a) = false

-- only the base that undo gives can fit, so it is tried
unfoldable pub is_pyramid : State → List ℕ → List ℕ → Bool
is_pyramid s t past =
    let D : ℕ = s.darts in
    let base : List ℕ = undone D (length past) t past in
    dart_count D && (eqb (length base) D && (passed (permutation_test D base)
    && is_exactly s t past (build (base_state D base) base [] (kernels_of s past))))
