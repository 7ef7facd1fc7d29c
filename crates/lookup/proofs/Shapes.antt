-- The levels that the ends tell, edge by edge.
--   highest_top               == the highest level is the top
--   level_top, level_within   == no level is above it
--   Noting ends w first left  == the first ends of each level, of those after left, are noted in first, once w; zeros_unset, noting_begins, noting_on,
--                                noting_all
--   used_each                 == the levels up to n are in use where an end is noted for each
--   used_same                 == a level is in use where an end is noted for it
--   alike_each                == the ends have the kind of the first one of their level, where each is the one that is noted there
--   too_high, unused, kinds   == the ways that the test ends
use mathlib.Core.Bool.{Bool, true, false, ◌||◌}
use mathlib.Core.List.{List, [], ◌∷◌, ◌++◌}
use mathlib.Core.Logic.{◌≢◌, ◌⊎◌}
use mathlib.Core.Path.{◌≡◌, refl, sym, ◌∙◌}
use Prim.Native.Nat.{ℕ, zero, suc, ◌/◌, ◌≤◌, ◌<◌}
use native.Mathlib.Decide.{ℕ_discrete}
use native.Mathlib.Nat.{not-suc-le-zero}
use native.Mathlib.Omega.{arith}
use borrow.Author.Tests.{le-leb, lt-leb}
use lib.Dec.{ltb, leb, eqb}
use lib.ListN.{length, get_or, set, replicate}
use lib.Seq.{get_or-set_same, get_or-set_other}
use Rattle.permutations.specs.Choice.{eqb_same, eqb_other}
use Rattle.std.proofs.Common.{if◌then◌else◌, max, inl, inr, append_assoc, EachIndex, MatchOption, Option, None, Some, slice_index}
use Rattle.std.specs.Option.{unwrap_or}
use Rattle.std.proofs.lemmas.List.{append-nil}
use Rattle.std.specs.Bool.{Decides}
use Rattle.std.specs.List.{All}
use Rattle.std.proofs.lemmas.Bool.Decides.{same_from_decides, Decides-below_and, Decides-by_and, Decides-eqb, Decides-or, Decides-like, nat_tests}
use Rattle.ends.specs.Ends.{level_of, top, first_at, in_use, one_kind, shaped}
use Rattle.lookup.specs.Firsts.{Unset, Firsts, used_in}

-- ---- the top

higher : (h l : ℕ) → (if ltb h l then l else h) ≡ max h l
higher h l = grind (arith, nat_tests)

pub level_within : (before after : List ℕ) (v : ℕ) → v / 2 ≤ top (before ++ v ∷ after)
unfolding top level_of
level_within [] after v = rw (higher (top after) (v / 2)) (omega arith)
level_within (u ∷ before) after v =
    let l = level_within before after v in
    rw (higher (top (before ++ v ∷ after)) (u / 2)) (omega arith)

pub level_top : (ends : List ℕ) (i d : ℕ) → i < length ends → get_or ends i d / 2 ≤ top ends
unfolding top level_of
level_top [] i d h = absurd (not-suc-le-zero h)
level_top (v ∷ ends) zero d h = rw (higher (top ends) (v / 2)) (omega arith)
level_top (v ∷ ends) (suc i) d h =
    let l = level_top ends i d (omega arith) in
    rw (higher (top ends) (v / 2)) (omega arith)

top_below : (ends : List ℕ) (m : ℕ) → ((k : ℕ) → k < length ends → get_or ends k 0 / 2 ≤ m) → top ends ≤ m
unfolding top level_of
top_below [] m below = omega arith
top_below (v ∷ ends) m below =
    let l = top_below ends m (λ k h. below (suc k) (omega arith)) in
    let n : v / 2 ≤ m = below 0 (omega arith) in
    rw (higher (top ends) (v / 2)) (omega arith)

-- r is the highest level among the ends, and none where there are no ends
abbrev pub Highest : List ℕ → Option ℕ → Type 0
Highest ends r =
    MatchOption r (length ends ≡ 0)
    (λ m. EachIndex ends (λ k. slice_index ends k / 2 ≤ m) × ((k : ℕ) × (k < length ends) × (slice_index ends k / 2 ≡ m)))

pub highest_top : (ends : List ℕ) (r : Option ℕ) → Highest ends r → unwrap_or r 0 ≡ top ends
unfolding top
highest_top [] None none = refl
highest_top (v ∷ ends) None none = absurd (omega arith)
highest_top ends (Some m) (below, (k, inside, e)) =
    let l = top_below ends m below in
    let h = level_top ends k 0 inside in
    omega arith

-- ---- the first end of each level

pub record Noting (ends w first left : List ℕ) : Type 0 where
  pub done : List ℕ
  pub all : left ++ done ≡ ends
  pub each : (L : ℕ) → L < length w → get_or first L 0 ≡ first_at L done

zeros_at : (n L : ℕ) → ◌≡◌ {A = ℕ} (get_or (replicate n 0) L 0) 0
zeros_at zero L = refl
zeros_at (suc n) zero = refl
zeros_at (suc n) (suc L) = zeros_at n L

pub zeros_unset : (n : ℕ) → Unset (replicate n 0)
zeros_unset n = record { zeros = zeros_at n }

pub noting_begins : {ends left w : List ℕ} → left ≡ ends → Unset w → Noting ends w w left
unfolding first_at
noting_begins {ends} e U = record { done = []; all = rw e (append-nil ends); each = λ L _. U.zeros L }

module _ {ends w first left : List ℕ} (σ : Noting ends w first left) (room : top ends < length w) (size : length first ≡ length w)
    (before : List ℕ) (v : ℕ) (read : left ≡ before ++ v ∷ []) where
  split : before ++ v ∷ σ.done ≡ ends
  split = sym (append_assoc before (v ∷ []) σ.done) ∙ rw read at σ.all

  pub noting_inside : v / 2 < length first
  noting_inside = let l : v / 2 ≤ top ends = rw split at (level_within before σ.done v) in omega arith

  pub noting_on : Noting ends w (set first (v / 2) v) before
  unfolding first_at level_of
  noting_on = record { done = v ∷ σ.done; all = split; each = λ L h. go L h (ℕ_discrete (v / 2) L) }
    where
      go : (L : ℕ) → L < length w → Dec (v / 2 ≡ L) → get_or (set first (v / 2) v) L 0 ≡ first_at L (v ∷ σ.done)
      go L h (yes e) = rw (eqb_same e, ← e) (get_or-set_same first (v / 2) v 0 noting_inside)
      go L h (no n) = rw (eqb_other n) (get_or-set_other first (v / 2) L v 0 (λ e. n (sym e)) ∙ σ.each L h)

pub noting_all : {ends w first left : List ℕ} → Noting ends w first left → length first ≡ length w → length left ≡ 0 → Firsts ends first
noting_all {left = []} σ size none = record { each = λ L h. rw (← σ.all) (σ.each L (omega arith)) }
noting_all {left = v ∷ left} σ size none = absurd (omega arith)

-- ---- levels in use

pub used_each : (first : List ℕ) (n : ℕ) (r : Bool) → Decides r ((L : ℕ) → 1 ≤ L → L ≤ n → get_or first L 0 ≢ 0) → r ≡ used_in first n
unfolding used_in
used_each first n r h =
    same_from_decides r (used_in first n) (Decides-like r (λ a k l. a (suc k) (omega arith) (omega arith)) from h)
    (Decides-below_and (λ k. leb 1 (get_or first (suc k) 0)) (λ k. get_or first (suc k) 0 ≢ 0) (used_in first) noted refl (λ _. refl) n)
  where
    noted : (k : ℕ) → Decides (leb 1 (get_or first (suc k) 0)) (get_or first (suc k) 0 ≢ 0)
    noted k = grind (arith, nat_tests)

    from : ((k : ℕ) → k < n → get_or first (suc k) 0 ≢ 0) → (L : ℕ) → 1 ≤ L → L ≤ n → get_or first L 0 ≢ 0
    from a zero l m = absurd (omega arith)
    from a (suc k) l m = a k m

pub used_same : {ends first : List ℕ} → Firsts ends first → (n : ℕ) → n < length first → used_in first n ≡ in_use ends n
unfolding used_in in_use
used_same F zero h = refl
used_same F (suc n) h = rw (F.each (suc n) h, used_same F n (omega arith))

-- ---- one kind in each level

-- an end has no level, or is the one noted there
abbrev pub Alike : List ℕ → ℕ → Type 0
Alike first v = (v < 2) ⊎ (get_or first (v / 2) 0 ≡ v)

module _ {ends first : List ℕ} (F : Firsts ends first) (room : top ends < length first) where
  abbrev First : ℕ → Type 0
  First v = (v / 2 ≡ 0) ⊎ (v ≡ first_at (v / 2) ends)

  noted_first : (k d : ℕ) → k < length ends → get_or first (get_or ends k d / 2) 0 ≡ first_at (get_or ends k d / 2) ends
  noted_first k d h = let l = level_top ends k d h in F.each (get_or ends k d / 2) (omega arith)

  to_first : All (Alike first) ends → All First ends
  to_first a k d h =
      elim (a k d h) [ inl l ↦ inl (omega arith) | inr e ↦ inr (sym e ∙ noted_first k d h) ]

  from_first : All First ends → All (Alike first) ends
  from_first a k d h =
      elim (a k d h) [ inl z ↦ inl (omega arith) | inr e ↦ inr (noted_first k d h ∙ sym e) ]

  one_first : (vs : List ℕ) → Decides (one_kind ends vs) (All First vs)
  unfolding one_kind level_of
  one_first =
      Decides-by_and (λ v. eqb (v / 2) 0 || eqb v (first_at (v / 2) ends)) First (one_kind ends)
      (λ v. Decides-or (eqb (v / 2) 0) (eqb v (first_at (v / 2) ends)) (Decides-eqb (v / 2) 0) (Decides-eqb v (first_at (v / 2) ends)))
      refl (λ _ _. refl)

  pub alike_each : (r : Bool) → Decides r (All (Alike first) ends) → r ≡ one_kind ends ends
  alike_each r h = same_from_decides r (one_kind ends ends) (Decides-like r to_first from_first h) (one_first ends)

-- ---- the ways that the test ends

module _ (ends : List ℕ) {h : ℕ} (high : h ≡ top ends) where
  pub too_high : 64 < h → false ≡ shaped ends
  unfolding shaped
  too_high l = sym (rw (← high, lt-leb h 64 l))

  module _ (low : h ≤ 64) {first : List ℕ} (F : Firsts ends first) (room : h < length first) where
    pub unused : {b : Bool} → b ≡ used_in first h → b ≡ false → false ≡ shaped ends
    unfolding shaped
    unused e f = sym (rw (← high, le-leb h 64 low, ← (used_same F h room), ← e, f))

    pub kinds : {b r : Bool} → b ≡ used_in first h → b ≡ true → r ≡ one_kind ends ends → r ≡ shaped ends
    unfolding shaped
    kinds e f k = rw (← high, le-leb h 64 low, ← (used_same F h room), ← e, f) k
