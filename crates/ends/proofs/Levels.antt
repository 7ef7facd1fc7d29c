-- The levels of the ends.
--   at ends e       == the end of edge e; past the last edge it is 0, so that such an edge survives
--   at_inside       == an edge that ends is one of the edges
--   level_top       == no end is above the top
--   top_least       == the top is no higher than what no end is above
--   First L ends    == an edge whose end is the first of level L
--   first           == there is one where some edge ends at level L
--   in_use_iff      == levels 1 to n are in use where each has an end
--   OneKind ends vs == the ends vs have the kind of the first end of their level
--   one_kind_iff    == so the test says
use mathlib.Core.Bool.{Bool, true, false, ◌||◌}
use mathlib.Core.List.{List, [], ◌∷◌}
use mathlib.Core.Logic.{◌↔◌, ◌⊎◌, inl, inr, ⊎_elim}
use mathlib.Core.Path.{◌≡◌, refl, sym, subst}
use Prim.Native.Nat.{ℕ, zero, suc, ◌≤◌, ◌<◌}
use native.Mathlib.Decide.{ℕ_discrete, dec_lt}
use native.Mathlib.Omega.{arith}
use lib.Dec.{T, eqb, leb, ltb, eqb→eq, leb→le, le→leb, ltb→lt, nltb→le}
use lib.ListN.{get_or, length, get_or-eq_default}
use Rattle.permutations.specs.Choice.{eqb_same, eqb_other, eqb_iff, or_intro, or_cases, and_intro, and_left, and_right}
use Rattle.std.proofs.Common.{if◌then◌else◌}
use Rattle.ends.specs.Ends.{level_of, top, first_at, in_use, one_kind}

abbrev pub at : List ℕ → ℕ → ℕ
at ends e = get_or ends e 0

pub at_inside : (ends : List ℕ) (e : ℕ) → 1 ≤ level_of (at ends e) → e < length ends
unfolding level_of
at_inside ends e h = go (dec_lt e (length ends))
  where
    go : Dec (e < length ends) → e < length ends
    go (yes l) = l
    go (no n) = let z : at ends e ≡ 0 = get_or-eq_default ends 0 (omega arith) in absurd (omega arith)

-- ---- the top

pub level_top : (ends : List ℕ) (e : ℕ) → level_of (at ends e) ≤ top ends
unfolding top level_of
level_top [] e = omega arith
level_top (v ∷ ends) e = go (ltb (top ends) (level_of v)) refl e (level_top ends)
  where
    go : (b : Bool) → ltb (top ends) (level_of v) ≡ b → (e : ℕ) → ((e : ℕ) → level_of (at ends e) ≤ top ends)
        → level_of (at (v ∷ ends) e) ≤ (if b then level_of v else top ends)
    go true q zero rest = omega arith
    go true q (suc e) rest = let l = ltb→lt (top ends) (level_of v) (subst T (sym q) tt) in let r = rest e in omega arith
    go false q zero rest = nltb→le (top ends) (level_of v) (rw q tt)
    go false q (suc e) rest = rest e

pub top_least : (ends : List ℕ) (n : ℕ) → ((e : ℕ) → level_of (at ends e) ≤ n) → top ends ≤ n
unfolding top
top_least [] n h = omega arith
top_least (v ∷ ends) n h = go (ltb (top ends) (level_of v)) (top_least ends n (λ e. h (suc e)))
  where
    go : (b : Bool) → top ends ≤ n → (if b then level_of v else top ends) ≤ n
    go true r = h 0
    go false r = r

-- ---- the first end of a level

pub record First (L : ℕ) (ends : List ℕ) : Type 0 where
  pub edge : ℕ
  pub end : at ends edge ≡ first_at L ends
  pub level : level_of (first_at L ends) ≡ L

pub first : (L : ℕ) (ends : List ℕ) (e : ℕ) → e < length ends → level_of (at ends e) ≡ L → First L ends
unfolding first_at
first L [] e l h = absurd (omega arith)
first L (v ∷ ends) e l h = go (ℕ_discrete (level_of v) L) e l h (first L ends)
  where
    go : Dec (level_of v ≡ L) → (e : ℕ) → e < suc (length ends) → level_of (at (v ∷ ends) e) ≡ L
        → ((e : ℕ) → e < length ends → level_of (at ends e) ≡ L → First L ends) → First L (v ∷ ends)
    go (yes q) e l h rest = record { edge = 0; end = rw (eqb_same q); level = rw (eqb_same q) q }
    go (no n) zero l h rest = absurd (n h)
    go (no n) (suc e) l h rest =
        let F = rest e (omega arith) h in
        record { edge = suc F.edge; end = rw (eqb_other n) F.end; level = rw (eqb_other n) F.level }

found : (L : ℕ) (ends : List ℕ) → 1 ≤ first_at L ends → First L ends
unfolding first_at
found L [] h = absurd (omega arith)
found L (v ∷ ends) h = go (ℕ_discrete (level_of v) L) h (found L ends)
  where
    go : Dec (level_of v ≡ L) → 1 ≤ (if eqb (level_of v) L then v else first_at L ends) → (1 ≤ first_at L ends → First L ends) → First L (v ∷ ends)
    go (yes q) h rest = record { edge = 0; end = rw (eqb_same q); level = rw (eqb_same q) q }
    go (no n) h rest =
        let F = rest (rw (eqb_other n) at h) in
        record { edge = suc F.edge; end = rw (eqb_other n) F.end; level = rw (eqb_other n) F.level }

-- ---- the form of a pyramid's levels

-- LEVELS 1 TO n ARE IN USE WHERE EACH OF THEM HAS AN END
pub in_use_iff : (ends : List ℕ) (n : ℕ) → T (in_use ends n) ↔ ((L : ℕ) → 1 ≤ L → L ≤ n → First L ends)
unfolding in_use level_of
in_use_iff ends zero = (λ t L l h. absurd (omega arith), λ f. tt)
in_use_iff ends (suc n) = (
  λ t L l h. go (and_left found? (in_use ends n) t) ((in_use_iff ends n).0 (and_right found? (in_use ends n) t)) L l h (ℕ_discrete L (suc n)),
  λ f.
      let k = (f (suc n) (omega arith) (omega arith)).level in
      and_intro found? (in_use ends n) (le→leb 1 (first_at (suc n) ends) (omega arith)) ((in_use_iff ends n).1 (λ L l h. f L l (omega arith))),
)
  where
    found? : Bool
    found? = leb 1 (first_at (suc n) ends)

    go : T found? → ((L : ℕ) → 1 ≤ L → L ≤ n → First L ends) → (L : ℕ) → 1 ≤ L → L ≤ suc n → Dec (L ≡ suc n) → First L ends
    go t rest L l h (yes q) = subst (λ L. First L ends) (sym q) (found (suc n) ends (leb→le 1 (first_at (suc n) ends) t))
    go t rest L l h (no k) = rest L l (omega arith)

-- THE ENDS vs HAVE THE KIND OF THE FIRST END OF THEIR LEVEL
abbrev pub OneKind : List ℕ → List ℕ → Type 0
OneKind ends vs = (i : ℕ) → 1 ≤ level_of (at vs i) → at vs i ≡ first_at (level_of (at vs i)) ends

kind_iff : (ends : List ℕ) (v : ℕ) → T (eqb (level_of v) 0 || eqb v (first_at (level_of v) ends)) ↔ (1 ≤ level_of v → v ≡ first_at (level_of v) ends)
kind_iff ends v = (
  λ t l. ⊎_elim (λ z. let k = eqb→eq (level_of v) 0 z in absurd (omega arith)) (eqb→eq v (first_at (level_of v) ends))
      (or_cases (eqb (level_of v) 0) (eqb v (first_at (level_of v) ends)) t),
  λ f. or_intro (eqb (level_of v) 0) (eqb v (first_at (level_of v) ends)) (go f (ℕ_discrete (level_of v) 0)),
)
  where
    go : (1 ≤ level_of v → v ≡ first_at (level_of v) ends) → Dec (level_of v ≡ 0) → T (eqb (level_of v) 0) ⊎ T (eqb v (first_at (level_of v) ends))
    go f (yes z) = inl ((eqb_iff (level_of v) 0).1 z)
    go f (no n) = inr ((eqb_iff v (first_at (level_of v) ends)).1 (f (omega arith)))

pub one_kind_iff : (ends vs : List ℕ) → T (one_kind ends vs) ↔ OneKind ends vs
unfolding one_kind level_of
one_kind_iff ends [] = (λ t i h. absurd (omega arith), λ f. tt)
one_kind_iff ends (v ∷ vs) = (
  λ t. to ((kind_iff ends v).0 (and_left here (one_kind ends vs) t)) ((one_kind_iff ends vs).0 (and_right here (one_kind ends vs) t)),
  λ f. and_intro here (one_kind ends vs) ((kind_iff ends v).1 (f 0)) ((one_kind_iff ends vs).1 (λ i. f (suc i))),
)
  where
    here : Bool
    here = eqb (level_of v) 0 || eqb v (first_at (level_of v) ends)

    to : (1 ≤ level_of v → v ≡ first_at (level_of v) ends) → OneKind ends vs → OneKind ends (v ∷ vs)
    to this rest zero h = this h
    to this rest (suc i) h = rest i h
