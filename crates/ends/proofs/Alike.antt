-- "level 0 meaning that the edge survives (its kind is not looked at)" (document 02, request Four): ends that differ only there.
--   AlikeEnds a b == lists of as many ends, each the same or both of level 0
--   alike_ends    == so they are where it is so place by place
--   alike_top, alike_gone, alike_walk, alike_comes == then nothing tells them apart: neither the top, nor what is gone by a level, nor the walk, nor
--                    whether they come from a pyramid
use mathlib.Core.Bool.{◌&&◌, ◌||◌}
use mathlib.Core.List.{List, [], ◌∷◌, ◌++◌}
use mathlib.Core.Logic.{◌⊎◌, inl, inr, ⊎_elim}
use mathlib.Core.Path.{◌≡◌, refl, sym, ◌∙◌, ap, ap₂}
use Prim.Native.Nat.{ℕ, zero, suc, ◌/◌, ◌≤◌, ◌<◌}
use native.Mathlib.Omega.{arith}
use lib.Dec.{T, eqb, leb, leb→le, le→leb}
use lib.ListN.{length, get_or}
use Rattle.permutations.specs.Choice.{T?, T→true, not_T→false, eqb_other}
use Rattle.darts.specs.Map.{successor, permutation_test, passed}
use Rattle.darts.specs.Operation.{Kind, contraction, removal, kind_of}
use Rattle.darts.specs.Kernel.{each}
use Rattle.darts.specs.OneByOne.{one_by_one}
use Rattle.ends.specs.Ends.{level_of, end_of, gone_by, top, first_at, in_use, one_kind, shaped, ending_from, ending}
use Rattle.ends.specs.Walk.{onward_by, onward, walk_from, walk}
use Rattle.ends.specs.Comes.{ends_so, operations, accepted, comes}
use Rattle.ends.proofs.Accepted.{so_iff}
use Rattle.ends.proofs.Told.{so_by, so_same}

abbrev pub AlikeEnds : List ℕ → List ℕ → Type 0
AlikeEnds [] [] = Unit {0}
AlikeEnds [] (w ∷ b) = ⊥
AlikeEnds (v ∷ a) [] = ⊥
AlikeEnds (v ∷ a) (w ∷ b) = T (ends_so v w) × AlikeEnds a b

pub alike_ends : (a b : List ℕ) → length a ≡ length b → ((e : ℕ) → e < length a → T (ends_so (get_or a e 0) (get_or b e 0))) → AlikeEnds a b
alike_ends [] [] s h = tt
alike_ends [] (w ∷ b) s h = absurd (omega arith)
alike_ends (v ∷ a) [] s h = absurd (omega arith)
alike_ends (v ∷ a) (w ∷ b) s h = (h 0 (omega arith), alike_ends a b (omega arith) (λ e l. h (suc e) (omega arith)))

-- ---- one end

so_level : (v w : ℕ) → T (ends_so v w) → level_of v ≡ level_of w
so_level v w h = ⊎_elim (ap level_of) (λ z. z.0 ∙ sym z.1) ((so_iff v w).0 h)

so_zero : T (ends_so 0 0)
unfolding ends_so
so_zero = tt

alike_at : (a b : List ℕ) → AlikeEnds a b → (i : ℕ) → T (ends_so (get_or a i 0) (get_or b i 0))
alike_at [] [] s i = so_zero
alike_at [] (w ∷ b) s i = absurd s
alike_at (v ∷ a) [] s i = absurd s
alike_at (v ∷ a) (w ∷ b) s zero = s.0
alike_at (v ∷ a) (w ∷ b) s (suc i) = alike_at a b s.1 i

-- ---- the top, and what is gone

pub alike_top : (a b : List ℕ) → AlikeEnds a b → top a ≡ top b
unfolding top
alike_top [] [] s = refl
alike_top [] (w ∷ b) s = absurd s
alike_top (v ∷ a) [] s = absurd s
alike_top (v ∷ a) (w ∷ b) s = rw (alike_top a b s.1, so_level v w s.0) refl

pub alike_gone : (k : ℕ) (a b : List ℕ) → AlikeEnds a b → (d : ℕ) → gone_by k a d ≡ gone_by k b d
unfolding gone_by end_of
alike_gone k a b s d = so_by k (get_or a (d / 2) 0) (get_or b (d / 2) 0) (alike_at a b s (d / 2))

-- ---- the walk: it looks at the kind of a gone dart's edge alone

alike_onward : (k : ℕ) (t a b : List ℕ) → AlikeEnds a b → (d : ℕ) → T (gone_by k b d) → onward t a d ≡ onward t b d
unfolding onward gone_by end_of
alike_onward k t a b s d g = ap (λ v. onward_by (kind_of v) t d) (so_same k (get_or a (d / 2) 0) (get_or b (d / 2) 0) (alike_at a b s (d / 2)) g)

alike_from : (n k : ℕ) (t a b : List ℕ) → AlikeEnds a b → (y i : ℕ) → walk_from n k t a y i ≡ walk_from n k t b y i
unfolding walk_from
alike_from zero k t a b s y i = refl
alike_from (suc n) k t a b s y i = go (T? (gone_by k b y)) (λ z. alike_from n k t a b s z (suc i))
  where
    go : Dec (T (gone_by k b y)) → ((z : ℕ) → walk_from n k t a z (suc i) ≡ walk_from n k t b z (suc i))
        → walk_from (suc n) k t a y i ≡ walk_from (suc n) k t b y i
    go (yes g) on = rw (alike_gone k a b s y, T→true (gone_by k b y) g, alike_onward k t a b s y g) (on (onward t b y))
    go (no m) on = rw (alike_gone k a b s y, not_T→false (gone_by k b y) m) refl

pub alike_walk : (D k : ℕ) (t a b : List ℕ) → AlikeEnds a b → (x : ℕ) → walk D k t a x ≡ walk D k t b x
unfolding walk
alike_walk D k t a b s x = alike_from D k t a b s (successor t x) 0

-- ---- the form of the levels

alike_first : (L : ℕ) (a b : List ℕ) → 1 ≤ L → AlikeEnds a b → first_at L a ≡ first_at L b
unfolding first_at
alike_first L [] [] l s = refl
alike_first L [] (w ∷ b) l s = absurd s
alike_first L (v ∷ a) [] l s = absurd s
alike_first L (v ∷ a) (w ∷ b) l s = go ((so_iff v w).0 s.0) (alike_first L a b l s.1)
  where
    go : (v ≡ w) ⊎ ((level_of v ≡ 0) × (level_of w ≡ 0)) → first_at L a ≡ first_at L b → first_at L (v ∷ a) ≡ first_at L (w ∷ b)
    go (inl e) r = rw (e, r) refl
    go (inr z) r =
        let n : ¬ (level_of v ≡ L) = λ e. (let y = z.0 in omega arith) in
        let m : ¬ (level_of w ≡ L) = λ e. (let y = z.1 in omega arith) in
        rw (eqb_other n, eqb_other m) r

alike_use : (a b : List ℕ) → AlikeEnds a b → (n : ℕ) → in_use a n ≡ in_use b n
unfolding in_use
alike_use a b s zero = refl
alike_use a b s (suc n) = ap₂ (λ v c. leb 1 v && c) (alike_first (suc n) a b (omega arith) s) (alike_use a b s n)

alike_one : (a b vs ws : List ℕ) → AlikeEnds a b → AlikeEnds vs ws → one_kind a vs ≡ one_kind b ws
unfolding one_kind
alike_one a b [] [] s r = refl
alike_one a b [] (w ∷ ws) s r = absurd r
alike_one a b (v ∷ vs) [] s r = absurd r
alike_one a b (v ∷ vs) (w ∷ ws) s r = ap₂ (λ c d. c && d) (own ((so_iff v w).0 r.0)) (alike_one a b vs ws s r.1)
  where
    level : Dec (T (leb 1 (level_of w))) → (eqb (level_of w) 0 || eqb w (first_at (level_of w) a)) ≡ (eqb (level_of w) 0 || eqb w (first_at (level_of w) b))
    level (yes l) = ap (λ c. eqb (level_of w) 0 || eqb w c) (alike_first (level_of w) a b (leb→le 1 (level_of w) l) s)
    level (no n) = let z : level_of w ≡ 0 = (let m : ¬ (1 ≤ level_of w) = λ l. n (le→leb 1 (level_of w) l) in omega arith) in rw z refl

    own : (v ≡ w) ⊎ ((level_of v ≡ 0) × (level_of w ≡ 0))
        → (eqb (level_of v) 0 || eqb v (first_at (level_of v) a)) ≡ (eqb (level_of w) 0 || eqb w (first_at (level_of w) b))
    own (inl e) = rw e (level (T? (leb 1 (level_of w))))
    own (inr z) = rw (z.0, z.1) refl

alike_shaped : (a b : List ℕ) → AlikeEnds a b → shaped a ≡ shaped b
unfolding shaped
alike_shaped a b s =
    ap₂ (λ c d. c && d) (ap (λ n. leb n 64) (alike_top a b s))
    (ap₂ (λ c d. c && d) (alike_use a b s (top a) ∙ ap (in_use b) (alike_top a b s)) (alike_one a b a b s s))

-- ---- the operations that they tell

alike_ending : (κ : Kind) (e : ℕ) (a b : List ℕ) → AlikeEnds a b → ending_from κ e a ≡ ending_from κ e b
unfolding ending_from
alike_ending κ e [] [] s = refl
alike_ending κ e [] (w ∷ b) s = absurd s
alike_ending κ e (v ∷ a) [] s = absurd s
alike_ending κ e (v ∷ a) (w ∷ b) s = go ((so_iff v w).0 s.0) (alike_ending κ (suc e) a b s.1)
  where
    go : (v ≡ w) ⊎ ((level_of v ≡ 0) × (level_of w ≡ 0)) → ending_from κ (suc e) a ≡ ending_from κ (suc e) b
        → ending_from κ e (v ∷ a) ≡ ending_from κ e (w ∷ b)
    go (inl i) r = rw (i, r) refl
    go (inr z) r = rw (z.0, z.1) r

alike_operations : (a b : List ℕ) → AlikeEnds a b → operations a ≡ operations b
unfolding operations ending
alike_operations a b s = ap₂ (λ c r. each contraction c ++ each removal r) (alike_ending contraction 0 a b s) (alike_ending removal 0 a b s)

-- SO THEY COME FROM A PYRAMID TOGETHER
pub alike_comes : (D : ℕ) (t a b : List ℕ) → AlikeEnds a b → comes D t a ≡ comes D t b
unfolding comes
alike_comes D t a b s =
    ap (λ c. passed (permutation_test D t) && c)
    (ap₂ (λ c os. c && accepted (one_by_one D t [] os)) (alike_shaped a b s) (alike_operations a b s))
