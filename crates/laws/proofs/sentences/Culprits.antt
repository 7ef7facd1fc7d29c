-- The two culprits of a table that is no permutation: the lowest bad dart, and "which lower dart already has that successor, or that the successor is
-- out of range".
--   Lower t d x    == a dart below d has the successor x
--   Faulty D t p   == the successor of p is D or more, or repeats a lower dart's
--   Lowest D t p   == p is faulty, and no lower dart is
--   One t p c      == c is the one dart below p that has p's successor
--   Beside D t p c == c is the second culprit beside p
--   one_culprit    == at the lowest faulty dart exactly one lower dart has its successor, where that is a dart
--   culprit_beside == the test names that one, and D where the successor is out of range
use mathlib.Core.Bool.{Bool, true, false, ◌||◌}
use mathlib.Core.List.{List, []}
use mathlib.Core.Logic.{◌↔◌, ◌⊎◌, inl, inr}
use mathlib.Core.Path.{◌≡◌, refl, sym, ◌∙◌}
use Prim.Native.Nat.{ℕ, zero, suc, ◌<◌, ◌≤◌}
use native.Mathlib.Decide.{dec_lt}
use native.Mathlib.Omega.{arith}
use lib.Dec.{T, eqb, leb, leb→le, le→leb, eqb→eq}
use lib.ListN.{get_or}
use Rattle.permutations.specs.Choice.{T?, T→true, not_T→false, or_iff}
use Rattle.std.proofs.Common.{if◌then◌else◌}
use Rattle.darts.specs.Map.{successor, gone, survives, before_in, repeats, culprit}
use Rattle.laws.proofs.bridge.StandsBy.{repeats_some}
use Rattle.laws.proofs.bridge.Bases.{repeated}

pub record Lower (t : List ℕ) (d x : ℕ) : Type 0 where
  pub dart : ℕ
  pub below : dart < d
  pub same : get_or t dart 0 ≡ x

abbrev pub Faulty : ℕ → List ℕ → ℕ → Type 0
Faulty D t p = (D ≤ get_or t p 0) ⊎ Lower t p (get_or t p 0)

pub record Lowest (D : ℕ) (t : List ℕ) (p : ℕ) : Type 0 where
  pub faulty : Faulty D t p
  pub lowest : (y : ℕ) → y < p → ¬ (Faulty D t y)

-- "which lower dart already has that successor"
pub record One (t : List ℕ) (p c : ℕ) : Type 0 where
  pub below : c < p
  pub same : get_or t c 0 ≡ get_or t p 0
  pub alone : (y : ℕ) → y < p → get_or t y 0 ≡ get_or t p 0 → y ≡ c

-- "or that the successor is out of range": "D where the value was out of range"
pub data Beside (D : ℕ) (t : List ℕ) (p c : ℕ) : Type 0 where
  outside : D ≤ get_or t p 0 → c ≡ D → Beside D t p c
  inside : get_or t p 0 < D → One t p c → Beside D t p c

-- ---- the tests say what the words say

lower_iff : (t : List ℕ) (d x : ℕ) → T (repeats t d x) ↔ Lower t d x
unfolding successor
lower_iff t d x = (
  λ r. let m = repeats_some t d x r in record { dart = m.0; below = m.1; same = m.2 },
  λ m. repeated t d x m.dart m.below m.same,
)

pub faulty_iff : (D : ℕ) (t : List ℕ) (d : ℕ) → T (leb D (get_or t d 0) || repeats t d (get_or t d 0)) ↔ Faulty D t d
faulty_iff D t d = or_iff (leb D (get_or t d 0)) (repeats t d (get_or t d 0)) (leb→le D (get_or t d 0), le→leb D (get_or t d 0)) (lower_iff t d (get_or t d 0))

-- ---- just one culprit

module _ {D : ℕ} {t : List ℕ} {p : ℕ} (L : Lowest D t p) where
  -- of two lower darts with one successor the higher would be faulty, too
  not_two : (x y : ℕ) → y < p → x < y → get_or t x 0 ≡ get_or t y 0 → ⊥
  not_two x y h l e = L.lowest y h (inr (record { dart = x; below = l; same = e }))

  alone : (c : ℕ) → c < p → get_or t c 0 ≡ get_or t p 0 → (y : ℕ) → y < p → get_or t y 0 ≡ get_or t p 0 → y ≡ c
  alone c h e y k f = go (dec_lt y c) (dec_lt c y)
    where
      go : Dec (y < c) → Dec (c < y) → y ≡ c
      go (yes l) d = absurd (not_two y c h l (f ∙ sym e))
      go (no n) (yes l) = absurd (not_two c y k l (e ∙ sym f))
      go (no n) (no m) = omega arith

  -- AT THE LOWEST FAULTY DART EXACTLY ONE LOWER DART HAS ITS SUCCESSOR, WHERE THAT IS A DART
  pub one_culprit : get_or t p 0 < D → (c : ℕ) × One t p c
  one_culprit h = go L.faulty
    where
      go : Faulty D t p → (c : ℕ) × One t p c
      go (inl o) = absurd (omega arith)
      go (inr l) = (l.dart, record { below = l.below; same = l.same; alone = alone l.dart l.below l.same })

-- ---- the culprit that the test names

-- nothing is gone: the dart before x among the first n is one of them, and leads there
named : (n : ℕ) (t : List ℕ) (x : ℕ) → T (repeats t n x) → (before_in n t [] x < n) × (successor t (before_in n t [] x) ≡ x)
unfolding repeats before_in survives gone
named zero t x r = absurd r
named (suc n) t x r = go (eqb (successor t n) x) refl r (named n t x)
  where
    go : (b : Bool) → eqb (successor t n) x ≡ b → T (b || repeats t n x)
        → (T (repeats t n x) → (before_in n t [] x < n) × (successor t (before_in n t [] x) ≡ x))
        → ((if b then n else before_in n t [] x) < suc n) × (successor t (if b then n else before_in n t [] x) ≡ x)
    go true e r rest = (omega arith, eqb→eq (successor t n) x (rw e tt))
    go false e r rest = let (l, s) = rest r in (omega arith, s)

-- THE TEST NAMES THE SECOND CULPRIT
pub culprit_beside : {D : ℕ} {t : List ℕ} {p : ℕ} → Lowest D t p → Beside D t p (culprit D t p)
unfolding culprit successor
culprit_beside {D} {t} {p} L = go (T? (leb D (get_or t p 0))) L.faulty
  where
    go : Dec (T (leb D (get_or t p 0))) → Faulty D t p → Beside D t p (if leb D (get_or t p 0) then D else before_in p t [] (get_or t p 0))
    go (yes o) f = rw (T→true (leb D (get_or t p 0)) o) (outside (leb→le D (get_or t p 0) o) refl)
    go (no n) (inl o) = absurd (n (le→leb D (get_or t p 0) o))
    go (no n) (inr l) =
        let below : ¬ (D ≤ get_or t p 0) = λ o. n (le→leb D (get_or t p 0) o) in
        let (lower, same) = named p t (get_or t p 0) ((lower_iff t p (get_or t p 0)).1 l) in
        rw (not_T→false (leb D (get_or t p 0)) n)
        (inside (omega arith) (record { below = lower; same = same; alone = alone L _ lower same }))
