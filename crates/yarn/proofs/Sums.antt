-- Sums over places, in any order: of numbers by _+_, and of tests by _&&_.
--   Adds add unit == what is added up may be added in any order, and the unit adds nothing
--   plus, both    == so it is of numbers, and of tests
--   without i f   == f, and nothing at i
--   sum_same      == what is added up decides the sum
--   sum_out       == one place may be added first
--   sum_moved     == what one place has may be moved to another one
--   sum_one       == where one place alone has something, that is the sum
--   sum_bounded   == a sum of n numbers is at most n times their bound
--   two_within    == two of them are at most the sum
use mathlib.Core.Bool.{Bool, true, false, ◌&&◌}
use mathlib.Core.Logic.{◌≢◌}
use mathlib.Core.Path.{◌≡◌, refl, sym, ap, ap₂, ◌∙◌}
use Prim.Native.Nat.{ℕ, zero, suc, ◌+◌, ◌*◌, ◌≤◌, ◌<◌}
use native.Mathlib.Decide.{ℕ_discrete}
use native.Mathlib.Nat.{not-suc-le-zero}
use native.Mathlib.Omega.{arith}
use lib.Dec.{eqb}
use Rattle.permutations.specs.Choice.{pick, eqb_same, eqb_other}
use Rattle.yarn.specs.Totals.{summed}

pub record Adds {A : Type 0} (add : A → A → A) (unit : A) : Type 0 where
  pub turn : (a b : A) → add a b ≡ add b a
  pub group : (a b c : A) → add (add a b) c ≡ add a (add b c)
  pub nothing : (a : A) → add a unit ≡ a

pub plus : Adds ◌+◌ 0
plus = record { turn = λ a b. omega arith; group = λ a b c. omega arith; nothing = λ a. omega arith }

pub both : Adds ◌&&◌ true
both = record { turn = turn; group = group; nothing = nothing }
  where
    turn : (a b : Bool) → a && b ≡ b && a
    turn true true = refl
    turn true false = refl
    turn false true = refl
    turn false false = refl

    group : (a b c : Bool) → (a && b) && c ≡ a && (b && c)
    group true b c = refl
    group false b c = refl

    nothing : (a : Bool) → a && true ≡ a
    nothing true = refl
    nothing false = refl

module _ {A : Type 0} {add : A → A → A} {unit : A} (M : Adds add unit) where
  pub sum_same : (f g : ℕ → A) (n : ℕ) → ((x : ℕ) → x < n → f x ≡ g x) → summed add unit f n ≡ summed add unit g n
  unfolding summed
  sum_same f g zero e = refl
  sum_same f g (suc n) e = ap₂ add (sum_same f g n (λ x h. e x (omega arith))) (e n (omega arith))

  sum_none : (f : ℕ → A) (n : ℕ) → ((x : ℕ) → x < n → f x ≡ unit) → summed add unit f n ≡ unit
  unfolding summed
  sum_none f zero e = refl
  sum_none f (suc n) e = ap₂ add (sum_none f n (λ x h. e x (omega arith))) (e n (omega arith)) ∙ M.nothing unit

  abbrev without : ℕ → (ℕ → A) → ℕ → A
  without i f x = pick (eqb x i) unit (f x)

  without_at : (i : ℕ) (f : ℕ → A) {x : ℕ} → x ≡ i → without i f x ≡ unit
  without_at i f e = rw (eqb_same e)

  without_off : (i : ℕ) (f : ℕ → A) {x : ℕ} → x ≢ i → without i f x ≡ f x
  without_off i f n = rw (eqb_other n)

  -- the place i first
  sum_out : (f : ℕ → A) (i n : ℕ) → i < n → summed add unit f n ≡ add (f i) (summed add unit (without i f) n)
  unfolding summed
  sum_out f i zero h = absurd (not-suc-le-zero h)
  sum_out f i (suc n) h = go (ℕ_discrete i n) (sum_out f i n)
    where
      go : Dec (i ≡ n) → (i < n → summed add unit f n ≡ add (f i) (summed add unit (without i f) n))
          → add (summed add unit f n) (f n) ≡ add (f i) (add (summed add unit (without i f) n) (without i f n))
      go (yes e) before =
          let rest : summed add unit f n ≡ summed add unit (without i f) n =
          sum_same f (without i f) n (λ x l. sym (without_off i f (λ z. omega arith))) in
          let last : without i f n ≡ unit = without_at i f (sym e) in
          rw last (rw M.nothing (ap₂ add rest (ap f (sym e)) ∙ M.turn _ _))
      go (no o) before =
          let last : without i f n ≡ f n = without_off i f (λ z. o (sym z)) in
          rw last (ap (λ a. add a (f n)) (before (omega arith)) ∙ M.group _ _ _)

  -- WHAT THE PLACE j HAS IS MOVED TO THE PLACE i
  pub sum_moved : (f g : ℕ → A) (i j n : ℕ) → i < n → j < n → i ≢ j → g i ≡ add (f i) (f j) → g j ≡ unit
      → ((x : ℕ) → x < n → x ≢ i → x ≢ j → g x ≡ f x) → summed add unit g n ≡ summed add unit f n
  sum_moved f g i j n hi hj apart at_i at_j others =
      let rest : (ℕ → A) → A = λ k. summed add unit (without j (without i k)) n in
      let two : (k : ℕ → A) → summed add unit k n ≡ add (add (k i) (k j)) (rest k) =
      λ k. sum_out k i n hi ∙ ap (add (k i)) (sum_out (without i k) j n hj ∙ ap (λ a. add a (rest k)) (without_off i k (λ z. apart (sym z))))
      ∙ sym (M.group _ _ _) in
      let same : rest g ≡ rest f = sum_same _ _ n (λ x h. outside x h (ℕ_discrete x i) (ℕ_discrete x j)) in
      two g ∙ ap₂ add (ap₂ add at_i at_j ∙ M.nothing _) same ∙ sym (two f)
    where
      outside : (x : ℕ) → x < n → Dec (x ≡ i) → Dec (x ≡ j) → without j (without i g) x ≡ without j (without i f) x
      outside x h a (yes e) = without_at j (without i g) e ∙ sym (without_at j (without i f) e)
      outside x h (yes e) (no o) =
          without_off j (without i g) o ∙ without_at i g e ∙ sym (without_off j (without i f) o ∙ without_at i f e)
      outside x h (no a) (no o) =
          without_off j (without i g) o ∙ without_off i g a ∙ others x h a o ∙ sym (without_off j (without i f) o ∙ without_off i f a)

  pub sum_one : (f : ℕ → A) (i n : ℕ) → i < n → ((x : ℕ) → x < n → x ≢ i → f x ≡ unit) → summed add unit f n ≡ f i
  sum_one f i n h none =
      sum_out f i n h ∙ ap (add (f i)) (sum_none (without i f) n (λ x l. outside x l (ℕ_discrete x i))) ∙ M.nothing (f i)
    where
      outside : (x : ℕ) → x < n → Dec (x ≡ i) → without i f x ≡ unit
      outside x l (yes e) = without_at i f e
      outside x l (no o) = without_off i f o ∙ none x l o

-- ---- numbers

pub sum_bounded : (f : ℕ → ℕ) (m n : ℕ) → ((x : ℕ) → x < n → f x ≤ m) → summed ◌+◌ 0 f n ≤ n * m
unfolding summed
sum_bounded f m zero h = omega arith
sum_bounded f m (suc n) h =
    let most = sum_bounded f m n (λ x l. h x (omega arith)) in
    let last = h n (omega arith) in
    omega arith

pub two_within : (f : ℕ → ℕ) (i j n : ℕ) → i < n → j < n → i ≢ j → f i + f j ≤ summed ◌+◌ 0 f n
two_within f i j n hi hj apart =
    let one : summed ◌+◌ 0 f n ≡ f i + summed ◌+◌ 0 (without plus i f) n = sum_out plus f i n hi in
    let two : summed ◌+◌ 0 (without plus i f) n ≡ without plus i f j + summed ◌+◌ 0 (without plus j (without plus i f)) n = sum_out plus (without plus i f) j n hj in
    let same : without plus i f j ≡ f j = without_off plus i f (λ z. apart (sym z)) in
    omega (arith, one, two, same)
