-- A forest that starts from classes: each number's parent is the lowest number of its class, so every root is one step away.
-- It is made of a fresh forest by going up through the numbers: where i is still its own parent, i is written at its whole class.
--
--   Classes S         == S says which numbers are in one class: each with itself, both ways round, and on through a third
--   Lowest S n i t    == t has n numbers; each parent is in the class of its child, and none of the first i numbers in that class is below it
--   Marked S n i t t' == t' is t with i written at each number of i's class
--   lowest_fresh      == a fresh forest is a start
--   lowest_falls      == it is a forest at every stage
--   lowest_passed     == where i is not its own parent, its class is done already
--   lowest_marked     == where i is its own parent, it is the lowest of its class, and marking does the class
--   lowest_root       == once all are done, the parent is the root
--   lowest_same       == and two numbers have the same root exactly where they are in one class
use Rattle.std.specs.Prelude.{◌≡◌, ◌≢◌, ◌⊎◌, ◌↔◌, List, ℕ, ◌+◌, ◌≤◌, ◌<◌, length}
use Rattle.std.proofs.Common.{sym, ◌∙◌, ⊎_elim, arith}
use Rattle.std.proofs.Math.Logic.{by_cases}
use Rattle.std.proofs.Math.Decide.{ℕ_discrete, dec_lt}
use Rattle.forest.specs.Forest.{parent, Falls, root, Fresh}
use Rattle.forest.specs.Roots.{falls_inside, root_top, root_up}

pub record Classes (S : ℕ → ℕ → Type 0) : Type 0 where
  pub own : (x : ℕ) → S x x
  pub back : {x y : ℕ} → S x y → S y x
  pub on : {x y z : ℕ} → S x y → S y z → S x z

pub record Lowest (S : ℕ → ℕ → Type 0) (n i : ℕ) (t : List ℕ) : Type 0 where
  pub size : length t ≡ n
  pub down : (x : ℕ) → x < n → parent t x ≤ x
  pub member : (x : ℕ) → x < n → S x (parent t x)
  pub low : (x y : ℕ) → x < n → y < i → S x y → parent t x ≤ y

pub record Marked (S : ℕ → ℕ → Type 0) (n i : ℕ) (t t' : List ℕ) : Type 0 where
  pub size : length t' ≡ length t
  pub each : (x : ℕ) → x < n → (S x i × (parent t' x ≡ i)) ⊎ ((S x i → ⊥) × (parent t' x ≡ parent t x))

module _ {S : ℕ → ℕ → Type 0} (C : Classes S) {n : ℕ} {t : List ℕ} where
  pub lowest_fresh : Fresh n t → Lowest S n 0 t
  lowest_fresh f =
      record {
        size = f.size;
        down = λ x l. omega (arith, f.own x l);
        member = λ x l. rw (f.own x l) (C.own x);
        low = λ x y l m s. absurd (omega arith);
      }

  module _ {i : ℕ} (L : Lowest S n i t) where
    pub lowest_falls : Falls t
    lowest_falls = falls_inside t (λ x l. L.down x (omega arith))

    pub lowest_passed : i < n → parent t i ≢ i → Lowest S n (i + 1) t
    lowest_passed inside other =
        record {
          size = L.size;
          down = L.down;
          member = L.member;
          low = λ x y l m s.
              by_cases (ℕ_discrete y i)
              (λ e. let d = L.down i inside in
              let q = L.low x (parent t i) l (omega arith) (C.on (rw e at s) (L.member i inside)) in
              omega arith)
              (λ k. L.low x y l (omega arith) s);
        }

    -- a number of i's class that is below i would be done
    lowest_first : i < n → parent t i ≡ i → (x : ℕ) → S x i → i ≤ x
    lowest_first inside own x s =
        by_cases (dec_lt x i)
        (λ h. omega (arith, L.low i x inside h (C.back s)))
        (λ h. omega arith)

    pub lowest_marked : {t' : List ℕ} → i < n → parent t i ≡ i → Marked S n i t t' → Lowest S n (i + 1) t'
    lowest_marked {t'} inside own M = record {
      size = M.size ∙ L.size;
      down = λ x l. ⊎_elim
          (λ m. let f = lowest_first inside own x m.0 in omega arith)
          (λ m. let d = L.down x l in omega arith)
          (M.each x l);
      member = λ x l. ⊎_elim (λ m. rw m.1 m.0) (λ m. rw m.1 (L.member x l)) (M.each x l);
      low = λ x y l h s. ⊎_elim
          (λ m. let f = lowest_first inside own y (C.on (C.back s) m.0) in omega arith)
          (λ m. by_cases (ℕ_discrete y i)
          (λ e. absurd (m.0 (rw e at s)))
          (λ k. let q = L.low x y l (omega arith) s in omega arith))
          (M.each x l);
    }

  module _ (L : Lowest S n n t) where
    pub lowest_root : (x : ℕ) → x < n → root t x ≡ parent t x
    lowest_root x l =
        let d = L.down x l in
        let i : parent t x < n = omega arith in
        let e = L.down (parent t x) i in
        let q = L.low x (parent t (parent t x)) l (omega arith) (C.on (L.member x l) (L.member (parent t x) i)) in
        sym (root_up (lowest_falls L) x) ∙ root_top t (parent t x) (omega arith)

    -- a parent is not above the parent of another number of the class
    lowest_order : (x y : ℕ) → x < n → y < n → S x y → parent t x ≤ parent t y
    lowest_order x y l m s = let d = L.down y m in L.low x (parent t y) l (omega arith) (C.on s (L.member y m))

    pub lowest_same : (x y : ℕ) → x < n → y < n → (root t x ≡ root t y) ↔ S x y
    lowest_same x y l m = (there, back)
      where
        there : root t x ≡ root t y → S x y
        there e =
            let p : parent t x ≡ parent t y = sym (lowest_root x l) ∙ e ∙ lowest_root y m in
            C.on (rw p at (L.member x l)) (C.back (L.member y m))

        back : S x y → root t x ≡ root t y
        back s =
            let p = lowest_order x y l m s in
            let q = lowest_order y x m l (C.back s) in
            let e : parent t x ≡ parent t y = omega arith in
            lowest_root x l ∙ e ∙ sym (lowest_root y m)
