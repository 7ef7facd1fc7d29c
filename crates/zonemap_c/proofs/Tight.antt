-- No two outcomes satisfy the statement of a function.
--   three, five == a list of three numbers or more, and of five, taken apart
--   state_one  == each state has its own 69 numbers
--   tally_one  == each counts have their own three numbers, and the Euler number
--   left_one   == what a call leaves tells the number, the places, the state's numbers and every lent slice
--   counts_one, filed_one, looked_one == the same of counts, of the writer and of a lookup
use mathlib.Core.List.{List, [], ◌∷◌}
use mathlib.Core.Path.{◌≡◌, refl, sym, ap, ◌∙◌}
use Prim.Native.Nat.{ℕ, ◌≤◌}
use native.Mathlib.Omega.{arith}
use lib.IntN.{ℤ}
use lib.ListN.{length, get_or, drop, drop_of_length-le}
use Rattle.darts.specs.Answers.{Answer}
use Rattle.darts.specs.Calls.{After, Counted, Written}
use Rattle.darts.specs.Counts.{Counts as Tally}
use Rattle.darts.specs.State.{State}
use Rattle.ends.specs.Lookup.{Looked}
use Rattle.zonemap_c.specs.Numbers.{state_in, tally_in, answer_in, left_in, counted_in, filed_in, looked_in}

three : (a : List ℕ) → 3 ≤ length a → get_or a 0 0 ∷ get_or a 1 0 ∷ get_or a 2 0 ∷ drop 3 a ≡ a
three [] l = absurd (omega arith)
three (x ∷ []) l = absurd (omega arith)
three (x ∷ y ∷ []) l = absurd (omega arith)
three (x ∷ y ∷ z ∷ a) l = refl

five : (a : List ℕ) → 5 ≤ length a → get_or a 0 0 ∷ get_or a 1 0 ∷ get_or a 2 0 ∷ get_or a 3 0 ∷ get_or a 4 0 ∷ drop 5 a ≡ a
five (x ∷ y ∷ z ∷ v ∷ f ∷ a) l = refl
five (x ∷ y ∷ z ∷ v ∷ []) l = absurd (omega arith)
five (x ∷ y ∷ z ∷ []) l = absurd (omega arith)
five (x ∷ y ∷ []) l = absurd (omega arith)
five (x ∷ []) l = absurd (omega arith)
five [] l = absurd (omega arith)

-- the numbers of a state
abbrev numbers : State → List ℕ
numbers s = s.darts ∷ s.operations ∷ s.levels ∷ s.vertices ∷ s.faces ∷ s.ends

pub state_one : (a b : List ℕ) → length a ≡ 69 → length b ≡ 69 → state_in a ≡ state_in b → a ≡ b
state_one a b k l e = sym (five a (omega arith)) ∙ ap numbers e ∙ five b (omega arith)

pub tally_one : (a b : List ℕ) (d e : ℤ) → length a ≡ 3 → length b ≡ 3 → tally_in a d ≡ tally_in b e → (a ≡ b) × (d ≡ e)
tally_one a b d e k l q = (
  sym (whole a k) ∙ ap (λ (y : Tally). y.darts ∷ y.vertices ∷ y.faces ∷ []) q ∙ whole b l,
  ap (λ (y : Tally). y.euler) q,
)
  where
    whole : (c : List ℕ) → length c ≡ 3 → get_or c 0 0 ∷ get_or c 1 0 ∷ get_or c 2 0 ∷ [] ≡ c
    whole c m =
        let few : length c ≤ 3 = omega arith in
        ap (λ (r : List ℕ). get_or c 0 0 ∷ get_or c 1 0 ∷ get_or c 2 0 ∷ r) (sym (drop_of_length-le c few)) ∙ three c (omega arith)

module _ (n m p q i j : ℕ) (t u h g w v : List ℕ) where
  pub record Same : Type 0 where
    pub number : n ≡ m
    pub place : p ≡ q
    pub second : i ≡ j
    pub table : t ≡ u
    pub history : h ≡ g
    pub work : w ≡ v

  same : answer_in n p i ≡ answer_in m q j → t ≡ u → h ≡ g → w ≡ v → Same
  same a x y z = record { number = ap (λ (b : Answer). b.number) a; place = ap (λ (b : Answer). b.place) a; second = ap (λ (b : Answer). b.second) a; table = x; history = y; work = z }

  -- NO TWO OUTCOMES OF START, PLAN, PLAN_AREAS, CONTRACT, REMOVE, SWEEP, UNDO, UNFOLD OR READ SATISFY ITS STATEMENT
  pub left_one : (a b : List ℕ) → length a ≡ 69 → length b ≡ 69 → (z : After) → left_in n p i a t h w ≡ z → left_in m q j b u g v ≡ z → Same × (a ≡ b)
  left_one a b k l z d e =
      let c : left_in n p i a t h w ≡ left_in m q j b u g v = d ∙ sym e in (
        same (ap (λ (x : After). x.answer) c) (ap (λ (x : After). x.table) c) (ap (λ (x : After). x.history) c) (ap (λ (x : After). x.work) c),
        state_one a b k l (ap (λ (x : After). x.state) c),
      )

  -- NO TWO OUTCOMES OF COUNTS SATISFY ITS STATEMENT
  pub counts_one : (a b : List ℕ) (x y : ℤ) → length a ≡ 3 → length b ≡ 3 → (z : Counted) → counted_in n p i (tally_in a x) t h w ≡ z → counted_in m q j (tally_in b y) u g v ≡ z
      → Same × ((a ≡ b) × (x ≡ y))
  counts_one a b x y k l z d e =
      let c : counted_in n p i (tally_in a x) t h w ≡ counted_in m q j (tally_in b y) u g v = d ∙ sym e in (
        same (ap (λ (x : Counted). x.answer) c) (ap (λ (x : Counted). x.table) c) (ap (λ (x : Counted). x.history) c) (ap (λ (x : Counted). x.work) c),
        tally_one a b x y k l (ap (λ (r : Counted). r.counts) c),
      )

  -- NO TWO OUTCOMES OF WRITE SATISFY ITS STATEMENT
  pub filed_one : (o r : List ℕ) (z : Written) → filed_in n p i t h w o ≡ z → filed_in m q j u g v r ≡ z → Same × (o ≡ r)
  filed_one o r z d e =
      let c : filed_in n p i t h w o ≡ filed_in m q j u g v r = d ∙ sym e in (
        same (ap (λ (x : Written). x.answer) c) (ap (λ (x : Written). x.table) c) (ap (λ (x : Written). x.history) c) (ap (λ (x : Written). x.work) c),
        ap (λ (x : Written). x.output) c,
      )

  -- NO TWO OUTCOMES OF SUCCESSOR SATISFY ITS STATEMENT
  pub looked_one : (d e a b : ℕ) (z : Looked) → looked_in n p i d a t h w ≡ z → looked_in m q j e b u g v ≡ z → Same × ((d ≡ e) × (a ≡ b))
  looked_one d e a b z k l =
      let c : looked_in n p i d a t h w ≡ looked_in m q j e b u g v = k ∙ sym l in (
        same (ap (λ (x : Looked). x.answer) c) (ap (λ (x : Looked). x.table) c) (ap (λ (x : Looked). x.ends) c) (ap (λ (x : Looked). x.work) c),
        (ap (λ (x : Looked). x.found.dart) c, ap (λ (x : Looked). x.found.passed) c),
      )
