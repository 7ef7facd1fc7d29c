-- The entries that an operation and its undo write, for both kinds at once.
--   near_entry k t p      == the near one of the entries of p and of its partner, which the dart before p takes over
--   far_entry k t p       == the far one, which the dart before the partner takes over
--   relinked t a b q r s == the table with r at a and s at b; where r is q, only s at a
use mathlib.Core.List.{List}
use mathlib.Core.Logic.{◌≢◌}
use mathlib.Core.Path.{◌≡◌, refl, sym, ◌∙◌}
use Prim.Native.Nat.{ℕ, ◌<◌}
use native.Mathlib.Decide.{ℕ_discrete}
use lib.Dec.{eqb}
use lib.ListN.{length, set, length-set}
use lib.Seq.{get_or-set_same, get_or-set_other, set-get_or, set-set, set_comm}
use Rattle.permutations.specs.Choice.{pick, eqb_same, eqb_other}
use Rattle.permutations.specs.Partner.{partner}
use Rattle.darts.specs.Map.{successor, before}
use Rattle.darts.specs.Operation.{Kind, contraction, removal, lead, remove, contract, operate, put_back}
use Rattle.darts.specs.Tests.{near, far}

abbrev pub near_entry : Kind → List ℕ → ℕ → ℕ
near_entry k t p = near k (successor t p) (successor t (partner p))

abbrev pub far_entry : Kind → List ℕ → ℕ → ℕ
far_entry k t p = far k (successor t p) (successor t (partner p))

unfoldable pub relinked : List ℕ → ℕ → ℕ → ℕ → ℕ → ℕ → List ℕ
relinked t a b q r s = pick (eqb r q) (set t a s) (set (set t a r) b s)

-- ---- the document's operation and undo

pub operate_relinks : (k : Kind) (D : ℕ) (t past : List ℕ) (e : ℕ) → (let p : ℕ = lead k t e in
    operate k D t past e ≡ relinked t (before D t past p) (before D t past (partner p)) (partner p) (near_entry k t p) (far_entry k t p))
unfolding operate remove contract relinked near
operate_relinks removal D t past e = refl
operate_relinks contraction D t past e = refl

module _ (D : ℕ) (t past : List ℕ) (p : ℕ) where
  -- where the near one is q, p is written back before the far one and nothing else changes
  pub put_back_one : (k : Kind) → near_entry k t p ≡ partner p → put_back k D t past p ≡ set t (before D t past (far_entry k t p)) p
  unfolding put_back near
  put_back_one removal e = rw (eqb_same e)
  put_back_one contraction e = rw (eqb_same e)

  -- otherwise p is written back before the near one, and q before the far one
  pub put_back_two : (k : Kind) → near_entry k t p ≢ partner p → before D t past (near_entry k t p) ≢ before D t past (far_entry k t p)
      → put_back k D t past p ≡ set (set t (before D t past (near_entry k t p)) p) (before D t past (far_entry k t p)) (partner p)
  unfolding put_back near
  put_back_two removal n ab = rw (eqb_other n)
  put_back_two contraction n ab =
      rw (eqb_other n)
      (set_comm t (before D t past (successor t p)) (before D t past (successor t (partner p))) (partner p) p (λ e. ab (sym e)))

-- ---- the entries, once relinked

set_below : (D : ℕ) (t : List ℕ) (i v x : ℕ) → x < length t → v < D → successor t x < D → successor (set t i v) x < D
unfolding successor
set_below D t i v x h l k = go (ℕ_discrete x i)
  where
    go : Dec (x ≡ i) → successor (set t i v) x < D
    go (yes e) = rw (← e, get_or-set_same t x v 0 h) l
    go (no n) = rw (get_or-set_other t i x v 0 n) k

module _ (t : List ℕ) (a b q r s : ℕ) where
  relinked_one : r ≡ q → relinked t a b q r s ≡ set t a s
  unfolding relinked
  relinked_one e = rw (eqb_same e)

  relinked_two : r ≢ q → relinked t a b q r s ≡ set (set t a r) b s
  unfolding relinked
  relinked_two n = rw (eqb_other n)

  pub relinked_length : length (relinked t a b q r s) ≡ length t
  relinked_length = go (ℕ_discrete r q)
    where
      go : Dec (r ≡ q) → length (relinked t a b q r s) ≡ length t
      go (yes e) = rw (relinked_one e) (length-set t a s)
      go (no n) = rw (relinked_two n) (length-set (set t a r) b s ∙ length-set t a r)

  pub relinked_a : a ≢ b → a < length t → successor (relinked t a b q r s) a ≡ pick (eqb r q) s r
  unfolding successor
  relinked_a ab h = go (ℕ_discrete r q)
    where
      go : Dec (r ≡ q) → successor (relinked t a b q r s) a ≡ pick (eqb r q) s r
      go (yes e) = rw (relinked_one e, eqb_same e) (get_or-set_same t a s 0 h)
      go (no n) = rw (relinked_two n, eqb_other n) (get_or-set_other (set t a r) b a s 0 ab ∙ get_or-set_same t a r 0 h)

  pub relinked_b : b < length t → r ≢ q → successor (relinked t a b q r s) b ≡ s
  unfolding successor
  relinked_b h n = rw (relinked_two n) (get_or-set_same (set t a r) b s 0 (rw (length-set t a r) h))

  pub relinked_else : (x : ℕ) → x ≢ a → (r ≢ q → x ≢ b) → successor (relinked t a b q r s) x ≡ successor t x
  unfolding successor
  relinked_else x na nb = go (ℕ_discrete r q)
    where
      go : Dec (r ≡ q) → successor (relinked t a b q r s) x ≡ successor t x
      go (yes e) = rw (relinked_one e) (get_or-set_other t a x s 0 na)
      go (no n) = rw (relinked_two n) (get_or-set_other (set t a r) b x s 0 (nb n) ∙ get_or-set_other t a x r 0 na)

  pub relinked_below : (D x : ℕ) → x < length t → r < D → s < D → successor t x < D → successor (relinked t a b q r s) x < D
  relinked_below D x h l k m = go (ℕ_discrete r q)
    where
      go : Dec (r ≡ q) → successor (relinked t a b q r s) x < D
      go (yes e) = rw (relinked_one e) (set_below D t a s x h k m)
      go (no n) = rw (relinked_two n) (set_below D (set t a r) b s x (rw (length-set t a r) h) k (set_below D t a r x h l m))

  -- writing back what stood there brings every entry back
  pub one_back : r ≡ q → set (relinked t a b q r s) a (successor t a) ≡ t
  unfolding successor
  one_back e = rw (relinked_one e) (set-set t a s (successor t a) ∙ set-get_or t a 0)

  pub two_back : a ≢ b → r ≢ q → set (set (relinked t a b q r s) a (successor t a)) b (successor t b) ≡ t
  unfolding successor
  two_back ab n =
      rw (relinked_two n, set_comm (set t a r) b a s (successor t a) (λ e. ab (sym e)), set-set t a r (successor t a), set-get_or t a 0, set-set t b s (successor t b))
      (set-get_or t b 0)
