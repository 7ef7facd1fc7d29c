-- One number x of a forest t is hung under another number v that is not above it.
--
--   hang_falls  == t is still a forest
--   hang_roots  == R is the root afterwards, if R is the same at x and v, and is right at all other numbers
--   halve_falls == x is hung under its grandparent: t is still a forest
--   halve_roots == and every number keeps its root
--   link_falls  == the root `high` is hung under the root `low`: t is still a forest
--   link_roots  == and what had the root `high` has the root `low`
use mathlib.Core.Path.{◌≡◌, sym, ap, ◌∙◌}
use mathlib.Core.Logic.{◌≢◌, by_cases}
use mathlib.Core.List.{List}
use Prim.Native.Nat.{ℕ, ◌≤◌, ◌<◌}
use native.Mathlib.Omega.{arith}
use native.Mathlib.Decide.{ℕ_discrete}
use lib.ListN.{length, set}
use lib.Seq.{get_or-set_same, get_or-set_other}
use Rattle.forest.specs.Forest.{parent, Falls, root, linked}
use Rattle.forest.specs.Roots.{root_top, root_up, root_only}
use Rattle.forest.proofs.Joins.{linked_higher, linked_other}

module _ {t : List ℕ} (F : Falls t) (x v : ℕ) (inside : x < length t) (order : v ≤ x) where
  here : parent (set t x v) x ≡ v
  here = get_or-set_same t x v 0 inside

  elsewhere : (z : ℕ) → z ≢ x → parent (set t x v) z ≡ parent t z
  elsewhere z n = get_or-set_other t x z v 0 n

  hang_falls : Falls (set t x v)
  hang_falls = record { down = λ z. by_cases (ℕ_discrete z x) (λ e. rw (e, here) order) (λ n. rw (elsewhere z n) (F.down z)) }

  hang_roots : (R : ℕ → ℕ) → R v ≡ R x → (v ≡ x → R x ≡ x) → ((z : ℕ) → z ≢ x → R (parent t z) ≡ R z)
      → ((z : ℕ) → z ≢ x → parent t z ≡ z → R z ≡ z) → (z : ℕ) → root (set t x v) z ≡ R z
  hang_roots R same own up top =
      root_only hang_falls R
      (λ z. by_cases (ℕ_discrete z x) (λ e. rw (e, here) same) (λ n. rw (elsewhere z n) (up z n)))
      (λ z h. by_cases (ℕ_discrete z x)
      (λ e. rw e (own (rw (e, here) at h)))
      (λ n. top z n (sym (elsewhere z n) ∙ h)))

module _ {t : List ℕ} (F : Falls t) (x : ℕ) (inside : x < length t) where
  order : parent t (parent t x) ≤ x
  order = omega (arith, F.down x, F.down (parent t x))

  pub halve_falls : Falls (set t x (parent t (parent t x)))
  halve_falls = hang_falls F x (parent t (parent t x)) inside order

  pub halve_roots : (z : ℕ) → root (set t x (parent t (parent t x))) z ≡ root t z
  halve_roots =
      hang_roots F x (parent t (parent t x)) inside order (root t)
      (root_up F (parent t x) ∙ root_up F x)
      (λ e. root_top t x (omega (arith, F.down x, F.down (parent t x))))
      (λ z n. root_up F z)
      (λ z n. root_top t z)

module _ {t : List ℕ} (F : Falls t) (low high : ℕ) (inside : high < length t) (order : low < high) (low_root : parent t low ≡ low) (high_root : parent t high ≡ high) where
  pub link_falls : Falls (set t high low)
  link_falls = hang_falls F high low inside (omega arith)

  pub link_roots : (z : ℕ) → root (set t high low) z ≡ linked low high (root t z)
  link_roots =
      hang_roots F high low inside (omega arith) (λ z. linked low high (root t z))
      (rw (root_top t low low_root, root_top t high high_root) (linked_other low high low (omega arith) ∙ sym (linked_higher low high high (omega arith) ∙ omega arith)))
      (λ e. absurd (omega arith))
      (λ z n. ap (linked low high) (root_up F z))
      (λ z n e. rw (root_top t z e) (linked_other low high z (omega arith)))
