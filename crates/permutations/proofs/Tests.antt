-- Tests that say whether an operation is legal.
--   whole_test m p           == the test for Whole
--   separate_test m p shared == the test for Separate, given the test whether the edge's darts share a cycle
--   contract_test D m p      == the test for Contractible
--   remove_test D m p        == the test for Removable
use mathlib.Core.Bool.{Bool, ◌&&◌, ◌||◌, not}
use mathlib.Core.Logic.Iff
use mathlib.Core.Logic.{◌↔◌}
use mathlib.Core.Path.{◌≡◌}
use Prim.Native.Nat.{ℕ}
use lib.Dec.{T, eqb}
use Rattle.permutations.specs.Choice.{and_iff, eqb_iff, or_iff, not_iff}
use Rattle.permutations.specs.Partner.{partner}
use Rattle.permutations.specs.Cycle.{meets_in, Meets, meets_iff}
use Rattle.permutations.specs.Map.{Map, face, Good}
use Rattle.permutations.proofs.Dual.{face_perm}
use Rattle.permutations.proofs.Legal.{Whole, Separate, Contractible, Removable}

unfoldable pub whole_test : Map → ℕ → Bool
whole_test m p =
    (eqb (m.next p) p && eqb (m.next (partner p)) (partner p)) || (eqb (m.next p) (partner p) && eqb (m.next (partner p)) p)

abbrev pub separate_test : Map → ℕ → Bool → Bool
separate_test m p shared = m.live p && (not shared && not (whole_test m p))

unfoldable pub contract_test : ℕ → Map → ℕ → Bool
contract_test D m p = separate_test m p (meets_in m.next D p (partner p))

unfoldable pub remove_test : ℕ → Map → ℕ → Bool
remove_test D m p = separate_test m p (meets_in (face m) D p (partner p))

both_iff : (a b c d : ℕ) → T (eqb a b && eqb c d) ↔ ((a ≡ b) × (c ≡ d))
both_iff a b c d = and_iff (eqb a b) (eqb c d) (eqb_iff a b) (λ e. eqb_iff c d)

pub whole_iff : (m : Map) (p : ℕ) → T (whole_test m p) ↔ Whole m p
unfolding whole_test
whole_iff m p =
    let r = m.next p in
    let s = m.next (partner p) in
    let q = partner p in
    or_iff (eqb r p && eqb s q) (eqb r q && eqb s p) (both_iff r p s q) (both_iff r q s p)

-- a test that is right on a shared cycle, while the edge is live, makes a test that is right on the edge
pub separate_iff : (f : ℕ → ℕ) (m : Map) (p : ℕ) (shared : Bool) → (T (m.live p) → T shared ↔ Meets f p (partner p))
    → T (separate_test m p shared) ↔ Separate f m p
separate_iff f m p shared e =
    let w = whole_test m p in
    let i = and_iff (m.live p) (not shared && not w) Iff.rfl
    (λ t. and_iff (not shared) (not w) (not_iff shared (e t)) (λ n. not_iff w (whole_iff m p))) in (
      λ t. let h = i.0 t in record { lives = h.0; two = h.1.0; more = h.1.1 },
      λ s. i.1 (s.lives, (s.two, s.more)),
    )

module _ {D : ℕ} {m : Map} (G : Good D m) (p : ℕ) where
  pub contract_iff : T (contract_test D m p) ↔ Contractible m p
  unfolding contract_test
  contract_iff = separate_iff m.next m p (meets_in m.next D p (partner p)) (λ t. Iff.symm (meets_iff G.perm p (partner p)))

  pub remove_iff : T (remove_test D m p) ↔ Removable m p
  unfolding remove_test
  remove_iff = separate_iff (face m) m p (meets_in (face m) D p (partner p)) (λ t. Iff.symm (meets_iff (face_perm G) p (partner p)))
