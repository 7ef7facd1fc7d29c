-- Darts of a base that are joined by some of its edges: what contracting these edges makes one vertex.
--   Joined D t P x y == the least equivalence in which the darts of a vertex are joined, and the two darts of each edge e for which P e
--   Wanted D same e  == e is an edge that `same` takes
--   Equivalence R    == R is an equivalence
--   joined_least     == what is joined is so in every equivalence that has these
--   joined_label     == what is one and the same along a vertex and across each such edge is the same for joined darts
--   joined_by        == where P's edges are joined by Q's, so is all that P's join
--   joined_piece     == joined darts are in one piece
use mathlib.Core.Bool.{Bool, true}
use mathlib.Core.List.{List, []}
use mathlib.Core.Path.{◌≡◌, refl, sym, ◌∙◌}
use Prim.Native.Nat.{ℕ, ◌+◌, ◌*◌, ◌/◌, ◌<◌}
use native.Mathlib.Omega.{arith}
use lib.Dec.{T}
use Rattle.permutations.specs.Map.{Map, mate_live}
use Rattle.permutations.proofs.PartnerLemmas.{partner_first}
use Rattle.permutations.proofs.Pieces.{Linked, here, over, linked_trans, linked_sym, meets_linked}
use Rattle.darts.specs.Map.{same_vertex, same_piece, gone, survives}
use Rattle.laws.specs.Standing.{map_of, Standing}
use Rattle.laws.proofs.bridge.Standing.{live, live_iff}
use Rattle.laws.proofs.bridge.Judged.{same_vertex_lem}
use Rattle.laws.proofs.bridge.Pieces.{same_piece_lem}

pub data Joined (D : ℕ) (t : List ℕ) (P : ℕ → Type 0) : ℕ → ℕ → Type 0 where
  itself : {x : ℕ} → Joined D t P x x
  vertex : {x y : ℕ} → x < D → T (same_vertex D t x y) → Joined D t P x y
  across : {e : ℕ} → P e → Joined D t P (2 * e) (2 * e + 1)
  back : {x y : ℕ} → Joined D t P x y → Joined D t P y x
  further : {x y z : ℕ} → Joined D t P x y → Joined D t P y z → Joined D t P x z

-- an edge that `same` takes
abbrev pub Wanted : ℕ → (ℕ → Bool) → ℕ → Type 0
Wanted D same e = (e < D / 2) × (same e ≡ true)

pub record Equivalence (R : ℕ → ℕ → Type 0) : Type 0 where
  pub self : (x : ℕ) → R x x
  pub flip : (x y : ℕ) → R x y → R y x
  pub chain : (x y z : ℕ) → R x y → R y z → R x z

module _ {D : ℕ} {t : List ℕ} {P : ℕ → Type 0} where
  -- IT IS THE LEAST
  pub joined_least : (R : ℕ → ℕ → Type 0) → Equivalence R → ((x y : ℕ) → x < D → T (same_vertex D t x y) → R x y)
      → ((e : ℕ) → P e → R (2 * e) (2 * e + 1)) → {x y : ℕ} → Joined D t P x y → R x y
  joined_least R E v a (itself {x}) = E.self x
  joined_least R E v a (vertex {x} {y} h s) = v x y h s
  joined_least R E v a (across {e} p) = a e p
  joined_least R E v a (back {x} {y} j) = E.flip x y (joined_least R E v a j)
  joined_least R E v a (further {x} {y} {z} j k) = E.chain x y z (joined_least R E v a j) (joined_least R E v a k)

  pub joined_label : (L : ℕ → ℕ) → ((x y : ℕ) → x < D → T (same_vertex D t x y) → L x ≡ L y) → ((e : ℕ) → P e → L (2 * e) ≡ L (2 * e + 1))
      → {x y : ℕ} → Joined D t P x y → L x ≡ L y
  joined_label L = joined_least (λ x y. L x ≡ L y) (record { self = λ x. refl; flip = λ x y e. sym e; chain = λ x y z d e. d ∙ e })

  pub joined_by : {Q : ℕ → Type 0} → ((e : ℕ) → P e → Joined D t Q (2 * e) (2 * e + 1)) → {x y : ℕ} → Joined D t P x y → Joined D t Q x y
  joined_by {Q} =
      joined_least (Joined D t Q) (record { self = λ x. itself; flip = λ x y j. back j; chain = λ x y z j k. further j k }) (λ x y h s. vertex h s)

-- every dart of a base survives
pub base_live : (D x : ℕ) → x < D → T (live D [] x)
unfolding survives gone
base_live D x h = (live_iff D [] x).1 (h, tt)

module _ {D : ℕ} {t : List ℕ} (S : Standing D t []) {P : ℕ → Type 0} (edges : (e : ℕ) → P e → e < D / 2) where
  pub joined_piece : {x y : ℕ} → x < D → Joined D t P x y → T (same_piece D t x y)
  joined_piece {x} {y} h j = (same_piece_lem S x y (base_live D x h)).1 (joined_least (Linked base) linked round over_edge_lem j)
    where
      base : Map
      base = map_of D t []

      linked : Equivalence (Linked base)
      linked = record { self = λ x. here refl; flip = λ x y l. linked_sym S.good l; chain = λ x y z l k. linked_trans base l k }

      round : (x y : ℕ) → x < D → T (same_vertex D t x y) → Linked base x y
      round x y h s = meets_linked base ((same_vertex_lem S x y (base_live D x h)).0 s)

      over_edge_lem : (e : ℕ) → P e → Linked base (2 * e) (2 * e + 1)
      over_edge_lem e p =
          let below = edges e p in
          over (here (mate_live (live D []) (2 * e) (base_live D (2 * e) (omega arith)) ∙ partner_first e))
