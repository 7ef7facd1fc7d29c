-- The forest's part of the work area, lent to the forest's functions and back as t.
--   lent            == the work area with t as its forest's part
--   lent_outside    == nothing else has changed
--   lent_forest     == the forest's part is t
--   found           == what `forest::find` says of the part, said of the work area
--   joined          == what `forest::join` and `forest::link` say of the part, said of the work area
--   kept_trans      == kept roots, one change after another
--   roots_known     == the roots of two darts are darts, and their own roots
--   lent_top        == what `forest::link` asks of a root
--   joined_roots    == where the roots of two numbers are joined, so are the numbers
--   found_kept, found_roots == two finds keep the roots, and tell both
--   kept_joined     == joined after a change that keeps the roots
use mathlib.Core.Bool.{Bool, not}
use mathlib.Core.List.{List}
use mathlib.Core.Path.{◌≡◌, sym, ap, ap₂, ◌∙◌, fun_ext, subst}
use Prim.Native.Nat.{ℕ, ◌*◌, ◌-◌, ◌<◌}
use native.Mathlib.Omega.{arith}
use lib.Dec.{eqb}
use lib.ListN.{length}
use borrow.Rule.Slice.PartMut.{take_put, drop_put}
use Rattle.forest.specs.Forest as forest
use Rattle.forest.specs.Forest.{Falls}
use Rattle.forest.specs.Roots.{root_settled, root_own, root_down}
use Rattle.forest.proofs.Joins.{find_keeps}
use Rattle.slices.specs.Part.{put}
use Rattle.slices.proofs.Part.{part_put, put_length}
use Rattle.area.specs.Area.{Room, forest_in}
use Rattle.operations.specs.Trees.{Outside, rooted, Kept, Found, merged, Joined}
use Rattle.operations.proofs.Outside.{outside_trans, forest_length}

abbrev pub lent : ℕ → List ℕ → List ℕ → List ℕ
lent D w t = put (2 * D) (3 * D) w t

module _ {D : ℕ} {w : List ℕ} (room : Room D w) (t : List ℕ) (size : length t ≡ length (forest_in D w)) where
  fits : length t ≡ 3 * D - 2 * D
  fits = size ∙ forest_length D w room.fits ∙ omega arith

  pub lent_outside : Outside D w (lent D w t)
  lent_outside =
      record {
        size = put_length (2 * D) (3 * D) w (omega arith) (omega arith) t fits;
        front = take_put (2 * D) (3 * D - 2 * D) w t (omega arith);
        rest = drop_put (2 * D) (3 * D) w t (omega arith) (omega arith) fits;
      }

  pub lent_forest : forest_in D (lent D w t) ≡ t
  lent_forest = part_put (2 * D) (3 * D) w (omega arith) (omega arith) t fits

module _ {D : ℕ} {w : List ℕ} (room : Room D w) {t : List ℕ} where
  pub found : {x r : ℕ} → forest.Found (forest_in D w) t x r → Found D w (lent D w t) x r
  found f =
      record {
        kept =
            record {
              outside = lent_outside room t f.size;
              falls = rw (lent_forest room t f.size) f.falls;
              roots = ap forest.root (lent_forest room t f.size) ∙ find_keeps f;
            };
        top = f.top;
      }

  pub joined : {p q : ℕ} {r : Bool} → forest.Joined (forest_in D w) t p q r → Joined D w (lent D w t) p q r
  unfolding merged forest.apart
  joined j =
      record {
        outside = lent_outside room t j.size;
        falls = rw (lent_forest room t j.size) j.falls;
        roots = ap forest.root (lent_forest room t j.size) ∙ fun_ext j.roots;
        answer = j.answer;
      }

pub kept_trans : {D : ℕ} {u v w : List ℕ} → Kept D u v → Kept D v w → Kept D u w
kept_trans k l =
    record { outside = outside_trans k.outside l.outside; falls = l.falls; roots = l.roots ∙ k.roots }

-- ---- roots that are known

module _ {D : ℕ} {w : List ℕ} (room : Room D w) (F : Falls (forest_in D w)) where
  root_known : (p : ℕ) {a : ℕ} → p < D → a ≡ rooted D w p → (a < D) × (rooted D w a ≡ a)
  root_known p l e = (omega (arith, root_down F p), ap (rooted D w) e ∙ root_own F p ∙ sym e)

  pub roots_known : (p q : ℕ) {a b : ℕ} → p < D → q < D → (a ≡ rooted D w p) × (b ≡ rooted D w q)
      → ((a < D) × (b < D)) × ((rooted D w a ≡ a) × (rooted D w b ≡ b))
  roots_known p q l m (e, f) =
      let first = root_known p l e in
      let second = root_known q m f in
      ((first.0, second.0), (first.1, second.1))

  pub lent_top : {x : ℕ} → x < D → rooted D w x ≡ x → forest.Top (forest_in D w) x
  lent_top {x} l e = record {
    falls = F;
    inside = omega (arith, forest_length D w room.fits);
    own = subst (λ y. forest.parent (forest_in D w) y ≡ y) e (root_settled F x);
  }

module _ {D : ℕ} {w : List ℕ} (F : Falls (forest_in D w)) where
  -- THE ROOTS OF TWO NUMBERS JOINED, SO ARE THE NUMBERS
  pub joined_roots : {v : List ℕ} {p q a b : ℕ} {r : Bool} → a ≡ rooted D w p → b ≡ rooted D w q → Joined D w v a b r → Joined D w v p q r
  unfolding merged
  joined_roots {p = p} {q} e f j =
      let first = ap (rooted D w) e ∙ root_own F p in
      let second = ap (rooted D w) f ∙ root_own F q in
      record {
        outside = j.outside;
        falls = j.falls;
        roots = j.roots ∙ fun_ext (λ z. ap₂ (λ x y. forest.linked x y (rooted D w z)) first second);
        answer = j.answer ∙ ap₂ (λ x y. not (eqb x y)) first second;
      }

module _ {D p q a b : ℕ} {w w₁ w₂ : List ℕ} (f : Found D w w₁ p a) (g : Found D w₁ w₂ q b) where
  pub found_kept : Kept D w w₂
  found_kept = kept_trans f.kept g.kept

  pub found_roots : (a ≡ rooted D w₂ p) × (b ≡ rooted D w₂ q)
  found_roots = (
    f.top ∙ ap (λ R. R p) (sym found_kept.roots),
    g.top ∙ ap (λ R. R q) (sym g.kept.roots),
  )

pub kept_joined : {D : ℕ} {u v w : List ℕ} {p q : ℕ} {r : Bool} → Kept D u v → Joined D v w p q r → Joined D u w p q r
kept_joined k j = record {
  outside = outside_trans k.outside j.outside;
  falls = j.falls;
  roots = rw k.roots at j.roots;
  answer = rw k.roots at j.answer;
}
