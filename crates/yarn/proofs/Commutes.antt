-- Zones in any order: the label of a class is its lowest, in whatever order classes are joined.
--   relabelled p q v   == v, and the lower of p and q where v is the higher one
--   joins_commute      == two contractions give the same places in either order
--   places_by R os      == the places once the operations os are done
--   told_places        == of a history, its operations decide the places
--   places_any_order   == REARRANGED OPERATIONS GIVE THE SAME PLACES
use mathlib.Core.List.{List, [], ◌∷◌, map, Permᴰ}
use mathlib.Core.Path.{◌≡◌, refl, sym, ap, ◌∙◌, fun_ext}
use Prim.Native.Nat.{ℕ, ◌+◌, ◌*◌, ◌≤◌, min, max}
use native.Mathlib.Decide.{ℕ_discrete, dec_le}
use native.Mathlib.Omega.{arith}
use lib.Dec.{eqb}
use Rattle.permutations.specs.Choice.{pick, eqb_same, eqb_other}
use Rattle.darts.specs.Operation.{Kind, contraction, removal, kind_of, edge_of}
use Rattle.darts.specs.Kernel.{Operation}
use Rattle.darts.specs.OneByOne.{operation_of}
use Rattle.yarn.specs.Places.{joins, zoned, places_after}

abbrev relabelled : ℕ → ℕ → ℕ → ℕ
relabelled p q v = pick (eqb v (max p q)) (min p q) v

-- ---- one pair

module _ (p q : ℕ) where
  label_higher : (v : ℕ) → v ≡ max p q → relabelled p q v ≡ min p q
  label_higher v e = rw (eqb_same e)

  label_other : (v : ℕ) → ¬ (v ≡ max p q) → relabelled p q v ≡ v
  label_other v n = rw (eqb_other n)

  label_falls : (v : ℕ) → relabelled p q v ≤ v
  label_falls v = go (ℕ_discrete v (max p q))
    where
      go : Dec (v ≡ max p q) → relabelled p q v ≤ v
      go (yes e) = rw (label_higher v e) (omega arith)
      go (no n) = rw (label_other v n) (omega arith)

  label_low : relabelled p q (min p q) ≡ min p q
  label_low = go (ℕ_discrete (min p q) (max p q))
    where
      go : Dec (min p q ≡ max p q) → relabelled p q (min p q) ≡ min p q
      go (yes e) = label_higher (min p q) e
      go (no n) = label_other (min p q) n

  -- the two have one label
  label_same : relabelled p q p ≡ relabelled p q q
  label_same = go (dec_le p q)
    where
      go : Dec (p ≤ q) → relabelled p q p ≡ relabelled p q q
      go (yes h) =
          let l : p ≡ min p q = omega arith in
          ap (relabelled p q) l ∙ label_low ∙ sym (label_higher q (omega arith))
      go (no h) =
          let l : q ≡ min p q = omega arith in
          label_higher p (omega arith) ∙ sym (ap (relabelled p q) l ∙ label_low)

  -- whatever does not tell the two apart does not tell a label from what it is of
  label_kept : (K : ℕ → ℕ) → K p ≡ K q → (v : ℕ) → K (relabelled p q v) ≡ K v
  label_kept K same v = go (ℕ_discrete v (max p q)) (dec_le p q)
    where
      go : Dec (v ≡ max p q) → Dec (p ≤ q) → K (relabelled p q v) ≡ K v
      go (yes e) (yes h) =
          let l : min p q ≡ p = omega arith in
          let k : q ≡ v = omega arith in
          ap K (label_higher v e ∙ l) ∙ same ∙ ap K k
      go (yes e) (no h) =
          let l : min p q ≡ q = omega arith in
          let k : p ≡ v = omega arith in
          ap K (label_higher v e ∙ l) ∙ sym same ∙ ap K k
      go (no n) h = ap K (label_other v n)

-- ---- two pairs

-- p and q first, then r and s
abbrev twice : ℕ → ℕ → ℕ → ℕ → ℕ → ℕ
twice p q r s v = relabelled (relabelled p q r) (relabelled p q s) (relabelled p q v)

twice_falls : (p q r s v : ℕ) → twice p q r s v ≤ v
twice_falls p q r s v =
    let a = label_falls (relabelled p q r) (relabelled p q s) (relabelled p q v) in
    let b = label_falls p q v in
    omega arith

twice_kept : (p q r s : ℕ) (K : ℕ → ℕ) → K p ≡ K q → K r ≡ K s → (v : ℕ) → K (twice p q r s v) ≡ K v
twice_kept p q r s K a b v =
    label_kept (relabelled p q r) (relabelled p q s) K (label_kept p q K a r ∙ b ∙ sym (label_kept p q K a s)) (relabelled p q v) ∙ label_kept p q K a v

-- each is at most the other one's label
twice_least : (p q r s v : ℕ) → twice p q r s v ≤ twice r s p q v
twice_least p q r s v =
    let first = ap (relabelled (relabelled p q r) (relabelled p q s)) (label_same p q) in
    let same : twice p q r s (twice r s p q v) ≡ twice p q r s v = twice_kept r s p q (twice p q r s) (label_same (relabelled p q r) (relabelled p q s)) first v in
    let falls = twice_falls p q r s (twice r s p q v) in
    omega arith

-- TWO CONTRACTIONS IN EITHER ORDER
pub joins_commute : (R : ℕ → ℕ) (e f x : ℕ) → joins (joins R e) f x ≡ joins (joins R f) e x
unfolding joins
joins_commute R e f x =
    let a = twice_least (R (2 * e)) (R (2 * e + 1)) (R (2 * f)) (R (2 * f + 1)) (R x) in
    let b = twice_least (R (2 * f)) (R (2 * f + 1)) (R (2 * e)) (R (2 * e + 1)) (R x) in
    omega arith

zoned_commute : (j k : Kind) (R : ℕ → ℕ) (e f : ℕ) → zoned k (zoned j R e) f ≡ zoned j (zoned k R f) e
unfolding zoned
zoned_commute contraction contraction R e f = fun_ext (joins_commute R e f)
zoned_commute contraction removal R e f = refl
zoned_commute removal contraction R e f = refl
zoned_commute removal removal R e f = refl

-- ---- rearranged operations

abbrev places_by : (ℕ → ℕ) → List Operation → ℕ → ℕ
places_by R [] = R
places_by R (o ∷ os) = places_by (zoned o.kind R o.edge) os

-- history numbers differ in the turn alone
told_places : (R : ℕ → ℕ) (hs : List ℕ) → places_after R hs ≡ places_by R (map operation_of hs)
unfolding places_after
told_places R [] = refl
told_places R (h ∷ hs) = told_places (zoned (kind_of h) R (edge_of h)) hs

rearranged : {os ns : List Operation} → Permᴰ os ns → (R : ℕ → ℕ) → places_by R ns ≡ places_by R os
rearranged Permᴰ.nil R = refl
rearranged (Permᴰ.cons {a} {b} {l₁} {l₂} e d) R =
    ap (λ (o : Operation). places_by (zoned o.kind R o.edge) l₂) (sym e) ∙ rearranged d (zoned a.kind R a.edge)
rearranged (Permᴰ.swap {a} {b} {a'} {b'} {l} e k) R =
    ap (λ (o : Operation). places_by R (o ∷ b' ∷ l)) (sym k) ∙ ap (λ (o : Operation). places_by R (b ∷ o ∷ l)) (sym e)
    ∙ ap (λ Z. places_by Z l) (zoned_commute b.kind a.kind R b.edge a.edge)
rearranged (Permᴰ.trans c d) R = rearranged d R ∙ rearranged c R

-- REARRANGED OPERATIONS GIVE THE SAME PLACES
pub places_any_order : (R : ℕ → ℕ) (hs gs : List ℕ) → Permᴰ (map operation_of hs) (map operation_of gs) → places_after R gs ≡ places_after R hs
places_any_order R hs gs d = told_places R gs ∙ rearranged d R ∙ sym (told_places R hs)
