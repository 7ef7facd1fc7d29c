-- One operation on edge e, and its undo (document 01, "One operation on edge e").
--   Kind                 == contraction or removal
--   turned k t e         == the operation turns round
--   lead k t e           == the dart that plays p
--   whole_edge t e        == the edge is a whole piece
--   remove D t past p    == the table once the edge of p is removed
--   contract D t past p  == the table once the edge of p is contracted
--   operate k D t past e == the table once the operation of kind k on edge e is done
--   number k p           == the operation's history number; kind_of, lead_of and edge_of read it
--   undo_one D t h past   == the table before the operation h, the last one; the past is without it
--   undone D n t past    == the table before the last n operations
use Rattle.std.specs.Prelude.{Bool, ◌||◌, ◌&&◌, List, [], ◌∷◌, ℕ, zero, suc, ◌+◌, ◌*◌, ◌/◌, ◌%◌, eqb, set}
use Rattle.permutations.specs.Partner.{partner}
use Rattle.std.specs.Prelude.{if◌then◌else◌}
use Rattle.darts.specs.Map.{successor, before}

pub data Kind : Type 0 where
  contraction removal : Kind

-- "Turn round (p = 2e+1, q = 2e, r and s again) in two cases only: removal with s = p, contraction with r = p."
unfoldable pub turned : Kind → List ℕ → ℕ → Bool
turned removal t e = eqb (successor t (2 * e + 1)) (2 * e)
turned contraction t e = eqb (successor t (2 * e)) (2 * e)

-- "Take p = 2e, q = 2e+1", or turned round
unfoldable pub lead : Kind → List ℕ → ℕ → ℕ
lead k t e = if turned k t e then 2 * e + 1 else 2 * e

-- "Either is refused where the edge is a whole piece: r = p and s = q, or r = q and s = p."
unfoldable pub whole_edge : List ℕ → ℕ → Bool
whole_edge t e =
    (eqb (successor t (2 * e)) (2 * e) && eqb (successor t (2 * e + 1)) (2 * e + 1))
    || (eqb (successor t (2 * e)) (2 * e + 1) && eqb (successor t (2 * e + 1)) (2 * e))

-- "Remove: the dart before p now leads to r and the dart before q to s; if r = q (empty loop), the dart before p leads to s instead and nothing
-- else changes (001 Def. 7)." "Both changes use the entries from before the operation."
unfoldable pub remove : ℕ → List ℕ → List ℕ → ℕ → List ℕ
remove D t past p =
    let q : ℕ = partner p in
    let r : ℕ = successor t p in
    let s : ℕ = successor t q in
    if eqb r q then set t (before D t past p) s else set (set t (before D t past p) r) (before D t past q) s

-- "Contract: the dart before p leads to s and the dart before q to r; if s = q (pending edge), the dart before p leads to r instead and nothing
-- else changes (001 Def. 8)."
unfoldable pub contract : ℕ → List ℕ → List ℕ → ℕ → List ℕ
contract D t past p =
    let q : ℕ = partner p in
    let r : ℕ = successor t p in
    let s : ℕ = successor t q in
    if eqb s q then set t (before D t past p) r else set (set t (before D t past p) s) (before D t past q) r

unfoldable pub operate : Kind → ℕ → List ℕ → List ℕ → ℕ → List ℕ
operate removal D t past e = remove D t past (lead removal t e)
operate contraction D t past e = contract D t past (lead contraction t e)

-- "The history gets one number, 2p for a removal and 2p+1 for a contraction."
unfoldable pub number : Kind → ℕ → ℕ
number removal p = 2 * p
number contraction p = 2 * p + 1

-- "001 Table 4 says that the kind can be told from the map. It cannot: see K9. The kind is stored."
unfoldable pub kind_of : ℕ → Kind
kind_of h = if eqb (h % 2) 0 then removal else contraction

unfoldable pub lead_of : ℕ → ℕ
lead_of h = h / 2

unfoldable pub edge_of : ℕ → ℕ
edge_of h = h / 4

-- "Undo takes the last history number. Removal: the dart before r leads to p and the one before s to q; if r = q, the one before s leads to p.
-- Contraction: the dart before r leads to q and the one before s to p; if s = q, the one before r leads to p." The past is with the operation, so
-- that p and q do not survive.
unfoldable pub put_back : Kind → ℕ → List ℕ → List ℕ → ℕ → List ℕ
put_back removal D t past p =
    let q : ℕ = partner p in
    let r : ℕ = successor t p in
    let s : ℕ = successor t q in
    if eqb r q then set t (before D t past s) p else set (set t (before D t past r) p) (before D t past s) q
put_back contraction D t past p =
    let q : ℕ = partner p in
    let r : ℕ = successor t p in
    let s : ℕ = successor t q in
    if eqb s q then set t (before D t past r) p else set (set t (before D t past r) q) (before D t past s) p

unfoldable pub undo_one : ℕ → List ℕ → ℕ → List ℕ → List ℕ
undo_one D t h past = put_back (kind_of h) D t (h ∷ past) (lead_of h)

unfoldable pub undone : ℕ → ℕ → List ℕ → List ℕ → List ℕ
undone D zero t past = t
undone D (suc n) t [] = t
undone D (suc n) t (h ∷ past) = undone D n (undo_one D t h past) past
