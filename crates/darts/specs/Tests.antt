-- Is it a pyramid? The tests of a table of D numbers, a past (the last operation first) and a state: 1 to 17, and the shape of the state.
-- With h the last operation: p its lead, q p's partner, r and s where p and q lead.
--   numbered D past       == tests 1 and 2: the history numbers are of darts, and no edge is taken twice
--   links D t past x      == tests 3 to 5, of dart x: its entry is a dart; a survivor leads to a survivor, to which no lower one leads
--   survivors_test D t past == tests 3 to 5 of all darts, with the culprits: the permutation test of the survivors
--   linked D t past       == it is passed
--   near k r s, far k r s == where the darts before p and before q lead once an operation of kind k is done
--   fits D t h past       == tests 6 to 15, of the last operation h; past are the ones before it
--   backs D t past        == tests 6 to 15, of each operation once the later ones are undone
--   relabel k L h         == the labels L, once the operation h, if it is of kind k, has merged those of its darts
--   relabelled k L hs     == the same for the operations hs, one after another
--   parted k L h          == the darts of h, if it is of kind k, have two labels
--   replays k L hs        == test 16 (contraction) or 17 (removal): each operation of kind k has two labels at its turn
--   rises from ends hs    == the level ends rise strictly from above `from`, and cut hs into kernels of one kind each
--   shaped s hs           == the state fits the history hs, first operation first
--   tested Lv Lf s t past == all tests; Lv labels the vertices of the base, Lf its faces
use Rattle.std.specs.Prelude.{Bool, true, false, ◌||◌, ◌&&◌, not, List, [], ◌∷◌, reverse, ℕ, zero, suc, ◌-◌, ◌*◌, ◌%◌, eqb, leb, ltb, length, take, drop}
use Rattle.permutations.specs.Partner.{partner}
use Rattle.permutations.specs.Labels.{merge}
use Rattle.std.specs.Prelude.{if◌then◌else◌}
use Rattle.darts.specs.Map.{successor, gone, survives, live, before_in, Verdict, permutes, culprits, passed}
use Rattle.darts.specs.Operation.{Kind, contraction, removal, kind_of, lead_of, undo_one}
use Rattle.darts.specs.State.{State}
use Rattle.darts.specs.Pyramid.{dart_count}

-- 1: h < 2D; 2: no edge twice in the history
unfoldable pub numbered : ℕ → List ℕ → Bool
numbered D [] = true
numbered D (h ∷ past) =
    ltb h (2 * D)  -- 1
    && (not (gone past (lead_of h))  -- 2
    && numbered D past)

-- one of the darts below d survives and leads to x
unfoldable pub led : List ℕ → List ℕ → ℕ → ℕ → Bool
led t past zero x = false
led t past (suc d) x = (survives past d && eqb (successor t d) x) || led t past d x

-- 3: every entry of the table is below D, also those of gone darts; 4: a survivor's entry is a survivor; 5: no two survivors have one entry
unfoldable pub links : ℕ → List ℕ → List ℕ → ℕ → Bool
links D t past x =
    ltb (successor t x) D  -- 3
    && (gone past x
    || (survives past (successor t x)  -- 4
    && not (led t past x (successor t x))))  -- 5

-- the second culprit beside x: D where its successor is no dart or is gone, else the lower survivor that leads there
unfoldable pub blamed : ℕ → List ℕ → List ℕ → ℕ → ℕ
blamed D t past x = if leb D (successor t x) || gone past (successor t x) then D else before_in x t past (successor t x)

-- of the n darts from x on, the lowest that breaks one of tests 3 to 5 decides
unfoldable pub links_from : ℕ → List ℕ → List ℕ → ℕ → ℕ → Verdict
links_from D t past zero x = permutes
links_from D t past (suc n) x = if links D t past x then links_from D t past n (suc x) else culprits x (blamed D t past x)

unfoldable pub survivors_test : ℕ → List ℕ → List ℕ → Verdict
survivors_test D t past = links_from D t past D 0

abbrev pub linked : ℕ → List ℕ → List ℕ → Bool
linked D t past = passed (survivors_test D t past)

-- where the dart before p leads once the operation is done; if that is q itself, the dart before p leads to the far one
unfoldable pub near : Kind → ℕ → ℕ → ℕ
near removal r s = r
near contraction r s = s

-- where the dart before q leads
abbrev pub far : Kind → ℕ → ℕ → ℕ
far k r s = near k s r

-- a removal with r = q, or a contraction with s = q: 6, 11; any other: 7 to 10, 12 to 15
unfoldable pub fits : ℕ → List ℕ → ℕ → List ℕ → Bool
fits D t h past =
    let k : Kind = kind_of h in
    let p : ℕ = lead_of h in
    let q : ℕ = partner p in
    let r : ℕ = successor t p in
    let s : ℕ = successor t q in
    let now : ℕ → Bool = live D (h ∷ past) in
    if eqb (near k r s) q then now (far k r s)  -- 6, 11
    else
    eqb (p % 2) 0  -- 7, 12
    && (now r  -- 8, 13
    && (now s  -- 9, 14
    && not (eqb r s)))  -- 10, 15

unfoldable pub backs : ℕ → List ℕ → List ℕ → Bool
backs D t [] = true
backs D t (h ∷ past) = fits D t h past && backs D (undo_one D t h past) past

-- ---- the replay, first operation first

unfoldable pub same_kind : Kind → Kind → Bool
same_kind removal removal = true
same_kind removal contraction = false
same_kind contraction removal = false
same_kind contraction contraction = true

unfoldable pub relabel : Kind → (ℕ → ℕ) → ℕ → ℕ → ℕ
relabel k L h = if same_kind k (kind_of h) then merge L (lead_of h) (partner (lead_of h)) else L

unfoldable pub relabelled : Kind → (ℕ → ℕ) → List ℕ → ℕ → ℕ
relabelled k L [] = L
relabelled k L (h ∷ hs) = relabelled k (relabel k L h) hs

unfoldable pub parted : Kind → (ℕ → ℕ) → ℕ → Bool
parted k L h = not (same_kind k (kind_of h)) || not (eqb (L (lead_of h)) (L (partner (lead_of h))))

-- 16: a contraction's p and q have different labels of vertices, then they are merged; 17: a removal's, of faces
unfoldable pub replays : Kind → (ℕ → ℕ) → List ℕ → Bool
replays k L [] = true
replays k L (h ∷ hs) = parted k L h && replays k (relabel k L h) hs

-- ---- the shape

unfoldable pub of_kind : Kind → List ℕ → Bool
of_kind k [] = true
of_kind k (h ∷ hs) = same_kind k (kind_of h) && of_kind k hs

-- one kind inside a level: the first operation's
unfoldable pub one_kind : List ℕ → Bool
one_kind [] = true
one_kind (h ∷ hs) = of_kind (kind_of h) hs

-- the ends rise strictly; each level has its operations, of one kind; the last end is the number of operations (no level: none)
unfoldable pub rises : ℕ → List ℕ → List ℕ → Bool
rises from [] [] = true
rises from [] (h ∷ hs) = false
rises from (end ∷ ends) hs =
    ltb from end
    && (leb (end - from) (length hs)
    && (one_kind (take (end - from) hs)
    && rises end ends (drop (end - from) hs)))

unfoldable pub zeros : List ℕ → Bool
zeros [] = true
zeros (end ∷ ends) = eqb end 0 && zeros ends

-- at most 64 levels, 64 ends, those past the levels 0
unfoldable pub shaped : State → List ℕ → Bool
shaped s hs =
    eqb s.operations (length hs)
    && (leb s.levels 64
    && (eqb (length s.ends) 64
    && (zeros (drop s.levels s.ends)
    && rises 0 (take s.levels s.ends) hs)))

-- ---- all of them

unfoldable pub tested : (ℕ → ℕ) → (ℕ → ℕ) → State → List ℕ → List ℕ → Bool
tested Lv Lf s t past =
    let D : ℕ = s.darts in
    let hs : List ℕ = reverse past in
    dart_count D && (eqb (length t) D
    && (shaped s hs
    && (numbered D past
    && (linked D t past
    && (backs D t past
    && (replays contraction Lv hs
    && replays removal Lf hs))))))
