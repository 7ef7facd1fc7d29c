-- The history numbers marked: tests 1 and 2.
--   Marked D past w   == of each dart it is known whether it is gone, and no more
--   Marks D n w a     == a is what marking the n numbers of w gives
--   marks_right       == the numbers are tested as the past's are, and their edges marked
use mathlib.Core.Bool.{Bool, true, false, not, ◌||◌}
use mathlib.Core.List.{List, [], ◌∷◌}
use mathlib.Core.Logic.{◌≢◌}
use mathlib.Core.Path.{◌≡◌, refl, sym, ◌∙◌}
use Prim.Native.Nat.{ℕ, zero, suc, ◌+◌, ◌*◌, ◌/◌, ◌%◌, ◌≤◌, ◌<◌}
use native.Mathlib.Decide.{ℕ_discrete}
use native.Mathlib.Nat.{zero-add, add-zero, add-suc}
use native.Mathlib.Omega.{arith}
use lib.Dec.{T, eqb, leb, leb→le, nleb→lt}
use lib.ListN.{length, set, drop, length-set}
use lib.Seq.{take-set-le, drop-set-lt, get_or-set_same, get_or-set_other}
use Rattle.permutations.specs.Choice.{T→true, not_T→false, eqb_same, eqb_other}
use Rattle.std.proofs.Common.{if◌then◌else◌}
use Rattle.darts.specs.Map.{gone}
use Rattle.darts.specs.Operation.{lead_of}
use Rattle.darts.specs.Tests.{numbered}
use Rattle.area.specs.Area.{prev, stamp, table_in, past_in, Tried, tried}
use Rattle.area.specs.Load.{marks}
use Rattle.engine.proofs.Edges.{same_edge, numbered_cons, gone_end}
use Rattle.engine.proofs.Parts.{past_none, past_suc, past_rest}

abbrev pub Marked : ℕ → List ℕ → List ℕ → Type 0
Marked D past w = (x : ℕ) → x < D → prev D w x ≡ (if gone past x then D else D + 1)

pub record Marks (D n : ℕ) (w : List ℕ) (a : Tried) : Type 0 where
  pub fine : a.fine ≡ numbered D (past_in D n w)
  pub marked : T a.fine → Marked D (past_in D n w) a.work
  pub table : table_in D a.work ≡ table_in D w
  pub rest : drop (2 * D) a.work ≡ drop (2 * D) w
  pub size : length a.work ≡ length w

-- ---- one edge marked

-- the first dart of the edge
abbrev dart : ℕ → ℕ
dart h = 2 * (h / 4)

abbrev mark : ℕ → List ℕ → ℕ → List ℕ
mark D w h = set (set w (D + dart h) D) (D + (dart h + 1)) D

module _ (D : ℕ) (w : List ℕ) (h : ℕ) (both : dart h + 1 < D) where
  abbrev p : ℕ
  p = dart h

  mark_table : table_in D (mark D w h) ≡ table_in D w
  mark_table = take-set-le D (set w (D + p) D) (D + (p + 1)) D (omega arith) ∙ take-set-le D w (D + p) D (omega arith)

  mark_rest : drop (2 * D) (mark D w h) ≡ drop (2 * D) w
  mark_rest = drop-set-lt (2 * D) (set w (D + p) D) (D + (p + 1)) D (omega arith) ∙ drop-set-lt (2 * D) w (D + p) D (omega arith)

  mark_size : length (mark D w h) ≡ length w
  mark_size = simp length-set

  mark_marked : (past : List ℕ) → 2 * D ≤ length w → Marked D past w → Marked D (h ∷ past) (mark D w h)
  unfolding gone prev
  mark_marked past fits m x x_d = go (ℕ_discrete (h / 4) (x / 2)) (ℕ_discrete x p)
    where
      go : Dec (h / 4 ≡ x / 2) → Dec (x ≡ p) → prev D (mark D w h) x ≡ (if eqb (h / 4) (x / 2) || gone past x then D else D + 1)
      go (yes e) (yes c) =
          rw (eqb_same e, c)
          (get_or-set_other (set w (D + p) D) (D + (p + 1)) (D + p) D 0 (omega arith) ∙ get_or-set_same w (D + p) D 0 (omega arith))
      go (yes e) (no c) =
          let i : D + x ≡ D + (p + 1) = omega arith in
          rw (eqb_same e, i) (get_or-set_same (set w (D + p) D) (D + (p + 1)) D 0 (rw length-set (omega arith)))
      go (no e) c =
          rw (eqb_other e)
          (get_or-set_other (set w (D + p) D) (D + (p + 1)) (D + x) D 0 (omega arith) ∙ get_or-set_other w (D + p) (D + x) D 0 (omega arith) ∙ m x x_d)

-- ---- all of them

-- a number that does not stand keeps every later past from standing
numbered_later : (D i m : ℕ) (w : List ℕ) → 3 * D + (i + m) ≤ length w → ¬ T (numbered D (past_in D i w)) → ¬ T (numbered D (past_in D (i + m) w))
numbered_later D i zero w l n = rw (add-zero i) n
numbered_later D i (suc m) w l n = λ t.
    numbered_later D i m w (omega arith) n ((numbered_cons D (stamp D w (i + m)) (past_in D (i + m) w)).0 (rw (add-suc i m, past_suc D (i + m) w (omega arith)) at t)).1.1

refused : {D n : ℕ} {w : List ℕ} → ¬ T (numbered D (past_in D n w)) → Marks D n w (tried false w)
refused {D} {n} {w} f = record {
  fine = sym (not_T→false (numbered D (past_in D n w)) f);
  marked = λ t. absurd t;
  table = refl;
  rest = refl;
  size = refl;
}

carried : {D n : ℕ} {a : Tried} (w : List ℕ) (h : ℕ) → dart h + 1 < D → Marks D n (mark D w h) a → Marks D n w a
carried {D} {n} {a} w h both M =
    let e : past_in D n (mark D w h) ≡ past_in D n w = past_rest D n (mark D w h) w (mark_rest D w h both) in
    record {
      fine = rw e at M.fine;
      marked = rw e at M.marked;
      table = M.table ∙ mark_table D w h both;
      rest = M.rest ∙ mark_rest D w h both;
      size = M.size ∙ mark_size D w h both;
    }

module _ (D i m : ℕ) (w : List ℕ) (even : D % 2 ≡ 0) (below : i + suc m ≤ D) (fits : 4 * D ≤ length w)
    (marked : Marked D (past_in D i w) w) (stand : T (numbered D (past_in D i w))) where
  abbrev h : ℕ
  h = stamp D w i

  abbrev v : List ℕ
  v = mark D w h

  -- the edge is marked, if it is not gone
  abbrev marking : Tried
  marking = if not (eqb (prev D w (dart h)) (D + 1)) then tried false w else marks D v (suc i) m

  next_past : past_in D (suc i) w ≡ h ∷ past_in D i w
  next_past = past_suc D i w (omega arith)

  stops : ¬ T (numbered D (h ∷ past_in D i w)) → Marks D (i + suc m) w (tried false w)
  stops n =
      let e : i + suc m ≡ suc i + m = omega arith in
      rw e (refused (numbered_later D (suc i) m w (omega arith) (rw next_past n)))

  last_past : dart h + 1 < D → past_in D (suc i) v ≡ h ∷ past_in D i w
  last_past both = past_rest D (suc i) v w (mark_rest D w h both) ∙ next_past

  -- the operation's dart is of the edge that is looked at
  lead_gone : gone (past_in D i w) (lead_of h) ≡ gone (past_in D i w) (dart h)
  unfolding lead_of
  lead_gone = gone_end (past_in D i w) (same_edge (dart h) (h / 2) (omega arith))

  looked : dart h + 1 < D → not (eqb (prev D w (dart h)) (D + 1)) ≡ gone (past_in D i w) (dart h)
  looked both = rw (marked (dart h) (omega arith)) (go (gone (past_in D i w) (dart h)))
    where
      go : (b : Bool) → not (eqb (if b then D else D + 1) (D + 1)) ≡ b
      go true = let n : D ≢ D + 1 = omega arith in rw (eqb_other n)
      go false = rw (eqb_same {m = D + 1} refl)

  one_mark : (Marked D (past_in D (suc i) v) v → T (numbered D (past_in D (suc i) v)) → Marks D (suc i + m) v (marks D v (suc i) m))
      → Marks D (i + suc m) w (marks D w i (suc m))
  unfolding marks
  one_mark others = low (leb (2 * D) h) refl
    where
      free : h < 2 * D → dart h + 1 < D → (b : Bool) → gone (past_in D i w) (dart h) ≡ b → Marks D (i + suc m) w (if b then tried false w else marks D v (suc i) m)
      free l both true g = stops (λ t. ((numbered_cons D h (past_in D i w)).0 t).1.0 (rw (lead_gone, g) tt))
      free l both false g =
          let e : i + suc m ≡ suc i + m = omega arith in
          let s : T (numbered D (h ∷ past_in D i w)) = (numbered_cons D h (past_in D i w)).1 (l, (rw (lead_gone, g) (λ t. t), stand)) in
          rw e (carried w h both (others (rw (last_past both) (mark_marked D w h both (past_in D i w) (omega arith) marked)) (rw (last_past both) s)))

      low : (b : Bool) → leb (2 * D) h ≡ b → Marks D (i + suc m) w (if b then tried false w else marking)
      low true e = stops (λ t. omega (arith, ((numbered_cons D h (past_in D i w)).0 t).0, leb→le (2 * D) h (rw e tt)))
      low false e =
          let l : h < 2 * D = nleb→lt (2 * D) h (rw e tt) in
          let both : dart h + 1 < D = omega arith in
          rw (looked both) (free l both (gone (past_in D i w) (dart h)) refl)

all_marked : {D n : ℕ} {w : List ℕ} → Marked D (past_in D n w) w → T (numbered D (past_in D n w)) → Marks D n w (tried true w)
all_marked {D} {n} {w} M s = record {
  fine = sym (T→true (numbered D (past_in D n w)) s);
  marked = λ t. M;
  table = refl;
  rest = refl;
  size = refl;
}

marks_from : (m D i : ℕ) (w : List ℕ) → D % 2 ≡ 0 → i + m ≤ D → 4 * D ≤ length w → Marked D (past_in D i w) w → T (numbered D (past_in D i w))
    → Marks D (i + m) w (marks D w i m)
marks_from zero D i w even below fits M s = unfold marks in rw (add-zero i) (all_marked M s)
marks_from (suc m) D i w even below fits M s =
    one_mark D i m w even below fits M s
    (λ N r. marks_from m D (suc i) (mark D w (stamp D w i)) even (omega arith) (simp length-set fits) N r)

-- THE NUMBERS ARE TESTED AS THE PAST'S ARE
pub marks_right : (D n : ℕ) (w : List ℕ) → D % 2 ≡ 0 → n ≤ D → 4 * D ≤ length w → ((x : ℕ) → x < D → prev D w x ≡ D + 1) → Marks D n w (marks D w 0 n)
unfolding numbered
marks_right D n w even below fits unknown =
    rw (zero-add n) at (marks_from n D 0 w even (omega arith) fits (rw (past_none D w) start) (rw (past_none D w) tt))
  where
    start : Marked D [] w
    start x l = unfold gone in unknown x l
