-- A kernel of contractions under way, with notes.
--   places_last       == the places after one operation more
--   merges_before, merges_last == what the operations before it merge, and what it merges
--   note_read, note_of_two == the note of a merge of two places tells that merge
--   Noting D n es w₀ i w == w is w₀, which has n operations, after the first i contractions of the kernel es: those from n on are noted
--   noting_begin, noting_on, noting_stops, noting_ends == none is done yet; one more; one is refused; none is left
use mathlib.Core.List.{List, [], ◌∷◌, ◌++◌, reverse, reverse-append}
use mathlib.Core.Logic.{◌≢◌, inr}
use mathlib.Core.Path.{◌≡◌, refl, sym, ap, ap₂, ◌∙◌}
use Prim.Native.Nat.{ℕ, zero, suc, ◌+◌, ◌*◌, ◌/◌, ◌%◌, ◌≤◌, ◌<◌, min, max}
use Rattle.std.proofs.Common.{Ok, Err}
use native.Mathlib.Decide.{ℕ_discrete}
use native.Mathlib.Numerals.{add-one}
use native.Mathlib.Omega.{arith}
use lib.ListN.{length, get_or, drop, set, drop_of_length-le, length-append}
use lib.Seq.{drop-cons, get_or-drop, get_or-set_same, get_or-set_other}
use Rattle.permutations.specs.Choice.{pick, eqb_other}
use Rattle.darts.specs.declared.Refusal.{Refusal}
use Rattle.darts.proofs.Cases.{refused_number}
use Rattle.darts.specs.Operation.{contraction, kind_of, edge_of, lead, number}
use Rattle.darts.specs.Kernel.{Run, always, pass, run}
use Rattle.laws.proofs.bridge.Numbers.{number_kind, number_edge}
use Rattle.forest.specs.Forest.{root}
use Rattle.area.specs.Area.{table_in, past_in}
use Rattle.operations.specs.Trees.{rooted}
use Rattle.operations.proofs.Outside.{set_forest}
use Rattle.engine.specs.Held.{Ready}
use Rattle.engine.specs.Runs.{Stays}
use Rattle.engine.proofs.Ready.{beyond_refl}
use Rattle.engine.proofs.Underway.{Underway, underway_on, underway_kept, underway_stops, underway_ends}
use Rattle.sheets.specs.Sheets.{none, into}
use Rattle.sheets.specs.Notes.{note_of, merge_in, notes_in}
use Rattle.yarn.specs.Places.{joins, zoned, places_after, merge_by, merges_of}
use Rattle.noting.specs.Running.{TurnedNoted, RanNoted}
use Rattle.noting.proofs.Late.{note_stays}
use Rattle.noting.proofs.Stepping.{roots_below}

-- ---- one operation more

pub places_last : (R : ℕ → ℕ) (hs : List ℕ) (h : ℕ) → places_after R (hs ++ (h ∷ [])) ≡ zoned (kind_of h) (places_after R hs) (edge_of h)
unfolding places_after
places_last R [] h = refl
places_last R (g ∷ hs) h = places_last (zoned (kind_of g) R (edge_of g)) hs h

pub merges_before : (R : ℕ → ℕ) (hs : List ℕ) (h i : ℕ) → i < length hs → merges_of R (hs ++ (h ∷ [])) i ≡ merges_of R hs i
unfolding merges_of
merges_before R [] h i l = absurd (omega arith)
merges_before R (g ∷ hs) h zero l = refl
merges_before R (g ∷ hs) h (suc i) l = merges_before (zoned (kind_of g) R (edge_of g)) hs h i (omega arith)

pub merges_last : (R : ℕ → ℕ) (hs : List ℕ) (h : ℕ) → merges_of R (hs ++ (h ∷ [])) (length hs) ≡ merge_by (kind_of h) (places_after R hs) (edge_of h)
unfolding merges_of places_after
merges_last R [] h = refl
merges_last R (g ∷ hs) h = merges_last (zoned (kind_of g) R (edge_of g)) hs h

-- ---- the note is read as it was written

pub note_read : (low high : ℕ) → low < high → high < 65536 → merge_in (note_of (into low high)) ≡ into low high
unfolding merge_in note_of
note_read low high l h =
    let some : low * 65536 + high ≢ 0 = λ e. omega arith in
    let first : (low * 65536 + high) / 65536 ≡ low = omega arith in
    let second : (low * 65536 + high) % 65536 ≡ high = omega arith in
    ap (λ b. pick b none (into ((low * 65536 + high) / 65536) ((low * 65536 + high) % 65536))) (eqb_other some) ∙ ap₂ into first second

pub note_of_two : {D : ℕ} (R : ℕ → ℕ) (e : ℕ) → D ≤ 65536 → ((x : ℕ) → R x < D) → R (2 * e) ≢ R (2 * e + 1)
    → merge_in (note_of (merge_by contraction R e)) ≡ merge_by contraction R e
unfolding merge_by
note_of_two R e small below two =
    let a = below (2 * e) in
    let b = below (2 * e + 1) in
    note_read (min (R (2 * e)) (R (2 * e + 1))) (max (R (2 * e)) (R (2 * e + 1))) (omega arith) (omega arith)

-- ---- the kernel under way

-- where the kernel es goes, after n operations
abbrev whole : ℕ → ℕ → List ℕ → List ℕ → Run
whole D n es w = run contraction D (table_in D w) (past_in D n w) es

pub record Noting (D n : ℕ) (es w₀ : List ℕ) (i : ℕ) (w : List ℕ) : Type 0 where
  pub under : Underway D 1 always (whole D n es w₀) w₀ i (drop i es) w (n + i)
  pub fresh : List ℕ
  pub count : length fresh ≡ i
  pub told : past_in D (n + i) w ≡ reverse fresh ++ past_in D n w₀
  pub roots : rooted D w ≡ places_after (rooted D w₀) fresh
  pub notes : (j : ℕ) → j < i → notes_in D w (n + j) ≡ merges_of (rooted D w₀) fresh j

kind_one : kind_of 1 ≡ contraction
unfolding kind_of
kind_one = refl

pub noting_begin : {D n : ℕ} {w : List ℕ} (es : List ℕ) → Ready D n 1 w → Noting D n es w 0 w
unfolding run pass places_after
noting_begin {D} {n} {w} es ready =
    let none : n + 0 ≡ n = omega arith in
    record {
      under = rw none (record { same = rw kind_one refl; ready = ready; beyond = beyond_refl D w });
      fresh = [];
      count = refl;
      told = rw none refl;
      roots = refl;
      notes = λ j l. absurd (omega arith);
    }

module _ {D n : ℕ} (es : List ℕ) {w₀ : List ℕ} {i : ℕ} {w : List ℕ} (N : Noting D n es w₀ i w) (more : i < length es) where
  abbrev m : ℕ
  m = n + i

  abbrev e : ℕ
  e = get_or es i 0

  next : n + (i + 1) ≡ m + 1
  next = omega arith

  at_turn : Underway D 1 always (whole D n es w₀) w₀ i (e ∷ drop (suc i) es) w m
  at_turn = rw (← drop-cons es i 0 more) N.under

  pub noting_stops : {v : List ℕ} {r : Refusal} → TurnedNoted D m e i w v (Err r) → RanNoted D n es w₀ v (Err r)
  noting_stops {r = r} τ = rw (τ.left (refused_number r)) record {
    went = underway_stops at_turn refl τ.turned;
    fresh = [];
    grows = tt;
    told = tt;
    notes = tt;
  }

  module _ {v : List ℕ} (τ : TurnedNoted D m e i w v (Ok tt)) where
    abbrev u : List ℕ
    u = τ.plain

    abbrev h : ℕ
    h = number contraction (lead contraction (table_in D w) e)

    abbrev R : ℕ → ℕ
    R = rooted D w

    abbrev p : ℕ
    p = 3 * D + D / 2 + m

    goes_ready : Ready D (m + 1) 1 u
    goes_ready = (τ.turned.done refl).ready

    room_left : m < D / 2
    room_left = omega (arith, goes_ready.area.few)

    S : Stays D (m + 1) 1 u (set u p (note_of (merge_by contraction R e)))
    S = note_stays goes_ready m (note_of (merge_by contraction R e)) room_left

    under : Underway D 1 always (whole D n es w₀) w₀ (i + 1) (drop (i + 1) es) v (m + 1)
    under = rw (τ.noted refl, add-one i) (underway_kept S (underway_on at_turn refl τ.turned))

    past : past_in D (m + 1) v ≡ h ∷ past_in D m w
    past = rw (τ.noted refl) (S.past ∙ rw kind_one at (τ.turned.done refl).past)

    roots : rooted D v ≡ joins R e
    roots = rw (τ.noted refl) (ap root (set_forest D u p _ goes_ready.area.room.fits (inr (omega arith))) ∙ τ.roots refl)

    note_last : notes_in D v m ≡ merge_by contraction R e
    unfolding notes_in
    note_last =
        rw (τ.noted refl)
        (ap merge_in (get_or-set_same u p (note_of (merge_by contraction R e)) 0 (omega (arith, room_left, goes_ready.area.room.fits)))
        ∙ note_of_two R e N.under.ready.area.room.small (roots_below N.under.ready.area.room N.under.ready.falls) (τ.two refl))

    note_before : (t : ℕ) → t < m → notes_in D v t ≡ notes_in D w t
    unfolding notes_in
    note_before t l =
        rw (τ.noted refl)
        (ap merge_in (get_or-set_other u p (3 * D + D / 2 + t) (note_of (merge_by contraction R e)) 0 (λ c. omega arith)
        ∙ sym (get_or-drop (3 * D + D / 2) u t 0) ∙ ap (λ l. get_or l t 0) τ.late ∙ get_or-drop (3 * D + D / 2) w t 0))

    zoned_here : (Q : ℕ → ℕ) → zoned (kind_of h) Q (edge_of h) ≡ joins Q e
    unfolding zoned
    zoned_here Q = rw (number_kind contraction (lead contraction (table_in D w) e), number_edge contraction (table_in D w) e) refl

    merges_here : merges_of (rooted D w₀) (N.fresh ++ (h ∷ [])) (length N.fresh) ≡ merge_by contraction R e
    merges_here =
        merges_last (rooted D w₀) N.fresh h
        ∙ rw (number_kind contraction (lead contraction (table_in D w) e), number_edge contraction (table_in D w) e, ← N.roots) refl

    each : (t : ℕ) → t < i + 1 → Dec (t ≡ length N.fresh) → notes_in D v (n + t) ≡ merges_of (rooted D w₀) (N.fresh ++ (h ∷ [])) t
    each t l (yes c) = let last : n + t ≡ m = omega (arith, N.count) in ap (notes_in D v) last ∙ note_last ∙ rw c (sym merges_here)
    each t l (no c) =
        let earlier : t < i = omega (arith, N.count) in
        note_before (n + t) (omega arith) ∙ N.notes t earlier ∙ sym (merges_before (rooted D w₀) N.fresh h t (omega (arith, N.count)))

    pub noting_on : Noting D n es w₀ (i + 1) v
    noting_on = record {
      under = rw next under;
      fresh = N.fresh ++ (h ∷ []);
      count = length-append N.fresh (h ∷ []) ∙ ap (λ c. c + 1) N.count;
      told = rw next (past ∙ ap (λ l. h ∷ l) N.told ∙ sym (ap (λ l. l ++ past_in D n w₀) (reverse-append N.fresh (h ∷ []))));
      roots = roots ∙ ap (λ Q. joins Q e) N.roots ∙ sym (places_last (rooted D w₀) N.fresh h ∙ zoned_here (places_after (rooted D w₀) N.fresh));
      notes = λ t l. each t l (ℕ_discrete t (length N.fresh));
    }

pub noting_ends : {D n : ℕ} (es : List ℕ) {w₀ : List ℕ} {i : ℕ} {w : List ℕ} → Noting D n es w₀ i w → i ≡ length es
    → RanNoted D n es w₀ w (Ok (n + length es))
noting_ends {n = n} es {i = i} N all =
    let over : length es ≤ i = omega arith in
    rw (← all) record {
      went = underway_ends (rw (drop_of_length-le es over) at N.under);
      fresh = N.fresh;
      grows = omega arith;
      told = N.told;
      notes = λ j l. N.notes j (omega arith);
    }
