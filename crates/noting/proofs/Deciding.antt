-- Whether it is a pyramid, with notes of what its operations merge: the decision on the map in the work area, and the check of a table and a history.
--   decide_no  == what the plain decision refuses
--   decide_yes == the base replayed decides
--   decide_finds == and the numbers are those of the base
--   check_no   == what the plain check refuses
--   check_yes  == what was loaded is decided
--   check_takes, check_are == from the base's numbers to those of the present level
--   given_told == the sheets judged by notes and links, as the definition judges them
use mathlib.Core.Bool.{Bool, true, false, false≢true}
use mathlib.Core.List.{List, [], reverse, reverse-reverse}
use mathlib.Core.Path.{◌≡◌, sym, ap, ◌∙◌, subst}
use Prim.Native.Nat.{ℕ, ◌+◌, ◌-◌, ◌*◌, ◌/◌, ◌≤◌}
use Rattle.std.proofs.Common.{Option}
use native.Mathlib.Omega.{arith}
use lib.ListN.{length, take, length-reverse}
use lib.Seq.{length-take-le}
use Rattle.permutations.specs.Choice.{true→T}
use Rattle.darts.specs.Calls.{table_of, past_of}
use Rattle.slices.specs.Part.{part}
use Rattle.darts.specs.Moves.{contractions_in}
use Rattle.darts.specs.Operation.{kind_of, undone}
use Rattle.darts.specs.Pyramid.{Pyramid}
use Rattle.darts.specs.State.{State, counted}
use Rattle.darts.specs.Tests.{shaped}
use Rattle.laws.proofs.claims.Decided.{pyramid_decided}
use Rattle.laws.proofs.moves.Contractions.{contractions_reverse}
use Rattle.forest.specs.Forest.{Falls, root}
use Rattle.area.specs.Area.{Room, table_in, past_in, tried}
use Rattle.area.specs.Load.{loads}
use Rattle.area.specs.Shape.{history_in}
use Rattle.operations.specs.Back.{backs}
use Rattle.engine.specs.Held.{Area, Rooted}
use Rattle.engine.specs.Checks.{Decided, Checked}
use Rattle.engine.specs.Counted.{CyclesAre, FindsCycles, Takes, Taken}
use Rattle.engine.specs.declared.Cycles.{Cycles}
use Rattle.engine.proofs.AllBack.{AllBack, backs_right}
use Rattle.engine.proofs.Checking.{loaded_beyond, decided_beyond}
use Rattle.engine.proofs.Decides.{decided}
use Rattle.engine.proofs.Given.{fits_stand, linked_stand}
use Rattle.engine.proofs.Loaded.{Loaded, loads_right}
use Rattle.engine.proofs.Parts.{rest_from, past_length}
use Rattle.engine.proofs.Present.{takes_of, taken_are}
use Rattle.engine.proofs.Ready.{beyond_trans}
use Rattle.sheets.specs.Sheets.{Sheets}
use Rattle.sheets.specs.Notes.{right_in}
use Rattle.yarn.specs.Calls.{base_of}
use Rattle.yarn.specs.Given.{given}
use Rattle.noting.specs.Checks.{Holds, BaseReplayed, NoteDecided, NoteChecked}
use Rattle.noting.proofs.Right.{right_told}

-- ---- the decision

pub decide_no : {s : State} {w w' : List ℕ} → Decided s 1 w w' false → NoteDecided s w w' false
decide_no δ = record {
  answer = δ.answer;
  beyond = decided_beyond δ;
  falls = λ e. absurd (false≢true e);
  roots = λ e. absurd (false≢true e);
  holds = λ e. absurd (false≢true e);
}

module _ (s : State) {w : List ℕ} (A : Area s.darts s.operations w) {b : Bool} {v : List ℕ} (back : tried b v ≡ backs s.darts w s.operations s.operations)
    (fine : b ≡ true) {a : Bool} (told : a ≡ shaped s (history_in s.darts s.operations w)) (shape : a ≡ true) where
  abbrev D : ℕ
  D = s.darts

  abbrev n : ℕ
  n = s.operations

  abbrev past : List ℕ
  past = past_in D n w

  B : AllBack D n n (table_in D w) past w (tried b v)
  B = rw back (backs_right fits_stand n n w (omega arith) A)

  base : table_in D v ≡ base_of s (table_in D w) past
  unfolding base_of
  base = B.table (true→T fine) ∙ ap (λ c. undone D c (table_in D w) past) (sym (past_length D n w (omega (arith, A.few, A.room.fits))))

  history : history_in D n v ≡ reverse past
  history = ap (take (3 * D + n - 3 * D)) (rest_from D (3 * D) v w B.rest (omega arith)) ∙ sym (reverse-reverse (history_in D n w))

  -- THE BASE REPLAYED DECIDES
  pub decide_yes : {w' : List ℕ} {r : Bool} → BaseReplayed D n v w' r → NoteDecided s w w' r
  decide_yes {w'} {r} M =
      let δ : Decided s 1 w M.beside r = decided s A back fine told shape M.tried in
      record {
        answer = δ.answer;
        beyond = beyond_trans (record { size = B.size; rest = rest_from D (4 * D) v w B.rest (omega arith) }) M.beyond;
        falls = λ e. subst Falls M.forest (δ.falls e (omega arith));
        roots = λ e. subst (Rooted D n 1 w) (ap root M.forest) (δ.roots e (omega arith));
        holds = λ e. rw (base, history) at (M.holds e);
      }

  pub decide_finds : (f : Option Cycles) → FindsCycles D (table_in D v) [] f → FindsCycles D (base_of s (table_in D w) past) [] f
  decide_finds f F = rw base at F

-- ---- the check

pub check_no : {s : State} {t h w w' : List ℕ} → Checked s 1 t h w w' false → NoteChecked s t h w w' false
check_no C = record {
  answer = C.answer;
  beyond = C.beyond;
  falls = λ e. absurd (false≢true e);
  roots = λ e. absurd (false≢true e);
  holds = λ e. absurd (false≢true e);
}

module _ (s : State) (t h : List ℕ) {w : List ℕ} (room : Room s.darts w) (long : s.darts ≤ length t) (enough : s.operations ≤ length h)
    (few : s.operations ≤ s.darts / 2) {m : Bool} {v : List ℕ} (loaded : tried m v ≡ loads s.darts s.operations t h w) where
  L : Loaded s.darts s.operations t h w (tried m v)
  L = rw loaded (loads_right linked_stand s.operations t h w room long enough few)

  -- WHAT WAS LOADED IS DECIDED
  pub check_yes : {u : List ℕ} {r : Bool} → NoteDecided s v u r → NoteChecked s t h w u r
  unfolding table_of past_of kind_of
  check_yes δ = record {
    answer = rw (L.table, L.past) at δ.answer;
    beyond = beyond_trans (loaded_beyond L) δ.beyond;
    falls = δ.falls;
    roots = λ e. rw (L.table, L.past) at (δ.roots e);
    holds = λ e. rw (L.table, L.past) at (δ.holds e);
  }

  -- what was found is of a pyramid with this past
  module _ {u : List ℕ} (δ : NoteDecided s v u true) {f : Cycles}
      (C : CyclesAre s.darts (base_of s (table_in s.darts v) (past_in s.darts s.operations v)) [] f.vertices f.faces) where
    pyramid : Pyramid (counted s (table_of s t) (past_of s h)) (table_of s t) (past_of s h)
    unfolding table_of past_of
    pyramid = (pyramid_decided (counted s (table_of s t) (past_of s h)) (table_of s t) (past_of s h)).0 (true→T (sym (rw (L.table, L.past) at δ.answer)))

    base_cycles : CyclesAre s.darts (base_of s (table_of s t) (past_of s h)) [] f.vertices f.faces
    unfolding table_of past_of
    base_cycles = rw (L.table, L.past) at C

    count : length (past_of s h) ≡ s.operations
    unfolding past_of
    count = length-reverse (take s.operations h) ∙ length-take-le s.operations h enough

    contractions : contractions_in (part 0 (0 + length (past_of s h)) h) ≡ contractions_in (past_of s h)
    unfolding past_of
    contractions =
        let e : 0 + length (past_of s h) - 0 ≡ s.operations = omega (arith, count) in
        ap (λ (c : ℕ). contractions_in (take c h)) e ∙ sym (contractions_reverse (take s.operations h))

    fits : 0 + length (past_of s h) ≤ length h
    fits = rw count (omega (arith, enough))

    pub check_takes : Takes 0 s.operations h f
    unfolding base_of
    check_takes = subst (λ (c : ℕ). Takes 0 c h f) count (takes_of pyramid 0 h contractions fits base_cycles)

    pub check_are : {g : Cycles} → Taken 0 s.operations h f g → CyclesAre s.darts (table_of s t) (past_of s h) g.vertices g.faces
    unfolding base_of
    check_are {g} T = taken_are pyramid 0 h contractions fits base_cycles (subst (λ (c : ℕ). Taken 0 c h f g) (sym count) T)

-- ---- the sheets

-- "afterwards 4 also covers sheets that no accepted start and these operations give"
pub given_told : {D n : ℕ} {b hs w : List ℕ} → Holds D n b hs w → (S : Sheets) → right_in D w S (D + n) 0 ≡ given D b hs S
unfolding given
given_told {D} {n} {b} {hs} H S = rw H.count (right_told H.linked.some H.linked.few H.told S)
