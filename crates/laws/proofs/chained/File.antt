-- What is written and read again, and what is read and written again, as calls (document 01, "The file").
--   number_in s h d       == the file's own number of dart d, for a state s with the history h
--   SameAt k s t h w a   == unfolded to level k, the pyramid s, t, h and what a leaves have one state, and each entry and each history number of the one is
--                           the other's, in the file's numbers
--   ReadAgain s t h w a  == a, which reads what was written of s, t and h, leaves the same pyramid in the file's numbers, at every level
--   WrittenAgain b o a v == v, which writes what a leaves, has written the bytes b over the first of o, and changed nothing else but the work area
--   write_left           == where write answers 0, it was given a pyramid lent with room, and room for its file
--   write_then_read, read_then_write == the two laws
use mathlib.Core.Bool.{Bool, false}
use mathlib.Core.List.{List, ◌++◌, map, reverse, reverse-reverse}
use mathlib.Core.Logic.{◌≢◌}
use mathlib.Core.Path.{◌≡◌, refl, sym, ap, ◌∙◌}
use Prim.Native.Nat.{ℕ, ◌*◌, ◌<◌, ◌≤◌}
use native.Mathlib.Decide.{dec_lt}
use native.Mathlib.Omega.{arith}
use lib.Dec.{ltb, ltb→lt, lt→ltb}
use lib.ListN.{length, take, drop, replicate}
use lib.Seq.{take-append_seam}
use Rattle.permutations.specs.Choice.{T→true, not_T→false, eqb_other}
use Rattle.darts.specs.Answers.{Answer, answered}
use Rattle.darts.specs.Map.{successor}
use Rattle.darts.specs.Operation.{number, kind_of, lead_of}
use Rattle.darts.specs.State.{State, gives}
use Rattle.darts.specs.Levels.{unfold_to}
use Rattle.darts.specs.File.{file_number, file_table, file_of}
use Rattle.darts.specs.Scan.{byte_at}
use Rattle.darts.specs.Read.{means}
use Rattle.darts.specs.Calls.{After, Written, room, table_of, past_of, cleared, judged, unfold_by, read, write}
use Rattle.slices.specs.Over.{over}
use Rattle.laws.proofs.Lists.{reverse_map}
use Rattle.laws.proofs.file.History.{file_past}
use Rattle.laws.proofs.file.RenamedMap.{renumbered}
use Rattle.laws.proofs.file.Numbering.{Numbering}
use Rattle.laws.proofs.file.ReadWrite.{read_write}
use Rattle.laws.proofs.file.WriteRead.{SameLevel, write_read}
use Rattle.darts.proofs.Fitting.{Lengths, room_test}
use Rattle.laws.proofs.calls.Cleared.{cleared_zero, cleared_rest}
use Rattle.laws.proofs.calls.Judging.{Lent, Judging, uncounted, cramped, other, lent, judging, judged_lent}
use Rattle.laws.proofs.chained.OnLent.{to_level, call_on, called_accepts, called_left}
use Rattle.laws.proofs.chained.Begins.{entry_front, read_left, read_accepts}

-- ---- the writer

module _ (s : State) (t h w o : List ℕ) where
  abbrev file : List ℕ
  file = file_of s (table_of s t) (past_of s h)

  abbrev written : Written
  written = record { answer = answered 0 (length file); table = t; history = h; work = cleared s.darts w; output = file ++ drop (length file) o }

  write_lent : Lent s t h w → length file ≤ length o → write s t h w o ≡ written
  unfolding write over
  write_lent L room =
      let fits : ltb (length o) (length file) ≡ false = not_T→false (ltb (length o) (length file)) (λ l. omega (arith, ltb→lt (length o) (length file) l)) in
      rw (judged_lent s t h w L, fits)

  write_short : Lent s t h w → length o < length file → (write s t h w o).answer.number ≡ 2
  unfolding write
  write_short L less = rw (judged_lent s t h w L, T→true (ltb (length o) (length file)) (lt→ltb (length o) (length file) less))

  write_refused_lem : (judged s t h w).number ≢ 0 → (write s t h w o).answer ≡ judged s t h w
  unfolding write
  write_refused_lem n = rw (eqb_other n)

  -- WHERE WRITE ANSWERS 0, IT WAS GIVEN A PYRAMID LENT WITH ROOM, AND ROOM FOR ITS FILE
  pub write_left : (write s t h w o).answer.number ≡ 0 → Lent s t h w × (length file ≤ length o)
  write_left e = go (judging s t h w)
    where
      refused : {a : Answer} → judged s t h w ≡ a → a.number ≢ 0 → Lent s t h w × (length file ≤ length o)
      refused j n =
          let r : (judged s t h w).number ≢ 0 = rw j n in
          absurd (r (ap (λ (a : Answer). a.number) (sym (write_refused_lem r)) ∙ e))

      room : Lent s t h w → Dec (length o < length file) → Lent s t h w × (length file ≤ length o)
      room L (yes l) = absurd (let z = write_short L l in omega arith)
      room L (no n) = (L, omega arith)

      go : Judging s t h w → Lent s t h w × (length file ≤ length o)
      go (uncounted n j) = refused j (λ z. omega arith)
      go (cramped C n j) = refused j (λ z. omega arith)
      go (other C L n j) = refused j (λ z. omega arith)
      go (lent L j) = room L (dec_lt (length o) (length file))

-- ---- a pyramid in the file's own numbers

abbrev pub number_in : State → List ℕ → ℕ → ℕ
number_in s h d = file_number s.darts (reverse (take s.operations h)) d

-- the history number of the same operation, in the file's numbers
abbrev pub renumbered_in : State → List ℕ → ℕ → ℕ
renumbered_in s h x = number (kind_of x) (number_in s h (lead_of x))

pub record SameAt (k : ℕ) (s : State) (t h w : List ℕ) (a : After) : Type 0 where
  pub here : (unfold_by k s t h w).answer ≡ answered 0 0
  pub there : (call_on (to_level k) a).answer ≡ answered 0 0
  pub state : (call_on (to_level k) a).state ≡ (unfold_by k s t h w).state
  -- "Entries are renamed alike.", those of gone darts too
  pub entries : (d : ℕ) → d < s.darts → successor (call_on (to_level k) a).table (number_in s h d) ≡ number_in s h (successor (unfold_by k s t h w).table d)
  -- the operations keep their kinds, and p is renamed too
  pub history : take (unfold_by k s t h w).state.operations (call_on (to_level k) a).history
      ≡ map (renumbered_in s h) (take (unfold_by k s t h w).state.operations (unfold_by k s t h w).history)

pub record ReadAgain (s : State) (t h w : List ℕ) (a : After) : Type 0 where
  pub answer : a.answer ≡ answered 0 0
  pub state : a.state ≡ s
  -- "A file has its own numbers": what they are
  pub numbers : Numbering s.darts (reverse (take s.operations h))
  pub levels : (k : ℕ) → k ≤ s.levels → SameAt k s t h w a

-- D numbers of the lent tables, and the histories up to the count, are renamed alike: so are the lent tables and histories
module _ (x y : After) {z : State} {table old table' old' : List ℕ}
    (one : gives z table old ≡ gives y.state (take y.state.darts y.table) (reverse (take y.state.operations y.history)))
    (two : gives z table' old' ≡ gives x.state (take x.state.darts x.table) (reverse (take x.state.operations x.history))) where
  same_state_lem : x.state ≡ y.state
  same_state_lem = cc

  renamed_entries : (ν : ℕ → ℕ) (d : ℕ) → d < y.state.darts → ν d < y.state.darts → successor table' (ν d) ≡ ν (successor table d)
      → successor x.table (ν d) ≡ ν (successor y.table d)
  renamed_entries ν d dart below e =
      let D = y.state.darts in
      let here : table ≡ take D y.table = cc in
      let there : table' ≡ take x.state.darts x.table = cc in
      let count : x.state.darts ≡ D = ap (λ (s : State). s.darts) same_state_lem in
      sym (entry_front D x.table (ν d) below) ∙ ap (λ (n : ℕ). successor (take n x.table) (ν d)) (sym count)
      ∙ ap (λ (l : List ℕ). successor l (ν d)) (sym there) ∙ e ∙ ap (λ (l : List ℕ). ν (successor l d)) here ∙ ap ν (entry_front D y.table d dart)

  renamed_history : (f : ℕ → ℕ) → old' ≡ map f old → take y.state.operations x.history ≡ map f (take y.state.operations y.history)
  renamed_history f e =
      let n = y.state.operations in
      let here : old ≡ reverse (take n y.history) = cc in
      let there : old' ≡ reverse (take x.state.operations x.history) = cc in
      let count : x.state.operations ≡ n = ap (λ (s : State). s.operations) same_state_lem in
      sym (reverse-reverse (take n x.history)) ∙ ap (λ (m : ℕ). reverse (reverse (take m x.history))) (sym count)
      ∙ ap reverse (sym there ∙ e ∙ ap (map f) here) ∙ reverse_map f (take n y.history)

module _ (s : State) (t h w : List ℕ) (a : After) (L : Lent s t h w) (M : Lent a.state a.table a.history a.work)
    (same : means s (file_table s.darts (table_of s t) (past_of s h)) (file_past (past_of s h))
    ≡ means a.state (table_of a.state a.table) (past_of a.state a.history)) where
  same_at : Numbering s.darts (past_of s h) → (k : ℕ) → SameLevel k s (table_of s t) (past_of s h) → SameAt k s t h w a
  unfolding table_of past_of renumbered
  same_at N k E =
      let state : s ≡ a.state = cc in
      let table : file_table s.darts (table_of s t) (past_of s h) ≡ table_of a.state a.table = cc in
      let past : file_past (past_of s h) ≡ past_of a.state a.history = cc in
      let read_there : unfold_to k a.state (table_of a.state a.table) (past_of a.state a.history) ≡ gives E.state E.table' E.old' =
      rw (← table, ← past, ← state) E.there in
      let A = called_left (to_level k) s t h w (called_accepts (to_level k) s t h w L E.here) in
      let B = called_left (to_level k) a.state a.table a.history a.work
      (called_accepts (to_level k) a.state a.table a.history a.work M read_there) in
      let here = sym E.here ∙ A.gave in
      let there = sym read_there ∙ B.gave in
      let D = A.left.darts in
      let x = call_on (to_level k) a in
      let y = unfold_by k s t h w in
      record {
        here = A.left.answer;
        there = B.left.answer;
        state = same_state_lem x y here there;
        entries = λ d dart.
            renamed_entries x y here there (number_in s h) d (omega arith) (let b = N.renaming.below d dart in omega arith) (E.entries d dart);
        history = renamed_history x y here there (renumbered_in s h) E.history;
      }

-- WRITTEN AND READ AGAIN, IT IS THE SAME PYRAMID IN THE FILE'S OWN NUMBERS, AT EVERY LEVEL: n is the place of the writer's answer, "the bytes written"
pub write_then_read : (s : State) (t h w o : List ℕ) → (write s t h w o).answer.number ≡ 0
    → (t' h' w' : List ℕ) → Lengths s.darts (length t') (length h') (length w')
    → ReadAgain s t h w (read (take (write s t h w o).answer.place (write s t h w o).output) t' h' w')
unfolding past_of
write_then_read s t h w o e t' h' w' room' =
    let L = write_left s t h w o e in
    let v : write s t h w o ≡ written s t h w o = write_lent s t h w o L.0 L.1 in
    let b = file s t h w o in
    let bytes : take (write s t h w o).answer.place (write s t h w o).output ≡ b =
    ap (λ (v : Written). take v.answer.place v.output) v ∙ take-append_seam b (drop (length b) o) in
    let has : ℕ → Bool = room (length t') (length h') (length w') in
    let W = write_read L.0.pyramid has (room_test (length t') (length h') (length w') s.darts room') in
    let R = read_left b t' h' w' (read_accepts b t' h' w' W.reads) in
    let same = sym W.reads ∙ R.meant in
    let state : s ≡ (read b t' h' w').state = cc in
    rw bytes (record {
      answer = R.left.answer;
      state = sym state;
      numbers = W.numbers;
      levels = λ k top. same_at s t h w (read b t' h' w') L.0 R.left.lent same W.numbers k (W.levels k top);
    })

-- ---- a file's own bytes

pub record WrittenAgain (b o : List ℕ) (a : After) (v : Written) : Type 0 where
  pub answer : v.answer ≡ answered 0 (length b)
  -- "an accepted write alters only its own bytes of the output"
  pub output : v.output ≡ b ++ drop (length b) o
  pub table : v.table ≡ a.table
  pub history : v.history ≡ a.history
  pub zeros : take (4 * a.state.darts) v.work ≡ replicate (4 * a.state.darts) 0
  pub work : drop (4 * a.state.darts) v.work ≡ drop (4 * a.state.darts) a.work

-- READ AND WRITTEN AGAIN, A FILE WITH F = 0 IS ITS OWN BYTES: "F is byte nine", and 48 is the digit 0
pub read_then_write : (b t h w : List ℕ) → (read b t h w).answer.number ≡ 0 → byte_at b 8 ≡ 48 → (o : List ℕ) → length b ≤ length o
    → WrittenAgain b o (read b t h w) (write (read b t h w).state (read b t h w).table (read b t h w).history (read b t h w).work o)
read_then_write b t h w e nine o room =
    let a = read b t h w in
    let R = read_left b t h w e in
    let own : file a.state a.table a.history a.work o ≡ b = read_write _ b R.meant nine in
    let v = write_lent a.state a.table a.history a.work o R.left.lent (rw own room) in
    rw v (record {
      answer = ap (λ (l : List ℕ). answered 0 (length l)) own;
      output = ap (λ (l : List ℕ). l ++ drop (length l) o) own;
      table = refl;
      history = refl;
      zeros = cleared_zero a.state.darts a.work;
      work = cleared_rest a.state.darts a.work;
    })
