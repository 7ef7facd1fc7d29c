-- The counts of a level of a file are the same whatever stood in the tables.
--   Holds s u past t h w == the slices t, h and w hold the pyramid s, u, past
--   stored               == what an accepted call writes over the first numbers of the slices, they hold
--   unfold_held          == unfold to level k on what is held
--   Told c n             == counts that are done, and are n
--   counts_held          == counts of what is held
--   level_below          == the counts of level k of a pyramid that was read
--   counts_none          == a refused file has none
--   level_counts         == read, unfolded to level k and counted: the counts of level k of what the file means
--   level_done           == of an accepted file they are done
use mathlib.Core.Bool.{true}
use mathlib.Core.List.{List, reverse, reverse-reverse}
use mathlib.Core.Path.{◌≡◌, refl, sym, ap, ap₂, ◌∙◌, subst}
use Prim.Native.Nat.{ℕ, ◌≤◌}
use native.Mathlib.Omega.{arith}
use lib.Dec.{T}
use lib.ListN.{length, take, length-reverse}
use Rattle.darts.specs.Answers.{Answer, done}
use Rattle.darts.specs.State.{State, gives}
use Rattle.darts.specs.Levels.{unfold_to}
use Rattle.darts.specs.Pyramid.{Pyramid, dart_count}
use Rattle.darts.specs.Counts.{Counts, counts_of, no_counts}
use Rattle.darts.specs.Read.{Read, means, faulty, read_file, file_state}
use Rattle.darts.specs.Calls.{Counted, leaves, room, fitting, judged, table_of, past_of, cleared, hands_back, on_state, unfold_by, counts, read_into, read}
use Rattle.slices.specs.Over.{over}
use Rattle.laws.proofs.runs.Pyramids.{pyramid_built}
use Rattle.laws.proofs.claims.Decided.{pyramid_decided}
use Rattle.laws.proofs.tests.Room.{pyramid_room}
use Rattle.laws.proofs.runs.Undo.{unfold_pyramid}
use Rattle.laws.proofs.file.Meanings.{meaning}
use Rattle.laws.proofs.file.Seen.{seen_refused}
use Rattle.laws.proofs.file.WriteRead.{write_read}
use Rattle.darts.proofs.Fitting.{Lengths, room_facts}
use Rattle.laws.proofs.calls.Judging.{Lent, judged_lent, on_lent}
use Rattle.laws.proofs.calls.Cleared.{cleared_length}
use Rattle.laws.proofs.chained.Steps.{unfold_leads}
use Rattle.slices.proofs.Over.{over_front, over_length}
use Rattle.levels.specs.Report.{level_at, counts_at, unfolded, counted, Tables, meant, answer_to, top_of, counts_given, counts_of_level}

-- ---- slices that hold a pyramid

record Holds (s : State) (u past t h w : List ℕ) : Type 0 where
  lent : Lent s t h w
  table : table_of s t ≡ u
  history : past_of s h ≡ past

module _ {s : State} {u past : List ℕ} (P : Pyramid s u past) where
  stored : (t h w v : List ℕ) → Lengths s.darts (length t) (length h) (length w) → length v ≡ length w
      → Holds s u past (over u t) (over (reverse past) h) v
  unfolding table_of past_of
  stored t h w v L e =
      let B = pyramid_built P in
      let size = B.standing.size in
      let count : length (reverse past) ≡ s.operations = length-reverse past ∙ sym B.layered.count in
      let some = pyramid_room P in
      let back = length-reverse past in
      let kept : length (over u t) ≡ length t = over_length u t (omega (arith, L.table)) in
      let kept' : length (over (reverse past) h) ≡ length h = over_length (reverse past) h (omega (arith, L.history)) in
      let front : take s.darts (over u t) ≡ u = rw (← size) (over_front u t) in
      let numbers : take s.operations (over (reverse past) h) ≡ reverse past = rw (← count) (over_front (reverse past) h) in
      let front' : reverse (take s.operations (over (reverse past) h)) ≡ past = ap reverse numbers ∙ reverse-reverse past in
      record {
        lent = record { pyramid = rw (front, front') P; lengths = rw (kept, kept', e) L };
        table = front;
        history = front';
      }

record Told (c : Counted) (n : Counts) : Type 0 where
  answer : c.answer ≡ done
  counts : c.counts ≡ n

module _ {s : State} {u past t h w : List ℕ} (H : Holds s u past t h w) where
  unfold_held : (k : ℕ) {z : State} {v new : List ℕ} → unfold_to k s u past ≡ gives z v new
      → unfold_by k s t h w ≡ leaves done z (over v t) (over (reverse new) h) (cleared s.darts w)
  unfolding unfold_by hands_back
  unfold_held k e =
      on_lent s t h w (unfold_to k) H.lent ∙ ap (hands_back s t h w) (ap₂ (unfold_to k s) H.table H.history ∙ e)

  counts_held : Told (counts s t h w) (counts_of s.darts u past)
  unfolding counts
  counts_held = record {
    answer = judged_lent s t h w H.lent;
    counts = rw (judged_lent s t h w H.lent) (ap₂ (counts_of s.darts) H.table H.history);
  }

-- ---- read, unfolded, counted

module _ {s : State} {u past : List ℕ} (P : Pyramid s u past) (t h w : List ℕ) (L : Lengths s.darts (length t) (length h) (length w)) where
  -- level k of a pyramid that was read
  level_below : (k : ℕ) → k ≤ s.levels → Told (counted (unfolded k (read_into t h w (means s u past)))) (counts_given (unfold_to k s u past))
  unfolding read_into counts_given
  level_below k l =
      let S = (write_read P (λ _. true) tt).levels k l in
      let e = S.here in
      let v = cleared s.darts w in
      let size = cleared_length s.darts w L.work in
      let H = stored P t h w v L size in
      let L' = H.lent.lengths in
      let below : Lengths S.state.darts (length (over u t)) (length (over (reverse past) h)) (length v) = rw ((unfold_leads k).darts e) L' in
      let C = counts_held
      (stored (unfold_pyramid P k e) (over u t) (over (reverse past) h) v (cleared s.darts v) below (cleared_length s.darts v L'.work)) in
      record {
        answer = ap (λ a. (counted a).answer) (unfold_held H k e) ∙ C.answer;
        counts = ap (λ a. (counted a).counts) (unfold_held H k e) ∙ C.counts ∙ ap counts_given (sym e);
      }

-- a refused file has none
counts_none : (k D : ℕ) (a : Answer) (t h w : List ℕ) → (counted (unfolded k (read_into t h w (faulty D a)))).counts ≡ no_counts
unfolding read_into unfold_by on_state hands_back judged fitting dart_count counts
counts_none k D a t h w = refl

module _ (k : ℕ) (b t h w : List ℕ) where
  abbrev R : Read
  R = read_file (room (length t) (length h) (length w)) b

  level_told : {s : State} {u past : List ℕ} → R ≡ means s u past → k ≤ s.levels → Told (counts_at k b t h w) (counts_given (unfold_to k s u past))
  unfolding counts_at level_at read file_state
  level_told {s} {u} {past} e l =
      let M = meaning (room (length t) (length h) (length w)) b e in
      let darts : M.darts ≡ s.darts = ap (λ z. z.darts) (sym M.state) in
      let L = room_facts (length t) (length h) (length w) s.darts (subst (λ D. T (room (length t) (length h) (length w) D)) darts M.fits) in
      rw e (level_below ((pyramid_decided s u past).0 M.pyramid) t h w L k l)

  counts_of_level_lem : (r : Read) → R ≡ r → k ≤ top_of r → (counts_at k b t h w).counts ≡ counts_of_level k r
  unfolding counts_at level_at read top_of counts_of_level
  counts_of_level_lem (faulty D a) e l = ap (λ r. (counted (unfolded k (read_into t h w r))).counts) e ∙ counts_none k D a t h w
  counts_of_level_lem (means s u past) e l = (level_told e l).counts

  counts_done : (r : Read) → R ≡ r → (answer_to r).number ≡ 0 → k ≤ top_of r → (counts_at k b t h w).answer ≡ done
  unfolding answer_to top_of
  counts_done (faulty D a) e z l = absurd (seen_refused (room (length t) (length h) (length w)) b e z)
  counts_done (means s u past) e z l = (level_told e l).answer

  module _ (T : Tables t h w) where
    -- THE COUNTS OF LEVEL k, WHATEVER STOOD IN THE TABLES
    pub level_counts : k ≤ top_of (meant b) → (counts_at k b t h w).counts ≡ counts_of_level k (meant b)
    unfolding meant
    level_counts l = counts_of_level_lem (meant b) (rw (T.table, T.history, T.work)) l

    pub level_done : (answer_to (meant b)).number ≡ 0 → k ≤ top_of (meant b) → (counts_at k b t h w).answer ≡ done
    unfolding meant
    level_done z l = counts_done (meant b) (rw (T.table, T.history, T.work)) z l
