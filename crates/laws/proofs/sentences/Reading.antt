-- What reading a file leaves.
--   Unread r t h   == a state of zeros, and the table and the history as they were
--   ReadIn r t h w == a pyramid lent with room, and nothing past its numbers changed
--   read_refused, read_accepted == a refused read leaves the one, an accepted one the other
--   read_lengths   == of the lent slices a read looks at the lengths alone
use mathlib.Core.List.{List, reverse, reverse-reverse}
use mathlib.Core.Logic.{◌≢◌}
use mathlib.Core.Path.{◌≡◌, refl, sym, ap, ◌∙◌, subst, subst₂}
use Prim.Native.Nat.{ℕ}
use native.Mathlib.Omega.{arith}
use lib.Dec.{T}
use lib.ListN.{length, take, drop, replicate, length-reverse}
use Rattle.darts.specs.State.{State}
use Rattle.darts.specs.Pyramid.{Pyramid}
use Rattle.darts.specs.Read.{file_state, Read, means, faulty, read_file}
use Rattle.darts.specs.Calls.{After, table_of, past_of, cleared, read_into, read}
use Rattle.slices.specs.Over.{over}
use Rattle.laws.proofs.claims.Decided.{pyramid_decided}
use Rattle.laws.proofs.tests.Passes.{pyramid_shaped}
use Rattle.laws.proofs.tests.Room.{pyramid_room}
use Rattle.darts.proofs.Fitting.{Lengths, room_facts}
use Rattle.slices.proofs.Over.{over_front, over_rest, over_length}
use Rattle.laws.proofs.calls.Cleared.{cleared_length}
use Rattle.laws.proofs.calls.Judging.{Lent}
use Rattle.laws.proofs.file.Meanings.{meaning}
use Rattle.laws.proofs.file.Seen.{seen_refused}
use Rattle.laws.proofs.sentences.FirstLines.{fits}

pub record Unread (r : After) (t h : List ℕ) : Type 0 where
  pub state : r.state ≡ record { darts = 0; operations = 0; levels = 0; ends = replicate 64 0; vertices = 0; faces = 0 }
  pub table : r.table ≡ t
  pub history : r.history ≡ h

pub record ReadIn (r : After) (t h w : List ℕ) : Type 0 where
  pub place : r.answer.place ≡ 0
  pub lent : Lent r.state r.table r.history r.work
  pub table : drop r.state.darts r.table ≡ drop r.state.darts t
  pub history : drop r.state.operations r.history ≡ drop r.state.operations h
  pub table_length : length r.table ≡ length t
  pub history_length : length r.history ≡ length h
  pub work_length : length r.work ≡ length w

-- ---- what an accepted read leaves

module _ {s : State} {u past : List ℕ} (P : Pyramid s u past) where
  size : length u ≡ s.darts
  size = (pyramid_shaped P).sound.standing.size

  count : length (reverse past) ≡ s.operations
  count = length-reverse past ∙ sym (pyramid_shaped P).layered.count

  -- the first numbers of the slices are what was read
  front : (t : List ℕ) → take s.darts (over u t) ≡ u
  front t = subst (λ n. take n (over u t) ≡ u) size (over_front u t)

  new : (h : List ℕ) → take s.operations (over (reverse past) h) ≡ reverse past
  new h = subst (λ n. take n (over (reverse past) h) ≡ reverse past) count (over_front (reverse past) h)

  module _ (t h w : List ℕ) (L : Lengths s.darts (length t) (length h) (length w)) where
    pyramid : Pyramid s (table_of s (over u t)) (past_of s (over (reverse past) h))
    unfolding table_of past_of
    pyramid = subst₂ (Pyramid s) (sym (front t)) (sym (ap reverse (new h) ∙ reverse-reverse past)) P

    table_length : length (over u t) ≡ length t
    table_length = over_length u t (omega (arith, size, L.table))

    history_length : length (over (reverse past) h) ≡ length h
    history_length = over_length (reverse past) h (omega (arith, length-reverse past, pyramid_room P, L.history))

    work_length : length (cleared s.darts w) ≡ length w
    work_length = cleared_length s.darts w L.work

    read_in : ReadIn (read_into t h w (means s u past)) t h w
    unfolding read_into
    read_in = record {
      place = refl;
      lent = record { pyramid = pyramid; lengths = rw (table_length, history_length, work_length) L };
      table = subst (λ n. drop n (over u t) ≡ drop n t) size (over_rest u t);
      history = subst (λ n. drop n (over (reverse past) h) ≡ drop n h) count (over_rest (reverse past) h);
      table_length = table_length;
      history_length = history_length;
      work_length = work_length;
    }

-- ---- accepted or refused

module _ (b t h w : List ℕ) where
  -- "A refused start or read, which was given none, hands back a state of zeros." "The reader writes table and history only when it accepts"
  pub read_refused : (read b t h w).answer.number ≢ 0 → Unread (read b t h w) t h
  unfolding read read_into
  read_refused n = go (read_file (fits t h w) b) n
    where
      go : (r : Read) → (read_into t h w r).answer.number ≢ 0 → Unread (read_into t h w r) t h
      go (means s u past) n = absurd (n refl)
      go (faulty D a) n = record { state = refl; table = refl; history = refl }

  -- "Numbers of a lent table past D are neither read nor written, nor those of a history past the larger of the operation counts"
  pub read_accepted : (read b t h w).answer.number ≡ 0 → ReadIn (read b t h w) t h w
  unfolding read read_into file_state
  read_accepted z = go (read_file (fits t h w) b) refl z
    where
      go : (r : Read) → read_file (fits t h w) b ≡ r → (read_into t h w r).answer.number ≡ 0 → ReadIn (read_into t h w r) t h w
      go (means s u past) e z =
          let M = meaning (fits t h w) b e in
          let D : M.darts ≡ s.darts = sym (ap (λ s. s.darts) M.state) in
          let L = room_facts (length t) (length h) (length w) s.darts (subst (λ n. T (fits t h w n)) D M.fits) in
          read_in ((pyramid_decided s u past).0 M.pyramid) t h w L
      go (faulty D a) e z = absurd (seen_refused (fits t h w) b e z)

-- ---- what is looked at

pub record SameRead (r r' : After) : Type 0 where
  pub answer : r.answer ≡ r'.answer
  pub state : r.state ≡ r'.state
  pub table : r.answer.number ≡ 0 → take r.state.darts r.table ≡ take r.state.darts r'.table
  pub history : r.answer.number ≡ 0 → take r.state.operations r.history ≡ take r.state.operations r'.history

-- slices of the same lengths are read into alike: nothing else of them is looked at
pub read_lengths : (b t h w t' h' w' : List ℕ) → length t' ≡ length t → length h' ≡ length h → length w' ≡ length w
    → SameRead (read b t h w) (read b t' h' w')
unfolding read read_into
read_lengths b t h w t' h' w' i j k = rw (i, j, k) (go (read_file (fits t h w) b) refl)
  where
    go : (r : Read) → read_file (fits t h w) b ≡ r → SameRead (read_into t h w r) (read_into t' h' w' r)
    go (means s u past) e =
        let P = (pyramid_decided s u past).0 (meaning (fits t h w) b e).pyramid in
        record { answer = refl; state = refl; table = λ z. front P t ∙ sym (front P t'); history = λ z. new P h ∙ sym (new P h') }
    go (faulty D a) e =
        let n = seen_refused (fits t h w) b e in
        record { answer = refl; state = refl; table = λ z. absurd (n z); history = λ z. absurd (n z) }
