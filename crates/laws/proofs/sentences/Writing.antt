-- What writing a file leaves, and the order of its last two answers: "The writer judges its output's length after 4."
--   Filed s t h o r == an accepted write: its place counts its bytes, they are the file of the pyramid, and nothing after them changes
--   write_needs, write_fits == on a pyramid lent with room: 2 and the bytes needed where the output is too short, 0 and the bytes written where it is not
--   write_refused_lem   == a refused write leaves the output as it was
--   write_accepted  == an accepted one has a pyramid lent with room, and alters only its own bytes
--   write_again     == lent the bytes that this 2 names, the write is accepted
--   write_flag      == byte nine of what is written is `0`
use mathlib.Core.List.{List}
use mathlib.Core.Logic.{◌≢◌}
use mathlib.Core.Path.{◌≡◌, refl, sym, ap, ◌∙◌}
use Prim.Native.Nat.{ℕ, ◌<◌, ◌≤◌}
use native.Mathlib.Omega.{arith}
use lib.ListN.{length, take, drop, get_or}
use lib.Seq.{get_or-take}
use Rattle.darts.specs.State.{State}
use Rattle.darts.specs.File.{file_of}
use Rattle.darts.specs.Calls.{Written, table_of, past_of, write}
use Rattle.slices.proofs.Over.{over_front, over_rest, over_length}
use Rattle.laws.proofs.calls.Judging.{Lent, judged_lent}
use Rattle.laws.proofs.calls.Outcomes.{Writing, refused, tight, written, writing}
use Rattle.laws.proofs.sentences.Order.{Answers, answers}

-- "an accepted write alters only its own bytes of the output"
pub record Filed (s : State) (t h o : List ℕ) (r : Written) : Type 0 where
  pub answer : Answers r.answer 0 (length (file_of s (table_of s t) (past_of s h)))
  pub bytes : take r.answer.place r.output ≡ file_of s (table_of s t) (past_of s h)
  pub rest : drop r.answer.place r.output ≡ drop r.answer.place o
  pub size : length r.output ≡ length o

module _ (s : State) (t h w o : List ℕ) where
  abbrev b : List ℕ
  b = file_of s (table_of s t) (past_of s h)

  module _ (L : Lent s t h w) where
    -- 2, place "for the writer's output, the bytes needed"
    pub write_needs : length o < length b → Answers (write s t h w o).answer 2 (length b)
    write_needs k = go (writing s t h w o)
      where
        go : Writing s t h w o → Answers (write s t h w o).answer 2 (length b)
        go (refused n e) = absurd (n (rw (judged_lent s t h w L)))
        go (tight l c e) = answers (rw e)
        go (written l c e) = absurd (omega arith)

    -- 0, place "for the writer, the bytes written"
    pub write_fits : length b ≤ length o → Filed s t h o (write s t h w o)
    write_fits k = go (writing s t h w o)
      where
        go : Writing s t h w o → Filed s t h o (write s t h w o)
        go (refused n e) = absurd (n (rw (judged_lent s t h w L)))
        go (tight l c e) = absurd (omega arith)
        go (written l c e) = rw e (record {
          answer = record { number = refl; place = refl };
          bytes = over_front b o;
          rest = over_rest b o;
          size = over_length b o c;
        })

  -- "A refusal changes nothing but the work area."
  pub write_refused_lem : (write s t h w o).answer.number ≢ 0 → (write s t h w o).output ≡ o
  write_refused_lem r = go (writing s t h w o)
    where
      go : Writing s t h w o → (write s t h w o).output ≡ o
      go (refused n e) = rw e
      go (tight l c e) = rw e
      go (written l c e) = absurd (r (rw e))

  pub write_accepted : (write s t h w o).answer.number ≡ 0 → Lent s t h w × Filed s t h o (write s t h w o)
  write_accepted z = go (writing s t h w o)
    where
      go : Writing s t h w o → Lent s t h w × Filed s t h o (write s t h w o)
      go (refused n e) = absurd (n (ap (λ r. r.answer.number) (sym e) ∙ z))
      go (tight l c e) = absurd (let k : 2 ≡ 0 = rw e at z in omega arith)
      go (written l c e) = (l, write_fits l c)

  -- "F is byte nine". "The writer writes F = 0."
  pub write_flag : (write s t h w o).answer.number ≡ 0 → get_or (write s t h w o).output 8 256 ≡ 48
  unfolding file_of
  write_flag z =
      let F = (write_accepted z).1 in
      let n = F.answer.place in
      sym (get_or-take (write s t h w o).answer.place (write s t h w o).output 8 256 (omega arith)) ∙ ap (λ l. get_or l 8 256) F.bytes

-- an output of the bytes that the answer 2 names is enough
pub write_again : (s : State) (t h w o o' : List ℕ) → Lent s t h w → length o < length (file_of s (table_of s t) (past_of s h))
    → length o' ≡ (write s t h w o).answer.place → (write s t h w o').answer.number ≡ 0
write_again s t h w o o' L k e = let n = (write_needs s t h w o L k).place in (write_fits s t h w o' L (omega arith)).answer.number
