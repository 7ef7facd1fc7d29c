-- What the calls leave is what the lines of the report may say.
--   line_most     == no level's number is above 64
--   line_done     == counts_at of a level of an accepted file is done
--   line_of       == and the counts that it leaves are those of the line
--   refused_read  == the reader's refusal is that of the refusal's line
--   accepted_read == the state that was read has the top level
use mathlib.Core.List.{List}
use mathlib.Core.Path.{◌≡◌, refl, sym, ap, ◌∙◌}
use Prim.Native.Nat.{ℕ, ◌≤◌}
use native.Mathlib.Omega.{arith}
use Rattle.std.specs.Prelude.{Result, Ok, Err, IsOk}
use Rattle.darts.specs.Counts.{Counts}
use Rattle.darts.specs.Read.{Read, means, faulty}
use Rattle.darts.specs.Calls.{room, read_into, read}
use Rattle.laws.proofs.runs.Pyramids.{pyramid_built}
use Rattle.laws.proofs.claims.Decided.{pyramid_decided}
use Rattle.laws.proofs.file.Meanings.{meaning}
use Rattle.darts.specs.Cases.{answer_of, refusal_of}
use Rattle.darts.specs.declared.Refusal.{Refusal}
use Rattle.darts.proofs.Cases.{refused_number, number_ok}
use Rattle.pyramid.specs.Values.{left, tally_of, counts_left}
use Rattle.pyramid.specs.declared.Outcome.{Outcome}
use Rattle.pyramid.specs.declared.Counts.{Counts as Tallied}
use Rattle.levels.specs.Report.{counts_at, Tables, meant, answer_to, top_of, Refused, Accepted, LineOf}
use Rattle.levels.proofs.LevelCounts.{level_counts, level_done}

-- "There are at most 64 kernels over the base."
read_most : (b : List ℕ) (r : Read) → meant b ≡ r → top_of r ≤ 64
unfolding meant top_of
read_most b (means s u past) e = (pyramid_built ((pyramid_decided s u past).0 (meaning (room 4096 2048 16384) b e).pyramid)).layered.most
read_most b (faulty D a) e = omega arith

pub line_most : {k : ℕ} {b : List ℕ} {c : Counts} → LineOf k b c → k ≤ 64
line_most {b = b} L = omega (arith, L.level, read_most b (meant b) refl)

read_levels : (t h w : List ℕ) (r : Read) → (read_into t h w r).state.levels ≡ top_of r
unfolding read_into top_of
read_levels t h w (means s u past) = refl
read_levels t h w (faulty D a) = refl

read_answer : (t h w : List ℕ) (r : Read) → (read_into t h w r).answer ≡ answer_to r
unfolding read_into answer_to
read_answer t h w (means s u past) = refl
read_answer t h w (faulty D a) = refl

reached : {b : List ℕ} {k n : ℕ} → Accepted b n → k ≤ n → k ≤ top_of (meant b)
reached A l = omega (arith, A.top)

module _ (b : List ℕ) {t h w t' h' w' : List ℕ} (T : Tables t h w) where
  module _ (k n : ℕ) (A : Accepted b n) (l : k ≤ n) where
    pub line_done : (r : Result Tallied Refusal) → counts_left r t' h' w' ≡ counts_at k b t h w → IsOk r
    line_done r e = number_ok r (ap (λ c. c.answer.number) e ∙ ap (λ a. a.number) (level_done k b t h w T A.accepted (reached A l)))

    pub line_of : (c : Tallied) → counts_left (Ok c) t' h' w' ≡ counts_at k b t h w → LineOf k b (tally_of c)
    line_of c e = record { accepted = A.accepted; level = reached A l; counts = ap (λ c. c.counts) e ∙ level_counts k b t h w T (reached A l) }

  module _ (o : Outcome) (e : left o t' h' w' ≡ read b t h w) where
    answer_read : answer_of o.answer ≡ answer_to (meant b)
    unfolding read meant
    answer_read = ap (λ a. a.answer) e ∙ rw (T.table, T.history, T.work) (read_answer t h w _)

    pub refused_read : (r : Refusal) → o.answer ≡ Err r → Refused b (refusal_of r)
    refused_read r i = record { refused = refused_number r; answer = ap answer_of (sym i) ∙ answer_read }

    pub accepted_read : o.answer ≡ Ok tt → Accepted b o.state.levels
    unfolding read meant
    accepted_read i = record {
      accepted = ap (λ a. a.number) (sym answer_read) ∙ ap (λ a. (answer_of a).number) i;
      top = ap (λ a. a.state.levels) e ∙ rw (T.table, T.history, T.work) (read_levels t h w _);
    }
