-- What the writer leaves.
--   filed a t h w o == the answer, and the lent slices
use Rattle.std.specs.Prelude.{List, ℕ, Result}
use Rattle.darts.specs.Calls.{Written}
use Rattle.darts.specs.Cases.{bytes_of}
use Rattle.darts.specs.declared.Refusal.{Refusal}

abbrev pub filed : Result ℕ Refusal → List ℕ → List ℕ → List ℕ → List ℕ → Written
filed a t h w o = record { answer = bytes_of a; table = t; history = h; work = w; output = o }
