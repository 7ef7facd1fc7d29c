-- What the permutation test says, as the code has it.
--   verdict_of r == the verdict of the definitions that a result is: passed, or two culprits
--   Said        == a verdict, and the work area after the test
--   passing s   == whether it is passed, and the work area
use Rattle.std.specs.Prelude.{List, ℕ, Result, Ok, Err}
use Rattle.darts.specs.Map.{Verdict as Decided, permutes, culprits, passed}
use Rattle.area.specs.Area.{Tried, tried}
use Rattle.area.specs.declared.Culprits.{Culprits}

abbrev pub verdict_of : {T : Type 0} → Result T Culprits → Decided
verdict_of (Ok x) = permutes
verdict_of (Err c) = culprits c.dart c.beside

pub record Said : Type 0 where
  pub verdict : Decided
  pub work : List ℕ

abbrev pub said : Decided → List ℕ → Said
said v w = record { verdict = v; work = w }

abbrev pub passing : Said → Tried
passing s = tried (passed s.verdict) s.work
