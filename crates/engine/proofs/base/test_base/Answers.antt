-- `engine::base::test_base` meets its contract: what is counted is cleared.
use mathlib.Core.Path.{◌∙◌}
use Rattle.laws.proofs.calls.Cleared.{cleared_kept}
use Rattle.engine.proofs.base.test_base.Goals as goal

pub returns : goal.returns
returns c =
    let C = c.count_base-counted.ensures in
    record {
      verdict_value = C.base_counted.verdict;
      tests_cycles = C.tests_cycles;
      work_after = c.clear.ensures ∙ cleared_kept _ _ _ C.base_counted.beyond.rest;
    }
