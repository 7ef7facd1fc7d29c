-- `record::equal_metres` meets its contract: two NaNs are the same, one is not, and numbers are where their bits are.
use Rattle.std.proofs.Common.{sym, rules}
use Rattle.sheets.proofs.Same.{nans_same, one_nan, same_bits}
use Rattle.sheets.proofs.record.equal_metres.Goals as goal

pub returns-then-nan : goal.returns-then-nan
returns-then-nan c = nans_same _ _ _ _ c.is_nan-nan.ensures.value c.is_nan.ensures.value c.if-nan-is_nan.true c.if-nan.true

pub returns-else-nan : goal.returns-else-nan
returns-else-nan c = sym (same_bits c.args.x c.args.y (search rules) (search rules))

pub returns-else-nan-is_nan : goal.returns-else-nan-is_nan
returns-else-nan-is_nan c = one_nan _ _ _ _ c.is_nan-nan.ensures.value c.is_nan.ensures.value c.if-nan-is_nan.false
