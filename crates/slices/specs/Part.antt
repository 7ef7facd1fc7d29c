-- A part of a longer list: it is lent to a call, and stands in the list again as the call has left it.
--   part a e l  == the numbers of l from a on, up to and without e
--   put a e l t == l with t in the place of that part
use Rattle.std.specs.Prelude.{List, ℕ, ◌-◌}
use borrow.Rule.Slice.PartMut.{mid_of, put_mid}

abbrev pub part : ℕ → ℕ → List ℕ → List ℕ
part a e l = mid_of a (e - a) l

abbrev pub put : ℕ → ℕ → List ℕ → List ℕ → List ℕ
put a e l t = put_mid a (e - a) l t
