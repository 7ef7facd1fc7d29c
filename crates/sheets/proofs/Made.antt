-- One merge, and one record put back, over the two lists.
--   merge_made == the record at low is the merge of the two that stood at low and high, and what stood at low is kept at t
--   put_made   == the record at low is the one that was kept at t
use mathlib.Core.List.{List}
use mathlib.Core.Path.{◌≡◌, refl}
use Prim.Native.Nat.{ℕ, ◌<◌}
use lib.ListN.{length, get_or, set}
use Rattle.sheets.specs.declared.Zone.{Zone}
use Rattle.sheets.specs.Records.{merge_of}
use Rattle.sheets.specs.Sheets.{into, merged, returned}
use Rattle.sheets.proofs.Turns.{both, at_any}

pub merge_made : (s k : List Zone) (low high t : ℕ) (past z : Zone) → low < length s → high < length s
    → z ≡ merge_of (get_or s low past) (get_or s high past)
    → merged (into low high) t (both s k) ≡ both (set s low z) (set k t (get_or s low past))
unfolding merged
merge_made s k low high t past z l h e = rw (e, at_any s low past l, at_any s high past h) refl

pub put_made : (s k : List Zone) (low high t : ℕ) (past : Zone) → t < length k
    → returned (into low high) t (both s k) ≡ both (set s low (get_or k t past)) k
unfolding returned
put_made s k low high t past h = rw (at_any k t past h) refl
