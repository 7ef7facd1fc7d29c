-- What holds of both kinds.
--   bit_small  == a bit is 0 or 1
--   bit_other  == the other kind has the other bit
--   bit_kind   == a history number with this bit is this kind's, and so is the bit itself
use Rattle.std.proofs.Common.{◌≡◌, ℕ, ◌-◌, ◌%◌, ◌≤◌, arith, refl}
use Rattle.darts.specs.Operation.{kind_of}
use Rattle.darts.specs.Kinds.{kind_is, bit, other}
use Rattle.darts.specs.declared.Kind.{Kind}
use Rattle.darts.specs.declared.Kind.TheVariants.{Contract, Remove}

pub bit_small : (k : Kind) → bit k ≤ 1
bit_small Contract = omega arith
bit_small Remove = omega arith

pub bit_other : (k : Kind) → bit (other k) ≡ 1 - bit k
bit_other Contract = refl
bit_other Remove = refl

pub bit_kind : (k : Kind) → kind_of (bit k) ≡ kind_is k
unfolding kind_of
bit_kind Contract = refl
bit_kind Remove = refl

pub number_kind : (k : Kind) (h : ℕ) → bit k ≡ h % 2 → kind_of h ≡ kind_is k
unfolding kind_of
number_kind Contract h e = rw (← e)
number_kind Remove h e = rw (← e)
