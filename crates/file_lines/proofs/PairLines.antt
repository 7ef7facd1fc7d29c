-- The lines of the pairs.
--   pair_lines_lem  == they are read one after the other
--   pairs_count == n lines have 2n numbers
--   pair_small  == the numbers of a line are at most 99,999
--   flag_small  == and so are the darts that they say
use mathlib.Core.Path.{◌≡◌, refl}
use mathlib.Core.Bool.{Bool, true, false}
use mathlib.Core.List.{List, []}
use Prim.Native.Nat.{ℕ, ◌-◌, ◌*◌, ◌≤◌}
use native.Mathlib.Omega.{arith}
use lib.Dec.{eqb}
use lib.ListN.{length}
use Rattle.std.proofs.Common.{if◌then◌else◌}
use Rattle.darts.specs.Text.{bytes}
use Rattle.darts.specs.File.{line_feed}
use Rattle.darts.specs.Scan.{found, field}
use Rattle.darts.specs.Read.{pairs_at, from_flag}
use Rattle.file_lines.specs.Lines.{pair_at, pair_of}
use Rattle.file_lines.proofs.After.{after_after, through, field_small}
use Rattle.file_lines.proofs.Rest.{Lines, lines_count}

module _ (b : List ℕ) where
  pub pair_lines_lem : Lines (pair_at b) (λ n at. pairs_at n b at)
  unfolding pairs_at pair_at
  pair_lines_lem = record { first = λ n at. simp after_after; none = λ at. refl }

  pub pairs_count : (n at : ℕ) (xs : List ℕ) (next : ℕ) → pairs_at n b at ≡ found xs next → length xs ≡ n * 2
  unfolding pair_at
  pairs_count = lines_count pair_lines_lem 2 (λ at p next e.
      let one = through (field (bytes "pair=") (bytes " ") b at) _ e in
      let two = through (field [] line_feed b one.place) _ one.second in
      let both : p ≡ pair_of (one.value, two.value) = cc two.second in
      rw both)

  pub pair_small : (at : ℕ) {p : ℕ × ℕ} {next : ℕ} → pair_at b at ≡ found (pair_of p) next → (p.0 ≤ 99999) × (p.1 ≤ 99999)
  unfolding pair_at
  pair_small at {p} {next} e =
      let one = through (field (bytes "pair=") (bytes " ") b at) _ e in
      let two = through (field [] line_feed b one.place) _ one.second in
      let first : one.value ≡ p.0 = cc two.second in
      let second : two.value ≡ p.1 = cc two.second in
      (omega (arith, field_small _ _ _ _ one.first), omega (arith, field_small _ _ _ _ two.first))

pub flag_small : (F D x : ℕ) {r : ℕ} → r ≡ from_flag F D x → D ≤ 65536 → x ≤ 99999 → r ≤ 99999
unfolding from_flag
flag_small F D x {r} e d h = rw e (go (eqb F 0) (eqb x 0))
  where
    go : (f z : Bool) → (if f then x else if z then D else x - 1) ≤ 99999
    go true z = h
    go false true = omega arith
    go false false = omega arith
