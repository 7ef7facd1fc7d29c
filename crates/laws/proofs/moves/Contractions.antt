-- How many contractions, and how many removals, history numbers tell.
--   removals_in hs          == how many of the history numbers hs are removals'
--   contractions_most      == no more contractions than numbers
--   contractions_append, contractions_reverse == in two parts, and from the last to the first
--   contractions_number, removals_number      == one operation more: a contraction, or a removal
--   removals_append, removals_reverse         == the same for removals
use mathlib.Core.List.{List, [], ◌∷◌, ◌++◌, reverse, reverse-cons}
use mathlib.Core.Path.{◌≡◌, refl, ap, ap₂, ◌∙◌}
use Prim.Native.Nat.{ℕ, ◌+◌, ◌-◌, ◌≤◌}
use native.Mathlib.Omega.{arith}
use lib.ListN.{length, length-append, length-reverse}
use Rattle.permutations.proofs.Euler.{contracted, removed}
use Rattle.darts.specs.Operation.{Kind, contraction, removal, number}
use Rattle.darts.specs.Moves.{contractions_in}
use Rattle.laws.proofs.bridge.Standing.{op_of}

-- "2p for a removal and 2p+1 for a contraction": each number that is no contraction's is a removal's
abbrev pub removals_in : List ℕ → ℕ
removals_in hs = length hs - contractions_in hs

pub contractions_most : (hs : List ℕ) → contractions_in hs ≤ length hs
unfolding contractions_in
contractions_most [] = omega arith
contractions_most (h ∷ hs) = let r = contractions_most hs in omega arith

pub contractions_append : (l m : List ℕ) → contractions_in (l ++ m) ≡ contractions_in l + contractions_in m
unfolding contractions_in
contractions_append [] m = omega arith
contractions_append (h ∷ l) m = let r = contractions_append l m in omega arith

pub removals_append : (l m : List ℕ) → removals_in (l ++ m) ≡ removals_in l + removals_in m
removals_append l m =
    let sum = contractions_append l m in
    let size = length-append l m in
    let first = contractions_most l in
    let second = contractions_most m in
    omega arith

pub contractions_reverse : (l : List ℕ) → contractions_in (reverse l) ≡ contractions_in l
unfolding contractions_in
contractions_reverse [] = refl
contractions_reverse (h ∷ l) =
    ap contractions_in (reverse-cons h l) ∙ contractions_append (reverse l) (h ∷ []) ∙ (let r = contractions_reverse l in omega arith)

pub removals_reverse : (l : List ℕ) → removals_in (reverse l) ≡ removals_in l
removals_reverse l = ap₂ ◌-◌ (length-reverse l) (contractions_reverse l)

-- ---- one operation

module _ (e p : ℕ) (past : List ℕ) where
  pub contractions_number : (k : Kind) → contractions_in (number k p ∷ past) ≡ contracted (op_of k e) + contractions_in past
  unfolding contractions_in number
  contractions_number contraction = omega arith
  contractions_number removal = omega arith

  pub removals_number : (k : Kind) → removals_in (number k p ∷ past) ≡ removed (op_of k e) + removals_in past
  removals_number contraction = let c = contractions_number contraction in omega (arith, contractions_most past)
  removals_number removal = let c = contractions_number removal in omega (arith, contractions_most past)
