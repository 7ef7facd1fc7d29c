-- A word at a place of a file, read from its byte i on.
--   word_differs == another byte than the word's is the first wrong byte
--   word_agrees  == a byte that is the word's leads on to the next
--   word_ends    == past its last byte the word is found
use mathlib.Core.Path.{◌≡◌}
use mathlib.Core.Logic.{◌≢◌}
use mathlib.Core.List.{List}
use Prim.Native.Nat.{ℕ, ◌+◌, ◌≤◌, ◌<◌}
use native.Mathlib.Numerals.{add-one}
use lib.ListN.{length, get_or, drop, drop_of_length-le}
use lib.Seq.{drop-cons}
use borrow.Author.Tests.{eq-eqb, ne_eqb}
use Rattle.darts.specs.Answers.{no_file}
use Rattle.darts.specs.Scan.{byte_at, found, fault, word}

module _ (w b : List ℕ) (i at : ℕ) where
  pub word_differs : i < length w → byte_at b at ≢ get_or w i 0 → word (drop i w) b at ≡ fault (no_file at)
  unfolding word byte_at
  word_differs h n = rw (drop-cons w i 0 h) (rw (ne_eqb (byte_at b at) (get_or w i 0) n))

  pub word_agrees : i < length w → byte_at b at ≡ get_or w i 0 → word (drop i w) b at ≡ word (drop (i + 1) w) b (at + 1)
  unfolding word byte_at
  word_agrees h e = rw (add-one i, add-one at, drop-cons w i 0 h) (rw (eq-eqb (byte_at b at) (get_or w i 0) e))

  pub word_ends : length w ≤ i → word (drop i w) b at ≡ found 0 at
  unfolding word
  word_ends h = rw (drop_of_length-le w h)
