-- The length of a file for the tables of program `levels`.
--   text_length == in good form for at most 4,096 darts: 10 + 11 + 10 bytes in the first three lines, 64 lines of at most 22 for the kernels and 2,048 of at
--                  most 17 for the pairs
--   read_length == so many an accepted file has at most
use mathlib.Core.List.{List, [], ◌∷◌, ◌++◌}
use mathlib.Core.Path.{◌≡◌, refl}
use Prim.Native.Nat.{ℕ, zero, suc, ◌*◌, ◌/◌, ◌≤◌}
use native.Mathlib.Omega.{arith}
use lib.ListN.{length, length-append}
use Rattle.darts.specs.Operation.{Kind, contraction, removal}
use Rattle.darts.specs.Text.{bytes, decimal}
use Rattle.darts.specs.File.{line_feed, kind_word, pair_lines}
use Rattle.darts.specs.Read.{KernelLine, Read, means, faulty, read_file}
use Rattle.darts.specs.Calls.{read_into, read}
use Rattle.darts.proofs.Fitting.{room_facts}
use Rattle.laws.proofs.file.Digits.{decimal_few, decimal_two, decimal_four}
use Rattle.laws.proofs.file.Lines.{count_line, count_lines}
use Rattle.laws.proofs.file.Texts.{GoodForm, text_of, opening_text, body_text}
use Rattle.laws.proofs.file.Meanings.{meaning}
use Rattle.laws.proofs.file.Seen.{seen_refused}
use Rattle.laws.proofs.sentences.FirstLines.{fits}

kind_length : (k : Kind) → length (kind_word k) ≤ 9
unfolding kind_word
kind_length contraction = omega arith
kind_length removal = omega arith

line_length : (k : KernelLine) → length (count_line k) ≤ 22
unfolding count_line
line_length k = omega (
  arith,
  length-append (kind_word k.kind) (decimal k.count ++ line_feed),
  length-append (decimal k.count) line_feed,
  kind_length k.kind,
  decimal_few k.count,
)

lines_length : (ks : List KernelLine) → length (count_lines ks) ≤ 22 * length ks
unfolding count_lines
lines_length [] = omega arith
lines_length (k ∷ ks) = let h = lines_length ks in omega (arith, length-append (count_line k) (count_lines ks), line_length k)

pairs_length : (n : ℕ) (xs : List ℕ) → length xs ≡ 2 * n → length (pair_lines xs) ≤ 17 * n
unfolding pair_lines
pairs_length n [] e = omega arith
pairs_length n (x ∷ []) e = omega arith
pairs_length zero (x ∷ y ∷ xs) e = absurd (omega arith)
pairs_length (suc n) (x ∷ y ∷ xs) e =
    let h = pairs_length n xs (omega arith) in
    let i = length-append (decimal x) (bytes " " ++ (decimal y ++ (line_feed ++ pair_lines xs))) in
    let j = length-append (decimal y) (line_feed ++ pair_lines xs) in
    omega (arith, decimal_few x, decimal_few y)

pub text_length : {F D : ℕ} {ks : List KernelLine} {xs : List ℕ} → GoodForm F D ks xs → D ≤ 4096 → length (text_of F D ks xs) ≤ 36255
unfolding text_of opening_text body_text
text_length {F} {D} {ks} {xs} G h =
    let levels = length ks in
    let a = length-append (opening_text F D) (body_text ks xs) in
    let b = length-append (decimal D) line_feed in
    let c = length-append (bytes "levels=" ++ (decimal levels ++ line_feed)) (count_lines ks ++ pair_lines xs) in
    let d = length-append (decimal levels) line_feed in
    let e = length-append (count_lines ks) (pair_lines xs) in
    omega (arith, decimal_four D (omega arith), decimal_two levels (omega (arith, G.levels)), lines_length ks, pairs_length (D / 2) xs G.pairs, G.levels)

pub read_length : (b t h w : List ℕ) → length t ≤ 4096 → (read b t h w).answer.number ≡ 0 → length b ≤ 36255
unfolding read read_into
read_length b t h w small z = go (read_file (fits t h w) b) refl z
  where
    go : (r : Read) → read_file (fits t h w) b ≡ r → (read_into t h w r).answer.number ≡ 0 → length b ≤ 36255
    go (means s u past) e z =
        let M = meaning (fits t h w) b e in
        let D = (room_facts (length t) (length h) (length w) M.darts M.fits).table in
        rw M.bytes (text_length M.form (omega arith))
    go (faulty D a) e z = absurd (seen_refused (fits t h w) b e z)
