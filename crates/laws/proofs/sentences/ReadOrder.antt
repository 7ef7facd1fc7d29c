-- "Values are judged when their line has ended: D (1, then 2), L over 64 (6), N of 0 (5)." Each of these laws holds whatever follows.
--   read_one, read_two  == D that is no dart count, and slices that are too short for it
--   read_six, read_five == a level count over 64, and a kernel of no operation
--   read_fourteen       == byte nine is neither 0 nor 1
--   read_ninth          == a file that ends before byte nine
use mathlib.Core.List.{List, [], ◌∷◌, ◌++◌, append_assoc}
use mathlib.Core.Logic.{◌≢◌}
use mathlib.Core.Path.{◌≡◌, refl, sym, ◌∙◌, subst}
use Prim.Native.Nat.{ℕ, ◌<◌, ◌≤◌}
use native.Mathlib.Omega.{arith}
use lib.ListN.{length}
use Rattle.permutations.specs.Choice.{eqb_other}
use Rattle.darts.specs.Answers.{answered, empty_kernel}
use Rattle.darts.specs.Operation.{Kind}
use Rattle.darts.specs.Text.{bytes, digits, decimal}
use Rattle.darts.specs.File.{kind_word}
use Rattle.darts.specs.Scan.{fault, byte_at, word}
use Rattle.darts.specs.Read.{KernelLine, flag_at, opening, kernel_of_kind, opened, read_file}
use Rattle.darts.specs.Calls.{read_into, read}
use Rattle.darts.proofs.Fitting.{Count, Lengths, count_facts, count_test, room_facts}
use Rattle.laws.proofs.file.Words.{Between, between_byte, between_all, between_split, word_found}
use Rattle.laws.proofs.file.Fields.{field_found}
use Rattle.laws.proofs.Lists.{Each}
use Rattle.laws.proofs.file.Lines.{Counted, count_lines, no_digit_feed}
use Rattle.laws.proofs.sentences.FirstLines.{FirstLines, fits, lines_opening, lines_uncounted, lines_cramped, answer_of_lem, body_answer}
use Rattle.laws.proofs.sentences.BodyLines.{LevelsLine, levels_line, body_many, body_stops, kernel_of_lem, kernels_stop}

kind_empty : {b : List ℕ} {at end : ℕ} (k : Kind) (more : List ℕ) → Between b at (kind_word k ++ (bytes "0\n" ++ more)) end
    → kernel_of_kind k b at ≡ fault empty_kernel
unfolding kernel_of_kind decimal digits
kind_empty {b} {at} {end} k more B =
    let S = between_split (kind_word k ++ bytes "0\n") (subst (λ w. Between b at w end) (sym (append_assoc (kind_word k) (bytes "0\n") more)) B) in
    rw (field_found (kind_word k) 10 [] {x = 0} no_digit_feed (record { there = S.first; bound = omega arith }))

module _ (b t h w : List ℕ) {F D : ℕ} (L : FirstLines b F D) where
  -- "1: D is odd, 0 or over 65,536"
  pub read_one : ¬ (Count D) → (read b t h w).answer ≡ answered 1 0
  read_one n = answer_of_lem b t h w (lines_uncounted (fits t h w) L (λ c. n (count_facts D c)))

  module _ (c : Count D) where
    -- "2: a lent slice is too short"
    pub read_two : ¬ (Lengths D (length t) (length h) (length w)) → (read b t h w).answer ≡ answered 2 0
    read_two n = answer_of_lem b t h w (lines_cramped (fits t h w) L (count_test D c) (λ r. n (room_facts (length t) (length h) (length w) D r)))

    module _ (l : Lengths D (length t) (length h) (length w)) (n : ℕ) where
      line : n ≤ 99999 → (more : List ℕ) → L.rest ≡ bytes "levels=" ++ (decimal n ++ (10 ∷ more)) → LevelsLine b (lines_opening L).at n more
      line few more e = levels_line few (subst (λ v. Between b (lines_opening L).at v (length b)) e (lines_opening L).later)

      -- "L over 64 (6)"
      pub read_six : 64 < n → n ≤ 99999 → (more : List ℕ) → L.rest ≡ bytes "levels=" ++ (decimal n ++ (10 ∷ more)) → (read b t h w).answer ≡ answered 6 0
      read_six k few more e = body_answer b t h w L c l (body_many D (line few more e) k)

      -- "N of 0 (5)", after any kernel lines in good form
      pub read_five : n ≤ 64 → (ks : List KernelLine) → Each Counted ks → length ks < n → (k : Kind) (more : List ℕ)
          → L.rest ≡ bytes "levels=" ++ (decimal n ++ (10 ∷ (count_lines ks ++ (bytes "kernel=" ++ (kind_word k ++ (bytes "0\n" ++ more))))))
          → (read b t h w).answer ≡ answered 5 0
      read_five few ks C j k more e =
          let K = line (omega arith) (count_lines ks ++ (bytes "kernel=" ++ (kind_word k ++ (bytes "0\n" ++ more)))) e in
          let S = between_split (count_lines ks) K.later in
          let O = kernel_of_lem k (bytes "0\n" ++ more) S.second in
          body_answer b t h w L c l (body_stops D K few (kernels_stop ks n C j S.first (O.kind ∙ kind_empty k more O.later)))

-- "14: byte nine is neither 0 nor 1, place 8"
pub read_fourteen : (b t h w : List ℕ) (c : ℕ) (more : List ℕ) → b ≡ bytes "numbers=" ++ (c ∷ more) → c ≢ 48 → c ≢ 49 → c < 256
    → (read b t h w).answer ≡ answered 14 8
unfolding read_file opened opening flag_at
read_fourteen b t h w c more e nought one byte =
    let S = between_split (bytes "numbers=") (subst (λ v. Between b 0 v (length b)) e (between_all b)) in
    let end : c ≢ 256 = omega arith in
    answer_of_lem b t h w {D = 0} (rw (word_found (bytes "numbers=") S.first, between_byte S.second, eqb_other nought, eqb_other one, eqb_other end))

-- "or the length if it ends early": before byte nine
pub read_ninth : (t h w : List ℕ) → (read (bytes "numbers=") t h w).answer ≡ answered 13 8
unfolding read read_into read_file opened opening word byte_at flag_at
read_ninth t h w = refl
