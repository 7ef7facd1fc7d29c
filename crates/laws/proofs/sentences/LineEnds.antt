-- "Values are judged when their line has ended": where another byte follows the number than the line feed, that byte is the fault, whatever the number.
--   Unended more   == what follows a number is neither a digit nor a line feed, or the file ends there
--   darts_unended  == D is then not known: 13 at that byte, and nothing is written
--   levels_unended, count_unended == the same fault after the number of levels, and after a kernel's count
use mathlib.Core.Bool.{false}
use mathlib.Core.List.{List, [], ◌∷◌, ◌++◌, append-nil}
use mathlib.Core.Logic.{◌≢◌}
use mathlib.Core.Path.{◌≡◌, refl, sym, ap, ◌∙◌, subst}
use Prim.Native.Nat.{ℕ, ◌+◌, ◌-◌, ◌<◌, ◌≤◌}
use native.Mathlib.Nat.{add-zero}
use native.Mathlib.Omega.{arith}
use lib.ListN.{length, get_or}
use lib.Seq.{get_or-drop, drop-length}
use Rattle.permutations.specs.Choice.{not_T→false, eqb_other}
use Rattle.darts.specs.Answers.{answered, no_file}
use Rattle.darts.specs.Operation.{Kind}
use Rattle.darts.specs.Text.{bytes, decimal}
use Rattle.darts.specs.File.{line_feed, kind_word}
use Rattle.darts.specs.Scan.{fault, byte_at, word, is_digit, field}
use Rattle.darts.specs.Read.{KernelLine, opening, kernel_of_kind, body, opened, read_file}
use Rattle.darts.specs.Calls.{read_into, read}
use Rattle.darts.proofs.Fitting.{Count, Lengths}
use Rattle.laws.proofs.calls.Cleared.{cleared_is}
use Rattle.laws.proofs.file.Words.{Between, between_all, between_split, word_found}
use Rattle.laws.proofs.file.Fields.{digit_low, digit_high, number_found}
use Rattle.laws.proofs.Lists.{Each}
use Rattle.laws.proofs.file.Lines.{Counted, count_lines}
use Rattle.laws.proofs.file.Texts.{flag_found}
use Rattle.laws.proofs.sentences.FirstLines.{FirstLines, lines_opening, body_answer}
use Rattle.laws.proofs.sentences.BodyLines.{levels_line, body_stops, kernel_of_lem, kernels_stop}

pub record Unended (more : List ℕ) : Type 0 where
  pub no_feed : get_or more 0 256 ≢ 10
  pub no_digit : 48 ≤ get_or more 0 256 → get_or more 0 256 ≤ 57 → ⊥

-- the byte that stands before the rest, or none
next_byte : {b : List ℕ} {at : ℕ} {more : List ℕ} → Between b at more (length b) → byte_at b at ≡ get_or more 0 256
unfolding byte_at
next_byte {b} {at} {more} B =
    ap (λ i. get_or b i 256) (sym (add-zero at)) ∙ sym (get_or-drop at b 0 256)
    ∙ ap (λ l. get_or l 0 256) (B.rest ∙ ap (λ l. more ++ l) (drop-length b) ∙ append-nil more)

field_unended : {b : List ℕ} (w : List ℕ) {at x : ℕ} {more : List ℕ} → x ≤ 99999 → Unended more → Between b at (w ++ (decimal x ++ more)) (length b)
    → field w line_feed b at ≡ fault (no_file (length b - length more))
unfolding field word
field_unended {b} w {at} {x} {more} few U B =
    let S = between_split w B in
    let Z = between_split (decimal x) S.second in
    let c = byte_at b Z.mid in
    let byte : c ≡ get_or more 0 256 = next_byte Z.second in
    let ended : is_digit c ≡ false = not_T→false (is_digit c) (λ t. U.no_digit (omega (arith, digit_low c t)) (omega (arith, digit_high c t))) in
    let other : c ≢ 10 = omega (arith, U.no_feed) in
    let place : Z.mid ≡ length b - length more = omega (arith, Z.second.place) in
    rw (word_found w S.first, number_found few Z.first ended, eqb_other other, place)

pub darts_unended : (b t h w : List ℕ) {F D : ℕ} → F ≤ 1 → D ≤ 99999 → (more : List ℕ) → Unended more
    → b ≡ bytes "numbers=" ++ ((48 + F) ∷ (bytes "\ndarts=" ++ (decimal D ++ more)))
    → ((read b t h w).answer ≡ answered 13 (length b - length more)) × ((read b t h w).work ≡ w)
unfolding read read_into read_file opened opening
darts_unended b t h w {F} {D} flag few more U all =
    let N = between_split (bytes "numbers=") (subst (λ l. Between b 0 l (length b)) all (between_all b)) in
    let G = between_split ((48 + F) ∷ []) N.second in
    let E = between_split line_feed G.second in
    rw (
      word_found (bytes "numbers=") N.first,
      flag_found F flag G.first,
      word_found line_feed E.first,
      field_unended (bytes "darts=") few U E.second,
    ) (refl, cleared_is 0 w)

module _ (b t h w : List ℕ) {F D : ℕ} (L : FirstLines b F D) (c : Count D) (l : Lengths D (length t) (length h) (length w)) (n : ℕ) (more : List ℕ)
    (U : Unended more) where
  pub levels_unended : n ≤ 99999 → L.rest ≡ bytes "levels=" ++ (decimal n ++ more) → (read b t h w).answer ≡ answered 13 (length b - length more)
  unfolding body
  levels_unended few e =
      let B = subst (λ v. Between b (lines_opening L).at v (length b)) e (lines_opening L).later in
      body_answer b t h w L c l (rw (field_unended (bytes "levels=") few U B))

  pub count_unended : n ≤ 64 → (ks : List KernelLine) → Each Counted ks → length ks < n → (k : Kind) (N : ℕ) → N ≤ 99999
      → L.rest ≡ bytes "levels=" ++ (decimal n ++ (10 ∷ (count_lines ks ++ (bytes "kernel=" ++ (kind_word k ++ (decimal N ++ more))))))
      → (read b t h w).answer ≡ answered 13 (length b - length more)
  unfolding kernel_of_kind
  count_unended few ks C j k N small e =
      let K = levels_line (omega arith) (subst (λ v. Between b (lines_opening L).at v (length b)) e (lines_opening L).later) in
      let S = between_split (count_lines ks) K.later in
      let O = kernel_of_lem k (decimal N ++ more) S.second in
      body_answer b t h w L c l (body_stops D K few
      (kernels_stop ks n C j S.first (O.kind ∙ rw (field_unended (kind_word k) small U O.later))))
