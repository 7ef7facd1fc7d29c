-- What is judged after the last line of a file.
--   read_on     == bytes after the last line are wrong, the first of them is the place
--   read_four   == a file in good form that states no pyramid
--   NoDart F D x == under F the number x is no dart
--   read_no_dart == a pair with such a number
use mathlib.Core.List.{List, [], ◌∷◌, ◌++◌, append_assoc, map, reverse}
use mathlib.Core.Logic.{◌≢◌}
use mathlib.Core.Path.{◌≡◌, refl, ◌∙◌}
use Prim.Native.Nat.{ℕ, zero, suc, ◌+◌, ◌<◌, ◌≤◌}
use native.Mathlib.Omega.{arith}
use lib.Dec.{T}
use lib.ListN.{length, get_or, length-append}
use Rattle.permutations.specs.Choice.{T→true, not_T→false, eqb_same, eqb_other}
use Rattle.darts.specs.Answers.{answered, no_file}
use Rattle.darts.specs.Map.{successor}
use Rattle.darts.specs.Pyramid.{Pyramid, dart_count, is_pyramid}
use Rattle.darts.specs.Text.{decimal}
use Rattle.darts.specs.File.{line_feed}
use Rattle.darts.specs.Scan.{fault}
use Rattle.darts.specs.Read.{KernelLine, body, end_at, from_flag, file_state, file_history, closed}
use Rattle.darts.specs.Calls.{read_into, read}
use Rattle.laws.proofs.claims.Decided.{pyramid_decided}
use Rattle.laws.proofs.tests.Passes.{pyramid_shaped}
use Rattle.darts.proofs.Fitting.{Count, Lengths, count_test, room_test}
use Rattle.laws.proofs.file.Words.{between_split}
use Rattle.laws.proofs.file.Texts.{GoodForm, text_of, opening_text, body_text, body_at}
use Rattle.laws.proofs.file.Meanings.{verdict, text_read}
use Rattle.laws.proofs.sentences.FirstLines.{FirstLines, fits, lines_text, lines_opening, lines_closed}

-- "0 under F = 1, D under F = 0"
pub data NoDart (F D x : ℕ) : Type 0 where
  from_zero : F ≡ 0 → D ≤ x → NoDart F D x
  none_from_one : F ≡ 1 → x ≡ 0 → NoDart F D x
  past_from_one : F ≡ 1 → D < x → NoDart F D x

no_dart : {F D x : ℕ} → NoDart F D x → D ≤ from_flag F D x
unfolding from_flag
no_dart (from_zero e h) = rw (eqb_same e) h
no_dart (none_from_one e z) = rw (e, z) (omega arith)
no_dart {F} {D} {x} (past_from_one e h) =
    let some : x ≢ 0 = omega arith in
    rw (e, eqb_other some) (omega arith)

map_at : (f : ℕ → ℕ) (l : List ℕ) (i : ℕ) → i < length l → get_or (map f l) i 0 ≡ f (get_or l i 0)
map_at f [] i h = absurd (omega arith)
map_at f (x ∷ l) zero h = refl
map_at f (x ∷ l) (suc i) h = map_at f l i (omega arith)

module _ {F D : ℕ} {ks : List KernelLine} {xs : List ℕ} (G : GoodForm F D ks xs) (c : Count D) (t h w : List ℕ)
    (l : Lengths D (length t) (length h) (length w)) where
  fit : T (fits t h w D)
  fit = room_test (length t) (length h) (length w) D l

  -- the first two lines of a text, whatever follows it
  first_lines : (more : List ℕ) → FirstLines (text_of F D ks xs ++ more) F D
  unfolding text_of
  first_lines more = record {
    flag = G.flag;
    digits = G.darts;
    rest = body_text ks xs ++ more;
    all = append_assoc (opening_text F D) (body_text ks xs) more ∙ lines_text F D (body_text ks xs ++ more);
  }

  text_length : length (text_of F D ks xs) ≡ 17 + length (decimal D) + length (body_text ks xs)
  unfolding text_of opening_text
  text_length = omega (arith, length-append (opening_text F D) (body_text ks xs), length-append (decimal D) line_feed)

  -- "nothing after the last"
  pub read_on : (x : ℕ) (more : List ℕ) → (read (text_of F D ks xs ++ (x ∷ more)) t h w).answer ≡ answered 13 (length (text_of F D ks xs))
  unfolding read read_into closed end_at first_lines
  read_on x more =
      let b = text_of F D ks xs ++ (x ∷ more) in
      let L = first_lines (x ∷ more) in
      let O = lines_opening L in
      let S = between_split (body_text ks xs) O.later in
      let end : S.mid ≡ length (text_of F D ks xs) = omega (arith, S.first.place, O.place, text_length) in
      let on : S.mid ≢ length b = omega (arith, length-append (text_of F D ks xs) (x ∷ more)) in
      let stops : body D b O.at ≡ fault (no_file (length (text_of F D ks xs))) = body_at G S.first ∙ rw (eqb_other on, end) in
      rw (lines_closed (fits t h w) L (count_test D c) fit, stops)

  -- "After the last byte: 4"
  pub read_four : ¬ (Pyramid (file_state D ks (map (from_flag F D) xs) (reverse (file_history ks))) (map (from_flag F D) xs) (reverse (file_history ks))) → (read (text_of F D ks xs) t h w).answer ≡ answered 4 0
  unfolding read read_into verdict
  read_four n =
      let u = map (from_flag F D) xs in
      let past = reverse (file_history ks) in
      let s = file_state D ks u past in
      let none = not_T→false (is_pyramid s u past) (λ p. n ((pyramid_decided s u past).0 p)) in
      rw (text_read (fits t h w) G, T→true (dart_count D) (count_test D c), T→true (fits t h w D) fit, none)

  -- "also where a pair holds a number that is no dart"
  pub read_no_dart : (i : ℕ) → i < D → NoDart F D (get_or xs i 0) → (read (text_of F D ks xs) t h w).answer ≡ answered 4 0
  unfolding successor file_state
  read_no_dart i h k = read_four (λ P.
      let S = (pyramid_shaped P).sound.standing in
      let inside : get_or (map (from_flag F D) xs) i 0 < D = S.inside i h in
      let out = no_dart k in
      let at = map_at (from_flag F D) xs i (omega (arith, G.pairs, c.even)) in
      omega arith)
