-- The first two lines of a file, which tell D.
--   FirstLines b F D == the bytes b begin with the lines `numbers=F` and `darts=D`, each with its line feed
--   lines_opening    == then they are found, and what follows stands after them
--   opening_lines    == and only then
--   Opened b F D rest == the same, with the place where the rest stands
--   lines_closed     == where D is a dart count and the slices are long enough, the rest tells what the file means
--   lines_uncounted, lines_cramped == where it is none, and where they are not
--   fits t h w       == for how many darts the lent slices have room
--   answer_of_lem, body_answer == the answer of a read is that of the fault, also of a fault in the rest
use mathlib.Core.Bool.{Bool}
use mathlib.Core.List.{List, ◌∷◌, ◌++◌, append_assoc}
use mathlib.Core.Path.{◌≡◌, sym, ap, ◌∙◌, subst}
use Prim.Native.Nat.{ℕ, ◌+◌, ◌≤◌}
use native.Mathlib.Omega.{arith}
use lib.Dec.{T}
use lib.ListN.{length, length-append}
use Rattle.darts.specs.Answers.{answered, no_dart_count, too_short}
use Rattle.darts.specs.Pyramid.{dart_count}
use Rattle.darts.specs.Text.{bytes, decimal}
use Rattle.darts.specs.File.{line_feed}
use Rattle.darts.specs.Scan.{found, fault}
use Rattle.darts.specs.Read.{Opening, opening, body, faulty, closed, opened, read_file}
use Rattle.darts.specs.Calls.{room, read_into, read}
use Rattle.darts.proofs.Fitting.{Count, Lengths, count_test, room_test}
use Rattle.laws.proofs.file.Words.{Between, between_all, between_split}
use Rattle.laws.proofs.file.Texts.{opening_text, opening_found, found_opening}
use Rattle.laws.proofs.file.Meanings.{opened_uncounted, opened_cramped, opened_on}

-- "1. `numbers=F`." "2. `darts=D`." "each ended by one line feed"
pub record FirstLines (b : List ℕ) (F D : ℕ) : Type 0 where
  pub flag : F ≤ 1
  pub digits : D ≤ 99999
  pub rest : List ℕ
  pub all : b ≡ bytes "numbers=" ++ ((48 + F) ∷ (bytes "\ndarts=" ++ (decimal D ++ (10 ∷ rest))))

abbrev pub told : ℕ → ℕ → Opening
told F D = record { flag = F; darts = D }

pub lines_text : (F D : ℕ) (rest : List ℕ) → opening_text F D ++ rest ≡ bytes "numbers=" ++ ((48 + F) ∷ (bytes "\ndarts=" ++ (decimal D ++ (10 ∷ rest))))
unfolding opening_text
lines_text F D rest = ap (λ l. bytes "numbers=" ++ ((48 + F) ∷ (bytes "\ndarts=" ++ l))) (append_assoc (decimal D) line_feed rest)

pub record Opened (b : List ℕ) (F D : ℕ) (rest : List ℕ) : Type 0 where
  pub at : ℕ
  pub opens : opening b ≡ found (told F D) at
  pub place : at ≡ 17 + length (decimal D)
  pub later : Between b at rest (length b)

pub lines_opening : {b : List ℕ} {F D : ℕ} (L : FirstLines b F D) → Opened b F D L.rest
unfolding opening_text
lines_opening {b} {F} {D} L =
    let all : b ≡ opening_text F D ++ L.rest = L.all ∙ sym (lines_text F D L.rest) in
    let S = between_split (opening_text F D) (subst (λ l. Between b 0 l (length b)) all (between_all b)) in
    record {
      at = S.mid;
      opens = opening_found (told F D) (record { there = S.first; flag = L.flag; darts = L.digits });
      place = omega (arith, S.first.place, length-append (decimal D) line_feed);
      later = S.second;
    }

pub opening_lines : {b : List ℕ} {o : Opening} {at : ℕ} → opening b ≡ found o at → FirstLines b o.flag o.darts
opening_lines {b} {o} {at} e =
    let O = found_opening e in
    record { flag = O.flag; digits = O.darts; rest = _; all = O.there.rest ∙ lines_text o.flag o.darts _ }

-- "D (1, then 2)"
module _ (room : ℕ → Bool) {b : List ℕ} {F D : ℕ} (L : FirstLines b F D) where
  abbrev O : Opened b F D L.rest
  O = lines_opening L

  pub lines_uncounted : ¬ (T (dart_count D)) → read_file room b ≡ faulty 0 no_dart_count
  unfolding read_file
  lines_uncounted n = ap (opened room b) O.opens ∙ opened_uncounted room b (told F D) O.at n

  pub lines_cramped : T (dart_count D) → ¬ (T (room D)) → read_file room b ≡ faulty 0 too_short
  unfolding read_file
  lines_cramped c n = ap (opened room b) O.opens ∙ opened_cramped room b (told F D) O.at c n

  pub lines_closed : T (dart_count D) → T (room D) → read_file room b ≡ closed (told F D) (body D b (lines_opening L).at)
  unfolding read_file
  lines_closed c r = ap (opened room b) O.opens ∙ opened_on room b (told F D) O.at c r

-- for how many darts the lent slices have room
abbrev pub fits : List ℕ → List ℕ → List ℕ → ℕ → Bool
fits t h w = room (length t) (length h) (length w)

module _ (b t h w : List ℕ) where
  pub answer_of_lem : {D n p : ℕ} → read_file (fits t h w) b ≡ faulty D (answered n p) → (read b t h w).answer ≡ answered n p
  unfolding read read_into
  answer_of_lem e = rw e

  pub body_answer : {F D : ℕ} (L : FirstLines b F D) → Count D → Lengths D (length t) (length h) (length w) → {n p : ℕ}
      → body D b (lines_opening L).at ≡ fault (answered n p) → (read b t h w).answer ≡ answered n p
  unfolding closed
  body_answer {F} {D} L c l e =
      answer_of_lem (lines_closed (fits t h w) L (count_test D c) (room_test (length t) (length h) (length w) D l) ∙ ap (closed (told F D)) e)
