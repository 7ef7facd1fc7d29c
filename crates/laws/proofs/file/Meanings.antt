-- What a file means (document 01, "The file").
--   Meaning room b s t past          == the bytes b are the text of values in good form; these pass the tests for D, for the lent slices and for a pyramid; and
--                                       they state s, t and past
--   Closing o c end, closing         == what the body c, after the opening o, means: what it states where that is a pyramid, else 4
--   DartsJudged room b o at, darts_judged == what a file means after its opening o: 1, 2, or what its body tells
--   opened_uncounted, opened_cramped, opened_on == each of the three
--   Closed o r s t past              == the body r, after the opening o, states s, t and past, a pyramid
--   verdict room D s t past          == what a file means that states these, in the order of the tests
--   SameMeaning s t past s' t' past' == one state, one table, one past
use mathlib.Core.Bool.{Bool, true, not}
use mathlib.Core.List.{List, [], ◌∷◌, map, map-id, reverse}
use mathlib.Core.Logic.{◌≢◌}
use mathlib.Core.Path.{◌≡◌, refl, sym, ap, ap₂, ◌∙◌, subst₃}
use Prim.Native.Nat.{ℕ, suc, ◌+◌, ◌-◌}
use native.Mathlib.Omega.{arith}
use lib.Dec.{T, eqb-suc-zero}
use Rattle.permutations.specs.Choice.{T?, T→true, not_T→false}
use Rattle.std.proofs.Common.{if◌then◌else◌}
use Rattle.darts.specs.Answers.{Answer, no_dart_count, too_short, no_pyramid}
use Rattle.darts.specs.State.{State}
use Rattle.darts.specs.Pyramid.{dart_count, is_pyramid}
use Rattle.darts.specs.Scan.{Scan, found, fault, byte_at}
use Rattle.darts.specs.Read.{Opening, KernelLine, Body, opening, body, from_flag, file_state, file_history, Read, means, faulty, closed, opened, read_file}
use Rattle.laws.proofs.file.Texts.{GoodForm, text_of, text_scanned, scanned_text}

pub record Meaning (room : ℕ → Bool) (b : List ℕ) (s : State) (t past : List ℕ) : Type 0 where
  pub flag : ℕ
  pub darts : ℕ
  pub kernels : List KernelLine
  pub numbers : List ℕ
  pub form : GoodForm flag darts kernels numbers
  pub bytes : b ≡ text_of flag darts kernels numbers
  pub count : T (dart_count darts)
  pub fits : T (room darts)
  pub state : s ≡ file_state darts kernels t past
  pub table : t ≡ map (from_flag flag darts) numbers
  pub history : past ≡ reverse (file_history kernels)
  pub pyramid : T (is_pyramid s t past)

-- ---- what a file states is judged after the last byte

faulty≢means : {D : ℕ} {a : Answer} {s : State} {t past : List ℕ} → faulty D a ≢ means s t past
faulty≢means e = let z : ◌≡◌ {A = ℕ} 0 1 = cc in omega arith

record Closed (o : Opening) (r : Scan Body) (s : State) (t past : List ℕ) : Type 0 where
  stated : Body
  end : ℕ
  holds : r ≡ found stated end
  state : s ≡ file_state o.darts stated.kernels t past
  table : t ≡ map (from_flag o.flag o.darts) stated.numbers
  history : past ≡ reverse (file_history stated.kernels)
  pyramid : T (is_pyramid s t past)

-- "After the last byte: 4"
pub data Closing (o : Opening) (c : Body) (end : ℕ) : Type 0 where
  stands : (let t : List ℕ = map (from_flag o.flag o.darts) c.numbers in let past : List ℕ = reverse (file_history c.kernels) in
      let s : State = file_state o.darts c.kernels t past in T (is_pyramid s t past) × (closed o (found c end) ≡ means s t past)) → Closing o c end
  falls : closed o (found c end) ≡ faulty o.darts no_pyramid → Closing o c end

pub closing : (o : Opening) (c : Body) (end : ℕ) → Closing o c end
unfolding closed
closing o c end = go (T? (is_pyramid s t past))
  where
    t : List ℕ
    t = map (from_flag o.flag o.darts) c.numbers

    past : List ℕ
    past = reverse (file_history c.kernels)

    s : State
    s = file_state o.darts c.kernels t past

    go : Dec (T (is_pyramid s t past)) → Closing o c end
    go (yes p) = stands (p, rw (T→true (is_pyramid s t past) p))
    go (no n) = falls (rw (not_T→false (is_pyramid s t past) n))

means_closed : (o : Opening) (r : Scan Body) {s : State} {t past : List ℕ} → closed o r ≡ means s t past → Closed o r s t past
unfolding closed
means_closed o (fault a) e = absurd (faulty≢means e)
means_closed o (found c end) {s} {t} {past} e = go (closing o c end)
  where
    go : Closing o c end → Closed o (found c end) s t past
    go (stands (p, k)) =
        let given = sym k ∙ e in
        let table : map (from_flag o.flag o.darts) c.numbers ≡ t = cc in
        let history : reverse (file_history c.kernels) ≡ past = cc in
        let stated : file_state o.darts c.kernels (map (from_flag o.flag o.darts) c.numbers) (reverse (file_history c.kernels)) ≡ s = cc in
        let state : file_state o.darts c.kernels t past ≡ s = ap₂ (file_state o.darts c.kernels) (sym table) (sym history) ∙ stated in
        record {
          stated = c;
          end = end;
          holds = refl;
          state = sym state;
          table = sym table;
          history = sym history;
          pyramid = subst₃ (λ s t past. T (is_pyramid s t past)) stated table history p;
        }
    go (falls k) = absurd (faulty≢means (sym k ∙ e))

-- ---- D is judged when its line has ended

-- "D (1, then 2)"
pub data DartsJudged (room : ℕ → Bool) (b : List ℕ) (o : Opening) (at : ℕ) : Type 0 where
  uncounted : ¬ (T (dart_count o.darts)) → opened room b (found o at) ≡ faulty 0 no_dart_count → DartsJudged room b o at
  cramped : T (dart_count o.darts) → ¬ (T (room o.darts)) → opened room b (found o at) ≡ faulty 0 too_short → DartsJudged room b o at
  goes_on : T (dart_count o.darts) → T (room o.darts) → opened room b (found o at) ≡ closed o (body o.darts b at) → DartsJudged room b o at

module _ (room : ℕ → Bool) (b : List ℕ) (o : Opening) (at : ℕ) where
  pub opened_uncounted : ¬ (T (dart_count o.darts)) → opened room b (found o at) ≡ faulty 0 no_dart_count
  unfolding opened
  opened_uncounted n = rw (not_T→false (dart_count o.darts) n)

  pub opened_cramped : T (dart_count o.darts) → ¬ (T (room o.darts)) → opened room b (found o at) ≡ faulty 0 too_short
  unfolding opened
  opened_cramped d n = rw (T→true (dart_count o.darts) d, not_T→false (room o.darts) n)

  pub opened_on : T (dart_count o.darts) → T (room o.darts) → opened room b (found o at) ≡ closed o (body o.darts b at)
  unfolding opened
  opened_on d f = rw (T→true (dart_count o.darts) d, T→true (room o.darts) f)

  pub darts_judged : DartsJudged room b o at
  darts_judged = go (T? (dart_count o.darts)) (T? (room o.darts))
    where
      go : Dec (T (dart_count o.darts)) → Dec (T (room o.darts)) → DartsJudged room b o at
      go (no n) f = uncounted n (opened_uncounted n)
      go (yes d) (no n) = cramped d n (opened_cramped d n)
      go (yes d) (yes f) = goes_on d f (opened_on d f)

module _ (room : ℕ → Bool) (b : List ℕ) {s : State} {t past : List ℕ} where
  -- WHERE A FILE HAS A MEANING, IT STATES IT
  pub meaning : read_file room b ≡ means s t past → Meaning room b s t past
  unfolding read_file opened
  meaning e = go (opening b) refl e
    where
      go : (r : Scan Opening) → opening b ≡ r → opened room b r ≡ means s t past → Meaning room b s t past
      go (fault a) k e = absurd (faulty≢means e)
      go (found o at) k e = tests (darts_judged room b o at)
        where
          tests : DartsJudged room b o at → Meaning room b s t past
          tests (uncounted n i) = absurd (faulty≢means (sym i ∙ e))
          tests (cramped d n i) = absurd (faulty≢means (sym i ∙ e))
          tests (goes_on d f i) =
              let C = means_closed o (body o.darts b at) (sym i ∙ e) in
              let G = scanned_text k C.holds in
              record {
                flag = o.flag;
                darts = o.darts;
                kernels = C.stated.kernels;
                numbers = C.stated.numbers;
                form = G.0;
                bytes = G.1;
                count = d;
                fits = f;
                state = C.state;
                table = C.table;
                history = C.history;
                pyramid = C.pyramid;
              }

-- ---- the flag

-- "F is byte nine"
byte_nine : (F D : ℕ) (ks : List KernelLine) (xs : List ℕ) → byte_at (text_of F D ks xs) 8 ≡ 48 + F
unfolding byte_at text_of
byte_nine F D ks xs = refl

pub meaning_flag : {room : ℕ → Bool} {b : List ℕ} {s : State} {t past : List ℕ} (M : Meaning room b s t past) (F : ℕ) → byte_at b 8 ≡ 48 + F → M.flag ≡ F
meaning_flag M F e =
    let n = byte_nine M.flag M.darts M.kernels M.numbers in
    let k = ap (λ b. byte_at b 8) M.bytes in
    omega arith

-- "0 for darts from zero, 1 for darts from one"
pub from_zero : (D : ℕ) (xs : List ℕ) → map (from_flag 0 D) xs ≡ xs
unfolding from_flag
from_zero D xs = map-id xs

pub from_one_lem : (D : ℕ) (xs : List ℕ) → map (from_flag 1 D) (map suc xs) ≡ xs
unfolding from_flag
from_one_lem D [] = refl
from_one_lem D (x ∷ xs) = let e : suc x - 1 ≡ x = omega arith in ap₂ ◌∷◌ (rw (eqb-suc-zero x) e) (from_one_lem D xs)

-- ---- what a text states is what it means, if it passes the tests

-- "D (1, then 2)"; "After the last byte: 4"
unfoldable pub verdict : (ℕ → Bool) → ℕ → State → List ℕ → List ℕ → Read
verdict room D s t past =
    if not (dart_count D) then faulty 0 no_dart_count
    else if not (room D) then faulty 0 too_short
    else if is_pyramid s t past then means s t past
    else faulty D no_pyramid

pub text_read : (room : ℕ → Bool) {F D : ℕ} {ks : List KernelLine} {xs : List ℕ} → GoodForm F D ks xs
    → read_file room (text_of F D ks xs) ≡ (let t : List ℕ = map (from_flag F D) xs in let past : List ℕ = reverse (file_history ks) in verdict room D (file_state D ks t past) t past)
unfolding read_file opened closed verdict
text_read room G = let S = text_scanned G in rw (S.opens, S.holds)

pub verdict_means : (room : ℕ → Bool) (D : ℕ) (s : State) (t past : List ℕ) → T (dart_count D) → T (room D) → T (is_pyramid s t past)
    → verdict room D s t past ≡ means s t past
unfolding verdict
verdict_means room D s t past d f p = rw (T→true (dart_count D) d, T→true (room D) f, T→true (is_pyramid s t past) p)

-- ---- no byte list has two meanings

pub record SameMeaning (s : State) (t past : List ℕ) (s' : State) (t' past' : List ℕ) : Type 0 where
  pub state : s ≡ s'
  pub table : t ≡ t'
  pub history : past ≡ past'

-- what a file means does not depend on the lent slices, as long as they are long enough
pub meaning_read : {b : List ℕ} {room : ℕ → Bool} {s : State} {t past : List ℕ} (M : Meaning room b s t past) (room' : ℕ → Bool) → T (room' M.darts)
    → read_file room' b ≡ means s t past
meaning_read {s = s} {t} {past} M room' f =
    ap (read_file room') M.bytes ∙ text_read room' M.form ∙ cc (M.state, M.table, M.history)
    ∙ verdict_means room' M.darts s t past M.count f M.pyramid

-- NO BYTE LIST HAS TWO MEANINGS
pub one_meaning : (b : List ℕ) (room room' : ℕ → Bool) {s s' : State} {t t' past past' : List ℕ}
    → read_file room b ≡ means s t past → read_file room' b ≡ means s' t' past' → SameMeaning s t past s' t' past'
one_meaning b room room' {s} {s'} {t} {t'} {past} {past'} e e' =
    let all : ℕ → Bool = λ _. true in
    let same : means s t past ≡ means s' t' past' = sym (meaning_read (meaning room b e) all tt) ∙ meaning_read (meaning room' b e') all tt in
    record { state = cc; table = cc; history = cc }
