-- How many bytes the meaning of a file is told by.
--   Cause b upto a == the answer a of a faulty file, and the bytes that tell it: up to the wrong byte, or to the end of the line of a wrong value, or all
--   Told b upto r  == the same of a file that may have a meaning
--   Seen room b    == the first `upto` bytes tell what the file b means: at most 1,444, and 17 for each pair that the slices have room for
--   seen           == so it is
--   seen_cause     == the cause of a faulty file's answer
--   seen_some      == what holds of every answer but 0, its second place 0, holds of it
--   seen_refused   == it is not answered 0
use mathlib.Core.Bool.{Bool}
use mathlib.Core.List.{List, [], ◌∷◌}
use mathlib.Core.Logic.{◌≢◌}
use mathlib.Core.Path.{◌≡◌, refl, sym, ap, ◌∙◌, subst}
use Prim.Native.Nat.{ℕ, suc, ◌+◌, ◌*◌, ◌/◌, ◌≤◌}
use native.Mathlib.Omega.{arith}
use lib.Dec.{T}
use lib.ListN.{take}
use Rattle.darts.specs.Answers.{Answer, answered}
use Rattle.darts.specs.Text.{bytes}
use Rattle.darts.specs.Scan.{Scan, found, fault, word, field}
use Rattle.darts.specs.Read.{Opening, Body, flag_at, opening, Read, means, faulty, closed, opened, read_file}
use Rattle.laws.proofs.file.Words.{after_found, same_found}
use Rattle.laws.proofs.file.Meanings.{Closing, stands, falls, closing, DartsJudged, uncounted, cramped, goes_on, opened_uncounted, opened_cramped, opened_on, darts_judged}
use Rattle.laws.proofs.file.Looks.{LineEnd, Look, Ended, Stop, wrong, flag, empty, many, same_less, field_end}
use Rattle.laws.proofs.file.LooksLines.{look_opening, look_body}

pub data Cause (b : List ℕ) (upto : ℕ) (a : Answer) : Type 0 where
  wrong_byte : (p : ℕ) → a ≡ answered 13 p → upto ≡ suc p → Cause b upto a
  wrong_flag : a ≡ answered 14 8 → upto ≡ 9 → Cause b upto a
  no_count_lem : a ≡ answered 1 0 → LineEnd b upto → Cause b upto a
  too_short_lem : a ≡ answered 2 0 → LineEnd b upto → Cause b upto a
  empty_kernel_lem : a ≡ answered 5 0 → LineEnd b upto → Cause b upto a
  many_levels : a ≡ answered 6 0 → LineEnd b upto → Cause b upto a
  no_pyramid_lem : a ≡ answered 4 0 → Cause b upto a

abbrev Told : List ℕ → ℕ → Read → Type 0
Told b upto (means s t past) = Unit {0}
Told b upto (faulty D a) = Cause b upto a

pub record Seen (room : ℕ → Bool) (b : List ℕ) : Type 0 where
  pub upto : ℕ
  pub few : (E : ℕ) → ((D : ℕ) → T (room D) → D ≤ E) → upto ≤ 1444 + 17 * (E / 2)
  pub same : (c : List ℕ) → take upto c ≡ take upto b → read_file room c ≡ read_file room b
  pub told : Told b upto (read_file room b)

-- what holds of every answer but 0, its second place 0, holds of a fault's
cause_some : (P : Answer → Type 0) → ((n p : ℕ) → n ≢ 0 → P (answered n p)) → {b : List ℕ} {upto : ℕ} {a : Answer} → Cause b upto a → P a
cause_some P some (wrong_byte p e k) = rw e (some 13 p (λ z. omega arith))
cause_some P some (wrong_flag e k) = rw e (some 14 8 (λ z. omega arith))
cause_some P some (no_count_lem e l) = rw e (some 1 0 (λ z. omega arith))
cause_some P some (too_short_lem e l) = rw e (some 2 0 (λ z. omega arith))
cause_some P some (empty_kernel_lem e l) = rw e (some 5 0 (λ z. omega arith))
cause_some P some (many_levels e l) = rw e (some 6 0 (λ z. omega arith))
cause_some P some (no_pyramid_lem e) = rw e (some 4 0 (λ z. omega arith))

-- ---- a fault of the lines is one of the file

stop_cause : {b : List ℕ} {at upto : ℕ} {a : Answer} → Stop b at upto a → Cause b upto a
stop_cause (wrong p e k h) = wrong_byte p e k
stop_cause (flag e k) = wrong_flag e k
stop_cause (empty e l) = empty_kernel_lem e l
stop_cause (many e l) = many_levels e l

closed_told : (o : Opening) {f : List ℕ → Scan Body} {b : List ℕ} {at from most slack : ℕ} (L : Look f b at from most slack)
    → Told b L.upto (closed o (f b))
unfolding closed
closed_told o {f} {b} {at} {most = most} {slack} L = go (f b) L.ended
  where
    last : {c : Body} {end : ℕ} → Closing o c end → Told b L.upto (closed o (found c end))
    last (stands (p, k)) = rw k tt
    last (falls k) = rw k (no_pyramid_lem refl)

    go : (r : Scan Body) → Ended b at L.upto most slack r → Told b L.upto (closed o r)
    go (fault a) e = stop_cause e
    go (found c end) e = last (closing o c end)

-- "each ended by one line feed"
opening_end : {b : List ℕ} {o : Opening} {at : ℕ} → opening b ≡ found o at → LineEnd b at
unfolding opening
opening_end {b} e =
    after_found (word (bytes "numbers=") b 0) _ e (λ _ at _ rest.
    after_found (flag_at b at) _ rest (λ F at _ rest.
    after_found (word (10 ∷ []) b at) _ rest (λ _ at _ rest.
    after_found (field (bytes "darts=") (10 ∷ []) b at) _ rest (λ D last fourth rest.
    same_found (λ _ end. LineEnd b end) rest (field_end (bytes "darts=") b at fourth)))))

-- ---- the whole file

module _ (room : ℕ → Bool) (b : List ℕ) where
  pub seen : Seen room b
  unfolding read_file opened
  seen = go (opening b) refl (look_opening b).ended
    where
      O : Look opening b 0 0 22 0
      O = look_opening b

      go : (r : Scan Opening) → opening b ≡ r → Ended b 0 O.upto 22 0 r → Seen room b
      go (fault a) k e = record {
        upto = O.upto;
        few = λ E h. omega (arith, O.few);
        same = λ c s. rw (O.same c s, k);
        told = rw k (stop_cause e);
      }
      go (found o at) k e = tests (darts_judged room b o at)
        where
          here : (n : ℕ) → at ≤ n → (c : List ℕ) → take n c ≡ take n b → opening c ≡ found o at
          here n h c s = O.same c (same_less b c O.upto n (omega (arith, e.0)) s) ∙ k

          tests : DartsJudged room b o at → Seen room b
          tests (uncounted n i) = record {
            upto = at;
            few = λ E h. omega (arith, e.1.0);
            same = λ c s. rw (here at (omega arith) c s, k) (opened_uncounted room c o at n ∙ sym i);
            told = rw (k, i) (no_count_lem refl (opening_end k));
          }
          tests (cramped d n i) = record {
            upto = at;
            few = λ E h. omega (arith, e.1.0);
            same = λ c s. rw (here at (omega arith) c s, k) (opened_cramped room c o at d n ∙ sym i);
            told = rw (k, i) (too_short_lem refl (opening_end k));
          }
          tests (goes_on d f i) =
              let B = look_body o.darts b at in
              record {
                upto = B.upto;
                few = λ E h. omega (arith, e.1.0, B.few, h o.darts f);
                same = λ c s. rw (here B.upto B.begun c s, k) (opened_on room c o at d f ∙ ap (closed o) (B.same c s) ∙ sym i);
                told = rw (k, i) (closed_told o B);
              }

  pub seen_cause : {D : ℕ} {a : Answer} → read_file room b ≡ faulty D a → Cause b seen.upto a
  seen_cause e = subst (Told b seen.upto) e seen.told

  pub seen_some : (P : Answer → Type 0) → ((n p : ℕ) → n ≢ 0 → P (answered n p)) → {D : ℕ} {a : Answer} → read_file room b ≡ faulty D a → P a
  seen_some P some e = cause_some P some (seen_cause e)

  pub seen_refused : {D : ℕ} {a : Answer} → read_file room b ≡ faulty D a → a.number ≢ 0
  seen_refused = seen_some (λ a. a.number ≢ 0) (λ n p h. h)
