-- A number's digits laid from the last to the first.
--   Backward o₀ o at x rest place == the digits of x after those of `rest` are laid, from `place` on; where that is past `at`, those of `rest` are left
--   backward_begin == none of them yet
--   backward_on    == one digit more
use mathlib.Core.Path.{◌≡◌, refl, sym, ap, ◌∙◌}
use mathlib.Core.List.{List, [], ◌∷◌, ◌++◌, append_assoc, append-nil}
use mathlib.Core.Logic.{by_cases}
use Prim.Native.Nat.{ℕ, ◌+◌, ◌-◌, ◌/◌, ◌%◌, ◌≤◌, ◌<◌}
use native.Mathlib.Decide.{dec_lt}
use native.Mathlib.Omega.{arith}
use lib.ListN.{length, set, length-append, length-set}
use Rattle.darts.specs.Text.{decimal}
use Rattle.slices.specs.Laid.{laid, Space}
use Rattle.writer.proofs.Decimal.{decimal_one, decimal_more}
use Rattle.slices.proofs.Put.{put_none}
use Rattle.slices.proofs.Laid.{laid_before}

pub record Backward (o₀ o : List ℕ) (at x rest place : ℕ) : Type 0 where
  pub front : List ℕ
  pub later : List ℕ
  pub size : length o ≡ length o₀
  pub whole : decimal x ≡ front ++ later
  pub next : place ≡ at + length front
  pub left : at < place → (front ≡ decimal rest) × (rest ≤ 99999)
  pub slice : o ≡ laid o₀ place later

pub backward_begin : (o : List ℕ) (at x : ℕ) {end : ℕ} → x ≤ 99999 → end ≡ at + length (decimal x) → Backward o o at x x end
backward_begin o at x {end} small e = record {
  front = decimal x;
  later = [];
  size = refl;
  whole = sym (append-nil (decimal x));
  next = e;
  left = λ _. (refl, small);
  slice = (put_none o end).slice;
}

module _ {o₀ o : List ℕ} {at x rest place : ℕ} (room : Space o₀ at (decimal x)) (b : Backward o₀ o at x rest place) where
  all : length (decimal x) ≡ length b.front + length b.later
  all = ap length b.whole ∙ length-append b.front b.later

  module _ (more : at < place) where
    abbrev d : ℕ
    d = 48 + rest % 10

    -- a digit stored just before the later ones
    stored : set o (place - 1) d ≡ laid o₀ (place - 1) (d ∷ b.later)
    stored =
        let e : place ≡ place - 1 + 1 = omega arith in
        ap (λ (z : List ℕ). set z (place - 1) d) (b.slice ∙ ap (λ (q : ℕ). laid o₀ q b.later) e)
        ∙ laid_before o₀ (place - 1) d b.later (record { fits = omega (arith, room.fits, all, b.next) })

    on : (front : List ℕ) → b.front ≡ front ++ (d ∷ []) → (at < place - 1 → (front ≡ decimal (rest / 10)) × (rest / 10 ≤ 99999))
        → Backward o₀ (set o (place - 1) d) at x (rest / 10) (place - 1)
    on front e left =
        let one : length b.front ≡ length front + 1 = ap length e ∙ length-append front (d ∷ []) in
        record {
          front = front;
          later = d ∷ b.later;
          size = length-set o (place - 1) d ∙ b.size;
          whole = b.whole ∙ ap (λ (l : List ℕ). l ++ b.later) e ∙ append_assoc front (d ∷ []) b.later;
          next = omega (arith, b.next, one);
          left = left;
          slice = stored;
        }

    pub backward_on : Backward o₀ (set o (place - 1) d) at x (rest / 10) (place - 1)
    backward_on =
        let l = b.left more in
        by_cases (dec_lt rest 10)
        (λ low.
        let digit : 48 + rest ≡ d = omega arith in
        let e : b.front ≡ d ∷ [] = l.0 ∙ decimal_one rest low ∙ ap (λ (c : ℕ). c ∷ []) digit in
        on [] e (λ h. absurd (let one : length b.front ≡ 1 = ap length e in omega (arith, b.next))))
        (λ high. on (decimal (rest / 10)) (l.0 ∙ decimal_more rest (omega arith) l.1) (λ _. (refl, omega (arith, l.1))))
