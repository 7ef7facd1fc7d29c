-- A file's own history: operation t has p = 2t-2.
--   own_numbers i ks == the history numbers of operations of the kinds ks, where the first has p = 2i
--   file_past past   == the past of the file: the kinds of this past, and 2t-2 for the p of operation t
--   kinds_of ks      == the kinds of the operations of the kernel lines ks
use mathlib.Core.List.Memᴰ
use mathlib.Core.List.{List, [], ◌∷◌, ◌++◌, map, reverse, Memᴰ}
use mathlib.Core.Logic.{◌↔◌, ⊎_elim}
use mathlib.Core.Path.{◌≡◌, refl, sym, ap, ap₂, ◌∙◌}
use Prim.Native.Nat.{ℕ, zero, suc, ◌+◌, ◌*◌, ◌<◌, ◌≤◌}
use native.Mathlib.Omega.{arith}
use native.Mathlib.Decide.{ℕ_discrete}
use lib.ListN.{length, get_or, replicate, length-append, length-replicate}
use Rattle.permutations.proofs.PartnerLemmas.{partner_first}
use Rattle.darts.specs.Operation.{Kind, number, kind_of, lead_of}
use Rattle.darts.specs.File.{taken}
use Rattle.darts.specs.Read.{KernelLine, total, numbers_from, history_from, file_history}
use Rattle.laws.proofs.bridge.Numbers.{number_lead}

unfoldable pub own_numbers : ℕ → List Kind → List ℕ
own_numbers i [] = []
own_numbers i (k ∷ ks) = number k (2 * i) ∷ own_numbers (suc i) ks

-- "Operation t read back has p = 2t-2."
unfoldable pub file_past : List ℕ → List ℕ
file_past past = reverse (own_numbers 0 (map kind_of (reverse past)))

unfoldable pub kinds_of : List KernelLine → List Kind
kinds_of [] = []
kinds_of (k ∷ ks) = replicate k.count k.kind ++ kinds_of ks

-- ---- the kinds tell a file's history

numbers_kinds : (k : Kind) (i n : ℕ) → numbers_from k i n ≡ own_numbers i (replicate n k)
unfolding numbers_from own_numbers
numbers_kinds k i zero = refl
numbers_kinds k i (suc n) = ap (λ l. number k (2 * i) ∷ l) (numbers_kinds k (suc i) n)

own_append : (i : ℕ) (l k : List Kind) → own_numbers i (l ++ k) ≡ own_numbers i l ++ own_numbers (i + length l) k
unfolding own_numbers
own_append i [] k = let e : i + 0 ≡ i = omega arith in rw e
own_append i (x ∷ l) k = let e : i + suc (length l) ≡ suc i + length l = omega arith in rw e (ap (λ r. number x (2 * i) ∷ r) (own_append (suc i) l k))

history_kinds : (i : ℕ) (ks : List KernelLine) → history_from i ks ≡ own_numbers i (kinds_of ks)
unfolding history_from kinds_of own_numbers
history_kinds i [] = refl
history_kinds i (k ∷ ks) =
    ap₂ ◌++◌ (numbers_kinds k.kind i k.count) (history_kinds (i + k.count) ks)
    ∙ sym (own_append i (replicate k.count k.kind) (kinds_of ks) ∙ rw (length-replicate k.count k.kind))

pub file_history_lem : (ks : List KernelLine) → file_history ks ≡ own_numbers 0 (kinds_of ks)
unfolding file_history
file_history_lem = history_kinds 0

pub kinds_count : (ks : List KernelLine) → length (kinds_of ks) ≡ total ks
unfolding kinds_of total
kinds_count [] = refl
kinds_count (k ∷ ks) =
    length-append (replicate k.count k.kind) (kinds_of ks) ∙ ap₂ ◌+◌ (length-replicate k.count k.kind) (kinds_count ks)

pub own_count : (i : ℕ) (ks : List Kind) → length (own_numbers i ks) ≡ length ks
unfolding own_numbers
own_count i [] = refl
own_count i (k ∷ ks) = ap suc (own_count (suc i) ks)

-- ---- its leads and its darts

pub own_leads : (i : ℕ) (ks : List Kind) (j : ℕ) → j < length ks → lead_of (get_or (own_numbers i ks) j 0) ≡ 2 * (i + j)
unfolding own_numbers
own_leads i [] j h = absurd (omega arith)
own_leads i (k ∷ ks) zero h = number_lead k (2 * i) ∙ omega arith
own_leads i (k ∷ ks) (suc j) h = own_leads (suc i) ks j (omega arith) ∙ omega arith

two_more : (i n x : ℕ) (l : List ℕ) → Memᴰ x l ↔ ((2 * suc i ≤ x) × (x < 2 * (suc i + n)))
    → Memᴰ x (2 * i ∷ (2 * i + 1) ∷ l) ↔ ((2 * i ≤ x) × (x < 2 * (i + suc n)))
two_more i n x l rest = (there, back (ℕ_discrete x (2 * i)) (ℕ_discrete x (2 * i + 1)))
  where
    there : Memᴰ x (2 * i ∷ (2 * i + 1) ∷ l) → (2 * i ≤ x) × (x < 2 * (i + suc n))
    there m = ⊎_elim (λ e. (omega arith, omega arith))
        (λ m. ⊎_elim (λ e. (omega arith, omega arith)) (λ m. let r = rest.0 m in (omega (arith, r.0), omega (arith, r.1))) (Memᴰ.cases_cons m))
        (Memᴰ.cases_cons m)

    back : Dec (x ≡ 2 * i) → Dec (x ≡ 2 * i + 1) → (2 * i ≤ x) × (x < 2 * (i + suc n)) → Memᴰ x (2 * i ∷ (2 * i + 1) ∷ l)
    back (yes e) d h = Memᴰ.head e
    back (no n) (yes e) h = Memᴰ.tail (Memᴰ.head e)
    back (no n) (no m) h = Memᴰ.tail (Memᴰ.tail (rest.1 (omega (arith, h.0), omega (arith, h.1))))

-- the operations take the darts from 2i on, one after another
pub own_taken : (i : ℕ) (ks : List Kind) (x : ℕ) → Memᴰ x (taken (own_numbers i ks)) ↔ ((2 * i ≤ x) × (x < 2 * (i + length ks)))
unfolding own_numbers taken
own_taken i [] x = (λ m. absurd (Memᴰ.not-nil m), λ h. absurd (omega (arith, h.0, h.1)))
own_taken i (k ∷ ks) x =
    rw (number_lead k (2 * i), partner_first i) (two_more i (length ks) x (taken (own_numbers (suc i) ks)) (own_taken (suc i) ks x))
