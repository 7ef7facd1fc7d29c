-- The lines of the kernels.
--   kernel_lines_lem  == they are read one after the other
--   kernels_count == n lines are n kernels
--   kernel_small  == the count of a line is at most 99,999
--   total_on, ends_on, history_on == what one line more adds
--   history_length == how many numbers these are
--   ends_set      == the next level end is stored
--   numbers_on    == one operation more
--   number_kind   == the history number of an operation of a kind
use mathlib.Core.Path.{◌≡◌, refl, sym, ap, ◌∙◌}
use mathlib.Core.Bool.{Bool, true, false}
use mathlib.Core.List.{List, [], ◌∷◌, ◌++◌, append_assoc, append-nil}
use Prim.Native.Nat.{ℕ, zero, suc, ◌+◌, ◌-◌, ◌*◌, ◌≤◌, ◌<◌}
use native.Mathlib.Nat.{add_assoc, add-zero, mul-one}
use native.Mathlib.Omega.{arith}
use lib.Dec.{eqb}
use lib.ListN.{length, set, replicate, length-append}
use lib.Seq.{set_at}
use Rattle.darts.specs.declared.Kind.{Kind as OfCode}
use Rattle.darts.specs.declared.Kind.TheVariants.{Contract, Remove}
use Rattle.darts.specs.Kinds.{kind_is, bit}
use Rattle.darts.specs.Operation.{Kind, contraction, removal, number}
use Rattle.std.proofs.Common.{if◌then◌else◌}
use Rattle.darts.specs.Answers.{empty_kernel}
use Rattle.darts.specs.Text.{bytes}
use Rattle.darts.specs.File.{line_feed, kind_word}
use Rattle.darts.specs.Scan.{byte_at, found, fault, after, word, field}
use Rattle.darts.specs.Read.{KernelLine, kernel_of_kind, kernel_at, kernels_at, ends_from, total, numbers_from, history_from}
use Rattle.file_lines.proofs.After.{after_after, through, field_small}
use Rattle.file_lines.proofs.Rest.{Lines, lines_count}
use Rattle.laws.proofs.file.KernelLines.{numbers_length}

pub kernel_lines_lem : (b : List ℕ) → Lines (λ at. after (kernel_at b at) (λ k next. found (k ∷ []) next)) (λ n at. kernels_at n b at)
unfolding kernels_at
kernel_lines_lem b = record { first = λ n at. simp after_after; none = λ at. refl }

pub kernels_count : (b : List ℕ) (n at : ℕ) (ks : List KernelLine) (next : ℕ) → kernels_at n b at ≡ found ks next → length ks ≡ n
kernels_count b n at ks next e =
    lines_count (kernel_lines_lem b) 1
    (λ at p next e.
    let line = through (kernel_at b at) _ e in
    let one : p ≡ line.value ∷ [] = cc line.second in
    rw one)
    n at ks next e
    ∙ mul-one n

kind_small : (j : Kind) (b : List ℕ) (at : ℕ) (k : KernelLine) (next : ℕ) → kernel_of_kind j b at ≡ found k next → k.count ≤ 99999
unfolding kernel_of_kind
kind_small j b at k next e =
    let read = through (field (kind_word j) line_feed b at) _ e in
    go (eqb read.value 0) read.value read.place (field_small _ _ _ _ read.first) read.second
  where
    go : (t : Bool) (n last : ℕ) → n ≤ 99999 → (if t then fault empty_kernel else found (record { kind = j; count = n }) last) ≡ found k next → k.count ≤ 99999
    go true n last h e = let never : ◌≡◌ {A = ℕ} 0 1 = cc in absurd (omega arith)
    go false n last h e = let same : n ≡ k.count = cc in omega arith

pub kernel_small : (b : List ℕ) (at : ℕ) {k : KernelLine} {next : ℕ} → kernel_at b at ≡ found k next → k.count ≤ 99999
unfolding kernel_at
kernel_small b at {k} {next} e =
    let key = through (word (bytes "kernel=") b at) _ e in
    go (eqb (byte_at b key.place) 99) key.place key.second
  where
    go : (t : Bool) (at : ℕ) → (if t then kernel_of_kind contraction b at else kernel_of_kind removal b at) ≡ found k next → k.count ≤ 99999
    go true at = kind_small contraction b at k next
    go false at = kind_small removal b at k next

module _ (k : KernelLine) where
  pub total_on : (ks : List KernelLine) → total (ks ++ (k ∷ [])) ≡ total ks + k.count
  unfolding total
  total_on [] = omega arith
  total_on (j ∷ ks) = omega (arith, total_on ks)

  pub ends_on : (n : ℕ) (ks : List KernelLine) → ends_from n (ks ++ (k ∷ [])) ≡ ends_from n ks ++ ((n + total ks + k.count) ∷ [])
  unfolding ends_from total
  ends_on n [] = rw (add-zero n)
  ends_on n (j ∷ ks) = rw (← add_assoc n j.count (total ks)) (ap (λ (l : List ℕ). (n + j.count) ∷ l) (ends_on (n + j.count) ks))

  pub history_on : (i : ℕ) (ks : List KernelLine) → history_from i (ks ++ (k ∷ [])) ≡ history_from i ks ++ numbers_from k.kind (i + total ks) k.count
  unfolding history_from total
  history_on i [] = rw (add-zero i) (append-nil (numbers_from k.kind i k.count))
  history_on i (j ∷ ks) =
      rw (append_assoc, ← add_assoc i j.count (total ks))
      (ap (λ (l : List ℕ). numbers_from j.kind i j.count ++ l) (history_on (i + j.count) ks))

pub history_length : (i : ℕ) (ks : List KernelLine) → length (history_from i ks) ≡ total ks
unfolding history_from total
history_length i [] = refl
history_length i (k ∷ ks) =
    length-append (numbers_from k.kind i k.count) (history_from (i + k.count) ks)
    ∙ omega (arith, numbers_length k.kind i k.count, history_length (i + k.count) ks)

pub numbers_on : (k : Kind) (i n : ℕ) → numbers_from k i (suc n) ≡ numbers_from k i n ++ (number k (2 * (i + n)) ∷ [])
unfolding numbers_from
numbers_on k i zero = rw (add-zero i)
numbers_on k i (suc n) =
    let same : i + suc n ≡ suc i + n = omega arith in
    rw same (ap (λ (l : List ℕ). number k (2 * i) ∷ l) (numbers_on k (suc i) n))

pub number_kind : (k : OfCode) (i : ℕ) → number (kind_is k) (2 * i) ≡ 4 * i + bit k
unfolding number
number_kind Contract i = omega arith
number_kind Remove i = omega arith

-- the ends of i levels, with zeros up to the 64th, and the next
pub ends_set : (es : List ℕ) (i v : ℕ) → length es ≡ i → i < 64 → set (es ++ replicate (64 - i) 0) i v ≡ (es ++ (v ∷ [])) ++ replicate (64 - (i + 1)) 0
ends_set es i v size h =
    let left : 64 - i ≡ suc (64 - (i + 1)) = omega arith in
    let zeros : List ℕ = replicate (64 - (i + 1)) 0 in
    rw left (set_at es 0 zeros v i size ∙ sym (append_assoc es (v ∷ []) zeros))
