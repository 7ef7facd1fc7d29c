-- The lines of the levels and of the kernels, where a fault stands in them.
--   LevelsLine b at n more == the line `levels=n` stands at a place, and then what follows
--   body_many              == more than 64 levels
--   body_stops             == a fault in the kernel lines
--   kernels_stop           == a fault in the kernel line that follows others in good form
--   kernel_of_lem              == the first letter tells the kind
use mathlib.Core.List.{List, [], ◌∷◌, ◌++◌, append_assoc}
use mathlib.Core.Path.{◌≡◌, subst}
use Prim.Native.Nat.{ℕ, zero, suc, ◌<◌, ◌≤◌}
use native.Mathlib.Omega.{arith}
use lib.Dec.{ltb, ltb→lt, lt→ltb}
use lib.ListN.{length}
use Rattle.permutations.specs.Choice.{T→true, not_T→false}
use Rattle.darts.specs.Answers.{Answer, too_many_levels}
use Rattle.darts.specs.Operation.{Kind, contraction, removal}
use Rattle.darts.specs.Text.{bytes, decimal}
use Rattle.darts.specs.File.{line_feed, kind_word}
use Rattle.darts.specs.Scan.{found, fault, field}
use Rattle.darts.specs.Read.{KernelLine, kernel_of_kind, kernel_at, kernels_at, body}
use Rattle.laws.proofs.file.Words.{Between, between_byte, between_split, word_found}
use Rattle.laws.proofs.file.Fields.{field_found}
use Rattle.laws.proofs.Lists.{Each}
use Rattle.laws.proofs.file.Lines.{Counted, count_line, count_lines, no_digit_feed, kernel_found}

pub record LevelsLine (b : List ℕ) (at n : ℕ) (more : List ℕ) : Type 0 where
  pub mid : ℕ
  pub finds : field (bytes "levels=") line_feed b at ≡ found n mid
  pub later : Between b mid more (length b)

pub levels_line : {b : List ℕ} {at n : ℕ} {more : List ℕ} → n ≤ 99999 → Between b at (bytes "levels=" ++ (decimal n ++ (10 ∷ more))) (length b)
    → LevelsLine b at n more
levels_line {b} {at} {n} {more} few B =
    let e : bytes "levels=" ++ (decimal n ++ (10 ∷ more)) ≡ (bytes "levels=" ++ (decimal n ++ line_feed)) ++ more = simp append_assoc in
    let S = between_split (bytes "levels=" ++ (decimal n ++ line_feed)) (subst (λ l. Between b at l (length b)) e B) in
    record {
      mid = S.mid;
      finds = field_found (bytes "levels=") 10 [] {end = S.mid} no_digit_feed (record { there = S.first; bound = few });
      later = S.second;
    }

module _ (D : ℕ) {b : List ℕ} {at n : ℕ} {more : List ℕ} (K : LevelsLine b at n more) where
  pub body_many : 64 < n → body D b at ≡ fault too_many_levels
  unfolding body
  body_many k = rw (K.finds, T→true (ltb 64 n) (lt→ltb 64 n k))

  pub body_stops : n ≤ 64 → {a : Answer} → kernels_at n b K.mid ≡ fault a → body D b at ≡ fault a
  unfolding body
  body_stops k e = rw (K.finds, not_T→false (ltb 64 n) (λ t. omega (arith, ltb→lt 64 n t)), e)

-- ---- kernel lines

pub record KernelWord (b : List ℕ) (at : ℕ) (k : Kind) (v : List ℕ) (end : ℕ) : Type 0 where
  pub mid : ℕ
  pub kind : kernel_at b at ≡ kernel_of_kind k b mid
  pub later : Between b mid (kind_word k ++ v) end

pub kernel_of_lem : {b : List ℕ} {at end : ℕ} (k : Kind) (v : List ℕ) → Between b at (bytes "kernel=" ++ (kind_word k ++ v)) end → KernelWord b at k v end
unfolding kernel_at kind_word
kernel_of_lem contraction v B =
    let S = between_split (bytes "kernel=") B in
    record { mid = S.mid; kind = rw (word_found (bytes "kernel=") S.first, between_byte S.second); later = S.second }
kernel_of_lem removal v B =
    let S = between_split (bytes "kernel=") B in
    record { mid = S.mid; kind = rw (word_found (bytes "kernel=") S.first, between_byte S.second); later = S.second }

pub kernels_stop : {b : List ℕ} {at mid : ℕ} (ks : List KernelLine) (n : ℕ) {a : Answer} → Each Counted ks → length ks < n → Between b at (count_lines ks) mid
    → kernel_at b mid ≡ fault a → kernels_at n b at ≡ fault a
unfolding kernels_at count_lines
kernels_stop ks zero C few B e = absurd (omega arith)
kernels_stop {at = at} {mid} [] (suc n) C few B e = let here : at ≡ mid = omega (arith, B.place) in rw (here, e)
kernels_stop {at = at} (k ∷ ks) (suc n) C few B e =
    let S = between_split (count_line k) B in
    rw (kernel_found k.kind k.count (record { there = S.first; counted = C.0 }), kernels_stop {at = S.mid} ks n C.1 (omega arith) S.second e)
