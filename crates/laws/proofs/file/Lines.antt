-- The lines of a file: they are found exactly where they stand.
--   Counted k       == the kernel line k counts 1 to 99,999 operations
--   count_line k     == the bytes of a kernel line
--   count_lines ks   == the bytes of the kernel lines, one after another
--   Line b at k end == the kernel line k stands from `at` to `end`
--   Kernels, Pairs  == the same of n kernel lines, and of n pair lines
use mathlib.Core.Bool.{false}
use mathlib.Core.List.{List, [], ◌∷◌, ◌++◌, append_assoc}
use mathlib.Core.Logic.{◌≢◌}
use mathlib.Core.Path.{◌≡◌, refl, ap, subst}
use Prim.Native.Nat.{ℕ, zero, suc, ◌*◌, ◌<◌, ◌≤◌}
use native.Mathlib.Decide.{ℕ_discrete}
use native.Mathlib.Omega.{arith}
use lib.Dec.{T, eqb}
use lib.ListN.{length}
use Rattle.permutations.specs.Choice.{eqb_same, eqb_other}
use Rattle.std.proofs.Common.{if◌then◌else◌}
use Rattle.darts.specs.Answers.{empty_kernel}
use Rattle.darts.specs.Operation.{Kind, contraction, removal}
use Rattle.darts.specs.Text.{bytes, decimal}
use Rattle.darts.specs.File.{line_feed, kind_word, pair_lines}
use Rattle.darts.specs.Scan.{found, fault, byte_at, word, is_digit, field}
use Rattle.darts.specs.Read.{KernelLine, kernel_of_kind, kernel_at, kernels_at, pairs_at}
use Rattle.laws.proofs.Lists.{Each}
use Rattle.laws.proofs.file.Words.{Between, between_byte, between_none, between_join, between_split, after_found, same_found, fault≢found, all_bytes, word_found, found_word}
use Rattle.laws.proofs.file.Fields.{Field, field_found, found_field}

-- ---- kernel lines

pub record Counted (k : KernelLine) : Type 0 where
  pub some : 0 < k.count
  pub bound : k.count ≤ 99999

-- "`kernel=contract N` or `kernel=remove N`, N its count of operations"
unfoldable pub count_line : KernelLine → List ℕ
count_line k = bytes "kernel=" ++ (kind_word k.kind ++ (decimal k.count ++ line_feed))

unfoldable pub count_lines : List KernelLine → List ℕ
count_lines [] = []
count_lines (k ∷ ks) = count_line k ++ count_lines ks

pub record Line (b : List ℕ) (at : ℕ) (k : KernelLine) (end : ℕ) : Type 0 where
  pub there : Between b at (count_line k) end
  pub counted : Counted k

abbrev line : Kind → ℕ → KernelLine
line x n = record { kind = x; count = n }

pub no_digit_feed : is_digit 10 ≡ false
unfolding is_digit
no_digit_feed = refl

kind_found : {b : List ℕ} {at end : ℕ} (x : Kind) (n : ℕ) → Counted (line x n) → Between b at (kind_word x ++ (decimal n ++ line_feed)) end
    → kernel_of_kind x b at ≡ found (line x n) end
unfolding kernel_of_kind
kind_found x n C B =
    let some : n ≢ 0 = omega (arith, C.some) in
    rw (field_found (kind_word x) 10 [] no_digit_feed (record { there = B; bound = C.bound }), eqb_other some)

pub kernel_found : {b : List ℕ} {at end : ℕ} (x : Kind) (n : ℕ) → Line b at (line x n) end → kernel_at b at ≡ found (line x n) end
unfolding kernel_at count_line kind_word
kernel_found contraction n l =
    let S = between_split (bytes "kernel=") l.there in
    rw (word_found (bytes "kernel=") S.first, between_byte S.second) (kind_found contraction n l.counted S.second)
kernel_found removal n l =
    let S = between_split (bytes "kernel=") l.there in
    rw (word_found (bytes "kernel=") S.first, between_byte S.second) (kind_found removal n l.counted S.second)

kind_bytes : (x : Kind) → T (all_bytes (kind_word x))
unfolding kind_word
kind_bytes contraction = tt
kind_bytes removal = tt

found_kind : {b : List ℕ} {at : ℕ} (x : Kind) {k : KernelLine} {end : ℕ} → at ≤ length b → kernel_of_kind x b at ≡ found k end
    → Between b at (kind_word k.kind ++ (decimal k.count ++ line_feed)) end × Counted k
unfolding kernel_of_kind
found_kind {b} {at} x {k} {end} h e = after_found (field (kind_word x) line_feed b at) _ e (λ n place first rest. go n place first rest (ℕ_discrete n 0))
  where
    go : (n place : ℕ) → field (kind_word x) line_feed b at ≡ found n place → (if eqb n 0 then fault empty_kernel else found (line x n) place) ≡ found k end
        → Dec (n ≡ 0) → Between b at (kind_word k.kind ++ (decimal k.count ++ line_feed)) end × Counted k
    go n place first rest (yes z) = absurd (fault≢found (rw (eqb_same z) at rest))
    go n place first rest (no some) =
        let F = found_field (kind_word x) line_feed (kind_bytes x) tt h first in
        same_found (λ k end. Between b at (kind_word k.kind ++ (decimal k.count ++ line_feed)) end × Counted k) (rw (eqb_other some) at rest)
        (F.there, record { some = omega arith; bound = F.bound })

pub found_kernel : {b : List ℕ} {at : ℕ} {k : KernelLine} {end : ℕ} → at ≤ length b → kernel_at b at ≡ found k end → Line b at k end
unfolding kernel_at count_line
found_kernel {b} {at} {k} {end} h e = after_found (word (bytes "kernel=") b at) _ e (λ _ mid first rest.
    let W = found_word (bytes "kernel=") tt h first in
    let K = go mid W.inside rest (ℕ_discrete (byte_at b mid) 99) in
    record { there = between_join W K.0; counted = K.1 })
  where
    go : (mid : ℕ) → mid ≤ length b → (if eqb (byte_at b mid) 99 then kernel_of_kind contraction b mid else kernel_of_kind removal b mid) ≡ found k end
        → Dec (byte_at b mid ≡ 99) → Between b mid (kind_word k.kind ++ (decimal k.count ++ line_feed)) end × Counted k
    go mid inside rest (yes c) = found_kind contraction inside (rw (eqb_same c) at rest)
    go mid inside rest (no n) = found_kind removal inside (rw (eqb_other n) at rest)

-- "4. L lines"
pub record Kernels (b : List ℕ) (n at : ℕ) (ks : List KernelLine) (end : ℕ) : Type 0 where
  pub there : Between b at (count_lines ks) end
  pub counted : Each Counted ks
  pub many : length ks ≡ n

kernels_on : {b : List ℕ} {at : ℕ} (ks : List KernelLine) {end : ℕ} → Each Counted ks → Between b at (count_lines ks) end
    → kernels_at (length ks) b at ≡ found ks end
unfolding kernels_at count_lines
kernels_on {at = at} [] {end} C B = let e : at ≡ end = omega (arith, B.place) in ap (found []) e
kernels_on {at = at} (k ∷ ks) C B =
    let S = between_split (count_line k) B in
    rw (kernel_found k.kind k.count (record { there = S.first; counted = C.0 }), kernels_on {at = S.mid} ks C.1 S.second)

pub kernels_found : {b : List ℕ} {n at : ℕ} {ks : List KernelLine} {end : ℕ} → Kernels b n at ks end → kernels_at n b at ≡ found ks end
kernels_found {ks = ks} K = rw (← K.many) (kernels_on ks K.counted K.there)

kernels_more : {b : List ℕ} {n at : ℕ} {k : KernelLine} {mid : ℕ} {ks : List KernelLine} {end : ℕ} → Line b at k mid → Kernels b n mid ks end
    → Kernels b (suc n) at (k ∷ ks) end
unfolding count_lines
kernels_more l K = record { there = between_join l.there K.there; counted = (l.counted, K.counted); many = ap suc K.many }

pub found_kernels : {b : List ℕ} (n : ℕ) {at : ℕ} {ks : List KernelLine} {end : ℕ} → at ≤ length b → kernels_at n b at ≡ found ks end
    → Kernels b n at ks end
unfolding kernels_at count_lines
found_kernels {b} zero {at} h e = same_found (Kernels b zero at) e (record { there = between_none h; counted = tt; many = refl })
found_kernels {b} (suc n) {at} h e =
    after_found (kernel_at b at) _ e (λ k mid first rest.
    let l = found_kernel h first in
    after_found (kernels_at n b mid) _ rest (λ ks last second rest.
    same_found (Kernels b (suc n) at) rest (kernels_more l (found_kernels n l.there.inside second))))

-- ---- pair lines

-- "5. D/2 lines `pair=A B`"
pub record Pairs (b : List ℕ) (n at : ℕ) (xs : List ℕ) (end : ℕ) : Type 0 where
  pub there : Between b at (pair_lines xs) end
  pub bounds : Each (λ x. x ≤ 99999) xs
  pub many : length xs ≡ 2 * n

pair_parts : (x y : ℕ) (xs : List ℕ) → pair_lines (x ∷ y ∷ xs) ≡ (bytes "pair=" ++ (decimal x ++ bytes " ")) ++ ((decimal y ++ line_feed) ++ pair_lines xs)
unfolding pair_lines
pair_parts x y xs = simp append_assoc

pub no_digit_space : is_digit 32 ≡ false
unfolding is_digit
no_digit_space = refl

pub pairs_found : {b : List ℕ} (n : ℕ) {at : ℕ} (xs : List ℕ) {end : ℕ} → Pairs b n at xs end → pairs_at n b at ≡ found xs end
unfolding pairs_at pair_lines
pairs_found zero {at} [] {end} P = let e : at ≡ end = omega (arith, P.there.place) in ap (found []) e
pairs_found zero (x ∷ xs) P = absurd (omega (arith, P.many))
pairs_found (suc n) [] P = absurd (omega (arith, P.many))
pairs_found (suc n) (x ∷ []) P = absurd (omega (arith, P.many))
pairs_found {b} (suc n) {at} (x ∷ y ∷ xs) {end} P =
    let A = between_split (bytes "pair=" ++ (decimal x ++ bytes " ")) (subst (λ w. Between b at w end) (pair_parts x y xs) P.there) in
    let B = between_split (decimal y ++ line_feed) A.second in
    let rest : Pairs b n B.mid xs end = record { there = B.second; bounds = P.bounds.1.1; many = omega (arith, P.many) } in
    rw (
      field_found (bytes "pair=") 32 [] no_digit_space (record { there = A.first; bound = P.bounds.0 }),
      field_found [] 10 [] no_digit_feed (record { there = B.first; bound = P.bounds.1.0 }),
      pairs_found n xs rest,
    )

pairs_more : {b : List ℕ} {n at x mid y next : ℕ} {xs : List ℕ} {end : ℕ} → Field (bytes "pair=") (bytes " ") b at x mid → Field [] line_feed b mid y next
    → Pairs b n next xs end → Pairs b (suc n) at (x ∷ y ∷ xs) end
pairs_more {x = x} {y = y} {xs = xs} F G P = record {
  there = rw (pair_parts x y xs) (between_join F.there (between_join G.there P.there));
  bounds = (F.bound, (G.bound, P.bounds));
  many = omega (arith, P.many);
}

pub found_pairs : {b : List ℕ} (n : ℕ) {at : ℕ} {xs : List ℕ} {end : ℕ} → at ≤ length b → pairs_at n b at ≡ found xs end → Pairs b n at xs end
unfolding pairs_at pair_lines
found_pairs {b} zero {at} h e = same_found (Pairs b zero at) e (record { there = between_none h; bounds = tt; many = refl })
found_pairs {b} (suc n) {at} h e =
    after_found (field (bytes "pair=") (bytes " ") b at) _ e (λ x mid first rest.
    let F = found_field (bytes "pair=") (bytes " ") tt tt h first in
    after_found (field [] line_feed b mid) _ rest (λ y next second rest.
    let G = found_field [] line_feed tt tt F.there.inside second in
    after_found (pairs_at n b next) _ rest (λ xs last third rest.
    same_found (Pairs b (suc n) at) rest (pairs_more F G (found_pairs n G.there.inside third)))))
