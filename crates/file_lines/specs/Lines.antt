-- The lines of the file, each by itself (document 01, "The file").
--   starts_with F D  == the first two lines of a file
--   levels_at b at   == the line `levels=L`, with L judged
--   opening_of o     == the same, as the code has them
--   kernel_of k      == a kernel line as the code has it
--   pair_of p        == the two numbers of a pair
--   pair_at b at     == a line `pair=A B`
--   levels_few      == the L that is found is at most 64
--   body_levels     == the body of a file is that line, and then the kernels and the pairs
use Rattle.std.specs.Prelude.{◌≡◌, refl, Bool, true, false, List, [], ◌∷◌, ℕ, ◌/◌, ◌≤◌, ltb}
use Rattle.std.proofs.Common.{arith, ltb-false}
use Rattle.std.specs.Prelude.{if◌then◌else◌}
use Rattle.darts.specs.Answers.{too_many_levels}
use Rattle.darts.specs.Kinds.{kind_is}
use Rattle.darts.specs.Text.{bytes}
use Rattle.darts.specs.File.{line_feed}
use Rattle.darts.specs.Scan.{Scan, found, fault, after, field}
use Rattle.darts.specs.Read.{Opening, KernelLine, Body, kernels_at, pairs_at, end_at, body}
use Rattle.file_lines.specs.declared.lines.KernelLine.{KernelLine as Told}
use Rattle.file_lines.specs.declared.lines.FirstLines.{FirstLines}

abbrev pub starts_with : ℕ → ℕ → Opening
starts_with F D = record { flag = F; darts = D }

abbrev pub opening_of : FirstLines → Opening
opening_of o = starts_with o.flag o.darts

-- "3. `levels=L`." "L over 64 (6)"
unfoldable pub levels_at : List ℕ → ℕ → Scan ℕ
levels_at b at = after (field (bytes "levels=") line_feed b at) (λ L at. if ltb 64 L then fault too_many_levels else found L at)

abbrev pub kernel_of : Told → KernelLine
kernel_of k = record { kind = kind_is k.kind; count = k.count }

abbrev pub pair_of : ℕ × ℕ → List ℕ
pair_of p = p.0 ∷ p.1 ∷ []

-- "`pair=A B`"
unfoldable pub pair_at : List ℕ → ℕ → Scan (List ℕ)
pair_at b at = after (field (bytes "pair=") (bytes " ") b at) (λ x at. after (field [] line_feed b at) (λ y at. found (pair_of (x, y)) at))

pub body_levels : (D : ℕ) (b : List ℕ) (at : ℕ)
    → body D b at
    ≡ after (levels_at b at) (λ L at.
    after (kernels_at L b at) (λ ks at. after (pairs_at (D / 2) b at) (λ xs at. end_at (record { kernels = ks; numbers = xs }) b at)))
unfolding body levels_at
body_levels D b at = go (field (bytes "levels=") line_feed b at)
  where
    rest : ℕ → ℕ → Scan Body
    rest L at = after (kernels_at L b at) (λ ks at. after (pairs_at (D / 2) b at) (λ xs at. end_at (record { kernels = ks; numbers = xs }) b at))

    pick : (t : Bool) (L at : ℕ) → (if t then fault too_many_levels else rest L at) ≡ after (if t then fault too_many_levels else found L at) rest
    pick true L at = refl
    pick false L at = refl

    go : (s : Scan ℕ)
        → after s (λ L at. if ltb 64 L then fault too_many_levels else rest L at)
        ≡ after (after s (λ L at. if ltb 64 L then fault too_many_levels else found L at)) rest
    go (found L at) = pick (ltb 64 L) L at
    go (fault x) = refl

pub levels_few : (b : List ℕ) (at : ℕ) {L next : ℕ} → levels_at b at ≡ found L next → L ≤ 64
unfolding levels_at
levels_few b at {L} {next} e = go (field (bytes "levels=") line_feed b at) e
  where
    judge : (t : Bool) (N last : ℕ) → ltb 64 N ≡ t → (if t then fault too_many_levels else found N last) ≡ found L next → L ≤ 64
    judge true N last q e = let never : ◌≡◌ {A = ℕ} 0 1 = cc in absurd (omega arith)
    judge false N last q e = let same : N ≡ L = cc in omega (arith, ltb-false 64 N q)

    go : (s : Scan ℕ) → after s (λ L at. if ltb 64 L then fault too_many_levels else found L at) ≡ found L next → L ≤ 64
    go (found N last) e = judge (ltb 64 N) N last refl e
    go (fault x) e = let never : ◌≡◌ {A = ℕ} 0 1 = cc in absurd (omega arith)
