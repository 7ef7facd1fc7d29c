-- What a file's bytes mean (document 01, "The file").
--   Opening            == the first two lines: F and D
--   KernelLine         == a kind and a count of operations
--   Body               == the kernel lines, and the numbers of the pairs
--   file_state D ks t past == the state that the kernel lines state, over this table and past
--   file_history ks     == the history numbers of the kernel lines
--   Read               == the bytes mean a state, a table and a past, or they are faulty with an answer; D then, 0 where it is not known
--   read_file room b    == the meaning of the bytes b, where room says for how many darts the lent slices are long enough
use Rattle.std.specs.Prelude.{Bool, not, List, [], ◌∷◌, ◌++◌, map, reverse, ℕ, zero, suc, ◌+◌, ◌-◌, ◌*◌, ◌/◌, eqb, ltb, length, replicate}
use Rattle.std.specs.Prelude.{if◌then◌else◌}
use Rattle.darts.specs.Answers.{Answer, no_dart_count, too_short, no_pyramid, empty_kernel, too_many_levels, no_file, no_flag}
use Rattle.darts.specs.Operation.{Kind, contraction, removal, number}
use Rattle.darts.specs.State.{State, storing}
use Rattle.darts.specs.Pyramid.{dart_count, is_pyramid}
use Rattle.darts.specs.Text.{bytes}
use Rattle.darts.specs.File.{line_feed, kind_word}
use Rattle.darts.specs.Scan.{Scan, found, fault, after, byte_at, word, field}

pub record Opening : Type 0 where
  pub flag : ℕ
  pub darts : ℕ

-- "F is byte nine: 0 for darts from zero, 1 for darts from one." "14: byte nine is neither 0 nor 1"
unfoldable pub flag_at : List ℕ → ℕ → Scan ℕ
flag_at b at =
    if eqb (byte_at b at) 48 then found 0 (suc at)
    else if eqb (byte_at b at) 49 then found 1 (suc at)
    else if eqb (byte_at b at) 256 then fault (no_file at)
    else fault no_flag

-- "1. `numbers=F`." "2. `darts=D`."
unfoldable pub opening : List ℕ → Scan Opening
opening b =
    after (word (bytes "numbers=") b 0) (λ _ at. after (flag_at b at) (λ F at. after (word line_feed b at) (λ _ at.
    after (field (bytes "darts=") line_feed b at) (λ D at. found (record { flag = F; darts = D }) at))))

pub record KernelLine : Type 0 where
  pub kind : Kind
  pub count : ℕ

-- "Values are judged when their line has ended: .. N of 0 (5)."
unfoldable pub kernel_of_kind : Kind → List ℕ → ℕ → Scan KernelLine
kernel_of_kind k b at =
    after (field (kind_word k) line_feed b at)
    (λ n at. if eqb n 0 then fault empty_kernel else found (record { kind = k; count = n }) at)

-- "`kernel=contract N` or `kernel=remove N`": the first letter tells the word
unfoldable pub kernel_at : List ℕ → ℕ → Scan KernelLine
kernel_at b at =
    after (word (bytes "kernel=") b at)
    (λ _ at. if eqb (byte_at b at) 99 then kernel_of_kind contraction b at else kernel_of_kind removal b at)

-- "4. L lines"
unfoldable pub kernels_at : ℕ → List ℕ → ℕ → Scan (List KernelLine)
kernels_at zero b at = found [] at
kernels_at (suc n) b at = after (kernel_at b at) (λ k at. after (kernels_at n b at) (λ ks at. found (k ∷ ks) at))

-- "5. D/2 lines `pair=A B`"
unfoldable pub pairs_at : ℕ → List ℕ → ℕ → Scan (List ℕ)
pairs_at zero b at = found [] at
pairs_at (suc n) b at =
    after (field (bytes "pair=") (bytes " ") b at) (λ x at. after (field [] line_feed b at) (λ y at.
    after (pairs_at n b at) (λ rest at. found (x ∷ y ∷ rest) at)))

pub record Body : Type 0 where
  pub kernels : List KernelLine
  pub numbers : List ℕ

-- "nothing after the last"
unfoldable pub end_at : Body → List ℕ → ℕ → Scan Body
end_at c b at = if eqb at (length b) then found c at else fault (no_file at)

-- "3. `levels=L`." "L over 64 (6)"
unfoldable pub body : ℕ → List ℕ → ℕ → Scan Body
body D b at =
    after (field (bytes "levels=") line_feed b at) (λ L at.
    let rest : Scan Body =
    after (kernels_at L b at) (λ ks at. after (pairs_at (D / 2) b at) (λ xs at. end_at (record { kernels = ks; numbers = xs }) b at)) in
    if ltb 64 L then fault too_many_levels else rest)

-- "F applies to A and B only." A number that is no dart (0 under F = 1) becomes D, which is none either.
unfoldable pub from_flag : ℕ → ℕ → ℕ → ℕ
from_flag F D x = if eqb F 0 then x else if eqb x 0 then D else x - 1

-- the operation count after each kernel, n before the first
unfoldable pub ends_from : ℕ → List KernelLine → List ℕ
ends_from n [] = []
ends_from n (k ∷ ks) = (n + k.count) ∷ ends_from (n + k.count) ks

unfoldable pub total : List KernelLine → ℕ
total [] = 0
total (k ∷ ks) = k.count + total ks

unfoldable pub file_state : ℕ → List KernelLine → List ℕ → List ℕ → State
file_state D ks t past = storing D (total ks) (length ks) (ends_from 0 ks ++ replicate (64 - length ks) 0) t past

-- "Operation t read back has p = 2t-2.": the numbers of n operations of kind k, from t = i + 1 on
unfoldable pub numbers_from : Kind → ℕ → ℕ → List ℕ
numbers_from k i zero = []
numbers_from k i (suc n) = number k (2 * i) ∷ numbers_from k (suc i) n

unfoldable pub history_from : ℕ → List KernelLine → List ℕ
history_from i [] = []
history_from i (k ∷ ks) = numbers_from k.kind i k.count ++ history_from (i + k.count) ks

unfoldable pub file_history : List KernelLine → List ℕ
file_history ks = history_from 0 ks

pub data Read : Type 0 where
  means : State → List ℕ → List ℕ → Read
  faulty : ℕ → Answer → Read

-- "After the last byte: 4, also where a pair holds a number that is no dart (0 under F = 1, D under F = 0)."
unfoldable pub closed : Opening → Scan Body → Read
closed o (fault a) = faulty o.darts a
closed o (found c at) =
    let t : List ℕ = map (from_flag o.flag o.darts) c.numbers in
    let past : List ℕ = reverse (file_history c.kernels) in
    let s : State = file_state o.darts c.kernels t past in
    if is_pyramid s t past then means s t past else faulty o.darts no_pyramid

-- "Values are judged when their line has ended: D (1, then 2)". The reader "writes nothing if it stops before D is known".
unfoldable pub opened : (ℕ → Bool) → List ℕ → Scan Opening → Read
opened room b (fault a) = faulty 0 a
opened room b (found o at) =
    let rest : Read = closed o (body o.darts b at) in
    if not (dart_count o.darts) then faulty 0 no_dart_count
    else if not (room o.darts) then faulty 0 too_short
    else rest

-- "Bytes are judged from left to right, and the first fault decides."
unfoldable pub read_file : (ℕ → Bool) → List ℕ → Read
read_file room b = opened room b (opening b)
