-- The reader's refusals have numbers: none of them is 0.
--   Told r    == the scan r finds something, or its fault has a number other than 0
--   Meant r   == the same of a file's meaning
--   file_told == a file means something, or it is refused with a number other than 0
use mathlib.Core.Bool.{Bool, true, false, not}
use mathlib.Core.List.{List, [], ◌∷◌}
use mathlib.Core.Logic.{◌≢◌}
use Prim.Native.Nat.{ℕ, zero, suc, ◌+◌, ◌-◌, ◌*◌, ◌/◌}
use native.Mathlib.Omega.{arith}
use lib.Dec.{eqb, ltb}
use lib.ListN.{length}
use Rattle.permutations.specs.Choice.{pick}
use Rattle.darts.specs.Operation.{Kind, contraction, removal}
use Rattle.darts.specs.Pyramid.{dart_count, is_pyramid}
use Rattle.darts.specs.Text.{bytes}
use Rattle.darts.specs.File.{line_feed, kind_word}
use Rattle.darts.specs.Scan.{Scan, found, fault, after, byte_at, word, is_digit, number_on, number_at, field}
use Rattle.darts.specs.Read.{Opening, Body, Read, means, faulty, flag_at, opening, kernel_of_kind, kernel_at, kernels_at, pairs_at, end_at, body, file_state, closed, opened, read_file}

abbrev Told : {A : Type 0} → Scan A → Type 0
Told (found a at) = Unit {0}
Told (fault x) = x.number ≢ 0

abbrev pub Meant : Read → Type 0
Meant (means s t past) = Unit {0}
Meant (faulty D a) = a.number ≢ 0

told_if : {A : Type 0} (b : Bool) (x y : Scan A) → Told x → Told y → Told (pick b x y)
told_if true x y h k = h
told_if false x y h k = k

told_after : {A B : Type 0} (r : Scan A) (f : A → ℕ → Scan B) → Told r → ((a : A) (at : ℕ) → Told (f a at)) → Told (after r f)
told_after (found a at) f h k = k a at
told_after (fault x) f h k = h

meant_if : (b : Bool) (x y : Read) → Meant x → Meant y → Meant (pick b x y)
meant_if true x y h k = h
meant_if false x y h k = k

-- ---- words and numbers

word_told : (w b : List ℕ) (at : ℕ) → Told (word w b at)
unfolding word
word_told [] b at = tt
word_told (c ∷ w) b at = told_if (eqb (byte_at b at) c) _ _ (word_told w b (suc at)) (λ z. omega arith)

number_on_told : (n : ℕ) (b : List ℕ) (at x : ℕ) → Told (number_on n b at x)
unfolding number_on
number_on_told zero b at x = tt
number_on_told (suc n) b at x = told_if (is_digit (byte_at b at)) _ _ (number_on_told n b (suc at) (10 * x + (byte_at b at - 48))) tt

number_told : (b : List ℕ) (at : ℕ) → Told (number_at b at)
unfolding number_at
number_told b at =
    told_if (eqb (byte_at b at) 48) _ _ tt (told_if (is_digit (byte_at b at)) _ _ (number_on_told 5 b at 0) (λ z. omega arith))

field_told : (w end b : List ℕ) (at : ℕ) → Told (field w end b at)
unfolding field
field_told w end b at =
    told_after (word w b at) _ (word_told w b at)
    (λ _ at. told_after (number_at b at) _ (number_told b at) (λ x at. told_after (word end b at) _ (word_told end b at) (λ _ at. tt)))

-- ---- lines

flag_told : (b : List ℕ) (at : ℕ) → Told (flag_at b at)
unfolding flag_at
flag_told b at =
    told_if (eqb (byte_at b at) 48) _ _ tt
    (told_if (eqb (byte_at b at) 49) _ _ tt (told_if (eqb (byte_at b at) 256) _ _ (λ z. omega arith) (λ z. omega arith)))

opening_told : (b : List ℕ) → Told (opening b)
unfolding opening
opening_told b =
    told_after (word (bytes "numbers=") b 0) _ (word_told (bytes "numbers=") b 0)
    (λ _ at. told_after (flag_at b at) _ (flag_told b at)
    (λ F at. told_after (word line_feed b at) _ (word_told line_feed b at)
    (λ _ at. told_after (field (bytes "darts=") line_feed b at) _ (field_told (bytes "darts=") line_feed b at) (λ D at. tt))))

kind_told : (k : Kind) (b : List ℕ) (at : ℕ) → Told (kernel_of_kind k b at)
unfolding kernel_of_kind
kind_told k b at =
    told_after (field (kind_word k) line_feed b at) _ (field_told (kind_word k) line_feed b at) (λ n at. told_if (eqb n 0) _ _ (λ z. omega arith) tt)

kernel_told : (b : List ℕ) (at : ℕ) → Told (kernel_at b at)
unfolding kernel_at
kernel_told b at =
    told_after (word (bytes "kernel=") b at) _ (word_told (bytes "kernel=") b at)
    (λ _ at. told_if (eqb (byte_at b at) 99) _ _ (kind_told contraction b at) (kind_told removal b at))

kernels_told : (n : ℕ) (b : List ℕ) (at : ℕ) → Told (kernels_at n b at)
unfolding kernels_at
kernels_told zero b at = tt
kernels_told (suc n) b at =
    told_after (kernel_at b at) _ (kernel_told b at) (λ k at. told_after (kernels_at n b at) _ (kernels_told n b at) (λ ks at. tt))

pairs_told : (n : ℕ) (b : List ℕ) (at : ℕ) → Told (pairs_at n b at)
unfolding pairs_at
pairs_told zero b at = tt
pairs_told (suc n) b at =
    told_after (field (bytes "pair=") (bytes " ") b at) _ (field_told (bytes "pair=") (bytes " ") b at)
    (λ x at. told_after (field [] line_feed b at) _ (field_told [] line_feed b at)
    (λ y at. told_after (pairs_at n b at) _ (pairs_told n b at) (λ rest at. tt)))

-- ---- the whole file

end_told : (c : Body) (b : List ℕ) (at : ℕ) → Told (end_at c b at)
unfolding end_at
end_told c b at = told_if (eqb at (length b)) _ _ tt (λ z. omega arith)

body_told : (D : ℕ) (b : List ℕ) (at : ℕ) → Told (body D b at)
unfolding body
body_told D b at =
    told_after (field (bytes "levels=") line_feed b at) _ (field_told (bytes "levels=") line_feed b at)
    (λ L at. told_if (ltb 64 L) _ _ (λ z. omega arith)
    (told_after (kernels_at L b at) _ (kernels_told L b at)
    (λ ks at. told_after (pairs_at (D / 2) b at) _ (pairs_told (D / 2) b at) (λ xs at. end_told _ b at))))

closed_told : (o : Opening) (r : Scan Body) → Told r → Meant (closed o r)
unfolding closed
closed_told o (fault a) h = h
closed_told o (found c at) h = meant_if (is_pyramid (file_state o.darts c.kernels _ _) _ _) _ _ tt (λ z. omega arith)

opened_told : (room : ℕ → Bool) (b : List ℕ) (r : Scan Opening) → Told r → Meant (opened room b r)
unfolding opened
opened_told room b (fault a) h = h
opened_told room b (found o at) h =
    meant_if (not (dart_count o.darts)) _ _ (λ z. omega arith)
    (meant_if (not (room o.darts)) _ _ (λ z. omega arith) (closed_told o (body o.darts b at) (body_told o.darts b at)))

-- A FILE MEANS SOMETHING, OR IT IS REFUSED WITH A NUMBER OTHER THAN 0
pub file_told : (room : ℕ → Bool) (b : List ℕ) → Meant (read_file room b)
unfolding read_file
file_told room b = opened_told room b (opening b) (opening_told b)
