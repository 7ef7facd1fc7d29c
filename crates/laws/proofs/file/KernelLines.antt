-- The kernel lines of a pyramid, and the pyramid of kernel lines.
--   line_of k               == the line of the kernel k
--   lines_of s past         == the kernel lines of a state and its past
--   Told from marks hs ls  == the kernel lines ls tell the marks and the kinds of the operations hs
use mathlib.Core.Bool.{◌&&◌}
use mathlib.Core.List.{List, [], ◌∷◌, ◌++◌, map, map-append, reverse, reverse-reverse, append_assoc}
use mathlib.Core.Path.{◌≡◌, refl, sym, ap, ap₂, ◌∙◌}
use Prim.Native.Nat.{ℕ, zero, suc, ◌+◌, ◌-◌, ◌*◌, ◌%◌, ◌<◌, ◌≤◌}
use native.Mathlib.Omega.{arith}
use lib.Dec.{T, eqb, leb, leb→le}
use lib.ListN.{length, take, drop, replicate, length-drop, length-map, length-replicate, length-reverse, get_or-replicate, take-append-drop}
use lib.Seq.{take_at, drop_at, length-take-le, get_or-drop, ext_get_or}
use Rattle.permutations.specs.Choice.{and_left, and_right}
use Rattle.darts.specs.Operation.{Kind, kind_of, edge_of}
use Rattle.darts.specs.State.{State}
use Rattle.darts.specs.Pyramid.{Kernel, Pyramid, dart_count, kernel_of, cut, kernels_of}
use Rattle.darts.specs.Text.{bytes, decimal}
use Rattle.darts.specs.File.{line_feed, kernel_line, kernel_lines, pair_lines, file_table, file_of}
use Rattle.darts.specs.Tests.{same_kind, of_kind, one_kind, rises}
use Rattle.darts.specs.Read.{KernelLine, ends_from, total, file_state, numbers_from, history_from, file_history}
use Rattle.laws.proofs.bridge.Numbers.{number_kind}
use Rattle.laws.proofs.runs.Ends.{Layered, Stores, state_path}
use Rattle.laws.proofs.tests.Shape.{same_kind_lem, rises_iff}
use Rattle.laws.proofs.tests.Passes.{pyramid_shaped}
use Rattle.laws.proofs.tests.Room.{pyramid_room}
use Rattle.laws.proofs.Lists.{Each}
use Rattle.laws.proofs.file.Lines.{Counted, count_line, count_lines}
use Rattle.laws.proofs.file.Texts.{text_of}
use Rattle.laws.proofs.file.History.{kinds_of, kinds_count}

unfoldable pub line_of : Kernel → KernelLine
line_of k = record { kind = k.kind; count = length k.edges }

unfoldable pub lines_of : State → List ℕ → List KernelLine
lines_of s past = map line_of (kernels_of s past)

-- ---- the line of some history numbers

line_count : (hs : List ℕ) → (line_of (kernel_of hs)).count ≡ length hs
unfolding line_of kernel_of
line_count [] = refl
line_count (h ∷ hs) = ap suc (length-map hs edge_of)

kinds_same : (k : Kind) (hs : List ℕ) → T (of_kind k hs) → map kind_of hs ≡ replicate (length hs) k
unfolding of_kind
kinds_same k [] o = refl
kinds_same k (h ∷ hs) o =
    let first = (same_kind_lem k (kind_of h)).0 (and_left (same_kind k (kind_of h)) (of_kind k hs) o) in
    ap₂ ◌∷◌ (sym first) (kinds_same k hs (and_right (same_kind k (kind_of h)) (of_kind k hs) o))

line_kinds : (hs : List ℕ) → T (one_kind hs) → (let l : KernelLine = line_of (kernel_of hs) in map kind_of hs ≡ replicate l.count l.kind)
unfolding one_kind line_of kernel_of
line_kinds [] o = refl
line_kinds (h ∷ hs) o = ap (λ l. kind_of h ∷ l) (kinds_same (kind_of h) hs o ∙ ap (λ n. replicate n (kind_of h)) (sym (length-map hs edge_of)))

-- ---- a history that the ends cut into kernels

pub record Told (from : ℕ) (marks hs : List ℕ) (ls : List KernelLine) : Type 0 where
  pub ends : ends_from from ls ≡ marks
  pub many : length ls ≡ length marks
  pub kinds : kinds_of ls ≡ map kind_of hs
  pub counted : Each Counted ls

told : (from : ℕ) (marks hs : List ℕ) → length hs ≤ 99999 → T (rises from marks hs) → Told from marks hs (map line_of (cut from marks hs))
unfolding rises cut ends_from kinds_of
told from [] [] few r = record { ends = refl; many = refl; kinds = refl; counted = tt }
told from [] (h ∷ hs) few r = absurd r
told from (m ∷ ms) hs few r =
    let (up, (fits, (one, rest))) = (rises_iff from m ms hs).0 r in
    let here = take (m - from) hs in
    let later = drop (m - from) hs in
    let count : (line_of (kernel_of here)).count ≡ m - from = line_count here ∙ length-take-le (m - from) hs fits in
    let end : from + (line_of (kernel_of here)).count ≡ m = omega arith in
    let I = told m ms later (let n = length-drop (m - from) hs in omega arith) rest in
    record {
      ends = ap₂ ◌∷◌ end (ap (λ n. ends_from n (map line_of (cut m ms later))) end ∙ I.ends);
      many = ap suc I.many;
      kinds = ap₂ ◌++◌ (sym (line_kinds here one)) I.kinds ∙ sym (map-append kind_of here later) ∙ ap (map kind_of) (take-append-drop (m - from) hs);
      counted = (record { some = omega arith; bound = omega arith }, I.counted);
    }

-- "D even, 2 to 65,536"
pub darts_most : (D : ℕ) → T (dart_count D) → D ≤ 65536
unfolding dart_count
darts_most D c = leb→le D 65536 (and_right (leb 2 D) (leb D 65536) (and_right (eqb (D % 2) 0) (leb 2 D && leb D 65536) c))

module _ {s : State} {t past : List ℕ} (P : Pyramid s t past) where
  L : Layered s.darts s past
  L = (pyramid_shaped P).layered

  pub lines_told : Told 0 (take s.levels s.ends) (reverse past) (lines_of s past)
  unfolding lines_of kernels_of
  lines_told =
      let few : length (reverse past) ≤ 99999 = omega (arith, length-reverse past, pyramid_room P, darts_most s.darts P.count) in
      told 0 (take s.levels s.ends) (reverse past) few (pyramid_shaped P).rising

  pub lines_levels : length (lines_of s past) ≡ s.levels
  lines_levels = lines_told.many ∙ length-take-le s.levels s.ends (omega (arith, L.sixty_four, L.most))

  -- past the levels there are zeros
  zeros_left : replicate (64 - s.levels) 0 ≡ drop s.levels s.ends
  zeros_left =
      let size : length (drop s.levels s.ends) ≡ 64 - s.levels = length-drop s.levels s.ends ∙ ap (λ n. n - s.levels) L.sixty_four in
      ext_get_or 0 (replicate (64 - s.levels) 0) (drop s.levels s.ends) (length-replicate {A = ℕ} (64 - s.levels) 0 ∙ sym size) (λ i h.
      get_or-replicate (64 - s.levels) i 0 0 (rw (length-replicate {A = ℕ} (64 - s.levels) 0) at h)
      ∙ sym (get_or-drop s.levels s.ends i 0 ∙ L.unused (s.levels + i) (omega arith)))

  -- THE KERNEL LINES TELL THE STATE
  pub state_told : (u new : List ℕ) → Stores s u new → file_state s.darts (lines_of s past) u new ≡ s
  unfolding file_state
  state_told u new N = state_path refl count lines_levels (ap₂ ◌++◌ lines_told.ends (rw lines_levels zeros_left) ∙ take-append-drop s.levels s.ends)
      (sym N.vertices) (sym N.faces)
    where
      count : total (lines_of s past) ≡ s.operations
      count =
          sym (kinds_count (lines_of s past)) ∙ ap length lines_told.kinds ∙ length-map (reverse past) kind_of ∙ length-reverse past ∙ sym L.count

-- ---- the kernels that the lines of a file state

pub numbers_length : (k : Kind) (i n : ℕ) → length (numbers_from k i n) ≡ n
unfolding numbers_from
numbers_length k i zero = refl
numbers_length k i (suc n) = ap suc (numbers_length k (suc i) n)

numbers_line : (k : Kind) (i n : ℕ) → 0 < n → line_of (kernel_of (numbers_from k i n)) ≡ record { kind = k; count = n }
unfolding numbers_from line_of kernel_of
numbers_line k i zero h = absurd (omega arith)
numbers_line k i (suc n) h =
    let count = length-map (numbers_from k (suc i) n) edge_of ∙ numbers_length k (suc i) n in
    ap₂ (λ k n. record { kind = k; count = n }) (number_kind k (2 * i)) (ap suc count)

cut_lines : (i : ℕ) (ks : List KernelLine) → Each Counted ks → map line_of (cut i (ends_from i ks) (history_from i ks)) ≡ ks
unfolding cut ends_from history_from
cut_lines i [] C = refl
cut_lines i (k ∷ ks) C =
    let end = i + k.count in
    let here = numbers_from k.kind i k.count in
    let count : length here ≡ end - i = numbers_length k.kind i k.count ∙ omega arith in
    rw (take_at here (history_from end ks) (end - i) count, drop_at here (history_from end ks) (end - i) count)
    (ap₂ ◌∷◌ (numbers_line k.kind i k.count C.0.some) (cut_lines end ks C.1))

pub ends_length : (i : ℕ) (ks : List KernelLine) → length (ends_from i ks) ≡ length ks
unfolding ends_from
ends_length i [] = refl
ends_length i (k ∷ ks) = ap suc (ends_length (i + k.count) ks)

-- A FILE'S KERNEL LINES ARE READ BACK
pub lines_again : (D : ℕ) (ks : List KernelLine) (t past : List ℕ) → Each Counted ks → lines_of (file_state D ks t past) (reverse (file_history ks)) ≡ ks
unfolding lines_of kernels_of file_state file_history
lines_again D ks t past C =
    rw (reverse-reverse (history_from 0 ks), take_at (ends_from 0 ks) (replicate (64 - length ks) 0) (length ks) (ends_length 0 ks)) (cut_lines 0 ks C)

-- ---- the bytes of a pyramid's file

kernel_lines_lem : (ks : List Kernel) → kernel_lines ks ≡ count_lines (map line_of ks)
unfolding kernel_lines count_lines kernel_line count_line line_of
kernel_lines_lem [] = refl
kernel_lines_lem (k ∷ ks) = ap (λ l. kernel_line k ++ l) (kernel_lines_lem ks)

-- D, L, the kernel lines and the pair lines stand in one order
layout : (d l k x : List ℕ) → bytes "numbers=0\ndarts=" ++ (d ++ (line_feed ++ (bytes "levels=" ++ (l ++ (line_feed ++ (k ++ x))))))
    ≡ (bytes "numbers=0\ndarts=" ++ (d ++ line_feed)) ++ ((bytes "levels=" ++ (l ++ line_feed)) ++ (k ++ x))
layout d l k x = simp append_assoc

-- A PYRAMID'S FILE IS THE TEXT OF ITS LINES
pub file_text : (s : State) (t past : List ℕ) → length (lines_of s past) ≡ s.levels
    → file_of s t past ≡ text_of 0 s.darts (lines_of s past) (file_table s.darts t past)
unfolding file_of text_of lines_of
file_text s t past many =
    let d = decimal s.darts in
    let x = pair_lines (file_table s.darts t past) in
    layout d (decimal s.levels) (kernel_lines (kernels_of s past)) x
    ∙ ap₂ (λ n k. (bytes "numbers=0\ndarts=" ++ (d ++ line_feed)) ++ ((bytes "levels=" ++ (decimal n ++ line_feed)) ++ (k ++ x)))
    (sym many) (kernel_lines_lem (kernels_of s past))
