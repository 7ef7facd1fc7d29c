-- The lines of the kernels into which level ends cut a history, and the lines of the pairs.
--   cut_none == no level is left
--   cut_on   == the line of one level, and the lines of the levels after it
--   pairs_on == the line of one pair, and the lines of the pairs after it
use mathlib.Core.List.{List, [], ◌∷◌, ◌++◌, append_assoc}
use mathlib.Core.Path.{◌≡◌, refl, ap, ◌∙◌}
use Prim.Native.Nat.{ℕ, zero, suc, ◌-◌, ◌≤◌, ◌<◌}
use native.Mathlib.Nat.{not-suc-le-zero}
use native.Mathlib.Omega.{arith}
use lib.ListN.{length, get_or, take, drop, length-map}
use lib.Seq.{length-take-le}
use Rattle.darts.specs.Operation.{kind_of, edge_of}
use Rattle.darts.specs.Pyramid.{kernel_of, cut}
use Rattle.darts.specs.File.{kernel_line, kernel_lines, pair_lines}
use Rattle.writer.specs.Fields.{count_line, kernel_count}

-- the line of the kernel that a level's numbers tell
level_line : (m : ℕ) (hs : List ℕ) → 0 < m → m ≤ length hs → kernel_line (kernel_of (take m hs)) ≡ count_line (kind_of (get_or hs 0 0)) m
unfolding kernel_of
level_line zero hs some few = absurd (not-suc-le-zero some)
level_line (suc m) [] some few = absurd (not-suc-le-zero few)
level_line (suc m) (h ∷ hs) some few =
    kernel_count (kernel_of (h ∷ take m hs))
    ∙ ap (count_line (kind_of h)) (length-map (h ∷ take m hs) edge_of ∙ ap suc (length-take-le m hs (omega arith)))

pub cut_none : (from : ℕ) (hs : List ℕ) → kernel_lines (cut from [] hs) ≡ []
unfolding kernel_lines cut
cut_none from hs = refl

pub cut_on : (from end : ℕ) (ends hs : List ℕ) → from < end → end - from ≤ length hs
    → kernel_lines (cut from (end ∷ ends) hs) ≡ count_line (kind_of (get_or hs 0 0)) (end - from) ++ kernel_lines (cut end ends (drop (end - from) hs))
unfolding kernel_lines cut
cut_on from end ends hs above few =
    ap (λ (l : List ℕ). l ++ kernel_lines (cut end ends (drop (end - from) hs))) (level_line (end - from) hs (omega arith) few)

pub pairs_on : (a b : ℕ) (t : List ℕ) → pair_lines (a ∷ b ∷ t) ≡ pair_lines (a ∷ b ∷ []) ++ pair_lines t
unfolding pair_lines
pairs_on a b t = simp append_assoc
