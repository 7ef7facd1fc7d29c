-- The file of a pyramid (document 01, "The file").
--   file_order D past     == the darts in the order of the file's numbers
--   file_number D past d  == the file's number of dart d
--   file_table D t past   == the table in the file's numbers
--   file_of s t past      == the bytes of the file, with F = 0
use Rattle.std.specs.Prelude.{List, [], ◌∷◌, ◌++◌, map, reverse, ℕ, zero, suc, eqb, length}
use Rattle.permutations.specs.Partner.{partner}
use Rattle.std.specs.Prelude.{if◌then◌else◌}
use Rattle.darts.specs.Map.{successor, survives}
use Rattle.darts.specs.Operation.{Kind, contraction, removal, lead_of}
use Rattle.darts.specs.State.{State}
use Rattle.darts.specs.Pyramid.{Kernel, kernels_of}
use Rattle.darts.specs.Text.{bytes, decimal}

-- p and q of each operation of a history, first to last
unfoldable pub taken : List ℕ → List ℕ
taken [] = []
taken (h ∷ hs) = lead_of h ∷ partner (lead_of h) ∷ taken hs

-- the survivors among the first n darts, by rising number
unfoldable pub survivors : List ℕ → ℕ → List ℕ
survivors past zero = []
survivors past (suc n) = if survives past n then survivors past n ++ (n ∷ []) else survivors past n

-- "the p and q of operation t, t from 1, become 2t-2 and 2t-1; surviving edges follow by rising number, each even dart staying even"
unfoldable pub file_order : ℕ → List ℕ → List ℕ
file_order D past = taken (reverse past) ++ survivors past D

-- where x stands in a list
unfoldable pub place_in : List ℕ → ℕ → ℕ
place_in [] x = 0
place_in (y ∷ ys) x = if eqb x y then 0 else suc (place_in ys x)

unfoldable pub file_number : ℕ → List ℕ → ℕ → ℕ
file_number D past d = place_in (file_order D past) d

-- "Entries are renamed alike."
unfoldable pub file_table : ℕ → List ℕ → List ℕ → List ℕ
file_table D t past = map (λ d. file_number D past (successor t d)) (file_order D past)

-- "each ended by one line feed"
abbrev pub line_feed : List ℕ
line_feed = 10 ∷ []

-- "`kernel=contract N` or `kernel=remove N`, N its count of operations"
unfoldable pub kind_word : Kind → List ℕ
kind_word contraction = bytes "contract "
kind_word removal = bytes "remove "

unfoldable pub kernel_line : Kernel → List ℕ
kernel_line k = bytes "kernel=" ++ (kind_word k.kind ++ (decimal (length k.edges) ++ line_feed))

unfoldable pub kernel_lines : List Kernel → List ℕ
kernel_lines [] = []
kernel_lines (k ∷ ks) = kernel_line k ++ kernel_lines ks

-- "D/2 lines `pair=A B`: the table entries of darts 0 and 1, 2 and 3, and so on."
unfoldable pub pair_lines : List ℕ → List ℕ
pair_lines [] = []
pair_lines (a ∷ []) = []
pair_lines (a ∷ b ∷ t) = bytes "pair=" ++ (decimal a ++ (bytes " " ++ (decimal b ++ (line_feed ++ pair_lines t))))

-- "Lines of key=value in a fixed order". "The writer writes F = 0."
unfoldable pub file_of : State → List ℕ → List ℕ → List ℕ
file_of s t past =
    bytes "numbers=0\ndarts=" ++ (decimal s.darts ++ (line_feed
    ++ (bytes "levels=" ++ (decimal s.levels ++ (line_feed
    ++ (kernel_lines (kernels_of s past) ++ pair_lines (file_table s.darts t past)))))))
