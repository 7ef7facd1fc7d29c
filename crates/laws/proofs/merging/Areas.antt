-- Areas: the vertices that merging leaves (document 02, request One: "Its vertices are exactly the connected areas of one code, save in a plan one
-- cell wide or one cell high with a single code, where one edge stays").
--   Excepted D same t == `same` takes every edge, and the base has one vertex more than edges
--   merging_areas     == in one piece that is not excepted, survivors share a vertex exactly where edges that `same` takes join them
--   areas             == that is, where their cells are in one area
--   area_survives     == every area that has a dart has a survivor
use mathlib.Core.Bool.{Bool, true}
use mathlib.Core.List.{List, []}
use mathlib.Core.Logic.Iff
use mathlib.Core.Logic.{◌↔◌, ⊎_elim}
use mathlib.Core.Path.{◌≡◌}
use Prim.Native.Nat.{ℕ, ◌+◌, ◌*◌, ◌/◌, ◌<◌}
use lib.Dec.{T}
use Rattle.darts.specs.Map.{same_vertex}
use Rattle.darts.specs.Kernel.{stands}
use Rattle.darts.specs.Counts.{counts_of}
use Rattle.laws.specs.Standing.{Standing}
use Rattle.laws.proofs.bridge.Standing.{live, live_iff}
use Rattle.laws.proofs.merging.Turns.{merging, merged}
use Rattle.laws.proofs.merging.Taken.{Taken}
use Rattle.laws.proofs.merging.Stands.{merging_takes}
use Rattle.laws.proofs.merging.Joined.{Wanted, Joined, across, joined_by}
use Rattle.laws.proofs.merging.Cells.{Cells, Area, joined_area, cells_joined}
use Rattle.laws.proofs.merging.Closes.{WholeAt}
use Rattle.laws.proofs.merging.Pieces.{OnePiece}
use Rattle.laws.proofs.merging.Laws.{merging_joins, merging_closes, merging_whole, merging_survives}

abbrev pub Excepted : ℕ → (ℕ → Bool) → List ℕ → Type 0
Excepted D same t = ((counts_of D t []).vertices ≡ D / 2 + 1) × ((e : ℕ) → e < D / 2 → same e ≡ true)

module _ (D : ℕ) (same : ℕ → Bool) (t : List ℕ) (S : Standing D t []) (one : OnePiece D t) (plain : ¬ (Excepted D same t))
    {u past : List ℕ} (stood : merging D same t ≡ stands u past) where
  -- the only wanted edge that is not joined would be a whole piece: then the base is excepted
  wanted_joined : (e : ℕ) → Wanted D same e → Joined D t (Taken (merged D same t)) (2 * e) (2 * e + 1)
  wanted_joined e (h, s) = ⊎_elim (λ j. j) (λ W. absurd (plain (tree W))) (merging_closes D same t S stood e h s)
    where
      tree : WholeAt D same t e → Excepted D same t
      tree W =
          let (A, count) = merging_whole D same t S stood one e h s W in
          (count, λ d k. ⊎_elim (λ (z : d ≡ e). rw z s) (λ z. (merging_takes D same t stood d z).1) (A.taken d k))

  taken_wanted : (e : ℕ) → Taken (merged D same t) e → Wanted D same e
  taken_wanted = merging_takes D same t stood

  -- SURVIVORS SHARE A VERTEX EXACTLY WHERE WANTED EDGES JOIN THEM
  pub merging_areas : (a b : ℕ) → T (live D past a) → T (live D past b) → T (same_vertex D u a b) ↔ Joined D t (Wanted D same) a b
  merging_areas a b la lb =
      Iff.trans (merging_joins D same t S stood a b la lb) (joined_by (λ e k. across (taken_wanted e k)), joined_by wanted_joined)

-- ---- in words of cells

module _ (D : ℕ) (same : ℕ → Bool) (t : List ℕ) (S : Standing D t []) {cell : ℕ → ℕ} (C : Cells D t cell)
    {u past : List ℕ} (stood : merging D same t ≡ stands u past) where
  -- "Its vertices are exactly the connected areas of one code"
  pub areas : OnePiece D t → ¬ (Excepted D same t) → (a b : ℕ) → T (live D past a) → T (live D past b)
      → T (same_vertex D u a b) ↔ Area (D / 2) cell same (cell a) (cell b)
  areas one plain a b la lb =
      Iff.trans (merging_areas D same t S one plain stood a b la lb)
      (cells_joined S C same a b ((live_iff D past a).0 la).0 ((live_iff D past b).0 lb).0)

  -- every area has a survivor, in the excepted base too
  pub area_survives : (x : ℕ) → x < D → (b : ℕ) × T (live D past b) × Area (D / 2) cell same (cell x) (cell b)
  area_survives x h =
      let l = merging_survives D same t S stood x h in
      (l.dart, l.lives, joined_area S C same (joined_by (λ e k. across (merging_takes D same t stood e k)) l.joined))
