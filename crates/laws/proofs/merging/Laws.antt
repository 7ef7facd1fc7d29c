-- What holds of a base where merging stood: the vertices, the edges that `same` takes, the survivors and the counts.
--   merging_joins    == survivors share a vertex exactly where the edges taken join them
--   merging_closes   == an edge that `same` takes is joined in the end, or it was a whole piece at its turn (11)
--   merging_whole    == in one piece, such an edge is the last, all the others were taken, and the base had one vertex more than edges
--   merging_survives, merging_piece, merging_spare == every dart is joined to a survivor; so every piece keeps one, and an edge survives
--   merging_counts, merging_vertex == each edge taken takes one vertex, and one at least is left
--   one_stays        == where a base of one piece has one vertex more than edges, and `same` takes them all, exactly one edge survives: the last
--   all_but_apart, all_but_vertices == its two ends are two vertices, and there are no others
use mathlib.Core.Bool.{Bool, true}
use mathlib.Core.List.{List, []}
use mathlib.Core.Logic.{◌↔◌}
use mathlib.Core.Path.{◌≡◌, refl}
use Prim.Native.Nat.{ℕ, ◌+◌, ◌*◌, ◌/◌, ◌<◌, ◌≤◌}
use native.Mathlib.Omega.{arith}
use lib.Dec.{T}
use lib.ListN.{length}
use Rattle.darts.specs.Map.{same_vertex, same_piece}
use Rattle.darts.specs.Kernel.{stands}
use Rattle.darts.specs.Counts.{counts_of}
use Rattle.laws.specs.Standing.{Standing}
use Rattle.laws.proofs.bridge.Standing.{live}
use Rattle.laws.proofs.merging.Turns.{Turns, merging, merged}
use Rattle.laws.proofs.merging.Taken.{Taken}
use Rattle.laws.proofs.merging.Stands.{merging_turns}
use Rattle.laws.proofs.merging.Joined.{Joined}
use Rattle.laws.proofs.merging.Joins.{Left, turns_standing, turns_joined, turns_left}
use Rattle.laws.proofs.merging.Closes.{WholeAt, Closed, eleven_whole, turns_closes}
use Rattle.laws.proofs.merging.Pieces.{OnePiece, AllBut, all_but_end, turns_piece, turns_spare}
use Rattle.laws.proofs.merging.Counts.{vertices_some, vertices_two, turns_vertices, all_but_tree}
use Rattle.laws.proofs.merging.OneStays.{turns_one_stays}

module _ (D : ℕ) (same : ℕ → Bool) (t : List ℕ) (S : Standing D t []) {u past : List ℕ} (stood : merging D same t ≡ stands u past) where
  abbrev P : Turns D same t (D / 2) (merged D same t) u past
  P = merging_turns D same t stood

  pub merging_joins : (a b : ℕ) → T (live D past a) → T (live D past b) → T (same_vertex D u a b) ↔ Joined D t (Taken (merged D same t)) a b
  merging_joins = turns_joined S P

  pub merging_closes : (e : ℕ) → e < D / 2 → same e ≡ true → Closed D same t (merged D same t) e
  merging_closes = turns_closes S P (omega arith)

  pub merging_whole : OnePiece D t → (e : ℕ) → e < D / 2 → same e ≡ true → WholeAt D same t e
      → AllBut D (merged D same t) u past e × ((counts_of D t []).vertices ≡ D / 2 + 1)
  merging_whole one e h s W = let A = all_but_end S one P e h s W in (A, all_but_tree S P e A)

  pub merging_survives : (x : ℕ) → x < D → Left D t (merged D same t) past x
  merging_survives = turns_left S P

  pub merging_piece : (x : ℕ) → x < D → (b : ℕ) × T (live D past b) × T (same_piece D t x b)
  merging_piece = turns_piece S P (omega arith)

  pub merging_spare : 0 < D → length past < D / 2
  merging_spare = turns_spare S P refl

  pub merging_counts : (counts_of D t []).vertices ≡ (counts_of D u past).vertices + length past
  merging_counts = turns_vertices S P

  pub merging_vertex : 0 < D → 1 ≤ (counts_of D u past).vertices
  merging_vertex some = let l = merging_survives 0 some in vertices_some (turns_standing S P) l.dart l.lives

  pub one_stays : 0 < D → OnePiece D t → ((e : ℕ) → e < D / 2 → same e ≡ true) → (counts_of D t []).vertices ≡ D / 2 + 1
      → (e : ℕ) × AllBut D (merged D same t) u past e
  one_stays = turns_one_stays S P

  pub all_but_apart : (e : ℕ) → AllBut D (merged D same t) u past e → ¬ T (same_vertex D u (2 * e) (2 * e + 1))
  all_but_apart e A = (eleven_whole D u past e A.whole).0

  pub all_but_vertices : (e : ℕ) → AllBut D (merged D same t) u past e → (counts_of D u past).vertices ≡ 2
  all_but_vertices e A =
      vertices_two (turns_standing S P) (2 * e) (2 * e + 1) (λ k. omega arith) A.lives.0 A.lives.1 A.only (all_but_apart e A)
