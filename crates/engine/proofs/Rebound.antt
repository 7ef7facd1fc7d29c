-- Darts bound anew in the work area.
--   Rebound D past w u table == u is w with some darts bound anew: it holds this table, only survivors got another dart before, and all from the
--                               forest's part on is as it was
--   unbound                  == w itself
--   rebind                   == one dart more
use mathlib.Core.List.{List}
use mathlib.Core.Path.{◌≡◌, refl, ap, ◌∙◌}
use Prim.Native.Nat.{ℕ, ◌*◌, ◌<◌}
use lib.Dec.{T}
use lib.ListN.{length, set, drop}
use Rattle.darts.specs.Map.{live}
use Rattle.area.specs.Area.{prev, table_in, bound}
use Rattle.laws.proofs.bridge.Standing.{live_iff}
use Rattle.engine.proofs.Parts.{bound_length, bound_table, bound_rest, bound_prev_else}

pub record Rebound (D : ℕ) (past w u table : List ℕ) : Type 0 where
  pub size : length u ≡ length w
  pub rest : drop (2 * D) u ≡ drop (2 * D) w
  pub holds : table_in D u ≡ table
  pub others : (z : ℕ) → ¬ T (live D past z) → prev D u z ≡ prev D w z

pub unbound : (D : ℕ) (past w : List ℕ) → Rebound D past w w (table_in D w)
unbound D past w = record { size = refl; rest = refl; holds = refl; others = λ z h. refl }

pub rebind : {D : ℕ} {past w u table : List ℕ} → Rebound D past w u table → (a x : ℕ) → a < D → T (live D past x)
    → Rebound D past w (bound D u a x) (set table a x)
rebind {D} {past} {w} {u} {table} B a x a_d h =
    let x_d : x < D = ((live_iff D past x).0 h).0 in
    record {
      size = bound_length D u a_d x_d ∙ B.size;
      rest = bound_rest D u a_d x_d ∙ B.rest;
      holds = bound_table D u a_d x_d ∙ ap (λ s. set s a x) B.holds;
      others = λ z n. bound_prev_else D u a_d x_d z (λ e. n (rw e h)) ∙ B.others z n;
    }
