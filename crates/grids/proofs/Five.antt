-- When the second call answers 5, in words of plans (document 02, request One: "The second call answers 5, as a refused start, where its kernel would
-- take no edge").
--   beside_apart    == neighbours are two cells
--   Unlike g plan   == no two neighbours have the same code
--   Pair g          == two cells that one edge joins are the whole grid
--   none_unlike     == the first kernel takes no edge exactly where one of these holds
--   areas_five_when == there the second call answers 5, and nowhere else
--   flat_five_when  == in a grid that does not close: no two neighbours have the same code, or there are two cells
use mathlib.Core.Bool.{Bool, true, false}
use mathlib.Core.List.{List, [], ◌∷◌}
use mathlib.Core.Logic.Iff
use mathlib.Core.Logic.{◌≢◌, ◌⊎◌, ◌↔◌, inl, inr, ⊎_elim}
use mathlib.Core.Path.{◌≡◌, refl, sym, ap, ◌∙◌, subst}
use Prim.Native.Nat.{ℕ, zero, suc, ◌+◌, ◌*◌, ◌<◌}
use native.Mathlib.Numerals.{unary_clauses}
use native.Mathlib.Omega.{arith}
use lib.Dec.{T}
use lib.ListN.{length, get_or}
use Rattle.darts.specs.Kernel.{stands}
use Rattle.laws.proofs.merging.Turns.{merging}
use Rattle.laws.proofs.merging.Taken.{Taken, none_taken, has_first, merging_through}
use Rattle.laws.proofs.merging.Joined.{Joined, joined_by, Equivalence}
use Rattle.laws.proofs.merging.Cells.{area_least, joined_area}
use Rattle.laws.proofs.merging.Closes.{WholeAt}
use Rattle.laws.proofs.merging.OneStays.{all_or_one}
use Rattle.laws.proofs.merging.Stands.{merging_stands, merging_takes, merging_count}
use Rattle.laws.proofs.merging.Laws.{merging_closes, merging_whole, merging_spare}
use Rattle.grids.specs.Grid.{Grid, flat, sized, cells, cell, edges, darts_of, Beside, right, round, above}
use Rattle.grids.specs.Base.{base_table}
use Rattle.grids.specs.Plans.{one_code, plan_areas}
use Rattle.grids.proofs.Edges.{joins_below, joined}
use Rattle.grids.proofs.Limits.{Limits, sized_limits}
use Rattle.grids.proofs.PlanBase.{joins_beside, beside_joins, plan_base_lem, base_stands}
use Rattle.grids.proofs.OnePiece.{base_cells, one_piece}
use Rattle.grids.proofs.CellsCounted.{cells_counted}
use Rattle.grids.proofs.Areas.{tree_thin, thin_tree}
use Rattle.grids.proofs.Planning.{Enough}
use Rattle.grids.proofs.Begun.{first_edges, empty_list, areas_five}
use Rattle.grids.proofs.Codes.{same_code}

pub beside_apart : (g : Grid) → Limits g → {a b : ℕ} → Beside g a b → a ≢ b
unfolding cell
beside_apart g l (right x y h k) e = omega arith
beside_apart g l (round y c k) e = let two = l.two_round c in omega arith
beside_apart g l (above x y h k) e = let some = l.some_wale in omega arith

abbrev pub Unlike : Grid → List ℕ → Type 0
Unlike g plan = (a b : ℕ) → Beside g a b → get_or plan a 0 ≢ get_or plan b 0

pub record Pair (g : Grid) : Type 0 where
  pub open_sided : ¬ T g.closes
  pub two : cells g ≡ 2

-- two cells in all: one cell wide, or one cell high
two_thin : (W C : ℕ) → W * C ≡ 2 → (W ≡ 1) ⊎ (C ≡ 1)
two_thin zero C e = absurd (omega arith)
two_thin (suc zero) C e = inl refl
two_thin (suc (suc W)) zero e = absurd (omega arith)
two_thin (suc (suc W)) (suc zero) e = inr refl
two_thin (suc (suc W)) (suc (suc C)) e = absurd (let p = simp unary_clauses at e in omega arith)

untaken : (es : List ℕ) → ((e : ℕ) → ¬ (Taken es e)) → es ≡ []
untaken [] none = refl
untaken (x ∷ es) none = absurd (none x ((has_first x x es).1 (inl refl)))

either : (b : Bool) → (b ≡ false) ⊎ (b ≡ true)
either true = inr refl
either false = inl refl

module _ (g : Grid) (plan : List ℕ) (l : Limits g) where
  abbrev D : ℕ
  D = darts_of g

  abbrev same : ℕ → Bool
  same = one_code g plan

  abbrev s : T (sized g)
  s = (sized_limits g).1 l

  -- where the first kernel stands
  abbrev end : List ℕ
  end = (merging_through D same (base_table g)).table

  abbrev past : List ℕ
  past = (merging_through D same (base_table g)).past

  abbrev stood : merging D same (base_table g) ≡ stands end past
  stood = merging_stands D same (base_table g)

  -- no edge joins a cell to itself
  ends_apart : (e : ℕ) → e < edges g → ¬ (Joined D (base_table g) (Taken []) (2 * e) (2 * e + 1))
  ends_apart e h j =
      let area = joined_area (base_stands g) (base_cells g s) (λ d. false) (joined_by (λ d k. absurd (none_taken d k)) j) in
      beside_apart g l ((plan_base_lem g s).neighbours e h) (area_least (λ a b. a ≡ b) equal (λ d k z. absurd (subst T (sym z) tt)) area)
    where
      equal : Equivalence (λ a b. a ≡ b)
      equal = record { self = λ x. refl; flip = λ x y k. sym k; chain = λ x y z k m. k ∙ m }

  none_pair : first_edges g plan ≡ [] → (e : ℕ) → e < edges g → same e ≡ true → Pair g
  none_pair none e h k = ⊎_elim (λ j. absurd (ends_apart e h (subst (λ es. Joined D (base_table g) (Taken es) (2 * e) (2 * e + 1)) none j))) whole
      (merging_closes D same (base_table g) (base_stands g) stood e (omega arith) k)
    where
      whole : WholeAt D same (base_table g) e → Pair g
      whole W =
          let (A, tree) = merging_whole D same (base_table g) (base_stands g) stood (one_piece g s) e (omega arith) k W in
          let count = cells_counted g s in
          let nothing = merging_count D same (base_table g) stood ∙ ap length none in
          record { open_sided = (tree_thin g s (omega arith)).0; two = omega (arith, A.last, A.count) }

  pair_none : Pair g → first_edges g plan ≡ []
  unfolding cells
  pair_none p =
      let tree = thin_tree g s p.open_sided (two_thin g.wales g.courses p.two) in
      let spare = merging_spare D same (base_table g) (base_stands g) stood (omega arith) in
      let count = merging_count D same (base_table g) stood in
      empty_list (first_edges g plan) (omega arith)

  -- THE FIRST KERNEL TAKES NO EDGE EXACTLY WHERE NO TWO NEIGHBOURS HAVE THE SAME CODE, OR TWO CELLS WITH ONE EDGE ARE THE GRID
  pub none_unlike : (first_edges g plan ≡ []) ↔ (Unlike g plan ⊎ Pair g)
  none_unlike = (forth, ⊎_elim unlike_none pair_none)
    where
      forth : first_edges g plan ≡ [] → Unlike g plan ⊎ Pair g
      forth none = ⊎_elim
          (λ all. inl (λ a b n k.
          let (e, j) = beside_joins g l.some_wale n in
          differ ((same_code g plan j).1 k) (all e (joins_below g j).0)))
          (λ (e, h, k). inr (none_pair none e h k))
          (all_or_one {A = λ e. same e ≡ false} {B = λ e. same e ≡ true} (edges g) (λ e h. either (same e)))
        where
          differ : {b : Bool} → b ≡ true → b ≡ false → ⊥
          differ p q = subst T (sym p ∙ q) tt

      unlike_none : Unlike g plan → first_edges g plan ≡ []
      unlike_none far = untaken (first_edges g plan) (λ e k.
          let (h, one) = merging_takes D same (base_table g) stood e k in
          let j = joined g e (omega arith) in
          far _ _ (joins_beside g j) ((same_code g plan j).0 one))

  -- "The second call answers 5, as a refused start, where its kernel would take no edge."
  pub areas_five_when : (t h w : List ℕ) → Enough g (length plan) (length t) (length h) (length w)
      → ((plan_areas g plan t h w).answer.number ≡ 5) ↔ (Unlike g plan ⊎ Pair g)
  areas_five_when t h w k = Iff.trans (areas_five g plan t h w l k) none_unlike

-- in a grid that does not close
pub flat_five_when : (W C : ℕ) (plan t h w : List ℕ) → Limits (flat W C) → Enough (flat W C) (length plan) (length t) (length h) (length w)
    → ((plan_areas (flat W C) plan t h w).answer.number ≡ 5) ↔ (Unlike (flat W C) plan ⊎ (W * C ≡ 2))
unfolding cells
flat_five_when W C plan t h w l k =
    Iff.trans (areas_five_when (flat W C) plan l t h w k) (⊎_elim inl (λ p. inr p.two), ⊎_elim inl (λ e. inr (record { open_sided = λ z. z; two = e })))
