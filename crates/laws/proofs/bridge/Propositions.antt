-- Propositions 1 and 2 of the canonical encoding paper (001), and what its Definitions 7 and 8 speak of: the darts that are left, the dart before, the
-- table and the history.
--   ValidMap is_dart σ                    == "a valid combinatorial map": partner and σ lead from darts to darts, and each dart has one dart before it
--   before_inverse                       == the dart before is the inverse of the successor
--   map_after, length_after              == after an operation there is a valid map again, in a table of the same length
--   darts_after                          == its darts are all but the edge's two
--   removal_history, contraction_history == the history gets 2p, or 2p+1
use mathlib.Core.Bool.{Bool}
use mathlib.Core.List.{List, [], ◌∷◌}
use mathlib.Core.Logic.{◌≢◌, ◌↔◌, inl, inr, ⊎_elim}
use mathlib.Core.Path.{◌≡◌, sym, ◌∙◌, subst}
use Prim.Native.Nat.{ℕ, ◌+◌, ◌*◌}
use lib.Dec.{T}
use lib.ListN.{length}
use Rattle.permutations.specs.Choice.{eqb_same}
use Rattle.permutations.specs.Partner.{partner}
use Rattle.permutations.specs.Map.{off_edge_other, partner_live}
use Rattle.permutations.proofs.MapLemmas.{off_edge_not_end, off_edge_was}
use Rattle.darts.specs.Map.{successor, live, before}
use Rattle.darts.specs.Operation.{Kind, contraction, removal, lead, operate, number}
use Rattle.darts.specs.Kernel.{judge, stands, pass_from, pass, run}
use Rattle.darts.specs.State.{State}
use Rattle.darts.specs.Pyramid.{Pyramid}
use Rattle.laws.specs.Standing.{Standing}
use Rattle.laws.proofs.bridge.Standing.{entry_live, entry_one}
use Rattle.laws.proofs.bridge.Before.{before_live, before_leads, before_only}
use Rattle.laws.proofs.bridge.Numbers.{live_after}
use Rattle.laws.proofs.bridge.Operate.{operate_stands}
use Rattle.laws.proofs.runs.Pyramids.{pyramid_built}

pub record ValidMap (is_dart : ℕ → Bool) (σ : ℕ → ℕ) : Type 0 where
  pub partners : (x : ℕ) → T (is_dart x) → T (is_dart (partner x))
  pub successors : (x : ℕ) → T (is_dart x) → T (is_dart (σ x))
  pub one : (x y : ℕ) → T (is_dart x) → T (is_dart y) → σ x ≡ σ y → x ≡ y
  pub some : (x : ℕ) → T (is_dart x) → (y : ℕ) × T (is_dart y) × (σ y ≡ x)

valid : {D : ℕ} {t past : List ℕ} → Standing D t past → ValidMap (live D past) (successor t)
valid {D} {t} {past} S = record {
  partners = λ x h. partner_live S.good x h;
  successors = entry_live S;
  one = λ x y h l. entry_one S x h y l;
  some = λ x h. (before D t past x, before_live S x h, before_leads S x h);
}

module _ {s : State} {t past : List ℕ} (P : Pyramid s t past) where
  -- the survivors of a pyramid are a valid combinatorial map
  pub pyramid_map : ValidMap (live s.darts past) (successor t)
  pyramid_map = valid (pyramid_built P).standing

  -- σ⁻¹: "'The dart before x' is always the one surviving dart that leads to x"
  pub before_inverse : (x : ℕ) → T (live s.darts past x)
      → T (live s.darts past (before s.darts t past x)) × (successor t (before s.darts t past x) ≡ x)
      × ((y : ℕ) → T (live s.darts past y) → successor t y ≡ x → y ≡ before s.darts t past x)
  before_inverse x h = let S = (pyramid_built P).standing in (before_live S x h, before_leads S x h, before_only S x)

  module _ (k : Kind) (e : ℕ) (fine : judge k s.darts t past e ≡ 0) where
    -- "The triplet (D', α, σ') form a valid combinatorial map (G')."
    pub map_after : ValidMap (live s.darts (number k (lead k t e) ∷ past)) (successor (operate k s.darts t past e))
    map_after = valid (operate_stands (pyramid_built P).standing k e fine)

    pub length_after : length (operate k s.darts t past e) ≡ length t
    length_after = let S = (pyramid_built P).standing in (operate_stands S k e fine).size ∙ sym S.size

module _ (D : ℕ) (t past : List ℕ) (e : ℕ) where
  -- "D' = D \ α*(d)"
  pub darts_after : (k : Kind) (x : ℕ)
      → (let d : ℕ = lead k t e in T (live D (number k d ∷ past) x) ↔ (T (live D past x) × (x ≢ d) × (x ≢ partner d)))
  darts_after k x =
      let d = lead k t e in
      rw (live_after k D past d) (
        λ h. let away = off_edge_not_end (live D past) h in (off_edge_was (live D past) d x h, λ e. away (inl e), λ e. away (inr e)),
        λ h. subst T (sym (off_edge_other (live D past) (⊎_elim h.1 h.2))) h.0,
      )

  -- "The history gets one number, 2p for a removal and 2p+1 for a contraction."
  pub removal_history : judge removal D t past e ≡ 0 → run removal D t past (e ∷ []) ≡ stands (operate removal D t past e) (2 * lead removal t e ∷ past)
  unfolding run pass pass_from number
  removal_history fine = rw (eqb_same fine)

  pub contraction_history : judge contraction D t past e ≡ 0
      → run contraction D t past (e ∷ []) ≡ stands (operate contraction D t past e) ((2 * lead contraction t e + 1) ∷ past)
  unfolding run pass pass_from number
  contraction_history fine = rw (eqb_same fine)
