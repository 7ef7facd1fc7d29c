-- "It must agree with unfolding on every dart and level.", as two calls: the lookup, and unfold on the pyramid that its base and ends are those of. Each has its
-- own lent slices, with room.
--   past_in a           == the history that a leaves, the last operation first
--   Entry x a l        == l was accepted, and found the entry of dart x in the table that a leaves, having passed at most two darts for each operation of a
--   ByUnfold D k x a l == what the lookup l says of dart x is what the unfold a to level k says
--   by_unfold          == so it is for every pyramid, every level and every dart
--   found_unfolds      == an accepted lookup found what unfold leaves there
use mathlib.Core.List.{List, reverse}
use mathlib.Core.Logic.{◌⊎◌, inl, inr}
use mathlib.Core.Path.{◌≡◌, ◌∙◌}
use Prim.Native.Nat.{ℕ, ◌*◌, ◌≤◌, ◌<◌}
use native.Mathlib.Decide.{dec_lt}
use native.Mathlib.Omega.{arith}
use lib.Dec.{T, not_T}
use lib.ListN.{take}
use Rattle.permutations.specs.Choice.{T?}
use Rattle.darts.specs.Map.{successor, gone, survives}
use Rattle.darts.specs.State.{State}
use Rattle.darts.specs.Levels.{unfold_to}
use Rattle.darts.specs.Calls.{After, table_of, past_of, unfold_by}
use Rattle.laws.proofs.calls.Judging.{Lent}
use Rattle.laws.proofs.chained.OnLent.{Accepted, to_level, called_left}
use Rattle.laws.proofs.chained.Begins.{entry_front}
use Rattle.laws.proofs.sentences.Order.{Answers}
use Rattle.laws.proofs.sentences.Tops.{unfold_twelve, unfold_zero}
use Rattle.ends.specs.Lookup.{Looked, successor_at}
use Rattle.ends.proofs.Call.{Lends, pyramid_call, pyramid_gone, pyramid_above, pyramid_outside}

abbrev pub past_in : After → List ℕ
past_in a = reverse (take a.state.operations a.history)

pub record Entry (x : ℕ) (a : After) (l : Looked) : Type 0 where
  pub accepted : Answers l.answer 0 0
  pub dart : l.found.dart ≡ successor a.table x
  pub passed : l.found.passed ≤ 2 * a.state.operations

pub record ByUnfold (D k x : ℕ) (a : After) (l : Looked) : Type 0 where
  -- unfold on a pyramid answers 0 or 12, so that the four cases below are all
  pub ends : (a.answer.number ≡ 0) ⊎ (a.answer.number ≡ 12)
  pub found : a.answer.number ≡ 0 → x < D → T (survives (past_in a) x) → Entry x a l
  -- "8 for a dart gone by then"
  pub eight : a.answer.number ≡ 0 → x < D → T (gone (past_in a) x) → Answers l.answer 8 0
  -- "7 for a dart of D or more"
  pub seven : a.answer.number ≡ 0 → D ≤ x → Answers l.answer 7 0
  -- "12 for k"
  pub twelve : a.answer.number ≡ 12 → Answers l.answer 12 a.answer.place

module _ {s : State} {t h w : List ℕ} (L : Lent s t h w) {b e v : List ℕ} (N : Lends L.pyramid b e v) (k x : ℕ) where
  abbrev D : ℕ
  D = s.darts

  abbrev a : After
  a = unfold_by k s t h w

  abbrev l : Looked
  l = successor_at D k x b e v

  reached : (a.answer.number ≡ 0) ⊎ (a.answer.number ≡ 12)
  reached = go (dec_lt s.levels k)
    where
      go : Dec (s.levels < k) → (a.answer.number ≡ 0) ⊎ (a.answer.number ≡ 12)
      go (yes u) = inr (unfold_twelve s t h w L k u).number
      go (no n) = inl (unfold_zero s t h w L k (omega arith)).number

  below : a.answer.number ≡ 0 → k ≤ s.levels
  below z = go (dec_lt s.levels k)
    where
      go : Dec (s.levels < k) → k ≤ s.levels
      go (yes u) = absurd (let n = (unfold_twelve s t h w L k u).number in omega arith)
      go (no n) = omega arith

  above : a.answer.number ≡ 12 → s.levels < k
  above z = go (dec_lt s.levels k)
    where
      go : Dec (s.levels < k) → s.levels < k
      go (yes u) = u
      go (no n) = absurd (let n = (unfold_zero s t h w L k (omega arith)).number in omega arith)

  module _ (z : a.answer.number ≡ 0) where
    left : Accepted (unfold_to k) s t h w a
    left = called_left (to_level k) s t h w z

    pub unfold_finds : x < D → T (survives (past_in a) x) → Entry x a l
    unfolding past_of table_of
    unfold_finds i lives =
        let U = pyramid_call L.pyramid b e v N k left.gave x i lives in
        let here : successor (take a.state.darts a.table) x ≡ successor a.table x =
        rw left.left.darts (entry_front D a.table x i) in
        record { accepted = U.accepted; dart = U.dart ∙ here; passed = U.passed }

    pub unfold_gone : x < D → T (gone (past_in a) x) → Answers l.answer 8 0
    unfolding past_of
    unfold_gone i g = pyramid_gone L.pyramid b e v N k left.gave x i g

  -- THE LOOKUP AGREES WITH THE CALL UNFOLD ON EVERY DART AND LEVEL
  pub by_unfold : ByUnfold D k x a l
  by_unfold = record {
    ends = reached;
    found = unfold_finds;
    eight = unfold_gone;
    seven = λ z o. pyramid_outside L.pyramid b e v N k x (below z) o;
    twelve = λ z. let u = above z in rw (unfold_twelve s t h w L k u).place (pyramid_above L.pyramid b e v N k x u);
  }

  -- an accepted lookup: unfold is accepted, the dart survives there, and has the successor found
  pub found_unfolds : l.answer.number ≡ 0 → (a.answer.number ≡ 0) × (x < D) × T (survives (past_in a) x) × Entry x a l
  unfolding survives
  found_unfolds zero = by_end by_unfold.ends
    where
      in_range : a.answer.number ≡ 0 → Dec (x < D) → Dec (T (gone (past_in a) x)) → (a.answer.number ≡ 0) × (x < D) × T (survives (past_in a) x) × Entry x a l
      in_range z (no n) g = absurd (let q = (by_unfold.seven z (omega arith)).number in omega arith)
      in_range z (yes i) (yes g) = absurd (let q = (by_unfold.eight z i g).number in omega arith)
      in_range z (yes i) (no n) = let lives = not_T (gone (past_in a) x) n in (z, i, lives, by_unfold.found z i lives)

      by_end : (a.answer.number ≡ 0) ⊎ (a.answer.number ≡ 12) → (a.answer.number ≡ 0) × (x < D) × T (survives (past_in a) x) × Entry x a l
      by_end (inl z) = in_range z (dec_lt x D) (T? (gone (past_in a) x))
      by_end (inr z) = absurd (let q = (by_unfold.twelve z).number in omega arith)
