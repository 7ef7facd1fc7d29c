-- Merging stands, and what it takes.
--   merging_stands == the pass never stops
--   merging_turns  == where it stands, every edge has had its turn
--   merging_run    == it is the kernel of the edges that it takes
--   merging_rises, merging_takes == these rise, each is an edge, and `same` takes it
--   merging_told, merging_count == their contractions, in their order, are what the history gets
--   merging_gone, merging_keeps  == exactly their darts are gone; an edge that `same` does not take survives
use mathlib.Core.Bool.{Bool, true, false}
use mathlib.Core.List.{List, [], map, reverse}
use mathlib.Core.Logic.{◌↔◌}
use mathlib.Core.Path.{◌≡◌, sym, ◌∙◌, subst, subst₃}
use Prim.Native.Nat.{ℕ, ◌*◌, ◌/◌, ◌<◌}
use native.Mathlib.Omega.{arith}
use lib.Dec.{T}
use lib.ListN.{length}
use Rattle.permutations.specs.Choice.{not_T→false}
use Rattle.darts.specs.Map.{gone}
use Rattle.darts.specs.Operation.{contraction}
use Rattle.darts.specs.Kernel.{each, rising, stands, run}
use Rattle.darts.specs.OneByOne.{operation_of}
use Rattle.laws.proofs.runs.Operations.{run_iff, done_told, told_history}
use Rattle.laws.proofs.runs.Taking.{pass_taken}
use Rattle.laws.proofs.merging.Turns.{unless_shared, merging, merged, Turns, turns_taken, turns_stand}
use Rattle.laws.proofs.merging.Taken.{Taken, Rises, Through, merging_through, taken_rises, turns_below, turns_gone, turns_count}

module _ (D : ℕ) (same : ℕ → Bool) (t : List ℕ) where
  abbrev all : Through D same t (D / 2)
  all = merging_through D same t

  -- MERGING STANDS
  pub merging_stands : merging D same t ≡ stands all.table all.past
  unfolding merging
  merging_stands = turns_stand all.turns

  -- it is the kernel of the edges that it takes
  pub merging_run : merging D same t ≡ run contraction D t [] (merged D same t)
  unfolding merging
  merging_run = pass_taken (unless_shared D same) contraction D t [] (rising 0 (D / 2))

  -- "edges by rising number"
  pub merging_rises : Rises 0 (merged D same t)
  merging_rises = taken_rises (unless_shared D same) contraction D t [] 0 (D / 2)

  module _ {u past : List ℕ} (stood : merging D same t ≡ stands u past) where
    -- every edge has had its turn
    pub merging_turns : Turns D same t (D / 2) (merged D same t) u past
    merging_turns =
        let there : stands all.table all.past ≡ stands u past = sym merging_stands ∙ stood in
        let table : all.table ≡ u = cc in
        let history : all.past ≡ past = cc in
        subst₃ (Turns D same t (D / 2)) (sym (turns_taken all.turns)) table history all.turns

    -- EACH EDGE TAKEN IS ONE THAT `same` TAKES
    pub merging_takes : (e : ℕ) → Taken (merged D same t) e → (e < D / 2) × (same e ≡ true)
    merging_takes = turns_below merging_turns

    -- the history gets their contractions
    pub merging_told : map operation_of (reverse past) ≡ each contraction (merged D same t)
    merging_told =
        told_history (done_told (each contraction (merged D same t)) ((run_iff contraction D t [] (merged D same t)).0 (sym merging_run ∙ stood)))

    pub merging_count : length past ≡ length (merged D same t)
    merging_count = turns_count merging_turns

    -- EXACTLY THEIR DARTS ARE GONE
    pub merging_gone : (d : ℕ) → T (gone past d) ↔ Taken (merged D same t) (d / 2)
    merging_gone = turns_gone merging_turns

    -- an edge that `same` does not take survives
    pub merging_keeps : (e : ℕ) → same e ≡ false → gone past (2 * e) ≡ false
    merging_keeps e s = not_T→false (gone past (2 * e)) (λ g.
        let half : 2 * e / 2 ≡ e = omega arith in
        let one : true ≡ false = sym (merging_takes e (rw half at ((merging_gone (2 * e)).0 g))).1 ∙ s in
        subst T one tt)
