-- From one past to another: a call does operations, or undoes some, and the sheets follow.
--   Grown past new   == the history of new goes on from that of past
--   Moved past new   == one of the two goes on from the other
--   carried_grown, carried_shrunk == what the sheets are then
--   reduce_grown, sweep_grown == a kernel and a sweep do operations
--   undo_grown, undos_grown   == undoing levels takes operations back
--   step_moves       == each of the four steps is such a move
use mathlib.Core.Bool.{true, false}
use mathlib.Core.List.{List, [], ◌++◌, reverse, reverse-append, append_assoc, append-nil}
use mathlib.Core.Path.{◌≡◌, sym, ap, ◌∙◌}
use Prim.Native.Nat.{ℕ, zero, suc, ◌+◌, ◌-◌, ◌≤◌}
use native.Mathlib.Decide.{ℕ_discrete, dec_le}
use native.Mathlib.Omega.{arith}
use lib.Dec.{leb, leb→le, le→leb}
use lib.ListN.{length, take, drop, length-append, length-reverse, take-append-drop}
use Rattle.permutations.specs.Choice.{T→true, not_T→false, eqb_other}
use Rattle.darts.specs.Operation.{Kind}
use Rattle.darts.specs.Kernel.{Operation}
use Rattle.darts.specs.State.{State, gives, reduce}
use Rattle.darts.specs.Levels.{sweep, end_below, undo_level, undo_levels}
use Rattle.laws.proofs.Lists.{reverse_onto}
use Rattle.laws.proofs.runs.Operations.{Told}
use Rattle.laws.proofs.runs.Reduces.{reduce_tells}
use Rattle.laws.proofs.runs.Results.{refuses≢gives, then, same_result}
use Rattle.laws.proofs.runs.Sweeps.{sweep_told}
use Rattle.laws.proofs.chained.Steps.{unfold_undoes}
use Rattle.laws.proofs.chained.OnLent.{Call, by_kernel, by_sweep, by_undo, to_level, step_of}
use Rattle.sheets.specs.Sheets.{Sheets, Merge, merged_by, returned_by}
use Rattle.yarn.specs.Places.{merges}
use Rattle.yarn.specs.Calls.{carried, carried_to}

pub record Grown (past new : List ℕ) : Type 0 where
  pub more : List ℕ
  pub grown : reverse new ≡ reverse past ++ more

pub data Moved (past new : List ℕ) : Type 0 where
  up : Grown past new → Moved past new
  down : Grown new past → Moved past new

-- ---- the sheets

module _ (ms : ℕ → Merge) (n m : ℕ) (S : Sheets) where
  carried_up : n ≤ m → carried ms n m S ≡ merged_by ms n (m - n) S
  unfolding carried
  carried_up h = rw (T→true (leb n m) (le→leb n m h))

  carried_down : m ≤ n → carried ms n m S ≡ returned_by ms n (n - m) S
  unfolding carried merged_by returned_by
  carried_down h = go (dec_le n m)
    where
      go : Dec (n ≤ m) → carried ms n m S ≡ returned_by ms n (n - m) S
      go (yes k) =
          let a : m - n ≡ 0 = omega arith in
          let b : n - m ≡ 0 = omega arith in
          rw (T→true (leb n m) (le→leb n m k), a, b)
      go (no k) = rw (not_T→false (leb n m) (λ t. k (leb→le n m t)))

module _ {past new : List ℕ} (G : Grown past new) where
  grown_length : length new ≡ length past + length G.more
  grown_length = sym (length-reverse new) ∙ ap length G.grown ∙ length-append (reverse past) G.more ∙ ap (λ n. n + length G.more) (length-reverse past)

  module _ (D : ℕ) (b : List ℕ) (S : Sheets) where
    pub carried_grown : carried_to D b past new S ≡ merged_by (merges D b (reverse past ++ G.more)) (length (reverse past)) (length G.more) S
    unfolding carried_to
    carried_grown =
        let size = grown_length in
        let longer : leb (length past) (length new) ≡ true = T→true _ (le→leb (length past) (length new) (omega arith)) in
        let count : length new - length past ≡ length G.more = omega arith in
        rw longer (carried_up (merges D b (reverse new)) (length past) (length new) S (omega arith) ∙ rw (count, G.grown, length-reverse past))

    pub carried_shrunk : carried_to D b new past S
        ≡ returned_by (merges D b (reverse past ++ G.more)) (length (reverse past ++ G.more)) (length G.more) S
    unfolding carried_to returned_by
    carried_shrunk = go (dec_le (length new) (length past))
      where
        go : Dec (length new ≤ length past)
            → carried_to D b new past S ≡ returned_by (merges D b (reverse past ++ G.more)) (length (reverse past ++ G.more)) (length G.more) S
        go (yes h) =
            let size = grown_length in
            let none : length G.more ≡ 0 = omega arith in
            let count : length new - length past ≡ 0 = omega arith in
            rw none (carried_down _ (length new) (length past) S (omega arith) ∙ rw count)
        go (no h) =
            let size = grown_length in
            let longer : leb (length new) (length past) ≡ false = not_T→false _ (λ t. h (leb→le (length new) (length past) t)) in
            let count : length new - length past ≡ length G.more = omega arith in
            let all : length (reverse past ++ G.more) ≡ length new = ap length (sym G.grown) ∙ length-reverse new in
            rw (longer, all) (carried_down (merges D b (reverse new)) (length new) (length past) S (omega arith) ∙ rw (count, G.grown))

-- ---- the four steps

-- operations that the history tells
told_grown : {past : List ℕ} {os : List Operation} {new : List ℕ} → Told past os new → Grown past new
told_grown {past} T = record { more = T.numbers; grown = ap reverse T.history ∙ reverse_onto T.numbers past }

module _ (s : State) (t past : List ℕ) {z : State} {u new : List ℕ} where
  pub reduce_grown : (k : Kind) (es : List ℕ) → reduce k es s t past ≡ gives z u new → Grown past new
  reduce_grown k es e = told_grown (reduce_tells s t past k es e)

  pub sweep_grown : sweep s t past ≡ gives z u new → Grown past new
  sweep_grown e = told_grown (sweep_told s t past e)

  pub undo_grown : undo_level s t past ≡ gives z u new → Grown new past
  unfolding undo_level
  undo_grown e = go (ℕ_discrete s.levels 0)
    where
      n : ℕ
      n = s.operations - end_below s

      go : Dec (s.levels ≡ 0) → Grown new past
      go (yes h) = absurd (refuses≢gives (rw h at e))
      go (no o) =
          same_result (λ z u new. Grown new past) (rw (eqb_other o) at e)
          (record {
            more = reverse (take n past);
            grown = ap reverse (sym (take-append-drop n past)) ∙ reverse-append (take n past) (drop n past);
          })

abbrev pub grown_on : {a b c : List ℕ} → Grown a b → Grown b c → Grown a c
grown_on {a} G H = record { more = G.more ++ H.more; grown = H.grown ∙ ap (λ l. l ++ H.more) G.grown ∙ append_assoc (reverse a) G.more H.more }

pub undos_grown : (n : ℕ) (s : State) (t past : List ℕ) {z : State} {u new : List ℕ} → undo_levels n s t past ≡ gives z u new → Grown new past
unfolding undo_levels
undos_grown zero s t past e = same_result (λ z u new. Grown new past) e (record { more = []; grown = sym (append-nil (reverse past)) })
undos_grown (suc n) s t past e =
    let first = then (undo_level s t past) (undo_levels n) e in
    grown_on (undos_grown n first.state first.table first.past first.next) (undo_grown s t past first.first)

-- EACH CALL ON A STATE DOES OPERATIONS, OR UNDOES SOME
pub step_moves : (c : Call) (s : State) (t past : List ℕ) {z : State} {u new : List ℕ} → step_of c s t past ≡ gives z u new → Moved past new
step_moves (by_kernel k) s t past e = up (reduce_grown s t past k.kind k.edges e)
step_moves by_sweep s t past e = up (sweep_grown s t past e)
step_moves by_undo s t past e = down (undo_grown s t past e)
step_moves (to_level k) s t past e = down (undos_grown (s.levels - k) s t past (unfold_undoes k s t past e).1)
