-- What stands in the work area, judged: a body that it holds is a pyramid, or it is refused.
--   settle_few  == what is a pyramid has at most D/2 operations
--   settle_none == the check says no
--   settle_all  == the check says yes, and what was judged is accepted, with the numbers that the check found
use mathlib.Core.Bool.{Bool, true, false}
use mathlib.Core.List.{List, [], map, reverse}
use mathlib.Core.Logic.{by_cases}
use mathlib.Core.Path.{◌≡◌, refl, sym, ap, ap₂, ◌∙◌}
use Prim.Native.Nat.{ℕ, ◌+◌, ◌-◌, ◌*◌, ◌/◌, ◌≤◌, min}
use native.Mathlib.Decide.{dec_le}
use native.Mathlib.Omega.{arith}
use Rattle.darts.specs.Answers.{done, no_pyramid}
use Rattle.darts.specs.State.{State, zeros, counted}
use Rattle.darts.specs.Pyramid.{is_pyramid}
use Rattle.darts.specs.Scan.{Scan}
use Rattle.darts.specs.Read.{Body, total, from_flag, file_state, file_history, closed}
use Rattle.darts.specs.Calls.{After, leaves, cleared, read_into}
use Rattle.slices.specs.Over.{over}
use Rattle.laws.proofs.runs.Ends.{state_path}
use Rattle.area.specs.Area.{Room, table_in, past_in}
use Rattle.laws.proofs.claims.Decided.{pyramid_decided}
use Rattle.laws.proofs.tests.Room.{pyramid_room}
use Rattle.permutations.specs.Choice.{true→T}
use lib.ListN.{length, length-reverse, length-take, length-drop}
use Rattle.engine.specs.Checks.{CheckedLaid}
use Rattle.engine.specs.Counted.{CyclesAre}
use Rattle.pyramid.specs.Values.{figures_with}
use Rattle.file_lines.specs.Lines.{starts_with}
use Rattle.reader.specs.Parsed.{Holds}
use Rattle.reader.specs.Settled.{Accepted}
use Rattle.reader.proofs.ReadEnds.{closed_none, closed_many, closed_all}

-- the past that the work area holds is longer than D/2 where the operations are
pub settle_few : {s : State} {w w' : List ℕ} {r : Bool} → Room s.darts w → CheckedLaid s w w' r → r ≡ true → s.operations ≤ s.darts / 2
settle_few {s} {w} {w'} {r} room C passes =
    let D : ℕ = s.darts in
    let t : List ℕ = table_in D w in
    let past : List ℕ = past_in D s.operations w in
    let held : is_pyramid (counted s t past) t past ≡ true = sym C.answer ∙ passes in
    let few = pyramid_room ((pyramid_decided (counted s t past) t past).0 (true→T held)) in
    let long : length past ≡ min (3 * D + s.operations - 3 * D) (length w - 3 * D) =
    simp (length-reverse, length-take, length-drop) in
    omega (arith, room.fits)

module _ {s : State} {b : List ℕ} {F p : ℕ} {z : Scan Body} {w : List ℕ} (H : Holds s b F p z w) (t h v : List ℕ) where
  abbrev D : ℕ
  D = s.darts

  -- what the read leaves
  abbrev whole : After
  whole = read_into t h v (closed (starts_with F D) z)

  module _ {w' : List ℕ} {r : Bool} (C : CheckedLaid s w w' r) where
    -- the table and the past that were read
    abbrev table : List ℕ
    table = map (from_flag F D) H.numbers

    abbrev past : List ℕ
    past = reverse (file_history H.kernels)

    module _ (few : s.operations ≤ D / 2) where
      -- what the work area holds is what the file says
      same_state_lem : counted s (table_in D w) (past_in D s.operations w) ≡ file_state D H.kernels table past
      same_state_lem = H.state (table_in D w) (past_in D s.operations w) ∙ ap₂ (file_state D H.kernels) H.table (ap reverse (H.history few))

      judged : r ≡ is_pyramid (file_state D H.kernels table past) table past
      judged =
          C.answer
          ∙ ap (λ (z : State). is_pyramid z (table_in D w) (past_in D s.operations w)) same_state_lem
          ∙ ap₂ (λ (u new : List ℕ). is_pyramid (file_state D H.kernels table past) u new) H.table (ap reverse (H.history few))

    pub settle_none : r ≡ false → leaves no_pyramid zeros t h (cleared D v) ≡ whole
    unfolding file_state
    settle_none fails =
        by_cases (dec_le s.operations (D / 2))
        (λ few. closed_none t h v (starts_with F D) H.body (sym (judged few) ∙ fails))
        (λ many.
        let count : s.operations ≡ total H.kernels = ap (λ (z : State). z.operations) (H.state [] []) in
        closed_many t h v (starts_with F D) H.body (omega arith))

    module _ (room : Room D w) (passes : r ≡ true) {t' h' : List ℕ} (A : Accepted b p D F s.operations t t' h h' w') where
      accepted : leaves done (counted s (table_in D w) (past_in D s.operations w)) t' h' (cleared D v) ≡ whole
      accepted =
          let few = settle_few room C passes in
          let history : h' ≡ over (file_history H.kernels) h = A.history ∙ ap (λ (z : List ℕ). over z h) (C.history ∙ H.history few) in
          ap (λ (y : State). leaves done y t' h' (cleared D v)) (same_state_lem few)
          ∙ rw (A.table H.numbers H.next H.pairs, history) (closed_all t h v (starts_with F D) H.body (sym (judged few) ∙ passes))

      -- THE NUMBERS THAT THE CHECK FOUND ARE THOSE OF THE CYCLES
      pub settle_all : {x y : ℕ} {r : State} → r ≡ figures_with s x y → CyclesAre D (table_in D w) (past_in D s.operations w) x y
          → leaves done r t' h' (cleared D v) ≡ whole
      settle_all e N = ap (λ (y : State). leaves done y t' h' (cleared D v)) (e ∙ state_path refl refl refl refl N.vertices N.faces) ∙ accepted
