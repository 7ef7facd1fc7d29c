-- A pass: operations, each taken or passed over at its turn, the taken ones judged and done; and a kernel, the pass that takes every edge (document 01,
-- "Levels and calls").
--   judge k D t past e           == the number of the answer for edge e: 7, 8, 9 or 10, 11, or 0 where it may be done
--   Operation                    == a kind and an edge
--   each k es                    == the operations of kind k on the edges es
--   rising e n                   == the n edges from e on, by rising number
--   Run                          == how a pass went: it stands at a table and a past, or it stops with an answer
--   Test                         == whether an edge is taken, by the table and the past as they stand; `always` takes every edge
--   pass_from takes D t past i os == the pass over the operations os, once i were taken
--   pass takes D t past os       == a whole pass
--   run k D t past es            == a kernel's run
use Rattle.std.specs.Prelude.{Bool, true, not, List, [], ◌∷◌, map, ℕ, zero, suc, ◌+◌, ◌*◌, ◌/◌, eqb, leb}
use Rattle.std.specs.Prelude.{if◌then◌else◌}
use Rattle.darts.specs.Answers.{Answer, answered}
use Rattle.darts.specs.Map.{same_vertex, same_face, gone}
use Rattle.darts.specs.Operation.{Kind, contraction, removal, lead, whole_edge, operate, number}

-- "Contract is refused where p and q share a vertex. Remove is refused where p and q share a face."
unfoldable pub shared : Kind → ℕ → List ℕ → ℕ → ℕ
shared contraction D t e = if same_vertex D t (2 * e) (2 * e + 1) then 9 else 0
shared removal D t e = if same_face D t (2 * e) (2 * e + 1) then 10 else 0

-- "the kernel's first failing edge, for which 7, 8, 9 or 10, 11"
unfoldable pub judge : Kind → ℕ → List ℕ → List ℕ → ℕ → ℕ
judge k D t past e =
    if leb (D / 2) e then 7
    else if gone past (2 * e) then 8
    else if leb 1 (shared k D t e) then shared k D t e
    else if whole_edge t e then 11
    else 0

pub record Operation : Type 0 where
  pub kind : Kind
  pub edge : ℕ

-- "A kernel is a list of edges of one kind"
abbrev pub each : Kind → List ℕ → List Operation
each k = map (λ e. record { kind = k; edge = e })

unfoldable pub rising : ℕ → ℕ → List ℕ
rising e zero = []
rising e (suc n) = e ∷ rising (suc e) n

pub data Run : Type 0 where
  stands : List ℕ → List ℕ → Run
  stops : Answer → Run

abbrev pub Test : Type 0
Test = List ℕ → List ℕ → ℕ → Bool

abbrev pub always : Test
always t past e = true

-- "done in the listed order, each judged on the map as it stands at its turn". The first that is refused gives its answer, with its "place in the
-- kernel, from 0": its place among those that were taken.
unfoldable pub pass_from : Test → ℕ → List ℕ → List ℕ → ℕ → List Operation → Run
pass_from takes D t past i [] = stands t past
pass_from takes D t past i (o ∷ os) =
    let k : Kind = o.kind in
    let e : ℕ = o.edge in
    let over : Run = pass_from takes D t past i os in
    let on : Run = pass_from takes D (operate k D t past e) (number k (lead k t e) ∷ past) (suc i) os in
    if not (takes t past e) then over
    else if eqb (judge k D t past e) 0 then on
    else stops (answered (judge k D t past e) i)

unfoldable pub pass : Test → ℕ → List ℕ → List ℕ → List Operation → Run
pass takes D t past os = pass_from takes D t past 0 os

-- a kernel takes every edge that it lists
unfoldable pub run : Kind → ℕ → List ℕ → List ℕ → List ℕ → Run
run k D t past es = pass always D t past (each k es)
