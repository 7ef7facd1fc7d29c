-- The operations that the ends tell, done in two runs: the contractions, and from where they end the removals.
--   accepted_then D r ns     == the run r stands, and the operations ns may be done from there
--   accepted_join           == operations one after another are accepted where the first ones are, and then the others
--   contractions_stop       == no, where the run of contractions stops
--   removals_say            == what the run of removals says, where the contractions stand
--   came_shape, came_base   == no, by the form of the levels or by the base
--   came_operated           == what the operations say, on a base whose ends are in form
use mathlib.Core.Bool.{Bool, true, false, ◌&&◌}
use mathlib.Core.List.{List, [], ◌∷◌, ◌++◌}
use mathlib.Core.Path.{◌≡◌, refl, sym, ap, ◌∙◌}
use Prim.Native.Nat.{ℕ, suc}
use native.Mathlib.Omega.{arith}
use lib.Dec.{eqb}
use lib.ListN.{length, take}
use lib.Seq.{take_all}
use Rattle.permutations.specs.Choice.{true→T}
use Rattle.std.proofs.Common.{Result, Ok, Err}
use Rattle.std.specs.Prelude.{is_ok}
use Rattle.darts.specs.Map.{permutation_test, passed}
use Rattle.darts.specs.Operation.{contraction, removal, lead, operate, number}
use Rattle.darts.specs.Kernel.{judge, Operation, each, Run, stands, stops, always, pass_from, pass, run}
use Rattle.darts.specs.OneByOne.{one_by_one}
use Rattle.darts.specs.declared.Refusal.{Refusal}
use Rattle.darts.specs.Tests.{numbered}
use Rattle.laws.proofs.tests.NothingGone.{nothing_gone}
use Rattle.area.specs.Area.{Room, table_in, past_in, tried}
use Rattle.area.specs.Load.{loads}
use Rattle.engine.specs.Held.{Area}
use Rattle.engine.specs.Runs.{ran_in}
use Rattle.engine.proofs.Checking.{loaded_beyond}
use Rattle.engine.proofs.Given.{linked_stand}
use Rattle.engine.proofs.Loaded.{Loaded, loads_right}
use Rattle.engine.proofs.Parts.{past_none}
use Rattle.engine.proofs.Ready.{beyond_refl, beyond_trans}
use Rattle.ends.specs.Ends.{shaped, ending}
use Rattle.ends.specs.Comes.{operations, accepted, comes}
use Rattle.lookup.specs.Told.{Passed, Operated, Came}

-- ---- one after another

abbrev accepted_then : ℕ → Run → List Operation → Bool
accepted_then D (stands u new) ns = accepted (pass always D u new ns)
accepted_then D (stops a) ns = false

-- the place of a refusal does not matter
accepted_place : (D : ℕ) (t past : List ℕ) (i j : ℕ) (os : List Operation)
    → accepted (pass_from always D t past i os) ≡ accepted (pass_from always D t past j os)
unfolding pass_from accepted
accepted_place D t past i j [] = refl
accepted_place D t past i j (o ∷ os) =
    go (eqb (judge o.kind D t past o.edge) 0) refl
    (accepted_place D (operate o.kind D t past o.edge) (number o.kind (lead o.kind t o.edge) ∷ past) (suc i) (suc j) os)
  where
    go : (b : Bool) → eqb (judge o.kind D t past o.edge) 0 ≡ b
        → accepted (pass_from always D (operate o.kind D t past o.edge) (number o.kind (lead o.kind t o.edge) ∷ past) (suc i) os)
        ≡ accepted (pass_from always D (operate o.kind D t past o.edge) (number o.kind (lead o.kind t o.edge) ∷ past) (suc j) os)
        → accepted (pass_from always D t past i (o ∷ os)) ≡ accepted (pass_from always D t past j (o ∷ os))
    go true e rest = rw e rest
    go false e rest = rw e

accepted_join : (D : ℕ) (t past : List ℕ) (i : ℕ) (os ns : List Operation)
    → accepted (pass_from always D t past i (os ++ ns)) ≡ accepted_then D (pass_from always D t past i os) ns
unfolding pass_from pass accepted
accepted_join D t past i [] ns = accepted_place D t past i 0 ns
accepted_join D t past i (o ∷ os) ns =
    go (eqb (judge o.kind D t past o.edge) 0) refl
    (accepted_join D (operate o.kind D t past o.edge) (number o.kind (lead o.kind t o.edge) ∷ past) (suc i) os ns)
  where
    go : (b : Bool) → eqb (judge o.kind D t past o.edge) 0 ≡ b
        → accepted (pass_from always D (operate o.kind D t past o.edge) (number o.kind (lead o.kind t o.edge) ∷ past) (suc i) (os ++ ns))
        ≡ accepted_then D (pass_from always D (operate o.kind D t past o.edge) (number o.kind (lead o.kind t o.edge) ∷ past) (suc i) os) ns
        → accepted (pass_from always D t past i (o ∷ (os ++ ns))) ≡ accepted_then D (pass_from always D t past i (o ∷ os)) ns
    go true e rest = rw e rest
    go false e rest = rw e

-- ---- the contractions, and then the removals

module _ (D : ℕ) (t ends : List ℕ) where
  in_two : accepted (one_by_one D t [] (operations ends))
      ≡ accepted_then D (run contraction D t [] (ending contraction ends)) (each removal (ending removal ends))
  unfolding one_by_one operations run pass
  in_two = accepted_join D t [] 0 (each contraction (ending contraction ends)) (each removal (ending removal ends))

  as_ran : (r : Run) → r ≡ run contraction D t [] (ending contraction ends)
      → accepted (one_by_one D t [] (operations ends)) ≡ accepted_then D r (each removal (ending removal ends))
  as_ran r first = in_two ∙ ap (λ z. accepted_then D z (each removal (ending removal ends))) (sym first)

told : (D : ℕ) (u : List ℕ) (q : Result ℕ Refusal) → accepted (ran_in D u q) ≡ is_ok q
unfolding accepted
told D u (Ok m) = refl
told D u (Err a) = refl

abbrev Contracted : ℕ → List ℕ → List ℕ → List ℕ → Result ℕ Refusal → Type 0
Contracted D ends w v = Passed D (run contraction D (table_in D w) (past_in D 0 w) (ending contraction ends)) w v

module _ (D : ℕ) (ends w v : List ℕ) where
  contracted : (r : Result ℕ Refusal) → Contracted D ends w v r → ran_in D v r ≡ run contraction D (table_in D w) [] (ending contraction ends)
  contracted r P = P.ran.went ∙ ap (λ l. run contraction D (table_in D w) l (ending contraction ends)) (past_none D w)

  -- A CONTRACTION IS REFUSED
  pub contractions_stop : (a : Refusal) → Contracted D ends w v (Err a) → Operated D (table_in D w) ends w v false
  contractions_stop a P = record {
    answer = sym (as_ran D (table_in D w) ends (ran_in D v (Err a)) (contracted (Err a) P));
    beyond = P.ran.beyond;
  }

  -- ALL CONTRACTIONS ARE DONE, AND THEN THE REMOVALS SAY
  pub removals_say : (m : ℕ) → Contracted D ends w v (Ok m) → (u : List ℕ) (q : Result ℕ Refusal)
      → Passed D (run removal D (table_in D v) (past_in D m v) (ending removal ends)) v u q → Operated D (table_in D w) ends w u (is_ok q)
  unfolding run
  removals_say m P u q Q = record {
    answer = sym (as_ran D (table_in D w) ends (ran_in D v (Ok m)) (contracted (Ok m) P) ∙ ap accepted (sym Q.ran.went) ∙ told D u q);
    beyond = beyond_trans P.ran.beyond Q.ran.beyond;
  }

-- ---- the whole decision

and_none : (a b c : Bool) → b ≡ false → (a && (b && c)) ≡ false
and_none true b c e = rw e
and_none false b c e = refl

module _ {D : ℕ} (t ends : List ℕ) where
  -- NOT BY THE LEVELS
  pub came_shape : (w : List ℕ) {s : Bool} → s ≡ shaped ends → s ≡ false → Came D t ends w w false
  unfolding comes
  came_shape w e n = record {
    answer = sym (and_none (passed (permutation_test D t)) (shaped ends) (accepted (one_by_one D t [] (operations ends))) (sym e ∙ n));
    beyond = beyond_refl D w;
  }

  module _ (size : length t ≡ D) {w v : List ℕ} (room : Room D w) {r : Bool} (loaded : tried r v ≡ loads D 0 t ends w) where
    L : Loaded D 0 t ends w (tried r v)
    L = rw loaded (loads_right linked_stand 0 t ends w room (omega arith) (omega arith) (omega arith))

    whole : take D t ≡ t
    whole = take_all D t (omega arith)

    based : r ≡ passed (permutation_test D t)
    unfolding numbered
    based = L.fine ∙ ap passed (nothing_gone D (take D t)) ∙ ap (λ l. passed (permutation_test D l)) whole

    -- NOT BY THE BASE
    pub came_base : r ≡ false → Came D t ends w v false
    unfolding comes
    came_base n = record { answer = sym (rw (← based, n)); beyond = loaded_beyond L }

    pub came_area : r ≡ true → Area D 0 v
    came_area y = L.area (true→T y)

    -- WHAT THE OPERATIONS SAY
    pub came_operated : {s : Bool} → s ≡ shaped ends → s ≡ true → r ≡ true → {u : List ℕ} {b : Bool} → Operated D (table_in D v) ends v u b
        → Came D t ends w u b
    unfolding comes
    came_operated e y f O = record {
      answer = rw (← based, f, ← e, y) (O.answer ∙ ap (λ l. accepted (one_by_one D l [] (operations ends))) (L.table ∙ whole));
      beyond = beyond_trans (loaded_beyond L) O.beyond;
    }
