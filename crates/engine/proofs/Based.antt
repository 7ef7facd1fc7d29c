-- A table loaded alone: the permutation test, and a work area that is as it was from 4D on.
--   Tested D t w v u == v is what the test says of t, and u is as w was from 4D on
--   base_tested      == so it is
--   base_held        == a table that permutes the darts is held by the work area
--   counted_no       == one that does not
--   held             == one that does is held by the work area
--   counted_yes, counted_cycles == its cycles are counted while they are labelled
use mathlib.Core.Bool.{false≢true}
use mathlib.Core.List.{List, []}
use mathlib.Core.Path.{◌≡◌, refl, sym, ap, subst, ◌∙◌}
use Prim.Native.Nat.{ℕ, ◌*◌, ◌≤◌}
use Rattle.std.proofs.Common.{Result, Ok, Err}
use native.Mathlib.Omega.{arith}
use lib.ListN.{length, take, drop}
use lib.Seq.{take-take}
use Rattle.darts.specs.Map.{gone, Verdict, permutes, permutation_test}
use Rattle.darts.specs.Tests.{survivors_test}
use Rattle.area.specs.Area.{Room}
use Rattle.area.specs.Verdicts.{Said, said, passing, verdict_of}
use Rattle.area.specs.declared.Culprits.{Culprits}
use Rattle.area.specs.Load.{given, blank, links, marks, links_after, relinks, loads, loads_base}
use Rattle.operations.specs.Count.{roots_in}
use Rattle.operations.specs.Cycles.{Labelled}
use Rattle.operations.proofs.Outside.{outside_refl}
use Rattle.operations.proofs.Steps.{outside_step}
use Rattle.laws.proofs.bridge.Verdicts.{test_same}
use Rattle.laws.proofs.tests.NothingGone.{nothing_gone}
use Rattle.engine.specs.Counted.{CyclesAre, BaseCounted}
use Rattle.engine.specs.Held.{Area, Beyond}
use Rattle.engine.specs.declared.Cycles.{Cycles}
use Rattle.engine.proofs.Beside.{beside_table}
use Rattle.engine.proofs.Counts.{kind_counted, labelled_area, both_counted}
use Rattle.engine.proofs.Ready.{beyond_trans, outside_beyond}
use Rattle.engine.proofs.Given.{linked_stand}
use Rattle.engine.proofs.Loaded.{Loaded, loads_right}
use Rattle.engine.proofs.Parts.{rest_from}
use Rattle.engine.proofs.Laid.{Laid, given_laid}
use Rattle.engine.proofs.Marked.{Marked}
use Rattle.engine.proofs.Linked.{Links, links_right}

pub record Tested (D : ℕ) (t w : List ℕ) (v : Verdict) (u : List ℕ) : Type 0 where
  pub verdict : v ≡ permutation_test D t
  pub rest : drop (4 * D) u ≡ drop (4 * D) w

module _ (D : ℕ) (t w : List ℕ) (room : Room D w) (long : D ≤ length t) where
  abbrev e : List ℕ
  e = blank D (given D 0 t [] w)

  E : Laid D 0 t [] w e
  E = given_laid D 0 t [] w room long (omega arith) (omega arith)

  none_gone : Marked D [] e
  unfolding gone
  none_gone = E.unknown

  L : Links D (take D t) [] D 0 e (links D 0 e 0 D)
  L = links_right D 0 (take D t) [] e (λ _. refl) E.table (omega (arith, E.size, room.fits)) none_gone

  -- THE PERMUTATION TEST, AND NOTHING PAST 4D
  base_tested : {v : Verdict} {u : List ℕ} → said v u ≡ loads_base D t w → Tested D t w v u
  unfolding loads_base survivors_test
  base_tested f = record {
    verdict = ap (λ (s : Said). s.verdict) f ∙ L.verdict ∙ nothing_gone D (take D t) ∙ test_same D (take D t) t (take-take D D t (omega arith));
    rest = ap (λ (s : Said). drop (4 * D) s.work) f ∙ rest_from D (4 * D) _ e L.rest (omega arith) ∙ E.rest;
  }

  base_loaded : Loaded D 0 t [] w (passing (loads_base D t w))
  unfolding loads relinks links_after marks loads_base
  base_loaded = loads_right linked_stand 0 t [] w room long (omega arith) (omega arith)

  -- LOADED, IT IS HELD WHERE IT PERMUTES THE DARTS
  module _ (r : Result (Unit {0}) Culprits) {u : List ℕ} (f : said (verdict_of r) u ≡ loads_base D t w) where
    loaded : Loaded D 0 t [] w (passing (said (verdict_of r) u))
    loaded = subst (λ s. Loaded D 0 t [] w (passing s)) (sym f) base_loaded

    base_held : verdict_of r ≡ permutes → Area D 0 u
    base_held passes = loaded.area (rw passes tt)

  -- ---- counted

  loaded_beyond : (r : Result (Unit {0}) Culprits) {u : List ℕ} → said (verdict_of r) u ≡ loads_base D t w → Beyond D w u
  loaded_beyond r f = let l = loaded r f in record { size = l.size; rest = l.rest }

  pub counted_no : {c : Culprits} {u : List ℕ} → said (verdict_of {T = Unit {0}} (Err c)) u ≡ loads_base D t w → BaseCounted D t w u (Err c)
  counted_no {c} f = record {
    verdict = (base_tested f).verdict;
    beyond = loaded_beyond (Err c) f;
    area = λ e. absurd (false≢true e);
    table = λ e. absurd (false≢true e);
    vertices = λ e. absurd (false≢true e);
  }

  module _ {u : List ℕ} (f : said (verdict_of {T = Unit {0}} (Ok tt)) u ≡ loads_base D t w) where
    pub held : Area D 0 u
    held = base_held (Ok tt) f refl

    module _ {x v : List ℕ} (K : Labelled D 0 u x) (M : Labelled D 1 x v) where
      A : Area D 0 x
      A = labelled_area held (omega arith) K

      pub counted_yes : {c : Cycles} → BaseCounted D t w v (Ok c)
      counted_yes = record {
        verdict = (base_tested f).verdict;
        beyond = beyond_trans (loaded_beyond (Ok tt) f) (beyond_trans (outside_beyond K.outside) (outside_beyond M.outside));
        area = λ _. labelled_area A (omega arith) M;
        table = λ _. beside_table M.outside ∙ beside_table K.outside ∙ (loaded (Ok tt) f).table;
        vertices = λ _. record { outside = outside_refl D v; lowest = rw (outside_step M.outside A.room 1) M.lowest };
      }

      pub counted_cycles : {n m : ℕ} → n ≡ roots_in D v D → m ≡ roots_in D x D → CyclesAre D (take D t) [] n m
      counted_cycles i j = rw (← (loaded (Ok tt) f).table) (both_counted K.outside (kind_counted held (omega arith) K j) (kind_counted A (omega arith) M i))
