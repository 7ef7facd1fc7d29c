-- The operations of one kind that the ends tell, under way in the work area.
--   tells_not, tells_so    == whether an end is by a kind, by its number: it has no level, or the kind of its last bit
--   ending_taken, ending_over, ending_none == edge e ends so, or not; no edge is left
--   Passing D n k ends w₀ w e m == w is w₀ after the edges below e, of which m - n ended by kind k
--   passing_begins         == no edge has had its turn
--   passed_over, passed_on == edge e does not end so; or it does, and was done
--   passing_stops          == it was refused
--   passing_ends           == no edge is left
use mathlib.Core.Bool.{Bool, true, false}
use mathlib.Core.List.{List, [], ◌∷◌}
use mathlib.Core.Path.{◌≡◌, refl, sym, ◌∙◌}
use Prim.Native.Nat.{ℕ, suc, ◌+◌, ◌-◌, ◌/◌, ◌%◌, ◌≤◌, ◌<◌}
use native.Mathlib.Numerals.{add-one}
use native.Mathlib.Omega.{arith}
use denote.Enum.Bare.{sameb}
use borrow.Author.Tests.{le-leb}
use lib.ListN.{length, get_or, drop, drop_of_length-le}
use lib.Seq.{drop-cons}
use Rattle.std.proofs.Common.{Ok, Err}
use Rattle.darts.specs.Kernel.{Run, always, pass, run}
use Rattle.darts.specs.Kinds.{kind_is, bit}
use Rattle.darts.specs.Operation.{Kind as OfKind}
use Rattle.darts.specs.Tests.{same_kind}
use Rattle.darts.specs.contracts.Kind.{the_type}
use Rattle.darts.specs.declared.Kind.{Kind}
use Rattle.darts.specs.declared.Kind.TheVariants.{Contract, Remove}
use Rattle.darts.specs.declared.Refusal.{Refusal}
use Rattle.darts.proofs.Bits.{bit_kind, number_kind}
use Rattle.area.specs.Area.{table_in, past_in}
use Rattle.engine.specs.Held.{Ready}
use Rattle.engine.specs.Runs.{Turned}
use Rattle.engine.proofs.Ready.{beyond_refl}
use Rattle.engine.proofs.Underway.{Underway, underway_on, underway_stops, underway_ends}
use Rattle.ends.specs.Ends.{level_of, ending_from, ending}
use Rattle.lookup.specs.Told.{tells, Passed}

-- ---- by its number

pub tells_not : (κ : OfKind) (v : ℕ) → v < 2 → false ≡ tells κ v
unfolding tells level_of
tells_not κ v l = let z : v / 2 ≡ 0 = omega arith in rw z

same_kinds : (j k : Kind) → sameb the_type j k ≡ same_kind (kind_is k) (kind_is j)
unfolding same_kind
same_kinds Contract Contract = refl
same_kinds Contract Remove = refl
same_kinds Remove Contract = refl
same_kinds Remove Remove = refl

pub tells_so : (j k : Kind) (v : ℕ) → 2 ≤ v → bit j ≡ v % 2 → sameb the_type j k ≡ tells (kind_is k) v
unfolding tells level_of
tells_so j k v h e = rw (le-leb 1 (v / 2) (omega arith), number_kind j v e) (same_kinds j k)

-- ---- edge e

module _ (κ : OfKind) (ends : List ℕ) (e : ℕ) where
  module _ (more : e < length ends) where
    pub ending_taken : tells κ (get_or ends e 0) ≡ true → ending_from κ e (drop e ends) ≡ e ∷ ending_from κ (suc e) (drop (suc e) ends)
    unfolding ending_from tells
    ending_taken t = rw (drop-cons ends e 0 more, t)

    pub ending_over : tells κ (get_or ends e 0) ≡ false → ending_from κ e (drop e ends) ≡ ending_from κ (suc e) (drop (suc e) ends)
    unfolding ending_from tells
    ending_over t = rw (drop-cons ends e 0 more, t)

  pub ending_none : length ends ≤ e → ending_from κ e (drop e ends) ≡ []
  unfolding ending_from
  ending_none none = rw (drop_of_length-le ends none)

-- ---- the pass

abbrev whole : ℕ → ℕ → Kind → List ℕ → List ℕ → Run
whole D n k ends w₀ = run (kind_is k) D (table_in D w₀) (past_in D n w₀) (ending (kind_is k) ends)

pub record Passing (D n : ℕ) (k : Kind) (ends w₀ w : List ℕ) (e m : ℕ) : Type 0 where
  pub low : n ≤ m
  pub under : Underway D (bit k) always (whole D n k ends w₀) w₀ (m - n) (ending_from (kind_is k) e (drop e ends)) w m

pub passing_begins : {D n : ℕ} {k : Kind} {w : List ℕ} (ends : List ℕ) → Ready D n (bit k) w → Passing D n k ends w w 0 n
unfolding run pass ending
passing_begins {D} {n} {k} {w} ends ready =
    let none : n - n ≡ 0 = omega arith in
    record { low = omega arith; under = record { same = rw (none, bit_kind k); ready = ready; beyond = beyond_refl D w } }

module _ {D n : ℕ} {k : Kind} {ends w₀ w : List ℕ} {e m : ℕ} (σ : Passing D n k ends w₀ w e m) where
  module _ (more : e < length ends) {b : Bool} (asked : b ≡ tells (kind_is k) (get_or ends e 0)) where
    pub passed_over : b ≡ false → Passing D n k ends w₀ w (e + 1) m
    passed_over over = record { low = σ.low; under = rw (add-one e, ← (ending_over (kind_is k) ends e more (sym asked ∙ over))) σ.under }

    module _ (chosen : b ≡ true) where
      at_turn : Underway D (bit k) always (whole D n k ends w₀) w₀ (m - n) (e ∷ ending_from (kind_is k) (suc e) (drop (suc e) ends)) w m
      at_turn = rw (← (ending_taken (kind_is k) ends e more (sym asked ∙ chosen))) σ.under

      pub passed_on : {v : List ℕ} → Turned D m (bit k) e (m - n) w v (Ok tt) → Passing D n k ends w₀ v (e + 1) (m + 1)
      passed_on τ =
          let low : n ≤ m = σ.low in
          let one : m + 1 - n ≡ suc (m - n) = omega arith in
          record { low = omega arith; under = rw (one, add-one e) (underway_on at_turn refl τ) }

      pub passing_stops : {v : List ℕ} {r : Refusal} → Turned D m (bit k) e (m - n) w v (Err r) → Passed D (whole D n k ends w₀) w₀ v (Err r)
      passing_stops τ = record { ran = underway_stops at_turn refl τ; area = tt }

  pub passing_ends : length ends ≤ e → Passed D (whole D n k ends w₀) w₀ w (Ok m)
  passing_ends none = record { ran = underway_ends (rw (ending_none (kind_is k) ends e none) at σ.under); area = σ.under.ready.area }
