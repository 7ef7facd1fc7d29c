-- Calls with sheets, in whatever number and order, from a base on: what the sheets then hold, and the total of stitches.
--   call_with c a    == the call c with sheets, on what a leaves
--   calls_with cs a  == the calls cs, the first on what a leaves
--   AllDone cs a    == each of the calls cs answers 0
--   Plainly cs a    == the calls cs are done with sheets and without them, and leave the same
--   done_plain, plain_done == so it is of given sheets, where the one or the other are done
--   Above D b F a   == a leaves a pyramid over the base b of D darts, and sheets that look like what its operations give of the sheets F
--   above_calls     == accepted calls of every kind lead from there to there
--   above_total     == and the total of stitches stays the base's
use mathlib.Core.List.{List, [], ◌∷◌, ◌++◌, reverse}
use mathlib.Core.Path.{◌≡◌, refl, sym, ap, ◌∙◌, subst, subst₂}
use Prim.Native.Nat.{ℕ, ◌/◌, ◌≤◌}
use native.Mathlib.Omega.{arith}
use lib.ListN.{length, length-reverse}
use Rattle.darts.specs.State.{State}
use Rattle.darts.specs.Pyramid.{Pyramid}
use Rattle.laws.specs.Standing.{Standing}
use Rattle.laws.proofs.tests.Room.{pyramid_room}
use Rattle.laws.proofs.chained.OnLent.{Call}
use Rattle.laws.proofs.chained.Chains.{calls, AllDone as PlainDone, first_done}
use Rattle.sheets.specs.Sheets.{Sheets}
use Rattle.yarn.specs.Places.{lowest, zone_of}
use Rattle.yarn.specs.Given.{Looked}
use Rattle.yarn.specs.Totals.{total}
use Rattle.yarn.specs.Calls.{Costed, base_of, carried_to}
use Rattle.yarn.proofs.Settled.{lowest_settled}
use Rattle.yarn.proofs.Apart.{base_standing}
use Rattle.yarn.proofs.Redone.{Long}
use Rattle.yarn.proofs.Turns.{Turns}
use Rattle.yarn.proofs.Totals.{pyramid_turns, total_seen}
use Rattle.yarn.proofs.AnyOrder.{laid_out}
use Rattle.yarn.proofs.Moved.{Moved, up, down, carried_grown, carried_shrunk, step_moves}
use Rattle.yarn.proofs.Looks.{looked_grown, looked_shrunk}
use Rattle.yarn.proofs.CalledWith.{new_turns, called_with, called_plain, LentBy, past_by, base_by, with_left}

abbrev pub call_with : Call → Costed → Costed
call_with c a = called_with c a.plain.state a.plain.table a.plain.history a.plain.work a.sheets

abbrev pub calls_with : List Call → Costed → Costed
calls_with [] a = a
calls_with (c ∷ cs) a = calls_with cs (call_with c a)

abbrev pub AllDone : List Call → Costed → Type 0
AllDone [] a = Unit {0}
AllDone (c ∷ cs) a = ((call_with c a).plain.answer.number ≡ 0) × AllDone cs (call_with c a)

-- ---- calls with sheets, and the plain calls

pub record Plainly (cs : List Call) (a : Costed) : Type 0 where
  pub done : AllDone cs a
  pub plain : PlainDone cs a.plain
  pub same : (calls_with cs a).plain ≡ calls cs a.plain

left_by_lem : (c : Call) (a : Costed) → (call_with c a).plain.answer.number ≡ 0 → LentBy (call_with c a)
left_by_lem c a e = (with_left c a.plain.state a.plain.table a.plain.history a.plain.work a.sheets e).lent

pub plain_call : (c : Call) (a : Costed) → LentBy a → (call_with c a).plain ≡ calls (c ∷ []) a.plain
plain_call c a L = called_plain c a.plain.state a.plain.table a.plain.history a.plain.work a.sheets L

pub done_plain : (cs : List Call) (a : Costed) → LentBy a → a.plain.answer.number ≡ 0 → AllDone cs a → Plainly cs a
done_plain [] a L e d = record { done = tt; plain = e; same = refl }
done_plain (c ∷ cs) a L e d =
    let R = done_plain cs (call_with c a) (left_by_lem c a d.0) d.0 d.1 in
    record {
      done = d;
      plain = (e, subst (PlainDone cs) (plain_call c a L) R.plain);
      same = R.same ∙ ap (calls cs) (plain_call c a L);
    }

pub plain_done : (cs : List Call) (a : Costed) → LentBy a → PlainDone cs a.plain → Plainly cs a
plain_done [] a L d = record { done = tt; plain = d; same = refl }
plain_done (c ∷ cs) a L d =
    let rest : PlainDone cs (call_with c a).plain = subst (PlainDone cs) (sym (plain_call c a L)) d.1 in
    let e : (call_with c a).plain.answer.number ≡ 0 = first_done cs (call_with c a).plain rest in
    let R = plain_done cs (call_with c a) (left_by_lem c a e) rest in
    record { done = (e, R.done); plain = d; same = R.same ∙ ap (calls cs) (plain_call c a L) }

-- ---- above one base

-- "sheets that .. [an] accepted start and these operations give"
pub record Above (D : ℕ) (b : List ℕ) (F : Sheets) (a : Costed) : Type 0 where
  pub darts : a.plain.state.darts ≡ D
  pub base : base_by a ≡ b
  pub lent : LentBy a
  pub looked : Looked D b (reverse (past_by a)) (laid_out D b (reverse (past_by a)) F) a.sheets

-- ---- one call

module _ {s : State} {t past : List ℕ} {z : State} {u new : List ℕ} (P : Pyramid s t past) (O : Pyramid z u new) (darts : z.darts ≡ s.darts)
    (base : base_of z u new ≡ base_of s t past) (F S : Sheets) (K : Long s.darts (s.darts / 2) F) (L : Long s.darts (s.darts / 2) S) where
  abbrev D : ℕ
  D = s.darts

  abbrev b : List ℕ
  b = base_of s t past

  abbrev Looks : List ℕ → Sheets → Type 0
  Looks past Z = Looked D b (reverse past) (laid_out D b (reverse past) F) Z

  moved_looks : Moved past new → Looks past S → Looks new (carried_to D b past new S)
  moved_looks (up G) σ =
      let room : length new ≤ D / 2 = rw darts at (pyramid_room O) in
      let size : length (reverse past ++ G.more) ≡ length new = ap length (sym G.grown) ∙ length-reverse new in
      let turns = rw G.grown at (new_turns P O darts base S L) in
      rw (carried_grown G D b S, G.grown) (looked_grown (base_standing P) (reverse past) G.more turns
      (record { sheet = K.sheet; kept = omega (arith, K.kept) }) (record { sheet = L.sheet; kept = omega (arith, L.kept) }) σ)
  moved_looks (down G) σ =
      let room : length past ≤ D / 2 = pyramid_room P in
      let size : length (reverse new ++ G.more) ≡ length past = ap length (sym G.grown) ∙ length-reverse past in
      rw (carried_shrunk G D b S) (looked_shrunk (base_standing P) (reverse new) G.more (rw G.grown at (pyramid_turns P))
      (record { sheet = K.sheet; kept = omega (arith, K.kept) }) (record { sheet = L.sheet; kept = omega (arith, L.kept) }) (rw G.grown at σ))

module _ {D : ℕ} {b : List ℕ} {F : Sheets} (K : Long D (D / 2) F) where
  above_call : (a : Costed) → Above D b F a → (c : Call) → (call_with c a).plain.answer.number ≡ 0 → Above D b F (call_with c a)
  above_call a O c e =
      let s = a.plain.state in
      let W = with_left c s a.plain.table a.plain.history a.plain.work a.sheets e in
      let n = call_with c a in
      let moved : Moved (past_by a) (past_by n) = step_moves c s _ (past_by a) W.plain.gave in
      let long : Long s.darts (s.darts / 2) a.sheets = record { sheet = O.lent.sheet; kept = O.lent.kept } in
      let first : Long s.darts (s.darts / 2) F = subst (λ (D : ℕ). Long D (D / 2) F) (sym O.darts) K in
      let was = subst₂ (λ (D : ℕ) (b : List ℕ). Looked D b (reverse (past_by a)) (laid_out D b (reverse (past_by a)) F) a.sheets)
      (sym O.darts) (sym O.base) O.looked in
      let looks = moved_looks O.lent.lent.pyramid W.plain.left.lent.pyramid W.plain.left.darts W.base F a.sheets first long moved was in
      record {
        darts = W.plain.left.darts ∙ O.darts;
        base = W.base ∙ O.base;
        lent = W.lent;
        looked = subst₂ (λ (D : ℕ) (b : List ℕ). Looked D b (reverse (past_by n)) (laid_out D b (reverse (past_by n)) F) n.sheets) O.darts O.base
            (rw W.sheets looks);
      }

  -- ACCEPTED CALLS, OF WHATEVER KIND AND NUMBER
  pub above_calls : (cs : List Call) (a : Costed) → Above D b F a → AllDone cs a → Above D b F (calls_with cs a)
  above_calls [] a O d = O
  above_calls (c ∷ cs) a O d = above_calls cs (call_with c a) (above_call a O c d.0) d.1

-- ---- what holds above a base

module _ {D : ℕ} {b : List ℕ} {F : Sheets} {a : Costed} (O : Above D b F a) where
  pub above_standing : Standing D b []
  above_standing = subst₂ (λ (D : ℕ) (b : List ℕ). Standing D b []) O.darts O.base (base_standing O.lent.lent.pyramid)

  pub above_turns : Turns D (lowest D b) (reverse (past_by a))
  above_turns = subst₂ (λ (D : ℕ) (b : List ℕ). Turns D (lowest D b) (reverse (past_by a))) O.darts O.base (pyramid_turns O.lent.lent.pyramid)

  -- "The total of stitches at any level equals the base's."
  pub above_total : D ≤ length F.sheet → total D (zone_of D b (reverse (past_by a))) a.sheets ≡ total D (lowest D b) F
  above_total long = total_seen D b (lowest_settled above_standing) (reverse (past_by a)) above_turns F a.sheets long O.looked
