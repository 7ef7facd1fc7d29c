-- Calls with sheets, one after another.
--   same_base        == a step of a pyramid keeps its base
--   moved_given      == where one past goes on from the other, the sheets that follow are given
--   step_fits        == each merge of a step fits 32 bits, at its turn
--   called_with c     == the call c, with sheets: reduce_with, sweep_with, undo_with, unfold_with
--   called_plain     == on given sheets, and a pyramid, it leaves what the plain call leaves
--   LentBy a, past_by a, base_by a == what a leaves, lent to the next call; its past and its base
--   WithLeft f s t h w S a == what the accepted call a with sheets leaves: what the plain call leaves, and given sheets for the next call
--   with_left        == an accepted call leaves that
--   plain_tells      == calls that leave the same without sheets leave the same with them
use mathlib.Core.List.{List, [], ◌++◌, reverse}
use mathlib.Core.Logic.{◌≢◌}
use mathlib.Core.Path.{◌≡◌, refl, sym, ap, ◌∙◌, subst}
use Prim.Native.Nat.{ℕ, ◌/◌, ◌≤◌}
use native.Mathlib.Decide.{ℕ_discrete}
use native.Mathlib.Omega.{arith}
use lib.Dec.{T}
use lib.ListN.{length, length-reverse}
use Rattle.darts.specs.State.{State, base_state, gives}
use Rattle.darts.specs.Levels.{unfold_to}
use Rattle.darts.specs.Pyramid.{Pyramid, build}
use Rattle.darts.specs.Calls.{After, table_of, past_of, on_state}
use Rattle.laws.proofs.claims.Decided.{base_undone}
use Rattle.laws.proofs.runs.Undo.{unfold_returns}
use Rattle.laws.proofs.tests.Room.{pyramid_room}
use Rattle.laws.proofs.chained.Steps.{Step, Leads}
use Rattle.laws.proofs.chained.OnLent.{Accepted, Call, by_kernel, by_sweep, by_undo, to_level, called, step_of, leads, called_on, on_left}
use Rattle.darts.proofs.Fitting.{count_facts}
use Rattle.sheets.specs.Sheets.{Sheets}
use Rattle.sheets.specs.Notes.{Fits}
use Rattle.yarn.specs.Places.{lowest, merges}
use Rattle.yarn.specs.Given.{given}
use Rattle.yarn.specs.Calls.{Costed, base_of, judged, carried_to, on_sheets, reduce_with, sweep_with, undo_with, unfold_with}
use Rattle.yarn.proofs.Settled.{lowest_settled}
use Rattle.yarn.proofs.Apart.{base_standing}
use Rattle.yarn.proofs.Decided.{pyramid_decided}
use Rattle.yarn.proofs.Redone.{Long}
use Rattle.yarn.proofs.Turns.{Turns}
use Rattle.yarn.proofs.Totals.{merges_fit, pyramid_turns}
use Rattle.yarn.proofs.Grows.{longs_up, longs_down, given_grows, given_shrinks}
use Rattle.yarn.proofs.Moved.{Grown, Moved, up, down, carried_grown, carried_shrunk, step_moves}
use Rattle.yarn.proofs.LentWith.{LentWith, judged_done, with_refused, with_plain, with_sheets, with_accepted}
use Rattle.yarn.proofs.sentences.Refused.{state_refused}

-- ---- one base

-- everything undone
ground : {s : State} {t past : List ℕ} → Pyramid s t past → unfold_to 0 s t past ≡ gives (base_state s.darts (base_of s t past)) (base_of s t past) []
unfolding base_of build
ground {s} P =
    let B : Pyramid (base_state s.darts P.base) P.base [] = record {
      count = P.count;
      base = P.base;
      size = P.size;
      permutation = P.permutation;
      kernels = [];
      built = refl;
    } in
    unfold_returns B P.kernels P.built ∙ ap (λ b. gives (base_state s.darts b) b []) (sym (base_undone P))

pub same_base : {f : Step} → Leads f → {s : State} {t past : List ℕ} {z : State} {u new : List ℕ} → Pyramid s t past → f s t past ≡ gives z u new
    → base_of z u new ≡ base_of s t past
same_base A {s} {t} {past} {z} {u} {new} P e =
    let same : gives (base_state z.darts (base_of z u new)) (base_of z u new) [] ≡ gives (base_state s.darts (base_of s t past)) (base_of s t past) [] =
    sym (ground (A.pyramid P e)) ∙ A.ground P e ∙ ground P in
    cc

-- ---- the sheets follow

module _ {s : State} {t past : List ℕ} {z : State} {u new : List ℕ} (P : Pyramid s t past) (O : Pyramid z u new) (darts : z.darts ≡ s.darts)
    (base : base_of z u new ≡ base_of s t past) (S : Sheets) (L : Long s.darts (s.darts / 2) S) where
  abbrev D : ℕ
  D = s.darts

  abbrev b : List ℕ
  b = base_of s t past

  moved_long : Moved past new → Long D (D / 2) (carried_to D b past new S)
  moved_long (up G) = rw (carried_grown G D b S) (longs_up _ _ _ L)
  moved_long (down G) = rw (carried_shrunk G D b S) (longs_down _ _ _ L)

  pub new_turns : Turns D (lowest D b) (reverse new)
  new_turns = subst (λ c. Turns D (lowest D c) (reverse new)) base (subst (λ n. Turns n (lowest n (base_of z u new)) (reverse new)) darts (pyramid_turns O))

  -- GIVEN SHEETS STAY GIVEN
  moved_given : Moved past new → T (given D b (reverse past) S) → T (given D b (reverse new) (carried_to D b past new S))
  moved_given (up G) g =
      let room : length new ≤ D / 2 = rw darts at (pyramid_room O) in
      let size : length (reverse past ++ G.more) ≡ length new = ap length (sym G.grown) ∙ length-reverse new in
      let long : Long D (length (reverse past ++ G.more)) S = record { sheet = L.sheet; kept = omega (arith, L.kept) } in
      rw (carried_grown G D b S, G.grown) (given_grows (base_standing P) (reverse past) G.more (rw G.grown at new_turns) long g)
  moved_given (down G) g =
      let room : length past ≤ D / 2 = pyramid_room P in
      let size : length (reverse new ++ G.more) ≡ length past = ap length (sym G.grown) ∙ length-reverse past in
      let long : Long D (length (reverse new ++ G.more)) S = record { sheet = L.sheet; kept = omega (arith, L.kept) } in
      rw (carried_shrunk G D b S) (given_shrinks (base_standing P) (reverse new) G.more (rw G.grown at (pyramid_turns P)) long (rw G.grown at g))

-- "32 bits hold every sum of stitches": each merge of a step that a pyramid takes with given sheets, at its turn
pub step_fits : {f : Step} → Leads f → (s : State) (t h w : List ℕ) (S : Sheets) → LentWith s t h w S → {z : State} {u new : List ℕ}
    → f s (table_of s t) (past_of s h) ≡ gives z u new → (G : Grown (past_of s h) new)
    → Fits (merges s.darts (base_of s (table_of s t) (past_of s h)) (reverse (past_of s h) ++ G.more)) (length (reverse (past_of s h))) (length G.more) S
step_fits A s t h w S L {z} {u} {new} e G =
    let P = L.lent.pyramid in
    let past = past_of s h in
    let room : length past ≤ s.darts / 2 = pyramid_room P in
    let given = (pyramid_decided P S L.sheet (omega (arith, L.kept))).0 L.given in
    let turns = new_turns P (A.pyramid P e) (A.darts e) (same_base A P e) S (record { sheet = L.sheet; kept = L.kept }) in
    merges_fit s.darts (base_of s (table_of s t) past) (lowest_settled (base_standing P)) (count_facts s.darts P.count).small (reverse past) G.more
    (rw G.grown at turns) given L.sheet

-- ---- the four calls on a state

-- "reduce by a kernel; sweep; undo one level; unfold to level k", with both sheets
abbrev pub called_with : Call → State → List ℕ → List ℕ → List ℕ → Sheets → Costed
called_with (by_kernel k) = reduce_with k.kind k.edges
called_with by_sweep = sweep_with
called_with by_undo = undo_with
called_with (to_level k) = unfold_with k

called_with_lem : (c : Call) → called_with c ≡ on_sheets (step_of c)
unfolding reduce_with sweep_with undo_with unfold_with
called_with_lem (by_kernel k) = refl
called_with_lem by_sweep = refl
called_with_lem by_undo = refl
called_with_lem (to_level k) = refl

-- the calls with sheets and the plain calls agree
pub called_plain : (c : Call) (s : State) (t h w : List ℕ) (S : Sheets) → LentWith s t h w S → (called_with c s t h w S).plain ≡ called c s t h w
called_plain c s t h w S L = rw (called_with_lem c, called_on c) (with_plain s t h w S (step_of c) L)

-- the base of what is lent
abbrev pub base_in : State → List ℕ → List ℕ → List ℕ
base_in s t h = base_of s (table_of s t) (past_of s h)

-- what a leaves, lent to the next call
abbrev pub LentBy : Costed → Type 0
LentBy a = LentWith a.plain.state a.plain.table a.plain.history a.plain.work a.sheets

abbrev pub past_by : Costed → List ℕ
past_by a = past_of a.plain.state a.plain.history

abbrev pub base_by : Costed → List ℕ
base_by a = base_in a.plain.state a.plain.table a.plain.history

pub record WithLeft (f : Step) (s : State) (t h w : List ℕ) (S : Sheets) (a : Costed) : Type 0 where
  pub before : LentWith s t h w S
  pub plain : Accepted f s t h w a.plain
  pub base : base_by a ≡ base_in s t h
  pub sheets : a.sheets ≡ carried_to s.darts (base_in s t h) (past_of s h) (past_by a) S
  -- for the next call
  pub lent : LentBy a

module _ (c : Call) (s : State) (t h w : List ℕ) (S : Sheets) where
  on_with : (on_sheets (step_of c) s t h w S).plain.answer.number ≡ 0 → WithLeft (step_of c) s t h w S (on_sheets (step_of c) s t h w S)
  on_with e =
      let f = step_of c in
      let a = on_sheets f s t h w S in
      let L = with_accepted s t h w S f e in
      let same : a.plain ≡ on_state f s t h w = with_plain s t h w S f L in
      let A : Accepted f s t h w a.plain =
      rw same (on_left f s t h w (leads c) (ap (λ (x : After). x.answer.number) (sym same) ∙ e)) in
      let base = same_base (leads c) L.lent.pyramid A.gave in
      let sheets = with_sheets s t h w S f L A.gave in
      let moved = step_moves c s (table_of s t) (past_of s h) A.gave in
      let long : Long s.darts (s.darts / 2) S = record { sheet = L.sheet; kept = L.kept } in
      let P = L.lent.pyramid in
      let O = A.left.lent.pyramid in
      let after = moved_long P O A.left.darts base S long moved in
      let given = moved_given P O A.left.darts base S long moved L.given in
      record {
        before = L;
        plain = A;
        base = base;
        sheets = sheets;
        lent = record {
          lent = A.left.lent;
          sheet = rw (sheets, A.left.darts) after.sheet;
          kept = rw (sheets, A.left.darts) after.kept;
          given = rw (sheets, A.left.darts, base) given;
        };
      }

  -- AN ACCEPTED CALL LEAVES WHAT THE PLAIN CALL LEAVES, AND SHEETS THAT THE NEXT CALL TAKES
  pub with_left : (called_with c s t h w S).plain.answer.number ≡ 0 → WithLeft (step_of c) s t h w S (called_with c s t h w S)
  with_left = rw (called_with_lem c) on_with

-- ---- calls that are the same without sheets

pub costed_path : {a b : Costed} → a.plain ≡ b.plain → a.sheets ≡ b.sheets → a ≡ b
costed_path p q = λ i. record { plain = p i; sheets = q i }

module _ (c d : Call) (s : State) (t h w : List ℕ) (S : Sheets) (same : called c s t h w ≡ called d s t h w) where
  abbrev a : Costed
  a = called_with c s t h w S

  abbrev o : Costed
  o = called_with d s t h w S

  left_alone : (x : Call) → (called_with x s t h w S).plain.answer.number ≢ 0 → (called_with x s t h w S).sheets ≡ S
  left_alone x = rw (called_with_lem x) (state_refused s t h w S (step_of x))

  judged_away : (x : Call) → (judged s t h w S).number ≢ 0 → called_with x s t h w S ≡ on_sheets (step_of d) s t h w S
  judged_away x n = rw (called_with_lem x) (with_refused s t h w S (step_of x) n ∙ sym (with_refused s t h w S (step_of d) n))

  -- WHAT A CALL DOES TO THE STATE AND THE SLICES TELLS WHAT IT DOES TO THE SHEETS
  pub plain_tells : a ≡ o
  plain_tells = go (ℕ_discrete (judged s t h w S).number 0)
    where
      plainly : LentWith s t h w S → a.plain ≡ o.plain
      plainly L = called_plain c s t h w S L ∙ same ∙ sym (called_plain d s t h w S L)

      sheets : a.plain ≡ o.plain → Dec (a.plain.answer.number ≡ 0) → a.sheets ≡ o.sheets
      sheets p (yes e) =
          let z : o.plain.answer.number ≡ 0 = ap (λ (x : After). x.answer.number) (sym p) ∙ e in
          (with_left c s t h w S e).sheets ∙ ap (λ (x : After). carried_to s.darts (base_in s t h) (past_of s h) (past_of x.state x.history) S) p
          ∙ sym (with_left d s t h w S z).sheets
      sheets p (no n) = left_alone c n ∙ sym (left_alone d (λ e. n (ap (λ (x : After). x.answer.number) p ∙ e)))

      go : Dec ((judged s t h w S).number ≡ 0) → a ≡ o
      go (no n) = judged_away c n ∙ sym (judged_away d n)
      go (yes z) =
          let p = plainly (judged_done s t h w S z) in
          costed_path p (sheets p (ℕ_discrete a.plain.answer.number 0))
