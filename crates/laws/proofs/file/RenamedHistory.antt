-- The operations of a history, done and undone in renamed tables.
--   Evens ν past     == the lead of each operation of the past has an even new number
--   Done D u past h  == in the table u the operation h may be done, and has that history number
--   Tracked R t past == the past can be undone and done again, each operation is legal, and its lead has an even new number
use mathlib.Core.List.{List, [], ◌∷◌, map}
use mathlib.Core.Path.{◌≡◌, refl, sym, ap, ap₂, ◌∙◌, subst}
use Prim.Native.Nat.{ℕ, zero, suc, ◌/◌, ◌%◌}
use lib.Dec.{T}
use lib.ListN.{drop}
use Rattle.darts.specs.Operation.{Kind, lead, operate, number, kind_of, lead_of, edge_of, undo_one, undone}
use Rattle.darts.specs.Kernel.{judge}
use Rattle.darts.specs.Tests.{numbered}
use Rattle.laws.specs.Standing.{Standing}
use Rattle.laws.proofs.bridge.Standing.{live}
use Rattle.laws.proofs.bridge.Judged.{judge_legal}
use Rattle.laws.proofs.bridge.Numbers.{number_kind, number_lead, number_edge}
use Rattle.laws.proofs.bridge.Lead.{lead_leads}
use Rattle.laws.proofs.bridge.Operate.{operate_stands, undo_operate}
use Rattle.laws.proofs.tests.Fits.{numbered_iff}
use Rattle.laws.proofs.tests.Back.{Redo}
use Rattle.laws.proofs.tests.Replays.{Trail, Allowed, redo_fine}
use Rattle.laws.proofs.tests.Rebuilt.{Goes}
use Rattle.laws.proofs.Lists.{Each}
use Rattle.laws.proofs.file.Renamed.{Renaming, renamed}
use Rattle.laws.proofs.file.RenamedMap.{renumbered, renamed_stands}
use Rattle.laws.proofs.file.RenamedOperation.{judge_renamed, lead_renamed, operate_renamed}

abbrev pub Evens : (ℕ → ℕ) → List ℕ → Type 0
Evens ν = Each (λ h. ν (lead_of h) % 2 ≡ 0)

record Done (D : ℕ) (u past : List ℕ) (h : ℕ) : Type 0 where
  fine : judge (kind_of h) D u past (edge_of h) ≡ 0
  same : number (kind_of h) (lead (kind_of h) u (edge_of h)) ≡ h

pub renumbered_kind : (ν : ℕ → ℕ) (h : ℕ) → kind_of (renumbered ν h) ≡ kind_of h
unfolding renumbered
renumbered_kind ν h = number_kind (kind_of h) (ν (lead_of h))

module _ {D : ℕ} {order : List ℕ} {ν : ℕ → ℕ} (R : Renaming D order ν) where
  -- ---- one operation

  module _ {u past : List ℕ} (S : Standing D u past) (N : T (numbered D past)) (h : ℕ) (d : Done D u past h) (even : ν (lead_of h) % 2 ≡ 0) where
    abbrev u' : List ℕ
    u' = renamed order ν u

    abbrev past' : List ℕ
    past' = map (renumbered ν) past

    abbrev k : Kind
    k = kind_of h

    lead_h : lead k u (edge_of h) ≡ lead_of h
    lead_h = sym (number_lead k (lead k u (edge_of h))) ∙ ap lead_of d.same

    even' : ν (lead k u (edge_of h)) % 2 ≡ 0
    even' = rw lead_h even

    abbrev e' : ℕ
    e' = ν (lead k u (edge_of h)) / 2

    number' : number k (lead k u' e') ≡ renumbered ν h
    unfolding renumbered
    number' = ap (number k) (lead_renamed R S N k (edge_of h) d.fine even' ∙ ap ν lead_h)

    edge' : edge_of (renumbered ν h) ≡ e'
    edge' = ap edge_of (sym number') ∙ number_edge k u' e'

    done_renamed : Done D u' past' (renumbered ν h)
    done_renamed = record {
      fine = rw (renumbered_kind ν h, edge') (judge_renamed R S N k (edge_of h) d.fine even');
      same = rw (renumbered_kind ν h, edge') number';
    }

    table_renamed : operate (kind_of (renumbered ν h)) D u' past' (edge_of (renumbered ν h)) ≡ renamed order ν (operate k D u past (edge_of h))
    table_renamed = rw (renumbered_kind ν h, edge') (operate_renamed R S N k (edge_of h) d.fine even')

  -- ---- the operations of a history, first to last

  pub goes_renamed : {u past : List ℕ} → Standing D u past → T (numbered D past) → (hs t : List ℕ) → Evens ν hs → Goes D u past hs t
      → Goes D (renamed order ν u) (map (renumbered ν) past) (map (renumbered ν) hs) (renamed order ν t)
  goes_renamed S N [] t E g = ap (renamed order ν) g
  goes_renamed {u} {past} S N (h ∷ hs) t E g =
      let d : Done D u past h = record { fine = g.0; same = g.1.0 } in
      let k = kind_of h in
      let e = edge_of h in
      let lives = (lead_leads S k e ((judge_legal S k e).0 g.0)).lives in
      let stands = subst (λ n. Standing D (operate k D u past e) (n ∷ past)) g.1.0 (operate_stands S k e g.0) in
      let numbers = (numbered_iff D h past).1 (subst (λ x. T (live D past x)) (lead_h S N h d E.0) lives, N) in
      let d' = done_renamed S N h d E.0 in (
        d'.fine,
        (
          d'.same,
          subst (λ w. Goes D w (map (renumbered ν) (h ∷ past)) (map (renumbered ν) hs) (renamed order ν t)) (sym (table_renamed S N h d E.0))
              (goes_renamed {u = operate k D u past e} {past = h ∷ past} stands numbers hs t E.1 g.1.1),
        ),
      )

  -- ---- undo

  undo_renamed : {t past : List ℕ} {h : ℕ} → Redo D t h past (undo_one D t h past) → T (numbered D past)
      → judge (kind_of h) D (undo_one D t h past) past (edge_of h) ≡ 0 → ν (lead_of h) % 2 ≡ 0
      → undo_one D (renamed order ν t) (renumbered ν h) (map (renumbered ν) past) ≡ renamed order ν (undo_one D t h past)
  undo_renamed {t} {past} {h} Q N fine even =
      let u = undo_one D t h past in
      let d : Done D u past h = record { fine = fine; same = Q.same } in
      let S = Q.standing in
      let d' = done_renamed S N h d even in
      let h' = renumbered ν h in
      let past' = map (renumbered ν) past in
      sym (ap₂ (λ w n. undo_one D w n past') (table_renamed S N h d even ∙ ap (renamed order ν) Q.again) d'.same)
      ∙ undo_operate (renamed_stands R S.even S N) (kind_of h') (edge_of h') d'.fine

  pub record Tracked (t past : List ℕ) : Type 0 where
    pub trail : Trail D t past
    pub allowed : Allowed D t past
    pub numbers : T (numbered D past)
    pub evens : Evens ν past

  tracked_undo : {t : List ℕ} {h : ℕ} {past : List ℕ} → Tracked t (h ∷ past) → Tracked (undo_one D t h past) past
  tracked_undo {t} {h} {past} K = record {
    trail = K.trail.1;
    allowed = K.allowed.1;
    numbers = ((numbered_iff D h past).0 K.numbers).1;
    evens = K.evens.1;
  }

  -- UNDO OF A RENAMED TABLE IS THE RENAMED UNDO
  pub undone_renamed : (n : ℕ) {t : List ℕ} (past : List ℕ) → Tracked t past
      → undone D n (renamed order ν t) (map (renumbered ν) past) ≡ renamed order ν (undone D n t past)
  unfolding undone
  undone_renamed zero past K = refl
  undone_renamed (suc n) [] K = refl
  undone_renamed (suc n) {t} (h ∷ past) K =
      let one = undo_renamed K.trail.0 (tracked_undo K).numbers (redo_fine K.trail.0 K.allowed.0) K.evens.0 in
      ap (λ w. undone D n w (map (renumbered ν) past)) one ∙ undone_renamed n past (tracked_undo K)

  pub tracked_back : (n : ℕ) {t : List ℕ} (past : List ℕ) → Tracked t past → Tracked (undone D n t past) (drop n past)
  unfolding undone
  tracked_back zero past K = K
  tracked_back (suc n) [] K = K
  tracked_back (suc n) (h ∷ past) K = tracked_back n past (tracked_undo K)

  pub tracked_stands : (n : ℕ) {t : List ℕ} (past : List ℕ) → Standing D t past → Tracked t past → Standing D (undone D n t past) (drop n past)
  unfolding undone
  tracked_stands zero past S K = S
  tracked_stands (suc n) [] S K = S
  tracked_stands (suc n) (h ∷ past) S K = tracked_stands n past K.trail.0.standing (tracked_undo K)
