-- An operation taken back in the work area is the undo of document 01.
--   TakenBack D n w v == v is w once the last of n + 1 operations is undone: table, and what has not changed
--   fits_right        == the work area's tests 6 to 15 are those of the table
--   taken_back_lem        == so an operation that fits is taken back
use mathlib.Core.Bool.{not, ◌&&◌}
use mathlib.Core.List.{List, ◌∷◌}
use mathlib.Core.Logic.{◌≢◌, ◌↔◌, ◌⊎◌, inl, inr, ⊎_elim}
use mathlib.Core.Path.{◌≡◌, refl, sym, ap, ◌∙◌, subst}
use Prim.Native.Nat.{ℕ, suc, ◌*◌, ◌/◌, ◌%◌, ◌≤◌, ◌<◌}
use native.Mathlib.Decide.{ℕ_discrete}
use native.Mathlib.Omega.{arith}
use lib.Dec.{T, eqb, T_not}
use lib.ListN.{length, set, drop}
use lib.Seq.{set-get_or, get_or-set_other}
use Rattle.permutations.specs.Choice.{not_T→false, eqb_same, eqb_other, and_left, and_right, eqb_iff}
use Rattle.permutations.specs.Partner.{partner, End}
use Rattle.permutations.proofs.PartnerLemmas.{partner_below, partner_ne}
use Rattle.darts.specs.Map.{successor, gone, live}
use Rattle.darts.specs.Operation.{Kind, kind_of, lead_of, undo_one}
use Rattle.darts.specs.Tests.{numbered, near, far, fits as fits_of}
use Rattle.area.specs.Area.{prev, there, stamp, table_in, past_in}
use Rattle.operations.specs.Back.{fits, inserted, taken_back}
use Rattle.laws.specs.Standing.{Standing}
use Rattle.laws.proofs.bridge.Standing.{live_iff}
use Rattle.laws.proofs.bridge.AnyKind.{near_far, of_near_far, apart_iff, near_of, near_end}
use Rattle.laws.proofs.tests.Fits.{any_order}
use Rattle.laws.proofs.bridge.Relink.{near_entry, far_entry, put_back_one, put_back_two}
use Rattle.engine.specs.Held.{Area}
use Rattle.engine.proofs.Edges.{live_cons, gone_end, not_gone_live, numbered_cons}
use Rattle.engine.proofs.Parts.{Noted, successor_in, past_rest}
use Rattle.engine.proofs.Area.{there_live, prev_live, prev_leads, leads_live, live_noted, noted_known, area_of, room_kept, past_last}
use Rattle.engine.proofs.Rebound.{Rebound}
use Rattle.engine.proofs.Inserted.{Onward, Gap, inserted_rebound, inserted_noted}

-- from the forest's part on nothing changes
pub record TakenBack (D n : ℕ) (w v : List ℕ) : Type 0 where
  pub table : table_in D v ≡ undo_one D (table_in D w) (stamp D w n) (past_in D n w)
  pub past : past_in D n v ≡ past_in D n w
  pub rest : drop (2 * D) v ≡ drop (2 * D) w
  pub size : length v ≡ length w
  pub area : Standing D (undo_one D (table_in D w) (stamp D w n) (past_in D n w)) (past_in D n w) → Area D n v

-- ---- writing what stands there already

set_back : (t : List ℕ) (i v : ℕ) → successor t i ≡ v → set t i v ≡ t
unfolding successor
set_back t i v e = rw (← e) (set-get_or t i 0)

set_else : (t : List ℕ) (a v i : ℕ) → i ≢ a → successor (set t a v) i ≡ successor t i
unfolding successor
set_else t a v i n = get_or-set_other t a i v 0 n

module _ {D n : ℕ} {w : List ℕ} (A : Area D (suc n) w) where
  abbrev h : ℕ
  h = stamp D w n

  abbrev k : Kind
  k = kind_of h

  abbrev p : ℕ
  p = h / 2

  abbrev q : ℕ
  q = partner p

  abbrev t : List ℕ
  t = table_in D w

  abbrev past : List ℕ
  past = past_in D n w

  abbrev now : List ℕ
  now = past_in D (suc n) w

  abbrev x : ℕ
  x = near k (successor w p) (successor w q)

  abbrev y : ℕ
  y = far k (successor w p) (successor w q)

  now_is : now ≡ h ∷ past
  now_is = past_last A

  numbers : (h < 2 * D) × ((¬ T (gone past p)) × T (numbered D past))
  unfolding lead_of
  numbers = (numbered_cons D h past).0 (rw now_is at A.numbers)

  p_d : p < D
  p_d = omega (arith, numbers.0)

  q_d : q < D
  q_d = partner_below D p p_d A.room.even

  p_live : T (live D past p)
  p_live = not_gone_live D past p p_d (not_T→false (gone past p) numbers.1.0)

  q_live : T (live D past q)
  q_live = not_gone_live D past q q_d (gone_end past (inr refl) ∙ not_T→false (gone past p) numbers.1.0)

  now_live : (z : ℕ) → T (live D now z) ↔ (T (live D past z) × (¬ End p z))
  now_live z = let e : h / 4 ≡ p / 2 = omega arith in rw now_is (live_cons D h past p z e)

  reach : (z : ℕ) → z < D → successor w z < D
  reach z l = rw (← (successor_in D w z l)) (A.stands.inside z l)

  xy_small : (x < D) × (y < D)
  xy_small = near_far (λ z. z < D) k (reach p p_d) (reach q q_d)

  -- ---- the tests

  here : (z : ℕ) → z < D → there D w z ≡ live D (h ∷ past) z
  here z l = there_live A z l ∙ ap (λ s. live D s z) now_is

  -- THE TESTS ARE THOSE OF THE TABLE
  pub fits_right : fits D w h ≡ fits_of D t h past
  unfolding fits fits_of lead_of
  fits_right =
      rw (
        successor_in D w p p_d,
        successor_in D w q q_d,
        any_order (live D (h ∷ past)) k (successor w p) (successor w q),
        here x xy_small.0,
        here y xy_small.1,
      )

  fit_one : x ≡ q → T (fits D w h) → T (live D now y)
  unfolding fits
  fit_one c f = rw (eqb_same c, there_live A y xy_small.1) at f

  fit_two : x ≢ q → T (fits D w h) → T (live D now x) × T (live D now y) × (x ≢ y)
  unfolding fits
  fit_two c f =
      let f₁ = rw (eqb_other c) at f in
      let f₂ = and_right (eqb (p % 2) 0) (there D w x && (there D w y && not (eqb x y))) f₁ in
      let f₃ = and_right (there D w x) (there D w y && not (eqb x y)) f₂ in (
        rw (there_live A x xy_small.0) at (and_left (there D w x) (there D w y && not (eqb x y)) f₂),
        rw (there_live A y xy_small.1) at (and_left (there D w y) (not (eqb x y)) f₃),
        λ e. T_not (eqb x y) (and_right (there D w y) (not (eqb x y)) f₃) ((eqb_iff x y).1 e),
      )

  -- ---- the gap

  away : (z : ℕ) → T (live D past z) → ¬ End p z → ¬ End p (successor w z)
  away z l m = ((now_live (successor w z)).0 (leads_live A z ((now_live z).1 (l, m)))).1

  onward : (a b c : ℕ) → T (live D now c) → (a ≡ prev D w c) ⊎ (b ≡ prev D w c) → Onward D past w p a b c
  onward a b c l at =
      let i = (now_live c).0 l in
      record {
        lives = i.0;
        not_p = λ e. i.1 (inl (sym e));
        not_q = λ m e. i.1 (inr (sym e));
        only = λ z j m za zb e.
            let f = sym (live_noted A z ((now_live z).1 (j, m))) ∙ ap (prev D w) e in
            ⊎_elim (λ g. za (f ∙ sym g)) (λ g. zb (f ∙ sym g)) at;
      }

  over : (a b : ℕ) → x ≡ q → End p b → Onward D past w p a b x
  over a b c at = record {
    lives = rw c q_live;
    not_p = λ e. partner_ne p (e ∙ c);
    not_q = λ m. absurd (m at);
    only = λ z j m za zb e. away z j m (inr (e ∙ c));
  }

  gap : (a b : ℕ) → a < D → b < D → x ≢ y → Onward D past w p a b x → Onward D past w p a b y → Gap D past w p (successor w p) (successor w q) a b
  gap a b a_d b_d n i j =
      let o = of_near_far (Onward D past w p a b) k (successor w p) (successor w q) i j in
      record {
        p_lives = p_live;
        q_lives = q_live;
        r_on = o.0;
        s_on = o.1;
        apart = (apart_iff k (successor w p) (successor w q)).0 n;
        a_small = a_d;
        b_small = b_d;
        noted = λ z l m. live_noted A z ((now_live z).1 (l, m));
        away = away;
      }

  prev_small : (z : ℕ) → T (live D now z) → prev D w z < D
  prev_small z l = ((live_iff D now (prev D w z)).0 (prev_live A z l)).0

  gap_one : x ≡ q → T (live D now y) → Gap D past w p (successor w p) (successor w q) (prev D w y) (near k p q)
  gap_one c l =
      gap (prev D w y) (near k p q) (prev_small y l) (near_far (λ z. z < D) k p_d q_d).0 (λ e. ((now_live y).0 l).1 (inr (sym e ∙ c)))
      (over (prev D w y) (near k p q) c (near_end k p).0) (onward (prev D w y) (near k p q) y l (inl refl))

  gap_two : T (live D now x) → T (live D now y) → x ≢ y → Gap D past w p (successor w p) (successor w q) (prev D w x) (prev D w y)
  gap_two i j n =
      gap (prev D w x) (prev D w y) (prev_small x i) (prev_small y j) n
      (onward (prev D w x) (prev D w y) x i (inl refl)) (onward (prev D w x) (prev D w y) y j (inr refl))

  -- ---- the table

  in_t : (near_entry k t p ≡ x) × (far_entry k t p ≡ y)
  in_t = (rw (successor_in D w p p_d, successor_in D w q q_d), rw (successor_in D w p p_d, successor_in D w q q_d))

  undo_one_lem : x ≡ q → T (live D now y) → undo_one D t h past ≡ set t (prev D w y) p
  unfolding undo_one lead_of
  undo_one_lem c l = rw (← now_is, A.known y l) (rw in_t.1 at (put_back_one D t now p k (in_t.0 ∙ c)))

  undo_two : x ≢ q → T (live D now x) → T (live D now y) → x ≢ y → undo_one D t h past ≡ set (set t (prev D w x) p) (prev D w y) q
  unfolding undo_one lead_of
  undo_two c i j n =
      rw (← now_is, A.known x i, A.known y j)
      (rw (in_t.0, in_t.1) at (put_back_two D t now p k (λ e. c (sym in_t.0 ∙ e))
      (rw (in_t.0, in_t.1, ← (A.known x i), ← (A.known y j)) (λ e. n (sym (prev_leads A x i) ∙ ap (successor w) e ∙ prev_leads A y j)))))

  -- p and q lead where they did
  written : (u : List ℕ) → successor u p ≡ successor t p → successor u q ≡ successor t q → set (set u p (successor w p)) q (successor w q) ≡ u
  written u i j =
      rw (set_back u p (successor w p) (i ∙ successor_in D w p p_d)) (set_back u q (successor w q) (j ∙ successor_in D w q q_d))

  abbrev put : ℕ → ℕ → List ℕ
  put a b = inserted D w p q (successor w p) (successor w q) a b

  back_one : x ≡ q → T (live D now y) → Rebound D past w (put (prev D w y) (near k p q)) (undo_one D t h past)
  back_one c l = subst (Rebound D past w (put a b)) same (inserted_rebound (gap_one c l))
    where
      a : ℕ
      a = prev D w y

      b : ℕ
      b = near k p q

      not_a : {z : ℕ} → End p z → z ≢ a
      not_a m e = ((now_live a).0 (prev_live A y l)).1 (rw e at m)

      same : set (set (set (set t a p) b q) p (successor w p)) q (successor w q) ≡ undo_one D t h past
      same =
          let i : successor t b ≡ q = successor_in D w b (near_far (λ z. z < D) k p_d q_d).0 ∙ sym (near_of k (successor w) p q) ∙ c in
          rw (set_back (set t a p) b q (set_else t a p b (not_a (near_end k p).0) ∙ i))
          (written (set t a p) (set_else t a p p (not_a (inl refl))) (set_else t a p q (not_a (inr refl))) ∙ sym (undo_one_lem c l))

  back_two : x ≢ q → T (live D now x) → T (live D now y) → x ≢ y → Rebound D past w (put (prev D w x) (prev D w y)) (undo_one D t h past)
  back_two c i j n = subst (Rebound D past w (put a b)) same (inserted_rebound (gap_two i j n))
    where
      a : ℕ
      a = prev D w x

      b : ℕ
      b = prev D w y

      u : List ℕ
      u = set (set t a p) b q

      kept : {z : ℕ} → End p z → successor u z ≡ successor t z
      kept {z} m =
          let away : (c : ℕ) → T (live D now c) → z ≢ prev D w c = λ c l e. ((now_live (prev D w c)).0 (prev_live A c l)).1 (rw e at m) in
          set_else (set t a p) b q z (away y j) ∙ set_else t a p z (away x i)

      same : set (set u p (successor w p)) q (successor w q) ≡ undo_one D t h past
      same = written u (kept (inl refl)) (kept (inr refl)) ∙ sym (undo_two c i j n)

  -- ---- the operation taken back

  module _ (fine : T (fits D w h)) where
    back_rebound : Rebound D past w (taken_back D w h) (undo_one D t h past)
    unfolding taken_back
    back_rebound = go (ℕ_discrete x q)
      where
        go : Dec (x ≡ q) → Rebound D past w (taken_back D w h) (undo_one D t h past)
        go (yes c) = rw (eqb_same c) (back_one c (fit_one c fine))
        go (no c) = let f = fit_two c fine in rw (eqb_other c) (back_two c f.0 f.1 f.2)

    back_noted : (z : ℕ) → T (live D past z) → Noted D (taken_back D w h) z
    unfolding taken_back
    back_noted z l = go (ℕ_discrete x q)
      where
        room : 2 * D ≤ length w
        room = omega (arith, A.room.fits)

        go : Dec (x ≡ q) → Noted D (taken_back D w h) z
        go (yes c) = rw (eqb_same c) (inserted_noted (gap_one c (fit_one c fine)) room z l)
        go (no c) = let f = fit_two c fine in rw (eqb_other c) (inserted_noted (gap_two f.0 f.1 f.2) room z l)

    back_area : Standing D (undo_one D t h past) past → Area D n (taken_back D w h)
    back_area S =
        let v : List ℕ = taken_back D w h in
        let held : Standing D (table_in D v) past = rw back_rebound.holds S in
        area_of n v (past_rest D n v w back_rebound.rest) (room_kept w v back_rebound.size A.room) (omega (arith, A.few)) numbers.1.1
        held (noted_known v held back_noted) (λ z z_d m. rw (back_rebound.others z m) (A.gones z z_d (λ l. m ((now_live z).0 l).0)))

    -- SO AN OPERATION THAT FITS IS TAKEN BACK
    pub taken_back_lem : TakenBack D n w (taken_back D w h)
    taken_back_lem = record {
      table = back_rebound.holds;
      past = past_rest D n (taken_back D w h) w back_rebound.rest;
      rest = back_rebound.rest;
      size = back_rebound.size;
      area = back_area;
    }
