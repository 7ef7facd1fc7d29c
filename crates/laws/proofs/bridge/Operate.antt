-- An operation on a table is the mathematics' operation on its map, and undo returns every entry. While p leads the operation,
--   q       == its partner
--   r, s    == the near one and the far one of the entries of p and q
--   a, b    == the darts before p and before q
--   f       == the successor in the map
--   new     == the table after the operation
--   new_past == the past with the operation
use mathlib.Core.List.{List, ◌∷◌}
use mathlib.Core.Logic.{◌≢◌, ◌⊎◌, inl, inr, ⊎_elim}
use mathlib.Core.Path.{◌≡◌, refl, sym, ap, ap₂, ◌∙◌, subst, fun_ext}
use Prim.Native.Nat.{ℕ, ◌*◌, ◌<◌}
use native.Mathlib.Decide.{ℕ_discrete}
use lib.Dec.{T, eqb}
use lib.ListN.{length, set}
use Rattle.permutations.specs.Choice.{pick, T?, T→true, not_T→false, eqb_same, eqb_other}
use Rattle.permutations.specs.Partner.{partner, End}
use Rattle.permutations.proofs.PartnerLemmas.{partner_ne}
use Rattle.permutations.specs.Perm.{Perm}
use Rattle.permutations.specs.Map.{Good, off_edge, off_edge_other, map_path, partner_live, partner_small}
use Rattle.permutations.proofs.MapLemmas.{off_edge_not_end, off_edge_was}
use Rattle.permutations.proofs.Legal.{act, after, Legal}
use Rattle.darts.specs.Map.{successor, before}
use Rattle.darts.specs.Operation.{Kind, lead, operate, number, put_back, undo_one}
use Rattle.darts.specs.Kernel.{judge}
use Rattle.darts.specs.Tests.{near}
use Rattle.laws.specs.Standing.{map_of, Standing}
use Rattle.laws.proofs.bridge.Standing.{live, op_of, next_entry}
use Rattle.laws.proofs.bridge.Before.{before_live, before_leads, before_only}
use Rattle.laws.proofs.bridge.Judged.{judge_legal}
use Rattle.laws.proofs.bridge.Numbers.{number_kind, number_lead, live_after}
use Rattle.laws.proofs.bridge.AnyKind.{near_far, near_of, near_end, end_near, after_before_p, after_before_q, after_other, dart_op, good_after}
use Rattle.laws.proofs.bridge.Relink.{near_entry, far_entry, relinked, operate_relinks, put_back_one, put_back_two, relinked_length, relinked_a, relinked_b, relinked_else, relinked_below, one_back, two_back}
use Rattle.laws.proofs.bridge.Lead.{Leading, lead_leads, act_lead}

module _ {D : ℕ} {t past : List ℕ} (S : Standing D t past) (k : Kind) (p : ℕ) (L : Leading k D t past p) where
  abbrev q : ℕ
  q = partner p

  abbrev r : ℕ
  r = near_entry k t p

  abbrev s : ℕ
  s = far_entry k t p

  abbrev a : ℕ
  a = before D t past p

  abbrev b : ℕ
  b = before D t past q

  abbrev f : ℕ → ℕ
  f = (map_of D t past).next

  abbrev new : List ℕ
  new = relinked t a b q r s

  abbrev new_past : List ℕ
  new_past = number k p ∷ past

  -- ---- the edge, and the darts before p and q

  pub end_live : {x : ℕ} → End p x → T (live D past x)
  end_live (inl e) = subst (λ y. T (live D past y)) (sym e) L.lives
  end_live (inr e) = subst (λ y. T (live D past y)) (sym e) (partner_live S.good p L.lives)

  live_below : (x : ℕ) → T (live D past x) → x < length t
  live_below x h = rw S.size (S.good.small x h)

  a_live : T (live D past a)
  a_live = before_live S p L.lives

  a_leads : successor t a ≡ p
  a_leads = before_leads S p L.lives

  b_live : T (live D past b)
  b_live = before_live S q (end_live (inr refl))

  b_leads : successor t b ≡ q
  b_leads = before_leads S q (end_live (inr refl))

  ab : a ≢ b
  ab e = partner_ne p (sym a_leads ∙ ap (successor t) e ∙ b_leads)

  -- an end of the edge leads to r or to s
  end_leads : {x : ℕ} → End p x → (r ≡ successor t x) ⊎ (s ≡ successor t x)
  end_leads e =
      ⊎_elim (λ g. inl (near_of k (successor t) p q ∙ ap (successor t) (sym g)))
      (λ g. inr (near_of k (successor t) q p ∙ ap (successor t) (sym g))) (end_near k e)

  -- the darts that are written are not on the edge
  pub a_away : ¬ End p a
  a_away e = ⊎_elim (λ z. L.p_not_p (z ∙ a_leads)) (λ z. L.q_not_p (z ∙ a_leads)) (end_leads e)

  pub b_away : r ≢ q → ¬ End p b
  b_away n e = ⊎_elim (λ z. n (z ∙ b_leads)) (λ z. L.q_not_q (z ∙ b_leads)) (end_leads e)

  b_end : r ≡ q → End p b
  b_end e =
      let n = (near_end k p).0 in
      subst (End p) (before_only S q (near k p q) (end_live n) (sym (near_of k (successor t) p q) ∙ e)) n

  -- ---- the new entries

  pub new_a : successor new a ≡ pick (eqb r q) s r
  new_a = relinked_a t a b q r s ab (live_below a a_live)

  pub new_b : r ≢ q → successor new b ≡ s
  new_b n = relinked_b t a b q r s (live_below b b_live) n

  -- the entries of p and q are left as they stand
  pub new_end : {x : ℕ} → End p x → successor new x ≡ successor t x
  new_end e = relinked_else t a b q r s _ (λ z. a_away (subst (End p) z e)) (λ n z. b_away n (subst (End p) z e))

  -- a survivor's new entry is where the mathematics' operation leads
  new_entry : (x : ℕ) → T (live D past x) → ¬ End p x → successor new x ≡ after (op_of k p) f x
  new_entry x h away = go (ℕ_discrete (successor t x) p) (ℕ_discrete (successor t x) q)
    where
      π : Perm D f
      π = S.good.perm

      p_d : p < D
      p_d = S.good.small p L.lives

      q_d : q < D
      q_d = partner_small S.good p L.lives

      fx : f x ≡ successor t x
      fx = next_entry S x h

      fp : f p ≡ successor t p
      fp = next_entry S p L.lives

      fq : f q ≡ successor t q
      fq = next_entry S q (end_live (inr refl))

      go : Dec (successor t x ≡ p) → Dec (successor t x ≡ q) → successor new x ≡ after (op_of k p) f x
      go (yes e) d =
          ap (successor new) (before_only S p x h e) ∙ new_a ∙ sym (after_before_p π p_d q_d away k (fx ∙ e) ∙ rw (fp, fq))
      go (no m) (yes e) =
          let xb = before_only S q x h e in
          ap (successor new) xb ∙ new_b (λ z. away (subst (End p) (sym xb) (b_end z)))
          ∙ sym (after_before_q π p_d q_d away k (fx ∙ e) ∙ rw (fp, fq, eqb_other L.q_not_p))
      go (no m) (no n) =
          relinked_else t a b q r s x (λ z. m (ap (successor t) z ∙ a_leads)) (λ u z. n (ap (successor t) z ∙ b_leads))
          ∙ sym (after_other π p_d q_d away k (λ z. m (sym fx ∙ z)) (λ z. n (sym fx ∙ z)) ∙ fx)

  -- ---- the new map

  new_live : (x : ℕ) → live D new_past x ≡ off_edge (live D past) p x
  new_live x = ap (λ l. l x) (live_after k D past p)

  pub stay_live : (x : ℕ) → T (live D past x) → ¬ End p x → T (live D new_past x)
  stay_live x h away = subst T (sym (new_live x ∙ off_edge_other (live D past) away)) h

  new_next : (x : ℕ) → Dec (T (off_edge (live D past) p x)) → pick (live D new_past x) (successor new x) x ≡ after (op_of k p) f x
  new_next x (yes h) = rw (new_live x, T→true (off_edge (live D past) p x) h) (new_entry x (off_edge_was (live D past) p x h) (off_edge_not_end (live D past) h))
  new_next x (no n) = rw (new_live x, not_T→false (off_edge (live D past) p x) n) (sym ((good_after S.good p L.lives k).gone x (rw (dart_op k p) n)))

  relinked_acts : map_of D new new_past ≡ act (map_of D t past) (op_of k p)
  relinked_acts = map_path (live_after k D past p ∙ ap (off_edge (live D past)) (sym (dart_op k p))) (fun_ext (λ x. new_next x (T? (off_edge (live D past) p x))))

  relinked_stands : Standing D new new_past
  relinked_stands = record {
    even = S.even;
    size = relinked_length t a b q r s ∙ S.size;
    inside = λ x h. relinked_below t a b q r s D x (rw S.size h) reach.0 reach.1 (S.inside x h);
    good = subst (Good D) (sym relinked_acts) (good_after S.good p L.lives k);
  }
    where
      reach : (r < D) × (s < D)
      reach = near_far (λ x. x < D) k (S.inside p (S.good.small p L.lives)) (S.inside q (partner_small S.good p L.lives))

  -- ---- undo

  -- the dart before z now is the survivor that leads to z
  before_new : (z x : ℕ) → T (live D past x) → ¬ End p x → successor new x ≡ z → before D new new_past z ≡ x
  before_new z x h away e = sym (before_only relinked_stands z x (stay_live x h away) e)

  relinked_undone : put_back k D new new_past p ≡ t
  relinked_undone = go (ℕ_discrete r q)
    where
      same_r : near_entry k new p ≡ r
      same_r = ap₂ (near k) (new_end (inl refl)) (new_end (inr refl))

      same_s : far_entry k new p ≡ s
      same_s = ap₂ (near k) (new_end (inr refl)) (new_end (inl refl))

      go : Dec (r ≡ q) → put_back k D new new_past p ≡ t
      go (yes e) =
          let at : before D new new_past (far_entry k new p) ≡ a =
          ap (before D new new_past) same_s ∙ before_new s a a_live a_away (new_a ∙ rw (eqb_same e)) in
          put_back_one D new new_past p k (same_r ∙ e) ∙ ap₂ (set new) at (sym a_leads) ∙ one_back t a b q r s e
      go (no n) =
          let at_a : before D new new_past (near_entry k new p) ≡ a =
          ap (before D new new_past) same_r ∙ before_new r a a_live a_away (new_a ∙ rw (eqb_other n)) in
          let at_b : before D new new_past (far_entry k new p) ≡ b = ap (before D new new_past) same_s ∙ before_new s b b_live (b_away n) (new_b n) in
          put_back_two D new new_past p k (λ z. n (sym same_r ∙ z)) (λ z. ab (sym at_a ∙ z ∙ at_b))
          ∙ ap₂ (λ i j. set (set new i p) j q) at_a at_b ∙ ap₂ (λ u v. set (set new a u) b v) (sym a_leads) (sym b_leads) ∙ two_back t a b q r s ab n

module _ {D : ℕ} {t past : List ℕ} (S : Standing D t past) (k : Kind) (e : ℕ) (fine : judge k D t past e ≡ 0) where
  legal : Legal (map_of D t past) (op_of k (2 * e))
  legal = (judge_legal S k e).0 fine

  pub leads : Leading k D t past (lead k t e)
  leads = lead_leads S k e legal

  -- AN OPERATION ON THE TABLE IS THE MATHEMATICS' OPERATION ON THE MAP
  pub operate_acts : map_of D (operate k D t past e) (number k (lead k t e) ∷ past) ≡ act (map_of D t past) (op_of k (2 * e))
  operate_acts =
      ap (λ n. map_of D n (number k (lead k t e) ∷ past)) (operate_relinks k D t past e) ∙ relinked_acts S k (lead k t e) leads
      ∙ act_lead S k e (subst (λ p. T (live D past p)) (dart_op k (2 * e)) legal.lives)

  pub operate_stands : Standing D (operate k D t past e) (number k (lead k t e) ∷ past)
  operate_stands = rw (operate_relinks k D t past e) (relinked_stands S k (lead k t e) leads)

  -- UNDO RETURNS EVERY ENTRY
  pub undo_operate : undo_one D (operate k D t past e) (number k (lead k t e)) past ≡ t
  unfolding undo_one
  undo_operate =
      rw (number_kind k (lead k t e), number_lead k (lead k t e), operate_relinks k D t past e) (relinked_undone S k (lead k t e) leads)
