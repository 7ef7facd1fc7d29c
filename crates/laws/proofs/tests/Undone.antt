-- What undo of an operation that fits leaves: a table that stands, in which the operation done again gives back every entry.
-- The operation is of kind k, with the lead p and its partner q; its past without it is `past`, with it `new`.
--   near, far == where the darts before p and before q led, once the operation was done; a and b are the darts that lead there
--   u         == the table that undo gives
--   ToQ x     == x is the dart b, and it leads to q, since the near one is not q
--   Same x    == x leads where it led, and that is neither the near nor the far one
--   Written   == what undo has written
--   source y  == the dart before y in u
--   Back x    == x leads to a survivor of the past, and `source` leads back to x
use mathlib.Core.List.{List}
use mathlib.Core.Logic.{◌≢◌, ◌⊎◌, inl, inr, ⊎_elim}
use mathlib.Core.Path.{◌≡◌, refl, sym, ap, ap₂, ◌∙◌, subst}
use Prim.Native.Nat.{ℕ, ◌+◌, ◌-◌, ◌*◌, ◌/◌, ◌%◌, ◌<◌}
use native.Mathlib.Decide.{ℕ_discrete}
use native.Mathlib.Omega.{arith}
use lib.Dec.{T, eqb}
use lib.ListN.{length, set, length-set}
use lib.Seq.{get_or-set_same, get_or-set_other, set-get_or, set-set, set_comm}
use Rattle.permutations.specs.Choice.{pick, eqb_same, eqb_other}
use Rattle.permutations.specs.Partner.{partner, End, end?}
use Rattle.permutations.proofs.PartnerLemmas.{partner_partner, partner_ne, partner_cases}
use Rattle.permutations.specs.Map.{Map, off_edge, off_edge_other}
use Rattle.permutations.proofs.MapLemmas.{off_edge_was, off_edge_not_end}
use Rattle.permutations.proofs.Legal.{Whole}
use Rattle.darts.specs.Map.{successor, before}
use Rattle.darts.specs.Operation.{Kind, lead, operate, put_back}
use Rattle.darts.specs.Tests as tests
use Rattle.laws.specs.Standing.{map_of, Standing}
use Rattle.laws.proofs.bridge.Standing.{live, entry_live, next_entry, live_iff}
use Rattle.laws.proofs.bridge.Before.{before_live, before_leads, before_only}
use Rattle.laws.proofs.bridge.AnyKind.{near_of, near_end, end_near, end_over, over_end}
use Rattle.laws.proofs.bridge.Relink.{near_entry, far_entry, relinked, operate_relinks, put_back_one, put_back_two}
use Rattle.laws.proofs.bridge.Lead.{lead_pick}
use Rattle.laws.proofs.tests.Fits.{Fit, one, two}
use Rattle.laws.proofs.bridge.StandsBy.{stands_by, live_partner}

-- in a whole piece each end leads to an end
whole_ends : (m : Map) {p x : ℕ} → Whole m p → End p x → End p (m.next x)
whole_ends m (inl w) (inl e) = inl (ap m.next e ∙ w.0)
whole_ends m (inl w) (inr e) = inr (ap m.next e ∙ w.1)
whole_ends m (inr w) (inl e) = inr (ap m.next e ∙ w.0)
whole_ends m (inr w) (inr e) = inl (ap m.next e ∙ w.1)

module _ {D : ℕ} {t new : List ℕ} (past : List ℕ) (k : Kind) (p : ℕ) (taken : live D new ≡ off_edge (live D past) p)
    (S : Standing D t new) (lives : T (live D past p)) (F : Fit (live D new) p (near_entry k t p) (far_entry k t p)) where
  abbrev q : ℕ
  q = partner p

  abbrev near : ℕ
  near = near_entry k t p

  abbrev far : ℕ
  far = far_entry k t p

  -- the darts that lead to the near one and to the far one
  abbrev a : ℕ
  a = before D t new near

  abbrev b : ℕ
  b = before D t new far

  abbrev u : List ℕ
  u = put_back k D t new p

  -- ---- the survivors before and after

  now_was : {x : ℕ} → T (live D new x) → T (live D past x) × (¬ End p x)
  now_was {x} h =
      let l : T (off_edge (live D past) p x) = subst (λ f. T (f x)) taken h in
      (off_edge_was (live D past) p x l, off_edge_not_end (live D past) l)

  was_now : {x : ℕ} → T (live D past x) → ¬ End p x → T (live D new x)
  was_now {x} h away = rw (ap (λ f. f x) taken, off_edge_other (live D past) away) h

  end_was : {x : ℕ} → End p x → T (live D past x)
  end_was (inl e) = rw e lives
  end_was (inr e) = rw (e, live_partner D past S.even p) lives

  far_now : T (live D new far)
  far_now = go F
    where
      go : Fit (live D new) p near far → T (live D new far)
      go (one e h) = h
      go (two n i g h d) = h

  far_away : ¬ End p far
  far_away = (now_was far_now).1

  b_now : T (live D new b)
  b_now = before_live S far far_now

  -- the near one is a survivor, or q
  near_is : (near ≢ p) × T (live D past near) × (near ≢ far)
  near_is = go F
    where
      go : Fit (live D new) p near far → (near ≢ p) × T (live D past near) × (near ≢ far)
      go (one e h) = (λ z. partner_ne p (sym z ∙ e), end_was (inr e), λ z. far_away (inr (sym z ∙ e)))
      go (two n i g h d) = let l = now_was g in (λ z. l.1 (inl z), l.0, d)

  -- ---- what undo writes: `dart` leads to p; and b leads to q, unless `dart` is b and the near one is q

  abbrev ToQ : ℕ → Type 0
  ToQ x = (x ≡ b) × (successor u x ≡ q) × (near ≢ q)

  abbrev Same : ℕ → Type 0
  Same x = (successor u x ≡ successor t x) × (T (live D new x) → (successor t x ≢ near) × (successor t x ≢ far))

  record Written : Type 0 where
    size : length u ≡ D
    dart : ℕ
    here : T (live D new dart)
    leads : successor u dart ≡ p
    others : (x : ℕ) → x ≢ dart → ToQ x ⊎ Same x
    second : near ≢ q → successor u b ≡ q
    -- what an operation writes there brings every entry back
    returns : (y : ℕ) → (near ≢ q → y ≡ b) → relinked u dart y q near far ≡ t

  small : {x : ℕ} → T (live D new x) → x < length t
  small h = rw S.size (S.good.small _ h)

  written_one : near ≡ q → Written
  unfolding successor relinked
  written_one e = record {
    size = rw undo (length-set t b p ∙ S.size);
    dart = b;
    here = b_now;
    leads = rw undo (get_or-set_same t b p 0 (small b_now));
    others = λ x n. inr (
      rw undo (get_or-set_other t b x p 0 n),
      λ l. (
        λ z. (now_was (entry_live S x l)).1 (inr (z ∙ e)),
        λ z. n (before_only S far x l z),
      ),
    );
    second = λ n. absurd (n e);
    returns = λ y f. rw (undo, eqb_same e) (set-set t b p far ∙ ap (set t b) (sym (before_leads S far far_now)) ∙ set-get_or t b 0);
  }
    where
      undo : u ≡ set t b p
      undo = put_back_one D t new p k e

  written_two : near ≢ q → T (live D new near) → Written
  unfolding successor relinked
  written_two n near-now = record {
    size = rw undo (length-set (set t a p) b q ∙ length-set t a p ∙ S.size);
    dart = a;
    here = a_now;
    leads = rw undo (get_or-set_other (set t a p) b a q 0 ab ∙ get_or-set_same t a p 0 (small a_now));
    others = λ x m. at x m (ℕ_discrete x b);
    second = λ m. to_q;
    returns = λ y f.
        rw (f n, undo, eqb_other n, set_comm (set t a p) b a q near (λ e. ab (sym e)), set-set t a p near, set-set (set t a near) b q far)
        (ap (λ w. set w b far) (ap (set t a) (sym (before_leads S near near-now)) ∙ set-get_or t a 0)
        ∙ ap (set t b) (sym (before_leads S far far_now)) ∙ set-get_or t b 0);
  }
    where
      a_now : T (live D new a)
      a_now = before_live S near near-now

      ab : a ≢ b
      ab e = near_is.2 (sym (before_leads S near near-now) ∙ ap (successor t) e ∙ before_leads S far far_now)

      undo : u ≡ set (set t a p) b q
      undo = put_back_two D t new p k n ab

      to_q : successor u b ≡ q
      to_q = rw undo (get_or-set_same (set t a p) b q 0 (rw (length-set t a p) (small b_now)))

      at : (x : ℕ) → x ≢ a → Dec (x ≡ b) → ToQ x ⊎ Same x
      at x m (yes e) = inl (e, ap (successor u) e ∙ to_q, n)
      at x m (no o) = inr (
        rw undo (get_or-set_other (set t a p) b x q 0 o ∙ get_or-set_other t a x p 0 m),
        λ l. (λ z. m (before_only S near x l z), λ z. o (before_only S far x l z)),
      )

  written : Written
  written = go F
    where
      go : Fit (live D new) p near far → Written
      go (one e h) = written_one e
      go (two n i g h d) = written_two n g

  -- ---- the table that undo gives stands

  abbrev W : Written
  W = written

  -- the entries of p and q are left as they stand
  kept : {x : ℕ} → End p x → successor u x ≡ successor t x
  kept {x} e = ⊎_elim (λ h. absurd ((now_was b_now).1 (subst (End p) h.0 e))) (λ h. h.0)
      (W.others x (λ z. (now_was W.here).1 (subst (End p) z e)))

  same_near : near_entry k u p ≡ near
  same_near = ap₂ (tests.near k) (kept (inl refl)) (kept (inr refl))

  same_far : far_entry k u p ≡ far
  same_far = ap₂ (tests.near k) (kept (inr refl)) (kept (inl refl))

  -- the dart before y
  source : ℕ → ℕ
  source y = pick (eqb y p) W.dart (pick (eqb y near) (tests.near k p q) (pick (eqb y far) (tests.far k p q) (pick (eqb y q) b (before D t new y))))

  Back : ℕ → Type 0
  Back x = T (live D past (successor u x)) × (source (successor u x) ≡ x)

  steps_back : (x : ℕ) → T (live D past x) → Back x
  unfolding source Back
  steps_back x h = go (end? p x) (ℕ_discrete x W.dart)
    where
      near_end : End p x → x ≡ tests.near k p q → Back x
      near_end e g =
          let z : successor u x ≡ near = kept e ∙ ap (successor t) g ∙ sym (near_of k (successor t) p q) in
          rw (z, eqb_other near_is.0, eqb_same {m = near} refl) (near_is.1, sym g)

      far_end : End p x → x ≡ tests.far k p q → Back x
      far_end e g =
          let z : successor u x ≡ far = kept e ∙ ap (successor t) g ∙ sym (near_of k (successor t) q p) in
          rw (z, eqb_other (λ i. far_away (inl i)), eqb_other (λ i. near_is.2 (sym i)), eqb_same {m = far} refl) ((now_was far_now).0, sym g)

      to_q : ToQ x → Back x
      to_q (e, z, m) =
          rw (z, eqb_other (λ i. partner_ne p (sym i)), eqb_other (λ i. m (sym i)), eqb_other (λ i. far_away (inr (sym i))), eqb_same {m = q} refl)
          (end_was (inr refl), sym e)

      stays : T (live D new x) → Same x → Back x
      stays l (z, f) =
          let (i, away) = now_was (entry_live S x l) in
          rw (z, eqb_other (λ i. away (inl i)), eqb_other (f l).0, eqb_other (f l).1, eqb_other (λ i. away (inr i)))
          (i, sym (before_only S (successor t x) x l refl))

      go : Dec (End p x) → Dec (x ≡ W.dart) → Back x
      go (yes e) d = ⊎_elim (near_end e) (far_end e) (end_near k e)
      go (no away) (yes e) = rw (e, W.leads, eqb_same {m = p} refl) (lives, refl)
      go (no away) (no n) = ⊎_elim to_q (stays (was_now h away)) (W.others x n)

  pub undone_stands : Standing D u past
  unfolding Back
  undone_stands =
      stands_by D u past S.even W.size inside (λ x h. (steps_back x h).0)
      (λ x y h k e. sym (steps_back x h).1 ∙ ap source e ∙ (steps_back y k).1)
    where
      below : {x : ℕ} → End p x → x < D
      below e = ((live_iff D past _).0 (end_was e)).0

      inside : (x : ℕ) → x < D → successor u x < D
      inside x h = go (ℕ_discrete x W.dart)
        where
          go : Dec (x ≡ W.dart) → successor u x < D
          go (yes e) = rw (e, W.leads) (below (inl refl))
          go (no n) = ⊎_elim (λ z. rw z.1 (below (inr refl))) (λ z. rw z.0 (S.inside x h)) (W.others x n)

  -- ---- the operation done again

  module _ (e : ℕ) (edge : e ≡ p / 2) where
    pub leads_again : lead k u e ≡ p
    leads_again = lead_pick k u e ∙ go F (partner_cases p)
      where
        go : Fit (live D new) p near far → ((p % 2 ≡ 0) × (q ≡ p + 1)) ⊎ ((p % 2 ≡ 1) × (q ≡ p - 1))
            → pick (eqb (far_entry k u (2 * e)) (2 * e)) (partner (2 * e)) (2 * e) ≡ p
        go f (inl c) = let d : 2 * e ≡ p = omega arith in rw (d, same_far, eqb_other (λ z. far_away (inl z)))
        go (one m h) (inr c) = let d : 2 * e ≡ q = omega arith in rw (d, partner_partner p, same_near, eqb_same m)
        go (two n i g h d) (inr c) = absurd (omega arith)

    pub operates_again : operate k D u past e ≡ t
    operates_again =
        operate_relinks k D u past e
        ∙ rw (leads_again, same_near, same_far, ← before_only undone_stands p W.dart (now_was W.here).0 W.leads)
        (W.returns (before D u past q) (λ n. sym (before_only undone_stands q b (now_was b_now).0 (W.second n))))

    pub no_whole : ¬ Whole (map_of D u past) (2 * e)
    no_whole w = far_away (rw (← leads_far) (go (partner_cases p)))
      where
        leads_far : (map_of D u past).next (tests.far k p q) ≡ far
        leads_far = next_entry undone_stands (tests.far k p q) (end_was (near_end k p).1) ∙ sym (near_of k (successor u) q p) ∙ same_far

        go : ((p % 2 ≡ 0) × (q ≡ p + 1)) ⊎ ((p % 2 ≡ 1) × (q ≡ p - 1)) → End p ((map_of D u past).next (tests.far k p q))
        go (inl c) = let d : 2 * e ≡ p = omega arith in whole_ends (map_of D u past) (subst (Whole (map_of D u past)) d w) (near_end k p).1
        go (inr c) = let d : 2 * e ≡ q = omega arith in over_end (whole_ends (map_of D u past) (subst (Whole (map_of D u past)) d w) (end_over (near_end k p).1))
