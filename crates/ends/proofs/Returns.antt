-- Where a survivor leads once operations are done, told by the map from before them: the closed form of skip and splice.
--   taken os y     == one of the operations os takes the edge of y
--   cross os y     == y's partner where its edge is contracted, y itself otherwise
--   turns m os y   == where the walk goes on from y: the successor of y, or of its partner
--   run_live, live_run == the survivors are the live darts that are not taken
--   not_taken      == legal operations take no dart that is gone already
--   returns        == a survivor leads to the first survivor on the walk
use mathlib.Core.Bool.{Bool, true, false, ◌||◌}
use mathlib.Core.List.{List, [], ◌∷◌}
use mathlib.Core.Logic.{◌≢◌, inl, inr, ⊎_elim}
use mathlib.Core.Path.{◌≡◌, refl, sym, ◌∙◌, ap, subst}
use Prim.Native.Nat.{ℕ, ◌<◌}
use lib.Dec.{T, eqb, eqb→eq}
use Rattle.permutations.specs.Choice.{eqb_same, or_cases}
use Rattle.permutations.specs.Partner.{partner, End}
use Rattle.permutations.specs.Perm.{Perm, without, without_perm}
use Rattle.permutations.specs.Splice.{skip, swap, swap_other, swap_inj, crossed, splice, skip_after}
use Rattle.permutations.proofs.SpliceLemmas.{crossed_perm}
use Rattle.permutations.specs.Map.{Map, Good, off_edge_other, partner_small}
use Rattle.permutations.proofs.MapLemmas.{off_edge_not_end, off_edge_was}
use Rattle.permutations.proofs.Legal.{Op, Contract, Remove, dart, act, run, AllLegal, good_act}
use Rattle.ends.proofs.Ways.{Way, Reaches, there, leave_out}

abbrev pub taken : List Op → ℕ → Bool
taken [] y = false
taken (o ∷ os) y = eqb y (dart o) || (eqb y (partner (dart o)) || taken os y)

-- one operation: a contraction exchanges its two darts
abbrev pub exchange : Op → ℕ → ℕ
exchange (Contract p) y = swap p (partner p) y
exchange (Remove p) y = y

abbrev pub cross : List Op → ℕ → ℕ
cross [] y = y
cross (o ∷ os) y = exchange o (cross os y)

abbrev pub turns : Map → List Op → ℕ → ℕ
turns m os y = m.next (cross os y)

-- ---- what is not taken

record NotTaken (o : Op) (os : List Op) (y : ℕ) : Type 0 where
  first : y ≢ dart o
  second : y ≢ partner (dart o)
  rest : ¬ T (taken os y)

or_none : (a b : Bool) → ¬ T (a || b) → (¬ T a) × (¬ T b)
or_none true b n = absurd (n tt)
or_none false b n = (λ t. t, n)

apart : (o : Op) (os : List Op) (y : ℕ) → ¬ T (taken (o ∷ os) y) → NotTaken o os y
apart o os y n =
    let a = or_none (eqb y (dart o)) (eqb y (partner (dart o)) || taken os y) n in
    let b = or_none (eqb y (partner (dart o))) (taken os y) a.1 in
    record {
      first = λ e. a.0 (subst T (sym (eqb_same e)) tt);
      second = λ e. b.0 (subst T (sym (eqb_same e)) tt);
      rest = b.1;
    }

exchange_other : (o : Op) (y : ℕ) → y ≢ dart o → y ≢ partner (dart o) → exchange o y ≡ y
exchange_other (Contract p) y n m = swap_other n m
exchange_other (Remove p) y n m = refl

pub cross_not_taken : (os : List Op) (y : ℕ) → ¬ T (taken os y) → cross os y ≡ y
cross_not_taken [] y n = refl
cross_not_taken (o ∷ os) y n =
    let a = apart o os y n in
    ap (exchange o) (cross_not_taken os y a.rest) ∙ exchange_other o y a.first a.second

exchange_inj : (o : Op) (x y : ℕ) → exchange o x ≡ exchange o y → x ≡ y
exchange_inj (Contract p) x y e = swap_inj p (partner p) x y e
exchange_inj (Remove p) x y e = e

cross_inj : (os : List Op) (x y : ℕ) → cross os x ≡ cross os y → x ≡ y
cross_inj [] x y e = e
cross_inj (o ∷ os) x y e = cross_inj os x y (exchange_inj o (cross os x) (cross os y) e)

-- the survivors are live, and not taken
pub run_live : (m : Map) (os : List Op) (y : ℕ) → T ((run m os).live y) → T (m.live y) × (¬ T (taken os y))
unfolding run
run_live m [] y t = (t, λ z. z)
run_live m (o ∷ os) y t =
    let h = run_live (act m o) os y t in
    let n = off_edge_not_end m.live h.0 in (
      off_edge_was m.live (dart o) y h.0,
      λ k. ⊎_elim (λ e. n (inl (eqb→eq y (dart o) e)))
          (λ r. ⊎_elim (λ e. n (inr (eqb→eq y (partner (dart o)) e))) h.1 (or_cases (eqb y (partner (dart o))) (taken os y) r))
          (or_cases (eqb y (dart o)) (eqb y (partner (dart o)) || taken os y) k),
    )

-- and a live dart that is not taken survives
pub live_run : (m : Map) (os : List Op) (y : ℕ) → T (m.live y) → ¬ T (taken os y) → T ((run m os).live y)
unfolding run
live_run m [] y t n = t
live_run m (o ∷ os) y t n =
    let a = apart o os y n in
    live_run (act m o) os y (subst T (sym (off_edge_other m.live (⊎_elim a.first a.second))) t) a.rest

-- LEGAL OPERATIONS TAKE NO DART THAT IS GONE ALREADY
pub not_taken : {D : ℕ} {m : Map} → Good D m → (os : List Op) → AllLegal m os → (y : ℕ) → ¬ T (m.live y) → ¬ T (taken os y)
not_taken {D} {m} G [] l y n k = k
not_taken {D} {m} G (o ∷ os) l y n k =
    ⊎_elim (λ e. n (subst (λ z. T (m.live z)) (sym (eqb→eq y (dart o) e)) l.0.lives))
    (λ r. ⊎_elim
    (λ e. n (subst (λ z. T (m.live z)) (sym (eqb→eq y (partner (dart o)) e)) (subst T (sym (G.pairs (dart o))) l.0.lives)))
    (not_taken {m = act m o} (good_act G o l.0) os l.1 y (λ t. n (off_edge_was m.live (dart o) y t)))
    (or_cases (eqb y (partner (dart o))) (taken os y) r))
    (or_cases (eqb y (dart o)) (eqb y (partner (dart o)) || taken os y) k)

-- ---- the walk goes by a permutation

-- the darts of the operations are below D
abbrev Small : ℕ → List Op → Type 0
Small D [] = Unit {0}
Small D (o ∷ os) = ((dart o < D) × (partner (dart o) < D)) × Small D os

legal_small : {D : ℕ} {m : Map} → Good D m → (os : List Op) → AllLegal m os → Small D os
legal_small G [] l = tt
legal_small {m = m} G (o ∷ os) l = ((G.small (dart o) l.0.lives, partner_small G (dart o) l.0.lives), legal_small {m = act m o} (good_act G o l.0) os l.1)

exchanged_perm : {D : ℕ} {f : ℕ → ℕ} → Perm D f → (o : Op) → dart o < D → partner (dart o) < D → Perm D (λ y. f (exchange o y))
unfolding crossed
exchanged_perm π (Contract p) h k = crossed_perm π p (partner p) h k
exchanged_perm π (Remove p) h k = π

crossed_all : {D : ℕ} (f : ℕ → ℕ) → Perm D f → (os : List Op) → Small D os → Perm D (λ y. f (cross os y))
crossed_all f π [] s = π
crossed_all f π (o ∷ os) s = crossed_all (λ y. f (exchange o y)) (exchanged_perm π o s.0.0 s.0.1) os s.1

pub turns_perm : {D : ℕ} {m : Map} → Good D m → (os : List Op) → AllLegal m os → Perm D (turns m os)
turns_perm {m = m} G os l = crossed_all m.next G.perm os (legal_small G os l)

-- ---- the first survivor on the walk

-- both kinds leave the two darts out, once they are exchanged or not
act_skips : (m : Map) (o : Op) → (act m o).next ≡ skip (λ y. m.next (exchange o y)) (dart o) (partner (dart o))
unfolding splice crossed
act_skips m (Contract p) = refl
act_skips m (Remove p) = refl

module _ {D : ℕ} {m : Map} (G : Good D m) (o : Op) (os : List Op) (l : AllLegal m (o ∷ os)) where
  abbrev p : ℕ
  p = dart o

  abbrev q : ℕ
  q = partner (dart o)

  -- the later operations leave p and q where they are
  still : (y : ℕ) → End p y → cross os y ≡ y
  still y e = cross_not_taken os y (not_taken (good_act G o l.0) os l.1 y (λ t. off_edge_not_end m.live t e))

  turns_skips : turns (act m o) os ≡ skip (turns m (o ∷ os)) p q
  turns_skips =
      let after : (ℕ → ℕ) → ℕ → ℕ = λ f y. f (cross os y) in
      ap after (act_skips m o) ∙ skip_after (λ y. m.next (exchange o y)) (cross os) (cross_inj os) (still p (inl refl)) (still q (inr refl))

  -- a dart whose way goes by the map after o, with o's darts left out, goes by the map before
  back_over : (x z : ℕ) → x ≢ p → x ≢ q → Reaches (turns (act m o) os) (taken os) (turns (act m o) os x) z
      → Reaches (turns m (o ∷ os)) (taken (o ∷ os)) (turns m (o ∷ os) x) z
  unfolding skip
  back_over x z xp xq r =
      let f = turns m (o ∷ os) in
      let π : Perm D f = turns_perm G (o ∷ os) l in
      let w : Way (without (without f p) q) (taken os) (without (without f p) q x) z r.count =
      subst (λ h. Way h (taken os) (h x) z r.count) turns_skips r.way in
      let over_q = leave_out (without_perm π p) (taken os) q x z r.count xq w in
      leave_out π (λ y. eqb y q || taken os y) p x z over_q.count xp over_q.way

-- A SURVIVOR LEADS TO THE FIRST SURVIVOR ON THE WALK
pub returns : {D : ℕ} {m : Map} → Good D m → (os : List Op) → AllLegal m os → (x : ℕ) → T ((run m os).live x)
    → Reaches (turns m os) (taken os) (turns m os x) ((run m os).next x)
unfolding run
returns {D} {m} G [] l x t = record { count = 0; way = there (λ h. h) }
returns {D} {m} G (o ∷ os) l x t =
    let h = apart o os x (run_live m (o ∷ os) x t).1 in
    back_over G o os l x ((run (act m o) os).next x) h.first h.second (returns {m = act m o} (good_act G o l.0) os l.1 x t)
