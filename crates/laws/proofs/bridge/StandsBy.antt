-- When a table stands: its survivors lead to survivors, no two of them to one. And then, where no dart is gone, it is a base.
use mathlib.Core.Bool.{false, ◌||◌, ◌&&◌, not}
use mathlib.Core.List.{List, [], ◌∷◌}
use mathlib.Core.Logic.{◌≢◌, ⊎_elim}
use mathlib.Core.Path.{◌≡◌, refl, sym, ap, ap₂, ◌∙◌}
use Prim.Native.Nat.{ℕ, zero, suc, ◌+◌, ◌*◌, ◌/◌, ◌%◌, ◌≤◌, ◌<◌}
use native.Mathlib.Decide.{ℕ_discrete, dec_lt}
use native.Mathlib.Nat.{zero-add}
use native.Mathlib.Omega.{arith}
use lib.Dec.{T, eqb, ltb, leb, ltb→lt, lt→ltb, leb→le, eqb→eq}
use lib.ListN.{length}
use Rattle.permutations.specs.Choice.{or_cases, pick, T?, T→true, not_T→false, T-ext, eqb_same, eqb_other}
use Rattle.permutations.specs.Partner.{partner}
use Rattle.permutations.proofs.PartnerLemmas.{partner_below, partner_partner, partner_edge, partner_cases}
use Rattle.permutations.specs.Pigeonhole.{Clash, pigeonhole}
use Rattle.permutations.specs.Perm.{Perm}
use Rattle.darts.specs.Map.{successor, gone, survives, repeats, permutes, test_from, permutation_test}
use Rattle.laws.specs.Standing.{map_of, Standing}
use Rattle.laws.proofs.bridge.Standing.{live, live_iff, entry_one}

-- ---- an injective function that leaves every number from D on where it is permutes the numbers below D

module _ {D : ℕ} {f : ℕ → ℕ} (one : (x y : ℕ) → f x ≡ f y → x ≡ y) (still : (x : ℕ) → D ≤ x → f x ≡ x) where
  stays_below : (x : ℕ) → x < D → f x < D
  stays_below x h = go (dec_lt (f x) D)
    where
      go : Dec (f x < D) → f x < D
      go (yes l) = l
      go (no n) = let e = one (f x) x (still (f x) (omega arith)) in rw e h

  -- the D values and y are too many to be all different
  reached : (y : ℕ) → y < D → (x : ℕ) × (f x ≡ y)
  reached y h = meet (pigeonhole D all (λ i l. all_below i l (ℕ_discrete i D)))
    where
      all : ℕ → ℕ
      all i = pick (eqb i D) y (f i)

      all_below : (i : ℕ) → i ≤ D → Dec (i ≡ D) → all i < D
      all_below i l (yes e) = rw (eqb_same e) h
      all_below i l (no n) = rw (eqb_other n) (stays_below i (omega arith))

      meet : Clash all D → (x : ℕ) × (f x ≡ y)
      meet c = go (ℕ_discrete c.second D)
        where
          same : f c.first ≡ all c.second
          same = let n : c.first ≢ D = omega arith in rw (eqb_other n) at c.same

          go : Dec (c.second ≡ D) → (x : ℕ) × (f x ≡ y)
          go (yes e) = (c.first, rw (eqb_same e) at same)
          go (no n) = let e = one c.first c.second (rw (eqb_other n) at same) in absurd (omega arith)

  source : (y : ℕ) → (x : ℕ) × (f x ≡ y)
  source y = go (dec_lt y D)
    where
      go : Dec (y < D) → (x : ℕ) × (f x ≡ y)
      go (yes h) = reached y h
      go (no n) = (y, still y (omega arith))

  injective_permutes : Perm D f
  injective_permutes = record {
    inv = λ y. (source y).0;
    back = λ x. one (source (f x)).0 x (source (f x)).1;
    forth = λ y. (source y).1;
    still = still;
  }

-- ---- the darts of an edge survive together

pub gone_edge : (past : List ℕ) (x y : ℕ) → x / 2 ≡ y / 2 → gone past x ≡ gone past y
unfolding gone
gone_edge [] x y e = refl
gone_edge (h ∷ past) x y e = rw (e, gone_edge past x y e)

pub live_partner : (D : ℕ) (past : List ℕ) → D % 2 ≡ 0 → (x : ℕ) → live D past (partner x) ≡ live D past x
unfolding live survives
live_partner D past even x =
    ap₂ ◌&&◌ (T-ext (ltb (partner x) D) (ltb x D) back forth)
    (ap not (gone_edge past (partner x) x (partner_edge x)))
  where
    forth : T (ltb x D) → T (ltb (partner x) D)
    forth h = lt→ltb (partner x) D (partner_below D x (ltb→lt x D h) even)

    back : T (ltb (partner x) D) → T (ltb x D)
    back h = lt→ltb x D (rw (partner_partner x) at (partner_below D (partner x) (ltb→lt (partner x) D h) even))

-- the even dart of p's edge survives with p
pub live_edge : (D : ℕ) (past : List ℕ) → D % 2 ≡ 0 → (p e : ℕ) → e ≡ p / 2 → live D past (2 * e) ≡ live D past p
live_edge D past even p e edge = ⊎_elim
    (λ c. let d : 2 * e ≡ p = omega arith in ap (live D past) d)
    (λ c. let d : 2 * e ≡ partner p = omega arith in ap (live D past) d ∙ live_partner D past even p) (partner_cases p)

-- ---- a table stands where its survivors lead to survivors, no two to one

module _ (D : ℕ) (t past : List ℕ) (even : D % 2 ≡ 0) (size : length t ≡ D) (inside : (x : ℕ) → x < D → successor t x < D)
    (onward : (x : ℕ) → T (live D past x) → T (live D past (successor t x)))
    (alone : (x y : ℕ) → T (live D past x) → T (live D past y) → successor t x ≡ successor t y → x ≡ y) where
  still : (x : ℕ) → ¬ T (live D past x) → (map_of D t past).next x ≡ x
  still x n = rw (not_T→false (live D past x) n)

  next_one : (x y : ℕ) → (map_of D t past).next x ≡ (map_of D t past).next y → x ≡ y
  next_one x y e = go (T? (live D past x)) (T? (live D past y))
    where
      go : Dec (T (live D past x)) → Dec (T (live D past y)) → x ≡ y
      go (yes h) (yes k) = alone x y h k (rw (T→true (live D past x) h, T→true (live D past y) k) at e)
      go (yes h) (no n) =
          let k : successor t x ≡ y = rw (T→true (live D past x) h, not_T→false (live D past y) n) at e in
          absurd (n (rw (← k) (onward x h)))
      go (no n) (yes h) =
          let k : x ≡ successor t y = rw (T→true (live D past y) h, not_T→false (live D past x) n) at e in
          absurd (n (rw k (onward y h)))
      go (no n) (no m) = sym (still x n) ∙ e ∙ still y m

  pub stands_by : Standing D t past
  stands_by = record {
    even = even;
    size = size;
    inside = inside;
    good = record {
      perm = injective_permutes next_one (λ x h. still x (λ l. let k = (live_iff D past x).0 l in omega arith));
      gone = still;
      pairs = live_partner D past even;
      small = λ x h. ((live_iff D past x).0 h).0;
    };
  }

-- ---- a base

pub repeats_some : (t : List ℕ) (d x : ℕ) → T (repeats t d x) → (y : ℕ) × (y < d) × (successor t y ≡ x)
unfolding repeats
repeats_some t zero x r = absurd r
repeats_some t (suc d) x r = ⊎_elim (λ e. (d, omega arith, eqb→eq (successor t d) x e))
    (λ l. let z = repeats_some t d x l in (z.0, omega arith, z.2)) (or_cases (eqb (successor t d) x) (repeats t d x) r)

module _ {D : ℕ} {t : List ℕ} (S : Standing D t []) where
  alive : {x : ℕ} → x < D → T (live D [] x)
  unfolding survives gone
  alive {x} h = (live_iff D [] x).1 (h, tt)

  none_bad : (d : ℕ) → d < D → (leb D (successor t d) || repeats t d (successor t d)) ≡ false
  none_bad d h = not_T→false _ (λ b. ⊎_elim
      (λ l. let k = leb→le D (successor t d) l in let i = S.inside d h in omega arith)
      (λ r.
      let (y, l, e) = repeats_some t d (successor t d) r in
      let k : y < D = omega arith in
      let i = entry_one S y (alive k) d (alive h) e in
      omega arith)
      (or_cases (leb D (successor t d)) (repeats t d (successor t d)) b))

  test_from_lem : (n d : ℕ) → d + n ≡ D → test_from D t n d ≡ permutes
  unfolding test_from
  test_from_lem zero d e = refl
  test_from_lem (suc n) d e = rw (none_bad d (omega arith)) (test_from_lem n (suc d) (omega arith))

  -- a table of all darts that stands is a base
  pub stands_base : permutation_test D t ≡ permutes
  unfolding permutation_test
  stands_base = test_from_lem D 0 (zero-add D)
