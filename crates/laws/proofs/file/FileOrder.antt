-- The order of the file's numbers: first the darts that the past took, then the survivors.
use mathlib.Core.List.Memᴰ
use mathlib.Core.List.{List, [], ◌∷◌, ◌++◌, reverse, reverse-cons, append_assoc, Memᴰ}
use mathlib.Core.Logic.Iff
use mathlib.Core.Logic.{◌↔◌, inl, inr, ⊎_elim}
use mathlib.Core.Path.{◌≡◌, refl, sym, ap, ◌∙◌, subst}
use Prim.Native.Nat.{ℕ, zero, suc, ◌+◌, ◌*◌, ◌/◌, ◌%◌, ◌<◌}
use native.Mathlib.Decide.{ℕ_discrete, dec_lt}
use native.Mathlib.Omega.{arith}
use lib.Dec.{T, eqb}
use lib.ListN.{length, get_or, length-append, get_or-append}
use lib.Seq.{get_or-append_seam}
use Rattle.permutations.specs.Choice.{T?, T→true, not_T→false, eqb_iff, or_intro, or_cases}
use Rattle.permutations.specs.Partner.{partner, End}
use Rattle.permutations.proofs.PartnerLemmas.{partner_cases, partner_edge, partner_first}
use Rattle.darts.specs.Map.{gone, survives}
use Rattle.darts.specs.Operation.{lead_of}
use Rattle.darts.specs.Counts.{surviving}
use Rattle.darts.specs.File.{taken, survivors}
use Rattle.laws.proofs.bridge.Standing.{live, live_iff}
use Rattle.laws.proofs.bridge.StandsBy.{live_partner}
use Rattle.laws.proofs.file.Places.{Once, Paired, once_append, paired_append}

-- ---- the darts that the past took

taken_append : (l k : List ℕ) → taken (l ++ k) ≡ taken l ++ taken k
unfolding taken
taken_append [] k = refl
taken_append (h ∷ l) k = ap (λ r. lead_of h ∷ partner (lead_of h) ∷ r) (taken_append l k)

-- the last operation's darts come last
pub taken_last : (h : ℕ) (past : List ℕ) → taken (reverse (h ∷ past)) ≡ taken (reverse past) ++ (lead_of h ∷ partner (lead_of h) ∷ [])
unfolding taken
taken_last h past = rw (reverse-cons h past) (taken_append (reverse past) (h ∷ []))

pub taken_length : (l : List ℕ) → length (taken l) ≡ 2 * length l
unfolding taken
taken_length [] = refl
taken_length (h ∷ l) = let e = taken_length l in omega arith

pub taken_lead : (l : List ℕ) (i : ℕ) → i < length l → get_or (taken l) (2 * i) 0 ≡ lead_of (get_or l i 0)
unfolding taken
taken_lead [] i h = absurd (omega arith)
taken_lead (x ∷ l) zero h = refl
taken_lead (x ∷ l) (suc i) h = let e : 2 * suc i ≡ suc (suc (2 * i)) = omega arith in rw e (taken_lead l i (omega arith))

pub taken_paired : (l : List ℕ) → Paired (taken l)
unfolding taken
taken_paired [] = tt
taken_paired (h ∷ l) = (refl, taken_paired l)

-- an operation takes the two darts of its edge
pub took_iff : (h x : ℕ) → T (eqb (h / 4) (x / 2)) ↔ End (lead_of h) x
unfolding lead_of
took_iff h x = Iff.trans (eqb_iff (h / 4) (x / 2)) (
  λ e. pair e (ℕ_discrete x (h / 2)),
  ⊎_elim (λ e. omega arith) (λ e. omega (arith, partner_edge (h / 2))),
)
  where
    pair : h / 4 ≡ x / 2 → Dec (x ≡ h / 2) → End (h / 2) x
    pair e (yes k) = inl k
    pair e (no n) = inr (⊎_elim (λ c. omega arith) (λ c. omega arith) (partner_cases (h / 2)))

pub pair_iff : (p x : ℕ) → Memᴰ x (p ∷ partner p ∷ []) ↔ End p x
pair_iff p x = (
  λ m. ⊎_elim inl (λ r. inr (Memᴰ.eq_of_singleton r)) (Memᴰ.cases_cons m),
  ⊎_elim Memᴰ.head (λ e. Memᴰ.tail (Memᴰ.head e)),
)

-- a dart is gone exactly where the past took it
pub taken_iff : (past : List ℕ) (x : ℕ) → T (gone past x) ↔ Memᴰ x (taken (reverse past))
unfolding gone taken
taken_iff [] x = (λ t. absurd t, Memᴰ.not-nil)
taken_iff (h ∷ past) x =
    let rest = taken_iff past x in
    rw (taken_last h past) (
      λ t. ⊎_elim (λ e. Memᴰ.append_right (taken (reverse past)) ((pair_iff (lead_of h) x).1 ((took_iff h x).0 e))) (λ g. Memᴰ.append_left _ (rest.0 g))
          (or_cases (eqb (h / 4) (x / 2)) (gone past x) t),
      λ m. or_intro (eqb (h / 4) (x / 2)) (gone past x)
          (⊎_elim (λ g. inr (rest.1 g)) (λ e. inl ((took_iff h x).1 ((pair_iff (lead_of h) x).0 e))) (Memᴰ.append_cases (taken (reverse past)) m)),
    )

-- ---- the survivors, by rising number

module _ (past : List ℕ) (n : ℕ) where
  survivors_with : T (survives past n) → survivors past (suc n) ≡ survivors past n ++ (n ∷ [])
  unfolding survivors
  survivors_with h = rw (T→true (survives past n) h)

  survivors_without : ¬ T (survives past n) → survivors past (suc n) ≡ survivors past n
  unfolding survivors
  survivors_without h = rw (not_T→false (survives past n) h)

  pub surviving_with : T (survives past n) → surviving past (suc n) ≡ suc (surviving past n)
  unfolding surviving
  surviving_with h = rw (T→true (survives past n) h)

  pub surviving_without : ¬ T (survives past n) → surviving past (suc n) ≡ surviving past n
  unfolding surviving
  surviving_without h = rw (not_T→false (survives past n) h)

module _ (past : List ℕ) where
  pub survivors_iff : (n x : ℕ) → Memᴰ x (survivors past n) ↔ ((x < n) × T (survives past x))
  unfolding survivors
  survivors_iff zero x = (λ m. absurd (Memᴰ.not-nil m), λ h. absurd (omega (arith, h.0)))
  survivors_iff (suc n) x = go (T? (survives past n)) (survivors_iff n x)
    where
      go : Dec (T (survives past n)) → Memᴰ x (survivors past n) ↔ ((x < n) × T (survives past x))
          → Memᴰ x (survivors past (suc n)) ↔ ((x < suc n) × T (survives past x))
      go (yes t) rest = rw (survivors_with past n t) (
        λ m. ⊎_elim
            (λ l. let r = rest.0 l in (omega (arith, r.0), r.1))
            (λ l. let e = Memᴰ.eq_of_singleton l in (omega arith, rw e t)) (Memᴰ.append_cases (survivors past n) m),
        λ h. last h (dec_lt x n),
      )
        where
          last : (x < suc n) × T (survives past x) → Dec (x < n) → Memᴰ x (survivors past n ++ (n ∷ []))
          last h (yes l) = Memᴰ.append_left (n ∷ []) (rest.1 (l, h.1))
          last h (no l) = Memᴰ.append_right (survivors past n) (Memᴰ.head (omega (arith, h.0)))
      go (no f) rest = rw (survivors_without past n f) (
        λ m. let r = rest.0 m in (omega (arith, r.0), r.1),
        λ h. rest.1 (below h (ℕ_discrete x n), h.1),
      )
        where
          below : (x < suc n) × T (survives past x) → Dec (x ≡ n) → x < n
          below h (yes e) = absurd (f (rw (← e) h.1))
          below h (no k) = omega (arith, h.0)

  pub survivors_once : (n : ℕ) → Once (survivors past n)
  unfolding survivors
  survivors_once zero = tt
  survivors_once (suc n) = go (T? (survives past n)) (survivors_once n)
    where
      go : Dec (T (survives past n)) → Once (survivors past n) → Once (survivors past (suc n))
      go (yes t) o = rw (survivors_with past n t)
          (once_append (survivors past n) (n ∷ []) o (Memᴰ.not-nil, tt)
          (λ x m l. let e = Memᴰ.eq_of_singleton l in omega (arith, ((survivors_iff n x).0 m).0)))
      go (no f) o = rw (survivors_without past n f) o

  survivors_length : (n : ℕ) → length (survivors past n) ≡ surviving past n
  unfolding survivors surviving
  survivors_length zero = refl
  survivors_length (suc n) = go (T? (survives past n)) (survivors_length n)
    where
      go : Dec (T (survives past n)) → length (survivors past n) ≡ surviving past n → length (survivors past (suc n)) ≡ surviving past (suc n)
      go (yes t) e = rw (survivors_with past n t, surviving_with past n t) (let l = length-append (survivors past n) (n ∷ []) in omega arith)
      go (no f) e = rw (survivors_without past n f, surviving_without past n f) e

  -- a survivor stands where as many survivors are below it
  pub survivor_place : (n x : ℕ) → x < n → T (survives past x)
      → (surviving past x < length (survivors past n)) × (get_or (survivors past n) (surviving past x) 0 ≡ x)
  unfolding survivors
  survivor_place zero x h s = absurd (omega arith)
  survivor_place (suc n) x h s = go (T? (survives past n)) (ℕ_discrete x n) (λ l. survivor_place n x l s)
    where
      go : Dec (T (survives past n)) → Dec (x ≡ n)
          → (x < n → (surviving past x < length (survivors past n)) × (get_or (survivors past n) (surviving past x) 0 ≡ x))
          → (surviving past x < length (survivors past (suc n))) × (get_or (survivors past (suc n)) (surviving past x) 0 ≡ x)
      go (yes t) (yes e) rest = rw (survivors_with past n t, e, ← survivors_length n) (
        let l = length-append (survivors past n) (n ∷ []) in omega arith,
        get_or-append_seam (survivors past n) n [] 0,
      )
      go (yes t) (no k) rest = let r = rest (omega arith) in rw (survivors_with past n t) (
        let l = length-append (survivors past n) (n ∷ []) in omega (arith, r.0),
        get_or-append (survivors past n) (n ∷ []) 0 (surviving past x) r.0 ∙ r.1,
      )
      go (no f) (yes e) rest = absurd (f (rw (← e) s))
      go (no f) (no k) rest = rw (survivors_without past n f) (rest (omega arith))

  -- above a survivor there is one more
  pub surviving_rises : (x y : ℕ) → x < y → T (survives past x) → surviving past x < surviving past y
  surviving_rises x zero h s = absurd (omega arith)
  surviving_rises x (suc y) h s = go (T? (survives past y)) (ℕ_discrete x y) (λ l. surviving_rises x y l s)
    where
      go : Dec (T (survives past y)) → Dec (x ≡ y) → (x < y → surviving past x < surviving past y) → surviving past x < surviving past (suc y)
      go (yes t) (yes e) rest = rw (surviving_with past y t, e) (omega arith)
      go (yes t) (no n) rest = let r = rest (omega arith) in rw (surviving_with past y t) (omega arith)
      go (no f) (yes e) rest = absurd (f (rw (← e) s))
      go (no f) (no n) rest = rw (surviving_without past y f) (rest (omega arith))

-- ---- the two darts of an edge survive together

module _ (past : List ℕ) (e : ℕ) where
  both : T (survives past (2 * e)) ↔ T (survives past (suc (2 * e)))
  both =
      let D = 2 * e + 2 in
      let even : D % 2 ≡ 0 = omega arith in
      let second : partner (2 * e) ≡ suc (2 * e) = let q = partner_first e in omega arith in
      let pair : live D past (suc (2 * e)) ≡ live D past (2 * e) = ap (live D past) (sym second) ∙ live_partner D past even (2 * e) in (
        λ t. ((live_iff D past (suc (2 * e))).0 (rw pair ((live_iff D past (2 * e)).1 (omega arith, t)))).1,
        λ t. ((live_iff D past (2 * e)).0 (rw (← pair) ((live_iff D past (suc (2 * e))).1 (omega arith, t)))).1,
      )

  survivors_two : T (survives past (2 * e)) → survivors past (2 * suc e) ≡ survivors past (2 * e) ++ (2 * e ∷ suc (2 * e) ∷ [])
  survivors_two t =
      let two : 2 * suc e ≡ suc (suc (2 * e)) = omega arith in
      rw (two, survivors_with past (suc (2 * e)) (both.0 t), survivors_with past (2 * e) t)
      (append_assoc (survivors past (2 * e)) (2 * e ∷ []) (suc (2 * e) ∷ []))

  survivors_none : ¬ T (survives past (2 * e)) → survivors past (2 * suc e) ≡ survivors past (2 * e)
  survivors_none f =
      let two : 2 * suc e ≡ suc (suc (2 * e)) = omega arith in
      rw (two, survivors_without past (suc (2 * e)) (λ t. f (both.1 t)), survivors_without past (2 * e) f)

pub survivors_paired : (past : List ℕ) (e : ℕ) → Paired (survivors past (2 * e))
unfolding survivors
survivors_paired past zero = tt
survivors_paired past (suc e) = go (T? (survives past (2 * e))) (survivors_paired past e)
  where
    go : Dec (T (survives past (2 * e))) → Paired (survivors past (2 * e)) → Paired (survivors past (2 * suc e))
    go (yes t) p = rw (survivors_two past e t) (paired_append (survivors past (2 * e)) (2 * e ∷ suc (2 * e) ∷ []) p (let q = partner_first e in omega arith, tt))
    go (no f) p = rw (survivors_none past e f) p

-- as many survivors as stand below an even dart are an even number
surviving_even : (past : List ℕ) (e : ℕ) → surviving past (2 * e) % 2 ≡ 0
unfolding surviving
surviving_even past zero = refl
surviving_even past (suc e) = go (T? (survives past (2 * e))) (surviving_even past e)
  where
    two : 2 * suc e ≡ suc (suc (2 * e))
    two = omega arith

    go : Dec (T (survives past (2 * e))) → surviving past (2 * e) % 2 ≡ 0 → surviving past (2 * suc e) % 2 ≡ 0
    go (yes t) p = rw (two, surviving_with past (suc (2 * e)) ((both past e).0 t), surviving_with past (2 * e) t) (omega arith)
    go (no f) p = rw (two, surviving_without past (suc (2 * e)) (λ t. f ((both past e).1 t)), surviving_without past (2 * e) f) p

pub surviving_parity : (past : List ℕ) (x : ℕ) → T (survives past x) → surviving past x % 2 ≡ x % 2
surviving_parity past x t = go (ℕ_discrete (x % 2) 0)
  where
    go : Dec (x % 2 ≡ 0) → surviving past x % 2 ≡ x % 2
    go (yes h) = let k : x ≡ 2 * (x / 2) = omega arith in subst (λ y. surviving past y % 2 ≡ y % 2) (sym k) (surviving_even past (x / 2) ∙ omega arith)
    go (no h) =
        let k : x ≡ suc (2 * (x / 2)) = omega arith in
        let s = (both past (x / 2)).1 (subst (λ y. T (survives past y)) k t) in
        let n = surviving_even past (x / 2) in
        subst (λ y. surviving past y % 2 ≡ y % 2) (sym k) (rw (surviving_with past (2 * (x / 2)) s) (omega arith))
