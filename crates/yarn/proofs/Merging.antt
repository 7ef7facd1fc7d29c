-- What sheets tell of the operations that made them. ms are the merges of operations, place picks the places that are looked at.
--   Merging place ms D n == the first n merges are of places, and what was once merged into another record is never written again
--   Last ms n x l        == l is 1 + one of the first n operations, which merged into x; or 0
--   last, last_none, last_same, last_other == such is last_into, and one operation more
--   Told ms n S Z        == what the first n operations kept, and what they merged into that, is the same on S and on Z
--   sound_told           == then the same records are sound
--   Seen place ms D n S Z == S and Z are the same wherever they are looked at after n operations
--   Right place ms D n S == the records are right, one by one
--   Keeps ms S t m       == the record that operation t kept is right, where it merges m
--   right_iff            == this is what `right` decides
use mathlib.Core.Bool.{Bool, true, false, not, ◌||◌}
use mathlib.Core.Logic.{◌≢◌, ◌↔◌}
use mathlib.Core.Path.{◌≡◌, refl, ap, ◌∙◌, subst}
use Prim.Native.Nat.{ℕ, zero, suc, ◌≤◌, ◌<◌}
use native.Mathlib.Decide.{ℕ_discrete}
use native.Mathlib.Omega.{arith}
use lib.Dec.{T}
use Rattle.permutations.specs.Choice.{pick, eqb_same, eqb_other, and_iff}
use Rattle.sheets.specs.declared.Zone.{Zone}
use Rattle.sheets.specs.Records.{merge_of, same_zone, at}
use Rattle.sheets.specs.Sheets.{Sheets, Merge, none, into, low_into, high_of, last_into, sound, kept_sound, kept_right, sheet_right, right}

pub record Merging (place : ℕ → Bool) (ms : ℕ → Merge) (D n : ℕ) : Type 0 where
  pub lows : {t low high : ℕ} → t < n → ms t ≡ into low high → (low < D) × T (place low)
  pub highs : {t low high : ℕ} → t < n → ms t ≡ into low high → (high < D) × T (place high)
  -- "The other record stays as it is."
  pub untouched : {t u low high low' high' : ℕ} → t ≤ u → u < n → ms t ≡ into low high → ms u ≡ into low' high' → high ≢ low'

-- ---- the last merge into a place

pub data Last (ms : ℕ → Merge) (n x : ℕ) : ℕ → Type 0 where
  never : Last ms n x 0
  by : (t high : ℕ) → t < n → ms t ≡ into x high → Last ms n x (suc t)

last_later : {ms : ℕ → Merge} {n x l : ℕ} → Last ms n x l → Last ms (suc n) x l
last_later never = never
last_later (by t high h e) = by t high (omega arith) e

pub last : (ms : ℕ → Merge) (n x : ℕ) → Last ms n x (last_into ms n x)
unfolding last_into low_into
last ms zero x = never
last ms (suc t) x = go (ms t) refl (last ms t x)
  where
    go : (m : Merge) → ms t ≡ m → Last ms t x (last_into ms t x) → Last ms (suc t) x (pick (low_into m x) (suc t) (last_into ms t x))
    go none e l = last_later l
    go (into low high) e l = split (ℕ_discrete low x)
      where
        split : Dec (low ≡ x) → Last ms (suc t) x (pick (low_into (into low high) x) (suc t) (last_into ms t x))
        split (yes k) = rw (eqb_same k) (by t high (omega arith) (e ∙ ap (λ z. into z high) k))
        split (no n) = rw (eqb_other n) (last_later l)

module _ (ms : ℕ → Merge) (n x : ℕ) where
  pub last_none : ms n ≡ none → last_into ms (suc n) x ≡ last_into ms n x
  unfolding last_into low_into
  last_none e = rw e

  pub last_same : {low high : ℕ} → ms n ≡ into low high → low ≡ x → last_into ms (suc n) x ≡ suc n
  unfolding last_into low_into
  last_same e k = rw (e, eqb_same k)

  pub last_other : {low high : ℕ} → ms n ≡ into low high → low ≢ x → last_into ms (suc n) x ≡ last_into ms n x
  unfolding last_into low_into
  last_other e k = rw (e, eqb_other k)

-- ---- what sheets tell

pub record Told (ms : ℕ → Merge) (n : ℕ) (S Z : Sheets) : Type 0 where
  pub kept : {t low high : ℕ} → t < n → ms t ≡ into low high → at S.kept t ≡ at Z.kept t
  pub high : {t low high : ℕ} → t < n → ms t ≡ into low high → at S.sheet high ≡ at Z.sheet high

pub sound_told : {ms : ℕ → Merge} {n : ℕ} {S Z : Sheets} → Told ms n S Z → {x l : ℕ} → Last ms n x l → (z : Zone)
    → T (sound ms S l z) → T (sound ms Z l z)
unfolding sound high_of
sound_told τ never z t = t
sound_told {ms} {n} {S} {Z} τ (by t high h e) z s =
    let m : merge_of (at S.kept t) (at S.sheet high) ≡ merge_of (at Z.kept t) (at Z.sheet high) = rw (τ.kept h e, τ.high h e) in
    let k : high_of (ms t) ≡ high = rw e in
    rw k (subst (λ y. T (same_zone y z)) m (rw k at s))

pub told_less : {ms : ℕ → Merge} {n m : ℕ} {S Z : Sheets} → m ≤ n → Told ms n S Z → Told ms m S Z
told_less l τ = record { kept = λ h e. τ.kept (omega arith) e; high = λ h e. τ.high (omega arith) e }

pub record Seen (place : ℕ → Bool) (ms : ℕ → Merge) (D n : ℕ) (S Z : Sheets) : Type 0 where
  pub sheet : (x : ℕ) → x < D → T (place x) → at S.sheet x ≡ at Z.sheet x
  pub kept : (t : ℕ) → t < n → ms t ≢ none → at S.kept t ≡ at Z.kept t

-- ---- right, one by one

pub record Right (place : ℕ → Bool) (ms : ℕ → Merge) (D n : ℕ) (S : Sheets) : Type 0 where
  pub kept : {t low high : ℕ} → t < n → ms t ≡ into low high → T (sound ms S (last_into ms t low) (at S.kept t))
  pub sheet : (x : ℕ) → x < D → T (place x) → T (sound ms S (last_into ms n x) (at S.sheet x))

is_none : Merge → Bool
is_none none = true
is_none (into low high) = false

pub not_into : {low high : ℕ} → none ≡ into low high → ⊥
unfolding is_none
not_into e = subst (λ m. T (is_none m)) e tt

pub into_same : {low high low' high' : ℕ} → into low high ≡ into low' high' → (low ≡ low') × (high ≡ high')
into_same e = (cc, cc)

-- below n + 1 is n, or below n
pub last_or_less : {A : ℕ → Type 0} {n : ℕ} → A n → ((t : ℕ) → t < n → A t) → (t : ℕ) → t < suc n → A t
last_or_less {A} {n} a less t h = go (ℕ_discrete n t)
  where
    go : Dec (n ≡ t) → A t
    go (yes e) = subst A e a
    go (no k) = less t (omega arith)

module _ (ms : ℕ → Merge) (S : Sheets) where
  abbrev pub Keeps : ℕ → Merge → Type 0
  Keeps t m = (low high : ℕ) → m ≡ into low high → T (sound ms S (last_into ms t low) (at S.kept t))

  keeps_iff : (t : ℕ) (m : Merge) → T (kept_sound ms S t m) ↔ Keeps t m
  unfolding kept_sound
  keeps_iff t none = (λ s low high e. absurd (not_into e), λ k. tt)
  keeps_iff t (into l h) = (λ s low high e. subst (λ x. T (sound ms S (last_into ms t x) (at S.kept t))) (into_same e).0 s, λ k. k l h refl)

  kept_iff : (n : ℕ) → T (kept_right ms S n) ↔ ((t : ℕ) → t < n → Keeps t (ms t))
  unfolding kept_right
  kept_iff zero = (λ r t h. absurd (omega arith), λ k. tt)
  kept_iff (suc n) =
      let i = and_iff (kept_right ms S n) (kept_sound ms S n (ms n)) (kept_iff n) (λ _. keeps_iff n (ms n)) in
      (λ r. last_or_less (i.0 r).1 (i.0 r).0, λ k. i.1 (λ t h. k t (omega arith), k n (omega arith)))

  module _ (place : ℕ → Bool) (n : ℕ) where
    abbrev Holds : ℕ → Type 0
    Holds x = T (place x) → T (sound ms S (last_into ms n x) (at S.sheet x))

    holds_iff : (p s : Bool) → T (not p || s) ↔ (T p → T s)
    holds_iff true s = (λ t u. t, λ k. k tt)
    holds_iff false s = (λ t u. absurd u, λ k. tt)

    sheet_iff : (m : ℕ) → T (sheet_right place ms n S m) ↔ ((x : ℕ) → x < m → Holds x)
    unfolding sheet_right
    sheet_iff zero = (λ r x h. absurd (omega arith), λ k. tt)
    sheet_iff (suc m) =
        let i = and_iff (sheet_right place ms n S m) (not (place m) || sound ms S (last_into ms n m) (at S.sheet m)) (sheet_iff m) (λ _. holds_iff (place m) _) in
        (λ r. last_or_less (i.0 r).1 (i.0 r).0, λ k. i.1 (λ x h. k x (omega arith), k m (omega arith)))

    pub right_iff : (D : ℕ) → T (right place ms D n S) ↔ Right place ms D n S
    unfolding right
    right_iff D =
        let i = and_iff (kept_right ms S n) (sheet_right place ms n S D) (kept_iff n) (λ _. sheet_iff D) in
        (λ r. record { kept = λ h e. (i.0 r).0 _ h _ _ e; sheet = (i.0 r).1 }, λ R. i.1 (λ t h low high e. R.kept h e, R.sheet))
