-- Sheets that an accepted start and some operations give are the right ones.
--   seen_right     == sheets that look like right ones are right
--   seen_merged    == sheets that look alike do so after one more operation
--   merged_last    == one operation more, at the end
--   Comes place ms D N n S == fit records and the first n operations give the sheets S, wherever they are looked at
--   comes_iff      == so it is exactly where S is right
use mathlib.Core.Bool.{Bool}
use mathlib.Core.List.{List}
use mathlib.Core.Logic.{◌≢◌, ◌↔◌}
use mathlib.Core.Path.{◌≡◌, refl, sym, ap₂, ◌∙◌, subst}
use Prim.Native.Nat.{ℕ, zero, suc, ◌+◌, ◌≤◌, ◌<◌}
use native.Mathlib.Decide.{ℕ_discrete}
use native.Mathlib.Omega.{arith}
use lib.Dec.{T}
use lib.ListN.{length, set}
use Rattle.sheets.specs.declared.Zone.{Zone}
use Rattle.sheets.specs.Records.{merge_of, fit_of, at}
use Rattle.sheets.specs.Sheets.{Sheets, Merge, none, into, merged, returned, merged_by, last_into, sound}
use Rattle.yarn.proofs.Merging.{Merging, last, Told, sound_told, told_less, Seen, Right, not_into, last_or_less}
use Rattle.yarn.proofs.Redone.{Long, merged_long, returned_long, at_same, at_other, merged_right, returned_right, returned_merged}

seen_trans : {place : ℕ → Bool} {ms : ℕ → Merge} {D n : ℕ} {S Y Z : Sheets} → Seen place ms D n S Y → Seen place ms D n Y Z → Seen place ms D n S Z
seen_trans σ τ = record { sheet = λ x d p. σ.sheet x d p ∙ τ.sheet x d p; kept = λ t h k. σ.kept t h k ∙ τ.kept t h k }

-- the same written at one place of two lists, which agree at another one
at_both : (s u : List Zone) {i : ℕ} {y z : Zone} → y ≡ z → i < length s → i < length u → (x : ℕ) → (i ≢ x → at s x ≡ at u x) → at (set s i y) x ≡ at (set u i z) x
at_both s u {i} {y} {z} e h k x else = go (ℕ_discrete i x)
  where
    go : Dec (i ≡ x) → at (set s i y) x ≡ at (set u i z) x
    go (yes o) = at_same s y o h ∙ e ∙ sym (at_same u z o k)
    go (no o) = at_other s y o ∙ else o ∙ sym (at_other u z o)

module _ {place : ℕ → Bool} {ms : ℕ → Merge} {D N : ℕ} (M : Merging place ms D N) where
  -- ---- sheets that look alike

  seen_told : {n : ℕ} → n ≤ N → {S Z : Sheets} → Seen place ms D n S Z → Told ms n S Z
  seen_told l σ = record {
    kept = λ h e. σ.kept _ h (λ o. not_into (sym o ∙ e));
    high = λ h e. let (d, p) = M.highs (omega arith) e in σ.sheet _ d p;
  }

  seen_right : {n : ℕ} → n ≤ N → {S Z : Sheets} → Seen place ms D n S Z → Right place ms D n S → Right place ms D n Z
  seen_right {n} l {S} {Z} σ R =
      let τ = seen_told l σ in
      record {
        kept = λ {t} {low} h e.
            subst (λ z. T (sound ms Z (last_into ms t low) z)) (τ.kept h e)
            (sound_told (told_less (omega arith) τ) (last ms t low) (at S.kept t) (R.kept h e));
        sheet = λ x d p.
            subst (λ z. T (sound ms Z (last_into ms n x) z)) (σ.sheet x d p) (sound_told τ (last ms n x) (at S.sheet x) (R.sheet x d p));
      }

  module _ {n : ℕ} (h : n < N) {S Z : Sheets} (L : Long D N S) (K : Long D N Z) (σ : Seen place ms D n S Z) where
    seen_into : {low high : ℕ} → ms n ≡ into low high → Seen place ms D (suc n) (merged (into low high) n S) (merged (into low high) n Z)
    unfolding merged
    seen_into {low} {high} e = record {
      sheet = λ x d p. at_both S.sheet Z.sheet (ap₂ merge_of lows highs) (room L.sheet) (room K.sheet) x (λ o. σ.sheet x d p);
      kept = λ t l k. at_both S.kept Z.kept lows (let r = L.kept in omega arith) (let r = K.kept in omega arith) t (λ o. σ.kept t (omega arith) k);
    }
      where
        lows : at S.sheet low ≡ at Z.sheet low
        lows = let (d, p) = M.lows h e in σ.sheet low d p

        highs : at S.sheet high ≡ at Z.sheet high
        highs = let (d, p) = M.highs h e in σ.sheet high d p

        room : {r : ℕ} → D ≤ r → low < r
        room l = let d = (M.lows h e).0 in omega arith

    pub seen_merged : Seen place ms D (suc n) (merged (ms n) n S) (merged (ms n) n Z)
    unfolding merged
    seen_merged = go (ms n) refl
      where
        go : (m : Merge) → ms n ≡ m → Seen place ms D (suc n) (merged m n S) (merged m n Z)
        go none e = record { sheet = σ.sheet; kept = last_or_less {A = λ t. ms t ≢ none → at S.kept t ≡ at Z.kept t} (λ k. absurd (k e)) σ.kept }
        go (into low high) e = seen_into e

-- ---- several operations

merged_last : (ms : ℕ → Merge) (t c n : ℕ) (S : Sheets) → n ≡ t + c → merged_by ms t (suc c) S ≡ merged (ms n) n (merged_by ms t c S)
unfolding merged_by
merged_last ms t zero n S e = let k : n ≡ t = omega arith in rw k
merged_last ms t (suc c) n S e = merged_last ms (suc t) c n (merged (ms t) t S) (omega arith)

all_long : {D N : ℕ} (ms : ℕ → Merge) (t c : ℕ) {S : Sheets} → Long D N S → Long D N (merged_by ms t c S)
unfolding merged_by
all_long ms t zero L = L
all_long ms t (suc c) L = all_long ms (suc t) c (merged_long (ms t) t L)

pub record Comes (place : ℕ → Bool) (ms : ℕ → Merge) (D N n : ℕ) (S : Sheets) : Type 0 where
  pub first : Sheets
  pub long : Long D N first
  pub fit : (x : ℕ) → x < D → T (place x) → T (fit_of (at first.sheet x))
  pub seen : Seen place ms D n (merged_by ms 0 n first) S

module _ {place : ℕ → Bool} {ms : ℕ → Merge} {D N : ℕ} (M : Merging place ms D N) where
  all_right_lem : {S : Sheets} → Long D N S → ((x : ℕ) → x < D → T (place x) → T (fit_of (at S.sheet x))) → (n : ℕ) → n ≤ N
      → Right place ms D n (merged_by ms 0 n S)
  unfolding merged_by last_into sound
  all_right_lem L fit zero l = record { kept = λ h e. absurd (omega arith); sheet = fit }
  all_right_lem {S} L fit (suc n) l =
      rw (merged_last ms 0 n n S (omega arith))
      (merged_right M l (merged_by ms 0 n S) (all_long ms 0 n L) (all_right_lem L fit n (omega arith)))

  comes_right : {S : Sheets} (n : ℕ) → n ≤ N → Comes place ms D N n S → Right place ms D n S
  comes_right n l C = seen_right M l C.seen (all_right_lem C.long C.fit n l)

  comes_more : {S : Sheets} {n : ℕ} → n < N → Long D N S → Right place ms D (suc n) S → Comes place ms D N n (returned (ms n) n S) → Comes place ms D N (suc n) S
  comes_more {S} {n} l L R C = record {
    first = C.first;
    long = C.long;
    fit = C.fit;
    seen = rw (merged_last ms 0 n n C.first (omega arith))
        (seen_trans (seen_merged M l (all_long ms 0 n C.long) (returned_long (ms n) n L) C.seen) (returned_merged M l S L R));
  }

  right_comes : (n : ℕ) {S : Sheets} → n ≤ N → Long D N S → Right place ms D n S → Comes place ms D N n S
  unfolding merged_by last_into sound
  right_comes zero {S} l L R = record { first = S; long = L; fit = R.sheet; seen = record { sheet = λ x d p. refl; kept = λ t h k. refl } }
  right_comes (suc n) {S} l L R =
      comes_more l L R (right_comes n (omega arith) (returned_long (ms n) n L) (returned_right M l S L R))

  -- THE RIGHT SHEETS ARE THOSE THAT COME OF A START
  pub comes_iff : {S : Sheets} → Long D N S → Right place ms D N S ↔ Comes place ms D N N S
  comes_iff L = (right_comes N (omega arith) L, comes_right N (omega arith))
