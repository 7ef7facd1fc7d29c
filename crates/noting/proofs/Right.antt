-- The sheets judged by notes and links, as the definition judges them.
--   Told D n place ms w == notes and links in w tell of n operations that merge ms, on a base with the places `place`
--   right_told          == then the loop's test of the records is the definition's
use mathlib.Core.Bool.{Bool, true, false, not, ◌||◌, ◌&&◌}
use mathlib.Core.List.{List}
use mathlib.Core.Logic.{◌≢◌}
use mathlib.Core.Path.{◌≡◌, refl, sym, ap, ap₂, ◌∙◌}
use Prim.Native.Nat.{ℕ, zero, suc, ◌+◌, ◌-◌, ◌/◌, ◌≤◌, ◌<◌}
use native.Mathlib.Nat.{add-zero}
use native.Mathlib.Omega.{arith}
use lib.Dec.{ltb, lt→ltb, ltb→lt}
use lib.ListN.{get_or}
use Rattle.permutations.specs.Choice.{pick, T→true, not_T→false, eqb_same, eqb_other}
use Rattle.sheets.specs.declared.Zone.{Zone}
use Rattle.sheets.specs.Records.{at}
use Rattle.sheets.specs.Sheets.{Sheets, Merge, none, into, last_into, sound, kept_sound, kept_right, sheet_right, right}
use Rattle.sheets.specs.Notes.{notes_in, record_at, sound_at, right_in}
use Rattle.noting.specs.Links.{came_from}
use Rattle.noting.specs.Checks.{Told}
use Rattle.noting.proofs.Places.{and-true, last_below}

-- ---- all records from i on, taken from the last one

and_end : (a b c : Bool) → (a && (b && c)) ≡ ((a && b) && c)
and_end true b c = refl
and_end false b c = refl

and_turned : (a b : Bool) → (a && b) ≡ (b && a)
and_turned true b = sym (and-true b)
and_turned false true = refl
and_turned false false = refl

module _ (D : ℕ) (w : List ℕ) (S : Sheets) where
  right_end : (m i : ℕ) → right_in D w S (suc m) i ≡ (right_in D w S m i && sound_at D w S (i + m))
  unfolding right_in
  right_end zero i = rw (add-zero i) (and-true (sound_at D w S i))
  right_end (suc m) i =
      let e : suc i + m ≡ i + suc m = omega arith in
      ap (λ b. sound_at D w S i && b) (right_end m (suc i))
      ∙ and_end (sound_at D w S i) (right_in D w S m (suc i)) (sound_at D w S (suc i + m))
      ∙ ap (λ k. (sound_at D w S i && right_in D w S m (suc i)) && sound_at D w S k) e

  right_both : (m n i : ℕ) → right_in D w S (m + n) i ≡ (right_in D w S m i && right_in D w S n (i + m))
  unfolding right_in
  right_both zero n i = let e : zero + n ≡ n = omega arith in let k : i + zero ≡ i = omega arith in rw (e, k) refl
  right_both (suc m) n i =
      let e : suc m + n ≡ suc (m + n) = omega arith in
      let k : suc i + m ≡ i + suc m = omega arith in
      ap (λ j. right_in D w S j i) e
      ∙ ap (λ b. sound_at D w S i && b) (right_both m n (suc i))
      ∙ and_end (sound_at D w S i) (right_in D w S m (suc i)) (right_in D w S n (suc i + m))
      ∙ ap (λ j. (sound_at D w S i && right_in D w S m (suc i)) && right_in D w S n j) k

-- ---- each record

module _ {D n : ℕ} {place : ℕ → Bool} {ms : ℕ → Merge} {w : List ℕ} (some : 0 < D) (few : n ≤ D / 2) (τ : Told D n place ms w) (S : Sheets) where
  same_sound : (l : ℕ) (z : Zone) → l ≤ n → sound (notes_in D w) S l z ≡ sound ms S l z
  unfolding sound
  same_sound zero z h = refl
  same_sound (suc t) z h = rw (τ.notes t (omega arith))

  -- a link that is not D
  linked_sound : (i l : ℕ) → get_or w i 0 ≡ l → l ≤ n → sound_at D w S i ≡ sound ms S l (record_at D S i)
  unfolding sound_at
  linked_sound i l e h = let o : l ≢ D = omega arith in rw (e, eqb_other o) (same_sound l (record_at D S i) h)

  unlinked_sound : (i : ℕ) → get_or w i 0 ≡ D → sound_at D w S i ≡ true
  unfolding sound_at
  unlinked_sound i e = rw (e, eqb_same {m = D} refl)

  sheet_record : (x : ℕ) → x < D → record_at D S x ≡ at S.sheet x
  unfolding record_at
  sheet_record x l = rw (T→true (ltb x D) (lt→ltb x D l))

  kept_record : (t : ℕ) → record_at D S (D + t) ≡ at S.kept t
  unfolding record_at
  kept_record t =
      let e : D + t - D ≡ t = omega arith in
      rw (not_T→false (ltb (D + t) D) (λ l. omega (arith, ltb→lt (D + t) D l)), e)

  sheet_sound : (x : ℕ) → x < D → sound_at D w S x ≡ (not (place x) || sound ms S (last_into ms n x) (at S.sheet x))
  sheet_sound x l = go (place x) (τ.links x l)
    where
      go : (b : Bool) → get_or w x 0 ≡ pick b (last_into ms n x) D → sound_at D w S x ≡ (not b || sound ms S (last_into ms n x) (at S.sheet x))
      go true e = linked_sound x (last_into ms n x) e (last_below ms n x) ∙ ap (sound ms S (last_into ms n x)) (sheet_record x l)
      go false e = unlinked_sound x e

  kept_sound_lem : (t : ℕ) → t < n → sound_at D w S (D + t) ≡ kept_sound ms S t (ms t)
  unfolding kept_sound came_from
  kept_sound_lem t l = go (ms t) (τ.kept t l)
    where
      go : (m : Merge) → get_or w (D + t) 0 ≡ came_from D (last_into ms t) m → sound_at D w S (D + t) ≡ kept_sound ms S t m
      go none e = unlinked_sound (D + t) e
      go (into low high) e =
          linked_sound (D + t) (last_into ms t low) e (omega (arith, last_below ms t low)) ∙ ap (sound ms S (last_into ms t low)) (kept_record t)

  -- ---- all of them

  sheet_right_lem : (m : ℕ) → m ≤ D → right_in D w S m 0 ≡ sheet_right place ms n S m
  unfolding sheet_right right_in
  sheet_right_lem zero h = refl
  sheet_right_lem (suc m) h =
      let e : 0 + m ≡ m = omega arith in
      right_end D w S m 0 ∙ ap₂ (λ a b. a && b) (sheet_right_lem m (omega arith)) (ap (sound_at D w S) e ∙ sheet_sound m (omega arith))

  kept_right_lem : (m : ℕ) → m ≤ n → right_in D w S m D ≡ kept_right ms S m
  unfolding kept_right right_in
  kept_right_lem zero h = refl
  kept_right_lem (suc m) h = right_end D w S m D ∙ ap₂ (λ a b. a && b) (kept_right_lem m (omega arith)) (kept_sound_lem m (omega arith))

  -- THE RECORDS ARE JUDGED AS THE DEFINITION JUDGES THEM
  pub right_told : right_in D w S (D + n) 0 ≡ right place ms D n S
  unfolding right
  right_told =
      let e : 0 + D ≡ D = omega arith in
      right_both D w S D n 0
      ∙ ap₂ (λ a b. a && b) (sheet_right_lem D (omega arith)) (ap (right_in D w S n) e ∙ kept_right_lem n (omega arith))
      ∙ and_turned (sheet_right place ms n S D) (kept_right ms S n)
