-- The passes that write the sheets, over the numbers and lists that a loop has before a turn.
--   Merging, Returning           == what holds before operation t's turn: what is to come from the start is what is to come from here
--   merging_turn                 == a turn keeps it
--   merging_ready                == what a merge asks holds at its turn
--   merging_done                 == after the last turn all merges are made
--   returning_turn, returning_done == the same for the records that are put back
use mathlib.Core.List.{List}
use mathlib.Core.Path.{◌≡◌, refl, sym, ◌∙◌, ap, subst}
use Prim.Native.Nat.{ℕ, ◌+◌, ◌-◌, ◌*◌, ◌/◌, ◌%◌, ◌^◌, ◌<◌, ◌≤◌}
use native.Mathlib.Omega.{arith}
use lib.ListN.{length, get_or, length-set}
use Rattle.sheets.specs.declared.Zone.{Zone}
use Rattle.sheets.specs.Records.{at}
use Rattle.sheets.specs.Sheets.{Sheets, Merge, none, into, merged, returned, merged_by, returned_by}
use Rattle.sheets.specs.Notes.{notes_in, Noted, FitsOne, Fits}
use Rattle.sheets.proofs.Turns.{both, merge_turn, fits_turn, merges_done, back_turn, back_done}

-- ---- a merge, and a record put back, leave the sheets as long as they were

merged_size : (g : Merge) (t : ℕ) (S : Sheets) → length (merged g t S).sheet ≡ length S.sheet
unfolding merged
merged_size none t S = refl
merged_size (into low high) t S = length-set S.sheet low _

kept_size : (g : Merge) (t : ℕ) (S : Sheets) → length (merged g t S).kept ≡ length S.kept
unfolding merged
kept_size none t S = refl
kept_size (into low high) t S = length-set S.kept t _

returned_size : (g : Merge) (t : ℕ) (S : Sheets) → length (returned g t S).sheet ≡ length S.sheet
unfolding returned
returned_size none t S = refl
returned_size (into low high) t S = length-set S.sheet low _

-- ---- merging

pub record Merging (w : List ℕ) (d n m : ℕ) (s₀ k₀ s k : List Zone) (t : ℕ) : Type 0 where
  pub from : n ≤ t
  pub to : t ≤ m
  pub size : length s ≡ length s₀
  pub room : length k ≡ length k₀
  pub fits : Fits (notes_in d w) t (m - t) (both s k)
  pub rest : merged_by (notes_in d w) n (m - n) (both s₀ k₀) ≡ merged_by (notes_in d w) t (m - t) (both s k)

module _ (w : List ℕ) (d n m : ℕ) (s₀ k₀ : List Zone) where
  module _ (s k : List Zone) (t : ℕ) (i : Merging w d n m s₀ k₀ s k t) where
    pub merging_turn : (g : Merge) (s' k' : List Zone) → t < m → notes_in d w t ≡ g → merged g t (both s k) ≡ both s' k' → Merging w d n m s₀ k₀ s' k' (t + 1)
    merging_turn g s' k' h is-merge makes =
        let e : merged (notes_in d w t) t (both s k) ≡ both s' k' = ap (λ (u : Merge). merged u t (both s k)) is-merge ∙ makes in
        record {
          from = omega (arith, i.from);
          to = omega (arith, h);
          size = ap (λ (S : Sheets). length S.sheet) (sym e) ∙ merged_size (notes_in d w t) t (both s k) ∙ i.size;
          room = ap (λ (S : Sheets). length S.kept) (sym e) ∙ kept_size (notes_in d w t) t (both s k) ∙ i.room;
          fits = subst (λ (S : Sheets). Fits (notes_in d w) (t + 1) (m - (t + 1)) S) e (fits_turn (notes_in d w) t m (both s k) h i.fits).1;
          rest = i.rest ∙ merge_turn (notes_in d w) t m (both s k) h ∙ ap (λ (S : Sheets). merged_by (notes_in d w) (t + 1) (m - (t + 1)) S) e;
        }

    pub merging_ready : (v : ℕ) → t < m → Noted d n m w → d ≤ length s₀ → m ≤ length k₀ → v ≡ get_or w (3 * d + d / 2 + t) 0 → notes_in d w t ≡ into (v / 65536) (v % 65536) → (v / 65536 < length s) × (v % 65536 < length s) × (t < length k) × ((at s (v / 65536)).stitches + (at s (v % 65536)).stitches < 2 ^ 32)
    merging_ready v h noted long-enough room-enough is-note is-merge =
        let low : v / 65536 < d = subst (λ (u : ℕ). u / 65536 < d) (sym is-note) (noted.lows t i.from h) in
        let high : v % 65536 < d = subst (λ (u : ℕ). u % 65536 < d) (sym is-note) (noted.highs t i.from h) in
        let one : FitsOne (notes_in d w t) (both s k) = (fits_turn (notes_in d w) t m (both s k) h i.fits).0 in (
          omega (arith, low, long-enough, i.size),
          omega (arith, high, long-enough, i.size),
          omega (arith, h, room-enough, i.room),
          subst (λ (g : Merge). FitsOne g (both s k)) is-merge one,
        )

    pub merging_done : m ≤ t → merged_by (notes_in d w) n (m - n) (both s₀ k₀) ≡ both s k
    merging_done h = i.rest ∙ merges_done (notes_in d w) t m (both s k) h

-- ---- putting back

pub record Returning (w : List ℕ) (d m n : ℕ) (s₀ k s : List Zone) (t : ℕ) : Type 0 where
  pub from : m ≤ t
  pub to : t ≤ n
  pub size : length s ≡ length s₀
  pub rest : returned_by (notes_in d w) n (n - m) (both s₀ k) ≡ returned_by (notes_in d w) t (t - m) (both s k)

module _ (w : List ℕ) (d m n : ℕ) (s₀ k : List Zone) where
  module _ (s : List Zone) (t : ℕ) (i : Returning w d m n s₀ k s t) where
    pub returning_turn : (g : Merge) (s' : List Zone) → m < t → notes_in d w (t - 1) ≡ g → returned g (t - 1) (both s k) ≡ both s' k → Returning w d m n s₀ k s' (t - 1)
    returning_turn g s' h is-merge makes =
        let e : returned (notes_in d w (t - 1)) (t - 1) (both s k) ≡ both s' k = ap (λ (u : Merge). returned u (t - 1) (both s k)) is-merge ∙ makes in
        record {
          from = omega (arith, h);
          to = omega (arith, i.to);
          size = ap (λ (S : Sheets). length S.sheet) (sym e) ∙ returned_size (notes_in d w (t - 1)) (t - 1) (both s k) ∙ i.size;
          rest = i.rest ∙ back_turn (notes_in d w) t m (both s k) h ∙ ap (λ (S : Sheets). returned_by (notes_in d w) (t - 1) (t - 1 - m) S) e;
        }

    pub returning_done : t ≤ m → returned_by (notes_in d w) n (n - m) (both s₀ k) ≡ both s k
    returning_done h = i.rest ∙ back_done (notes_in d w) t m (both s k) h
