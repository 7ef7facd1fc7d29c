-- One operation done, and undone: sheets that are right stay so, and what is undone can be done again.
--   Long D N S      == the sheets have room for D darts and N operations
--   merged_long, returned_long == and they keep it
--   at_same, at_other == one record written: there, and elsewhere
--   merged_right    == an operation leads from right sheets to right sheets
--   returned_right  == so does its undo
--   returned_merged == undone and done again, the sheets are the same wherever they are looked at
use mathlib.Core.Bool.{Bool}
use mathlib.Core.List.{List}
use mathlib.Core.Logic.{◌≢◌, ◌↔◌}
use mathlib.Core.Path.{◌≡◌, refl, sym, ap, ◌∙◌, subst}
use Prim.Native.Nat.{ℕ, suc, ◌≤◌, ◌<◌}
use native.Mathlib.Decide.{ℕ_discrete}
use native.Mathlib.Omega.{arith}
use lib.Dec.{T}
use lib.ListN.{length, set, length-set}
use lib.Seq.{get_or-set_same, get_or-set_other}
use Rattle.sheets.specs.declared.Zone.{Zone}
use Rattle.sheets.specs.Records.{merge_of, at}
use Rattle.sheets.specs.Sheets.{Sheets, Merge, none, into, high_of, merged, returned, last_into, sound}
use Rattle.sheets.proofs.Same.{same_decides}
use Rattle.yarn.proofs.Merging.{Merging, last, last_none, last_same, last_other, Told, sound_told, told_less, Seen, Right, not_into, into_same, last_or_less, Keeps}

pub record Long (D N : ℕ) (S : Sheets) : Type 0 where
  pub sheet : D ≤ length S.sheet
  pub kept : N ≤ length S.kept

pub merged_long : {D N : ℕ} {S : Sheets} (m : Merge) (t : ℕ) → Long D N S → Long D N (merged m t S)
unfolding merged
merged_long none t L = L
merged_long {S = S} (into low high) t L = record { sheet = rw length-set L.sheet; kept = rw length-set L.kept }

pub returned_long : {D N : ℕ} {S : Sheets} (m : Merge) (t : ℕ) → Long D N S → Long D N (returned m t S)
unfolding returned
returned_long none t L = L
returned_long (into low high) t L = record { sheet = rw length-set L.sheet; kept = L.kept }

-- ---- one record written

pub at_same : (s : List Zone) {i j : ℕ} (z : Zone) → i ≡ j → i < length s → at (set s i z) j ≡ z
at_same s {i} z e h = subst (λ k. at (set s i z) k ≡ z) e (get_or-set_same s i z _ h)

pub at_other : (s : List Zone) {i j : ℕ} (z : Zone) → i ≢ j → at (set s i z) j ≡ at s j
at_other s {i} {j} z n = get_or-set_other s i j z _ (λ e. n (sym e))

-- what operation n left is what it kept, with the other record merged into it
sound_last : (ms : ℕ → Merge) (S : Sheets) (n : ℕ) {low high : ℕ} → ms n ≡ into low high → (z : Zone)
    → T (sound ms S (suc n) z) ↔ (merge_of (at S.kept n) (at S.sheet high) ≡ z)
unfolding sound high_of
sound_last ms S n e z = rw e (same_decides _ z)

module _ {place : ℕ → Bool} {ms : ℕ → Merge} {D N : ℕ} (M : Merging place ms D N) where
  -- ---- a contraction

  module _ {n low high : ℕ} (h : n < N) (e : ms n ≡ into low high) (S : Sheets) (L : Long D N S) where
    low_room : low < length S.sheet
    low_room = let l = (M.lows h e).0 in let r = L.sheet in omega arith

    kept_room : n < length S.kept
    kept_room = let r = L.kept in omega arith

    -- no record that was merged into another is at the lower place
    not_low : {t low' high' : ℕ} → t ≤ n → ms t ≡ into low' high' → low ≢ high'
    not_low l k o = M.untouched l h k e (sym o)

    -- ---- done

    abbrev new : Zone
    new = merge_of (at S.sheet low) (at S.sheet high)

    abbrev done : Sheets
    done = merged (into low high) n S

    told_merged : Told ms n S done
    unfolding merged
    told_merged = record {
      kept = λ l k. sym (at_other S.kept (at S.sheet low) (λ o. omega arith));
      high = λ l k. sym (at_other S.sheet new (not_low (omega arith) k));
    }

    done_right : Right place ms D n S → Right place ms D (suc n) done
    unfolding merged
    done_right R = record { kept = λ l k. last_or_less {A = λ t. Keeps ms done t (ms t)} now before _ l _ _ k; sheet = λ x d p. go x d p (ℕ_discrete low x) }
      where
        was : T (sound ms S (last_into ms n low) (at S.sheet low))
        was = let (d, p) = M.lows h e in R.sheet low d p

        now : Keeps ms done n (ms n)
        now low' high' k =
            rw (← (into_same (sym e ∙ k)).0, at_same S.kept (at S.sheet low) refl kept_room)
            (sound_told told_merged (last ms n low) (at S.sheet low) was)

        before : (t : ℕ) → t < n → Keeps ms done t (ms t)
        before t l low' high' k =
            rw (at_other S.kept {i = n} {j = t} (at S.sheet low) (λ o. omega arith))
            (sound_told (told_less (omega arith) told_merged) (last ms t low') (at S.kept t) (R.kept l k))

        go : (x : ℕ) → x < D → T (place x) → Dec (low ≡ x) → T (sound ms done (last_into ms (suc n) x) (at done.sheet x))
        go x d p (yes o) =
            rw (last_same ms n x e o, at_same S.sheet new o low_room)
            ((sound_last ms done n e new).1
            (rw (at_same S.kept (at S.sheet low) refl kept_room, at_other S.sheet new (not_low {t = n} (omega arith) e))))
        go x d p (no o) =
            rw (last_other ms n x e o, at_other S.sheet new o)
            (sound_told told_merged (last ms n x) (at S.sheet x) (R.sheet x d p))

    -- ---- undone

    abbrev old : Zone
    old = at S.kept n

    abbrev undone : Sheets
    undone = returned (into low high) n S

    told_returned : Told ms n S undone
    unfolding returned
    told_returned = record { kept = λ l k. refl; high = λ l k. sym (at_other S.sheet old (not_low (omega arith) k)) }

    undone_right : Right place ms D (suc n) S → Right place ms D n undone
    unfolding returned
    undone_right R = record {
      kept = λ l k. sound_told (told_less (omega arith) told_returned) (last ms _ _) _ (R.kept (omega arith) k);
      sheet = λ x d p. go x d p (ℕ_discrete low x);
    }
      where
        go : (x : ℕ) → x < D → T (place x) → Dec (low ≡ x) → T (sound ms undone (last_into ms n x) (at undone.sheet x))
        go x d p (yes o) =
            rw (at_same S.sheet old o low_room, ← o)
            (sound_told told_returned (last ms n low) old (R.kept (omega arith) e))
        go x d p (no o) =
            rw (at_other S.sheet old o)
            (sound_told told_returned (last ms n x) (at S.sheet x) (rw (last_other ms n x e o) at (R.sheet x d p)))

    undone_done : Right place ms D (suc n) S → Seen place ms D (suc n) (merged (into low high) n undone) S
    unfolding merged returned
    undone_done R = record { sheet = λ x d p. go x (ℕ_discrete low x); kept = λ t l k. keeps t (ℕ_discrete n t) }
      where
        again : merge_of (at undone.sheet low) (at undone.sheet high) ≡ at S.sheet low
        again =
            let (d, p) = M.lows h e in
            rw (at_same S.sheet old refl low_room, at_other S.sheet old (not_low {t = n} (omega arith) e))
            ((sound_last ms S n e (at S.sheet low)).0 (rw (last_same ms n low e refl) at (R.sheet low d p)))

        go : (x : ℕ) → Dec (low ≡ x) → at (set undone.sheet low (merge_of (at undone.sheet low) (at undone.sheet high))) x ≡ at S.sheet x
        go x (yes o) = at_same undone.sheet _ o (rw length-set low_room) ∙ again ∙ ap (at S.sheet) o
        go x (no o) = at_other undone.sheet _ o ∙ at_other S.sheet old o

        keeps : (t : ℕ) → Dec (n ≡ t) → at (set S.kept n (at undone.sheet low)) t ≡ at S.kept t
        keeps t (yes o) = at_same S.kept _ o kept_room ∙ at_same S.sheet old refl low_room ∙ ap (at S.kept) o
        keeps t (no o) = at_other S.kept _ o

  -- ---- any operation

  module _ {n : ℕ} (h : n < N) where
    -- a removal changes no sheet, and tells nothing
    none_right : {S : Sheets} → ms n ≡ none → Right place ms D n S ↔ Right place ms D (suc n) S
    none_right {S} e = (
      λ R. record {
        kept = λ l k. last_or_less {A = λ t. Keeps ms S t (ms t)} now (λ t l low high k. R.kept l k) _ l _ _ k;
        sheet = λ x d p. rw (last_none ms n x e) (R.sheet x d p);
      },
      λ R. record { kept = λ l k. R.kept (omega arith) k; sheet = λ x d p. rw (last_none ms n x e) at (R.sheet x d p) },
    )
      where
        now : Keeps ms S n (ms n)
        now low high k = absurd (not_into (sym e ∙ k))

    module _ (S : Sheets) (L : Long D N S) where
      pub merged_right : Right place ms D n S → Right place ms D (suc n) (merged (ms n) n S)
      unfolding merged
      merged_right = go (ms n) refl
        where
          go : (m : Merge) → ms n ≡ m → Right place ms D n S → Right place ms D (suc n) (merged m n S)
          go none e = (none_right e).0
          go (into low high) e = done_right h e S L

      pub returned_right : Right place ms D (suc n) S → Right place ms D n (returned (ms n) n S)
      unfolding returned
      returned_right = go (ms n) refl
        where
          go : (m : Merge) → ms n ≡ m → Right place ms D (suc n) S → Right place ms D n (returned m n S)
          go none e = (none_right e).1
          go (into low high) e = undone_right h e S L

      pub returned_merged : Right place ms D (suc n) S → Seen place ms D (suc n) (merged (ms n) n (returned (ms n) n S)) S
      unfolding merged returned
      returned_merged = go (ms n) refl
        where
          go : (m : Merge) → ms n ≡ m → Right place ms D (suc n) S → Seen place ms D (suc n) (merged m n (returned m n S)) S
          go none e R = record { sheet = λ x d p. refl; kept = λ t l k. refl }
          go (into low high) e R = undone_done h e S L R
