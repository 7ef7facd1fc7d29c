-- Sheets that look like those which the operations give on the sheet lent to the start.
--   seen_up, seen_down == sheets that look alike do so after more operations, and after undos
--   laid_on            == what operations give of the sheets lent to the start, when more follow
--   looked_grown, looked_shrunk == sheets that look like that do so after more operations, and after undos
use mathlib.Core.Bool.{Bool}
use mathlib.Core.List.{List, [], ◌++◌}
use mathlib.Core.Path.{◌≡◌, refl, sym, ap, ◌∙◌}
use Prim.Native.Nat.{ℕ, zero, suc, ◌+◌, ◌-◌, ◌≤◌, ◌<◌}
use native.Mathlib.Decide.{ℕ_discrete}
use native.Mathlib.Nat.{add-zero, zero-add}
use native.Mathlib.Omega.{arith}
use lib.Dec.{T}
use lib.ListN.{length, set, length-append}
use Rattle.laws.specs.Standing.{Standing}
use Rattle.sheets.specs.Records.{at}
use Rattle.sheets.specs.Sheets.{Sheets, Merge, none, into, returned, merged_by, returned_by}
use Rattle.yarn.specs.Places.{lowest, is_place, merges}
use Rattle.yarn.specs.Given.{Looked}
use Rattle.yarn.proofs.Turns.{Turns}
use Rattle.yarn.proofs.Merging.{Merging, Seen, not_into}
use Rattle.yarn.proofs.Redone.{Long, merged_long, returned_long, at_same, at_other}
use Rattle.yarn.proofs.Comes.{seen_merged}
use Rattle.yarn.proofs.Untouched.{base_merging}
use Rattle.yarn.proofs.Returns.{merged_on, undone_sheet, undone_kept}
use Rattle.yarn.proofs.Agree.{merged_same, merges_first}
use Rattle.yarn.proofs.Grows.{longs_up}
use Rattle.yarn.proofs.AnyOrder.{laid_out}

module _ {place : ℕ → Bool} {ms : ℕ → Merge} {D N : ℕ} (M : Merging place ms D N) where
  seen_up : (n c : ℕ) → n + c ≤ N → {S Z : Sheets} → Long D N S → Long D N Z → Seen place ms D n S Z
      → Seen place ms D (n + c) (merged_by ms n c S) (merged_by ms n c Z)
  unfolding merged_by
  seen_up n zero l L K σ = rw (add-zero n) σ
  seen_up n (suc c) l L K σ =
      let e : n + suc c ≡ suc n + c = omega arith in
      rw e (seen_up (suc n) c (omega arith) (merged_long (ms n) n L) (merged_long (ms n) n K) (seen_merged M (omega arith) L K σ))

  seen_returned : (n : ℕ) → n < N → {S Z : Sheets} → Long D N S → Long D N Z → Seen place ms D (suc n) S Z
      → Seen place ms D n (returned (ms n) n S) (returned (ms n) n Z)
  unfolding returned
  seen_returned n l {S} {Z} L K σ = go (ms n) refl
    where
      go : (m : Merge) → ms n ≡ m → Seen place ms D n (returned m n S) (returned m n Z)
      go none e = record { sheet = σ.sheet; kept = λ t h k. σ.kept t (omega arith) k }
      go (into low high) e = record { sheet = λ x d p. split x d p (ℕ_discrete low x); kept = λ t h k. σ.kept t (omega arith) k }
        where
          room : {r : ℕ} → D ≤ r → low < r
          room h = let d = (M.lows l e).0 in omega arith

          split : (x : ℕ) → x < D → T (place x) → Dec (low ≡ x) → at (set S.sheet low (at S.kept n)) x ≡ at (set Z.sheet low (at Z.kept n)) x
          split x d p (yes o) =
              at_same S.sheet _ o (room L.sheet) ∙ σ.kept n (omega arith) (λ z. not_into (sym z ∙ e)) ∙ sym (at_same Z.sheet _ o (room K.sheet))
          split x d p (no o) = at_other S.sheet _ o ∙ σ.sheet x d p ∙ sym (at_other Z.sheet _ o)

  seen_down : (n c : ℕ) → n + c ≤ N → {S Z : Sheets} → Long D N S → Long D N Z → Seen place ms D (n + c) S Z
      → Seen place ms D n (returned_by ms (n + c) c S) (returned_by ms (n + c) c Z)
  unfolding returned_by
  seen_down n zero l L K σ = rw (add-zero n) at σ
  seen_down n (suc c) l L K σ =
      let e : n + suc c - 1 ≡ n + c = omega arith in
      let f : n + suc c ≡ suc (n + c) = omega arith in
      rw e (seen_down n c (omega arith) (returned_long (ms (n + c)) (n + c) L) (returned_long (ms (n + c)) (n + c) K)
      (seen_returned (n + c) (omega arith) L K (rw f at σ)))

module _ {D : ℕ} {b : List ℕ} (B : Standing D b []) (hs more : List ℕ) (A : Turns D (lowest D b) (hs ++ more)) {F S : Sheets}
    (K : Long D (length (hs ++ more)) F) (L : Long D (length (hs ++ more)) S) where
  abbrev ms : ℕ → Merge
  ms = merges D b (hs ++ more)

  abbrev n : ℕ
  n = length hs

  abbrev c : ℕ
  c = length more

  abbrev M : Merging (is_place D b) ms D (length (hs ++ more))
  M = base_merging B (hs ++ more) A.inside A.apart

  all : length (hs ++ more) ≡ n + c
  all = length-append hs more

  -- ---- what operations give of the sheets F that were lent to the start

  laid_first : merged_by ms 0 n F ≡ laid_out D b hs F
  laid_first = merged_same (merges_first D b hs more) 0 n (omega arith) F

  laid_on : laid_out D b (hs ++ more) F ≡ merged_by ms n c (laid_out D b hs F)
  laid_on = rw (all, ← laid_first) (merged_on ms 0 n c F ∙ ap (λ t. merged_by ms t c (merged_by ms 0 n F)) (zero-add n))

  first_long : Long D (length (hs ++ more)) (laid_out D b hs F)
  first_long = longs_up (merges D b hs) 0 n K

  -- ---- sheets that look like that

  -- operation t merges the same, when more follow
  same_merge : (t : ℕ) → t < n → ms t ≡ merges D b hs t
  same_merge = (merges_first D b hs more).same

  pub looked_grown : Looked D b hs (laid_out D b hs F) S → Looked D b (hs ++ more) (laid_out D b (hs ++ more) F) (merged_by ms n c S)
  looked_grown σ =
      let early : Seen (is_place D b) ms D n (laid_out D b hs F) S =
      record { sheet = σ.sheet; kept = λ t h k. σ.kept t h (λ z. k (same_merge t h ∙ z)) } in
      let size = all in
      let now = seen_up M n c (omega arith) first_long L early in
      rw laid_on (record { sheet = now.sheet; kept = λ t h k. now.kept t (omega arith) k })

  pub looked_shrunk : Looked D b (hs ++ more) (laid_out D b (hs ++ more) F) S → Looked D b hs (laid_out D b hs F) (returned_by ms (length (hs ++ more)) c S)
  looked_shrunk σ =
      let size = all in
      let Y : Sheets = laid_out D b hs F in
      let late : Seen (is_place D b) ms D (n + c) (merged_by ms n c Y) S =
      rw (← laid_on) (record { sheet = σ.sheet; kept = λ t h k. σ.kept t (omega arith) k }) in
      let now = seen_down M n c (omega arith) (longs_up ms n c first_long) L late in
      let sheet : (returned_by ms (n + c) c (merged_by ms n c Y)).sheet ≡ Y.sheet = undone_sheet ms n c Y (omega (arith, first_long.kept)) in
      rw all (record {
        sheet = λ x d p. ap (λ s. at s x) (sym sheet) ∙ now.sheet x d p;
        kept = λ t h k. sym (undone_kept ms n c Y t (λ l o. absurd (omega arith))) ∙ now.kept t h (λ z. k (sym (same_merge t h) ∙ z));
      })
