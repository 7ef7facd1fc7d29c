-- Lines of one kind, read one after the other into a list.
--   Lines one all        == `all n at` finds n lines from a place on, each as `one` finds it
--   Rest whole here done == what is found from the first line on is what was found, `done`, and then what is found from here on
--   rest_none            == before the first line
--   rest_on              == one line more
--   rest_fault           == a line that is wrong is the fault of the whole
--   rest_found           == with no line left, what was found is the whole
--   lines_count          == how many entries n lines give
use mathlib.Core.Path.{◌≡◌, refl, sym, ap, ◌∙◌}
use mathlib.Core.List.{List, [], ◌++◌, append_assoc, append-nil}
use Prim.Native.Nat.{ℕ, zero, suc, ◌-◌, ◌*◌, ◌≤◌, ◌<◌}
use native.Mathlib.Nat.{zero-mul, suc-mul}
use native.Mathlib.Omega.{arith}
use lib.ListN.{length, length-append}
use Rattle.darts.specs.Answers.{Answer}
use Rattle.darts.specs.Scan.{Scan, found, fault, after}
use Rattle.file_lines.proofs.After.{through}

module _ {A : Type 0} where
  pub record Lines (one : ℕ → Scan (List A)) (all : ℕ → ℕ → Scan (List A)) : Type 0 where
    pub first : (n at : ℕ) → all (suc n) at ≡ after (one at) (λ p at. after (all n at) (λ rest next. found (p ++ rest) next))
    pub none : (at : ℕ) → all zero at ≡ found [] at

  pub record Rest (whole here : Scan (List A)) (done : List A) : Type 0 where
    pub same : whole ≡ after here (λ rest next. found (done ++ rest) next)

  pub rest_none : (s : Scan (List A)) → Rest s s []
  rest_none (found xs next) = record { same = refl }
  rest_none (fault x) = record { same = refl }

  -- what was found before goes before
  regroup : (s : Scan (List A)) (xs ys : List A)
      → after (after s (λ rest next. found (ys ++ rest) next)) (λ rest next. found (xs ++ rest) next) ≡ after s (λ rest next. found ((xs ++ ys) ++ rest) next)
  regroup (found zs next) xs ys = ap (λ (l : List A). found l next) (sym (append_assoc xs ys zs))
  regroup (fault x) xs ys = refl

  module _ {one : ℕ → Scan (List A)} {all : ℕ → ℕ → Scan (List A)} (lines : Lines one all) {whole : Scan (List A)} {done : List A} {at : ℕ} where
    pub rest_on : (n : ℕ) → 0 < n → {p : List A} {next : ℕ} → Rest whole (all n at) done → one at ≡ found p next → Rest whole (all (n - 1) next) (done ++ p)
    rest_on zero h r e = absurd (omega arith)
    rest_on (suc n) h {p} {next} r e =
        let back : suc n - 1 ≡ n = omega arith in
        rw back (record { same = r.same ∙ rw (lines.first n at, e) (regroup (all n next) done p) })

    pub rest_fault : (n : ℕ) → 0 < n → {a : Answer} → Rest whole (all n at) done → one at ≡ fault a → whole ≡ fault a
    rest_fault zero h r e = absurd (omega arith)
    rest_fault (suc n) h r e = r.same ∙ rw (lines.first n at, e)

    pub rest_found : (n : ℕ) → n ≤ 0 → Rest whole (all n at) done → whole ≡ found done at
    rest_found zero h r = r.same ∙ rw (lines.none at) (ap (λ (l : List A). found l at) (append-nil done))
    rest_found (suc n) h r = absurd (omega arith)

  -- where each line gives w numbers, n lines give n times as many
  pub lines_count : {one : ℕ → Scan (List A)} {all : ℕ → ℕ → Scan (List A)} → Lines one all → (w : ℕ)
      → ((at : ℕ) (p : List A) (next : ℕ) → one at ≡ found p next → length p ≡ w)
      → (n at : ℕ) (xs : List A) (next : ℕ) → all n at ≡ found xs next → length xs ≡ n * w
  lines_count lines w each zero at xs next e = let empty : xs ≡ [] = cc (lines.none at, e) in rw (empty, zero-mul w)
  lines_count {one} {all} lines w each (suc n) at xs next e =
      let line = through (one at) _ (sym (lines.first n at) ∙ e) in
      let others = through (all n line.place) _ line.second in
      let split : xs ≡ line.value ++ others.value = cc others.second in
      rw (split, length-append, suc-mul)
      (omega (arith, each at line.value line.place line.first, lines_count lines w each n line.place others.value others.place others.first))
