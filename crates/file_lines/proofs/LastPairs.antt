-- The lines of the pairs, which are the last ones.
--   last_wrong == a fault in them
--   last_more  == bytes after them
--   last_right == the file ends with them
--   last_found == what is found is the pairs
--   last_end   == and then the body of the file, which `make` makes of them, is found
use mathlib.Core.Path.{◌≡◌, refl, sym, ◌∙◌}
use mathlib.Core.Logic.{◌≢◌}
use mathlib.Core.Bool.{Bool, true, false}
use mathlib.Core.List.{List}
use Prim.Native.Nat.{ℕ, ◌/◌}
use native.Mathlib.Omega.{arith}
use lib.Dec.{eqb}
use lib.ListN.{length}
use borrow.Author.Tests.{eq-eqb, ne_eqb}
use Rattle.std.proofs.Common.{if◌then◌else◌}
use Rattle.std.specs.Prelude.{Ok, Err}
use Rattle.darts.specs.Answers.{no_file}
use Rattle.darts.specs.Cases.{refusal_of}
use Rattle.darts.specs.declared.Refusal.{Refusal}
use Rattle.darts.specs.declared.Refusal.TheVariants.{NoFile}
use Rattle.darts.specs.Scan.{Scan, found, fault, after}
use Rattle.darts.specs.Read.{Body, pairs_at, end_at}
use Rattle.file_lines.specs.Pairs.{PairsRead, last_at, LastRead}
use Rattle.file_lines.proofs.After.{through, made_fault, made_found}

module _ {b : List ℕ} {at D F : ℕ} {t t' : List ℕ} where
  pub last_wrong : {r : Refusal} → PairsRead b at D F t t' (Err r) → LastRead b at D F t t' (Err r)
  unfolding last_at
  last_wrong {r} P =
      let wrong : pairs_at (D / 2) b at ≡ fault (refusal_of r) = made_fault _ (λ _. 0) (sym P.answer) in
      record { answer = rw wrong; table = P.table }

  module _ {next : ℕ} (P : PairsRead b at D F t t' (Ok next)) where
    pub last_more : next ≢ length b → LastRead b at D F t t' (Err (NoFile next))
    unfolding last_at
    last_more n =
        let lines = made_found (pairs_at (D / 2) b at) (λ _. 0) (sym P.answer) in
        record { answer = rw (lines.whole, ne_eqb next (length b) n); table = P.table }

    pub last_right : next ≡ length b → LastRead b at D F t t' (Ok next)
    unfolding last_at
    last_right same =
        let lines = made_found (pairs_at (D / 2) b at) (λ _. 0) (sym P.answer) in
        record { answer = rw (lines.whole, eq-eqb next (length b) same); table = P.table }

pub last_found : (D : ℕ) (b : List ℕ) (at : ℕ) {xs : List ℕ} {next : ℕ} → last_at D b at ≡ found xs next → pairs_at (D / 2) b at ≡ found xs next
unfolding last_at
last_found D b at {xs} {next} e =
    let lines = through (pairs_at (D / 2) b at) _ e in
    lines.first ∙ go (eqb lines.place (length b)) lines.value lines.place lines.second
  where
    go : (t : Bool) (ys : List ℕ) (last : ℕ) → (if t then found ys last else fault (no_file last)) ≡ found xs next → found ys last ≡ found xs next
    go true ys last e = e
    go false ys last e = let never : ◌≡◌ {A = ℕ} 0 1 = cc in absurd (omega arith)

pub last_end : (D : ℕ) (b : List ℕ) (at : ℕ) (make : List ℕ → Body)
    → after (pairs_at (D / 2) b at) (λ xs next. end_at (make xs) b next) ≡ after (last_at D b at) (λ xs next. found (make xs) next)
unfolding last_at end_at
last_end D b at make = go (pairs_at (D / 2) b at)
  where
    pick : (t : Bool) (xs : List ℕ) (next : ℕ)
        → (if t then found (make xs) next else fault (no_file next))
        ≡ after (if t then found xs next else fault (no_file next)) (λ xs next. found (make xs) next)
    pick true xs next = refl
    pick false xs next = refl

    go : (s : Scan (List ℕ))
        → after s (λ xs next. if eqb next (length b) then found (make xs) next else fault (no_file next))
        ≡ after (after s (λ xs next. if eqb next (length b) then found xs next else fault (no_file next))) (λ xs next. found (make xs) next)
    go (found xs next) = pick (eqb next (length b)) xs next
    go (fault x) = refl
