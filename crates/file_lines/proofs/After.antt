-- One thing after another in a file.
--   after_after  == it does not matter how the steps are grouped
--   Through      == where two steps find something, so did the first
--   made_fault   == what is made of a value changes no fault
--   Made         == nor the place after it
--   field_small  == the number of a field is at most 99,999
use mathlib.Core.Path.{◌≡◌, refl}
use mathlib.Core.List.{List}
use Prim.Native.Nat.{ℕ, ◌≤◌}
use native.Mathlib.Omega.{arith}
use Rattle.darts.specs.Answers.{Answer}
use Rattle.darts.specs.Scan.{Scan, found, fault, after, word, number_at, field}
use Rattle.file_lines.proofs.Number.{number_small}

pub after_after : {A B C : Type 0} (s : Scan A) (f : A → ℕ → Scan B) (g : B → ℕ → Scan C) → after (after s f) g ≡ after s (λ a at. after (f a at) g)
after_after (found a at) f g = refl
after_after (fault x) f g = refl

pub record Through {A B : Type 0} (s : Scan A) (f : A → ℕ → Scan B) (y : B) (next : ℕ) : Type 0 where
  pub value : A
  pub place : ℕ
  pub first : s ≡ found value place
  pub second : f value place ≡ found y next

pub through : {A B : Type 0} (s : Scan A) (f : A → ℕ → Scan B) {y : B} {next : ℕ} → after s f ≡ found y next → Through s f y next
through (found a at) f e = record { value = a; place = at; first = refl; second = e }
through (fault x) f e = let never : ◌≡◌ {A = ℕ} 0 1 = cc in absurd (omega arith)

module _ {A B : Type 0} (s : Scan A) (f : A → B) where
  pub made_fault : {x : Answer} → after s (λ a at. found (f a) at) ≡ fault x → s ≡ fault x
  made_fault {x} e = go s e
    where
      go : (s : Scan A) → after s (λ a at. found (f a) at) ≡ fault x → s ≡ fault x
      go (found a at) e = let never : ◌≡◌ {A = ℕ} 0 1 = cc in absurd (omega arith)
      go (fault y) e = let same : y ≡ x = cc in rw same

  pub record Made (y : B) (next : ℕ) : Type 0 where
    pub value : A
    pub whole : s ≡ found value next
    pub same : f value ≡ y

  pub made_found : {y : B} {next : ℕ} → after s (λ a at. found (f a) at) ≡ found y next → Made y next
  made_found {y} {next} e =
      let t = through s (λ a at. found (f a) at) e in
      let same : t.place ≡ next = cc t.second in
      record { value = t.value; whole = rw same at t.first; same = cc t.second }

pub field_small : (w end b : List ℕ) (at : ℕ) {x next : ℕ} → field w end b at ≡ found x next → x ≤ 99999
unfolding field
field_small w end b at {x} {next} e =
    let opened = through (word w b at) _ e in
    let read = through (number_at b opened.place) _ opened.second in
    let closed = through (word end b read.place) _ read.second in
    let same : read.value ≡ x = cc closed.second in
    omega (arith, number_small b opened.place read.first)
