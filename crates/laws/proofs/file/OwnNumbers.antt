-- In a file's own numbers each dart is its own number.
use mathlib.Core.List.{List, reverse, reverse-reverse, Memᴰ}
use mathlib.Core.Logic.{◌↔◌}
use mathlib.Core.Path.{◌≡◌, sym, ap, ◌∙◌, subst}
use Prim.Native.Nat.{ℕ, zero, suc, ◌+◌, ◌-◌, ◌*◌, ◌/◌, ◌%◌, ◌<◌, ◌≤◌}
use native.Mathlib.Decide.{ℕ_discrete, dec_lt}
use native.Mathlib.Omega.{arith}
use lib.Dec.{T}
use lib.ListN.{length, get_or, length-reverse}
use Rattle.permutations.specs.Choice.{T?, not_iff}
use Rattle.permutations.specs.Partner.{partner}
use Rattle.permutations.proofs.PartnerLemmas.{partner_first}
use Rattle.darts.specs.Map.{successor, gone, survives}
use Rattle.darts.specs.Operation.{Kind, lead_of}
use Rattle.darts.specs.Counts.{surviving}
use Rattle.darts.specs.File.{taken, file_number, file_table}
use Rattle.laws.proofs.file.FileOrder.{taken_iff, surviving_with, surviving_without}
use Rattle.laws.proofs.file.Renamed.{renamed, renamed_only}
use Rattle.laws.proofs.file.Numbering.{Numbering}
use Rattle.laws.proofs.file.History.{own_numbers, own_count, own_leads, own_taken}

module _ (ks : List Kind) where
  -- the past of a file
  abbrev own : List ℕ
  own = reverse (own_numbers 0 ks)

  own_length : length own ≡ length ks
  own_length = length-reverse (own_numbers 0 ks) ∙ own_count 0 ks

  own_gone : (x : ℕ) → T (gone own x) ↔ (x < 2 * length ks)
  own_gone x =
      let i = taken_iff own x in
      let j = subst (λ l. Memᴰ x (taken l) ↔ ((0 ≤ x) × (x < 2 * (0 + length ks)))) (sym (reverse-reverse (own_numbers 0 ks))) (own_taken 0 ks x) in
      (λ g. omega (arith, (j.0 (i.0 g)).1), λ h. i.1 (j.1 (omega arith, omega arith)))

  own_survives : (x : ℕ) → T (survives own x) ↔ (2 * length ks ≤ x)
  unfolding survives
  own_survives x =
      let i = not_iff (gone own x) (own_gone x) in
      (λ s. let n = i.0 s in omega arith, λ h. i.1 (omega arith))

  own_surviving : (m : ℕ) → surviving own m ≡ m - 2 * length ks
  unfolding surviving
  own_surviving zero = omega arith
  own_surviving (suc m) = go (T? (survives own m)) (own_surviving m)
    where
      go : Dec (T (survives own m)) → surviving own m ≡ m - 2 * length ks → surviving own (suc m) ≡ suc m - 2 * length ks
      go (yes s) e = rw (surviving_with own m s) (let h = (own_survives m).0 s in omega arith)
      go (no n) e = rw (surviving_without own m n) (let k : ¬ (2 * length ks ≤ m) = λ h. n ((own_survives m).1 h) in omega arith)

  module _ (D : ℕ) (N : Numbering D own) where
    -- the p of an operation
    own_lead : (i : ℕ) → i < length ks → file_number D own (2 * i) ≡ 2 * i
    own_lead i h =
        let lead : lead_of (get_or (reverse own) i 0) ≡ 2 * i =
        ap (λ l. lead_of (get_or l i 0)) (reverse-reverse (own_numbers 0 ks)) ∙ own_leads 0 ks i h ∙ omega arith in
        ap (file_number D own) (sym lead) ∙ N.p i (let l = own_length in omega arith)

    -- EACH DART IS ITS OWN NUMBER
    own_number : (x : ℕ) → x < D → file_number D own x ≡ x
    own_number x h = go (dec_lt x (2 * length ks)) (ℕ_discrete (x % 2) 0)
      where
        go : Dec (x < 2 * length ks) → Dec (x % 2 ≡ 0) → file_number D own x ≡ x
        go (yes l) (yes e) = let k : x ≡ 2 * (x / 2) = omega arith in ap (file_number D own) k ∙ own_lead (x / 2) (omega arith) ∙ sym k
        go (yes l) (no o) =
            let k : x ≡ partner (2 * (x / 2)) = let q = partner_first (x / 2) in omega arith in
            ap (file_number D own) k ∙ N.renaming.partners (2 * (x / 2)) (omega arith) ∙ ap partner (own_lead (x / 2) (omega arith)) ∙ sym k
        go (no n) d =
            let s = (own_survives x).1 (omega arith) in
            let c = own_surviving x in
            let l = own_length in
            N.survivor x h s ∙ omega arith

    -- AND THE TABLE STAYS AS IT IS
    pub own_table : (t : List ℕ) → length t ≡ D → ((x : ℕ) → x < D → successor t x < D) → file_table D t own ≡ t
    unfolding file_table renamed
    own_table t size inside =
        sym (renamed_only N.renaming t t size (λ x h. ap (successor t) (own_number x h) ∙ sym (own_number (successor t x) (inside x h))))
