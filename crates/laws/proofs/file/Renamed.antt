-- A table whose darts are renamed.
--   Renaming D order ν == ν gives each of D darts a new number below D, order gives the darts back by their new numbers, and partners stay partners
--   renamed order ν t  == the table t in the new numbers
use mathlib.Core.List.{List, [], ◌∷◌, map}
use mathlib.Core.Logic.{◌≢◌}
use mathlib.Core.Path.{◌≡◌, refl, sym, ap, ◌∙◌}
use Prim.Native.Nat.{ℕ, zero, suc, ◌<◌}
use native.Mathlib.Decide.{ℕ_discrete}
use native.Mathlib.Omega.{arith}
use lib.ListN.{length, get_or, set, length-set, length-map}
use lib.Seq.{ext_get_or, get_or-set_same, get_or-set_other}
use Rattle.permutations.specs.Choice.{eqb_same, eqb_other}
use Rattle.permutations.specs.Partner.{partner}
use Rattle.darts.specs.Map.{successor}
use Rattle.laws.proofs.bridge.Relink.{relinked}

pub record Renaming (D : ℕ) (order : List ℕ) (ν : ℕ → ℕ) : Type 0 where
  pub count : length order ≡ D
  pub below : (d : ℕ) → d < D → ν d < D
  pub back : (d : ℕ) → d < D → get_or order (ν d) 0 ≡ d
  pub dart : (i : ℕ) → i < D → get_or order i 0 < D
  pub forth : (i : ℕ) → i < D → ν (get_or order i 0) ≡ i
  pub partners : (d : ℕ) → d < D → ν (partner d) ≡ partner (ν d)

-- "Entries are renamed alike."
unfoldable pub renamed : List ℕ → (ℕ → ℕ) → List ℕ → List ℕ
renamed order ν t = map (λ d. ν (successor t d)) order

-- inside a list, what it gives past its end does not matter
get_d_map : (f : ℕ → ℕ) (l : List ℕ) (i d e : ℕ) → i < length l → get_or (map f l) i d ≡ f (get_or l i e)
get_d_map f [] i d e h = absurd (omega arith)
get_d_map f (x ∷ l) zero d e h = refl
get_d_map f (x ∷ l) (suc i) d e h = get_d_map f l i d e (omega arith)

module _ {D : ℕ} {order : List ℕ} {ν : ℕ → ℕ} (R : Renaming D order ν) where
  -- no two darts get one number
  pub number_one : (x y : ℕ) → x < D → y < D → ν x ≡ ν y → x ≡ y
  number_one x y h k e = sym (R.back x h) ∙ ap (λ i. get_or order i 0) e ∙ R.back y k

  pub number_other : (x y : ℕ) → x < D → y < D → x ≢ y → ν x ≢ ν y
  number_other x y h k n e = n (number_one x y h k e)

  pub renamed_length : (t : List ℕ) → length (renamed order ν t) ≡ D
  unfolding renamed
  renamed_length t = length-map order (λ d. ν (successor t d)) ∙ R.count

  pub renamed_entry : (t : List ℕ) (x : ℕ) → x < D → successor (renamed order ν t) (ν x) ≡ ν (successor t x)
  unfolding renamed successor
  renamed_entry t x h =
      let small : ν x < length order = let e = R.count in omega (arith, R.below x h) in
      get_d_map (λ d. ν (successor t d)) order (ν x) 0 0 small ∙ ap (λ d. ν (successor t d)) (R.back x h)

  -- the entries tell a renamed table
  pub renamed_only : (t u : List ℕ) → length u ≡ D → ((x : ℕ) → x < D → successor u (ν x) ≡ ν (successor t x)) → u ≡ renamed order ν t
  unfolding successor
  renamed_only t u size same = ext_get_or 0 u (renamed order ν t) (size ∙ sym (renamed_length t)) (λ i h. at i (rw (← size) h))
    where
      at : (i : ℕ) → i < D → successor u i ≡ successor (renamed order ν t) i
      at i h =
          let d = get_or order i 0 in
          let k = R.dart i h in
          let e = R.forth i h in
          ap (successor u) (sym e) ∙ same d k ∙ sym (renamed_entry t d k) ∙ ap (successor (renamed order ν t)) e

  -- ---- writing into a renamed table

  renamed_set : (t : List ℕ) (a v : ℕ) → length t ≡ D → a < D → set (renamed order ν t) (ν a) (ν v) ≡ renamed order ν (set t a v)
  unfolding successor
  renamed_set t a v size h =
      renamed_only (set t a v) (set (renamed order ν t) (ν a) (ν v)) (length-set (renamed order ν t) (ν a) (ν v) ∙ renamed_length t)
      (λ x k. at x k (ℕ_discrete x a))
    where
      at : (x : ℕ) → x < D → Dec (x ≡ a) → successor (set (renamed order ν t) (ν a) (ν v)) (ν x) ≡ ν (successor (set t a v) x)
      at x k (yes e) =
          let small : a < length t = rw size h in
          let small' : ν a < length (renamed order ν t) = rw (renamed_length t) (R.below a h) in
          rw (e, get_or-set_same (renamed order ν t) (ν a) (ν v) 0 small', get_or-set_same t a v 0 small)
      at x k (no n) =
          get_or-set_other (renamed order ν t) (ν a) (ν x) (ν v) 0 (number_other x a k h n) ∙ renamed_entry t x k ∙ ap ν (sym (get_or-set_other t a x v 0 n))

  pub renamed_relinked : (t : List ℕ) (a b q r s : ℕ) → length t ≡ D → a < D → b < D → q < D → r < D
      → relinked (renamed order ν t) (ν a) (ν b) (ν q) (ν r) (ν s) ≡ renamed order ν (relinked t a b q r s)
  unfolding relinked
  renamed_relinked t a b q r s size ha hb hq hr = go (ℕ_discrete r q)
    where
      go : Dec (r ≡ q) → relinked (renamed order ν t) (ν a) (ν b) (ν q) (ν r) (ν s) ≡ renamed order ν (relinked t a b q r s)
      go (yes e) = rw (eqb_same e, eqb_same (ap ν e)) (renamed_set t a s size ha)
      go (no n) =
          rw (eqb_other n, eqb_other (number_other r q hr hq n), renamed_set t a r size ha) (renamed_set (set t a r) b s (length-set t a r ∙ size) hb)
