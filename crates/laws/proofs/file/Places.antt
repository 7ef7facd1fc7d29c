-- Places in a list.
--   Once l     == no number stands twice in l
--   Paired l   == the numbers of l go in pairs, each with its partner behind it
--   Placed l x == x stands at its place in l
use mathlib.Core.List.Memᴰ
use mathlib.Core.List.{List, [], ◌∷◌, ◌++◌, Memᴰ}
use mathlib.Core.Logic.{◌≢◌, ⊎_elim}
use mathlib.Core.Path.{◌≡◌, refl, sym, ap, ◌∙◌}
use Prim.Native.Nat.{ℕ, zero, suc, ◌<◌}
use native.Mathlib.Decide.{ℕ_discrete, dec_lt}
use native.Mathlib.Omega.{arith}
use lib.ListN.{length, get_or}
use Rattle.permutations.specs.Choice.{eqb_same, eqb_other}
use Rattle.permutations.specs.Partner.{partner}
use Rattle.permutations.proofs.PartnerLemmas.{partner_even, partner_odd, partner_cases, partner_first, partner_second, partner_partner}
use Rattle.permutations.specs.Pigeonhole.{pigeonhole}
use Rattle.darts.specs.File.{place_in}

abbrev pub Once : List ℕ → Type 0
Once [] = Unit {0}
Once (x ∷ l) = (¬ Memᴰ x l) × Once l

abbrev pub Paired : List ℕ → Type 0
Paired [] = Unit {0}
Paired (x ∷ []) = ⊥
Paired (x ∷ y ∷ l) = (y ≡ partner x) × Paired l

-- ---- what stands in a list has a place there

pub record Placed (l : List ℕ) (x : ℕ) : Type 0 where
  pub inside : place_in l x < length l
  pub there : get_or l (place_in l x) 0 ≡ x

placed_first : {l : List ℕ} {x y : ℕ} → x ≡ y → Placed (y ∷ l) x
unfolding place_in
placed_first e = record { inside = rw (eqb_same e) (omega arith); there = rw (eqb_same e) (sym e) }

pub placed : {x : ℕ} {l : List ℕ} → Memᴰ x l → Placed l x
unfolding place_in
placed (Memᴰ.head e) = placed_first e
placed {x = x} (Memᴰ.tail {x = y} {xs = l} m) = go (ℕ_discrete x y) (placed m)
  where
    go : Dec (x ≡ y) → Placed l x → Placed (y ∷ l) x
    go (yes e) P = placed_first e
    go (no n) P = record { inside = rw (eqb_other n) (omega (arith, P.inside)); there = rw (eqb_other n) P.there }

-- ---- a number that stands once is found again at its place

pub get_d_mem : (l : List ℕ) (i : ℕ) → i < length l → Memᴰ (get_or l i 0) l
get_d_mem [] i h = absurd (omega arith)
get_d_mem (x ∷ l) zero h = Memᴰ.head refl
get_d_mem (x ∷ l) (suc i) h = Memᴰ.tail (get_d_mem l i (omega arith))

pub place_again : (l : List ℕ) → Once l → (i : ℕ) → i < length l → place_in l (get_or l i 0) ≡ i
unfolding place_in
place_again [] o i h = absurd (omega arith)
place_again (x ∷ l) o zero h = rw (eqb_same {m = x} refl)
place_again (x ∷ l) o (suc i) h =
    let m = get_d_mem l i (omega arith) in
    let n : get_or l i 0 ≢ x = λ e. o.0 (Memᴰ.cast (sym e) m) in
    rw (eqb_other n, place_again l o.1 i (omega arith))

pub once_append : (l k : List ℕ) → Once l → Once k → ((x : ℕ) → Memᴰ x l → ¬ Memᴰ x k) → Once (l ++ k)
once_append [] k o p apart = p
once_append (x ∷ l) k o p apart = (
  λ m. ⊎_elim o.0 (apart x (Memᴰ.head refl)) (Memᴰ.append_cases l m),
  once_append l k o.1 p (λ y m. apart y (Memᴰ.tail m)),
)

-- ---- in a list of pairs, the partner stands beside

partner_two : (i : ℕ) → partner (suc (suc i)) ≡ suc (suc (partner i))
partner_two i = ⊎_elim
    (λ a. let e = partner_even (suc (suc i)) (omega arith) in omega arith)
    (λ a. let e = partner_odd (suc (suc i)) (omega arith) in omega arith) (partner_cases i)

pub paired_append : (l k : List ℕ) → Paired l → Paired k → Paired (l ++ k)
paired_append [] k p q = q
paired_append (x ∷ []) k p q = absurd p
paired_append (x ∷ y ∷ l) k p q = (p.0, paired_append l k p.1 q)

pub partner_beside : (l : List ℕ) → Paired l → (i : ℕ) → i < length l → get_or l (partner i) 0 ≡ partner (get_or l i 0)
partner_beside [] p i h = absurd (omega arith)
partner_beside (x ∷ []) p i h = absurd p
partner_beside (x ∷ y ∷ l) p zero h = rw (partner_first 0) p.0
partner_beside (x ∷ y ∷ l) p (suc zero) h = rw (partner_second 0, p.0) (sym (partner_partner x))
partner_beside (x ∷ y ∷ l) p (suc (suc i)) h = rw (partner_two i) (partner_beside l p.1 i (omega arith))

-- ---- a list that holds the numbers below D, each once, has D places

module _ (D : ℕ) (l : List ℕ) (once : Once l) (small : (x : ℕ) → Memᴰ x l → x < D) (all : (x : ℕ) → x < D → Memᴰ x l) where
  pub all_places : length l ≡ D
  all_places = go (dec_lt (length l) D) (dec_lt D (length l))
    where
      go : Dec (length l < D) → Dec (D < length l) → length l ≡ D
      go (yes h) d =
          let c = pigeonhole (length l) (place_in l) (λ i k. (placed (all i (omega arith))).inside) in
          let here = (placed (all c.first (omega (arith, c.order, c.last)))).there in
          let there = (placed (all c.second (omega (arith, c.last)))).there in
          let same = sym here ∙ ap (λ i. get_or l i 0) c.same ∙ there in
          absurd (omega (arith, c.order))
      go (no n) (yes h) =
          let c = pigeonhole D (λ i. get_or l i 0) (λ i k. small (get_or l i 0) (get_d_mem l i (omega arith))) in
          let here = place_again l once c.first (omega (arith, c.order, c.last)) in
          let there = place_again l once c.second (omega (arith, c.last)) in
          let same = sym here ∙ ap (place_in l) c.same ∙ there in
          absurd (omega (arith, c.order))
      go (no n) (no m) = omega arith
