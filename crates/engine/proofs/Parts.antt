-- What writing does to the parts of the work area.
--   Noted D w z   == z is noted before its successor
--   successor_in  == the map's part holds the successors
--   rest_from     == what is the same from the forest's part on is the same from any later place on
--   forest_rest   == and so is the forest
--   past_rest     == and the past
--   past_none     == no operations, no past
--   past_suc      == the last operation of a past stands at the last of its places
--   past_length   == the past of n operations has n numbers
--   bound-..      == a leads to x, and a is the dart before x: what stands where then
--   noted-..      == the edge of p is marked as gone, and the history has its number: what stands where then
use mathlib.Core.List.{List, [], ◌∷◌, reverse, reverse-append}
use mathlib.Core.Logic.{◌≢◌, inl, inr}
use mathlib.Core.Path.{◌≡◌, sym, ap, ap₂, ◌∙◌}
use Prim.Native.Nat.{ℕ, suc, ◌+◌, ◌-◌, ◌*◌, ◌≤◌, ◌<◌}
use native.Mathlib.Decide.{ℕ_discrete}
use native.Mathlib.Omega.{arith}
use lib.ListN.{length, set, take, drop, length-set, length-drop, length-reverse}
use lib.Seq.{get_or-set_same, get_or-set_other, take-set-le, take-set-lt, drop-set-lt, drop-drop, get_or-take, get_or-drop, take-suc, drop-set-add}
use Rattle.darts.specs.Map.{successor}
use Rattle.permutations.specs.Partner.{partner, End}
use Rattle.permutations.proofs.PartnerLemmas.{partner_ne}
use Rattle.slices.specs.Part.{part}
use Rattle.slices.proofs.Part.{part_length}
use Rattle.area.specs.Area.{prev, stamp, table_in, past_in, forest_in, bound}
use Rattle.operations.specs.Operate.{noted}

abbrev pub Noted : ℕ → List ℕ → ℕ → Type 0
Noted D w z = prev D w (successor w z) ≡ z

pub successor_in : (D : ℕ) (w : List ℕ) (x : ℕ) → x < D → successor (table_in D w) x ≡ successor w x
unfolding successor
successor_in D w x h = get_or-take D w x 0 h

pub rest_from : (D m : ℕ) (w v : List ℕ) → drop (2 * D) w ≡ drop (2 * D) v → 2 * D ≤ m → drop m w ≡ drop m v
rest_from D m w v e h =
    let k : m ≡ 2 * D + (m - 2 * D) = omega arith in
    rw k (sym (drop-drop (m - 2 * D) (2 * D) w) ∙ ap (drop (m - 2 * D)) e ∙ drop-drop (m - 2 * D) (2 * D) v)

pub forest_rest : (D : ℕ) (w v : List ℕ) → drop (2 * D) w ≡ drop (2 * D) v → forest_in D w ≡ forest_in D v
forest_rest D w v e = ap (take (3 * D - 2 * D)) e

-- ---- the past

pub past_none : (D : ℕ) (w : List ℕ) → past_in D 0 w ≡ []
past_none D w = let e : 3 * D + 0 - 3 * D ≡ 0 = omega arith in rw e

pub past_suc : (D n : ℕ) (w : List ℕ) → 3 * D + n < length w → past_in D (suc n) w ≡ stamp D w n ∷ past_in D n w
unfolding stamp
past_suc D n w h =
    let e : 3 * D + suc n - 3 * D ≡ suc n = omega arith in
    let k : 3 * D + n - 3 * D ≡ n = omega arith in
    let l : n < length (drop (3 * D) w) = rw length-drop (omega arith) in
    rw (e, k, take-suc (drop (3 * D) w) n 0 l, reverse-append, get_or-drop)

pub past_rest : (D n : ℕ) (w v : List ℕ) → drop (2 * D) w ≡ drop (2 * D) v → past_in D n w ≡ past_in D n v
past_rest D n w v e = ap (λ l. reverse (take (3 * D + n - 3 * D) l)) (rest_from D (3 * D) w v e (omega arith))

pub past_length : (D n : ℕ) (w : List ℕ) → 3 * D + n ≤ length w → length (past_in D n w) ≡ n
past_length D n w h =
    let k : 3 * D + n - 3 * D ≡ n = omega arith in
    length-reverse (part (3 * D) (3 * D + n) w) ∙ part_length (3 * D) (3 * D + n) w h ∙ k

-- ---- a leads to x, and a is the dart before x

module _ (D : ℕ) (w : List ℕ) {a x : ℕ} (a_d : a < D) (x_d : x < D) where
  pub bound_length : length (bound D w a x) ≡ length w
  unfolding bound
  bound_length = simp length-set

  pub bound_table : table_in D (bound D w a x) ≡ set (table_in D w) a x
  unfolding bound
  bound_table = take-set-le D (set w a x) (D + x) a (omega arith) ∙ take-set-lt D w a x a_d

  pub bound_rest : drop (2 * D) (bound D w a x) ≡ drop (2 * D) w
  unfolding bound
  bound_rest = drop-set-lt (2 * D) (set w a x) (D + x) a (omega arith) ∙ drop-set-lt (2 * D) w a x (omega arith)

  bound_else : (z : ℕ) → z < D → z ≢ a → successor (bound D w a x) z ≡ successor w z
  unfolding bound successor
  bound_else z z_d n = get_or-set_other (set w a x) (D + x) z a 0 (omega arith) ∙ get_or-set_other w a z x 0 n

  pub bound_prev_else : (y : ℕ) → y ≢ x → prev D (bound D w a x) y ≡ prev D w y
  unfolding bound prev
  bound_prev_else y n = get_or-set_other (set w a x) (D + x) (D + y) a 0 (omega arith) ∙ get_or-set_other w a (D + y) x 0 (omega arith)

  module _ (fits : 2 * D ≤ length w) where
    bound_leads : successor (bound D w a x) a ≡ x
    unfolding bound successor
    bound_leads = get_or-set_other (set w a x) (D + x) a a 0 (omega arith) ∙ get_or-set_same w a x 0 (omega arith)

    bound_prev : prev D (bound D w a x) x ≡ a
    unfolding bound prev
    bound_prev = get_or-set_same (set w a x) (D + x) a 0 (rw length-set (omega arith))

    -- a is noted, and a dart that does not lead to x stays noted
    pub bound_noted : (z : ℕ) → z < D → (z ≢ a → Noted D w z × (successor w z ≢ x)) → Noted D (bound D w a x) z
    bound_noted z z_d else = go (ℕ_discrete z a)
      where
        go : Dec (z ≡ a) → Noted D (bound D w a x) z
        go (yes e) = rw (e, bound_leads) bound_prev
        go (no n) = let h = else n in rw (bound_else z z_d n) (bound_prev_else (successor w z) h.1 ∙ h.0)

    pub bound_avoids : (y z : ℕ) → z < D → (z ≡ a → x ≢ y) → (z ≢ a → successor w z ≢ y) → successor (bound D w a x) z ≢ y
    bound_avoids y z z_d at else = go (ℕ_discrete z a)
      where
        go : Dec (z ≡ a) → successor (bound D w a x) z ≢ y
        go (yes e) = rw (e, bound_leads) (at e)
        go (no n) = rw (bound_else z z_d n) (else n)

-- ---- an edge is marked as gone, and the history gets its number

part_set_before : (a e : ℕ) (l : List ℕ) (i v : ℕ) → i < a → part a e (set l i v) ≡ part a e l
part_set_before a e l i v h = ap (take (e - a)) (drop-set-lt a l i v h)

part_set_after : (a e : ℕ) (l : List ℕ) (i v : ℕ) → a ≤ e → e ≤ i → part a e (set l i v) ≡ part a e l
part_set_after a e l i v m h =
    let k : i ≡ a + (i - a) = omega arith in
    rw k (ap (take (e - a)) (drop-set-add a l (i - a) v) ∙ take-set-le (e - a) (drop a l) (i - a) v (omega arith))

module _ (D n : ℕ) (w : List ℕ) (k p : ℕ) where
  abbrev w₁ : List ℕ
  w₁ = set w (D + p) D

  abbrev w₂ : List ℕ
  w₂ = set w₁ (D + partner p) D

  pub noted_length : length (noted D n w k p) ≡ length w
  unfolding noted
  noted_length = simp length-set

  pub noted_table : table_in D (noted D n w k p) ≡ table_in D w
  unfolding noted
  noted_table =
      take-set-le D w₂ (3 * D + n) (2 * p + k) (omega arith)
      ∙ take-set-le D w₁ (D + partner p) D (omega arith)
      ∙ take-set-le D w (D + p) D (omega arith)

  pub noted_successor : (z : ℕ) → z < D → successor (noted D n w k p) z ≡ successor w z
  noted_successor z h = sym (successor_in D (noted D n w k p) z h) ∙ ap (λ s. successor s z) noted_table ∙ successor_in D w z h

  newest : 3 * D + n < length w → stamp D (noted D n w k p) n ≡ 2 * p + k
  unfolding noted stamp
  newest h = get_or-set_same w₂ (3 * D + n) (2 * p + k) 0 (simp length-set h)

  module _ (p_d : p < D) (q_d : partner p < D) where
    pub noted_forest : forest_in D (noted D n w k p) ≡ forest_in D w
    unfolding noted
    noted_forest =
        part_set_after (2 * D) (3 * D) w₂ (3 * D + n) (2 * p + k) (omega arith) (omega arith)
        ∙ part_set_before (2 * D) (3 * D) w₁ (D + partner p) D (omega arith)
        ∙ part_set_before (2 * D) (3 * D) w (D + p) D (omega arith)

    pub noted_rest : n < D → drop (4 * D) (noted D n w k p) ≡ drop (4 * D) w
    unfolding noted
    noted_rest h =
        drop-set-lt (4 * D) w₂ (3 * D + n) (2 * p + k) (omega arith)
        ∙ drop-set-lt (4 * D) w₁ (D + partner p) D (omega arith)
        ∙ drop-set-lt (4 * D) w (D + p) D (omega arith)

    older : part (3 * D) (3 * D + n) (noted D n w k p) ≡ part (3 * D) (3 * D + n) w
    unfolding noted
    older =
        part_set_after (3 * D) (3 * D + n) w₂ (3 * D + n) (2 * p + k) (omega arith) (omega arith)
        ∙ part_set_before (3 * D) (3 * D + n) w₁ (D + partner p) D (omega arith)
        ∙ part_set_before (3 * D) (3 * D + n) w (D + p) D (omega arith)

    pub noted_past : 3 * D + n < length w → past_in D (suc n) (noted D n w k p) ≡ (2 * p + k) ∷ past_in D n w
    noted_past h = past_suc D n (noted D n w k p) (rw noted_length h) ∙ ap₂ (λ a b. a ∷ b) (newest h) (ap reverse older)

    pub noted_prev_end : 2 * D ≤ length w → {z : ℕ} → End p z → prev D (noted D n w k p) z ≡ D
    unfolding noted prev
    noted_prev_end h {z} (inl e) = rw e
        (get_or-set_other w₂ (3 * D + n) (D + p) (2 * p + k) 0 (omega arith)
        ∙ get_or-set_other w₁ (D + partner p) (D + p) D 0 (λ c. partner_ne p (omega arith))
        ∙ get_or-set_same w (D + p) D 0 (omega arith))
    noted_prev_end h {z} (inr e) = rw e
        (get_or-set_other w₂ (3 * D + n) (D + partner p) (2 * p + k) 0 (omega arith)
        ∙ get_or-set_same w₁ (D + partner p) D 0 (simp length-set (omega arith)))

  pub noted_prev_else : (z : ℕ) → z < D → ¬ End p z → prev D (noted D n w k p) z ≡ prev D w z
  unfolding noted prev
  noted_prev_else z h m =
      get_or-set_other w₂ (3 * D + n) (D + z) (2 * p + k) 0 (omega arith)
      ∙ get_or-set_other w₁ (D + partner p) (D + z) D 0 (λ c. m (inr (omega arith)))
      ∙ get_or-set_other w (D + p) (D + z) D 0 (λ c. m (inl (omega arith)))
