-- Ways over gone numbers: go on by f while g says that the number is gone.
--   Way f g y z n  == from y, over n numbers that are gone, to z, which is not
--   Reaches f g y z == so does some way
--   way_soon       == where a walk of j steps leads to a number that is not gone, there is a way over at most j
--   way_over       == each number on the way is gone
--   way_same       == below D, the same steps over the same gone numbers
--   leave_out      == f with p left out goes as f does with p gone, too
--   way_few        == a way from the next number of one that is not gone passes no number twice
use mathlib.Core.Bool.{Bool, true, false, ◌||◌}
use mathlib.Core.List.{List, [], ◌∷◌}
use mathlib.Core.Logic.{◌≢◌, ◌⊎◌, inl, inr, ⊎_elim}
use mathlib.Core.Path.{◌≡◌, refl, sym, ◌∙◌, ap, subst}
use Prim.Native.Nat.{ℕ, zero, suc, ◌+◌, ◌-◌, ◌≤◌, ◌<◌}
use native.Mathlib.Decide.{ℕ_discrete, dec_lt}
use native.Mathlib.Nat.{not-suc-le-zero}
use native.Mathlib.Omega.{arith}
use lib.Dec.{T, eqb, eqb_refl, eqb→eq}
use lib.ListN.{length, get_or}
use Rattle.permutations.specs.Choice.{pick, T?, or_intro, or_cases}
use Rattle.permutations.specs.Perm.{Perm, inj, without, without_over, without_keep}
use Rattle.permutations.specs.Cycle.{walk, walk_add}
use Rattle.permutations.specs.Live.{any, has}
use Rattle.permutations.specs.Pigeonhole.{pigeonhole}

pub data Way (f : ℕ → ℕ) (g : ℕ → Bool) : ℕ → ℕ → ℕ → Type 0 where
  there : {y : ℕ} → ¬ T (g y) → Way f g y y 0
  over : {y z n : ℕ} → T (g y) → Way f g (f y) z n → Way f g y z (suc n)

module _ {f : ℕ → ℕ} {g : ℕ → Bool} where
  pub way_end : {y z n : ℕ} → Way f g y z n → ¬ T (g z)
  way_end (there h) = h
  way_end (over h w) = way_end w

  pub way_none : {y z : ℕ} → Way f g y z 0 → (y ≡ z) × (¬ T (g y))
  way_none (there h) = (refl, h)

  pub way_first : {y z n : ℕ} → Way f g y z (suc n) → T (g y) × Way f g (f y) z n
  way_first (over h w) = (h, w)

  -- the numbers on the way
  pub way_over : {y z n : ℕ} → Way f g y z n → (i : ℕ) → i < n → T (g (walk f i y))
  unfolding walk
  way_over (there h) i l = absurd (not-suc-le-zero l)
  way_over (over h w) zero l = h
  way_over (over h w) (suc i) l = way_over w i (omega arith)

-- numbers below D stay below it, and there g and h say the same
pub way_same : {D : ℕ} {f : ℕ → ℕ} {g h : ℕ → Bool} → ((y : ℕ) → y < D → f y < D) → ((y : ℕ) → y < D → g y ≡ h y)
    → {y z n : ℕ} → y < D → Way f g y z n → Way f h y z n
way_same stays same {y} l (there n) = there (subst (λ b. ¬ T b) (same y l) n)
way_same stays same {y} l (over n w) = over (subst T (same y l) n) (way_same stays same (stays y l) w)

pub record Soon (f : ℕ → ℕ) (g : ℕ → Bool) (y j : ℕ) : Type 0 where
  pub to : ℕ
  pub count : ℕ
  pub way : Way f g y to count
  pub soon : count ≤ j

pub way_soon : (f : ℕ → ℕ) (g : ℕ → Bool) (j y : ℕ) → ¬ T (g (walk f j y)) → Soon f g y j
unfolding walk
way_soon f g zero y h = record { to = y; count = 0; way = there h; soon = omega arith }
way_soon f g (suc j) y h = go (T? (g y)) (way_soon f g j (f y) h)
  where
    go : Dec (T (g y)) → Soon f g (f y) j → Soon f g y (suc j)
    go (no n) s = record { to = y; count = 0; way = there n; soon = omega arith }
    go (yes k) s = record { to = s.to; count = suc s.count; way = over k s.way; soon = (let l = s.soon in omega arith) }

-- ---- one number left out

pub record Reaches (f : ℕ → ℕ) (g : ℕ → Bool) (y z : ℕ) : Type 0 where
  pub count : ℕ
  pub way : Way f g y z count

abbrev pub more : (ℕ → Bool) → ℕ → ℕ → Bool
more g p y = eqb y p || g y

module _ {D : ℕ} {f : ℕ → ℕ} (π : Perm D f) (g : ℕ → Bool) (p : ℕ) where
  p_gone : T (more g p p)
  p_gone = or_intro (eqb p p) (g p) (inl (eqb_refl p))

  still_there : (y : ℕ) → y ≢ p → ¬ T (g y) → ¬ T (more g p y)
  still_there y n h k = ⊎_elim (λ e. n (eqb→eq y p e)) h (or_cases (eqb y p) (g y) k)

  one_more : (y z : ℕ) → T (more g p y) → Reaches f (more g p) (f y) z → Reaches f (more g p) y z
  one_more y z h r = record { count = suc r.count; way = over h r.way }

  -- a step by f with p left out is one step of f, or two, over p; `on` is the way from there on
  step_out : (y z n : ℕ) → y ≢ p → Way (without f p) g (without f p y) z n
      → ((x : ℕ) → x ≢ p → Way (without f p) g x z n → Reaches f (more g p) x z) → Reaches f (more g p) (f y) z
  step_out y z n yp w on = go (ℕ_discrete (f y) p)
    where
      go : Dec (f y ≡ p) → Reaches f (more g p) (f y) z
      go (yes e) =
          let fp : f p ≢ p = λ k. yp (inj π (e ∙ sym k)) in
          let r = on (f p) fp (subst (λ x. Way (without f p) g x z n) (without_over f yp e) w) in
          subst (λ x. Reaches f (more g p) x z) (sym e) (one_more p z p_gone r)
      go (no k) = on (f y) k (subst (λ x. Way (without f p) g x z n) (without_keep f yp k) w)

  way_out : (n y z : ℕ) → y ≢ p → Way (without f p) g y z n → Reaches f (more g p) y z
  way_out zero y z yp w =
      let e = way_none w in
      subst (Reaches f (more g p) y) e.0 (record { count = 0; way = there (still_there y yp e.1) })
  way_out (suc n) y z yp w =
      let e = way_first w in
      one_more y z (or_intro (eqb y p) (g y) (inr e.0)) (step_out y z n yp e.1 (λ x m v. way_out n x z m v))

  -- LEFT OUT IS GONE
  pub leave_out : (x z n : ℕ) → x ≢ p → Way (without f p) g (without f p x) z n → Reaches f (more g p) (f x) z
  leave_out x z n xp w = step_out x z n xp w (λ y m v. way_out n y z m v)

-- ---- no number is passed twice

place_in : List ℕ → ℕ → ℕ
place_in [] x = 0
place_in (y ∷ l) x = pick (eqb x y) 0 (suc (place_in l x))

record Place (l : List ℕ) (x i : ℕ) : Type 0 where
  inside : i < length l
  holds : get_or l i 0 ≡ x

place_of : (l : List ℕ) (x : ℕ) → T (has l x) → Place l x (place_in l x)
unfolding has any place_in
place_of [] x h = absurd h
place_of (y ∷ l) x h = go (eqb x y) refl (or_cases (eqb x y) (has l x) h) (place_of l x)
  where
    go : (b : Bool) → eqb x y ≡ b → T (eqb x y) ⊎ T (has l x) → (T (has l x) → Place l x (place_in l x)) → Place (y ∷ l) x (pick b 0 (suc (place_in l x)))
    go true e c on = record { inside = omega arith; holds = sym (eqb→eq x y (subst T (sym e) tt)) }
    go false e (inl c) on = absurd (subst T e c)
    go false e (inr c) on = let q = on c in record { inside = (let i = q.inside in omega arith); holds = q.holds }

walk_back : {D : ℕ} {f : ℕ → ℕ} → Perm D f → (k : ℕ) {x y : ℕ} → walk f k x ≡ walk f k y → x ≡ y
unfolding walk
walk_back π zero e = e
walk_back π (suc k) e = inj π (walk_back π k e)

-- A WAY FROM THE NEXT NUMBER OF ONE THAT IS NOT GONE PASSES AT MOST AS MANY NUMBERS AS ARE GONE: were one passed twice, x would be on it
pub way_few : {D : ℕ} {f : ℕ → ℕ} → Perm D f → (g : ℕ → Bool) (l : List ℕ) → ((y : ℕ) → T (g y) → T (has l y))
    → (x z n : ℕ) → ¬ T (g x) → Way f g (f x) z n → n ≤ length l
unfolding walk
way_few {D} {f} π g l listed x z n stays w = go (dec_lt (length l) n)
  where
    on : (i : ℕ) → i < n → T (g (walk f i (f x)))
    on = way_over w

    at : (i : ℕ) → i < n → Place l (walk f i (f x)) (place_in l (walk f i (f x)))
    at i h = place_of l (walk f i (f x)) (listed (walk f i (f x)) (on i h))

    again : (i j : ℕ) → i < j → j < n → walk f i (f x) ≡ walk f j (f x) → T (g x)
    again i j h k e =
        let back : x ≡ walk f (j - i) x = walk_back π (suc i) (e ∙ ap (λ m. walk f m x) (let s : suc j ≡ j - i + suc i = omega arith in s) ∙ walk_add f (j - i) (suc i) x) in
        let one : walk f (j - i) x ≡ walk f (j - i - 1) (f x) = ap (λ m. walk f m x) (let s : j - i ≡ suc (j - i - 1) = omega arith in s) in
        subst (λ y. T (g y)) (sym (back ∙ one)) (on (j - i - 1) (omega arith))

    go : Dec (length l < n) → n ≤ length l
    go (no m) = omega arith
    go (yes m) =
        let c = pigeonhole (length l) (λ i. place_in l (walk f i (f x))) (λ i h. (at i (omega arith)).inside) in
        let same = sym (at c.first (omega arith)).holds ∙ ap (λ i. get_or l i 0) c.same ∙ (at c.second (omega arith)).holds in
        absurd (stays (again c.first c.second c.order (omega arith) same))
