-- Each survivor noted before its successor: tests 3, 4 and 5.
--   Linking D t past x w == the before part holds what the first x darts say
--   Links D t past m x w a == a is what noting the last m darts, from x on, gives
--   Many n past          == n operations have gone: where n is 0, there is no past
--   links_right          == the darts are tested as the table's are, and the dart before each survivor is noted
use mathlib.Core.Bool.{Bool, true, false, not, ◌&&◌, ◌||◌}
use mathlib.Core.List.{List, []}
use mathlib.Core.Logic.{◌≢◌}
use mathlib.Core.Path.{◌≡◌, refl, sym, ap, ◌∙◌, subst}
use Prim.Native.Nat.{ℕ, zero, suc, ◌+◌, ◌*◌, ◌≤◌, ◌<◌}
use native.Mathlib.Decide.{ℕ_discrete, dec_lt}
use native.Mathlib.Nat.{zero-add}
use native.Mathlib.Omega.{arith}
use lib.Dec.{T, eqb, leb, ltb, leb→le, le→leb, nleb→lt, ltb→lt, lt→ltb, T_not}
use lib.ListN.{length, set, drop, length-set}
use lib.Seq.{take-set-le, drop-set-lt, get_or-set_same, get_or-set_other}
use Rattle.permutations.specs.Choice.{true→T, T→true, not_T→false, eqb_same, eqb_other, and_intro, and_left, and_right}
use Rattle.std.proofs.Common.{if◌then◌else◌}
use Rattle.darts.specs.Map.{successor, gone, survives, before_in, culprits, passed}
use Rattle.darts.specs.Tests.{led, links as linksOf, blamed, links_from}
use Rattle.area.specs.Area.{prev, table_in}
use Rattle.area.specs.Verdicts.{Said, said}
use Rattle.area.specs.Load.{gone_in, links}
use Rattle.engine.proofs.Parts.{successor_in}
use Rattle.engine.proofs.Marked.{Marked}

pub record Linking (D : ℕ) (t past : List ℕ) (x : ℕ) (w : List ℕ) : Type 0 where
  pub each : (y : ℕ) → y < D → prev D w y ≡ (if gone past y then D else if led t past x y then before_in x t past y else D + 1)

pub record Links (D : ℕ) (t past : List ℕ) (m x : ℕ) (w : List ℕ) (a : Said) : Type 0 where
  pub verdict : a.verdict ≡ links_from D t past m x
  pub noted : T (passed a.verdict) → Linking D t past D a.work
  pub table : table_in D a.work ≡ table_in D w
  pub rest : drop (2 * D) a.work ≡ drop (2 * D) w
  pub size : length a.work ≡ length w

-- ---- what is noted, read

-- a dart that leads to y is below x
before_below : (x : ℕ) (t past : List ℕ) (y : ℕ) → T (led t past x y) → before_in x t past y < x
unfolding led before_in
before_below zero t past y h = absurd h
before_below (suc x) t past y h = go (survives past x && eqb (successor t x) y) h (before_below x t past y)
  where
    go : (b : Bool) → T (b || led t past x y) → (T (led t past x y) → before_in x t past y < x) → (if b then x else before_in x t past y) < suc x
    go true h below = omega arith
    go false h below = omega (arith, below h)

-- no operation leaves no past
abbrev pub Many : ℕ → List ℕ → Type 0
Many n past = n ≡ 0 → past ≡ []

module _ {D : ℕ} {t past : List ℕ} {x : ℕ} {w : List ℕ} (x_d : x < D) (L : Linking D t past x w) where
  -- gone is what is noted as D
  noted_gone : eqb (prev D w x) D ≡ gone past x
  noted_gone = rw (L.each x x_d) (go (gone past x) (led t past x x) refl)
    where
      go : (g b : Bool) → led t past x x ≡ b → eqb (if g then D else if b then before_in x t past x else D + 1) D ≡ g
      go true b e = eqb_same {m = D} refl
      go false true e = let n : before_in x t past x ≢ D = omega (arith, before_below x t past x (true→T e)) in eqb_other n
      go false false e = let n : D + 1 ≢ D = omega arith in eqb_other n

  gone_noted : {n : ℕ} → Many n past → gone_in D n w x ≡ gone past x
  unfolding gone_in gone
  gone_noted {n} many = go (dec_lt 0 n)
    where
      go : Dec (0 < n) → (ltb 0 n && eqb (prev D w x) D) ≡ gone past x
      go (yes l) = rw (T→true (ltb 0 n) (lt→ltb 0 n l)) noted_gone
      go (no l) = rw (not_T→false (ltb 0 n) (λ k. l (ltb→lt 0 n k)), many (omega arith))

  -- a survivor to which none leads yet is what is noted as D + 1
  free_noted : (y : ℕ) → y < D → eqb (prev D w y) (D + 1) ≡ (survives past y && not (led t past x y))
  unfolding survives
  free_noted y y_d = rw (L.each y y_d) (go (gone past y) (led t past x y) refl)
    where
      go : (g b : Bool) → led t past x y ≡ b → eqb (if g then D else if b then before_in x t past y else D + 1) (D + 1) ≡ (not g && not b)
      go true b e = let n : D ≢ D + 1 = omega arith in eqb_other n
      go false true e = let n : before_in x t past y ≢ D + 1 = omega (arith, before_below x t past y (true→T e)) in eqb_other n
      go false false e = eqb_same {m = D + 1} refl

  -- what is noted at a dart that is not free is the second culprit
  blamed_noted : successor t x < D → (survives past (successor t x) && not (led t past x (successor t x))) ≡ false
      → prev D w (successor t x) ≡ blamed D t past x
  unfolding blamed survives
  blamed_noted y_d f =
      rw (L.each (successor t x) y_d, not_T→false (leb D (successor t x)) (λ l. omega (arith, leb→le D (successor t x) l)))
      (go (gone past (successor t x)) (led t past x (successor t x)) f)
    where
      go : (g b : Bool) → (not g && not b) ≡ false
          → (if g then D else if b then before_in x t past (successor t x) else D + 1) ≡ (if g then D else before_in x t past (successor t x))
      go true b e = refl
      go false true e = refl
      go false false e = absurd (subst T e tt)

-- ---- one dart more

module _ {D : ℕ} {t past : List ℕ} {x : ℕ} {w : List ℕ} (L : Linking D t past x w) where
  pass : gone past x ≡ true → Linking D t past (suc x) w
  unfolding led before_in survives
  pass g = record { each = λ y y_d. rw g (L.each y y_d) }

  note : gone past x ≡ false → gone past (successor t x) ≡ false → successor t x < D → 2 * D ≤ length w
      → Linking D t past (suc x) (set w (D + successor t x) x)
  unfolding led before_in survives prev
  note g f s_d fits = record { each = λ y y_d. rw g (go y y_d (ℕ_discrete (successor t x) y)) }
    where
      go : (y : ℕ) → y < D → Dec (successor t x ≡ y) → prev D (set w (D + successor t x) x) y ≡
          (if gone past y then D else if eqb (successor t x) y || led t past x y then (if eqb (successor t x) y then x else before_in x t past y) else D + 1)
      go y y_d (yes e) = rw (← e, f, eqb_same {m = successor t x} refl) (get_or-set_same w (D + successor t x) x 0 (omega arith))
      go y y_d (no e) = rw (eqb_other e) (get_or-set_other w (D + successor t x) (D + y) x 0 (λ c. e (omega arith)) ∙ L.each y y_d)

-- ---- all of them

-- a verdict that changes nothing of the work area
told : {D m x : ℕ} {t past w : List ℕ} {a : Said} → a.verdict ≡ links_from D t past m x → a.work ≡ w → (T (passed a.verdict) → Linking D t past D w)
    → Links D t past m x w a
told e k noted = record { verdict = e; noted = λ h. rw k (noted h); table = rw k; rest = rw k; size = rw k }

-- y got the dart before it
carried : {D m z : ℕ} {t past : List ℕ} {a : Said} (w : List ℕ) (x y : ℕ) → y < D → Links D t past m z (set w (D + y) x) a → Links D t past m z w a
carried {D} {m} {z} {t} {past} {a} w x y y_d L = record {
  verdict = L.verdict;
  noted = L.noted;
  table = L.table ∙ take-set-le D w (D + y) x (omega arith);
  rest = L.rest ∙ drop-set-lt (2 * D) w (D + y) x (omega arith);
  size = L.size ∙ length-set w (D + y) x;
}

module _ (D n : ℕ) (t past : List ℕ) (many : Many n past) (x m : ℕ) (w : List ℕ) (held : table_in D w ≡ t) (x_d : x < D) (fits : 2 * D ≤ length w)
    (L : Linking D t past x w) where
  abbrev y : ℕ
  y = successor t x

  abbrev free : Bool
  free = survives past y && not (led t past x y)

  abbrev v : List ℕ
  v = set w (D + y) x

  -- x survives: it is noted before y, if y is free
  abbrev noting : Said
  noting = if not (eqb (prev D w y) (D + 1)) then said (culprits x (prev D w y)) w else links D n v (suc x) m

  here : successor w x ≡ y
  here = sym (successor_in D w x x_d) ∙ ap (λ l. successor l x) held

  stops : (c : ℕ) → ¬ T (linksOf D t past x) → c ≡ blamed D t past x → Links D t past (suc m) x w (said (culprits x c) w)
  unfolding links_from
  stops c n e = told (rw (not_T→false (linksOf D t past x) n, e)) refl (λ h. absurd h)

  goes : {a : Said} → T (linksOf D t past x) → Links D t past m (suc x) w a → Links D t past (suc m) x w a
  unfolding links_from
  goes h K = record { verdict = rw (T→true (linksOf D t past x) h) K.verdict; noted = K.noted; table = K.table; rest = K.rest; size = K.size }

  -- out of range: D is beside x
  far : D ≤ y → D ≡ blamed D t past x
  unfolding blamed
  far l = rw (T→true (leb D y) (le→leb D y l))

  survivor : T free → gone past y ≡ false
  unfolding survives
  survivor h = not_T→false (gone past y) (T_not (gone past y) (and_left (survives past y) (not (led t past x y)) h))

  one_link : (Linking D t past (suc x) w → Links D t past m (suc x) w (links D n w (suc x) m))
      → (Linking D t past (suc x) v → Links D t past m (suc x) v (links D n v (suc x) m))
      → Links D t past (suc m) x w (links D n w x (suc m))
  unfolding links linksOf
  one_link passed noted = rw (here, gone_noted x_d L many) (low (leb D y) refl)
    where
      stand : y < D → T (gone past x || free) → T (ltb y D && (gone past x || free))
      stand y_d h = and_intro (ltb y D) (gone past x || free) (lt→ltb y D y_d) h

      onto : y < D → gone past x ≡ false → (b : Bool) → free ≡ b
          → Links D t past (suc m) x w (if not b then said (culprits x (prev D w y)) w else links D n v (suc x) m)
      onto y_d g true f = let h : T free = true→T f in goes (stand y_d (rw g h)) (carried w x y y_d (noted (note L g (survivor h) y_d fits)))
      onto y_d g false f = stops (prev D w y) (λ h. rw (g, f) at (and_right (ltb y D) (gone past x || free) h)) (blamed_noted x_d L y_d f)

      there : y < D → (b : Bool) → gone past x ≡ b → Links D t past (suc m) x w (if b then links D n w (suc x) m else noting)
      there y_d true g = goes (stand y_d (rw g tt)) (passed (pass L g))
      there y_d false g = rw (free_noted x_d L y y_d) (onto y_d g free refl)

      low : (b : Bool) → leb D y ≡ b
          → Links D t past (suc m) x w (if b then said (culprits x D) w else if gone past x then links D n w (suc x) m else noting)
      low true e =
          let l = leb→le D y (true→T e) in
          stops D (λ h. omega (arith, ltb→lt y D (and_left (ltb y D) (gone past x || free) h))) (far l)
      low false e = there (nleb→lt D y (rw e tt)) (gone past x) refl

links_from_lem : (m D n : ℕ) (t past : List ℕ) → Many n past → (x : ℕ) (w : List ℕ) → table_in D w ≡ t → x + m ≡ D → 2 * D ≤ length w → Linking D t past x w
    → Links D t past m x w (links D n w x m)
links_from_lem zero D n t past many x w e all fits L = unfold links links_from in let k : x ≡ D = omega arith in told refl refl (λ h. rw k at L)
links_from_lem (suc m) D n t past many x w e all fits L =
    one_link D n t past many x m w e (omega arith) fits L
    (λ M. links_from_lem m D n t past many (suc x) w e (omega arith) fits M)
    (λ M. links_from_lem m D n t past many (suc x) (set w (D + successor t x) x) (take-set-le D w (D + successor t x) x (omega arith) ∙ e) (omega arith) (rw length-set fits) M)

-- THE DARTS ARE TESTED AS THE TABLE'S ARE
pub links_right : (D n : ℕ) (t past w : List ℕ) → Many n past → table_in D w ≡ t → 2 * D ≤ length w → Marked D past w → Links D t past D 0 w (links D n w 0 D)
unfolding led
links_right D n t past w many e fits M = links_from_lem D D n t past many 0 w e (zero-add D) fits (record { each = M })
