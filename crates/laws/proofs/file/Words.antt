-- Words in a file's bytes.
--   Between b at w end == the bytes of b from the place `at` up to the place `end` are w
--   Split b at w v end == the same of w followed by v, with the place between them
--   all_bytes w         == each of w is a byte, below 256
use mathlib.Core.Bool.{Bool, true, ◌&&◌}
use mathlib.Core.List.{List, [], ◌∷◌, ◌++◌, append_assoc, append-nil}
use mathlib.Core.Logic.{◌≢◌}
use mathlib.Core.Path.{◌≡◌, refl, sym, ap, ◌∙◌, subst₂}
use Prim.Native.Nat.{ℕ, suc, ◌+◌, ◌<◌, ◌≤◌}
use native.Mathlib.Decide.{dec_lt, ℕ_discrete}
use native.Mathlib.Nat.{add-zero}
use native.Mathlib.Numerals.{add-one}
use native.Mathlib.Omega.{arith}
use lib.Dec.{T, ltb, ltb→lt}
use lib.ListN.{length, drop, get_or, length-append, get_or-eq_default}
use lib.Seq.{drop-cons, drop-drop, get_or-drop, drop-length, drop-append_seam}
use Rattle.permutations.specs.Choice.{eqb_same, eqb_other, and_left, and_right}
use Rattle.darts.specs.Answers.{Answer}
use Rattle.darts.specs.Scan.{Scan, found, fault, after, byte_at, word}

pub record Between (b : List ℕ) (at : ℕ) (w : List ℕ) (end : ℕ) : Type 0 where
  pub rest : drop at b ≡ w ++ drop end b
  pub place : end ≡ at + length w
  pub inside : end ≤ length b

pub record Split (b : List ℕ) (at : ℕ) (w v : List ℕ) (end : ℕ) : Type 0 where
  pub mid : ℕ
  pub first : Between b at w mid
  pub second : Between b mid v end

-- ---- one byte

-- past the end there is no byte
pub byte_inside : (b : List ℕ) (at : ℕ) → byte_at b at ≢ 256 → at < length b
unfolding byte_at
byte_inside b at n = go (dec_lt at (length b))
  where
    go : Dec (at < length b) → at < length b
    go (yes h) = h
    go (no h) = absurd (n (get_or-eq_default b 256 (omega arith)))

module _ {b : List ℕ} {at c : ℕ} {w : List ℕ} {end : ℕ} (B : Between b at (c ∷ w) end) where
  pub between_byte : byte_at b at ≡ c
  unfolding byte_at
  between_byte = ap (λ i. get_or b i 256) (sym (add-zero at)) ∙ sym (get_or-drop at b 0 256) ∙ ap (λ l. get_or l 0 256) B.rest

  between_on : Between b (suc at) w end
  between_on = record {
    rest = ap (λ i. drop i b) (sym (add-one at)) ∙ sym (drop-drop 1 at b) ∙ ap (drop 1) B.rest;
    place = omega (arith, B.place);
    inside = B.inside;
  }

pub between_cons : {b : List ℕ} {at c : ℕ} {w : List ℕ} {end : ℕ} → byte_at b at ≡ c → Between b (suc at) w end → Between b at (c ∷ w) end
unfolding byte_at
between_cons {b} {at} {c} {w} {end} e B = record {
  rest = drop-cons b at 256 (omega (arith, B.place, B.inside)) ∙ (λ i. e i ∷ B.rest i);
  place = omega (arith, B.place);
  inside = B.inside;
}

-- ---- none, all, and two parts

pub between_none : {b : List ℕ} {at : ℕ} → at ≤ length b → Between b at [] at
between_none h = record { rest = refl; place = omega arith; inside = h }

pub between_all : (b : List ℕ) → Between b 0 b (length b)
between_all b = record { rest = sym (ap (λ l. b ++ l) (drop-length b) ∙ append-nil b); place = omega arith; inside = omega arith }

pub all_between : {b w : List ℕ} → Between b 0 w (length b) → b ≡ w
all_between {b} {w} B = B.rest ∙ ap (λ l. w ++ l) (drop-length b) ∙ append-nil w

pub between_join : {b : List ℕ} {at mid end : ℕ} {w v : List ℕ} → Between b at w mid → Between b mid v end → Between b at (w ++ v) end
between_join {b} {at} {mid} {end} {w} {v} B C = record {
  rest = B.rest ∙ ap (λ l. w ++ l) C.rest ∙ sym (append_assoc w v (drop end b));
  place = (let h = length-append w v in omega (arith, B.place, C.place));
  inside = C.inside;
}

pub between_split : {b : List ℕ} {at end : ℕ} (w : List ℕ) {v : List ℕ} → Between b at (w ++ v) end → Split b at w v end
between_split {b} {at} {end} w {v} B =
    let all : drop at b ≡ w ++ (v ++ drop end b) = B.rest ∙ append_assoc w v (drop end b) in
    let later : drop (at + length w) b ≡ v ++ drop end b = sym (drop-drop (length w) at b) ∙ ap (drop (length w)) all ∙ drop-append_seam w (v ++ drop end b) in
    let sum : length (w ++ v) ≡ length w + length v = length-append w v in
    record {
      mid = at + length w;
      first = record { rest = all ∙ ap (λ l. w ++ l) (sym later); place = refl; inside = omega (arith, B.place, B.inside) };
      second = record { rest = later; place = omega (arith, B.place); inside = B.inside };
    }

-- ---- one scan after another

pub fault≢found : {A : Type 0} {a : Answer} {x : A} {end : ℕ} → ◌≢◌ {A = Scan A} (fault a) (found x end)
fault≢found e = let z : ◌≡◌ {A = ℕ} 0 1 = cc in omega arith

-- what holds of what was found holds of the same find
pub same_found : {A : Type 0} (P : A → ℕ → Type 0) {x y : A} {at end : ℕ} → ◌≡◌ {A = Scan A} (found x at) (found y end) → P x at → P y end
same_found P {x} {y} {at} {end} e h =
    let value : x ≡ y = cc in
    let place : at ≡ end = cc in
    subst₂ P value place h

-- what f found after r: what r found, and f from there
pub after_found : {A B Q : Type 0} (r : Scan A) (f : A → ℕ → Scan B) {y : B} {end : ℕ} → after r f ≡ found y end
    → ((x : A) (at : ℕ) → r ≡ found x at → f x at ≡ found y end → Q) → Q
after_found (found x at) f e q = q x at refl e
after_found (fault a) f e q = absurd (fault≢found e)

-- ---- a word is found exactly where it stands

pub word_found : {b : List ℕ} (w : List ℕ) {at end : ℕ} → Between b at w end → word w b at ≡ found 0 end
unfolding word
word_found [] {at} {end} B = let e : at ≡ end = omega (arith, B.place) in ap (found 0) e
word_found (c ∷ w) B = rw (eqb_same (between_byte B)) (word_found w (between_on B))

abbrev pub all_bytes : List ℕ → Bool
all_bytes [] = true
all_bytes (c ∷ w) = ltb c 256 && all_bytes w

pub found_word : {b : List ℕ} (w : List ℕ) {at x end : ℕ} → T (all_bytes w) → at ≤ length b → word w b at ≡ found x end → Between b at w end
unfolding word
found_word {b} [] {at} a h e = same_found (λ _ end. Between b at [] end) e (between_none h)
found_word {b} (c ∷ w) {at} {x} {end} a h e = go (ℕ_discrete (byte_at b at) c) (found_word w (and_right (ltb c 256) (all_bytes w) a))
  where
    go : Dec (byte_at b at ≡ c) → (suc at ≤ length b → word w b (suc at) ≡ found x end → Between b (suc at) w end) → Between b at (c ∷ w) end
    go (yes k) rest =
        let small = ltb→lt c 256 (and_left (ltb c 256) (all_bytes w) a) in
        between_cons k (rest (byte_inside b at (omega arith)) (rw (eqb_same k) at e))
    go (no n) rest = absurd (fault≢found (rw (eqb_other n) at e))
