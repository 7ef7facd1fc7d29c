-- A wrong byte is the first one: with another byte in its place, or with the end there, the scan goes on past it.
--   Past p slack r        == what r found ends past the place p, and a wrong byte of r is past it
--   Mend f b at slack p   == the bytes before p, and one byte or none after them, take the scan f past p
--   Mends f b at slack    == so it is at the place p of any wrong byte that f finds in b
--   mend_after            == one scan after another
--   mend_word, mend_field == a word, and a field whose number ends before another byte than a digit
use mathlib.Core.Bool.{false}
use mathlib.Core.List.{List, [], ◌∷◌, ◌++◌}
use mathlib.Core.Logic.{◌≢◌}
use mathlib.Core.Path.{◌≡◌, refl, sym, ap, ◌∙◌, subst}
use Prim.Native.Nat.{ℕ, zero, suc, ◌+◌, ◌-◌, ◌*◌, ◌<◌, ◌≤◌}
use native.Mathlib.Decide.{dec_lt, ℕ_discrete}
use native.Mathlib.Omega.{arith}
use lib.Dec.{T, ltb, ltb→lt}
use lib.ListN.{length, take}
use lib.Seq.{take-take, take-append-le, length-take-le, get_or_at}
use Rattle.permutations.specs.Choice.{T?, T→true, not_T→false, eqb_same, eqb_other, and_left, and_right}
use Rattle.darts.specs.Answers.{Answer, answered}
use Rattle.darts.specs.Scan.{Scan, found, fault, after, byte_at, word, is_digit, number_on, number_at, field}
use Rattle.laws.proofs.file.Words.{all_bytes, byte_inside, found_word, same_found, fault≢found}
use Rattle.laws.proofs.file.Fields.{found_number}
use Rattle.laws.proofs.file.Looks.{begin, Stop, wrong, flag, empty, many, Ended, Look, same_byte, look_found, look_after, look_word, look_digits, look_number, look_tail}

abbrev pub Past : {A : Type 0} → ℕ → ℕ → Scan A → Type 0
Past p slack (found x end) = p < end + slack
Past p slack (fault a) = a.number ≡ 13 → p < a.place

pub record Mend {A : Type 0} (f : List ℕ → Scan A) (b : List ℕ) (at slack p : ℕ) : Type 0 where
  pub late : at ≤ p
  pub inside : p ≤ length b
  pub byte : List ℕ
  pub few : length byte ≤ 1
  pub past : Past p slack (f (take p b ++ byte))

abbrev pub Mends : {A : Type 0} → (List ℕ → Scan A) → List ℕ → ℕ → ℕ → Type 0
Mends f b at slack = (p : ℕ) → f b ≡ fault (answered 13 p) → Mend f b at slack p

-- ---- the bytes with another one in the place

module _ (b : List ℕ) (p : ℕ) (h : p ≤ length b) where
  pub mended_same : (n : ℕ) → n ≤ p → (v : List ℕ) → take n (take p b ++ v) ≡ take n b
  mended_same n k v = take-append-le n (take p b) v (omega (arith, length-take-le p b h)) ∙ take-take n p b k

  pub mended_byte : (x : ℕ) → byte_at (take p b ++ (x ∷ [])) p ≡ x
  unfolding byte_at
  mended_byte x = get_or_at (take p b) x [] 256 p (length-take-le p b h)

-- ---- one scan after another

pub same_fault : {A : Type 0} {a c : Answer} → ◌≡◌ {A = Scan A} (fault a) (fault c) → a ≡ c
same_fault e = cc

same_place : {A : Type 0} {p q : ℕ} → ◌≡◌ {A = Scan A} (fault (answered 13 p)) (fault (answered 13 q)) → p ≡ q
same_place e = ap (λ a. a.place) (same_fault e)

pub look_past : {A : Type 0} {f : List ℕ → Scan A} {b : List ℕ} {at from most slack : ℕ} → Look f b at from most slack → {p : ℕ} → p < at → Past p slack (f b)
look_past {A} {f} {b} {at} {from} {most} {slack} L {p} h = go (f b) L.ended
  where
    stop : {a : Answer} → Stop b at L.upto a → a.number ≡ 13 → p < a.place
    stop (wrong q e k l) n = omega (arith, ap (λ a. a.place) e)
    stop (flag e k) n = absurd (omega (arith, ap (λ a. a.number) e))
    stop (empty e k) n = absurd (omega (arith, ap (λ a. a.number) e))
    stop (many e k) n = absurd (omega (arith, ap (λ a. a.number) e))

    go : (r : Scan A) → Ended b at L.upto most slack r → Past p slack r
    go (found x end) e = omega (arith, e.1.1)
    go (fault a) e = stop e

pub past_after_lem : {A B : Type 0} {p : ℕ} (slack : ℕ) (r : Scan A) (g : A → ℕ → Scan B) → Past p 0 r
    → ((x : A) (end : ℕ) → r ≡ found x end → p < end → Past p slack (g x end))
    → Past p slack (after r g)
past_after_lem slack (found x end) g h on = on x end refl (omega arith)
past_after_lem slack (fault a) g h on = h

pub mend_after : {A B : Type 0} {f : List ℕ → Scan A} {g : A → ℕ → List ℕ → Scan B} {b : List ℕ} {at from mid slack : ℕ}
    → Look f b at from mid 0 → Mends f b at 0
    → ((x : A) (end : ℕ) → f b ≡ found x end → Mends (g x end) b end slack)
    → ((c : List ℕ) (x : A) (end : ℕ) → f c ≡ found x end → (p : ℕ) → p < end → Past p slack (g x end c))
    → Mends (λ l. after (f l) (λ x at. g x at l)) b at slack
mend_after {A} {B} {f} {g} {b} {at} {from} {mid} {slack} L M rest on p e = go (f b) refl L.ended
  where
    go : (r : Scan A) → f b ≡ r → Ended b at L.upto mid 0 r → Mend (λ l. after (f l) (λ x at. g x at l)) b at slack p
    go (found x end) k i =
        let J = rest x end k p (rw k at e) in
        let c = take p b ++ J.byte in
        let same : f c ≡ found x end = L.same c (mended_same b p J.inside L.upto (omega (arith, i.0, J.late)) J.byte) ∙ k in
        record { late = omega (arith, i.1.1, J.late); inside = J.inside; byte = J.byte; few = J.few; past = rw same J.past }
    go (fault a) k i =
        let I = M p (k ∙ ap fault (same_fault (rw k at e))) in
        let c = take p b ++ I.byte in
        let past = past_after_lem slack (f c) (λ x at. g x at c) I.past (λ x end k h. on c x end k p h) in
        record { late = I.late; inside = I.inside; byte = I.byte; few = I.few; past = past }

-- a scan that finds, whatever the bytes
pub mend_found : {A : Type 0} {x : A} {b : List ℕ} {at end slack : ℕ} → Mends (λ _. found x end) b at slack
mend_found p e = absurd (fault≢found (sym e))

-- ---- a word

pub mend_word : (w b : List ℕ) (at : ℕ) → T (all_bytes w) → at ≤ length b → Mends (λ l. word w l at) b at 0
unfolding word
mend_word [] b at a h p e = absurd (fault≢found (sym e))
mend_word (c ∷ w) b at a h p e = go (ℕ_discrete (byte_at b at) c) (λ i k. mend_word w b (suc at) (and_right (ltb c 256) (all_bytes w) a) i p k)
  where
    go : Dec (byte_at b at ≡ c) → (suc at ≤ length b → word w b (suc at) ≡ fault (answered 13 p) → Mend (λ l. word w l (suc at)) b (suc at) 0 p)
        → Mend (λ l. word (c ∷ w) l at) b at 0 p
    go (yes k) rest =
        let small = ltb→lt c 256 (and_left (ltb c 256) (all_bytes w) a) in
        let I = rest (byte_inside b at (omega arith)) (rw (eqb_same k) at e) in
        let v = take p b ++ I.byte in
        let same : byte_at v at ≡ c = same_byte b v at p I.late (mended_same b p I.inside p (omega arith) I.byte) ∙ k in
        record { late = omega (arith, I.late); inside = I.inside; byte = I.byte; few = I.few; past = rw (eqb_same same) I.past }
    go (no n) rest =
        let here : at ≡ p = same_place (rw (eqb_other n) at e) in
        subst (Mend (λ l. word (c ∷ w) l at) b at 0) here (record {
          late = omega arith;
          inside = h;
          byte = c ∷ [];
          few = omega arith;
          past = rw (eqb_same (mended_byte b at h c)) (look_past (look_word w (take at b ++ (c ∷ [])) (suc at)) (omega arith));
        })

-- ---- a number, and the word after it

digits_found : (n : ℕ) (b : List ℕ) (at x : ℕ) {a : Answer} → number_on n b at x ≢ fault a
unfolding number_on
digits_found zero b at x e = fault≢found (sym e)
digits_found (suc n) b at x {a} e = go (T? (is_digit (byte_at b at))) (digits_found n b (suc at) (10 * x + (byte_at b at - 48)))
  where
    go : Dec (T (is_digit (byte_at b at))) → number_on n b (suc at) (10 * x + (byte_at b at - 48)) ≢ fault a → ⊥
    go (yes t) rest = rest (rw (T→true (is_digit (byte_at b at)) t) at e)
    go (no f) rest = fault≢found (sym (rw (not_T→false (is_digit (byte_at b at)) f) at e))

-- where no number stands, its first byte is the wrong one
number_fault : (b : List ℕ) (at p : ℕ) → number_at b at ≡ fault (answered 13 p) → at ≡ p
unfolding number_at
number_fault b at p e = go (ℕ_discrete (byte_at b at) 48) (T? (is_digit (byte_at b at)))
  where
    go : Dec (byte_at b at ≡ 48) → Dec (T (is_digit (byte_at b at))) → at ≡ p
    go (yes z) t = absurd (fault≢found (sym (rw (eqb_same z) at e)))
    go (no z) (yes t) = absurd (digits_found 5 b at 0 (rw (eqb_other z, T→true (is_digit (byte_at b at)) t) at e))
    go (no z) (no f) = same_place (rw (eqb_other z, not_T→false (is_digit (byte_at b at)) f) at e)

found_late : {A : Type 0} {f : List ℕ → Scan A} {b : List ℕ} {at from most slack : ℕ} → Look f b at from most slack → {x : A} {end : ℕ}
    → f b ≡ found x end → at ≤ end
found_late {b = b} {at} {most = most} {slack} L e = (subst (Ended b at L.upto most slack) e L.ended).1.1

digit_late : (b : List ℕ) (n at x : ℕ) {y end : ℕ} → T (is_digit (byte_at b at)) → number_on (suc n) b at x ≡ found y end → suc at ≤ end
unfolding number_on
digit_late b n at x t e = found_late (look_digits n b (suc at) (10 * x + (byte_at b at - 48))) (rw (T→true (is_digit (byte_at b at)) t) at e)

-- a number stays where another byte than a digit follows it
module _ (b c : List ℕ) {y end : ℕ} (same : take end c ≡ take end b) (stop : is_digit (byte_at c end) ≡ false) where
  digits_stay : (n at x : ℕ) → number_on n b at x ≡ found y end → number_on n c at x ≡ found y end
  unfolding number_on
  digits_stay zero at x e = e
  digits_stay (suc n) at x e = go (T? (is_digit (byte_at b at))) (digits_stay n (suc at) (10 * x + (byte_at b at - 48)))
    where
      go : Dec (T (is_digit (byte_at b at)))
          → (number_on n b (suc at) (10 * x + (byte_at b at - 48)) ≡ found y end → number_on n c (suc at) (10 * x + (byte_at b at - 48)) ≡ found y end)
          → number_on (suc n) c at x ≡ found y end
      go (yes t) rest =
          let next = rw (T→true (is_digit (byte_at b at)) t) at e in
          rw (same_byte b c at end (digit_late b n at x t e) same, T→true (is_digit (byte_at b at)) t) (rest next)
      go (no f) rest =
          let last = rw (not_T→false (is_digit (byte_at b at)) f) at e in
          let here = same_found (λ _ i. is_digit (byte_at c i) ≡ false → is_digit (byte_at c at) ≡ false) last (λ s. s) stop in
          rw here last

  number_stays : (at : ℕ) → number_at b at ≡ found y end → number_at c at ≡ found y end
  unfolding number_at
  number_stays at e = go (ℕ_discrete (byte_at b at) 48) (T? (is_digit (byte_at b at)))
    where
      go : Dec (byte_at b at ≡ 48) → Dec (T (is_digit (byte_at b at))) → number_at c at ≡ found y end
      go (yes z) t =
          let last = rw (eqb_same z) at e in
          let on : suc at ≤ end = same_found (λ _ i. suc at ≤ i) last (omega arith) in
          rw (same_byte b c at end on same, eqb_same z) last
      go (no z) (yes t) =
          let all : number_on 5 b at 0 ≡ found y end = rw (eqb_other z, T→true (is_digit (byte_at b at)) t) at e in
          rw (same_byte b c at end (digit_late b 4 at 0 t all) same, eqb_other z, T→true (is_digit (byte_at b at)) t) (digits_stay 5 at 0 all)
      go (no z) (no f) = absurd (fault≢found (rw (eqb_other z, not_T→false (is_digit (byte_at b at)) f) at e))

-- the word after the number x
look_close : (w : List ℕ) (x : ℕ) (b : List ℕ) (at : ℕ) → Look (λ l. after (word w l at) (λ _ at. found x at)) b at (begin w at) (at + length w) 0
look_close w x b at = look_after (look_word w b at) (omega arith) (λ _ last _ i h. look_found (omega arith) (omega arith) (omega arith))

mend_close : (w : List ℕ) (x : ℕ) (b : List ℕ) (at : ℕ) → T (all_bytes w) → at ≤ length b → Mends (λ l. after (word w l at) (λ _ at. found x at)) b at 0
mend_close w x b at a h = mend_after (look_word w b at) (mend_word w b at a h) (λ _ end _. mend_found) (λ c _ end k p i. omega arith)

-- a byte that matches is passed
close_past : (c : ℕ) (e : List ℕ) (x : ℕ) (b : List ℕ) (at : ℕ) → byte_at b at ≡ c → Past at 0 (after (word (c ∷ e) b at) (λ _ at. found x at))
unfolding word
close_past c e x b at k = rw (eqb_same k) (look_past (look_close e x b (suc at)) (omega arith))

module _ (c : ℕ) (e : List ℕ) (stop : is_digit c ≡ false) (small : T (all_bytes (c ∷ e))) where
  abbrev tail : ℕ → List ℕ → Scan ℕ
  tail at l = after (number_at l at) (λ x at. after (word (c ∷ e) l at) (λ _ at. found x at))

  module _ (b : List ℕ) (at : ℕ) (h : at ≤ length b) where
    -- where no number stands, 0 may
    tail_none : Mend (tail at) b at 0 at
    unfolding number_at
    tail_none =
        let v = take at b ++ (48 ∷ []) in
        record {
          late = omega arith;
          inside = h;
          byte = 48 ∷ [];
          few = omega arith;
          past = rw (eqb_same (mended_byte b at h 48)) (look_past (look_close (c ∷ e) 0 v (suc at)) (omega arith));
        }

    -- where a number stands, what follows it may
    tail_some : (x end : ℕ) → number_at b at ≡ found x end → end ≤ length b → (p : ℕ) → Mend (λ l. after (word (c ∷ e) l end) (λ _ at. found x at)) b end 0 p
        → Mend (tail at) b at 0 p
    tail_some x end k i p W = go (dec_lt end p)
      where
        on : at ≤ end
        on = found_late (look_number b at) k

        go : Dec (end < p) → Mend (tail at) b at 0 p
        go (yes l) =
            let v = take p b ++ W.byte in
            let N = look_number b at in
            let few = (subst (Ended b at N.upto (at + 5) 1) k N.ended).0 in
            let same : number_at v at ≡ found x end = N.same v (mended_same b p W.inside N.upto (omega arith) W.byte) ∙ k in
            record { late = omega (arith, W.late); inside = W.inside; byte = W.byte; few = W.few; past = rw same W.past }
        go (no n) =
            let here : end ≡ p = omega (arith, W.late) in
            let v = take end b ++ (c ∷ []) in
            let byte = mended_byte b end i c in
            let same : number_at v at ≡ found x end =
            number_stays b v (mended_same b end i end (omega arith) (c ∷ [])) (ap is_digit byte ∙ stop) at k in
            subst (Mend (tail at) b at 0) here
            (record { late = on; inside = i; byte = c ∷ []; few = omega arith; past = rw same (close_past c e x v end byte) })

    mend_tail : Mends (tail at) b at 0
    mend_tail p all = go (number_at b at) refl all
      where
        go : (r : Scan ℕ) → number_at b at ≡ r → after r (λ x at. after (word (c ∷ e) b at) (λ _ at. found x at)) ≡ fault (answered 13 p)
            → Mend (tail at) b at 0 p
        go (fault a) k f = subst (Mend (tail at) b at 0) (number_fault b at p (k ∙ f)) tail_none
        go (found x end) k f =
            let i = (found_number h k).there.inside in
            tail_some x end k i p (mend_close (c ∷ e) x b end small i p f)

  pub mend_field : (w b : List ℕ) (at : ℕ) → T (all_bytes w) → at ≤ length b → Mends (λ l. field w (c ∷ e) l at) b at 0
  unfolding field
  mend_field w b at a h =
      mend_after (look_word w b at) (mend_word w b at a h) (λ _ mid k. mend_tail b mid (found_word w a h k).inside)
      (λ l _ mid k p i. look_past (look_tail c e l mid) i)
