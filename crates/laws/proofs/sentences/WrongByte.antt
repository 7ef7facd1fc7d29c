-- "13: the bytes leave the file's form; first wrong byte, from 0, or the length if it ends early".
--   Mended b t h w p == with another byte in the place p, or with the file's end there, no byte up to p is wrong
--   wrong_byte_first == so it is at the place of the answer 13; it is at most the length
--   right_bytes_pass == no byte is called wrong that a file in good form has there
use mathlib.Core.List.{List, ◌++◌}
use mathlib.Core.Logic.{◌≢◌}
use mathlib.Core.Path.{◌≡◌, refl, sym, ap, ◌∙◌, subst}
use Prim.Native.Nat.{ℕ, suc, ◌<◌, ◌≤◌}
use native.Mathlib.Decide.{dec_lt}
use native.Mathlib.Omega.{arith}
use lib.ListN.{length, take}
use Rattle.darts.specs.Answers.{Answer, answered}
use Rattle.darts.specs.Scan.{Scan, found, fault}
use Rattle.darts.specs.Read.{Opening, KernelLine, Body, opening, body, Read, closed, opened, read_file}
use Rattle.darts.specs.Calls.{read_into, read}
use Rattle.laws.proofs.file.Texts.{GoodForm, text_of, found_opening, text_scanned}
use Rattle.laws.proofs.file.Meanings.{Closing, stands, falls, closing, DartsJudged, uncounted, cramped, goes_on, darts_judged}
use Rattle.laws.proofs.file.Looks.{Stop, wrong, flag, empty, many, Ended, same_less}
use Rattle.laws.proofs.file.LooksLines.{look_opening, look_body}
use Rattle.laws.proofs.file.Mends.{Past, mended_same, look_past}
use Rattle.laws.proofs.file.MendsLines.{mend_opening, mend_body}
use Rattle.laws.proofs.sentences.FirstLines.{fits}
use Rattle.laws.proofs.sentences.FirstFault.{wrong_byte_decides}

pub record Mended (b t h w : List ℕ) (p : ℕ) : Type 0 where
  pub inside : p ≤ length b
  pub byte : List ℕ
  pub few : length byte ≤ 1
  pub past : (read (take p b ++ byte) t h w).answer.number ≡ 13 → p < (read (take p b ++ byte) t h w).answer.place

thirteen : {b : List ℕ} {at upto : ℕ} {a : Answer} → Stop b at upto a → a.number ≡ 13 → a ≡ answered 13 a.place
thirteen (wrong p e k l) n = e ∙ ap (answered 13) (sym (ap (λ a. a.place) e))
thirteen (flag e k) n = absurd (omega (arith, ap (λ a. a.number) e))
thirteen (empty e l) n = absurd (omega (arith, ap (λ a. a.number) e))
thirteen (many e l) n = absurd (omega (arith, ap (λ a. a.number) e))

module _ (t h w : List ℕ) where
  answer : Read → Answer
  unfolding read_into
  answer r = (read_into t h w r).answer

  -- what a file states is answered 0 or 4
  stated_formed : (o : Opening) (c : Body) (end : ℕ) → (answer (closed o (found c end))).number ≢ 13
  unfolding answer read_into
  stated_formed o c end n = go (closing o c end)
    where
      go : Closing o c end → ⊥
      go (stands (p, k)) = omega (arith, sym (ap (λ r. (answer r).number) k) ∙ n)
      go (falls k) = omega (arith, sym (ap (λ r. (answer r).number) k) ∙ n)

  -- a wrong byte after the first two lines is one of the rest
  rest_wrong : (c : List ℕ) (o : Opening) (at : ℕ) → (answer (opened (fits t h w) c (found o at))).number ≡ 13
      → opened (fits t h w) c (found o at) ≡ closed o (body o.darts c at)
  unfolding answer read_into
  rest_wrong c o at n = go (darts_judged (fits t h w) c o at)
    where
      go : DartsJudged (fits t h w) c o at → opened (fits t h w) c (found o at) ≡ closed o (body o.darts c at)
      go (uncounted i k) = absurd (omega (arith, sym (ap (λ r. (answer r).number) k) ∙ n))
      go (cramped d i k) = absurd (omega (arith, sym (ap (λ r. (answer r).number) k) ∙ n))
      go (goes_on d f k) = k

  module _ (p : ℕ) where
    closed_past : (o : Opening) (r : Scan Body) → Past p 1 r → (answer (closed o r)).number ≡ 13 → p < (answer (closed o r)).place
    unfolding answer read_into closed
    closed_past o (fault a) k n = k n
    closed_past o (found c end) k n = absurd (stated_formed o c end n)

    -- the rest of the bytes c, after their first two lines
    rest_past : (c : List ℕ) (o : Opening) (at : ℕ) → Past p 1 (body o.darts c at) → (answer (opened (fits t h w) c (found o at))).number ≡ 13
        → p < (answer (opened (fits t h w) c (found o at))).place
    rest_past c o at k n =
        let e = rest_wrong c o at n in
        rw e (closed_past o (body o.darts c at) k (rw e at n))

    opened_past : (c : List ℕ) (r : Scan Opening) → Past p 0 r → (answer (opened (fits t h w) c r)).number ≡ 13
        → p < (answer (opened (fits t h w) c r)).place
    unfolding answer read_into opened
    opened_past c (fault a) k n = k n
    opened_past c (found o at) k n = rest_past c o at (look_past (look_body o.darts c at) (omega arith)) n

  module _ (b : List ℕ) where
    -- a fault in the rest
    body_first : (o : Opening) (at : ℕ) → opening b ≡ found o at → (r : Scan Body) → body o.darts b at ≡ r → (answer (closed o r)).number ≡ 13
        → Mended b t h w (answer (closed o r)).place
    unfolding answer read_into closed read read_file
    body_first o at k (found c end) i n = absurd (stated_formed o c end n)
    body_first o at k (fault a) i n =
        let p = a.place in
        let stop = subst (Ended b at (look_body o.darts b at).upto _ 1) i (look_body o.darts b at).ended in
        let J = mend_body o.darts b at (found_opening k).there.inside p (i ∙ ap fault (thirteen stop n)) in
        let c = take p b ++ J.byte in
        let O = look_opening b in
        let few = (subst (Ended b 0 O.upto 22 0) k O.ended).0 in
        let same : opening c ≡ found o at = O.same c (mended_same b p J.inside O.upto (omega (arith, J.late)) J.byte) ∙ k in
        record { inside = J.inside; byte = J.byte; few = J.few; past = rw same (rest_past p c o at J.past) }

    byte_first : (r : Scan Opening) → opening b ≡ r → (answer (opened (fits t h w) b r)).number ≡ 13
        → Mended b t h w (answer (opened (fits t h w) b r)).place
    unfolding answer read_into opened read read_file
    byte_first (fault a) k n =
        let p = a.place in
        let stop = subst (Ended b 0 (look_opening b).upto 22 0) k (look_opening b).ended in
        let M = mend_opening b p (k ∙ ap fault (thirteen stop n)) in
        let c = take p b ++ M.byte in
        record { inside = M.inside; byte = M.byte; few = M.few; past = opened_past p c (opening c) M.past }
    byte_first (found o at) k n =
        let e = rest_wrong b o at n in
        rw e (body_first o at k (body o.darts b at) refl (rw e at n))

-- "first wrong byte, from 0, or the length if it ends early"
pub wrong_byte_first : (b t h w : List ℕ) → (read b t h w).answer.number ≡ 13 → Mended b t h w (read b t h w).answer.place
unfolding answer read_into read read_file
wrong_byte_first b t h w = byte_first t h w b (opening b) refl

-- a file in good form has no wrong byte
text_formed : {F D : ℕ} {ks : List KernelLine} {xs : List ℕ} → GoodForm F D ks xs → (t h w : List ℕ) → (read (text_of F D ks xs) t h w).answer.number ≢ 13
unfolding answer read_into read read_file
text_formed {F} {D} {ks} {xs} G t h w n =
    let S = text_scanned G in
    let b = text_of F D ks xs in
    let k = rw S.opens at n in
    stated_formed t h w (record { flag = F; darts = D }) (record { kernels = ks; numbers = xs }) (length b)
    (rw (rest_wrong t h w b (record { flag = F; darts = D }) S.start k, S.holds) at k)

-- no byte is called wrong that a file in good form has there
pub right_bytes_pass : (b t h w : List ℕ) {F D : ℕ} {ks : List KernelLine} {xs : List ℕ} → GoodForm F D ks xs → (read b t h w).answer.number ≡ 13 → (n : ℕ)
    → take n b ≡ take n (text_of F D ks xs) → n ≤ (read b t h w).answer.place
right_bytes_pass b t h w {F} {D} {ks} {xs} G e n s = go (dec_lt (read b t h w).answer.place n)
  where
    p : ℕ
    p = (read b t h w).answer.place

    text : List ℕ
    text = text_of F D ks xs

    go : Dec (p < n) → n ≤ p
    go (yes k) =
        let same = wrong_byte_decides b t h w e text (same_less b text (suc p) n k (sym s)) in
        absurd (text_formed G t h w (ap (λ r. r.answer.number) same ∙ e))
    go (no k) = omega arith
