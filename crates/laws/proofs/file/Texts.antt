-- The text of a file: opening and body are found exactly where the bytes are the text of values in good form.
--   text_of F D ks xs         == the bytes of the lines with the flag F, D darts, the kernel lines ks and the pairs' numbers xs
--   GoodForm F D ks xs       == these are values that a file can state, each number in one to five digits
--   Scanned b F D ks xs      == the bytes b are read as these values
--   opening_text, body_text    == the bytes of the first two lines, and of the others
--   Flag, Opens, Holds       == the flag, the first two lines, and the others stand in the bytes, with values in good form
--   lines_at b D L at         == what stands after the level count L
use mathlib.Core.Bool.{false}
use mathlib.Core.List.{List, [], ◌∷◌, ◌++◌}
use mathlib.Core.Path.{◌≡◌, refl, sym, ◌∙◌, subst}
use Prim.Native.Nat.{ℕ, suc, ◌+◌, ◌*◌, ◌/◌, ◌≤◌}
use native.Mathlib.Decide.{ℕ_discrete}
use native.Mathlib.Omega.{arith}
use lib.Dec.{T, ltb, ltb→lt, nltb→le, not_T}
use lib.ListN.{length}
use Rattle.permutations.specs.Choice.{T?, T→true, not_T→false, eqb_same, eqb_other}
use Rattle.std.proofs.Common.{if◌then◌else◌}
use Rattle.darts.specs.Answers.{too_many_levels}
use Rattle.darts.specs.Text.{bytes, decimal}
use Rattle.darts.specs.File.{line_feed, pair_lines}
use Rattle.darts.specs.Scan.{Scan, found, fault, after, byte_at, word, field}
use Rattle.darts.specs.Read.{Opening, KernelLine, Body, flag_at, opening, kernels_at, pairs_at, end_at, body}
use Rattle.laws.proofs.file.Words.{Between, between_byte, between_cons, between_none, between_all, all_between, between_join, between_split, byte_inside, after_found, same_found, fault≢found, word_found, found_word}
use Rattle.laws.proofs.file.Fields.{Field, field_found, found_field}
use Rattle.laws.proofs.Lists.{Each}
use Rattle.laws.proofs.file.Lines.{Counted, count_lines, no_digit_feed, kernels_found, found_kernels, pairs_found, found_pairs}

-- "1. `numbers=F`." "2. `darts=D`."
unfoldable pub opening_text : ℕ → ℕ → List ℕ
opening_text F D = bytes "numbers=" ++ ((48 + F) ∷ (line_feed ++ (bytes "darts=" ++ (decimal D ++ line_feed))))

-- "3. `levels=L`." "4. L lines" "5. D/2 lines"
unfoldable pub body_text : List KernelLine → List ℕ → List ℕ
body_text ks xs = (bytes "levels=" ++ (decimal (length ks) ++ line_feed)) ++ (count_lines ks ++ pair_lines xs)

unfoldable pub text_of : ℕ → ℕ → List KernelLine → List ℕ → List ℕ
unfolding opening_text body_text
text_of F D ks xs = opening_text F D ++ body_text ks xs

pub record GoodForm (F D : ℕ) (ks : List KernelLine) (xs : List ℕ) : Type 0 where
  pub flag : F ≤ 1
  pub darts : D ≤ 99999
  pub levels : length ks ≤ 64
  pub counts : Each Counted ks
  pub numbers : Each (λ x. x ≤ 99999) xs
  pub pairs : length xs ≡ 2 * (D / 2)

abbrev opened : ℕ → ℕ → Opening
opened F D = record { flag = F; darts = D }

abbrev stated : List KernelLine → List ℕ → Body
stated ks xs = record { kernels = ks; numbers = xs }

pub record Scanned (b : List ℕ) (F D : ℕ) (ks : List KernelLine) (xs : List ℕ) : Type 0 where
  pub start : ℕ
  pub opens : opening b ≡ found (opened F D) start
  pub holds : body D b start ≡ found (stated ks xs) (length b)

-- ---- opening

pub flag_found : {b : List ℕ} {at : ℕ} (F : ℕ) {end : ℕ} → F ≤ 1 → Between b at ((48 + F) ∷ []) end → flag_at b at ≡ found F end
unfolding flag_at
flag_found {b} {at} F {end} h B = go (ℕ_discrete F 0)
  where
    byte : byte_at b at ≡ 48 + F
    byte = between_byte B

    last : end ≡ suc at
    last = omega (arith, B.place)

    go : Dec (F ≡ 0) → flag_at b at ≡ found F end
    go (yes z) = let e : byte_at b at ≡ 48 = omega (arith, byte) in rw (eqb_same e, z, last)
    go (no n) =
        let z : F ≡ 1 = omega arith in
        let e : byte_at b at ≡ 49 = omega (arith, byte) in
        rw (e, z, last)

pub record Flag (b : List ℕ) (at F end : ℕ) : Type 0 where
  pub there : Between b at ((48 + F) ∷ []) end
  pub bound : F ≤ 1

pub found_flag : {b : List ℕ} {at F end : ℕ} → flag_at b at ≡ found F end → Flag b at F end
unfolding flag_at
found_flag {b} {at} {F} {end} e = go (ℕ_discrete (byte_at b at) 48) (ℕ_discrete (byte_at b at) 49) (ℕ_discrete (byte_at b at) 256)
  where
    flag : (x : ℕ) → x ≤ 1 → byte_at b at ≡ 48 + x → Flag b at x (suc at)
    flag x h k = record { there = between_cons k (between_none (byte_inside b at (omega arith))); bound = h }

    go : Dec (byte_at b at ≡ 48) → Dec (byte_at b at ≡ 49) → Dec (byte_at b at ≡ 256) → Flag b at F end
    go (yes z) o n = same_found (Flag b at) (rw (eqb_same z) at e) (flag 0 (omega arith) z)
    go (no z) (yes o) n = same_found (Flag b at) (rw (eqb_other z, eqb_same o) at e) (flag 1 (omega arith) o)
    go (no z) (no o) (yes n) = absurd (fault≢found (rw (eqb_other z, eqb_other o, eqb_same n) at e))
    go (no z) (no o) (no n) = absurd (fault≢found (rw (eqb_other z, eqb_other o, eqb_other n) at e))

pub record Opens (b : List ℕ) (o : Opening) (end : ℕ) : Type 0 where
  pub there : Between b 0 (opening_text o.flag o.darts) end
  pub flag : o.flag ≤ 1
  pub darts : o.darts ≤ 99999

pub opening_found : {b : List ℕ} (o : Opening) {end : ℕ} → Opens b o end → opening b ≡ found o end
unfolding opening opening_text
opening_found o O =
    let N = between_split (bytes "numbers=") O.there in
    let F = between_split ((48 + o.flag) ∷ []) N.second in
    let L = between_split line_feed F.second in
    rw (
      word_found (bytes "numbers=") N.first,
      flag_found o.flag O.flag F.first,
      word_found line_feed L.first,
      field_found (bytes "darts=") 10 [] no_digit_feed (record { there = L.second; bound = O.darts }),
    )

pub found_opening : {b : List ℕ} {o : Opening} {end : ℕ} → opening b ≡ found o end → Opens b o end
unfolding opening opening_text
found_opening {b} e =
    after_found (word (bytes "numbers=") b 0) _ e (λ _ flag first rest.
    let N = found_word (bytes "numbers=") tt (omega arith) first in
    after_found (flag_at b flag) _ rest (λ F feed second rest.
    let G = found_flag second in
    after_found (word line_feed b feed) _ rest (λ _ line third rest.
    let L = found_word line_feed tt G.there.inside third in
    after_found (field (bytes "darts=") line_feed b line) _ rest (λ D last fourth rest.
    let H = found_field (bytes "darts=") line_feed tt tt L.inside fourth in
    let all = between_join N (between_join G.there (between_join L H.there)) in
    same_found (Opens b) rest (record { there = all; flag = G.bound; darts = H.bound })))))

-- ---- body

record Holds (b : List ℕ) (D at : ℕ) (c : Body) (end : ℕ) : Type 0 where
  there : Between b at (body_text c.kernels c.numbers) end
  last : end ≡ length b
  levels : length c.kernels ≤ 64
  counts : Each Counted c.kernels
  numbers : Each (λ x. x ≤ 99999) c.numbers
  pairs : length c.numbers ≡ 2 * (D / 2)

-- the body is found up to the end of its last line
pub body_at : {b : List ℕ} {F D : ℕ} {ks : List KernelLine} {xs : List ℕ} → GoodForm F D ks xs → {at end : ℕ} → Between b at (body_text ks xs) end
    → body D b at ≡ end_at (stated ks xs) b end
unfolding body body_text
body_at {D = D} {ks = ks} {xs = xs} G B =
    let L = between_split (bytes "levels=" ++ (decimal (length ks) ++ line_feed)) B in
    let K = between_split (count_lines ks) L.second in
    let few : ltb 64 (length ks) ≡ false = not_T→false (ltb 64 (length ks)) (λ t. omega (arith, ltb→lt 64 (length ks) t, G.levels)) in
    rw (
      field_found (bytes "levels=") 10 [] no_digit_feed (record { there = L.first; bound = omega (arith, G.levels) }),
      few,
      kernels_found (record { there = K.first; counted = G.counts; many = refl }),
      pairs_found (D / 2) xs (record { there = K.second; bounds = G.numbers; many = G.pairs }),
    )

-- "nothing after the last"
found_end : (b : List ℕ) (c : Body) {d : Body} {at end : ℕ} → end_at c b at ≡ found d end → (found c at ≡ found d end) × (at ≡ length b)
unfolding end_at
found_end b c {d} {at} {end} e = go (ℕ_discrete at (length b))
  where
    go : Dec (at ≡ length b) → (found c at ≡ found d end) × (at ≡ length b)
    go (yes k) = (rw (eqb_same k) at e, k)
    go (no n) = absurd (fault≢found (rw (eqb_other n) at e))

module _ (b : List ℕ) (D : ℕ) where
  lines_at : ℕ → ℕ → Scan Body
  lines_at L at = after (kernels_at L b at) (λ ks at. after (pairs_at (D / 2) b at) (λ xs at. end_at (stated ks xs) b at))

  -- the lines after the level count L, which stands from `at` to mid
  found_lines : {at L mid : ℕ} {c : Body} {end : ℕ} → Field (bytes "levels=") line_feed b at L mid → L ≤ 64 → lines_at L mid ≡ found c end
      → Holds b D at c end
  unfolding lines_at body_text
  found_lines {at} {L} {mid} F few e =
      after_found (kernels_at L b mid) _ e (λ ks next first rest.
      let K = found_kernels L F.there.inside first in
      let levels = subst (λ n. Between b at (bytes "levels=" ++ (decimal n ++ line_feed)) mid) (sym K.many) F.there in
      after_found (pairs_at (D / 2) b next) _ rest (λ xs last second rest.
      let P = found_pairs (D / 2) K.there.inside second in
      let E = found_end b (stated ks xs) rest in
      same_found (Holds b D at) E.0 (record {
        there = between_join levels (between_join K.there P.there);
        last = E.1;
        levels = omega (arith, K.many);
        counts = K.counted;
        numbers = P.bounds;
        pairs = P.many;
      })))

found_body : {b : List ℕ} {D at : ℕ} {c : Body} {end : ℕ} → at ≤ length b → body D b at ≡ found c end → Holds b D at c end
unfolding body lines_at
found_body {b} {D} {at} {c} {end} h e =
    after_found (field (bytes "levels=") line_feed b at) _ e (λ L mid first rest. go L mid first rest (T? (ltb 64 L)))
  where
    go : (L mid : ℕ) → field (bytes "levels=") line_feed b at ≡ found L mid → (if ltb 64 L then fault too_many_levels else lines_at b D L mid) ≡ found c end
        → Dec (T (ltb 64 L)) → Holds b D at c end
    go L mid first rest (yes t) = absurd (fault≢found (rw (T→true (ltb 64 L) t) at rest))
    go L mid first rest (no n) =
        found_lines b D (found_field (bytes "levels=") line_feed tt tt h first) (nltb→le 64 L (not_T (ltb 64 L) n)) (rw (not_T→false (ltb 64 L) n) at rest)

-- ---- the whole text

-- A TEXT IN GOOD FORM IS READ AS WHAT IT STATES
pub text_scanned : {F D : ℕ} {ks : List KernelLine} {xs : List ℕ} → GoodForm F D ks xs → Scanned (text_of F D ks xs) F D ks xs
unfolding text_of end_at
text_scanned {F} {D} {ks} {xs} G =
    let b = text_of F D ks xs in
    let S = between_split (opening_text F D) (between_all b) in
    record {
      start = S.mid;
      opens = opening_found (opened F D) (record { there = S.first; flag = G.flag; darts = G.darts });
      holds = body_at G S.second ∙ rw (eqb_same {m = length b} refl);
    }

-- WHAT IS READ IS A TEXT IN GOOD FORM
pub scanned_text : {b : List ℕ} {o : Opening} {at : ℕ} {c : Body} {end : ℕ} → opening b ≡ found o at → body o.darts b at ≡ found c end
    → GoodForm o.flag o.darts c.kernels c.numbers × (b ≡ text_of o.flag o.darts c.kernels c.numbers)
unfolding text_of
scanned_text {b} e f =
    let O = found_opening e in
    let H = found_body O.there.inside f in (
      record { flag = O.flag; darts = O.darts; levels = H.levels; counts = H.counts; numbers = H.numbers; pairs = H.pairs },
      all_between (subst (Between b 0 _) H.last (between_join O.there H.there)),
    )
