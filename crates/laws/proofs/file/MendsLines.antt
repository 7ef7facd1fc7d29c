-- The lines of a file: a wrong byte is the first one.
--   mend_opening, mend_body == the first two lines, and the others
use mathlib.Core.List.{List, [], ◌∷◌, ◌++◌, append-nil}
use mathlib.Core.Path.{◌≡◌, sym, ap, ◌∙◌, subst}
use Prim.Native.Nat.{ℕ, zero, suc, ◌/◌, ◌<◌, ◌≤◌}
use native.Mathlib.Decide.{dec_lt, ℕ_discrete}
use native.Mathlib.Omega.{arith}
use lib.Dec.{T, ltb, nltb→le, not_T, eqb}
use lib.ListN.{length, take}
use lib.Seq.{length-take-le}
use Rattle.permutations.specs.Choice.{T?, T→true, not_T→false, eqb_same, eqb_other}
use Rattle.std.proofs.Common.{if◌then◌else◌}
use Rattle.darts.specs.Answers.{answered, empty_kernel, too_many_levels}
use Rattle.darts.specs.Operation.{Kind, contraction, removal}
use Rattle.darts.specs.Text.{bytes}
use Rattle.darts.specs.File.{line_feed, kind_word}
use Rattle.darts.specs.Scan.{Scan, found, fault, after, byte_at, word, field}
use Rattle.darts.specs.Read.{Opening, KernelLine, Body, flag_at, opening, kernel_of_kind, kernel_at, kernels_at, pairs_at, end_at, body}
use Rattle.laws.proofs.file.Words.{all_bytes, found_word, fault≢found}
use Rattle.laws.proofs.file.Fields.{found_field}
use Rattle.laws.proofs.file.Lines.{no_digit_feed, no_digit_space, found_kernel, found_kernels, found_pairs}
use Rattle.laws.proofs.file.Texts.{found_flag}
use Rattle.laws.proofs.file.Looks.{look_word, look_field, field_end, same_byte}
use Rattle.laws.proofs.file.LooksLines.{look_flag, look_count, look_letter, look_kernel, look_kernels, look_pairs, look_end, look_lines}
use Rattle.laws.proofs.file.Mends.{Past, Mend, Mends, mended_same, mended_byte, same_fault, look_past, past_after_lem, mend_after, mend_found, mend_word, mend_field}

-- ---- the kernel lines

count_formed : (k : Kind) (n end p : ℕ)
    → ◌≡◌ {A = Scan KernelLine} (if eqb n 0 then fault empty_kernel else found (record { kind = k; count = n }) end) (fault (answered 13 p)) → ⊥
count_formed k n end p e = go (ℕ_discrete n 0)
  where
    go : Dec (n ≡ 0) → ⊥
    go (yes z) = omega (arith, ap (λ a. a.number) (same_fault (rw (eqb_same z) at e)))
    go (no z) = fault≢found (sym (rw (eqb_other z) at e))

kind_word_lem : (k : Kind) → T (all_bytes (kind_word k))
unfolding kind_word
kind_word_lem contraction = tt
kind_word_lem removal = tt

mend_kind : (k : Kind) (b : List ℕ) (at : ℕ) → at ≤ length b → Mends (λ l. kernel_of_kind k l at) b at 0
unfolding kernel_of_kind
mend_kind k b at h =
    mend_after (look_field (kind_word k) 10 [] b at) (mend_field 10 [] no_digit_feed tt (kind_word k) b at (kind_word_lem k) h)
    (λ n end _ p e. absurd (count_formed k n end p e))
    (λ c n end e p i. look_past (look_count k c n end end (field_end (kind_word k) c at e) (omega arith)) i)

-- the letter `r` is passed
letter_past : (b : List ℕ) (at : ℕ) → byte_at b at ≡ 114
    → Past at 0 (if eqb (byte_at b at) 99 then kernel_of_kind contraction b at else kernel_of_kind removal b at)
unfolding kernel_of_kind kind_word field word
letter_past b at e =
    rw e (past_after_lem 0 (field (bytes "emove ") line_feed b (suc at)) _ (look_past (look_field (bytes "emove ") 10 [] b (suc at)) (omega arith)) (λ n end k i.
    look_past (look_count removal b n end end (field_end (bytes "emove ") b (suc at) k) (omega arith)) i))

mend_letter : (b : List ℕ) (at : ℕ) → at ≤ length b
    → Mends (λ l. if eqb (byte_at l at) 99 then kernel_of_kind contraction l at else kernel_of_kind removal l at) b at 0
mend_letter b at h p e = go (ℕ_discrete (byte_at b at) 99)
  where
    letter : List ℕ → Scan KernelLine
    letter l = if eqb (byte_at l at) 99 then kernel_of_kind contraction l at else kernel_of_kind removal l at

    first : at ≡ p → Mend letter b at 0 p
    first i = subst (Mend letter b at 0) i (record {
      late = omega arith;
      inside = h;
      byte = 114 ∷ [];
      few = omega arith;
      past = letter_past (take at b ++ (114 ∷ [])) at (mended_byte b at h 114);
    })

    later : (k : Kind) → ((l : List ℕ) → byte_at l at ≡ byte_at b at → letter l ≡ kernel_of_kind k l at) → Mend (λ l. kernel_of_kind k l at) b at 0 p → Dec (at < p)
        → Mend letter b at 0 p
    later k told K (yes i) =
        let v = take p b ++ K.byte in
        let same = told v (same_byte b v at p i (mended_same b p K.inside p (omega arith) K.byte)) in
        record { late = K.late; inside = K.inside; byte = K.byte; few = K.few; past = rw same K.past }
    later k told K (no n) = first (omega (arith, K.late))

    go : Dec (byte_at b at ≡ 99) → Mend letter b at 0 p
    go (yes c) = later contraction (λ l i. rw (eqb_same (i ∙ c))) (mend_kind contraction b at h p (rw (eqb_same c) at e)) (dec_lt at p)
    go (no n) = later removal (λ l i. rw (i, eqb_other n)) (mend_kind removal b at h p (rw (eqb_other n) at e)) (dec_lt at p)

mend_kernel : (b : List ℕ) (at : ℕ) → at ≤ length b → Mends (λ l. kernel_at l at) b at 0
unfolding kernel_at
mend_kernel b at h =
    mend_after (look_word (bytes "kernel=") b at) (mend_word (bytes "kernel=") b at tt h)
    (λ _ mid k. mend_letter b mid (found_word (bytes "kernel=") tt h k).inside)
    (λ c _ mid k p i. look_past (look_letter c mid) i)

mend_kernels : (n : ℕ) (b : List ℕ) (at : ℕ) → at ≤ length b → Mends (λ l. kernels_at n l at) b at 0
unfolding kernels_at
mend_kernels zero b at h = mend_found
mend_kernels (suc n) b at h =
    mend_after (look_kernel b at) (mend_kernel b at h)
    (λ k mid e. mend_after (look_kernels n b mid) (mend_kernels n b mid (found_kernel h e).there.inside) (λ ks end _. mend_found)
    (λ c ks end _ p i. omega arith))
    (λ c k mid e p i. past_after_lem 0 (kernels_at n c mid) _ (look_past (look_kernels n c mid) i) (λ ks end _ j. omega arith))

-- ---- the pair lines, and the end

mend_pairs : (n : ℕ) (b : List ℕ) (at : ℕ) → at ≤ length b → Mends (λ l. pairs_at n l at) b at 0
unfolding pairs_at
mend_pairs zero b at h = mend_found
mend_pairs (suc n) b at h =
    mend_after (look_field (bytes "pair=") 32 [] b at) (mend_field 32 [] no_digit_space tt (bytes "pair=") b at tt h)
    (λ x mid e. let i = (found_field (bytes "pair=") (bytes " ") tt tt h e).there.inside in
    mend_after (look_field [] 10 [] b mid) (mend_field 10 [] no_digit_feed tt [] b mid tt i)
    (λ y next e. mend_after (look_pairs n b next) (mend_pairs n b next (found_field [] line_feed tt tt i e).there.inside) (λ xs end _. mend_found)
    (λ c xs end _ p i. omega arith))
    (λ c y next e p i. past_after_lem 0 (pairs_at n c next) _ (look_past (look_pairs n c next) i) (λ xs end _ j. omega arith)))
    (λ c x mid e p i. past_after_lem 0 (field [] line_feed c mid) _ (look_past (look_field [] 10 [] c mid) i) (λ y next _ j.
    past_after_lem 0 (pairs_at n c next) _ (look_past (look_pairs n c next) j) (λ xs end _ j. omega arith)))

-- at the end of the last line the file may end
mend_end : (s : Body) (b : List ℕ) (at : ℕ) → at ≤ length b → Mends (λ l. end_at s l at) b at 1
unfolding end_at
mend_end s b at h p e = go (ℕ_discrete at (length b))
  where
    go : Dec (at ≡ length b) → Mend (λ l. end_at s l at) b at 1 p
    go (yes k) = absurd (fault≢found (sym (rw (eqb_same k) at e)))
    go (no n) =
        let here : at ≡ p = ap (λ a. a.place) (same_fault (rw (eqb_other n) at e)) in
        let last : at ≡ length (take at b ++ []) = sym (ap length (append-nil (take at b)) ∙ length-take-le at b h) in
        subst (Mend (λ l. end_at s l at) b at 1) here
        (record { late = omega arith; inside = h; byte = []; few = omega arith; past = rw (eqb_same last) (omega arith) })

-- ---- the body

mend_lines : (D L : ℕ) (b : List ℕ) (at : ℕ) → at ≤ length b
    → Mends (λ l. after (kernels_at L l at) (λ ks at. after (pairs_at (D / 2) l at) (λ xs at. end_at (record { kernels = ks; numbers = xs }) l at))) b at 1
mend_lines D L b at h =
    mend_after (look_kernels L b at) (mend_kernels L b at h)
    (λ ks mid e. let i = (found_kernels L h e).there.inside in
    mend_after (look_pairs (D / 2) b mid) (mend_pairs (D / 2) b mid i)
    (λ xs end e. mend_end (record { kernels = ks; numbers = xs }) b end (found_pairs (D / 2) i e).there.inside)
    (λ c xs end _ p i. look_past (look_end (record { kernels = ks; numbers = xs }) c end) i))
    (λ c ks mid e p i. past_after_lem 1 (pairs_at (D / 2) c mid) _ (look_past (look_pairs (D / 2) c mid) i) (λ xs end _ j.
    look_past (look_end (record { kernels = ks; numbers = xs }) c end) j))

pub mend_body : (D : ℕ) (b : List ℕ) (at : ℕ) → at ≤ length b → Mends (λ l. body D l at) b at 1
unfolding body
mend_body D b at h =
    mend_after (look_field (bytes "levels=") 10 [] b at) (mend_field 10 [] no_digit_feed tt (bytes "levels=") b at tt h)
    (λ L mid e. mends L mid (found_field (bytes "levels=") line_feed tt tt h e).there.inside (T? (ltb 64 L)))
    (λ c L mid e p i. past L mid c p i (T? (ltb 64 L)))
  where
    rest : ℕ → ℕ → List ℕ → Scan Body
    rest L mid l =
        if ltb 64 L then fault too_many_levels
        else after (kernels_at L l mid) (λ ks at. after (pairs_at (D / 2) l at) (λ xs at. end_at (record { kernels = ks; numbers = xs }) l at))

    mends : (L mid : ℕ) → mid ≤ length b → Dec (T (ltb 64 L)) → Mends (λ l. rest L mid l) b mid 1
    mends L mid h (yes t) p e = absurd (omega (arith, ap (λ a. a.number) (same_fault (rw (T→true (ltb 64 L) t) at e))))
    mends L mid h (no n) p e = rw (not_T→false (ltb 64 L) n) (mend_lines D L b mid h p (rw (not_T→false (ltb 64 L) n) at e))

    past : (L mid : ℕ) (c : List ℕ) (p : ℕ) → p < mid → Dec (T (ltb 64 L)) → Past p 1 (rest L mid c)
    past L mid c p i (yes t) = rw (T→true (ltb 64 L) t) (λ n. absurd (omega arith))
    past L mid c p i (no n) = rw (not_T→false (ltb 64 L) n) (look_past (look_lines D L c mid (nltb→le 64 L (not_T (ltb 64 L) n))) i)

-- ---- the first two lines

mend_flag : (b : List ℕ) → 8 ≤ length b → Mends (λ l. flag_at l 8) b 8 0
unfolding flag_at
mend_flag b h p e = go (ℕ_discrete (byte_at b 8) 48) (ℕ_discrete (byte_at b 8) 49) (ℕ_discrete (byte_at b 8) 256)
  where
    go : Dec (byte_at b 8 ≡ 48) → Dec (byte_at b 8 ≡ 49) → Dec (byte_at b 8 ≡ 256) → Mend (λ l. flag_at l 8) b 8 0 p
    go (yes z) o n = absurd (fault≢found (sym (rw (eqb_same z) at e)))
    go (no z) (yes o) n = absurd (fault≢found (sym (rw (eqb_other z, eqb_same o) at e)))
    go (no z) (no o) (yes n) =
        let here : 8 ≡ p = ap (λ a. a.place) (same_fault (rw (eqb_other z, eqb_other o, eqb_same n) at e)) in
        subst (Mend (λ l. flag_at l 8) b 8 0) here
        (record { late = omega arith; inside = h; byte = 48 ∷ []; few = omega arith; past = rw (eqb_same (mended_byte b 8 h 48)) (omega arith) })
    go (no z) (no o) (no n) = absurd (omega (arith, ap (λ a. a.number) (same_fault (rw (eqb_other z, eqb_other o, eqb_other n) at e))))

pub mend_opening : (b : List ℕ) → Mends opening b 0 0
unfolding opening
mend_opening b =
    mend_after (look_word (bytes "numbers=") b 0) (mend_word (bytes "numbers=") b 0 tt (omega arith))
    (λ _ at e. let N = found_word (bytes "numbers=") tt (omega arith) e in flags at (omega (arith, N.place)) N.inside)
    (λ c _ at e p i. past c at (omega (arith, (found_word (bytes "numbers=") tt (omega arith) e).place)) p i)
  where
    line : ℕ → ℕ → List ℕ → Scan Opening
    line F at l = after (field (bytes "darts=") line_feed l at) (λ D at. found (record { flag = F; darts = D }) at)

    fed : ℕ → ℕ → List ℕ → Scan Opening
    fed F at l = after (word line_feed l at) (λ _ at. line F at l)

    line_past : (c : List ℕ) (F at p : ℕ) → p < at → Past p 0 (line F at c)
    line_past c F at p i =
        past_after_lem 0 (field (bytes "darts=") line_feed c at) _ (look_past (look_field (bytes "darts=") 10 [] c at) i) (λ D end _ j. omega arith)

    fed_past : (c : List ℕ) (F at p : ℕ) → p < at → Past p 0 (fed F at c)
    fed_past c F at p i = past_after_lem 0 (word line_feed c at) _ (look_past (look_word line_feed c at) i) (λ _ end _ j. line_past c F end p j)

    past : (c : List ℕ) (at : ℕ) → at ≡ 8 → (p : ℕ) → p < at → Past p 0 (after (flag_at c at) (λ F at. fed F at c))
    past c at e p i = rw e (past_after_lem 0 (flag_at c 8) _ (look_past (look_flag c) (omega arith)) (λ F end _ j. fed_past c F end p j))

    mend_line : (F at : ℕ) → at ≤ length b → Mends (λ l. line F at l) b at 0
    mend_line F at h =
        mend_after (look_field (bytes "darts=") 10 [] b at) (mend_field 10 [] no_digit_feed tt (bytes "darts=") b at tt h) (λ D end _. mend_found)
        (λ c D end _ p i. omega arith)

    mend_fed : (F at : ℕ) → at ≤ length b → Mends (λ l. fed F at l) b at 0
    mend_fed F at h =
        mend_after (look_word line_feed b at) (mend_word line_feed b at tt h) (λ _ end e. mend_line F end (found_word line_feed tt h e).inside)
        (λ c _ end _ p i. line_past c F end p i)

    flags : (at : ℕ) → at ≡ 8 → at ≤ length b → Mends (λ l. after (flag_at l at) (λ F at. fed F at l)) b at 0
    flags at e h p = rw e (
        mend_after (look_flag b) (mend_flag b (omega arith)) (λ F end k. mend_fed F end (found_flag k).there.inside) (λ c F end _ p i. fed_past c F end p i) p
        )
