-- How many bytes the lines of a file are told by.
--   look_opening == the first two lines: at most 22
--   look_body    == the others: at most 13 in the line of the levels, 22 in that of each kernel, 17 in each pair, and the end after them
use mathlib.Core.List.{List, []}
use mathlib.Core.Path.{◌≡◌, refl, sym, ap, ◌∙◌}
use Prim.Native.Nat.{ℕ, zero, suc, ◌+◌, ◌*◌, ◌/◌, ◌≤◌, min}
use native.Mathlib.Decide.{ℕ_discrete}
use native.Mathlib.Omega.{arith}
use lib.Dec.{T, ltb, nltb→le, not_T, eqb, eqb→eq}
use lib.ListN.{length, take, length-take}
use Rattle.permutations.specs.Choice.{T?, T→true, not_T→false, T-ext, eqb_same, eqb_other, eqb_iff}
use Rattle.std.proofs.Common.{if◌then◌else◌}
use Rattle.darts.specs.Answers.{empty_kernel, too_many_levels}
use Rattle.darts.specs.Operation.{Kind, contraction, removal}
use Rattle.darts.specs.Text.{bytes}
use Rattle.darts.specs.File.{line_feed, kind_word}
use Rattle.darts.specs.Scan.{found, fault, after, byte_at}
use Rattle.darts.specs.Read.{KernelLine, Body, flag_at, opening, kernel_of_kind, kernel_at, kernels_at, pairs_at, end_at, body}
use Rattle.laws.proofs.file.Words.{found_word}
use Rattle.laws.proofs.file.Looks.{LineEnd, Look, Ended, wrong, flag, empty, many, same_byte, look_found, look_fault, look_after, look_more, look_word, look_field, field_end}

-- ---- the first two lines

pub look_flag : (b : List ℕ) → Look (λ l. flag_at l 8) b 8 8 9 0
unfolding flag_at
look_flag b = record {
  upto = 9;
  begun = omega arith;
  few = omega arith;
  same = λ d s. rw (same_byte b d 8 9 (omega arith) s);
  ended = ended (ℕ_discrete (byte_at b 8) 48) (ℕ_discrete (byte_at b 8) 49) (ℕ_discrete (byte_at b 8) 256);
}
  where
    ended : Dec (byte_at b 8 ≡ 48) → Dec (byte_at b 8 ≡ 49) → Dec (byte_at b 8 ≡ 256) → Ended b 8 9 9 0 (flag_at b 8)
    ended (yes z) o n = rw (eqb_same z) (omega arith, (omega arith, omega arith))
    ended (no z) (yes o) n = rw (eqb_other z, eqb_same o) (omega arith, (omega arith, omega arith))
    ended (no z) (no o) (yes n) = rw (eqb_other z, eqb_other o, eqb_same n) (wrong 8 refl refl (omega arith))
    ended (no z) (no o) (no n) = rw (eqb_other z, eqb_other o, eqb_other n) (flag refl refl)

pub look_opening : (b : List ℕ) → Look opening b 0 0 22 0
unfolding opening
look_opening b =
    look_after (look_more {most' = 8} (look_word (bytes "numbers=") b 0) (omega arith) (omega arith) (omega arith)) (omega arith) (λ _ at e _ _.
    let eight : at ≡ 8 = omega (arith, (found_word (bytes "numbers=") tt (omega arith) e).place) in
    rw eight (
    look_after (look_more {most' = 9} (look_flag b) (omega arith) (omega arith) (omega arith)) (omega arith) (λ F at _ _ h.
    look_after (look_more {most' = 10} (look_word line_feed b at) (omega arith) (omega arith) (omega arith)) (omega arith) (λ _ at _ _ k.
    look_after (look_more {most' = 22} (look_field (bytes "darts=") 10 [] b at) (omega arith) (omega arith) (omega arith)) (omega arith) (λ D at _ _ m.
    look_found (omega arith) (omega arith) (omega arith))))
    ))

-- ---- the kernel lines

-- a count of 0 is told by the end of its line
pub look_count : (k : Kind) (b : List ℕ) (n at most : ℕ) → LineEnd b at → at ≤ most
    → Look {A = KernelLine} (λ _. if eqb n 0 then fault empty_kernel else found (record { kind = k; count = n }) at) b at (at + 0) most 0
look_count k b n at most e h = go (ℕ_discrete n 0)
  where
    go : Dec (n ≡ 0) → Look {A = KernelLine} (λ _. if eqb n 0 then fault empty_kernel else found (record { kind = k; count = n }) at) b at (at + 0) most 0
    go (yes z) = rw (eqb_same z) (look_fault {upto = at} (omega arith) (omega arith) (empty refl e))
    go (no z) = rw (eqb_other z) (look_found (omega arith) (omega arith) (omega arith))

look_kind : (k : Kind) (b : List ℕ) (at : ℕ) → Look (λ l. kernel_of_kind k l at) b at (suc at) (at + 15) 0
unfolding kernel_of_kind kind_word
look_kind contraction b at =
    look_after (look_more {most' = at + 15} (look_field (bytes "contract ") 10 [] b at) (omega arith) (omega arith) (omega arith)) (omega arith) (λ n end e _ h.
    look_count contraction b n end (at + 15) (field_end (bytes "contract ") b at e) h)
look_kind removal b at =
    look_after (look_more {most' = at + 15} (look_field (bytes "remove ") 10 [] b at) (omega arith) (omega arith) (omega arith)) (omega arith) (λ n end e _ h.
    look_count removal b n end (at + 15) (field_end (bytes "remove ") b at e) h)

-- the letter that tells the kind is the first byte of its word
pub look_letter : (b : List ℕ) (at : ℕ)
    → Look (λ l. if eqb (byte_at l at) 99 then kernel_of_kind contraction l at else kernel_of_kind removal l at) b at (suc at) (at + 15) 0
look_letter b at = go (ℕ_discrete (byte_at b at) 99)
  where
    go : Dec (byte_at b at ≡ 99)
        → Look (λ l. if eqb (byte_at l at) 99 then kernel_of_kind contraction l at else kernel_of_kind removal l at) b at (suc at) (at + 15) 0
    go (yes c) =
        let K = look_kind contraction b at in
        record {
          upto = K.upto;
          begun = K.begun;
          few = K.few;
          same = λ d s. rw (same_byte b d at K.upto K.begun s, eqb_same c) (K.same d s);
          ended = rw (eqb_same c) K.ended;
        }
    go (no n) =
        let K = look_kind removal b at in
        record {
          upto = K.upto;
          begun = K.begun;
          few = K.few;
          same = λ d s. rw (same_byte b d at K.upto K.begun s, eqb_other n) (K.same d s);
          ended = rw (eqb_other n) K.ended;
        }

pub look_kernel : (b : List ℕ) (at : ℕ) → Look (λ l. kernel_at l at) b at at (at + 22) 0
unfolding kernel_at
look_kernel b at =
    look_after (look_more {most' = at + 7} (look_word (bytes "kernel=") b at) (omega arith) (omega arith) (omega arith)) (omega arith) (λ _ mid _ _ h.
    look_more (look_letter b mid) (omega arith) (omega arith) (omega arith))

pub look_kernels : (n : ℕ) (b : List ℕ) (at : ℕ) → Look (λ l. kernels_at n l at) b at at (at + 22 * n) 0
unfolding kernels_at
look_kernels zero b at = look_found (omega arith) (omega arith) (omega arith)
look_kernels (suc n) b at =
    look_after (look_kernel b at) (omega arith) (λ k mid _ _ h.
    look_after (look_more {most' = mid + 22 * n} (look_kernels n b mid) (omega arith) (omega arith) (omega arith)) (omega arith) (λ ks end _ _ m.
    look_found (omega arith) (omega arith) (omega arith)))

-- ---- the pair lines, and the end

pub look_pairs : (n : ℕ) (b : List ℕ) (at : ℕ) → Look (λ l. pairs_at n l at) b at at (at + 17 * n) 0
unfolding pairs_at
look_pairs zero b at = look_found (omega arith) (omega arith) (omega arith)
look_pairs (suc n) b at =
    look_after (look_more {most' = at + 11} (look_field (bytes "pair=") 32 [] b at) (omega arith) (omega arith) (omega arith)) (omega arith) (λ x mid _ _ h.
    look_after (look_more {most' = mid + 6} (look_field [] 10 [] b mid) (omega arith) (omega arith) (omega arith)) (omega arith) (λ y next _ _ k.
    look_after (look_more {most' = next + 17 * n} (look_pairs n b next) (omega arith) (omega arith) (omega arith)) (omega arith) (λ xs end _ _ m.
    look_found (omega arith) (omega arith) (omega arith))))

-- where the first bytes end is where the bytes end
end_same : (b d : List ℕ) (at : ℕ) → take (suc at) d ≡ take (suc at) b → eqb at (length d) ≡ eqb at (length b)
end_same b d at s =
    let n : min (suc at) (length d) ≡ min (suc at) (length b) = sym (length-take (suc at) d) ∙ ap length s ∙ length-take (suc at) b in
    T-ext (eqb at (length d)) (eqb at (length b))
    (λ t. let e = eqb→eq at (length d) t in (eqb_iff at (length b)).1 (omega arith))
    (λ t. let e = eqb→eq at (length b) t in (eqb_iff at (length d)).1 (omega arith))

pub look_end : (c : Body) (b : List ℕ) (at : ℕ) → Look (λ l. end_at c l at) b at at at 1
unfolding end_at
look_end c b at = record {
  upto = suc at;
  begun = omega arith;
  few = omega arith;
  same = λ d s. rw (end_same b d at s);
  ended = ended (ℕ_discrete at (length b));
}
  where
    ended : Dec (at ≡ length b) → Ended b at (suc at) at 1 (end_at c b at)
    ended (yes e) = rw (eqb_same e) (omega arith, (omega arith, omega arith))
    ended (no n) = rw (eqb_other n) (wrong at refl refl (omega arith))

-- ---- the body

pub look_lines : (D L : ℕ) (b : List ℕ) (at : ℕ) → L ≤ 64
    → Look (λ l. after (kernels_at L l at) (λ ks at. after (pairs_at (D / 2) l at) (λ xs at. end_at (record { kernels = ks; numbers = xs }) l at)))
    b at at (at + 1408 + 17 * (D / 2)) 1
look_lines D L b at h =
    look_after (look_kernels L b at) (omega arith) (λ ks mid _ _ k.
    look_after (look_more {most' = mid + 17 * (D / 2)} (look_pairs (D / 2) b mid) (omega arith) (omega arith) (omega arith)) (omega arith) (λ xs end _ _ m.
    look_more (look_end (record { kernels = ks; numbers = xs }) b end) (omega arith) (omega arith) (omega arith)))

pub look_body : (D : ℕ) (b : List ℕ) (at : ℕ) → Look (λ l. body D l at) b at at (at + 1421 + 17 * (D / 2)) 1
unfolding body
look_body D b at =
    look_after (look_more {most' = at + 13} (look_field (bytes "levels=") 10 [] b at) (omega arith) (omega arith) (omega arith)) (omega arith) (λ L mid e _ h.
    go L mid (field_end (bytes "levels=") b at e) h (T? (ltb 64 L)))
  where
    go : (L mid : ℕ) → LineEnd b mid → mid ≤ at + 13 → Dec (T (ltb 64 L))
        → Look (λ l. if ltb 64 L then fault too_many_levels
        else after (kernels_at L l mid) (λ ks at. after (pairs_at (D / 2) l at) (λ xs at. end_at (record { kernels = ks; numbers = xs }) l at)))
        b mid (mid + 0) (at + 1421 + 17 * (D / 2)) 1
    go L mid e h (yes t) = rw (T→true (ltb 64 L) t) (look_fault {upto = mid} (omega arith) (omega arith) (many refl e))
    go L mid e h (no n) =
        let few = nltb→le 64 L (not_T (ltb 64 L) n) in
        rw (not_T→false (ltb 64 L) n) (look_more (look_lines D L b mid few) (omega arith) (omega arith) (omega arith))
