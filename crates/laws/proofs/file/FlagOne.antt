-- A file with F = 1 means the same as the file with F = 0 and each pair's numbers one less (document 01, "The file").
--   FromOne room b s t past == the bytes b state, from one, what some file states from zero, and that file means the same
use mathlib.Core.Bool.{Bool}
use mathlib.Core.List.{List, [], ◌∷◌, map, reverse}
use mathlib.Core.Path.{◌≡◌, refl, sym, ap, ap₂, ◌∙◌, subst₂}
use Prim.Native.Nat.{ℕ, zero, suc, ◌-◌, ◌<◌, ◌≤◌}
use lib.Dec.{eqb-suc-zero}
use native.Mathlib.Omega.{arith}
use lib.ListN.{length, get_or, length-map}
use Rattle.darts.specs.Map.{successor}
use Rattle.darts.specs.State.{State}
use Rattle.darts.specs.Scan.{byte_at}
use Rattle.darts.specs.Read.{KernelLine, from_flag, file_state, file_history, means, read_file}
use Rattle.laws.specs.Standing.{Standing}
use Rattle.laws.proofs.claims.Decided.{pyramid_decided}
use Rattle.laws.proofs.tests.Passes.{pyramid_shaped}
use Rattle.laws.proofs.Lists.{Each}
use Rattle.laws.proofs.file.Texts.{GoodForm, text_of}
use Rattle.laws.proofs.file.Meanings.{Meaning, meaning, meaning_flag, from_zero, from_one_lem, verdict, text_read, meaning_read}

-- ---- the same values from one and from zero

one_less : (xs : List ℕ) → Each (λ x. x ≤ 99999) (map suc xs) → Each (λ x. x ≤ 99999) xs
one_less [] e = tt
one_less (x ∷ xs) e = (omega (arith, e.0), one_less xs e.1)

zero_form : {D : ℕ} {ks : List KernelLine} {xs : List ℕ} → GoodForm 1 D ks (map suc xs) → GoodForm 0 D ks xs
zero_form {xs = xs} G = record {
  flag = omega arith;
  darts = G.darts;
  levels = G.levels;
  counts = G.counts;
  numbers = one_less xs G.numbers;
  pairs = sym (length-map xs suc) ∙ G.pairs;
}

-- A FILE WITH F = 1 MEANS WHAT THE FILE WITH F = 0 AND EACH PAIR'S NUMBERS ONE LESS MEANS
pub flag_one : (room : ℕ → Bool) (D : ℕ) (ks : List KernelLine) (xs : List ℕ) → GoodForm 1 D ks (map suc xs)
    → read_file room (text_of 1 D ks (map suc xs)) ≡ read_file room (text_of 0 D ks xs)
flag_one room D ks xs G =
    text_read room G ∙ ap (λ t. verdict room D (file_state D ks t (reverse (file_history ks))) t (reverse (file_history ks))) (from_one_lem D xs ∙ sym (from_zero D xs))
    ∙ sym (text_read room (zero_form G))

-- ---- every file with F = 1 that has a meaning is so

pub record FromOne (room : ℕ → Bool) (b : List ℕ) (s : State) (t past : List ℕ) : Type 0 where
  pub kernels : List KernelLine
  pub ones : b ≡ text_of 1 s.darts kernels (map suc t)
  pub zeros : read_file room (text_of 0 s.darts kernels t) ≡ means s t past

-- a number that stands for a dart is one more than the dart
one_more : (D : ℕ) (xs : List ℕ) → ((i : ℕ) → i < length xs → get_or (map (from_flag 1 D) xs) i 0 < D) → map suc (map (from_flag 1 D) xs) ≡ xs
unfolding from_flag
one_more D [] small = refl
one_more D (zero ∷ xs) small = let h = small 0 (omega arith) in absurd (omega arith)
one_more D (suc x ∷ xs) small =
    let e : suc x - 1 ≡ x = omega arith in
    ap₂ ◌∷◌ (rw (eqb-suc-zero x) (ap suc e)) (one_more D xs (λ i h. small (suc i) (omega arith)))

module _ {room : ℕ → Bool} {b : List ℕ} {s : State} {t past : List ℕ} (M : Meaning room b s t past) (flag : M.flag ≡ 1) where
  darts : s.darts ≡ M.darts
  unfolding file_state
  darts = ap (λ s. s.darts) M.state

  table : t ≡ map (from_flag 1 M.darts) M.numbers
  table = M.table ∙ ap (λ F. map (from_flag F M.darts) M.numbers) flag

  standing : Standing s.darts t past
  standing = (pyramid_shaped ((pyramid_decided s t past).0 M.pyramid)).sound.standing

  -- each entry of a pyramid is a dart
  small : (i : ℕ) → i < length M.numbers → get_or (map (from_flag 1 M.darts) M.numbers) i 0 < M.darts
  unfolding successor
  small i h =
      let count : length M.numbers ≡ s.darts = sym (length-map M.numbers (from_flag 1 M.darts)) ∙ ap length (sym table) ∙ standing.size in
      subst₂ (λ l n. get_or l i 0 < n) table darts (standing.inside i (rw (← count) h))

  numbers : M.numbers ≡ map suc t
  numbers = sym (ap (map suc) table ∙ one_more M.darts M.numbers small)

  ones : b ≡ text_of 1 M.darts M.kernels (map suc t)
  ones = M.bytes ∙ ap₂ (λ F xs. text_of F M.darts M.kernels xs) flag numbers

  from_one_file : FromOne room b s t past
  from_one_file = record {
    kernels = M.kernels;
    ones = rw darts ones;
    zeros =
        ap (λ D. read_file room (text_of 0 D M.kernels t)) darts
        ∙ sym (flag_one room M.darts M.kernels t (subst₂ (λ F xs. GoodForm F M.darts M.kernels xs) flag numbers M.form))
        ∙ ap (read_file room) (sym ones) ∙ meaning_read M room M.fits;
  }

-- A FILE WITH F = 1 THAT HAS A MEANING HAS THAT OF THE FILE WITH F = 0 AND EACH PAIR'S NUMBERS ONE LESS
pub flag_one_means : (room : ℕ → Bool) (b : List ℕ) {s : State} {t past : List ℕ} → read_file room b ≡ means s t past → byte_at b 8 ≡ 49
    → FromOne room b s t past
flag_one_means room b e nine = let M = meaning room b e in from_one_file M (meaning_flag M 1 nine)
