-- A file that is read and written again is its own bytes (document 01, "The file").
use mathlib.Core.Bool.{Bool}
use mathlib.Core.List.{List, map, reverse}
use mathlib.Core.Path.{◌≡◌, sym, ap, ap₂, ◌∙◌, subst, subst₂}
use Prim.Native.Nat.{ℕ}
use Rattle.darts.specs.State.{State}
use Rattle.darts.specs.Pyramid.{Pyramid}
use Rattle.darts.specs.File.{file_table, file_of}
use Rattle.darts.specs.Scan.{byte_at}
use Rattle.darts.specs.Read.{KernelLine, from_flag, file_state, file_history, means, read_file}
use Rattle.laws.proofs.claims.Decided.{pyramid_decided}
use Rattle.laws.proofs.tests.Passes.{pyramid_shaped}
use Rattle.laws.proofs.Lists.{Each}
use Rattle.laws.proofs.file.Lines.{Counted}
use Rattle.laws.proofs.file.Texts.{text_of}
use Rattle.laws.proofs.file.Meanings.{Meaning, meaning, meaning_flag, from_zero}
use Rattle.laws.proofs.file.History.{own_numbers, kinds_of, file_history_lem}
use Rattle.laws.proofs.file.Numbering.{Numbering, pyramid_numbering}
use Rattle.laws.proofs.file.OwnNumbers.{own_table}
use Rattle.laws.proofs.file.KernelLines.{lines_levels, lines_again, file_text}

-- a pyramid in a file's own numbers is written as it stands
module _ (D : ℕ) (ks : List KernelLine) (t : List ℕ) (C : Each Counted ks) where
  abbrev past : List ℕ
  past = reverse (file_history ks)

  abbrev s : State
  s = file_state D ks t past

  same_table : Pyramid s t past → file_table D t past ≡ t
  unfolding file_state
  same_table P =
      let S = (pyramid_shaped P).sound.standing in
      let own : past ≡ reverse (own_numbers 0 (kinds_of ks)) = ap reverse (file_history_lem ks) in
      let N = subst (Numbering D) own (pyramid_numbering P) in
      ap (file_table D t) own ∙ own_table (kinds_of ks) D N t S.size S.inside

  own_file : Pyramid s t past → file_of s t past ≡ text_of 0 D ks t
  unfolding file_state
  own_file P = file_text s t past (lines_levels P) ∙ ap₂ (text_of 0 D) (lines_again D ks t past C) (same_table P)

again : {room : ℕ → Bool} {b : List ℕ} {s : State} {t past : List ℕ} (M : Meaning room b s t past) → M.flag ≡ 0 → file_of s t past ≡ b
again {b = b} {s} {t} {past} M flag =
    let ks = M.kernels in
    let state : s ≡ file_state M.darts ks t (reverse (file_history ks)) = M.state ∙ ap (file_state M.darts ks t) M.history in
    let P = subst₂ (λ s past. Pyramid s t past) state M.history ((pyramid_decided s t past).0 M.pyramid) in
    let table : t ≡ M.numbers = M.table ∙ ap (λ F. map (from_flag F M.darts) M.numbers) flag ∙ from_zero M.darts M.numbers in
    ap₂ (λ s past. file_of s t past) state M.history ∙ own_file M.darts ks t M.form.counts P
    ∙ ap₂ (λ F xs. text_of F M.darts ks xs) (sym flag) table ∙ sym M.bytes

-- A FILE WITH F = 0, READ AND WRITTEN AGAIN, IS ITS OWN BYTES
pub read_write : (room : ℕ → Bool) (b : List ℕ) {s : State} {t past : List ℕ} → read_file room b ≡ means s t past → byte_at b 8 ≡ 48
    → file_of s t past ≡ b
read_write room b e nine = let M = meaning room b e in again M (meaning_flag M 0 nine)
