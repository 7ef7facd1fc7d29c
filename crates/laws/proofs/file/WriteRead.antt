-- A pyramid that is written and read again is the same pyramid in the file's own numbers, at every level (document 01, "The file").
--   SameLevel k s t past      == unfolded to level k, the pyramid and what is read have one state, and each entry of the one is the other's, in the file's
--                                numbers
--   WrittenRead room s t past == what reading the file of a pyramid gives
use mathlib.Core.Bool.{Bool, false}
use mathlib.Core.List.{List, [], ◌∷◌, map, reverse, reverse-reverse}
use mathlib.Core.Logic.{◌≢◌}
use mathlib.Core.Path.{◌≡◌, refl, ap, ap₂, ◌∙◌, subst}
use Prim.Native.Nat.{ℕ, zero, suc, ◌+◌, ◌-◌, ◌*◌, ◌%◌, ◌<◌, ◌≤◌}
use native.Mathlib.Omega.{arith}
use lib.Dec.{T, ltb, ltb→lt}
use lib.ListN.{length, get_or, drop, length-reverse}
use Rattle.permutations.specs.Choice.{not_T→false, eqb_other}
use Rattle.darts.specs.Map.{successor}
use Rattle.darts.specs.Operation.{number, kind_of, lead_of, undone}
use Rattle.darts.specs.State.{State, gives}
use Rattle.darts.specs.Levels.{end_below, lowered, undo_level, undo_levels, unfold_to}
use Rattle.darts.specs.Pyramid.{Pyramid}
use Rattle.darts.specs.File.{file_order, file_number, file_table, file_of}
use Rattle.darts.specs.Scan.{byte_at}
use Rattle.darts.specs.Read.{file_history, means, read_file}
use Rattle.laws.proofs.runs.Results.{Given}
use Rattle.laws.proofs.runs.Pyramids.{pyramid_built}
use Rattle.laws.proofs.claims.Decided.{pyramid_decided}
use Rattle.laws.proofs.tests.Passes.{pyramid_shaped}
use Rattle.laws.proofs.Lists.{each_at, each_reverse, reverse_map}
use Rattle.laws.proofs.file.Texts.{GoodForm}
use Rattle.laws.proofs.file.Meanings.{from_zero, text_read, verdict_means}
use Rattle.laws.proofs.file.History.{own_numbers, file_past, file_history_lem}
use Rattle.laws.proofs.file.Renamed.{renamed, renamed_entry}
use Rattle.laws.proofs.file.RenamedMap.{renumbered}
use Rattle.laws.proofs.file.RenamedHistory.{Evens}
use Rattle.laws.proofs.file.RenamedPyramid.{renamed_pyramid, renamed_result, unfold_renamed}
use Rattle.laws.proofs.file.Numbering.{Numbering, pyramid_numbering}
use Rattle.laws.proofs.file.ReadWrite.{read_write}
use Rattle.laws.proofs.file.KernelLines.{lines_of, darts_most, lines_told, lines_levels, state_told, file_text}

pub record SameLevel (k : ℕ) (s : State) (t past : List ℕ) : Type 0 where
  pub state : State
  -- the pyramid's own table and past at level k, and those of what is read
  pub table : List ℕ
  pub old : List ℕ
  pub table' : List ℕ
  pub old' : List ℕ
  pub here : unfold_to k s t past ≡ gives state table old
  pub there : unfold_to k s (file_table s.darts t past) (file_past past) ≡ gives state table' old'
  -- "Entries are renamed alike.", those of gone darts too
  pub entries : (d : ℕ) → d < s.darts → successor table' (file_number s.darts past d) ≡ file_number s.darts past (successor table d)
  -- the operations keep their kinds, and p is renamed too
  pub history : old' ≡ map (renumbered (file_number s.darts past)) old

pub record WrittenRead (room : ℕ → Bool) (s : State) (t past : List ℕ) : Type 0 where
  pub reads : read_file room (file_of s t past) ≡ means s (file_table s.darts t past) (file_past past)
  pub pyramid : Pyramid s (file_table s.darts t past) (file_past past)
  pub numbers : Numbering s.darts past
  pub levels : (k : ℕ) → k ≤ s.levels → SameLevel k s t past
  -- and written again, it is the same file
  pub again : file_of s (file_table s.darts t past) (file_past past) ≡ file_of s t past

-- ---- every level up to the top is reached

pub undo_given : (n : ℕ) (s : State) (t past : List ℕ) → n ≤ s.levels → Given (undo_levels n s t past)
unfolding undo_levels undo_level lowered
undo_given zero s t past h = record { state = s; table = t; past = past; given = refl }
undo_given (suc n) s t past h =
    let up : s.levels ≢ 0 = omega arith in
    let m = s.operations - end_below s in
    rw (eqb_other up) (undo_given n (lowered s (undone s.darts m t past) (drop m past)) (undone s.darts m t past) (drop m past) (omega arith))

pub unfold_given : (k : ℕ) (s : State) (t past : List ℕ) → k ≤ s.levels → Given (unfold_to k s t past)
unfolding unfold_to
unfold_given k s t past h =
    let reached : ltb s.levels k ≡ false = not_T→false (ltb s.levels k) (λ l. omega (arith, ltb→lt s.levels k l)) in
    rw reached (undo_given (s.levels - k) s t past (omega arith))

-- ---- the file's past and table
-- numbers whose leads rise by two are a file's own
own_renumbered : (ν : ℕ → ℕ) (i : ℕ) (hs : List ℕ) → ((j : ℕ) → j < length hs → ν (lead_of (get_or hs j 0)) ≡ 2 * (i + j))
    → own_numbers i (map kind_of hs) ≡ map (renumbered ν) hs
unfolding own_numbers renumbered
own_renumbered ν i [] leads = refl
own_renumbered ν i (h ∷ hs) leads =
    let first : 2 * i ≡ ν (lead_of h) = let e = leads 0 (omega arith) in omega arith in
    ap₂ ◌∷◌ (ap (number (kind_of h)) first) (own_renumbered ν (suc i) hs (λ j k. leads (suc j) (omega arith) ∙ omega arith))

module _ {s : State} {t past : List ℕ} (P : Pyramid s t past) where
  abbrev D : ℕ
  D = s.darts

  abbrev ν : ℕ → ℕ
  ν = file_number D past

  N : Numbering D past
  N = pyramid_numbering P

  leads : (i : ℕ) → i < length (reverse past) → ν (lead_of (get_or (reverse past) i 0)) ≡ 2 * i
  leads i h = N.p i (let n = length-reverse past in omega arith)

  evens : Evens ν past
  evens =
      let even : ℕ → Type 0 = λ h. ν (lead_of h) % 2 ≡ 0 in
      let forth = each_at even (reverse past) (λ i h. let e = leads i h in omega arith) in
      subst (Evens ν) (reverse-reverse past) (each_reverse even (reverse past) [] forth tt)

  -- the file's past is the past, renamed
  past_told : file_past past ≡ map (renumbered ν) past
  unfolding file_past
  past_told = ap reverse (own_renumbered ν 0 (reverse past) (λ j h. leads j h ∙ omega arith)) ∙ reverse_map (renumbered ν) past

  history_told : reverse (file_history (lines_of s past)) ≡ file_past past
  unfolding file_past
  history_told = ap reverse (file_history_lem (lines_of s past) ∙ ap (own_numbers 0) (lines_told P).kinds)

  -- what is read is a pyramid
  file_pyramid : Pyramid s (file_table D t past) (file_past past)
  unfolding file_table renamed
  file_pyramid = rw past_told (renamed_pyramid P N.renaming evens)

  form : GoodForm 0 D (lines_of s past) (file_table D t past)
  unfolding successor
  form =
      let S = (pyramid_shaped file_pyramid).sound.standing in
      let most = darts_most D P.count in
      record {
        flag = omega arith;
        darts = omega arith;
        levels = omega (arith, lines_levels P, (pyramid_shaped P).layered.most);
        counts = (lines_told P).counted;
        numbers = each_at (λ x. x ≤ 99999) (file_table D t past) (λ i h. let k = S.inside i (rw (← S.size) h) in omega arith);
        pairs = S.size ∙ (let e = S.even in omega arith);
      }

  read_back : (room : ℕ → Bool) → T (room D) → read_file room (file_of s t past) ≡ means s (file_table D t past) (file_past past)
  read_back room fits =
      let t' = file_table D t past in
      ap (read_file room) (file_text s t past (lines_levels P)) ∙ text_read room form
      ∙ cc (state_told P t' (file_past past) (pyramid_built file_pyramid).stored, from_zero D t', history_told)
      ∙ verdict_means room D s t' (file_past past) P.count fits ((pyramid_decided s t' (file_past past)).1 file_pyramid)

  same_level : (k : ℕ) → k ≤ s.levels → SameLevel k s t past
  unfolding file_table renamed
  same_level k h =
      let G = unfold_given k s t past h in
      let R = N.renaming in
      record {
        state = G.state;
        table = G.table;
        table' = renamed (file_order D past) ν G.table;
        old = G.past;
        old' = map (renumbered ν) G.past;
        here = G.given;
        there = rw past_told (unfold_renamed P R evens k ∙ ap (renamed_result (file_order D past) ν) G.given);
        entries = renamed_entry R G.table;
        history = refl;
      }

-- "The writer writes F = 0."
zero_flag : (s : State) (t past : List ℕ) → byte_at (file_of s t past) 8 ≡ 48
unfolding byte_at file_of
zero_flag s t past = refl

-- A PYRAMID THAT IS WRITTEN AND READ AGAIN IS THE SAME PYRAMID IN THE FILE'S OWN NUMBERS, AT EVERY LEVEL
pub write_read : {s : State} {t past : List ℕ} → Pyramid s t past → (room : ℕ → Bool) → T (room s.darts) → WrittenRead room s t past
write_read {s} {t} {past} P room fits = record {
  reads = read_back P room fits;
  pyramid = file_pyramid P;
  numbers = pyramid_numbering P;
  levels = same_level P;
  again = read_write room (file_of s t past) (read_back P room fits) (zero_flag s t past);
}
