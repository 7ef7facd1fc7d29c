-- "The reader, which learns D late, follows the same sentence for its D and writes nothing if it stops before D is known."
--   read_clears == where D is known, its part of the work area is zero after any read
--   read_keeps  == where it is not, or 1 or 2 is answered, the work area is as it was
use mathlib.Core.List.{List}
use mathlib.Core.Path.{◌≡◌, refl, ap, ◌∙◌}
use Prim.Native.Nat.{ℕ}
use lib.ListN.{length}
use Rattle.darts.specs.Scan.{Scan, found, fault}
use Rattle.darts.specs.Read.{Opening, Body, opening, body, file_state, closed, opened, read_file}
use Rattle.darts.specs.Calls.{cleared, read_into, read}
use Rattle.darts.proofs.Fitting.{Count, Lengths, count_facts, count_test, room_facts, room_test}
use Rattle.laws.proofs.calls.Cleared.{cleared_is}
use Rattle.laws.proofs.file.Meanings.{Closing, stands, falls, closing, DartsJudged, uncounted, cramped, goes_on, darts_judged}
use Rattle.laws.proofs.sentences.WorkArea.{Zeroed, cleared_zeroed}
use Rattle.laws.proofs.sentences.FirstLines.{FirstLines, fits, told, lines_opening, opening_lines, lines_closed}

-- whatever the body holds
closed_work : (t h w : List ℕ) (o : Opening) (r : Scan Body) → (read_into t h w (closed o r)).work ≡ cleared o.darts w
unfolding read_into closed file_state
closed_work t h w o (fault a) = refl
closed_work t h w o (found c end) = go (closing o c end)
  where
    go : Closing o c end → (read_into t h w (closed o (found c end))).work ≡ cleared o.darts w
    go (stands (p, k)) = ap (λ r. (read_into t h w r).work) k
    go (falls k) = ap (λ r. (read_into t h w r).work) k

module _ (b t h w : List ℕ) where
  -- accepted, and whatever fault is in the body
  pub read_clears : {F D : ℕ} → FirstLines b F D → Count D → Lengths D (length t) (length h) (length w) → Zeroed D w (read b t h w).work
  unfolding read
  read_clears {F} {D} L c l =
      let closes = lines_closed (fits t h w) L (count_test D c) (room_test (length t) (length h) (length w) D l) in
      let work : (read b t h w).work ≡ cleared D w =
      ap (λ r. (read_into t h w r).work) closes ∙ closed_work t h w (told F D) (body D b (lines_opening L).at) in
      rw work (cleared_zeroed D w l.work)

  pub read_keeps : ((F D : ℕ) → FirstLines b F D → Count D → Lengths D (length t) (length h) (length w) → ⊥) → (read b t h w).work ≡ w
  unfolding read read_into read_file opened
  read_keeps late = go (opening b) refl
    where
      none : cleared 0 w ≡ w
      none = cleared_is 0 w

      go : (r : Scan Opening) → opening b ≡ r → (read_into t h w (opened (fits t h w) b r)).work ≡ w
      go (fault a) e = none
      go (found o at) e = tests (darts_judged (fits t h w) b o at)
        where
          tests : DartsJudged (fits t h w) b o at → (read_into t h w (opened (fits t h w) b (found o at))).work ≡ w
          tests (uncounted n k) = ap (λ r. (read_into t h w r).work) k ∙ none
          tests (cramped c n k) = ap (λ r. (read_into t h w r).work) k ∙ none
          tests (goes_on c r k) =
              absurd (late o.flag o.darts (opening_lines e) (count_facts o.darts c) (room_facts (length t) (length h) (length w) o.darts r))
