-- `writer::numbering::list_taken` meets its contract: what is listed, and then the darts of the operations that are left, are the darts of all.
--   Listing D n w₀ w i == from w₀ to w the darts of the first i operations were listed
use mathlib.Core.List.{List, [], ◌∷◌, ◌++◌}
use mathlib.Core.Path.{◌≡◌, refl, sym, ap, ◌∙◌}
use Prim.Native.Nat.{ℕ, ◌+◌, ◌*◌, ◌/◌, ◌≤◌, ◌<◌}
use native.Mathlib.Omega.{arith}
use lib.ListN.{length, get_or, set, drop, length-set}
use lib.Seq.{get_or-drop}
use Rattle.permutations.specs.Partner.{partner}
use Rattle.permutations.proofs.PartnerLemmas.{partner_below}
use Rattle.darts.specs.Operation.{lead_of}
use Rattle.darts.specs.File.{taken}
use Rattle.slices.specs.Part.{part}
use Rattle.area.specs.Shape.{history_in}
use Rattle.area.proofs.Parts.{part_cons, part_none}
use Rattle.engine.specs.Held.{Area}
use Rattle.engine.proofs.Area.{area_sound}
use Rattle.slices.specs.Laid.{laid}
use Rattle.slices.proofs.Laid.{laid_rest}
use Rattle.writer.proofs.Fitted.{toward_all, toward_on, toward_end, fitted_two}
use Rattle.writer.proofs.numbering.list_taken.Invariants.{Listing}
use Rattle.writer.proofs.numbering.list_taken.Goals as goal

begin : (D n : ℕ) (w : List ℕ) → Listing D n w w 0
begin D n w =
    let here : 2 * D + 2 * 0 ≡ 2 * D = omega arith in
    let all : 3 * D + 0 ≡ 3 * D = omega arith in
    record { size = refl; bound = omega arith; toward = rw (here, all) (toward_all (taken (history_in D n w)) w (2 * D)) }

module _ {D n : ℕ} {w₀ w : List ℕ} {i : ℕ} (A : Area D n w₀) (g : Listing D n w₀ w i) where
  fits : 4 * D ≤ length w₀
  fits = A.room.fits

  few : 2 * n ≤ D
  few = omega (arith, A.few)

  module _ (more : i < n) where
    -- the history is as it was
    read : get_or w (3 * D + i) 0 ≡ get_or w₀ (3 * D + i) 0
    read =
        let done = g.toward.done in
        let next = g.toward.fitted.next in
        let b = g.bound in
        let f = few in
        let l = fits in
        let same : drop (3 * D) w ≡ drop (3 * D) w₀ =
        ap (drop (3 * D)) (g.toward.fitted.slice (omega arith)) ∙ laid_rest w₀ (2 * D) done (record { fits = omega arith }) (3 * D) (omega arith) in
        sym (get_or-drop (3 * D) w i 0) ∙ ap (λ (z : List ℕ). get_or z i 0) same ∙ get_or-drop (3 * D) w₀ i 0

    small : {h : ℕ} → h ≡ get_or w (3 * D + i) 0 → h / 2 < D
    small e = let b = (area_sound A).numbers i more in let r = read in omega arith

    go_on : {h q : ℕ} → h ≡ get_or w (3 * D + i) 0 → q ≡ partner (h / 2)
        → Listing D n w₀ (set (set w (2 * D + 2 * i) (h / 2)) (2 * D + 2 * i + 1) q) (i + 1)
    unfolding taken lead_of
    go_on {h} {q} e f =
        let l = fits in
        let t = few in
        let z = g.size in
        let next : 2 * D + 2 * (i + 1) ≡ 2 * D + 2 * i + 1 + 1 = omega arith in
        let place : 3 * D + (i + 1) ≡ 3 * D + i + 1 = omega arith in
        let rest : taken (part (3 * D + i) (3 * D + n) w₀) ≡ (h / 2 ∷ q ∷ []) ++ taken (part (3 * D + (i + 1)) (3 * D + n) w₀) =
        rw (part_cons (3 * D + i) (3 * D + n) w₀ (omega arith) (omega arith), ← read, ← e, ← f, place) in
        record {
          size = simp length-set g.size;
          bound = omega arith;
          toward = rw next (toward_on g.toward rest (fitted_two w (2 * D + 2 * i) (h / 2) q (omega arith)));
        }

  ended : n ≤ i → w ≡ laid w₀ (2 * D) (taken (history_in D n w₀))
  unfolding taken
  ended all =
      let l = fits in
      let t = few in
      let b = g.bound in
      let none : taken (part (3 * D + i) (3 * D + n) w₀) ≡ [] = rw (part_none (3 * D + i) (3 * D + n) w₀ (omega arith)) in
      (toward_end g.toward none).slice (omega arith)

pub loop-i-init : goal.loop-i-init
loop-i-init c = begin _ _ _

pub partner-q-requires : goal.partner-q-requires
partner-q-requires c =
    let small = small c.requires c.loop-i.invariant c.loop-i-test.true c.at-p.ensures in
    omega (arith, small, c.requires.room.small)

pub overflow_cast-work : goal.overflow_cast-work
overflow_cast-work c =
    let s = small c.requires c.loop-i.invariant c.loop-i-test.true c.at-p.ensures in
    omega (arith, s, c.requires.room.small)

pub overflow_cast-work-in-loop-i : goal.overflow_cast-work-in-loop-i
overflow_cast-work-in-loop-i c =
    let s = small c.requires c.loop-i.invariant c.loop-i-test.true c.at-p.ensures in
    let r = c.requires.room in
    omega (arith, partner_below _ _ s r.even, r.small)

pub loop-i-preserved : goal.loop-i-preserved
loop-i-preserved c = go_on c.requires c.loop-i.invariant c.loop-i-test.true c.at-p.ensures c.partner-q.ensures

pub returns : goal.returns
returns c = ended c.requires c.loop-i.invariant c.loop-i-test.false
