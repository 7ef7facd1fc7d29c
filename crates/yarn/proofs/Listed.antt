-- Operations that are accepted one by one on a base, kinds mixed as they come: each contraction among them finds two places at its turn.
--   edge_inside  == an operation that may be done is on an edge of the map
--   places_apart == labels of the vertices are apart at a contraction that may be done
--   places_after_lem == and joined by it they are labels of the vertices again
--   Onward D R past new == the history of new goes on from that of past by turns, where the places are R
--   onward       == so it does by operations that are all done
--   listed_turns == from a base on
--   listed_told  == and the history tells these operations
use mathlib.Core.List.{List, [], ◌∷◌, ◌++◌, map, reverse, reverse-cons, append-nil, append_assoc}
use mathlib.Core.Logic.{◌≢◌}
use mathlib.Core.Path.{◌≡◌, sym, ◌∙◌, subst}
use Prim.Native.Nat.{ℕ, ◌+◌, ◌*◌, ◌<◌}
use native.Mathlib.Omega.{arith}
use Rattle.permutations.specs.Partner.{partner}
use Rattle.permutations.proofs.PartnerLemmas.{partner_first}
use Rattle.permutations.specs.Labels.{merge, merge_merges}
use Rattle.permutations.specs.Map.{partner_live}
use Rattle.permutations.proofs.Dual.{face_perm}
use Rattle.permutations.proofs.Replay.{Labelled, contract_labelled, remove_labelled}
use Rattle.darts.specs.Operation.{Kind, contraction, removal, lead, operate, number, kind_of, edge_of}
use Rattle.darts.specs.Kernel.{judge, Operation, stands}
use Rattle.darts.specs.OneByOne.{one_by_one, operation_of}
use Rattle.laws.specs.Standing.{map_of, Standing, cycles_of}
use Rattle.laws.proofs.bridge.Standing.{live, live_iff}
use Rattle.laws.proofs.bridge.Judged.{judge_legal}
use Rattle.laws.proofs.bridge.Numbers.{number_kind, number_edge}
use Rattle.laws.proofs.bridge.Operate.{operate_acts, operate_stands}
use Rattle.laws.proofs.bridge.Walks as Walks
use Rattle.laws.proofs.runs.Operations.{AllDone, none, first, stands_iff, done_told, told_history}
use Rattle.yarn.specs.Places.{lowest, zoned}
use Rattle.yarn.proofs.Lowest.{lowest_labels}
use Rattle.yarn.proofs.Apart.{joins_merges}
use Rattle.yarn.proofs.Turns.{Turns}

-- ---- one operation, where the labels R are those of the vertices, and F those of the faces

module _ {D : ℕ} {t past : List ℕ} (S : Standing D t past) {R F : ℕ → ℕ} (Λ : Labelled (map_of D t past) R F) (e : ℕ) where
  edge_inside : (k : Kind) → judge k D t past e ≡ 0 → 2 * e + 1 < D
  edge_inside contraction fine = let d = ((live_iff D past (2 * e)).0 ((judge_legal S contraction e).0 fine).lives).0 in let v = S.even in omega arith
  edge_inside removal fine = let d = ((live_iff D past (2 * e)).0 ((judge_legal S removal e).0 fine).lives).0 in let v = S.even in omega arith

  places_apart : judge contraction D t past e ≡ 0 → R (2 * e) ≢ R (2 * e + 1)
  places_apart fine same =
      let c = (judge_legal S contraction e).0 fine in
      c.two ((Λ.vertex.says (2 * e) (partner (2 * e)) c.lives (partner_live S.good (2 * e) c.lives)).0 (rw (partner_first e) same))

  -- the labels of the faces, once it is done; of them it matters only that there are some
  record Sides (k : Kind) : Type 0 where
    sides : ℕ → ℕ
    labelled : Labelled (map_of D (operate k D t past e) (number k (lead k t e) ∷ past)) (zoned k R e) sides

  places_after_lem : (k : Kind) → judge k D t past e ≡ 0 → Sides k
  unfolding zoned
  places_after_lem contraction fine = record {
    sides = F;
    labelled = rw (operate_acts S contraction e fine)
        (contract_labelled S.good Λ (2 * e) ((judge_legal S contraction e).0 fine) (rw (partner_first e) (joins_merges R e)));
  }
  places_after_lem removal fine = record {
    sides = merge F (2 * e) (partner (2 * e));
    labelled = rw (operate_acts S removal e fine)
        (remove_labelled S.good Λ (2 * e) ((judge_legal S removal e).0 fine) (merge_merges F (2 * e) (partner (2 * e))));
  }

-- ---- one after another

record Onward (D : ℕ) (R : ℕ → ℕ) (past new : List ℕ) : Type 0 where
  more : List ℕ
  history : reverse new ≡ reverse past ++ more
  turns : Turns D R more

onward_first : {D : ℕ} {R : ℕ → ℕ} {past new : List ℕ} (h : ℕ) → 2 * edge_of h + 1 < D → (kind_of h ≡ contraction → R (2 * edge_of h) ≢ R (2 * edge_of h + 1))
    → Onward D (zoned (kind_of h) R (edge_of h)) (h ∷ past) new → Onward D R past new
onward_first {past = past} h edge two O = record {
  more = h ∷ O.more;
  history = O.history ∙ rw (reverse-cons, append_assoc);
  turns = record { inside = (edge, O.turns.inside); apart = (two, O.turns.apart) };
}

onward : {D : ℕ} {t past u new : List ℕ} → Standing D t past → {R F : ℕ → ℕ} → Labelled (map_of D t past) R F → (os : List Operation)
    → AllDone D t past os u new → Onward D R past new
onward {past = past} S Λ [] none = record { more = []; history = sym (append-nil (reverse past)); turns = record { inside = tt; apart = tt } }
onward {D} {t} {past} S {R} Λ (o ∷ os) (first fine rest) =
    let k = o.kind in
    let e = o.edge in
    let h = number k (lead k t e) in
    let kind : kind_of h ≡ k = number_kind k (lead k t e) in
    let edge : edge_of h ≡ e = number_edge k t e in
    let Z = places_after_lem S Λ e k fine in
    onward_first h (rw edge (edge_inside S Λ e k fine))
    (λ c. rw edge (places_apart S Λ e (subst (λ k. judge k D t past e ≡ 0) (sym kind ∙ c) fine)))
    (rw (kind, edge) (onward {t = operate k D t past e} {past = h ∷ past} (operate_stands S k e fine) Z.labelled os rest))

-- ---- from a base on

module _ {D : ℕ} {b : List ℕ} (B : Standing D b []) (os : List Operation) {u past : List ℕ} (accepted : one_by_one D b [] os ≡ stands u past) where
  all_done : AllDone D b [] os u past
  all_done = (stands_iff D b [] os).0 accepted

  -- EACH CONTRACTION OF AN ACCEPTED LIST FINDS TWO PLACES AT ITS TURN
  pub listed_turns : Turns D (lowest D b) (reverse past)
  listed_turns =
      let Λ : Labelled (map_of D b []) (lowest D b) (Walks.lowest_met (cycles_of removal (map_of D b [])) D) =
      record { vertex = lowest_labels B; side = Walks.lowest_labels (face_perm B.good) (live D []) } in
      let O = onward B Λ os all_done in
      rw O.history O.turns

  pub listed_told : map operation_of (reverse past) ≡ os
  listed_told = told_history (done_told os all_done)
