-- Who shares a vertex when m edges have had their turns.
--   Labelled D t es u past == labels that say who shares a vertex at u, and, of all darts of the base, who is joined by the edges es
--   turns_labelled         == there are such labels
--   turns_joined           == survivors share a vertex exactly where the edges taken join them
--   Left D t es past x     == a survivor that the edges es join to x
--   turns_left             == every dart has one
use mathlib.Core.Bool.{Bool}
use mathlib.Core.List.{List, [], ◌∷◌, ◌++◌}
use mathlib.Core.Logic.Iff
use mathlib.Core.Logic.{◌⊎◌, ◌↔◌, inl, inr, ⊎_elim}
use mathlib.Core.Path.{◌≡◌, refl, sym, subst}
use Prim.Native.Nat.{ℕ, ◌+◌, ◌*◌, ◌<◌}
use lib.Dec.{T}
use Rattle.permutations.specs.Partner.{partner, End, end?}
use Rattle.permutations.proofs.PartnerLemmas.{partner_first}
use Rattle.permutations.specs.Cycle.{meets_ind}
use Rattle.permutations.specs.Labels.{Labels, Kept, Either, merge, merge_merges}
use Rattle.permutations.proofs.LabelsLemmas.{labels_splice}
use Rattle.permutations.specs.Map.{Map, partner_live, partner_small, next_live, off_edge, off_edge_other, contract}
use Rattle.permutations.proofs.MapLemmas.{off_edge_was, off_edge_not_end}
use Rattle.permutations.proofs.Legal.{Contractible}
use Rattle.permutations.proofs.Euler.{Remains, contract_keeps_vertex}
use Rattle.darts.specs.Map.{same_vertex}
use Rattle.darts.specs.Operation.{contraction, lead, operate, number}
use Rattle.darts.specs.Kernel.{judge}
use Rattle.laws.specs.Standing.{map_of, Standing}
use Rattle.laws.proofs.bridge.Standing.{live}
use Rattle.laws.proofs.bridge.Judged.{same_vertex_lem, judge_legal}
use Rattle.laws.proofs.bridge.Operate.{operate_acts}
use Rattle.laws.proofs.bridge.Walks.{lowest_met, lowest_labels}
use Rattle.laws.proofs.runs.Runs.{run_stands}
use Rattle.laws.proofs.merging.Turns.{Turns, begins, passes, joins, turns_run}
use Rattle.laws.proofs.merging.Taken.{Taken, none_taken, has_last}
use Rattle.laws.proofs.merging.Joined.{Joined, itself, vertex, across, back, further, joined_label, joined_by, base_live}

pub record Labelled (D : ℕ) (t es u past : List ℕ) : Type 0 where
  pub label : ℕ → ℕ
  pub top : Labels (live D past) (map_of D u past).next label
  pub joined : (x y : ℕ) → x < D → y < D → label x ≡ label y → Joined D t (Taken es) x y
  pub labelled : (x y : ℕ) → Joined D t (Taken es) x y → label x ≡ label y

pub record Left (D : ℕ) (t es past : List ℕ) (x : ℕ) : Type 0 where
  pub dart : ℕ
  pub lives : T (live D past dart)
  pub joined : Joined D t (Taken es) x dart

-- ---- the base: labels by walking

module _ {D : ℕ} {t : List ℕ} (S : Standing D t []) where
  abbrev f : ℕ → ℕ
  f = (map_of D t []).next

  base_labels : Labels (live D []) f (lowest_met f D)
  base_labels = lowest_labels S.good.perm (live D [])

  base_labelled : Labelled D t [] t []
  base_labelled = record {
    label = lowest_met f D;
    top = base_labels;
    joined = λ x y h k e. vertex h ((same_vertex_lem S x y (base_live D x h)).1 ((base_labels.says x y (base_live D x h) (base_live D y k)).0 e));
    labelled = λ x y. joined_label (lowest_met f D) together (λ e k. absurd (none_taken e k));
  }
    where
      together : (x y : ℕ) → x < D → T (same_vertex D t x y) → lowest_met f D x ≡ lowest_met f D y
      together x y h s =
          let m = (same_vertex_lem S x y (base_live D x h)).0 s in
          let l = meets_ind f (λ z. T (live D [] z)) (next_live S.good) m (base_live D x h) in
          (base_labels.says x y (base_live D x h) l).1 m

-- ---- one edge more is contracted

module _ {D : ℕ} {u past : List ℕ} (S : Standing D u past) (m : ℕ) (fine : judge contraction D u past m ≡ 0) where
  abbrev p : ℕ
  p = 2 * m

  abbrev now : Map
  now = map_of D u past

  contractible : Contractible now p
  contractible = (judge_legal S contraction m).0 fine

  acts : map_of D (operate contraction D u past m) (number contraction (lead contraction u m) ∷ past) ≡ contract now p
  acts = operate_acts S contraction m fine

  kept : Kept (live D past) (off_edge (live D past) p) p (partner p)
  kept = record {
    was = λ x t. let n = off_edge_not_end (live D past) t in (off_edge_was (live D past) p x t, λ e. n (inl e), λ e. n (inr e));
  }

  module _ {t es : List ℕ} (Λ : Labelled D t es u past) where
    abbrev L : ℕ → ℕ
    L = Λ.label

    abbrev M : ℕ → ℕ
    M = merge Λ.label p (partner p)

    when : (x y : ℕ) → (M x ≡ M y) ↔ ((L x ≡ L y) ⊎ (Either L p (partner p) x × Either L p (partner p) y))
    when = (merge_merges L p (partner p)).when

    more_top : Labels (off_edge (live D past) p) (contract now p).next M
    more_top =
        let q = partner_live S.good p contractible.lives in
        labels_splice S.good.perm (S.good.small p contractible.lives) (partner_small S.good p contractible.lives) kept Λ.top
        contractible.lives q (merge_merges L p (partner p)) (λ e. contractible.two ((Λ.top.says p (partner p) contractible.lives q).0 e))

    still : {x y : ℕ} → Joined D t (Taken es) x y → Joined D t (Taken (es ++ (m ∷ []))) x y
    still = joined_by (λ e k. across ((has_last es m e).1 (inl k)))

    newly : Joined D t (Taken (es ++ (m ∷ []))) p (partner p)
    newly = rw (partner_first m) (across ((has_last es m m).1 (inr refl)))

    to_first : (x : ℕ) → x < D → Either L p (partner p) x → Joined D t (Taken (es ++ (m ∷ []))) x p
    to_first x h = ⊎_elim
        (λ e. still (Λ.joined x p h (S.good.small p contractible.lives) e))
        (λ e. further (still (Λ.joined x (partner p) h (partner_small S.good p contractible.lives) e)) (back newly))

    more_joined : (x y : ℕ) → x < D → y < D → M x ≡ M y → Joined D t (Taken (es ++ (m ∷ []))) x y
    more_joined x y h k e =
        ⊎_elim (λ a. still (Λ.joined x y h k a)) (λ b. further (to_first x h b.0) (back (to_first y k b.1))) ((when x y).0 e)

    more_labelled : (x y : ℕ) → Joined D t (Taken (es ++ (m ∷ []))) x y → M x ≡ M y
    more_labelled x y = joined_label M (λ x y h s. (when x y).1 (inl (Λ.labelled x y (vertex h s)))) edge
      where
        edge : (e : ℕ) → Taken (es ++ (m ∷ [])) e → M (2 * e) ≡ M (2 * e + 1)
        edge e k = ⊎_elim
            (λ a. (when (2 * e) (2 * e + 1)).1 (inl (Λ.labelled (2 * e) (2 * e + 1) (across a))))
            (λ (a : e ≡ m). (when (2 * e) (2 * e + 1)).1 (inr (inl (rw a), inr (rw (a, partner_first m))))) ((has_last es m e).0 k)

    more_labels : Labelled D t (es ++ (m ∷ [])) (operate contraction D u past m) (number contraction (lead contraction u m) ∷ past)
    more_labels = record {
      label = M;
      top = subst (λ n. Labels n.live n.next M) (sym acts) more_top;
      joined = more_joined;
      labelled = more_labelled;
    }

    -- ---- a survivor for every dart

    abbrev Still : ℕ → Type 0
    Still x = Left D t (es ++ (m ∷ [])) (number contraction (lead contraction u m) ∷ past) x

    left_live : (x : ℕ) → T (off_edge (live D past) p x) → T (live D (number contraction (lead contraction u m) ∷ past) x)
    left_live x = subst (λ n. T (n.live x)) (sym acts)

    -- something is left of the vertex of p or of that of its partner
    ends_left : Still p
    ends_left = ⊎_elim (λ r. at p r contractible.lives itself) (λ r. at (partner p) r (partner_live S.good p contractible.lives) newly)
        (contract_keeps_vertex S.good p contractible)
      where
        at : (z : ℕ) → Remains now.next (live D past) p z → T (live D past z) → Joined D t (Taken (es ++ (m ∷ []))) p z → Still p
        at z r lz j =
            let lives = off_edge_was (live D past) p r.one r.left in
            let near = Λ.joined z r.one (S.good.small z lz) (S.good.small r.one lives) ((Λ.top.says z r.one lz lives).1 r.meets) in
            record { dart = r.one; lives = left_live r.one r.left; joined = further j (still near) }

    from : {x y : ℕ} → Joined D t (Taken (es ++ (m ∷ []))) x y → Still y → Still x
    from j l = record { dart = l.dart; lives = l.lives; joined = further j l.joined }

    left_more : (x : ℕ) → Left D t es past x → Still x
    left_more x l = go (end? p l.dart)
      where
        go : Dec (End p l.dart) → Still x
        go (no n) = record { dart = l.dart; lives = left_live l.dart (rw (off_edge_other (live D past) n) l.lives); joined = still l.joined }
        go (yes (inl e)) = from (rw e at (still l.joined)) ends_left
        go (yes (inr e)) = from (further (rw e at (still l.joined)) (back newly)) ends_left

-- ---- along the turns

module _ {D : ℕ} {same : ℕ → Bool} {t : List ℕ} (S : Standing D t []) where
  pub turns_standing : {m : ℕ} {es u past : List ℕ} → Turns D same t m es u past → Standing D u past
  turns_standing {es = es} P = run_stands S contraction es (turns_run P)

  pub turns_labelled : {m : ℕ} {es u past : List ℕ} → Turns D same t m es u past → Labelled D t es u past
  turns_labelled begins = base_labelled S
  turns_labelled (passes P w) = turns_labelled P
  turns_labelled (joins {m} P s j) = more_labels (turns_standing P) m j (turns_labelled P)

  module _ {m : ℕ} {es u past : List ℕ} (P : Turns D same t m es u past) where
    -- SURVIVORS SHARE A VERTEX EXACTLY WHERE THE EDGES TAKEN JOIN THEM
    pub turns_joined : (a b : ℕ) → T (live D past a) → T (live D past b) → T (same_vertex D u a b) ↔ Joined D t (Taken es) a b
    turns_joined a b la lb =
        let Λ = turns_labelled P in
        let small = (turns_standing P).good.small in
        Iff.trans (same_vertex_lem (turns_standing P) a b la)
        (Iff.trans (Iff.symm (Λ.top.says a b la lb)) (Λ.joined a b (small a la) (small b lb), Λ.labelled a b))

  -- EVERY DART IS JOINED TO A SURVIVOR
  pub turns_left : {m : ℕ} {es u past : List ℕ} → Turns D same t m es u past → (x : ℕ) → x < D → Left D t es past x
  turns_left begins x h = record { dart = x; lives = base_live D x h; joined = itself }
  turns_left (passes P w) x h = turns_left P x h
  turns_left (joins {m} P s j) x h = left_more (turns_standing P) m j (turns_labelled P) x (turns_left P x h)
