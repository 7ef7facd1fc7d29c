-- Contraction and removal at once: they differ only in which of two is near and which far.
--   near_far, of_near_far == what holds of both holds of the near one and the far one, and the other way round
--   apart_iff             == the near one and the far one differ where the two do
--   near_of               == where the near one of two darts leads
--   near_end, end_near    == of an edge's two darts one is near and one far
use mathlib.Core.Logic.Iff
use mathlib.Core.Logic.{◌≢◌, ◌↔◌, ◌⊎◌, inl, inr, ⊎_elim}
use mathlib.Core.Path.{◌≡◌, refl, sym, ap, ◌∙◌, fun_ext}
use Prim.Native.Nat.{ℕ, ◌<◌}
use native.Mathlib.Decide.{ℕ_discrete}
use lib.Dec.{T, eqb}
use Rattle.permutations.specs.Choice.{pick}
use Rattle.permutations.specs.Partner.{partner, End, end?}
use Rattle.permutations.proofs.PartnerLemmas.{partner_ne, partner_partner}
use Rattle.permutations.specs.Perm.{Perm}
use Rattle.permutations.specs.Splice.{splice, crossed, skip_at, skip_before_p, skip_before_q, skip_other}
use Rattle.permutations.proofs.SpliceLemmas.{splice_before_p, splice_before_q, splice_other}
use Rattle.permutations.specs.Live.{off_comm, off}
use Rattle.permutations.specs.Map.{Map, Good, off_edge, map_path, partner_small}
use Rattle.permutations.proofs.MapLemmas.{good_remove}
use Rattle.permutations.proofs.Dual.{good_contract}
use Rattle.permutations.proofs.Legal.{after, act, dart}
use Rattle.darts.specs.Operation.{Kind, contraction, removal}
use Rattle.darts.specs.Tests.{near, far}
use Rattle.laws.proofs.bridge.Standing.{op_of}

pub near_far : (P : ℕ → Type 0) (k : Kind) {r s : ℕ} → P r → P s → P (near k r s) × P (far k r s)
unfolding near
near_far P removal i j = (i, j)
near_far P contraction i j = (j, i)

pub of_near_far : (P : ℕ → Type 0) (k : Kind) (r s : ℕ) → P (near k r s) → P (far k r s) → P r × P s
unfolding near
of_near_far P removal r s i j = (i, j)
of_near_far P contraction r s i j = (j, i)

pub apart_iff : (k : Kind) (r s : ℕ) → (near k r s ≢ far k r s) ↔ (r ≢ s)
unfolding near
apart_iff removal r s = Iff.rfl
apart_iff contraction r s = (λ n e. n (sym e), λ n e. n (sym e))

pub near_of : (k : Kind) (f : ℕ → ℕ) (p q : ℕ) → near k (f p) (f q) ≡ f (near k p q)
unfolding near
near_of removal f p q = refl
near_of contraction f p q = refl

pub near_end : (k : Kind) (p : ℕ) → End p (near k p (partner p)) × End p (far k p (partner p))
near_end k p = near_far (End p) k (inl refl) (inr refl)

pub end_near : (k : Kind) {p x : ℕ} → End p x → (x ≡ near k p (partner p)) ⊎ (x ≡ far k p (partner p))
unfolding near
end_near removal e = e
end_near contraction (inl e) = inr e
end_near contraction (inr e) = inl e

-- ---- where the darts lead after an operation

module _ {D : ℕ} {f : ℕ → ℕ} (π : Perm D f) {p x : ℕ} (p_d : p < D) (q_d : partner p < D) (away : ¬ End p x) where
  not_p : x ≢ p
  not_p e = away (inl e)

  not_q : x ≢ partner p
  not_q e = away (inr e)

  -- the near one and the far one of where p and q led
  abbrev n : Kind → ℕ
  n k = near k (f p) (f (partner p))

  abbrev m : Kind → ℕ
  m k = far k (f p) (f (partner p))

  -- the dart before p now leads to the near one; if that is q, to the far one
  pub after_before_p : (k : Kind) → f x ≡ p → after (op_of k p) f x ≡ pick (eqb (n k) (partner p)) (m k) (n k)
  unfolding near
  after_before_p removal e = skip_before_p π (partner_ne p) not_p not_q e
  after_before_p contraction e = splice_before_p π p_d q_d (partner_ne p) not_p not_q e

  pub after_before_q : (k : Kind) → f x ≡ partner p → after (op_of k p) f x ≡ pick (eqb (m k) p) (n k) (m k)
  unfolding near
  after_before_q removal e = skip_before_q π (partner_ne p) not_p not_q e
  after_before_q contraction e = splice_before_q π p_d q_d (partner_ne p) not_p not_q e

  pub after_other : (k : Kind) → f x ≢ p → f x ≢ partner p → after (op_of k p) f x ≡ f x
  after_other removal m n = skip_other π (partner_ne p) not_p not_q m n
  after_other contraction m n = splice_other π p_d q_d (partner_ne p) not_p not_q m n

-- the darts of the edge stay where they are
after_at : (f : ℕ → ℕ) (k : Kind) {p x : ℕ} → End p x → after (op_of k p) f x ≡ x
unfolding splice
after_at f removal e = skip_at f e
after_at f contraction {p} e = skip_at (crossed f p (partner p)) e

-- ---- the map after an operation, and turning round

-- an edge is the same from either of its darts
pub end_over : {p x : ℕ} → End p x → End (partner p) x
end_over {p} = ⊎_elim (λ e. inr (e ∙ sym (partner_partner p))) inl

pub over_end : {p x : ℕ} → End (partner p) x → End p x
over_end {p} = ⊎_elim inr (λ e. inl (e ∙ partner_partner p))

pub dart_op : (k : Kind) (p : ℕ) → dart (op_of k p) ≡ p
dart_op removal p = refl
dart_op contraction p = refl

module _ {D : ℕ} {m : Map} (G : Good D m) (p : ℕ) (t : T (m.live p)) where
  pub good_after : (k : Kind) → Good D (act m (op_of k p))
  good_after removal = good_remove G p t
  good_after contraction = good_contract G p t

  off_partner : off_edge m.live (partner p) ≡ off_edge m.live p
  unfolding off_edge
  off_partner = ap (off (off m.live (partner p))) (partner_partner p) ∙ off_comm m.live (partner p) p

  after_partner : (k : Kind) (x : ℕ) → after (op_of k (partner p)) m.next x ≡ after (op_of k p) m.next x
  after_partner k x = go (end? p x) (ℕ_discrete (f x) p) (ℕ_discrete (f x) (partner p))
    where
      f : ℕ → ℕ
      f = m.next

      p_d : p < D
      p_d = G.small p t

      q_d : partner p < D
      q_d = partner_small G p t

      turn : partner (partner p) ≡ p
      turn = partner_partner p

      go : Dec (End p x) → Dec (f x ≡ p) → Dec (f x ≡ partner p) → after (op_of k (partner p)) f x ≡ after (op_of k p) f x
      go (yes e) b c = after_at f k (end_over e) ∙ sym (after_at f k e)
      go (no n) b c = away b c
        where
          over : ¬ End (partner p) x
          over e = n (over_end e)

          away : Dec (f x ≡ p) → Dec (f x ≡ partner p) → after (op_of k (partner p)) f x ≡ after (op_of k p) f x
          away (yes e) c =
              (rw turn at (after_before_q G.perm q_d (rw turn p_d) over k (e ∙ sym turn))) ∙ sym (after_before_p G.perm p_d q_d n k e)
          away (no a) (yes e) =
              (rw turn at (after_before_p G.perm q_d (rw turn p_d) over k e)) ∙ sym (after_before_q G.perm p_d q_d n k e)
          away (no a) (no b) =
              after_other G.perm q_d (rw turn p_d) over k b (λ e. a (e ∙ turn)) ∙ sym (after_other G.perm p_d q_d n k a b)

  -- TURNING ROUND CHANGES NOTHING
  pub act_partner : (k : Kind) → act m (op_of k (partner p)) ≡ act m (op_of k p)
  act_partner removal = map_path off_partner (fun_ext (after_partner removal))
  act_partner contraction = map_path off_partner (fun_ext (after_partner contraction))
