-- What becomes of an edge that `same` takes: its darts are joined, or it was a whole piece at its turn.
--   WholeAt D same t e   == edge e was a whole piece at its turn: 11
--   Closed D same t es e == the darts of edge e are joined by the edges es, or it was a whole piece
--   nine_shares, eleven_whole == what 9 and 11 say of an edge
--   turns_live, until    == a dart survives where its edge was not taken; an edge survives until its turn
--   turns_closes         == an edge that `same` takes is closed when its turn is over
use mathlib.Core.Bool.{Bool, true, false}
use mathlib.Core.List.{List, [], ◌∷◌, ◌++◌}
use mathlib.Core.Logic.{◌⊎◌, ◌↔◌, inl, inr, ⊎_elim}
use mathlib.Core.Path.{◌≡◌, refl, sym, ap, ◌∙◌, subst}
use Prim.Native.Nat.{ℕ, suc, ◌+◌, ◌*◌, ◌/◌, ◌<◌, ◌≤◌}
use native.Mathlib.Decide.{ℕ_discrete}
use native.Mathlib.Omega.{arith}
use lib.Dec.{T, leb}
use Rattle.permutations.specs.Choice.{not_iff}
use Rattle.std.proofs.Common.{if◌then◌else◌}
use Rattle.darts.specs.Map.{same_vertex, gone, survives}
use Rattle.darts.specs.Operation.{contraction, whole_edge}
use Rattle.darts.specs.Kernel.{judge, shared}
use Rattle.laws.specs.Standing.{Standing}
use Rattle.laws.proofs.bridge.Standing.{live, live_iff}
use Rattle.laws.proofs.merging.Turns.{other, nine, eleven, Turns, begins, passes, joins}
use Rattle.laws.proofs.merging.Taken.{Taken, has_last, turns_ahead, turns_gone}
use Rattle.laws.proofs.merging.Joined.{Joined, across, joined_by}
use Rattle.laws.proofs.merging.Joins.{turns_joined}

pub record WholeAt (D : ℕ) (same : ℕ → Bool) (t : List ℕ) (e : ℕ) : Type 0 where
  pub edges : List ℕ
  pub table : List ℕ
  pub past : List ℕ
  pub turns : Turns D same t e edges table past
  pub whole : judge contraction D table past e ≡ 11

-- the darts of edge e are joined by the edges es, or it was a whole piece
abbrev pub Closed : ℕ → (ℕ → Bool) → List ℕ → List ℕ → ℕ → Type 0
Closed D same t es e = Joined D t (Taken es) (2 * e) (2 * e + 1) ⊎ WholeAt D same t e

-- ---- what 9 and 11 say

-- by the four tests of an edge: none such, gone, one vertex at both ends, a whole piece
abbrev answer : Bool → Bool → Bool → Bool → ℕ
answer none gone sharing whole =
    let n : ℕ = if sharing then 9 else 0 in
    if none then 7 else if gone then 8 else if leb 1 n then n else if whole then 11 else 0

answer_nine : (none gone sharing whole : Bool) → answer none gone sharing whole ≡ 9 → T sharing
answer_nine true g s w e = absurd (omega arith)
answer_nine false true s w e = absurd (omega arith)
answer_nine false false true w e = tt
answer_nine false false false true e = absurd (omega arith)
answer_nine false false false false e = absurd (omega arith)

answer_eleven : (none gone sharing whole : Bool) → answer none gone sharing whole ≡ 11 → (¬ T sharing) × T whole
answer_eleven true g s w e = absurd (omega arith)
answer_eleven false true s w e = absurd (omega arith)
answer_eleven false false true w e = absurd (omega arith)
answer_eleven false false false true e = (λ t. t, tt)
answer_eleven false false false false e = absurd (omega arith)

module _ (D : ℕ) (t past : List ℕ) (e : ℕ) where
  nine_shares : judge contraction D t past e ≡ 9 → T (same_vertex D t (2 * e) (2 * e + 1))
  unfolding judge shared
  nine_shares = answer_nine (leb (D / 2) e) (gone past (2 * e)) (same_vertex D t (2 * e) (2 * e + 1)) (whole_edge t e)

  pub eleven_whole : judge contraction D t past e ≡ 11 → (¬ T (same_vertex D t (2 * e) (2 * e + 1))) × T (whole_edge t e)
  unfolding judge shared
  eleven_whole = answer_eleven (leb (D / 2) e) (gone past (2 * e)) (same_vertex D t (2 * e) (2 * e + 1)) (whole_edge t e)

-- ---- who survives

module _ {D : ℕ} {same : ℕ → Bool} {t : List ℕ} where
  pub turns_live : {m : ℕ} {es u past : List ℕ} → Turns D same t m es u past → (x : ℕ) → T (live D past x) ↔ ((x < D) × (¬ (Taken es (x / 2))))
  unfolding survives
  turns_live {past = past} P x =
      let i = live_iff D past x in
      let g = not_iff (gone past x) (turns_gone P x) in
      (λ l. ((i.0 l).0, g.0 (i.0 l).1), λ h. i.1 (h.0, g.1 h.1))

  -- an edge survives until its turn
  pub until : {m : ℕ} {es u past : List ℕ} → Turns D same t m es u past → (e : ℕ) → m ≤ e → e < D / 2
      → T (live D past (2 * e)) × T (live D past (2 * e + 1))
  until P e h k = (
    (turns_live P (2 * e)).1 (omega arith, turns_ahead P (2 * e / 2) (omega arith)),
    (turns_live P (2 * e + 1)).1 (omega arith, turns_ahead P ((2 * e + 1) / 2) (omega arith)),
  )

-- the last of suc m, or one before it
by_turn : {C : Type 0} (e m : ℕ) → e < suc m → (e < m → C) → (e ≡ m → C) → C
by_turn {C = C} e m h before last = go (ℕ_discrete e m)
  where
    go : Dec (e ≡ m) → C
    go (yes k) = last k
    go (no n) = before (omega arith)

still_closed : (D : ℕ) (same : ℕ → Bool) (t es : List ℕ) (m e : ℕ) → Closed D same t es e → Closed D same t (es ++ (m ∷ [])) e
still_closed D same t es m e = ⊎_elim (λ j. inl (joined_by (λ d k. across ((has_last es m d).1 (inl k))) j)) inr

module _ {D : ℕ} {same : ℕ → Bool} {t : List ℕ} (S : Standing D t []) where
  -- given 9, its darts were joined already
  nine_joined : {m : ℕ} {es u past : List ℕ} → Turns D same t m es u past → m < D / 2 → judge contraction D u past m ≡ 9
      → Joined D t (Taken es) (2 * m) (2 * m + 1)
  nine_joined {m} {u = u} {past} P below j =
      let (p, q) = until P m (omega arith) below in
      (turns_joined S P (2 * m) (2 * m + 1) p q).0 (nine_shares D u past m j)

  -- AN EDGE THAT `same` TAKES IS JOINED WHEN ITS TURN IS OVER, OR IT WAS A WHOLE PIECE
  pub turns_closes : {m : ℕ} {es u past : List ℕ} → Turns D same t m es u past → m ≤ D / 2 → (e : ℕ) → e < m → same e ≡ true → Closed D same t es e
  turns_closes begins b e h a = absurd (omega arith)
  turns_closes (passes {m} P (other s)) b e h a =
      by_turn e m h (λ k. turns_closes P (omega arith) e k a) (λ k. absurd (subst T (sym a ∙ ap same k ∙ s) tt))
  turns_closes (passes {m} P (nine s j)) b e h a =
      by_turn e m h (λ k. turns_closes P (omega arith) e k a) (λ k. inl (rw k (nine_joined P (omega arith) j)))
  turns_closes (passes {m} {es = es} {u = u} {past = past} P (eleven s j)) b e h a =
      by_turn e m h (λ k. turns_closes P (omega arith) e k a)
      (λ k. inr (rw k (record { edges = es; table = u; past = past; turns = P; whole = j })))
  turns_closes (joins {m} {es = es} P s j) b e h a =
      by_turn e m h (λ k. still_closed D same t es m e (turns_closes P (omega arith) e k a))
      (λ k. inl (rw k (across ((has_last es m m).1 (inr refl)))))
