-- Pieces, while edges have their turns.
--   OnePiece D t         == the base is one piece
--   turns_pieces         == survivors share a piece exactly where they did in the base
--   AllBut D es u past e == e is the last edge, all the others were taken, and it is a whole piece
--   whole_all_but, all_but_end == so it is in one piece, where an edge is a whole piece at its turn; and at the end
--   turns_piece          == every piece keeps a survivor
--   turns_spare          == an edge survives
use mathlib.Core.Bool.{Bool, true}
use mathlib.Core.List.{List, [], ◌∷◌}
use mathlib.Core.Logic.Iff
use mathlib.Core.Logic.{◌⊎◌, ◌↔◌, inl, inr, ⊎_elim}
use mathlib.Core.Path.{◌≡◌, refl, sym, ap, ◌∙◌, subst, subst₃}
use Prim.Native.Nat.{ℕ, zero, suc, ◌+◌, ◌*◌, ◌/◌, ◌<◌, ◌≤◌}
use native.Mathlib.Decide.{ℕ_discrete, dec_lt}
use native.Mathlib.Omega.{arith}
use lib.Dec.{T}
use lib.ListN.{length}
use Rattle.permutations.specs.Choice.{T?}
use Rattle.permutations.specs.Live.{has}
use Rattle.permutations.proofs.MapLemmas.{off_edge_was}
use Rattle.darts.specs.Map.{same_piece}
use Rattle.darts.specs.Operation.{contraction, lead, number}
use Rattle.darts.specs.Kernel.{judge, rising, stands}
use Rattle.laws.specs.Standing.{Standing}
use Rattle.laws.proofs.bridge.Standing.{live}
use Rattle.laws.proofs.bridge.Numbers.{live_after}
use Rattle.laws.proofs.bridge.Pieces.{whole_piece_lem, pieces_kept}
use Rattle.laws.proofs.merging.Turns.{eleven, Turns, begins, passes, joins, turns_taken, turns_stand}
use Rattle.laws.proofs.merging.Taken.{Taken, turns_below, turns_ahead, turns_count, turns_fewer, turns_all}
use Rattle.laws.proofs.merging.Joined.{joined_piece}
use Rattle.laws.proofs.merging.Closes.{WholeAt, eleven_whole, turns_live, until}
use Rattle.laws.proofs.merging.Joins.{turns_standing, turns_left}

-- "Two darts are in one piece when partner and successor steps join them."
abbrev pub OnePiece : ℕ → List ℕ → Type 0
OnePiece D t = (x y : ℕ) → x < D → y < D → T (same_piece D t x y)

-- e is the last edge, all the others were taken, and it is a whole piece
pub record AllBut (D : ℕ) (es u past : List ℕ) (e : ℕ) : Type 0 where
  pub last : suc e ≡ D / 2
  pub others : es ≡ rising 0 e
  pub taken : (d : ℕ) → d < D / 2 → (d ≡ e) ⊎ Taken es d
  pub count : length past ≡ e
  pub whole : judge contraction D u past e ≡ 11
  pub lives : T (live D past (2 * e)) × T (live D past (2 * e + 1))
  pub only : (x : ℕ) → T (live D past x) → (x ≡ 2 * e) ⊎ (x ≡ 2 * e + 1)

live_was : (D : ℕ) (past : List ℕ) (p x : ℕ) → T (live D (number contraction p ∷ past) x) → T (live D past x)
live_was D past p x l = off_edge_was (live D past) p x (subst (λ f. T (f x)) (live_after contraction D past p) l)

length_rising : (e n : ℕ) → length (rising e n) ≡ n
unfolding rising
length_rising e zero = refl
length_rising e (suc n) = ap suc (length_rising (suc e) n)

-- the darts of edge e
pub halves : (x e : ℕ) → x / 2 ≡ e → (x ≡ 2 * e) ⊎ (x ≡ 2 * e + 1)
halves x e k = go (ℕ_discrete x (2 * e))
  where
    go : Dec (x ≡ 2 * e) → (x ≡ 2 * e) ⊎ (x ≡ 2 * e + 1)
    go (yes h) = inl h
    go (no n) = inr (omega arith)

-- the turns lead to one place
turns_one : {D : ℕ} {same : ℕ → Bool} {t : List ℕ} {m : ℕ} {es u past fs v new : List ℕ}
    → Turns D same t m es u past → Turns D same t m fs v new → (es ≡ fs) × ((u ≡ v) × (past ≡ new))
turns_one {u = u} {past} {v = v} {new} P Q =
    let there : stands u past ≡ stands v new = sym (turns_stand P) ∙ turns_stand Q in
    (sym (turns_taken P) ∙ turns_taken Q, (cc, cc))

module _ {D : ℕ} {same : ℕ → Bool} {t : List ℕ} (S : Standing D t []) where
  -- survivors share a piece exactly where they did in the base
  pub turns_pieces : {m : ℕ} {es u past : List ℕ} → Turns D same t m es u past → (x y : ℕ) → T (live D past x) → T (live D past y)
      → T (same_piece D u x y) ↔ T (same_piece D t x y)
  turns_pieces begins x y lx ly = Iff.rfl
  turns_pieces (passes P w) x y lx ly = turns_pieces P x y lx ly
  turns_pieces (joins {m} {u = u} {past = past} P s j) x y lx ly =
      let p = lead contraction u m in
      Iff.trans (pieces_kept (turns_standing S P) contraction m j x y lx ly) (turns_pieces P x y (live_was D past p x lx) (live_was D past p y ly))

  -- in one piece, all edges but a whole piece have been taken
  module _ (one : OnePiece D t) {e : ℕ} {es u past : List ℕ} (P : Turns D same t e es u past) (below : e < D / 2)
      (whole : judge contraction D u past e ≡ 11) where
    others_taken : (d : ℕ) → d < D / 2 → (d ≡ e) ⊎ Taken es d
    others_taken d h = go (T? (has es d))
      where
        go : Dec (Taken es d) → (d ≡ e) ⊎ Taken es d
        go (yes k) = inr k
        go (no n) =
            let half : 2 * d / 2 ≡ d = omega arith in
            let here = (until P e (omega arith) below).0 in
            let there = (turns_live P (2 * d)).1 (omega arith, rw half n) in
            let same_piece_lem = (turns_pieces P (2 * e) (2 * d) here there).1 (one (2 * e) (2 * d) (omega arith) (omega arith)) in
            let end = (whole_piece_lem (turns_standing S P) e here).0 (eleven_whole D u past e whole).1 (2 * d) same_piece_lem in
            inl (⊎_elim (λ k. omega arith) (λ k. omega arith) end)

    whole_last : suc e ≡ D / 2
    whole_last = go (dec_lt (suc e) (D / 2))
      where
        go : Dec (suc e < D / 2) → suc e ≡ D / 2
        go (no n) = omega arith
        go (yes h) = ⊎_elim (λ k. omega arith) (λ k. absurd (turns_ahead P (suc e) (omega arith) k)) (others_taken (suc e) h)

    whole_edges : es ≡ rising 0 e
    whole_edges = turns_all P (λ d h. ⊎_elim (λ k. absurd (omega arith)) (λ k. k) (others_taken d (omega arith)))

    -- IN ONE PIECE, WHERE AN EDGE IS A WHOLE PIECE AT ITS TURN, IT IS THE LAST, AND ALL THE OTHERS WERE TAKEN
    whole_all_but : AllBut D es u past e
    whole_all_but = record {
      last = whole_last;
      others = whole_edges;
      taken = others_taken;
      count = turns_count P ∙ ap length whole_edges ∙ length_rising 0 e;
      whole = whole;
      lives = until P e (omega arith) below;
      only = λ x l.
          let (h, stays) = (turns_live P x).0 l in
          ⊎_elim (λ k. halves x e k) (λ k. absurd (stays k)) (others_taken (x / 2) (omega (arith, S.even)));
    }

  -- ---- survivors

  module _ {m : ℕ} {es u past : List ℕ} (P : Turns D same t m es u past) where
    -- EVERY PIECE KEEPS A SURVIVOR
    pub turns_piece : m ≤ D / 2 → (x : ℕ) → x < D → (b : ℕ) × T (live D past b) × T (same_piece D t x b)
    turns_piece h x k =
        let l = turns_left S P x k in
        (l.dart, l.lives, joined_piece S (λ e a. let (below, s) = turns_below P e a in omega arith) k l.joined)

    -- AN EDGE SURVIVES
    pub turns_spare : m ≡ D / 2 → 0 < D → length past < D / 2
    turns_spare h some =
        let l = turns_left S P 0 some in
        let (below, stays) = (turns_live P l.dart).0 l.lives in
        let fewer = turns_fewer P (l.dart / 2) (omega (arith, S.even)) stays in
        let count = turns_count P in
        omega arith

  -- at the end, too
  pub all_but_end : OnePiece D t → {es u past : List ℕ} → Turns D same t (D / 2) es u past → (e : ℕ) → e < D / 2 → same e ≡ true → WholeAt D same t e
      → AllBut D es u past e
  all_but_end one {es} {u} {past} P e below s W =
      let A = whole_all_but one W.turns below W.whole in
      let Q = subst (λ n. Turns D same t n W.edges W.table W.past) A.last (passes W.turns (eleven s W.whole)) in
      let (edges, (table, history)) = turns_one Q P in
      subst₃ (λ f v h. AllBut D f v h e) edges table history A
