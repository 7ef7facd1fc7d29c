-- "The sweep is a removal kernel: one pass over the edges by rising number, taking each surviving edge that at its turn is an empty loop (r = q or s = p)
-- and no whole piece."
--   Passed D t past m es u new == the pass over the edges below m took the edges es, and leads from t and past to u and new
--   Through D t past == the pass goes through, to the last edge
--   sweep_through == every pass does
--   two_faces     == of a pyramid: an empty loop has two different faces
--   sweep_kernel  == the sweep is the removal kernel of the edges that the pass takes, whatever is lent
--   sweep_six, sweep_five, sweep_zero, sweep_answers == its answers on a pyramid lent with room
--   Sweeps n      == n is 0, 1, 2, 4, 5 or 6
--   sweep_only    == a sweep gives no other answer
use mathlib.Core.List.{List, [], ◌∷◌, ◌++◌, append-nil, append_assoc, cons≢nil}
use mathlib.Core.Logic.{◌≢◌, ◌⊎◌, inl, inr}
use mathlib.Core.Path.{◌≡◌, sym, ap, ◌∙◌, subst}
use Prim.Native.Nat.{ℕ, zero, suc, ◌+◌, ◌*◌, ◌/◌, ◌<◌, ◌≤◌}
use native.Mathlib.Decide.{ℕ_discrete, dec_le}
use native.Mathlib.Omega.{arith}
use lib.Dec.{T, leb, le→leb}
use Rattle.permutations.specs.Choice.{T?, T→true, not_T→false}
use Rattle.darts.specs.Answers.{Answer}
use Rattle.darts.specs.Operation.{removal, lead, operate, number}
use Rattle.darts.specs.Kernel.{rising, stands, run}
use Rattle.darts.specs.State.{State, reduce}
use Rattle.darts.specs.Levels.{empty_loop, takes, sweep}
use Rattle.darts.specs.Map.{same_face, survives}
use Rattle.darts.specs.Pyramid.{Pyramid}
use Rattle.darts.specs.Calls.{table_of, past_of, judged, hands_back, on_state, reduce_by, sweep_by}
use Rattle.laws.specs.Standing.{Standing}
use Rattle.laws.proofs.bridge.Standing.{live_iff}
use Rattle.laws.proofs.bridge.EmptyLoop.{empty_loop_faces, takes_fine}
use Rattle.laws.proofs.runs.Runs.{run_stands}
use Rattle.laws.proofs.runs.Taking.{taken}
use Rattle.laws.proofs.runs.Pyramids.{pyramid_built, pyramid_sweep}
use Rattle.laws.proofs.calls.Judging.{Lent, Judging, uncounted, cramped, other, lent, judging, judged_done, on_refused, on_judged, on_lent, on_refuses}
use Rattle.laws.proofs.sentences.Order.{Answers, answers}
use Rattle.laws.proofs.sentences.Edges.{Taken, takes_iff}
use Rattle.laws.proofs.sentences.Kernels.{run_none, run_done, reduce_five, reduce_zero}

pub data Passed (D : ℕ) (t past : List ℕ) : ℕ → List ℕ → List ℕ → List ℕ → Type 0 where
  begins : Passed D t past 0 [] t past
  skips : {m : ℕ} {es u new : List ℕ} → Passed D t past m es u new → ¬ (Taken u new m) → Passed D t past (suc m) es u new
  adds : {m : ℕ} {es u new : List ℕ} → Passed D t past m es u new → Taken u new m
      → Passed D t past (suc m) (es ++ (m ∷ [])) (operate removal D u new m) (number removal (lead removal u m) ∷ new)

pub record Through (D : ℕ) (t past : List ℕ) : Type 0 where
  pub edges : List ℕ
  pub table : List ℕ
  pub history : List ℕ
  pub passed : Passed D t past (D / 2) edges table history

module _ (D : ℕ) (t past : List ℕ) where
  -- ---- the sweep takes the same edges

  -- of all edges it takes es, and what it takes of the n others from there on
  taken_passed : {m : ℕ} {es u new : List ℕ} → Passed D t past m es u new → (n : ℕ) → m + n ≡ D / 2
      → taken takes removal D t past (rising 0 (D / 2)) ≡ es ++ taken takes removal D u new (rising m n)
  unfolding taken rising
  taken_passed begins n e = let all : D / 2 ≡ n = omega arith in ap (λ x. taken takes removal D t past (rising 0 x)) all
  taken_passed (skips {m = m} {u = u} {new = new} P k) n e =
      taken_passed P (suc n) (omega arith) ∙ rw (not_T→false (takes u new m) (λ b. k ((takes_iff u new m).0 b)))
  taken_passed (adds {m = m} {es = es} {u = u} {new = new} P k) n e =
      taken_passed P (suc n) (omega arith) ∙ rw (T→true (takes u new m) ((takes_iff u new m).1 k)) (sym (append_assoc es (m ∷ []) _))

  -- each edge that the pass takes may be removed at its turn
  run_passed : Standing D t past → {m : ℕ} {es u new : List ℕ} → Passed D t past m es u new → m ≤ D / 2 → run removal D t past es ≡ stands u new
  run_passed S begins b = run_none removal D t past
  run_passed S (skips P k) b = run_passed S P (omega arith)
  run_passed S (adds {m = m} {es = es} {u = u} {new = new} P k) b =
      let before = run_passed S P (omega arith) in
      run_done removal D es t past before m (takes_fine (run_stands S removal es before) m (omega arith) ((takes_iff u new m).1 k))

  -- a pass that takes nothing
  none_passed : (m : ℕ) → ((e : ℕ) → e < m → ¬ (Taken t past e)) → Passed D t past m [] t past
  none_passed zero none = begins
  none_passed (suc m) none = skips (none_passed m (λ e b. none e (omega arith))) (none m (omega arith))

  -- ---- every pass goes through

  through_turn : (m : ℕ) {es u new : List ℕ} → Passed D t past m es u new → Dec (T (takes u new m))
      → ((fs v q : List ℕ) → Passed D t past (suc m) fs v q → Through D t past) → Through D t past
  through_turn m {es} {u} {new} P (no k) rest = rest es u new (skips P (λ c. k ((takes_iff u new m).1 c)))
  through_turn m {es} {u} {new} P (yes k) rest = rest _ _ _ (adds P ((takes_iff u new m).0 k))

  through_on : (n m : ℕ) {es u new : List ℕ} → Passed D t past m es u new → m + n ≡ D / 2 → Through D t past
  through_on zero m {es} {u} {new} P e =
      let all : m ≡ D / 2 = omega arith in
      record { edges = es; table = u; history = new; passed = subst (λ x. Passed D t past x es u new) all P }
  through_on (suc n) m {es} {u} {new} P e =
      through_turn m P (T? (takes u new m)) (λ fs v q Q. through_on n (suc m) Q (omega arith))

  pub sweep_through : Through D t past
  sweep_through = through_on (D / 2) 0 begins (omega arith)

-- "an empty loop always has two different faces" (document 02, Seven)
pub two_faces : {s : State} {t past : List ℕ} → Pyramid s t past → (e : ℕ) → e < s.darts / 2 → T (survives past (2 * e)) → T (empty_loop t e)
    → ¬ T (same_face s.darts t (2 * e) (2 * e + 1))
two_faces {s} {t} {past} P e below stays = empty_loop_faces (pyramid_built P).standing e ((live_iff s.darts past (2 * e)).1 (omega arith, stays))

-- ---- the call

-- 0, 1, 2, 4, 5 or 6
abbrev pub Sweeps : ℕ → Type 0
Sweeps n = (n ≤ 6) × (n ≢ 3)

module _ (s : State) (t h w : List ℕ) where
  -- "The sweep is a removal kernel": of exactly the edges that the pass takes
  pub sweep_kernel : {es u new : List ℕ} → Passed s.darts (table_of s t) (past_of s h) (s.darts / 2) es u new
      → sweep_by s t h w ≡ reduce_by removal es s t h w
  unfolding sweep_by reduce_by taken rising
  sweep_kernel {es} P = go (ℕ_discrete (judged s t h w).number 0)
    where
      edges : taken takes removal s.darts (table_of s t) (past_of s h) (rising 0 (s.darts / 2)) ≡ es
      edges = taken_passed s.darts (table_of s t) (past_of s h) P 0 (omega arith) ∙ append-nil es

      go : Dec ((judged s t h w).number ≡ 0) → on_state sweep s t h w ≡ on_state (reduce removal es) s t h w
      go (no n) = on_refused s t h w sweep n ∙ sym (on_refused s t h w (reduce removal es) n)
      go (yes z) =
          let L = judged_done s t h w z in
          on_lent s t h w sweep L
          ∙ ap (hands_back s t h w) (pyramid_sweep L.pyramid ∙ ap (λ fs. reduce removal fs s (table_of s t) (past_of s h)) edges)
          ∙ sym (on_lent s t h w (reduce removal es) L)

  module _ (L : Lent s t h w) where
    -- 6, also where no edge would be taken
    pub sweep_six : 64 ≤ s.levels → Answers (sweep_by s t h w).answer 6 0
    unfolding sweep_by sweep
    sweep_six b = answers (on_refuses s t h w sweep L (rw (T→true (leb 64 s.levels) (le→leb 64 s.levels b))))

    module _ (room : s.levels < 64) where
      -- "A sweep that takes no edge is an empty kernel (answer 5)."
      pub sweep_five : ((e : ℕ) → e < s.darts / 2 → ¬ (Taken (table_of s t) (past_of s h) e)) → Answers (sweep_by s t h w).answer 5 0
      sweep_five none =
          rw (sweep_kernel (none_passed s.darts (table_of s t) (past_of s h) (s.darts / 2) none)) (reduce_five s t h w L room removal)

      -- 0, "done", where it takes an edge
      pub sweep_zero : {es u new : List ℕ} → Passed s.darts (table_of s t) (past_of s h) (s.darts / 2) es u new → es ≢ []
          → Answers (sweep_by s t h w).answer 0 0
      sweep_zero {es} P some =
          let ran = run_passed s.darts (table_of s t) (past_of s h) (pyramid_built L.pyramid).standing P (omega arith) in
          rw (sweep_kernel P) (reduce_zero s t h w L room removal es some ran)

      -- nothing else
      pub sweep_answers : ((sweep_by s t h w).answer.number ≡ 0) ⊎ ((sweep_by s t h w).answer.number ≡ 5)
      sweep_answers = go G.edges G.passed
        where
          G : Through s.darts (table_of s t) (past_of s h)
          G = sweep_through s.darts (table_of s t) (past_of s h)

          go : (es : List ℕ) → Passed s.darts (table_of s t) (past_of s h) (s.darts / 2) es G.table G.history
              → ((sweep_by s t h w).answer.number ≡ 0) ⊎ ((sweep_by s t h w).answer.number ≡ 5)
          go [] P = inr (rw (sweep_kernel P) (reduce_five s t h w L room removal).number)
          go (e ∷ es) P = inl (sweep_zero P cons≢nil).number

  -- "10 remains for kernels given by hand."
  pub sweep_only : Sweeps (sweep_by s t h w).answer.number
  unfolding sweep_by
  sweep_only = go (judging s t h w)
    where
      as_judged : {n : ℕ} → (judged s t h w).number ≡ n → n ≢ 0 → Sweeps n → Sweeps (sweep_by s t h w).answer.number
      as_judged {n} j some few = subst Sweeps (sym (ap (λ (a : Answer). a.number) (on_judged s t h w sweep (λ z. some (sym j ∙ z))) ∙ j)) few

      of_pyramid : Lent s t h w → Dec (64 ≤ s.levels) → Sweeps (sweep_by s t h w).answer.number
      of_pyramid L (yes b) = rw (sweep_six L b).number (omega arith, λ z. omega arith)
      of_pyramid L (no n) = done_or_empty (sweep_answers L (omega arith))
        where
          done_or_empty : ((sweep_by s t h w).answer.number ≡ 0) ⊎ ((sweep_by s t h w).answer.number ≡ 5) → Sweeps (sweep_by s t h w).answer.number
          done_or_empty (inl e) = rw e (omega arith, λ z. omega arith)
          done_or_empty (inr e) = rw e (omega arith, λ z. omega arith)

      go : Judging s t h w → Sweeps (sweep_by s t h w).answer.number
      go (uncounted _ a) = as_judged (ap (λ (a : Answer). a.number) a) (λ z. omega arith) (omega arith, λ z. omega arith)
      go (cramped _ _ a) = as_judged (ap (λ (a : Answer). a.number) a) (λ z. omega arith) (omega arith, λ z. omega arith)
      go (other _ _ _ a) = as_judged (ap (λ (a : Answer). a.number) a) (λ z. omega arith) (omega arith, λ z. omega arith)
      go (lent L _) = of_pyramid L (dec_le 64 s.levels)
