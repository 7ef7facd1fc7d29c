-- Which edges were taken when m edges have had their turns, and that every edge has its turn.
--   Taken es e             == e is one of the edges es
--   Rises from es          == the edges es rise, and none is below `from`
--   taken_rises            == what a pass by rising number takes rises
--   turns_below, turns_ahead == what was taken has had its turn, and `same` takes it
--   turns_gone             == a dart is gone exactly where its edge was taken
--   turns_count, turns_most == one operation for each edge taken, and no more of them than turns
--   turns_fewer, turns_all == fewer, where an edge was passed over; where none was, all up to there were taken
--   Through D same t m     == m edges have had their turns
--   merging_through        == every edge has: the pass never stops
use mathlib.Core.Bool.{Bool, true, false}
use mathlib.Core.List.{List, [], ◌∷◌, ◌++◌}
use mathlib.Core.Logic.Iff
use mathlib.Core.Logic.{◌≢◌, ◌⊎◌, ◌↔◌, inl, inr, ⊎_elim, ⊎_swap}
use mathlib.Core.Path.{◌≡◌, refl, sym, ap, ◌∙◌}
use Prim.Native.Nat.{ℕ, zero, suc, ◌+◌, ◌*◌, ◌/◌, ◌<◌, ◌≤◌}
use native.Mathlib.Omega.{arith}
use lib.Dec.{T, eqb}
use lib.ListN.{length, length-append}
use Rattle.permutations.specs.Choice.{not_T→false, or_iff, eqb_iff, ⊎_iff}
use Rattle.permutations.specs.Live.{any, has}
use Rattle.std.proofs.Common.{if◌then◌else◌}
use Rattle.darts.specs.Map.{gone}
use Rattle.darts.specs.Operation.{Kind, contraction, lead, operate, number, edge_of}
use Rattle.darts.specs.Kernel.{judge, rising, Test}
use Rattle.laws.proofs.bridge.Numbers.{number_edge}
use Rattle.laws.proofs.runs.Taking.{taken}
use Rattle.laws.proofs.merging.Turns.{other, nine, eleven, Turns, begins, passes, joins, judged_three}

abbrev pub Taken : List ℕ → ℕ → Type 0
Taken es e = T (has es e)

-- "edges by rising number"
abbrev pub Rises : ℕ → List ℕ → Type 0
Rises from [] = Unit {0}
Rises from (e ∷ es) = (from ≤ e) × Rises (suc e) es

-- ---- lists of edges

rises_from : (from to : ℕ) (es : List ℕ) → from ≤ to → Rises to es → Rises from es
rises_from from to [] h r = tt
rises_from from to (e ∷ es) h r = (let k = r.0 in omega arith, r.1)

pub taken_rises : (takes : Test) (k : Kind) (D : ℕ) (t past : List ℕ) (e n : ℕ) → Rises e (taken takes k D t past (rising e n))
unfolding taken rising
taken_rises takes k D t past e zero = tt
taken_rises takes k D t past e (suc n) =
    go (takes t past e) _ _ (taken_rises takes k D (operate k D t past e) (number k (lead k t e) ∷ past) (suc e) n)
    (taken_rises takes k D t past (suc e) n)
  where
    go : (b : Bool) (on over : List ℕ) → Rises (suc e) on → Rises (suc e) over → Rises e (if b then e ∷ on else over)
    go true on over r s = (omega arith, r)
    go false on over r s = rises_from e (suc e) over (omega arith) s

pub none_taken : (e : ℕ) → ¬ (Taken [] e)
unfolding has any
none_taken e k = k

pub has_first : (x e : ℕ) (es : List ℕ) → Taken (x ∷ es) e ↔ ((e ≡ x) ⊎ Taken es e)
unfolding has any
has_first x e es = or_iff (eqb e x) (has es e) (eqb_iff e x) Iff.rfl

-- one edge more, at the end
pub has_last : (es : List ℕ) (m e : ℕ) → Taken (es ++ (m ∷ [])) e ↔ (Taken es e ⊎ (e ≡ m))
unfolding has any
has_last [] m e = Iff.trans (has_first m e []) (⊎_swap, ⊎_swap)
has_last (x ∷ es) m e =
    let first = has_first x e es in
    Iff.trans (has_first x e (es ++ (m ∷ []))) (Iff.trans (⊎_iff Iff.rfl (has_last es m e)) (
      ⊎_elim (λ a. inl (first.1 (inl a))) (⊎_elim (λ b. inl (first.1 (inr b))) inr),
      ⊎_elim (λ a. ⊎_elim inl (λ b. inr (inl b)) (first.0 a)) (λ c. inr (inr c)),
    ))

rising_end : (e n : ℕ) → rising e (suc n) ≡ rising e n ++ ((e + n) ∷ [])
unfolding rising
rising_end e zero = ap (λ x. x ∷ []) (omega arith)
rising_end e (suc n) = ap (λ l. e ∷ l) (rising_end (suc e) n ∙ ap (λ x. rising (suc e) n ++ (x ∷ [])) (omega arith))

-- ---- what was taken when m edges have had their turns

module _ {D : ℕ} {same : ℕ → Bool} {t : List ℕ} where
  pub turns_below : {m : ℕ} {es u past : List ℕ} → Turns D same t m es u past → (e : ℕ) → Taken es e → (e < m) × (same e ≡ true)
  turns_below begins e k = absurd (none_taken e k)
  turns_below (passes P w) e k = let (l, a) = turns_below P e k in (omega arith, a)
  turns_below (joins {m} {es = es} P s j) e k =
      ⊎_elim (λ h. let (l, a) = turns_below P e h in (omega arith, a)) (λ (h : e ≡ m). (omega arith, rw h s)) ((has_last es m e).0 k)

  -- an edge whose turn is yet to come was not taken
  pub turns_ahead : {m : ℕ} {es u past : List ℕ} → Turns D same t m es u past → (e : ℕ) → m ≤ e → ¬ (Taken es e)
  turns_ahead P e h k = let (l, a) = turns_below P e k in omega arith

  -- A DART IS GONE EXACTLY WHERE ITS EDGE WAS TAKEN
  pub turns_gone : {m : ℕ} {es u past : List ℕ} → Turns D same t m es u past → (d : ℕ) → T (gone past d) ↔ Taken es (d / 2)
  unfolding has any gone edge_of
  turns_gone begins d = Iff.rfl
  turns_gone (passes P w) d = turns_gone P d
  turns_gone (joins {m} {es = es} {u = u} {past = past} P s j) d =
      Iff.trans (or_iff (eqb (number contraction (lead contraction u m) / 4) (d / 2)) (gone past d)
      (Iff.trans (eqb_iff (number contraction (lead contraction u m) / 4) (d / 2)) (rw (number_edge contraction u m) (sym, sym))) (turns_gone P d))
      (Iff.trans (⊎_swap, ⊎_swap) (Iff.symm (has_last es m (d / 2))))

  -- one operation for each
  pub turns_count : {m : ℕ} {es u past : List ℕ} → Turns D same t m es u past → length past ≡ length es
  turns_count begins = refl
  turns_count (passes P w) = turns_count P
  turns_count (joins P s j) = let e = turns_count P in simp length-append (omega arith)

  pub turns_most : {m : ℕ} {es u past : List ℕ} → Turns D same t m es u past → length es ≤ m
  turns_most begins = omega arith
  turns_most (passes P w) = let h = turns_most P in omega arith
  turns_most (joins P s j) = let h = turns_most P in simp length-append (omega arith)

  -- fewer than had their turns, where one of these was passed over
  pub turns_fewer : {m : ℕ} {es u past : List ℕ} → Turns D same t m es u past → (e : ℕ) → e < m → ¬ (Taken es e) → length es < m
  turns_fewer begins e h n = absurd (omega arith)
  turns_fewer (passes P w) e h n = let k = turns_most P in omega arith
  turns_fewer (joins {m} {es = es} P s j) e h n =
      let not_last : e ≢ m = λ k. n ((has_last es m e).1 (inr k)) in
      let k = turns_fewer P e (omega arith) (λ a. n ((has_last es m e).1 (inl a))) in
      simp length-append (omega arith)

  -- all of them, where none was passed over
  pub turns_all : {m : ℕ} {es u past : List ℕ} → Turns D same t m es u past → ((e : ℕ) → e < m → Taken es e) → es ≡ rising 0 m
  unfolding rising
  turns_all begins all = refl
  turns_all (passes {m} P w) all = absurd (turns_ahead P m (omega arith) (all m (omega arith)))
  turns_all (joins {m} {es = es} P s j) all =
      let before = turns_all P (λ e h. ⊎_elim (λ a. a) (λ k. absurd (omega arith)) ((has_last es m e).0 (all e (omega arith)))) in
      ap (λ l. l ++ (m ∷ [])) before ∙ sym (rising_end 0 m ∙ ap (λ x. rising 0 m ++ (x ∷ [])) (omega arith))

-- ---- every edge has its turn

pub record Through (D : ℕ) (same : ℕ → Bool) (t : List ℕ) (m : ℕ) : Type 0 where
  pub edges : List ℕ
  pub table : List ℕ
  pub past : List ℕ
  pub turns : Turns D same t m edges table past

module _ (D : ℕ) (same : ℕ → Bool) (t : List ℕ) where
  -- an edge that is not gone is given 0, 9 or 11, and what is given 0 is taken
  one_turn : (m : ℕ) → m < D / 2 → Through D same t m → Through D same t (suc m)
  one_turn m below R = go (same m) refl (judged_three D R.table R.past m below stays)
    where
      stays : gone R.past (2 * m) ≡ false
      stays = not_T→false (gone R.past (2 * m)) (λ g. turns_ahead R.turns (2 * m / 2) (omega arith) ((turns_gone R.turns (2 * m)).0 g))

      go : (b : Bool) → same m ≡ b
          → (judge contraction D R.table R.past m ≡ 0)
          ⊎ ((judge contraction D R.table R.past m ≡ 9) ⊎ (judge contraction D R.table R.past m ≡ 11)) → Through D same t (suc m)
      go false s j = record { edges = R.edges; table = R.table; past = R.past; turns = passes R.turns (other s) }
      go true s (inl j) = record { edges = _; table = _; past = _; turns = joins R.turns s j }
      go true s (inr (inl j)) = record { edges = R.edges; table = R.table; past = R.past; turns = passes R.turns (nine s j) }
      go true s (inr (inr j)) = record { edges = R.edges; table = R.table; past = R.past; turns = passes R.turns (eleven s j) }

  all_turns : (m : ℕ) → m ≤ D / 2 → Through D same t m
  all_turns zero h = record { edges = []; table = t; past = []; turns = begins }
  all_turns (suc m) h = one_turn m (omega arith) (all_turns m (omega arith))

  pub merging_through : Through D same t (D / 2)
  merging_through = all_turns (D / 2) (omega arith)
