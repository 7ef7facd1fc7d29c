-- The start that is lent both sheets: "1, 2, then 3", and "16, by the start after 3, for metres not from 0 to 100,000 (a NaN is not) or stitches too many,
-- place the first such record".
--   Starting D t h w S == the ways that it ends, and why: 1, 2, 3 with both culprits, 16, or done
--   starting           == one of them it is
--   start_first        == 1 and 2, the sheets too, before all else
--   start_three        == 3, whatever the sheets hold
--   Sixteen D t S a    == a is answer 16: its place is the first such record, its second place 0
--   start_sixteen, start_zero == 16 where a record is not fit, done where all are
--   start_plain        == with sheets that are long enough and fit it is the plain start
--   start_refused, start_leaves, start_area, start_second == what it leaves
--   start_alike        == it does not tell sheets apart that are the same at the base's places
use mathlib.Core.List.{List, []}
use mathlib.Core.Logic.{◌≢◌, ◌⊎◌, inl, inr}
use mathlib.Core.Path.{◌≡◌, refl, sym, ap, ◌∙◌}
use Prim.Native.Nat.{ℕ, ◌<◌}
use native.Mathlib.Omega.{arith}
use lib.Dec.{T}
use lib.ListN.{length, take}
use Rattle.permutations.specs.Choice.{T?, eqb_same, eqb_other}
use Rattle.darts.specs.Answers.{Answer, answered, done, no_dart_count, too_short, no_permutation, unfit_record}
use Rattle.darts.specs.Map.{Verdict, permutes, culprits, permutation_test}
use Rattle.darts.specs.State.{zeros, base_state}
use Rattle.darts.specs.Pyramid.{dart_count}
use Rattle.darts.specs.Calls.{After, leaves, cleared, begins, start}
use Rattle.darts.proofs.Fitting.{Count, Lengths, count_facts, count_test}
use Rattle.laws.proofs.bridge.Verdicts.{not_permutes, same_culprits}
use Rattle.laws.proofs.calls.Outcomes as Plain
use Rattle.laws.proofs.sentences.Culprits.{Faulty}
use Rattle.laws.proofs.sentences.Order.{Answers, answers}
use Rattle.laws.proofs.sentences.Refusals.{Untouched}
use Rattle.laws.proofs.sentences.Start.{Three}
use Rattle.laws.proofs.sentences.Start as PlainStart
use Rattle.laws.proofs.sentences.WorkArea.{Area}
use Rattle.sheets.specs.Sheets.{Sheets}
use Rattle.yarn.specs.Given.{Looked, Fit}
use Rattle.yarn.specs.Calls.{fitting_of, first_unfit, begins_with, start_with}
use Rattle.yarn.proofs.sentences.Lengths.{Room, Fits, room?, lengths?, fitting_one, fitting_two, fitting_narrow, fitting_fine}
use Rattle.yarn.proofs.sentences.Order.{First, firsts}
use Rattle.yarn.proofs.sentences.Refused.{cleared_area}
use Rattle.yarn.proofs.sentences.Unfit.{Unfit, FirstUnfit, some_or_none, unfit_alike}

pub record Sixteen (D : ℕ) (t : List ℕ) (S : Sheets) (a : Answer) : Type 0 where
  pub number : a.number ≡ 16
  pub first : FirstUnfit D t S a.place
  pub second : a.second ≡ 0

pub data Starting (D : ℕ) (t h w : List ℕ) (S : Sheets) : Type 0 where
  no_count : ¬ (Count D) → (start_with D t h w S).plain ≡ leaves no_dart_count zeros t h w → Starting D t h w S
  no_room : Count D → ¬ (Fits D t h w S) → (start_with D t h w S).plain ≡ leaves too_short zeros t h w → Starting D t h w S
  no_base : Fits D t h w S → {d c : ℕ} → permutation_test D t ≡ culprits d c
      → (start_with D t h w S).plain ≡ leaves (no_permutation d c) zeros t h (cleared D w) → Starting D t h w S
  no_fit : Fits D t h w S → permutation_test D t ≡ permutes → {x : ℕ} → FirstUnfit D t S x
      → (start_with D t h w S).plain ≡ leaves (unfit_record x) zeros t h (cleared D w) → Starting D t h w S
  base : Fits D t h w S → permutation_test D t ≡ permutes → Fit D t S
      → (start_with D t h w S).plain ≡ leaves done (base_state D (take D t)) t h (cleared D w) → Starting D t h w S

module _ (D : ℕ) (t h w : List ℕ) (S : Sheets) where
  unfit : {a : Answer} → fitting_of D t h w S ≡ a → a.number ≢ 0 → (start_with D t h w S).plain ≡ leaves a zeros t h w
  unfolding start_with
  unfit e n = rw (e, eqb_other n)

  begun : Fits D t h w S → {v : Verdict} → permutation_test D t ≡ v → (start_with D t h w S).plain ≡ begins_with D t h w S v
  unfolding start_with
  begun F e = rw (fitting_fine D t h w S F, e)

  pub starting : Starting D t h w S
  unfolding begins_with begins
  starting = go (T? (dart_count D)) (lengths? D t h w S) (room? D t h w S)
    where
      fit : Fits D t h w S → permutation_test D t ≡ permutes → FirstUnfit D t S (first_unfit D t S) ⊎ ((first_unfit D t S ≡ D) × Fit D t S) → Starting D t h w S
      fit F e (inl u) = no_fit F e u (begun F e ∙ rw (eqb_other {m = first_unfit D t S} {n = D} (λ z. omega (arith, u.dart))))
      fit F e (inr (z, k)) = base F e k (begun F e ∙ rw (eqb_same z))

      tested : Fits D t h w S → (v : Verdict) → permutation_test D t ≡ v → Starting D t h w S
      tested F (culprits d c) e = no_base F e (begun F e)
      tested F permutes e = fit F e (some_or_none D t S)

      go : Dec (T (dart_count D)) → Dec (Lengths D (length t) (length h) (length w)) → Dec (Room D S) → Starting D t h w S
      go (no n) l r =
          let c : ¬ (Count D) = λ k. n (count_test D k) in
          no_count c (unfit (fitting_one D t h w S c) (λ z. omega arith))
      go (yes c) (no n) r = no_room (count_facts D c) (λ F. n F.lengths) (unfit (fitting_two D t h w S (count_facts D c) n) (λ z. omega arith))
      go (yes c) (yes l) (no n) = no_room (count_facts D c) (λ F. n F.room) (unfit (fitting_narrow D t h w S (count_facts D c) n) (λ z. omega arith))
      go (yes c) (yes l) (yes r) = tested (record { count = count_facts D c; lengths = l; room = r }) (permutation_test D t) refl

  -- ---- the order

  pub start_first : First D t h w S (start_with D t h w S).plain.answer
  start_first =
      firsts (λ n. so (unfit (fitting_one D t h w S n) (λ z. omega arith))) (λ c n. so (unfit (fitting_two D t h w S c n) (λ z. omega arith)))
      (λ c n. so (unfit (fitting_narrow D t h w S c n) (λ z. omega arith)))
    where
      so : {n : ℕ} → (start_with D t h w S).plain ≡ leaves (answered n 0) zeros t h w → Answers (start_with D t h w S).plain.answer n 0
      so e = answers (ap (λ (r : After). r.answer) e)

  -- ---- the plain start

  -- ONCE ALL RECORDS OF THE BASE ARE FIT, IT IS THE PLAIN START; 3 comes before them
  pub start_plain : Room D S → (permutation_test D t ≡ permutes → Fit D t S) → (start_with D t h w S).plain ≡ start D t h w
  start_plain R fit = go starting (Plain.starting D t h w)
    where
      go : Starting D t h w S → Plain.Starting D t h w → (start_with D t h w S).plain ≡ start D t h w
      go (no_count n e) (Plain.no_count m f) = e ∙ sym f
      go (no_count n e) (Plain.no_room c l f) = absurd (n c)
      go (no_count n e) (Plain.no_base c l m f) = absurd (n c)
      go (no_count n e) (Plain.base c l m f) = absurd (n c)
      go (no_room c n e) (Plain.no_count m f) = absurd (m c)
      go (no_room c n e) (Plain.no_room k l f) = e ∙ sym f
      go (no_room c n e) (Plain.no_base k l m f) = absurd (n (record { count = c; lengths = l; room = R }))
      go (no_room c n e) (Plain.base k l m f) = absurd (n (record { count = c; lengths = l; room = R }))
      go (no_base F m e) (Plain.no_count k f) = absurd (k F.count)
      go (no_base F m e) (Plain.no_room c l f) = absurd (l F.lengths)
      go (no_base F m e) (Plain.no_base c l k f) = let (d, o) = same_culprits (sym m ∙ k) in e ∙ rw (d, o) (sym f)
      go (no_base F m e) (Plain.base c l k f) = absurd (not_permutes (sym m ∙ k))
      go (no_fit F m u e) p = absurd (u.such.unfit ((fit m).each _ u.dart u.such.place))
      go (base F m k e) (Plain.no_count c f) = absurd (c F.count)
      go (base F m k e) (Plain.no_room c l f) = absurd (l F.lengths)
      go (base F m k e) (Plain.no_base c l n f) = absurd (not_permutes (sym n ∙ m))
      go (base F m k e) (Plain.base c l n f) = e ∙ sym f

  -- ---- 3, 16, and done

  module _ (F : Fits D t h w S) where
    -- a dart whose successor is out of range, or repeats a lower dart's
    faulty_not : (p : ℕ) → p < D → Faulty D t p → permutation_test D t ≢ permutes
    faulty_not p l f e = go (Plain.starting D t h w) (PlainStart.start_three D t h w F.count F.lengths p l f).number
      where
        go : Plain.Starting D t h w → (start D t h w).answer.number ≡ 3 → ⊥
        go (Plain.no_count c k) z = c F.count
        go (Plain.no_room c n k) z = n F.lengths
        go (Plain.no_base c n m k) z = not_permutes (sym m ∙ e)
        go (Plain.base c n m k) z = let o : ◌≡◌ {A = ℕ} 0 3 = rw k at z in omega arith

    -- "16, by the start after 3": 3 WHATEVER THE SHEETS HOLD
    pub start_three : (p : ℕ) → p < D → Faulty D t p → Three D t (start_with D t h w S).plain.answer
    start_three p l f =
        rw (start_plain F.room (λ e. absurd (faulty_not p l f e))) (PlainStart.start_three D t h w F.count F.lengths p l f)

    module _ (fine : (p : ℕ) → p < D → ¬ (Faulty D t p)) where
      fine_permutes : permutation_test D t ≡ permutes
      fine_permutes = go (Plain.starting D t h w) (PlainStart.start_zero D t h w F.count F.lengths fine).number
        where
          go : Plain.Starting D t h w → (start D t h w).answer.number ≡ 0 → permutation_test D t ≡ permutes
          go (Plain.no_count c k) z = absurd (c F.count)
          go (Plain.no_room c n k) z = absurd (n F.lengths)
          go (Plain.no_base c n m k) z = absurd (let o : 3 ≡ 0 = rw k at z in omega arith)
          go (Plain.base c n m k) z = m

      -- "place the first such record"
      pub start_sixteen : (p : ℕ) → p < D → Unfit D t S p → Sixteen D t S (start_with D t h w S).plain.answer
      start_sixteen p l u = go starting
        where
          go : Starting D t h w S → Sixteen D t S (start_with D t h w S).plain.answer
          go (no_count n e) = absurd (n F.count)
          go (no_room c n e) = absurd (n F)
          go (no_base G m e) = absurd (not_permutes (sym m ∙ fine_permutes))
          go (no_fit G m k e) = rw e (record { number = refl; first = k; second = refl })
          go (base G m k e) = absurd (u.unfit (k.each p l u.place))

      pub start_zero : Fit D t S → Answers (start_with D t h w S).plain.answer 0 0
      start_zero k = rw (start_plain F.room (λ _. k)) (PlainStart.start_zero D t h w F.count F.lengths fine)

  -- ---- what it leaves

  -- "A refused start .. hands back a state of zeros."
  pub start_refused : (start_with D t h w S).plain.answer.number ≢ 0 → (start_with D t h w S).plain.state ≡ zeros
  start_refused n = go starting
    where
      go : Starting D t h w S → (start_with D t h w S).plain.state ≡ zeros
      go (no_count m e) = rw e
      go (no_room c m e) = rw e
      go (no_base F m e) = rw e
      go (no_fit F m k e) = rw e
      go (base F m k e) = absurd (n (rw e))

  pub start_leaves : Untouched t h (start_with D t h w S).plain.table (start_with D t h w S).plain.history
  start_leaves = go starting
    where
      go : Starting D t h w S → Untouched t h (start_with D t h w S).plain.table (start_with D t h w S).plain.history
      go (no_count m e) = rw e (record { table = refl; history = refl })
      go (no_room c m e) = rw e (record { table = refl; history = refl })
      go (no_base F m e) = rw e (record { table = refl; history = refl })
      go (no_fit F m k e) = rw e (record { table = refl; history = refl })
      go (base F m k e) = rw e (record { table = refl; history = refl })

  -- "1 and 2 write nothing at all", every other answer leaves the first 4D numbers zero, 16 too
  pub start_area : Area (start_with D t h w S).plain.answer.number D w (start_with D t h w S).plain.work
  start_area = go starting
    where
      go : Starting D t h w S → Area (start_with D t h w S).plain.answer.number D w (start_with D t h w S).plain.work
      go (no_count m e) = rw e (record { kept = λ _. refl; zeroed = λ one two. absurd (one refl) })
      go (no_room c m e) = rw e (record { kept = λ _. refl; zeroed = λ one two. absurd (two refl) })
      go (no_base F m e) = rw e (cleared_area D w 3 (λ z. omega arith) (λ z. omega arith) F.lengths.work)
      go (no_fit F m k e) = rw e (cleared_area D w 16 (λ z. omega arith) (λ z. omega arith) F.lengths.work)
      go (base F m k e) = rw e (cleared_area D w 0 (λ z. omega arith) (λ z. omega arith) F.lengths.work)

  -- "every other answer has 0 there": every one but 3
  pub start_second : (start_with D t h w S).plain.answer.number ≢ 3 → (start_with D t h w S).plain.answer.second ≡ 0
  start_second n = go starting
    where
      go : Starting D t h w S → (start_with D t h w S).plain.answer.second ≡ 0
      go (no_count m e) = rw e
      go (no_room c m e) = rw e
      go (no_base F m e) = absurd (n (rw e))
      go (no_fit F m k e) = rw e
      go (base F m k e) = rw e

-- ---- what it looks at

module _ (D : ℕ) (t h w : List ℕ) (S Z : Sheets) (looked : Looked D t [] S Z) where
  begins_alike : (v : Verdict) → begins_with D t h w S v ≡ begins_with D t h w Z v
  unfolding begins_with
  begins_alike permutes = rw (unfit_alike D t S Z looked)
  begins_alike (culprits d c) = refl

  -- "(the others are not looked at)": sheets of the same lengths that are the same at the base's places are started alike
  pub start_alike : length S.sheet ≡ length Z.sheet → length S.kept ≡ length Z.kept → (start_with D t h w S).plain ≡ (start_with D t h w Z).plain
  unfolding start_with fitting_of
  start_alike m n = rw (m, n, begins_alike (permutation_test D t))
