-- The sentences of document 02, request Four, about the call: its answers and their places, what a refusal gives, the lent slices.
--   OneOf n               == the numbers that it answers
--   Ordered D k x t h w n == n is answered exactly when it is the first one that is due
--   Placed a top          == the place of the answer a
--   Kept t h l            == table and ends are as they were
--   Nothing f             == dart 0 and count 0
--   successor_order       == the order of the answers
--   successor_first       == 1 and 2 as every call has them
--   successor_place, successor_second == 12 has the top as its place, every other place is 0
--   successor_refused     == "a refusal gives dart 0 and count 0"
--   successor_found       == an accepted call gives the walk's dart, and the walk's own count
--   successor_kept, successor_long, successor_area == the lent slices
use mathlib.Core.List.{List}
use mathlib.Core.Logic.{◌≢◌, ◌↔◌, ◌⊎◌, inl, inr}
use mathlib.Core.Path.{◌≡◌, refl, ap, subst}
use Prim.Native.Nat.{ℕ, ◌*◌, ◌/◌, ◌≤◌, ◌<◌}
use native.Mathlib.Omega.{arith}
use lib.Dec.{T}
use lib.ListN.{length, take}
use Rattle.permutations.specs.Choice.{eqb_same, eqb_other}
use Rattle.darts.specs.Answers.{Answer}
use Rattle.darts.specs.Calls.{work_after, cleared}
use Rattle.darts.proofs.Fitting.{Count, Lengths}
use Rattle.laws.proofs.calls.Cleared.{cleared_length}
use Rattle.laws.proofs.sentences.Order.{Answers, answers, First}
use Rattle.laws.proofs.sentences.WorkArea.{Area, cleared_zeroed}
use Rattle.ends.specs.Ends.{gone_by, top}
use Rattle.ends.specs.Walk.{Found, walk}
use Rattle.ends.specs.Comes.{comes}
use Rattle.ends.specs.Lookup.{Looked, judged, successor_at}
use Rattle.ends.proofs.Judged.{Fitting, Pyramidal, Reaching, Asking, Looking, is_1, is_2, is_4, is_12, is_7, is_8, is_0, looking, Why, why, judged_1, judged_2, judged_4, judged_12, judged_7, judged_8, judged_0}

pub data OneOf (n : ℕ) : Type 0 where
  answer_0 : n ≡ 0 → OneOf n
  answer_1 : n ≡ 1 → OneOf n
  answer_2 : n ≡ 2 → OneOf n
  answer_4 : n ≡ 4 → OneOf n
  answer_7 : n ≡ 7 → OneOf n
  answer_8 : n ≡ 8 → OneOf n
  answer_12 : n ≡ 12 → OneOf n

-- "Refusals: after 1 and 2, 4 if the table and ends come from no pyramid, then 12 for k, then 7 for a dart of D or more, then 8 for a dart gone by
-- then"
pub record Ordered (D k x : ℕ) (t h w : List ℕ) (n : ℕ) : Type 0 where
  pub one : (n ≡ 1) ↔ (¬ (Count D))
  pub two : (n ≡ 2) ↔ (Count D × (¬ (Lengths D (length t) (length h) (length w))))
  pub four : (n ≡ 4) ↔ (Fitting D t h w × (¬ (T (comes D (take D t) (take (D / 2) h)))))
  pub twelve : (n ≡ 12) ↔ (Pyramidal D t h w × (top (take (D / 2) h) < k))
  pub seven : (n ≡ 7) ↔ (Reaching D k t h w × (D ≤ x))
  pub eight : (n ≡ 8) ↔ (Asking D k x t h w × T (gone_by k (take (D / 2) h) x))
  pub zero : (n ≡ 0) ↔ (Asking D k x t h w × (¬ (T (gone_by k (take (D / 2) h) x))))
  pub no_other : OneOf n

-- 12: "the top level"; "7 and 8 have place 0"
pub record Placed (a : Answer) (top : ℕ) : Type 0 where
  pub twelve : a.number ≡ 12 → a.place ≡ top
  pub others : a.number ≢ 12 → a.place ≡ 0

pub record Kept (t h : List ℕ) (l : Looked) : Type 0 where
  pub table : l.table ≡ t
  pub ends : l.ends ≡ h

pub record Nothing (f : Found) : Type 0 where
  pub dart : f.dart ≡ 0
  pub passed : f.passed ≡ 0

module _ (D k x : ℕ) (t h w : List ℕ) where
  numbered : {a : Answer} → judged D k x t h w ≡ a → (successor_at D k x t h w).answer.number ≡ a.number
  unfolding successor_at
  numbered e = ap (λ (a : Answer). a.number) e

  because : (n : ℕ) → (successor_at D k x t h w).answer.number ≡ n → Why D k x t h w n
  unfolding successor_at
  because n e = subst (Why D k x t h w) e (why D k x t h w)

  no_other : OneOf (successor_at D k x t h w).answer.number
  no_other = go (looking D k x t h w)
    where
      go : Looking D k x t h w → OneOf (successor_at D k x t h w).answer.number
      go (is_1 n e) = answer_1 (numbered e)
      go (is_2 c n e) = answer_2 (numbered e)
      go (is_4 F n e) = answer_4 (numbered e)
      go (is_12 P l e) = answer_12 (numbered e)
      go (is_7 R l e) = answer_7 (numbered e)
      go (is_8 A g e) = answer_8 (numbered e)
      go (is_0 A n e) = answer_0 (numbered e)

  -- EACH ANSWER EXACTLY WHEN IT IS THE FIRST ONE DUE
  pub successor_order : Ordered D k x t h w (successor_at D k x t h w).answer.number
  successor_order = record {
    one = (because 1, λ n. numbered (judged_1 D k x t h w n));
    two = (because 2, λ c. numbered (judged_2 D k x t h w c.0 c.1));
    four = (because 4, λ c. numbered (judged_4 D k x t h w c.0 c.1));
    twelve = (because 12, λ c. numbered (judged_12 D k x t h w c.0 c.1));
    seven = (because 7, λ c. numbered (judged_7 D k x t h w c.0 c.1));
    eight = (because 8, λ c. numbered (judged_8 D k x t h w c.0 c.1));
    zero = (because 0, λ c. numbered (judged_0 D k x t h w c.0 c.1));
    no_other = no_other;
  }

  -- 1 and 2 as every call has them: each slice that is too short is a fault by itself
  pub successor_first : First D (length t) (length h) (length w) (successor_at D k x t h w).answer
  unfolding successor_at
  successor_first = record {
    one = λ n. answers (judged_1 D k x t h w n);
    two = two;
    short_table = λ c l. two c (λ L. omega (arith, L.table));
    short_history = λ c l. two c (λ L. omega (arith, L.history));
    short_work = λ c l. two c (λ L. omega (arith, L.work));
  }
    where
      two : Count D → ¬ (Lengths D (length t) (length h) (length w)) → Answers (judged D k x t h w) 2 0
      two c n = answers (judged_2 D k x t h w c n)

  pub successor_place : Placed (successor_at D k x t h w).answer (top (take (D / 2) h))
  unfolding successor_at
  successor_place = go (looking D k x t h w)
    where
      go : Looking D k x t h w → Placed (judged D k x t h w) (top (take (D / 2) h))
      go (is_1 n e) = rw e (record { twelve = λ i. omega arith; others = λ _. refl })
      go (is_2 c n e) = rw e (record { twelve = λ i. omega arith; others = λ _. refl })
      go (is_4 F n e) = rw e (record { twelve = λ i. omega arith; others = λ _. refl })
      go (is_12 P l e) = rw e (record { twelve = λ _. refl; others = λ n. absurd (n refl) })
      go (is_7 R l e) = rw e (record { twelve = λ i. omega arith; others = λ _. refl })
      go (is_8 A g e) = rw e (record { twelve = λ i. omega arith; others = λ _. refl })
      go (is_0 A n e) = rw e (record { twelve = λ i. omega arith; others = λ _. refl })

  -- "every other answer has 0 there" (request Three): this call never answers 3
  pub successor_second : (successor_at D k x t h w).answer.second ≡ 0
  unfolding successor_at
  successor_second = go (looking D k x t h w)
    where
      go : Looking D k x t h w → (judged D k x t h w).second ≡ 0
      go (is_1 n e) = rw e
      go (is_2 c n e) = rw e
      go (is_4 F n e) = rw e
      go (is_12 P l e) = rw e
      go (is_7 R l e) = rw e
      go (is_8 A g e) = rw e
      go (is_0 A n e) = rw e

  -- "a refusal gives dart 0 and count 0"
  pub successor_refused : (successor_at D k x t h w).answer.number ≢ 0 → Nothing (successor_at D k x t h w).found
  unfolding successor_at
  successor_refused n = rw (eqb_other n) (record { dart = refl; passed = refl })

  -- "The answer carries the number of gone darts passed, equal to the walk's own count"
  pub successor_found : (successor_at D k x t h w).answer.number ≡ 0 → (successor_at D k x t h w).found ≡ walk D k (take D t) (take (D / 2) h) x
  unfolding successor_at
  successor_found e = rw (eqb_same e)

  -- ---- the lent slices

  -- table and ends are only read, whatever the answer
  pub successor_kept : Kept t h (successor_at D k x t h w)
  unfolding successor_at
  successor_kept = record { table = refl; ends = refl }

  kept_area : (n : ℕ) → (n ≡ 1) ⊎ (n ≡ 2) → Area n D w w
  kept_area n (inl e) = record { kept = λ _. refl; zeroed = λ one two. absurd (one e) }
  kept_area n (inr e) = record { kept = λ _. refl; zeroed = λ one two. absurd (two e) }

  done_area : (n : ℕ) → n ≢ 1 → n ≢ 2 → 4 * D ≤ length w → Area n D w (cleared D w)
  done_area n one two room = record { kept = kept; zeroed = λ _ _. cleared_zeroed D w room }
    where
      kept : (n ≡ 1) ⊎ (n ≡ 2) → cleared D w ≡ w
      kept (inl e) = absurd (one e)
      kept (inr e) = absurd (two e)

  -- "After every call except those answered 1 or 2 the work area's first 4D numbers are zero; 1 and 2 write nothing at all"
  pub successor_area : Area (successor_at D k x t h w).answer.number D w (successor_at D k x t h w).work
  unfolding successor_at work_after
  successor_area = go (looking D k x t h w)
    where
      other : (n : ℕ) → n ≢ 1 → n ≢ 2 → Fitting D t h w → Area n D w (cleared D w)
      other n one two F = done_area n one two F.lengths.work

      go : Looking D k x t h w → Area (judged D k x t h w).number D w (work_after (judged D k x t h w) D w)
      go (is_1 n e) = rw e (kept_area 1 (inl refl))
      go (is_2 c n e) = rw e (kept_area 2 (inr refl))
      go (is_4 F n e) = rw e (other 4 (λ i. omega arith) (λ i. omega arith) F)
      go (is_12 P l e) = rw e (other 12 (λ i. omega arith) (λ i. omega arith) P.fits)
      go (is_7 R l e) = rw e (other 7 (λ i. omega arith) (λ i. omega arith) R.pyramid.fits)
      go (is_8 A g e) = rw e (other 8 (λ i. omega arith) (λ i. omega arith) A.reaching.pyramid.fits)
      go (is_0 A n e) = rw e (other 0 (λ i. omega arith) (λ i. omega arith) A.reaching.pyramid.fits)

  pub successor_long : length (successor_at D k x t h w).work ≡ length w
  unfolding successor_at work_after
  successor_long = go (looking D k x t h w)
    where
      go : Looking D k x t h w → length (work_after (judged D k x t h w) D w) ≡ length w
      go (is_1 n e) = rw e
      go (is_2 c n e) = rw e
      go (is_4 F n e) = rw e (cleared_length D w F.lengths.work)
      go (is_12 P l e) = rw e (cleared_length D w P.fits.lengths.work)
      go (is_7 R l e) = rw e (cleared_length D w R.pyramid.fits.lengths.work)
      go (is_8 A g e) = rw e (cleared_length D w A.reaching.pyramid.fits.lengths.work)
      go (is_0 A n e) = rw e (cleared_length D w A.reaching.pyramid.fits.lengths.work)
