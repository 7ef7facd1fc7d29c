-- The shape of a state: the level ends cut the history into levels of one kind each.
--   raised_by s marks  == the state s, with one level more for each of the marks
--   last_of from marks == the last of the marks, or `from` where there is none
use mathlib.Core.List.{List, [], ◌∷◌, ◌++◌, map, reverse, cons≢nil}
use mathlib.Core.Logic.Iff
use mathlib.Core.Logic.{◌↔◌}
use mathlib.Core.Path.{◌≡◌, refl, sym, ap, ◌∙◌, subst}
use Prim.Native.Nat.{ℕ, zero, suc, ◌+◌, ◌-◌, ◌<◌, ◌≤◌}
use native.Mathlib.Numerals.{add-one}
use native.Mathlib.Nat.{zero-add}
use native.Mathlib.Omega.{arith}
use lib.Dec.{T, eqb, leb, ltb, leb→le, le→leb, ltb→lt, lt→ltb}
use lib.ListN.{length, set, take, drop, get_or, replicate, get_or-replicate, length-replicate, length-append, length-drop, length-reverse, take-append-drop}
use lib.Seq.{drop-length, take-append-le, drop-append-le, get_or-drop, sets, sets-eq, ext_get_or, take-length, length-take-le}
use Rattle.permutations.specs.Choice.{eqb_iff, and_iff, and_intro, and_left, and_right}
use Rattle.darts.specs.Operation.{Kind, contraction, removal, kind_of}
use Rattle.darts.specs.State.{State, storing, base_state, raised}
use Rattle.laws.proofs.runs.Ends.{Rising, Layered, Stores, state_path}
use Rattle.darts.specs.Tests.{same_kind, of_kind, one_kind, rises, zeros, shaped}

-- ---- one kind

pub same_kind_lem : (k c : Kind) → T (same_kind k c) ↔ (k ≡ c)
unfolding same_kind
same_kind_lem removal removal = (λ t. refl, λ e. tt)
same_kind_lem removal contraction = (λ t. absurd t, λ e. subst (λ c. T (same_kind removal c)) e tt)
same_kind_lem contraction removal = (λ t. absurd t, λ e. subst (λ c. T (same_kind contraction c)) e tt)
same_kind_lem contraction contraction = (λ t. refl, λ e. tt)

-- numbers that are all of kind k
of_kind_lem : (k : Kind) (numbers es : List ℕ) → map kind_of numbers ≡ map (λ e. k) es → T (of_kind k numbers)
unfolding of_kind
of_kind_lem k [] es c = tt
of_kind_lem k (h ∷ hs) [] c = absurd (cons≢nil c)
of_kind_lem k (h ∷ hs) (e ∷ es) c = and_intro (same_kind k (kind_of h)) (of_kind k hs) ((same_kind_lem k (kind_of h)).1 cc) (of_kind_lem k hs es cc)

pub one_kind_lem : (k : Kind) (numbers es : List ℕ) → map kind_of numbers ≡ map (λ e. k) es → T (one_kind numbers)
unfolding one_kind of_kind
one_kind_lem k [] es c = tt
one_kind_lem k (h ∷ hs) es c =
    let all = of_kind_lem k (h ∷ hs) es c in
    let first = (same_kind_lem k (kind_of h)).0 (and_left (same_kind k (kind_of h)) (of_kind k hs) all) in
    rw (← first) (and_right (same_kind k (kind_of h)) (of_kind k hs) all)

-- ---- ends that rise

module _ (from m : ℕ) (ms hs : List ℕ) where
  pub rises_iff : T (rises from (m ∷ ms) hs)
      ↔ ((from < m) × ((m - from ≤ length hs) × (T (one_kind (take (m - from) hs)) × T (rises m ms (drop (m - from) hs)))))
  unfolding rises
  rises_iff =
      and_iff (ltb from m) _ (ltb→lt from m, lt→ltb from m)
      (λ _. and_iff (leb (m - from) (length hs)) _ (leb→le (m - from) (length hs), le→leb (m - from) (length hs))
      (λ _. and_iff (one_kind (take (m - from) hs)) _ Iff.rfl (λ _. Iff.rfl)))

rises_rising : (from : ℕ) (marks hs : List ℕ) → T (rises from marks hs) → Rising from marks (from + length hs)
unfolding rises
rises_rising from [] [] r = omega arith
rises_rising from [] (h ∷ hs) r = absurd r
rises_rising from (m ∷ ms) hs r =
    let (up, (room, (one, rest))) = (rises_iff from m ms hs).0 r in
    let e : m + length (drop (m - from) hs) ≡ from + length hs = simp length-drop (omega arith) in
    (up, subst (Rising m ms) e (rises_rising m ms (drop (m - from) hs) rest))

-- one level more
pub rises_more : (from : ℕ) (marks hs numbers : List ℕ) → T (rises from marks hs) → T (one_kind numbers) → 0 < length numbers
    → T (rises from (marks ++ ((from + length hs + length numbers) ∷ [])) (hs ++ numbers))
unfolding rises
rises_more from [] [] numbers r one some =
    let m = from + 0 + length numbers in
    let all : m - from ≡ length numbers = omega arith in
    (rises_iff from m [] numbers).1 (omega arith, (omega arith, (rw (all, take-length numbers) one, rw (all, drop-length numbers) tt)))
rises_more from [] (h ∷ hs) numbers r one some = absurd r
rises_more from (m ∷ ms) hs numbers r one some =
    let (up, (room, (first, rest))) = (rises_iff from m ms hs).0 r in
    let e : m + length (drop (m - from) hs) + length numbers ≡ from + length hs + length numbers = simp length-drop (omega arith) in
    (rises_iff from m (ms ++ ((from + length hs + length numbers) ∷ [])) (hs ++ numbers)).1 (
      up,
      (
        simp length-append (omega arith),
        (
          rw (take-append-le (m - from) hs numbers) first,
          rw (drop-append-le (m - from) hs numbers, ← e) (rises_more m ms (drop (m - from) hs) numbers rest one some),
        ),
      ),
    )

-- ---- unused ends

zeros_iff : (ends : List ℕ) → T (zeros ends) ↔ ((i : ℕ) → get_or ends i 0 ≡ 0)
unfolding zeros
zeros_iff [] = (λ z i. refl, λ f. tt)
zeros_iff (end ∷ ends) =
    let i = and_iff (eqb end 0) (zeros ends) (eqb_iff end 0) (λ _. zeros_iff ends) in
    (λ z. place (i.0 z), λ f. i.1 (f 0, λ j. f (suc j)))
  where
    place : (end ≡ 0) × ((i : ℕ) → get_or ends i 0 ≡ 0) → (i : ℕ) → get_or (end ∷ ends) i 0 ≡ 0
    place (e, f) zero = e
    place (e, f) (suc i) = f i

unused_iff : (ends : List ℕ) (l : ℕ) → T (zeros (drop l ends)) ↔ ((i : ℕ) → l ≤ i → get_or ends i 0 ≡ 0)
unused_iff ends l = (
  λ z i h. let e : l + (i - l) ≡ i = omega arith in rw (← e, ← get_or-drop l ends (i - l) 0) ((zeros_iff (drop l ends)).0 z (i - l)),
  λ f. (zeros_iff (drop l ends)).1 (λ i. get_or-drop l ends i 0 ∙ f (l + i) (omega arith)),
)

-- THE SHAPE IS THAT OF A STATE WITH THESE LEVELS, EACH OF ONE KIND
pub shaped_iff : (s : State) (past : List ℕ)
    → T (shaped s (reverse past)) ↔ (Layered s.darts s past × T (rises 0 (take s.levels s.ends) (reverse past)))
unfolding shaped
shaped_iff s past = (
  λ t. let (count, (most, (size, (unused, rise)))) = tests.0 t in (
    record {
      size = refl;
      count = count ∙ length-reverse past;
      most = most;
      sixty_four = size;
      rise = subst (Rising 0 marks) (zero-add (length (reverse past)) ∙ sym count) (rises_rising 0 marks (reverse past) rise);
      unused = unused;
    },
    rise,
  ),
  λ (L, rise). tests.1 (L.count ∙ sym (length-reverse past), (L.most, (L.sixty_four, (L.unused, rise)))),
)
  where
    marks : List ℕ
    marks = take s.levels s.ends

    tests : T (shaped s (reverse past)) ↔ ((s.operations ≡ length (reverse past)) × ((s.levels ≤ 64) × ((length s.ends ≡ 64)
        × (((i : ℕ) → s.levels ≤ i → get_or s.ends i 0 ≡ 0) × T (rises 0 (take s.levels s.ends) (reverse past))))))
    tests =
        and_iff (eqb s.operations (length (reverse past))) _ (eqb_iff s.operations (length (reverse past)))
        (λ _. and_iff (leb s.levels 64) _ (leb→le s.levels 64, le→leb s.levels 64)
        (λ _. and_iff (eqb (length s.ends) 64) _ (eqb_iff (length s.ends) 64)
        (λ _. and_iff (zeros (drop s.levels s.ends)) _ (unused_iff s.ends s.levels) (λ _. Iff.rfl))))

-- ---- the state that the ends are told from

unfoldable pub last_of : ℕ → List ℕ → ℕ
last_of from [] = from
last_of from (m ∷ ms) = last_of m ms

marks_end : (from : ℕ) (marks : List ℕ) (to : ℕ) → Rising from marks to → last_of from marks ≡ to
unfolding last_of
marks_end from [] to r = r
marks_end from (m ∷ ms) to r = marks_end m ms to r.1

-- the state s once levels with these ends are over it, with the numbers of this table and past
unfoldable pub raised_by : State → List ℕ → List ℕ → List ℕ → State
raised_by s marks t past = storing s.darts (last_of s.operations marks) (s.levels + length marks) (sets s.ends s.levels marks) t past

pub raised_none : {s : State} {t past : List ℕ} → Stores s t past → s ≡ raised_by s [] t past
unfolding raised_by last_of
raised_none N = state_path refl refl (omega arith) refl N.vertices N.faces

pub raised_more : (s : State) (u new marks t past : List ℕ) → raised_by (raised s u new) marks t past ≡ raised_by s (length new ∷ marks) t past
unfolding raised_by raised last_of
raised_more s u new marks t past =
    state_path refl refl (omega arith) (ap (λ l. sets (set s.ends s.levels (length new)) l marks) (add-one s.levels)) refl refl

-- the used ends over zeros are all the ends
over_zeros : (n : ℕ) (ends : List ℕ) (l : ℕ) → length ends ≡ n → l ≤ n
    → ((i : ℕ) → l ≤ i → get_or ends i 0 ≡ 0) → sets (replicate n 0) 0 (take l ends) ≡ ends
over_zeros n ends l size most unused =
    sets-eq (take l ends) (replicate n 0) 0 (simp (length-replicate, zero-add, used) most)
    ∙ ap (λ m. take l ends ++ drop m (replicate n 0)) (zero-add (length (take l ends)) ∙ used)
    ∙ ap (λ r. take l ends ++ r) rest ∙ take-append-drop l ends
  where
    used : length (take l ends) ≡ l
    used = length-take-le l ends (omega arith)

    rest : drop l (replicate n 0) ≡ drop l ends
    rest = ext_get_or 0 (drop l (replicate n 0)) (drop l ends) (simp (length-drop, length-replicate) (omega arith)) (λ i h.
        let b : i < n - l = simp (length-drop, length-replicate) at h in
        get_or-drop l (replicate n 0) i 0 ∙ get_or-replicate n (l + i) 0 0 (omega arith) ∙ sym (get_or-drop l ends i 0 ∙ unused (l + i) (omega arith)))

-- A STATE IS TOLD BY ITS LEVEL ENDS
pub layered_told : (s : State) (b t new : List ℕ) {past : List ℕ} → Layered s.darts s past → Stores s t new
    → raised_by (base_state s.darts b) (take s.levels s.ends) t new ≡ s
unfolding raised_by
layered_told s b t new L N =
    state_path refl (marks_end 0 marks s.operations L.rise) (zero-add (length marks) ∙ used)
    (over_zeros 64 s.ends s.levels L.sixty_four L.most L.unused) (sym N.vertices) (sym N.faces)
  where
    marks : List ℕ
    marks = take s.levels s.ends

    used : length marks ≡ s.levels
    used = length-take-le s.levels s.ends (let h = L.sixty_four in let k = L.most in omega arith)
