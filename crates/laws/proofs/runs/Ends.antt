-- The level ends of a state, and the kernels into which they cut the past.
--   Rising from marks to == the marks rise strictly, the first above `from`, the last at `to`
--   Layered D s past     == the state s, of D darts, has the operation count and the level ends of this past
--   Stores s t past      == the state s stores the numbers of its vertices and faces
use mathlib.Core.Bool.{false}
use mathlib.Core.List.{List, [], ◌∷◌, ◌++◌, reverse}
use mathlib.Core.Path.{◌≡◌, refl, sym, ◌∙◌, ap}
use Prim.Native.Nat.{ℕ, zero, suc, ◌+◌, ◌-◌, ◌<◌, ◌≤◌}
use native.Mathlib.Numerals.{add-one}
use native.Mathlib.Omega.{arith}
use lib.Dec.{leb, leb→le}
use lib.ListN.{length, take, drop, set, get_or, replicate, length-set, length-reverse, length-drop, length-append}
use lib.Seq.{take-suc, take-suc-set, take-append-le, drop-append-le, take-length, get_or-set_other, set-set, set-get_or}
use Rattle.permutations.specs.Choice.{not_T→false}
use Rattle.std.proofs.Common.{if◌then◌else◌}
use Rattle.darts.specs.State.{State, base_state, raised}
use Rattle.darts.specs.Levels.{end_below, lowered}
use Rattle.darts.specs.Pyramid.{kernel_of, cut, kernels_of}
use Rattle.darts.specs.Counts.{counts_of}
use Rattle.laws.proofs.Lists.{reverse_onto}

abbrev pub Rising : ℕ → List ℕ → ℕ → Type 0
Rising from [] to = from ≡ to
Rising from (m ∷ ms) to = (from < m) × Rising m ms to

-- "The state carries D, the number of operations, the number of levels, and the 64 level ends [..] (the operation count after each kernel, zero when
-- unused)."
pub record Layered (D : ℕ) (s : State) (past : List ℕ) : Type 0 where
  pub size : s.darts ≡ D
  pub count : s.operations ≡ length past
  pub most : s.levels ≤ 64
  pub sixty_four : length s.ends ≡ 64
  pub rise : Rising 0 (take s.levels s.ends) s.operations
  pub unused : (i : ℕ) → s.levels ≤ i → get_or s.ends i 0 ≡ 0

-- "Store both numbers in the state."
pub record Stores (s : State) (t past : List ℕ) : Type 0 where
  pub vertices : s.vertices ≡ (counts_of s.darts t past).vertices
  pub faces : s.faces ≡ (counts_of s.darts t past).faces

-- ---- marks that rise

rising_order : (from : ℕ) (marks : List ℕ) (to : ℕ) → Rising from marks to → from ≤ to
rising_order from [] to r = omega arith
rising_order from (m ∷ ms) to r = let h = rising_order m ms to r.1 in omega arith

rising_on : (from : ℕ) (marks : List ℕ) (to next : ℕ) → Rising from marks to → to < next → Rising from (marks ++ (next ∷ [])) next
rising_on from [] to next r h = (omega arith, refl)
rising_on from (m ∷ ms) to next r h = (r.0, rising_on m ms to next r.1 h)

rising_last : (from : ℕ) (marks : List ℕ) (last to : ℕ) → Rising from (marks ++ (last ∷ [])) to → last ≡ to
rising_last from [] last to r = r.1
rising_last from (m ∷ ms) last to r = rising_last m ms last to r.1

-- ---- a history cut at marks

-- a history that goes on by one kernel's numbers, and one mark more
cut_on : (from : ℕ) (marks history numbers : List ℕ) (to : ℕ) → Rising from marks to → to ≡ from + length history
    → cut from (marks ++ ((to + length numbers) ∷ [])) (history ++ numbers) ≡ cut from marks history ++ (kernel_of numbers ∷ [])
unfolding cut
cut_on from [] [] numbers to r e = let n : to + length numbers - from ≡ length numbers = omega arith in rw (n, take-length)
cut_on from [] (h ∷ history) numbers to r e = absurd (omega arith)
cut_on from (m ∷ ms) history numbers to r e =
    let fits : m - from ≤ length history = let h = rising_order m ms to r.1 in omega arith in
    let rest : to ≡ m + length (drop (m - from) history) = let h = rising_order m ms to r.1 in simp length-drop (omega arith) in
    rw (take-append-le (m - from) history numbers, drop-append-le (m - from) history numbers, cut_on m ms (drop (m - from) history) numbers to r.1 rest)

-- ---- a base, and one level more

replicate_all : (x n i : ℕ) → get_or (replicate n x) i x ≡ x
replicate_all x zero i = refl
replicate_all x (suc n) zero = refl
replicate_all x (suc n) (suc i) = replicate_all x n i

-- the end below a new level, once the new end n is set
below_at : (ends : List ℕ) (l n to : ℕ) → l < length ends → Rising 0 (take l ends) to
    → (if leb (l + 1) 1 then 0 else get_or (set ends l n) (l + 1 - 2) 0) ≡ to
below_at ends zero n to h r = r
below_at ends (suc l) n to h r =
    let two : leb (suc l + 1) 1 ≡ false = not_T→false (leb (suc l + 1) 1) (λ t. omega (arith, leb→le (suc l + 1) 1 t)) in
    let top : suc l + 1 - 2 ≡ l = omega arith in
    let r' : Rising 0 (take l ends ++ (get_or ends l 0 ∷ [])) to = rw (take-suc ends l 0 (omega arith)) at r in
    rw (two, top, get_or-set_other ends (suc l) l n 0 (omega arith)) (rising_last 0 (take l ends) (get_or ends l 0) to r')

pub state_path : {s z : State} → s.darts ≡ z.darts → s.operations ≡ z.operations → s.levels ≡ z.levels → s.ends ≡ z.ends
    → s.vertices ≡ z.vertices → s.faces ≡ z.faces → s ≡ z
state_path d o l e v f = λ i. record { darts = d i; operations = o i; levels = l i; ends = e i; vertices = v i; faces = f i }

pub layered_base : (D : ℕ) (b : List ℕ) → Layered D (base_state D b) []
layered_base D b = record {
  size = refl;
  count = refl;
  most = omega arith;
  sixty_four = refl;
  rise = refl;
  unused = λ i h. replicate_all 0 64 i;
}

module _ {D : ℕ} {s : State} {past : List ℕ} (L : Layered D s past) (room : s.levels < 64) (u new : List ℕ) (more : length past < length new) where
  -- the ends in use once a level is added
  pub marks_raised : take (s.levels + 1) (set s.ends s.levels (length new)) ≡ take s.levels s.ends ++ (length new ∷ [])
  marks_raised = rw add-one (take-suc-set s.ends s.levels (length new) (let h = L.sixty_four in omega arith))

  pub layered_raised : Layered D (raised s u new) new
  unfolding raised
  layered_raised = record {
    size = L.size;
    count = refl;
    most = omega arith;
    sixty_four = length-set s.ends s.levels (length new) ∙ L.sixty_four;
    rise = rw marks_raised (rising_on 0 (take s.levels s.ends) s.operations (length new) L.rise (let h = L.count in omega arith));
    unused = λ i h. get_or-set_other s.ends s.levels i (length new) 0 (omega arith) ∙ L.unused i (omega arith);
  }

  pub kernels_raised : (numbers : List ℕ) → new ≡ reverse numbers ++ past
      → kernels_of (raised s u new) new ≡ kernels_of s past ++ (kernel_of numbers ∷ [])
  unfolding kernels_of raised
  kernels_raised numbers e =
      let history : reverse new ≡ reverse past ++ numbers = ap reverse e ∙ reverse_onto numbers past in
      let longer : length new ≡ s.operations + length numbers = ap length e ∙ simp (length-append, length-reverse) (let h = L.count in omega arith) in
      let before : s.operations ≡ 0 + length (reverse past) = simp length-reverse (let h = L.count in omega arith) in
      rw (marks_raised, history, longer) (cut_on 0 (take s.levels s.ends) (reverse past) numbers s.operations L.rise before)

  pub below_raised : end_below (raised s u new) ≡ s.operations
  unfolding end_below raised
  below_raised = below_at s.ends s.levels (length new) s.operations (let h = L.sixty_four in omega arith) L.rise

  -- LOWERING UNDOES RAISING
  pub lowered_raised : {t : List ℕ} → Stores s t past → lowered (raised s u new) t past ≡ s
  unfolding lowered raised
  lowered_raised N =
      let top : s.levels + 1 - 1 ≡ s.levels = omega arith in
      state_path refl below_raised top
      (rw (top, set-set) (ap (set s.ends s.levels) (sym (L.unused s.levels (omega arith))) ∙ set-get_or s.ends s.levels 0))
      (sym N.vertices) (sym N.faces)
