-- A kernel is one level more.
--   Raises s past r z u new      == the run r, begun at this past, adds one level to the state s: it gives z, u and new
--   Reduced D s t past k z u new == what holds once the kernel k was accepted
use mathlib.Core.Bool.{Bool, true, false}
use mathlib.Core.List.{List, [], ◌∷◌, ◌++◌, map, reverse}
use mathlib.Core.Logic.{◌≢◌}
use mathlib.Core.Path.{◌≡◌, refl, ◌∙◌, ap, ap₂, subst}
use Prim.Native.Nat.{ℕ, ◌+◌, ◌<◌}
use native.Mathlib.Decide.{ℕ_discrete}
use native.Mathlib.Omega.{arith}
use lib.Dec.{leb, leb→le, nleb→lt}
use lib.ListN.{length}
use Rattle.permutations.specs.Choice.{eqb_same, eqb_other, not_T→false}
use Rattle.std.proofs.Common.{if◌then◌else◌}
use Rattle.darts.specs.Answers.{too_many_levels}
use Rattle.darts.specs.Operation.{Kind, undone}
use Rattle.darts.specs.Kernel.{each, Run, stands, stops, run}
use Rattle.darts.specs.State.{State, gives, refuses, raised, levelled, reduce}
use Rattle.darts.specs.Pyramid.{Kernel, kernels_of}
use Rattle.darts.specs.OneByOne.{operation_of}
use Rattle.laws.specs.Standing.{Standing}
use Rattle.laws.proofs.runs.Operations.{Told, run_iff, done_told, told_history, told_count, told_longer, told_dropped, told_kernel}
use Rattle.laws.proofs.runs.Runs.{Ran, ran, undone_more}
use Rattle.laws.proofs.runs.Ends.{Layered, Stores, layered_raised, kernels_raised}
use Rattle.laws.proofs.runs.Results.{refuses≢gives}

-- ---- one level more

pub record Raises (s : State) (past : List ℕ) (r : Run) (z : State) (u new : List ℕ) : Type 0 where
  pub room : s.levels < 64
  pub stood : r ≡ stands u new
  pub more : length new ≢ length past
  pub state : z ≡ raised s u new

module _ {s : State} {past : List ℕ} {z : State} {u new : List ℕ} where
  raises_level : s.levels < 64 → (r : Run) → levelled s past r ≡ gives z u new → Raises s past r z u new
  unfolding levelled
  raises_level room (stops a) e = absurd (refuses≢gives e)
  raises_level room (stands t' new') e = go (ℕ_discrete (length new') (length past))
    where
      go : Dec (length new' ≡ length past) → Raises s past (stands t' new') z u new
      go (yes h) = absurd (refuses≢gives (rw (eqb_same h) at e))
      go (no n) =
          let given : gives (raised s t' new') t' new' ≡ gives z u new = rw (eqb_other n) at e in
          let same : new' ≡ new = cc in
          let there : t' ≡ u = cc in
          record { room = room; stood = cc; more = subst (λ l. length l ≢ length past) same n; state = cc }

  -- what reduce and the sweep have in common: 64 levels are refused, and the run adds a level
  pub raises : (r : Run) → (if leb 64 s.levels then refuses too_many_levels else levelled s past r) ≡ gives z u new → Raises s past r z u new
  raises r e = go (leb 64 s.levels) refl
    where
      go : (b : Bool) → leb 64 s.levels ≡ b → Raises s past r z u new
      go true h = absurd (refuses≢gives (rw h at e))
      go false h = raises_level (nleb→lt 64 s.levels (rw h tt)) r (rw h at e)

  raises_gives : {r : Run} → Raises s past r z u new → (if leb 64 s.levels then refuses too_many_levels else levelled s past r) ≡ gives z u new
  unfolding levelled
  raises_gives R =
      let below : leb 64 s.levels ≡ false = not_T→false (leb 64 s.levels) (λ t. omega (arith, leb→le 64 s.levels t, R.room)) in
      rw (below, R.stood, eqb_other R.more, R.state)

module _ (s : State) (t past : List ℕ) (k : Kind) (es : List ℕ) {z : State} {u new : List ℕ} where
  pub reduce_raises : reduce k es s t past ≡ gives z u new → Raises s past (run k s.darts t past es) z u new
  unfolding reduce
  reduce_raises = raises (run k s.darts t past es)

  pub raises_reduce : Raises s past (run k s.darts t past es) z u new → reduce k es s t past ≡ gives z u new
  unfolding reduce
  raises_reduce = raises_gives

  -- the history gets the kernel's operations
  pub reduce_tells : reduce k es s t past ≡ gives z u new → Told past (each k es) new
  reduce_tells e = done_told (each k es) ((run_iff k s.darts t past es).0 (reduce_raises e).stood)

  pub reduce_told : reduce k es s t past ≡ gives z u new → map operation_of (reverse new) ≡ map operation_of (reverse past) ++ each k es
  reduce_told e = told_history (reduce_tells e)

-- ---- what an accepted kernel has done

pub record Reduced (D : ℕ) (s : State) (t past : List ℕ) (k : Kernel) (z : State) (u new : List ℕ) : Type 0 where
  pub room : s.levels < 64
  pub ran : Ran D t past (each k.kind k.edges) u new
  pub grows : length past < length new
  pub state : z ≡ raised s u new

pub reduced : {D : ℕ} {s : State} {t past : List ℕ} {z : State} {u new : List ℕ} → Standing D t past → Layered D s past
    → (k : Kernel) → reduce k.kind k.edges s t past ≡ gives z u new → Reduced D s t past k z u new
reduced {D} {s} {t} {past} {z} {u} {new} S L k e =
    let R = reduce_raises s t past k.kind k.edges e in
    let stood : run k.kind D t past k.edges ≡ stands u new = rw L.size at R.stood in
    let done = ran S (each k.kind k.edges) ((run_iff k.kind D t past k.edges).0 stood) in
    record { room = R.room; ran = done; grows = (let h = told_longer done.tells in let n = R.more in omega arith); state = R.state }

module _ {D : ℕ} {s : State} {t past : List ℕ} {k : Kernel} {z : State} {u new : List ℕ} (L : Layered D s past) (R : Reduced D s t past k z u new) where
  pub reduced_layered : Layered D z new
  reduced_layered = rw R.state (layered_raised L R.room u new R.grows)

  pub reduced_stores : Stores z u new
  unfolding raised
  reduced_stores = rw R.state (record { vertices = refl; faces = refl })

  -- the new level ends cut off this kernel
  pub reduced_kernels : kernels_of z new ≡ kernels_of s past ++ (k ∷ [])
  reduced_kernels =
      let N = R.ran.tells in
      let some : 0 < length N.numbers = let c = told_count N in let h = told_longer N in let g = R.grows in omega arith in
      let kernel = told_kernel k.kind k.edges N.numbers N.told some in
      rw R.state (kernels_raised L R.room u new R.grows N.numbers N.history ∙ ap (λ c. kernels_of s past ++ (c ∷ [])) kernel)

  -- everything undone, the base is the same
  pub reduced_base : undone D (length new) u new ≡ undone D (length past) t past
  reduced_base =
      let n : ℕ = length (each k.kind k.edges) in
      let longer : length new ≡ n + length past = let h = told_longer R.ran.tells in omega arith in
      rw longer (undone_more D n (length past) u new ∙ ap₂ (undone D (length past)) R.ran.back (told_dropped R.ran.tells))
