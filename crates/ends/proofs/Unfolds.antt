-- The walk gives what unfolding gives. The kernels `low` make the levels up to k on the base t, and `high` those above; the ends are those of all.
--   AtLevel D k t ends u new x == the walk from x ends at its successor in u, having passed at most two darts for each operation
--   gone_level                 == gone by level k is gone in the past of level k
--   walk_level                 == the walk at level k gives the successor of level k
--   build_join                 == some kernels after others
--   Cut ks k z u new           == the kernels ks up to level k, which give z, u and new, and those above
--   unfold_cut                 == what unfolding to level k gives, the kernels up to there give
use mathlib.Core.Bool.{Bool, true, false, ◌||◌}
use mathlib.Core.List.{List, [], ◌∷◌, ◌++◌}
use mathlib.Core.Path.{◌≡◌, refl, sym, ◌∙◌, ap, subst, fun_ext}
use Prim.Native.Nat.{ℕ, ◌+◌, ◌*◌, ◌/◌, ◌≤◌, ◌<◌}
use native.Mathlib.Omega.{arith}
use lib.Dec.{T, eqb, ltb, T_not, not_T, nltb→le}
use lib.ListN.{length, get_or, take, drop, take-append-drop}
use lib.Seq.{length-take-le}
use Rattle.permutations.specs.Choice.{T?, T-ext}
use Rattle.permutations.specs.Partner.{partner}
use Rattle.permutations.proofs.PartnerLemmas.{partner_below}
use Rattle.permutations.specs.Perm.{Perm, below}
use Rattle.permutations.specs.Live.{any, has}
use Rattle.permutations.specs.Map.{Map}
use Rattle.permutations.proofs.Legal.{Op, dart, run}
use Rattle.darts.specs.Map.{successor, gone, survives, permutes, permutation_test}
use Rattle.darts.specs.Operation.{Kind, contraction, removal, kind_of}
use Rattle.darts.specs.Kernel.{Operation}
use Rattle.darts.specs.State.{State, base_state, gives, and_then, reduce}
use Rattle.darts.specs.Levels.{unfold_to}
use Rattle.darts.specs.Pyramid.{Kernel, dart_count, build}
use Rattle.darts.specs.OneByOne.{operations_of}
use Rattle.laws.specs.Standing.{Standing, map_of}
use Rattle.laws.proofs.bridge.Standing.{live, live_iff, next_entry}
use Rattle.laws.proofs.bridge.Bases.{base_stands, all_live}
use Rattle.laws.proofs.runs.Runs.{acts, Ran, ran}
use Rattle.laws.proofs.runs.Operations.{told_longer}
use Rattle.laws.proofs.runs.Cuts.{kernels_done}
use Rattle.laws.proofs.runs.Ends.{layered_base}
use Rattle.laws.proofs.runs.Builds.{built as builds}
use Rattle.laws.proofs.runs.Results.{then, then_then, refuses≢gives}
use Rattle.laws.proofs.runs.Pyramids.{built_pyramid}
use Rattle.laws.proofs.runs.Undo.{unfold_returns}
use Rattle.laws.proofs.tests.Room.{pyramid_room}
use Rattle.ends.specs.Ends.{end_of, ends_by, gone_by}
use Rattle.ends.specs.Walk.{onward_by, onward, walk_from, walk}
use Rattle.ends.specs.Comes.{end_in, ends_so}
use Rattle.ends.proofs.Ways.{way_same, way_few}
use Rattle.ends.proofs.Returns.{taken, cross_not_taken, turns, turns_perm, run_live, live_run, returns}
use Rattle.ends.proofs.Arrives.{Goes, way_walks, base_next}
use Rattle.ends.proofs.Told.{so_by, so_same, has_edge, by_kind, told_edges, told_kinds, taken_edge, legal_cross}

pub record AtLevel (D k : ℕ) (t ends u new : List ℕ) (x : ℕ) : Type 0 where
  -- "It must agree with unfolding on every dart and level."
  pub dart : (walk D k t ends x).dart ≡ successor u x
  -- "never above twice the operations done by level k"
  pub count : (walk D k t ends x).passed ≤ 2 * length new

-- ---- the darts of the operations

darts : List Op → List ℕ
darts [] = []
darts (o ∷ os) = dart o ∷ partner (dart o) ∷ darts os

taken_listed : (os : List Op) (y : ℕ) → taken os y ≡ has (darts os) y
unfolding has any darts
taken_listed [] y = refl
taken_listed (o ∷ os) y = ap (λ b. eqb y (dart o) || (eqb y (partner (dart o)) || b)) (taken_listed os y)

darts_count : (os : List Operation) → length (darts (acts os)) ≡ 2 * length os
unfolding darts
darts_count [] = refl
darts_count (o ∷ os) = let r = darts_count os in omega arith

module _ (D : ℕ) (t ends : List ℕ) (count : T (dart_count D)) (size : length t ≡ D) (permutation : permutation_test D t ≡ permutes)
    (low high : List Kernel) (told : (e : ℕ) → e < D / 2 → T (ends_so (get_or ends e 0) (end_in 1 (low ++ high) e)))
    {z : State} {u new : List ℕ} (built : build (base_state D t) t [] low ≡ gives z u new) where
  abbrev os : List Operation
  os = operations_of low

  abbrev k : ℕ
  k = length low

  abbrev base : Map
  base = map_of D t []

  S : Standing D t []
  S = base_stands D t count size permutation

  R : Ran D t [] os u new
  R = ran S os (kernels_done (base_state D t) t [] low built)

  half : (x : ℕ) → x < D → x / 2 < D / 2
  half x h = let e = S.even in omega arith

  -- taken is gone by level k
  taken_gone : (x : ℕ) → x < D → taken (acts os) x ≡ gone_by k ends x
  unfolding gone_by end_of
  taken_gone x h =
      taken_edge os x ∙ told_edges high 0 low (x / 2) ∙ ap (λ n. ends_by n (end_in 1 (low ++ high) (x / 2))) (let e : 0 + k ≡ k = omega arith in e)
      ∙ sym (so_by k (get_or ends (x / 2) 0) (end_in 1 (low ++ high) (x / 2)) (told (x / 2) (half x h)))

  -- and it is gone in the past of level k
  pub gone_level : (x : ℕ) → x < D → gone_by k ends x ≡ gone new x
  unfolding survives
  gone_level x h = sym (taken_gone x h) ∙ T-ext (taken (acts os) x) (gone new x) is_gone is_taken
    where
      lives : (run base (acts os)).live x ≡ live D new x
      lives = sym (ap (λ m. m.live x) R.map_after)

      is_gone : T (taken (acts os) x) → T (gone new x)
      is_gone a = go (T? (gone new x))
        where
          go : Dec (T (gone new x)) → T (gone new x)
          go (yes g) = g
          go (no n) = absurd ((run_live base (acts os) x (rw lives ((live_iff D new x).1 (h, not_T (gone new x) n)))).1 a)

      is_taken : T (gone new x) → T (taken (acts os) x)
      is_taken g = go (T? (taken (acts os) x))
        where
          go : Dec (T (taken (acts os) x)) → T (taken (acts os) x)
          go (yes a) = a
          go (no n) =
              let l : T (live D new x) = subst T lives (live_run base (acts os) x ((all_live D x).1 h) n) in
              absurd (T_not (gone new x) ((live_iff D new x).0 l).1 g)

  steps : ℕ → ℕ
  steps = turns base (acts os)

  steps_perm : Perm D steps
  unfolding steps
  steps_perm = turns_perm S.good (acts os) R.legal

  -- from a gone dart the walk goes on by its kind
  step_on : (y : ℕ) → y < D → T (gone_by k ends y) → steps y ≡ onward t ends y
  unfolding steps onward onward_by gone_by end_of
  step_on y h g =
      let w : ℕ = end_in 1 (low ++ high) (y / 2) in
      let so = told (y / 2) (half y h) in
      let ends_so_lem : T (ends_by k w) = subst T (so_by k (get_or ends (y / 2) 0) w so) g in
      let same : get_or ends (y / 2) 0 ≡ w = so_same k (get_or ends (y / 2) 0) w so ends_so_lem in
      let has_it : T (has_edge os (y / 2)) = subst T (sym (taken_gone y h) ∙ taken_edge os y) g in
      ap base.next (legal_cross S.good os R.legal y ∙ told_kinds high 0 low y has_it) ∙ rw (← same) (go (kind_of (get_or ends (y / 2) 0)))
    where
      go : (κ : Kind) → base.next (by_kind κ y) ≡ onward_by κ t y
      go contraction = base_next S (partner y) (partner_below D y h S.even)
      go removal = base_next S y h

  steps_go : Goes D k t ends steps
  steps_go = record { on = step_on; stays = λ y h. below steps_perm h }

  few : 2 * length os ≤ D
  few =
      let P = built_pyramid D t count size permutation low built in
      let n = pyramid_room P in
      let same = (builds S (layered_base D t) (record { vertices = refl; faces = refl }) low built).layered.size in
      let longer = told_longer R.tells in
      omega arith

  -- THE WALK AT LEVEL k GIVES THE SUCCESSOR OF LEVEL k
  pub walk_level : (x : ℕ) → x < D → T (survives new x) → AtLevel D k t ends u new x
  unfolding walk steps
  walk_level x h stays =
      let lives : T (live D new x) = (live_iff D new x).1 (h, stays) in
      let left : T ((run base (acts os)).live x) = subst T (ap (λ m. m.live x) R.map_after) lives in
      let not_gone = (run_live base (acts os) x left).1 in
      let first : steps x ≡ successor t x = ap base.next (cross_not_taken (acts os) x not_gone) ∙ base_next S x h in
      let r = returns S.good (acts os) R.legal x left in
      let end : (run base (acts os)).next x ≡ successor u x = sym (ap (λ m. m.next x) R.map_after) ∙ next_entry R.standing x lives in
      let bound = way_few steps_perm (taken (acts os)) (darts (acts os)) (λ y. subst T (taken_listed (acts os) y)) x ((run base (acts os)).next x) r.count not_gone r.way in
      let counted = darts_count os in
      let enough = few in
      let longer = told_longer R.tells in
      let way = way_same (λ y l. below steps_perm l) taken_gone (below steps_perm h) r.way in
      let all : walk_from D k t ends (successor t x) 0 ≡ record { dart = (run base (acts os)).next x; passed = 0 + r.count } =
      rw (← first) (way_walks steps_go r.count D (steps x) ((run base (acts os)).next x) 0 (below steps_perm h) (omega arith) way) in
      record { dart = rw all end; count = rw all (omega arith) }

-- ---- the kernels up to a level

pub build_join : (s : State) (t past : List ℕ) (low high : List Kernel)
    → build s t past (low ++ high) ≡ and_then (build s t past low) (λ s t past. build s t past high)
unfolding build
build_join s t past [] high = refl
build_join s t past (k ∷ low) high =
    ap (and_then (reduce k.kind k.edges s t past)) (fun_ext (λ s. fun_ext (λ t. fun_ext (λ past. build_join s t past low high))))
    ∙ sym (then_then (reduce k.kind k.edges s t past) (λ s t past. build s t past low) (λ s t past. build s t past high))

pub record Cut (D : ℕ) (b : List ℕ) (ks : List Kernel) (k : ℕ) (z : State) (u new : List ℕ) : Type 0 where
  pub low : List Kernel
  pub high : List Kernel
  pub whole : low ++ high ≡ ks
  pub height : length low ≡ k
  pub built : build (base_state D b) b [] low ≡ gives z u new

unfold_reached : (s : State) (t past : List ℕ) (k : ℕ) {z : State} {u new : List ℕ} → unfold_to k s t past ≡ gives z u new → k ≤ s.levels
unfolding unfold_to
unfold_reached s t past k e = go (ltb s.levels k) refl
  where
    go : (b : Bool) → ltb s.levels k ≡ b → k ≤ s.levels
    go true h = absurd (refuses≢gives (rw h at e))
    go false h = nltb→le s.levels k (rw h tt)

module _ (D : ℕ) (b : List ℕ) (count : T (dart_count D)) (size : length b ≡ D) (permutation : permutation_test D b ≡ permutes)
    (ks : List Kernel) {s : State} {t past : List ℕ} (all : build (base_state D b) b [] ks ≡ gives s t past) where
  -- the top is the number of kernels
  pub top_kernels : s.levels ≡ length ks
  top_kernels = let h = (builds (base_stands D b count size permutation) (layered_base D b) (record { vertices = refl; faces = refl }) ks all).height in omega arith

  -- WHAT UNFOLDING TO LEVEL k GIVES, THE KERNELS UP TO THERE GIVE
  pub unfold_cut : (k : ℕ) {z : State} {u new : List ℕ} → unfold_to k s t past ≡ gives z u new → Cut D b ks k z u new
  unfold_cut k {z} {u} {new} e =
      let low = take k ks in
      let high = drop k ks in
      let whole : low ++ high ≡ ks = take-append-drop k ks in
      let reached : k ≤ s.levels = unfold_reached s t past k e in
      let height : length low ≡ k = length-take-le k ks (let l = top_kernels in omega arith) in
      let parts = then (build (base_state D b) b [] low) (λ s t past. build s t past high)
      (sym (build_join (base_state D b) b [] low high) ∙ ap (build (base_state D b) b []) whole ∙ all) in
      let P = built_pyramid D b count size permutation low parts.first in
      let levels = (builds (base_stands D b count size permutation) (layered_base D b) (record { vertices = refl; faces = refl }) low parts.first).height in
      let same : parts.state.levels ≡ k = omega arith in
      let back : unfold_to k s t past ≡ gives parts.state parts.table parts.past =
      ap (λ n. unfold_to n s t past) (sym same) ∙ unfold_returns P high parts.next in
      record { low = low; high = high; whole = whole; height = height; built = parts.first ∙ sym back ∙ e }
