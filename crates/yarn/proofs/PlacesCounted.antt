-- "The total of stitches at any level equals the base's." (document 02, request Five): what is added up is one record for each vertex of that level.
--   passing p n      == how many of the numbers below n pass the test p
--   places D R       == how many records the total adds up, where the places are R
--   passing_less     == one passes less
--   passing_within   == where all that pass one test pass another one, and they are as many, they are the same
--   places_kept      == each contraction takes one place, a removal none
--   Hit live R x     == a live dart has the place x
--   base_places      == a base has a place for each vertex
--   PlaceEach D R t past v == where the places are R, what the total adds up is one record for each vertex of the level t and past, and they are v
--   pyramid_places   == so it is of a pyramid, and v is what its state stores
--   PlaceEachBy D b a == so it is of what a leaves over the base b
--   start_places     == and so it is after a start with sheets and whatever calls are accepted
use mathlib.Core.Bool.{Bool, true, false}
use mathlib.Core.List.{List, [], ◌∷◌, reverse}
use mathlib.Core.Logic.Iff
use mathlib.Core.Logic.{◌≢◌, ◌↔◌, ⊎_elim}
use mathlib.Core.Path.{◌≡◌, refl, sym, ap, ◌∙◌, subst₂}
use Prim.Native.Nat.{ℕ, zero, suc, ◌+◌, ◌%◌, ◌≤◌, ◌<◌}
use native.Mathlib.Decide.{ℕ_discrete}
use native.Mathlib.Nat.{not-suc-le-zero}
use native.Mathlib.Omega.{arith}
use lib.Dec.{T, eqb}
use lib.ListN.{length, take}
use Rattle.permutations.specs.Choice.{pick, T→true, T-ext, eqb_same, eqb_other, eqb_iff, or_cases}
use Rattle.permutations.specs.Live.{any, has, darts, any_has, has_head, has_tail, has_darts, darts_has}
use Rattle.permutations.specs.Labels.{Labels}
use Rattle.permutations.proofs.CyclesCounted.{cycles_hit}
use Rattle.permutations.proofs.Euler.{vertices}
use Rattle.darts.specs.Map.{live, same_vertex}
use Rattle.darts.specs.Operation.{contraction, kind_of, edge_of}
use Rattle.darts.specs.Moves.{contractions_in}
use Rattle.darts.specs.State.{State}
use Rattle.darts.specs.Pyramid.{Pyramid}
use Rattle.darts.specs.Counts.{counts_of}
use Rattle.darts.specs.Calls.{table_of}
use Rattle.laws.specs.Standing.{map_of, Standing}
use Rattle.laws.proofs.bridge.Standing.{live_iff}
use Rattle.laws.proofs.bridge.Bases.{all_live}
use Rattle.laws.proofs.bridge.Judged.{same_vertex_lem}
use Rattle.laws.proofs.bridge.Counting.{counts_numbers}
use Rattle.laws.proofs.runs.Pyramids.{pyramid_built}
use Rattle.laws.proofs.moves.Contractions.{contractions_reverse}
use Rattle.laws.proofs.moves.Kept.{vertices_kept}
use Rattle.laws.proofs.chained.OnLent.{Call}
use Rattle.sheets.specs.Sheets.{Sheets}
use Rattle.yarn.specs.Places.{lowest, joins, zoned, places_after, zone_of}
use Rattle.yarn.specs.Totals.{summed, own, over}
use Rattle.yarn.specs.Calls.{Costed, base_of, start_with}
use Rattle.yarn.proofs.Sums.{plus, sum_same}
use Rattle.yarn.proofs.Lowest.{lowest_labels}
use Rattle.yarn.proofs.Settled.{Settled, high, zoned_settled, after_settled, lowest_settled}
use Rattle.yarn.proofs.Apart.{base_standing, pyramid_inside}
use Rattle.yarn.proofs.Turns.{Turn, Turns, turn_two, own_stays, high_left, turn_edge, turn_now, turns_rest}
use Rattle.yarn.proofs.Zones.{zone_dart, zone_own, zone_same}
use Rattle.yarn.proofs.Totals.{pyramid_turns}
use Rattle.yarn.proofs.CalledWith.{past_by}
use Rattle.yarn.proofs.ChainedWith.{calls_with, AllDone, Above, above_calls}
use Rattle.yarn.proofs.StartWith.{start_begun, begun_above}

-- ---- how many numbers pass a test

one_most : (a b : Bool) → (T a → T b) → pick a 1 0 ≤ pick b 1 0
one_most true b h = rw (T→true b (h tt)) (omega arith)
one_most false b h = omega arith

one_some : (b : Bool) → 1 ≤ pick b 1 0 → T b
one_some true h = tt
one_some false h = absurd (omega arith)

abbrev passing : (ℕ → Bool) → ℕ → ℕ
passing p n = summed ◌+◌ 0 (over p 0 (λ x. 1)) n

-- as many as the list of them is long
passing_list : (p : ℕ → Bool) (n : ℕ) → passing p n ≡ length (darts p n)
unfolding summed darts
passing_list p zero = refl
passing_list p (suc n) = go (p n) (passing_list p n)
  where
    go : (b : Bool) → passing p n ≡ length (darts p n) → passing p n + pick b 1 0 ≡ length (pick b (n ∷ darts p n) (darts p n))
    go true e = omega arith
    go false e = omega arith

module _ (p q : ℕ → Bool) where
  passing_less : (j n : ℕ) → j < n → p j ≡ true → q j ≡ false → ((x : ℕ) → x ≢ j → q x ≡ p x) → passing p n ≡ suc (passing q n)
  unfolding summed
  passing_less j zero h yes-j no-j others = absurd (not-suc-le-zero h)
  passing_less j (suc n) h yes-j no-j others = go (ℕ_discrete n j) (λ l. passing_less j n l yes-j no-j others)
    where
      go : Dec (n ≡ j) → (j < n → passing p n ≡ suc (passing q n)) → passing p n + pick (p n) 1 0 ≡ suc (passing q n + pick (q n) 1 0)
      go (yes e) before =
          let same : passing p n ≡ passing q n = sum_same plus _ _ n (λ x l. ap (λ b. pick b 1 0) (sym (others x (λ z. omega arith)))) in
          rw (e, yes-j, no-j) (let k : passing p j ≡ passing q j = rw e at same in omega arith)
      go (no o) before = rw (others n o) (let k = before (omega arith) in omega arith)

  passing_most : (n : ℕ) → ((x : ℕ) → x < n → T (p x) → T (q x)) → passing p n ≤ passing q n
  unfolding summed
  passing_most zero within = omega arith
  passing_most (suc n) within =
      let rest = passing_most n (λ x l. within x (omega arith)) in
      let last = one_most (p n) (q n) (within n (omega arith)) in
      omega arith

  passing_within : (n : ℕ) → ((x : ℕ) → x < n → T (p x) → T (q x)) → passing p n ≡ passing q n → (x : ℕ) → x < n → T (q x) → T (p x)
  unfolding summed
  passing_within zero within e x h t = absurd (not-suc-le-zero h)
  passing_within (suc n) within e x h t = go (ℕ_discrete n x) (λ k l. passing_within n (λ y m. within y (omega arith)) k x l t)
    where
      rest : passing p n ≤ passing q n
      rest = passing_most n (λ y l. within y (omega arith))

      last : pick (p n) 1 0 ≤ pick (q n) 1 0
      last = one_most (p n) (q n) (within n (omega arith))

      go : Dec (n ≡ x) → (passing p n ≡ passing q n → x < n → T (p x)) → T (p x)
      go (yes k) before =
          let some : ◌≡◌ {A = ℕ} (pick (q n) 1 0) 1 = rw (k, T→true (q x) t) in
          rw (← k) (one_some (p n) (let a = rest in let b = last in omega arith))
      go (no o) before = before (let a = rest in let b = last in omega arith) (omega arith)

-- ---- how many places there are

abbrev pub places : ℕ → (ℕ → ℕ) → ℕ
places D R = passing (own R) D

-- a history number tells a contraction where it is odd
module _ {D : ℕ} {R : ℕ → ℕ} (Q : Settled D R) (h : ℕ) (turn : kind_of h ≡ contraction → Turn D R (edge_of h)) where
  places_zoned : places D (zoned (kind_of h) R (edge_of h)) + h % 2 ≡ places D R
  unfolding kind_of zoned
  places_zoned = go (ℕ_discrete (h % 2) 0)
    where
      go : Dec (h % 2 ≡ 0) → places D (zoned (kind_of h) R (edge_of h)) + h % 2 ≡ places D R
      go (yes e) = rw (eqb_same e) (omega arith)
      go (no o) =
          let at_turn : Turn D R (edge_of h) = turn (rw (eqb_other o)) in
          let two = turn_two Q at_turn in
          let less : places D R ≡ suc (places D (joins R (edge_of h))) =
          passing_less (own R) (own (joins R (edge_of h))) (high R (edge_of h)) D two.high_dart (eqb_same two.high_own) (high_left Q at_turn)
          (own_stays Q at_turn) in
          rw (eqb_other o) (omega arith)

-- EACH CONTRACTION TAKES ONE PLACE, A REMOVAL NONE
pub places_kept : {D : ℕ} (hs : List ℕ) {R : ℕ → ℕ} → Settled D R → Turns D R hs → places D (places_after R hs) + contractions_in hs ≡ places D R
unfolding places_after contractions_in
places_kept [] Q A = omega arith
places_kept (h ∷ hs) Q A =
    let first = places_zoned Q h (turn_now A) in
    let rest = places_kept hs (zoned_settled Q (kind_of h) (edge_of h) (turn_edge A)) (turns_rest A) in
    omega arith

-- ---- places that live darts have

abbrev hit : ℕ → (ℕ → Bool) → (ℕ → ℕ) → ℕ → Bool
hit D live R x = any (λ d. eqb (R d) x) (darts live D)

pub record Hit (live : ℕ → Bool) (R : ℕ → ℕ) (x : ℕ) : Type 0 where
  pub dart : ℕ
  pub lives : T (live dart)
  pub there : R dart ≡ x

module _ (D : ℕ) {live : ℕ → Bool} {R : ℕ → ℕ} where
  hit_some : (x : ℕ) → T (hit D live R x) → Hit live R x
  unfolding any
  hit_some x t = go (darts live D) (λ d h. (has_darts live D d h).1) t
    where
      go : (l : List ℕ) → ((d : ℕ) → T (has l d) → T (live d)) → T (any (λ d. eqb (R d) x) l) → Hit live R x
      go [] alive t = absurd t
      go (d ∷ l) alive t =
          ⊎_elim (λ e. record { dart = d; lives = alive d (has_head d l); there = (eqb_iff (R d) x).0 e })
          (λ m. go l (λ y k. alive y (has_tail d y l k)) m) (or_cases (eqb (R d) x) (any (λ d. eqb (R d) x) l) t)

  some_hit : ((d : ℕ) → T (live d) → d < D) → (x : ℕ) → Hit live R x → T (hit D live R x)
  some_hit inside x H =
      any_has (λ d. eqb (R d) x) (darts live D) H.dart (darts_has live D H.dart (inside H.dart H.lives) H.lives)
      ((eqb_iff (R H.dart) x).1 H.there)

module _ {D : ℕ} {t past : List ℕ} (S : Standing D t past) {R : ℕ → ℕ} (Q : Settled D R) (Λ : Labels (live D past) (map_of D t past).next R) where
  inside : (d : ℕ) → T (live D past d) → d < D
  inside d l = ((live_iff D past d).0 l).0

  -- the vertices are as many as the places that their darts have
  vertices_hit : (counts_of D t past).vertices ≡ passing (hit D (live D past) R) D
  unfolding vertices
  vertices_hit =
      (counts_numbers S).vertices_are
      ∙ cycles_hit S.good.perm Λ D (λ d l. let h = inside d l in let r = Q.below d h in omega arith)
      ∙ sym (passing_list (hit D (live D past) R) D)

  hit_own : (x : ℕ) → T (hit D (live D past) R x) → T (own R x)
  hit_own x t =
      let H = hit_some D x t in
      (eqb_iff (R x) x).1 (ap R (sym H.there) ∙ Q.own H.dart (inside H.dart H.lives) ∙ H.there)

-- A BASE HAS A PLACE FOR EACH VERTEX
pub base_places : {D : ℕ} {b : List ℕ} → Standing D b [] → places D (lowest D b) ≡ (counts_of D b []).vertices
base_places {D} {b} S =
    let R = lowest D b in
    let Q = lowest_settled S in
    let Λ = lowest_labels S in
    sum_same plus _ _ D (λ x h. ap (λ c. pick c 1 0) (T-ext (own R x) (hit D (live D []) R x)
    (λ e. some_hit D (inside S Q Λ) x (record { dart = x; lives = (all_live D x).1 h; there = (eqb_iff (R x) x).0 e })) (hit_own S Q Λ x)))
    ∙ sym (vertices_hit S Q Λ)

-- ---- a level

pub record PlaceEach (D : ℕ) (R : ℕ → ℕ) (t past : List ℕ) (v : ℕ) : Type 0 where
  -- each place that is added up is that of a vertex of the level
  pub some : (x : ℕ) → x < D → R x ≡ x → Hit (live D past) R x
  -- each vertex of the level has such a place
  pub each : (d : ℕ) → T (live D past d) → (R d < D) × (R (R d) ≡ R d)
  -- and one alone
  pub one : (d e : ℕ) → T (live D past d) → T (live D past e) → (R d ≡ R e) ↔ T (same_vertex D t d e)
  -- so they are as many as the cycles, and as the state says
  pub many : places D R ≡ (counts_of D t past).vertices
  pub stored : places D R ≡ v

module _ {s : State} {t past : List ℕ} (P : Pyramid s t past) where
  abbrev D : ℕ
  D = s.darts

  abbrev b : List ℕ
  b = base_of s t past

  abbrev zone : ℕ → ℕ
  zone = zone_of D b (reverse past)

  settled : Settled D zone
  unfolding zone_of
  settled = after_settled (reverse past) (lowest_settled (base_standing P)) (pyramid_inside P)

  labels : Labels (live D past) (map_of D t past).next zone
  labels = record { says = λ x y lx ly. Iff.trans (zone_same P x y lx ly) (same_vertex_lem (pyramid_built P).standing x y lx) }

  -- AS MANY PLACES AS VERTICES
  places_vertices : places D zone ≡ (counts_of D t past).vertices
  unfolding zone_of base_of
  places_vertices =
      let now = places_kept (reverse past) (lowest_settled (base_standing P)) (pyramid_turns P) in
      let was = base_places (base_standing P) in
      let kept = vertices_kept P in
      let same = contractions_reverse past in
      omega arith

  -- NO PLACE IS LEFT WITHOUT A SURVIVOR: there are as many that survivors have
  place_survives : (x : ℕ) → x < D → zone x ≡ x → Hit (live D past) zone x
  place_survives x h e =
      let S = (pyramid_built P).standing in
      hit_some D x
      (passing_within (hit D (live D past) zone) (own zone) D (λ y l t. hit_own S settled labels y t)
      (sym (vertices_hit S settled labels) ∙ sym places_vertices) x h ((eqb_iff (zone x) x).1 e))

  -- THE TOTAL ADDS UP ONE RECORD FOR EACH VERTEX OF THE LEVEL
  pub pyramid_places : PlaceEach D zone t past s.vertices
  pyramid_places = record {
    some = place_survives;
    each = λ d l.
        let h = ((live_iff D past d).0 l).0 in
        (zone_dart (base_standing P) (reverse past) (pyramid_inside P) d h, zone_own (base_standing P) (reverse past) (pyramid_inside P) d h);
    one = zone_same P;
    many = places_vertices;
    stored = places_vertices ∙ sym (pyramid_built P).stored.vertices;
  }

-- ---- after the calls

-- the level that a leaves
abbrev pub PlaceEachBy : ℕ → List ℕ → Costed → Type 0
PlaceEachBy D b a =
    PlaceEach D (zone_of D b (reverse (past_by a))) (table_of a.plain.state a.plain.table) (past_by a) a.plain.state.vertices

pub above_places : {D : ℕ} {b : List ℕ} {F : Sheets} {a : Costed} → Above D b F a → PlaceEachBy D b a
above_places {a = a} O = subst₂ (λ (D : ℕ) (b : List ℕ). PlaceEachBy D b a) O.darts O.base (pyramid_places O.lent.lent.pyramid)

-- "The total of stitches at any level equals the base's.": what `start-total` adds up after a start and whatever calls are accepted, of every kind
pub start_places : (D : ℕ) (t h w : List ℕ) (S : Sheets) (cs : List Call) → (start_with D t h w S).plain.answer.number ≡ 0
    → AllDone cs (start_with D t h w S) → PlaceEachBy D (take D t) (calls_with cs (start_with D t h w S))
start_places D t h w S cs e d =
    let G = start_begun D t h w S e in
    above_places (above_calls (record { sheet = G.sheet; kept = G.kept }) cs (start_with D t h w S) (begun_above G) d)
