-- A pyramid whose darts are renamed is a pyramid, and each of its levels is the renamed level.
--   renamed_result order ν r == what a step gives, with the darts of the table and of the past renamed
use mathlib.Core.Bool.{Bool, true, false, ◌&&◌}
use mathlib.Core.List.{List, [], ◌∷◌, map, reverse}
use mathlib.Core.Path.{◌≡◌, refl, sym, ap, ap₂, ◌∙◌, subst}
use Prim.Native.Nat.{ℕ, zero, suc, ◌+◌, ◌-◌, ◌%◌, ◌≤◌}
use native.Mathlib.Omega.{arith}
use lib.Dec.{T, eqb, ltb}
use lib.ListN.{length, take, drop, length-map}
use lib.Seq.{length-take-le}
use Rattle.permutations.specs.Choice.{pick}
use Rattle.darts.specs.Answers.{no_level}
use Rattle.darts.specs.Operation.{Kind, kind_of, lead_of, undone}
use Rattle.darts.specs.State.{State, base_state, Result, gives, refuses}
use Rattle.darts.specs.Levels.{end_below, lowered, undo_level, undo_levels, unfold_to}
use Rattle.darts.specs.Pyramid.{Pyramid, build, cut}
use Rattle.darts.specs.Tests.{same_kind, of_kind, one_kind, rises, numbered}
use Rattle.laws.specs.Standing.{Standing}
use Rattle.laws.proofs.bridge.StandsBy.{stands_base}
use Rattle.laws.proofs.bridge.Bases.{base_stands}
use Rattle.laws.proofs.claims.Decided.{base_undone}
use Rattle.laws.proofs.tests.Replays.{Trail, backs_trail}
use Rattle.laws.proofs.tests.Rebuilt.{Goes, goes_base, goes_build}
use Rattle.laws.proofs.tests.Shape.{raised_by, layered_told}
use Rattle.laws.proofs.tests.Passes.{Shaped, pyramid_shaped}
use Rattle.laws.proofs.Lists.{each_reverse, take_map, drop_map, reverse_map}
use Rattle.laws.proofs.file.Renamed.{Renaming, renamed, renamed_length}
use Rattle.laws.proofs.file.RenamedMap.{renumbered, renamed_stands}
use Rattle.laws.proofs.runs.Ends.{Stores, state_path}
use Rattle.laws.proofs.runs.Pyramids.{pyramid_built}
use Rattle.laws.proofs.file.RenamedCounts.{stores_renamed}
use Rattle.laws.proofs.file.RenamedHistory.{Evens, renumbered_kind, goes_renamed, Tracked, undone_renamed, tracked_back, tracked_stands}

-- ---- the kinds stay, so that the levels do

module _ (ν : ℕ → ℕ) where
  of_kind_renamed : (k : Kind) (hs : List ℕ) → of_kind k (map (renumbered ν) hs) ≡ of_kind k hs
  unfolding of_kind
  of_kind_renamed k [] = refl
  of_kind_renamed k (h ∷ hs) = ap₂ (λ c r. same_kind k c && r) (renumbered_kind ν h) (of_kind_renamed k hs)

  one_kind_renamed : (hs : List ℕ) → one_kind (map (renumbered ν) hs) ≡ one_kind hs
  unfolding one_kind
  one_kind_renamed [] = refl
  one_kind_renamed (h ∷ hs) = rw (renumbered_kind ν h) (of_kind_renamed (kind_of h) hs)

  rises_renamed : (from : ℕ) (marks hs : List ℕ) → rises from marks (map (renumbered ν) hs) ≡ rises from marks hs
  unfolding rises
  rises_renamed from [] [] = refl
  rises_renamed from [] (h ∷ hs) = refl
  rises_renamed from (m ∷ ms) hs =
      let n = m - from in
      rw (length-map hs (renumbered ν), take_map (renumbered ν) n hs, one_kind_renamed (take n hs), drop_map (renumbered ν) n hs, rises_renamed m ms (drop n hs))

-- ---- the pyramid

module _ {s : State} {t past : List ℕ} (P : Pyramid s t past) {order : List ℕ} {ν : ℕ → ℕ} (R : Renaming s.darts order ν) (E : Evens ν past) where
  abbrev D : ℕ
  D = s.darts

  Q : Shaped D s t past
  Q = pyramid_shaped P

  trail : Trail D t past
  trail = let S = Q.sound in backs_trail D t past S.standing S.numbers S.fitting

  tracked : Tracked R t past
  tracked = record { trail = trail; allowed = Q.sound.legal; numbers = Q.sound.numbers; evens = E }

  stored' : Stores s (renamed order ν t) (map (renumbered ν) past)
  stored' = stores_renamed R Q.sound.standing Q.sound.numbers (pyramid_built P).stored

  base_standing : Standing D P.base []
  base_standing = base_stands D P.base P.count P.size P.permutation

  goes : Goes D P.base [] (reverse past) t
  goes = subst (λ b. Goes D b [] (reverse past) t) (base_undone P) (goes_base D t past [] t trail Q.sound.legal refl)

  abbrev base' : List ℕ
  base' = renamed order ν P.base

  base_standing' : Standing D base' []
  unfolding numbered
  base_standing' = renamed_stands R base_standing.even base_standing tt

  built : build (base_state D base') base' [] (cut 0 (take s.levels s.ends) (map (renumbered ν) (reverse past)))
      ≡ gives s (renamed order ν t) (map (renumbered ν) past)
  unfolding numbered
  built =
      let L = Q.layered in
      let marks = take s.levels s.ends in
      let used = length-take-le s.levels s.ends (omega (arith, L.sixty_four, L.most)) in
      let goes' = goes_renamed R base_standing tt (reverse past) t (each_reverse (λ h. ν (lead_of h) % 2 ≡ 0) past [] E tt) goes in
      let rising' = subst T (sym (rises_renamed ν 0 marks (reverse past))) Q.rising in
      let room : 0 + length marks ≤ 64 = omega (arith, L.most) in
      goes_build (base_state D base') refl base' [] (record { vertices = refl; faces = refl }) 0 refl marks (map (renumbered ν) (reverse past)) (renamed order ν t) room rising' goes'
      ∙ ap (λ new. gives (raised_by (base_state D base') marks (renamed order ν t) new) (renamed order ν t) new) (reverse_map (renumbered ν) past)
      ∙ ap (λ z. gives z (renamed order ν t) (map (renumbered ν) past)) (layered_told s base' (renamed order ν t) (map (renumbered ν) past) L stored')

  -- A RENAMED PYRAMID IS A PYRAMID
  pub renamed_pyramid : Pyramid s (renamed order ν t) (map (renumbered ν) past)
  renamed_pyramid = record {
    count = P.count;
    base = base';
    size = renamed_length R P.base;
    permutation = stands_base base_standing';
    kernels = cut 0 (take s.levels s.ends) (map (renumbered ν) (reverse past));
    built = built;
  }

-- ---- its levels

abbrev pub renamed_result : List ℕ → (ℕ → ℕ) → Result → Result
renamed_result order ν (gives z u past) = gives z (renamed order ν u) (map (renumbered ν) past)
renamed_result order ν (refuses a) = refuses a

-- the state of a level stores the numbers of the renamed level
lowered_renamed : {order : List ℕ} {ν : ℕ → ℕ} (s : State) (R : Renaming s.darts order ν) (u past : List ℕ) → Standing s.darts u past → T (numbered s.darts past)
    → lowered s (renamed order ν u) (map (renumbered ν) past) ≡ lowered s u past
unfolding lowered
lowered_renamed s R u past S N =
    let K = stores_renamed {s = lowered s u past} R S N (record { vertices = refl; faces = refl }) in
    state_path refl refl refl refl (sym K.vertices) (sym K.faces)

undo_levels_renamed : {order : List ℕ} {ν : ℕ → ℕ} (n : ℕ) (s : State) (t past : List ℕ) (R : Renaming s.darts order ν) → Standing s.darts t past → Tracked R t past
    → undo_levels n s (renamed order ν t) (map (renumbered ν) past) ≡ renamed_result order ν (undo_levels n s t past)
unfolding undo_levels undo_level lowered
undo_levels_renamed zero s t past R S K = refl
undo_levels_renamed {order} {ν} (suc n) s t past R S K =
    go (eqb s.levels 0) refl (undo_levels_renamed n (lowered s u low) u low R below (tracked_back R m past K))
  where
    m : ℕ
    m = s.operations - end_below s

    u : List ℕ
    u = undone s.darts m t past

    low : List ℕ
    low = drop m past

    below : Standing s.darts u low
    below = tracked_stands R m past S K

    go : (b : Bool) → eqb s.levels 0 ≡ b
        → undo_levels n (lowered s u low) (renamed order ν u) (map (renumbered ν) low)
        ≡ renamed_result order ν (undo_levels n (lowered s u low) u low)
        → undo_levels (suc n) s (renamed order ν t) (map (renumbered ν) past) ≡ renamed_result order ν (undo_levels (suc n) s t past)
    go true e rest = rw e
    go false e rest = rw (e, undone_renamed R m past K, drop_map (renumbered ν) m past, lowered_renamed s R u low below (tracked_back R m past K).numbers) rest

-- EACH LEVEL OF A RENAMED PYRAMID IS THE RENAMED LEVEL
pub unfold_renamed : {s : State} {t past : List ℕ} (P : Pyramid s t past) {order : List ℕ} {ν : ℕ → ℕ} (R : Renaming s.darts order ν)
    (E : Evens ν past) (k : ℕ) → unfold_to k s (renamed order ν t) (map (renumbered ν) past) ≡ renamed_result order ν (unfold_to k s t past)
unfolding unfold_to
unfold_renamed {s} {t} {past} P {order} {ν} R E k = go (ltb s.levels k)
  where
    go : (b : Bool) → pick b (refuses (no_level s.levels)) (undo_levels (s.levels - k) s (renamed order ν t) (map (renumbered ν) past))
        ≡ renamed_result order ν (pick b (refuses (no_level s.levels)) (undo_levels (s.levels - k) s t past))
    go true = refl
    go false = undo_levels_renamed (s.levels - k) s t past R (pyramid_shaped P).sound.standing (tracked P R E)
