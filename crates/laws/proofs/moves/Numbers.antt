-- The stored numbers along the four steps.
--   Balanced past new S Z == Z stores as many vertices as S once the contractions undone are added and those done taken away; and so of faces and removals
--   storing_balanced == the numbers of the cycles of two pyramids over one base are so
--   Exchanged undone done S Z == what Z stores and the operations done have taken is what S stores and the operations undone had taken
--   moved_exchanged  == so it is with the parts of a history that holds both pasts
--   moved_stores     == what `moved_to` gives along a history that holds both pasts are the numbers of the cycles
use mathlib.Core.List.{List, [], ◌++◌, reverse, reverse-append, reverse-reverse}
use mathlib.Core.Path.{◌≡◌, refl, sym, ap, ◌∙◌}
use Prim.Native.Nat.{ℕ, ◌+◌, ◌-◌}
use native.Mathlib.Omega.{arith}
use lib.ListN.{length, take, drop, length-append, length-reverse}
use lib.Seq.{drop_at, take-add, take_at, take-take}
use Rattle.slices.specs.Part.{part}
use Rattle.darts.specs.State.{State}
use Rattle.darts.specs.Pyramid.{Pyramid}
use Rattle.darts.specs.Moves.{contractions_in, moved_to}
use Rattle.darts.specs.Calls.{past_of}
use Rattle.darts.specs.Counts.{counts_of}
use Rattle.laws.proofs.runs.Ends.{Stores, state_path}
use Rattle.laws.proofs.runs.Pyramids.{pyramid_built}
use Rattle.laws.proofs.moves.Contractions.{removals_in, contractions_append, contractions_reverse, removals_append, removals_reverse}
use Rattle.laws.proofs.moves.Kept.{Kept, kept_on, kept_back, pyramid_kept}
use Rattle.laws.proofs.moves.Steps.{Grown, Moved, up, down, base_from, Follows}

pub record Balanced (past new : List ℕ) (S Z : State) : Type 0 where
  pub vertices : Z.vertices + contractions_in new ≡ S.vertices + contractions_in past
  pub faces : Z.faces + removals_in new ≡ S.faces + removals_in past

-- TWO PYRAMIDS OVER ONE BASE
pub kept_along : {s : State} {t past : List ℕ} {z : State} {u new : List ℕ} → Pyramid s t past → Follows s t past z u new → Kept s.darts t past u new
kept_along {s} {t} {past} {z} {u} {new} P F =
    let there : Kept z.darts (base_from z.darts u new) [] u new = pyramid_kept F.pyramid in
    let same : Kept s.darts (base_from s.darts t past) [] u new = rw (F.base, F.darts) at there in
    kept_on (kept_back (pyramid_kept P)) same

module _ {s : State} {t past : List ℕ} {z : State} {u new : List ℕ} (P : Pyramid s t past) (F : Follows s t past z u new) where
  pub storing_balanced : Balanced past new s z
  storing_balanced =
      let K = kept_along P F in
      let S = (pyramid_built P).stored in
      let Z : Stores z u new = (pyramid_built F.pyramid).stored in
      let v : z.vertices ≡ (counts_of s.darts u new).vertices = Z.vertices ∙ ap (λ D. (counts_of D u new).vertices) F.darts in
      let f : z.faces ≡ (counts_of s.darts u new).faces = Z.faces ∙ ap (λ D. (counts_of D u new).faces) F.darts in
      rw (v, f, S.vertices, S.faces) (record { vertices = K.vertices; faces = K.faces })

pub record Exchanged (undone done : List ℕ) (S Z : State) : Type 0 where
  pub vertices : S.vertices + contractions_in undone ≡ Z.vertices + contractions_in done
  pub faces : S.faces + removals_in undone ≡ Z.faces + removals_in done

-- both read the other way round
balanced_back : {past new : List ℕ} {S Z : State} → Balanced past new S Z → Balanced new past Z S
balanced_back B = record { vertices = sym B.vertices; faces = sym B.faces }

exchanged_back : {undone done : List ℕ} {S Z : State} → Exchanged undone done S Z → Exchanged done undone Z S
exchanged_back E = record { vertices = sym E.vertices; faces = sym E.faces }

-- ---- along a history that holds both pasts

-- the history numbers that are fresh
module _ {past new : List ℕ} (G : Grown past new) (h : List ℕ) (there : take (length new) h ≡ reverse new) where
  grown_size : length new ≡ length past + length G.fresh
  grown_size = let size = ap length G.grown ∙ length-append G.fresh past in omega arith

  both : take (length new) h ≡ reverse past ++ reverse G.fresh
  both = there ∙ ap reverse G.grown ∙ reverse-append G.fresh past

  earlier : take (length past) h ≡ reverse past
  earlier =
      let size = grown_size in
      sym (take-take (length past) (length new) h (omega arith)) ∙ ap (take (length past)) both
      ∙ take_at (reverse past) (reverse G.fresh) (length past) (length-reverse past)

  fresh_part : part (length past) (length new) h ≡ reverse G.fresh
  fresh_part =
      let size = grown_size in
      let n = length past in
      let m = length new in
      let whole : m ≡ n + (m - n) = omega arith in
      let cut : take m h ≡ reverse past ++ part n m h =
      ap (λ (k : ℕ). take k h) whole ∙ take-add n (m - n) h ∙ ap (λ (l : List ℕ). l ++ part n m h) earlier in
      sym (drop_at (reverse past) (part n m h) n (length-reverse past)) ∙ ap (drop n) (sym cut ∙ both)
      ∙ drop_at (reverse past) (reverse G.fresh) n (length-reverse past)

  none_size : length past - length new ≡ 0
  none_size = let size = grown_size in omega arith

  none_part : part (length new) (length past) h ≡ []
  none_part = rw none_size

  fresh_contractions : contractions_in (part (length past) (length new) h) ≡ contractions_in G.fresh
  fresh_contractions = ap contractions_in fresh_part ∙ contractions_reverse G.fresh

  fresh_removals : removals_in (part (length past) (length new) h) ≡ removals_in G.fresh
  fresh_removals = ap removals_in fresh_part ∙ removals_reverse G.fresh

  fresh_size : length new - length past ≡ length G.fresh
  fresh_size = let size = grown_size in omega arith

  grown_removals : removals_in new ≡ removals_in G.fresh + removals_in past
  grown_removals = ap removals_in G.grown ∙ removals_append G.fresh past

  grown_contractions : contractions_in new ≡ contractions_in G.fresh + contractions_in past
  grown_contractions = ap contractions_in G.grown ∙ contractions_append G.fresh past

-- r more of what is taken away, or r less
taken_more : (v z c d r : ℕ) → z + d ≡ v + c → d ≡ r + c → v - r + 0 ≡ z
taken_more v z c d r e k = omega arith

taken_less : (v z c d r : ℕ) → z + d ≡ v + c → c ≡ r + d → v - 0 + r ≡ z
taken_less v z c d r e k = omega arith

module _ {past new : List ℕ} (S Z : State) (h : List ℕ) (B : Balanced past new S Z)
    (was : S.operations ≡ length past) (is : Z.operations ≡ length new) where
  balanced_up : take (length new) h ≡ reverse new → Grown past new → moved_to S Z h ≡ Z
  unfolding moved_to contractions_in
  balanced_up there G =
      rw (was, is, fresh_contractions G h there, none_part G h there, fresh_size G h there, none_size G h there)
      (state_path refl refl refl refl
      (taken_more S.vertices Z.vertices (contractions_in past) (contractions_in new) _ B.vertices (grown_contractions G h there))
      (taken_more S.faces Z.faces (removals_in past) (removals_in new) _ B.faces (grown_removals G h there)))

  balanced_down : take (length past) h ≡ reverse past → Grown new past → moved_to S Z h ≡ Z
  unfolding moved_to contractions_in
  balanced_down there G =
      rw (was, is, fresh_contractions G h there, none_part G h there, fresh_size G h there, none_size G h there)
      (state_path refl refl refl refl
      (taken_less S.vertices Z.vertices (contractions_in past) (contractions_in new) _ B.vertices (grown_contractions G h there))
      (taken_less S.faces Z.faces (removals_in past) (removals_in new) _ B.faces (grown_removals G h there)))

  exchanged_up : take (length new) h ≡ reverse new → Grown past new
      → Exchanged (part Z.operations S.operations h) (part S.operations Z.operations h) S Z
  unfolding contractions_in
  exchanged_up there G =
      rw (was, is, none_part G h there)
      (record {
        vertices = let f = fresh_contractions G h there in let g = grown_contractions G h there in let e = B.vertices in omega arith;
        faces = rw (fresh_removals G h there) (let g = grown_removals G h there in let e = B.faces in omega arith);
      })

module _ {s : State} {t past : List ℕ} {z : State} {u new : List ℕ} (P : Pyramid s t past) (F : Follows s t past z u new) (h : List ℕ)
    (before : past_of s h ≡ past) (behind : past_of z h ≡ new) where
  was : s.operations ≡ length past
  was = (pyramid_built P).layered.count

  is : z.operations ≡ length new
  is = (pyramid_built F.pyramid).layered.count

  held_before : take (length past) h ≡ reverse past
  unfolding past_of
  held_before = sym (reverse-reverse (take (length past) h)) ∙ ap reverse (rw was at before)

  held_behind : take (length new) h ≡ reverse new
  unfolding past_of
  held_behind = sym (reverse-reverse (take (length new) h)) ∙ ap reverse (rw is at behind)

  -- THE NUMBERS MOVED ALONG THE HISTORY ARE THE NUMBERS OF THE CYCLES
  pub moved_stores : moved_to s z h ≡ z
  moved_stores = go F.moved
    where
      go : Moved past new → moved_to s z h ≡ z
      go (up G) = balanced_up s z h (storing_balanced P F) was is held_behind G
      go (down G) = balanced_down s z h (storing_balanced P F) was is held_before G

  pub moved_exchanged : Exchanged (part z.operations s.operations h) (part s.operations z.operations h) s z
  moved_exchanged = go F.moved
    where
      go : Moved past new
          → Exchanged (part z.operations s.operations h) (part s.operations z.operations h) s z
      go (up G) = exchanged_up s z h (storing_balanced P F) was is held_behind G
      go (down G) = exchanged_back (exchanged_up z s h (balanced_back (storing_balanced P F)) is was held_before G)
