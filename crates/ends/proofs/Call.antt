-- The claims of document 02, request Four, over the call: what it answers and finds is what unfolding gives.
--   Unfolds x z u l       == l was accepted, and found the successor of x in the table u, having passed at most two darts for each operation of z
--   call_four             == 4 exactly where table and ends come from no pyramid, and neither 1 nor 2 is given
--   call_comes            == an accepted call was lent what comes from a pyramid
--   call_unfolds, call_gone, call_above, call_outside == whatever pyramid they come from: a survivor of level k, a dart gone by then, a level above the
--                            top, no dart
--   Agrees C k x f        == what unfolding gives there, and f agrees with it
--   call_agrees           == so does every accepted call, whatever pyramid table and ends come from
--   Lends P t h w         == base and ends of the pyramid P are lent, with room
--   own_ends              == so they are where the numbers of its ends are lent
--   pyramid_call, pyramid_gone, pyramid_above, pyramid_outside == the call on a pyramid's base and ends
use mathlib.Core.List.{List}
use mathlib.Core.Logic.{◌↔◌, inl}
use mathlib.Core.Path.{◌≡◌, sym, ◌∙◌, ap, subst}
use Prim.Native.Nat.{ℕ, ◌+◌, ◌*◌, ◌/◌, ◌≤◌, ◌<◌}
use native.Mathlib.Omega.{arith}
use lib.Dec.{T, T_not, not_T}
use lib.ListN.{length, take, get_or, length-append}
use lib.Seq.{length-take-le, get_or-take}
use Rattle.darts.specs.Map.{successor, gone, survives}
use Rattle.darts.specs.State.{State, gives}
use Rattle.darts.specs.Levels.{unfold_to}
use Rattle.darts.specs.Pyramid.{Pyramid, kernels_of}
use Rattle.darts.proofs.Fitting.{Lengths, count_facts, count_test}
use Rattle.laws.proofs.runs.Pyramids.{built_pyramid}
use Rattle.laws.proofs.file.WriteRead.{unfold_given}
use Rattle.laws.proofs.claims.Decided.{kernels_cut}
use Rattle.laws.proofs.sentences.Order.{Answers, answers}
use Rattle.laws.proofs.sentences.Steps.{pyramid_fitted}
use Rattle.ends.specs.Ends.{gone_by, top}
use Rattle.ends.specs.Walk.{Found}
use Rattle.ends.specs.Comes.{end_in, ends_in, ends_so, Comes, comes}
use Rattle.ends.specs.Lookup.{Looked, successor_at}
use Rattle.ends.proofs.Unfolds.{top_kernels, Cut, unfold_cut}
use Rattle.ends.proofs.Claims.{comes_unfolds, comes_gone, rising_at}
use Rattle.ends.proofs.Accepted.{so_iff}
use Rattle.ends.proofs.Decided.{comes_decided, comes_top}
use Rattle.ends.proofs.Judged.{Fitting, Pyramidal, Reaching, Asking, judged_12, judged_7, judged_8, judged_0}
use Rattle.ends.proofs.Sentences.{successor_order, successor_found}

-- "It must agree with unfolding on every dart and level."
pub record Unfolds (x : ℕ) (z : State) (u : List ℕ) (l : Looked) : Type 0 where
  pub accepted : Answers l.answer 0 0
  pub dart : l.found.dart ≡ successor u x
  -- "never above twice the operations done by level k"
  pub passed : l.found.passed ≤ 2 * z.operations

pub record Agrees {D : ℕ} {t ends : List ℕ} (C : Comes D t ends) (k x : ℕ) (f : Found) : Type 0 where
  pub state : State
  pub table : List ℕ
  pub past : List ℕ
  pub unfolded : unfold_to k C.state C.table C.past ≡ gives state table past
  pub inside : x < D
  pub stays : T (survives past x)
  pub dart : f.dart ≡ successor table x
  pub passed : f.passed ≤ 2 * state.operations

-- ---- 4

module _ (D k x : ℕ) (t h w : List ℕ) where
  decided : Fitting D t h w → T (comes D (take D t) (take (D / 2) h)) ↔ Comes D (take D t) (take (D / 2) h)
  decided F =
      comes_decided D (take D t) (take (D / 2) h) (count_test D F.count) (length-take-le D t F.lengths.table)
      (length-take-le (D / 2) h F.lengths.history)

  -- "4 if the table and ends come from no pyramid"
  pub call_four : ((successor_at D k x t h w).answer.number ≡ 4) ↔ (Fitting D t h w × (¬ (Comes D (take D t) (take (D / 2) h))))
  call_four =
      let four = (successor_order D k x t h w).four in
      (λ e. let c = four.0 e in (c.0, λ C. c.1 ((decided c.0).1 C)), λ c. four.1 (c.0, λ y. c.1 ((decided c.0).0 y)))

  -- an accepted call was lent what comes from a pyramid
  pub call_comes : (successor_at D k x t h w).answer.number ≡ 0 → Comes D (take D t) (take (D / 2) h)
  call_comes e = let P = ((successor_order D k x t h w).zero.0 e).0.reaching.pyramid in (decided P.fits).0 P.comes_so

-- ---- whatever pyramid table and ends come from

module _ (D : ℕ) (t h w : List ℕ) (C : Comes D (take D t) (take (D / 2) h)) (L : Lengths D (length t) (length h) (length w)) where
  abbrev ends : List ℕ
  ends = take (D / 2) h

  pyramidal : Pyramidal D t h w
  pyramidal =
      let F : Fitting D t h w = record { count = count_facts D C.count; lengths = L } in
      record { fits = F; comes_so = (decided D 0 0 t h w F).1 C }

  -- the top of the ends is the top of the pyramid
  top_levels : top ends ≡ C.state.levels
  top_levels =
      comes_top D (take D t) ends (length-take-le (D / 2) h L.history) C
      ∙ sym (top_kernels D (take D t) C.count C.size C.permutation C.kernels C.built)

  abbrev call : ℕ → ℕ → Looked
  call k x = successor_at D k x t h w

  -- 12, "k above the top", place "the top level"
  pub call_above : (k x : ℕ) → C.state.levels < k → Answers (call k x).answer 12 C.state.levels
  unfolding successor_at
  call_above k x l = let e = top_levels in rw (← e) (answers (judged_12 D k x t h w pyramidal (omega arith)))

  reaching : (k : ℕ) → k ≤ C.state.levels → Reaching D k t h w
  reaching k l = record { pyramid = pyramidal; reached = (let e = top_levels in omega arith) }

  -- "then 7 for a dart of D or more"
  pub call_outside : (k x : ℕ) → k ≤ C.state.levels → D ≤ x → Answers (call k x).answer 7 0
  unfolding successor_at
  call_outside k x l m = answers (judged_7 D k x t h w (reaching k l) m)

  module _ (k : ℕ) {z : State} {u new : List ℕ} (e : unfold_to k C.state C.table C.past ≡ gives z u new) where
    cut : Cut D (take D t) C.kernels k z u new
    cut = unfold_cut D (take D t) C.count C.size C.permutation C.kernels C.built k e

    asking : (x : ℕ) → x < D → Asking D k x t h w
    asking x l = record { reaching = reaching k below; inside = l }
      where
        below : k ≤ C.state.levels
        below =
            let c = cut in
            let n : length c.low + length c.high ≡ length C.kernels = sym (length-append c.low c.high) ∙ ap length c.whole in
            let m = c.height in
            let s = top_kernels D (take D t) C.count C.size C.permutation C.kernels C.built in
            omega arith

    counted : length new ≡ z.operations
    counted = (pyramid_fitted (built_pyramid D (take D t) C.count C.size C.permutation cut.low cut.built)).history

    same_gone : (x : ℕ) → x < D → gone_by k ends x ≡ gone new x
    same_gone x l = comes_gone C k e x l

    -- "8 for a dart gone by then"
    pub call_gone : (x : ℕ) → x < D → T (gone new x) → Answers (call k x).answer 8 0
    unfolding successor_at
    call_gone x l g = answers (judged_8 D k x t h w (asking x l) (rw (same_gone x l) g))

    -- A SURVIVOR OF LEVEL k HAS THE SUCCESSOR THAT UNFOLDING GIVES
    pub call_unfolds : (x : ℕ) → x < D → T (survives new x) → Unfolds x z u (call k x)
    unfolding successor_at survives
    call_unfolds x l s =
        let stays : ¬ (T (gone_by k ends x)) = λ g. T_not (gone new x) s (subst T (same_gone x l) g) in
        let a = answers (judged_0 D k x t h w (asking x l) stays) in
        let f = successor_found D k x t h w a.number in
        let W = comes_unfolds C k e x l s in
        let n = counted in
        let m = W.count in
        let p = ap (λ (f : Found). f.passed) f in
        record { accepted = a; dart = ap (λ (f : Found). f.dart) f ∙ W.dart; passed = omega arith }

  -- ---- every accepted call

  -- WHATEVER PYRAMID THEY COME FROM, AN ACCEPTED CALL FOUND WHAT UNFOLDING IT GIVES
  pub call_agrees : (k x : ℕ) → (call k x).answer.number ≡ 0 → Agrees C k x (call k x).found
  unfolding survives
  call_agrees k x e =
      let c = (successor_order D k x t h w).zero.0 e in
      let l = c.0.inside in
      let reached : k ≤ C.state.levels = (let r = c.0.reaching.reached in let s = top_levels in omega arith) in
      let G = unfold_given k C.state C.table C.past reached in
      let s : T (survives G.past x) = not_T (gone G.past x) (λ g. c.1 (subst T (sym (same_gone k G.given x l)) g)) in
      let U = call_unfolds k G.given x l s in
      record { state = G.state; table = G.table; past = G.past; unfolded = G.given; inside = l; stays = s; dart = U.dart; passed = U.passed }

-- ---- the base and the ends of a pyramid

-- "From the base table and, for each edge, the level and kind of its end"
pub record Lends {s : State} {t past : List ℕ} (P : Pyramid s t past) (b h w : List ℕ) : Type 0 where
  pub base : take s.darts b ≡ P.base
  pub ends : (e : ℕ) → e < s.darts / 2 → T (ends_so (get_or h e 0) (end_in 1 (kernels_of s past) e))
  pub lengths : Lengths s.darts (length b) (length h) (length w)

module _ {s : State} {t past : List ℕ} (P : Pyramid s t past) (b h w : List ℕ) where
  -- the numbers of its ends
  pub own_ends : take s.darts b ≡ P.base → take (s.darts / 2) h ≡ ends_in s past → Lengths s.darts (length b) (length h) (length w)
      → Lends P b h w
  unfolding ends_in
  own_ends base ends L = record { base = base; ends = told; lengths = L }
    where
      own : (e : ℕ) → e < s.darts / 2 → get_or h e 0 ≡ end_in 1 (kernels_of s past) e
      own e l =
          sym (get_or-take (s.darts / 2) h e 0 l) ∙ ap (λ (a : List ℕ). get_or a e 0) ends ∙ rising_at (end_in 1 (kernels_of s past)) (s.darts / 2) 0 e l
          ∙ ap (end_in 1 (kernels_of s past)) (omega arith)

      told : (e : ℕ) → e < s.darts / 2 → T (ends_so (get_or h e 0) (end_in 1 (kernels_of s past) e))
      told e l = (so_iff (get_or h e 0) (end_in 1 (kernels_of s past) e)).1 (inl (own e l))

  module _ (N : Lends P b h w) where
    lent_comes : Comes s.darts (take s.darts b) (take (s.darts / 2) h)
    lent_comes = record {
      count = P.count;
      size = rw N.base P.size;
      permutation = rw N.base P.permutation;
      kernels = P.kernels;
      state = s;
      table = t;
      past = past;
      built = rw N.base P.built;
      told = λ e l. rw (get_or-take (s.darts / 2) h e 0 l, ← (kernels_cut P)) (N.ends e l);
    }

    pub pyramid_above : (k x : ℕ) → s.levels < k → Answers (successor_at s.darts k x b h w).answer 12 s.levels
    unfolding lent_comes
    pyramid_above = call_above s.darts b h w lent_comes N.lengths

    pub pyramid_outside : (k x : ℕ) → k ≤ s.levels → s.darts ≤ x → Answers (successor_at s.darts k x b h w).answer 7 0
    unfolding lent_comes
    pyramid_outside = call_outside s.darts b h w lent_comes N.lengths

    module _ (k : ℕ) {z : State} {u new : List ℕ} (e : unfold_to k s t past ≡ gives z u new) where
      pub pyramid_gone : (x : ℕ) → x < s.darts → T (gone new x) → Answers (successor_at s.darts k x b h w).answer 8 0
      unfolding lent_comes
      pyramid_gone = call_gone s.darts b h w lent_comes N.lengths k e

      -- FOR EVERY PYRAMID, EVERY LEVEL AND EVERY SURVIVOR THERE
      pub pyramid_call : (x : ℕ) → x < s.darts → T (survives new x) → Unfolds x z u (successor_at s.darts k x b h w)
      unfolding lent_comes
      pyramid_call = call_unfolds s.darts b h w lent_comes N.lengths k e
