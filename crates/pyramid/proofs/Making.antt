-- A kernel of contractions with notes, on a work area that was judged with its sheets: what it leaves beside the sheets, and what becomes of them.
--   MadeBy s es t h w u g v o == the contractions es are made, or refused, beside the sheets: o is the outcome, v the work area before it is cleared
--   within_merging == what is merged are places of the sheets
--   made_same  == it is refused, or takes no edge: neither sheet changes
--   made_more  == it is done: the merges that are noted are those of its operations
--   made_ran   == whichever way the run went
--   full_sheets == where 64 levels are in use neither sheet changes
use mathlib.Core.Bool.{Bool}
use mathlib.Core.List.{List, [], ◌∷◌, ◌++◌, reverse}
use mathlib.Core.Logic.{◌≢◌}
use mathlib.Core.Path.{◌≡◌, refl, sym, ap, ap₂, subst, ◌∙◌}
use Prim.Native.Nat.{ℕ, zero, suc, ◌+◌, ◌-◌, ◌*◌, ◌/◌, ◌≤◌, ◌<◌}
use native.Mathlib.Decide.{ℕ_discrete, dec_le}
use native.Mathlib.Omega.{arith}
use lib.Dec.{T}
use borrow.Author.Tests.{le-leb, lt-leb}
use lib.ListN.{length, length-append, length-reverse, get_or}
use Rattle.permutations.specs.Choice.{eqb_same, eqb_other}
use Rattle.std.specs.Prelude.{Result as Answering, Ok, Err}
use Rattle.darts.specs.Answers.{Answer, empty_kernel, too_many_levels}
use Rattle.darts.specs.Cases.{refusal_of}
use Rattle.darts.specs.Operation.{contraction, edge_of}
use Rattle.darts.specs.Kernel.{stands, run}
use Rattle.darts.specs.State.{State, Result, gives, refuses, reduce, raised, levelled}
use Rattle.darts.specs.Pyramid.{Pyramid}
use Rattle.darts.specs.Calls.{After, table_of, past_of, cleared, hands_back, on_state, reduce_by}
use Rattle.darts.specs.declared.Refusal.{Refusal}
use Rattle.laws.proofs.Lists.{reverse_onto}
use Rattle.laws.proofs.calls.Judging.{Lent, on_lent}
use Rattle.laws.proofs.runs.Ends.{Layered}
use Rattle.laws.proofs.runs.Pyramids.{pyramid_built, reduce_pyramid}
use Rattle.laws.proofs.runs.Reduces.{raises_reduce, reduced, reduced_base}
use Rattle.area.specs.Area.{Room, table_in, past_in}
use Rattle.operations.specs.Trees.{rooted}
use Rattle.engine.specs.Runs.{ran_in}
use Rattle.engine.proofs.Parts.{past_length}
use Rattle.sheets.specs.Sheets.{Sheets, Merge, none, into, merged_by}
use Rattle.sheets.specs.Notes.{notes_in, Noted, Fits}
use Rattle.yarn.specs.Places.{lowest, zone_of, merges_of, merges}
use Rattle.yarn.specs.Given.{Given, given}
use Rattle.yarn.specs.Calls.{base_of, sheets_after}
use Rattle.yarn.proofs.Apart.{Apart, base_apart, base_standing, pyramid_inside}
use Rattle.yarn.proofs.Decided.{pyramid_decided}
use Rattle.yarn.proofs.Merging.{Merging}
use Rattle.yarn.proofs.Noted.{Within, merged_agree, fits_agree, noted_within}
use Rattle.yarn.proofs.Settled.{Inside, lowest_settled}
use Rattle.yarn.proofs.Totals.{merges_fit}
use Rattle.yarn.proofs.Turns.{from_on}
use Rattle.yarn.proofs.Untouched.{base_merging}
use Rattle.yarn.proofs.sentences.Carried.{carried_more}
use Rattle.noting.specs.Running.{RanNoted}
use Rattle.noting.proofs.Places.{Numbers, merges_alike}
use Rattle.pyramid.specs.Costs.{StoodWith}
use Rattle.pyramid.specs.Steps.{climbs}
use Rattle.pyramid.specs.Values.{left, unsettled}
use Rattle.pyramid.specs.declared.Outcome.{Outcome}
use Rattle.pyramid.proofs.Judges.{lent_of, room_then}
use Rattle.pyramid.proofs.ByRun.{reduce_levels, step_full, level_ran}

pub record MadeBy (s : State) (es t h w u g v : List ℕ) (o : Outcome) : Type 0 where
  pub plain : unsettled (left o u g (cleared s.darts v)) ≡ unsettled (reduce_by contraction es s t h w)
  pub room : Room s.darts v
  pub noted : Noted s.darts s.operations o.state.operations v
  pub sheets : (S : Sheets) → merged_by (notes_in s.darts v) s.operations (o.state.operations - s.operations) S
      ≡ sheets_after s (table_of s t) (past_of s h) S (reduce contraction es s (table_of s t) (past_of s h))
  pub fits : (S : Sheets) → T (given s.darts (base_of s (table_of s t) (past_of s h)) (reverse (past_of s h)) S)
      → s.darts ≤ length S.sheet → s.darts / 2 ≤ length S.kept
      → Fits (notes_in s.darts v) s.operations (o.state.operations - s.operations) S

-- how many operations a call leaves
module _ (step : State → List ℕ → List ℕ → Result) {s : State} {t h w : List ℕ} (L : Lent s t h w) (o : Outcome) {u g x : List ℕ}
    (E : unsettled (left o u g x) ≡ unsettled (on_state step s t h w)) where
  operations_after : {r : Result} → step s (table_of s t) (past_of s h) ≡ r → o.state.operations ≡ (hands_back s t h w r).state.operations
  operations_after e =
      ap (λ (y : After). y.state.operations) (E ∙ ap (λ (y : After). unsettled y) (on_lent s t h w step L))
      ∙ ap (λ (y : Result). (hands_back s t h w y).state.operations) e

  after_refused : {a : Answer} → step s (table_of s t) (past_of s h) ≡ refuses a → o.state.operations ≡ s.operations
  unfolding hands_back
  after_refused e = operations_after e

  after_given : {z : State} {v past : List ℕ} → step s (table_of s t) (past_of s h) ≡ gives z v past → o.state.operations ≡ z.operations
  unfolding hands_back
  after_given e = operations_after e

-- the operations of a list that goes on are on edges
inside_then : (D : ℕ) (hs new : List ℕ) → Inside D (hs ++ new) → Inside D new
inside_then D [] new i = i
inside_then D (h ∷ hs) new i = inside_then D hs new i.1

inside_numbers : (D : ℕ) (hs : List ℕ) → Inside D hs → Numbers D hs
unfolding edge_of
inside_numbers D hs i = record { each = go hs i }
  where
    edge : (h : ℕ) → 2 * edge_of h + 1 < D → h < 2 * D
    edge h e = omega arith

    go : (hs : List ℕ) → Inside D hs → (j : ℕ) → j < length hs → get_or hs j 0 < 2 * D
    go [] i j l = absurd (omega arith)
    go (h ∷ hs) i zero l = edge h i.0
    go (h ∷ hs) i (suc j) l = go hs i.1 j (omega arith)

pub within_merging : {place : ℕ → Bool} {ms : ℕ → Merge} {D n : ℕ} → Merging place ms D n → (t : ℕ) → t < n → Within D (ms t)
within_merging {ms = ms} {D} M t l = go (ms t) refl
  where
    go : (m : Merge) → ms t ≡ m → Within D m
    go none e = tt
    go (into low high) e = ((M.lows l e).0, (M.highs l e).0)

longer_of : (fresh past : List ℕ) {new : List ℕ} → new ≡ reverse fresh ++ past → length new ≡ length fresh + length past
longer_of fresh past told = ap length told ∙ length-append (reverse fresh) past ∙ ap (λ k. k + length past) (length-reverse fresh)

module _ {s : State} {t h w : List ℕ} (Z : StoodWith s t h w) (es : List ℕ) where
  abbrev D : ℕ
  D = s.darts

  abbrev n : ℕ
  n = s.operations

  abbrev u : List ℕ
  u = table_of s t

  abbrev past : List ℕ
  past = past_of s h

  abbrev hs : List ℕ
  hs = reverse past

  abbrev b : List ℕ
  b = base_of s u past

  lent : Lent s t h w
  lent = lent_of Z.stood refl

  P : Pyramid s u past
  P = lent.pyramid

  layered : Layered D s past
  layered = (pyramid_built P).layered

  past_count : length past ≡ n
  past_count = sym layered.count

  count : length hs ≡ n
  count = length-reverse past ∙ past_count

  area_few : n ≤ D / 2
  area_few = ((Z.stood.checked refl).area refl).few

  module _ {t' h' v : List ℕ} (o : Outcome)
      (plain : unsettled (left o t' h' (cleared D v)) ≡ unsettled (reduce_by contraction es s t h w)) (room : Room D v) where
    -- NEITHER SHEET CHANGES
    pub made_same : {a : Answer} → reduce contraction es s u past ≡ refuses a → MadeBy s es t h w t' h' v o
    unfolding sheets_after merged_by reduce_by
    made_same e =
        let same = after_refused (reduce contraction es) lent o plain e in
        let zero_more : o.state.operations - n ≡ 0 = omega arith in
        record {
          plain = plain;
          room = room;
          noted = record {
            small = room.small;
            rises = omega arith;
            few = omega (arith, area_few);
            fits = room.fits;
            lows = λ i l k. absurd (omega arith);
            highs = λ i l k. absurd (omega arith);
          };
          sheets = λ S. rw (zero_more, e);
          fits = λ S g l k. rw zero_more tt;
        }

    module _ (free : s.levels < 64) (fresh : List ℕ) {u' new : List ℕ}
        (ran : run contraction D u past es ≡ stands u' new) (told : new ≡ reverse fresh ++ past)
        (reached : length new ≡ o.state.operations) (few : o.state.operations ≤ D / 2)
        (notes : (i : ℕ) → i < length fresh → notes_in D v (n + i) ≡ merges_of (rooted D w) fresh i) where
      longer : length new ≡ length fresh + length past
      longer = longer_of fresh past told

      more : o.state.operations - n ≡ length fresh
      more = omega (arith, longer, reached, past_count)

      history : reverse new ≡ hs ++ fresh
      history = ap reverse told ∙ reverse_onto fresh past

      module _ (some : length new ≢ length past) where
        abbrev z : State
        z = raised s u' new

        given_new : reduce contraction es s u past ≡ gives z u' new
        given_new = raises_reduce s u past contraction es (record { room = free; stood = ran; more = some; state = refl })

        P' : Pyramid z u' new
        P' = reduce_pyramid P contraction es given_new

        base_same : base_of z u' new ≡ b
        unfolding base_of raised
        base_same = reduced_base layered (reduced (pyramid_built P).standing layered (record { kind = contraction; edges = es }) given_new)

        inside : Inside D (hs ++ fresh)
        unfolding raised
        inside = subst (Inside D) history (pyramid_inside P')

        apart : Apart (lowest D b) (hs ++ fresh)
        unfolding raised
        apart = subst (Apart (lowest D b)) history (subst (λ c. Apart (lowest D c) (reverse new)) base_same (base_apart P'))

        agree : (i : ℕ) → i < length fresh → notes_in D v (n + i) ≡ merges D b (hs ++ fresh) (n + i)
        unfolding merges zone_of
        agree i l =
            notes i l
            ∙ merges_alike D room.even fresh (inside_numbers D fresh (inside_then D hs fresh inside)) (λ x k. Z.zones x k) i
            ∙ sym ((from_on (lowest D b) hs fresh).each i) ∙ ap (λ k. merges_of (lowest D b) (hs ++ fresh) (k + i)) count

        -- THE MERGES THAT ARE NOTED ARE THOSE OF ITS OPERATIONS
        pub made_more : MadeBy s es t h w t' h' v o
        unfolding sheets_after
        made_more = record {
          plain = plain;
          room = room;
          noted =
              noted_within (merges D b (hs ++ fresh)) room.some room.small (omega (arith, longer, reached, past_count)) few room.fits
              (λ i l k. noted i l k) (λ i l k. within i k);
          sheets = λ S. rw (more, given_new, told) (merged_agree _ _ n (length fresh) agree S ∙ sym (carried S));
          fits = λ S g l k. rw more (fits_agree _ _ n (length fresh) agree S (fit S g l k));
        }
          where
            noted : (i : ℕ) → n ≤ i → i < o.state.operations → notes_in D v i ≡ merges D b (hs ++ fresh) i
            noted i l k =
                let e : n + (i - n) ≡ i = omega arith in
                subst (λ j. notes_in D v j ≡ merges D b (hs ++ fresh) j) e (agree (i - n) (omega (arith, more)))

            within : (i : ℕ) → i < o.state.operations → Within D (merges D b (hs ++ fresh) i)
            within i k =
                within_merging (base_merging (base_standing P) (hs ++ fresh) inside apart) i (omega (arith, length-append hs fresh, count, more, longer))

            carried : (S : Sheets) → sheets_after s u past S (gives z u' (reverse fresh ++ past)) ≡ merged_by (merges D b (hs ++ fresh)) n (length fresh) S
            carried S =
                carried_more D b past (reverse fresh) S
                ∙ ap₂ (λ k c. merged_by (merges D b (reverse (reverse fresh ++ past))) k c S) past_count (length-reverse fresh)
                ∙ ap (λ l. merged_by (merges D b l) n (length fresh) S) (reverse_onto fresh past)

            fit : (S : Sheets) → T (given D b hs S) → D ≤ length S.sheet → D / 2 ≤ length S.kept
                → Fits (merges D b (hs ++ fresh)) n (length fresh) S
            fit S g l k =
                let G : Given D b hs S = (pyramid_decided P S l (omega (arith, area_few, past_count))).0 g in
                subst (λ c. Fits (merges D b (hs ++ fresh)) c (length fresh) S) count
                (merges_fit D b (lowest_settled (base_standing P)) room.small hs fresh (record { inside = inside; apart = apart }) G l)

module _ {s : State} {t h w : List ℕ} (Z : StoodWith s t h w) (es : List ℕ) {t' h' v : List ℕ} {r : Answering ℕ Refusal}
    (R : RanNoted s.darts s.operations es w v r) (o : Outcome)
    (plain : unsettled (left o t' h' (cleared s.darts v)) ≡ unsettled (reduce_by contraction es s t h w)) where
  room : Room s.darts v
  room = room_then Z.stood refl R.went.beyond

  reduces : reduce contraction es s (table_of s t) (past_of s h) ≡ climbs s (past_of s h) (ran_in s.darts v r)
  reduces =
      (reduce_levels refl es).steps s (table_of s t) (past_of s h)
      ∙ ap (climbs s (past_of s h)) (sym (level_ran (reduce_levels refl es) Z.stood refl R.went))

  same : {a : Answer} → reduce contraction es s (table_of s t) (past_of s h) ≡ refuses a → MadeBy s es t h w t' h' v o
  same = made_same Z es o plain room

  module _ (free : s.levels < 64) {m : ℕ} (is : r ≡ Ok m) where
    abbrev new : List ℕ
    new = past_in s.darts m v

    Q : RanNoted s.darts s.operations es w v (Ok m)
    Q = subst (λ (q : Answering ℕ Refusal). RanNoted s.darts s.operations es w v q) is R

    new_count : length new ≡ m
    new_count = let f = Q.went.few in let k = room.fits in past_length s.darts m v (omega arith)

    -- the run, on the table and the past that were lent
    stood_run : run contraction s.darts (table_of s t) (past_of s h) es ≡ stands (table_in s.darts v) new
    stood_run = sym (level_ran (reduce_levels refl es) Z.stood refl Q.went)

    more_done : Dec (length new ≡ length (past_of s h)) → MadeBy s es t h w t' h' v o
    unfolding levelled reduce_by raised
    more_done (yes e) = same {a = empty_kernel} (reduces ∙ rw (is, lt-leb 64 s.levels free, eqb_same e))
    more_done (no grown) =
        let gave : reduce contraction es s (table_of s t) (past_of s h) ≡ gives (raised s (table_in s.darts v) new) (table_in s.darts v) new
        = reduces ∙ rw (is, lt-leb 64 s.levels free, eqb_other grown) in
        let reached = after_given (reduce contraction es) (lent Z es) o plain gave in
        let C = Z.stood.checked refl in
        let told = Q.told ∙ ap (λ l. reverse Q.fresh ++ l) (C.past refl) in
        let longer : length new ≡ length Q.fresh + length (past_of s h) = longer_of Q.fresh (past_of s h) told in
        let c = past_count Z es in
        let few : length new ≤ s.darts / 2 = omega (arith, new_count, Q.went.few) in
        made_more Z es o plain room free Q.fresh stood_run told (sym reached) (rw reached few)
        (λ i l. Q.notes i (omega (arith, longer, new_count))) grown

  by_run : Dec (64 ≤ s.levels) → (q : Answering ℕ Refusal) → r ≡ q → MadeBy s es t h w t' h' v o
  unfolding levelled
  by_run (yes full) q is = same {a = too_many_levels} (reduces ∙ rw (le-leb 64 s.levels full))
  by_run (no n) (Err a) is = let free : s.levels < 64 = omega arith in same {a = refusal_of a} (reduces ∙ rw (is, lt-leb 64 s.levels free))
  by_run (no n) (Ok m) is = let free : s.levels < 64 = omega arith in more_done free is (ℕ_discrete (length (past_in s.darts m v)) (length (past_of s h)))

  -- WHICHEVER WAY THE RUN WENT
  pub made_ran : MadeBy s es t h w t' h' v o
  made_ran = by_run (dec_le 64 s.levels) r refl

module _ (s : State) (full : 64 ≤ s.levels) (es : List ℕ) where
  -- WHERE 64 LEVELS ARE IN USE
  pub full_sheets : (t past : List ℕ) (S : Sheets) → sheets_after s t past S (reduce contraction es s t past) ≡ S
  unfolding sheets_after
  full_sheets t past S = ap (sheets_after s t past S) (step_full (reduce_levels refl es) full t past)
