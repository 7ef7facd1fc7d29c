-- The history replayed on a base, faces first and then vertices with notes and links.
--   note_read              == a note tells what was noted
--   note_low, note_high    == its two places are darts
--   marked_room, marked_falls, marked_numbered, marked_starts == what the replay with notes asks for
--   base_no                == the faces are refused
--   base_yes               == the faces pass, and the vertices answer
use mathlib.Core.Bool.{Bool, true, false, false≢true}
use mathlib.Core.List.{List}
use mathlib.Core.Logic.{◌≢◌, ◌⊎◌, inl, inr}
use mathlib.Core.Path.{◌≡◌, refl, sym, ap, ◌∙◌, fun_ext, subst}
use Prim.Native.Nat.{ℕ, ◌+◌, ◌-◌, ◌*◌, ◌/◌, ◌%◌, ◌≤◌, ◌<◌}
use native.Mathlib.Decide.{dec_lt}
use native.Mathlib.Omega.{arith}
use lib.Dec.{eqb}
use lib.ListN.{get_or, length, take, drop}
use lib.Seq.{drop-drop, get_or-drop}
use Rattle.permutations.specs.Choice.{pick, true→T, eqb_other}
use Rattle.forest.specs.Forest.{Falls, root}
use Rattle.slices.proofs.Part.{part_length, part_at}
use Rattle.area.specs.Area.{Room, table_in, forest_in}
use Rattle.area.specs.Shape.{history_in}
use Rattle.operations.specs.Cycles.{Labelled}
use Rattle.operations.specs.Replay as area
use Rattle.operations.specs.Replay.{rejoined, replayed, Numbered}
use Rattle.operations.specs.Trees.{rooted}
use Rattle.operations.proofs.Labels.{labelled_falls}
use Rattle.operations.proofs.Lent.{lent, lent_outside, lent_forest}
use Rattle.operations.proofs.Outside.{outside_room, forest_length}
use Rattle.engine.specs.Held.{Area, Beyond}
use Rattle.engine.specs.Checks.{KindTried}
use Rattle.engine.proofs.Area.{room_kept}
use Rattle.engine.proofs.Around.{step_perm}
use Rattle.engine.proofs.Beside.{beside_area, beside_table}
use Rattle.engine.proofs.Tries.{kind_replayed, both_no, both_yes}
use Rattle.sheets.specs.Sheets.{Merge, none, into, last_into}
use Rattle.sheets.specs.Notes.{note_of, merge_in, notes_in}
use Rattle.yarn.specs.Places.{lowest, is_place, zone_of, places_after, merges_of, merges}
use Rattle.noting.specs.Links.{came_from, Marked, Starts, Replayed}
use Rattle.noting.specs.Checks.{Told, Holds, BaseReplayed}
use Rattle.noting.proofs.Lowest.{label_lowest, roots_lowest}
use Rattle.noting.proofs.Places.{Alike, Numbers, Rises, places_rejoined, places_alike, merges_alike, merges_among, merges_rise, last_below}
use Rattle.noting.proofs.Recorded.{Inside}
use Rattle.noting.proofs.Stepping.{roots_below}

-- ---- a note, read

module _ {D : ℕ} (some : 0 < D) (small : D ≤ 65536) where
  pub note_read : (m : Merge) → Inside D m → Rises m → merge_in (note_of m) ≡ m
  unfolding merge_in note_of
  note_read none a r = refl
  note_read (into low high) a r =
      let l : high < D = a.1 in
      let n : low * 65536 + high ≢ 0 = omega arith in
      let p : (low * 65536 + high) / 65536 ≡ low = omega arith in
      let q : (low * 65536 + high) % 65536 ≡ high = omega arith in
      rw (eqb_other n, p, q) refl

  pub note_low : (m : Merge) → Inside D m → note_of m / 65536 < D
  unfolding note_of
  note_low none a = omega arith
  note_low (into low high) a = let k : low < D = a.0 in let l : high < D = a.1 in omega arith

  pub note_high : (m : Merge) → Inside D m → note_of m % 65536 < D
  unfolding note_of
  note_high none a = omega arith
  note_high (into low high) a = let k : low < D = a.0 in let l : high < D = a.1 in omega arith

came_below : {D n t : ℕ} (ms : ℕ → Merge) → t ≤ n → (m : Merge) → (came_from D (last_into ms t) m ≤ n) ⊎ (came_from D (last_into ms t) m ≡ D)
unfolding came_from
came_below ms l none = inr refl
came_below {t = t} ms l (into low high) = inl (omega (arith, last_below ms t low))

pick_below : {D n l : ℕ} (b : Bool) → l ≤ n → (pick b l D ≤ n) ⊎ (pick b l D ≡ D)
pick_below true h = inl h
pick_below false h = inr refl

-- ---- the faces are refused

pub base_no : {D n : ℕ} {w v : List ℕ} {q : Bool} → Area D 0 w → KindTried D n 0 1 w v q → q ≡ false → BaseReplayed D n w v false
base_no {D} {n} {w} {v} A K fails =
    let e : 4 * D ≡ 3 * D + D = omega arith in
    record {
      beyond = record {
        size = K.outside.size;
        rest = rw e (sym (drop-drop D (3 * D) v) ∙ ap (drop D) K.outside.rest ∙ drop-drop D (3 * D) w);
      };
      beside = v;
      forest = refl;
      tried = both_no {k = 1} (omega arith) (λ _. refl) K A fails;
      holds = λ e. absurd (false≢true e);
    }

-- ---- the faces pass

module _ {D n : ℕ} {w v₁ v₂ v₃ : List ℕ} {q : Bool} (A : Area D 0 w) (N : Numbered D n w) (few : n ≤ D / 2) (K : KindTried D n 0 1 w v₁ q)
    (L : Labelled D 1 v₁ v₂) (M : Marked D v₂ v₃) where
  A₁ : Area D 0 v₁
  A₁ = beside_area K.outside A

  room₂ : Room D v₂
  room₂ = outside_room L.outside A₁.room

  pub marked_room : Room D v₃
  marked_room = room_kept v₂ v₃ M.size room₂

  -- past the darts nothing is marked
  later : (m : ℕ) → D ≤ m → drop m v₃ ≡ drop m v₂
  later m l =
      let k : m ≡ D + (m - D) = omega arith in
      rw k (sym (drop-drop (m - D) D v₃) ∙ ap (drop (m - D)) M.rest ∙ drop-drop (m - D) D v₂)

  forest₃ : forest_in D v₃ ≡ forest_in D v₂
  forest₃ = ap (take (3 * D - 2 * D)) (later (2 * D) (omega arith))

  roots₃ : rooted D v₃ ≡ rooted D v₂
  roots₃ = ap root forest₃

  rest₃ : drop (3 * D) v₃ ≡ drop (3 * D) w
  rest₃ = later (3 * D) (omega arith) ∙ L.outside.rest ∙ K.outside.rest

  history₃ : history_in D n v₃ ≡ history_in D n w
  history₃ = ap (take (3 * D + n - 3 * D)) rest₃

  pub marked_falls : Falls (forest_in D v₃)
  marked_falls = subst Falls (sym forest₃) (labelled_falls (step_perm A₁ 1 (omega arith)) L)

  pub marked_numbered : Numbered D n v₃
  marked_numbered = record {
    fits = N.fits;
    each = λ i l.
        let e : get_or v₃ (3 * D + i) 0 ≡ get_or w (3 * D + i) 0 =
        sym (get_or-drop (3 * D) v₃ i 0) ∙ ap (λ k. get_or k i 0) rest₃ ∙ get_or-drop (3 * D) w i 0 in
        rw e (N.each i l);
  }

  pub marked_starts : Starts D v₃
  marked_starts = record {
    each = λ x l.
        let e : get_or v₂ (2 * D + x) 0 ≡ rooted D v₃ x = label_lowest A₁ L x l ∙ sym (roots_lowest A₁ L x l) ∙ ap (λ R. R x) (sym roots₃) in
        M.each x l ∙ ap (λ y. pick (eqb y x) 0 D) e;
  }

  -- ---- the vertices answer

  abbrev b : List ℕ
  b = table_in D w

  abbrev hs : List ℕ
  hs = history_in D n w

  hs_length : length hs ≡ n
  hs_length = part_length (3 * D) (3 * D + n) w (omega (arith, A.room.fits)) ∙ omega arith

  numbers : Numbers D hs
  numbers = record { each = λ i l. rw (part_at (3 * D) (3 * D + n) w i (omega (arith, hs_length))) (N.each i (omega (arith, hs_length))) }

  alike : Alike D (rooted D v₃) (lowest D b)
  alike x l = ap (λ R. R x) roots₃ ∙ roots_lowest A₁ L x l ∙ ap (λ t. lowest D t x) (beside_table K.outside)

  abbrev ms : ℕ → Merge
  ms = merges_of (rooted D v₃) (history_in D n v₃)

  ms_same : ms ≡ merges D b hs
  unfolding merges
  ms_same = fun_ext (λ t. ap (λ l. merges_of (rooted D v₃) l t) history₃ ∙ merges_alike D A.room.even hs numbers alike t)

  inside : (t : ℕ) → Inside D (ms t)
  inside t = merges_among (λ x. x < D) (rooted D v₃) (roots_below marked_room marked_falls) (history_in D n v₃) t

  place_same : (x : ℕ) → x < D → eqb (rooted D v₃ x) x ≡ is_place D b x
  unfolding is_place
  place_same x l = ap (λ y. eqb y x) (alike x l)

  module _ {w' : List ℕ} {r : Bool} (P : Replayed D n v₃ w' r) where
    room' : Room D w'
    room' = room_kept v₃ w' P.size marked_room

    module _ (passes : r ≡ true) where
      rises : (t : ℕ) → Rises (ms t)
      rises t = merges_rise (rooted D v₃) (history_in D n v₃) (true→T (sym P.answer ∙ passes)) t

      told : Told D n (is_place D b) (merges D b hs) w'
      unfolding notes_in
      told = record {
        notes = λ t l.
            ap merge_in (P.notes passes t l) ∙ note_read A.room.some A.room.small (ms t) (inside t) (rises t) ∙ ap (λ f. f t) ms_same;
        links = λ x l.
            P.links passes x l ∙ ap (λ c. pick c (last_into ms n x) D) (place_same x l)
            ∙ ap (λ f. pick (is_place D b x) (last_into f n x) D) ms_same;
        kept = λ t l. P.kept passes t l ∙ ap (λ f. came_from D (last_into f t) (f t)) ms_same;
      }

      zones : (x : ℕ) → x < D → rooted D w' x ≡ zone_of D b hs x
      unfolding zone_of
      zones x l =
          ap (λ R. R x) (P.roots passes) ∙ ap (λ h. places_after (rooted D v₃) h x) history₃ ∙ places_alike D A.room.even hs numbers alike x l

      lows : (t : ℕ) → t < n → get_or w' (3 * D + D / 2 + t) 0 / 65536 < D
      lows t l = rw (P.notes passes t l) (note_low A.room.some A.room.small (ms t) (inside t))

      highs : (t : ℕ) → t < n → get_or w' (3 * D + D / 2 + t) 0 % 65536 < D
      highs t l = rw (P.notes passes t l) (note_high A.room.some A.room.small (ms t) (inside t))

      links : (i : ℕ) → i < D + n → (get_or w' i 0 ≤ n) ⊎ (get_or w' i 0 ≡ D)
      links i l = go (dec_lt i D)
        where
          go : Dec (i < D) → (get_or w' i 0 ≤ n) ⊎ (get_or w' i 0 ≡ D)
          go (yes k) = rw (P.links passes i k) (pick_below (eqb (rooted D v₃ i) i) (last_below ms n i))
          go (no k) =
              let e : i ≡ D + (i - D) = omega arith in
              let t : i - D < n = omega arith in
              rw (ap (λ j. get_or w' j 0) e ∙ P.kept passes (i - D) t) (came_below ms (omega arith) (ms (i - D)))

      holds : Holds D n b hs w'
      holds = record {
        count = hs_length;
        told = told;
        zones = zones;
        linked = record { some = A.room.some; small = A.room.small; few = few; fits = room'.fits; links = links; highs = highs };
        noted = record { small = A.room.small; rises = omega arith; few = few; fits = room'.fits; lows = λ t _ l. lows t l; highs = λ t _ l. highs t l };
      }

    size' : length (forest_in D w') ≡ length (forest_in D v₂)
    size' = forest_length D w' room'.fits ∙ sym (forest_length D v₂ room₂.fits)

    -- the base's map with the forest that is left
    abbrev u : List ℕ
    u = lent D v₂ (forest_in D w')

    u_forest : forest_in D u ≡ forest_in D w'
    u_forest = lent_forest room₂ (forest_in D w') size'

    history₂ : history_in D n v₃ ≡ history_in D n v₂
    history₂ = ap (take (3 * D + n - 3 * D)) (later (3 * D) (omega arith))

    plain : area.Replayed D n 1 v₂ u r
    plain = record {
      outside = lent_outside room₂ (forest_in D w') size';
      falls = subst Falls (sym u_forest) P.falls;
      answer = P.answer ∙ ap (λ R. replayed 1 R (history_in D n v₃)) roots₃ ∙ ap (replayed 1 (rooted D v₂)) history₂;
      roots = λ e.
          ap root u_forest ∙ P.roots e ∙ places_rejoined (rooted D v₃) (history_in D n v₃)
          ∙ ap (λ R. rejoined 1 R (history_in D n v₃)) roots₃ ∙ ap (rejoined 1 (rooted D v₂)) history₂;
    }

    beyond : Beyond D w w'
    beyond =
        let e : 4 * D ≡ 3 * D + D = omega arith in
        record {
          size = P.size ∙ M.size ∙ L.outside.size ∙ K.outside.size;
          rest = P.rest ∙ rw e (sym (drop-drop D (3 * D) v₃) ∙ ap (drop D) rest₃ ∙ drop-drop D (3 * D) w);
        }

    -- BOTH KINDS ANSWER, AND WHAT EACH OPERATION MERGES IS NOTED
    pub base_yes : q ≡ true → BaseReplayed D n w w' r
    base_yes faces = record {
      beyond = beyond;
      beside = u;
      forest = u_forest;
      tried = both_yes {k = 1} (omega arith) (λ _. refl) K faces (kind_replayed A₁ (omega arith) L plain);
      holds = holds;
    }
