-- The darts of a map that the work area holds, listed in the file's order, and numbered.
--   listed_taken   == where the darts of the operations are listed, the map is held as before
--   listed_order   == the survivors listed after them: all darts in the file's order
--   listed_below   == the list holds darts
--   listed_numbers == the darts that are numbered by their places in the list have the file's numbers
use mathlib.Core.List.{List, [], ◌∷◌, map, reverse, reverse-reverse, Memᴰ}
use mathlib.Core.Path.{◌≡◌, refl, sym, ap, ap₂, ◌∙◌}
use Prim.Native.Nat.{ℕ, zero, suc, ◌+◌, ◌-◌, ◌*◌, ◌≤◌, ◌<◌}
use native.Mathlib.Decide.{dec_lt}
use native.Mathlib.Nat.{not-suc-le-zero}
use native.Mathlib.Omega.{arith}
use lib.ListN.{length, get_or, take, drop}
use lib.Seq.{get_or-take, get_or-drop}
use Rattle.darts.specs.Map.{successor}
use Rattle.darts.specs.File.{taken, survivors, file_order, file_number, file_table, place_in}
use Rattle.slices.proofs.Part.{part_length}
use Rattle.area.specs.Area.{Room, table_in, past_in, forest_in}
use Rattle.area.specs.Shape.{history_in}
use Rattle.operations.specs.Trees.{Outside}
use Rattle.slices.proofs.Over.{drop_more}
use Rattle.operations.proofs.Outside.{forest_at}
use Rattle.engine.specs.Held.{Area}
use Rattle.engine.proofs.Beside.{beside_table, beside_past, beside_area}
use Rattle.engine.proofs.Parts.{rest_from, forest_rest}
use Rattle.slices.specs.Laid.{laid}
use Rattle.writer.specs.Numbering.{Dense, Placed, renamed, entries_in, Numbered}
use Rattle.slices.proofs.Laid.{laid_length, laid_front, laid_rest, laid_there, laid_on}
use Rattle.laws.proofs.file.FileOrder.{taken_length}
use Rattle.laws.proofs.file.Numbering.{order_length, order_small, number_below}

-- what is laid into the forest's part changes nothing else
laid_outside : {D : ℕ} (w xs : List ℕ) → Room D w → length xs ≤ D → Outside D w (laid w (2 * D) xs)
laid_outside {D} w xs room few =
    let fits = room.fits in
    record {
      size = laid_length w (2 * D) xs (record { fits = omega arith });
      front = laid_front w (2 * D) xs (record { fits = omega arith }) (2 * D) (omega arith);
      rest = laid_rest w (2 * D) xs (record { fits = omega arith }) (3 * D) (omega arith);
    }

-- where it fills the forest's part, it is that part
laid_forest : {D : ℕ} (w xs : List ℕ) → Room D w → length xs ≡ D → forest_in D (laid w (2 * D) xs) ≡ xs
laid_forest {D} w xs room size =
    let fits = room.fits in
    let long : 3 * D - 2 * D ≡ 2 * D + length xs - 2 * D = omega arith in
    ap (λ (m : ℕ). take m (drop (2 * D) (laid w (2 * D) xs))) long ∙ laid_there w (2 * D) xs (record { fits = omega arith })

-- what stands at a place of a list is in it
get_d_in : (xs : List ℕ) (i : ℕ) → i < length xs → Memᴰ (get_or xs i 0) xs
get_d_in [] i h = absurd (not-suc-le-zero h)
get_d_in (x ∷ xs) zero h = Memᴰ.head refl
get_d_in (x ∷ xs) (suc i) h = Memᴰ.tail (get_d_in xs i (omega arith))

map_same : (f g : ℕ → ℕ) (xs : List ℕ) → ((x : ℕ) → Memᴰ x xs → f x ≡ g x) → map f xs ≡ map g xs
map_same f g [] same = refl
map_same f g (x ∷ xs) same = ap₂ (λ a l. a ∷ l) (same x (Memᴰ.head refl)) (map_same f g xs (λ y m. same y (Memᴰ.tail m)))

module _ {D n : ℕ} {w : List ℕ} (A : Area D n w) where
  abbrev past : List ℕ
  past = past_in D n w

  abbrev order : List ℕ
  order = file_order D past

  darts_taken : length (taken (history_in D n w)) ≡ 2 * n
  darts_taken =
      let few = A.few in
      let fits = A.room.fits in
      let size : 3 * D + n - 3 * D ≡ n = omega arith in
      taken_length (history_in D n w) ∙ ap (λ (m : ℕ). 2 * m) (part_length (3 * D) (3 * D + n) w (omega arith) ∙ size)

  taken_beside : {v : List ℕ} → v ≡ laid w (2 * D) (taken (history_in D n w)) → Outside D w v
  taken_beside e = rw e (laid_outside w (taken (history_in D n w)) A.room (let t = darts_taken in let few = A.few in omega arith))

  -- THE MAP IS HELD AS BEFORE
  pub listed_taken : {v : List ℕ} → v ≡ laid w (2 * D) (taken (history_in D n w)) → Area D n v
  listed_taken e = beside_area (taken_beside e) A

  -- ALL DARTS, IN THE FILE'S ORDER
  pub listed_order : {v u : List ℕ} → v ≡ laid w (2 * D) (taken (history_in D n w)) → u ≡ laid v (2 * D + 2 * n) (survivors (past_in D n v) D)
      → u ≡ laid w (2 * D) order
  unfolding file_order
  listed_order {v} {u} e f =
      let t = darts_taken in
      let few = A.few in
      let fits = A.room.fits in
      let same : survivors (past_in D n v) D ≡ survivors past D = ap (λ (l : List ℕ). survivors l D) (beside_past (taken_beside e) n) in
      let hs : taken (reverse past) ≡ taken (history_in D n w) = ap taken (reverse-reverse (history_in D n w)) in
      f ∙ rw (same, e, hs, ← t) (laid_on w (2 * D) (taken (history_in D n w)) (record { fits = omega arith }) (survivors past D))

  order_size : length order ≡ D
  order_size = order_length D past A.room.even A.numbers

  module _ {v : List ℕ} (e : v ≡ laid w (2 * D) order) where
    same_outside : Outside D w v
    same_outside = rw e (laid_outside w order A.room (let s = order_size in omega arith))

    forest : forest_in D v ≡ order
    forest = ap (forest_in D) e ∙ laid_forest w order A.room order_size

    listed_room : Room D v
    listed_room = let size = same_outside.size in
        record { even = A.room.even; some = A.room.some; small = A.room.small; fits = omega (arith, A.room.fits) }

    -- THE LIST HOLDS DARTS
    pub listed_below : Room D v × ((i : ℕ) → i < D → get_or v (2 * D + i) 0 < D)
    listed_below = (
      listed_room,
      λ i h.
          rw (← forest_at D v i h, forest) (order_small D past A.room.even A.numbers _ (get_d_in order i (let s = order_size in omega arith))),
    )

    module _ {u : List ℕ} (p : Placed D v u) where
      entry : (x : ℕ) → x < D → get_or u x 0 ≡ successor (table_in D w) x
      unfolding successor
      entry x h =
          sym (get_or-take D u x 0 h) ∙ ap (λ (l : List ℕ). get_or l x 0) (p.table ∙ beside_table same_outside)

      number : (x : ℕ) → x < D → (get_or u (D + x) 0 ≡ file_number D past x) × (get_or u (D + x) 0 < D)
      unfolding file_number
      number x h =
          let place : place_in order x < D = number_below D past A.room.even A.numbers x h in
          let same : get_or u (D + x) 0 ≡ place_in order x = rw forest at (p.places x (rw forest place)) in
          (same, rw same place)

      dense : Dense D u
      dense = record {
        room = let size = p.size in
            record { even = A.room.even; some = A.room.some; small = A.room.small; fits = omega (arith, listed_room.fits) };
        each = λ i h. go i h (dec_lt i D) (dec_lt i (2 * D));
      }
        where
          go : (i : ℕ) → i < 3 * D → Dec (i < D) → Dec (i < 2 * D) → get_or u i 0 < D
          go i h (yes l) m = rw (entry i l) (A.stands.inside i l)
          go i h (no l) (yes m) = let j : i ≡ D + (i - D) = omega arith in rw j (number (i - D) (omega arith)).1
          go i h (no l) (no m) =
              let j : i ≡ 2 * D + (i - 2 * D) = omega arith in
              rw j (rw (← get_or-drop (2 * D) u (i - 2 * D) 0, p.rest, get_or-drop (2 * D) v (i - 2 * D) 0) (listed_below.1 (i - 2 * D) (omega arith)))

      later : (m : ℕ) → 3 * D ≤ m → drop m u ≡ drop m w
      later m h =
          rest_from D m u v p.rest (omega arith)
          ∙ drop_more (3 * D) m v w h same_outside.rest

      -- THE DARTS HAVE THE FILE'S NUMBERS
      pub listed_numbers : Numbered D n w u
      unfolding entries_in file_table renamed
      listed_numbers = record {
        dense = dense;
        entries =
            ap (map (renamed D u)) (forest_rest D u v p.rest ∙ forest)
            ∙ map_same (renamed D u) (λ d. file_number D past (successor (table_in D w) d)) order
            (λ x m.
            let h = order_small D past A.room.even A.numbers x m in
            ap (λ (y : ℕ). get_or u (D + y) 0) (entry x h) ∙ (number (successor (table_in D w) x) (A.stands.inside x h)).0);
        history = ap (take (3 * D + n - 3 * D)) (later (3 * D) (omega arith));
        beyond = record { size = p.size ∙ same_outside.size; rest = later (4 * D) (omega arith) };
      }
