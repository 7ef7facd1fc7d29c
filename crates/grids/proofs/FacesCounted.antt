-- The base of a sized grid that does not close has one face for each square, and the outer one.
--   stand_for g n   == one dart of face n
--   lies_meets     == the walk from each dart of the face comes to it
--   lies_next      == the walk does not leave the face
--   faces_label    == so the squares and the outer face number the faces
--   faces_counted  == the count of faces is the number of squares and one
use mathlib.Core.List.{[]}
use mathlib.Core.Path.{◌≡◌, sym, ap, ◌∙◌, subst}
use Prim.Native.Nat.{ℕ, ◌+◌, ◌-◌, ◌*◌, ◌/◌, ◌%◌, ◌<◌}
use native.Mathlib.Decide.{dec_lt}
use native.Mathlib.Omega.{arith}
use lib.Dec.{T, ltb, ltb→lt, lt→ltb}
use Rattle.permutations.specs.Choice.{T→true, not_T→false}
use Rattle.permutations.specs.Cycle.{Meets, meets_ind, meets_sym, meets_trans}
use Rattle.permutations.specs.Labels.{Labels}
use Rattle.permutations.proofs.Dual.{face_perm}
use Rattle.permutations.proofs.CyclesCounted.{cycles_numbered}
use Rattle.permutations.proofs.Euler.{faces}
use Rattle.std.proofs.Common.{if◌then◌else◌}
use Rattle.darts.specs.Map.{live}
use Rattle.darts.specs.Counts.{counts_of}
use Rattle.laws.proofs.bridge.Bases.{all_live}
use Rattle.laws.proofs.bridge.Counting.{counts_numbers}
use Rattle.grids.specs.Grid.{Grid, sized, along, darts_of}
use Rattle.grids.specs.Base.{base_table}
use Rattle.grids.proofs.Rows.{row_below, row_number, row_place, in_row}
use Rattle.grids.proofs.Sides.{along_flat}
use Rattle.grids.proofs.PlanBase.{base_stands}
use Rattle.grids.proofs.Turns.{base_map, turn, leftward}
use Rattle.grids.proofs.Faces.{rows, square, squares, face_of, Flat, flat_sized, lower_side, Lies, outside, inside, lies_face, lies_below, dart_lies}
use Rattle.grids.proofs.Border.{last_dart, last_border, border_meets, border_next, square_meets, square_next}

-- a square's lower side, and the border's last dart
unfoldable pub stand_for : Grid → ℕ → ℕ
stand_for g n = if ltb n (squares g) then leftward g (n % along g) (n / along g) else last_dart g

module _ (g : Grid) (F : Flat g) where
  stands_outside : stand_for g (squares g) ≡ last_dart g
  unfolding stand_for
  stands_outside =
      let m : ¬ T (ltb (squares g) (squares g)) = λ t. let l = ltb→lt (squares g) (squares g) t in omega arith in
      rw (not_T→false (ltb (squares g) (squares g)) m)

  stands_inside : (x y : ℕ) → x < along g → y < rows g → stand_for g (square g x y) ≡ leftward g x y
  unfolding stand_for
  stands_inside x y h k =
      let l = lt→ltb (square g x y) (squares g) (row_below (along g) (rows g) x y h k) in
      rw (T→true (ltb (square g x y) (squares g)) l, row_place (along g) x y h, row_number (along g) x y h)

  -- ---- the walk goes round the face

  lies_meets : {d n : ℕ} → Lies g d n → Meets (turn g) d (stand_for g n)
  lies_meets {d} (outside {k} b) = subst (Meets (turn g) d) (sym stands_outside) (border_meets g F k b)
  lies_meets {d} (inside x y h k i) = subst (Meets (turn g) d) (sym (stands_inside x y h k)) (square_meets g F x y h k i)

  lies_next : {d n : ℕ} → Lies g d n → Lies g (turn g d) n
  lies_next (outside {k} b) = let (j, c) = border_next g F k b in outside c
  lies_next (inside x y h k i) = inside x y h k (square_next g F x y h k i)

  stand_lies : (n : ℕ) → n < squares g + 1 → Lies g (stand_for g n) n
  stand_lies n h = go (dec_lt n (squares g))
    where
      go : Dec (n < squares g) → Lies g (stand_for g n) n
      go (yes l) =
          let r = in_row (along g) (rows g) n l in
          let x = n % along g in
          let y = n / along g in
          let i : Lies g (stand_for g (square g x y)) (square g x y) =
          subst (λ z. Lies g z (square g x y)) (sym (stands_inside x y r.place r.row)) (inside x y r.place r.row lower_side) in
          rw r.laid at i
      go (no m) =
          let i : squares g ≡ n = omega arith in
          subst (λ z. Lies g (stand_for g z) z) i (subst (λ z. Lies g z (squares g)) (sym stands_outside) (outside (last_border g F)))

  -- ---- the faces are numbered

  pub faces_label : Labels (live (darts_of g) []) (turn g) (face_of g)
  faces_label = record {
    says = λ x y h k.
        let a = dart_lies g F x ((all_live (darts_of g) x).0 h) in
        let b = dart_lies g F y ((all_live (darts_of g) y).0 k) in (
          λ e. meets_trans (turn g) (lies_meets a)
              (meets_sym (face_perm (base_stands g).good) (subst (λ n. Meets (turn g) y (stand_for g n)) (sym e) (lies_meets b))),
          λ m. sym (lies_face g F (meets_ind (turn g) (λ z. Lies g z (face_of g x)) (λ z l. lies_next l) m a)),
        );
  }

  faces_squares : faces (darts_of g) (base_map g) ≡ squares g + 1
  unfolding faces
  faces_squares =
      let S = base_stands g in
      cycles_numbered (face_perm S.good) S.good.small faces_label (squares g + 1)
      (λ x h. (lies_below g F (dart_lies g F x ((all_live (darts_of g) x).0 h))).number)
      (λ n h. let l = stand_lies n h in (stand_for g n, (all_live (darts_of g) (stand_for g n)).1 (lies_below g F l).dart, lies_face g F l))

module _ (g : Grid) (opens : ¬ T g.closes) (s : T (sized g)) where
  -- THE FACES ARE AS MANY AS THE SQUARES, AND ONE MORE
  pub faces_counted : (counts_of (darts_of g) (base_table g) []).faces ≡ (g.wales - 1) * (g.courses - 1) + 1
  faces_counted =
      (counts_numbers (base_stands g)).faces_are ∙ faces_squares g (flat_sized g opens s)
      ∙ ap (λ n. n * (g.courses - 1) + 1) (along_flat g opens)
