-- A base whose vertices are cells.
--   Cells D t cell        == the vertices of the base t are the cells
--   Area E cell same a b  == the least equivalence of cells in which the two ends of each of the E edges that `same` takes are in one area
--   area_least            == cells of one area are so in every equivalence that has these
--   cells_joined          == darts are joined by the edges that `same` takes exactly where their cells are in one area
--   cells_piece           == the base is one piece, where all cells are in one area of all edges
use mathlib.Core.Bool.{Bool, true}
use mathlib.Core.List.{List, []}
use mathlib.Core.Logic.{◌⊎◌, ◌↔◌, inl, inr, ⊎_elim}
use mathlib.Core.Path.{◌≡◌, refl, sym, ◌∙◌, subst}
use Prim.Native.Nat.{ℕ, ◌+◌, ◌*◌, ◌/◌, ◌<◌}
use native.Mathlib.Omega.{arith}
use lib.Dec.{T}
use Rattle.permutations.specs.Cycle.{meets_ind}
use Rattle.permutations.specs.Perm.{below}
use Rattle.darts.specs.Map.{same_vertex}
use Rattle.laws.specs.Standing.{map_of, Standing}
use Rattle.laws.proofs.bridge.Judged.{same_vertex_lem}
use Rattle.laws.proofs.merging.Joined.{Wanted, joined_piece, Joined, vertex, across, back, further, Equivalence, joined_least, base_live}
use Rattle.laws.proofs.merging.Pieces.{OnePiece}

-- the vertices of the base are the cells
pub record Cells (D : ℕ) (t : List ℕ) (cell : ℕ → ℕ) : Type 0 where
  pub says : (x y : ℕ) → x < D → y < D → T (same_vertex D t x y) ↔ (cell x ≡ cell y)

-- "the connected areas of one code"
pub data Area (E : ℕ) (cell : ℕ → ℕ) (same : ℕ → Bool) : ℕ → ℕ → Type 0 where
  alone : {a : ℕ} → Area E cell same a a
  over : {e : ℕ} → e < E → same e ≡ true → Area E cell same (cell (2 * e)) (cell (2 * e + 1))
  turned : {a b : ℕ} → Area E cell same a b → Area E cell same b a
  onward : {a b c : ℕ} → Area E cell same a b → Area E cell same b c → Area E cell same a c

-- IT IS THE LEAST
pub area_least : {E : ℕ} {cell : ℕ → ℕ} {same : ℕ → Bool} (R : ℕ → ℕ → Type 0) → Equivalence R
    → ((e : ℕ) → e < E → same e ≡ true → R (cell (2 * e)) (cell (2 * e + 1))) → {a b : ℕ} → Area E cell same a b → R a b
area_least R Q step (alone {a}) = Q.self a
area_least R Q step (over {e} h s) = step e h s
area_least R Q step (turned {a} {b} f) = Q.flip a b (area_least R Q step f)
area_least R Q step (onward {a} {b} {c} f g) = Q.chain a b c (area_least R Q step f) (area_least R Q step g)

-- ---- who is joined

module _ {D : ℕ} {t : List ℕ} (S : Standing D t []) {cell : ℕ → ℕ} (C : Cells D t cell) (same : ℕ → Bool) where
  -- a walk round a vertex meets darts alone
  met_below : (x y : ℕ) → x < D → T (same_vertex D t x y) → y < D
  met_below x y h s = meets_ind (map_of D t []).next (λ z. z < D) (λ z k. below S.good.perm k) ((same_vertex_lem S x y (base_live D x h)).0 s) h

  pub joined_area : {x y : ℕ} → Joined D t (Wanted D same) x y → Area (D / 2) cell same (cell x) (cell y)
  joined_area = joined_least (λ x y. Area (D / 2) cell same (cell x) (cell y)) equivalence
      (λ x y h s. subst (Area (D / 2) cell same (cell x)) ((C.says x y h (met_below x y h s)).0 s) alone) (λ e w. over w.0 w.1)
    where
      equivalence : Equivalence (λ x y. Area (D / 2) cell same (cell x) (cell y))
      equivalence = record { self = λ x. alone; flip = λ x y a. turned a; chain = λ x y z a b. onward a b }

  -- two cells are one, or they have darts that are joined
  record Reached (a b : ℕ) : Type 0 where
    from : ℕ
    to : ℕ
    from_dart : from < D
    to_dart : to < D
    from_cell : cell from ≡ a
    to_cell : cell to ≡ b
    joined : Joined D t (Wanted D same) from to

  same_cell : (x y : ℕ) → x < D → y < D → cell x ≡ cell y → Joined D t (Wanted D same) x y
  same_cell x y h k e = vertex h ((C.says x y h k).1 e)

  reached_on : {a b c : ℕ} → Reached a b → Reached b c → Reached a c
  reached_on r q = record {
    from = r.from;
    to = q.to;
    from_dart = r.from_dart;
    to_dart = q.to_dart;
    from_cell = r.from_cell;
    to_cell = q.to_cell;
    joined = further r.joined (further (same_cell r.to q.from r.to_dart q.from_dart (r.to_cell ∙ sym q.from_cell)) q.joined);
  }

  reached_back : {a b : ℕ} → Reached a b → Reached b a
  reached_back r = record {
    from = r.to;
    to = r.from;
    from_dart = r.to_dart;
    to_dart = r.from_dart;
    from_cell = r.to_cell;
    to_cell = r.from_cell;
    joined = back r.joined;
  }

  reached_edge : (e : ℕ) → e < D / 2 → same e ≡ true → Reached (cell (2 * e)) (cell (2 * e + 1))
  reached_edge e h s = record {
    from = 2 * e;
    to = 2 * e + 1;
    from_dart = omega arith;
    to_dart = omega arith;
    from_cell = refl;
    to_cell = refl;
    joined = across (h, s);
  }

  one_or_reached : Equivalence (λ a b. (a ≡ b) ⊎ Reached a b)
  one_or_reached = record {
    self = λ a. inl refl;
    flip = λ a b. ⊎_elim (λ e. inl (sym e)) (λ r. inr (reached_back r));
    chain = λ a b c. ⊎_elim
        (λ d. ⊎_elim (λ e. inl (d ∙ e)) (λ r. inr (subst (λ z. Reached z c) (sym d) r)))
        (λ r. ⊎_elim (λ e. inr (subst (Reached a) e r)) (λ q. inr (reached_on r q)));
  }

  area_reached : {a b : ℕ} → Area (D / 2) cell same a b → (a ≡ b) ⊎ Reached a b
  area_reached = area_least (λ a b. (a ≡ b) ⊎ Reached a b) one_or_reached (λ e h s. inr (reached_edge e h s))

  -- DARTS ARE JOINED BY WANTED EDGES EXACTLY WHERE THEIR CELLS ARE IN ONE AREA
  pub cells_joined : (x y : ℕ) → x < D → y < D → Joined D t (Wanted D same) x y ↔ Area (D / 2) cell same (cell x) (cell y)
  cells_joined x y h k = (joined_area, λ a. ⊎_elim (same_cell x y h k) ends (area_reached a))
    where
      ends : Reached (cell x) (cell y) → Joined D t (Wanted D same) x y
      ends r =
          further (same_cell x r.from h r.from_dart (sym r.from_cell))
          (further r.joined (same_cell r.to y r.to_dart k r.to_cell))

-- ---- one piece

pub cells_piece : {D : ℕ} {t : List ℕ} → Standing D t [] → {cell : ℕ → ℕ} → Cells D t cell
    → ((x y : ℕ) → x < D → y < D → Area (D / 2) cell (λ e. true) (cell x) (cell y)) → OnePiece D t
cells_piece S C all x y h k = joined_piece S (λ e w. w.0) h ((cells_joined S C (λ e. true) x y h k).1 (all x y h k))
