-- One operation of the replay: its two vertices joined, and its note and links written.
--   roots_below    == the roots of the forest's part are darts
--   both_below, joined_room == both roots are darts, and the four parts still fit
--   contracted_yes == the ends of the edge were two vertices
--   contracted_no  == they were one
--   stepped_contraction, stepped_removal == the same by the operation's history number
--   step_answer    == what is left of the replay, after an operation that passes
--   step_refused   == an operation that does not pass
use mathlib.Core.Bool.{Bool, true, false, not, ◌||◌, ◌&&◌}
use mathlib.Core.List.{List, [], ◌∷◌}
use mathlib.Core.Logic.{◌≢◌, ⊎_elim, by_cases}
use mathlib.Core.Path.{◌≡◌, refl, sym, ap, ap₂, ◌∙◌, fun_ext}
use Prim.Native.Nat.{ℕ, ◌+◌, ◌*◌, ◌/◌, ◌%◌, ◌<◌, min, max}
use native.Mathlib.Decide.{ℕ_discrete, dec_lt}
use native.Mathlib.Omega.{arith}
use lib.Dec.{eqb}
use lib.ListN.{length, get_or-eq_default}
use Rattle.permutations.specs.Choice.{eqb_same, eqb_other}
use Rattle.permutations.specs.Partner.{partner}
use Rattle.permutations.proofs.PartnerLemmas.{partner_cases}
use Rattle.darts.specs.Operation.{removal, edge_of}
use Rattle.forest.specs.Forest.{Falls, parent, root}
use Rattle.forest.specs.Roots.{root_up, root_down}
use Rattle.area.specs.Area.{Room, forest_in}
use Rattle.operations.specs.Replay.{rejoin, replayed}
use Rattle.operations.specs.Trees.{Found, Joined, rooted, merged}
use Rattle.operations.proofs.Lent.{joined_roots, found_kept, found_roots, kept_joined}
use Rattle.operations.proofs.Outside.{outside_refl, outside_room, forest_length}
use Rattle.sheets.specs.Sheets.{into}
use Rattle.yarn.specs.Places.{joins, zoned, merge_by}
use Rattle.noting.specs.Links.{recorded, Contracted, Stepped}
use Rattle.noting.proofs.Places.{kind_contraction, kind_removal, joins_linked, and-true}

-- ---- roots

root_below : {t : List ℕ} → Falls t → 0 < length t → (x : ℕ) → root t x < length t
root_below {t} F some x = by_cases (dec_lt x (length t)) (λ l. near x l) (λ n. far x n)
  where
    near : (x : ℕ) → x < length t → root t x < length t
    near x l = omega (arith, root_down F x)

    far : (x : ℕ) → ¬ (x < length t) → root t x < length t
    far x n =
        let e : parent t x ≡ 0 = get_or-eq_default t 0 {n = x} (omega arith) in
        rw (← root_up F x, e) (near 0 some)

module _ {D : ℕ} {w : List ℕ} (room : Room D w) (F : Falls (forest_in D w)) where
  pub roots_below : (x : ℕ) → rooted D w x < D
  roots_below x =
      let e = forest_length D w room.fits in
      omega (arith, root_below F (omega (arith, e, room.some)) x, e)

-- ---- the contraction of an edge

module _ {D : ℕ} (e : ℕ) {w w₁ w₂ w₃ : List ℕ} {a b : ℕ} {r : Bool} (f : Found D w w₁ (2 * e) a) (g : Found D w₁ w₂ (2 * e + 1) b)
    (l : Joined D w₂ w₃ a b r) where
  first : a ≡ rooted D w (2 * e)
  first = f.top

  second : b ≡ rooted D w (2 * e + 1)
  second = g.top ∙ ap (λ R. R (2 * e + 1)) f.kept.roots

  -- the roots are joined, and so are the darts
  j : Joined D w w₃ (2 * e) (2 * e + 1) r
  j = let known = found_roots f g in kept_joined (found_kept f g) (joined_roots g.kept.falls known.0 known.1 l)

  roots : rooted D w₃ ≡ joins (rooted D w) e
  unfolding merged
  roots = j.roots ∙ fun_ext (λ x. sym (joins_linked (rooted D w) e x))

  module _ (room : Room D w) (F : Falls (forest_in D w)) where
    pub both_below : (a < D) × (b < D)
    both_below = (rw first (roots_below room F (2 * e)), rw second (roots_below room F (2 * e + 1)))

    pub joined_room : Room D w₃
    joined_room = outside_room j.outside room

  pub contracted_yes : {t : ℕ} → r ≡ true → {w₄ : List ℕ} {low high : ℕ} → low ≡ min a b → high ≡ max a b → w₄ ≡ recorded D t (into low high) w₃
      → Contracted D t e w w₄ true
  unfolding merge_by
  contracted_yes {t} two {w₄} {low} {high} lower higher is = record {
    answer = sym two ∙ j.answer;
    joined = w₃;
    outside = j.outside;
    falls = j.falls;
    roots = roots;
    left = is ∙ ap₂ (λ x y. recorded D t (into x y) w₃) (rw (← first, ← second) lower) (rw (← first, ← second) higher);
  }

  pub contracted_no : {t : ℕ} → r ≡ false → Contracted D t e w w₃ false
  contracted_no one = record {
    answer = sym one ∙ j.answer;
    joined = w₃;
    outside = j.outside;
    falls = j.falls;
    roots = roots;
    left = refl;
  }

-- ---- an operation by its number

same_turned : (a b : ℕ) → eqb a b ≡ eqb b a
same_turned a b =
    by_cases (ℕ_discrete a b)
    (λ e. eqb_same e ∙ sym (eqb_same (sym e)))
    (λ n. eqb_other n ∙ sym (eqb_other (λ e. n (sym e))))

-- the two ends, in one order or the other
ends_same : (R : ℕ → ℕ) (h : ℕ) → eqb (R (h / 2)) (R (partner (h / 2))) ≡ eqb (R (2 * (h / 4))) (R (2 * (h / 4) + 1))
ends_same R h = ⊎_elim
    (λ a. let p : h / 2 ≡ 2 * (h / 4) = omega arith in let q : partner (h / 2) ≡ 2 * (h / 4) + 1 = omega arith in rw (q, p) refl)
    (λ a. let p : h / 2 ≡ 2 * (h / 4) + 1 = omega arith in let q : partner (h / 2) ≡ 2 * (h / 4) = omega arith in
    rw (q, p) (same_turned (R (2 * (h / 4) + 1)) (R (2 * (h / 4)))))
    (partner_cases (h / 2))

module _ {D t h : ℕ} {w w' : List ℕ} where
  pub stepped_contraction : {r : Bool} → h % 2 ≡ 1 → Contracted D t (h / 4) w w' r → Stepped D t h w w' r
  unfolding replayed edge_of zoned
  stepped_contraction e C = record {
    answer = C.answer ∙ sym (rw (eqb_same e, ends_same (rooted D w) h) (and-true (not (eqb (rooted D w (2 * (h / 4))) (rooted D w (2 * (h / 4) + 1))))));
    joined = C.joined;
    outside = C.outside;
    falls = C.falls;
    roots = rw (kind_contraction h e) C.roots;
    left = rw (kind_contraction h e) C.left;
  }

  pub stepped_removal : h % 2 ≢ 1 → Falls (forest_in D w) → w' ≡ recorded D t (merge_by removal (rooted D w) (h / 4)) w → Stepped D t h w w' true
  unfolding replayed edge_of zoned
  stepped_removal n F is = record {
    answer = rw (eqb_other n);
    joined = w;
    outside = outside_refl D w;
    falls = F;
    roots = rw (kind_removal h n) refl;
    left = rw (kind_removal h n) is;
  }

-- ---- what is left of the replay

module _ (R : ℕ → ℕ) (h : ℕ) (hs : List ℕ) where
  pub step_answer : true ≡ replayed 1 R (h ∷ []) → replayed 1 R (h ∷ hs) ≡ replayed 1 (rejoin 1 R h) hs
  unfolding replayed
  step_answer e =
      ap (λ b. b && replayed 1 (rejoin 1 R h) hs) (sym (e ∙ and-true (not (eqb (h % 2) 1) || not (eqb (R (h / 2)) (R (partner (h / 2)))))))

  pub step_refused : false ≡ replayed 1 R (h ∷ []) → replayed 1 R (h ∷ hs) ≡ false
  unfolding replayed
  step_refused e =
      ap (λ b. b && replayed 1 (rejoin 1 R h) hs) (sym (e ∙ and-true (not (eqb (h % 2) 1) || not (eqb (R (h / 2)) (R (partner (h / 2)))))))
