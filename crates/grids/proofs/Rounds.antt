-- A table that is made of rounds, lists of darts in each of which a dart leads to the next and the last to the first.
--   Rounds D n R      == the lists R 0 to R (n - 1) are without repetition, share no dart, and have exactly the numbers below D
--   place_in n R d     == the place of the first list that has d
--   round_table D n R  == each dart leads to the next in its list
--   rounds_stand      == such a table is a permutation
--   rounds_vertices   == and its vertices are the lists
use mathlib.Core.List.{List, [], map}
use mathlib.Core.Logic.Iff
use mathlib.Core.Logic.{◌↔◌}
use mathlib.Core.Path.{◌≡◌, sym, ap, ◌∙◌, subst}
use Prim.Native.Nat.{ℕ, ◌%◌, ◌<◌}
use lib.Dec.{T}
use lib.ListN.{get_or}
use Rattle.permutations.specs.Cycle.{Meets, meets_ind, meets_sym, meets_trans}
use Rattle.darts.specs.Map.{successor, same_vertex}
use Rattle.darts.specs.Kernel.{rising}
use Rattle.laws.specs.Standing.{map_of, Standing}
use Rattle.laws.proofs.bridge.Standing.{next_entry}
use Rattle.laws.proofs.bridge.Bases.{all_live}
use Rattle.laws.proofs.bridge.StandsBy.{stands_by}
use Rattle.laws.proofs.bridge.Judged.{same_vertex_lem}
use Rattle.grids.specs.Base.{has, next_in, place_of}
use Rattle.grids.proofs.Next.{Distinct, has_index, next_has, next_one, round_meets}
use Rattle.grids.proofs.Places.{length_over, over_rising, place_is}

pub record Rounds (D n : ℕ) (R : ℕ → List ℕ) : Type 0 where
  pub distinct : (c : ℕ) → c < n → Distinct (R c)
  pub apart : (b c d : ℕ) → b < n → c < n → T (has d (R b)) → T (has d (R c)) → b ≡ c
  pub inside : (c d : ℕ) → c < n → T (has d (R c)) → d < D
  pub placed : (d : ℕ) → d < D → (c : ℕ) × (c < n) × T (has d (R c))

abbrev pub place_in : ℕ → (ℕ → List ℕ) → ℕ → ℕ
place_in n R d = place_of d (map R (rising 0 n))

abbrev pub round_table : ℕ → ℕ → (ℕ → List ℕ) → List ℕ
round_table D n R = map (λ d. next_in d (R (place_in n R d))) (rising 0 D)

module _ {D n : ℕ} {R : ℕ → List ℕ} (ρ : Rounds D n R) where
  pub place_round : (c d : ℕ) → c < n → T (has d (R c)) → place_in n R d ≡ c
  place_round c d h t = place_is R n d c h t (λ b l s. ρ.apart b c d l h s t)

  pub entry_round : (c d : ℕ) → c < n → T (has d (R c)) → successor (round_table D n R) d ≡ next_in d (R c)
  unfolding successor
  entry_round c d h t =
      over_rising (λ x. next_in x (R (place_in n R x))) D d (ρ.inside c d h t) ∙ ap (λ b. next_in d (R b)) (place_round c d h t)

  next_round : (c d : ℕ) → c < n → T (has d (R c)) → T (has (successor (round_table D n R) d) (R c))
  next_round c d h t = subst (λ z. T (has z (R c))) (sym (entry_round c d h t)) (next_has (R c) (ρ.distinct c h) d t)

  entry_inside : (x : ℕ) → x < D → successor (round_table D n R) x < D
  entry_inside x h = let (c, l, t) = ρ.placed x h in ρ.inside c _ l (next_round c x l t)

  entry_alone : (x y : ℕ) → x < D → y < D → successor (round_table D n R) x ≡ successor (round_table D n R) y → x ≡ y
  entry_alone x y h k e =
      let (c, l, t) = ρ.placed x h in
      let (b, m, s) = ρ.placed y k in
      let i : b ≡ c = ρ.apart b c _ m l (next_round b y m s) (subst (λ z. T (has z (R c))) e (next_round c x l t)) in
      let s' : T (has y (R c)) = subst (λ z. T (has y (R z))) i s in
      next_one (R c) (ρ.distinct c l) x y t s' (sym (entry_round c x l t) ∙ e ∙ entry_round c y l s')

  -- A TABLE MADE OF DISJOINT ROUNDS IS A PERMUTATION
  pub rounds_stand : D % 2 ≡ 0 → Standing D (round_table D n R) []
  rounds_stand even =
      stands_by D (round_table D n R) [] even (length_over (λ d. next_in d (R (place_in n R d))) D) entry_inside
      (λ x l. (all_live D _).1 (entry_inside x ((all_live D x).0 l)))
      (λ x y l k e. entry_alone x y ((all_live D x).0 l) ((all_live D y).0 k) e)

  -- ITS VERTICES ARE THE ROUNDS
  pub rounds_vertices : D % 2 ≡ 0 → (a b : ℕ) → a < D → b < D → T (same_vertex D (round_table D n R) a b) ↔ (place_in n R a ≡ place_in n R b)
  rounds_vertices even a b h k = Iff.trans (same_vertex_lem S a b ((all_live D a).1 h)) (on, off)
    where
      S : Standing D (round_table D n R) []
      S = rounds_stand even

      f : ℕ → ℕ
      f = (map_of D (round_table D n R) []).next

      goes : (c : ℕ) → c < n → (z : ℕ) → T (has z (R c)) → f z ≡ next_in z (R c)
      goes c l z t = next_entry S z ((all_live D z).1 (ρ.inside c z l t)) ∙ entry_round c z l t

      -- going on keeps to the list
      on : Meets f a b → place_in n R a ≡ place_in n R b
      on m =
          let (c, l, t) = ρ.placed a h in
          let s : T (has b (R c)) = meets_ind f (λ z. T (has z (R c)))
          (λ z s. subst (λ y. T (has y (R c))) (sym (goes c l z s)) (next_has (R c) (ρ.distinct c l) z s)) m t in
          place_round c a l t ∙ sym (place_round c b l s)

      -- and leads to all of it
      met : (c : ℕ) → c < n → (z : ℕ) → T (has z (R c)) → Meets f (get_or (R c) 0 0) z
      met c l z t = let (i, m, e) = has_index z (R c) t in subst (Meets f (get_or (R c) 0 0)) e (round_meets (R c) (ρ.distinct c l) f (goes c l) i m)

      off : place_in n R a ≡ place_in n R b → Meets f a b
      off e =
          let (c, l, t) = ρ.placed a h in
          let (d, m, s) = ρ.placed b k in
          let i : d ≡ c = sym (place_round d b m s) ∙ sym e ∙ place_round c a l t in
          meets_trans f (meets_sym S.good.perm (met c l a t)) (met c l b (subst (λ z. T (has b (R z))) i s))
