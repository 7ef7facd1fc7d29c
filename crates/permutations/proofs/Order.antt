-- Legal operations can be done in any order, with the same result.
--   Kinds m a b   == whether a and b are of one kind, and so how each changes the cycles that the other joins
--   Swapped m a b == b is legal, then a, and the map is the one after a, then b
--   Same m l k    == the list k is legal, and ends in the map in which l ends
use mathlib.Core.Bool.{Bool}
use mathlib.Core.List.{List, Permᴰ, ◌∷◌}
use mathlib.Core.Logic.{inl, inr}
use mathlib.Core.Path.{◌≡◌, ap, ◌∙◌, sym, refl, subst, subst₂}
use Prim.Native.Nat.{ℕ}
use lib.Dec.{T}
use Rattle.permutations.specs.Partner.{partner, End, end?}
use Rattle.permutations.proofs.PartnerLemmas.{partner_end, end_sym}
use Rattle.permutations.specs.Splice.{splice, skip}
use Rattle.permutations.specs.Cycle.{Meets}
use Rattle.permutations.proofs.Apart.{Apart, splice_splice, splice_skip, apart_sym, skip_skip, splice_two, skip_two}
use Rattle.permutations.specs.Live.{off, off_comm}
use Rattle.permutations.specs.Map.{off_edge, Map, Good, partner_small, off_edge_other, map_path}
use Rattle.permutations.proofs.MapLemmas.{off_edge_not_end, off_edge_was}
use Rattle.permutations.proofs.Dual.{face_contract, face_remove}
use Rattle.permutations.proofs.Legal.{Op, dart, act, Contract, Remove, around, Legal, around_perm, Whole, good_act, AllLegal, run}
use Rattle.permutations.proofs.Pieces.{Linked, linked_live, act_pieces, only_whole, whole_only, linked_trans, end_linked}

-- ---- the same is left

off_edge_off : (live : ℕ → Bool) (p u : ℕ) → off_edge (off live u) p ≡ off (off_edge live p) u
unfolding off_edge
off_edge_off live p u = ap (λ f. off f (partner p)) (off_comm live u p) ∙ off_comm (off live p) u (partner p)

off_edge_comm : (live : ℕ → Bool) (p u : ℕ) → off_edge (off_edge live u) p ≡ off_edge (off_edge live p) u
unfolding off_edge
off_edge_comm live p u = off_edge_off (off live u) p (partner u) ∙ ap (λ f. off f (partner u)) (off_edge_off live p u)

-- the darts of two edges are apart
edges_apart : {p u : ℕ} → ¬ (End p u) → Apart p (partner p) u (partner u)
edges_apart {p} {u} n = record {
  pu = λ e. n (inl (sym e));
  pv = λ e. n (partner_end (inl (sym e)));
  qu = λ e. n (inr (sym e));
  qv = λ e. n (partner_end (inr (sym e)));
}

module _ {D : ℕ} {m : Map} (G : Good D m) where
  same_next : (a b : Op) → T (m.live (dart a)) → T (m.live (dart b)) → ¬ (End (dart a) (dart b)) → (act (act m a) b).next ≡ (act (act m b) a).next
  same_next (Contract p) (Contract u) s t n =
      splice_splice G.perm (edges_apart n) (G.small u t) (partner_small G u t) (G.small p s) (partner_small G p s)
  same_next (Contract p) (Remove u) s t n = sym (splice_skip G.perm (apart_sym (edges_apart n)) (G.small p s) (partner_small G p s))
  same_next (Remove p) (Contract u) s t n = splice_skip G.perm (edges_apart n) (G.small u t) (partner_small G u t)
  same_next (Remove p) (Remove u) s t n = skip_skip G.perm u (partner u) p (partner p)

-- ---- the darts of an edge stay on two cycles

data Kinds (m : Map) (a b : Op) : Type 0 where
  alike : around m b ≡ around m a
      → around (act m a) b ≡ splice (around m a) (dart a) (partner (dart a))
      → around (act m b) a ≡ splice (around m a) (dart b) (partner (dart b)) → Kinds m a b
  unlike : around (act m a) b ≡ skip (around m b) (dart a) (partner (dart a))
      → around (act m b) a ≡ skip (around m a) (dart b) (partner (dart b)) → Kinds m a b

kinds : {D : ℕ} {m : Map} → Good D m → (a b : Op) → T (m.live (dart a)) → T (m.live (dart b)) → Kinds m a b
kinds G (Contract p) (Contract u) s t = alike refl refl refl
kinds G (Contract p) (Remove u) s t = unlike (face_contract G p s) refl
kinds G (Remove p) (Contract u) s t = unlike refl (face_contract G u t)
kinds G (Remove p) (Remove u) s t = alike refl (face_remove G p s) (face_remove G u t)

-- the darts of b's edge are on two cycles
abbrev Two : Map → Op → Type 0
Two m b = ¬ Meets (around m b) (dart b) (partner (dart b))

two_swapped : {D : ℕ} {m : Map} → Good D m → (a b : Op) → Legal m a → T (m.live (dart b)) → ¬ (End (dart a) (dart b))
    → Two (act m a) b → Two m b × Two (act m b) a
two_swapped {D} {m} G a b l t n two = go (kinds G a b l.lives t)
  where
    p : ℕ
    p = dart a

    u : ℕ
    u = dart b

    go : Kinds m a b → Two m b × Two (act m b) a
    go (alike e h k) =
        let r = splice_two (around_perm G a) (edges_apart n) (G.small p l.lives) (partner_small G p l.lives) (G.small u t) (partner_small G u t)
        l.two (subst (λ f. ¬ Meets f u (partner u)) h two) in
        (subst (λ f. ¬ Meets f u (partner u)) (sym e) r.0, subst (λ f. ¬ Meets f p (partner p)) (sym k) r.1)
    go (unlike h k) = (
      (skip_two (around m b) (apart_sym (edges_apart n))).0 (subst (λ f. ¬ Meets f u (partner u)) h two),
      subst (λ f. ¬ Meets f p (partner p)) (sym k) ((skip_two (around m a) (edges_apart n)).1 l.two),
    )

-- ---- no edge becomes, or ceases to be, a whole piece

module _ {D : ℕ} {m : Map} (G : Good D m) (a b : Op) (la : Legal m a) (tb : T ((act m a).live (dart b))) (n : ¬ Whole (act m a) (dart b)) where
  -- what a leaves of b's piece is b's piece in m, too
  piece_was : {y : ℕ} → Linked (act m a) (dart b) y → T ((act m a).live y) × Linked m (dart b) y
  piece_was k =
      let t = linked_live (good_act G a la) k tb in
      (t, (act_pieces G a la (off_edge_not_end m.live tb) (off_edge_not_end m.live t)).0 k)

  whole_before : ¬ Whole m (dart b)
  whole_before w =
      n (only_whole (good_act G a la) (dart b) tb (λ y k. whole_only G (dart b) (off_edge_was m.live (dart a) (dart b) tb) w y (piece_was k).1))

  -- were a's edge a whole piece after b, then a's piece in m would hold the edges of a and b alone, and b's would be a whole piece after a
  whole_after : Legal m b → T ((act m b).live (dart a)) → ¬ Whole (act m b) (dart a)
  whole_after lb ta w = la.more (only_whole G (dart a) la.lives (λ y l. only y l (end? (dart b) y)))
    where
      stay : (y : ℕ) → ¬ (End (dart b) y) → Linked m (dart a) y → End (dart a) y
      stay y k l = whole_only (good_act G b lb) (dart a) ta w y ((act_pieces G b lb (off_edge_not_end m.live ta) k).1 l)

      alone : Linked m (dart a) (dart b) → (z : ℕ) → Linked (act m a) (dart b) z → Dec (End (dart b) z) → End (dart b) z
      alone l z k (yes h) = h
      alone l z k (no h) =
          let was = piece_was k in
          absurd (off_edge_not_end m.live was.0 (stay z h (linked_trans m l was.1)))

      only : (y : ℕ) → Linked m (dart a) y → Dec (End (dart b) y) → End (dart a) y
      only y l (no k) = stay y k l
      only y l (yes e) =
          let l' = linked_trans m l (end_linked G (dart b) lb.lives e) in
          absurd (n (only_whole (good_act G a la) (dart b) tb (λ z k. alone l' z k (end? (dart b) z))))

-- ---- two operations

pub record Swapped (m : Map) (a b : Op) : Type 0 where
  pub first : Legal m b
  pub then : Legal (act m b) a
  pub same : act (act m a) b ≡ act (act m b) a

-- IF a IS LEGAL, AND THEN b, THEN b IS LEGAL, AND THEN a, AND THE RESULT IS THE SAME
pub swapped : {D : ℕ} {m : Map} → Good D m → (a b : Op) → Legal m a → Legal (act m a) b → Swapped m a b
swapped {D} {m} G a b la lb =
    let n : ¬ (End (dart a) (dart b)) = off_edge_not_end m.live lb.lives in
    let t : T (m.live (dart b)) = off_edge_was m.live (dart a) (dart b) lb.lives in
    let ta : T ((act m b).live (dart a)) = subst T (sym (off_edge_other m.live (λ e. n (end_sym e)))) la.lives in
    let two = two_swapped G a b la t n lb.two in
    let first : Legal m b = record { lives = t; two = two.0; more = whole_before G a b la lb.lives lb.more } in
    record {
      first = first;
      then = record { lives = ta; two = two.1; more = whole_after G a b la lb.lives lb.more first ta };
      same = map_path (off_edge_comm m.live (dart b) (dart a)) (same_next G a b la.lives t n);
    }

-- ---- any order

pub record Same (m : Map) (l k : List Op) : Type 0 where
  pub legal : AllLegal m k
  pub end : run m l ≡ run m k

-- ANY REARRANGEMENT OF A LEGAL LIST OF OPERATIONS IS LEGAL, AND ENDS IN THE SAME MAP
pub any_order : {D : ℕ} {m : Map} {l k : List Op} → Good D m → Permᴰ l k → AllLegal m l → Same m l k
unfolding run
any_order {D} {m} G Permᴰ.nil h = record { legal = tt; end = refl }
any_order {D} {m} G (Permᴰ.cons {a} {b} {l₁} {l₂} e d) h =
    let r = any_order {m = act m a} (good_act G a h.0) d h.1 in
    subst (λ c. Same m (a ∷ l₁) (c ∷ l₂)) e (record { legal = (h.0, r.legal); end = r.end })
any_order {D} {m} G (Permᴰ.swap {a} {b} {a'} {b'} {l} e k) h =
    let s = swapped G a b h.0 h.1.0 in
    subst₂ (λ x y. Same m (a ∷ b ∷ l) (x ∷ y ∷ l)) k e
    (record {
      legal = (s.first, (s.then, subst (λ n. AllLegal n l) s.same h.1.1));
      end = ap (λ n. run n l) s.same;
    })
any_order {D} {m} G (Permᴰ.trans {l₁} {l₂} {l₃} c d) h =
    let r = any_order G c h in
    let s = any_order G d r.legal in
    record { legal = s.legal; end = r.end ∙ s.end }
