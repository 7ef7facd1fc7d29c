-- One edge judged: "the kernel's first failing edge, for which 7, 8, 9 or 10, 11", and which edges the sweep takes.
--   Gone past e     == the history has a number of edge e: 2p or 2p+1, where p is 2e or 2e+1
--   Whole t e       == the edge is a whole piece: r = p and s = q, or r = q and s = p
--   Shares k D t e  == p and q share a vertex (contraction), or a face (removal)
--   judge_seven .. judge_zero == the answers of an edge, each where no earlier one is given
--   Taken t past e  == a surviving edge that is an empty loop (r = q or s = p) and no whole piece
--   takes_iff       == exactly these does the sweep take; instances: from one side, from the other, not where gone, not where whole
use mathlib.Core.Bool.{false, ◌||◌, ◌&&◌, not}
use mathlib.Core.List.{List, [], ◌∷◌}
use mathlib.Core.Logic.{◌≢◌, ◌⊎◌, ◌↔◌, inl, inr, ⊎_elim}
use mathlib.Core.Path.{◌≡◌}
use Prim.Native.Nat.{ℕ, suc, ◌+◌, ◌*◌, ◌/◌, ◌<◌, ◌≤◌}
use native.Mathlib.Omega.{arith}
use lib.Dec.{T, eqb, leb, eqb→eq, leb→le, le→leb}
use lib.ListN.{length, get_or}
use Rattle.permutations.specs.Choice.{T→true, not_T→false, or_cases, or_iff, and_iff, not_iff, eqb_iff}
use Rattle.darts.specs.Map.{successor, same_vertex, same_face, gone, survives}
use Rattle.darts.specs.Operation.{Kind, contraction, removal, whole_edge}
use Rattle.darts.specs.Kernel.{shared, judge}
use Rattle.darts.specs.Levels.{empty_loop, takes}
use Rattle.laws.proofs.tests.Room.{gone_at}

-- "The history gets one number, 2p for a removal and 2p+1 for a contraction."
pub record Gone (past : List ℕ) (e : ℕ) : Type 0 where
  pub place : ℕ
  pub inside : place < length past
  pub from : 4 * e ≤ get_or past place 0
  pub to : get_or past place 0 ≤ 4 * e + 3

-- "the edge is a whole piece: r = p and s = q, or r = q and s = p"
abbrev pub Whole : List ℕ → ℕ → Type 0
Whole t e =
    ((get_or t (2 * e) 0 ≡ 2 * e) × (get_or t (2 * e + 1) 0 ≡ 2 * e + 1))
    ⊎ ((get_or t (2 * e) 0 ≡ 2 * e + 1) × (get_or t (2 * e + 1) 0 ≡ 2 * e))

-- "Contract is refused where p and q share a vertex. Remove is refused where p and q share a face."
abbrev pub Shares : Kind → ℕ → List ℕ → ℕ → Type 0
Shares contraction D t e = T (same_vertex D t (2 * e) (2 * e + 1))
Shares removal D t e = T (same_face D t (2 * e) (2 * e + 1))

-- "taking each surviving edge that at its turn is an empty loop (r = q or s = p) and no whole piece"
pub record Taken (t past : List ℕ) (e : ℕ) : Type 0 where
  pub stays : ¬ (Gone past e)
  pub loop : (get_or t (2 * e) 0 ≡ 2 * e + 1) ⊎ (get_or t (2 * e + 1) 0 ≡ 2 * e)
  pub part : ¬ (Whole t e)

-- ---- the tests say what the words say

gone_by_lem : (past : List ℕ) (e : ℕ) → T (gone past (2 * e)) → Gone past e
unfolding gone
gone_by_lem [] e g = absurd g
gone_by_lem (h ∷ past) e g =
    ⊎_elim (λ k. let n = eqb→eq (h / 4) (2 * e / 2) k in record { place = 0; inside = omega arith; from = omega arith; to = omega arith })
    (λ k. let m = gone_by_lem past e k in record { place = suc m.place; inside = (let i = m.inside in omega arith); from = m.from; to = m.to })
    (or_cases (eqb (h / 4) (2 * e / 2)) (gone past (2 * e)) g)

pub gone_iff : (past : List ℕ) (e : ℕ) → T (gone past (2 * e)) ↔ Gone past e
gone_iff past e = (gone_by_lem past e, λ g. gone_at past g.place (2 * e) g.inside (let a = g.from in let b = g.to in omega arith))

whole_iff : (t : List ℕ) (e : ℕ) → T (whole_edge t e) ↔ Whole t e
unfolding whole_edge successor
whole_iff t e = both (get_or t (2 * e) 0) (get_or t (2 * e + 1) 0) (2 * e) (2 * e + 1)
  where
    ends : (r s x y : ℕ) → T (eqb r x && eqb s y) ↔ ((r ≡ x) × (s ≡ y))
    ends r s x y = and_iff (eqb r x) (eqb s y) (eqb_iff r x) (λ _. eqb_iff s y)

    both : (r s p q : ℕ) → T ((eqb r p && eqb s q) || (eqb r q && eqb s p)) ↔ (((r ≡ p) × (s ≡ q)) ⊎ ((r ≡ q) × (s ≡ p)))
    both r s p q = or_iff (eqb r p && eqb s q) (eqb r q && eqb s p) (ends r s p q) (ends r s q p)

loop_iff : (t : List ℕ) (e : ℕ) → T (empty_loop t e) ↔ ((get_or t (2 * e) 0 ≡ 2 * e + 1) ⊎ (get_or t (2 * e + 1) 0 ≡ 2 * e))
unfolding empty_loop successor
loop_iff t e =
    or_iff (eqb (get_or t (2 * e) 0) (2 * e + 1)) (eqb (get_or t (2 * e + 1) 0) (2 * e)) (eqb_iff (get_or t (2 * e) 0) (2 * e + 1))
    (eqb_iff (get_or t (2 * e + 1) 0) (2 * e))

-- ---- an edge judged

module _ (D : ℕ) (t past : List ℕ) (e : ℕ) where
  -- 7, "edge number is D/2 or more", whatever else
  pub judge_seven : (k : Kind) → D / 2 ≤ e → judge k D t past e ≡ 7
  unfolding judge
  judge_seven k h = rw (T→true (leb (D / 2) e) (le→leb (D / 2) e h))

  module _ (below : e < D / 2) where
    edge : leb (D / 2) e ≡ false
    edge = not_T→false (leb (D / 2) e) (λ h. omega (arith, leb→le (D / 2) e h))

    -- 8, "the edge is gone already"
    pub judge_eight : (k : Kind) → Gone past e → judge k D t past e ≡ 8
    unfolding judge
    judge_eight k g = rw (edge, T→true (gone past (2 * e)) ((gone_iff past e).1 g))

    module _ (stays : ¬ (Gone past e)) where
      here : gone past (2 * e) ≡ false
      here = not_T→false (gone past (2 * e)) (λ g. stays ((gone_iff past e).0 g))

      -- 9, "contraction with one vertex at both ends", a whole piece or not
      pub judge_nine : Shares contraction D t e → judge contraction D t past e ≡ 9
      unfolding judge shared
      judge_nine v = rw (edge, here, T→true (same_vertex D t (2 * e) (2 * e + 1)) v)

      -- 10, "removal with one face on both sides", a whole piece or not
      pub judge_ten : Shares removal D t e → judge removal D t past e ≡ 10
      unfolding judge shared
      judge_ten f = rw (edge, here, T→true (same_face D t (2 * e) (2 * e + 1)) f)

      apart : (k : Kind) → ¬ (Shares k D t e) → shared k D t e ≡ 0
      unfolding shared
      apart contraction n = rw (not_T→false (same_vertex D t (2 * e) (2 * e + 1)) n)
      apart removal n = rw (not_T→false (same_face D t (2 * e) (2 * e + 1)) n)

      -- 11, "the edge is a whole piece"
      pub judge_eleven : (k : Kind) → ¬ (Shares k D t e) → Whole t e → judge k D t past e ≡ 11
      unfolding judge
      judge_eleven k n a = rw (edge, here, apart k n, T→true (whole_edge t e) ((whole_iff t e).1 a))

      -- any other edge may be done
      pub judge_zero : (k : Kind) → ¬ (Shares k D t e) → ¬ (Whole t e) → judge k D t past e ≡ 0
      unfolding judge
      judge_zero k n a = rw (edge, here, apart k n, not_T→false (whole_edge t e) (λ b. a ((whole_iff t e).0 b)))

-- ---- an edge that the sweep takes

module _ (t past : List ℕ) (e : ℕ) where
  pub takes_iff : T (takes t past e) ↔ Taken t past e
  unfolding takes survives
  takes_iff =
      let whole = not_iff (whole_edge t e) (whole_iff t e) in
      let loop = and_iff (empty_loop t e) (not (whole_edge t e)) (loop_iff t e) (λ _. whole) in
      let parts = and_iff (not (gone past (2 * e))) (empty_loop t e && not (whole_edge t e)) (not_iff (gone past (2 * e)) (gone_iff past e)) (λ _. loop) in (
        λ k. let p = parts.0 k in record { stays = p.0; loop = p.1.0; part = p.1.1 },
        λ r. parts.1 (r.stays, (r.loop, r.part)),
      )

  -- r = q alone, and s = p alone: an empty loop is seen from both sides
  pub takes_first_lem : ¬ (Gone past e) → get_or t (2 * e) 0 ≡ 2 * e + 1 → get_or t (2 * e + 1) 0 ≢ 2 * e → T (takes t past e)
  takes_first_lem stays r s = takes_iff.1 (record { stays = stays; loop = inl r; part = ⊎_elim (λ a. omega (arith, a.0)) (λ a. s a.1) })

  pub takes_second : ¬ (Gone past e) → get_or t (2 * e) 0 ≢ 2 * e + 1 → get_or t (2 * e + 1) 0 ≡ 2 * e → T (takes t past e)
  takes_second stays r s = takes_iff.1 (record { stays = stays; loop = inr s; part = ⊎_elim (λ a. omega (arith, a.1)) (λ a. r a.0) })

  pub passes_gone : Gone past e → ¬ (T (takes t past e))
  passes_gone g k = (takes_iff.0 k).stays g

  pub passes_whole : Whole t e → ¬ (T (takes t past e))
  passes_whole a k = (takes_iff.0 k).part a
