-- Ends that kernels give are in the form of a pyramid's.
--   each_level   == each level has an edge that ends there
--   top_kernels  == the top of the ends is the number of kernels
--   ended_shaped == 64 levels at most, all in use, with one kind each
use mathlib.Core.Bool.{◌&&◌}
use mathlib.Core.List.{List, [], ◌∷◌}
use mathlib.Core.Logic.{inl, inr}
use mathlib.Core.Path.{◌≡◌, refl, sym, ap, ◌∙◌}
use Prim.Native.Nat.{ℕ, zero, suc, ◌+◌, ◌-◌, ◌≤◌, ◌<◌}
use native.Mathlib.Decide.{dec_lt}
use native.Mathlib.Omega.{arith}
use lib.Dec.{T, leb, le→leb}
use lib.ListN.{length}
use Rattle.permutations.specs.Choice.{T?, and_intro}
use Rattle.permutations.specs.Live.{has}
use Rattle.darts.specs.Pyramid.{Kernel}
use Rattle.darts.specs.OneByOne.{NoneEmpty}
use Rattle.ends.specs.Ends.{level_of, top, in_use, one_kind, shaped}
use Rattle.ends.specs.Comes.{end_in}
use Rattle.ends.proofs.Members.{Distinct, has_cons, has_append, append_distinct}
use Rattle.ends.proofs.Levels.{at, at_inside, level_top, top_least, First, first, in_use_iff, OneKind, one_kind_iff}
use Rattle.ends.proofs.Ended.{edges_of, number_level, end_here, end_later, end_same, Ended, ended_level, ended_member}

-- an edge of the kernels ks that ends at level M, where they make the levels from L on
record EndsAt (L : ℕ) (ks : List Kernel) (M : ℕ) : Type 0 where
  edge : ℕ
  member : T (has (edges_of ks) edge)
  level : level_of (end_in L ks edge) ≡ M

some_member : (l : List ℕ) → 0 < length l → (x : ℕ) × T (has l x)
some_member [] h = absurd (omega arith)
some_member (x ∷ l) h = (x, (has_cons x l x).1 (inl refl))

each_level : (L : ℕ) (ks : List Kernel) → NoneEmpty ks → Distinct (edges_of ks) → (i : ℕ) → i < length ks → EndsAt L ks (L + i)
each_level L [] some d i l = absurd (omega arith)
each_level L (k ∷ ks) some d zero l =
    let (e, h) = some_member k.edges some.0 in
    record {
      edge = e;
      member = (has_append k.edges (edges_of ks) e).1 (inl h);
      level = ap level_of (end_here L k ks e h) ∙ number_level k.kind L ∙ omega arith;
    }
each_level L (k ∷ ks) some d (suc i) l =
    let apart = append_distinct k.edges (edges_of ks) d in
    let E = each_level (suc L) ks some.1 apart.0 i (omega arith) in
    record {
      edge = E.edge;
      member = (has_append k.edges (edges_of ks) E.edge).1 (inr E.member);
      level = ap level_of (end_later L k ks E.edge (λ a. apart.1 E.edge a E.member)) ∙ E.level ∙ omega arith;
    }

module _ {ends : List ℕ} {ks : List Kernel} (E : Ended ends ks) (some : NoneEmpty ks) where
  -- each level has an end
  level_first : (L : ℕ) → 1 ≤ L → L ≤ length ks → First L ends
  level_first L l h =
      let A = each_level 1 ks some E.distinct (L - 1) (omega arith) in
      let level : level_of (at ends A.edge) ≡ L = ap level_of (E.taken A.edge A.member) ∙ A.level ∙ omega arith in
      first L ends A.edge (at_inside ends A.edge (omega arith)) level

  level_most : (e : ℕ) → level_of (at ends e) ≤ length ks
  level_most e = go (T? (has (edges_of ks) e))
    where
      go : Dec (T (has (edges_of ks) e)) → level_of (at ends e) ≤ length ks
      go (yes h) = (ended_level E e h).1
      go (no n) = let z = E.left e n in omega arith

  -- THE TOP OF THE ENDS IS THE NUMBER OF KERNELS
  pub top_kernels : top ends ≡ length ks
  top_kernels = go (dec_lt 0 (length ks))
    where
      most : top ends ≤ length ks
      most = top_least ends (length ks) level_most

      go : Dec (0 < length ks) → top ends ≡ length ks
      go (yes l) =
          let F = level_first (length ks) (omega arith) (omega arith) in
          let high : level_of (at ends F.edge) ≡ length ks = ap level_of F.end ∙ F.level in
          let t = level_top ends F.edge in
          let m = most in
          omega arith
      go (no n) = let m = most in omega arith

  -- two ends of one level are the same number
  level_one : (d e : ℕ) → 1 ≤ level_of (at ends e) → level_of (at ends d) ≡ level_of (at ends e) → at ends d ≡ at ends e
  level_one d e l q =
      let h = ended_member E d (omega arith) in
      let k = ended_member E e l in
      let a = E.taken d h in
      let b = E.taken e k in
      a ∙ end_same 1 ks d e h k (ap level_of (sym a) ∙ q ∙ ap level_of b) ∙ sym b

  kinds : OneKind ends ends
  kinds e l =
      let F = first (level_of (at ends e)) ends e (at_inside ends e l) refl in
      sym (level_one F.edge e l (ap level_of F.end ∙ F.level)) ∙ F.end

  -- THE ENDS ARE IN THE FORM OF A PYRAMID'S
  pub ended_shaped : length ks ≤ 64 → T (shaped ends)
  unfolding shaped
  ended_shaped few =
      let t = top_kernels in
      and_intro (leb (top ends) 64) (in_use ends (top ends) && one_kind ends ends) (le→leb (top ends) 64 (omega arith))
      (and_intro (in_use ends (top ends)) (one_kind ends ends) ((in_use_iff ends (top ends)).1 (λ L l h. level_first L l (omega arith)))
      ((one_kind_iff ends ends).1 kinds))
