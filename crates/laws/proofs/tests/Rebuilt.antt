-- What passes the tests is built up again from its base, kernel by kernel.
--   Goes D u past hs t             == the operations hs, first to last, may be done from u on, have these numbers, and lead to t
--   Stands k D u past one two t    == the operations `one`, of kind k, lead to a table from which the operations `two` lead to t
--   Reached D s u past one two t   == the kernel with the numbers `one` is accepted, and the operations `two` lead on to t
use mathlib.Core.List.{List, [], ◌∷◌, ◌++◌, map, reverse_aux}
use mathlib.Core.Logic.{◌≢◌}
use mathlib.Core.Path.{◌≡◌, refl, sym, ap, ap₂, ◌∙◌, subst}
use Prim.Native.Nat.{ℕ, suc, ◌+◌, ◌-◌, ◌<◌, ◌≤◌}
use native.Mathlib.Omega.{arith}
use lib.Dec.{T}
use lib.ListN.{length, take, drop, length-reverse_aux, take-append-drop}
use lib.Seq.{length-take-le}
use Rattle.permutations.specs.Choice.{and_intro, and_left, and_right}
use Rattle.darts.specs.Operation.{Kind, lead, operate, number, kind_of, edge_of, undo_one, undone}
use Rattle.darts.specs.Kernel.{judge, each}
use Rattle.darts.specs.State.{State, gives, raised, reduce}
use Rattle.darts.specs.Pyramid.{build, kernel_of, cut}
use Rattle.laws.proofs.runs.Operations.{AllDone, none, first, run_iff}
use Rattle.laws.proofs.runs.Reduces.{raises_reduce}
use Rattle.darts.specs.Tests.{same_kind, of_kind, one_kind, rises}
use Rattle.laws.proofs.tests.Replays.{Trail, Allowed, redo_fine}
use Rattle.laws.proofs.tests.Shape.{same_kind_lem, rises_iff, raised_by, raised_none, raised_more}
use Rattle.laws.proofs.runs.Ends.{Stores}

abbrev pub Goes : ℕ → List ℕ → List ℕ → List ℕ → List ℕ → Type 0
Goes D u past [] t = u ≡ t
Goes D u past (h ∷ hs) t =
    let k : Kind = kind_of h in
    let e : ℕ = edge_of h in
    (judge k D u past e ≡ 0) × ((number k (lead k u e) ≡ h) × Goes D (operate k D u past e) (h ∷ past) hs t)

-- from the base on
pub goes_base : (D : ℕ) (t past hs top : List ℕ) → Trail D t past → Allowed D t past → Goes D t past hs top
    → Goes D (undone D (length past) t past) [] (reverse_aux past hs) top
unfolding undone
goes_base D t [] hs top trail legal g = g
goes_base D t (h ∷ past) hs top trail legal g =
    let R = trail.0 in
    goes_base D (undo_one D t h past) past (h ∷ hs) top trail.1 legal.1
    (redo_fine R legal.0, (R.same, subst (λ w. Goes D w (h ∷ past) hs top) (sym R.again) g))

-- ---- the operations of one kernel

record Stands (k : Kind) (D : ℕ) (u past one two t : List ℕ) : Type 0 where
  table : List ℕ
  done : AllDone D u past (each k (map edge_of one)) table (reverse_aux one past)
  on : Goes D table (reverse_aux one past) two t

goes_run : (k : Kind) (D : ℕ) (u past one two t : List ℕ) → T (of_kind k one) → Goes D u past (one ++ two) t → Stands k D u past one two t
unfolding of_kind
goes_run k D u past [] two t same g = record { table = u; done = none; on = g }
goes_run k D u past (h ∷ hs) two t same g =
    let c = kind_of h in
    let u' = operate c D u past (edge_of h) in
    let kind : k ≡ c = (same_kind_lem k c).0 (and_left (same_kind k c) (of_kind k hs) same) in
    let others = subst (λ k. T (of_kind k hs)) kind (and_right (same_kind k c) (of_kind k hs) same) in
    let rest = goes_run c D u' (h ∷ past) hs two t others g.1.1 in
    let on = subst (λ n. AllDone D u' (n ∷ past) (each c (map edge_of hs)) rest.table (reverse_aux hs (h ∷ past))) (sym g.1.0) rest.done in
    subst (λ k. Stands k D u past (h ∷ hs) two t) (sym kind) (record { table = rest.table; done = first g.0 on; on = rest.on })

record Reached (D : ℕ) (s : State) (u past one two t : List ℕ) : Type 0 where
  table : List ℕ
  reduces : reduce (kernel_of one).kind (kernel_of one).edges s u past ≡ gives (raised s table (reverse_aux one past)) table (reverse_aux one past)
  on : Goes D table (reverse_aux one past) two t

goes_reduce : {D : ℕ} (s : State) → s.darts ≡ D → s.levels < 64 → (u past one two t : List ℕ)
    → T (one_kind one) → 0 < length one → Goes D u past (one ++ two) t → Reached D s u past one two t
unfolding one_kind of_kind kernel_of
goes_reduce s size room u past [] two t same some g = absurd (omega arith)
goes_reduce {D} s size room u past (h ∷ hs) two t same some g =
    let k = kind_of h in
    let r = goes_run k D u past (h ∷ hs) two t (and_intro (same_kind k k) (of_kind k hs) ((same_kind_lem k k).1 refl) same) g in
    let longer : length (reverse_aux hs (h ∷ past)) ≡ suc (length hs) + length past = length-reverse_aux (h ∷ hs) past in
    record {
      table = r.table;
      reduces = raises_reduce s u past k (map edge_of (h ∷ hs)) (record {
        room = room;
        stood = rw size ((run_iff k D u past (map edge_of (h ∷ hs))).1 r.done);
        more = (let n : length (reverse_aux hs (h ∷ past)) ≢ length past = omega arith in n);
        state = refl;
      });
      on = r.on;
    }

-- ---- all kernels

reverse_on : (one two past : List ℕ) → reverse_aux two (reverse_aux one past) ≡ reverse_aux (one ++ two) past
reverse_on [] two past = refl
reverse_on (h ∷ hs) two past = reverse_on hs two (h ∷ past)

-- THE LEVELS ARE BUILT UP AGAIN
pub goes_build : {D : ℕ} (s : State) → s.darts ≡ D → (u past : List ℕ) → Stores s u past → (from : ℕ) → length past ≡ from
    → (marks hs t : List ℕ) → s.levels + length marks ≤ 64 → T (rises from marks hs) → Goes D u past hs t
    → build s u past (cut from marks hs) ≡ gives (raised_by s marks t (reverse_aux hs past)) t (reverse_aux hs past)
unfolding build cut rises raised
goes_build s size u past N from count [] [] t room rise g = ap₂ (λ z w. gives z w past) (raised_none (subst (λ w. Stores s w past) g N)) g
goes_build s size u past N from count [] (h ∷ hs) t room rise g = absurd rise
goes_build {D} s size u past N from count (m ∷ ms) hs t room rise g =
    let (up, (fits, (one_kind_lem, rest))) = (rises_iff from m ms hs).0 rise in
    let one = take (m - from) hs in
    let two = drop (m - from) hs in
    let cuts : one ++ two ≡ hs = take-append-drop (m - from) hs in
    let used : length one ≡ m - from = length-take-le (m - from) hs fits in
    let r = goes_reduce s size (omega arith) u past one two t one_kind_lem (omega arith) (subst (λ l. Goes D u past l t) (sym cuts) g) in
    let end : length one + length past ≡ m = omega arith in
    let new : length (reverse_aux one past) ≡ m = length-reverse_aux one past ∙ end in
    let up = reverse_aux one past in
    let whole : reverse_aux two up ≡ reverse_aux hs past = reverse_on one two past ∙ ap (λ l. reverse_aux l past) cuts in
    let top : raised_by (raised s r.table up) ms t (reverse_aux two up) ≡ raised_by s (m ∷ ms) t (reverse_aux hs past) =
    raised_more s r.table up ms t (reverse_aux two up) ∙ ap₂ (λ n l. raised_by s (n ∷ ms) t l) new whole in
    rw r.reduces (goes_build (raised s r.table up) size r.table up (record { vertices = refl; faces = refl }) m new ms two t (omega arith) rest r.on
    ∙ ap₂ (λ z l. gives z t l) top whole)
