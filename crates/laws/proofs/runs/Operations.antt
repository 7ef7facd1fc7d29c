-- Operations one by one: what it says that a list stands, how it falls into parts, and what the history tells.
--   after D t past o, past_after t past o == the table and the past once the operation o is done
--   AllDone D t past os u new            == each of the operations os may be done at its turn, and they end at u and new
--   stands_iff, run_iff                  == so a list stands, and so a kernel's run stands
--   done_on                              == what comes after them goes on from there
--   Parts D t past os ns v w             == the operations os, and from where they end the operations ns, which end at v and w
--   Told past os new                     == the history numbers by which new goes on from past tell the operations os
use mathlib.Core.List.{List, [], ◌∷◌, ◌++◌, map, reverse, reverse-cons, append-nil, append_assoc, map-append, map-map}
use mathlib.Core.Logic.{◌≢◌, ◌↔◌}
use mathlib.Core.Path.{◌≡◌, refl, sym, ◌∙◌, ap, ap₂, subst₂}
use Prim.Native.Nat.{ℕ, suc, ◌+◌, ◌<◌}
use native.Mathlib.Decide.{ℕ_discrete}
use native.Mathlib.Omega.{arith}
use lib.Dec.{eqb}
use lib.ListN.{length, drop, length-append, length-reverse, length-map}
use lib.Seq.{drop_at}
use Rattle.permutations.specs.Choice.{eqb_same, eqb_other}
use Rattle.std.proofs.Common.{if◌then◌else◌}
use Rattle.darts.specs.Answers.{Answer, answered}
use Rattle.darts.specs.Operation.{Kind, lead, operate, number, kind_of, edge_of}
use Rattle.darts.specs.Kernel.{judge, Operation, each, Run, stands, stops, always, pass_from, pass, run}
use Rattle.darts.specs.Pyramid.{kernel_of}
use Rattle.darts.specs.OneByOne.{one_by_one, operation_of}
use Rattle.laws.proofs.Lists.{reverse_onto}
use Rattle.laws.proofs.bridge.Numbers.{number_kind, number_edge}

abbrev pub after : ℕ → List ℕ → List ℕ → Operation → List ℕ
after D t past o = operate o.kind D t past o.edge

abbrev pub past_after : List ℕ → List ℕ → Operation → List ℕ
past_after t past o = number o.kind (lead o.kind t o.edge) ∷ past

pub data AllDone (D : ℕ) : List ℕ → List ℕ → List Operation → List ℕ → List ℕ → Type 0 where
  none : {t past : List ℕ} → AllDone D t past [] t past
  first : {t past u new : List ℕ} {o : Operation} {os : List Operation} → judge o.kind D t past o.edge ≡ 0
      → AllDone D (after D t past o) (past_after t past o) os u new → AllDone D t past (o ∷ os) u new

-- ---- a list that stands

stops≢stands : {a : Answer} {u new : List ℕ} → stops a ≢ stands u new
stops≢stands e = let z : ◌≡◌ {A = ℕ} 0 1 = cc in omega arith

-- an answer of 0 lets the run go on, any other stops it
answer_on : (n i : ℕ) (r : Run) {u new : List ℕ} → (if eqb n 0 then r else stops (answered n i)) ≡ stands u new → (n ≡ 0) × (r ≡ stands u new)
answer_on n i r {u} {new} e = go (ℕ_discrete n 0)
  where
    go : Dec (n ≡ 0) → (n ≡ 0) × (r ≡ stands u new)
    go (yes fine) = (fine, rw (eqb_same fine) at e)
    go (no n) = absurd (stops≢stands (rw (eqb_other n) at e))

stands_from : {u new : List ℕ} (D : ℕ) (t past : List ℕ) (i : ℕ) (os : List Operation)
    → pass_from always D t past i os ≡ stands u new → AllDone D t past os u new
unfolding pass_from
stands_from {u} {new} D t past i [] e =
    let table : t ≡ u = cc in
    let history : past ≡ new = cc in
    subst₂ (AllDone D t past []) table history none
stands_from D t past i (o ∷ os) e =
    let h = answer_on (judge o.kind D t past o.edge) i (pass_from always D (after D t past o) (past_after t past o) (suc i) os) e in
    first h.0 (stands_from D (after D t past o) (past_after t past o) (suc i) os h.1)

-- the operations ns after those that led to u and new
pub done_on : {D : ℕ} {t past u new : List ℕ} (i : ℕ) (os ns : List Operation) → AllDone D t past os u new
    → pass_from always D t past i (os ++ ns) ≡ pass_from always D u new (i + length os) ns
unfolding pass_from
done_on {D} {u = u} {new = new} i [] ns none = ap (λ n. pass_from always D u new n ns) (omega arith)
done_on {D} {t} {past} {u = u} {new = new} i (o ∷ os) ns (first fine rest) =
    rw (eqb_same fine) (done_on {t = after D t past o} {past = past_after t past o} (suc i) os ns rest ∙ ap (λ n. pass_from always D u new n ns) (omega arith))

-- A LIST STANDS WHERE EACH OPERATION MAY BE DONE AT ITS TURN
pub stands_iff : {u new : List ℕ} (D : ℕ) (t past : List ℕ) (os : List Operation) → (one_by_one D t past os ≡ stands u new) ↔ AllDone D t past os u new
unfolding one_by_one pass pass_from
stands_iff D t past os = (stands_from D t past 0 os, λ h. ap (one_by_one D t past) (sym (append-nil os)) ∙ done_on 0 os [] h)

-- and so does a kernel, which is its operations one by one
pub run_iff : {u new : List ℕ} (k : Kind) (D : ℕ) (t past es : List ℕ) → (run k D t past es ≡ stands u new) ↔ AllDone D t past (each k es) u new
unfolding run one_by_one
run_iff k D t past es = stands_iff D t past (each k es)

-- ---- a list in two parts

pub done_join : {D : ℕ} {t past u new v w : List ℕ} {os ns : List Operation}
    → AllDone D t past os u new → AllDone D u new ns v w → AllDone D t past (os ++ ns) v w
done_join none l = l
done_join (first fine rest) l = first fine (done_join rest l)

pub record Parts (D : ℕ) (t past : List ℕ) (os ns : List Operation) (v w : List ℕ) : Type 0 where
  pub table : List ℕ
  pub new : List ℕ
  pub before : AllDone D t past os table new
  pub beyond : AllDone D table new ns v w

pub done_parts : {D : ℕ} {t past v w : List ℕ} (os ns : List Operation) → AllDone D t past (os ++ ns) v w → Parts D t past os ns v w
done_parts {t = t} {past} [] ns h = record { table = t; new = past; before = none; beyond = h }
done_parts {D} {t} {past} (o ∷ os) ns (first fine rest) =
    let P = done_parts {t = after D t past o} {past = past_after t past o} os ns rest in
    record { table = P.table; new = P.new; before = first fine P.before; beyond = P.beyond }

-- ---- the history tells the operations

pub record Told (past : List ℕ) (os : List Operation) (new : List ℕ) : Type 0 where
  -- the history numbers, first to last
  pub numbers : List ℕ
  pub history : new ≡ reverse numbers ++ past
  pub told : map operation_of numbers ≡ os

number_told : (t : List ℕ) (o : Operation) → operation_of (number o.kind (lead o.kind t o.edge)) ≡ o
number_told t o = λ i. record { kind = number_kind o.kind (lead o.kind t o.edge) i; edge = number_edge o.kind t o.edge i }

-- the operation o first, and then those that are told
pub told_first : (t : List ℕ) {past : List ℕ} (o : Operation) {os : List Operation} {new : List ℕ} → Told (past_after t past o) os new → Told past (o ∷ os) new
told_first t o R = record {
  numbers = number o.kind (lead o.kind t o.edge) ∷ R.numbers;
  history = R.history ∙ rw (reverse-cons, append_assoc);
  told = ap₂ ◌∷◌ (number_told t o) R.told;
}

pub done_told : {D : ℕ} {t past u new : List ℕ} (os : List Operation) → AllDone D t past os u new → Told past os new
done_told [] none = record { numbers = []; history = refl; told = refl }
done_told {D} {t} {past} (o ∷ os) (first fine rest) = told_first t o (done_told {t = after D t past o} {past = past_after t past o} os rest)

module _ {past : List ℕ} {os : List Operation} {new : List ℕ} (R : Told past os new) where
  pub told_count : length R.numbers ≡ length os
  told_count = sym (length-map R.numbers operation_of) ∙ ap length R.told

  pub told_longer : length new ≡ length past + length os
  told_longer = ap length R.history ∙ (let c = told_count in simp (length-append, length-reverse) (omega arith))

  pub told_dropped : drop (length os) new ≡ past
  told_dropped = rw R.history (drop_at (reverse R.numbers) past (length os) (length-reverse R.numbers ∙ told_count))

  -- first to last: the operations of the past, and then these
  pub told_history : map operation_of (reverse new) ≡ map operation_of (reverse past) ++ os
  told_history =
      ap (λ l. map operation_of (reverse l)) R.history ∙ ap (map operation_of) (reverse_onto R.numbers past)
      ∙ map-append operation_of (reverse past) R.numbers ∙ ap (λ l. map operation_of (reverse past) ++ l) R.told

-- and so a kernel is told by its history numbers

module _ (k : Kind) (es numbers : List ℕ) (told : map operation_of numbers ≡ each k es) where
  told_edges : map edge_of numbers ≡ es
  told_edges = sym (map-map (λ o. o.edge) operation_of numbers) ∙ ap (map (λ o. o.edge)) told ∙ map-map (λ o. o.edge) _ es ∙ map_same es
    where
      map_same : (l : List ℕ) → map (λ e. e) l ≡ l
      map_same [] = refl
      map_same (e ∷ l) = ap (λ l. e ∷ l) (map_same l)

  pub told_kinds : map kind_of numbers ≡ map (λ e. k) es
  told_kinds = sym (map-map (λ o. o.kind) operation_of numbers) ∙ ap (map (λ o. o.kind)) told ∙ map-map (λ o. o.kind) _ es

pub told_kernel : (k : Kind) (es numbers : List ℕ) → map operation_of numbers ≡ each k es → 0 < length numbers
    → kernel_of numbers ≡ record { kind = k; edges = es }
unfolding kernel_of
told_kernel k es [] told some = absurd (omega arith)
told_kernel k es (h ∷ hs) told some =
    let edges = told_edges k es (h ∷ hs) told in
    let kinds : kind_of h ∷ map kind_of hs ≡ k ∷ map (λ e. k) (map edge_of hs) = rw (← edges) at (told_kinds k es (h ∷ hs) told) in
    let kind : kind_of h ≡ k = cc in
    λ i. record { kind = kind i; edges = edges i }
