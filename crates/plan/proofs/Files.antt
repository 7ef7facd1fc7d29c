-- The file of a drawing.
--   drawn_by       == the call on the codes that were turned is the call on the drawing's plan
--   refused_stays  == a refused plan is left as the call left it
--   accepted_files == an accepted plan's state is written
--   holds_filed    == what the writer leaves stands in the rooms
--   length_within  == an accepted file's length lies within the output
use mathlib.Core.List.{List}
use mathlib.Core.Path.{◌≡◌, sym, ap, ◌∙◌}
use Prim.Native.Nat.{ℕ, ◌+◌, ◌*◌, ◌/◌, ◌≤◌}
use native.Mathlib.Decide.{ℕ_discrete}
use native.Mathlib.Nat.{div-mul-le_self}
use native.Mathlib.Omega.{arith}
use lib.ListN.{length, take, length-take}
use Rattle.permutations.specs.Choice.{eqb_same, eqb_other}
use Rattle.slices.specs.Over.{over}
use Rattle.slices.proofs.Over.{over_front}
use Rattle.std.specs.Prelude.{Result, Ok, Err}
use Rattle.darts.specs.Cases.{bytes_of}
use Rattle.darts.specs.declared.Refusal.{Refusal}
use Rattle.darts.proofs.Cases.{refused_number}
use Rattle.darts.specs.State.{State}
use Rattle.darts.specs.Calls.{After, Written, write}
use Rattle.grids.specs.Grid.{flat}
use Rattle.pyramid.specs.Values.{state_of, left}
use Rattle.pyramid.specs.declared.Outcome.{Outcome}
use Rattle.writer.specs.Filed.{filed}
use Rattle.laws.proofs.sentences.Writing.{write_accepted}
use Rattle.plan.specs.declared.words.Wanted.{Wanted}
use Rattle.plan.specs.Drawing.{wales_of, courses_of, upside_down, plan_of}
use Rattle.plan.specs.Files.{called, drawn, written, Holds}
use Rattle.plan.proofs.Turned.{plan_length}

pub drawn_by : (b : Wanted) (d p : List ℕ) {p' : List ℕ} {w : ℕ} (t h k : List ℕ) → w ≡ wales_of d → p' ≡ over (upside_down w d (length d / (w + 1))) p
    → called b (flat w (length d / (w + 1))) (take (w * (length d / (w + 1))) p') t h k ≡ drawn b d t h k
unfolding drawn plan_of courses_of
drawn_by b d p {p'} {w} t h k e f =
    let codes : List ℕ = upside_down w d (length d / (w + 1)) in
    let size : w * (length d / (w + 1)) ≡ length codes =
    omega (arith, plan_length w d (length d / (w + 1)) (div-mul-le_self (length d) (w + 1))) in
    let front : take (w * (length d / (w + 1))) p' ≡ codes = rw (size, f) (over_front codes p) in
    ap (λ l. called b (flat w (length d / (w + 1))) l t h k) front ∙ rw e

module _ (r : Outcome) {t h k : List ℕ} {a : After} (e : left r t h k ≡ a) (o : List ℕ) where
  pub refused_stays : (x : Refusal) → r.answer ≡ Err x → filed (Err x) t h k o ≡ written a o
  unfolding written
  refused_stays x is = rw (← e) (rw is (rw (eqb_other (refused_number x))))

  pub accepted_files : {u : Unit {0}} → r.answer ≡ Ok u → write (state_of r.state) t h k o ≡ written a o
  unfolding written
  accepted_files is = rw (← e) (rw is)

write_within : (s : State) (t h k o : List ℕ) → (write s t h k o).answer.number ≡ 0 → (write s t h k o).answer.place ≤ length o
write_within s t h k o z =
    let r : Written = write s t h k o in
    let F = (write_accepted s t h k o z).1 in
    omega (arith, ap length F.bytes, length-take r.answer.place r.output, F.size, F.answer.place)

file_within : (a : After) (o : List ℕ) → (written a o).answer.number ≡ 0 → (written a o).answer.place ≤ length o
unfolding written
file_within a o z = go (ℕ_discrete a.answer.number 0)
  where
    go : Dec (a.answer.number ≡ 0) → (written a o).answer.place ≤ length o
    go (no n) = absurd (n (rw (eqb_other n) at z))
    go (yes e) = rw (eqb_same e) (write_within a.state a.table a.history a.work o (rw (eqb_same e) at z))

pub length_within : (n : ℕ) (a : After) (o : List ℕ) {t h k o' : List ℕ} → filed (Ok n) t h k o' ≡ written a o → n ≤ length o
length_within n a o e =
    let same : bytes_of (Ok n) ≡ (written a o).answer = ap (λ f. f.answer) e in
    let zero : (written a o).answer.number ≡ 0 = sym (ap (λ x. x.number) same) in
    let at : n ≡ (written a o).answer.place = ap (λ x. x.place) same in
    omega (arith, file_within a o zero, at)

pub holds_filed : (r : Result ℕ Refusal) {t h k o : List ℕ} {a : Written} → filed r t h k o ≡ a → Holds a t h k o
holds_filed r e =
    record {
      table = ap (λ (x : Written). x.table) e;
      history = ap (λ (x : Written). x.history) e;
      work = ap (λ (x : Written). x.work) e;
      output = ap (λ (x : Written). x.output) e;
    }
