-- `file_lines::kernels::kernels` meets its contract: the level ends, the sum and the history are those of the lines so far, and the lines from
-- here on are those that are left.
--   Reading b L D h₀ h ends at₀ at sum i == i lines were read; sum is their operations, and h is the history h₀ with their numbers at the front
use mathlib.Core.Path.{◌≡◌, refl, sym, ap, ◌∙◌}
use mathlib.Core.Logic.{by_cases}
use mathlib.Core.List.{List, [], ◌∷◌, ◌++◌}
use Prim.Native.Nat.{ℕ, ◌+◌, ◌-◌, ◌/◌, ◌≤◌, ◌<◌}
use native.Mathlib.Decide.{dec_le}
use native.Mathlib.Omega.{arith}
use lib.ListN.{length, drop, set, replicate, length-append}
use borrow.Author.Rules.{rules}
use borrow.Author.Tests.{le-leb, lt-leb}
use Rattle.std.specs.Prelude.{Ok, Err}
use Rattle.darts.specs.Cases.{refusal_of}
use Rattle.darts.specs.declared.Refusal.{Refusal}
use Rattle.darts.specs.Operation.{Kind}
use Rattle.darts.specs.Scan.{found, fault, after}
use Rattle.darts.specs.Read.{KernelLine, kernel_at, kernels_at, ends_from, total, numbers_from, history_from, file_history}
use Rattle.laws.proofs.file.KernelLines.{ends_length, numbers_length}
use Rattle.std.proofs.lemmas.Result.{err_from_is_err_and}
use Rattle.slices.specs.Put.{Put}
use Rattle.file_lines.specs.Kernels.{noted, KernelsRead}
use Rattle.file_lines.proofs.Rest.{rest_none, rest_on, rest_fault, rest_found}
use Rattle.file_lines.proofs.KernelLines.{kernel_lines_lem, kernel_small, total_on, ends_on, history_on, history_length, ends_set}
use Rattle.slices.proofs.Put.{put_none, put_on}
use Rattle.slices.proofs.Laid.{laid_rest, laid_over}
use Rattle.file_lines.proofs.kernels.kernels.Invariants.{Reading}
use Rattle.file_lines.proofs.kernels.kernels.Goals as goal

begin : (b : List ℕ) (L D : ℕ) (h : List ℕ) (at : ℕ) → Reading b L D h h (replicate 64 0) at at 0 0
unfolding total ends_from file_history history_from
begin b L D h at =
    record {
      done = [];
      bound = omega arith;
      count = refl;
      size = refl;
      small = omega arith;
      same = refl;
      lines = let all : L - 0 ≡ L = omega arith in rw all (rest_none (kernels_at L b at));
      levels = refl;
      put = λ _. put_none h 0;
      rest = refl;
    }

-- the numbers of one line more
noted_rest : (room : ℕ) (k : Kind) (i n : ℕ) (h : List ℕ) → room ≤ length h → drop room (noted room k i n h) ≡ drop room h
unfolding noted
noted_rest room k i n h fits =
    by_cases (dec_le (i + n) room)
    (λ l. rw (le-leb (i + n) room l)
    (let size = numbers_length k i n in laid_rest h i (numbers_from k i n) (record { fits = omega arith }) room (omega arith)))
    (λ m. rw (lt-leb (i + n) room (omega arith)))

module _ {b : List ℕ} {L D : ℕ} {h₀ h ends : List ℕ} {at₀ at sum i : ℕ} (pre : (L ≤ 64) × (D ≤ 65536) × (D / 2 ≤ length h₀))
    (g : Reading b L D h₀ h ends at₀ at sum i) where
  put_more : (k : KernelLine) {h' : List ℕ} → h' ≡ noted (D / 2) k.kind sum k.count h → sum + k.count ≤ D / 2
      → Put h₀ h' 0 (sum + k.count) (file_history (g.done ++ (k ∷ [])))
  unfolding noted file_history
  put_more k e fits =
      let size = history_length 0 g.done in
      let here : 0 + total g.done ≡ sum = omega arith in
      let on : history_from 0 (g.done ++ (k ∷ [])) ≡ history_from 0 g.done ++ numbers_from k.kind sum k.count = history_on k 0 g.done ∙ rw here in
      let added = numbers_length k.kind sum k.count in
      rw on
      (put_on (record { fits = omega arith }) (g.put (omega arith))
      (record { slice = rw (le-leb (sum + k.count) (D / 2) fits) at e; next = omega arith }))

  go_on : {k : KernelLine} {h' : List ℕ} {next : ℕ} → i < L → kernel_at b at ≡ found k next → length h' ≡ length h
      → h' ≡ noted (D / 2) k.kind sum k.count h
      → Reading b L D h₀ h' (set ends i (sum + k.count)) at₀ next (sum + k.count) (i + 1)
  go_on {k} {h'} {next} more line kept e =
      let less : L - i - 1 ≡ L - (i + 1) = omega arith in
      let alone : after (kernel_at b at) (λ k next. found (k ∷ []) next) ≡ found (k ∷ []) next = rw line in
      let many : k.count ≤ 99999 = kernel_small b at line in
      let here : 0 + total g.done ≡ sum = omega arith in
      let on : ends_from 0 (g.done ++ (k ∷ [])) ≡ ends_from 0 g.done ++ ((sum + k.count) ∷ []) = ends_on k 0 g.done ∙ rw here in
      record {
        done = g.done ++ (k ∷ []);
        bound = omega arith;
        count = length-append g.done (k ∷ []) ∙ ap (λ (m : ℕ). m + 1) g.count;
        size = kept ∙ g.size;
        small = omega arith;
        same = omega (arith, total_on k g.done);
        lines = rw less at (rest_on (kernel_lines_lem b) (L - i) (omega arith) g.lines alone);
        levels = rw (g.levels, on) (ends_set (ends_from 0 g.done) i (sum + k.count) (ends_length 0 g.done ∙ g.count) (omega arith));
        put = put_more k e;
        rest = ap (drop (D / 2)) e ∙ noted_rest (D / 2) k.kind sum k.count h (omega arith) ∙ g.rest;
      }

  stopped : {a : Refusal} → i < L → kernel_at b at ≡ fault (refusal_of a) → KernelsRead b at₀ L D h₀ h (Err a)
  stopped {a} more line =
      let wrong : kernels_at L b at₀ ≡ fault (refusal_of a) = rest_fault (kernel_lines_lem b) (L - i) (omega arith) g.lines (rw line) in
      let never : (ks : List KernelLine) (next : ℕ) → kernels_at L b at₀ ≡ found ks next → ⊥ =
      λ ks next e. let z : ◌≡◌ {A = ℕ} 0 1 = cc (wrong, e) in omega arith in
      record {
        answer = rw wrong;
        ends = λ ks next e. absurd (never ks next e);
        history = λ ks next e l. absurd (never ks next e);
        rest = g.rest;
      }

  ended : L ≤ i → KernelsRead b at₀ L D h₀ h (Ok (record { operations = sum; ends = ends }, at))
  ended all =
      let right : kernels_at L b at₀ ≡ found g.done at = rest_found (kernel_lines_lem b) (L - i) (omega arith) g.lines in
      let one : (ks : List KernelLine) (next : ℕ) → kernels_at L b at₀ ≡ found ks next → ks ≡ g.done = λ ks next e. cc (right, e) in
      record {
        answer = rw right (ap (λ (m : ℕ). found m at) g.same);
        ends = λ ks next e. rw (one ks next e, g.count) g.levels;
        history = λ ks next e l.
            let k : ks ≡ g.done = one ks next e in
            rw k ((g.put (rw (g.same, ← k) l)).slice ∙ laid_over h₀ (file_history g.done));
        rest = g.rest;
      }

pub loop-i-init : goal.loop-i-init
loop-i-init c =
    let g = c.args in
    begin g.bytes.now g.levels g.d g.history.now g.at

pub returns-in_err-line : goal.returns-in_err-line
returns-in_err-line c =
    let p = err_from_is_err_and c.from_residual.result c.from_residual.ensures.1 in
    rw (p.1, p.2) (stopped c.requires c.loop-i.invariant c.loop-i-test.true (sym c.in_err-line.ensures))

pub lay_history-requires : goal.lay_history-requires
lay_history-requires c = let small = kernel_small _ _ (sym c.in_ok-line.ensures) in omega arith

pub overflow_add-operations : goal.overflow_add-operations
overflow_add-operations c = let small = kernel_small _ _ (sym c.in_ok-line.ensures) in omega arith

pub overflow_cast-ends : goal.overflow_cast-ends
overflow_cast-ends c = let small = kernel_small _ _ (sym c.in_ok-line.ensures) in omega arith

pub loop-i-preserved : goal.loop-i-preserved
loop-i-preserved c =
    go_on c.requires c.loop-i.invariant c.loop-i-test.true (sym c.in_ok-line.ensures) (search rules) c.lay_history.ensures

pub returns : goal.returns
returns c = ended c.requires c.loop-i.invariant c.loop-i-test.false
