-- `file_lines::pairs::pairs` meets its contract: the numbers of the lines so far stand at the front of the table, and the lines from
-- here on are those that are left.
--   Reading b D F t₀ t at₀ at i == i lines were read; t is the table t₀ with their numbers at the front
use mathlib.Core.Path.{◌≡◌, refl, sym, ap, ◌∙◌}
use mathlib.Core.List.{List, [], ◌++◌, map, map-append}
use Prim.Native.Nat.{ℕ, ◌+◌, ◌-◌, ◌*◌, ◌/◌, ◌≤◌, ◌<◌}
use native.Mathlib.Omega.{arith}
use lib.ListN.{length, drop}
use Rattle.std.specs.Prelude.{Ok, Err}
use Rattle.darts.specs.Cases.{refusal_of}
use Rattle.darts.specs.declared.Refusal.{Refusal}
use Rattle.darts.specs.Scan.{found, fault}
use Rattle.darts.specs.Read.{pairs_at, from_flag}
use Rattle.std.proofs.lemmas.Result.{err_from_is_err_and}
use Rattle.file_lines.specs.Lines.{pair_at, pair_of}
use Rattle.slices.specs.Laid.{laid, Space}
use Rattle.slices.specs.Put.{Put}
use Rattle.file_lines.specs.Pairs.{PairsRead}
use Rattle.file_lines.proofs.Rest.{rest_none, rest_on, rest_fault, rest_found}
use Rattle.file_lines.proofs.PairLines.{pair_lines_lem, pair_small}
use Rattle.slices.proofs.Put.{put_none, put_on, put_length}
use Rattle.slices.proofs.Laid.{laid_rest, laid_over}
use Rattle.file_lines.proofs.pairs.pairs.Invariants.{Reading}
use Rattle.file_lines.proofs.pairs.pairs.Goals as goal

begin : (b : List ℕ) (D F : ℕ) (t : List ℕ) (at : ℕ) → Reading b D F t t at at 0
begin b D F t at =
    record {
      done = [];
      bound = omega arith;
      size = refl;
      lines = let all : D / 2 - 0 ≡ D / 2 = omega arith in rw all (rest_none (pairs_at (D / 2) b at));
      put = put_none t 0;
    }

module _ {b : List ℕ} {D F : ℕ} {t₀ t : List ℕ} {at₀ at i : ℕ} (pre : (D ≤ 65536) × (D ≤ length t₀)) (g : Reading b D F t₀ t at₀ at i) where
  room : Space t₀ 0 (map (from_flag F D) g.done)
  room = record { fits = omega (arith, g.put.next) }

  go_on : {t' : List ℕ} {p : ℕ × ℕ} {next : ℕ} → i < D / 2 → pair_at b at ≡ found (pair_of p) next
      → t' ≡ laid t (2 * i) (map (from_flag F D) (pair_of p)) → Reading b D F t₀ t' at₀ next (i + 1)
  go_on {t'} {p} {next} more line laid =
      let less : D / 2 - i - 1 ≡ D / 2 - (i + 1) = omega arith in
      let twice : 2 * (i + 1) ≡ 2 * i + 2 = omega arith in
      let both : Put t₀ t' 0 (2 * i + 2) (map (from_flag F D) g.done ++ map (from_flag F D) (pair_of p)) =
      put_on room g.put (record { slice = laid; next = refl }) in
      record {
        done = g.done ++ pair_of p;
        bound = omega arith;
        size = put_length (record { fits = omega (arith, both.next) }) both;
        lines = rw less at (rest_on (pair_lines_lem b) (D / 2 - i) (omega arith) g.lines line);
        put = rw (twice, map-append) both;
      }

  -- the table past the first D numbers
  untouched : drop D t ≡ drop D t₀
  untouched = ap (drop D) g.put.slice ∙ laid_rest t₀ 0 (map (from_flag F D) g.done) room D (omega (arith, g.put.next))

  stopped : {a : Refusal} → i < D / 2 → pair_at b at ≡ fault (refusal_of a) → PairsRead b at₀ D F t₀ t (Err a)
  stopped {a} more line =
      let wrong : pairs_at (D / 2) b at₀ ≡ fault (refusal_of a) = rest_fault (pair_lines_lem b) (D / 2 - i) (omega arith) g.lines line in
      record {
        answer = rw wrong;
        table = λ xs next e. let never : ◌≡◌ {A = ℕ} 0 1 = cc (wrong, e) in absurd (omega arith);
        rest = untouched;
      }

  ended : D / 2 ≤ i → PairsRead b at₀ D F t₀ t (Ok at)
  ended all =
      let right : pairs_at (D / 2) b at₀ ≡ found g.done at = rest_found (pair_lines_lem b) (D / 2 - i) (omega arith) g.lines in
      record {
        answer = rw right;
        table = λ xs next e. let same : xs ≡ g.done = cc (right, e) in rw same (g.put.slice ∙ laid_over t₀ (map (from_flag F D) g.done));
        rest = untouched;
      }

pub loop-i-init : goal.loop-i-init
loop-i-init c =
    let g = c.args in
    begin g.bytes.now g.d g.flag g.table.now g.at

pub returns-in_err-pair : goal.returns-in_err-pair
returns-in_err-pair c =
    let p = err_from_is_err_and c.from_residual.result c.from_residual.ensures.1 in
    rw (p.1, p.2) (stopped c.requires c.loop-i.invariant c.loop-i-test.true (sym c.in_err-pair.ensures))

pub lay_pair-requires : goal.lay_pair-requires
lay_pair-requires c =
    let small = pair_small _ _ (sym c.in_ok-pair.ensures) in
    record { space = record { fits = omega arith }; d_bound = (omega arith, small.0, small.1) }

pub loop-i-preserved : goal.loop-i-preserved
loop-i-preserved c =
    go_on c.requires c.loop-i.invariant c.loop-i-test.true (sym c.in_ok-pair.ensures) c.lay_pair.ensures

pub returns : goal.returns
returns c = ended c.requires c.loop-i.invariant c.loop-i-test.false
