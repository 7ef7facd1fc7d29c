-- No two outcomes satisfy the statement of the writer.
--   filed_one == what a write leaves tells its answer and every lent slice
use mathlib.Core.List.{List}
use mathlib.Core.Path.{◌≡◌, sym, ap, ◌∙◌}
use Prim.Native.Nat.{ℕ}
use Rattle.std.specs.Prelude.{Result}
use Rattle.darts.specs.Calls.{Written}
use Rattle.pyramid.proofs.Tight.{bytes_one}
use Rattle.darts.specs.declared.Refusal.{Refusal}
use Rattle.writer.specs.Filed.{filed}

pub record SameFile (a b : Result ℕ Refusal) (t u h g w v o x : List ℕ) : Type 0 where
  pub answer : a ≡ b
  pub table : t ≡ u
  pub history : h ≡ g
  pub work : w ≡ v
  pub output : o ≡ x

-- NO TWO OUTCOMES OF WRITE SATISFY ITS STATEMENT
pub filed_one : (a b : Result ℕ Refusal) (t u h g w v o x : List ℕ) (z : Written) → filed a t h w o ≡ z → filed b u g v x ≡ z → SameFile a b t u h g w v o x
filed_one a b t u h g w v o x z d e =
    let c : filed a t h w o ≡ filed b u g v x = d ∙ sym e in
    record {
      answer = bytes_one a b (ap (λ (y : Written). y.answer) c);
      table = ap (λ (y : Written). y.table) c;
      history = ap (λ (y : Written). y.history) c;
      work = ap (λ (y : Written). y.work) c;
      output = ap (λ (y : Written). y.output) c;
    }
