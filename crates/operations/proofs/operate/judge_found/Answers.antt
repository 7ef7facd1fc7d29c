-- `operations::operate::judge_found` meets its contract: one test for each answer; a join that finds one root changes no root.
use mathlib.Core.Path.{sym, ◌∙◌}
use Prim.Native.Nat.{◌+◌, ◌*◌}
use native.Mathlib.Omega.{arith}
use borrow.Author.Tests.{eq-eqb, ne_eqb}
use Rattle.darts.proofs.Bits.{bit_small}
use Rattle.darts.proofs.Cases.{refused_number}
use Rattle.operations.proofs.Judging.{gone, one_root, whole_piece_lem, refused_with, judged_here, judged_one, judged_two}
use Rattle.operations.proofs.Lent.{joined_roots, roots_known}
use Rattle.operations.proofs.operate.judge_found.Goals as goal

pub returns-then-d-at : goal.returns-then-d-at
returns-then-d-at c =
    judged_here c.requires.falls (gone _ _ _ _ _ _ c.requires.e_bound (omega arith)) (λ z. omega arith)

pub returns-then-a-b : goal.returns-then-a-b
returns-then-a-b c =
    let roots = c.requires.a_value in
    judged_here c.requires.falls
    (one_root _ _ _ _ _ _ c.requires.e_bound (omega arith) (eq-eqb _ _ (sym roots.0 ∙ c.if-a-b.true ∙ roots.1)) (refused_with c.shared.ensures))
    (refused_number _)

pub returns-then-whole : goal.returns-then-whole
returns-then-whole c =
    let roots = c.requires.a_value in
    judged_here c.requires.falls
    (whole_piece_lem _ _ _ _ _ _ c.requires.e_bound (omega arith) (ne_eqb _ _ (λ z. c.if-a-b.false (roots.0 ∙ z ∙ sym roots.1)))
    (sym c.whole.ensures ∙ c.if-whole.true))
    (λ z. omega arith)

pub link-requires-clause-u_lt_d : goal.link-requires-clause-u_lt_d
link-requires-clause-u_lt_d c =
    (roots_known c.requires.room c.requires.falls (2 * c.args.e) (2 * c.args.e + 1) (omega arith) (omega arith) c.requires.a_value).0

pub link-requires-clause-u_value : goal.link-requires-clause-u_value
link-requires-clause-u_value c =
    (roots_known c.requires.room c.requires.falls (2 * c.args.e) (2 * c.args.e + 1) (omega arith) (omega arith) c.requires.a_value).1

pub returns-then-link : goal.returns-then-link
returns-then-link c =
    let roots = c.requires.a_value in
    judged_two c.requires.e_bound (omega arith) (sym c.whole.ensures ∙ c.if-whole.false)
    (joined_roots c.requires.falls roots.0 roots.1 (rw c.if-link.true at c.link.ensures))

pub returns : goal.returns
returns c =
    let roots = c.requires.a_value in
    judged_one c.requires.e_bound (omega arith) (omega (arith, bit_small c.args.kind))
    (joined_roots c.requires.falls roots.0 roots.1 (rw c.if-link.false at c.link.ensures)) (refused_with c.shared-2.ensures)
