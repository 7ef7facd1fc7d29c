-- `plans::laying::after` meets its contract: way after way, to the first dart that is there.
use mathlib.Core.Path.{sym, ◌∙◌}
use Rattle.plans.proofs.Around.{after_way, all_round}
use Rattle.plans.proofs.laying.after.Goals as goal

pub returns-in-Some : goal.returns-in-Some
returns-in-Some c =
    let e = after_way c.requires.at c.args.way c.requires.there in
    let (some, is, few) = c.in-Some.ensures in
    (is ∙ sym (e ∙ rw (← c.next-second.ensures, some)), few)

pub returns-in-Some-going : goal.returns-in-Some-going
returns-in-Some-going c =
    let e = after_way c.requires.at c.args.way c.requires.there in
    let no = c.in_default.ensures in
    let (some, is, few) = c.in-Some-going.ensures in
    (is ∙ sym (e ∙ rw (← c.next-second.ensures, no, ← c.next-third.ensures, some)), few)

pub returns-in-Some-going-2 : goal.returns-in-Some-going-2
returns-in-Some-going-2 c =
    let e = after_way c.requires.at c.args.way c.requires.there in
    let no = c.in_default.ensures in
    let neither = c.in_default-going.ensures in
    let (some, is, few) = c.in-Some-going-2.ensures in
    (is ∙ sym (e ∙ rw (← c.next-second.ensures, no, ← c.next-third.ensures, neither, ← c.next-last.ensures, some)), few)

pub returns : goal.returns
returns c =
    let e = after_way c.requires.at c.args.way c.requires.there in
    let no = c.in_default.ensures in
    let neither = c.in_default-going.ensures in
    let none = c.in_default-going-2.ensures in
    let (some, is, few) = rw c.unwrap.ensures at c.going-4.ensures in
    let third = c.next-third.ensures in
    let last = c.next-last.ensures in (
      is ∙ sym (e ∙ rw (← c.next-second.ensures, no, ← third, neither, ← last, none) (rw (last, third, c.next-second.ensures, all_round c.args.way))),
      few,
    )
