use Prim.Native.Nat.{◌+◌, ◌≤◌, ◌<◌}
use mathlib.Core.Path.{sym, ◌∙◌}
use native.Mathlib.Omega.{arith}
use lib.ListN.{length, set, length-set}
use Rattle.answers.proofs.Tabling.{none_read, number_end, not_number, number_read, last_read}
use Rattle.answers.proofs.Tabling.{too_long, were_no_tables, were_tables}
use Rattle.answers.proofs.numbers.read.Goals as goal

pub returns-then-numbers-text : goal.returns-then-numbers-text
returns-then-numbers-text c = too_long c.args.text.now c.args.numbers.now (omega (arith, c.requires))

pub loop-i-init : goal.loop-i-init
loop-i-init c = none_read _ _ c.requires

pub returns-in_default : goal.returns-in_default
returns-in_default c =
    let text = c.args.text.now in
    let ends = number_end text c.loop-i.i c.loop-i.at c.sign_behind.ensures c.part_end.ensures.value in
    let none = not_number c.loop-i.invariant ends (sym c.number_in.ensures ∙ c.in_default.is) in
    were_no_tables text c.loop-i.numbers (omega (arith, c.requires)) none

pub returns-then-is_truth : goal.returns-then-is_truth
returns-then-is_truth c =
    let text = c.args.text.now in
    let ends = number_end text c.loop-i.i c.loop-i.at c.sign_behind.ensures c.part_end.ensures.value in
    let room : c.loop-i.i < length c.loop-i.numbers = omega (arith, c.loop-i.invariant.few, c.loop-i.invariant.within, c.loop-i.invariant.long, c.requires) in
    let all = last_read c.loop-i.invariant ends (sym c.number_in.ensures ∙ c.in-Some.is) room c.if-text-end.true in
    let few : c.loop-i.i + 1 ≤ length (set c.loop-i.numbers c.loop-i.i c.in-Some.n) = omega
    (arith, length-set c.loop-i.numbers c.loop-i.i c.in-Some.n) in
    were_tables text _ (omega (arith, c.requires)) few (rw (sym c.is_truth.ensures ∙ c.if-is_truth.true) at all)

pub returns-else-is_truth : goal.returns-else-is_truth
returns-else-is_truth c =
    let text = c.args.text.now in
    let ends = number_end text c.loop-i.i c.loop-i.at c.sign_behind.ensures c.part_end.ensures.value in
    let room : c.loop-i.i < length c.loop-i.numbers = omega (arith, c.loop-i.invariant.few, c.loop-i.invariant.within, c.loop-i.invariant.long, c.requires) in
    let all = last_read c.loop-i.invariant ends (sym c.number_in.ensures ∙ c.in-Some.is) room c.if-text-end.true in
    were_no_tables text c.loop-i.numbers (omega (arith, c.requires)) (rw (sym c.is_truth.ensures ∙ c.if-is_truth.false) at all)

pub loop-i-preserved : goal.loop-i-preserved
loop-i-preserved c =
    let text = c.args.text.now in
    let ends = number_end text c.loop-i.i c.loop-i.at c.sign_behind.ensures c.part_end.ensures.value in
    let room : c.loop-i.i < length c.loop-i.numbers = omega (arith, c.loop-i.invariant.few, c.loop-i.invariant.within, c.loop-i.invariant.long, c.requires) in
    number_read c.loop-i.invariant ends (sym c.number_in.ensures ∙ c.in-Some.is) room c.if-text-end.false
