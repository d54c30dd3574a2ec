-- `list_tables` meets its contract: with each chunk one table more is listed.
use mathlib.Core.Path.{◌∙◌}
use native.Mathlib.Omega.{arith}
use Rattle.std.proofs.lemmas.List.{length-append}
use Rattle.covers.proofs.Reading.{none_listed, listed_more, listed_past, chunk_is, last_chunk}
use Rattle.covers.proofs.list_tables.Goals as goal

pub loop-numbers-init : goal.loop-numbers-init
loop-numbers-init c = (none_listed _ _ c.requires, cc, cc, omega arith)

pub loop-numbers-preserved-then-x-tabled : goal.loop-numbers-preserved-then-x-tabled
loop-numbers-preserved-then-x-tabled c =
    let inv = c.loop-numbers.invariant in
    let step = c.in-Some.ensures.steps in
    let chunk = chunk_is _ _ _ inv.2 inv.3 step.1.0 (step.1.1 ∙ inv.1) in
    rw (length-append, ← chunk.0) (listed_more inv.0 (rw chunk.0 c.if-x-tabled.true), step.0 ∙ inv.1, chunk.1, chunk.2)

pub loop-numbers-preserved : goal.loop-numbers-preserved
loop-numbers-preserved c =
    let inv = c.loop-numbers.invariant in
    let step = c.in-Some.ensures.steps in
    let chunk = chunk_is _ _ _ inv.2 inv.3 step.1.0 (step.1.1 ∙ inv.1) in
    rw length-append (listed_past inv.0 (rw chunk.0 c.if-x-tabled.false), step.0 ∙ inv.1, chunk.1, chunk.2)

pub returns : goal.returns
returns c =
    let inv = c.loop-numbers.invariant in
    let step = c.in-None.ensures.steps in
    rw (last_chunk _ _ inv.2 inv.3 (omega (arith, step.1.0, inv.1))) at inv.0
