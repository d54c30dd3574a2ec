-- What is in both sets.
use Rattle.bits.specs.declared.Bits.{Bits}
use Rattle.bits.proofs.Whole.{Proper, fits}
use Rattle.tracing.proofs.Outputs.{met_outputs}
use borrow.Author.Rules.{rules}
use Rattle.tracing.proofs.outputs_in.Goals as goal

pub returns : goal.returns
returns c =
    let s : Bits = c.args.signals in
    let proper : Proper s.words = record { long = search rules; small = λ p. fits (search rules) } in
    λ I O outs. met_outputs I O s proper outs c.meet.ensures
