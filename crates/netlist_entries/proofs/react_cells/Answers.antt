-- A run over one event.
use borrow.Author.Rules.{rules}
use Rattle.netlists.specs.Words.{judge_cells}
use Rattle.verdicts.proofs.Running.{once_of}
use Rattle.netlist_entries.specs.Netlists.{NetReactedMany}
use Rattle.netlist_entries.proofs.react_cells.Goals as goal

pub returns : goal.returns
returns c =
    once_of (NetReactedMany (judge_cells c.args.inputs c.args.outputs c.args.words.now)) c.run_once.ensures
    (λ events signals states signals' states' course h. search rules)
