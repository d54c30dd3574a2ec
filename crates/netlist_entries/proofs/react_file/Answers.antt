-- A run over one event.
use borrow.Author.Rules.{rules}
use Rattle.files.specs.Read.{read_file}
use Rattle.verdicts.proofs.Running.{once_of}
use Rattle.netlist_entries.specs.Netlists.{NetReactedMany}
use Rattle.netlist_entries.proofs.react_file.Goals as goal

pub returns : goal.returns
returns c =
    once_of (NetReactedMany (read_file c.args.s.now)) c.run_once.ensures (λ events signals states signals' states' course h. search rules)
