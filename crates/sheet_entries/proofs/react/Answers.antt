-- A run over one event.
use borrow.Author.Rules.{rules}
use Rattle.verdicts.proofs.Running.{once_of}
use Rattle.sheet_entries.specs.Sheets.{ReactedMany}
use Rattle.sheet_entries.proofs.react.Goals as goal

pub returns : goal.returns
returns c = once_of (ReactedMany c.args.s.now) c.run_once.ensures (λ events signals states signals' states' course h. search rules)
