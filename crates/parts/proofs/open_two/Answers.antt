-- A present's two gates; the other arms make a cell at most.
use Rattle.parts.proofs.Laws.{opens_present}
use Rattle.parts.proofs.open_two.Goals as goal

pub returns-in-Present : goal.returns-in-Present
returns-in-Present c =
    let yes = rw c.signal_cell.ensures at c.gate-go.ensures in
    let not = rw c.signal_cell-in-Present.ensures at c.gate-other.ensures in
    rw c.in-Present.is (opens_present _ c.args.w yes not)
