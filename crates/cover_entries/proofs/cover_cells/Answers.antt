-- The netlist's fault answers; otherwise its cover is judged.
use Rattle.netlists.specs.Words.{judge_cells}
use Rattle.netlists.proofs.Running.{cells_ordered}
use Rattle.netlist_entries.proofs.NetEntries.{net_refused, words_count}
use Rattle.cover_entries.proofs.Entries.{cover_refused, cover_words_checked, words_formed}
use Rattle.cover_entries.proofs.cover_cells.Goals as goal

pub judged-requires : goal.judged-requires
judged-requires c =
    let I = c.args.inputs in
    let O = c.args.outputs in
    let words = c.args.words.now in
    let did = rw c.in-Ok.is at c.check_cells.ensures in
    (words_formed I O words did, (_, cells_ordered I O words did), words_count I O words did)

pub returns-in-Err : goal.returns-in-Err
returns-in-Err c =
    let was = net_refused c.check_cells.ensures c.in-Err.is in
    rw c.refusal.ensures (cover_refused {found = judge_cells _ _ _} was)

pub returns-in-Ok : goal.returns-in-Ok
returns-in-Ok c =
    let did = rw c.in-Ok.is at c.check_cells.ensures in
    cover_words_checked c.args.inputs c.args.outputs c.args.words.now did c.judged.ensures
