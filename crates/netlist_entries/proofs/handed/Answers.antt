-- BUFFER where the slice is too short; otherwise the words, with the counts.
use Rattle.netlist_entries.proofs.CellEntries.{copied_front, handed_short, handed_all}
use Rattle.netlist_entries.proofs.handed.Goals as goal

pub returns-then-words-count : goal.returns-then-words-count
returns-then-words-count c =
    rw (c.with_signals.ensures, c.refusal.ensures, c.at.ensures) (handed_short c.requires.0 c.if-words-count.true)

pub returns : goal.returns
returns c =
    let copied = copied_front c.args.words.now c.if-words-count.false c.copy_from_slice.ensures.after in
    rw (c.with_signals-2.ensures, c.acceptance.ensures) (handed_all c.requires.0 c.if-words-count.false copied)
