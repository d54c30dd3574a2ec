-- No bit of a halt from this one on is set.
use Rattle.rules.proofs.no_halts_from.Goals as goal

pub returns : goal.returns
returns c =
    rw (c.halt_bit.ensures, c.number.ensures) at c.none_in.ensures
