-- There is room for the number.
use mathlib.Core.Path.{refl}
use Rattle.netlists.proofs.Laying.{number_lays}
use Rattle.netlists.proofs.writer.Writer.number.Goals as goal

pub returns : goal.returns
returns c = number_lays c.requires.0 c.requires.1 refl c.write_number-self.ensures
