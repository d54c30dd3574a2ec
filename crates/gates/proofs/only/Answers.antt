-- `only` meets its contract: one store into a row of low.
use mathlib.Core.Path.{◌∙◌, ap}
use lib.ListN.{set, replicate}
use Rattle.number.specs.declared.CellNo.{CellNo}
use Rattle.limits.specs.Limits.{max_codes}
use Rattle.gates.proofs.OrRow.{only_is}
use Rattle.gates.proofs.only.Goals as goal

pub returns : goal.returns
returns c =
    let args = c.args in
    ap (λ (z : CellNo). set (replicate max_codes z) args.k args.g) c.low-a.ensures ∙ only_is args.k args.g c.requires
