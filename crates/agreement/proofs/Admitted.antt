-- What the whole check's acceptance says of a sheet: all that the theorem uses of it.
use mathlib.Core.Path.{◌≡◌}
use mathlib.Core.List.{List}
use Prim.Native.Nat.{ℕ}
use Rattle.number.specs.Counts.{stmt_no}
use Rattle.sheet.specs.Read.{Sheet}
use Rattle.sheet.specs.Form.{Proper}
use Rattle.sheet.proofs.ProperRead.{proper}
use Rattle.sets.specs.Faults.{instant}
use Rattle.builder.specs.Netlist.{sheet_netlist}
use Rattle.order.specs.Paths.{Ordered}
use Rattle.compiler.specs.Check.{Accepted, accepted}
use Rattle.compiler.proofs.Passing.{judged_read}
use Rattle.agreement.proofs.Restarts.{NoRestart, no_restart}
use Rattle.std.specs.Prelude.{None}

pub record Admitted (w : Sheet) : Type 0 where
  pub proper : Proper w.inputs w.outputs w.root
  pub no_instant : instant (stmt_no 0) w.root ≡ None
  pub no_twice : NoRestart w.root
  pub order : List ℕ
  pub ordered : Ordered (sheet_netlist w) order

pub admitted : {s : List ℕ} {w : Sheet} → Accepted s w → Admitted w
admitted {s} {w} (accepted order e o) =
    let r = judged_read {s = s} e in
    record {
      proper = proper s w r.read;
      no_instant = r.passes.no_instant;
      no_twice = no_restart (stmt_no 0) w.root r.passes.no_twice;
      order = order;
      ordered = o;
    }
