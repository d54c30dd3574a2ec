-- Every netlist has an answer: every file's bytes, and all I, O and words.
use mathlib.Core.Path.{◌≡◌, refl}
use mathlib.Core.List.{List}
use Prim.Native.Nat.{ℕ}
use native.Mathlib.Omega.{arith}
use Rattle.number.specs.declared.Refusal.TheVariants.{Cycle as CycleFault}
use Rattle.number.specs.Counts.{of_cell}
use Rattle.number.specs.Refusals.{fault}
use Rattle.cells.specs.Netlist.{Netlist, WellFormed}
use Rattle.cells.proofs.Fitting.{formed_closed}
use Rattle.order.proofs.Exists as ordering
use Rattle.files.specs.Read.{FileOutcome, netlist, faulty, read_file}
use Rattle.files.proofs.Sound.{read_well_formed}
use Rattle.netlists.specs.Words.{judge_cells}
use Rattle.netlists.specs.Check.{NetChecks, refused, cyclic, accepted}
use Rattle.netlists.proofs.Words.{cells_right}
use Rattle.order.specs.declared.Cycle.{Cycle}
use Rattle.std.specs.Prelude.{Result, Ok, Err}

pub record Answered (found : FileOutcome) : Type 0 where
  pub outcome : FileOutcome
  pub checks : NetChecks found outcome

-- what reading or judging finds is well formed, so that its cells have an order, or a lowest cell on a cycle
answered : (found : FileOutcome) → ((w : Netlist) → found ≡ netlist w → WellFormed w) → Answered found
answered found formed = go found refl
  where
    by_order : (w : Netlist) → found ≡ netlist w → (a : ordering.Answered w.cells) (r : Result (Unit {0}) Cycle) → a.answer ≡ r → Answered found
    by_order w e a (Ok tt) is = record { outcome = netlist w; checks = accepted a.order e (a.is.found is) }
    by_order w e a (Err k) is =
        record { outcome = faulty (fault CycleFault (of_cell k.lowest)); checks = cyclic e (a.is.cycle k is) }

    go : (o : FileOutcome) → found ≡ o → Answered found
    go (faulty f) e = record { outcome = faulty f; checks = refused e }
    go (netlist w) e =
        let ok = formed w e in
        let a = ordering.answered (formed_closed ok) (omega (arith, ok.few)) in
        by_order w e a a.answer refl

pub file_answered : (s : List ℕ) → Answered (read_file s)
file_answered s = answered (read_file s) (λ w e. read_well_formed s e)

pub cells_answered : (I O : ℕ) (words : List ℕ) → Answered (judge_cells I O words)
cells_answered I O words = answered (judge_cells I O words) (λ w e. (cells_right I O words e).sound)
