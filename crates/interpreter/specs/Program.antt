-- Not to be believed: what the code keeps to; the proofs check it.
-- A program in columns: which sheet it stands for, and what its reactions answer. The entries' own records say the same of the sheet's bytes.
use Rattle.std.specs.Prelude.{◌≡◌, true, List, ℕ, length}
use Rattle.number.specs.declared.HaltNo.{HaltNo}
use Rattle.number.specs.Counts.{halt_no}
use Rattle.bits.specs.Bits.{has, whole, sets_in}
use Rattle.sheet.specs.declared.Counts.{Counts}
use Rattle.sheet.specs.Stmt.{Stmt, size}
use Rattle.sheet.specs.Read.{Sheet}
use Rattle.sheet.specs.Rows.{Holds}
use Rattle.sheet.specs.Answer.{counts_of}
use Rattle.sets.specs.Words.{Kept}
use Rattle.rules.specs.States.{fits}
use Rattle.rules.specs.Words.{root, Fitted}
use Rattle.builder.specs.Netlist.{sheet_netlist}
use Rattle.run.specs.Words.{event_ok}
use Rattle.run.specs.Many.{each, events_ok, Room, Ran}
use Rattle.compiler.specs.Check.{Accepted}
use Rattle.verdicts.specs.declared.Reaction.{Reaction}
use Rattle.verdicts.specs.Answers.{passes, verdict, acceptance}
use Rattle.verdicts.specs.Runs.{Asked, Told, needed, has_room, Runs, Once}
use Rattle.interpreter.specs.declared.Program.{Program}
use Rattle.interpreter.specs.Interpret.{Moment}
use Rattle.interpreter.specs.Tested.{asks, Covers, Tested}
use Rattle.sets.specs.declared.Entry.{Entry}
use Rattle.sheet.specs.declared.Row.{Row}

-- the program p, with the columns of its rows and of its static sets, stands for the sheet w, which was accepted
pub record PreparedAs (p : Program) (rows : List Row) (statics : List Entry) (w : Sheet) : Type 0 where
  pub bytes : List ℕ
  pub accepts : Accepted bytes w
  pub counts : p.counts ≡ counts_of w
  pub count : p.cells ≡ length (sheet_netlist w)
  pub holds : Holds rows root (halt_no 0) w.root
  pub kept : Kept statics root w.root
  pub covers : Covers (whole p.asks) (asks w.root)

pub record Prepared (p : Program) (rows : List Row) (statics : List Entry) : Type 0 where
  pub read : Sheet
  pub is : PreparedAs p rows statics read

-- what is made ready of rows with these counts and so many cells
pub record Prepares (rows : List Row) (c : Counts) (n : ℕ) (p : Program) : Type 0 where
  pub counts : p.counts ≡ c
  pub count : p.cells ≡ n
  pub tested : Tested rows root (whole p.asks)

-- the rows of an accepted sheet, what it asks for, a state that fits it, events of its own inputs, and slices with an entry for each
pub record MayRun (rows : List Row) (asked state : ℕ) (events emissions states : List ℕ) : Type 0 where
  pub bytes : List ℕ
  pub read : Sheet
  pub accepts : Accepted bytes read
  pub holds : Holds rows root (halt_no 0) read.root
  pub covers : Covers asked (asks read.root)
  pub fit : fits (has state) read.root ≡ true
  pub own : each (event_ok read.inputs) (sets_in events) ≡ true
  pub room : Room events emissions states

-- a moment of the rules for each event, and the last state fits
pub record RanRows (rows : List Row) (state : ℕ) (events emissions emissions' states states' : List ℕ) (last : ℕ) : Type 0 where
  pub ran : (a : HaltNo) (t : Stmt) → Holds rows root a t → Ran (Moment t) state events emissions emissions' states states' last
  pub fit : Fitted rows last true

-- the reactions of the accepted sheet w, after the order of faults
abbrev pub AcceptedRuns : Sheet → Asked → Told → Type 0
AcceptedRuns w ask told =
    Runs (Moment w.root) (acceptance (size w.root) (length (sheet_netlist w)))
    (verdict passes (events_ok w.inputs ask.events) (fits (has ask.state) w.root) (has_room ask) (needed ask)) ask told

-- those of the program, for the sheet that it stands for
pub record ProgramRuns (p : Program) (rows : List Row) (statics : List Entry) (ask : Asked) (told : Told) : Type 0 where
  pub runs : (w : Sheet) → PreparedAs p rows statics w → AcceptedRuns w ask told

pub record ProgramReacts (p : Program) (rows : List Row) (statics : List Entry) (state event : ℕ) (r : Reaction) : Type 0 where
  pub reacts : (w : Sheet) → PreparedAs p rows statics w → Once (AcceptedRuns w) state event r
