-- The promise of covers, to be read after Promise: "Check our covers.", each sentence before the field that carries it, over the contracts
-- of the public entries. `covered` (proofs/Covered) proves it and assumes nothing. A cover is a list of numbers; which are right is
-- `RightCover` (covers).
use Rattle.std.specs.Prelude.{◌≡◌, Bool, true, List, ℕ, ◌^◌, ◌<◌, get_or}
use Rattle.number.specs.declared.CellNo.{CellNo}
use Rattle.bits.specs.Bits.{has, signals_in, width, sets_in}
use Rattle.sheet.specs.Read.{Sheet}
use Rattle.cells.specs.Netlist.{Netlist}
use Rattle.builder.specs.Netlist.{sheet_file}
use Rattle.run.specs.Many.{events_ok}
use Rattle.files.specs.Read.{FileOutcome, netlist, read_file}
use Rattle.netlists.specs.Words.{judge_cells}
use Rattle.covers.specs.Covers.{Carried, RightCover}
use Rattle.giving.specs.Giving.{Gives, CoverClock, CoverRun}
use Rattle.giving.specs.EachGate.{EachGate}
use Rattle.giving.specs.Reordering.{Reordered}
use Rattle.verdicts.specs.declared.Answer.{Answer}
use Rattle.verdicts.specs.declared.Reaction.{Reaction}
use Rattle.verdicts.specs.Answers.{with_state, reaction_of}
use Rattle.verdicts.specs.Runs.{Asked, Told, Once}
use Rattle.netlist_entries.specs.Netlists.{NetChecked, NetReactedMany}
use Rattle.cover_entries.specs.Covers.{CoverChecked}
use Rattle.krankovel.specs.Promise.{check, cover_file, fits, file_of, Answers, telling, Runs, Accepts}

-- The entries that take a netlist, in either form: where `found` is what reading a file finds they are `check_file`, `cover_file`,
-- `react_file` and `react_file_many`, and where it is what judging I, O and words finds `check_cells`, `cover_cells`, `react_cells` and
-- `react_cells_many`.
abbrev pub check_net : FileOutcome → Answer → Type 0
check_net found r = NetChecked found r

abbrev pub cover_net : FileOutcome → List ℕ → Answer → Type 0
cover_net found cover r = CoverChecked found cover r

abbrev pub react_net : FileOutcome → ℕ → ℕ → Reaction → Type 0
react_net found state event r = Once (NetReactedMany found) state event r

abbrev pub react_net_many : FileOutcome → Asked → Told → Type 0
react_net_many found ask told = NetReactedMany found ask told

-- the netlist w is accepted with the answer a
pub record AcceptedNet (found : FileOutcome) (w : Netlist) (a : Answer) : Type 0 where
  pub is : found ≡ netlist w
  pub checked : check_net found a
  pub number : a.number ≡ 0

-- "An accepted cover gives the netlist's outputs and next state for every event and state.": the netlist w, accepted with the answer a, and
-- the reaction r, an acceptance, to an event in a state
pub record GivesReaction (w : Netlist) (cover : List ℕ) (a : Answer) (state event : ℕ) (r : Reaction) : Type 0 where
  pub outputs : ℕ
  pub next : ℕ
  pub clock : CoverClock w cover state event outputs next
  -- "there is exactly one such valuation of tables' cells, inputs, registers and constants for each event and state"
  pub alone : (v : CellNo → Bool) → Gives (signals_in event) (has state) w.cells cover v → (x : CellNo) → Carried w.cells cover x
      → v x ≡ clock.values x
  pub single : (o n : ℕ) → CoverClock w cover state event o n → (o ≡ outputs) × (n ≡ next)
  -- "and outputs and next state are the netlist's; over the entries: those of `react_file` on the same file."
  pub same : r ≡ reaction_of (with_state a next) outputs
  -- the sets have no bit past their width
  pub outputs_small : outputs < 2 ^ width
  pub next_small : next < 2 ^ width

-- .. "for any run": at each clock, and the last state
pub record GivesRun (w : Netlist) (cover : List ℕ) (a : Answer) (ask : Asked) (told : Told) : Type 0 where
  pub outputs : List ℕ
  pub states : List ℕ
  pub clocks : CoverRun w cover ask.state (sets_in ask.events) outputs states
  pub single : (os ns : List ℕ) → CoverRun w cover ask.state (sets_in ask.events) os ns → (os ≡ outputs) × (ns ≡ states)
  pub same : told ≡ telling a ask outputs states
  pub outputs_small : (i : ℕ) → get_or outputs i 0 < 2 ^ width
  pub states_small : (i : ℕ) → get_or states i 0 < 2 ^ width

-- a cover that is accepted with the answer a
pub record Covers (found : FileOutcome) (cover : List ℕ) (a : Answer) : Type 0 where
  pub net : Netlist
  pub accepted : AcceptedNet found net a
  pub right : RightCover net cover
  pub reacts : (state event : ℕ) → event < 2 ^ width → (r : Reaction) → react_net found state event r → r.number ≡ 0
      → GivesReaction net cover a state event r
  pub runs : (ask : Asked) (told : Told) → react_net_many found ask told → told.course.number ≡ 0 → GivesRun net cover a ask told

-- covers of one netlist
pub record OfNetlist (found : FileOutcome) : Type 0 where
  -- "Accept a cover exactly if": the netlist is accepted and the cover is right; the answer is the netlist's.
  pub only : (cover : List ℕ) (a : Answer) → cover_net found cover a → a.number ≡ 0 → Covers found cover a
  pub always : (cover : List ℕ) (w : Netlist) (a : Answer) → AcceptedNet found w a → RightCover w cover → Answers (cover_net found cover) a
  -- "One table for every gate is always accepted."
  pub each_gate : (cover : List ℕ) (w : Netlist) (a : Answer) → AcceptedNet found w a → EachGate w.cells cover
      → Answers (cover_net found cover) a
  -- With [6], a cover with any of its tables reordered is answered as it was: so it is accepted if and only if it was.
  pub reordered : {cover cover' : List ℕ} → Reordered cover cover' → (a : Answer) → cover_net found cover a → cover_net found cover' a
  pub put_back : {cover cover' : List ℕ} → Reordered cover cover' → (a : Answer) → cover_net found cover' a → cover_net found cover a

-- A run of the sheet s, read as w and accepted with the answer a, by the promise, and by a cover: at each clock the cover gives the outputs
-- and the next state that `react`, `react_file` and 004's chain of transitions give.
pub record CoveredRun (s : List ℕ) (w : Sheet) (a : Answer) (cover : List ℕ) (state : ℕ) (events : List ℕ) : Type 0 where
  pub run : Runs s w a state events
  pub clocks : CoverRun (sheet_file w) cover state (sets_in events) run.outputs run.states
  pub single : (os ns : List ℕ) → CoverRun (sheet_file w) cover state (sets_in events) os ns → (os ≡ run.outputs) × (ns ≡ run.states)

-- "an accepted program, its file, an accepted cover of it, the same outputs and states at each clock", from every state that fits
pub record OfProgram (s : List ℕ) (a : Answer) : Type 0 where
  pub accepts : Accepts s a
  pub runs : (cover : List ℕ) (b : Answer) → cover_file (file_of accepts.read) cover b → b.number ≡ 0
      → (state : ℕ) → state < 2 ^ width → fits s state a → (events : List ℕ) → events_ok accepts.read.inputs events ≡ true
      → CoveredRun s accepts.read a cover state events

-- The promise of covers.
pub record Covered : Type 0 where
  pub of_files : (file : List ℕ) → OfNetlist (read_file file)
  pub of_cells : (I O : ℕ) (words : List ℕ) → OfNetlist (judge_cells I O words)
  pub of_programs : (s : List ℕ) (a : Answer) → check s a → a.number ≡ 0 → OfProgram s a
