-- The promise, whole: the three demands, each sentence before the fields that carry it, over the contracts of the public entries.
-- `promise` (proofs/Promise) proves it and assumes nothing. A sheet, a netlist file and a lent slice are lists of numbers, a state and an
-- event are sets (`has`, bits/specs).
use Rattle.std.specs.Prelude.{◌≡◌, true, ◌&&◌, List, [], ◌∷◌, map, ℕ, ◌^◌, ◌<◌, ◌≤◌, length}
use Rattle.std.proofs.lemmas.List.Edits.{sets}
use Rattle.number.specs.declared.CellNo.{CellNo}
use Rattle.number.specs.declared.Fault.{Fault}
use Rattle.number.specs.declared.Refusal.TheVariants.{Cycle, Buffer}
use Rattle.number.specs.declared.SignalNo.{SignalNo}
use Rattle.number.specs.Counts.{of_cell}
use Rattle.number.specs.Refusals.{fault}
use Rattle.bits.specs.Bits.{has, signals_in, width, sets_in, column_of, bits_of}
use Rattle.sheet.specs.Stmt.{size}
use Rattle.sheet.specs.Read.{Sheet, sheet, faulty}
use Rattle.rules.specs.Rules.{Signals}
use Rattle.rules.specs.States.{react as reaction, next_state, Agrees}
use Rattle.cells.specs.Words.{word}
use Rattle.builder.specs.Netlist.{sheet_netlist, sheet_file}
use Rattle.order.specs.Paths.{OnCycle, Lowest}
use Rattle.run.specs.Words.{is_output, event_ok}
use Rattle.run.specs.Many.{last_state, events_ok}
use Rattle.files.specs.File.{file_bytes}
use Rattle.files.specs.Read.{read_file}
use Rattle.netlists.specs.Words.{judge_cells}
use Rattle.compiler.specs.Check.{judge, Accepted}
use Rattle.berry.specs.Modules.{Faithful, Chain, body_in}
use Rattle.verdicts.specs.declared.Answer.{Answer}
use Rattle.verdicts.specs.declared.Listing.{Listing}
use Rattle.verdicts.specs.declared.Reaction.{Reaction}
use Rattle.verdicts.specs.Answers.{refusal, acceptance, with_signals, with_state, reaction_of}
use Rattle.verdicts.specs.Runs.{Asked, Told, has_room, Once}
use Rattle.sheet_entries.specs.Sheets.{Checked, Fitting, ReactedMany}
use Rattle.netlist_entries.specs.Netlists.{NetChecked, NetReactedMany}
use Rattle.netlist_entries.specs.Files.{NetWritten}
use Rattle.netlist_entries.specs.Cells.{NetListed}
use Rattle.compile_entries.specs.Compile.{Written, Listed}
use Rattle.cover_entries.specs.Covers.{CoverChecked}

-- The entries by name: the contract of each, its arguments before its answer and, last, what it leaves in a lent slice.
abbrev pub check : List ℕ → Answer → Type 0
check s r = Checked s r

abbrev pub compile : List ℕ → List ℕ → Answer → List ℕ → Type 0
compile s buffer r left = Written s r buffer left

abbrev pub compile_cells : List ℕ → List ℕ → Listing → List ℕ → Type 0
compile_cells s words r left = Listed s r words left

abbrev pub fits : List ℕ → ℕ → Answer → Type 0
fits s state r = Fitting s state r

abbrev pub react : List ℕ → ℕ → ℕ → Reaction → Type 0
react s state event r = Once (ReactedMany s) state event r

abbrev pub react_many : List ℕ → Asked → Told → Type 0
react_many s ask told = ReactedMany s ask told

abbrev pub check_file : List ℕ → Answer → Type 0
check_file file r = NetChecked (read_file file) r

abbrev pub read_file_entry : List ℕ → List ℕ → Listing → List ℕ → Type 0
read_file_entry file words r left = NetListed (read_file file) r words left

abbrev pub react_file : List ℕ → ℕ → ℕ → Reaction → Type 0
react_file file state event r = Once (NetReactedMany (read_file file)) state event r

abbrev pub react_file_many : List ℕ → Asked → Told → Type 0
react_file_many file ask told = NetReactedMany (read_file file) ask told

abbrev pub check_cells : ℕ → ℕ → List ℕ → Answer → Type 0
check_cells I O words r = NetChecked (judge_cells I O words) r

abbrev pub write_cells : ℕ → ℕ → List ℕ → List ℕ → Answer → List ℕ → Type 0
write_cells I O words buffer r left = NetWritten (judge_cells I O words) r buffer left

abbrev pub react_cells : ℕ → ℕ → List ℕ → ℕ → ℕ → Reaction → Type 0
react_cells I O words state event r = Once (NetReactedMany (judge_cells I O words)) state event r

abbrev pub react_cells_many : ℕ → ℕ → List ℕ → Asked → Told → Type 0
react_cells_many I O words ask told = NetReactedMany (judge_cells I O words) ask told

abbrev pub cover_file : List ℕ → List ℕ → Answer → Type 0
cover_file file cover r = CoverChecked (read_file file) cover r

abbrev pub cover_cells : ℕ → ℕ → List ℕ → List ℕ → Answer → Type 0
cover_cells I O words cover r = CoverChecked (judge_cells I O words) cover r

-- What an entry answers: its contract allows this answer, and no other.
pub record Answers {A : Type 0} (entry : A → Type 0) (answer : A) : Type 0 where
  pub allowed : entry answer
  pub alone : (other : A) → entry other → other ≡ answer

-- .. and leaves in the slice that it was lent
pub record Leaves {A : Type 0} (entry : A → List ℕ → Type 0) (answer : A) (slice : List ℕ) : Type 0 where
  pub allowed : entry answer slice
  pub alone : (other : A) (left : List ℕ) → entry other left → (other ≡ answer) × (left ≡ slice)

-- the file of a sheet's netlist, "the one the paper's equations build", and its cells as words
abbrev pub file_of : Sheet → List ℕ
file_of w = file_bytes (sheet_file w)

abbrev pub cells_of : Sheet → List ℕ
cells_of w = map word (sheet_netlist w)

-- an acceptance without statements, which a netlist does not have
abbrev pub of_netlist : Answer → Answer
of_netlist a = acceptance 0 a.cells

-- Demand 1. "Every public entry answers, or refuses with the number and place the paper fixes": for every argument the contract allows
-- one answer.
pub record Answered {A : Type 0} (entry : A → Type 0) : Type 0 where
  pub answer : A
  pub is : Answers entry answer

-- "and after a refusal a lent buffer holds what it held."
pub record Lent {A : Type 0} (number : A → ℕ) (entry : A → List ℕ → Type 0) (slice : List ℕ) : Type 0 where
  pub answer : A
  pub left : List ℕ
  pub is : Leaves entry answer left
  pub kept : (number answer ≡ 0 → ⊥) → left ≡ slice

-- .. and so do the two slices that a run is lent; "any refusal returns the state handed in"
pub record LentTwo (entry : Asked → Told → Type 0) (ask : Asked) : Type 0 where
  pub told : Told
  pub is : Answers (entry ask) told
  pub signals : (told.course.number ≡ 0 → ⊥) → told.signals ≡ ask.signals
  pub states : (told.course.number ≡ 0 → ⊥) → told.states ≡ ask.states
  pub state : (told.course.number ≡ 0 → ⊥) → told.course.state ≡ bits_of ask.state

-- of a reaction: "a refusal's .. outputs are 0", and "any refusal returns the state handed in"
pub record Returned (entry : Reaction → Type 0) (state : ℕ) : Type 0 where
  pub answer : Reaction
  pub is : Answers entry answer
  pub signals : (answer.number ≡ 0 → ⊥) → answer.signals ≡ bits_of 0
  pub state_back : (answer.number ≡ 0 → ⊥) → answer.state ≡ bits_of state

-- "Sheets, netlist files, events and states may hold anything. .. No caller tests beforehand.": all arguments, a state being as wide as
-- one. The entries `read`, `rest` and `Table::reorder` are not among them: their contracts are equations.
pub record Entries : Type 0 where
  pub of_check : (s : List ℕ) → Answered (check s)
  pub of_fits : (s : List ℕ) (state : ℕ) → Answered (fits s state)
  pub of_compile : (s buffer : List ℕ) → Lent (λ r. r.number) (compile s buffer) buffer
  pub of_compile_cells : (s words : List ℕ) → Lent (λ r. r.number) (compile_cells s words) words
  pub of_react : (s : List ℕ) (state event : ℕ) → state < 2 ^ width → Returned (react s state event) state
  pub of_react_many : (s : List ℕ) (ask : Asked) → ask.state < 2 ^ width → LentTwo (react_many s) ask
  pub of_check_file : (file : List ℕ) → Answered (check_file file)
  pub of_read_file : (file words : List ℕ) → Lent (λ r. r.number) (read_file_entry file words) words
  pub of_react_file : (file : List ℕ) (state event : ℕ) → Returned (react_file file state event) state
  pub of_react_file_many : (file : List ℕ) (ask : Asked) → LentTwo (react_file_many file) ask
  pub of_check_cells : (I O : ℕ) (words : List ℕ) → Answered (check_cells I O words)
  pub of_write_cells : (I O : ℕ) (words buffer : List ℕ) → Lent (λ r. r.number) (write_cells I O words buffer) buffer
  pub of_react_cells : (I O : ℕ) (words : List ℕ) (state event : ℕ) → Returned (react_cells I O words state event) state
  pub of_react_cells_many : (I O : ℕ) (words : List ℕ) (ask : Asked) → LentTwo (react_cells_many I O words) ask
  pub of_cover_file : (file cover : List ℕ) → Answered (cover_file file cover)
  pub of_cover_cells : (I O : ℕ) (words cover : List ℕ) → Answered (cover_cells I O words cover)

-- Demand 2. "A program is refused only for the faults the paper lists.": the faults 1 to 11, which `judge` finds, then a cycle; nothing
-- else.
pub record Judged (s : List ℕ) : Type 0 where
  pub answer : Answer
  pub is : Answers (check s) answer
  pub faulty_sheet : (f : Fault) → judge s ≡ faulty f → answer ≡ refusal f
  pub cyclic : (w : Sheet) → judge s ≡ sheet w → (x : CellNo) → Lowest (sheet_netlist w) x → answer ≡ refusal (fault Cycle (of_cell x))
  pub free : (w : Sheet) → judge s ≡ sheet w → ((x : CellNo) → OnCycle (sheet_netlist w) x → ⊥)
      → answer ≡ acceptance (size w.root) (length (sheet_netlist w))

-- Demands 2 and 3, of one reaction: the sheet s, which reads as w and is accepted with the answer a, in a state that fits it, and an
-- event of its own inputs.
pub record Reacts (s : List ℕ) (w : Sheet) (a : Answer) (state event emissions outputs next : ℕ) : Type 0 where
  -- "exactly one set of present signals agrees with the rules."
  pub present : Signals
  pub agrees : Agrees (signals_in event) (has state) present w.root
  pub alone : (E : Signals) → Agrees (signals_in event) (has state) E w.root → (x : SignalNo) → E x ≡ present x
  -- "the interpreter gives the emitted signals and the halt set of Berry's behavioural rules": what `react` answers is the reaction under
  -- that set, and that is the one transition of 004's rules from what the state stands for.
  pub interpreter : Answers (react s state event) (reaction_of (with_state a next) emissions)
  pub emits : (x : SignalNo) → signals_in emissions x ≡ (reaction present (has state) w.root).emits x
  pub keeps : (b : ℕ) → has next b ≡ next_state (reaction present (has state) w.root) b
  pub faithful : Faithful w (has state) (signals_in event) (reaction present (has state) w.root)
  -- "The netlist, started with that state in its registers, gives that set's outputs and the rules' next state, which fits again."
  pub file : Answers (react_file (file_of w) state event) (reaction_of (with_state (of_netlist a) next) outputs)
  pub cells : Answers (react_cells w.inputs w.outputs (cells_of w) state event) (reaction_of (with_state (of_netlist a) next) outputs)
  pub shows : (x : SignalNo) → signals_in outputs x ≡ (is_output w.inputs w.outputs x && present x)
  pub again : Answers (fits s next) a
  -- the sets that are answered have no bit past their width
  pub emissions_small : emissions < 2 ^ width
  pub outputs_small : outputs < 2 ^ width
  pub next_small : next < 2 ^ width

pub record HasReaction (s : List ℕ) (w : Sheet) (a : Answer) (state event : ℕ) : Type 0 where
  pub emissions : ℕ
  pub outputs : ℕ
  pub next : ℕ
  pub is : Reacts s w a state event emissions outputs next

-- one event after the other, each from the state after the one before: the emissions, the outputs and the states
pub data Clocks (s : List ℕ) (w : Sheet) (a : Answer) : ℕ → List ℕ → List ℕ → List ℕ → List ℕ → Type 0 where
  ended : {state : ℕ} → Clocks s w a state [] [] [] []
  goes : {state event emissions outputs next : ℕ} {events es os ns : List ℕ} → Reacts s w a state event emissions outputs next
      → Clocks s w a next events es os ns
      → Clocks s w a state (event ∷ events) (emissions ∷ es) (outputs ∷ os) (next ∷ ns)

-- what is asked of a run over many events, and what it answers: signals and states in the first places of the lent slices
abbrev pub asking : ℕ → List ℕ → List ℕ → List ℕ → Asked
asking state events signals states = record { state = state; events = events; signals = signals; states = states }

abbrev pub telling : Answer → Asked → List ℕ → List ℕ → Told
telling a ask shown passed =
    record {
      course = with_state a (last_state ask.state passed);
      signals = sets ask.signals 0 (column_of shown);
      states = sets ask.states 0 (column_of passed);
    }

-- "So from a fresh start, for any run of events, netlist and program agree at each clock.": from any state that fits
pub record Runs (s : List ℕ) (w : Sheet) (a : Answer) (state : ℕ) (events : List ℕ) : Type 0 where
  pub emissions : List ℕ
  pub outputs : List ℕ
  pub states : List ℕ
  -- one by one
  pub clocks : Clocks s w a state (sets_in events) emissions outputs states
  -- many at once, into slices that are long enough
  pub interpreter : (signals passed : List ℕ) → let ask : Asked = asking state events signals passed in
      has_room ask ≡ true → Answers (react_many s ask) (telling a ask emissions states)
  pub file : (signals passed : List ℕ) → let ask : Asked = asking state events signals passed in
      has_room ask ≡ true → Answers (react_file_many (file_of w) ask) (telling (of_netlist a) ask outputs states)
  pub cells : (signals passed : List ℕ) → let ask : Asked = asking state events signals passed in
      has_room ask ≡ true → Answers (react_cells_many w.inputs w.outputs (cells_of w) ask) (telling (of_netlist a) ask outputs states)
  -- the outputs are those of 004's chain of transitions from what the state stands for
  pub chain : Chain (body_in (has state) w.root) (map signals_in (sets_in events)) (map signals_in outputs)

-- Demands 2 and 3, of a sheet s that `check` accepts with the answer a.
pub record Accepts (s : List ℕ) (a : Answer) : Type 0 where
  pub read : Sheet
  pub accepts : Accepted s read
  -- "the netlist is the one the paper's equations build": `compile` writes its file wherever there is room, and names the length where
  -- there is not.
  pub compiled : (buffer : List ℕ) → length (file_of read) ≤ length buffer → Leaves (compile s buffer) a (sets buffer 0 (file_of read))
  pub no_room : (buffer : List ℕ) → length buffer < length (file_of read)
      → Leaves (compile s buffer) (refusal (fault Buffer (length (file_of read)))) buffer
  pub handed : (words : List ℕ) → length (cells_of read) ≤ length words
      → Leaves (compile_cells s words) (with_signals a read.inputs read.outputs) (sets words 0 (cells_of read))
  -- "A netlist written to a file reads back as the same cells.", which are written to the same file again.
  pub checked : Answers (check_file (file_of read)) (of_netlist a)
  pub back : (words : List ℕ) → length (cells_of read) ≤ length words
      → Leaves (read_file_entry (file_of read) words) (with_signals (of_netlist a) read.inputs read.outputs) (sets words 0 (cells_of read))
  pub again : (buffer : List ℕ) → length (file_of read) ≤ length buffer
      → Leaves (write_cells read.inputs read.outputs (cells_of read) buffer) (of_netlist a) (sets buffer 0 (file_of read))
  -- "For every accepted program, every state that fits it and every event of its own inputs"; and "from a fresh start"
  pub fresh : Answers (fits s 0) a
  pub reacts : (state : ℕ) → state < 2 ^ width → fits s state a → (event : ℕ) → event_ok read.inputs event ≡ true
      → HasReaction s read a state event
  pub runs : (state : ℕ) → state < 2 ^ width → fits s state a → (events : List ℕ) → events_ok read.inputs events ≡ true
      → Runs s read a state events

-- "A netlist written to a file reads back as the same cells.", of all I, O and words that `check_cells` accepts with the answer a: word
-- for word.
pub record ReadBack (I O : ℕ) (words : List ℕ) (a : Answer) : Type 0 where
  pub file : List ℕ
  pub written : (buffer : List ℕ) → length file ≤ length buffer → Leaves (write_cells I O words buffer) a (sets buffer 0 file)
  pub no_room : (buffer : List ℕ) → length buffer < length file
      → Leaves (write_cells I O words buffer) (refusal (fault Buffer (length file))) buffer
  pub back : (slice : List ℕ) → length words ≤ length slice → Leaves (read_file_entry file slice) (with_signals a I O) (sets slice 0 words)

-- The promise.
pub record Promise : Type 0 where
  pub entries : Entries
  pub judged : (s : List ℕ) → Judged s
  pub accepted : (s : List ℕ) (a : Answer) → check s a → a.number ≡ 0 → Accepts s a
  pub read_back : (I O : ℕ) (words : List ℕ) (a : Answer) → check_cells I O words a → a.number ≡ 0 → ReadBack I O words a
