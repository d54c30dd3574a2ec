-- "Sheets to try (marked P: proved)": P1 to P12 as one table, a row for each sheet, and a row of request 1: its bytes, and what the public entries answer of it.
use Rattle.std.specs.Prelude.{◌≡◌, true, List, [], ◌∷◌, ℕ, ◌≤◌, length}
use Rattle.std.proofs.lemmas.List.Edits.{sets}
use Rattle.bits.specs.Bits.{column_of}
use Rattle.verdicts.specs.declared.Answer.{Answer}
use Rattle.verdicts.specs.Answers.{acceptance}
use Rattle.verdicts.specs.Runs.{Asked, has_room}
use Rattle.krankovel.specs.Promise.{check, compile, fits, react_many, check_file, react_file_many, Answers, Leaves, of_netlist, asking}
use Rattle.krankovel.specs.Promise.{telling}

-- a state, and what `fits` answers of it
pub record Fit : Type 0 where
  pub state : ℕ
  pub answer : Answer

-- a run from a state over events: the emissions that the interpreter answers to each, the outputs that the netlist does, and the states
-- after each
pub record Run : Type 0 where
  pub state : ℕ
  pub events : List ℕ
  pub emissions : List ℕ
  pub outputs : List ℕ
  pub states : List ℕ

-- A row: the sheet, and what `check` answers of it, "number, place, statements, cells"; states, runs and the file, where something is said
-- of them.
pub record Case : Type 0 where
  pub bytes : List ℕ
  pub checked : Answer
  pub states : List Fit
  pub runs : List Run
  pub files : List (List ℕ)

-- P holds of each
pub data All {A : Type 0} (P : A → Type 0) : List A → Type 0 where
  none : All P []
  more : {x : A} {xs : List A} → P x → All P xs → All P (x ∷ xs)

-- A row holds: the entries answer what it says, and nothing else.
abbrev pub asked : Run → List ℕ → List ℕ → Asked
asked r signals states = asking r.state (column_of r.events) signals states

-- the netlist of a file runs so, in slices that are long enough, where a is what `check` answers of the sheet
abbrev pub FileRuns : Answer → Run → List ℕ → Type 0
FileRuns a r file = (signals states : List ℕ) → let ask : Asked = asked r signals states in
    has_room ask ≡ true → Answers (react_file_many file ask) (telling (of_netlist a) ask r.outputs r.states)

pub record RunHolds (s : List ℕ) (a : Answer) (files : List (List ℕ)) (r : Run) : Type 0 where
  pub interpreter : (signals states : List ℕ) → let ask : Asked = asked r signals states in
      has_room ask ≡ true → Answers (react_many s ask) (telling a ask r.emissions r.states)
  pub netlist : All (FileRuns a r) files

-- `compile` writes the file, and `check_file` accepts it
pub record FileHolds (s : List ℕ) (a : Answer) (file : List ℕ) : Type 0 where
  pub compiled : (buffer : List ℕ) → length file ≤ length buffer → Leaves (compile s buffer) a (sets buffer 0 file)
  pub checked : Answers (check_file file) (of_netlist a)

abbrev pub FitHolds : List ℕ → Fit → Type 0
FitHolds s f = Answers (fits s f.state) f.answer

pub record Holds (k : Case) : Type 0 where
  pub checked : Answers (check k.bytes) k.checked
  pub states : All (FitHolds k.bytes) k.states
  pub runs : All (RunHolds k.bytes k.checked k.files) k.runs
  pub files : All (FileHolds k.bytes k.checked) k.files

-- "a refusal's counts .. are 0"
abbrev answer : ℕ → ℕ → Answer
answer number place = record { number = number; place = place; statements = 0; cells = 0 }

abbrev refused : List ℕ → ℕ → ℕ → Case
refused s number place = record { bytes = s; checked = answer number place; states = []; runs = []; files = [] }

abbrev accepted : List ℕ → ℕ → ℕ → List Fit → List Run → List (List ℕ) → Case
accepted s statements cells states runs files =
    record { bytes = s; checked = acceptance statements cells; states = states; runs = runs; files = files }

-- the files of P4's second sheet, P10, P11, P12 and the sheet of the trace
abbrev p4_file : List ℕ
p4_file =
    0 ∷ 0 ∷ 8 ∷ 0 ∷ 1 ∷ 6 ∷ 1 ∷ 7 ∷ 2 ∷ 1 ∷ 2 ∷ 7 ∷ 14 ∷ 3 ∷ 0 ∷ 6 ∷ 7 ∷ 7 ∷ 8 ∷ 1 ∷ 5 ∷ 7 ∷ 14 ∷ 4 ∷ 6 ∷ []

abbrev p10_file : List ℕ
p10_file =
    2 ∷ 1 ∷ 35 ∷ 0 ∷ 1 ∷ 2 ∷ 1 ∷ 2 ∷ 2 ∷ 7 ∷ 14 ∷ 26 ∷ 0 ∷ 6 ∷ 1 ∷ 7 ∷ 2 ∷ 1 ∷ 5 ∷ 7 ∷ 14 ∷ 6 ∷ 32 ∷ 7 ∷ 14 ∷ 0 ∷ 0 ∷ 7 ∷ 2 ∷ 1
    ∷ 2 ∷ 6 ∷ 13 ∷ 7 ∷ 8 ∷ 9 ∷ 10 ∷ 7 ∷ 14 ∷ 7 ∷ 11 ∷ 7 ∷ 2 ∷ 12 ∷ 8 ∷ 7 ∷ 8 ∷ 1 ∷ 10 ∷ 7 ∷ 8 ∷ 14 ∷ 2 ∷ 7 ∷ 2 ∷ 1 ∷ 3 ∷ 6 ∷ 20
    ∷ 7 ∷ 8 ∷ 16 ∷ 17 ∷ 7 ∷ 14 ∷ 7 ∷ 18 ∷ 7 ∷ 2 ∷ 19 ∷ 8 ∷ 7 ∷ 8 ∷ 1 ∷ 17 ∷ 7 ∷ 8 ∷ 21 ∷ 3 ∷ 7 ∷ 14 ∷ 10 ∷ 17 ∷ 7 ∷ 14 ∷ 12 ∷ 19
    ∷ 7 ∷ 14 ∷ 15 ∷ 22 ∷ 7 ∷ 2 ∷ 25 ∷ 24 ∷ 7 ∷ 2 ∷ 1 ∷ 1 ∷ 6 ∷ 30 ∷ 7 ∷ 8 ∷ 27 ∷ 28 ∷ 7 ∷ 14 ∷ 26 ∷ 29 ∷ 7 ∷ 8 ∷ 1 ∷ 28 ∷ 7 ∷ 8
    ∷ 31 ∷ 1 ∷ 7 ∷ 14 ∷ 23 ∷ 28 ∷ 7 ∷ 14 ∷ 24 ∷ 30 ∷ []

abbrev p11_file : List ℕ
p11_file =
    0 ∷ 1 ∷ 7 ∷ 0 ∷ 1 ∷ 7 ∷ 14 ∷ 0 ∷ 0 ∷ 6 ∷ 1 ∷ 7 ∷ 2 ∷ 1 ∷ 3 ∷ 7 ∷ 14 ∷ 0 ∷ 6 ∷ 7 ∷ 14 ∷ 4 ∷ 4 ∷ []

abbrev p12_file : List ℕ
p12_file =
    0 ∷ 0 ∷ 15 ∷ 0 ∷ 1 ∷ 6 ∷ 1 ∷ 7 ∷ 2 ∷ 1 ∷ 2 ∷ 7 ∷ 14 ∷ 0 ∷ 0 ∷ 6 ∷ 8 ∷ 7 ∷ 8 ∷ 1 ∷ 5 ∷ 7 ∷ 14 ∷ 3 ∷ 6 ∷ 7 ∷ 2 ∷ 7 ∷ 4 ∷ 6 ∷ 12
    ∷ 7 ∷ 8 ∷ 1 ∷ 9 ∷ 7 ∷ 14 ∷ 3 ∷ 10 ∷ 7 ∷ 2 ∷ 11 ∷ 4 ∷ 7 ∷ 14 ∷ 5 ∷ 9 ∷ 7 ∷ 14 ∷ 7 ∷ 11 ∷ []

abbrev trace_file : List ℕ
trace_file =
    1 ∷ 1 ∷ 13 ∷ 0 ∷ 1 ∷ 2 ∷ 1 ∷ 7 ∷ 14 ∷ 12 ∷ 0 ∷ 6 ∷ 1 ∷ 7 ∷ 2 ∷ 1 ∷ 4 ∷ 7 ∷ 14 ∷ 5 ∷ 12 ∷ 7 ∷ 2 ∷ 1 ∷ 2 ∷ 6 ∷ 10 ∷ 7 ∷ 8 ∷ 7
    ∷ 8 ∷ 7 ∷ 14 ∷ 6 ∷ 9 ∷ 7 ∷ 8 ∷ 1 ∷ 8 ∷ 7 ∷ 8 ∷ 11 ∷ 2 ∷ []

-- .. and of request 1's
abbrev branches_file : List ℕ
branches_file =
    3 ∷ 2 ∷ 37 ∷ 0 ∷ 1 ∷ 2 ∷ 1 ∷ 2 ∷ 2 ∷ 2 ∷ 3 ∷ 7 ∷ 14 ∷ 23 ∷ 0 ∷ 7 ∷ 14 ∷ 30 ∷ 0 ∷ 6 ∷ 1 ∷ 7 ∷ 2 ∷ 1 ∷ 7 ∷ 7 ∷ 14 ∷ 8 ∷ 34 ∷ 7
    ∷ 2 ∷ 1 ∷ 2 ∷ 6 ∷ 13 ∷ 7 ∷ 8 ∷ 10 ∷ 11 ∷ 7 ∷ 14 ∷ 9 ∷ 12 ∷ 7 ∷ 8 ∷ 1 ∷ 11 ∷ 7 ∷ 8 ∷ 14 ∷ 2 ∷ 7 ∷ 14 ∷ 0 ∷ 0 ∷ 7 ∷ 2 ∷ 1 ∷ 3
    ∷ 6 ∷ 21 ∷ 7 ∷ 8 ∷ 17 ∷ 18 ∷ 7 ∷ 14 ∷ 15 ∷ 19 ∷ 7 ∷ 2 ∷ 20 ∷ 16 ∷ 7 ∷ 8 ∷ 1 ∷ 18 ∷ 7 ∷ 8 ∷ 22 ∷ 3 ∷ 7 ∷ 2 ∷ 1 ∷ 4 ∷ 6 ∷ 28
    ∷ 7 ∷ 8 ∷ 24 ∷ 25 ∷ 7 ∷ 14 ∷ 15 ∷ 26 ∷ 7 ∷ 2 ∷ 27 ∷ 16 ∷ 7 ∷ 8 ∷ 1 ∷ 25 ∷ 7 ∷ 8 ∷ 29 ∷ 4 ∷ 7 ∷ 14 ∷ 18 ∷ 25 ∷ 7 ∷ 14 ∷ 20
    ∷ 27 ∷ 7 ∷ 14 ∷ 23 ∷ 30 ∷ 7 ∷ 2 ∷ 33 ∷ 32 ∷ 7 ∷ 14 ∷ 11 ∷ 31 ∷ 7 ∷ 14 ∷ 13 ∷ 32 ∷ []

-- from fresh
abbrev run : List ℕ → List ℕ → List ℕ → List ℕ → Run
run events emissions outputs states = record { state = 0; events = events; emissions = emissions; outputs = outputs; states = states }

abbrev fit : ℕ → Answer → Fit
fit state answer = record { state = state; answer = answer }

-- P1: its file; next state 1
abbrev pub p1 : Case
p1 = accepted (0 ∷ 0 ∷ 0 ∷ []) 1 4 [] (run (0 ∷ []) (0 ∷ []) (0 ∷ []) (1 ∷ []) ∷ []) ((0 ∷ 0 ∷ 4 ∷ 0 ∷ 1 ∷ 6 ∷ 1 ∷ 7 ∷ 2 ∷ 1 ∷ 2 ∷ []) ∷ [])

-- P2: states 3, 3
abbrev pub p2 : Case
p2 = accepted (0 ∷ 0 ∷ 1 ∷ []) 1 7 [] (run (0 ∷ 0 ∷ []) (0 ∷ 0 ∷ []) (0 ∷ 0 ∷ []) (3 ∷ 3 ∷ []) ∷ []) []

-- P3: SHORT at 2
abbrev pub p3 : Case
p3 = refused (0 ∷ 0 ∷ []) 1 2

-- P4: INSTANT 0, and its second sheet, which is accepted
abbrev pub p4 : Case
p4 = refused (0 ∷ 0 ∷ 4 ∷ 0 ∷ []) 9 0

abbrev pub p4_second : Case
p4_second = accepted (0 ∷ 0 ∷ 4 ∷ 1 ∷ []) 2 8 [] [] (p4_file ∷ [])

-- P5: CYCLE 2
abbrev pub p5 : Case
p5 = refused (0 ∷ 0 ∷ 10 ∷ 5 ∷ 1 ∷ 0 ∷ 2 ∷ 1 ∷ []) 12 2

-- P6: EXIT 3, and its second sheet, which is accepted
abbrev pub p6 : Case
p6 = refused (0 ∷ 0 ∷ 9 ∷ 2 ∷ []) 7 3

abbrev pub p6_second : Case
p6_second = accepted (0 ∷ 0 ∷ 8 ∷ 9 ∷ 2 ∷ []) 2 4 [] [] []

-- P7: EMIT 3, and its second sheet: SCOPE 3
abbrev pub p7 : Case
p7 = refused (0 ∷ 0 ∷ 2 ∷ 0 ∷ []) 6 3

abbrev pub p7_second : Case
p7_second = refused (0 ∷ 0 ∷ 2 ∷ 1 ∷ []) 5 3

-- P8: NUMBER 0
abbrev pub p8 : Case
p8 = refused (128 ∷ 0 ∷ []) 2 0

-- P9: TWICE 2
abbrev pub p9 : Case
p9 = refused (2 ∷ 1 ∷ 4 ∷ 3 ∷ 7 ∷ 6 ∷ 1 ∷ 1 ∷ 6 ∷ 2 ∷ 1 ∷ 2 ∷ 3 ∷ []) 10 2

-- P10: events 0, 6, 2, states 7, 9, 7, output (bit 3) at the second only; state 11: STATE, and 5 fits
abbrev pub p10 : Case
p10 =
    accepted (2 ∷ 1 ∷ 4 ∷ 3 ∷ 7 ∷ 6 ∷ 1 ∷ 1 ∷ 6 ∷ 2 ∷ 1 ∷ 3 ∷ 2 ∷ 3 ∷ 6 ∷ 0 ∷ 1 ∷ []) 11 35
    (fit 11 (answer 14 0) ∷ fit 5 (acceptance 11 35) ∷ [])
    (run (0 ∷ 6 ∷ 2 ∷ []) (0 ∷ 8 ∷ 0 ∷ []) (0 ∷ 8 ∷ 0 ∷ []) (7 ∷ 9 ∷ 7 ∷ []) ∷ [])
    (p10_file ∷ [])

-- P11: nothing emitted
abbrev pub p11 : Case
p11 =
    accepted (0 ∷ 1 ∷ 8 ∷ 3 ∷ 8 ∷ 7 ∷ 9 ∷ 3 ∷ 9 ∷ 2 ∷ 2 ∷ 1 ∷ []) 7 7 [] (run (0 ∷ []) (0 ∷ []) (0 ∷ []) (1 ∷ []) ∷ []) (p11_file ∷ [])

-- P12, state 3: STATE
abbrev pub p12 : Case
p12 = accepted (0 ∷ 0 ∷ 7 ∷ 1 ∷ 1 ∷ []) 3 15 (fit 3 (answer 14 0) ∷ []) [] (p12_file ∷ [])

-- the trace's sheet: "ok 5 13", and three instants
abbrev pub traced : Case
traced =
    accepted (1 ∷ 1 ∷ 4 ∷ 3 ∷ 6 ∷ 1 ∷ 1 ∷ 2 ∷ 2 ∷ []) 5 13 [] (run (0 ∷ 2 ∷ 2 ∷ []) (0 ∷ 4 ∷ 4 ∷ []) (0 ∷ 4 ∷ 4 ∷ []) (3 ∷ 3 ∷ 3 ∷ []) ∷ [])
    (trace_file ∷ [])

-- a watching without halts has no 0 in R, so it does not stand ended beside the halt
abbrev pub guarded : Case
guarded = accepted (0 ∷ 0 ∷ 8 ∷ 7 ∷ 6 ∷ 0 ∷ 9 ∷ 2 ∷ 1 ∷ []) 5 11 (fit 3 (answer 14 0) ∷ []) [] []

-- request 1, "wait for C, then two branches, again": loop await 1; [await 2; emit 4 || await 3; emit 5] end. Signal 1 opens a round; the
-- last event has it too, where the round ends, and the restart stops at the wait
abbrev pub branches : Case
branches =
    accepted (3 ∷ 2 ∷ 4 ∷ 3 ∷ 6 ∷ 1 ∷ 1 ∷ 7 ∷ 3 ∷ 6 ∷ 2 ∷ 1 ∷ 2 ∷ 4 ∷ 3 ∷ 6 ∷ 3 ∷ 1 ∷ 2 ∷ 5 ∷ []) 13 37
    (fit 11 (answer 14 0) ∷ fit 5 (acceptance 13 37) ∷ [])
    (run (0 ∷ 2 ∷ 4 ∷ 10 ∷ []) (0 ∷ 0 ∷ 16 ∷ 32 ∷ []) (0 ∷ 0 ∷ 16 ∷ 32 ∷ []) (3 ∷ 13 ∷ 9 ∷ 3 ∷ []) ∷ [])
    (branches_file ∷ [])

-- The table.
abbrev pub cases : List Case
cases =
    p1 ∷ p2 ∷ p3 ∷ p4 ∷ p4_second ∷ p5 ∷ p6 ∷ p6_second ∷ p7 ∷ p7_second ∷ p8 ∷ p9 ∷ p10 ∷ p11 ∷ p12 ∷ traced ∷ guarded ∷ branches ∷ []
