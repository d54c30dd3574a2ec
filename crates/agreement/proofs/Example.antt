-- The theorem is not about nothing: P10 is accepted, so that it says what it says of P10; and so is a program whose loop waits and then starts a
-- parallel.
use mathlib.Core.Path.{◌≡◌, refl}
use mathlib.Core.List.{List, [], ◌∷◌}
use Prim.Native.Nat.{ℕ}
use Rattle.number.specs.Counts.{signal_no, halt_no}
use Rattle.number.specs.Number.{number_at, pick}
use Rattle.sheet.specs.declared.Leaf.TheVariants.{Halt, Emit}
use Rattle.sheet.specs.declared.Unary.TheVariants.{Loop, Watching}
use Rattle.sheet.specs.declared.Binary.TheVariants.{Sequence, Parallel}
use Rattle.sheet.specs.Stmt.{Stmt, leaf, one, two, size, halt_count, local_count}
use Rattle.sheet.specs.Read.{Sheet, sheet, signal_of, naming, emitting, exiting, halt_at, local_at, trap_at, of_kind, head_of_kind, inside, and_then, parts, read_stmt}
use Rattle.sheet.specs.Read.{ended, root_read, after_outputs, after_inputs, read_sheet}
use Rattle.sets.specs.Static.{K, R, has_halts}
use Rattle.sets.specs.Faults.{or_else, instant, climbs, first_fault, twice}
use Rattle.gates.specs.Folding.{gate_at}
use Rattle.gates.specs.Rows.{or_row, pairs, highest, parallel_row}
use Rattle.parts.specs.Equations.{build, build_halt, build_emit, build_sequence, build_loop, build_present, build_watching, build_parallel, build_trap}
use Rattle.builder.specs.Netlist.{netlist, sheet_netlist, root_of, input_cells, signal_cells}
use Rattle.order.specs.Paths.{Ordered}
use Rattle.order.proofs.ByTest.{every, in_order_at, ordered}
use Rattle.compiler.specs.Check.{unless, roomy, judged, judge, Accepted, accepted}
use Rattle.agreement.specs.Words.{EventWords, WordRun}
use Rattle.agreement.proofs.WordRuns.{word_theorem}

-- "P10 `02 01 04 03 07 06 01 01 06 02 01 03 02 03 06 00 01`: accepted."
abbrev pub p10_bytes : List ℕ
p10_bytes = 2 ∷ (1 ∷ (4 ∷ (3 ∷ (7 ∷ (6 ∷ (1 ∷ (1 ∷ (6 ∷ (2 ∷ (1 ∷ (3 ∷ (2 ∷ (3 ∷ (6 ∷ (0 ∷ (1 ∷ []))))))))))))))))

abbrev guarded : ℕ → ℕ → Stmt
guarded s h = one (Watching (signal_no s)) (leaf (Halt (halt_no h)))

abbrev pub p10 : Sheet
p10 =
    record {
      inputs = 2;
      outputs = 1;
      root = one Loop (two Sequence (two Parallel (guarded 1 0) (guarded 2 1)) (two Sequence (leaf (Emit (signal_no 3))) (guarded 0 2)));
    }

abbrev p10_order : List ℕ
p10_order =
    0 ∷ (1 ∷ (2 ∷ (3 ∷ (5 ∷ (6 ∷ (8 ∷ (9 ∷ (10 ∷ (11 ∷ (14 ∷ (15 ∷ (16 ∷ (17 ∷ (18 ∷ (21 ∷ (22 ∷ (23 ∷ (25 ∷ (27 ∷ (28 ∷ (29 ∷ (31 ∷ (32
    ∷ (7 ∷ (12 ∷ (13 ∷ (19 ∷ (20 ∷ (24 ∷ (26 ∷ (4 ∷ (30 ∷ (33 ∷ (34 ∷ []))))))))))))))))))))))))))))))))))

abbrev p10_places : List ℕ
p10_places =
    0 ∷ (1 ∷ (2 ∷ (3 ∷ (31 ∷ (4 ∷ (5 ∷ (24 ∷ (6 ∷ (7 ∷ (8 ∷ (9 ∷ (25 ∷ (26 ∷ (10 ∷ (11 ∷ (12 ∷ (13 ∷ (14 ∷ (27 ∷ (28 ∷ (15 ∷ (16 ∷ (17
    ∷ (29 ∷ (18 ∷ (30 ∷ (19 ∷ (20 ∷ (21 ∷ (32 ∷ (22 ∷ (23 ∷ (33 ∷ (34 ∷ []))))))))))))))))))))))))))))))))))

p10_ordered : Ordered (sheet_netlist p10) p10_order
unfolding pick size halt_count local_count K R has_halts gate_at or_row pairs highest parallel_row build build_halt build_emit build_sequence build_loop
    build_present build_watching build_parallel build_trap netlist root_of input_cells signal_cells every in_order_at
p10_ordered = ordered (sheet_netlist p10) p10_order p10_places refl

p10_judged : judge p10_bytes ≡ sheet p10
unfolding number_at pick size halt_count local_count signal_of naming emitting exiting halt_at local_at trap_at of_kind head_of_kind inside and_then parts read_stmt
    ended root_read after_outputs after_inputs read_sheet K R has_halts or_else instant climbs first_fault twice gate_at or_row pairs highest
    parallel_row build build_halt build_emit build_sequence build_loop build_present build_watching build_parallel build_trap netlist root_of input_cells signal_cells
    unless roomy judged judge
p10_judged = refl

pub p10_accepted : Accepted p10_bytes p10
p10_accepted = accepted p10_order p10_judged p10_ordered

-- over any events of its two inputs program and netlist of P10 go through the same outputs and states
pub p10_agrees : (events : List ℕ) → EventWords 2 events → WordRun p10 0 events
p10_agrees = word_theorem p10_accepted

-- "wait for C, then two branches, again": loop await 1; [await 2; emit 4 || await 3; emit 5] end
abbrev pub rounds_bytes : List ℕ
rounds_bytes = 3 ∷ 2 ∷ 4 ∷ 3 ∷ 6 ∷ 1 ∷ 1 ∷ 7 ∷ 3 ∷ 6 ∷ 2 ∷ 1 ∷ 2 ∷ 4 ∷ 3 ∷ 6 ∷ 3 ∷ 1 ∷ 2 ∷ 5 ∷ []

abbrev branch : ℕ → ℕ → ℕ → Stmt
branch s h x = two Sequence (guarded s h) (leaf (Emit (signal_no x)))

abbrev pub rounds : Sheet
rounds = record { inputs = 3; outputs = 2; root = one Loop (two Sequence (guarded 1 0) (two Parallel (branch 2 1 4) (branch 3 2 5))) }

abbrev rounds_order : List ℕ
rounds_order =
    0 ∷ 1 ∷ 2 ∷ 3 ∷ 4 ∷ 18 ∷ 22 ∷ 23 ∷ 5 ∷ 25 ∷ 29 ∷ 30 ∷ 6 ∷ 7 ∷ 8 ∷ 33 ∷ 11 ∷ 14 ∷ 15 ∷ 17 ∷ 19 ∷ 20 ∷ 24 ∷ 26 ∷ 27 ∷ 32 ∷ 34 ∷ 9 ∷ 10 ∷ 12
    ∷ 13 ∷ 16 ∷ 21 ∷ 28 ∷ 31 ∷ 35 ∷ 36 ∷ []

abbrev rounds_places : List ℕ
rounds_places =
    0 ∷ 1 ∷ 2 ∷ 3 ∷ 4 ∷ 8 ∷ 12 ∷ 13 ∷ 14 ∷ 27 ∷ 28 ∷ 16 ∷ 29 ∷ 30 ∷ 17 ∷ 18 ∷ 31 ∷ 19 ∷ 5 ∷ 20 ∷ 21 ∷ 32 ∷ 6 ∷ 7 ∷ 22 ∷ 9 ∷ 23 ∷ 24 ∷ 33 ∷ 10
    ∷ 11 ∷ 34 ∷ 25 ∷ 15 ∷ 26 ∷ 35 ∷ 36 ∷ []

rounds_ordered : Ordered (sheet_netlist rounds) rounds_order
unfolding pick size halt_count local_count K R has_halts gate_at or_row pairs highest parallel_row build build_halt build_emit build_sequence build_loop
    build_present build_watching build_parallel build_trap netlist root_of input_cells signal_cells every in_order_at
rounds_ordered = ordered (sheet_netlist rounds) rounds_order rounds_places refl

rounds_judged : judge rounds_bytes ≡ sheet rounds
unfolding number_at pick size halt_count local_count signal_of naming emitting exiting halt_at local_at trap_at of_kind head_of_kind inside and_then parts read_stmt
    ended root_read after_outputs after_inputs read_sheet K R has_halts or_else instant climbs first_fault twice gate_at or_row pairs highest
    parallel_row build build_halt build_emit build_sequence build_loop build_present build_watching build_parallel build_trap netlist root_of input_cells signal_cells
    unless roomy judged judge
rounds_judged = refl

pub rounds_accepted : Accepted rounds_bytes rounds
rounds_accepted = accepted rounds_order rounds_judged rounds_ordered

pub rounds_agrees : (events : List ℕ) → EventWords 3 events → WordRun rounds 0 events
rounds_agrees = word_theorem rounds_accepted
