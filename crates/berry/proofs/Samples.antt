-- The promises say something: an accepted program with a local signal, 004's two incorrect programs, and a sheet that only the signal half of TWICE keeps out.
use mathlib.Core.Path.{◌≡◌, refl, sym, ◌∙◌, ap, subst, fun_ext}
use mathlib.Core.Bool.{true, false, ◌&&◌, ◌||◌, true≢false, false≢true, or-true, or-false, and-false}
use mathlib.Core.List.{List, [], ◌∷◌}
use mathlib.Core.Logic.{◌⊎◌, inl, inr}
use Prim.Native.Nat.{ℕ, ◌<◌}
use native.Mathlib.Omega.{arith}
use borrow.Author.Tests.{ne_eqb}
use Rattle.number.specs.declared.SignalNo.{SignalNo}
use Rattle.number.specs.Counts.{signal_no, of_signal, halt_no, stmt_no}
use Rattle.number.specs.Number.{number_at, pick}
use Rattle.bits.specs.Bits.{has, no_bits}
use Rattle.sheet.specs.declared.Leaf.TheVariants.{Nothing, Emit}
use Rattle.sheet.specs.declared.Unary.TheVariants.{Signal}
use Rattle.sheet.specs.declared.Binary.TheVariants.{Present, Parallel}
use Rattle.sheet.specs.Stmt.{Stmt, leaf, one, two, size, halt_count, local_count}
use Rattle.sheet.specs.Read.{only, sheet, signal_of, naming, emitting, exiting, halt_at, local_at, trap_at, of_kind, head_of_kind, inside, and_then, parts, read_stmt}
use Rattle.sheet.specs.Read.{ended, root_read, after_outputs, after_inputs, read_sheet}
use Rattle.sets.specs.Codes.{empty, join}
use Rattle.sets.specs.Static.{K, R, has_halts}
use Rattle.sets.specs.Faults.{or_else, instant, climbs, first_fault, twice}
use Rattle.rules.specs.Rules.{Signals, Halts, only_halt, start, active, resume}
use Rattle.rules.specs.States.{tick, react, apart, fits, Event, Agrees}
use Rattle.gates.specs.Folding.{gate_at}
use Rattle.gates.specs.Rows.{or_row, pairs, highest, parallel_row}
use Rattle.parts.specs.Equations.{build, build_halt, build_emit, build_sequence, build_loop, build_present, build_watching, build_parallel, build_trap}
use Rattle.builder.specs.Netlist.{netlist, sheet_netlist, root_of, input_cells, signal_cells}
use Rattle.order.specs.Paths.{Ordered}
use Rattle.order.proofs.ByTest.{every, in_order_at, ordered}
use Rattle.compiler.specs.Check.{unless, roomy, judged, judge, Accepted, accepted}
use Rattle.agreement.proofs.Example.{rounds, rounds_accepted}
use Rattle.berry.specs.Behaviour.{Step, nothing_rule, halt_rule, emit_rule, sequence_on, sequence_stays, loop_rule, present_then, present_else_rule}
use Rattle.berry.specs.Behaviour.{watching_rule, parallel_rule, signal_present, signal_absent, without, locals_of}
use Rattle.berry.specs.Haltsets.{recovering}
use Rattle.berry.specs.Modules.{Transition, Move, move_of, LocallyCorrect, Correct, body, stands_for, outputs_of, locals_in, Faithful}
use Rattle.berry.specs.Programs.{hand_sheet, hand, hand_state, hand_set, no_fixpoint, two_fixpoints, again_sheet, again, again_state, again_set}
use Rattle.berry.proofs.Promise.{faithful, correct}
use Rattle.std.specs.Prelude.{Some, None}

-- The accepted program.
hand_order : List ℕ
hand_order = 0 ∷ 1 ∷ 2 ∷ 18 ∷ 22 ∷ 10 ∷ 14 ∷ 15 ∷ 4 ∷ 23 ∷ 3 ∷ 5 ∷ 6 ∷ 7 ∷ 8 ∷ 9 ∷ 11 ∷ 12 ∷ 13 ∷ 16 ∷ 17 ∷ 19 ∷ 20 ∷ 21 ∷ 24 ∷ 25 ∷ []

hand_places : List ℕ
hand_places = 0 ∷ 1 ∷ 2 ∷ 10 ∷ 8 ∷ 11 ∷ 12 ∷ 13 ∷ 14 ∷ 15 ∷ 5 ∷ 16 ∷ 17 ∷ 18 ∷ 6 ∷ 7 ∷ 19 ∷ 20 ∷ 3 ∷ 21 ∷ 22 ∷ 23 ∷ 4 ∷ 9 ∷ 24 ∷ 25 ∷ []

hand_judged : judge hand_sheet ≡ sheet hand
unfolding number_at pick size halt_count local_count signal_of naming emitting exiting halt_at local_at trap_at of_kind head_of_kind inside and_then parts
    read_stmt ended root_read after_outputs after_inputs read_sheet K R has_halts or_else instant climbs first_fault twice unless roomy judged judge
    gate_at or_row pairs highest parallel_row build build_halt build_emit build_sequence build_loop build_present build_watching build_parallel
    build_trap netlist root_of input_cells signal_cells
hand_judged = refl

hand_ordered : Ordered (sheet_netlist hand) hand_order
unfolding hand_order hand_places every in_order_at pick local_count K R has_halts gate_at or_row pairs highest parallel_row build build_halt build_emit
    build_sequence build_loop build_present build_watching build_parallel build_trap netlist root_of input_cells signal_cells
hand_ordered = ordered (sheet_netlist hand) hand_order hand_places refl

pub hand_accepted : Accepted hand_sheet hand
hand_accepted = accepted hand_order hand_judged hand_ordered

pub hand_fits : fits hand_state hand.root ≡ true
unfolding has fits no_bits apart active K R has_halts halt_count pick
hand_fits = refl

pub hand_agrees : Agrees (only (signal_no 1)) hand_state hand_set hand.root
unfolding has react start resume active pick
hand_agrees s = refl

-- it puts out 2, with the local signal 3 present
pub hand_moves : (outputs_of hand (react hand_set hand_state hand.root).emits (signal_no 2) ≡ true)
    × (locals_in hand (react hand_set hand_state hand.root).emits (signal_no 3) ≡ true)
unfolding has react start resume active pick
hand_moves = (refl, refl)

pub hand_faithful : Faithful hand hand_state (only (signal_no 1)) (react hand_set hand_state hand.root)
hand_faithful = faithful hand_accepted hand_state hand_fits (only (signal_no 1)) (record { no_tick = refl; own = own }) hand_set hand_agrees
  where
    own : (s : SignalNo) → 1 < of_signal s → only (signal_no 1) s ≡ false
    own s l = ne_eqb (of_signal s) 1 (λ e. omega arith)

pub hand_correct : Correct 1 (body hand.root)
hand_correct = correct hand_accepted

-- the program whose loop waits and then starts a parallel
pub rounds_correct : Correct 3 (body rounds.root)
rounds_correct = correct rounds_accepted

-- 004's program without a fixpoint has no transition.
no_event : (i : ℕ) → Event i empty
no_event i = record { no_tick = refl; own = λ s l. refl }

abbrev s₁ : SignalNo
s₁ = signal_no 1

tested : {E A : Signals} {k : ℕ} {H : Halts} {p : Stmt} → Step E (two (Present s₁) (leaf Nothing) (leaf (Emit s₁))) A k H p
    → ((E s₁ ≡ true) × (A ≡ empty)) ⊎ ((E s₁ ≡ false) × (A ≡ only s₁))
tested (present_then e nothing_rule) = inl (e, refl)
tested (present_else_rule e emit_rule) = inr (e, refl)

stuck : {E A : Signals} {k : ℕ} {H : Halts} {p : Stmt} → Step E no_fixpoint A k H p → ⊥
stuck (signal_present {E = E} {E₁ = A} d hidden) = go (tested d)
  where
    go : (((E s₁ || true) ≡ true) × (join A (only s₁) ≡ empty)) ⊎ (((E s₁ || true) ≡ false) × (join A (only s₁) ≡ only s₁)) → ⊥
    go (inl c) = true≢false (sym (or-true (A s₁)) ∙ ap (λ (X : Signals). X s₁) c.1)
    go (inr c) = true≢false (sym (or-true (E s₁)) ∙ c.0)
stuck (signal_absent {E = E} {E₁ = A} d hidden) = go (tested d)
  where
    go : (((E s₁ && false) ≡ true) × (A ≡ empty)) ⊎ (((E s₁ && false) ≡ false) × (A ≡ only s₁)) → ⊥
    go (inl c) = false≢true (sym (and-false (E s₁)) ∙ c.0)
    go (inr c) = true≢false (sym (ap (λ (X : Signals). X s₁) c.1) ∙ hidden)

pub no_fixpoint_lem : LocallyCorrect 0 no_fixpoint → ⊥
no_fixpoint_lem correct = stuck (correct empty (no_event 0)).sole.step

-- 004's program with two fixpoints has a derivation with S1 present, and another with S2 present.
abbrev s₂ : SignalNo
s₂ = signal_no 2

abbrev ended_both : Stmt
ended_both = one (Signal s₁) (one (Signal s₂) (two Parallel (leaf Nothing) (leaf Nothing)))

first_present : Transition empty two_fixpoints empty 0 empty ended_both
first_present =
    signal_present {E₁ = empty} (signal_absent (parallel_rule (present_then refl nothing_rule) (present_else_rule refl emit_rule)) refl) refl

-- the second, whose branches emit S2 and nothing, in this order
record Second (E A : Signals) : Type 0 where
  step : Step E (two Parallel (two (Present s₁) (leaf Nothing) (leaf (Emit s₂))) (two (Present s₂) (leaf Nothing) (leaf (Emit s₁)))) A 0 empty
      (two Parallel (leaf Nothing) (leaf Nothing))
  locals : locals_of step ≡ empty

second : Second (join (without (join (join (only tick) empty) empty) s₁) (only s₂)) (join empty (only s₂))
unfolding locals_of
second =
    subst (λ (A : Signals). Second (join (without (join (join (only tick) empty) empty) s₁) (only s₂)) A) (fun_ext (λ s. or-false (only s₂ s)))
    (record { step = parallel_rule (present_else_rule refl emit_rule) (present_then refl nothing_rule); locals = refl })

second_present : Transition empty two_fixpoints empty 0 empty ended_both
second_present = signal_absent (signal_present {E₁ = empty} second.step refl) refl

pub two_fixpoints_lem : LocallyCorrect 0 two_fixpoints → ⊥
unfolding locals_of first_present second_present
two_fixpoints_lem correct =
    let all = (correct empty (no_event 0)).sole in
    let same : move_of first_present ≡ move_of second_present = all.alone first_present ∙ sym (all.alone second_present) in
    true≢false (ap (λ (m : Move). m.locals s₁) same ∙ ap (λ (L : Signals). L s₁) second.locals)

-- The sheet that the two readings tell apart: it is read, INSTANT does not refuse it, and TWICE does, at its signal statement; it has no parallel.
pub again_read : read_sheet again_sheet ≡ sheet again
unfolding number_at pick size signal_of naming emitting exiting halt_at local_at trap_at of_kind head_of_kind inside and_then parts read_stmt ended root_read
    after_outputs after_inputs read_sheet
again_read = refl

pub again_faults : (instant (stmt_no 0) again.root ≡ None) × (twice (stmt_no 0) again.root ≡ Some (stmt_no 1))
unfolding pick size K R has_halts or_else instant climbs first_fault twice
again_faults = (refl, refl)

-- but for TWICE it would be accepted: there is room for its cells, and they have an order
pub again_room : roomy again ≡ sheet again
unfolding pick local_count K R has_halts gate_at or_row pairs highest parallel_row build build_halt build_emit build_sequence build_loop build_present
    build_watching build_parallel build_trap netlist root_of input_cells signal_cells roomy
again_room = refl

pub again_order : List ℕ
again_order = 0 ∷ 1 ∷ 4 ∷ 5 ∷ 11 ∷ 14 ∷ 15 ∷ 6 ∷ 3 ∷ 7 ∷ 2 ∷ 8 ∷ 9 ∷ 10 ∷ 12 ∷ 13 ∷ []

again_places : List ℕ
again_places = 0 ∷ 1 ∷ 10 ∷ 8 ∷ 2 ∷ 3 ∷ 7 ∷ 9 ∷ 11 ∷ 12 ∷ 13 ∷ 4 ∷ 14 ∷ 15 ∷ 5 ∷ 6 ∷ []

pub again_ordered : Ordered (sheet_netlist again) again_order
unfolding again_order again_places every in_order_at pick local_count K R has_halts gate_at or_row pairs highest parallel_row build build_halt build_emit
    build_sequence build_loop build_present build_watching build_parallel build_trap netlist root_of input_cells signal_cells
again_ordered = ordered (sheet_netlist again) again_order again_places refl

-- booted and halted at its halt, with no input, the paper's rules under the set that agrees put out 1 ..
pub again_fits : fits again_state again.root ≡ true
unfolding has fits no_bits apart active K R has_halts halt_count pick
again_fits = refl

pub again_agrees : Agrees empty again_state again_set again.root
unfolding has react start resume active pick
again_agrees s = refl

-- .. 004's rules do not: the signal statement that is started again has a fresh signal
record Silent : Type 0 where
  derivative : Stmt
  step : Transition empty (stands_for again_state again.root) empty 1 (only_halt (halt_no 0)) derivative

halts : 0 < 1
halts = omega arith

again_silent : Silent
unfolding has stands_for recovering active pick
again_silent =
    record {
      derivative = _;
      step =
          sequence_on (signal_present {E₁ = empty} (sequence_on (present_then refl nothing_rule) emit_rule) refl)
          (loop_rule (signal_absent (sequence_on (present_else_rule refl nothing_rule) (sequence_stays (watching_rule halt_rule) halts)) refl) halts);
    }

pub told_apart : Faithful again again_state empty (react again_set again_state again.root) → ⊥
unfolding has react start resume active pick
told_apart f = false≢true (ap (λ (m : Move). m.outputs s₁) (f.sole.alone again_silent.step))
