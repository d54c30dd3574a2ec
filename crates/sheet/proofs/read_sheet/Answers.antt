-- The header is read number by number; then the root, unless there are too many signals.
use native.Mathlib.Omega.{arith}
use mathlib.Core.Path.{sym, ◌∙◌}
use Prim.Native.Nat.{ℕ, ◌+◌, ◌≤◌}
use Rattle.std.proofs.Common.{Bool, false, ltb}
use mathlib.Core.Path.{◌≡◌}
use borrow.Author.Tests.{ltb-true, ltb-false}
use Rattle.limits.specs.Limits.{max_signals}
use Rattle.sheet.specs.Read.{read_sheet, after_inputs, after_outputs}
use Rattle.sheet.proofs.Answers as answers
use Rattle.sheet.proofs.read_sheet.Goals as goal

-- the signals fit, so that neither number of the header is cut
few : (i o : ℕ) {r : Bool} → r ≡ ltb max_signals (1 + i + o) → r ≡ false → 1 + i + o ≤ max_signals
few i o is below = ltb-false max_signals (1 + i + o) (sym is ∙ below)

pub returns-in_default : goal.returns-in_default
unfolding read_sheet after_inputs
returns-in_default c =
    let inputs = sym c.read_number-inputs.ensures ∙ c.unwrap_err.ensures in
    answers.sheet_stop (simp inputs)

pub returns-in_default-outputs : goal.returns-in_default-outputs
unfolding read_sheet after_inputs after_outputs
returns-in_default-outputs c =
    let inputs = sym c.read_number-inputs.ensures ∙ c.in-Ok.is in
    let outputs = sym c.read_number-outputs.ensures ∙ c.unwrap_err-in_default-outputs.ensures in
    answers.sheet_stop (simp (inputs, outputs))

pub returns-then-header_full : goal.returns-then-header_full
unfolding read_sheet after_inputs
returns-then-header_full c =
    let i = c.in-Ok.i in
    let o = c.in-Ok-outputs.o in
    let second = c.in-Ok.past_inputs.at in
    let at = c.in-Ok-outputs.past_outputs.at in
    let inputs = sym c.read_number-inputs.ensures ∙ c.in-Ok.is in
    let outputs = sym c.read_number-outputs.ensures ∙ c.in-Ok-outputs.is in
    let many = ltb-true max_signals (1 + i + o) (sym c.header_full.ensures ∙ c.if-header_full.true) in
    rw c.at.ensures (answers.sheet_stop (simp (inputs, outputs) (answers.header_stop c.args.s.now i o second at many)))

pub overflow_cast-i : goal.overflow_cast-i
overflow_cast-i c = omega (arith, few c.in-Ok.i c.in-Ok-outputs.o c.header_full.ensures c.if-header_full.false)

pub overflow_cast-o : goal.overflow_cast-o
overflow_cast-o c = omega (arith, few c.in-Ok.i c.in-Ok-outputs.o c.header_full.ensures c.if-header_full.false)

pub read_root-requires : goal.read_root-requires
read_root-requires c =
    (omega (arith, c.requires), few c.in-Ok.i c.in-Ok-outputs.o c.header_full.ensures c.if-header_full.false)

pub returns : goal.returns
unfolding read_sheet after_inputs
returns c =
    let i = c.in-Ok.i in
    let o = c.in-Ok-outputs.o in
    let second = c.in-Ok.past_inputs.at in
    let at = c.in-Ok-outputs.past_outputs.at in
    let inputs = sym c.read_number-inputs.ensures ∙ c.in-Ok.is in
    let outputs = sym c.read_number-outputs.ensures ∙ c.in-Ok-outputs.is in
    let header = answers.header_fits c.args.s.now i o second at (few i o c.header_full.ensures c.if-header_full.false) in
    simp (inputs, outputs, header) c.read_root.ensures
