-- Programs to see that the promises say something: one with a local signal that is accepted, 004's two incorrect ones (3.3), and one that the two readings of a
-- local signal tell apart.
use Rattle.std.specs.Prelude.{false, ◌||◌, List, [], ◌∷◌, ℕ}
use Rattle.number.specs.Counts.{signal_no, halt_no}
use Rattle.bits.specs.Bits.{has}
use Rattle.sheet.specs.declared.Leaf.TheVariants.{Nothing, Halt, Emit}
use Rattle.sheet.specs.declared.Unary.TheVariants.{Loop, Watching, Signal}
use Rattle.sheet.specs.declared.Binary.TheVariants.{Sequence, Present, Parallel}
use Rattle.sheet.specs.Stmt.{Stmt, leaf, one, two}
use Rattle.sheet.specs.Read.{Sheet, only}
use Rattle.rules.specs.Rules.{Signals}
use Rattle.rules.specs.States.{State, tick}

abbrev emit : ℕ → Stmt
emit s = leaf (Emit (signal_no s))

-- "await S", 2.5: "do halt watching S"
abbrev await : ℕ → ℕ → Stmt
await s h = one (Watching (signal_no s)) (leaf (Halt (halt_no h)))

-- Input 1 is handed on by the local signal 3 from one branch to the other, which puts out 2:
-- signal 3 in loop await 1; emit 3 end || loop await 3; emit 2 end end
abbrev pub hand_sheet : List ℕ
hand_sheet = 1 ∷ 1 ∷ 10 ∷ 7 ∷ 4 ∷ 3 ∷ 6 ∷ 1 ∷ 1 ∷ 2 ∷ 3 ∷ 4 ∷ 3 ∷ 6 ∷ 3 ∷ 1 ∷ 2 ∷ 2 ∷ []

abbrev pub hand : Sheet
hand =
    record {
      inputs = 1;
      outputs = 1;
      root = one (Signal (signal_no 3)) (two Parallel (one Loop (two Sequence (await 1 0) (emit 3))) (one Loop (two Sequence (await 3 1) (emit 2))));
    }

-- booted, and halted in both branches; what is present when input 1 comes: tick, 1, then 3 and 2
abbrev pub hand_state : State
hand_state = has 7

abbrev pub hand_set : Signals
hand_set s = (only tick s || only (signal_no 1) s) || ((only (signal_no 3) s || false) || (only (signal_no 2) s || false))

-- "The following program has no fixpoint, since S should not be emitted if present and emitted if not present."
abbrev pub no_fixpoint : Stmt
no_fixpoint = one (Signal (signal_no 1)) (two (Present (signal_no 1)) (leaf Nothing) (emit 1))

-- "The next program has two fixpoints, one of S1 or S2 being present in each."
abbrev pub two_fixpoints : Stmt
two_fixpoints =
    one (Signal (signal_no 1))
    (one (Signal (signal_no 2))
    (two Parallel (two (Present (signal_no 1)) (leaf Nothing) (emit 2)) (two (Present (signal_no 2)) (leaf Nothing) (emit 1))))

-- The sheet `000104 0A 0305020201 00 0306000102 02`: a loop ends the life of its local signal 2 and begins another in the same instant. In 004 each start has
-- "a fresh signal S"; the paper's one set E has one status for both.
abbrev pub again_sheet : List ℕ
again_sheet = 0 ∷ 1 ∷ 4 ∷ 10 ∷ 3 ∷ 5 ∷ 2 ∷ 2 ∷ 1 ∷ 0 ∷ 3 ∷ 6 ∷ 0 ∷ 1 ∷ 2 ∷ 2 ∷ []

abbrev pub again : Sheet
again =
    record {
      inputs = 0;
      outputs = 1;
      root =
          one Loop
          (one (Signal (signal_no 2))
          (two Sequence (two (Present (signal_no 2)) (emit 1) (leaf Nothing)) (two Sequence (await 0 0) (emit 2))));
    }

-- booted, and halted at its halt; what is present there without input, by the paper's rules: tick, then 2 by the old life, then 1 by the new
abbrev pub again_state : State
again_state = has 3

abbrev pub again_set : Signals
again_set s = (only tick s || false) || (only (signal_no 2) s || (only (signal_no 1) s || false))
