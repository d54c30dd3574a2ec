-- Berry's behavioural rules: 004 (RR-1479), section 3.2, with the haltsets of section 4.1; a constructor a rule, in the report's order. 004's event E is the
-- set of the signals that are present, E' of those that are emitted, k the termination level, H the haltset; statements are the paper's. The report numbers
-- its halts and decorates its exits with their levels ("exit T2"), as the paper's statements do.
-- Readings. Section 4.1 prints the haltset for nothing, halt, sequence, trap and parallel and leaves "the other ones to the reader": there an emit or an exit,
-- which do not halt, return none ("We always return H = ∅ when k ≠ 1"), and the rest pass their part's on. The second sequence rule asks "k > 0" in 3.2 and
-- "k1 > 0" in 4.1: k1 is meant, since there is no other k. In the local signal rules the scan has lost a brace, "E ∪ {S]" and "E − {S]": E with S, E without S.
use Rattle.std.specs.Prelude.{◌≡◌, true, false, not, ◌&&◌, ◌⊎◌, ℕ, zero, suc, ◌-◌, ◌<◌}
use Rattle.number.specs.declared.SignalNo.{SignalNo}
use Rattle.number.specs.declared.HaltNo.{HaltNo}
use Rattle.number.specs.Counts.{halt_no}
use Rattle.sheet.specs.declared.Leaf.TheVariants.{Nothing, Halt, Emit, Exit}
use Rattle.sheet.specs.declared.Unary.TheVariants.{Loop, Watching, Trap, Signal}
use Rattle.sheet.specs.declared.Binary.TheVariants.{Sequence, Present, Parallel}
use Rattle.sheet.specs.Stmt.{Stmt, leaf, one, two}
use Rattle.sheet.specs.Read.{only}
use Rattle.sets.specs.Codes.{empty, join, larger}
use Rattle.rules.specs.Rules.{Signals, Halts, only_halt, kept}

-- E − {S}
abbrev pub without : Signals → SignalNo → Signals
without E s x = E x && not (only s x)

-- "present S else stat": 2.3, "Both then and else parts are optional in a present statement. If omitted, they are supposed to be nothing."
abbrev pub present_else : SignalNo → Stmt → Stmt
present_else s p = two (Present s) (leaf Nothing) p

-- 4.1, the parallel rule's stat'': "when one branch terminates, we rewrite it into nothing"
abbrev pub unless_ended : ℕ → Stmt → Stmt
unless_ended zero p = leaf Nothing
unless_ended (suc k) p = p

-- Step E p E' k H p': under the event E the statement p emits E', with termination level k and haltset H, and becomes p'
pub data Step : Signals → Stmt → Signals → ℕ → Halts → Stmt → Type 0 where
  -- 3.2, first rule; 4.1, first rule. "The nothing statement terminates instantaneously."
  nothing_rule : {E : Signals} → Step E (leaf Nothing) empty 0 empty (leaf Nothing)
  -- 3.2, second; 4.1, second. "The halt statements halts and rewrites into itself."
  halt_rule : {E : Signals} {h : HaltNo} → Step E (leaf (Halt h)) empty 1 (only_halt h) (leaf (Halt h))
  -- 3.2, third. "An emit statement emits its signal and terminates."
  emit_rule : {E : Signals} {s : SignalNo} → Step E (leaf (Emit s)) (only s) 0 empty (leaf Nothing)
  -- 3.2, fourth; 4.1, third. "If the first statement of a sequence terminates, the second statement is started at once"
  sequence_on : {E E₁ E₂ : Signals} {H : Halts} {k : ℕ} {p q p' q' : Stmt} → Step E p E₁ 0 empty p' → Step E q E₂ k H q'
      → Step E (two Sequence p q) (join E₁ E₂) k H q'
  -- 3.2, fifth; 4.1, fourth. "If the first statement of a sequence does not terminate, that is if it halts or exits a trap, the sequence behaves just as the
  -- first statement and the second statement is kept unchanged"
  sequence_stays : {E E₁ : Signals} {H : Halts} {k : ℕ} {p q p' : Stmt} → Step E p E₁ k H p' → 0 < k → Step E (two Sequence p q) E₁ k H (two Sequence p' q)
  -- 3.2, sixth. "A loop instantaneously unfolds itself once. Its body is not allowed to terminate instantaneously."
  loop_rule : {E E₁ : Signals} {H : Halts} {k : ℕ} {p p' : Stmt} → Step E p E₁ k H p' → 0 < k → Step E (one Loop p) E₁ k H (two Sequence p' (one Loop p))
  -- 3.2, seventh and eighth. "A present statement instantaneously selects its then branch if the signal tested for is present in the current instant.
  -- Otherwise, it instantaneously selects its else branch."
  present_then : {E E₁ : Signals} {H : Halts} {s : SignalNo} {k : ℕ} {p q p' : Stmt} → E s ≡ true → Step E p E₁ k H p' → Step E (two (Present s) p q) E₁ k H p'
  present_else_rule : {E E₂ : Signals} {H : Halts} {s : SignalNo} {k : ℕ} {p q q' : Stmt} → E s ≡ false → Step E q E₂ k H q' → Step E (two (Present s) p q) E₂ k H q'
  -- 3.2, ninth. "A watching statement transfers the control to its body and rewrites itself into a present statement in order to set the time guard at next
  -- instant if the body has halted."
  watching_rule : {E E₁ : Signals} {H : Halts} {s : SignalNo} {k : ℕ} {p p' : Stmt} → Step E p E₁ k H p'
      → Step E (one (Watching s) p) E₁ k H (present_else s (one (Watching s) p'))
  -- 3.2, tenth; 4.1, last. "A parallel statements starts its branches instantaneously, merges the emitted signals, and returns the max of the termination
  -- codes"; "we return the union of the haltsets returned by the branches unless one of the branches exits a trap, in which case we return an empty haltset"
  parallel_rule : {E E₁ E₂ : Signals} {H₁ H₂ : Halts} {k₁ k₂ : ℕ} {p q p' q' : Stmt} → Step E p E₁ k₁ H₁ p' → Step E q E₂ k₂ H₂ q'
      → Step E (two Parallel p q) (join E₁ E₂) (larger k₁ k₂) (kept (larger k₁ k₂) (join H₁ H₂)) (two Parallel (unless_ended k₁ p') (unless_ended k₂ q'))
  -- 3.2, eleventh and twelfth; 4.1, fifth and sixth. "A trap terminates if its body terminates or exits the trap, that is returns termination code 2. If the
  -- body halts, so does the trap. If the body exits an enclosing trap, then the exit is propagated by subtracting 1 to the exit level."
  trap_ends : {E E₁ : Signals} {k : ℕ} {p p' : Stmt} → Step E p E₁ k empty p' → (k ≡ 0) ⊎ (k ≡ 2) → Step E (one Trap p) E₁ 0 empty (leaf Nothing)
  trap_stays : {E E₁ : Signals} {H : Halts} {k k' : ℕ} {p p' : Stmt} → Step E p E₁ k H p' → ((k ≡ 1) × (k' ≡ 1)) ⊎ ((2 < k) × (k' ≡ k - 1))
      → Step E (one Trap p) E₁ k' H (one Trap p')
  -- 3.2, thirteenth. "An exit statement returns its exit level." It becomes a halt, whose number 004 does not say: "The resulting statement stat' is unused and
  -- therefore immaterial for any rule returning k > 1". Here it is 0.
  exit_rule : {E : Signals} {k : ℕ} → Step E (leaf (Exit k)) empty k empty (leaf (Halt (halt_no 0)))
  -- 3.2, the local signal rules. "Within the body, they impose that a local signal is present in E if and only if it is emitted in E'. A local signal is
  -- obviously not propagated outside its declaration."
  signal_present : {E E₁ : Signals} {H : Halts} {s : SignalNo} {k : ℕ} {p p' : Stmt} → Step (join E (only s)) p (join E₁ (only s)) k H p' → E₁ s ≡ false
      → Step E (one (Signal s) p) E₁ k H (one (Signal s) p')
  signal_absent : {E E₁ : Signals} {H : Halts} {s : SignalNo} {k : ℕ} {p p' : Stmt} → Step (without E s) p E₁ k H p' → E₁ s ≡ false
      → Step E (one (Signal s) p) E₁ k H (one (Signal s) p')

-- the local signals that a derivation has present: those of the signal statements at which it uses the first local signal rule
unfoldable pub locals_of : {E E₁ : Signals} {H : Halts} {k : ℕ} {p p' : Stmt} → Step E p E₁ k H p' → Signals
locals_of nothing_rule = empty
locals_of halt_rule = empty
locals_of emit_rule = empty
locals_of (sequence_on d e) = join (locals_of d) (locals_of e)
locals_of (sequence_stays d _) = locals_of d
locals_of (loop_rule d _) = locals_of d
locals_of (present_then _ d) = locals_of d
locals_of (present_else_rule _ d) = locals_of d
locals_of (watching_rule d) = locals_of d
locals_of (parallel_rule d e) = join (locals_of d) (locals_of e)
locals_of (trap_ends d _) = locals_of d
locals_of (trap_stays d _) = locals_of d
locals_of exit_rule = empty
locals_of (signal_present {s = s} d _) = join (only s) (locals_of d)
locals_of (signal_absent d _) = locals_of d
