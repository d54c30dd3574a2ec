-- Demand 2 in 004's own rules: "For an accepted one the interpreter gives the emitted signals and the halt set of Berry's behavioural rules". These are the
-- theorems that others use; they assume nothing.
use mathlib.Core.Path.{◌≡◌}
use mathlib.Core.Bool.{true}
use mathlib.Core.List.{List}
use Prim.Native.Nat.{ℕ}
use Rattle.sheet.specs.Stmt.{Stmt}
use Rattle.sheet.specs.Read.{Sheet}
use Rattle.sheet.specs.Form.{Proper}
use Rattle.sheet.proofs.Notions.{proper_numbered}
use Rattle.sheet.proofs.ProperRead.{proper}
use Rattle.rules.specs.Rules.{Signals}
use Rattle.rules.specs.States.{State, react, Event, Agrees, fits}
use Rattle.compiler.specs.Check.{Accepted, accepted}
use Rattle.compiler.proofs.Passing.{Read, judged_read}
use Rattle.agreement.proofs.Theorem.{reaction}
use Rattle.berry.specs.Modules.{Derivative, Correct, body, haltset_of, Alike, Faithful, FromHaltset}
use Rattle.berry.proofs.Coding.{told_by_haltset}
use Rattle.berry.proofs.Correctness.{faithful_reaction, correct_sheet, finite_sheet}

the_sheet : {bytes : List ℕ} {w : Sheet} → Accepted bytes w → Read bytes w
the_sheet {bytes} (accepted order e ordered) = judged_read {s = bytes} e

module _ {bytes : List ℕ} {w : Sheet} (ok : Accepted bytes w) where
  judged : Read bytes w
  judged = the_sheet ok

  well_formed : Proper w.inputs w.outputs w.root
  well_formed = proper bytes w judged.read

  -- For every state that fits and every event of the sheet's own inputs: the reaction under a set that agrees with the paper's rules, of which there is exactly
  -- one, is the one transition of 004's rules.
  pub faithful : (S : State) → fits S w.root ≡ true → (J : Signals) → Event w.inputs J → (E : Signals) → Agrees J S E w.root
      → Faithful w S J (react E S w.root)
  faithful = faithful_reaction w well_formed judged.passes.no_instant judged.passes.no_twice (reaction ok)

  -- The sheet is correct in 004's sense ..
  pub correct : Correct w.inputs (body w.root)
  correct = correct_sheet w well_formed judged.passes.no_instant judged.passes.no_twice (reaction ok)

  -- .. and has finitely many derivatives, each recovered from a haltset.
  pub finitely_many : (p : Stmt) → Derivative w.inputs (body w.root) p → FromHaltset w.root p
  finitely_many = finite_sheet w well_formed judged.passes.no_instant judged.passes.no_twice (reaction ok)

  -- A fitting state's haltset tells the state: "the unambiguous coding of any state" (004, section 4). So 004's halt and the boot register say the same.
  pub coded : (S S' : State) → fits S w.root ≡ true → fits S' w.root ≡ true → haltset_of S w.root ≡ haltset_of S' w.root → Alike S S'
  coded = told_by_haltset w.root (proper_numbered well_formed)
