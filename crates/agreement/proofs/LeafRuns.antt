-- The statements without parts: nothing is resumed but a halt, and no parallel.
use mathlib.Core.Path.{◌≡◌}
use mathlib.Core.Bool.{Bool, false, ◌&&◌, ◌||◌}
use Prim.Native.Nat.{ℕ}
use Rattle.number.specs.declared.SignalNo.{SignalNo}
use Rattle.number.specs.declared.HaltNo.{HaltNo}
use Rattle.number.proofs.Bools.{taut}
use Rattle.sheet.specs.declared.Leaf.TheVariants.{Nothing, Halt, Emit, Exit}
use Rattle.sheet.specs.Stmt.{leaf}
use Rattle.sheet.specs.Read.{only}
use Rattle.sets.specs.Codes.{Codes, same}
use Rattle.sets.specs.Static.{K}
use Rattle.rules.specs.Rules.{Signals, Halts, only_halt, start, active, resume}
use Rattle.agreement.proofs.Restarts.{Redo}
use Rattle.agreement.proofs.Sound.{Par}
use Rattle.agreement.proofs.Runs.{live, Runs}

leaf_live : (γ ρ a b : Bool) → (γ && a) ≡ live γ (ρ && false) a b
leaf_live = taut 4 0 _ _ _ tt

none_live : (γ ρ : Bool) → false ≡ live γ ρ false false
none_live = taut 2 0 _ _ _ tt

halt_live : (γ ρ h a : Bool) → ((γ || (ρ && h)) && a) ≡ live γ (ρ && h) a a
halt_live = taut 4 0 _ _ _ tt

none_both : (ρ x y : Bool) → (((ρ && false) && x) && y) ≡ false
none_both = taut 3 0 _ _ _ tt

module _ (E : Signals) (H : Halts) (γ ρ : Bool) (P : Codes) (M : Signals) (W : Halts) where
  abbrev Silent : Type 0
  Silent = (s : SignalNo) → M s ≡ false

  abbrev Unhalted : Type 0
  Unhalted = (h : HaltNo) → W h ≡ false

  pub nothing_runs : ((j : ℕ) → P j ≡ (γ && same 0 j)) → Silent → Unhalted → Runs E H (leaf Nothing) γ ρ P M W
  unfolding start resume active K Redo Par
  nothing_runs cs es hs =
      record {
        codes = λ ok j. rw (cs j) (leaf_live γ ρ (same 0 j) (same 0 j));
        emits = λ ok s. rw (es s) (none_live γ (ρ && false));
        halts = λ ok h. rw (hs h) (none_live γ (ρ && false));
        both = λ j. none_both ρ (P j) _;
      }

  pub emit_runs : (x : SignalNo) → ((j : ℕ) → P j ≡ (γ && same 0 j)) → ((s : SignalNo) → M s ≡ (γ && only x s)) → Unhalted
      → Runs E H (leaf (Emit x)) γ ρ P M W
  unfolding start resume active K Redo Par
  emit_runs x cs es hs =
      record {
        codes = λ ok j. rw (cs j) (leaf_live γ ρ (same 0 j) (same 0 j));
        emits = λ ok s. rw (es s) (leaf_live γ ρ (only x s) false);
        halts = λ ok h. rw (hs h) (none_live γ (ρ && false));
        both = λ j. none_both ρ (P j) _;
      }

  pub exit_runs : (k : ℕ) → ((j : ℕ) → P j ≡ (γ && same k j)) → Silent → Unhalted → Runs E H (leaf (Exit k)) γ ρ P M W
  unfolding start resume active K Redo Par
  exit_runs k cs es hs =
      record {
        codes = λ ok j. rw (cs j) (leaf_live γ ρ (same k j) (same 0 j));
        emits = λ ok s. rw (es s) (none_live γ (ρ && false));
        halts = λ ok h. rw (hs h) (none_live γ (ρ && false));
        both = λ j. none_both ρ (P j) _;
      }

  pub halt_runs : (k : HaltNo) → ((j : ℕ) → P j ≡ ((γ || (ρ && H k)) && same 1 j)) → Silent
      → ((h : HaltNo) → W h ≡ ((γ || (ρ && H k)) && only_halt k h)) → Runs E H (leaf (Halt k)) γ ρ P M W
  unfolding start resume active K Redo Par
  halt_runs k cs es hs =
      record {
        codes = λ ok j. rw (cs j) (halt_live γ ρ (H k) (same 1 j));
        emits = λ ok s. rw (es s) (none_live γ (ρ && H k));
        halts = λ ok h. rw (hs h) (halt_live γ ρ (H k) (only_halt k h));
        both = λ j. none_both ρ (P j) _;
      }
