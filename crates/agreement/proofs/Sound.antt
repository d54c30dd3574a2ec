-- What the proof asks of a statement in a state: notions of the proof alone, not of the paper.
use mathlib.Core.Path.{◌≡◌}
use mathlib.Core.Bool.{Bool, true, false, not, ◌&&◌, ◌||◌}
use Prim.Native.Nat.{ℕ}
use Rattle.number.specs.declared.HaltNo.{HaltNo}
use Rattle.number.specs.declared.SignalNo.{SignalNo}
use Rattle.number.proofs.Bools.{taut}
use Rattle.sheet.specs.Form.{halts_on}
use Rattle.sheet.specs.declared.Unary.{Unary}
use Rattle.sheet.specs.declared.Unary.TheVariants.{Loop, Watching, Trap, Signal}
use Rattle.sheet.specs.declared.Binary.{Binary}
use Rattle.sheet.specs.declared.Binary.TheVariants.{Sequence, Present, Parallel}
use Rattle.sheet.specs.Stmt.{Stmt, leaf, one, two, halt_count}
use Rattle.sheet.proofs.Notions.{Numbered, Exits, traps_in}
use Rattle.sets.specs.Static.{K}
use Rattle.rules.specs.Rules.{Signals, Halts, active}
use Rattle.rules.specs.States.{apart}
use Rattle.rules.proofs.Codes.{NoInstant, sequence_left, sequence_right, parallel_left, parallel_right}
use Rattle.agreement.proofs.Restarts.{NoRestart}

-- Take the outermost parallels which starting the statement may start: whether one of them is resumed when the statement is.
unfoldable pub Par : Signals → Halts → Stmt → Bool
unfolding active K
Par E H (leaf l) = false
Par E H (two Sequence p q) = Par E H p || (K p 0 && Par E H q)
Par E H (one Loop p) = Par E H p
Par E H (two (Present s) p q) = Par E H p || Par E H q
Par E H (one (Watching s) p) = not (E s) && Par E H p
Par E H (two Parallel p q) = active H p || active H q
Par E H (one Trap p) = Par E H p
Par E H (one (Signal s) p) = Par E H p

-- A statement under some traps, its halts numbered from some number on, with neither INSTANT nor TWICE, whose halts in H are kept apart.
pub record Sound (H : Halts) (t : Stmt) : Type 0 where
  pub traps : ℕ
  pub first : HaltNo
  pub exits : Exits traps t
  pub numbered : Numbered first t
  pub no_instant : NoInstant t
  pub no_twice : NoRestart t
  pub fit : apart H t ≡ true

-- so are its parts
module _ (H : Halts) where
  part_instant : (u : Unary) (p : Stmt) → NoInstant (one u p) → NoInstant p
  unfolding NoInstant
  part_instant Loop p w = w.1
  part_instant (Watching s) p w = w
  part_instant Trap p w = w
  part_instant (Signal s) p w = w

  part_twice : (u : Unary) (p : Stmt) → NoRestart (one u p) → NoRestart p
  unfolding NoRestart
  part_twice Loop p w = w.1
  part_twice (Watching s) p w = w
  part_twice Trap p w = w
  part_twice (Signal s) p w = w

  pub sound_one : (u : Unary) (p : Stmt) → Sound H (one u p) → Sound H p
  unfolding Exits Numbered apart
  sound_one u p w =
      record {
        traps = traps_in w.traps u;
        first = w.first;
        exits = w.exits.1;
        numbered = w.numbered;
        no_instant = part_instant u p w.no_instant;
        no_twice = part_twice u p w.no_twice;
        fit = w.fit;
      }

  fit_left : (b : Binary) (p q : Stmt) → apart H (two b p q) ≡ true → apart H p ≡ true
  unfolding apart
  fit_left Sequence p q f = sequence_left H p q f
  fit_left (Present s) p q f = sequence_left H p q f
  fit_left Parallel p q f = parallel_left H p q f

  fit_right : (b : Binary) (p q : Stmt) → apart H (two b p q) ≡ true → apart H q ≡ true
  unfolding apart
  fit_right Sequence p q f = sequence_right H p q f
  fit_right (Present s) p q f = sequence_right H p q f
  fit_right Parallel p q f = parallel_right H p q f

  pub sound_left : (b : Binary) (p q : Stmt) → Sound H (two b p q) → Sound H p
  unfolding Exits Numbered NoInstant NoRestart
  sound_left b p q w =
      record {
        traps = w.traps;
        first = w.first;
        exits = w.exits.0;
        numbered = w.numbered.0;
        no_instant = w.no_instant.0;
        no_twice = w.no_twice.0;
        fit = fit_left b p q w.fit;
      }

  pub sound_right : (b : Binary) (p q : Stmt) → Sound H (two b p q) → Sound H q
  unfolding Exits Numbered NoInstant NoRestart
  sound_right b p q w =
      record {
        traps = w.traps;
        first = halts_on w.first (halt_count p);
        exits = w.exits.1;
        numbered = w.numbered.1;
        no_instant = w.no_instant.1;
        no_twice = w.no_twice.1;
        fit = fit_right b p q w.fit;
      }

-- the two sides of a sequence or present have not both halts
first_not : (x y z : Bool) → (not x && (y && z)) ≡ true → x ≡ false
first_not = taut 3 1 _ _ _ tt

module _ (H : Halts) (p q : Stmt) where
  pub sequence_side : apart H (two Sequence p q) ≡ true → (active H p && active H q) ≡ false
  unfolding apart
  sequence_side f = first_not (active H p && active H q) (apart H p) (apart H q) f

  pub present_side : (s : SignalNo) → apart H (two (Present s) p q) ≡ true → (active H p && active H q) ≡ false
  unfolding apart
  present_side s f = first_not (active H p && active H q) (apart H p) (apart H q) f
