-- The trap, and the signal statement.
use mathlib.Core.Path.{◌≡◌, refl}
use mathlib.Core.Bool.{Bool, false, not, ◌&&◌, ◌||◌}
use Prim.Native.Nat.{ℕ, zero, suc}
use Rattle.number.specs.declared.SignalNo.{SignalNo}
use Rattle.number.proofs.Bools.{taut}
use Rattle.sheet.specs.declared.Unary.TheVariants.{Trap, Signal}
use Rattle.sheet.specs.Stmt.{Stmt, one}
use Rattle.sets.specs.Codes.{Codes, same, caught, caught_codes}
use Rattle.sets.specs.Static.{K, R}
use Rattle.rules.specs.Rules.{Signals, Halts, start, active, resume}
use Rattle.agreement.proofs.Restarts.{Redo}
use Rattle.agreement.proofs.Sound.{Par}
use Rattle.agreement.proofs.Runs.{live, Runs}

caught_code : (a j : ℕ) → same (caught a) j ≡ caught_codes (same a) j
caught_code zero zero = refl
caught_code zero (suc zero) = refl
caught_code zero (suc (suc j)) = refl
caught_code (suc zero) zero = refl
caught_code (suc zero) (suc zero) = refl
caught_code (suc zero) (suc (suc j)) = refl
caught_code (suc (suc zero)) zero = refl
caught_code (suc (suc zero)) (suc zero) = refl
caught_code (suc (suc zero)) (suc (suc j)) = refl
caught_code (suc (suc (suc a))) zero = refl
caught_code (suc (suc (suc a))) (suc zero) = refl
caught_code (suc (suc (suc a))) (suc (suc j)) = refl

either_live : (γ ρ a b c d : Bool) → (live γ ρ a c || live γ ρ b d) ≡ live γ ρ (a || b) (c || d)
either_live = taut 6 0 _ _ _ tt

either_both : (u x y k0 k2 c0 c2 : Bool) → ((u && x) && not (k0 || c0)) ≡ false → ((u && y) && not (k2 || c2)) ≡ false
    → ((u && (x || y)) && not ((k0 || k2) || (c0 || c2))) ≡ false
either_both = taut 7 2 _ _ _ tt

module _ (E : Signals) (H : Halts) (p : Stmt) (γ ρ : Bool) (Pp P : Codes) (M : Signals) (W : Halts) (rp : Runs E H p γ ρ Pp M W)
    (at0 : P 0 ≡ (Pp 0 || Pp 2)) (at1 : P 1 ≡ Pp 1) (ats : (j : ℕ) → P (suc (suc j)) ≡ Pp (suc (suc (suc j)))) where
  -- the codes started and resumed with
  abbrev a : ℕ
  a = (start E p).code

  abbrev c : ℕ
  c = (resume E H p).code

  trap_codes : (γ && (ρ && Par E H p)) ≡ false → (j : ℕ) → P j ≡ live γ (ρ && active H p) (same (caught a) j) (same (caught c) j)
  trap_codes ok zero =
      rw (at0, rp.codes ok 0, rp.codes ok 2, caught_code a 0, caught_code c 0)
      (either_live γ (ρ && active H p) (same a 0) (same a 2) (same c 0) (same c 2))
  trap_codes ok (suc zero) = rw (at1, rp.codes ok 1, caught_code a 1, caught_code c 1)
  trap_codes ok (suc (suc j)) = rw (ats j, rp.codes ok (suc (suc (suc j))), caught_code a (suc (suc j)), caught_code c (suc (suc j)))

  trap_both : (j : ℕ) → (((ρ && Par E H p) && P j) && not (caught_codes (K p) j || caught_codes (Redo p) j)) ≡ false
  trap_both zero = rw at0 (either_both (ρ && Par E H p) (Pp 0) (Pp 2) (K p 0) (K p 2) (Redo p 0) (Redo p 2) (rp.both 0) (rp.both 2))
  trap_both (suc zero) = rw at1 (rp.both 1)
  trap_both (suc (suc j)) = rw (ats j) (rp.both (suc (suc (suc j))))

  pub trap_runs : Runs E H (one Trap p) γ ρ P M W
  unfolding start resume active K Redo Par
  trap_runs = record { codes = trap_codes; emits = rp.emits; halts = rp.halts; both = trap_both }

more_both : (x k r c : Bool) → (x && not (k || c)) ≡ false → (x && not (k || (r || c))) ≡ false
more_both = taut 4 1 _ _ _ tt

pub signal_runs : (E : Signals) (H : Halts) (x : SignalNo) (p : Stmt) (γ ρ : Bool) (P : Codes) (M : Signals) (W : Halts) → Runs E H p γ ρ P M W
    → Runs E H (one (Signal x) p) γ ρ P M W
unfolding start resume active K Redo Par
signal_runs E H x p γ ρ P M W rp =
    record {
      codes = rp.codes;
      emits = rp.emits;
      halts = rp.halts;
      both = λ j. more_both ((ρ && Par E H p) && P j) (K p j) (R (one (Signal x) p) j) (Redo p j) (rp.both j);
    }
