-- The loop. Where a parallel is resumed its part does not end, by INSTANT and TWICE; so the go that it makes itself is made where none is.
use mathlib.Core.Path.{◌≡◌}
use mathlib.Core.Bool.{Bool, false, not, ◌&&◌, ◌||◌}
use Prim.Native.Nat.{ℕ, zero, suc}
use Rattle.number.specs.declared.SignalNo.{SignalNo}
use Rattle.number.specs.declared.HaltNo.{HaltNo}
use Rattle.number.proofs.Bools.{taut}
use Rattle.sheet.specs.declared.Unary.TheVariants.{Loop}
use Rattle.sheet.specs.Stmt.{Stmt, one}
use Rattle.sets.specs.Codes.{Codes, same, less0}
use Rattle.sets.specs.Static.{K}
use Rattle.rules.specs.Rules.{Signals, Halts, Outcome, followed, start, active, resume}
use Rattle.rules.proofs.Halting.{resume_halting}
use Rattle.agreement.proofs.Restarts.{Redo}
use Rattle.agreement.proofs.Sound.{Par, Sound}
use Rattle.agreement.proofs.Runs.{live, Runs, start_code_in, followed_code, followed_emits, followed_halts}

no_end : (u x k c : Bool) → ((u && x) && not (k || c)) ≡ false → k ≡ false → c ≡ false → (u && x) ≡ false
no_end = taut 4 3 _ _ _ tt

own_go : (γ g x u : Bool) → (γ && u) ≡ false → (u && x) ≡ false → g ≡ (γ || x) → (g && u) ≡ false
own_go = taut 4 3 _ _ _ tt

not_in : (a k : Bool) → (a && not k) ≡ false → k ≡ false → a ≡ false
not_in = taut 2 2 _ _ _ tt

loop_end : (γ ρ a c : Bool) → a ≡ false → false ≡ live γ ρ a (c && a)
loop_end = taut 4 1 _ _ _ tt

loop_live : (γ g x ρ a0 c0 a c : Bool) → g ≡ (γ || x) → x ≡ live g ρ a0 c0 → a0 ≡ false → live g ρ a c ≡ live γ ρ a (c || (c0 && a))
loop_live = taut 8 3 _ _ _ tt

low_both : (u y : Bool) → ((u && false) && y) ≡ false
low_both = taut 2 0 _ _ _ tt

module _ (E : Signals) (H : Halts) (p : Stmt) (γ g ρ : Bool) (Pp P : Codes) (M : Signals) (W : Halts) (sp : Sound H p)
    (k0 : K p 0 ≡ false) (c0 : Redo p 0 ≡ false) (rp : Runs E H p g ρ Pp M W)
    (feed : g ≡ (γ || Pp 0)) (at0 : P 0 ≡ false) (ats : (j : ℕ) → P (suc j) ≡ Pp (suc j)) where
  -- started and resumed
  abbrev a : Outcome
  a = start E p

  abbrev c : Outcome
  c = resume E H p

  abbrev u : Bool
  u = ρ && Par E H p

  abbrev r : Bool
  r = ρ && active H p

  goes : (γ && u) ≡ false → (g && u) ≡ false
  goes ok = own_go γ g (Pp 0) u ok (no_end u (Pp 0) (K p 0) (Redo p 0) (rp.both 0) k0 c0) feed

  start_goes_on : same a.code 0 ≡ false
  start_goes_on = not_in (same a.code 0) (K p 0) (start_code_in E H p sp 0) k0

  loop_codes : (γ && u) ≡ false → (j : ℕ) → P j ≡ live γ r (same a.code j) (same (followed c a).code j)
  loop_codes ok zero = rw (at0, followed_code c a 0) (loop_end γ r (same a.code 0) (same c.code 0) start_goes_on)
  loop_codes ok (suc j) =
      rw (ats j, rp.codes (goes ok) (suc j), followed_code c a (suc j))
      (loop_live γ g (Pp 0) r (same a.code 0) (same c.code 0) (same a.code (suc j)) (same c.code (suc j)) feed
      (rp.codes (goes ok) 0) start_goes_on)

  loop_emits : (γ && u) ≡ false → (s : SignalNo) → M s ≡ live γ r (a.emits s) ((followed c a).emits s)
  loop_emits ok s =
      rw (rp.emits (goes ok) s, followed_emits c a s)
      (loop_live γ g (Pp 0) r (same a.code 0) (same c.code 0) (a.emits s) (c.emits s) feed (rp.codes (goes ok) 0) start_goes_on)

  loop_halts : (γ && u) ≡ false → (h : HaltNo) → W h ≡ live γ r (a.halts h) ((followed c a).halts h)
  loop_halts ok h =
      rw (rp.halts (goes ok) h, followed_halts c a (resume_halting sp.traps E H p sp.exits) h)
      (loop_live γ g (Pp 0) r (same a.code 0) (same c.code 0) (a.halts h) (c.halts h) feed (rp.codes (goes ok) 0) start_goes_on)

  loop_both : (j : ℕ) → ((u && P j) && not (less0 (K p) j || Redo p j)) ≡ false
  loop_both zero = rw at0 (low_both u _)
  loop_both (suc j) = rw (ats j) (rp.both (suc j))

  pub loop_runs : Runs E H (one Loop p) γ ρ P M W
  unfolding start resume active K Redo Par
  loop_runs = record { codes = loop_codes; emits = loop_emits; halts = loop_halts; both = loop_both }
