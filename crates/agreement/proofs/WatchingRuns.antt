-- Watching: its part is resumed where s is absent.
use mathlib.Core.Path.{◌≡◌}
use mathlib.Core.Bool.{Bool, true, false, not, ◌&&◌, ◌||◌}
use Prim.Native.Nat.{ℕ, zero, suc}
use Rattle.number.specs.declared.SignalNo.{SignalNo}
use Rattle.number.specs.declared.HaltNo.{HaltNo}
use Rattle.number.specs.Number.{pick}
use Rattle.number.proofs.Bools.{taut}
use Rattle.sheet.specs.declared.Unary.TheVariants.{Watching}
use Rattle.sheet.specs.Stmt.{Stmt, one}
use Rattle.sets.specs.Codes.{Codes, same}
use Rattle.sets.specs.Static.{K}
use Rattle.rules.specs.Rules.{Signals, Halts, Outcome, idle, start, active, resume}
use Rattle.agreement.proofs.Restarts.{Redo}
use Rattle.agreement.proofs.Sound.{Par}
use Rattle.agreement.proofs.Runs.{live, Runs, choose, pick_code, pick_emits, pick_halts}

absent_ok : (γ ρ e u : Bool) → (γ && (ρ && (not e && u))) ≡ false → (γ && ((ρ && not e) && u)) ≡ false
absent_ok = taut 4 1 _ _ _ tt

cut_end : (γ ρ e h a c : Bool) → (live γ ((ρ && not e) && h) a c || ((ρ && h) && e)) ≡ live γ (ρ && h) a (choose e true c)
cut_end = taut 6 0 _ _ _ tt

cut_live : (γ ρ e h a c : Bool) → live γ ((ρ && not e) && h) a c ≡ live γ (ρ && h) a (choose e false c)
cut_live = taut 6 0 _ _ _ tt

cut_both : (ρ e u y h z : Bool) → (((ρ && not e) && u) && y && not z) ≡ false
    → (((ρ && (not e && u)) && (y || ((ρ && h) && e))) && not z) ≡ false
cut_both = taut 6 1 _ _ _ tt

past_both : (ρ e u y z : Bool) → (((ρ && not e) && u) && y && not z) ≡ false → (((ρ && (not e && u)) && y) && not z) ≡ false
past_both = taut 5 1 _ _ _ tt

module _ (E : Signals) (H : Halts) (s : SignalNo) (p : Stmt) (γ ρ : Bool) (Pp P : Codes) (M : Signals) (W : Halts)
    (rp : Runs E H p γ (ρ && not (E s)) Pp M W)
    (at0 : P 0 ≡ (Pp 0 || ((ρ && active H p) && E s))) (ats : (j : ℕ) → P (suc j) ≡ Pp (suc j)) where
  -- started and resumed
  abbrev a : Outcome
  a = start E p

  abbrev c : Outcome
  c = resume E H p

  abbrev h : Bool
  h = active H p

  abbrev Ok : Type 0
  Ok = (γ && (ρ && (not (E s) && Par E H p))) ≡ false

  part_ok : Ok → (γ && ((ρ && not (E s)) && Par E H p)) ≡ false
  part_ok ok = absent_ok γ ρ (E s) (Par E H p) ok

  watching_codes : Ok → (j : ℕ) → P j ≡ live γ (ρ && h) (same a.code j) (same (pick (E s) idle c).code j)
  watching_codes ok zero =
      rw (at0, rp.codes (part_ok ok) 0, pick_code (E s) idle c 0) (cut_end γ ρ (E s) h (same a.code 0) (same c.code 0))
  watching_codes ok (suc j) =
      rw (ats j, rp.codes (part_ok ok) (suc j), pick_code (E s) idle c (suc j))
      (cut_live γ ρ (E s) h (same a.code (suc j)) (same c.code (suc j)))

  watching_emits : Ok → (x : SignalNo) → M x ≡ live γ (ρ && h) (a.emits x) ((pick (E s) idle c).emits x)
  watching_emits ok x = rw (rp.emits (part_ok ok) x, pick_emits (E s) idle c x) (cut_live γ ρ (E s) h (a.emits x) (c.emits x))

  watching_halts : Ok → (k : HaltNo) → W k ≡ live γ (ρ && h) (a.halts k) ((pick (E s) idle c).halts k)
  watching_halts ok k = rw (rp.halts (part_ok ok) k, pick_halts (E s) idle c k) (cut_live γ ρ (E s) h (a.halts k) (c.halts k))

  watching_both : (j : ℕ) → (((ρ && (not (E s) && Par E H p)) && P j) && not (K p j || Redo p j)) ≡ false
  watching_both zero = rw at0 (cut_both ρ (E s) (Par E H p) (Pp 0) h (K p 0 || Redo p 0) (rp.both 0))
  watching_both (suc j) = rw (ats j) (past_both ρ (E s) (Par E H p) (Pp (suc j)) (K p (suc j) || Redo p (suc j)) (rp.both (suc j)))

  pub watching_runs : Runs E H (one (Watching s) p) γ ρ P M W
  unfolding start resume active K Redo Par
  watching_runs = record { codes = watching_codes; emits = watching_emits; halts = watching_halts; both = watching_both }
