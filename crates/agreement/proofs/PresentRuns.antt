-- The present: its nets run where those of its parts do.
use mathlib.Core.Path.{◌≡◌}
use mathlib.Core.Bool.{Bool, false, not, ◌&&◌, ◌||◌}
use Prim.Native.Nat.{ℕ}
use Rattle.number.specs.declared.SignalNo.{SignalNo}
use Rattle.number.specs.declared.HaltNo.{HaltNo}
use Rattle.number.specs.Number.{pick}
use Rattle.number.proofs.Bools.{taut}
use Rattle.sheet.specs.declared.Binary.TheVariants.{Present}
use Rattle.sheet.specs.Stmt.{Stmt, two}
use Rattle.sets.specs.Codes.{Codes, same}
use Rattle.sets.specs.Static.{K}
use Rattle.rules.specs.Rules.{Signals, Halts, Outcome, start, active, resume}
use Rattle.rules.proofs.Again.{swap}
use Rattle.agreement.proofs.Restarts.{Redo}
use Rattle.agreement.proofs.Sound.{Par, Sound}
use Rattle.agreement.proofs.Runs.{live, Runs, par_active, started, choose, pick_code, pick_emits, pick_halts}

left_ok : (γ ρ e a b : Bool) → (γ && (ρ && (a || b))) ≡ false → ((γ && e) && (ρ && a)) ≡ false
left_ok = taut 5 1 _ _ _ tt

right_ok : (γ ρ e a b : Bool) → (γ && (ρ && (a || b))) ≡ false → ((γ && not e) && (ρ && b)) ≡ false
right_ok = taut 5 1 _ _ _ tt

joined_live : (γ ρ e hp hq a b c d : Bool) → (hp && hq) ≡ false
    → (live (γ && e) (ρ && hp) a c || live (γ && not e) (ρ && hq) b d) ≡ live γ (ρ && (hp || hq)) (choose e a b) (choose hp c d)
joined_live = taut 9 1 _ _ _ tt

-- of two sides one of which has a parallel that is resumed, the other is only started
side_both : (ρ up uq hp hq x kp cp γ : Bool) → (up && not hp) ≡ false → (uq && not hq) ≡ false → (hp && hq) ≡ false
    → (((ρ && up) && x) && not (kp || cp)) ≡ false → (not hp && (x && not (γ && kp))) ≡ false → (((ρ && (up || uq)) && x) && not (kp || cp)) ≡ false
side_both = taut 9 5 _ _ _ tt

joined_both : (ρ up uq x y kp kq cp cq : Bool) → (((ρ && (up || uq)) && x) && not (kp || cp)) ≡ false
    → (((ρ && (uq || up)) && y) && not (kq || cq)) ≡ false → (((ρ && (up || uq)) && (x || y)) && not ((kp || kq) || (cp || cq))) ≡ false
joined_both = taut 9 2 _ _ _ tt

module _ (E : Signals) (H : Halts) (s : SignalNo) (p q : Stmt) (γ ρ : Bool) (Pp Pq P : Codes) (Mp Mq M : Signals) (Wp Wq W : Halts)
    (sp : Sound H p) (sq : Sound H q) (side : (active H p && active H q) ≡ false)
    (rp : Runs E H p (γ && E s) ρ Pp Mp Wp) (rq : Runs E H q (γ && not (E s)) ρ Pq Mq Wq)
    (at : (j : ℕ) → P j ≡ (Pp j || Pq j)) (em : (x : SignalNo) → M x ≡ (Mp x || Mq x)) (hm : (h : HaltNo) → W h ≡ (Wp h || Wq h)) where
  abbrev hp : Bool
  hp = active H p

  abbrev hq : Bool
  hq = active H q

  abbrev up : Bool
  up = Par E H p

  abbrev uq : Bool
  uq = Par E H q

  -- started and resumed, left and right
  abbrev a : Outcome
  a = start E p

  abbrev b : Outcome
  b = start E q

  abbrev c : Outcome
  c = resume E H p

  abbrev d : Outcome
  d = resume E H q

  abbrev Ok : Type 0
  Ok = (γ && (ρ && (up || uq))) ≡ false

  ok_p : Ok → ((γ && E s) && (ρ && up)) ≡ false
  ok_p ok = left_ok γ ρ (E s) up uq ok

  ok_q : Ok → ((γ && not (E s)) && (ρ && uq)) ≡ false
  ok_q ok = right_ok γ ρ (E s) up uq ok

  present_codes : Ok → (j : ℕ) → P j ≡ live γ (ρ && (hp || hq)) (same (pick (E s) a b).code j) (same (pick hp c d).code j)
  present_codes ok j =
      rw (at j, rp.codes (ok_p ok) j, rq.codes (ok_q ok) j, pick_code (E s) a b j, pick_code hp c d j)
      (joined_live γ ρ (E s) hp hq (same a.code j) (same b.code j) (same c.code j) (same d.code j) side)

  present_emits : Ok → (x : SignalNo) → M x ≡ live γ (ρ && (hp || hq)) ((pick (E s) a b).emits x) ((pick hp c d).emits x)
  present_emits ok x =
      rw (em x, rp.emits (ok_p ok) x, rq.emits (ok_q ok) x, pick_emits (E s) a b x, pick_emits hp c d x)
      (joined_live γ ρ (E s) hp hq (a.emits x) (b.emits x) (c.emits x) (d.emits x) side)

  present_halts : Ok → (h : HaltNo) → W h ≡ live γ (ρ && (hp || hq)) ((pick (E s) a b).halts h) ((pick hp c d).halts h)
  present_halts ok h =
      rw (hm h, rp.halts (ok_p ok) h, rq.halts (ok_q ok) h, pick_halts (E s) a b h, pick_halts hp c d h)
      (joined_live γ ρ (E s) hp hq (a.halts h) (b.halts h) (c.halts h) (d.halts h) side)

  from_p : (j : ℕ) → (((ρ && (up || uq)) && Pp j) && not (K p j || Redo p j)) ≡ false
  from_p j =
      side_both ρ up uq hp hq (Pp j) (K p j) (Redo p j) (γ && E s) (par_active E H p) (par_active E H q) side
      (rp.both j) (started E H p (γ && E s) ρ Pp Mp Wp sp rp j)

  from_q : (j : ℕ) → (((ρ && (uq || up)) && Pq j) && not (K q j || Redo q j)) ≡ false
  from_q j =
      side_both ρ uq up hq hp (Pq j) (K q j) (Redo q j) (γ && not (E s)) (par_active E H q) (par_active E H p) (swap hp hq side)
      (rq.both j) (started E H q (γ && not (E s)) ρ Pq Mq Wq sq rq j)

  present_both : (j : ℕ) → (((ρ && (up || uq)) && P j) && not ((K p j || K q j) || (Redo p j || Redo q j))) ≡ false
  present_both j = rw (at j) (joined_both ρ up uq (Pp j) (Pq j) (K p j) (K q j) (Redo p j) (Redo q j) (from_p j) (from_q j))

  pub present_runs : Runs E H (two (Present s) p q) γ ρ P M W
  unfolding start resume active K Redo Par
  present_runs = record { codes = present_codes; emits = present_emits; halts = present_halts; both = present_both }
