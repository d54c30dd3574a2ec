-- The sequence: its nets run where those of its parts do.
use mathlib.Core.Path.{◌≡◌}
use mathlib.Core.Bool.{Bool, false, not, ◌&&◌, ◌||◌}
use Prim.Native.Nat.{ℕ, zero, suc}
use Rattle.number.specs.declared.SignalNo.{SignalNo}
use Rattle.number.specs.declared.HaltNo.{HaltNo}
use Rattle.number.specs.Number.{pick}
use Rattle.number.proofs.Bools.{taut}
use Rattle.sheet.specs.declared.Binary.TheVariants.{Sequence}
use Rattle.sheet.specs.Stmt.{Stmt, two}
use Rattle.sets.specs.Codes.{Codes, same, replaced}
use Rattle.sets.specs.Static.{K}
use Rattle.rules.specs.Rules.{Signals, Halts, Outcome, followed, start, active, resume}
use Rattle.rules.proofs.Halting.{start_halting, resume_halting}
use Rattle.agreement.proofs.Restarts.{Redo}
use Rattle.agreement.proofs.Sound.{Par, Sound}
use Rattle.agreement.proofs.Runs.{live, Runs, par_active, started, start_code_in, choose}
use Rattle.agreement.proofs.Runs.{followed_code, followed_emits, followed_halts, pick_code, pick_emits, pick_halts}

-- no parallel of the left side is resumed; nor is one of the right, which the left side's end starts
left_ok : (γ ρ a b : Bool) → (γ && (ρ && (a || b))) ≡ false → (γ && (ρ && a)) ≡ false
left_ok = taut 4 1 _ _ _ tt

right_ok : (γ ρ hp hq a0 c0 k0 up uq : Bool) → (γ && (ρ && (up || (k0 && uq)))) ≡ false → (hp && hq) ≡ false → (uq && not hq) ≡ false
    → (a0 && not k0) ≡ false → (live γ (ρ && hp) a0 c0 && (ρ && uq)) ≡ false
right_ok = taut 9 4 _ _ _ tt

-- both sides' nets or'ed, the right side's go being the left side's code 0
ended_live : (γ ρ hp hq a0 b0 c0 d0 : Bool) → (hp && hq) ≡ false
    → live (live γ (ρ && hp) a0 c0) (ρ && hq) b0 d0 ≡ live γ (ρ && (hp || hq)) (a0 && b0) (choose hp (c0 && b0) d0)
ended_live = taut 8 1 _ _ _ tt

joined_live : (γ ρ hp hq a0 a b c0 c d : Bool) → (hp && hq) ≡ false
    → (live γ (ρ && hp) a c || live (live γ (ρ && hp) a0 c0) (ρ && hq) b d)
    ≡ live γ (ρ && (hp || hq)) (a || (a0 && b)) (choose hp (c || (c0 && b)) d)
joined_live = taut 10 1 _ _ _ tt

-- a code shown while one of the parallels is resumed: p is resumed and may start q, or q is resumed and p only started
right_both : (ρ up uq hp hq x y k0 kq c0 cq : Bool) → (up && not hp) ≡ false → (uq && not hq) ≡ false → (hp && hq) ≡ false
    → (((ρ && up) && x) && not (k0 || c0)) ≡ false → (not hq && (y && not (x && kq))) ≡ false → (((ρ && uq) && y) && not (kq || cq)) ≡ false
    → (((ρ && (up || (k0 && uq))) && y) && not ((k0 && kq) || ((c0 && kq) || (k0 && cq)))) ≡ false
right_both = taut 11 6 _ _ _ tt

left_both : (ρ up uq hp hq x γ k0 kp cp : Bool) → (up && not hp) ≡ false → (uq && not hq) ≡ false → (hp && hq) ≡ false
    → (((ρ && up) && x) && not (kp || cp)) ≡ false → (not hp && (x && not (γ && kp))) ≡ false
    → (((ρ && (up || (k0 && uq))) && x) && not (kp || cp)) ≡ false
left_both = taut 10 5 _ _ _ tt

joined_both : (u x y kp cp a b c : Bool) → ((u && x) && not (kp || cp)) ≡ false → ((u && y) && not (a || (b || c))) ≡ false
    → ((u && (x || y)) && not ((kp || a) || ((cp || b) || c))) ≡ false
joined_both = taut 8 2 _ _ _ tt

module _ (E : Signals) (H : Halts) (p q : Stmt) (γ ρ : Bool) (Pp Pq P : Codes) (Mp Mq M : Signals) (Wp Wq W : Halts)
    (sp : Sound H p) (sq : Sound H q) (side : (active H p && active H q) ≡ false)
    (rp : Runs E H p γ ρ Pp Mp Wp) (rq : Runs E H q (Pp 0) ρ Pq Mq Wq)
    (at0 : P 0 ≡ Pq 0) (ats : (j : ℕ) → P (suc j) ≡ (Pp (suc j) || Pq (suc j)))
    (em : (s : SignalNo) → M s ≡ (Mp s || Mq s)) (hm : (h : HaltNo) → W h ≡ (Wp h || Wq h)) where
  abbrev hp : Bool
  hp = active H p

  abbrev hq : Bool
  hq = active H q

  abbrev up : Bool
  up = Par E H p

  abbrev uq : Bool
  uq = Par E H q

  -- started and resumed, left and right
  abbrev a : Outcome
  a = start E p

  abbrev b : Outcome
  b = start E q

  abbrev c : Outcome
  c = resume E H p

  abbrev d : Outcome
  d = resume E H q

  abbrev Ok : Type 0
  Ok = (γ && (ρ && (up || (K p 0 && uq)))) ≡ false

  ok_p : Ok → (γ && (ρ && up)) ≡ false
  ok_p ok = left_ok γ ρ up (K p 0 && uq) ok

  ok_q : Ok → (Pp 0 && (ρ && uq)) ≡ false
  ok_q ok =
      rw (rp.codes (ok_p ok) 0)
      (right_ok γ ρ hp hq (same a.code 0) (same c.code 0) (K p 0) up uq ok side (par_active E H q) (start_code_in E H p sp 0))

  sequence_codes : Ok → (j : ℕ) → P j ≡ live γ (ρ && (hp || hq)) (same (followed a b).code j) (same (pick hp (followed c b) d).code j)
  sequence_codes ok zero =
      rw (at0, rq.codes (ok_q ok) 0, rp.codes (ok_p ok) 0, followed_code a b 0, pick_code hp (followed c b) d 0, followed_code c b 0)
      (ended_live γ ρ hp hq (same a.code 0) (same b.code 0) (same c.code 0) (same d.code 0) side)
  sequence_codes ok (suc j) =
      rw (
        ats j,
        rq.codes (ok_q ok) (suc j),
        rp.codes (ok_p ok) (suc j),
        rp.codes (ok_p ok) 0,
        followed_code a b (suc j),
        pick_code hp (followed c b) d (suc j),
        followed_code c b (suc j),
      )
      (joined_live γ ρ hp hq (same a.code 0) (same a.code (suc j)) (same b.code (suc j))
      (same c.code 0) (same c.code (suc j)) (same d.code (suc j)) side)

  sequence_emits : Ok → (s : SignalNo) → M s ≡ live γ (ρ && (hp || hq)) ((followed a b).emits s) ((pick hp (followed c b) d).emits s)
  sequence_emits ok s =
      rw (
        em s,
        rq.emits (ok_q ok) s,
        rp.emits (ok_p ok) s,
        rp.codes (ok_p ok) 0,
        followed_emits a b s,
        pick_emits hp (followed c b) d s,
        followed_emits c b s,
      )
      (joined_live γ ρ hp hq (same a.code 0) (a.emits s) (b.emits s) (same c.code 0) (c.emits s) (d.emits s) side)

  sequence_halts : Ok → (h : HaltNo) → W h ≡ live γ (ρ && (hp || hq)) ((followed a b).halts h) ((pick hp (followed c b) d).halts h)
  sequence_halts ok h =
      rw (
        hm h,
        rq.halts (ok_q ok) h,
        rp.halts (ok_p ok) h,
        rp.codes (ok_p ok) 0,
        followed_halts a b (start_halting sp.traps E p sp.exits) h,
        pick_halts hp (followed c b) d h,
        followed_halts c b (resume_halting sp.traps E H p sp.exits) h,
      )
      (joined_live γ ρ hp hq (same a.code 0) (a.halts h) (b.halts h) (same c.code 0) (c.halts h) (d.halts h) side)

  from_q : (j : ℕ) → (((ρ && (up || (K p 0 && uq))) && Pq j) && not ((K p 0 && K q j) || ((Redo p 0 && K q j) || (K p 0 && Redo q j)))) ≡ false
  from_q j =
      right_both ρ up uq hp hq (Pp 0) (Pq j) (K p 0) (K q j) (Redo p 0) (Redo q j) (par_active E H p) (par_active E H q) side
      (rp.both 0) (started E H q (Pp 0) ρ Pq Mq Wq sq rq j) (rq.both j)

  from_p : (j : ℕ) → (((ρ && (up || (K p 0 && uq))) && Pp j) && not (K p j || Redo p j)) ≡ false
  from_p j =
      left_both ρ up uq hp hq (Pp j) γ (K p 0) (K p j) (Redo p j) (par_active E H p) (par_active E H q) side
      (rp.both j) (started E H p γ ρ Pp Mp Wp sp rp j)

  sequence_both : (j : ℕ)
      → (((ρ && (up || (K p 0 && uq))) && P j) && not (replaced (K p) (K q) j || (replaced (Redo p) (K q) j || (K p 0 && Redo q j)))) ≡ false
  sequence_both zero = rw at0 (from_q 0)
  sequence_both (suc j) =
      rw (ats j)
      (joined_both (ρ && (up || (K p 0 && uq))) (Pp (suc j)) (Pq (suc j)) (K p (suc j)) (Redo p (suc j))
      (K p 0 && K q (suc j)) (Redo p 0 && K q (suc j)) (K p 0 && Redo q (suc j)) (from_p (suc j)) (from_q (suc j)))

  pub sequence_runs : Runs E H (two Sequence p q) γ ρ P M W
  unfolding start resume active K Redo Par
  sequence_runs = record { codes = sequence_codes; emits = sequence_emits; halts = sequence_halts; both = sequence_both }
