-- For a sheet that INSTANT and TWICE do not refuse a reaction of the paper's rules, under the one set that agrees, is the one transition of 004's rules.
use mathlib.Core.Path.{◌≡◌, refl, ◌∙◌, ap, subst, fun_ext}
use mathlib.Core.Bool.{Bool, true, false, not, ◌&&◌, ◌||◌}
use Prim.Native.Nat.{ℕ, ◌+◌, ◌<◌}
use native.Mathlib.Omega.{arith}
use native.Mathlib.Decide.{dec_lt}
use borrow.Author.Tests.{ltb-true, lt-ltb, ne_eqb}
use Rattle.number.specs.declared.SignalNo.{SignalNo}
use Rattle.number.specs.Counts.{signal_no, of_signal, halt_no, stmt_no}
use Rattle.number.specs.Number.{pick}
use Rattle.number.proofs.Bools.{taut}
use Rattle.sheet.specs.Stmt.{Stmt, halt_count}
use Rattle.sheet.specs.Read.{Sheet, only, root_around}
use Rattle.sheet.specs.Form.{Proper}
use Rattle.sheet.proofs.Notions.{Numbered, Exits, proper_numbered, proper_exits}
use Rattle.sets.specs.Faults.{instant, twice}
use Rattle.rules.specs.Rules.{Signals, Halts, Outcome, followed}
use Rattle.rules.specs.States.{State, halts_of, tick, react, next_state, Event, Agrees, fits}
use Rattle.rules.proofs.Codes.{NoInstant, no_instant}
use Rattle.rules.proofs.Halting.{react_halting, react_code}
use Rattle.rules.proofs.Own.{react_keeps}
use Rattle.rules.proofs.Again.{next_halts}
use Rattle.berry.specs.Behaviour.{locals_of}
use Rattle.berry.specs.Haltsets.{recovered}
use Rattle.berry.specs.Modules.{Transition, Move, move_of, body, haltset_of, stands_for, outputs_of, locals_in, move_on, Faithful}
use Rattle.berry.proofs.Derivatives.{recovers}
use Rattle.berry.proofs.Scopes.{Bound, placed_bound}
use Rattle.agreement.proofs.Restarts.{NoRestart, no_restart}
use Rattle.berry.proofs.Courses.{start_course, resume_course, react_course}
use Rattle.berry.proofs.Reactions.{Follows, Moves, resting, body_course, alone_follows, alone_lefts, body_follows, rest_level, rest_haltset}
use Rattle.berry.proofs.Reactions.{forward, backward}
use Rattle.std.specs.Prelude.{None}

-- the body with the added halt is numbered and its exits are as the root's
body_exits : (t : Stmt) → Exits 0 t → Exits 0 (body t)
unfolding Exits
body_exits t x = (x, tt)

pub body_numbered : (t : Stmt) → Numbered (halt_no 0) t → Numbered (halt_no 0) (body t)
unfolding Numbered
body_numbered t n = let next : halt_count t ≡ 0 + halt_count t = omega arith in (n, ap halt_no next)

module _ (w : Sheet) (proper : Proper w.inputs w.outputs w.root) (clear : instant (stmt_no 0) w.root ≡ None)
    (once : twice (stmt_no 0) w.root ≡ None) where
  abbrev t : Stmt
  t = w.root

  -- tick, inputs and outputs
  abbrev X : Signals
  X = (root_around w.inputs w.outputs).scope

  bound : Bound X t
  bound =
      placed_bound (root_around w.inputs w.outputs) (halt_no 0) (signal_no (1 + w.inputs + w.outputs)) t
      (λ x. ltb-true (of_signal x) (1 + w.inputs + w.outputs)) proper.placed

  exits : Exits 0 t
  exits = proper_exits proper

  numbered : Numbered (halt_no 0) t
  numbered = proper_numbered proper

  calm : NoInstant t
  calm = no_instant (stmt_no 0) t clear

  single : NoRestart t
  single = no_restart (stmt_no 0) t once

  inputs_in : (J : Signals) → Event w.inputs J → (s : SignalNo) → ((only tick s || J s) && not (X s)) ≡ false
  inputs_in J event s = go (dec_lt w.inputs (of_signal s))
    where
      known : (b : Bool) → (b && not true) ≡ false
      known = taut 1 0 _ _ _ tt

      go : Dec (w.inputs < of_signal s) → ((only tick s || J s) && not (X s)) ≡ false
      go (yes l) = rw (ne_eqb (of_signal s) 0 (λ e. omega arith), event.own s l)
      go (no l) = rw (lt-ltb (of_signal s) (1 + w.inputs + w.outputs) (omega arith)) (known (only tick s || J s))

  module _ (S : State) (f : fits S t ≡ true) (J : Signals) (event : Event w.inputs J) (E : Signals) (agrees : Agrees J S E t)
      (alone : (F : Signals) → Agrees J S F t → F ≡ E) where
    abbrev o : Outcome
    o = react E S t

    plain : Follows X S t (stands_for S t) (react_course S t)
    plain = alone_follows X S t exits calm single bound f

    added : Follows X S t (recovered (haltset_of S t) (body t)) (body_course S t)
    added = body_follows X S t exits calm single bound f numbered

    -- Without an added halt.
    abbrev becomes : Stmt
    becomes = (react_course S t).becomes E

    plain_says : {O : Signals} {k : ℕ} {H : Halts} {p : Stmt} (d : Transition J (stands_for S t) O k H p)
        → move_of d ≡ record { outputs = outputs_of w o.emits; level = o.code; haltset = o.halts; derivative = becomes; locals = locals_in w o.emits }
    unfolding react react_course start_course resume_course
    plain_says d =
        let r = backward X J S t bound (inputs_in J event) (stands_for S t) (react_course S t) plain d in
        let set : r.set ≡ E = alone r.set r.agrees in
        let outputs = r.outputs ∙ ap (λ (F : Signals). outputs_of w (react F S t).emits) set in
        let level = r.level ∙ ap (λ (F : Signals). (react F S t).code) set in
        let haltset = r.haltset ∙ ap (λ (F : Signals). (react F S t).halts) set in
        let derivative = r.derivative ∙ ap (λ (F : Signals). (react_course S t).becomes F) set in
        let locals = fun_ext r.locals ∙ ap (λ (F : Signals). locals_in w (react F S t).emits) set in
        λ i. record { outputs = outputs i; level = level i; haltset = haltset i; derivative = derivative i; locals = locals i }

    plain_moved : Transition J (stands_for S t) (outputs_of w o.emits) o.code o.halts becomes
    unfolding react react_course start_course resume_course
    plain_moved =
        let m = forward X J S t bound (inputs_in J event) (stands_for S t) (react_course S t) plain E agrees in
        subst (λ (p : Stmt). Transition J (stands_for S t) (outputs_of w o.emits) o.code o.halts p)
        (ap (λ (x : Move). x.derivative) (plain_says m.step)) m.step

    plain_onward : o.code ≡ 1 → becomes ≡ stands_for (next_state o) t
    unfolding stands_for pick
    plain_onward halts =
        let lefts = alone_lefts X S t exits calm single bound f numbered in
        let r = (lefts.left plain_moved).recovers halts (halts_of (next_state o)) (λ h e. next_halts o h) in
        r.1 ∙ rw r.0

    -- With the halt that 004 adds.
    abbrev next : Halts
    next = haltset_of (next_state o) t

    ended_level : (F : Signals) → (followed (react F S t) (resting t)).code ≡ 1
    ended_level F = rest_level t (react F S t) (react_code 0 F S t exits)

    ended_haltset : (followed o (resting t)).halts ≡ next
    ended_haltset = rest_haltset t o (react_code 0 E S t exits) (react_halting 0 E S t exits) (react_keeps E S t)

    derivative : {O : Signals} {k : ℕ} {H : Halts} {p : Stmt} → k ≡ 1 → Transition J (recovered (haltset_of S t) (body t)) O k H p → p ≡ recovered H (body t)
    derivative level d =
        (recovers 0 (halt_no 0) (body t) (body_exits t exits) (body_numbered t numbered) (haltset_of S t) (rw level at d)).derivative

    -- what the state stands for
    abbrev there : Stmt
    there = recovered (haltset_of S t) (body t)

    moved : Transition J there (outputs_of w o.emits) 1 next (recovered next (body t))
    unfolding body_course
    moved = subst (λ (p : Stmt). Transition J there (outputs_of w o.emits) 1 next p) (derivative refl one) one
      where
        moves : Moves J there (outputs_of w o.emits) (followed o (resting t))
        moves = forward X J S t bound (inputs_in J event) there (body_course S t) added E agrees

        one : Transition J there (outputs_of w o.emits) 1 next moves.becomes
        one = rw (ended_level E, ended_haltset) at moves.step

    all_say : {O : Signals} {k : ℕ} {H : Halts} {p : Stmt} (d : Transition J there O k H p) → move_of d ≡ move_on w o
    unfolding body_course
    all_say {O = O} {k = k} {H = H} {p = p} d =
        let r = backward X J S t bound (inputs_in J event) there (body_course S t) added d in
        let set : r.set ≡ E = alone r.set r.agrees in
        let outputs : O ≡ outputs_of w o.emits = r.outputs ∙ ap (λ (F : Signals). outputs_of w (react F S t).emits) set in
        let level : k ≡ 1 = r.level ∙ ended_level r.set in
        let haltset : H ≡ next = r.haltset ∙ ap (λ (F : Signals). (followed (react F S t) (resting t)).halts) set ∙ ended_haltset in
        let becomes : p ≡ recovered next (body t) = derivative level d ∙ ap (λ (G : Halts). recovered G (body t)) haltset in
        let locals : locals_of d ≡ locals_in w o.emits = fun_ext r.locals ∙ ap (λ (F : Signals). locals_in w (react F S t).emits) set in
        λ i. record { outputs = outputs i; level = level i; haltset = haltset i; derivative = becomes i; locals = locals i }

    pub faithful : Faithful w S J (react E S t)
    faithful =
        record {
          derivative = becomes;
          sole = record { step = plain_moved; alone = plain_says };
          onward = plain_onward;
          sole_with_halt = record { step = moved; alone = all_say };
        }
