-- A sheet is correct in 004's sense (3.3) where exactly one set of signals agrees with the paper's rules in every fitting state, and it has finitely many
-- derivatives (4.2): every derivative of its body is what a fitting state stands for.
use mathlib.Core.Path.{◌≡◌, refl, sym, ◌∙◌, ap, subst, fun_ext}
use mathlib.Core.Bool.{true}
use Prim.Native.Nat.{ℕ}
use Rattle.number.specs.Counts.{stmt_no}
use Rattle.number.specs.Number.{pick}
use Rattle.sheet.specs.Stmt.{Stmt}
use Rattle.sheet.specs.Read.{Sheet}
use Rattle.sheet.specs.Form.{Proper}
use Rattle.sheet.proofs.Notions.{proper_numbered}
use Rattle.sets.specs.Codes.{empty}
use Rattle.sets.specs.Faults.{instant, twice}
use Rattle.rules.specs.Rules.{Signals, Halts, Outcome}
use Rattle.rules.specs.States.{State, fresh, react, next_state, Event, Agrees, fits}
use Rattle.rules.proofs.Again.{none, fits_again, fits_fresh}
use Rattle.agreement.specs.Demand.{WholeReaction}
use Rattle.berry.specs.Haltsets.{recovered}
use Rattle.berry.specs.Modules.{Transition, Move, Sole, Derivative, itself, onward, Correct, body, haltset_of, move_on, Faithful, FromHaltset}
use Rattle.berry.proofs.Faithfulness.{faithful}
use Rattle.berry.proofs.Finite.{from_haltset}
use Rattle.std.specs.Prelude.{None}

module _ (w : Sheet) (proper : Proper w.inputs w.outputs w.root) (clear : instant (stmt_no 0) w.root ≡ None)
    (once : twice (stmt_no 0) w.root ≡ None)
    (reaction : (J : Signals) (S : State) → fits S w.root ≡ true → Event w.inputs J → WholeReaction w J S) where
  abbrev t : Stmt
  t = w.root

  pub faithful_reaction : (S : State) → fits S t ≡ true → (J : Signals) → Event w.inputs J → (E : Signals) → Agrees J S E t → Faithful w S J (react E S t)
  faithful_reaction S f J event E agrees =
      let r = reaction J S f event in
      faithful w proper clear once S f J event E agrees (λ F a. fun_ext (λ s. r.alone F a s ∙ sym (r.alone E agrees s)))

  -- p is what a fitting state stands for
  record Stands (p : Stmt) : Type 0 where
    state : State
    fitting : fits state t ≡ true
    is : p ≡ recovered (haltset_of state t) (body t)

  -- what the one set says in that state
  module _ (S : State) (f : fits S t ≡ true) (J : Signals) (event : Event w.inputs J) where
    the_set : Signals
    the_set = (reaction J S f event).present

    ours : Faithful w S J (react the_set S t)
    unfolding the_set
    ours = faithful_reaction S f J event the_set (reaction J S f event).agrees

  fresh_stands : Stands (body t)
  unfolding recovered haltset_of pick
  fresh_stands = record { state = fresh; fitting = fits_fresh t; is = rw (none empty (body t) (λ h e. refl)) }

  next_stands : {J O : Signals} {k : ℕ} {H : Halts} {q q' : Stmt} → Event w.inputs J → Transition J q O k H q' → Stands q → Stands q'
  next_stands {J = J} {O = O} {k = k} {H = H} {q' = q'} event d s =
      let S : State = s.state in
      let f : fits S t ≡ true = s.fitting in
      let d' : Transition J (recovered (haltset_of S t) (body t)) O k H q' = rw s.is at d in
      record {
        state = next_state (react (the_set S f J event) S t);
        fitting = fits_again proper clear (the_set S f J event) S f;
        is = ap (λ (m : Move). m.derivative) ((ours S f J event).sole_with_halt.alone d');
      }

  stands : (p : Stmt) → Derivative w.inputs (body t) p → Stands p
  stands p itself = fresh_stands
  stands p (onward r event d) = next_stands event d (stands _ r)

  pub correct_sheet : Correct w.inputs (body t)
  correct_sheet p r I event =
      let s = stands p r in
      let o : Outcome = react (the_set s.state s.fitting I event) s.state t in
      record { move = move_on w o; sole = subst (λ (q : Stmt). Sole I q (move_on w o)) (sym s.is) (ours s.state s.fitting I event).sole_with_halt }

  pub finite_sheet : (p : Stmt) → Derivative w.inputs (body t) p → FromHaltset t p
  finite_sheet p r = let s = stands p r in rw s.is (from_haltset t (proper_numbered proper) (haltset_of s.state t))
