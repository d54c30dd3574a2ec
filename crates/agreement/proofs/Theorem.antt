-- Demand 3, for every accepted sheet: the theorems that others use; over words they are `word_reaction` (InWords) and `word_run`, `word_theorem`
-- (WordRuns). How they come about: by induction on the statement, for any values that solve its cells while the signals' cells are left open, its nets
-- do what the start and resumption rules say (Runs and the files named after each kind; Right, Structure). `both` of Runs is carried along, so that
-- INSTANT and TWICE keep a loop's code 0 low (Restarts alone uses TWICE). So what a signal's cell asks for is the set made anew of tick, inputs and
-- emissions (Root, Made). A solution therefore shows a set that agrees; a set that agrees, held at the signals' cells, gives a solution, and there is
-- one (Agreeing); and by the rank of the signals' cells each round sets one signal more right (Settles).
use mathlib.Core.Path.{◌≡◌, refl, sym, ◌∙◌, ap, ap₂, subst, fun_ext}
use mathlib.Core.Bool.{Bool, true}
use mathlib.Core.List.{List, [], ◌∷◌}
use Prim.Native.Nat.{ℕ}
use Rattle.number.specs.declared.CellNo.{CellNo}
use Rattle.sheet.specs.Stmt.{Stmt}
use Rattle.sheet.specs.Read.{Sheet}
use Rattle.rules.specs.Rules.{Signals}
use Rattle.rules.specs.States.{State, fresh, react, next_state, Event, fits}
use Rattle.rules.proofs.Again.{fits_fresh}
use Rattle.cells.specs.declared.Cell.{Cell}
use Rattle.cells.specs.Values.{next_of}
use Rattle.builder.specs.Netlist.{sheet_netlist}
use Rattle.compiler.specs.Check.{Accepted}
use Rattle.agreement.specs.Demand.{others, WholeReaction, RuleRun, NetRun, Shows, Events, WholeRun}
use Rattle.agreement.specs.Rounds.{ReachIn}
use Rattle.agreement.proofs.Admitted.{admitted}
use Rattle.agreement.proofs.Agreeing.{reaction_of}
use Rattle.agreement.proofs.Settles.{settles_at}

module _ {bytes : List ℕ} {w : Sheet} (ok : Accepted bytes w) where
  -- one reaction: exactly one set agrees, the netlist's one solution shows it and holds the rules' next state, which fits again
  pub reaction : (J : Signals) (S : State) → fits S w.root ≡ true → Event w.inputs J → WholeReaction w J S
  reaction J S fit event = reaction_of w (admitted ok) J event S fit

  -- applying the rules round by round reaches that set in at most as many rounds as there are outputs and locals, and stays there
  pub settles : (J : Signals) (S : State) (fit : fits S w.root ≡ true) (event : Event w.inputs J)
      → ReachIn (others w) J S w.root (reaction J S fit event).present
  settles J S fit event = settles_at w (admitted ok) J event S fit (reaction J S fit event)

-- One clock more at the head of a run.
module _ (w : Sheet) (J : Signals) (S : State) (Js : List Signals) (r : WholeReaction w J S)
    (rest : WholeRun w (next_state (react r.present S w.root)) Js) where
  abbrev t : Stmt
  t = w.root

  abbrev cells : List Cell
  cells = sheet_netlist w

  next_state_lem : next_of r.values cells ≡ next_state (react r.present S t)
  next_state_lem = fun_ext r.next

  rules_alone : (Es : List Signals) → RuleRun t S (J ∷ Js) Es → Es ≡ r.present ∷ rest.present
  unfolding RuleRun
  rules_alone [] h = absurd h
  rules_alone (E ∷ Es) h =
      let first : E ≡ r.present = fun_ext (r.alone E h.0) in
      ap₂ {B = List Signals} (λ (x : Signals) (y : List Signals). x ∷ y) first
      (rest.alone Es (subst (λ (X : Signals). RuleRun t (next_state (react X S t)) Js Es) first h.1))

  netlist_single : (vs : List (CellNo → Bool)) → NetRun cells S (J ∷ Js) vs → vs ≡ r.values ∷ rest.values
  unfolding NetRun
  netlist_single [] h = absurd h
  netlist_single (v ∷ vs) h =
      let first : v ≡ r.values = fun_ext (r.single v h.0) in
      let state : next_of v cells ≡ next_state (react r.present S t) = ap (λ (x : CellNo → Bool). next_of x cells) first ∙ next_state_lem in
      ap₂ {B = List (CellNo → Bool)} (λ (x : CellNo → Bool) (y : List (CellNo → Bool)). x ∷ y) first
      (rest.single vs (subst (λ (X : State). NetRun cells X Js vs) state h.1))

  run_more : WholeRun w S (J ∷ Js)
  unfolding RuleRun NetRun Shows
  run_more =
      record {
        present = r.present ∷ rest.present;
        agrees = (r.agrees, rest.agrees);
        alone = rules_alone;
        values = r.values ∷ rest.values;
        solves = (r.solves, subst (λ (X : State). NetRun cells X Js rest.values) (sym next_state_lem) rest.solves);
        single = netlist_single;
        shown = (r.shown, r.next, rest.shown);
      }

run_none : (w : Sheet) (S : State) → WholeRun w S []
unfolding RuleRun NetRun Shows
run_none w S = record { present = []; agrees = tt; alone = alone; values = []; solves = tt; single = single; shown = tt }
  where
    alone : (Es : List Signals) → RuleRun w.root S [] Es → Es ≡ []
    alone [] h = refl
    alone (E ∷ Es) h = absurd h

    single : (vs : List (CellNo → Bool)) → NetRun (sheet_netlist w) S [] vs → vs ≡ []
    single [] h = refl
    single (v ∷ vs) h = absurd h

module _ {bytes : List ℕ} {w : Sheet} (ok : Accepted bytes w) where
  -- a run from any state that fits, over any list of events
  pub run : (Js : List Signals) (S : State) → fits S w.root ≡ true → Events w.inputs Js → WholeRun w S Js
  unfolding Events
  run [] S fit events = run_none w S
  run (J ∷ Js) S fit events =
      let r : WholeReaction w J S = reaction ok J S fit events.0 in
      run_more w J S Js r (run Js (next_state (react r.present S w.root)) r.again events.1)

  -- .. and from fresh
  pub theorem : (Js : List Signals) → Events w.inputs Js → WholeRun w fresh Js
  theorem Js events = run Js fresh (fits_fresh w.root) events
