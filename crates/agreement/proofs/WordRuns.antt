-- Runs over sets as numbers: by induction over the events program and netlist go through the same outputs and states.
use mathlib.Core.Path.{◌≡◌, refl, sym, ap₂, subst}
use mathlib.Core.Bool.{true}
use mathlib.Core.List.{List, [], ◌∷◌}
use Prim.Native.Nat.{ℕ, ◌^◌, ◌<◌}
use native.Mathlib.Omega.{arith}
use Rattle.number.proofs.Bools.{and_left, and_right, and_both}
use Rattle.bits.specs.Bits.{has, width}
use Rattle.bits.proofs.Laws.{empty}
use Rattle.sheet.specs.Stmt.{Stmt}
use Rattle.sheet.specs.Read.{Sheet}
use Rattle.rules.specs.States.{State, fresh, fits}
use Rattle.rules.proofs.Again.{fits_fresh}
use Rattle.cells.specs.Values.{registers}
use Rattle.builder.specs.Netlist.{sheet_netlist}
use Rattle.run.specs.Words.{event_ok, state_ok}
use Rattle.run.specs.Many.{Step, Steps, ended, goes, each}
use Rattle.compiler.specs.Check.{Accepted}
use Rattle.agreement.specs.Words.{RuleClock, NetClock, WordReaction, EventWords, WordRun}
use Rattle.agreement.proofs.Admitted.{admitted}
use Rattle.agreement.proofs.InWords.{word_reaction, state_ok_lem}

-- One step more at the head of a run: where it and the rest have one answer each, the whole has one.
one_more : (step : Step) {state event o n : ℕ} {events os ns : List ℕ} → ((a m : ℕ) → step state event a m → (a ≡ o) × (m ≡ n))
    → ((xs ys : List ℕ) → Steps step n events xs ys → (xs ≡ os) × (ys ≡ ns))
    → (xs ys : List ℕ) → Steps step state (event ∷ events) xs ys → (xs ≡ o ∷ os) × (ys ≡ n ∷ ns)
one_more step {events = events} alone later _ _ (goes {signals = a} {next = m} {shown = xs} {states = ys} first rest) =
    let same = alone a m first in
    let rest_same = later xs ys (subst (λ (s : ℕ). Steps step s events xs ys) same.1 rest) in (
      ap₂ {C = List ℕ} (λ (x : ℕ) (l : List ℕ). x ∷ l) same.0 rest_same.0,
      ap₂ {C = List ℕ} (λ (x : ℕ) (l : List ℕ). x ∷ l) same.1 rest_same.1,
    )

run_more : (w : Sheet) (state event : ℕ) (events : List ℕ) (r : WordReaction w state event) → WordRun w r.next events → WordRun w state (event ∷ events)
unfolding each
run_more w state event events r rest =
    record {
      shown = r.outputs ∷ rest.shown;
      states = r.next ∷ rest.states;
      rules = goes r.rules rest.rules;
      alone = one_more (RuleClock w) r.alone rest.alone;
      netlist = goes r.netlist rest.netlist;
      single = one_more (NetClock w) r.single rest.single;
      taken = and_both (state_ok (registers (sheet_netlist w)) state) _ r.state_taken rest.taken;
    }

no_steps : (step : Step) {state : ℕ} (xs ys : List ℕ) → Steps step state [] xs ys → (xs ≡ []) × (ys ≡ [])
no_steps step _ _ ended = (refl, refl)

run_none : (w : Sheet) (state : ℕ) → state_ok (registers (sheet_netlist w)) state ≡ true → WordRun w state []
unfolding each
run_none w state ok =
    record {
      shown = [];
      states = [];
      rules = ended;
      alone = no_steps (RuleClock w);
      netlist = ended;
      single = no_steps (NetClock w);
      taken = and_both (state_ok (registers (sheet_netlist w)) state) true ok refl;
    }

-- "Fresh is 0.", and it fits every statement
pub fresh_fits : (t : Stmt) → fits (has 0) t ≡ true
fresh_fits t = subst (λ (S : State). fits S t ≡ true) (λ i b. nothing b i) (fits_fresh t)
  where
    nothing : (b : ℕ) → fresh b ≡ has 0 b
    nothing b = sym (empty b)

module _ {bytes : List ℕ} {w : Sheet} (accepted : Accepted bytes w) where
  -- a run from any state that fits, over any list of events
  pub word_run : (events : List ℕ) (state : ℕ) → state < 2 ^ width → fits (has state) w.root ≡ true → EventWords w.inputs events
      → WordRun w state events
  unfolding each
  word_run [] state small fit own = run_none w state (state_ok_lem w (admitted accepted) state small fit)
  word_run (e ∷ es) state small fit own =
      let I : ℕ = w.inputs in
      let r : WordReaction w state e = word_reaction accepted state small fit e (and_left (event_ok I e) (each (event_ok I) es) own) in
      run_more w state e es r (word_run es r.next r.small r.again (and_right (event_ok I e) (each (event_ok I) es) own))

  -- .. and from fresh
  pub word_theorem : (events : List ℕ) → EventWords w.inputs events → WordRun w 0 events
  word_theorem events own = word_run events 0 (omega arith) (fresh_fits w.root) own
