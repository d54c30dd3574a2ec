-- Nothing else satisfies the description of an entry that takes a netlist: two answers to the same arguments are equal, and so is what was lent after them.
use mathlib.Core.Path.{◌≡◌, sym, ◌∙◌}
use mathlib.Core.Bool.{true}
use mathlib.Core.List.{List}
use Prim.Native.Nat.{ℕ}
use native.Mathlib.Omega.{arith}
use Rattle.number.proofs.Bools.{and_right}
use Rattle.bits.specs.Bits.{is_whole, sets_in}
use Rattle.cells.specs.Netlist.{Netlist}
use Rattle.run.specs.Words.{event_ok}
use Rattle.run.specs.Many.{Steps, each}
use Rattle.run.proofs.Going.{SameSteps, one_run}
use Rattle.run.proofs.One.{one_clock}
use Rattle.files.specs.Read.{FileOutcome, netlist, faulty}
use Rattle.netlists.specs.Check.{NetChecks, accepted}
use Rattle.netlists.proofs.Checking as checking
use Rattle.verdicts.specs.declared.Answer.{Answer}
use Rattle.verdicts.specs.declared.Listing.{Listing}
use Rattle.verdicts.specs.declared.Reaction.{Reaction}
use Rattle.verdicts.specs.Answers.{stops, verdict}
use Rattle.verdicts.specs.Runs.{Asked, Told, needed, has_room, Once}
use Rattle.verdicts.proofs.Running.{all_pass, one_ran, one_once}
use Rattle.netlist_entries.specs.Files.{Filed, NetWritten}
use Rattle.netlist_entries.specs.Cells.{Handed, NetListed}
use Rattle.netlist_entries.specs.Netlists.{net_verdict, NetChecked, net_events, net_state, net_step, NetRuns, NetReactedMany}

-- the answer and what was lent
pub record Same {A : Type 0} (r r' : A) (lent lent' : List ℕ) : Type 0 where
  pub answer : r ≡ r'
  pub left : lent ≡ lent'

pub one_filed : {o : FileOutcome} {accepted r r' : Answer} {buffer after after' : List ℕ} → Filed o accepted r buffer after → Filed o accepted r' buffer after'
    → Same r r' after after'
one_filed a b = record { answer = a.answer ∙ sym b.answer; left = a.left ∙ sym b.left }

pub one_handed : {o : FileOutcome} {accepted : Answer} {r r' : Listing} {words after after' : List ℕ} → Handed o accepted r words after
    → Handed o accepted r' words after' → Same r r' after after'
one_handed a b = record { answer = a.answer ∙ sym b.answer; left = a.left ∙ sym b.left }

-- of a netlist in either form
module _ (found : FileOutcome) where
  pub one_net_written : {r r' : Answer} (buffer : List ℕ) {after after' : List ℕ} → NetWritten found r buffer after → NetWritten found r' buffer after'
      → Same r r' after after'
  one_net_written buffer a b = one_filed a.filed (rw (checking.one_check b.checks a.checks) at b.filed)

  pub one_net_listed : {r r' : Listing} (words : List ℕ) {after after' : List ℕ} → NetListed found r words after → NetListed found r' words after'
      → Same r r' after after'
  one_net_listed words a b = one_handed a.handed (rw (checking.one_check b.checks a.checks) at b.handed)

pub one_net_checked : (found : FileOutcome) {r r' : Answer} → NetChecked found r → NetChecked found r' → r ≡ r'
one_net_checked found a b = let same = checking.one_check a.checks b.checks in a.answer ∙ rw same (sym b.answer)

-- an accepted netlist has one clock from any state with any event, so one run
module _ (found : FileOutcome) (ask : Asked) where
  clocks_alike : (w : Netlist) → NetChecks found (netlist w) → net_events (netlist w) ask.events ≡ true → (a n b m : List ℕ)
      → Steps (net_step (netlist w)) ask.state (sets_in ask.events) a n → Steps (net_step (netlist w)) ask.state (sets_in ask.events) b m → SameSteps a n b m
  unfolding net_step net_events
  clocks_alike w (accepted order is ordered) own a n b m =
      one_run (net_step (netlist w)) (λ state. Unit) (event_ok w.inputs)
      (λ state event out next out' next' good is_event x y. one_clock w.inputs w.outputs w.cells order ordered state event out out' next next' x y)
      (λ state event out next good is_event x. tt)
      tt (and_right (is_whole ask.events) (each (event_ok w.inputs) (sets_in ask.events)) own)

  alike : (o : FileOutcome) → NetChecks found o → {t t' : Told} → NetRuns o ask t → NetRuns o ask t' → t ≡ t'
  unfolding verdict net_verdict
  alike (faulty f) ok x y = one_ran _ _ (stops f) ask (λ e. let z : ◌≡◌ {A = ℕ} 0 1 = cc in absurd (omega arith)) x y
  alike (netlist w) ok x y =
      one_ran _ _ _ ask
      (λ e. clocks_alike w ok (all_pass (net_events (netlist w) ask.events) (net_state (netlist w) ask.state) (has_room ask) (needed ask) e).events_pass)
      x y

pub one_net_reacted_many : (found : FileOutcome) (ask : Asked) (t t' : Told) → NetReactedMany found ask t → NetReactedMany found ask t' → t ≡ t'
one_net_reacted_many found ask t t' x y =
    let same = checking.one_check x.checks y.checks in
    alike found ask x.outcome x.checks x.answer (rw (sym same) at y.answer)

pub one_net_reacted : (found : FileOutcome) (state event : ℕ) {r r' : Reaction} → Once (NetReactedMany found) state event r
    → Once (NetReactedMany found) state event r' → r ≡ r'
one_net_reacted found state event = one_once (NetReactedMany found) (one_net_reacted_many found)
