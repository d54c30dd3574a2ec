-- What a run of clocks answers makes the entries' answers.
use mathlib.Core.Path.{◌≡◌, refl, sym, ◌∙◌}
use mathlib.Core.Bool.{Bool, ◌&&◌}
use mathlib.Core.List.{List}
use Prim.Native.Nat.{ℕ}
use lib.Dec.{leb}
use lib.ListN.{length, length-map}
use Rattle.number.specs.declared.Fault.{Fault}
use Rattle.cells.specs.Words.{cell_in, cells_of}
use Rattle.cells.specs.Values.{registers}
use Rattle.cells.specs.Netlist.{netlist_of}
use Rattle.run.specs.Words.{state_ok}
use Rattle.run.specs.React.{Clock}
use Rattle.run.specs.Many.{events_ok, Room, Ran}
use Rattle.files.specs.declared.Header.{Header}
use Rattle.files.specs.Read.{FileOutcome, netlist, faulty}
use Rattle.netlists.specs.Check.{NetChecks, accepted}
use Rattle.netlists.proofs.Running.{Accepts}
use Rattle.verdicts.specs.Answers.{passes, verdict, refusal, acceptance, with_state, stop_of}
use Rattle.verdicts.specs.Runs.{Asked, Told, needed, has_room}
use Rattle.verdicts.proofs.Running.{stop_by, stop_none, all_pass, room_is, ran_stopped, ran_on}
use Rattle.netlist_entries.specs.Netlists.{net_verdict, net_accepted, net_events, net_state, net_step, NetRuns, NetReactedMany}
use Rattle.std.specs.Prelude.{Result, Ok, Err}

-- what was asked of an accepted netlist: the events by its header, the state by its registers, and the slices' lengths
pub record NetAsked (I : ℕ) (words : List ℕ) (ask : Asked) (k n : ℕ) (own fit room : Bool) (r : Result (Unit {0}) Fault) : Type 0 where
  pub events_asked : own ≡ events_ok I ask.events
  pub counted : k ≡ registers (cells_of words)
  pub state_asked : fit ≡ state_ok k ask.state
  pub length_asked : n ≡ needed ask
  pub room_asked : room ≡ (leb n (length ask.signals) && leb n (length ask.states))
  pub stop : r ≡ stop_of (verdict passes own fit room n)

module _ (O : ℕ) (words : List ℕ) {I : ℕ} {ask : Asked} {k n : ℕ} {own fit room : Bool} {r : Result (Unit {0}) Fault} (q : NetAsked I words ask k n own fit room r) where
  -- it is what the order of faults asks
  net_verdict_lem : let net : FileOutcome = netlist (netlist_of I O words) in
      verdict (net_verdict net) (net_events net ask.events) (net_state net ask.state) (has_room ask) (needed ask) ≡ verdict passes own fit room n
  unfolding net_verdict net_events net_state
  net_verdict_lem = rw (q.events_asked, q.state_asked, q.counted, q.room_asked, q.length_asked)

  pub net_stopped : {f : Fault} → r ≡ Err f
      → NetRuns (netlist (netlist_of I O words)) ask (record { course = with_state (refusal f) ask.state; signals = ask.signals; states = ask.states })
  net_stopped is_by = ran_stopped (net_verdict_lem ∙ stop_by _ (sym is_by ∙ q.stop))

  module _ (none : r ≡ Ok tt) where
    still : verdict passes own fit room n ≡ passes
    still = stop_none _ (sym none ∙ q.stop)

    pub net_room : Room ask.events ask.signals ask.states
    net_room = room_is ask (rw q.length_asked at (sym q.room_asked ∙ (all_pass own fit room n still).room_passes))

    pub net_ran : {m last : ℕ} {signals' states' : List ℕ} → m ≡ length words
        → Ran (Clock I O (cells_of words)) ask.state ask.events ask.signals signals' ask.states states' last
        → NetRuns (netlist (netlist_of I O words)) ask (record { course = with_state (acceptance 0 m) last; signals = signals'; states = states' })
    unfolding net_step net_accepted
    net_ran {m} count ran =
        let cells : m ≡ length (cells_of words) = count ∙ sym (length-map words cell_in) in
        rw cells (ran_on (net_verdict_lem ∙ still) ran)

-- the entries
pub net_many_refused : {found : FileOutcome} {f : Fault} {ask : Asked} → NetChecks found (faulty f)
    → NetReactedMany found ask (record { course = with_state (refusal f) ask.state; signals = ask.signals; states = ask.states })
unfolding verdict net_verdict
net_many_refused {f = f} was = record { outcome = faulty f; checks = was; answer = ran_stopped refl }

pub net_many_ran : {found : FileOutcome} {h : Header} {order : List ℕ} (a : Accepts found h order) {ask : Asked} {told : Told}
    → NetRuns (netlist a.found_as.net) ask told → NetReactedMany found ask told
net_many_ran {order = order} a did =
    record { outcome = netlist a.found_as.net; checks = accepted order a.found_as.is a.ordered; answer = did }
