-- At each event the rules are applied until E agrees, and the state after it fits again.
use Prim.Native.Nat.{ℕ, ◌*◌, ◌/◌, ◌<◌}
use mathlib.Core.Path.{◌≡◌, sym, ◌∙◌}
use mathlib.Core.List.{List}
use native.Mathlib.Omega.{arith}
use lib.ListN.{length, get_or, take, drop}
use Rattle.bits.specs.Bits.{words, whole, whole_in, sets_in}
use Rattle.bits.specs.declared.Bits.{Bits}
use Rattle.bits.proofs.Columns.{set_at}
use Rattle.interpreter.proofs.Following.{followed_none, followed_all, emissions_long, states_long, followed_settling, followed_next}
use Rattle.interpreter.proofs.Reacting.{may_tested}
use Rattle.interpreter.proofs.moments.Goals as goal

-- the event that was read is the next one
event_at : (events : List ℕ) (j : ℕ) {n : ℕ} (read : Bits) → n ≡ length events / words → j < n
    → whole read ≡ whole_in (take words (drop (j * words) events)) → (j < length events / words) × (get_or (sets_in events) j 0 ≡ whole read)
event_at events j read count test is =
    let inside : j < length events / words = omega (arith, count) in
    (inside, set_at events j inside ∙ sym is)

pub loop-j-init : goal.loop-j-init
loop-j-init c = followed_none _ _ _ _ _ _

pub read-requires : goal.read-requires
read-requires c =
    omega (arith, c.count-j-end.ensures, c.loop-j-test.true)

pub agreed-r-requires : goal.agreed-r-requires
agreed-r-requires c =
    let at = event_at c.args.events.now c.loop-j.j c.read.result c.count-j-end.ensures c.loop-j-test.true c.read.ensures in
    (followed_settling _ _ _ _ _ _ c.loop-j.invariant at.0 at.1 c.requires, may_tested c.requires)

pub write-requires : goal.write-requires
write-requires c =
    let pre = c.requires in
    omega (arith, c.count-j-end.ensures, c.loop-j-test.true, pre.room.signals_long, emissions_long _ _ _ _ _ _ c.loop-j.invariant pre)

pub write-requires-in-loop-j : goal.write-requires-in-loop-j
write-requires-in-loop-j c =
    let pre = c.requires in
    omega (arith, c.count-j-end.ensures, c.loop-j-test.true, pre.room.states_long, states_long _ _ _ _ _ _ c.loop-j.invariant pre)

pub loop-j-preserved : goal.loop-j-preserved
loop-j-preserved c =
    let at = event_at c.args.events.now c.loop-j.j c.read.result c.count-j-end.ensures c.loop-j-test.true c.read.ensures in
    let more = followed_next _ _ _ _ _ _ c.loop-j.invariant at.0 at.1 c.agreed-r.ensures c.next_state-last.ensures in
    rw (c.write.ensures, c.write-in-loop-j.ensures) more

pub shape_of-emissions : goal.shape_of-emissions
shape_of-emissions c =
    emissions_long _ _ _ _ _ _ c.loop-j.invariant c.requires

pub shape_of-states : goal.shape_of-states
shape_of-states c =
    states_long _ _ _ _ _ _ c.loop-j.invariant c.requires

pub returns : goal.returns
returns c =
    followed_all _ _ _ _ _ _ c.loop-j.invariant c.requires (omega (arith, c.count-j-end.ensures, c.loop-j-test.false))
