-- The events passed are good, so what is asked of all is asked of those that are left.
use Prim.Native.Nat.{ℕ, ◌/◌, ◌<◌}
use mathlib.Core.Path.{◌≡◌, refl, sym, ap, ◌∙◌}
use mathlib.Core.Bool.{true, false}
use mathlib.Core.List.{List}
use native.Mathlib.Omega.{arith}
use lib.ListN.{length, get_or}
use Rattle.bits.specs.Bits.{words, is_whole, sets_in, whole}
use Rattle.bits.proofs.Columns.{sets_length, set_at}
use Rattle.run.specs.Words.{event_ok}
use Rattle.run.proofs.Going.{each_none, each_next, each_fails}
use Rattle.run.proofs.events_ok.Goals as goal

pub returns-then-not-is_whole : goal.returns-then-not-is_whole
returns-then-not-is_whole c = rw (sym c.is_whole.ensures ∙ c.if-not-is_whole.true)

pub loop-j-init : goal.loop-j-init
loop-j-init c = refl

pub read-requires : goal.read-requires
read-requires c = omega (arith, c.count-j-end.ensures, c.loop-j-test.true)

pub returns-then-not-event_ok : goal.returns-then-not-event_ok
returns-then-not-event_ok c =
    let events : List ℕ = c.args.events.now in
    let i : ℕ = c.args.i in
    let j : ℕ = c.loop-j.j in
    let inside : j < length events / words = omega (arith, c.count-j-end.ensures, c.loop-j-test.true) in
    let event : get_or (sets_in events) j 0 ≡ whole c.read.result = set_at events j inside ∙ sym c.read.ensures in
    let bad : event_ok i (get_or (sets_in events) j 0) ≡ false = ap (event_ok i) event ∙ sym c.event_ok.ensures ∙ c.if-not-event_ok.true in
    let all : is_whole events ≡ true = sym c.is_whole.ensures ∙ c.if-not-is_whole.false in
    rw all (sym (c.loop-j.invariant ∙ each_fails (event_ok i) (sets_in events) j (omega (arith, sets_length events)) bad))

pub loop-j-preserved : goal.loop-j-preserved
loop-j-preserved c =
    let events : List ℕ = c.args.events.now in
    let i : ℕ = c.args.i in
    let j : ℕ = c.loop-j.j in
    let inside : j < length events / words = omega (arith, c.count-j-end.ensures, c.loop-j-test.true) in
    let event : get_or (sets_in events) j 0 ≡ whole c.read.result = set_at events j inside ∙ sym c.read.ensures in
    let good : event_ok i (get_or (sets_in events) j 0) ≡ true = ap (event_ok i) event ∙ sym c.event_ok.ensures ∙ c.if-not-event_ok.false in
    c.loop-j.invariant ∙ each_next (event_ok i) (sets_in events) j (omega (arith, sets_length events)) good

pub returns : goal.returns
returns c =
    let events : List ℕ = c.args.events.now in
    let all : is_whole events ≡ true = sym c.is_whole.ensures ∙ c.if-not-is_whole.false in
    rw all (sym (c.loop-j.invariant ∙ each_none _ (sets_in events) c.loop-j.j (omega (arith, sets_length events, c.count-j-end.ensures, c.loop-j-test.false))))
