-- After each round E is what the rounds make. As long as what is asked for changes E does, so they do not repeat yet; when that stays, E agrees. After the last
-- round that it can take they repeat.
use Prim.Native.Nat.{◌+◌, ◌-◌}
use mathlib.Core.Path.{◌≡◌}
use native.Mathlib.Omega.{arith}
use Rattle.interpreter.proofs.Settled.{Given, Joined, reached_first, agrees_here, reached_next, agrees_last}
use Rattle.interpreter.proofs.agreed.Goals as goal

pub loop-round-init : goal.loop-round-init
loop-round-init c = λ event given p. reached_first given p

pub react-r-requires : goal.react-r-requires
react-r-requires c =
    c.requires.0.run

pub returns-then-same_at : goal.returns-then-same_at
returns-then-same_at c =
    let given : Given _ _ = record { adds = c.add-given.ensures } in
    let joined : Joined _ _ _ = record { joins = c.join-renewed.ensures } in
    agrees_here given c.react-r.ensures joined c.requires.1 c.same_at.ensures c.if-same_at.true

pub loop-round-preserved : goal.loop-round-preserved
loop-round-preserved c =
    let joined : Joined _ _ _ = record { joins = c.join-renewed.ensures } in
    let changed = c.same_at.ensures.differ c.if-same_at.false in
    let more : c.loop-round._round + 1 - 1 ≡ c.loop-round._round - 1 + 1 = omega arith in
    λ event given p. rw more (reached_next given c.react-r.ensures joined p (c.loop-round.invariant event given p) changed)

pub react-requires : goal.react-requires
react-requires c =
    c.requires.0.run

pub returns : goal.returns
returns c =
    let given : Given _ _ = record { adds = c.add-given.ensures } in
    let p = c.requires.0 in
    agrees_last p (c.loop-round.invariant _ given p) (omega (arith, p.few)) c.react.ensures
