-- Boot off: no other bit. Boot on: no bit past the halts' bits, and what `apart` finds.
use mathlib.Core.Path.{sym, ◌∙◌}
use native.Mathlib.Omega.{arith}
use Rattle.rules.proofs.Walks.{run_within}
use Rattle.rules.proofs.Fitting.{fits_unbooted, root_past, fits_over, fits_apart}
use Rattle.rules.proofs.fits.Goals as goal

pub no_halts_from-requires : goal.no_halts_from-requires
no_halts_from-requires c = rw c.new.ensures (omega arith)

pub returns-then-not-member : goal.returns-then-not-member
returns-then-not-member c =
    let off = sym c.member.ensures ∙ c.if-not-member.true in
    fits_unbooted _ _ off (rw c.new.ensures at c.no_halts_from.ensures)

pub row_at-row-requires : goal.row_at-row-requires
row_at-row-requires c =
    rw c.new-root.ensures (run_within c.requires.known.run)

pub no_halts_from-requires-2 : goal.no_halts_from-requires-2
no_halts_from-requires-2 c =
    let past = root_past c.requires in
    rw (c.row_at-row.ensures, c.new-root.ensures) (omega (arith, past))

pub returns-else-no_halts_from : goal.returns-else-no_halts_from
returns-else-no_halts_from c =
    let on = sym c.member.ensures ∙ c.if-not-member.false in
    let over = sym c.no_halts_from-2.ensures ∙ c.if-no_halts_from.false in
    rw c.if-no_halts_from.false (fits_over _ _ on (rw (c.row_at-row.ensures, c.new-root.ensures) at over))

pub apart-requires : goal.apart-requires
apart-requires c =
    rw c.new-root.ensures c.requires.known

pub returns-then-no_halts_from : goal.returns-then-no_halts_from
returns-then-no_halts_from c =
    let on = sym c.member.ensures ∙ c.if-not-member.false in
    let none = sym c.no_halts_from-2.ensures ∙ c.if-no_halts_from.true in
    let told = rw c.new-root.ensures at c.apart.ensures in
    fits_apart _ _ on (rw (c.row_at-row.ensures, c.new-root.ensures) at none) told
