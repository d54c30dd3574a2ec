-- `first_led` meets its contract: at each head one law says which answer stands first. The rows that are left fall.
use mathlib.Core.Path.{◌≡◌, ◌∙◌}
use native.Mathlib.Omega.{arith}
use Rattle.limits.specs.Limits.{max_codes}
use Rattle.sheet.specs.declared.Row.{Row}
use Rattle.sets.proofs.Standing.{head_is, stands_within, stands_number, stands_one, stands_two, second_later}
use mathlib.Core.Bool.{Bool, ◌&&◌}
use Rattle.bits.specs.Bits.{has}
use Rattle.sets.specs.Leads.{meet, is_x}
use Rattle.sets.proofs.Searching.{led_here, led_none, led_one, led_left, led_right}
use Prim.Native.Nat.{ℕ, ◌<◌}
use Rattle.sets.specs.Words.{code_span}
use Rattle.sets.proofs.+first_led.Goals as goal

-- whether it is an X with a code of f in its R, by what its row says
tested : (f r : ℕ) {x : Bool} {row row' : Row} → row ≡ row' → (r < code_span → x ≡ (is_x row.head && meet max_codes (has r) (has f)))
    → r < code_span → x ≡ (is_x row'.head && meet max_codes (has r) (has f))
tested f r read is small = is small ∙ (λ i. is_x (read i).head && meet max_codes (has r) (has f))

pub row_at-row-requires : goal.row_at-row-requires
row_at-row-requires t c = stands_within c.requires.0

pub sets_of-own-requires : goal.sets_of-own-requires
sets_of-own-requires t c =
    omega (arith, stands_within c.requires.0, c.requires.1)

pub returns-then-is_led : goal.returns-then-is_led
returns-then-is_led t c =
    λ s kept.
    let test = tested c.args.f c.sets_of-own.result.r c.row_at-row.ensures c.is_led.ensures in
    led_here _ s kept (has c.args.f) c.sets_of-own.ensures test c.if-is_led.true

pub first_part-first-requires : goal.first_part-first-requires
first_part-first-requires t c = stands_number c.requires.0

pub first_led-requires : goal.first_led-requires
first_led-requires t c =
    let s = c.requires.0 in
    let next = c.first_part-first.ensures in
    let head = head_is c.row_at-row.ensures c.in-One.is in
    (rw next (omega (arith, stands_within s, c.decreases)), (rw next (stands_one s head).part, c.requires.1))

pub second_part-second-requires : goal.second_part-second-requires
second_part-second-requires t c =
    let s = c.requires.0 in
    let head = head_is c.row_at-row.ensures c.in-Two.is in
    (stands_number s, stands_within (stands_two s head).left)

pub sets_of-q-requires : goal.sets_of-q-requires
sets_of-q-requires t c =
    let s = c.requires.0 in
    let next = c.first_part-first.ensures in
    let head = head_is c.row_at-row.ensures c.in-Two.is in
    let end = c.second_part-second.ensures in
    rw end (omega (arith, stands_within (stands_two s head).right, c.requires.1))

pub first_led-requires-in-Two : goal.first_led-requires-in-Two
first_led-requires-in-Two t c =
    let s = c.requires.0 in
    let next = c.first_part-first.ensures in
    let head = head_is c.row_at-row.ensures c.in-Two.is in
    (rw next (omega (arith, stands_within s, c.decreases)), (rw next (stands_two s head).left, c.requires.1))

pub sets_of-p-requires : goal.sets_of-p-requires
sets_of-p-requires t c =
    let s = c.requires.0 in
    let next = c.first_part-first.ensures in
    let head = head_is c.row_at-row.ensures c.in-Two.is in
    rw next (omega (arith, stands_within (stands_two s head).left, c.requires.1))

pub first_led-requires-in-Two-2 : goal.first_led-requires-in-Two-2
first_led-requires-in-Two-2 t c =
    let s = c.requires.0 in
    let next = c.first_part-first.ensures in
    let head = head_is c.row_at-row.ensures c.in-Two.is in
    let end = c.second_part-second.ensures in
    let later = second_later s head in
    (rw end (omega (arith, stands_within s, c.decreases)), (rw end (stands_two s head).right, c.requires.1))

pub returns-in-Zero : goal.returns-in-Zero
returns-in-Zero t c =
    λ s kept.
    let test = tested c.args.f c.sets_of-own.result.r c.row_at-row.ensures c.is_led.ensures in
    led_none _ s kept (has c.args.f) c.sets_of-own.ensures test
    (head_is c.row_at-row.ensures c.in-Zero.is)

pub returns-in-One : goal.returns-in-One
returns-in-One t c =
    λ s kept.
    let next = c.first_part-first.ensures in
    let head = head_is c.row_at-row.ensures c.in-One.is in
    let test = tested c.args.f c.sets_of-own.result.r c.row_at-row.ensures c.is_led.ensures in
    led_one _ s kept (has c.args.f) c.sets_of-own.ensures test c.if-is_led.false head c.leads_one.ensures
    (rw next at c.first_led.ensures)

pub returns-in-Some : goal.returns-in-Some
returns-in-Some t c =
    λ s kept.
    let next = c.first_part-first.ensures in
    let head = head_is c.row_at-row.ensures c.in-Two.is in
    let end = c.second_part-second.ensures in
    let test = tested c.args.f c.sets_of-own.result.r c.row_at-row.ensures c.is_led.ensures in
    led_left _ s kept (has c.args.f) c.sets_of-own.ensures test c.if-is_led.false head
    (rw end at c.sets_of-q.ensures)
    c.leads_left.ensures (rw next at c.first_led-in-Two.ensures) c.in-Some.is

pub returns-in_default : goal.returns-in_default
returns-in_default t c =
    λ s kept.
    let next = c.first_part-first.ensures in
    let head = head_is c.row_at-row.ensures c.in-Two.is in
    let end = c.second_part-second.ensures in
    let test = tested c.args.f c.sets_of-own.result.r c.row_at-row.ensures c.is_led.ensures in
    led_right _ s kept (has c.args.f) c.sets_of-own.ensures test c.if-is_led.false head
    (rw end at c.sets_of-q.ensures)
    c.leads_left.ensures (rw next at c.first_led-in-Two.ensures) c.in_default.is
    (rw next at c.sets_of-p.ensures) c.leads_right.ensures (rw end at c.first_led-in-Two-2.ensures)
