-- "Numbers returned": the refusals by name, in the table's order, then 17 to 22 of the requests. "0 is acceptance" and is none of them.
use Rattle.std.specs.Prelude.{ℕ}
use Rattle.number.specs.declared.Refusal.{Refusal}
use Rattle.number.specs.declared.Refusal.TheVariants.{Short, Number, Kind, Count, Scope, Emit, Exit, Extra}
use Rattle.number.specs.declared.Refusal.TheVariants.{Instant, Twice, Room, Cycle, Event, State, Buffer, Cell}
use Rattle.number.specs.declared.Refusal.TheVariants.{Word, Name, Cover, Order, Line, States}
use Rattle.number.specs.declared.Fault.{Fault}

abbrev pub refusal_no : Refusal → ℕ
refusal_no Short = 1
refusal_no Number = 2
refusal_no Kind = 3
refusal_no Count = 4
refusal_no Scope = 5
refusal_no Emit = 6
refusal_no Exit = 7
refusal_no Extra = 8
refusal_no Instant = 9
refusal_no Twice = 10
refusal_no Room = 11
refusal_no Cycle = 12
refusal_no Event = 13
refusal_no State = 14
refusal_no Buffer = 15
refusal_no Cell = 16
refusal_no Word = 17
refusal_no Name = 18
refusal_no Cover = 19
refusal_no Order = 20
refusal_no Line = 21
refusal_no States = 22

-- a refusal at its place
abbrev pub fault : Refusal → ℕ → Fault
fault x place = record { refusal = x; place = place }
