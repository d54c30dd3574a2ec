-- "At most: 256 statements, nesting level 64 (the root is level 1), 63 halts, 64 signals with tick, 8 traps one in another, 1,024 cells." Each limit has its
-- number here and, for the code, in the constant of the same name; nothing else writes one.
use Rattle.std.specs.Prelude.{Bool, ℕ, ◌+◌, ltb}

abbrev pub max_statements : ℕ
max_statements = 256

abbrev pub max_level : ℕ
max_level = 64

abbrev pub max_halts : ℕ
max_halts = 63

-- with tick
abbrev pub max_signals : ℕ
max_signals = 64

abbrev pub max_traps : ℕ
max_traps = 8

abbrev pub max_cells : ℕ
max_cells = 1024

-- "bit 0 boot, bit 1+h halt h": boot and a register for each halt; "over 64 registers: COUNT"
abbrev pub max_registers : ℕ
max_registers = 1 + max_halts

-- "one net for each code up to 1+d, d enclosing traps", and code 0
abbrev pub max_codes : ℕ
max_codes = 2 + max_traps

-- "1+I+O over 64": COUNT of a sheet's header, and of a file's
abbrev pub many_signals : ℕ → ℕ → Bool
many_signals I O = ltb max_signals (1 + I + O)

-- "over 1,024 cells": ROOM of a sheet, COUNT of a file
abbrev pub many_cells : ℕ → Bool
many_cells n = ltb max_cells n
