-- How long lines and texts are.
use Rattle.std.specs.Prelude.{ℕ}

-- "a sheet in hex (up to 2,048 digits)", so that many bytes of a sheet at most
abbrev pub sheet_digits : ℕ
sheet_digits = 2048

abbrev pub sheet_room : ℕ
sheet_room = 1024

-- "an event line 1 to 16"
abbrev pub event_digits : ℕ
event_digits = 16

-- A line is read with one byte more than the longest that is well-formed: a line that is cut there is malformed all the same.
abbrev pub line_room : ℕ
line_room = 2049

-- no line's answer is longer
abbrev pub text_room : ℕ
text_room = 64
