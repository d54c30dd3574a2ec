-- "signal s at bit s", "A state is 64 bits: bit 0 boot, bit 1+h halt h": sets of numbers. In definitions a set is one number, and k is in it where its bit k is
-- 1; nothing here says how many bits that number has. In the code a set of signals or of halts is of the type `Bits`, so many words, the lowest first, and
-- `whole` is the number that they are. This crate alone opens words.
use Rattle.std.specs.Prelude.{Bool, true, not, ◌&&◌, List, [], ◌∷◌, ◌++◌, ℕ, zero, suc, ◌+◌, ◌*◌, ◌/◌, ◌%◌, ◌^◌, eqb, length, take, drop}
use Rattle.number.specs.declared.SignalNo.{SignalNo}
use Rattle.number.specs.declared.HaltNo.{HaltNo}
use Rattle.number.specs.Counts.{of_signal, of_halt}
use Rattle.bits.specs.declared.Bits.{Bits}

-- whether k is in the set w
unfoldable pub has : ℕ → ℕ → Bool
has w k = eqb (w / 2 ^ k % 2) 1

-- "signal s at bit s"
abbrev pub signal_bit : SignalNo → ℕ
signal_bit s = of_signal s

-- "bit 0 boot, bit 1+h halt h"
abbrev pub boot : ℕ
boot = 0

abbrev pub halt_bit : HaltNo → ℕ
halt_bit h = 1 + of_halt h

-- the signals in a set
abbrev pub signals_in : ℕ → SignalNo → Bool
signals_in w s = has w (signal_bit s)

-- no bit from k on
unfoldable pub none_from : ℕ → ℕ → Bool
none_from k w = eqb (w / 2 ^ k) 0

-- none of the k bits from b on is on
unfoldable pub no_bits : ℕ → ℕ → (ℕ → Bool) → Bool
no_bits zero b S = true
no_bits (suc k) b S = not (S b) && no_bits k (suc b) S

-- how many words a set has, and how many bits these are
abbrev pub words : ℕ
words = 1

abbrev pub width : ℕ
width = 64 * words

-- the words of a set as one number
unfoldable pub whole_in : List ℕ → ℕ
whole_in [] = 0
whole_in (w ∷ ws) = whole_in ws * 2 ^ 64 + w

unfoldable pub whole : Bits → ℕ
unfolding whole_in
whole b = whole_in b.words

-- a number as so many words, and as a set: what is past them is left out
unfoldable pub words_of : ℕ → ℕ → List ℕ
words_of zero n = []
words_of (suc k) n = n % 2 ^ 64 ∷ words_of k (n / 2 ^ 64)

unfoldable pub bits_of : ℕ → Bits
unfolding words_of
bits_of n = record { words = words_of words n }

-- many sets in a slice, one after the other: those that it has in whole, whether it has no more, and the words of some
unfoldable pub sets_from : ℕ → List ℕ → List ℕ
sets_from zero column = []
sets_from (suc k) column = whole_in (take words column) ∷ sets_from k (drop words column)

unfoldable pub sets_in : List ℕ → List ℕ
unfolding sets_from whole_in
sets_in column = sets_from (length column / words) column

abbrev pub is_whole : List ℕ → Bool
is_whole column = eqb (length column % words) 0

unfoldable pub column_of : List ℕ → List ℕ
unfolding words_of
column_of [] = []
column_of (n ∷ ns) = words_of words n ++ column_of ns
