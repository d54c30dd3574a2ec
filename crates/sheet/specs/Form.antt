-- Which statements are a sheet's: what a sheet's bytes are, and what the limits, scopes and levels leave.
use Rattle.std.specs.Prelude.{◌≡◌, true, List, [], ◌++◌, ℕ, ◌+◌, ◌<◌, ◌≤◌}
use Rattle.number.specs.declared.SignalNo.{SignalNo}
use Rattle.number.specs.declared.HaltNo.{HaltNo}
use Rattle.number.specs.Counts.{signal_no, of_signal, halt_no, of_halt}
use Rattle.number.specs.Number.{number_bytes}
use Rattle.limits.specs.Limits.{max_statements, max_level, max_halts, max_signals, max_traps}
use Rattle.sheet.specs.declared.Leaf.{Leaf}
use Rattle.sheet.specs.declared.Leaf.TheVariants.{Nothing, Halt, Emit, Exit}
use Rattle.sheet.specs.declared.Unary.{Unary}
use Rattle.sheet.specs.declared.Unary.TheVariants.{Loop, Watching, Trap, Signal}
use Rattle.sheet.specs.declared.Binary.{Binary}
use Rattle.sheet.specs.declared.Binary.TheVariants.{Sequence, Present, Parallel}
use Rattle.sheet.specs.Stmt.{Stmt, leaf, one, two, head_of, kind_of, size, levels, halt_count, declares, local_count}
use Rattle.sheet.specs.Read.{Around, inside, root_around}

-- a statement's operand in the sheet: a halt's and a local's number are not written, since they are counted
abbrev pub leaf_bytes : Leaf → List ℕ
leaf_bytes Nothing = []
leaf_bytes (Halt h) = []
leaf_bytes (Emit s) = number_bytes (of_signal s)
leaf_bytes (Exit k) = number_bytes k

abbrev pub unary_bytes : Unary → List ℕ
unary_bytes Loop = []
unary_bytes (Watching s) = number_bytes (of_signal s)
unary_bytes Trap = []
unary_bytes (Signal s) = []

abbrev pub binary_bytes : Binary → List ℕ
binary_bytes Sequence = []
binary_bytes (Present s) = number_bytes (of_signal s)
binary_bytes Parallel = []

-- "Statements, operands in this order": kind, operand, parts
unfoldable pub stmt_bytes : Stmt → List ℕ
stmt_bytes (leaf l) = number_bytes (kind_of (head_of (leaf l))) ++ leaf_bytes l
stmt_bytes (one u p) = number_bytes (kind_of (head_of (one u p))) ++ (unary_bytes u ++ stmt_bytes p)
stmt_bytes (two b p q) = number_bytes (kind_of (head_of (two b p q))) ++ (binary_bytes b ++ (stmt_bytes p ++ stmt_bytes q))

-- "A sheet is: number of inputs I, of outputs O, one statement."
unfoldable pub sheet_bytes : ℕ → ℕ → Stmt → List ℕ
sheet_bytes i o t = number_bytes i ++ (number_bytes o ++ stmt_bytes t)

-- the numbers past k halts and past k signals
abbrev pub halts_on : HaltNo → ℕ → HaltNo
halts_on a k = halt_no (of_halt a + k)

abbrev pub signals_on : SignalNo → ℕ → SignalNo
signals_on b k = signal_no (of_signal b + k)

-- A statement in its place: halts are numbered in reading order from a on, locals from b on, "usable in its own p only"; no emit of tick or
-- an input; exits between 2 and 1+d; "8 traps one in another"
unfoldable pub LeafPlaced : Around → HaltNo → Leaf → Type 0
LeafPlaced e a Nothing = Unit
LeafPlaced e a (Halt h) = h ≡ a
LeafPlaced e a (Emit s) = (e.scope s ≡ true) × (e.inputs < of_signal s)
LeafPlaced e a (Exit k) = (2 ≤ k) × (k ≤ 1 + e.traps)

unfoldable pub UnaryPlaced : Around → SignalNo → Unary → Type 0
UnaryPlaced e b Loop = Unit
UnaryPlaced e b (Watching s) = e.scope s ≡ true
UnaryPlaced e b Trap = e.traps < max_traps
UnaryPlaced e b (Signal s) = s ≡ b

unfoldable pub BinaryPlaced : Around → Binary → Type 0
BinaryPlaced e Sequence = Unit
BinaryPlaced e (Present s) = e.scope s ≡ true
BinaryPlaced e Parallel = Unit

unfoldable pub Placed : Around → HaltNo → SignalNo → Stmt → Type 0
unfolding inside
Placed e a b (leaf l) = LeafPlaced e a l
Placed e a b (one u p) = UnaryPlaced e b u × Placed (inside e u) a (signals_on b (declares u)) p
Placed e a b (two x p q) = BinaryPlaced e x × Placed e a b p × Placed e (halts_on a (halt_count p)) (signals_on b (local_count p)) q

-- "At most: 256 statements, nesting level 64 (the root is level 1), 63 halts, 64 signals with tick, 8 traps one in another"
pub record Proper (i o : ℕ) (t : Stmt) : Type 0 where
  pub header : 1 + i + o ≤ max_signals
  pub placed : Placed (root_around i o) (halt_no 0) (signal_no (1 + i + o)) t
  pub statements : size t ≤ max_statements
  pub nesting : levels t ≤ max_level
  pub halts : halt_count t ≤ max_halts
  pub signals : 1 + i + o + local_count t ≤ max_signals
