-- The statement: "0 nothing; 1 halt; 2 emit s; 3 sequence p q; 4 loop p; 5 present s p q; 6 watching s p; 7 parallel p q; 8 trap p;
-- 9 exit k; 10 signal p." By its parts, none, one or two; a halt and a signal statement carry their own numbers.
use Rattle.std.specs.Prelude.{ℕ, ◌+◌, max}
use Rattle.sheet.specs.declared.Leaf.{Leaf}
use Rattle.sheet.specs.declared.Leaf.TheVariants.{Nothing, Halt, Emit, Exit}
use Rattle.sheet.specs.declared.Unary.{Unary}
use Rattle.sheet.specs.declared.Unary.TheVariants.{Loop, Watching, Trap, Signal}
use Rattle.sheet.specs.declared.Binary.{Binary}
use Rattle.sheet.specs.declared.Binary.TheVariants.{Sequence, Present, Parallel}
use Rattle.sheet.specs.declared.Head.{Head}
use Rattle.sheet.specs.declared.Head.TheVariants.{Zero, One, Two}

pub data Stmt : Type 0 where
  leaf : Leaf → Stmt
  one : Unary → Stmt → Stmt
  two : Binary → Stmt → Stmt → Stmt

-- a statement without its parts
unfoldable pub head_of : Stmt → Head
head_of (leaf l) = Zero l
head_of (one u p) = One u
head_of (two b p q) = Two b

-- how many statements it has, with itself
unfoldable pub size : Stmt → ℕ
size (leaf l) = 1
size (one u p) = 1 + size p
size (two b p q) = 1 + size p + size q

-- "nesting level 64 (the root is level 1)": how many levels it takes
unfoldable pub levels : Stmt → ℕ
levels (leaf l) = 1
levels (one u p) = 1 + levels p
levels (two b p q) = 1 + max (levels p) (levels q)

-- how many halts it has
abbrev pub leaf_halts : Leaf → ℕ
leaf_halts Nothing = 0
leaf_halts (Halt h) = 1
leaf_halts (Emit s) = 0
leaf_halts (Exit k) = 0

unfoldable pub halt_count : Stmt → ℕ
halt_count (leaf l) = leaf_halts l
halt_count (one u p) = halt_count p
halt_count (two b p q) = halt_count p + halt_count q

-- how many locals it declares
abbrev pub declares : Unary → ℕ
declares Loop = 0
declares (Watching s) = 0
declares Trap = 0
declares (Signal s) = 1

unfoldable pub local_count : Stmt → ℕ
local_count (leaf l) = 0
local_count (one u p) = declares u + local_count p
local_count (two b p q) = local_count p + local_count q

-- a statement's kind and operand as numbers
abbrev pub leaf_kind : Leaf → ℕ
leaf_kind Nothing = 0
leaf_kind (Halt h) = 1
leaf_kind (Emit s) = 2
leaf_kind (Exit k) = 9

abbrev pub unary_kind : Unary → ℕ
unary_kind Loop = 4
unary_kind (Watching s) = 6
unary_kind Trap = 8
unary_kind (Signal s) = 10

abbrev pub binary_kind : Binary → ℕ
binary_kind Sequence = 3
binary_kind (Present s) = 5
binary_kind Parallel = 7

abbrev pub kind_of : Head → ℕ
kind_of (Zero l) = leaf_kind l
kind_of (One u) = unary_kind u
kind_of (Two b) = binary_kind b
