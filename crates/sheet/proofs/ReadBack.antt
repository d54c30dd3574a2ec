-- For every tree within limits, scopes and levels, reading its bytes gives the tree back: a head that stands in its place is read, and so
-- is a statement if its head and its parts are.
use mathlib.Core.Path.{◌≡◌, refl, sym, ap, ◌∙◌}
use mathlib.Core.Bool.{true, false}
use mathlib.Core.List.{List, [], ◌++◌}
use Prim.Native.Nat.{ℕ, zero, suc, ◌+◌, ◌<◌, ◌≤◌}
use native.Mathlib.Omega.{arith}
use lib.Dec.{leb}
use lib.ListN.{length}
use borrow.Author.Tests.{ltb-true, lt-leb, le-ltb}
use Rattle.number.specs.declared.SignalNo.{SignalNo}
use Rattle.number.specs.declared.StmtNo.{StmtNo}
use Rattle.number.specs.Counts.{signal_no, of_signal, halt_no, of_halt, stmt_no, of_stmt}
use Rattle.number.specs.Number.{number_bytes, pick, cursor}
use Rattle.limits.specs.Limits.{max_statements, max_level, max_halts, max_signals, max_traps}
use Rattle.sheet.specs.declared.Leaf.{Leaf}
use Rattle.sheet.specs.declared.Leaf.TheVariants.{Nothing, Halt, Emit, Exit}
use Rattle.sheet.specs.declared.Unary.{Unary}
use Rattle.sheet.specs.declared.Unary.TheVariants.{Loop, Watching, Trap, Signal}
use Rattle.sheet.specs.declared.Binary.{Binary}
use Rattle.sheet.specs.declared.Binary.TheVariants.{Sequence, Present, Parallel}
use Rattle.sheet.specs.declared.Head.{Head}
use Rattle.sheet.specs.declared.Head.TheVariants.{Zero, One, Two}
use Rattle.sheet.specs.declared.Marks.{Marks}
use Rattle.sheet.specs.Stmt.{Stmt, leaf, one, two, kind_of, size, levels, halt_count, declares, local_count}
use Rattle.sheet.specs.Read.{Around, past, signal_of, signal_at, naming, emitting, exiting, halt_at, local_at, trap_at}
use Rattle.sheet.specs.Read.{of_kind, head_of_kind, head_at}
use Rattle.sheet.specs.Read.{further, inside, got, and_then, parts, read_stmt, sheet, root_around, root_marks, read_sheet}
use Rattle.sheet.specs.Form.{stmt_bytes, sheet_bytes, halts_on, signals_on, LeafPlaced, UnaryPlaced, BinaryPlaced, Placed, Proper}
use Rattle.sheet.proofs.Notions.{kind_small, Below, below_on, below_inside}
use Rattle.sheet.proofs.Stands.{Stands, stands_first, stands_second, stands_all, stands_read}
use Rattle.sheet.proofs.Moved.{MovedBy, to_moved, by_moved}
use Rattle.sheet.proofs.Here.{operand_bytes, head_bytes, Within, HeadHere, Here, bytes_leaf, bytes_one, bytes_two}
use Rattle.sheet.proofs.Whole.{SheetIs, sheet_is}
use Rattle.std.specs.Prelude.{Ok}

-- marks are the same by their numbers
abbrev marks : ℕ → ℕ → ℕ → Marks
marks at h x = record { at = at; halts = halt_no h; signals = signal_no x }

marks_same : (m m' : Marks) → m.at ≡ m'.at → of_halt m.halts ≡ of_halt m'.halts → of_signal m.signals ≡ of_signal m'.signals
    → m ≡ m'
marks_same m m' p q r =
    ap (λ (x : ℕ). marks x (of_halt m.halts) (of_signal m.signals)) p ∙ ap (λ (x : ℕ). marks m'.at x (of_signal m.signals)) q
    ∙ ap (λ (x : ℕ). marks m'.at (of_halt m'.halts) x) r

-- marks between which nothing is counted differ by the offset alone
uncounted : (m m' : Marks) (at : ℕ) → at ≡ m'.at → MovedBy m m' 0 0 → past m at ≡ m'
uncounted m m' at q c = marks_same (past m at) m' q (omega arith) (omega arith)

-- the marks past a head's kind
abbrev kinded : Marks → Head → Marks
kinded m h = past m (m.at + length (number_bytes (kind_of h)))

-- The head h stands at m, up to m'.
module _ (s : List ℕ) (e : Around) (m : Marks) (h : Head) (m' : Marks) (stands : Stands s m.at (head_bytes h) m'.at) where
  -- its kind is read ..
  kind_reads : head_at s e m ≡ of_kind s e m.at (kinded m h) (kind_of h)
  unfolding head_of_kind
  kind_reads =
      let kind = stands_first s m.at (number_bytes (kind_of h)) (operand_bytes h) m'.at stands in
      ap (head_of_kind s e m) (stands_read s m.at (kind_of h) (kinded m h).at kind (omega (arith, kind_small h)))

  -- .. then its operand, if it has one
  operand : Stands s (kinded m h).at (operand_bytes h) m'.at
  operand = stands_second s m.at (number_bytes (kind_of h)) (operand_bytes h) m'.at stands

  -- without one, past its kind is past it
  past_kind : operand_bytes h ≡ [] → m.at + length (number_bytes (kind_of h)) ≡ m'.at
  past_kind o = omega (arith, operand.end, ap length o)

  -- a head without operand that counts nothing
  plain_reads : operand_bytes h ≡ [] → MovedBy m m' 0 0 → of_kind s e m.at (kinded m h) (kind_of h) ≡ Ok (h, kinded m h)
      → head_at s e m ≡ Ok (h, m')
  plain_reads o c q = kind_reads ∙ q ∙ ap (λ (k : Marks). Ok (h, k)) (uncounted m m' (kinded m h).at (past_kind o) c)

  -- an operand that names a signal of the scope
  signal_reads : (x : SignalNo) → operand_bytes h ≡ number_bytes (of_signal x) → of_signal x < max_signals → e.scope x ≡ true
      → MovedBy m m' 0 0 → signal_at s e (kinded m h) ≡ Ok (x, m')
  unfolding signal_of pick
  signal_reads x o small scope c =
      let number = stands_read s (kinded m h).at (of_signal x) m'.at (rw o at operand) (omega arith) in
      rw (number, scope) (ap (λ (k : Marks). Ok (x, k)) (uncounted m m' m'.at refl c))

module _ (s : List ℕ) (e : Around) (m : Marks) (below : Below e m.signals) (few : e.traps ≤ max_traps) where
  -- a signal that may be named is not past the last
  named_small : (h : Head) (m' : Marks) → HeadHere e m h m' → Within m' → (x : SignalNo) → e.scope x ≡ true → of_signal x < max_signals
  named_small h m' r w x scope = omega (arith, below x scope)

  -- a head that stands in its place is read
  head_reads : (h : Head) (m' : Marks) → HeadHere e m h m' → Within m' → Stands s m.at (head_bytes h) m'.at → head_at s e m ≡ Ok (h, m')
  unfolding of_kind pick LeafPlaced UnaryPlaced BinaryPlaced halt_at emitting exiting naming local_at trap_at
  head_reads (Zero Nothing) m' r w st = plain_reads s e m (Zero Nothing) m' st refl r.moved refl
  head_reads (One Loop) m' r w st = plain_reads s e m (One Loop) m' st refl r.moved refl
  head_reads (Two Sequence) m' r w st = plain_reads s e m (Two Sequence) m' st refl r.moved refl
  head_reads (Two Parallel) m' r w st = plain_reads s e m (Two Parallel) m' st refl r.moved refl
  head_reads (One Trap) m' r w st = plain_reads s e m (One Trap) m' st refl r.moved (rw (lt-leb max_traps e.traps r.placed))
  head_reads (Zero (Halt x)) m' r w st =
      let h : Head = Zero (Halt x) in
      let next : record { at = (kinded m h).at; halts = halts_on m.halts 1; signals = m.signals } ≡ m' =
      marks_same _ m' (past_kind s e m h m' st refl) (sym r.moved.halts) (omega arith) in
      let free : leb max_halts (of_halt m.halts) ≡ false = lt-leb max_halts (of_halt m.halts) (omega arith) in
      kind_reads s e m h m' st ∙ rw free (rw r.placed (ap (λ (k : Marks). Ok (Zero (Halt m.halts), k)) next))
  head_reads (One (Signal x)) m' r w st =
      let h : Head = One (Signal x) in
      let next : record { at = (kinded m h).at; halts = m.halts; signals = signals_on m.signals 1 } ≡ m' =
      marks_same _ m' (past_kind s e m h m' st refl) (omega arith) (sym r.moved.signals) in
      let free : leb max_signals (of_signal m.signals) ≡ false = lt-leb max_signals (of_signal m.signals) (omega arith) in
      kind_reads s e m h m' st ∙ rw free (rw r.placed (ap (λ (k : Marks). Ok (One (Signal m.signals), k)) next))
  head_reads (Zero (Emit x)) m' r w st =
      let h : Head = Zero (Emit x) in
      let scope : e.scope x ≡ true = r.placed.0 in
      kind_reads s e m h m' st ∙ rw (signal_reads s e m h m' st x refl (named_small h m' r w x scope) scope r.moved)
      (rw (lt-leb (of_signal x) e.inputs r.placed.1))
  head_reads (One (Watching x)) m' r w st =
      let h : Head = One (Watching x) in
      kind_reads s e m h m' st
      ∙ rw (signal_reads s e m h m' st x refl (named_small h m' r w x r.placed) r.placed r.moved)
  head_reads (Two (Present x)) m' r w st =
      let h : Head = Two (Present x) in
      kind_reads s e m h m' st
      ∙ rw (signal_reads s e m h m' st x refl (named_small h m' r w x r.placed) r.placed r.moved)
  head_reads (Zero (Exit k)) m' r w st =
      let h : Head = Zero (Exit k) in
      kind_reads s e m h m' st
      ∙ rw (stands_read s (kinded m h).at k m'.at (operand s e m h m' st) (omega arith))
      (rw (le-ltb k 2 r.placed.0, le-ltb (1 + e.traps) k r.placed.1) (ap (λ (k : Marks). Ok (h, k)) (uncounted m m' m'.at refl r.moved)))

-- How a statement is read, given how its head and its parts are.
module _ (s : List ℕ) (left : ℕ) (e : Around) (n : StmtNo) (m m1 : Marks) (small : of_stmt n < max_statements) where
  leaf_got : (l : Leaf) → head_at s e m ≡ Ok (Zero l, m1) → read_stmt (suc left) s e n m ≡ got (leaf l) m1
  unfolding read_stmt parts pick
  leaf_got l h = rw (lt-leb max_statements (of_stmt n) small, h)

  one_got : (u : Unary) (p : Stmt) (m2 : Marks) → head_at s e m ≡ Ok (One u, m1) → read_stmt left s (inside e u) (further n 1) m1 ≡ got p m2
      → read_stmt (suc left) s e n m ≡ got (one u p) m2
  unfolding read_stmt parts and_then pick
  one_got u p m2 h q = rw (lt-leb max_statements (of_stmt n) small, h) (rw q)

  two_got : (b : Binary) (p q : Stmt) (m2 m3 : Marks) → head_at s e m ≡ Ok (Two b, m1) → read_stmt left s e (further n 1) m1 ≡ got p m2
      → read_stmt left s e (further n (1 + size p)) m2 ≡ got q m3 → read_stmt (suc left) s e n m ≡ got (two b p q) m3
  unfolding read_stmt parts and_then pick
  two_got b p q m2 m3 h k k2 = rw (lt-leb max_statements (of_stmt n) small, h) (rw k (rw k2))

-- t is read wherever it stands in its place
abbrev Reads : List ℕ → ℕ → Stmt → Type 0
Reads s left t = (e : Around) (n : StmtNo) (m m' : Marks) → Here left e n m t m' → Within m' → Below e m.signals → e.traps ≤ max_traps
    → Stands s m.at (stmt_bytes t) m'.at → read_stmt left s e n m ≡ got t m'

-- not too many traps are around a part either
traps_inside : (e : Around) (b : SignalNo) (u : Unary) → UnaryPlaced e b u → e.traps ≤ max_traps → (inside e u).traps ≤ max_traps
unfolding inside UnaryPlaced
traps_inside e b Loop own few = few
traps_inside e b (Watching x) own few = few
traps_inside e b Trap own few = omega arith
traps_inside e b (Signal x) own few = few

-- So a statement is read wherever it stands in its place, if its parts are: a leaf ..
module _ (s : List ℕ) (left : ℕ) where
  leaf_reads : (l : Leaf) → Reads s (suc left) (leaf l)
  unfolding Placed size halt_count local_count
  leaf_reads l e n m m' r w below few st =
      let head : HeadHere e m (Zero l) m' = record { placed = r.placed; moved = by_moved r.moved } in
      leaf_got s left e n m m' (omega arith) l (head_reads s e m below few (Zero l) m' head w (rw bytes_leaf at st))

  -- .. a statement with one part, where m1 is past its head ..
  one_reads : (u : Unary) (p : Stmt) → Reads s left p → Reads s (suc left) (one u p)
  unfolding Placed size levels halt_count local_count
  one_reads u p part e n m m' r w below few st =
      let all : Stands s m.at (head_bytes (One u) ++ stmt_bytes p) m'.at = rw bytes_one at st in
      let after : ℕ = m.at + length (head_bytes (One u)) in
      let m1 : Marks = record { at = after; halts = m.halts; signals = signals_on m.signals (declares u) } in
      let moved = by_moved r.moved in
      let head : HeadHere e m (One u) m1 = record { placed = r.placed.0; moved = omega arith } in
      let within : Within m1 = omega arith in
      let rest : Here left (inside e u) (further n 1) m1 p m' =
      record {
        placed = r.placed.1;
        moved = to_moved (omega arith);
        statements = omega arith;
        nesting = omega arith;
      } in
      let named = below_inside e m.signals u r.placed.0 below in
      let traps = traps_inside e m.signals u r.placed.0 few in
      one_got s left e n m m1 (omega arith) u p m'
      (head_reads s e m below few (One u) m1 head within (stands_first s m.at (head_bytes (One u)) (stmt_bytes p) m'.at all))
      (part (inside e u) (further n 1) m1 m' rest w named traps (stands_second s m.at (head_bytes (One u)) (stmt_bytes p) m'.at all))

  -- .. and with two, where m2 is past the first
  two_reads : (b : Binary) (p q : Stmt) → Reads s left p → Reads s left q → Reads s (suc left) (two b p q)
  unfolding Placed size levels halt_count local_count
  two_reads b p q part part2 e n m m' r w below few st =
      let all : Stands s m.at (head_bytes (Two b) ++ (stmt_bytes p ++ stmt_bytes q)) m'.at = rw bytes_two at st in
      let m1 : Marks = past m (m.at + length (head_bytes (Two b))) in
      let both : Stands s m1.at (stmt_bytes p ++ stmt_bytes q) m'.at =
      stands_second s m.at (head_bytes (Two b)) (stmt_bytes p ++ stmt_bytes q) m'.at all in
      let after : ℕ = m1.at + length (stmt_bytes p) in
      let m2 : Marks = record { at = after; halts = halts_on m.halts (halt_count p); signals = signals_on m.signals (local_count p) } in
      let moved = by_moved r.moved in
      let head : HeadHere e m (Two b) m1 = record { placed = r.placed.0; moved = omega arith } in
      let within2 : Within m2 = omega arith in
      let within1 : Within m1 = omega arith in
      let first : Here left e (further n 1) m1 p m2 =
      record {
        placed = r.placed.1;
        moved = record { halts = refl; signals = refl };
        statements = omega arith;
        nesting = omega arith;
      } in
      let second : Here left e (further n (1 + size p)) m2 q m' =
      record {
        placed = r.placed.2;
        moved = to_moved (omega arith);
        statements = omega arith;
        nesting = omega arith;
      } in
      let own = stands_first s m.at (head_bytes (Two b)) (stmt_bytes p ++ stmt_bytes q) m'.at all in
      two_got s left e n m m1 (omega arith) b p q m2 m' (head_reads s e m below few (Two b) m1 head within1 own)
      (part e (further n 1) m1 m2 first within2 below few (stands_first s m1.at (stmt_bytes p) (stmt_bytes q) m'.at both))
      (part2 e (further n (1 + size p)) m2 m' second w (below_on e m.signals (local_count p) below) few
      (stands_second s m1.at (stmt_bytes p) (stmt_bytes q) m'.at both))

-- no statement stands where no level is left
levels_some : (t : Stmt) → 1 ≤ levels t
unfolding levels
levels_some (leaf l) = omega arith
levels_some (one u p) = omega arith
levels_some (two b p q) = omega arith

-- a statement that stands in its place is read
pub stmt_reads : (s : List ℕ) (left : ℕ) (t : Stmt) → Reads s left t
stmt_reads s zero t = λ e n m m' r w below few st. absurd (omega (arith, levels_some t))
stmt_reads s (suc left) (leaf l) = leaf_reads s left l
stmt_reads s (suc left) (one u p) = one_reads s left u p (stmt_reads s left p)
stmt_reads s (suc left) (two b p q) = two_reads s left b p q (stmt_reads s left p) (stmt_reads s left q)

-- a proper sheet that stands from the first byte to the last is read
sheet_stands : (s : List ℕ) (i o : ℕ) (t : Stmt) → Proper i o t → Stands s 0 (sheet_bytes i o t) (length s) → SheetIs s i o t
unfolding sheet_bytes
sheet_stands s i o t k all =
    let header : 1 + i + o ≤ max_signals = k.header in
    let a : ℕ = 0 + length (number_bytes i) in
    let b : ℕ = a + length (number_bytes o) in
    let rest : Stands s a (number_bytes o ++ stmt_bytes t) (length s) =
    stands_second s 0 (number_bytes i) (number_bytes o ++ stmt_bytes t) (length s) all in
    let m : Marks = root_marks b i o in
    let m' : Marks = record { at = length s; halts = halts_on m.halts (halt_count t); signals = signals_on m.signals (local_count t) } in
    let here : Here max_level (root_around i o) (stmt_no 0) m t m' =
    record {
      placed = k.placed;
      moved = record { halts = refl; signals = refl };
      statements = omega arith;
      nesting = k.nesting;
    } in
    let within : Within m' = omega arith in
    record {
      a = cursor a;
      b = cursor b;
      m = m';
      inputs = stands_read s 0 i a (stands_first s 0 (number_bytes i) (number_bytes o ++ stmt_bytes t) (length s) all) (omega arith);
      outputs = stands_read s a o b (stands_first s a (number_bytes o) (stmt_bytes t) (length s) rest) (omega arith);
      header = header;
      root =
          stmt_reads s max_level t (root_around i o) (stmt_no 0) m m' here within (λ x. ltb-true (of_signal x) (1 + i + o)) (omega arith)
          (stands_second s a (number_bytes o) (stmt_bytes t) (length s) rest);
      end = omega arith;
    }

-- "for every tree within limits, scopes and levels, reading its bytes gives the tree back"
pub read_back : (i o : ℕ) (t : Stmt) → Proper i o t → read_sheet (sheet_bytes i o t) ≡ sheet (record { inputs = i; outputs = o; root = t })
read_back i o t k = sheet_is (sheet_bytes i o t) i o t (sheet_stands (sheet_bytes i o t) i o t k (stands_all (sheet_bytes i o t)))
