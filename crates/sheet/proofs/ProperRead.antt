-- Whatever was read is in its place and within the limits, and its bytes are the tree's. One induction over reading shows all of it.
use mathlib.Core.Path.{◌≡◌, refl, ap, ◌∙◌}
use mathlib.Core.List.{List, [], ◌++◌}
use Prim.Native.Nat.{ℕ, suc, ◌+◌, ◌<◌}
use native.Mathlib.Omega.{arith}
use native.Mathlib.Nat.{add-zero}
use Rattle.number.specs.declared.SignalNo.{SignalNo}
use Rattle.number.specs.declared.StmtNo.{StmtNo}
use Rattle.number.specs.declared.Cursor.{Cursor}
use Rattle.number.specs.Counts.{signal_no, of_signal, halt_no, of_halt, stmt_no, of_stmt}
use Rattle.number.specs.Number.{number_at, number_bytes, Bytes}
use Rattle.limits.specs.Limits.{max_statements, max_level}
use Rattle.sheet.specs.declared.Leaf.{Leaf}
use Rattle.sheet.specs.declared.Leaf.TheVariants.{Nothing, Emit}
use Rattle.sheet.specs.declared.Unary.{Unary}
use Rattle.sheet.specs.declared.Unary.TheVariants.{Loop, Watching, Trap}
use Rattle.sheet.specs.declared.Binary.{Binary}
use Rattle.sheet.specs.declared.Binary.TheVariants.{Sequence, Present, Parallel}
use Rattle.sheet.specs.declared.Head.{Head}
use Rattle.sheet.specs.declared.Head.TheVariants.{Zero, One, Two}
use Rattle.sheet.specs.declared.Marks.{Marks}
use Rattle.sheet.specs.Stmt.{Stmt, leaf, one, two, kind_of, size, levels, halt_count, declares, local_count}
use Rattle.sheet.specs.Read.{Around, past, further, inside, got, read_stmt, Sheet, sheet, root_around, root_marks, read_sheet}
use Rattle.sheet.specs.Form.{stmt_bytes, signals_on, LeafPlaced, UnaryPlaced, BinaryPlaced, Placed, Proper}
use Rattle.sheet.proofs.Induction.{Names, HeadIs, Headed, read_induction}
use Rattle.sheet.proofs.Induction.{nothing, halt, emit, sequence, loop, present, watching, parallel, trap, exit, local}
use Rattle.sheet.proofs.Stands.{Stands, stands_none, stands_both, read_stands}
use Rattle.sheet.proofs.Moved.{MovedBy, head_moved, to_moved, by_moved, one_moved, two_moved}
use Rattle.sheet.proofs.Here.{operand_bytes, head_bytes, HeadPlaced, Within, Here, bytes_leaf, bytes_one, bytes_two}
use Rattle.sheet.proofs.Whole.{SheetIs, is_sheet}
use Rattle.std.specs.Prelude.{Ok}

-- what reading a head says of it, besides how far the marks move (`head_moved`)
record HeadSays (s : List ℕ) (e : Around) (m : Marks) (h : Head) (m' : Marks) : Type 0 where
  placed : HeadPlaced e m h
  within : Within m → Within m'
  bytes : Bytes s → Stands s m.at (head_bytes h) m'.at

-- what reading a statement says of it: it is in its place, no limit on halts and signals is passed, and its bytes stand there
pub record Says (s : List ℕ) (left : ℕ) (e : Around) (n : StmtNo) (m : Marks) (t : Stmt) (m' : Marks) : Type 0 where
  pub here : Here left e n m t m'
  pub within : Within m → Within m'
  pub bytes : Bytes s → Stands s m.at (stmt_bytes t) m'.at

module _ (s : List ℕ) (e : Around) (m : Marks) (c : Cursor) where
  -- the bytes of a kind alone
  kind_alone : (k : ℕ) → number_at s m.at ≡ Ok (k, c) → Bytes s → Stands s m.at (number_bytes k ++ []) c.at
  kind_alone k q are =
      let kind : Stands s m.at (number_bytes k) c.at = read_stands s m.at k c are q in
      stands_both s m.at (number_bytes k) c.at [] c.at kind (stands_none s c.at kind.inside)

  -- and of a kind with a number behind it
  kind_number : (k v : ℕ) (after : Cursor) → number_at s m.at ≡ Ok (k, c) → number_at s c.at ≡ Ok (v, after) → Bytes s
      → Stands s m.at (number_bytes k ++ number_bytes v) after.at
  kind_number k v after q w are =
      let kind = read_stands s m.at k c are q in
      stands_both s m.at (number_bytes k) c.at (number_bytes v) after.at kind (read_stands s c.at v after are w)

  -- where only the offset moves the limits are kept
  kept : (at : ℕ) → Within m → Within (past m at)
  kept at w = omega arith

  -- a head without an operand that takes no number
  plain : (h : Head) → operand_bytes h ≡ [] → HeadPlaced e m h → number_at s m.at ≡ Ok (kind_of h, c) → HeadSays s e m h (past m c.at)
  plain h o placed q = record { placed = placed; within = kept c.at; bytes = λ are. rw o (kind_alone (kind_of h) q are) }

  -- a head that names a signal
  naming : (h : Head) (x : SignalNo) (m' : Marks) → operand_bytes h ≡ number_bytes (of_signal x) → HeadPlaced e m h
      → number_at s m.at ≡ Ok (kind_of h, c) → Names s e (past m c.at) x m' → HeadSays s e m h m'
  naming h x m' o placed q r =
      rw r.marks
      (record {
        placed = placed;
        within = kept r.after.at;
        bytes = λ are. rw o (kind_number (kind_of h) (of_signal x) r.after q r.number are);
      })

  -- the eleven kinds
  head_is : (h : Head) (m' : Marks) → HeadIs s e m c h m' → HeadSays s e m h m'
  unfolding LeafPlaced UnaryPlaced BinaryPlaced
  head_is h m' (nothing q) = plain (Zero Nothing) refl tt q
  head_is h m' (loop q) = plain (One Loop) refl tt q
  head_is h m' (sequence q) = plain (Two Sequence) refl tt q
  head_is h m' (parallel q) = plain (Two Parallel) refl tt q
  head_is h m' (trap q few) = plain (One Trap) refl few q
  head_is h m' (emit {x} q r out) = naming (Zero (Emit x)) x m' refl (r.scope, out) q r
  head_is h m' (watching {x} q r) = naming (One (Watching x)) x m' refl r.scope q r
  head_is h m' (present {x} q r) = naming (Two (Present x)) x m' refl r.scope q r
  head_is h m' (exit {k} {after} q r low high) =
      record { placed = (low, high); within = kept after.at; bytes = kind_number 9 k after q r }
  head_is h m' (halt q few) = record { placed = refl; within = λ w. omega arith; bytes = kind_alone 1 q }
  head_is h m' (local q few) = record { placed = refl; within = λ w. omega arith; bytes = kind_alone 10 q }

head_says : (s : List ℕ) (e : Around) (m : Marks) (h : Head) (m' : Marks) → Headed s e m h m' → HeadSays s e m h m'
head_says s e m h m' r = head_is s e m r.kind_end h m' r.is

-- a head with parts takes no halt's number, one with two parts no signal's
same_halts : {m m1 : Marks} {k : ℕ} → MovedBy m m1 0 k → m1.halts ≡ m.halts
same_halts {m} r = ap halt_no (r.halts ∙ add-zero (of_halt m.halts))

same_signals : {m m1 : Marks} {k : ℕ} → MovedBy m m1 k 0 → m1.signals ≡ m.signals
same_signals {m} r = ap signal_no (r.signals ∙ add-zero (of_signal m.signals))

-- What reading a statement says of it, given its head and what reading its parts says of them.
module _ (s : List ℕ) (left : ℕ) (e : Around) (n : StmtNo) (m m1 : Marks) (small : of_stmt n < max_statements) where
  -- a leaf ..
  says_leaf : (l : Leaf) → Headed s e m (Zero l) m1 → Says s (suc left) e n m (leaf l) m1
  unfolding Placed size levels halt_count local_count
  says_leaf l r =
      let head : HeadSays s e m (Zero l) m1 = head_says s e m (Zero l) m1 r in
      record {
        here = record { placed = head.placed; moved = to_moved (head_moved r.is); statements = omega arith; nesting = omega arith };
        within = head.within;
        bytes = λ are. rw bytes_leaf (head.bytes are);
      }

  -- .. a statement with one part ..
  says_one : (m2 : Marks) (u : Unary) (p : Stmt) → Headed s e m (One u) m1 → Says s left (inside e u) (further n 1) m1 p m2
      → Says s (suc left) e n m (one u p) m2
  unfolding Placed size levels
  says_one m2 u p r part =
      let head : HeadSays s e m (One u) m1 = head_says s e m (One u) m1 r in
      let own : MovedBy m m1 0 (declares u) = head_moved r.is in
      let declared : m1.signals ≡ signals_on m.signals (declares u) = ap signal_no own.signals in
      record {
        here =
            record {
              placed = (head.placed, rw (same_halts own, declared) at part.here.placed);
              moved = one_moved own part.here.moved;
              statements = omega arith;
              nesting = omega arith;
            };
        within = λ w. part.within (head.within w);
        bytes = λ are.
            rw bytes_one (stands_both s m.at (head_bytes (One u)) m1.at (stmt_bytes p) m2.at (head.bytes are) (part.bytes are));
      }

  -- .. and with two
  says_two : (m2 m3 : Marks) (b : Binary) (p q : Stmt) → Headed s e m (Two b) m1 → Says s left e (further n 1) m1 p m2
      → Says s left e (further n (1 + size p)) m2 q m3 → Says s (suc left) e n m (two b p q) m3
  unfolding Placed size levels
  says_two m2 m3 b p q r first second =
      let head : HeadSays s e m (Two b) m1 = head_says s e m (Two b) m1 r in
      let own : MovedBy m m1 0 0 = head_moved r.is in
      let moved = first.here.moved in
      let placed2 = rw (moved.halts, moved.signals, same_halts own, same_signals own) at second.here.placed in
      record {
        here =
            record {
              placed = (head.placed, rw (same_halts own, same_signals own) at first.here.placed, placed2);
              moved = two_moved own first.here.moved second.here.moved;
              statements = omega arith;
              nesting = omega arith;
            };
        within = λ w. second.within (first.within (head.within w));
        bytes = λ are.
            let parts = stands_both s m1.at (stmt_bytes p) m2.at (stmt_bytes q) m3.at (first.bytes are) (second.bytes are) in
            rw bytes_two (stands_both s m.at (head_bytes (Two b)) m1.at (stmt_bytes p ++ stmt_bytes q) m3.at (head.bytes are) parts);
      }

-- so of every statement that was read
pub stmt_says : (s : List ℕ) (left : ℕ) (e : Around) (n : StmtNo) (m : Marks) (t : Stmt) (m' : Marks) → read_stmt left s e n m ≡ got t m'
    → Says s left e n m t m'
stmt_says s =
    read_induction s (Says s)
    (λ left e n m m1 l small r. says_leaf s left e n m m1 small l r)
    (λ left e n m m1 m2 u p small r k. says_one s left e n m m1 small m2 u p r k)
    (λ left e n m m1 m2 m3 b p q small r k k2. says_two s left e n m m1 small m2 m3 b p q r k k2)

-- what reading a sheet says of its statement; b is past the sheet's numbers, m past the statement
pub root_says : (s : List ℕ) (i o : ℕ) (t : Stmt) (r : SheetIs s i o t)
    → Says s max_level (root_around i o) (stmt_no 0) (root_marks r.b.at i o) t r.m
root_says s i o t r = stmt_says s max_level (root_around i o) (stmt_no 0) (root_marks r.b.at i o) t r.m r.root

-- whatever was read is in its place and within the limits
pub proper : (s : List ℕ) (w : Sheet) → read_sheet s ≡ sheet w → Proper w.inputs w.outputs w.root
proper s w q =
    let r : SheetIs s w.inputs w.outputs w.root = is_sheet s w q in
    let root = root_says s w.inputs w.outputs w.root r in
    let within : Within r.m = root.within (omega arith) in
    let moved = by_moved root.here.moved in
    record {
      header = r.header;
      placed = root.here.placed;
      statements = omega arith;
      nesting = root.here.nesting;
      halts = omega arith;
      signals = omega arith;
    }
