-- What the walks over the rows stand on: where a part stands, that its walk is shorter, and what a statement's run is by those of its parts.
use mathlib.Core.Path.{◌≡◌, refl, sym, ap, ◌∙◌, subst}
use mathlib.Core.Bool.{Bool, true, false, not, ◌&&◌, ◌||◌}
use mathlib.Core.List.{List}
use Prim.Native.Nat.{ℕ, ◌+◌, ◌-◌, ◌<◌, ◌≤◌}
use native.Mathlib.Omega.{arith}
use lib.ListN.{length}
use Rattle.limits.specs.Limits.{max_halts, max_signals}
use Rattle.bits.specs.Bits.{has, signal_bit, halt_bit, signals_in, no_bits}
use Rattle.bits.proofs.NoBits.{no_bits_parts}
use Rattle.number.specs.declared.SignalNo.{SignalNo}
use Rattle.number.specs.declared.HaltNo.{HaltNo}
use Rattle.number.specs.declared.StmtNo.{StmtNo}
use Rattle.number.specs.Counts.{halt_no, of_halt, of_stmt}
use Rattle.number.specs.Number.{pick}
use Rattle.sheet.specs.declared.Leaf.{Leaf}
use Rattle.sheet.specs.declared.Leaf.TheVariants.{Nothing, Halt, Emit, Exit}
use Rattle.sheet.specs.declared.Unary.{Unary}
use Rattle.sheet.specs.declared.Unary.TheVariants.{Loop, Watching, Trap, Signal}
use Rattle.sheet.specs.declared.Binary.{Binary}
use Rattle.sheet.specs.declared.Binary.TheVariants.{Sequence, Present, Parallel}
use Rattle.sheet.specs.declared.Head.TheVariants.{Zero, One, Two}
use Rattle.sheet.specs.Stmt.{Stmt, leaf, one, two, head_of, size, halt_count}
use Rattle.sheet.specs.Read.{further}
use Rattle.sheet.specs.Rows.{stmt_span, halts_on, row_at, Holds, Tree}
use Rattle.sheet.specs.Form.{Proper}
use Rattle.sheet.proofs.Notions.{Numbered, Scoped, proper_numbered, proper_scoped}
use Rattle.sheet.proofs.Walk.{head_of_lem, first_of, past_of, IsOne, IsTwo, is_leaf, is_one, is_two}
use Rattle.sheet.proofs.Walk.{holds_second, tree_within, tree_end, tree_left}
use Rattle.number.proofs.Bools.{taut}
use Rattle.rules.specs.declared.Yield.{Yield}
use Rattle.rules.specs.Rules.{Signals, Outcome, followed, beside, trapped, start, active}
use Rattle.rules.specs.States.{State, halts_of}
use Rattle.rules.specs.Words.{halts_in, Means, LeafInBits, InBits, Runnable, Started, root, Inside}
use Rattle.rules.proofs.Meanings.{stopped_means}
use Rattle.sheet.specs.declared.Row.{Row}

two_same : (x : Binary) (p p' q q' : Stmt) → p ≡ p' → q ≡ q' → two x p q ≡ two x p' q'
two_same x p p' q q' l r = rw (l, r)

-- Rows hold one statement at most, with one first halt.
pub holds_one : (rows : List Row) (n : StmtNo) (a b : HaltNo) (t u : Stmt) → Holds rows n a t → Holds rows n b u → t ≡ u
unfolding Holds head_of
holds_one rows n a b (leaf l) u h k = sym (is_leaf rows n b u k (head_of_lem rows n a (leaf l) h))
holds_one rows n a b (one x p) u h k =
    let part : IsOne rows n b u x = is_one rows n b u k (head_of_lem rows n a (one x p) h) in
    ap (one x) (holds_one rows (further n 1) a b p part.part h.2 part.holds) ∙ sym part.is
holds_one rows n a b (two x p q) u h k =
    let part : IsTwo rows n b u x = is_two rows n b u k (head_of_lem rows n a (two x p q) h) in
    let left : p ≡ part.left = holds_one rows (further n 1) a b p part.left h.2 part.holds_left in
    let after : Holds rows (further n (1 + size p)) (halts_on b (halt_count p)) part.right =
    subst (λ (x : Stmt). Holds rows (further n (1 + size x)) (halts_on b (halt_count x)) part.right) (sym left) part.holds_right in
    let right : q ≡ part.right =
    holds_one rows (further n (1 + size p)) (halts_on a (halt_count p)) (halts_on b (halt_count p)) q part.right h.3 after in
    two_same x p part.left q part.right left right ∙ sym part.is

-- so whatever the rows hold at n can be run, if something that can be run stands there
pub bits_of : {rows : List Row} {n : StmtNo} → Runnable rows n → (a : HaltNo) (t : Stmt) → Holds rows n a t → InBits a t
bits_of {rows} {n} run a t h =
    let tree : run.stmt ≡ t = holds_one rows n run.first a run.stmt t run.holds h in
    let first : run.first ≡ a = sym (first_of rows n run.first run.stmt run.holds) ∙ first_of rows n a t h in
    subst (λ (x : HaltNo). InBits x t) first (subst (λ (x : Stmt). InBits run.first x) tree run.bits)

module _ {rows : List Row} {n : StmtNo} (run : Runnable rows n) where
  pub tree_of : Tree rows n
  tree_of = record { first = run.first; stmt = run.stmt; holds = run.holds; small = run.small }

  pub run_within : of_stmt n < length rows
  run_within = tree_within tree_of

  pub run_number : of_stmt n < stmt_span
  run_number = omega (arith, run.small)

  pub run_leaf : {l : Leaf} → (row_at rows n).head ≡ Zero l → LeafInBits l
  unfolding InBits
  run_leaf {l} e =
      let bits : InBits run.first (leaf l) =
      subst (λ (x : Stmt). InBits run.first x) (is_leaf rows n run.first run.stmt run.holds e) run.bits in
      bits.0

  pub run_one : {u : Unary} → (row_at rows n).head ≡ One u → Runnable rows (further n 1)
  unfolding InBits size halt_count
  run_one {u} e =
      let k = is_one rows n run.first run.stmt run.holds e in
      let bits : InBits run.first (one u k.part) = subst (λ (x : Stmt). InBits run.first x) k.is run.bits in
      let few : of_halt run.first + halt_count (one u k.part) ≤ max_halts =
      subst (λ (x : Stmt). of_halt run.first + halt_count x ≤ max_halts) k.is run.few in
      let whole : size run.stmt ≡ 1 + size k.part = ap size k.is in
      record { first = run.first; stmt = k.part; holds = k.holds; small = omega (arith, run.small, whole); bits = bits; few = few }

  module _ {b : Binary} (e : (row_at rows n).head ≡ Two b) where
    sides : IsTwo rows n run.first run.stmt b
    sides = is_two rows n run.first run.stmt run.holds e

    side_bits : InBits run.first sides.left × InBits (halts_on run.first (halt_count sides.left)) sides.right
    unfolding InBits
    side_bits = subst (λ (x : Stmt). InBits run.first x) sides.is run.bits

    side_few : of_halt run.first + (halt_count sides.left + halt_count sides.right) ≤ max_halts
    unfolding halt_count
    side_few = subst (λ (x : Stmt). of_halt run.first + halt_count x ≤ max_halts) sides.is run.few

    side_sizes : size run.stmt ≡ 1 + size sides.left + size sides.right
    unfolding size
    side_sizes = ap size sides.is

    pub run_left : Runnable rows (further n 1)
    run_left =
        record {
          first = run.first;
          stmt = sides.left;
          holds = sides.holds_left;
          small = omega (arith, run.small, side_sizes);
          bits = side_bits.0;
          few = omega (arith, side_few);
        }

    pub run_right : Runnable rows (row_at rows (further n 1)).end
    run_right =
        record {
          first = halts_on run.first (halt_count sides.left);
          stmt = sides.right;
          holds = holds_second rows n run.first sides;
          small = omega (arith, run.small, side_sizes, ap (λ (m : StmtNo). of_stmt m) sides.second);
          bits = side_bits.1;
          few = omega (arith, side_few);
        }

    -- the second part lies further on
    pub right_further : of_stmt n < of_stmt (row_at rows (further n 1)).end
    right_further = omega (arith, (tree_end (tree_left tree_of e)).0)

-- all but a trap start as their part does
as_part : (E : Signals) (u : Unary) (p : Stmt) → (u ≡ Trap → ⊥) → start E (one u p) ≡ start E p
unfolding start
as_part E Loop p other = refl
as_part E (Watching s) p other = refl
as_part E Trap p other = absurd (other refl)
as_part E (Signal s) p other = refl

-- A statement started, by its parts.
module _ (rows : List Row) (n : StmtNo) (e : ℕ) where
  abbrev E : Signals
  E = signals_in e

  pub start_leaf : {l : Leaf} {r : Yield} → (row_at rows n).head ≡ Zero l → ((X : Signals) → Means r (start X (leaf l))) → Started rows n e r
  start_leaf head f = record { means = λ a t h. rw (is_leaf rows n a t h head) (f E) }

  pub start_part : {u : Unary} {p : Yield} → (row_at rows n).head ≡ One u → (u ≡ Trap → ⊥) → Started rows (further n 1) e p → Started rows n e p
  start_part {u} {p} head other part = record { means = means }
    where
      means : (a : HaltNo) (t : Stmt) → Holds rows n a t → Means p (start E t)
      means a t h = let k = is_one rows n a t h head in rw (k.is, as_part E u k.part other) (part.means a k.part k.holds)

  pub start_trap : {p r : Yield} → (row_at rows n).head ≡ One Trap → Started rows (further n 1) e p
      → ((o : Outcome) → Means p o → Means r (trapped o)) → Started rows n e r
  unfolding start
  start_trap {r = r} head part f = record { means = means }
    where
      means : (a : HaltNo) (t : Stmt) → Holds rows n a t → Means r (start E t)
      means a t h = let k = is_one rows n a t h head in rw k.is (f (start E k.part) (part.means a k.part k.holds))

  module _ {b : Binary} {p q r : Yield} (head : (row_at rows n).head ≡ Two b)
      (of : (x y : Stmt) → Means p (start E x) → Means q (start E y) → Means r (start E (two b x y))) where
    -- both parts have run
    start_two : Started rows (further n 1) e p → Started rows (row_at rows (further n 1)).end e q → Started rows n e r
    start_two left right = record { means = means }
      where
        means : (a : HaltNo) (t : Stmt) → Holds rows n a t → Means r (start E t)
        means a t h =
            let k = is_two rows n a t h head in
            rw k.is
            (of k.left k.right (left.means a k.left k.holds_left)
            (right.means (halts_on a (halt_count k.left)) k.right (holds_second rows n a k)))

  module _ {b : Binary} {p : Yield} (head : (row_at rows n).head ≡ Two b) where
    -- only the first, or only the second, has
    start_first : ((x y : Stmt) → Means p (start E x) → Means p (start E (two b x y))) → Started rows (further n 1) e p → Started rows n e p
    start_first of left = record { means = means }
      where
        means : (a : HaltNo) (t : Stmt) → Holds rows n a t → Means p (start E t)
        means a t h = let k = is_two rows n a t h head in rw k.is (of k.left k.right (left.means a k.left k.holds_left))

    start_second : ((x y : Stmt) → Means p (start E y) → Means p (start E (two b x y))) → Started rows (row_at rows (further n 1)).end e p
        → Started rows n e p
    start_second of right = record { means = means }
      where
        means : (a : HaltNo) (t : Stmt) → Holds rows n a t → Means p (start E t)
        means a t h =
            let k = is_two rows n a t h head in
            rw k.is
            (of k.left k.right (right.means (halts_on a (halt_count k.left)) k.right (holds_second rows n a k)))

  module _ {p q r : Yield} where
    pub start_sequence : (row_at rows n).head ≡ Two Sequence → Started rows (further n 1) e p
        → Started rows (row_at rows (further n 1)).end e q
        → ((x y : Outcome) → Means p x → Means q y → Means r (followed x y)) → Started rows n e r
    unfolding start
    start_sequence head left right f = start_two head (λ x y mp mq. f (start E x) (start E y) mp mq) left right

    pub start_parallel : (row_at rows n).head ≡ Two Parallel → Started rows (further n 1) e p
        → Started rows (row_at rows (further n 1)).end e q
        → ((x y : Outcome) → Means p x → Means q y → Means r (beside x y)) → Started rows n e r
    unfolding start
    start_parallel head left right f = start_two head (λ x y mp mq. f (start E x) (start E y) mp mq) left right

  module _ {p : Yield} where
    pub start_stopped : (row_at rows n).head ≡ Two Sequence → Started rows (further n 1) e p → (p.code ≡ 0 → ⊥) → Started rows n e p
    unfolding start
    start_stopped head left on = start_first head (λ x y m. stopped_means p (start E x) (start E y) m on) left

    pub start_then : {s : SignalNo} → (row_at rows n).head ≡ Two (Present s) → has e (signal_bit s) ≡ true → Started rows (further n 1) e p
        → Started rows n e p
    unfolding start pick
    start_then head present left = start_first head (λ x y m. rw present m) left

    pub start_else : {s : SignalNo} → (row_at rows n).head ≡ Two (Present s) → has e (signal_bit s) ≡ false
        → Started rows (row_at rows (further n 1)).end e p → Started rows n e p
    unfolding start pick
    start_else head absent right = start_second head (λ x y m. rw absent m) right

-- Which halts lie inside: the state's bits from the first halt's on, as many as there are halts.
active_here : (x : Bool) → x ≡ not (not x && true)
active_here = taut 1 0 _ _ _ tt

active_either : (x y : Bool) → (not x || not y) ≡ not (x && y)
active_either = taut 2 0 _ _ _ tt

active_bits : (S : State) (a : HaltNo) (t : Stmt) → InBits a t → active (halts_of S) t ≡ not (no_bits (halt_count t) (halt_bit a) S)
unfolding active no_bits halt_count InBits
active_bits S a (leaf Nothing) w = refl
active_bits S a (leaf (Halt h)) w = rw w.1 (active_here (S (halt_bit a)))
active_bits S a (leaf (Emit s)) w = refl
active_bits S a (leaf (Exit k)) w = refl
active_bits S a (one u p) w = active_bits S a p w
active_bits S a (two b p q) w =
    let a₂ : HaltNo = halts_on a (halt_count p) in
    let here : halt_bit a + halt_count p ≡ halt_bit a₂ = omega arith in
    rw (active_bits S a p w.0, active_bits S a₂ q w.1, no_bits_parts (halt_count p) (halt_count q) (halt_bit a) S, here)
    (active_either (no_bits (halt_count p) (halt_bit a) S) (no_bits (halt_count q) (halt_bit a₂) S))

module _ {rows : List Row} {n : StmtNo} (run : Runnable rows n) where
  -- the row's two numbers
  row_halts : (a : HaltNo) (t : Stmt) → Holds rows n a t
      → (of_halt (row_at rows n).first ≡ of_halt a) × (of_halt (row_at rows n).past ≡ of_halt a + halt_count t)
  row_halts a t h = (ap (λ (x : HaltNo). of_halt x) (first_of rows n a t h), ap (λ (x : HaltNo). of_halt x) (past_of rows n a t h))

  pub inside_few : (of_halt (row_at rows n).first ≤ of_halt (row_at rows n).past) × (of_halt (row_at rows n).past ≤ max_halts)
  inside_few =
      let row = row_halts run.first run.stmt run.holds in
      (omega (arith, row.0, row.1), omega (arith, row.0, row.1, run.few))

  pub inside_some : (w : ℕ) (off : Bool)
      → off ≡ no_bits (halt_bit (row_at rows n).past - halt_bit (row_at rows n).first) (halt_bit (row_at rows n).first) (has w)
      → Inside rows n w (not off)
  inside_some w off e = record { answer = answer }
    where
      answer : (a : HaltNo) (t : Stmt) → Holds rows n a t → not off ≡ active (halts_in w) t
      answer a t h =
          let row = row_halts a t h in
          let count : halt_bit (row_at rows n).past - halt_bit (row_at rows n).first ≡ halt_count t = omega (arith, row.0, row.1) in
          ap not (rw (count, row.0) at e) ∙ sym (active_bits (has w) a t (bits_of run a t h))

-- The tree of a sheet that was read can be run in sets of bits.
pub placed_bits : (i n : ℕ) (a : HaltNo) (t : Stmt) → n ≤ max_signals → Scoped i n t → Numbered a t → of_halt a + halt_count t ≤ max_halts
    → InBits a t
unfolding Scoped Numbered halt_count InBits
placed_bits i n a (leaf Nothing) few s k room = (tt, tt)
placed_bits i n a (leaf (Halt h)) few s k room = let own : of_halt h ≡ of_halt a = ap (λ (x : HaltNo). of_halt x) k in (omega arith, k)
placed_bits i n a (leaf (Emit x)) few s k room = (omega (arith, s.1), tt)
placed_bits i n a (leaf (Exit l)) few s k room = (tt, tt)
placed_bits i n a (one u p) few s k room = placed_bits i n a p few s.1 k room
placed_bits i n a (two b p q) few s k room =
    (placed_bits i n a p few s.1 k.0 (omega arith), placed_bits i n (halts_on a (halt_count p)) q few s.2 k.1 (omega arith))

-- so the rows that hold it can be run
unfoldable pub run_proper : {i o : ℕ} {t : Stmt} {rows : List Row} → Proper i o t → Holds rows root (halt_no 0) t → Runnable rows root
run_proper {t = t} h holds =
    record {
      first = halt_no 0;
      stmt = t;
      holds = holds;
      small = omega (arith, h.statements);
      bits = placed_bits _ _ (halt_no 0) t h.signals (proper_scoped h) (proper_numbered h) (omega (arith, h.halts));
      few = omega (arith, h.halts);
    }
