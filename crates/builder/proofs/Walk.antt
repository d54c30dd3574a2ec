-- The code's walk builds the statement at its row: a leaf, or one that is opened, whose parts the walk builds, and that is closed.
use Prim.Native.Nat.{ℕ, ◌+◌, ◌*◌, ◌<◌, ◌≤◌}
use mathlib.Core.Path.{◌≡◌, ap, ◌∙◌, subst, subst⁻¹}
use mathlib.Core.Bool.{Bool}
use mathlib.Core.List.{List}
use native.Mathlib.Omega.{arith}
use lib.ListN.{length, length-append}
use Rattle.number.specs.Counts.{cell_no, of_stmt}
use Rattle.number.specs.declared.CellNo.{CellNo}
use Rattle.number.specs.declared.StmtNo.{StmtNo}
use Rattle.number.specs.declared.HaltNo.{HaltNo}
use Rattle.bits.specs.Bits.{has}
use Rattle.limits.specs.Limits.{max_signals}
use Rattle.sheet.specs.Form.{halts_on}
use Rattle.sheet.specs.declared.Leaf.{Leaf}
use Rattle.sheet.specs.declared.Unary.{Unary}
use Rattle.sheet.specs.declared.Unary.TheVariants.{Loop, Watching, Trap, Signal}
use Rattle.sheet.specs.declared.Binary.{Binary}
use Rattle.sheet.specs.declared.Binary.TheVariants.{Sequence, Present, Parallel}
use Rattle.sheet.specs.declared.Head.TheVariants.{Zero, One, Two}
use Rattle.sheet.specs.Stmt.{Stmt, leaf, one, two, size, halt_count}
use Rattle.sheet.specs.Read.{further}
use Rattle.sheet.specs.Rows.{stmt_span, Holds, row_at}
use Rattle.sheet.proofs.Walk.{size_pos, within, is_leaf, is_one, is_two, IsOne, IsTwo}
use Rattle.sets.specs.Words.{LowLeaf, Low, Entered, Kept}
use Rattle.cells.specs.Cells.{signal_cell}
use Rattle.cells.specs.declared.Gate.TheVariants.{And, Butnot}
use Rattle.gates.specs.Folding.{New, and_at, butnot_at}
use Rattle.gates.specs.Store.{parallel_cells}
use Rattle.gates.specs.declared.Column.{Column}
use Rattle.parts.specs.declared.Wires.{Wires}
use Rattle.parts.specs.declared.Returned.{Returned}
use Rattle.parts.specs.declared.Opened.{Opened}
use Rattle.parts.specs.Equations.{Built, past, given, build}
use Rattle.parts.specs.Contract.{nets, own_cells, Builds, open_one, open_two, go_of, Opens, OpensTwo, ClosesOne, ClosesTwo, LeafNamed, UnaryNamed, BinaryNamed}
use Rattle.parts.proofs.Parts.{builds_as, one_builds, two_builds}
use Rattle.builder.specs.Walking.{Named, InShape, Buildable, Task, Does}
use Rattle.builder.proofs.Few.{gate_few, sized}
use Rattle.sets.specs.declared.Entry.{Entry}
use Rattle.sheet.specs.declared.Row.{Row}

-- what the code asks of a statement it may ask of the parts
module _ {ms : List Entry} {n : StmtNo} where
  fit_part : (u : Unary) (p : Stmt) → InShape ms n (one u p) → InShape ms (further n 1) p
  unfolding Low Named Kept
  fit_part u p f = record { low = f.low; named = f.named.1; kept = f.kept.1 }

  fit_left : (b : Binary) (p q : Stmt) → InShape ms n (two b p q) → InShape ms (further n 1) p
  unfolding Low Named Kept
  fit_left b p q f = record { low = f.low.0; named = f.named.1; kept = f.kept.1 }

  fit_right : (b : Binary) (p q : Stmt) → InShape ms n (two b p q) → InShape ms (further n (1 + size p)) q
  unfolding Low Named Kept
  fit_right b p q f = record { low = f.low.1; named = f.named.2; kept = f.kept.2 }

  -- its own entry
  entry : (b : Binary) (p q : Stmt) → InShape ms n (two b p q) → Entered ms n (two b p q)
  unfolding Kept
  entry b p q f = f.kept.0

-- The walk of a part that stands at row j and takes the wires v.
abbrev inner : List Row → List Entry → StmtNo → Wires → Column → List ℕ → Task
inner rows ms j v c ls = record { rows = rows; statics = ms; stmt = j; wires = v; column = c; lists = ls }

-- What the walk is to build where the statement t stands.
abbrev built : Task → Stmt → Built
built w t = build t w.column.count w.wires.go w.wires.res w.wires.kill (nets w.lists)

-- What it does at a row, from what its calls do.
module _ {w : Task} where
  pub leaf_does : {c' : Column} {ls' : List ℕ} {b : Returned} {x : Leaf} → (row_at w.rows w.stmt).head ≡ Zero x
      → Builds (built w (leaf x)) w.column c' ls' b → Does w c' ls' b
  leaf_does e b = record { same = b.wrote.same; does = λ a t h f. builds_as (ap (built w) (is_leaf w.rows w.stmt a t h e)) b }

  pub one_does : {c₁ c₂ c₃ : Column} {ls' : List ℕ} {v : Wires} {n : CellNo} {p b : Returned} {u : Unary} → (row_at w.rows w.stmt).head ≡ One u
      → n ≡ cell_no w.column.count → Opens (open_one u w.column.count w.wires.go w.wires.res w.wires.kill) w.column c₁ v
      → Does (inner w.rows w.statics (further w.stmt 1) v c₁ w.lists) c₂ ls' p → ClosesOne u n w.wires c₂ c₃ p b → Does w c₃ ls' b
  one_does {u = u} e en o d k = record {
    same = k.same ∙ d.same ∙ o.wrote.same;
    does = λ a t h f.
        let i = is_one w.rows w.stmt a t h e in
        let p : Stmt = i.part in
        let fit : InShape w.statics w.stmt (one u p) = subst (λ (v : Stmt). InShape w.statics w.stmt v) i.is f in
        builds_as (ap (built w) i.is) (one_builds (nets w.lists) u p w.wires en o (d.does a p i.holds (fit_part u p fit)) k);
  }

  pub two_does : {c₁ c₂ c₃ c₄ : Column} {ls₁ ls₂ : List ℕ} {o : Opened} {n g : CellNo} {p q s : Returned} {b : Binary} {j : StmtNo} (keep : ℕ)
      → (row_at w.rows w.stmt).head ≡ Two b → n ≡ cell_no w.column.count
      → OpensTwo (open_two b w.column.count w.wires.go w.wires.res w.wires.kill) w.column c₁ o
      → Does (inner w.rows w.statics (further w.stmt 1) o.first c₁ w.lists) c₂ ls₁ p → j ≡ (row_at w.rows (further w.stmt 1)).end
      → g ≡ go_of b o.other p.codes → Does (inner w.rows w.statics j (record o.first { go = g }) c₂ ls₁) c₃ ls₂ q
      → ((t : Stmt) → Low t → Entered w.statics w.stmt t → has keep ≡ given t)
      → ClosesTwo b (has keep) n w.wires c₃ c₄ p q s → Does w c₄ ls₂ s
  two_does {c₃ = c₃} {c₄ = c₄} {n = n} {p = p} {q = q} {s = s} {b = b} {j = j} keep e en o d₁ ej eg d₂ kept k =
      record {
        same = k.same ∙ d₂.same ∙ d₁.same ∙ o.opens.wrote.same;
        does = λ a t h f.
            let rows : List Row = w.rows in
            let i = is_two rows w.stmt a t h e in
            let x : Stmt = i.left in
            let y : Stmt = i.right in
            let fit : InShape w.statics w.stmt (two b x y) = subst (λ (v : Stmt). InShape w.statics w.stmt v) i.is f in
            let place : j ≡ further w.stmt (1 + size x) = ej ∙ i.second in
            let holds : Holds rows j (halts_on a (halt_count x)) y = subst⁻¹ (λ (v : StmtNo). Holds rows v (halts_on a (halt_count x)) y) place i.holds_right in
            let right : InShape w.statics j y = subst⁻¹ (λ (v : StmtNo). InShape w.statics v y) place (fit_right b x y fit) in
            let closed : ClosesTwo b (given (two b x y)) n w.wires c₃ c₄ p q s =
            subst (λ (v : ℕ → Bool). ClosesTwo b v n w.wires c₃ c₄ p q s) (kept (two b x y) fit.low (entry b x y fit)) k in
            builds_as (ap (built w) i.is)
            (two_builds (nets w.lists) b x y w.wires en o (d₁.does a x i.holds_left (fit_left b x y fit)) eg
            (d₂.does (halts_on a (halt_count x)) y holds right) closed);
      }

-- That its calls may be made: there is a statement at each of their rows, and room for their cells.
open_one_few : (u : Unary) (n : ℕ) (g r i : CellNo) → length (open_one u n g r i).cells ≤ 2
open_one_few Loop n g r i = omega arith
open_one_few (Watching s) n g r i = omega (arith, gate_few Butnot n r (signal_cell s))
open_one_few Trap n g r i = omega arith
open_one_few (Signal s) n g r i = omega arith

open_two_few : (b : Binary) (n : ℕ) (g r i : CellNo) → length (open_two b n g r i).cells ≤ 2
open_two_few Sequence n g r i = omega arith
open_two_few (Present s) n g r i =
    let x : New = and_at n g (signal_cell s) in
    let y : New = butnot_at (past n x) g (signal_cell s) in
    omega (arith, length-append x.cells y.cells, gate_few And n g (signal_cell s), gate_few Butnot (past n x) g (signal_cell s))
open_two_few Parallel n g r i = omega arith

-- what a walk builds has few cells
does_few : {w : Task} {c' : Column} {ls' : List ℕ} {b : Returned} (a : HaltNo) (p : Stmt) → Holds w.rows w.stmt a p
    → InShape w.statics w.stmt p → Does w c' ls' b → c'.count ≤ w.column.count + own_cells * size p
does_few {w} a p h f d =
    let v : Wires = w.wires in
    omega (arith, (d.does a p h f).wrote.counted, (sized p w.column.count v.go v.res v.kill (nets w.lists) f.low).few)

module _ {rows : List Row} {ms : List Entry} {ls : List ℕ} {n : StmtNo} {count : ℕ} (ready : Buildable rows ms ls n count) where
  pub ready_within : of_stmt n < length rows
  ready_within = within rows n ready.first ready.stmt ready.holds

  pub ready_number : of_stmt n < stmt_span
  ready_number = omega (arith, ready.small)

  pub ready_open : count + own_cells < 65536
  ready_open = omega (arith, size_pos ready.stmt, ready.room)

  pub ready_leaf : {x : Leaf} → (row_at rows n).head ≡ Zero x → LowLeaf x × LeafNamed x
  unfolding Low Named
  ready_leaf {x} e =
      let fit : InShape ms n (leaf x) = subst (λ (w : Stmt). InShape ms n w) (is_leaf rows n ready.first ready.stmt ready.holds e) ready.fit in
      (fit.low, fit.named)

  module _ {u : Unary} (e : (row_at rows n).head ≡ One u) where
    the_one : IsOne rows n ready.first ready.stmt u
    the_one = is_one rows n ready.first ready.stmt ready.holds e

    fit_one : InShape ms n (one u the_one.part)
    fit_one = subst (λ (w : Stmt). InShape ms n w) the_one.is ready.fit

    size_one : size ready.stmt ≡ 1 + size the_one.part
    unfolding size
    size_one = ap size the_one.is

    there_one : InShape ms (further n 1) the_one.part
    there_one = fit_part u the_one.part fit_one

    pub ready_unary : UnaryNamed u
    unfolding Named
    ready_unary = fit_one.named.0

    module _ {c c₁ : Column} {v : Wires} (w : Wires) (start : c.count ≡ count) (opens : Opens (open_one u c.count w.go w.res w.kill) c c₁ v) where
      pub ready_one : Buildable rows ms ls (further n 1) c₁.count
      ready_one =
          record {
            first = ready.first;
            stmt = the_one.part;
            holds = the_one.holds;
            small = omega (arith, ready.small, size_one);
            fit = there_one;
            lists = ready.lists;
            room = omega (arith, start, opens.wrote.counted, open_one_few u c.count w.go w.res w.kill, ready.room, size_one);
          }

      pub ready_close_one : {c₂ : Column} {ls' : List ℕ} {p : Returned} → Does (inner rows ms (further n 1) v c₁ ls) c₂ ls' p → c₂.count + 3 < 65536
      ready_close_one d =
          omega (
            arith,
            does_few ready.first the_one.part the_one.holds there_one d,
            start,
            opens.wrote.counted,
            open_one_few u c.count w.go w.res w.kill,
            ready.room,
            size_one,
          )

  module _ {b : Binary} (e : (row_at rows n).head ≡ Two b) where
    the_two : IsTwo rows n ready.first ready.stmt b
    the_two = is_two rows n ready.first ready.stmt ready.holds e

    fit_two : InShape ms n (two b the_two.left the_two.right)
    fit_two = subst (λ (w : Stmt). InShape ms n w) the_two.is ready.fit

    size_two : size ready.stmt ≡ 1 + size the_two.left + size the_two.right
    unfolding size
    size_two = ap size the_two.is

    there_left : InShape ms (further n 1) the_two.left
    there_left = fit_left b the_two.left the_two.right fit_two

    pub ready_binary : BinaryNamed b
    unfolding Named
    ready_binary = fit_two.named.0

    pub ready_sets : of_stmt n < length ms
    ready_sets = (entry b the_two.left the_two.right fit_two).inside

    pub ready_first : of_stmt n + 1 < length rows
    ready_first = within rows (further n 1) ready.first the_two.left the_two.holds_left

    module _ {c c₁ : Column} {o : Opened} (w : Wires) (start : c.count ≡ count) (opens : OpensTwo (open_two b c.count w.go w.res w.kill) c c₁ o) where
      opened : c₁.count ≤ count + 2
      opened = omega (arith, start, opens.opens.wrote.counted, open_two_few b c.count w.go w.res w.kill)

      pub ready_left : Buildable rows ms ls (further n 1) c₁.count
      ready_left =
          record {
            first = ready.first;
            stmt = the_two.left;
            holds = the_two.holds_left;
            small = omega (arith, ready.small, size_two);
            fit = there_left;
            lists = ready.lists;
            room = omega (arith, opened, ready.room, size_two);
          }

      module _ {c₂ : Column} {ls₁ : List ℕ} {p : Returned} (d₁ : Does (inner rows ms (further n 1) o.first c₁ ls) c₂ ls₁ p) {j : StmtNo}
          (ej : j ≡ (row_at rows (further n 1)).end) where
        left_few : c₂.count ≤ c₁.count + own_cells * size the_two.left
        left_few = does_few ready.first the_two.left the_two.holds_left there_left d₁

        place : j ≡ further n (1 + size the_two.left)
        place = ej ∙ the_two.second

        holds_there : Holds rows j (halts_on ready.first (halt_count the_two.left)) the_two.right
        holds_there =
            subst⁻¹ (λ (w : StmtNo). Holds rows w (halts_on ready.first (halt_count the_two.left)) the_two.right) place the_two.holds_right

        fit_there : InShape ms j the_two.right
        fit_there = subst⁻¹ (λ (w : StmtNo). InShape ms w the_two.right) place (fit_right b the_two.left the_two.right fit_two)

        at_right : of_stmt j ≡ of_stmt n + (1 + size the_two.left)
        at_right = ap of_stmt place

        pub ready_right : length ls₁ ≡ max_signals → Buildable rows ms ls₁ j c₂.count
        ready_right long =
            record {
              first = halts_on ready.first (halt_count the_two.left);
              stmt = the_two.right;
              holds = holds_there;
              small = omega (arith, at_right, ready.small, size_two);
              fit = fit_there;
              lists = long;
              room = omega (arith, left_few, opened, ready.room, size_two);
            }

        -- the second part stands further on
        pub further_on : of_stmt n < of_stmt j
        further_on = omega (arith, at_right)

        pub ready_close_two : {c₃ : Column} {ls₂ : List ℕ} {v : Wires} {q : Returned} → Does (inner rows ms j v c₂ ls₁) c₃ ls₂ q
            → c₃.count + (1 + parallel_cells) < 65536
        ready_close_two d₂ =
            omega (
              arith,
              does_few (halts_on ready.first (halt_count the_two.left)) the_two.right holds_there fit_there d₂,
              left_few,
              opened,
              ready.room,
              size_two,
            )
