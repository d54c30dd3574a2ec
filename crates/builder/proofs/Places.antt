-- Where the cells of a statement's parts stand: from their first number on, with a register before them for each halt before the part. So the
-- registers stand in the order boot, halt 0, halt 1, ..
use mathlib.Core.Path.{◌≡◌, refl, sym, ◌∙◌, ap, subst, subst⁻¹}
use mathlib.Core.Bool.{Bool}
use mathlib.Core.List.{List, [], ◌∷◌, ◌++◌, append_assoc, append-nil}
use Prim.Native.Nat.{ℕ, ◌+◌}
use native.Mathlib.Omega.{arith}
use native.Mathlib.Nat.{zero-add, add_assoc}
use lib.ListN.{length, length-append}
use Rattle.number.specs.Counts.{of_halt}
use Rattle.number.specs.declared.CellNo.{CellNo}
use Rattle.number.specs.declared.HaltNo.{HaltNo}
use Rattle.sheet.specs.Form.{halts_on}
use Rattle.sheet.specs.declared.Leaf.TheVariants.{Halt}
use Rattle.sheet.specs.declared.Unary.{Unary}
use Rattle.sheet.specs.declared.Unary.TheVariants.{Loop, Watching, Trap, Signal}
use Rattle.sheet.specs.declared.Binary.{Binary}
use Rattle.sheet.specs.declared.Binary.TheVariants.{Sequence, Present, Parallel}
use Rattle.sheet.specs.Stmt.{Stmt, leaf, one, two, halt_count}
use Rattle.sheet.proofs.Notions.{Numbered}
use Rattle.cells.specs.declared.Cell.{Cell}
use Rattle.cells.specs.declared.Gate.TheVariants.{Or}
use Rattle.cells.specs.declared.Cell.TheVariants.{Gate}
use Rattle.cells.specs.Cells.{signal_cell}
use Rattle.cells.specs.Values.{registers}
use Rattle.cells.specs.declared.Gate.TheVariants.{And, Butnot}
use Rattle.cells.proofs.Counting.{registers_nil, registers_gate, registers_append}
use Rattle.gates.specs.Folding.{New, or_at, and_at, butnot_at}
use Rattle.gates.specs.Rows.{code}
use Rattle.parts.specs.Equations.{Built, past, given, build, build_sequence, build_loop, build_present, build_watching, build_parallel, build_trap}
use Rattle.parts.specs.Contract.{Opening, open_one, close_one, open_two, close_two, go_of}
use Rattle.parts.proofs.Parts.{build_one, build_two}
use Rattle.builder.proofs.Registers.{none_gate, of_build}

-- what a statement is built with
pub record Takes : Type 0 where
  pub first : ℕ
  pub go : CellNo
  pub res : CellNo
  pub kill : CellNo
  pub lists : List CellNo

abbrev pub built : Stmt → Takes → Built
built t w = build t w.first w.go w.res w.kill w.lists

abbrev opened : Opening → Takes → Takes
opened o w = record { first = w.first + length o.cells; go = o.go; res = o.res; kill = o.kill; lists = w.lists }

-- what its parts are built with
abbrev pub one_takes : Unary → Takes → Takes
one_takes u w = opened (open_one u w.first w.go w.res w.kill) w

abbrev pub left_takes : Binary → Takes → Takes
left_takes b w = opened (open_two b w.first w.go w.res w.kill) w

abbrev pub right_takes : Binary → Stmt → Takes → Takes
right_takes b p w =
    let o : Opening = open_two b w.first w.go w.res w.kill in
    let x : Built = built p (left_takes b w) in
    record { first = w.first + length o.cells + length x.cells; go = go_of b o.other x.codes; res = o.res; kill = o.kill; lists = x.lists }

-- among the cells cs, which begin at n, the cells ps stand from m on, with k registers before them
pub record StandsAmong (cs : List Cell) (n : ℕ) (ps : List Cell) (m k : ℕ) : Type 0 where
  pub earlier : List Cell
  pub later : List Cell
  pub is : cs ≡ earlier ++ (ps ++ later)
  pub place : m ≡ n + length earlier
  pub order : registers earlier ≡ k

stands_as : {cs cs' ps : List Cell} {n m k : ℕ} → cs ≡ cs' → StandsAmong cs' n ps m k → StandsAmong cs n ps m k
stands_as {cs} {cs'} {ps} {n} {m} {k} e s = subst⁻¹ (λ (w : List Cell). StandsAmong w n ps m k) e s

stands_after : {cs ps : List Cell} {n m j k : ℕ} → j ≡ k → StandsAmong cs n ps m j → StandsAmong cs n ps m k
stands_after {cs} {ps} {n} {m} e s = subst (λ (w : ℕ). StandsAmong cs n ps m w) e s

stands_in : {cs ps qs : List Cell} {n m m' j k : ℕ} → StandsAmong cs n ps m j → StandsAmong ps m qs m' k → StandsAmong cs n qs m' (j + k)
stands_in {cs} {ps} {qs} {n} {m} {m'} {j} {k} a b =
    record {
      earlier = a.earlier ++ b.earlier;
      later = b.later ++ a.later;
      is = a.is ∙ rw b.is (simp append_assoc);
      place = omega (arith, a.place, b.place, length-append a.earlier b.earlier);
      order = registers_append a.earlier b.earlier ∙ rw (a.order, b.order);
    }

one_cell : (x y : CellNo) → registers (Gate Or x y ∷ []) ≡ 0
one_cell x y = registers_gate Or x y [] ∙ registers_nil

-- the part of a statement with one part
closed_one : (u : Unary) (n : ℕ) (g r i : CellNo) (p : Built)
    → StandsAmong (close_one u n g r p).cells n p.cells (n + length (open_one u n g r i).cells) 0
unfolding build_loop build_watching build_trap
closed_one Loop n g r i p =
    record { earlier = Gate Or g (code p.codes 0) ∷ []; later = []; is = rw (append-nil p.cells) refl; place = refl; order = one_cell g (code p.codes 0) }
closed_one (Watching s) n g r i p =
    let a : New = butnot_at n r (signal_cell s) in
    let n₂ : ℕ = past n a + length p.cells in
    let x : New = and_at n₂ r p.sel in
    let y : New = and_at (past n₂ x) x.net (signal_cell s) in
    let o : New = or_at (past (past n₂ x) y) (code p.codes 0) y.net in
    record { earlier = a.cells; later = x.cells ++ (y.cells ++ o.cells); is = refl; place = refl; order = none_gate Butnot n r (signal_cell s) }
closed_one Trap n g r i p =
    record {
      earlier = [];
      later = (or_at (n + length p.cells) (code p.codes 0) (code p.codes 2)).cells;
      is = refl;
      place = refl;
      order = registers_nil;
    }
closed_one (Signal s) n g r i p = record { earlier = []; later = []; is = rw (append-nil p.cells) refl; place = refl; order = registers_nil }

-- what a statement with two parts makes after them
record TwoCells (b : Binary) (keep : ℕ → Bool) (n : ℕ) (g r i : CellNo) (p q : Built) : Type 0 where
  earlier : List Cell
  later : List Cell
  is : (close_two b keep n g i p q).cells ≡ earlier ++ (p.cells ++ (q.cells ++ later))
  long : length earlier ≡ length (open_two b n g r i).cells
  order : registers earlier ≡ 0

two_cells : (b : Binary) (keep : ℕ → Bool) (n : ℕ) (g r i : CellNo) (p q : Built) → TwoCells b keep n g r i p q
unfolding build_sequence build_present build_parallel
two_cells Sequence keep n g r i p q = record { earlier = []; later = _; is = refl; long = refl; order = registers_nil }
two_cells (Present s) keep n g r i p q =
    let x : New = and_at n g (signal_cell s) in
    let y : New = butnot_at (past n x) g (signal_cell s) in
    record {
      earlier = x.cells ++ y.cells;
      later = _;
      is = sym (append_assoc x.cells y.cells _);
      long = refl;
      order = registers_append x.cells y.cells ∙ rw (none_gate And n g (signal_cell s), none_gate Butnot (past n x) g (signal_cell s));
    }
two_cells Parallel keep n g r i p q = record { earlier = Gate Or i _ ∷ []; later = _; is = refl; long = refl; order = one_cell i _ }

closed_left : (b : Binary) (keep : ℕ → Bool) (n : ℕ) (g r i : CellNo) (p q : Built)
    → StandsAmong (close_two b keep n g i p q).cells n p.cells (n + length (open_two b n g r i).cells) 0
closed_left b keep n g r i p q =
    let c = two_cells b keep n g r i p q in
    record { earlier = c.earlier; later = q.cells ++ c.later; is = c.is; place = ap (λ (k : ℕ). n + k) (sym c.long); order = c.order }

closed_right : (b : Binary) (keep : ℕ → Bool) (n : ℕ) (g r i : CellNo) (p q : Built)
    → StandsAmong (close_two b keep n g i p q).cells n q.cells (n + length (open_two b n g r i).cells + length p.cells) (registers p.cells)
closed_right b keep n g r i p q =
    let c = two_cells b keep n g r i p q in
    record {
      earlier = c.earlier ++ p.cells;
      later = c.later;
      is = c.is ∙ sym (append_assoc c.earlier p.cells (q.cells ++ c.later));
      place = omega (arith, c.long, length-append c.earlier p.cells);
      order = registers_append c.earlier p.cells ∙ rw (c.order, zero-add (registers p.cells)) refl;
    }

-- a part of a statement, at any depth: what it is built with, and how many halts are before it
pub data Part : Stmt → Takes → Stmt → Takes → ℕ → Type 0 where
  itself : (t : Stmt) (w : Takes) → Part t w t w 0
  in_one : {u : Unary} {p t : Stmt} {w w' : Takes} {k : ℕ} → Part p (one_takes u w) t w' k → Part (one u p) w t w' k
  in_left : {b : Binary} {p q t : Stmt} {w w' : Takes} {k : ℕ} → Part p (left_takes b w) t w' k → Part (two b p q) w t w' k
  in_right : {b : Binary} {p q t : Stmt} {w w' : Takes} {k : ℕ} → Part q (right_takes b p w) t w' k → Part (two b p q) w t w' (halt_count p + k)

-- its cells stand from its first number on
pub part_stands : {t p : Stmt} {w w' : Takes} {k : ℕ} → Part t w p w' k → StandsAmong (built t w).cells w.first (built p w').cells w'.first k
part_stands (itself t w) =
    record { earlier = []; later = []; is = rw (append-nil (built t w).cells) refl; place = omega arith; order = registers_nil }
part_stands (in_one {u} {p} {t} {w} {w'} {k} s) =
    stands_after (zero-add k) (stands_in (stands_as (ap (λ (o : Built). o.cells) (build_one u p w.first w.go w.res w.kill w.lists))
    (closed_one u w.first w.go w.res w.kill (built p (one_takes u w)))) (part_stands s))
part_stands (in_left {b} {p} {q} {t} {w} {w'} {k} s) =
    stands_after (zero-add k) (stands_in (stands_as (ap (λ (o : Built). o.cells) (build_two b p q w.first w.go w.res w.kill w.lists))
    (closed_left b (given (two b p q)) w.first w.go w.res w.kill (built p (left_takes b w)) (built q (right_takes b p w)))) (part_stands s))
part_stands (in_right {b} {p} {q} {t} {w} {w'} {k} s) =
    let left : Takes = left_takes b w in
    let count : registers (built p left).cells ≡ halt_count p = of_build p left.first left.go left.res left.kill left.lists in
    stands_after (ap (λ (x : ℕ). x + k) count) (stands_in (stands_as (ap (λ (o : Built). o.cells) (build_two b p q w.first w.go w.res w.kill w.lists))
    (closed_right b (given (two b p q)) w.first w.go w.res w.kill (built p left) (built q (right_takes b p w)))) (part_stands s))

-- the halts before it are those with lower numbers
pub part_number : {t : Stmt} {w w' : Takes} {k : ℕ} {h : HaltNo} (a : HaltNo) → Part t w (leaf (Halt h)) w' k → Numbered a t
    → of_halt h ≡ of_halt a + k
unfolding Numbered
part_number a (itself t w) m = omega (arith, ap of_halt m)
part_number a (in_one s) m = part_number a s m
part_number a (in_left s) m = part_number a s m.0
part_number a (in_right {p = p} {k = k} s) m = part_number (halts_on a (halt_count p)) s m.1 ∙ add_assoc (of_halt a) (halt_count p) k
