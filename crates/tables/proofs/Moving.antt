-- What the two loops of a reorder keep: the pins carried so far, and the bits placed so far.
use mathlib.Core.Path.{◌≡◌, sym, ap, ◌∙◌}
use mathlib.Core.List.{List, [], ◌∷◌}
use Prim.Native.Nat.{ℕ, ◌+◌, ◌*◌, ◌/◌, ◌%◌, ◌^◌, ◌<◌, ◌≤◌}
use native.Mathlib.Nat.{zero-add}
use native.Mathlib.Numerals.{add-one}
use native.Mathlib.Omega.{arith}
use lib.Pow.{shr-shr}
use lib.ListN.{length, get_or, take, drop, set, length-set, drop_of_length-le}
use lib.Seq.{take_all, take-suc, take-suc-set, drop-cons}
use Rattle.number.specs.declared.CellNo.{CellNo}
use Rattle.number.specs.Counts.{cell_no}
use Rattle.tables.specs.Answering.{pins, settings}
use Rattle.tables.specs.Orders.{orders, order_at, place, row}
use Rattle.tables.specs.Reordering.{moved_pins, placed, moved_truth}
use Rattle.tables.proofs.Settings.{cell_at}
use Rattle.tables.proofs.Reorders.{row_at, row_length, moved_at, moved_length, moved_small}

-- new has the first q pins of old reordered
pub record Carried (o : ℕ) (old new : List CellNo) (q : ℕ) : Type 0 where
  pub few : q ≤ pins
  pub long : length new ≡ pins
  pub so_far : take q new ≡ take q (moved_pins (order_at o) old)

-- one pin more
pub carried_more : {o : ℕ} {old new : List CellNo} {q : ℕ} (p : ℕ) → o < orders → q < pins → Carried o old new q
    → p ≡ get_or (order_at o) q 0 → Carried o old (set new q (cell_at old p)) (q + 1)
carried_more {o} {old} {new} {q} p ho hq c e =
    let moved : List CellNo = moved_pins (order_at o) old in
    let at : cell_at moved q ≡ cell_at old p = moved_at o ho old q hq ∙ ap (cell_at old) (sym e) in
    let inside : q < length new = omega (arith, c.long) in
    let inside' : q < length moved = omega (arith, moved_length o ho old) in
    record {
      few = omega arith;
      long = length-set new q (cell_at old p) ∙ c.long;
      so_far = rw (add-one, take-suc-set new q (cell_at old p), take-suc moved q (cell_no 0), at, c.so_far);
    }

-- all pins
pub carried_all : {o : ℕ} {old new : List CellNo} {q : ℕ} → o < orders → pins ≤ q → Carried o old new q → new ≡ moved_pins (order_at o) old
carried_all {o} {old} {new} {q} ho hq c =
    let moved : List CellNo = moved_pins (order_at o) old in
    sym (take_all q new (omega (arith, c.long))) ∙ c.so_far ∙ take_all q moved (omega (arith, moved_length o ho old))

-- the bits that were placed, and those from b on still to be placed, make the whole
pub record Placed (o truth moved b : ℕ) : Type 0 where
  pub few : b ≤ settings
  pub whole : moved + placed (drop b (row (order_at o))) (truth / 2 ^ b) ≡ moved_truth (order_at o) truth

pub none_placed : (o truth : ℕ) → Placed o truth 0 0
unfolding moved_truth
none_placed o truth =
    let all : truth / 2 ^ 0 ≡ truth = omega arith in
    record { few = omega arith; whole = zero-add (placed (row (order_at o)) (truth / 1)) ∙ ap (placed (row (order_at o))) all }

-- bit b, shifted to place p in sixteen bits
abbrev pub shifted : ℕ → ℕ → ℕ → ℕ
shifted truth b p = truth / 2 ^ b % 2 * 2 ^ p % 65536

-- one bit more; none is lost, and the sum fits
pub one_placed : {o truth moved b : ℕ} (p : ℕ) → o < orders → b < settings → Placed o truth moved b → p ≡ place (order_at o) b
    → Placed o truth (moved + shifted truth b p) (b + 1) × (moved + shifted truth b p < 65536)
unfolding placed
one_placed {o} {truth} {moved} {b} p ho hb c e =
    let places : List ℕ = row (order_at o) in
    let x : ℕ = truth / 2 ^ b % 2 * 2 ^ p in
    let rest : ℕ = placed (drop (b + 1) places) (truth / 2 ^ (b + 1)) in
    let at : get_or places b 0 ≡ p = row_at o ho b hb ∙ sym e in
    let inside : b < length places = omega (arith, row_length o ho) in
    let next : drop b places ≡ p ∷ drop (b + 1) places = rw (add-one, drop-cons places b 0 inside, at) in
    let half : truth / 2 ^ b / 2 ≡ truth / 2 ^ (b + 1) = shr-shr truth b 1 in
    let more : placed (drop b places) (truth / 2 ^ b) ≡ x + rest =
    ap (λ (l : List ℕ). placed l (truth / 2 ^ b)) next ∙ ap (λ (t : ℕ). x + placed (drop (b + 1) places) t) half in
    let whole : moved + (x + rest) ≡ moved_truth (order_at o) truth = ap (λ (k : ℕ). moved + k) (sym more) ∙ c.whole in
    let small : moved_truth (order_at o) truth < 65536 = moved_small o ho truth in
    (record { few = omega arith; whole = omega (arith, whole, small) }, omega (arith, whole, small))

-- all bits
pub all_placed : {o truth moved b : ℕ} → o < orders → settings ≤ b → Placed o truth moved b → moved ≡ moved_truth (order_at o) truth
unfolding placed
all_placed {o} {truth} {moved} {b} ho hb c =
    let end : drop b (row (order_at o)) ≡ [] = drop_of_length-le (row (order_at o)) {i = b} (omega (arith, row_length o ho)) in
    let none : placed (drop b (row (order_at o))) (truth / 2 ^ b) ≡ 0 = ap (λ (l : List ℕ). placed l (truth / 2 ^ b)) end in
    omega (arith, none, c.whole)
