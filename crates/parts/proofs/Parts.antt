-- A statement with parts is what is opened, its parts, and what is closed.
use Prim.Native.Nat.{ℕ, ◌+◌}
use mathlib.Core.Path.{◌≡◌, refl, ◌∙◌, subst⁻¹}
use mathlib.Core.List.{List}
use native.Mathlib.Numerals.{add-one}
use native.Mathlib.Nat.{add-zero, add_assoc}
use lib.ListN.{length, length-append}
use Rattle.number.specs.Counts.{cell_no}
use Rattle.number.specs.declared.CellNo.{CellNo}
use Rattle.sheet.specs.declared.Unary.{Unary}
use Rattle.sheet.specs.declared.Unary.TheVariants.{Loop, Watching, Trap, Signal}
use Rattle.sheet.specs.declared.Binary.{Binary}
use Rattle.sheet.specs.declared.Binary.TheVariants.{Sequence, Present, Parallel}
use Rattle.sheet.specs.Stmt.{Stmt, one, two}
use Rattle.gates.specs.declared.Column.{Column}
use Rattle.parts.specs.declared.Returned.{Returned}
use Rattle.parts.specs.declared.Wires.{Wires}
use Rattle.parts.specs.declared.Opened.{Opened}
use Rattle.parts.specs.Equations.{Built, given, build}
use Rattle.parts.specs.Contract.{nets, Builds, Opening, open_one, close_one, open_two, close_two, go_of, Opens, OpensTwo, ClosesOne, ClosesTwo}

pub build_one : (u : Unary) (p : Stmt) (n : ℕ) (g r i : CellNo) (L : List CellNo) → let o : Opening = open_one u n g r i in
    build (one u p) n g r i L ≡ close_one u n g r (build p (n + length o.cells) o.go o.res o.kill L)
unfolding build
build_one Loop p n g r i L = rw (add-one n)
build_one (Watching s) p n g r i L = refl
build_one Trap p n g r i L = rw (add-zero n)
build_one (Signal s) p n g r i L = rw (add-zero n)

pub build_two : (b : Binary) (p q : Stmt) (n : ℕ) (g r i : CellNo) (L : List CellNo) → let o : Opening = open_two b n g r i in
    let n₁ : ℕ = n + length o.cells in
    let x : Built = build p n₁ o.go o.res o.kill L in
    build (two b p q) n g r i L
    ≡ close_two b (given (two b p q)) n g i x (build q (n₁ + length x.cells) (go_of b o.other x.codes) o.res o.kill x.lists)
unfolding build
build_two Sequence p q n g r i L = rw (add-zero n)
build_two (Present s) p q n g r i L = simp (length-append, add_assoc)
build_two Parallel p q n g r i L = rw (add-one n)

pub builds_as : {o o' : Built} {c c' : Column} {ls : List ℕ} {b : Returned} → o ≡ o' → Builds o' c c' ls b → Builds o c c' ls b
builds_as {o} {o'} {c} {c'} {ls} {b} e h = subst⁻¹ (λ (w : Built). Builds w c c' ls b) e h

-- opened, its part built, closed: built
pub one_builds : {c c₁ c₂ c₃ : Column} {ls' : List ℕ} {v : Wires} {n : CellNo} {a b : Returned} (L : List CellNo) (u : Unary) (p : Stmt) (w : Wires)
    → n ≡ cell_no c.count → Opens (open_one u c.count w.go w.res w.kill) c c₁ v → Builds (build p c₁.count v.go v.res v.kill L) c₁ c₂ ls' a
    → ClosesOne u n w c₂ c₃ a b → Builds (build (one u p) c.count w.go w.res w.kill L) c c₃ ls' b
one_builds {c} {c₁} {ls' = ls'} {v = v} L u p w en o h k =
    let x : Built = build p c₁.count v.go v.res v.kill L in
    let e : build (one u p) c.count w.go w.res w.kill L ≡ close_one u c.count w.go w.res x =
    build_one u p c.count w.go w.res w.kill L ∙ rw (o.wrote.counted, o.go_is, o.res_is, o.kill_is) in
    builds_as e (k.closes c c₁ ls' w.kill x en o.wrote h)

pub two_builds : {c c₁ c₂ c₃ c₄ : Column} {ls₁ ls₂ : List ℕ} {v : Opened} {n g₂ : CellNo} {a b s : Returned} (L : List CellNo) (k : Binary) (p q : Stmt)
    (w : Wires) → n ≡ cell_no c.count → OpensTwo (open_two k c.count w.go w.res w.kill) c c₁ v
    → Builds (build p c₁.count v.first.go v.first.res v.first.kill L) c₁ c₂ ls₁ a → g₂ ≡ go_of k v.other a.codes
    → Builds (build q c₂.count g₂ v.first.res v.first.kill (nets ls₁)) c₂ c₃ ls₂ b → ClosesTwo k (given (two k p q)) n w c₃ c₄ a b s
    → Builds (build (two k p q) c.count w.go w.res w.kill L) c c₄ ls₂ s
two_builds {c} {c₁} {c₂} {ls₁ = ls₁} {ls₂ = ls₂} {v = v} {g₂ = g₂} {a = a} L k p q w en o A eg B t =
    let i : Wires = v.first in
    let x : Built = build p c₁.count i.go i.res i.kill L in
    let y : Built = build q c₂.count g₂ i.res i.kill (nets ls₁) in
    let ey : build q (c₁.count + length x.cells) (go_of k v.other x.codes) i.res i.kill x.lists ≡ y =
    rw (← A.wrote.counted, ← A.codes, ← eg, ← A.lists) in
    let e : build (two k p q) c.count w.go w.res w.kill L ≡ close_two k (given (two k p q)) c.count w.go w.kill x y =
    build_two k p q c.count w.go w.res w.kill L ∙ rw (← o.opens.wrote.counted, ← o.opens.go_is, ← o.other_is, ← o.opens.res_is, ← o.opens.kill_is, ey) in
    builds_as e (t.closes c c₁ c₂ ls₁ ls₂ w.res x y en o.opens.wrote A B)
