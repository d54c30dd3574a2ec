-- The sheets that are accepted are exactly the bytes of proper trees: of the trees within the limits, with their signals in scope, their
-- halts and locals numbered in reading order and their exits' levels between 2 and 1+d. So refusals 1 to 8 answer exactly what no such tree
-- has (`proper_bytes`: a proper tree's bytes are bytes).
use mathlib.Core.Path.{◌≡◌, refl, ap, ◌∙◌}
use mathlib.Core.Logic.{◌↔◌}
use mathlib.Core.List.{List, ◌++◌}
use Prim.Native.Nat.{ℕ}
use native.Mathlib.Omega.{arith}
use Rattle.number.specs.declared.Fault.{Fault}
use Rattle.number.specs.Number.{number_bytes, Bytes}
use Rattle.sheet.specs.Stmt.{Stmt}
use Rattle.sheet.specs.Read.{Sheet, SheetOutcome, sheet, faulty, read_sheet}
use Rattle.sheet.specs.Form.{stmt_bytes, sheet_bytes, Proper}
use Rattle.sheet.proofs.Stands.{Stands, stands_both, stands_whole, read_stands}
use Rattle.sheet.proofs.Whole.{SheetIs, sheet_of, is_sheet}
use Rattle.sheet.proofs.ReadBack.{read_back}
use Rattle.sheet.proofs.ProperRead.{root_says, proper}

-- a sheet's numbers and its statement stand one behind the other
sheet_bytes_lem : (s : List ℕ) → Bytes s → (i o : ℕ) (t : Stmt) (r : SheetIs s i o t) → Stands s 0 (sheet_bytes i o t) r.m.at
unfolding sheet_bytes
sheet_bytes_lem s are i o t r =
    let inputs : Stands s 0 (number_bytes i) r.a.at = read_stands s 0 i r.a are r.inputs in
    let outputs : Stands s r.a.at (number_bytes o) r.b.at = read_stands s r.a.at o r.b are r.outputs in
    let root : Stands s r.b.at (stmt_bytes t) r.m.at = (root_says s i o t r).bytes are in
    stands_both s 0 (number_bytes i) r.a.at (number_bytes o ++ stmt_bytes t) r.m.at inputs
    (stands_both s r.a.at (number_bytes o) r.b.at (stmt_bytes t) r.m.at outputs root)

-- an accepted sheet's bytes are its tree's bytes
pub only_bytes : (s : List ℕ) → Bytes s → (w : Sheet) → read_sheet s ≡ sheet w → s ≡ sheet_bytes w.inputs w.outputs w.root
only_bytes s are w q =
    let r : SheetIs s w.inputs w.outputs w.root = is_sheet s w q in
    let all = sheet_bytes_lem s are w.inputs w.outputs w.root r in
    stands_whole s (sheet_bytes w.inputs w.outputs w.root) r.m.at all r.end

-- a sheet is accepted as a tree exactly where the tree is proper and the sheet is its bytes
pub accepted_exactly : (s : List ℕ) → Bytes s → (w : Sheet)
    → (read_sheet s ≡ sheet w) ↔ (Proper w.inputs w.outputs w.root × (s ≡ sheet_bytes w.inputs w.outputs w.root))
accepted_exactly s are w =
    (λ q. (proper s w q, only_bytes s are w q), λ k. ap read_sheet k.1 ∙ read_back w.inputs w.outputs w.root k.0)

-- and is refused exactly where it is the bytes of no proper tree
pub refused_exactly : (s : List ℕ) → Bytes s
    → ((f : Fault) × (read_sheet s ≡ faulty f)) ↔ ((i o : ℕ) (t : Stmt) → Proper i o t → s ≡ sheet_bytes i o t → ⊥)
refused_exactly s are = (forth, λ none. back (read_sheet s) refl none)
  where
    forth : (f : Fault) × (read_sheet s ≡ faulty f) → (i o : ℕ) (t : Stmt) → Proper i o t → s ≡ sheet_bytes i o t → ⊥
    forth q i o t k same =
        let read : read_sheet s ≡ sheet (sheet_of i o t) = ap read_sheet same ∙ read_back i o t k in
        let fault : read_sheet s ≡ faulty q.0 = q.1 in
        let absurdity : ◌≡◌ {A = ℕ} 0 1 = cc in
        omega arith

    back : (r : SheetOutcome) → read_sheet s ≡ r → ((i o : ℕ) (t : Stmt) → Proper i o t → s ≡ sheet_bytes i o t → ⊥)
        → (f : Fault) × (read_sheet s ≡ faulty f)
    back (faulty f) q none = (f, q)
    back (sheet w) q none = absurd (none w.inputs w.outputs w.root (proper s w q) (only_bytes s are w q))
