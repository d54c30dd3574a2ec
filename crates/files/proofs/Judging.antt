-- The laws of judging: what is known where nothing is wrong.
use Prim.Native.Nat.{ℕ, ◌+◌, ◌≤◌}
use mathlib.Core.Path.{◌≡◌, refl}
use mathlib.Core.Bool.{Bool, true, false, ◌&&◌}
use native.Mathlib.Omega.{arith}
use lib.Dec.{ltb, leb, eqb}
use borrow.Author.Tests.{ltb-false, le-ltb}
use Rattle.number.specs.declared.CellNo.{CellNo}
use Rattle.number.specs.declared.Refusal.{Refusal}
use Rattle.number.specs.declared.Refusal.TheVariants.{Kind, Count, Cell as CellFault}
use Rattle.number.specs.Number.{pick}
use Rattle.limits.specs.Limits.{max_cells, max_registers}
use Rattle.cells.specs.Netlist.{kind_fits}
use Rattle.files.specs.Judge.{judge_count, judge_kind}
use Rattle.std.specs.Prelude.{Result, Ok, Err}
use Rattle.std.specs.Result.{IsErrAnd}
use Rattle.std.proofs.lemmas.Result.{err_from_is_err_and}

-- what `?` hands on is what it found
pub handed_on : {T E : Type 0} {r : Result T E} {f : E} → IsErrAnd r (λ d. d ≡ f) → r ≡ Err f
handed_on {r = r} h = let p = err_from_is_err_and r h in rw (p.1, p.2)

-- what is wrong is not right
pub wrong_right : {r : Refusal} → Err r ≡ Ok (tt {0}) → ⊥
wrong_right e = cc

-- what is known of a count with which nothing is wrong
pub record CountRight (I O m : ℕ) : Type 0 where
  pub few : m ≤ max_cells
  pub enough : 2 + I + O ≤ m

pub count_right : (I O m : ℕ) → judge_count I O m ≡ Ok tt → CountRight I O m
unfolding judge_count pick
count_right I O m = go (ltb max_cells m) refl (ltb m (2 + I + O)) refl
  where
    go : (a : Bool) → ltb max_cells m ≡ a → (b : Bool) → ltb m (2 + I + O) ≡ b
        → pick a (Err Count) (pick b (Err CellFault) (Ok (tt {0}))) ≡ Ok tt → CountRight I O m
    go true p b q e = absurd (wrong_right e)
    go false p true q e = absurd (wrong_right e)
    go false p false q e = record { few = ltb-false max_cells m p; enough = ltb-false m (2 + I + O) q }

pub right_count : {I O m : ℕ} → CountRight I O m → judge_count I O m ≡ Ok tt
unfolding judge_count pick
right_count {I} {O} {m} h = simp (le-ltb max_cells m h.few, le-ltb m (2 + I + O) h.enough)

-- and of a kind
pub record KindRight (highest I : ℕ) (x : CellNo) (k kind : ℕ) : Type 0 where
  pub low : kind ≤ highest
  pub room : (eqb kind 6 && leb max_registers k) ≡ false
  pub fits : kind_fits I x kind ≡ true

pub kind_right : (highest I : ℕ) (x : CellNo) (k kind : ℕ) → judge_kind highest I x k kind ≡ Ok tt → KindRight highest I x k kind
unfolding judge_kind pick
kind_right highest I x k kind = go (ltb highest kind) refl (eqb kind 6 && leb max_registers k) refl (kind_fits I x kind) refl
  where
    go : (a : Bool) → ltb highest kind ≡ a → (b : Bool) → (eqb kind 6 && leb max_registers k) ≡ b → (d : Bool) → kind_fits I x kind ≡ d
        → pick a (Err Kind) (pick b (Err Count) (pick d (Ok (tt {0})) (Err CellFault))) ≡ Ok tt → KindRight highest I x k kind
    go true p b q d r e = absurd (wrong_right e)
    go false p true q d r e = absurd (wrong_right e)
    go false p false q false r e = absurd (wrong_right e)
    go false p false q true r e = record { low = ltb-false highest kind p; room = q; fits = r }

pub right_kind : {highest I : ℕ} {x : CellNo} {k kind : ℕ} → KindRight highest I x k kind → judge_kind highest I x k kind ≡ Ok tt
unfolding judge_kind pick
right_kind {highest} {I} {x} {k} {kind} h = simp (le-ltb highest kind h.low, h.room, h.fits)
