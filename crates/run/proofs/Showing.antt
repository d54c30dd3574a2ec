-- The outputs, gathered signal by signal.
use Prim.Native.Nat.{ℕ, suc, ◌+◌, ◌<◌, ◌≤◌}
use mathlib.Core.Path.{◌≡◌, refl, sym, ap, ◌∙◌}
use mathlib.Core.Bool.{Bool, false, ◌&&◌, ◌||◌, or-false, and-false}
use native.Mathlib.Omega.{arith}
use native.Mathlib.Decide.{dec_lt, ℕ_discrete}
use lib.Dec.{eqb, ltb, leb}
use borrow.Author.Tests.{eq-eqb, ne_eqb, lt-ltb, le-ltb, le-leb, lt-leb}
use Rattle.cells.specs.Cells.{signal_cell}
use Rattle.number.specs.Counts.{cell_no, signal_no, of_signal}
use Rattle.number.specs.declared.CellNo.{CellNo}
use Rattle.number.specs.declared.SignalNo.{SignalNo}
use Rattle.bits.specs.Bits.{has, signals_in}
use Rattle.bits.proofs.Laws.{empty}
use Rattle.run.specs.Words.{outputs_of}

-- w has the outputs from 1+I to s, but not s
pub record Shown (I O : ℕ) (v : CellNo → Bool) (w s : ℕ) : Type 0 where
  pub low : I < s
  pub upto : s ≤ 1 + I + O
  pub bits : (t : ℕ) → has w t ≡ ((ltb I t && ltb t s) && v (signal_cell (signal_no t)))

pub shown_none : (I O : ℕ) (v : CellNo → Bool) → Shown I O v 0 (1 + I)
shown_none I O v = record { low = omega arith; upto = omega arith; bits = λ t. empty t ∙ sym (go t (dec_lt I t)) }
  where
    go : (t : ℕ) → Dec (I < t) → ((ltb I t && ltb t (1 + I)) && v (signal_cell (signal_no t))) ≡ false
    go t (yes l) = rw (le-ltb t (1 + I) (omega arith), and-false)
    go t (no l) = rw (le-ltb I t (omega arith))

pub shown_next : {I O : ℕ} {v : CellNo → Bool} {w s : ℕ} (w' : ℕ) → Shown I O v w s → s ≤ I + O
    → ((t : ℕ) → has w' t ≡ (has w t || (eqb t s && v (cell_no (1 + s))))) → Shown I O v w' (s + 1)
shown_next {I} {O} {v} {w} {s} w' p h f =
    record {
      low = omega (arith, p.low);
      upto = omega arith;
      bits = λ t. f t ∙ rw (p.bits t, next) (go t (dec_lt t s) (ℕ_discrete t s));
    }
  where
    next : 1 + s ≡ suc s
    next = omega arith

    go : (t : ℕ) → Dec (t < s) → Dec (t ≡ s)
        → (((ltb I t && ltb t s) && v (signal_cell (signal_no t))) || (eqb t s && v (signal_cell (signal_no s))))
        ≡ ((ltb I t && ltb t (s + 1)) && v (signal_cell (signal_no t)))
    go t (yes l) d = rw (ne_eqb t s (λ e. omega arith), lt-ltb t s l, lt-ltb t (s + 1) (omega arith), or-false)
    go t (no l) (yes e) = rw (e, eq-eqb s s refl, le-ltb s s (omega arith), lt-ltb s (s + 1) (omega arith), lt-ltb I s p.low)
    go t (no l) (no e) = rw (ne_eqb t s e, le-ltb t s (omega arith), le-ltb t (s + 1) (omega arith), and-false)

pub shown_all : {I O : ℕ} {v : CellNo → Bool} {w s : ℕ} → Shown I O v w s → I + O < s → (t : SignalNo) → signals_in w t ≡ outputs_of I O v t
shown_all {I} {O} {v} {w} {s} p h t =
    p.bits (of_signal t) ∙ ap (λ (b : Bool). (ltb I (of_signal t) && b) && v (signal_cell t)) (go (dec_lt (of_signal t) s))
  where
    go : Dec (of_signal t < s) → ltb (of_signal t) s ≡ leb (of_signal t) (I + O)
    go (yes l) = rw (lt-ltb (of_signal t) s l, le-leb (of_signal t) (I + O) (omega (arith, p.upto)))
    go (no l) = rw (le-ltb (of_signal t) s (omega arith), lt-leb (of_signal t) (I + O) (omega arith))
