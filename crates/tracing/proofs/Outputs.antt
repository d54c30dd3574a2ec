-- The outputs in a set of signals: their definition by numbers, and what is in both the signals and the set of all outputs.
use Prim.Native.Nat.{ℕ, suc, ◌+◌, ◌-◌, ◌*◌, ◌/◌, ◌%◌, ◌^◌, ◌≤◌, ◌<◌, min}
use mathlib.Core.Path.{◌≡◌, refl, sym, ap, ◌∙◌}
use mathlib.Core.Bool.{Bool, true, false, ◌&&◌, ◌||◌, and_comm, or-false}
use native.Mathlib.Nat.{mul_assoc, pow-suc, mod-lt, mul-mod_left}
use native.Mathlib.Decide.{dec_lt}
use native.Mathlib.Omega.{arith}
use borrow.Author.Tests.{lt-ltb, le-ltb, le-leb, lt-leb, eq-eqb, ne_eqb}
use lib.Dec.{eqb, leb, ltb}
use lib.Pow.{pow_pos, pow-add, shl-shr, shr-shr, field, mod-mod-pow}
use Rattle.bits.specs.declared.Bits.{Bits}
use Rattle.bits.specs.Bits.{has, whole, width}
use Rattle.bits.proofs.Laws.{has_past, empty, ext}
use Rattle.bits.proofs.Whole.{Proper, has_wide}
use Rattle.tracing.specs.Steps.{outputs_in}
use Rattle.tracing.specs.Stands.{Outputs}

-- What the outputs in a set are: the signals 1+I to I+O that it has.
module _ (x k : ℕ) where
  -- nothing is below what is shifted up
  low_end : (d : ℕ) → has (x * 2 ^ (suc d + k)) k ≡ false
  unfolding has
  low_end d =
      let parts : x * 2 ^ (suc d + k) ≡ x * 2 ^ d * 2 * 2 ^ k = rw
      (pow-add 2 (suc d) k, pow-suc 2 d, mul_assoc x (2 ^ d) 2, mul_assoc x (2 ^ d * 2) (2 ^ k)) in
      rw (parts, shl-shr (x * 2 ^ d * 2) k, mul-mod_left (x * 2 ^ d) 2)

  shifted_up : (a : ℕ) → has (x * 2 ^ a) (a + k) ≡ has x k
  unfolding has
  shifted_up a = rw (← shr-shr (x * 2 ^ a) a k, shl-shr x a)

  shifted_down : (a : ℕ) → has (x / 2 ^ a) k ≡ has x (a + k)
  unfolding has
  shifted_down a = rw (shr-shr x a k)

  -- the last bits have what is below their count
  last_bits : (d : ℕ) → has (x % 2 ^ (suc d + k)) k ≡ has x k
  unfolding has
  last_bits d =
      let next : suc d ≡ d + 1 = omega arith in
      rw (field x (suc d) k, next, mod-mod-pow (x / 2 ^ k) d 1)

pub has_outputs : (I O w k : ℕ) → has (outputs_in I O w) k ≡ ((ltb I k && leb k (I + O)) && has w k)
unfolding outputs_in
has_outputs I O w k = by_inputs (dec_lt I k)
  where
    above : ℕ
    above = w / 2 ^ (1 + I)

    by_outputs : (j : ℕ) → k ≡ 1 + I + j → Dec (j < O) → has (above % 2 ^ O) j ≡ (leb k (I + O) && has w k)
    by_outputs j at (yes h) =
        let count : O ≡ suc (O - suc j) + j = omega arith in
        rw (le-leb k (I + O) (omega arith), at, ← shifted_down w j (1 + I)) (rw count (last_bits above j (O - suc j)))
    by_outputs j at (no h) =
        rw (lt-leb k (I + O) (omega arith)) (has_past O (above % 2 ^ O) j (mod-lt above (pow_pos O)) (omega arith))

    by_inputs : Dec (I < k) → has (above % 2 ^ O * 2 ^ (1 + I)) k ≡ ((ltb I k && leb k (I + O)) && has w k)
    by_inputs (yes h) =
        let j : ℕ = k - (1 + I) in
        let at : k ≡ 1 + I + j = omega arith in
        rw (lt-ltb I k h) (ap (has (above % 2 ^ O * 2 ^ (1 + I))) at ∙ shifted_up (above % 2 ^ O) j (1 + I) ∙ by_outputs j at (dec_lt j O))
    by_inputs (no h) =
        let count : 1 + I ≡ suc (I - k) + k = omega arith in
        rw (le-ltb I k (omega arith)) (ap (λ (e : ℕ). has (above % 2 ^ O * 2 ^ e) k) count ∙ low_end (above % 2 ^ O) k (I - k))

-- The outputs below s are in the set: what holds while they are added.
pub record Added (I s set : ℕ) : Type 0 where
  pub these : (j : ℕ) → j < width → has set j ≡ (ltb I j && ltb j s)

-- a signal stands behind the inputs and before the first output
pub none_added : {I set : ℕ} → set ≡ 0 → Added I (1 + I) set
none_added {I} is = record { these = λ j _. rw is (empty j ∙ none j (dec_lt I j)) }
  where
    none : (j : ℕ) → Dec (I < j) → false ≡ (ltb I j && ltb j (1 + I))
    none j (yes h) = rw (lt-ltb I j h, le-ltb j (1 + I) (omega arith))
    none j (no h) = rw (le-ltb I j (omega arith))

pub one_added : {I s set set' : ℕ} → I < s → Added I s set → ((j : ℕ) → has set' j ≡ (has set j || eqb j s)) → Added I (s + 1) set'
one_added {I} {s} {set} after a more = record { these = λ j h. more j ∙ rw (a.these j h) (by_place j (dec_lt j s) (dec_lt s j)) }
  where
    by_place : (j : ℕ) → Dec (j < s) → Dec (s < j) → ((ltb I j && ltb j s) || eqb j s) ≡ (ltb I j && ltb j (s + 1))
    by_place j (yes h) q = rw (lt-ltb j s h, lt-ltb j (s + 1) (omega arith), ne_eqb j s (λ e. omega arith)) (or-false (ltb I j && true))
    by_place j (no h) (yes g) =
        rw (le-ltb j s (omega arith), le-ltb j (s + 1) (omega arith), ne_eqb j s (λ e. omega arith)) (or-false (ltb I j && false))
    by_place j (no h) (no g) =
        let same : j ≡ s = omega arith in
        rw (same, lt-ltb I s after, le-ltb s s (omega arith), eq-eqb s s refl, lt-ltb s (s + 1) (omega arith))

-- all are added, as far as they have a bit
pub outputs_added : {I O s set : ℕ} → min (1 + I + O) width ≤ s → (1 + I + O < width → s ≤ 1 + I + O) → Added I s set → Outputs I O set
outputs_added {I} {O} {s} most least a = record { these = λ j h. a.these j h ∙ ap (λ (b : Bool). ltb I j && b) (by_place j h (dec_lt j s) (dec_lt j (1 + I + O))) }
  where
    by_place : (j : ℕ) → j < width → Dec (j < s) → Dec (j < 1 + I + O) → ltb j s ≡ leb j (I + O)
    by_place j h (yes below) (yes in_set) = rw (lt-ltb j s below, le-leb j (I + O) (omega arith))
    by_place j h (no above) (no out_of) = rw (le-ltb j s (omega arith), lt-leb j (I + O) (omega arith))
    by_place j h (yes below) (no out_of) = absurd (omega arith)
    by_place j h (no above) (yes in_set) = absurd (omega arith)

-- what is in the signals and in that set
pub met_outputs : (I O : ℕ) (signals : Bits) {set met : ℕ} → Proper signals.words → Outputs I O set
    → ((j : ℕ) → has met j ≡ (has (whole signals) j && has set j)) → met ≡ outputs_in I O (whole signals)
met_outputs I O signals {set} {met} proper outs both = ext met (outputs_in I O (whole signals)) (λ j. by_width j (dec_lt j width))
  where
    by_width : (j : ℕ) → Dec (j < width) → has met j ≡ has (outputs_in I O (whole signals)) j
    by_width j (yes h) =
        both j ∙ rw (outs.these j h)
        (and_comm (has (whole signals) j) (ltb I j && leb j (I + O)) ∙ sym (has_outputs I O (whole signals) j))
    by_width j (no h) =
        let none = has_wide {b = signals} proper j (omega arith) in
        both j ∙ rw none (sym (has_outputs I O (whole signals) j ∙ rw none (and_comm (ltb I j && leb j (I + O)) false)))
