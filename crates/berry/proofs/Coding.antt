-- "the unambiguous coding of any state" (004, section 4): a fitting state's haltset tells the state, so that the halt that 004 adds tells what the boot
-- register does.
use mathlib.Core.Path.{◌≡◌, refl, sym, ◌∙◌, ap}
use mathlib.Core.Bool.{Bool, true, false, ◌&&◌, true≢false, false≢true}
use Prim.Native.Nat.{◌+◌, ◌-◌, ◌<◌}
use native.Mathlib.Omega.{arith}
use native.Mathlib.Decide.{dec_lt}
use borrow.Author.Tests.{eq-eqb}
use Rattle.number.specs.declared.HaltNo.{HaltNo}
use Rattle.number.specs.Counts.{halt_no, of_halt}
use Rattle.number.specs.Number.{pick}
use Rattle.number.proofs.Bools.{off, and_left}
use Rattle.bits.specs.Bits.{boot, halt_bit, no_bits}
use Rattle.bits.proofs.NoBits.{bit_off}
use Rattle.sheet.specs.Stmt.{Stmt, halt_count}
use Rattle.sheet.proofs.Notions.{Numbered, in_halts, within_halt}
use Rattle.sets.specs.Codes.{empty}
use Rattle.rules.specs.Rules.{Halts, only_halt, active}
use Rattle.rules.specs.States.{State, halts_of, apart, fits}
use Rattle.rules.proofs.Again.{none}
use Rattle.berry.specs.Modules.{trailing, haltset_of, Alike}
use Rattle.berry.proofs.Reactions.{added, some_active}

module _ (t : Stmt) (n : Numbered (halt_no 0) t) where
  -- the three kinds of state, by boot and by whether a halt is set
  abbrev coded : State → Bool → Bool → Halts
  coded S u v = pick u (pick v (halts_of S) (only_halt (trailing t))) empty

  coded_active : (S : State) (u v : Bool) → active (halts_of S) t ≡ v → active (coded S u v) t ≡ (u && v)
  unfolding pick
  coded_active S true true e = e
  coded_active S true false e = none (only_halt (trailing t)) t (added t n)
  coded_active S false v e = none empty t (λ h i. refl)

  module _ (S : State) (f : fits S t ≡ true) where
    -- "boot off means 0"
    fresh_halts : S boot ≡ false → (h : HaltNo) → halt_bit h < 64 → halts_of S h ≡ false
    unfolding fits pick
    fresh_halts off h l = bit_off 63 1 S (rw off at f) (halt_bit h) (omega arith) (omega arith)

    -- a root that has ended has no halt set: "only existing halts are set", and none of its own is
    ended_halts : S boot ≡ true → active (halts_of S) t ≡ false → (h : HaltNo) → halt_bit h < 64 → halts_of S h ≡ false
    unfolding fits pick
    ended_halts on ended h l = go (dec_lt (of_halt h) (halt_count t))
      where
        past : no_bits (63 - halt_count t) (1 + halt_count t) S ≡ true
        past = and_left (no_bits (63 - halt_count t) (1 + halt_count t) S) (apart (halts_of S) t) (rw on at f)

        go : Dec (of_halt h < halt_count t) → halts_of S h ≡ false
        go (yes own) =
            let inside : in_halts t h ≡ true = within_halt (halt_no 0) t n h (omega arith) (omega arith) in
            off (halts_of S h) (λ set. true≢false (sym (some_active (halts_of S) t h inside set) ∙ ended))
        go (no other) = bit_off (63 - halt_count t) (1 + halt_count t) S past (halt_bit h) (omega arith) (omega arith)

  pub told_by_haltset : (S S' : State) → fits S t ≡ true → fits S' t ≡ true → haltset_of S t ≡ haltset_of S' t → Alike S S'
  unfolding haltset_of pick
  told_by_haltset S S' f f' same = go (S boot) refl (active (halts_of S) t) refl (S' boot) refl (active (halts_of S') t) refl same
    where
      -- a halt of t is set in both or in none, and the trailing halt too
      active_both : (u v : Bool) → active (halts_of S) t ≡ v → (u' v' : Bool) → active (halts_of S') t ≡ v' → coded S u v ≡ coded S' u' v'
          → (u && v) ≡ (u' && v')
      active_both u v a u' v' a' e = sym (coded_active S u v a) ∙ ap (λ (G : Halts). active G t) e ∙ coded_active S' u' v' a'

      self : only_halt (trailing t) (trailing t) ≡ true
      self = eq-eqb (halt_count t) (halt_count t) refl

      go : (u : Bool) → S boot ≡ u → (v : Bool) → active (halts_of S) t ≡ v → (u' : Bool) → S' boot ≡ u' → (v' : Bool) → active (halts_of S') t ≡ v'
          → coded S u v ≡ coded S' u' v' → Alike S S'
      go true b true a true b' true a' e = record { booted = b ∙ sym b'; halts = λ h l. ap (λ (G : Halts). G h) e }
      go true b true a true b' false a' e = absurd (true≢false (active_both true true a true false a' e))
      go true b true a false b' v' a' e = absurd (true≢false (active_both true true a false v' a' e))
      go true b false a true b' true a' e = absurd (false≢true (active_both true false a true true a' e))
      go true b false a true b' false a' e =
          record { booted = b ∙ sym b'; halts = λ h l. ended_halts S f b a h l ∙ sym (ended_halts S' f' b' a' h l) }
      go true b false a false b' v' a' e = absurd (true≢false (sym self ∙ ap (λ (G : Halts). G (trailing t)) e))
      go false b v a true b' true a' e = absurd (false≢true (active_both false v a true true a' e))
      go false b v a true b' false a' e = absurd (false≢true (ap (λ (G : Halts). G (trailing t)) e ∙ self))
      go false b v a false b' v' a' e =
          record { booted = b ∙ sym b'; halts = λ h l. fresh_halts S f b h l ∙ sym (fresh_halts S' f' b' h l) }
