-- What the sets of a yield mean, for each of the rules' ways to make one outcome of others.
use mathlib.Core.Path.{◌≡◌, refl, sym, ap, ◌∙◌}
use mathlib.Core.Bool.{Bool, false, ◌||◌, or-true, or-false}
use Prim.Native.Nat.{ℕ, zero, suc, ◌+◌, ◌<◌, ◌≤◌}
use Rattle.std.specs.Prelude.{max}
use native.Mathlib.Omega.{arith}
use native.Mathlib.Decide.{ℕ_discrete}
use lib.Dec.{eqb}
use borrow.Author.Tests.{eq-eqb, ne_eqb}
use Rattle.bits.specs.declared.Bits.{Bits}
use Rattle.bits.specs.Bits.{has, signal_bit, boot, halt_bit, whole}
use Rattle.bits.proofs.Laws.{empty}
use Rattle.number.specs.declared.SignalNo.{SignalNo}
use Rattle.number.specs.declared.HaltNo.{HaltNo}
use Rattle.number.specs.Counts.{halt_no, of_halt}
use Rattle.sheet.specs.declared.Leaf.TheVariants.{Halt, Emit, Exit}
use Rattle.sheet.specs.Stmt.{leaf}
use Rattle.sets.specs.Codes.{join, larger, caught}
use Rattle.rules.specs.declared.Yield.{Yield}
use Rattle.rules.specs.Rules.{Signals, Outcome, idle, then_on, followed, kept, beside, trapped, start}
use Rattle.rules.specs.States.{next_state}
use Rattle.rules.specs.Words.{Means, Next}

abbrev yields : Bits → ℕ → Bits → Yield
yields e c h = record { emits = e; code = c; halts = h }

-- what `bits` says of a set that joins two, and of one with a number added
abbrev pub Joined : Bits → Bits → Bits → Type 0
Joined a b w = (j : ℕ) → has (whole w) j ≡ (has (whole a) j || has (whole b) j)

abbrev pub Added : Bits → ℕ → Bits → Type 0
Added a k w = (j : ℕ) → has (whole w) j ≡ (has (whole a) j || eqb j k)

-- the empty set
none : (b : Bits) → whole b ≡ 0 → (j : ℕ) → has (whole b) j ≡ false
none b e j = rw e (empty j)

-- a run that emits nothing and stops at no halt
quiet : {e h : Bits} (c : ℕ) → whole e ≡ 0 → whole h ≡ 0
    → Means (yields e c h) (record { emits = idle.emits; code = c; halts = idle.halts })
quiet {e} {h} c ze zh =
    record { emits = λ s. none e ze (signal_bit s); code = refl; halts = λ k. none h zh (halt_bit k); unbooted = none h zh boot }

pub idle_means : {e h : Bits} → whole e ≡ 0 → whole h ≡ 0 → Means (yields e 0 h) idle
idle_means ze zh = quiet 0 ze zh

pub exit_means : (E : Signals) (k : ℕ) {e h : Bits} → whole e ≡ 0 → whole h ≡ 0 → Means (yields e k h) (start E (leaf (Exit k)))
unfolding start
exit_means E k ze zh = quiet k ze zh

-- one number alone
alone : (z : Bits) (k : ℕ) (w : Bits) → whole z ≡ 0 → Added z k w → (j : ℕ) → has (whole w) j ≡ eqb j k
alone z k w e added j = added j ∙ ap (λ (x : Bool). x || eqb j k) (none z e j)

same_bit : (h k : HaltNo) → eqb (halt_bit h) (halt_bit k) ≡ eqb (of_halt h) (of_halt k)
same_bit h k = go (ℕ_discrete (of_halt h) (of_halt k))
  where
    go : Dec (of_halt h ≡ of_halt k) → eqb (halt_bit h) (halt_bit k) ≡ eqb (of_halt h) (of_halt k)
    go (yes e) = rw (eq-eqb (of_halt h) (of_halt k) e, eq-eqb (halt_bit h) (halt_bit k) (omega arith))
    go (no e) = rw (ne_eqb (of_halt h) (of_halt k) e, ne_eqb (halt_bit h) (halt_bit k) (λ q. e (omega arith)))

pub halt_means : (E : Signals) (k : HaltNo) {e w : Bits} (z : Bits) → whole e ≡ 0 → whole z ≡ 0 → Added z (halt_bit k) w
    → Means (yields e 1 w) (start E (leaf (Halt k)))
unfolding start
halt_means E k {e} {w} z ze zz added =
    record {
      emits = λ s. none e ze (signal_bit s);
      code = refl;
      halts = λ h. alone z (halt_bit k) w zz added (halt_bit h) ∙ same_bit h k;
      unbooted = alone z (halt_bit k) w zz added boot ∙ ne_eqb boot (halt_bit k) (λ q. omega arith);
    }

pub emit_means : (E : Signals) (x : SignalNo) {w h : Bits} (z : Bits) → whole z ≡ 0 → Added z (signal_bit x) w → whole h ≡ 0
    → Means (yields w 0 h) (start E (leaf (Emit x)))
unfolding start
emit_means E x {w} {h} z zz added zh =
    record {
      emits = λ s. alone z (signal_bit x) w zz added (signal_bit s);
      code = refl;
      halts = λ k. none h zh (halt_bit k);
      unbooted = none h zh boot;
    }

module _ (a b : Yield) (p q : Outcome) (ma : Means a p) (mb : Means b q) where
  emits_joined : (w : Bits) → Joined a.emits b.emits w → (s : SignalNo) → has (whole w) (signal_bit s) ≡ (p.emits s || q.emits s)
  emits_joined w joined s = rw (joined (signal_bit s), ma.emits s, mb.emits s)

  -- a ended, and b came after it
  pub followed_means : (w : Bits) → Joined a.emits b.emits w → a.code ≡ 0 → Means (yields w b.code b.halts) (followed p q)
  followed_means w joined zero_code = go p.code (sym ma.code ∙ zero_code)
    where
      go : (k : ℕ) → k ≡ 0 → Means (yields w b.code b.halts) (then_on k p q)
      go zero e = record { emits = emits_joined w joined; code = mb.code; halts = mb.halts; unbooted = mb.unbooted }
      go (suc k) e = absurd (omega arith)

  larger_means : (c : ℕ) → c ≡ larger a.code b.code → c ≡ larger p.code q.code
  larger_means c e = rw (← ma.code, ← mb.code) e

  -- both at once, with the code k: "halts joined if that code is at most 1, else none"
  abbrev beside_at : ℕ → Outcome
  beside_at k = record { emits = join p.emits q.emits; code = k; halts = kept k (join p.halts q.halts) }

  module _ (w : Bits) (c : ℕ) (joined : Joined a.emits b.emits w) (e : c ≡ larger a.code b.code) where
    pub beside_exits : {z : Bits} → whole z ≡ 0 → 1 < c → Means (yields w c z) (beside p q)
    beside_exits {z} zz over = go (larger p.code q.code) (larger_means c e)
      where
        go : (k : ℕ) → c ≡ k → Means (yields w c z) (beside_at k)
        go zero k = absurd (omega arith)
        go (suc zero) k = absurd (omega arith)
        go (suc (suc m)) k =
            record { emits = emits_joined w joined; code = k; halts = λ h. none z zz (halt_bit h); unbooted = none z zz boot }

    pub beside_stays : (h : Bits) → c ≤ 1 → Joined a.halts b.halts h → Means (yields w c h) (beside p q)
    beside_stays h few halts = go (larger p.code q.code) (larger_means c e)
      where
        stays : (k : HaltNo) → has (whole h) (halt_bit k) ≡ (p.halts k || q.halts k)
        stays k = rw (halts (halt_bit k), ma.halts k, mb.halts k)

        off : has (whole h) boot ≡ false
        off = rw (halts boot, ma.unbooted, mb.unbooted)

        go : (k : ℕ) → c ≡ k → Means (yields w c h) (beside_at k)
        go zero k = record { emits = emits_joined w joined; code = k; halts = stays; unbooted = off }
        go (suc zero) k = record { emits = emits_joined w joined; code = k; halts = stays; unbooted = off }
        go (suc (suc m)) k = absurd (omega arith)

-- a did not end: what would follow is not started
pub stopped_means : (a : Yield) (p q : Outcome) → Means a p → (a.code ≡ 0 → ⊥) → Means a (followed p q)
stopped_means a p q m on = go p.code m.code
  where
    go : (k : ℕ) → a.code ≡ k → Means a (then_on k p q)
    go zero e = absurd (on e)
    go (suc k) e = m

pub trapped_means : (a : Yield) (p : Outcome) (c : ℕ) → c ≡ caught a.code → Means a p
    → Means (yields a.emits c a.halts) (trapped p)
trapped_means a p c e m = record { emits = m.emits; code = e ∙ ap caught m.code; halts = m.halts; unbooted = m.unbooted }

-- "The next state has boot on."
pub next_means : (r : Yield) (w : Bits) → Added r.halts boot w → Next r (whole w)
next_means r w added = record { state = bit }
  where
    bit : (o : Outcome) → Means r o → (k : ℕ) → has (whole w) k ≡ next_state o k
    bit o m zero = added boot ∙ or-true (has (whole r.halts) boot)
    bit o m (suc h) =
        let here : halt_bit (halt_no h) ≡ suc h = omega arith in
        let one : has (whole r.halts) (suc h) ≡ o.halts (halt_no h) = rw here at (m.halts (halt_no h)) in
        rw (added (suc h), one, ne_eqb (suc h) boot (λ q. omega arith)) (or-false (o.halts (halt_no h)))

-- the code's `max` and `caught`
pub max_larger : (a b : ℕ) → max a b ≡ larger a b
max_larger zero b = omega arith
max_larger (suc a) zero = omega arith
max_larger (suc a) (suc b) = omega (arith, max_larger a b)

pub caught_low : (c : ℕ) → c < 2 → c ≡ caught c
caught_low zero l = refl
caught_low (suc zero) l = refl
caught_low (suc (suc c)) l = absurd (omega arith)

pub caught_high : (c k : ℕ) → 2 < c → k + 1 ≡ c → k ≡ caught c
caught_high zero k l e = absurd (omega arith)
caught_high (suc zero) k l e = absurd (omega arith)
caught_high (suc (suc zero)) k l e = absurd (omega arith)
caught_high (suc (suc (suc c))) k l e = omega arith
