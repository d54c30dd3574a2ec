-- What a statement's nets do, as functions of its go and resume: what the induction over statements claims.
use mathlib.Core.Path.{◌≡◌, refl, ap, subst}
use mathlib.Core.Bool.{Bool, true, false, not, ◌&&◌, ◌||◌, false≢true, or-false}
use Prim.Native.Nat.{ℕ, zero, suc}
use Rattle.number.specs.declared.SignalNo.{SignalNo}
use Rattle.number.specs.declared.HaltNo.{HaltNo}
use Rattle.number.specs.Number.{pick}
use Rattle.number.proofs.Bools.{taut}
use Rattle.sheet.specs.declared.Unary.TheVariants.{Loop, Watching, Trap, Signal}
use Rattle.sheet.specs.declared.Binary.TheVariants.{Sequence, Present, Parallel}
use Rattle.sheet.specs.Stmt.{Stmt, leaf, one, two}
use Rattle.sets.specs.Codes.{Codes, same, replaced}
use Rattle.sets.specs.Static.{K}
use Rattle.rules.specs.Rules.{Signals, Halts, Outcome, then_on, followed, start, active, resume}
use Rattle.rules.proofs.Codes.{start_in_k}
use Rattle.rules.proofs.Halting.{HaltsWithOne}
use Rattle.agreement.proofs.Restarts.{Redo}
use Rattle.agreement.proofs.Sound.{Par, Sound}

-- a started run that gives a, a resumed one that gives b
abbrev pub live : Bool → Bool → Bool → Bool → Bool
live γ ρ a b = (γ && a) || (ρ && b)

-- What is claimed of a statement with go γ and resume ρ: its code nets are P, it sends the signals M and would keep the halts W. It may be started and
-- resumed in one clock, where a loop goes round; then both runs show, or'ed, as long as no parallel is started that is resumed too (`Par`). A loop
-- makes no such go: while such a parallel is resumed, whatever go comes, only codes of K and Redo show (`both`), and INSTANT and TWICE say that 0 is none
-- of these.
pub record Runs (E : Signals) (H : Halts) (t : Stmt) (γ ρ : Bool) (P : Codes) (M : Signals) (W : Halts) : Type 0 where
  pub codes : (γ && (ρ && Par E H t)) ≡ false → (j : ℕ)
      → P j ≡ live γ (ρ && active H t) (same (start E t).code j) (same (resume E H t).code j)
  pub emits : (γ && (ρ && Par E H t)) ≡ false → (s : SignalNo) → M s ≡ live γ (ρ && active H t) ((start E t).emits s) ((resume E H t).emits s)
  pub halts : (γ && (ρ && Par E H t)) ≡ false → (h : HaltNo) → W h ≡ live γ (ρ && active H t) ((start E t).halts h) ((resume E H t).halts h)
  pub both : (j : ℕ) → (((ρ && Par E H t) && P j) && not (K t j || Redo t j)) ≡ false

-- where one of those parallels is resumed there are halts
pub either_within : (a b c d : Bool) → (a && not c) ≡ false → (b && not d) ≡ false → ((a || b) && not (c || d)) ≡ false
either_within = taut 4 2 _ _ _ tt

led_within : (k a b c d : Bool) → (a && not c) ≡ false → (b && not d) ≡ false → ((a || (k && b)) && not (c || d)) ≡ false
led_within = taut 5 2 _ _ _ tt

guarded_within : (e a b : Bool) → (a && not b) ≡ false → ((not e && a) && not b) ≡ false
guarded_within = taut 3 1 _ _ _ tt

itself_within : (a : Bool) → (a && not a) ≡ false
itself_within = taut 1 0 _ _ _ tt

pub par_active : (E : Signals) (H : Halts) (t : Stmt) → (Par E H t && not (active H t)) ≡ false
unfolding Par active
par_active E H (leaf l) = refl
par_active E H (one Loop p) = par_active E H p
par_active E H (one (Watching s) p) = guarded_within (E s) (Par E H p) (active H p) (par_active E H p)
par_active E H (one Trap p) = par_active E H p
par_active E H (one (Signal s) p) = par_active E H p
par_active E H (two Sequence p q) =
    led_within (K p 0) (Par E H p) (Par E H q) (active H p) (active H q) (par_active E H p) (par_active E H q)
par_active E H (two (Present s) p q) =
    either_within (Par E H p) (Par E H q) (active H p) (active H q) (par_active E H p) (par_active E H q)
par_active E H (two Parallel p q) = itself_within (active H p || active H q)

pub same_eq : (a b : ℕ) → same a b ≡ true → a ≡ b
same_eq zero zero e = refl
same_eq zero (suc b) e = absurd (false≢true e)
same_eq (suc a) zero e = absurd (false≢true e)
same_eq (suc a) (suc b) e = ap suc (same_eq a b e)

pub implied : (a b : Bool) → (a ≡ true → b ≡ true) → (a && not b) ≡ false
implied true true f = refl
implied true false f = absurd (false≢true (f refl))
implied false b f = refl

-- a set that holds the code a
pub same_in : (A : Codes) (a j : ℕ) → A a ≡ true → (same a j && not (A j)) ≡ false
same_in A a j p = implied (same a j) (A j) (λ e. subst (λ (k : ℕ). A k ≡ true) (same_eq a j e) p)

pub start_code_in : (E : Signals) (H : Halts) (t : Stmt) → Sound H t → (j : ℕ) → (same (start E t).code j && not (K t j)) ≡ false
start_code_in E H t w j = same_in (K t) (start E t).code j (start_in_k E t w.no_instant)

-- a statement without halts in the state does only what its start makes it do
not_resumed : (γ ρ h u : Bool) → h ≡ false → (u && not h) ≡ false → (γ && (ρ && u)) ≡ false
not_resumed = taut 4 2 _ _ _ tt

start_alone : (γ ρ h u a r k : Bool) → (γ && (ρ && u)) ≡ false → (a && not k) ≡ false → (not h && (live γ (ρ && h) a r && not (γ && k))) ≡ false
start_alone = taut 7 2 _ _ _ tt

pub started : (E : Signals) (H : Halts) (t : Stmt) (γ ρ : Bool) (P : Codes) (M : Signals) (W : Halts) → Sound H t → Runs E H t γ ρ P M W
    → (j : ℕ) → (not (active H t) && (P j && not (γ && K t j))) ≡ false
started E H t γ ρ P M W w r j = go (active H t) refl
  where
    go : (h : Bool) → active H t ≡ h → (not h && (P j && not (γ && K t j))) ≡ false
    go true e = refl
    go false e =
        let ok : (γ && (ρ && Par E H t)) ≡ false = not_resumed γ ρ (active H t) (Par E H t) e (par_active E H t) in
        rw (r.codes ok j, e)
        (start_alone γ ρ false (Par E H t) (same (start E t).code j) (same (resume E H t).code j) (K t j) ok (start_code_in E H t w j))

-- What one run after another gives, and one of two.
pub followed_code : (x y : Outcome) (j : ℕ) → same (followed x y).code j ≡ replaced (same x.code) (same y.code) j
followed_code x y j = go x.code refl j
  where
    go : (k : ℕ) → x.code ≡ k → (j : ℕ) → same (then_on k x y).code j ≡ replaced (same k) (same y.code) j
    go zero e zero = refl
    go zero e (suc j) = refl
    go (suc k) e zero = rw e
    go (suc k) e (suc j) = rw (e, or-false)

pub followed_emits : (x y : Outcome) (s : SignalNo) → (followed x y).emits s ≡ (x.emits s || (same x.code 0 && y.emits s))
followed_emits x y s = go x.code
  where
    go : (k : ℕ) → (then_on k x y).emits s ≡ (x.emits s || (same k 0 && y.emits s))
    go zero = refl
    go (suc k) = rw or-false

-- halts come with code 1, so a run that ends with 0 has none
ends_without : (a c : Bool) → (a && not false) ≡ false → c ≡ (a || c)
ends_without = taut 2 1 _ _ _ tt

pub followed_halts : (x y : Outcome) → HaltsWithOne x → (h : HaltNo) → (followed x y).halts h ≡ (x.halts h || (same x.code 0 && y.halts h))
followed_halts x y w h = go x.code (implied (x.halts h) (same x.code 1) (λ e. rw (w.with_one h e)))
  where
    go : (k : ℕ) → (x.halts h && not (same k 1)) ≡ false → (then_on k x y).halts h ≡ (x.halts h || (same k 0 && y.halts h))
    go zero e = ends_without (x.halts h) (y.halts h) e
    go (suc k) e = rw or-false

abbrev pub choose : Bool → Bool → Bool → Bool
choose h a b = (h && a) || (not h && b)

pub pick_code : (h : Bool) (x y : Outcome) (j : ℕ) → same (pick h x y).code j ≡ choose h (same x.code j) (same y.code j)
unfolding pick
pick_code true x y j = rw or-false
pick_code false x y j = refl

pub pick_emits : (h : Bool) (x y : Outcome) (s : SignalNo) → (pick h x y).emits s ≡ choose h (x.emits s) (y.emits s)
unfolding pick
pick_emits true x y s = rw or-false
pick_emits false x y s = refl

pub pick_halts : (h : Bool) (x y : Outcome) (k : HaltNo) → (pick h x y).halts k ≡ choose h (x.halts k) (y.halts k)
unfolding pick
pick_halts true x y k = rw or-false
pick_halts false x y k = refl
