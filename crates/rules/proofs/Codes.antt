-- "K(t) holds the codes a start may give, R(t) those a resumption may give.": the codes of `start` are in K, and for a state that fits those of
-- `resume` are in R. This asks that no loop has 0 in K(p), and nothing of TWICE.
use mathlib.Core.Path.{◌≡◌, refl, sym, ◌∙◌}
use mathlib.Core.Bool.{Bool, true, false, not, ◌&&◌, ◌||◌, false≢true, or-true}
use Prim.Native.Nat.{ℕ, zero, suc, ◌+◌}
use native.Mathlib.Omega.{arith}
use Rattle.number.specs.declared.StmtNo.{StmtNo}
use Rattle.number.specs.Number.{pick}
use Rattle.sheet.specs.declared.Leaf.TheVariants.{Nothing, Halt, Emit, Exit}
use Rattle.sheet.specs.declared.Unary.TheVariants.{Loop, Watching, Trap, Signal}
use Rattle.sheet.specs.declared.Binary.TheVariants.{Sequence, Present, Parallel}
use Rattle.sheet.specs.Stmt.{Stmt, leaf, one, two, size}
use Rattle.sheet.specs.Read.{further}
use Rattle.sets.specs.Codes.{Codes, same, join, when, larger, caught, upto, maxima, replaced, less0, with0, caught_codes}
use Rattle.sets.specs.Static.{K, R, has_halts}
use Rattle.sets.specs.Faults.{or_else, instant}
use Rattle.rules.specs.Rules.{Signals, Halts, Outcome, idle, then_on, followed, start, active, resume}
use Rattle.rules.specs.States.{may_end, apart}
use Rattle.number.proofs.Bools.{taut, or_left, or_right, and_both}
use Rattle.std.specs.Prelude.{Option, Some, None}

-- "INSTANT: some loop has 0 in K(p)": no loop has
unfoldable pub NoInstant : Stmt → Type 0
unfolding K
NoInstant (leaf l) = Unit
NoInstant (one Loop p) = (K p 0 ≡ false) × NoInstant p
NoInstant (one (Watching s) p) = NoInstant p
NoInstant (one Trap p) = NoInstant p
NoInstant (one (Signal s) p) = NoInstant p
NoInstant (two b p q) = NoInstant p × NoInstant q

found_none : {A : Type 0} (n : StmtNo) → Some n ≡ None → A
found_none n e = let absurdity : ◌≡◌ {A = ℕ} 0 1 = cc in absurd (omega arith)

clear_first : (f g : Option StmtNo) → or_else f g ≡ None → f ≡ None
unfolding or_else
clear_first (Some n) g e = found_none n e
clear_first None g e = refl

clear_second : (f g : Option StmtNo) → or_else f g ≡ None → g ≡ None
unfolding or_else
clear_second (Some n) g e = found_none n e
clear_second None g e = e

pub clear_loop : (n : StmtNo) (b : Bool) (f : Option StmtNo) → pick b (Some n) f ≡ None → (b ≡ false) × (f ≡ None)
unfolding pick
clear_loop n true f e = found_none n e
clear_loop n false f e = (refl, e)

-- INSTANT is not answered
pub no_instant : (n : StmtNo) (t : Stmt) → instant n t ≡ None → NoInstant t
unfolding instant NoInstant
no_instant n (leaf l) e = tt
no_instant n (one Loop p) e =
    let k = clear_loop n (K p 0) (instant (further n 1) p) e in
    (k.0, no_instant (further n 1) p k.1)
no_instant n (one (Watching s) p) e = no_instant (further n 1) p e
no_instant n (one Trap p) e = no_instant (further n 1) p e
no_instant n (one (Signal s) p) e = no_instant (further n 1) p e
no_instant n (two b p q) e =
    let left : Option StmtNo = instant (further n 1) p in
    let right : Option StmtNo = instant (further n (1 + size p)) q in
    (no_instant (further n 1) p (clear_first left right e), no_instant (further n (1 + size p)) q (clear_second left right e))

pub same_self : (k : ℕ) → same k k ≡ true
same_self zero = refl
same_self (suc k) = same_self k

-- What is done with two codes, done with sets that have them.
replaced_on : (A B : Codes) (k : ℕ) (x y : Outcome) → A k ≡ true → x.code ≡ k → B y.code ≡ true
    → replaced A B (then_on k x y).code ≡ true
replaced_on A B zero x y a e b = go y.code b
  where
    go : (m : ℕ) → B m ≡ true → replaced A B m ≡ true
    go zero h = rw (a, h)
    go (suc m) h = rw (a, h, or-true)
replaced_on A B (suc k) x y a e b = rw e (or_left _ _ a)

pub replaced_in : (A B : Codes) (x y : Outcome) → A x.code ≡ true → B y.code ≡ true → replaced A B (followed x y).code ≡ true
replaced_in A B x y a b = replaced_on A B x.code x y a refl b

upto_zero : (A : Codes) (m : ℕ) → A zero ≡ true → upto A m ≡ true
upto_zero A zero a = a
upto_zero A (suc m) a = or_left _ _ a

maxima_on : (a b c d e f : Bool) → ((a && b) || (c && d)) ≡ true → ((a && (e || b)) || (c && (f || d))) ≡ true
maxima_on = taut 6 1 _ _ _ tt

maxima_in : (A B : Codes) (a b : ℕ) → A a ≡ true → B b ≡ true → maxima A B (larger a b) ≡ true
maxima_in A B zero b p q = rw (q, upto_zero A b p, or-true)
maxima_in A B (suc a) zero p q = rw (p, q)
maxima_in A B (suc a) (suc b) p q =
    maxima_on (A (suc (larger a b))) (upto (λ x. B (suc x)) (larger a b)) (B (suc (larger a b))) (upto (λ x. A (suc x)) (larger a b))
    (B 0) (A 0)
    (maxima_in (λ x. A (suc x)) (λ x. B (suc x)) a b p q)

pub caught_in : (A : Codes) (a : ℕ) → A a ≡ true → caught_codes A (caught a) ≡ true
caught_in A zero p = or_left _ _ p
caught_in A (suc zero) p = p
caught_in A (suc (suc zero)) p = rw (p, or-true)
caught_in A (suc (suc (suc a))) p = p

pub less0_in : (A : Codes) (a : ℕ) → A zero ≡ false → A a ≡ true → less0 A a ≡ true
less0_in A zero none p = sym none ∙ p
less0_in A (suc a) none p = p

with0_in : (A : Codes) (a : ℕ) → A a ≡ true → with0 A a ≡ true
with0_in A zero p = refl
with0_in A (suc a) p = p

pick_in : (b : Bool) (A B : Codes) (x y : Outcome) → A x.code ≡ true → B y.code ≡ true → join A B (pick b x y).code ≡ true
unfolding pick
pick_in true A B x y p q = or_left _ _ p
pick_in false A B x y p q = rw (q, or-true)

pub start_in_k : (E : Signals) (t : Stmt) → NoInstant t → K t (start E t).code ≡ true
unfolding K start NoInstant
start_in_k E (leaf Nothing) w = refl
start_in_k E (leaf (Halt h)) w = refl
start_in_k E (leaf (Emit s)) w = refl
start_in_k E (leaf (Exit k)) w = same_self k
start_in_k E (one Loop p) w = less0_in (K p) _ w.0 (start_in_k E p w.1)
start_in_k E (one (Watching s) p) w = start_in_k E p w
start_in_k E (one Trap p) w = caught_in (K p) _ (start_in_k E p w)
start_in_k E (one (Signal s) p) w = start_in_k E p w
start_in_k E (two Sequence p q) w = replaced_in (K p) (K q) (start E p) (start E q) (start_in_k E p w.0) (start_in_k E q w.1)
start_in_k E (two (Present s) p q) w = pick_in (E s) (K p) (K q) (start E p) (start E q) (start_in_k E p w.0) (start_in_k E q w.1)
start_in_k E (two Parallel p q) w = maxima_in (K p) (K q) _ _ (start_in_k E p w.0) (start_in_k E q w.1)

-- A part that is resumed has a halt set.
pick_resumed : (hp hq : Bool) (A B : Codes) (x y : Outcome) → (hp || hq) ≡ true
    → (hp ≡ true → A x.code ≡ true) → (hq ≡ true → B y.code ≡ true) → join A B (pick hp x y).code ≡ true
unfolding pick
pick_resumed true hq A B x y h a b = or_left _ _ (a refl)
pick_resumed false true A B x y h a b = rw (b refl, or-true)
pick_resumed false false A B x y h a b = absurd (false≢true h)

pick_watching : (s : Bool) (A : Codes) (x : Outcome) → A x.code ≡ true → with0 A (pick s idle x).code ≡ true
unfolding pick
pick_watching true A x p = refl
pick_watching false A x p = with0_in A _ p

-- What `apart` says of a statement's parts.
apart_left : (a b c : Bool) → (a && (b && c)) ≡ true → b ≡ true
apart_left = taut 3 1 _ _ _ tt

apart_right : (a b c : Bool) → (a && (b && c)) ≡ true → c ≡ true
apart_right = taut 3 1 _ _ _ tt

-- where p alone has halts, q may end; and the other way round
pub ends_right : (p q e f x : Bool) → ((not p || (q || e)) && ((not q || (p || f)) && x)) ≡ true → p ≡ true → q ≡ false → e ≡ true
ends_right = taut 5 3 _ _ _ tt

pub ends_left : (p q e f x : Bool) → ((not p || (q || e)) && ((not q || (p || f)) && x)) ≡ true → q ≡ true → p ≡ false → f ≡ true
ends_left = taut 5 3 _ _ _ tt

sides_left : (a b c d : Bool) → (a && (b && (c && d))) ≡ true → c ≡ true
sides_left = taut 4 1 _ _ _ tt

sides_right : (a b c d : Bool) → (a && (b && (c && d))) ≡ true → d ≡ true
sides_right = taut 4 1 _ _ _ tt

module _ (H : Halts) (p q : Stmt) where
  pub sequence_left : apart H (two Sequence p q) ≡ true → apart H p ≡ true
  unfolding apart
  sequence_left f = apart_left (not (active H p && active H q)) (apart H p) (apart H q) f

  pub sequence_right : apart H (two Sequence p q) ≡ true → apart H q ≡ true
  unfolding apart
  sequence_right f = apart_right (not (active H p && active H q)) (apart H p) (apart H q) f

  pub parallel_left : apart H (two Parallel p q) ≡ true → apart H p ≡ true
  unfolding apart
  parallel_left f =
      sides_left (not (active H p) || (active H q || may_end q)) (not (active H q) || (active H p || may_end p)) (apart H p) (apart H q) f

  pub parallel_right : apart H (two Parallel p q) ≡ true → apart H q ≡ true
  unfolding apart
  parallel_right f =
      sides_right (not (active H p) || (active H q || may_end q)) (not (active H q) || (active H p || may_end p)) (apart H p) (apart H q) f

  pub right_ends : apart H (two Parallel p q) ≡ true → active H p ≡ true → active H q ≡ false → may_end q ≡ true
  unfolding apart
  right_ends f = ends_right (active H p) (active H q) (may_end q) (may_end p) (apart H p && apart H q) f

  pub left_ends : apart H (two Parallel p q) ≡ true → active H q ≡ true → active H p ≡ false → may_end p ≡ true
  unfolding apart
  left_ends f = ends_left (active H p) (active H q) (may_end q) (may_end p) (apart H p && apart H q) f

-- "parallel the maxima of R(p) with R(q), also R(p) if q has 0 in K or R, and R(q) likewise"
abbrev beside_codes : Codes → Codes → Bool → Bool → Codes
beside_codes Rp Rq ends_p ends_q = join (maxima Rp Rq) (join (when ends_q Rp) (when ends_p Rq))

parallel_in : (hp hq ends_p ends_q : Bool) (Rp Rq : Codes) (x y : Outcome) → (hp || hq) ≡ true
    → (hp ≡ true → Rp x.code ≡ true) → (hq ≡ true → Rq y.code ≡ true)
    → (hp ≡ true → hq ≡ false → ends_q ≡ true) → (hq ≡ true → hp ≡ false → ends_p ≡ true)
    → beside_codes Rp Rq ends_p ends_q (larger (pick hp x idle).code (pick hq y idle).code) ≡ true
unfolding pick
parallel_in true true ends_p ends_q Rp Rq x y h a b c d = or_left _ _ (maxima_in Rp Rq _ _ (a refl) (b refl))
parallel_in true false ends_p ends_q Rp Rq x y h a b c d = go x.code (a refl)
  where
    go : (k : ℕ) → Rp k ≡ true → beside_codes Rp Rq ends_p ends_q (larger k 0) ≡ true
    go zero e = rw (c refl refl, e, or-true)
    go (suc k) e = rw (c refl refl, e, or-true)
parallel_in false true ends_p ends_q Rp Rq x y h a b c d =
    or_right (maxima Rp Rq y.code) _ (or_right (when ends_q Rp y.code) _ (and_both ends_p (Rq y.code) (d refl refl) (b refl)))
parallel_in false false ends_p ends_q Rp Rq x y h a b c d = absurd (false≢true h)

-- where a halt is set there are halts
halts_both : (a b c d : Bool) → (a ≡ true → c ≡ true) → (b ≡ true → d ≡ true) → (a || b) ≡ true → (c || d) ≡ true
halts_both true b c d f g h = or_left c d (f refl)
halts_both false b c d f g h = or_right c d (g h)

active_halts : (H : Halts) (t : Stmt) → active H t ≡ true → has_halts t ≡ true
unfolding active has_halts
active_halts H (leaf Nothing) h = h
active_halts H (leaf (Halt k)) h = refl
active_halts H (leaf (Emit s)) h = h
active_halts H (leaf (Exit k)) h = h
active_halts H (one u p) h = active_halts H p h
active_halts H (two b p q) h = halts_both (active H p) (active H q) (has_halts p) (has_halts q) (active_halts H p) (active_halts H q) h

pub resume_in_r : (E : Signals) (H : Halts) (t : Stmt) → NoInstant t → apart H t ≡ true → active H t ≡ true
    → R t (resume E H t).code ≡ true
unfolding K R start resume active NoInstant apart
resume_in_r E H (leaf Nothing) w f h = absurd (false≢true h)
resume_in_r E H (leaf (Halt k)) w f h = refl
resume_in_r E H (leaf (Emit s)) w f h = absurd (false≢true h)
resume_in_r E H (leaf (Exit k)) w f h = absurd (false≢true h)
resume_in_r E H (one Loop p) w f h =
    replaced_in (R p) (less0 (K p)) (resume E H p) (start E p) (resume_in_r E H p w.1 f h)
    (less0_in (K p) _ w.0 (start_in_k E p w.1))
resume_in_r E H (one (Watching s) p) w f h =
    and_both (has_halts p) _ (active_halts H p h) (pick_watching (E s) (R p) (resume E H p) (resume_in_r E H p w f h))
resume_in_r E H (one Trap p) w f h = caught_in (R p) _ (resume_in_r E H p w f h)
resume_in_r E H (one (Signal s) p) w f h = resume_in_r E H p w f h
resume_in_r E H (two Sequence p q) w f h =
    pick_resumed (active H p) (active H q) (replaced (R p) (K q)) (R q) (followed (resume E H p) (start E q)) (resume E H q) h
    (λ e. replaced_in (R p) (K q) (resume E H p) (start E q) (resume_in_r E H p w.0 (sequence_left H p q f) e) (start_in_k E q w.1))
    (resume_in_r E H q w.1 (sequence_right H p q f))
resume_in_r E H (two (Present s) p q) w f h =
    pick_resumed (active H p) (active H q) (R p) (R q) (resume E H p) (resume E H q) h
    (resume_in_r E H p w.0 (sequence_left H p q f)) (resume_in_r E H q w.1 (sequence_right H p q f))
resume_in_r E H (two Parallel p q) w f h =
    parallel_in (active H p) (active H q) (may_end p) (may_end q) (R p) (R q) (resume E H p) (resume E H q) h
    (resume_in_r E H p w.0 (parallel_left H p q f)) (resume_in_r E H q w.1 (parallel_right H p q f))
    (right_ends H p q f) (left_ends H p q f)
