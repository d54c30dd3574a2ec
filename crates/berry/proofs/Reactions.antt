-- The reaction from a state and 004's steps of the statement that the state stands for, without and with the halt that 004 adds.
use mathlib.Core.Path.{◌≡◌, refl, sym, ◌∙◌, ap, subst, fun_ext}
use mathlib.Core.Bool.{Bool, true, false, not, ◌&&◌, ◌||◌, false≢true, and-false}
use Prim.Native.Nat.{ℕ, zero, suc, ◌≤◌}
use native.Mathlib.Omega.{arith}
use borrow.Author.Tests.{eqb-true, eq-eqb, ne_eqb}
use Rattle.number.specs.declared.SignalNo.{SignalNo}
use Rattle.number.specs.declared.HaltNo.{HaltNo}
use Rattle.number.specs.Counts.{halt_no, of_halt}
use Rattle.number.specs.Number.{pick}
use Rattle.number.proofs.Bools.{taut, or_left, or_right, or_cases, off}
use Rattle.bits.specs.Bits.{boot}
use Rattle.sheet.specs.declared.Leaf.TheVariants.{Nothing, Halt, Emit, Exit}
use Rattle.sheet.specs.declared.Binary.TheVariants.{Sequence}
use Rattle.sheet.specs.Stmt.{Stmt, leaf, one, two, halt_count}
use Rattle.sheet.specs.Read.{only}
use Rattle.sheet.proofs.Notions.{Numbered, Exits, in_halts, halt_within}
use Rattle.sets.specs.Codes.{same, empty, join}
use Rattle.rules.specs.Rules.{Signals, Halts, Outcome, idle, only_halt, then_on, followed, start, active, resume}
use Rattle.rules.specs.States.{State, halts_of, react, next_state, tick, Agrees, fits}
use Rattle.rules.proofs.Codes.{NoInstant}
use Rattle.rules.proofs.Halting.{HaltsWithOne, start_halting, resume_halting}
use Rattle.rules.proofs.Own.{KeepsOwn}
use Rattle.rules.proofs.Again.{none, next_halts, booted_apart}
use Rattle.agreement.proofs.Runs.{followed_emits}
use Rattle.berry.specs.Behaviour.{Step, halt_rule, locals_of}
use Rattle.berry.specs.Haltsets.{recovering, recovered}
use Rattle.berry.specs.Modules.{Transition, trailing, body, haltset_of, stands_for}
use Rattle.berry.proofs.Derivatives.{Lefts, nothing_lefts, start_lefts, resume_lefts}
use Rattle.berry.proofs.Scopes.{in_locals, Bound}
use Rattle.berry.proofs.Tests.{all_in}
use Rattle.agreement.proofs.Restarts.{NoRestart}
use Rattle.berry.proofs.Lives.{start_lives, resume_lives}
use Rattle.berry.proofs.Courses.{Course, ending, halting, then_course, pick_course, start_course, resume_course, react_course}
use Rattle.berry.proofs.Runs.{Run, Closed, start_run, side_run}
use Rattle.berry.proofs.Forward.{seen, Gives, Agree, sequence_gives, nothing_gives, start_gives, resume_gives}
use Rattle.berry.proofs.Backward.{Reads, Read, found, found_is, found_said, sequence_read, halt_read, nothing_read, start_read, resume_read}

-- the local signals that live in a reaction
unfoldable pub react_lives : Signals → State → Stmt → Signals
unfolding active start_lives resume_lives pick
react_lives E S t s = pick (S boot) (pick (active (halts_of S) t) (resume_lives E (halts_of S) t s) false) (start_lives E t s)

react_run : (X : Signals) (t : Stmt) → Bound X t → (E : Signals) (S : State) → Run X (in_locals t) (react E S t) (react_lives E S t)
unfolding react react_lives
react_run X t b E S = go (S boot)
  where
    z : Bool
    z = active (halts_of S) t

    go : (u : Bool) → Run X (in_locals t) (pick u (pick z (resume E (halts_of S) t) idle) (start E t))
        (λ s. pick u (pick z (resume_lives E (halts_of S) t s) false) (start_lives E t s))
    go true = side_run X t b E (halts_of S) z
    go false = start_run X t b E

-- 004's statement y does what the reactions of t from S do: its steps are those of the course c, whose emissions are the reactions'
pub record Follows (X : Signals) (S : State) (t y : Stmt) (c : Course) : Type 0 where
  pub emits : (E : Signals) (s : SignalNo) → (c.outcome E).emits s ≡ (react E S t).emits s
  pub lives : (E : Signals) (s : SignalNo) → c.lives E s ≡ react_lives E S t s
  pub gives : (E D : Signals) → Agree X D E → Closed E (react_lives E S t) (react E S t) → Gives X D y (c.outcome E)
  pub reads : Read X y (in_locals t) c

-- the outcome of the halt that 004 adds
abbrev pub resting : Stmt → Outcome
resting t = record { emits = empty; code = 1; halts = only_halt (trailing t) }

-- a course and then that halt; the course of the body from the state S
abbrev then_rests : Stmt → Course → Course
then_rests t c = then_course (leaf (Halt (trailing t))) c (halting (trailing t))

unfoldable pub body_course : State → Stmt → Course
unfolding start_course resume_course active react react_lives pick
body_course S t =
    record {
      outcome = λ E. followed (react E S t) (resting t);
      becomes =
          λ E. pick (S boot) (pick (active (halts_of S) t) ((then_rests t (resume_course (halts_of S) t)).becomes E) (leaf (Halt (trailing t))))
          ((then_rests t (start_course t)).becomes E);
      lives = λ E s. react_lives E S t s || (same (react E S t).code 0 && false);
    }

-- the halt that is added is none of t's
pub added : (t : Stmt) → Numbered (halt_no 0) t → (h : HaltNo) → in_halts t h ≡ true → only_halt (trailing t) h ≡ false
added t n h e = let within = halt_within (halt_no 0) t n h e in ne_eqb (of_halt h) (halt_count t) (λ i. omega (arith, within.1))

module _ (X : Signals) (S : State) (t : Stmt) (x : Exits 0 t) (w : NoInstant t) (n : NoRestart t) (b : Bound X t) (f : fits S t ≡ true) where
  abbrev H : Halts
  H = halts_of S

  alone_gives : (E D : Signals) → Agree X D E → Closed E (react_lives E S t) (react E S t) → Gives X D (stands_for S t) (react E S t)
  unfolding react react_lives stands_for pick
  alone_gives E D g c = go (S boot) refl (active H t) refl c
    where
      go : (u : Bool) → S boot ≡ u → (v : Bool) → active H t ≡ v
          → Closed E (λ s. pick u (pick v (resume_lives E H t s) false) (start_lives E t s)) (pick u (pick v (resume E H t) idle) (start E t))
          → Gives X D (pick u (pick v (recovering H t) (leaf Nothing)) t) (pick u (pick v (resume E H t) idle) (start E t))
      go true on true e c = resume_gives 0 X D E H t x w n (booted_apart S t f on) b g e c
      go true on false e c = nothing_gives X D
      go false off v e c = start_gives 0 X D E t x w b g c

  alone_reads : Read X (stands_for S t) (in_locals t) (react_course S t)
  unfolding react_course stands_for pick
  alone_reads = go (S boot) refl (active H t) refl
    where
      go : (u : Bool) → S boot ≡ u → (v : Bool) → active H t ≡ v
          → Read X (pick u (pick v (recovering H t) (leaf Nothing)) t) (in_locals t)
          (pick_course (λ E. u) (pick_course (λ E. v) (resume_course H t) ending) (start_course t))
      go true on true e = resume_read X H t w n (booted_apart S t f on) b e
      go true on false e = nothing_read X (in_locals t)
      go false off v e = start_read X t b

  -- without an added halt
  pub alone_follows : Follows X S t (stands_for S t) (react_course S t)
  unfolding react react_lives start_course resume_course react_course
  alone_follows = record { emits = λ E s. refl; lives = λ E s. refl; gives = alone_gives; reads = alone_reads }

  module _ (numbered : Numbered (halt_no 0) t) where
    pub alone_lefts : Lefts (stands_for S t) t
    unfolding stands_for pick
    alone_lefts = go (S boot) (active H t) refl
      where
        go : (u v : Bool) → active H t ≡ v → Lefts (pick u (pick v (recovering H t) (leaf Nothing)) t) t
        go true true e = resume_lefts 0 (halt_no 0) H t x numbered e
        go true false e = nothing_lefts t
        go false v e = start_lefts 0 (halt_no 0) t x numbered

    -- what the state stands for with the added halt, by the state's three kinds
    abbrev halted : Bool → Bool → Stmt
    halted u v = pick u (pick v (two Sequence (recovering H t) (leaf (Halt (trailing t)))) (leaf (Halt (trailing t)))) (body t)

    body_stands : recovered (haltset_of S t) (body t) ≡ halted (S boot) (active H t)
    unfolding recovered haltset_of recovering active pick
    body_stands = go (S boot) (active H t) refl
      where
        ended : active (only_halt (trailing t)) t ≡ false
        ended = none (only_halt (trailing t)) t (added t numbered)

        self : only_halt (trailing t) (trailing t) ≡ true
        self = eq-eqb (halt_count t) (halt_count t) refl

        fresh_body : active empty t ≡ false
        fresh_body = none empty t (λ h e. refl)

        go : (u v : Bool) → active H t ≡ v → recovered (pick u (pick v H (only_halt (trailing t))) empty) (body t) ≡ halted u v
        go true true e = rw e
        go true false e = rw (ended, self)
        go false v e = rw fresh_body

    body_gives : (E D : Signals) → Agree X D E → Closed E (react_lives E S t) (react E S t)
        → Gives X D (halted (S boot) (active H t)) (followed (react E S t) (resting t))
    unfolding react react_lives pick
    body_gives E D g c = go (S boot) refl (active H t) refl c
      where
        rests : Gives X D (leaf (Halt (trailing t))) (resting t)
        rests = record { becomes = leaf (Halt (trailing t)); step = halt_rule }

        go : (u : Bool) → S boot ≡ u → (v : Bool) → active H t ≡ v
            → Closed E (λ s. pick u (pick v (resume_lives E H t s) false) (start_lives E t s)) (pick u (pick v (resume E H t) idle) (start E t))
            → Gives X D (halted u v) (followed (pick u (pick v (resume E H t) idle) (start E t)) (resting t))
        go true on true e c =
            sequence_gives X D (recovering H t) (leaf (Halt (trailing t))) (resume E H t) (resting t) (resume_halting 0 E H t x)
            (resume_gives 0 X D E H t x w n (booted_apart S t f on) b g e c) (λ z. rests)
        go true on false e c = rests
        go false off v e c =
            sequence_gives X D t (leaf (Halt (trailing t))) (start E t) (resting t) (start_halting 0 E t x) (start_gives 0 X D E t x w b g c) (λ z. rests)

    body_reads : Read X (halted (S boot) (active H t)) (in_locals t) (body_course S t)
    unfolding react react_lives start_course resume_course body_course pick
    body_reads = go (S boot) refl (active H t) refl
      where
        own : Signals
        own = in_locals t

        rest_run : (E : Signals) → Run X empty (resting t) (λ s. false)
        rest_run E = record { new = λ s. refl; own = λ s. refl; seen = λ s. refl }

        then_rests' : (y : Stmt) (c : Course) → ((E : Signals) → Run X own (c.outcome E) (c.lives E)) → Read X y own c
            → Read X (two Sequence y (leaf (Halt (trailing t)))) own (then_rests t c)
        then_rests' y c runs reads =
            sequence_read X own empty own c (halting (trailing t)) runs rest_run (λ s. all_in (own s)) (λ s. refl)
            y (leaf (Halt (trailing t))) (λ E F z s. and-false (c.lives E s)) reads (halt_read X empty (trailing t))

        go : (u : Bool) → S boot ≡ u → (v : Bool) → active H t ≡ v
            → Read X (halted u v) own
            (record {
              outcome = λ E. followed (pick u (pick v (resume E H t) idle) (start E t)) (resting t);
              becomes =
                  λ E. pick u (pick v ((then_rests t (resume_course H t)).becomes E) (leaf (Halt (trailing t)))) ((then_rests t (start_course t)).becomes E);
              lives =
                  λ E s. pick u (pick v (resume_lives E H t s) false) (start_lives E t s)
                  || (same (pick u (pick v (resume E H t) idle) (start E t)).code 0 && false);
            })
        go true on true e =
            then_rests' (recovering H t) (resume_course H t) (λ E. side_run X t b E H true) (resume_read X H t w n (booted_apart S t f on) b e)
        go true on false e = halt_read X own (trailing t)
        go false off v e = then_rests' t (start_course t) (start_run X t b) (start_read X t b)

    -- with the halt that 004 adds
    pub body_follows : Follows X S t (recovered (haltset_of S t) (body t)) (body_course S t)
    unfolding body_course
    body_follows =
        rw body_stands
        (record {
          emits = λ E s. followed_emits (react E S t) (resting t) s ∙ nothing_more ((react E S t).emits s) (same (react E S t).code 0);
          lives = λ E s. nothing_more (react_lives E S t s) (same (react E S t).code 0);
          gives = body_gives;
          reads = body_reads;
        })
      where
        nothing_more : (a c : Bool) → (a || (c && false)) ≡ a
        nothing_more = taut 2 0 _ _ _ tt

-- a halt of t that is set
pub some_active : (H : Halts) (t : Stmt) (h : HaltNo) → in_halts t h ≡ true → H h ≡ true → active H t ≡ true
unfolding active in_halts
some_active H (leaf Nothing) h i on = absurd (false≢true i)
some_active H (leaf (Halt k)) h i on = let same_halt : h ≡ k = ap halt_no (eqb-true (of_halt h) (of_halt k) i) in rw (← same_halt) on
some_active H (leaf (Emit s)) h i on = absurd (false≢true i)
some_active H (leaf (Exit k)) h i on = absurd (false≢true i)
some_active H (one u p) h i on = some_active H p h i on
some_active H (two b p q) h i on =
    or_cases (in_halts p h) (in_halts q h) (λ l. or_left (active H p) (active H q) (some_active H p h l on))
    (λ r. or_right (active H p) (active H q) (some_active H q h r on)) i

-- what an outcome with the added halt becomes: level 1, and the haltset that the next state stands for
module _ (t : Stmt) (o : Outcome) (few : o.code ≤ 1) where
  pub rest_level : (followed o (resting t)).code ≡ 1
  rest_level = go o.code refl
    where
      go : (k : ℕ) → o.code ≡ k → (then_on k o (resting t)).code ≡ 1
      go zero e = refl
      go (suc zero) e = e
      go (suc (suc k)) e = absurd (omega (arith, few, e))

  pub rest_haltset : HaltsWithOne o → KeepsOwn t o → (followed o (resting t)).halts ≡ haltset_of (next_state o) t
  unfolding haltset_of pick
  rest_haltset halting keeps = go o.code refl
    where
      next : halts_of (next_state o) ≡ o.halts
      next = fun_ext (next_halts o)

      go : (k : ℕ) → o.code ≡ k → (then_on k o (resting t)).halts ≡ haltset_of (next_state o) t
      go zero e =
          let ended : active (halts_of (next_state o)) t ≡ false =
          none (halts_of (next_state o)) t (λ h i. next_halts o h ∙ off (o.halts h) (λ on. omega (arith, halting.with_one h on, e))) in
          rw ended
      go (suc zero) e =
          let k = halting.some e in
          let on : active (halts_of (next_state o)) t ≡ true =
          some_active (halts_of (next_state o)) t k.halt (keeps k.halt k.set) (next_halts o k.halt ∙ k.set) in
          rw (on, next)
      go (suc (suc k)) e = absurd (omega (arith, few, e))

-- Transitions. A set that agrees with the paper's rules gives one, with the outcome o ..
pub record Moves (J : Signals) (y : Stmt) (O : Signals) (o : Outcome) : Type 0 where
  pub becomes : Stmt
  pub step : Transition J y O o.code o.halts becomes

-- .. and a transition gives a set that agrees: its emissions in scope are the outputs, the others the local signals that the derivation has present
pub record Shows (X J : Signals) (S : State) (t : Stmt) (c : Course) (O : Signals) (k : ℕ) (H : Halts) (p : Stmt) (Y : Signals) : Type 0 where
  pub set : Signals
  pub agrees : Agrees J S set t
  pub locals : (s : SignalNo) → Y s ≡ ((react set S t).emits s && not (X s))
  pub outputs : O ≡ seen X (react set S t).emits
  pub level : k ≡ (c.outcome set).code
  pub haltset : H ≡ (c.outcome set).halts
  pub derivative : p ≡ c.becomes set

-- y follows the reactions of t from S; J is the event, and X has tick and its inputs
module _ (X J : Signals) (S : State) (t : Stmt) (b : Bound X t) (inputs : (s : SignalNo) → ((only tick s || J s) && not (X s)) ≡ false) (y : Stmt)
    (c : Course) (follows : Follows X S t y c) where
  in_scope : (i r x : Bool) → x ≡ true → (i || (r && x)) ≡ (i || r)
  in_scope = taut 3 1 _ _ _ tt

  local_status : (e i r l c x : Bool) → l ≡ true → e ≡ (i || r) → (l && not c) ≡ false → (c && x) ≡ false → (i && not x) ≡ false → e ≡ r
  local_status = taut 6 5 _ _ _ tt

  pub forward : (E : Signals) → Agrees J S E t → Moves J y (seen X (react E S t).emits) (c.outcome E)
  forward E agrees =
      let r = react_run X t b E S in
      let D : Signals = join (join (only tick) J) (seen X (react E S t).emits) in
      let g : Gives X D y (c.outcome E) = follows.gives E D
      (λ s on. in_scope (only tick s || J s) ((react E S t).emits s) (X s) on ∙ sym (agrees s))
      (λ s on. local_status (E s) (only tick s || J s) ((react E S t).emits s) (react_lives E S t s) (in_locals t s) (X s) on (agrees s)
      (r.own s) (r.new s) (inputs s)) in
      let same_emits : seen X (c.outcome E).emits ≡ seen X (react E S t).emits = fun_ext (λ s. ap (λ (v : Bool). v && X s) (follows.emits E s)) in
      record {
        becomes = g.becomes;
        step = subst (λ (A : Signals). Step D y A (c.outcome E).code (c.outcome E).halts g.becomes) same_emits g.step;
      }

  all_agree : (w y i o r x : Bool) → o ≡ (r && x) → y ≡ (r && w) → (r && not (x || w)) ≡ false → (w && x) ≡ false → (i && not x) ≡ false
      → pick w y (i || o) ≡ (i || r)
  unfolding pick
  all_agree = taut 6 5 _ _ _ tt

  hidden : (w c x : Bool) → (w && not c) ≡ false → (c && x) ≡ false → (w && x) ≡ false
  hidden = taut 3 2 _ _ _ tt

  the_others : (r x y w : Bool) → y ≡ (r && w) → (r && not (x || w)) ≡ false → (w && x) ≡ false → y ≡ (r && not x)
  the_others = taut 4 3 _ _ _ tt

  shows : {O : Signals} {k : ℕ} {H : Halts} {p : Stmt} {Y : Signals} → Reads X (join (join (only tick) J) O) (in_locals t) c O k H p Y
      → Shows X J S t c O k H p Y
  shows {O = O} {Y = Y} r =
      let E : Signals = found r in
      let A : Signals = (react E S t).emits in
      let own = react_run X t b E S in
      let said = found_said r own.new in
      let outputs : (s : SignalNo) → O s ≡ (A s && X s) = λ s. said.emitted s ∙ ap (λ (v : Bool). v && X s) (follows.emits E s) in
      let told : (s : SignalNo) → Y s ≡ (A s && r.living s) = λ s. said.told s ∙ ap (λ (v : Bool). v && r.living s) (follows.emits E s) in
      let all : (s : SignalNo) → (A s && not (X s || r.living s)) ≡ false =
      λ s. subst (λ (v : Bool). (A s && not (X s || v)) ≡ false) (sym (said.living s ∙ follows.lives E s)) (own.seen s) in
      let out : (s : SignalNo) → (r.living s && X s) ≡ false = λ s. hidden (r.living s) (in_locals t s) (X s) (r.inside s) (own.new s) in
      record {
        set = E;
        agrees =
            λ s. found_is r s
            ∙ all_agree (r.living s) (Y s) (only tick s || J s) (O s) (A s) (X s) (outputs s) (told s) (all s) (out s) (inputs s);
        locals = λ s. the_others (A s) (X s) (Y s) (r.living s) (told s) (all s) (out s);
        outputs = fun_ext outputs;
        level = said.level;
        haltset = said.haltset;
        derivative = said.becoming;
      }

  pub backward : {O : Signals} {k : ℕ} {H : Halts} {p : Stmt} (d : Transition J y O k H p) → Shows X J S t c O k H p (locals_of d)
  backward d = shows (follows.reads.read d)
