-- Modules: 004's transition of a module (3.1), correct modules (3.3), the halt that 004 adds to a body (4), and which of 004's statements a state of the
-- paper stands for.
use Rattle.std.specs.Prelude.{◌≡◌, not, ◌&&◌, List, [], ◌∷◌, ◌++◌, map, ◌⊎◌, ℕ, zero, suc, ◌+◌, ◌<◌}
use Rattle.number.specs.declared.HaltNo.{HaltNo}
use Rattle.number.specs.Counts.{halt_no}
use Rattle.number.specs.Number.{pick}
use Rattle.bits.specs.Bits.{boot, halt_bit}
use Rattle.sheet.specs.declared.Leaf.TheVariants.{Nothing, Halt}
use Rattle.sheet.specs.declared.Binary.TheVariants.{Sequence}
use Rattle.sheet.specs.Stmt.{Stmt, leaf, two, halt_count}
use Rattle.sheet.specs.Read.{only, Sheet, root_around}
use Rattle.sets.specs.Codes.{empty, join}
use Rattle.rules.specs.Rules.{Signals, Halts, Outcome, only_halt, active}
use Rattle.rules.specs.States.{State, halts_of, tick, Event, next_state}
use Rattle.berry.specs.Behaviour.{Step, locals_of}
use Rattle.berry.specs.Haltsets.{recovering, recovered}

-- 3.1: a module with the body p answers the input event J by the output event O and becomes the module with the body p' "iff stat -> stat' [under I ∪ O ∪
-- {tick}, emitting O] for some k". The level and the haltset are named, so that they can be spoken of.
abbrev pub Transition : Signals → Stmt → Signals → ℕ → Halts → Stmt → Type 0
Transition J p O k H p' = Step (join (join (only tick) J) O) p O k H p'

-- what a derivation of a transition says: its outputs, level and haltset, what the module becomes, and the local signals that are present
pub record Move : Type 0 where
  pub outputs : Signals
  pub level : ℕ
  pub haltset : Halts
  pub derivative : Stmt
  pub locals : Signals

abbrev pub move_of : {E : Signals} {p : Stmt} {O : Signals} {k : ℕ} {H : Halts} {p' : Stmt} → Step E p O k H p' → Move
move_of {O = O} {k = k} {H = H} {p' = p'} d = record { outputs = O; level = k; haltset = H; derivative = p'; locals = locals_of d }

-- "there is only one provable transition": it is provable, and whatever is provable says the same. The local signals count: 004's second incorrect program
-- (3.3) "has two fixpoints, one of S1 or S2 being present in each", and both give one transition if they are left out.
pub record Sole (J : Signals) (p : Stmt) (m : Move) : Type 0 where
  pub step : Transition J p m.outputs m.level m.haltset m.derivative
  pub alone : {O : Signals} {k : ℕ} {H : Halts} {p' : Stmt} (d : Transition J p O k H p') → move_of d ≡ m

pub record OneTransition (J : Signals) (p : Stmt) : Type 0 where
  pub move : Move
  pub sole : Sole J p move

-- 3.3: "a module M is locally correct if there is only one provable transition .. for any input event I": here an event of i inputs
abbrev pub LocallyCorrect : ℕ → Stmt → Type 0
LocallyCorrect i p = (J : Signals) → Event i J → OneTransition J p

-- "all modules obtained by all possible sequences of provable transitions"; 4: "Call a derivative of stat any statement stat' that can be reached from stat by
-- some sequence of reactions"
pub data Derivative (i : ℕ) (p : Stmt) : Stmt → Type 0 where
  itself : Derivative i p p
  onward : {q q' : Stmt} {J O : Signals} {k : ℕ} {H : Halts} → Derivative i p q → Event i J → Transition J q O k H q' → Derivative i p q'

-- "M is correct if it is locally correct and if all modules obtained .. are locally correct"
abbrev pub Correct : ℕ → Stmt → Type 0
Correct i p = (q : Stmt) → Derivative i p q → LocallyCorrect i q

-- 4: "we assume that the body of M never terminates, adding a trailing halt if necessary": it has the number past those of the root
abbrev pub trailing : Stmt → HaltNo
trailing t = halt_no (halt_count t)

abbrev pub body : Stmt → Stmt
body t = two Sequence t (leaf (Halt (trailing t)))

-- The haltset of 004's body that a state stands for. The paper lets the root end and has a boot register instead of the halt: boot off is the empty haltset, of
-- the body itself; boot on with a halt set is the haltset of those halts; boot on with none, a root that has ended, is the trailing halt.
unfoldable pub haltset_of : State → Stmt → Halts
unfolding active pick
haltset_of S t = pick (S boot) (pick (active (halts_of S) t) (halts_of S) (only_halt (trailing t))) empty

-- two states have the same bits
pub record Alike (S S' : State) : Type 0 where
  pub booted : S boot ≡ S' boot
  pub halts : (h : HaltNo) → halt_bit h < 64 → halts_of S h ≡ halts_of S' h

-- The statement that a state stands for where no halt is added, as in section 3: the root itself, its derivative, or nothing once it has ended.
unfoldable pub stands_for : State → Stmt → Stmt
unfolding active pick recovering
stands_for S t = pick (S boot) (pick (active (halts_of S) t) (recovering (halts_of S) t) (leaf Nothing)) t

-- of a sheet's emissions those of signals that its interface declares, and those of its local signals
abbrev pub outputs_of : Sheet → Signals → Signals
outputs_of w A s = A s && (root_around w.inputs w.outputs).scope s

abbrev pub locals_in : Sheet → Signals → Signals
locals_in w A s = A s && not ((root_around w.inputs w.outputs).scope s)

-- the outcome o as a move of the body with 004's halt: it always halts, in what the next state stands for
abbrev pub move_on : Sheet → Outcome → Move
move_on w o =
    record {
      outputs = outputs_of w o.emits;
      level = 1;
      haltset = haltset_of (next_state o) w.root;
      derivative = recovered (haltset_of (next_state o) w.root) (body w.root);
      locals = locals_in w o.emits;
    }

-- what a state stands for with 004's halt
abbrev pub body_in : State → Stmt → Stmt
body_in S t = recovered (haltset_of S t) (body t)

-- 3.1: "The reaction O1, O2, .. to an input sequence I1, I2, .. is then defined inductively by chaining elementary reactions": here each
-- is the only transition that is provable. The input events, and the output events.
pub data Chain : Stmt → List Signals → List Signals → Type 0 where
  ended : {p : Stmt} → Chain p [] []
  goes : {p : Stmt} {J : Signals} {m : Move} {Js Os : List Signals} → Sole J p m → Chain m.derivative Js Os
      → Chain p (J ∷ Js) (m.outputs ∷ Os)

-- What is promised of one reaction: the sheet w answers the event J in the state S with the outcome o.
pub record Faithful (w : Sheet) (S : State) (J : Signals) (o : Outcome) : Type 0 where
  -- Without an added halt there is one transition, with o's outputs, level and haltset, and just those local signals present that o emits.
  pub derivative : Stmt
  pub sole :
      Sole J (stands_for S w.root)
      (record {
        outputs = outputs_of w o.emits;
        level = o.code;
        haltset = o.halts;
        derivative = derivative;
        locals = locals_in w o.emits;
      })
  -- Where it halts, it becomes what the next state stands for.
  pub onward : o.code ≡ 1 → derivative ≡ stands_for (next_state o) w.root
  -- With 004's halt there is one transition, from what the state stands for to what the next state stands for.
  pub sole_with_halt : Sole J (recovered (haltset_of S w.root) (body w.root)) (move_on w o)

-- 4.2, corollary: "any derivative stat' of stat is equal to R(stat^H) for some haltset H, and there are only finitely many derivatives". The haltsets of the
-- first n halts, and that x is one of a list.
unfoldable pub haltsets : ℕ → List Halts
haltsets zero = empty ∷ []
haltsets (suc n) = haltsets n ++ map (λ H. join H (only_halt (halt_no n))) (haltsets n)

unfoldable pub OneOf : {A : Type 0} → A → List A → Type 0
OneOf x [] = ⊥
OneOf x (y ∷ ys) = (x ≡ y) ⊎ OneOf x ys

-- one of the finitely many statements that are recovered from a haltset of 004's body
abbrev pub FromHaltset : Stmt → Stmt → Type 0
FromHaltset t p = OneOf p (map (λ H. recovered H (body t)) (haltsets (1 + halt_count t)))
