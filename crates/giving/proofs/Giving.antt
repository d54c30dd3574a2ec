-- An accepted cover gives what the netlist gives: the netlist's values are the cover's, and no others are on the nets that are carried.
use Prim.Native.Nat.{ℕ, zero, suc, ◌*◌, ◌<◌}
use mathlib.Core.Path.{◌≡◌, refl, sym, ap, ◌∙◌, subst}
use mathlib.Core.Bool.{Bool, true, false, ◌&&◌}
use mathlib.Core.List.{List, [], ◌∷◌, map}
use native.Mathlib.Omega.{arith}
use native.Mathlib.Nat.{not-suc-le-zero}
use lib.ListN.{length, get_or}
use Rattle.number.specs.Counts.{cell_no}
use Rattle.number.specs.Number.{pick}
use Rattle.number.specs.declared.CellNo.{CellNo}
use Rattle.number.specs.declared.SignalNo.{SignalNo}
use Rattle.bits.specs.Bits.{has, signals_in}
use Rattle.tables.specs.declared.Table.{Table}
use Rattle.tables.specs.Answering.{pins, bit, setting, answers}
use Rattle.tables.proofs.Settings.{setting_small, setting_bit, setting_is}
use Rattle.cells.specs.declared.Cell.{Cell}
use Rattle.cells.specs.declared.Cell.TheVariants.{Low, High, Input, Gate, Register}
use Rattle.cells.specs.Cells.{cell_at, signal_cell}
use Rattle.cells.specs.Values.{before, value, Solves, operands_of, next_of}
use Rattle.cells.specs.Netlist.{Netlist}
use Rattle.order.specs.Paths.{placed, Ordered}
use Rattle.run.specs.Words.{is_output, outputs_of}
use Rattle.run.specs.Held.{SolvesHeld}
use Rattle.run.specs.React.{Clock}
use Rattle.run.specs.Many.{Steps, ended, goes, each}
use Rattle.run.proofs.One.{a_solution, one_clock}
use Rattle.run.proofs.Going.{SameSteps, one_run}
use Rattle.cuts.specs.Cut.{pin_at, is_gate, is_constant, is_pin}
use Rattle.covers.specs.Covers.{size, table_count, table_at, Carried, RightCover}
use Rattle.giving.specs.Giving.{Gives, CoverClock, CoverRun}
use Rattle.cuts.proofs.Depth.{lower}
use Rattle.covers.proofs.Cuts.{met_reached}
use Rattle.covers.proofs.Reading.{pins_long}

-- values on the pins alone make a table's answer
pub same_answers : (t : Table) (u v : CellNo → Bool) → length t.pins ≡ pins
    → ((p : ℕ) → p < pins → u (pin_at t.pins p) ≡ v (pin_at t.pins p))
    → answers t u ≡ answers t v
unfolding answers
same_answers t u v long same =
    ap (bit t.truth)
    (setting_is u t.pins (setting v t.pins) (setting_small v t.pins)
    (λ p h. same p (rw long at h) ∙ sym (setting_bit v t.pins p h)))

-- what is no gate needs no other net
own_value : (J : SignalNo → Bool) (q : Bool) (u v : CellNo → Bool) (c : Cell) → is_gate c ≡ false → value J q u c ≡ value J q v c
own_value J q u v Low e = refl
own_value J q u v High e = refl
own_value J q u v (Input s) e = refl
own_value J q u v (Gate g x y) e = absurd (let z : ◌≡◌ {A = ℕ} 0 1 = cc in omega arith)
own_value J q u v (Register x) e = refl

constants : (c : Cell) → is_constant c ≡ true → is_gate c ≡ false
constants Low e = refl
constants High e = refl
constants (Input s) e = refl
constants (Gate g x y) e = absurd (let z : ◌≡◌ {A = ℕ} 0 1 = cc in omega arith)
constants (Register x) e = refl

-- held at its own values, a solution of the cells is a solution of the cut
held_own : (hold : CellNo → Bool) (J : SignalNo → Bool) (S : ℕ → Bool) (cells : List Cell) (v : CellNo → Bool) → Solves J S cells v
    → SolvesHeld hold v J S cells v
unfolding pick
held_own hold J S cells v solves x = go (hold x)
  where
    go : (b : Bool) → v x ≡ pick b (v x) (value J (S (before cells x)) v (cell_at cells x))
    go true = refl
    go false = solves x

-- the registers' operands, one after the other
operands_same : (u v : CellNo → Bool) (cs : List Cell) → ((i : ℕ) (y : CellNo) → get_or cs i Low ≡ Register y → u y ≡ v y)
    → map (λ (x : ℕ). u (cell_no x)) (operands_of cs) ≡ map (λ (x : ℕ). v (cell_no x)) (operands_of cs)
unfolding operands_of
operands_same u v [] f = refl
operands_same u v (Low ∷ cs) f = operands_same u v cs (λ i. f (suc i))
operands_same u v (High ∷ cs) f = operands_same u v cs (λ i. f (suc i))
operands_same u v (Input s ∷ cs) f = operands_same u v cs (λ i. f (suc i))
operands_same u v (Gate g x y ∷ cs) f = operands_same u v cs (λ i. f (suc i))
operands_same u v (Register x ∷ cs) f = rw (f 0 x refl, operands_same u v cs (λ i. f (suc i)))

module _ {w : Netlist} {cover order : List ℕ} (r : RightCover w cover) (o : Ordered w.cells order) (J : SignalNo → Bool)
    (S : ℕ → Bool) where
  -- the netlist's values are given
  pub net_gives : (v : CellNo → Bool) → Solves J S w.cells v → Gives J S w.cells cover v
  net_gives v solves =
      record {
        tables = λ k h. sym ((r.tables k h).cut.equal v v J S (held_own (is_pin (table_at cover k).pins) J S w.cells v solves));
        others = λ x e. solves x;
      }

  module _ (u v : CellNo → Bool) (gives : Gives J S w.cells cover u) (solves : Solves J S w.cells v) where
    own : (x : CellNo) → is_gate (cell_at w.cells x) ≡ false → u x ≡ v x
    own x e = gives.others x e ∙ own_value J (S (before w.cells x)) u v (cell_at w.cells x) e ∙ sym (solves x)

    -- a table's cell, where the nets that stand before it agree
    at_table : (p k : ℕ) → p < length w.cells → k < table_count cover → placed order p ≡ (table_at cover k).cell
        → ((q : ℕ) (y : CellNo) → q < p → placed order q ≡ y → Carried w.cells cover y → u y ≡ v y)
        → u (table_at cover k).cell ≡ v (table_at cover k).cell
    at_table p k l h e below =
        let t : Table = table_at cover k in
        gives.tables k h ∙ same_answers t u v (pins_long cover (k * size)) at_pin ∙ sym ((net_gives v solves).tables k h)
      where
        at_pin : (q : ℕ) → q < pins → u (pin_at (table_at cover k).pins q) ≡ v (pin_at (table_at cover k).pins q)
        at_pin q hq = go (is_constant (cell_at w.cells (pin_at (table_at cover k).pins q))) refl
          where
            go : (b : Bool) → is_constant (cell_at w.cells (pin_at (table_at cover k).pins q)) ≡ b
                → u (pin_at (table_at cover k).pins q) ≡ v (pin_at (table_at cover k).pins q)
            go true constant =
                own (pin_at (table_at cover k).pins q) (constants (cell_at w.cells (pin_at (table_at cover k).pins q)) constant)
            go false other =
                let y : CellNo = pin_at (table_at cover k).pins q in
                let before_it = lower o (met_reached ((r.tables k h).cut.met q hq other)) p l e in
                below before_it.0 y before_it.1 before_it.2 ((r.tables k h).pins_carried q hq)

    at_cell : (p : ℕ) (x : CellNo) → p < length w.cells → placed order p ≡ x → Carried w.cells cover x
        → ((q : ℕ) (y : CellNo) → q < p → placed order q ≡ y → Carried w.cells cover y → u y ≡ v y) → u x ≡ v x
    at_cell p x l e c below = go (is_gate (cell_at w.cells x)) refl
      where
        go : (b : Bool) → is_gate (cell_at w.cells x) ≡ b → u x ≡ v x
        go false other = own x other
        go true gate =
            let j = c.tabled gate in
            subst (λ (z : CellNo). u z ≡ v z) j.2 (at_table p j.0 l j.1 (e ∙ sym j.2) below)

    -- by the place in the order: the pins of a table stand before its cell
    upto : (m p : ℕ) (x : CellNo) → p < m → p < length w.cells → placed order p ≡ x → Carried w.cells cover x → u x ≡ v x
    upto zero p x h l e c = absurd (not-suc-le-zero h)
    upto (suc m) p x h l e c = at_cell p x l e c (λ q y g e' c'. upto m q y (omega arith) (omega arith) e' c')

    -- "exactly one such valuation": on every net that is carried it is the netlist's
    one_valuation : (x : CellNo) → Carried w.cells cover x → u x ≡ v x
    one_valuation x c = let p = o.each x c.cell in upto (suc p.0) p.0 x (omega arith) p.1 p.2 c

    -- so outputs and next state are the netlist's
    same_outputs : (s : SignalNo) → outputs_of w.inputs w.outputs u s ≡ outputs_of w.inputs w.outputs v s
    same_outputs s = go (is_output w.inputs w.outputs s) refl
      where
        go : (b : Bool) → is_output w.inputs w.outputs s ≡ b
            → (is_output w.inputs w.outputs s && u (signal_cell s)) ≡ (is_output w.inputs w.outputs s && v (signal_cell s))
        go true e = ap (λ (x : Bool). is_output w.inputs w.outputs s && x) (one_valuation (signal_cell s) (r.complete.outputs s e))
        go false e = rw e

    same_next : (b : ℕ) → next_of u w.cells b ≡ next_of v w.cells b
    same_next b =
        ap (λ (bits : List Bool). get_or bits b false)
        (operands_same u v w.cells (λ i y e. one_valuation y (r.complete.operands (cell_no i) y e)))

-- two valuations that a cover gives are one
pub one_given : {w : Netlist} {cover order : List ℕ} → RightCover w cover → Ordered w.cells order → (J : SignalNo → Bool) (S : ℕ → Bool)
    (u v : CellNo → Bool) → Gives J S w.cells cover u → Gives J S w.cells cover v → (x : CellNo) → Carried w.cells cover x → u x
    ≡ v x
one_given {w} {order = order} r o J S u v gives other x c =
    let one = a_solution w.cells order o J S in
    one_valuation r o J S u one.0 gives one.1 x c ∙ sym (one_valuation r o J S v one.0 other one.1 x c)

-- any events may be asked about
any_event : (events : List ℕ) → each (λ event. true) events ≡ true
unfolding each
any_event [] = refl
any_event (e ∷ es) = any_event es

-- One clock of an accepted cover is one of its netlist, and the other way round; so is a run over any events.
module _ {w : Netlist} {cover order : List ℕ} (r : RightCover w cover) (o : Ordered w.cells order) where
  pub cover_clock : (state event outputs next : ℕ) → CoverClock w cover state event outputs next
      → Clock w.inputs w.outputs w.cells state event outputs next
  cover_clock state event outputs next c =
      let one = a_solution w.cells order o (signals_in event) (has state) in
      record {
        values = one.0;
        solves = one.1;
        shows = λ s. c.shows s ∙ same_outputs r o (signals_in event) (has state) c.values one.0 c.gives one.1 s;
        keeps = λ b. c.keeps b ∙ same_next r o (signals_in event) (has state) c.values one.0 c.gives one.1 b;
      }

  pub net_clock : (state event outputs next : ℕ) → Clock w.inputs w.outputs w.cells state event outputs next
      → CoverClock w cover state event outputs next
  net_clock state event outputs next c =
      record {
        values = c.values;
        gives = net_gives r o (signals_in event) (has state) c.values c.solves;
        shows = c.shows;
        keeps = c.keeps;
      }

  pub cover_runs : {state : ℕ} {events shown states : List ℕ} → CoverRun w cover state events shown states
      → Steps (Clock w.inputs w.outputs w.cells) state events shown states
  cover_runs ended = ended
  cover_runs {state} (goes {event = event} {signals = signals} {next = next} c rest) =
      goes (cover_clock state event signals next c) (cover_runs rest)

  pub net_runs : {state : ℕ} {events shown states : List ℕ} → Steps (Clock w.inputs w.outputs w.cells) state events shown states
      → CoverRun w cover state events shown states
  net_runs ended = ended
  net_runs {state} (goes {event = event} {signals = signals} {next = next} c rest) =
      goes (net_clock state event signals next c) (net_runs rest)

  -- there is one
  pub one_clock_of : (state event o n o' n' : ℕ) → CoverClock w cover state event o n → CoverClock w cover state event o' n'
      → (o ≡ o') × (n ≡ n')
  one_clock_of state event a n b m x y =
      one_clock w.inputs w.outputs w.cells order o state event a b n m (cover_clock state event a n x)
      (cover_clock state event b m y)

  pub one_run_of : {state : ℕ} {events shown states shown' states' : List ℕ} → CoverRun w cover state events shown states
      → CoverRun w cover state events shown' states' → SameSteps shown states shown' states'
  one_run_of {events = events} x y =
      one_run (CoverClock w cover) (λ state. Unit) (λ event. true) (λ state event a n b m good own. one_clock_of state event a n b m)
      (λ state event a n good own c. tt) tt (any_event events) x y
