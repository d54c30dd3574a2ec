-- The whole netlist, with the signals' cells left open: whatever values those have, the lists show the emissions and the registers' operands the next
-- state of the rules under the signals shown.
use mathlib.Core.Path.{◌≡◌, refl, sym, ◌∙◌, ap, subst}
use mathlib.Core.Bool.{Bool, true, false, not, ◌&&◌}
use mathlib.Core.List.{List, [], ◌∷◌, ◌++◌, append_assoc}
use Prim.Native.Nat.{ℕ, zero, suc, ◌+◌, ◌<◌, ◌≤◌}
use native.Mathlib.Omega.{arith}
use native.Mathlib.Decide.{dec_lt}
use lib.ListN.{length, length-append, get_or-replicate, get_or-eq_default}
use lib.Seq.{get_or_at}
use Rattle.number.specs.Counts.{cell_no, of_cell, of_signal, halt_no, stmt_no}
use Rattle.number.specs.Number.{pick}
use Rattle.number.specs.declared.CellNo.{CellNo}
use Rattle.number.specs.declared.SignalNo.{SignalNo}
use Rattle.number.specs.declared.HaltNo.{HaltNo}
use Rattle.number.proofs.Bools.{taut, off}
use Rattle.bits.specs.Bits.{boot}
use Rattle.limits.specs.Limits.{max_signals}
use Rattle.sheet.specs.Stmt.{Stmt, halt_count, local_count}
use Rattle.sheet.specs.Form.{Proper}
use Rattle.sheet.proofs.Notions.{Numbered, in_halts, proper_numbered, proper_exits, within_halt}
use Rattle.sets.specs.Faults.{instant}
use Rattle.rules.specs.Rules.{Signals, Halts, idle, start, active, resume}
use Rattle.rules.specs.States.{State, halts_of, react, next_state, apart, fits, no_halts_from}
use Rattle.rules.proofs.Codes.{no_instant}
use Rattle.rules.proofs.Again.{booted_apart, quiet_inactive, quiet_apart}
use Rattle.rules.proofs.Own.{react_keeps, kept_numbers}
use Rattle.cells.specs.declared.Cell.{Cell}
use Rattle.cells.specs.declared.Cell.TheVariants.{Low, High, Gate, Register}
use Rattle.cells.specs.declared.Gate.TheVariants.{Butnot}
use Rattle.cells.specs.Cells.{low, high, signal_cell, cell_at}
use Rattle.cells.specs.Values.{before, value, operands, next_of}
use Rattle.cells.proofs.Counting.{operands_length, operand_at}
use Rattle.parts.specs.Equations.{Built, list_of}
use Rattle.builder.specs.Netlist.{no_lists, input_cells, signal_cells, root_of, netlist}
use Rattle.builder.proofs.Ends.{length_inputs, length_signals}
use Rattle.builder.proofs.Places.{built}
use Rattle.builder.proofs.Format.{root, boot_split, boot_register, netlist_registers, root_takes}
use Rattle.agreement.proofs.Restarts.{NoRestart}
use Rattle.agreement.proofs.Sound.{Par, Sound}
use Rattle.agreement.proofs.Runs.{live, choose, par_active, pick_emits, pick_halts}
use Rattle.agreement.proofs.Nets.{Solved}
use Rattle.agreement.proofs.Right.{Right}
use Rattle.agreement.proofs.Structure.{root_right}
use Rattle.std.specs.Prelude.{None}

-- past its halts a statement keeps nothing
pub no_halt_past : (t : Stmt) → Numbered (halt_no 0) t → (E : Signals) (S : State) (h : ℕ) → halt_count t ≤ h → (react E S t).halts (halt_no h) ≡ false
no_halt_past t numbered E S h l = off ((react E S t).halts (halt_no h)) (λ on. past (own on))
  where
    own : (react E S t).halts (halt_no h) ≡ true → (0 ≤ h) × (h < 0 + halt_count t)
    own on = kept_numbers (halt_no 0) t (react E S t) numbered (react_keeps E S t) (halt_no h) on

    past : (0 ≤ h) × (h < 0 + halt_count t) → ⊥
    past k = omega (arith, k.1)

-- A state that fits, of a sheet that was read and has neither INSTANT nor TWICE.
module _ {I O : ℕ} {t : Stmt} (proper : Proper I O t) (clear : instant (stmt_no 0) t ≡ None) (once : NoRestart t)
    (S : State) (fit : fits S t ≡ true) where
  unbooted : S boot ≡ false → no_halts_from 0 S ≡ true
  unfolding fits pick
  unbooted off = rw off at fit

  -- with boot off no halt is set
  fresh_inactive : S boot ≡ false → active (halts_of S) t ≡ false
  fresh_inactive off = quiet_inactive proper S (unbooted off)

  halts_apart : (b : Bool) → S boot ≡ b → apart (halts_of S) t ≡ true
  halts_apart true on = booted_apart S t fit on
  halts_apart false off = quiet_apart proper S (unbooted off)

  root_sound : Sound (halts_of S) t
  root_sound =
      record {
        traps = 0;
        first = halt_no 0;
        exits = proper_exits proper;
        numbered = proper_numbered proper;
        no_instant = no_instant (stmt_no 0) t clear;
        no_twice = once;
        fit = halts_apart (S boot) refl;
      }

-- the cells cs, which are the last ones and stand after `front`
module _ (cells : List Cell) (J : Signals) (S : State) (v : CellNo → Bool) where
  abbrev pub Asked : CellNo → Type 0
  Asked x = v x ≡ value J (S (before cells x)) v (cell_at cells x)

  last_solved : (front cs : List Cell) → cells ≡ front ++ cs → ((x : CellNo) → length front ≤ of_cell x → Asked x) → Solved cells J S v (length front) cs
  unfolding Solved
  last_solved front [] e f = tt
  last_solved front (c ∷ cs) e f =
      let n : ℕ = length front in
      let more : length (front ++ (c ∷ [])) ≡ suc n = omega (arith, length-append front (c ∷ [])) in
      let here : cell_at cells (cell_no n) ≡ c = rw e (get_or_at front c cs Low n refl) in (
        (here, f (cell_no n) (omega arith) ∙ ap (value J (S (before cells (cell_no n))) v) here),
        subst (λ (k : ℕ). Solved cells J S v k cs) more
            (last_solved (front ++ (c ∷ [])) cs (e ∙ sym (append_assoc front (c ∷ []) cs)) (λ x l. f x (omega arith))),
      )

-- started where boot is off, and else resumed where there are halts
by_boot : (s h a c : Bool) → (s ≡ false → h ≡ false) → live (true && not s) (true && h) a c ≡ choose s (choose h c false) a
by_boot true h a c f = on h a c
  where
    on : (h a c : Bool) → live false h a c ≡ choose true (choose h c false) a
    on = taut 3 0 _ _ _ tt
by_boot false h a c f = rw (f refl) (off a c)
  where
    off : (a c : Bool) → live true false a c ≡ choose false (choose false c false) a
    off = taut 2 0 _ _ _ tt

-- never both at once
not_both : (s h u : Bool) → (s ≡ false → h ≡ false) → (u && not h) ≡ false → ((true && not s) && (true && u)) ≡ false
not_both true h u f o = refl
not_both false h u f o = off h u (f refl) o
  where
    off : (h u : Bool) → h ≡ false → (u && not h) ≡ false → u ≡ false
    off = taut 2 2 _ _ _ tt

module _ {I O : ℕ} {t : Stmt} (proper : Proper I O t) (clear : instant (stmt_no 0) t ≡ None) (once : NoRestart t)
    (J : Signals) (S : State) (fit : fits S t ≡ true) (v : CellNo → Bool)
    (zero_low : v low ≡ false) (tick_on : v high ≡ true)
    (solves : (x : CellNo) → 2 + I + (O + local_count t) ≤ of_cell x → Asked (netlist I (O + local_count t) t) J S v x) where
  abbrev U : ℕ
  U = O + local_count t

  abbrev n : ℕ
  n = 1 + I + U

  abbrev cells : List Cell
  cells = netlist I U t

  abbrev b : Built
  b = root I U t

  -- the signals shown
  abbrev E : Signals
  E s = v (signal_cell s)

  abbrev H : Halts
  H = halts_of S

  -- "cell n+1 is register 1; n+2 is butnot 1 (n+1)", and then the root's
  abbrev boot_cell : ℕ
  boot_cell = 2 + I + U

  from_boot : Solved cells J S v boot_cell (Register high ∷ (Gate Butnot high (cell_no boot_cell) ∷ b.cells))
  from_boot =
      let front : List Cell = Low ∷ (High ∷ (input_cells 1 I ++ signal_cells b.lists (1 + I) U)) in
      let long : length front ≡ boot_cell =
      omega (arith, length-append (input_cells 1 I) (signal_cells b.lists (1 + I) U), length_inputs 1 I, length_signals b.lists (1 + I) U) in
      subst (λ (k : ℕ). Solved cells J S v k (Register high ∷ (Gate Butnot high (cell_no boot_cell) ∷ b.cells))) long
      (last_solved cells J S v front (Register high ∷ (Gate Butnot high (cell_no boot_cell) ∷ b.cells)) (boot_split I U t) (λ x l. solves x (omega arith)))

  go_is : v (cell_no (2 + n)) ≡ (true && not (S boot))
  unfolding Solved
  go_is =
      let number : 2 + n ≡ suc boot_cell = omega arith in
      let go : v (cell_no (suc boot_cell)) ≡ (v high && not (v (cell_no boot_cell))) = from_boot.1.0.1 in
      let booted : v (cell_no boot_cell) ≡ S boot = from_boot.0.1 ∙ ap S (boot_register I U t).1 in
      rw number (go ∙ rw (tick_on, booted))

  body : Solved cells J S v (3 + n) (built t (root_takes n)).cells
  unfolding Solved root_of
  body =
      let number : suc (suc boot_cell) ≡ 3 + n = omega arith in
      subst (λ (k : ℕ). Solved cells J S v k b.cells) number from_boot.1.1

  is_right : Right cells J S v zero_low t (cell_no (2 + n)) high low no_lists (built t (root_takes n))
  is_right = root_right I U t (proper_numbered proper) J S v zero_low body (root_sound proper clear once S fit)

  fresh : S boot ≡ false → active H t ≡ false
  fresh = fresh_inactive proper clear once S fit

  ok : (v (cell_no (2 + n)) && (v high && Par E H t)) ≡ false
  ok = rw (go_is, tick_on) (not_both (S boot) (active H t) (Par E H t) fresh (par_active E H t))

  -- the lists show what is emitted
  pub emitted : (s : SignalNo) → of_signal s < max_signals → v (list_of b.lists s) ≡ (react E S t).emits s
  unfolding react root_of
  emitted s l =
      rw (
        is_right.lists s l,
        get_or-replicate max_signals (of_signal s) low low l,
        zero_low,
        is_right.runs.emits ok s,
        go_is,
        tick_on,
        pick_emits (S boot) (pick (active H t) (resume E H t) idle) (start E t) s,
        pick_emits (active H t) (resume E H t) idle s,
      )
      (by_boot (S boot) (active H t) ((start E t).emits s) ((resume E H t).emits s) fresh)

  wanted : (h : HaltNo) → is_right.want h ≡ (react E S t).halts h
  unfolding react
  wanted h =
      rw (
        is_right.runs.halts ok h,
        go_is,
        tick_on,
        pick_halts (S boot) (pick (active H t) (resume E H t) idle) (start E t) h,
        pick_halts (active H t) (resume E H t) idle h,
      )
      (by_boot (S boot) (active H t) ((start E t).halts h) ((resume E H t).halts h) fresh)

  -- boot's register keeps high, a halt's what the rules say, and there is no other
  boot_next : next_of v cells 0 ≡ true
  boot_next =
      let r = boot_register I U t in
      subst (λ (k : ℕ). next_of v cells k ≡ v high) r.1 (operand_at v cells boot_cell high r.0) ∙ tick_on

  halt_next : (h : ℕ) → h < halt_count t → next_of v cells (suc h) ≡ (react E S t).halts (halt_no h)
  halt_next h l =
      let within : in_halts t (halt_no h) ≡ true = within_halt (halt_no 0) t (proper_numbered proper) (halt_no h) (omega arith) (omega arith) in
      let k = is_right.keeps (halt_no h) within in
      let bit : before cells k.register ≡ suc h = k.bit ∙ omega arith in
      subst (λ (m : ℕ). next_of v cells m ≡ v k.operand) bit (operand_at v cells (of_cell k.register) k.operand k.is)
      ∙ k.value ∙ rw (zero_low, wanted (halt_no h))

  past_next : (h : ℕ) → halt_count t ≤ h → next_of v cells (suc h) ≡ (react E S t).halts (halt_no h)
  past_next h l =
      let long : length (operands v cells) ≡ 1 + halt_count t = operands_length v cells ∙ netlist_registers I U t in
      get_or-eq_default (operands v cells) false {n = suc h} (omega arith) ∙ sym (no_halt_past t (proper_numbered proper) E S h l)

  pub next_is : (k : ℕ) → next_of v cells k ≡ next_state (react E S t) k
  next_is zero = boot_next
  next_is (suc h) = go (dec_lt h (halt_count t))
    where
      go : Dec (h < halt_count t) → next_of v cells (suc h) ≡ (react E S t).halts (halt_no h)
      go (yes l) = halt_next h l
      go (no l) = past_next h (omega arith)
