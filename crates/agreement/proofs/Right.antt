-- What is right of a statement's cells, where they are solved, and each kind of statement from its parts.
use mathlib.Core.Path.{◌≡◌, refl, sym, ◌∙◌, ap, subst}
use mathlib.Core.Bool.{Bool, true, false, not, ◌&&◌, ◌||◌, true≢false, false≢true, or-false}
use mathlib.Core.List.{List, ◌++◌}
use Prim.Native.Nat.{ℕ, suc, ◌+◌, ◌<◌}
use lib.ListN.{length}
use borrow.Author.Tests.{eqb-true}
use Rattle.number.specs.Counts.{cell_no, of_signal, of_halt}
use Rattle.number.specs.declared.CellNo.{CellNo}
use Rattle.number.specs.declared.SignalNo.{SignalNo}
use Rattle.number.specs.declared.HaltNo.{HaltNo}
use Rattle.number.proofs.Bools.{taut}
use Rattle.bits.specs.Bits.{halt_bit}
use Rattle.sheet.specs.declared.Leaf.TheVariants.{Nothing, Halt, Emit, Exit}
use Rattle.sheet.specs.declared.Unary.TheVariants.{Loop, Watching, Trap, Signal}
use Rattle.sheet.specs.declared.Binary.TheVariants.{Sequence, Present, Parallel}
use Rattle.sheet.specs.Stmt.{Stmt, leaf, one, two}
use Rattle.sheet.specs.Read.{only as only_signal}
use Rattle.sheet.proofs.Notions.{in_halts}
use Rattle.sets.specs.Codes.{Codes, same, empty, join}
use Rattle.rules.specs.Rules.{Signals, Halts, only_halt, active}
use Rattle.rules.specs.States.{State, halts_of}
use Rattle.rules.proofs.Codes.{NoInstant}
use Rattle.rules.proofs.Again.{Disjoint}
use Rattle.cells.specs.declared.Cell.{Cell}
use Rattle.cells.specs.declared.Cell.TheVariants.{Register}
use Rattle.cells.specs.Cells.{low, signal_cell, cell_at}
use Rattle.cells.specs.Values.{before}
use Rattle.cells.specs.declared.Gate.TheVariants.{Or, And, Butnot}
use Rattle.gates.specs.Folding.{New, or_at, and_at, butnot_at}
use Rattle.gates.specs.Rows.{code, with_code0, NewRow, or_row, trap_row, pairs, NewCodes, parallel_row, kill_of}
use Rattle.gates.proofs.OrRow.{with_code0_at, trap_at}
use Rattle.parts.specs.Equations.{Built, list_of, past, given, build_exit, build_emit, build_halt, build_sequence, build_loop, build_present, build_watching}
use Rattle.parts.specs.Equations.{build_parallel, build_trap}
use Rattle.agreement.proofs.Restarts.{NoRestart}
use Rattle.agreement.proofs.Sound.{Sound, sound_one, sound_left, sound_right, sequence_side, present_side}
use Rattle.agreement.proofs.Runs.{Runs, either_within}
use Rattle.agreement.proofs.LeafRuns.{nothing_runs, emit_runs, exit_runs, halt_runs}
use Rattle.agreement.proofs.LoopRuns.{loop_runs}
use Rattle.agreement.proofs.WatchingRuns.{watching_runs}
use Rattle.agreement.proofs.TrapRuns.{trap_runs, signal_runs}
use Rattle.agreement.proofs.SequenceRuns.{sequence_runs}
use Rattle.agreement.proofs.PresentRuns.{present_runs}
use Rattle.agreement.proofs.ParallelRuns.{parallel_runs}
use Rattle.agreement.proofs.Nets.{Solved, solved_left, solved_right, gate_value, row_value, only_value, list_value}
use Rattle.agreement.proofs.Above.{ParallelIs, parallel_is}

-- halts of two sides, and of two sides under a kill
killed_within : (x a b c d : Bool) → (a && not c) ≡ false → (b && not d) ≡ false → ((not x && (a || b)) && not (c || d)) ≡ false
killed_within = taut 5 2 _ _ _ tt

own_within : (a b : Bool) → ((a && b) && not b) ≡ false
own_within = taut 2 0 _ _ _ tt

own_kept : (i w s : Bool) → s ≡ true → (w && not i) ≡ (not i && (w && s))
own_kept = taut 3 1 _ _ _ tt

left_kept : (i w w' : Bool) → (w' && not false) ≡ false → (not i && w) ≡ (not i && (w || w'))
left_kept = taut 3 1 _ _ _ tt

right_kept : (i w w' : Bool) → (w && not false) ≡ false → (not i && w') ≡ (not i && (w || w'))
right_kept = taut 3 1 _ _ _ tt

-- "Q = or(i)* .. Q's last operand is x": what both kills let through
both_kills : (q i x w : Bool) → q ≡ (i || x) → (not q && w) ≡ (not i && (not x && w))
both_kills = taut 4 1 _ _ _ tt

regroup : (a b c : Bool) → ((a || b) || c) ≡ (a || (b || c))
regroup = taut 3 0 _ _ _ tt

module _ (cells : List Cell) (J : Signals) (S : State) (v : CellNo → Bool) (zero_low : v low ≡ false) where
  -- the signals that the nets show, and the state's halts
  abbrev E : Signals
  E s = v (signal_cell s)

  abbrev H : Halts
  H = halts_of S

  abbrev At : ℕ → List Cell → Type 0
  At n cs = Solved cells J S v n cs

  abbrev nets : List CellNo → Codes
  nets ks j = v (code ks j)

  -- the operand of halt h's register, which is to keep b
  pub record Keeps (h : HaltNo) (b : Bool) : Type 0 where
    pub register : CellNo
    pub operand : CellNo
    pub is : cell_at cells register ≡ Register operand
    pub bit : before cells register ≡ halt_bit h
    pub value : v operand ≡ b

  -- With go g, resume r, kill i and the lists L: sel is high where the statement has halts in the state; its codes run; the lists have its emissions
  -- besides; it would keep halts of its own only, and their registers keep them unless it is killed.
  pub record Right (t : Stmt) (g r i : CellNo) (L : List CellNo) (b : Built) : Type 0 where
    pub sel : v b.sel ≡ active H t
    pub sent : Signals
    pub want : Halts
    pub runs : Runs E H t (v g) (v r) (nets b.codes) sent want
    pub lists : (s : SignalNo) → of_signal s < length L → v (list_of b.lists s) ≡ (v (list_of L s) || sent s)
    pub own : (h : HaltNo) → (want h && not (in_halts t h)) ≡ false
    pub keeps : (h : HaltNo) → in_halts t h ≡ true → Keeps h (not (v i) && want h)

  keeps_as : {h : HaltNo} {a b : Bool} → a ≡ b → Keeps h a → Keeps h b
  keeps_as e k = record { register = k.register; operand = k.operand; is = k.is; bit = k.bit; value = k.value ∙ e }

  -- a halt of either side
  sides_keep : (h : HaltNo) (i wp wq hp hq : Bool) → (hp ≡ true → Keeps h (not i && wp)) → (hq ≡ true → Keeps h (not i && wq))
      → (wp && not hp) ≡ false → (wq && not hq) ≡ false → (hp && hq) ≡ false → (hp || hq) ≡ true → Keeps h (not i && (wp || wq))
  sides_keep h i wp wq true true f g op oq d e = absurd (true≢false d)
  sides_keep h i wp wq true false f g op oq d e = keeps_as (left_kept i wp wq oq) (f refl)
  sides_keep h i wp wq false true f g op oq d e = keeps_as (right_kept i wp wq op) (g refl)
  sides_keep h i wp wq false false f g op oq d e = absurd (false≢true e)

  -- Statements without parts.
  pub nothing_right : (g r i : CellNo) (L : List CellNo) → Right (leaf Nothing) g r i L (build_exit 0 g L)
  unfolding active in_halts
  nothing_right g r i L =
      record {
        sel = zero_low;
        sent = empty;
        want = empty;
        runs = nothing_runs E H (v g) (v r) _ _ _ (only_value cells J S v zero_low 0 g) (λ s. refl) (λ h. refl);
        lists = λ s l. rw or-false;
        own = λ h. refl;
        keeps = λ h e. absurd (false≢true e);
      }

  pub exit_right : (k : ℕ) (g r i : CellNo) (L : List CellNo) → Right (leaf (Exit k)) g r i L (build_exit k g L)
  unfolding active in_halts
  exit_right k g r i L =
      record {
        sel = zero_low;
        sent = empty;
        want = empty;
        runs = exit_runs E H (v g) (v r) _ _ _ k (only_value cells J S v zero_low k g) (λ s. refl) (λ h. refl);
        lists = λ s l. rw or-false;
        own = λ h. refl;
        keeps = λ h e. absurd (false≢true e);
      }

  pub emit_right : (x : SignalNo) (n : ℕ) (g r i : CellNo) (L : List CellNo) → At n (build_emit x n g L).cells
      → Right (leaf (Emit x)) g r i L (build_emit x n g L)
  unfolding build_emit active in_halts
  emit_right x n g r i L h =
      record {
        sel = zero_low;
        sent = λ s. v g && only_signal x s;
        want = empty;
        runs = emit_runs E H (v g) (v r) _ _ _ x (only_value cells J S v zero_low 0 g) (λ s. refl) (λ h. refl);
        lists = list_value v L x _ (v g) (gate_value cells J S v zero_low Or n (list_of L x) g h);
        own = λ h. refl;
        keeps = λ h e. absurd (false≢true e);
      }

  pub halt_right : (k : HaltNo) (n : ℕ) (g r i : CellNo) (L : List CellNo) → before cells (cell_no n) ≡ halt_bit k
      → At n (build_halt n g r i L).cells → Right (leaf (Halt k)) g r i L (build_halt n g r i L)
  unfolding build_halt active in_halts Solved
  halt_right k n g r i L bit h =
      let x : New = and_at (suc n) r (cell_no n) in
      let n₁ : ℕ = past (suc n) x in
      let w : New = or_at n₁ g x.net in
      let n₂ : ℕ = past n₁ w in
      let u : New = butnot_at n₂ w.net i in
      let s₁ : At n₁ (w.cells ++ u.cells) = solved_right cells J S v x.cells (w.cells ++ u.cells) (suc n) h.1 in
      let register : v (cell_no n) ≡ H k = h.0.1 ∙ ap S bit in
      let x_is : v x.net ≡ (v r && v (cell_no n)) =
      gate_value cells J S v zero_low And (suc n) r (cell_no n) (solved_left cells J S v x.cells (w.cells ++ u.cells) (suc n) h.1) in
      let w_is : v w.net ≡ (v g || v x.net) = gate_value cells J S v zero_low Or n₁ g x.net (solved_left cells J S v w.cells u.cells n₁ s₁) in
      let halted : Bool = v g || (v r && H k) in
      let code_one : v w.net ≡ halted = rw (← register, ← x_is) w_is in
      let u_is : v u.net ≡ (v w.net && not (v i)) =
      gate_value cells J S v zero_low Butnot n₂ w.net i (solved_right cells J S v w.cells u.cells n₁ s₁) in
      record {
        sel = register;
        sent = empty;
        want = λ a. halted && only_halt k a;
        runs = halt_runs E H (v g) (v r) _ _ _ k (λ j. only_value cells J S v zero_low 1 w.net j ∙ ap (λ (b : Bool). b && same 1 j) code_one)
            (λ s. refl) (λ h. refl);
        lists = λ s l. rw or-false;
        own = λ a. own_within halted (only_halt k a);
        keeps = λ a e. record {
          register = cell_no n;
          operand = u.net;
          is = h.0.0;
          bit = bit ∙ ap (λ (m : ℕ). 1 + m) (sym (eqb-true (of_halt a) (of_halt k) e));
          value = rw (u_is, code_one) (own_kept (v i) halted (only_halt k a) e);
        };
      }

  -- Two parts, the or of their sels, and a rest.
  module _ (n : ℕ) (a b : Built) where
    abbrev n₁ : ℕ
    n₁ = n + length a.cells

    abbrev n₂ : ℕ
    n₂ = n₁ + length b.cells

    abbrev sels : New
    sels = or_at n₂ a.sel b.sel

    abbrev n₃ : ℕ
    n₃ = past n₂ sels

    abbrev Both : List Cell → Type 0
    Both cs = At n (a.cells ++ (b.cells ++ (sels.cells ++ cs)))

    past_parts : (cs : List Cell) → Both cs → At n₂ (sels.cells ++ cs)
    past_parts cs h =
        solved_right cells J S v b.cells (sels.cells ++ cs) n₁ (solved_right cells J S v a.cells (b.cells ++ (sels.cells ++ cs)) n h)

    sels_value : (cs : List Cell) → Both cs → v sels.net ≡ (v a.sel || v b.sel)
    sels_value cs h = gate_value cells J S v zero_low Or n₂ a.sel b.sel (solved_left cells J S v sels.cells cs n₂ (past_parts cs h))

    past_sels : (cs : List Cell) → Both cs → At n₃ cs
    past_sels cs h = solved_right cells J S v sels.cells cs n₂ (past_parts cs h)

  module _ (p q : Stmt) (n : ℕ) (g r i : CellNo) (L : List CellNo) (a b : Built) (as_many : length a.lists ≡ length L) where
    -- what the two parts send and want, joined
    module _ {g₁ g₂ r₁ i₁ : CellNo} (rp : Right p g₁ r₁ i₁ L a) (rq : Right q g₂ r₁ i₁ a.lists b) where
      lists_both : (s : SignalNo) → of_signal s < length L → v (list_of b.lists s) ≡ (v (list_of L s) || (rp.sent s || rq.sent s))
      lists_both s l =
          rw (rq.lists s (subst (λ (k : ℕ). of_signal s < k) (sym as_many) l), rp.lists s l) (regroup (v (list_of L s)) (rp.sent s) (rq.sent s))

      own_both : (h : HaltNo) → ((rp.want h || rq.want h) && not (in_halts p h || in_halts q h)) ≡ false
      own_both h = either_within (rp.want h) (rq.want h) (in_halts p h) (in_halts q h) (rp.own h) (rq.own h)

      keeps_both : Disjoint p q → (h : HaltNo) → (in_halts p h || in_halts q h) ≡ true → Keeps h (not (v i₁) && (rp.want h || rq.want h))
      keeps_both apart h e =
          sides_keep h (v i₁) (rp.want h) (rq.want h) (in_halts p h) (in_halts q h) (rp.keeps h) (rq.keeps h) (rp.own h) (rq.own h) (apart h) e

    pub sequence_right : Disjoint p q → Sound H (two Sequence p q) → Right p g r i L a → Right q (code a.codes 0) r i a.lists b
        → At n (build_sequence n a b).cells → Right (two Sequence p q) g r i L (build_sequence n a b)
    unfolding build_sequence active in_halts
    sequence_right apart w rp rq h =
        let ks : List CellNo = with_code0 low a.codes in
        let c : NewRow = or_row (n₃ n a b) ks b.codes in
        let row : (j : ℕ) → v (code c.nets j) ≡ (v (code ks j) || v (code b.codes j)) =
        row_value cells J S v zero_low ks b.codes (n₃ n a b) (past_sels n a b c.cells h) in
        record {
          sel = rw (← rp.sel, ← rq.sel) (sels_value n a b c.cells h);
          sent = join rp.sent rq.sent;
          want = join rp.want rq.want;
          runs = sequence_runs E H p q (v g) (v r) (nets a.codes) (nets b.codes) (nets c.nets) rp.sent rq.sent (join rp.sent rq.sent)
              rp.want rq.want (join rp.want rq.want) (sound_left H Sequence p q w) (sound_right H Sequence p q w) (sequence_side H p q w.fit)
              rp.runs rq.runs (rw zero_low at (row 0)) (λ j. rw (with_code0_at low a.codes j) at (row (suc j))) (λ s. refl) (λ h. refl);
          lists = lists_both rp rq;
          own = own_both rp rq;
          keeps = keeps_both rp rq apart;
        }

    pub present_right : (s : SignalNo) → let x : New = and_at n g (signal_cell s) in
        let y : New = butnot_at (past n x) g (signal_cell s) in
        let m : ℕ = past (past n x) y in
        Disjoint p q → Sound H (two (Present s) p q) → Right p x.net r i L a → Right q y.net r i a.lists b
        → At n (build_present m x y a b).cells → Right (two (Present s) p q) g r i L (build_present m x y a b)
    unfolding build_present active in_halts
    present_right s apart w rp rq h =
        let x : New = and_at n g (signal_cell s) in
        let y : New = butnot_at (past n x) g (signal_cell s) in
        let m : ℕ = past (past n x) y in
        let c : NewRow = or_row (n₃ m a b) a.codes b.codes in
        let parts : List Cell = a.cells ++ (b.cells ++ ((sels m a b).cells ++ c.cells)) in
        let past_x : At (past n x) (y.cells ++ parts) = solved_right cells J S v x.cells (y.cells ++ parts) n h in
        let past_y : At m parts = solved_right cells J S v y.cells parts (past n x) past_x in
        let x_is : v x.net ≡ (v g && E s) =
        gate_value cells J S v zero_low And n g (signal_cell s) (solved_left cells J S v x.cells (y.cells ++ parts) n h) in
        let y_is : v y.net ≡ (v g && not (E s)) =
        gate_value cells J S v zero_low Butnot (past n x) g (signal_cell s) (solved_left cells J S v y.cells parts (past n x) past_x) in
        record {
          sel = rw (← rp.sel, ← rq.sel) (sels_value m a b c.cells past_y);
          sent = join rp.sent rq.sent;
          want = join rp.want rq.want;
          runs = present_runs E H s p q (v g) (v r) (nets a.codes) (nets b.codes) (nets c.nets) rp.sent rq.sent (join rp.sent rq.sent)
              rp.want rq.want (join rp.want rq.want) (sound_left H (Present s) p q w) (sound_right H (Present s) p q w)
              (present_side H p q s w.fit)
              (subst (λ (k : Bool). Runs E H p k (v r) (nets a.codes) rp.sent rp.want) x_is rp.runs)
              (subst (λ (k : Bool). Runs E H q k (v r) (nets b.codes) rq.sent rq.want) y_is rq.runs)
              (row_value cells J S v zero_low a.codes b.codes (n₃ m a b) (past_sels m a b c.cells past_y)) (λ x. refl) (λ h. refl);
          lists = lists_both rp rq;
          own = own_both rp rq;
          keeps = keeps_both rp rq apart;
        }

    pub parallel_right : Disjoint p q → Sound H (two Parallel p q) → Right p g r (cell_no n) L a → Right q g r (cell_no n) a.lists b
        → At n (build_parallel n i (given (two Parallel p q)) a b).cells
        → Right (two Parallel p q) g r i L (build_parallel n i (given (two Parallel p q)) a b)
    unfolding build_parallel active in_halts Solved
    parallel_right apart w rp rq h =
        let keep : Codes = given (two Parallel p q) in
        let c : NewCodes = parallel_row (n₃ (suc n) a b) keep (pairs a.codes b.codes) in
        let row : ParallelIs cells J S v zero_low keep a.codes b.codes c =
        parallel_is cells J S v zero_low a.codes b.codes (n₃ (suc n) a b) keep (past_sels (suc n) a b c.cells h.1) in
        let x : Bool = v (kill_of c) in
        let wanted : Halts = λ k. not x && (rp.want k || rq.want k) in
        record {
          sel = rw (← rp.sel, ← rq.sel) (sels_value (suc n) a b c.cells h.1);
          sent = join rp.sent rq.sent;
          want = wanted;
          runs = parallel_runs E H p q (v g) (v r) (nets a.codes) (nets b.codes) (nets c.above) (nets c.nets) rp.sent rq.sent
              (join rp.sent rq.sent) rp.want rq.want wanted w rp.runs rq.runs row.codes row.above (λ s. refl) (λ h. refl);
          lists = lists_both rp rq;
          own = λ k. killed_within x (rp.want k) (rq.want k) (in_halts p k) (in_halts q k) (rp.own k) (rq.own k);
          keeps = λ k e. keeps_as (both_kills (v (cell_no n)) (v i) x (rp.want k || rq.want k) h.0.1) (keeps_both rp rq apart k e);
        }

  -- One part.
  module _ (p : Stmt) (n : ℕ) (g r i : CellNo) (L : List CellNo) (a : Built) where
    pub loop_right : Sound H (one Loop p) → Right p (cell_no n) r i L a → At n (build_loop g a).cells → Right (one Loop p) g r i L (build_loop g a)
    unfolding build_loop active in_halts Solved NoInstant NoRestart
    loop_right w rp h =
        record {
          sel = rp.sel;
          sent = rp.sent;
          want = rp.want;
          runs = loop_runs E H p (v g) (v (cell_no n)) (v r) (nets a.codes) (nets (with_code0 low a.codes)) rp.sent rp.want (sound_one H Loop p w)
              w.no_instant.0 w.no_twice.0 rp.runs h.0.1 zero_low (λ j. ap v (with_code0_at low a.codes j));
          lists = rp.lists;
          own = rp.own;
          keeps = rp.keeps;
        }

    pub trap_right : Right p g r i L a → At n (build_trap n a).cells → Right (one Trap p) g r i L (build_trap n a)
    unfolding build_trap active in_halts
    trap_right rp h =
        let m : ℕ = n + length a.cells in
        let o : New = or_at m (code a.codes 0) (code a.codes 2) in
        record {
          sel = rp.sel;
          sent = rp.sent;
          want = rp.want;
          runs = trap_runs E H p (v g) (v r) (nets a.codes) (nets (trap_row o.net a.codes)) rp.sent rp.want rp.runs
              (gate_value cells J S v zero_low Or m (code a.codes 0) (code a.codes 2) (solved_right cells J S v a.cells o.cells n h)) refl
              (λ j. ap v (trap_at o.net a.codes j));
          lists = rp.lists;
          own = rp.own;
          keeps = rp.keeps;
        }

    pub signal_right : (x : SignalNo) → Right p g r i L a → Right (one (Signal x) p) g r i L a
    unfolding active in_halts
    signal_right x rp =
        record {
          sel = rp.sel;
          sent = rp.sent;
          want = rp.want;
          runs = signal_runs E H x p (v g) (v r) (nets a.codes) rp.sent rp.want rp.runs;
          lists = rp.lists;
          own = rp.own;
          keeps = rp.keeps;
        }

    pub watching_right : (s : SignalNo) → let x : New = butnot_at n r (signal_cell s) in
        Right p g x.net i L a → At n (build_watching s (past n x) r x a).cells → Right (one (Watching s) p) g r i L (build_watching s (past n x) r x a)
    unfolding build_watching active in_halts
    watching_right s rp h =
        let x : New = butnot_at n r (signal_cell s) in
        let m : ℕ = past n x + length a.cells in
        let y : New = and_at m r a.sel in
        let m₁ : ℕ = past m y in
        let z : New = and_at m₁ y.net (signal_cell s) in
        let m₂ : ℕ = past m₁ z in
        let o : New = or_at m₂ (code a.codes 0) z.net in
        let last : List Cell = y.cells ++ (z.cells ++ o.cells) in
        let s₀ : At (past n x) (a.cells ++ last) = solved_right cells J S v x.cells (a.cells ++ last) n h in
        let s₁ : At m last = solved_right cells J S v a.cells last (past n x) s₀ in
        let s₂ : At m₁ (z.cells ++ o.cells) = solved_right cells J S v y.cells (z.cells ++ o.cells) m s₁ in
        let x_is : v x.net ≡ (v r && not (E s)) =
        gate_value cells J S v zero_low Butnot n r (signal_cell s) (solved_left cells J S v x.cells (a.cells ++ last) n h) in
        let y_is : v y.net ≡ (v r && v a.sel) =
        gate_value cells J S v zero_low And m r a.sel (solved_left cells J S v y.cells (z.cells ++ o.cells) m s₁) in
        let z_is : v z.net ≡ (v y.net && v (signal_cell s)) =
        gate_value cells J S v zero_low And m₁ y.net (signal_cell s) (solved_left cells J S v z.cells o.cells m₁ s₂) in
        let o_is : v o.net ≡ (v (code a.codes 0) || v z.net) =
        gate_value cells J S v zero_low Or m₂ (code a.codes 0) z.net (solved_right cells J S v z.cells o.cells m₁ s₂) in
        record {
          sel = rp.sel;
          sent = rp.sent;
          want = rp.want;
          runs = watching_runs E H s p (v g) (v r) (nets a.codes) (nets (with_code0 o.net a.codes)) rp.sent rp.want
              (subst (λ (k : Bool). Runs E H p (v g) k (nets a.codes) rp.sent rp.want) x_is rp.runs)
              (rw (z_is, y_is, rp.sel) at o_is) (λ j. ap v (with_code0_at o.net a.codes j));
          lists = rp.lists;
          own = rp.own;
          keeps = rp.keeps;
        }
