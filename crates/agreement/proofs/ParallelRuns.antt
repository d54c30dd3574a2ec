-- The parallel: its nets run where those of its parts do.
use mathlib.Core.Path.{◌≡◌, refl, ◌∙◌}
use mathlib.Core.Bool.{Bool, true, false, not, ◌&&◌, ◌||◌, or-false}
use Prim.Native.Nat.{ℕ, zero, suc}
use Rattle.number.specs.declared.SignalNo.{SignalNo}
use Rattle.number.specs.declared.HaltNo.{HaltNo}
use Rattle.number.specs.Number.{pick}
use Rattle.number.proofs.Bools.{taut}
use Rattle.sheet.specs.declared.Binary.TheVariants.{Parallel}
use Rattle.sheet.specs.Stmt.{Stmt, two}
use Rattle.sets.specs.Codes.{Codes, same, join, larger}
use Rattle.sets.specs.Static.{K, R}
use Rattle.rules.specs.Rules.{Signals, Halts, Outcome, idle, kept, start, active, resume}
use Rattle.rules.proofs.Codes.{resume_in_r}
use Rattle.agreement.proofs.Restarts.{Redo}
use Rattle.agreement.proofs.Sound.{Par, Sound}
use Rattle.agreement.proofs.Runs.{live, Runs, par_active, same_in, start_code_in, choose, pick_emits, pick_halts}

-- a is at least j
abbrev pub least : ℕ → ℕ → Bool
least a zero = true
least zero (suc j) = false
least (suc a) (suc j) = least a j

not_more : (b j : ℕ) → (same b j && least b (suc j)) ≡ false
not_more zero zero = refl
not_more zero (suc j) = refl
not_more (suc b) zero = refl
not_more (suc b) (suc j) = not_more b j

-- Of the codes a, where α holds, and b, where β does, the highest. With `m` the two nets or'ed at j, and the or of what is above j:
abbrev highest_of : Bool → Bool → Bool → Bool → Bool → Bool
highest_of α β both left right = ((α && β) && both) || ((α && not β) && left) || ((not α && β) && right)

abbrev alone : Bool → Bool → Bool → Bool → Bool → Bool → Bool
alone α β a b c d = ((α && a) || (β && b)) && not ((α && c) || (β && d))

both_zero : (α β : Bool) → alone α β true true false false ≡ highest_of α β true true true
both_zero = taut 2 0 _ _ _ tt

both_past : (α β : Bool) → alone α β false false false false ≡ highest_of α β false false false
both_past = taut 2 0 _ _ _ tt

right_above : (α β : Bool) → alone α β true false false true ≡ highest_of α β false true false
right_above = taut 2 0 _ _ _ tt

left_above : (α β : Bool) → alone α β false true true false ≡ highest_of α β false false true
left_above = taut 2 0 _ _ _ tt

both_above : (α β : Bool) → alone α β false false true true ≡ highest_of α β false false false
both_above = taut 2 0 _ _ _ tt

right_only : (α β s l : Bool) → (s && l) ≡ false → alone α β false s false l ≡ highest_of α β s false s
right_only = taut 4 1 _ _ _ tt

left_only : (α β s l : Bool) → (s && l) ≡ false → alone α β s false l false ≡ highest_of α β s s false
left_only = taut 4 1 _ _ _ tt

highest_code : (α β : Bool) (a b j : ℕ)
    → alone α β (same a j) (same b j) (least a (suc j)) (least b (suc j)) ≡ highest_of α β (same (larger a b) j) (same a j) (same b j)
highest_code α β zero zero zero = both_zero α β
highest_code α β zero zero (suc j) = both_past α β
highest_code α β zero (suc b) zero = right_above α β
highest_code α β zero (suc b) (suc j) = right_only α β (same b j) (least b (suc j)) (not_more b j)
highest_code α β (suc a) zero zero = left_above α β
highest_code α β (suc a) zero (suc j) = left_only α β (same a j) (least a (suc j)) (not_more a j)
highest_code α β (suc a) (suc b) zero = both_above α β
highest_code α β (suc a) (suc b) (suc j) = highest_code α β a b j

-- A started parallel starts both sides.
both_started : (γ ρ hp hq a b c d : Bool) → γ ≡ true → (γ && (ρ && (hp || hq))) ≡ false
    → (live γ (ρ && hp) a c || live γ (ρ && hq) b d) ≡ ((true && a) || (true && b))
both_started = taut 8 2 _ _ _ tt

started_live : (γ ρ hp hq k r s x a b : Bool) → γ ≡ true → (γ && (ρ && (hp || hq))) ≡ false → (s && not k) ≡ false
    → ((k || r) && highest_of true true s a b) ≡ live γ (ρ && (hp || hq)) s x
started_live = taut 10 3 _ _ _ tt

-- A resumed one resumes the sides with halts, "another side counts as 0".
only_resumed : (γ ρ hp hq a b c d : Bool) → γ ≡ false
    → (live γ (ρ && hp) a c || live γ (ρ && hq) b d) ≡ (((ρ && hp) && c) || ((ρ && hq) && d))
only_resumed = taut 8 1 _ _ _ tt

sides_both : (ρ k r s a b : Bool) → (((ρ && true) && s) && not r) ≡ false → ((k || r) && highest_of (ρ && true) (ρ && true) s a b) ≡ ((ρ && true) && s)
sides_both = taut 6 1 _ _ _ tt

side_left : (ρ k r s a b : Bool) → (((ρ && true) && a) && not r) ≡ false → ((k || r) && highest_of (ρ && true) (ρ && false) s a b) ≡ ((ρ && true) && a)
side_left = taut 6 1 _ _ _ tt

side_right : (ρ k r s a b : Bool) → (((ρ && true) && b) && not r) ≡ false → ((k || r) && highest_of (ρ && false) (ρ && true) s a b) ≡ ((ρ && true) && b)
side_right = taut 6 1 _ _ _ tt

sides_none : (ρ k r s a b c : Bool) → ((k || r) && highest_of (ρ && false) (ρ && false) s a b) ≡ ((ρ && false) && c)
sides_none = taut 7 0 _ _ _ tt

larger_zero : (a : ℕ) → larger a 0 ≡ a
larger_zero zero = refl
larger_zero (suc a) = refl

-- the larger code of the sides x and y, of which those with halts count
abbrev beside_code : Bool → Bool → Outcome → Outcome → ℕ
beside_code hp hq x y = larger (pick hp x idle).code (pick hq y idle).code

resumed_sides : (hp hq ρ k r : Bool) (x y : Outcome) (j : ℕ) → (((ρ && (hp || hq)) && same (beside_code hp hq x y) j) && not r) ≡ false
    → ((k || r) && highest_of (ρ && hp) (ρ && hq) (same (larger x.code y.code) j) (same x.code j) (same y.code j))
    ≡ ((ρ && (hp || hq)) && same (beside_code hp hq x y) j)
unfolding pick
resumed_sides true true ρ k r x y j h = sides_both ρ k r (same (larger x.code y.code) j) (same x.code j) (same y.code j) h
resumed_sides true false ρ k r x y j h =
    rw (larger_zero x.code)
    (side_left ρ k r (same (larger x.code y.code) j) (same x.code j) (same y.code j) (rw (larger_zero x.code) at h))
resumed_sides false true ρ k r x y j h = side_right ρ k r (same (larger x.code y.code) j) (same x.code j) (same y.code j) h
resumed_sides false false ρ k r x y j h = sides_none ρ k r (same (larger x.code y.code) j) (same x.code j) (same y.code j) _

resumed_alone : (γ ρ s x : Bool) → γ ≡ false → (ρ && x) ≡ live γ ρ s x
resumed_alone = taut 4 1 _ _ _ tt

-- a resumed run's code is in R
where_active : (ρ h s r : Bool) → (h ≡ true → (s && not r) ≡ false) → (((ρ && h) && s) && not r) ≡ false
where_active ρ true s r f = on ρ s r (f refl)
  where
    on : (ρ s r : Bool) → (s && not r) ≡ false → (((ρ && true) && s) && not r) ≡ false
    on = taut 3 1 _ _ _ tt
where_active ρ false s r f = off ρ s r
  where
    off : (ρ s r : Bool) → (((ρ && false) && s) && not r) ≡ false
    off = taut 3 0 _ _ _ tt

resumed_in : (E : Signals) (H : Halts) (t : Stmt) (ρ : Bool) (j : ℕ) → Sound H t → (((ρ && active H t) && same (resume E H t).code j) && not (R t j)) ≡ false
resumed_in E H t ρ j w =
    where_active ρ (active H t) (same (resume E H t).code j) (R t j)
    (λ h. same_in (R t) (resume E H t).code j (resume_in_r E H t w.no_instant w.fit h))

left_ok : (γ ρ hp hq u : Bool) → (γ && (ρ && (hp || hq))) ≡ false → (u && not hp) ≡ false → (γ && (ρ && u)) ≡ false
left_ok = taut 5 2 _ _ _ tt

right_ok : (γ ρ hp hq u : Bool) → (γ && (ρ && (hp || hq))) ≡ false → (u && not hq) ≡ false → (γ && (ρ && u)) ≡ false
right_ok = taut 5 2 _ _ _ tt

joined_live : (γ ρ hp hq a b c d : Bool)
    → (live γ (ρ && hp) a c || live γ (ρ && hq) b d) ≡ live γ (ρ && (hp || hq)) (a || b) (choose hp c false || choose hq d false)
joined_live = taut 8 0 _ _ _ tt

kept_both : (u k r x : Bool) → ((u && ((k || r) && x)) && not (k || r)) ≡ false
kept_both = taut 4 0 _ _ _ tt

-- "halts joined if that code is at most 1, else none"
kept_least : (c : ℕ) (A : Halts) (h : HaltNo) → kept c A h ≡ (not (least c 2) && A h)
kept_least zero A h = refl
kept_least (suc zero) A h = refl
kept_least (suc (suc c)) A h = refl

larger_least : (a b j : ℕ) → least (larger a b) j ≡ (least a j || least b j)
larger_least a b zero = refl
larger_least zero b (suc j) = refl
larger_least (suc a) zero (suc j) = rw or-false
larger_least (suc a) (suc b) (suc j) = larger_least a b j

pick_least : (h : Bool) (x : Outcome) → least (pick h x idle).code 2 ≡ (h && least x.code 2)
unfolding pick
pick_least true x = refl
pick_least false x = refl

started_kept : (γ ρ hp hq la lb a b c d x : Bool) → γ ≡ true → (γ && (ρ && (hp || hq))) ≡ false
    → (not ((true && la) || (true && lb)) && (live γ (ρ && hp) a c || live γ (ρ && hq) b d)) ≡ live γ (ρ && (hp || hq)) (not (la || lb) && (a || b)) x
started_kept = taut 11 2 _ _ _ tt

resumed_kept : (γ ρ hp hq lc ld a b c d x : Bool) → γ ≡ false
    → (not (((ρ && hp) && lc) || ((ρ && hq) && ld)) && (live γ (ρ && hp) a c || live γ (ρ && hq) b d))
    ≡ live γ (ρ && (hp || hq)) x (not ((hp && lc) || (hq && ld)) && (choose hp c false || choose hq d false))
resumed_kept = taut 11 1 _ _ _ tt

-- X is the or of the codes above each: so it is if at most two codes are there, a where α holds and b where β does
module _ (E : Signals) (H : Halts) (p q : Stmt) (γ ρ : Bool) (Pp Pq X P : Codes) (Mp Mq M : Signals) (Wp Wq W : Halts) (sound : Sound H (two Parallel p q))
    (rp : Runs E H p γ ρ Pp Mp Wp) (rq : Runs E H q γ ρ Pq Mq Wq)
    (at : (j : ℕ) → P j ≡ ((K (two Parallel p q) j || R (two Parallel p q) j) && ((Pp j || Pq j) && not (X j))))
    (above : (α β : Bool) (a b : ℕ) → ((i : ℕ) → (Pp i || Pq i) ≡ ((α && same a i) || (β && same b i)))
    → (j : ℕ) → X j ≡ ((α && least a (suc j)) || (β && least b (suc j))))
    (em : (s : SignalNo) → M s ≡ (Mp s || Mq s)) (hm : (h : HaltNo) → W h ≡ (not (X 1) && (Wp h || Wq h))) where
  abbrev hp : Bool
  hp = active H p

  abbrev hq : Bool
  hq = active H q

  -- started and resumed, left and right
  abbrev a : Outcome
  a = start E p

  abbrev b : Outcome
  b = start E q

  abbrev c : Outcome
  c = resume E H p

  abbrev d : Outcome
  d = resume E H q

  -- the resumed sides, as the rules take them
  abbrev c' : Outcome
  c' = pick hp c idle

  abbrev d' : Outcome
  d' = pick hq d idle

  abbrev ab : ℕ
  ab = larger a.code b.code

  abbrev cd : ℕ
  cd = larger c'.code d'.code

  abbrev t : Stmt
  t = two Parallel p q

  abbrev Ok : Type 0
  Ok = (γ && (ρ && (hp || hq))) ≡ false

  ok_p : Ok → (γ && (ρ && Par E H p)) ≡ false
  ok_p ok = left_ok γ ρ hp hq (Par E H p) ok (par_active E H p)

  ok_q : Ok → (γ && (ρ && Par E H q)) ≡ false
  ok_q ok = right_ok γ ρ hp hq (Par E H q) ok (par_active E H q)

  -- the sides' codes, or'ed
  codes_or : Ok → (i : ℕ) → (Pp i || Pq i) ≡ (live γ (ρ && hp) (same a.code i) (same c.code i) || live γ (ρ && hq) (same b.code i) (same d.code i))
  codes_or ok i = rw (rp.codes (ok_p ok) i, rq.codes (ok_q ok) i)

  codes_started : γ ≡ true → Ok → (i : ℕ) → (Pp i || Pq i) ≡ ((true && same a.code i) || (true && same b.code i))
  codes_started e ok i =
      codes_or ok i ∙ both_started γ ρ hp hq (same a.code i) (same b.code i) (same c.code i) (same d.code i) e ok

  codes_resumed : γ ≡ false → Ok → (i : ℕ) → (Pp i || Pq i) ≡ (((ρ && hp) && same c.code i) || ((ρ && hq) && same d.code i))
  codes_resumed e ok i =
      codes_or ok i ∙ only_resumed γ ρ hp hq (same a.code i) (same b.code i) (same c.code i) (same d.code i) e

  in_k : (j : ℕ) → (same ab j && not (K t j)) ≡ false
  unfolding start
  in_k j = start_code_in E H t sound j

  in_r : (j : ℕ) → (((ρ && (hp || hq)) && same cd j) && not (R t j)) ≡ false
  unfolding resume active
  in_r j = resumed_in E H t ρ j sound

  parallel_codes : (g : Bool) → γ ≡ g → Ok → (j : ℕ) → P j ≡ live γ (ρ && (hp || hq)) (same ab j) (same cd j)
  parallel_codes true e ok j =
      rw (at j, above true true a.code b.code (codes_started e ok) j, codes_started e ok j, highest_code true true a.code b.code j)
      (started_live γ ρ hp hq (K t j) (R t j) (same ab j) (same cd j) (same a.code j) (same b.code j) e ok (in_k j))
  parallel_codes false e ok j =
      rw (
        at j,
        above (ρ && hp) (ρ && hq) c.code d.code (codes_resumed e ok) j,
        codes_resumed e ok j,
        highest_code (ρ && hp) (ρ && hq) c.code d.code j,
      )
      (resumed_sides hp hq ρ (K t j) (R t j) c d j (in_r j) ∙ resumed_alone γ (ρ && (hp || hq)) (same ab j) (same cd j) e)

  parallel_emits : Ok → (s : SignalNo) → M s ≡ live γ (ρ && (hp || hq)) (a.emits s || b.emits s) (c'.emits s || d'.emits s)
  parallel_emits ok s =
      rw (em s, rp.emits (ok_p ok) s, rq.emits (ok_q ok) s, pick_emits hp c idle s, pick_emits hq d idle s)
      (joined_live γ ρ hp hq (a.emits s) (b.emits s) (c.emits s) (d.emits s))

  parallel_halts : (g : Bool) → γ ≡ g → Ok → (h : HaltNo)
      → W h ≡ live γ (ρ && (hp || hq)) (kept ab (join a.halts b.halts) h) (kept cd (join c'.halts d'.halts) h)
  parallel_halts true e ok h =
      rw (
        hm h,
        above true true a.code b.code (codes_started e ok) 1,
        rp.halts (ok_p ok) h,
        rq.halts (ok_q ok) h,
        kept_least ab (join a.halts b.halts) h,
        larger_least a.code b.code 2,
      )
      (started_kept γ ρ hp hq (least a.code 2) (least b.code 2) (a.halts h) (b.halts h) (c.halts h) (d.halts h) _ e ok)
  parallel_halts false e ok h =
      rw (
        hm h,
        above (ρ && hp) (ρ && hq) c.code d.code (codes_resumed e ok) 1,
        rp.halts (ok_p ok) h,
        rq.halts (ok_q ok) h,
        kept_least cd (join c'.halts d'.halts) h,
        larger_least c'.code d'.code 2,
        pick_least hp c,
        pick_least hq d,
        pick_halts hp c idle h,
        pick_halts hq d idle h,
      )
      (resumed_kept γ ρ hp hq (least c.code 2) (least d.code 2) (a.halts h) (b.halts h) (c.halts h) (d.halts h) _ e)

  parallel_both : (j : ℕ) → (((ρ && (hp || hq)) && P j) && not (K t j || R t j)) ≡ false
  parallel_both j = rw (at j) (kept_both (ρ && (hp || hq)) (K t j) (R t j) ((Pp j || Pq j) && not (X j)))

  pub parallel_runs : Runs E H (two Parallel p q) γ ρ P M W
  unfolding start resume active Redo Par
  parallel_runs = record { codes = parallel_codes γ refl; emits = parallel_emits; halts = parallel_halts γ refl; both = parallel_both }
