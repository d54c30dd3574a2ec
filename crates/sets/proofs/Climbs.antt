-- TWICE from the root down finds what the climbs find: at each statement, a climb that passes it meets F where the codes that it comes
-- with meet those that lead to F.
use mathlib.Core.Path.{◌≡◌, refl, sym, ◌∙◌}
use mathlib.Core.Bool.{Bool, true, false, ◌&&◌, ◌||◌, and-false, or-false}
use mathlib.Core.List.{List, [], ◌∷◌, ◌++◌, map}
use Prim.Native.Nat.{ℕ, zero, suc, ◌+◌, ◌-◌, ◌<◌}
use native.Mathlib.Omega.{arith}
use lib.Dec.{ltb}
use borrow.Author.Tests.{lt-ltb}
use Rattle.number.specs.declared.StmtNo.{StmtNo}
use Rattle.number.specs.Number.{pick}
use Rattle.limits.specs.Limits.{max_codes}
use Rattle.sheet.specs.declared.Unary.TheVariants.{Loop, Watching, Trap, Signal}
use Rattle.sheet.specs.declared.Binary.TheVariants.{Sequence, Present, Parallel}
use Rattle.sheet.specs.Stmt.{Stmt, leaf, one, two, size}
use Rattle.sheet.specs.Read.{further}
use Rattle.sets.specs.Codes.{Codes, empty, join, when, upto, maxima, replaced, with0, caught_codes}
use Rattle.sets.specs.Static.{K, R}
use Rattle.sets.specs.Faults.{or_else, Climb, through, behind, looped, besides, climbs, first_fault, twice}
use Rattle.sets.specs.Words.{Low}
use Rattle.sets.specs.Leads.{some, both, meet, downto, at_least, leads_sequence, leads_trap, leads_parallel, leads_one, leads_left}
use Rattle.sets.specs.Leads.{leads_right, first_led}
use Rattle.number.proofs.Bools.{taut}
use Rattle.sets.proofs.Bounds.{Bounded, bounded_join, bounded_when, bounded_maxima, bounded_replaced, bounded_more}
use Rattle.sets.proofs.Bounds.{bounded_caught, K_low, R_low}
use Rattle.std.specs.Prelude.{Option, Some, None}

-- Some code below n: of sets that agree there, of a join, of a set that is there only where b holds, of one without the code n.
some_alike : (n : ℕ) (A B : Codes) → ((j : ℕ) → j < n → A j ≡ B j) → some n A ≡ some n B
unfolding some
some_alike zero A B same = refl
some_alike (suc n) A B same =
    rw (same 0 (omega arith), some_alike n (λ j. A (suc j)) (λ j. B (suc j)) (λ j h. same (suc j) (omega arith)))

some_or : (n : ℕ) (A B : Codes) → some n (λ j. A j || B j) ≡ (some n A || some n B)
unfolding some
some_or zero A B = refl
some_or (suc n) A B =
    rw (some_or n (λ j. A (suc j)) (λ j. B (suc j))) (regroup (A 0) (B 0) (some n (λ j. A (suc j))) (some n (λ j. B (suc j))))
  where
    regroup : (a b x y : Bool) → ((a || b) || (x || y)) ≡ ((a || x) || (b || y))
    regroup = taut 4 0 _ _ _ tt

some_when : (n : ℕ) (b : Bool) (A : Codes) → some n (λ j. b && A j) ≡ (b && some n A)
unfolding some
some_when n true A = refl
some_when zero false A = refl
some_when (suc n) false A = some_when n false (λ j. A (suc j))

some_last : (n : ℕ) (A : Codes) → A n ≡ false → some (suc n) A ≡ some n A
unfolding some
some_last zero A e = rw e
some_last (suc n) A e = rw (some_last n (λ j. A (suc j)) e)

-- some code of C is at most one of X just where some code of X is at least one of C
downto_some : (n : ℕ) (A : Codes) → downto n A 0 ≡ some n A
unfolding some
downto_some zero A = refl
downto_some (suc n) A = rw (downto_some n (λ j. A (suc j)))

exchange : (n : ℕ) (C X : Codes) → some n (λ j. X j && upto C j) ≡ some n (λ j. C j && downto n X j)
unfolding some
exchange zero C X = refl
exchange (suc n) C X =
    let C' : Codes = λ j. C (suc j) in
    let X' : Codes = λ j. X (suc j) in
    let apart : some n (λ j. X' j && (C 0 || upto C' j)) ≡ ((C 0 && some n X') || some n (λ j. C' j && downto n X' j)) =
    some_alike n (λ j. X' j && (C 0 || upto C' j)) (λ j. (C 0 && X' j) || (X' j && upto C' j)) (λ j h. share (X' j) (C 0) (upto C' j))
    ∙ some_or n (λ j. C 0 && X' j) (λ j. X' j && upto C' j)
    ∙ rw (some_when n (C 0) X', exchange n C' X') in
    rw (apart, downto_some n X') (regroup (X 0) (C 0) (some n X') (some n (λ j. C' j && downto n X' j)))
  where
    share : (x c u : Bool) → (x && (c || u)) ≡ ((c && x) || (x && u))
    share = taut 3 0 _ _ _ tt

    regroup : (x c y z : Bool) → ((x && c) || ((c && y) || z)) ≡ ((c && (x || y)) || z)
    regroup = taut 4 0 _ _ _ tt

-- what meets F, for joined codes
meet_join : (n : ℕ) (A B F : Codes) → meet n (join A B) F ≡ (meet n A F || meet n B F)
unfolding meet
meet_join n A B F =
    some_alike n (both (join A B) F) (λ j. both A F j || both B F j) (λ j h. share (A j) (B j) (F j)) ∙ some_or n (both A F) (both B F)
  where
    share : (a b f : Bool) → ((a || b) && f) ≡ ((a && f) || (b && f))
    share = taut 3 0 _ _ _ tt

meet_when : (n : ℕ) (b : Bool) (A F : Codes) → meet n (when b A) F ≡ (b && meet n A F)
unfolding meet
meet_when n b A F = some_alike n (both (when b A) F) (λ j. b && both A F j) (λ j h. share b (A j) (F j)) ∙ some_when n b (both A F)
  where
    share : (b a f : Bool) → ((b && a) && f) ≡ (b && (a && f))
    share = taut 3 0 _ _ _ tt

meet_flip : (n : ℕ) (A F : Codes) → meet n A F ≡ meet n F A
unfolding meet
meet_flip n A F = some_alike n (both A F) (both F A) (λ j h. swap (A j) (F j))
  where
    swap : (a f : Bool) → (a && f) ≡ (f && a)
    swap = taut 2 0 _ _ _ tt

-- "As left of a sequence, 0 in C is replaced by K(right)."
sequence_climb : (C K F : Codes) → meet max_codes (replaced C K) F ≡ meet max_codes C (leads_sequence K F)
unfolding meet some leads_sequence
sequence_climb C K F =
    let C' : Codes = λ j. C (suc j) in
    let K' : Codes = λ j. K (suc j) in
    let F' : Codes = λ j. F (suc j) in
    let n : ℕ = max_codes - 1 in
    let rest : some n (λ j. (C' j || (C 0 && K' j)) && F' j) ≡ (some n (both C' F') || (C 0 && some n (both K' F'))) =
    meet_join n C' (when (C 0) K') F' ∙ rw (meet_when n (C 0) K' F') in
    rw rest (regroup (C 0) (K 0) (F 0) (some n (both C' F')) (some n (both K' F')))
  where
    regroup : (c k f x y : Bool) → (((c && k) && f) || (x || (c && y))) ≡ ((c && ((k && f) || y)) || x)
    regroup = taut 5 0 _ _ _ tt

-- "A trap maps."
trap_climb : (C F : Codes) → Bounded max_codes C → meet max_codes (caught_codes C) F ≡ meet max_codes C (leads_trap F)
unfolding meet some
trap_climb C F low =
    let X : Codes = λ j. C (suc (suc (suc j))) && F (suc (suc j)) in
    let Y : Codes = λ j. C (suc (suc (suc j))) && (ltb (suc (suc (suc j))) max_codes && F (suc (suc j))) in
    let n : ℕ = max_codes - 3 in
    let last : X n ≡ false = rw (low max_codes (omega arith)) in
    let rest : some (suc n) X ≡ some n Y =
    some_last n X last ∙ some_alike n X Y (λ j h. rw (lt-ltb (suc (suc (suc j))) max_codes (omega arith))) in
    rw rest (regroup (C 0) (C 1) (C 2) (F 0) (F 1) (some n Y))
  where
    regroup : (a b c f g x : Bool) → (((a || c) && f) || ((b && g) || x)) ≡ ((a && f) || ((b && g) || ((c && f) || x)))
    regroup = taut 6 0 _ _ _ tt

-- the larger of two codes is one of F: the other code is at most as large, or it is a common code of R and F at least as large
above : (C R F : Codes) → meet max_codes (at_least C R) F ≡ meet max_codes (at_least F R) C
unfolding meet
above C R F = some_alike max_codes (both (at_least C R) F) (both (at_least F R) C) (λ j h. turn (C j) (upto R j) (F j))
  where
    turn : (c u f : Bool) → ((c && u) && f) ≡ ((f && u) && c)
    turn = taut 3 0 _ _ _ tt

below : (C R F : Codes) → meet max_codes (at_least R C) F ≡ meet max_codes (downto max_codes (both R F)) C
unfolding meet
below C R F =
    some_alike max_codes (both (at_least R C) F) (λ j. both R F j && upto C j) (λ j h. turn (R j) (upto C j) (F j))
    ∙ exchange max_codes C (both R F) ∙ meet_flip max_codes C (downto max_codes (both R F))
  where
    turn : (r u f : Bool) → ((r && u) && f) ≡ ((r && f) && u)
    turn = taut 3 0 _ _ _ tt

-- "A parallel takes maxima of C with the sibling's R, and with 0 if the sibling has 0 in K or R."
parallel_climb : (ended : Bool) (C R F : Codes)
    → meet max_codes (join (maxima C R) (when ended C)) F ≡ meet max_codes C (leads_parallel ended R F)
parallel_climb ended C R F =
    let up : Codes = at_least F R in
    let down : Codes = downto max_codes (both R F) in
    let climbed : meet max_codes (join (maxima C R) (when ended C)) F
    ≡ ((meet max_codes up C || meet max_codes down C) || (ended && meet max_codes F C)) =
    meet_join max_codes (maxima C R) (when ended C) F
    ∙ (λ i. (meet_join max_codes (at_least C R) (at_least R C) F ∙ (λ j. above C R F j || below C R F j)) i || meet_when max_codes ended C F i)
    ∙ (λ i. (meet max_codes up C || meet max_codes down C) || (ended && meet_flip max_codes C F i)) in
    let led : meet max_codes C (leads_parallel ended R F) ≡ ((meet max_codes up C || meet max_codes down C) || (ended && meet max_codes F C)) =
    meet_flip max_codes C (leads_parallel ended R F) ∙ meet_join max_codes (join up down) (when ended F) C
    ∙ (λ i. meet_join max_codes up down C i || meet_when max_codes ended F C i) in
    climbed ∙ sym led

-- "a right side of a sequence is reached only if its left has 0 in K": behind a wall no code leads to a fault
behind_climb : (k starts : Bool) (C F : Codes) → ((k && starts) && meet max_codes C F) ≡ (starts && meet max_codes C (when k F))
behind_climb k starts C F =
    let led : meet max_codes C (when k F) ≡ (k && meet max_codes C F) =
    meet_flip max_codes C (when k F) ∙ meet_when max_codes k F C ∙ rw (meet_flip max_codes F C) in
    rw led (regroup k starts (meet max_codes C F))
  where
    regroup : (k s m : Bool) → ((k && s) && m) ≡ (s && (k && m))
    regroup = taut 3 0 _ _ _ tt

-- "A loop reached with 0 in C" is the fault where there is no wall; where there is one, no fault is met further up. So it is all the same by
-- which B 0 is replaced.
loop_climb : (fault starts : Bool) (C B F : Codes)
    → ((fault || (starts && C 0)) || (starts && meet max_codes (replaced C B) F)) ≡ (fault || (starts && meet max_codes C (with0 F)))
unfolding meet some leads_sequence
loop_climb fault starts C B F =
    let rest : Bool = some (max_codes - 1) (λ j. C (suc j) && F (suc j)) in
    rw (sequence_climb C B F) (regroup fault starts (C 0) (meet max_codes B F) rest)
  where
    regroup : (f s a x y : Bool) → ((f || (s && a)) || (s && ((a && x) || y))) ≡ (f || (s && ((a && true) || y)))
    regroup = taut 5 0 _ _ _ tt

-- the first climb that is at fault, or comes with a code of F and without a wall
unfoldable first_meeting : Codes → List Climb → Option StmtNo
first_meeting F [] = None
first_meeting F (c ∷ cs) = pick (c.fault || (c.starts && meet max_codes c.codes F)) (Some c.at) (first_meeting F cs)

unfoldable AllLow : List Climb → Type 0
AllLow [] = Unit
AllLow (c ∷ cs) = Bounded max_codes c.codes × AllLow cs

first_through : (f : Codes → Codes) (F G : Codes) → ((C : Codes) → Bounded max_codes C → meet max_codes (f C) F ≡ meet max_codes C G)
    → (cs : List Climb) → AllLow cs → first_meeting F (map (through f) cs) ≡ first_meeting G cs
unfolding first_meeting AllLow
first_through f F G same [] low = refl
first_through f F G same (c ∷ cs) low = rw (same c.codes low.0, first_through f F G same cs low.1)

first_behind : (p : Stmt) (F : Codes) (cs : List Climb) → first_meeting F (map (behind p) cs) ≡ first_meeting (when (K p 0) F) cs
unfolding first_meeting
first_behind p F [] = refl
first_behind p F (c ∷ cs) =
    λ i. pick (c.fault || behind_climb (K p 0) c.starts c.codes F i) (Some c.at) (first_behind p F cs i)

first_looped : (p : Stmt) (F : Codes) (cs : List Climb) → first_meeting F (map (looped p) cs) ≡ first_meeting (with0 F) cs
unfolding first_meeting
first_looped p F [] = refl
first_looped p F (c ∷ cs) = rw (loop_climb c.fault c.starts c.codes (K p) F, first_looped p F cs)

first_append : (F : Codes) (xs ys : List Climb) → first_meeting F (xs ++ ys) ≡ or_else (first_meeting F xs) (first_meeting F ys)
unfolding first_meeting or_else pick
first_append F [] ys = refl
first_append F (c ∷ cs) ys = rw (first_append F cs ys) (go (c.fault || (c.starts && meet max_codes c.codes F)))
  where
    go : (b : Bool)
        → pick b (Some c.at) (or_else (first_meeting F cs) (first_meeting F ys))
        ≡ or_else (pick b (Some c.at) (first_meeting F cs)) (first_meeting F ys)
    go true = refl
    go false = refl

-- every climb comes with codes below ten
low_append : (xs ys : List Climb) → AllLow xs → AllLow ys → AllLow (xs ++ ys)
unfolding AllLow
low_append [] ys a b = b
low_append (c ∷ cs) ys a b = (a.0, low_append cs ys a.1 b)

low_map : (g : Climb → Climb) → ((c : Climb) → Bounded max_codes c.codes → Bounded max_codes (g c).codes) → (cs : List Climb)
    → AllLow cs → AllLow (map g cs)
unfolding AllLow
low_map g keeps [] low = tt
low_map g keeps (c ∷ cs) low = (keeps c low.0, low_map g keeps cs low.1)

besides_low : (q : Stmt) → Low q → (C : Codes) → Bounded max_codes C → Bounded max_codes (besides q C)
besides_low q low C c =
    bounded_join max_codes (maxima C (R q)) (when (K q 0 || R q 0) C) (bounded_maxima max_codes C (R q) c (R_low q low))
    (bounded_when max_codes (K q 0 || R q 0) C c)

caught_low : (C : Codes) → Bounded max_codes C → Bounded max_codes (caught_codes C)
caught_low C c = bounded_caught max_codes C (omega arith) (bounded_more (suc max_codes) C (omega arith) c)

climbs_low : (n : StmtNo) (t : Stmt) → Low t → AllLow (climbs n t)
unfolding climbs AllLow Low
climbs_low n (leaf l) low = tt
climbs_low n (one Loop p) low =
    let xs : List Climb = climbs (further n 1) p in
    low_map (looped p) (λ c b. bounded_replaced max_codes c.codes (K p) b (K_low p low)) xs (climbs_low (further n 1) p low)
climbs_low n (one (Watching s) p) low = climbs_low (further n 1) p low
climbs_low n (one Trap p) low =
    low_map (through caught_codes) (λ c. caught_low c.codes) (climbs (further n 1) p) (climbs_low (further n 1) p low)
climbs_low n (one (Signal s) p) low = (R_low (one (Signal s) p) low, climbs_low (further n 1) p low)
climbs_low n (two Sequence p q) low =
    let xs : List Climb = climbs (further n 1) p in
    let replacing : Codes → Codes = λ C. replaced C (K q) in
    let ys : List Climb = climbs (further n (1 + size p)) q in
    low_append (map (through replacing) xs) (map (behind p) ys)
    (low_map (through replacing) (λ c b. bounded_replaced max_codes c.codes (K q) b (K_low q low.1)) xs
    (climbs_low (further n 1) p low.0))
    (low_map (behind p) (λ c b. b) ys (climbs_low (further n (1 + size p)) q low.1))
climbs_low n (two (Present s) p q) low =
    low_append (climbs (further n 1) p) (climbs (further n (1 + size p)) q) (climbs_low (further n 1) p low.0)
    (climbs_low (further n (1 + size p)) q low.1)
climbs_low n (two Parallel p q) low =
    let xs : List Climb = climbs (further n 1) p in
    let ys : List Climb = climbs (further n (1 + size p)) q in (
      R_low (two Parallel p q) low,
      low_append (map (through (besides q)) xs) (map (through (besides p)) ys)
          (low_map (through (besides q)) (λ c. besides_low q low.1 c.codes) xs (climbs_low (further n 1) p low.0))
          (low_map (through (besides p)) (λ c. besides_low p low.0 c.codes) ys (climbs_low (further n (1 + size p)) q low.1)),
    )

-- the walk down finds the first climb that meets F
led_climbs : (F : Codes) (n : StmtNo) (t : Stmt) → Low t → first_led F n t ≡ first_meeting F (climbs n t)
unfolding first_led first_meeting climbs Low leads_one leads_left leads_right pick
led_climbs F n (leaf l) low = refl
led_climbs F n (one Loop p) low = led_climbs (with0 F) (further n 1) p low ∙ sym (first_looped p F (climbs (further n 1) p))
led_climbs F n (one (Watching s) p) low = led_climbs F (further n 1) p low
led_climbs F n (one Trap p) low =
    let cs : List Climb = climbs (further n 1) p in
    led_climbs (leads_trap F) (further n 1) p low
    ∙ sym (first_through caught_codes F (leads_trap F) (λ C c. trap_climb C F c) cs (climbs_low (further n 1) p low))
led_climbs F n (one (Signal s) p) low = rw (led_climbs F (further n 1) p low)
led_climbs F n (two Sequence p q) low =
    let n₁ : StmtNo = further n 1 in
    let n₂ : StmtNo = further n (1 + size p) in
    let replacing : Codes → Codes = λ C. replaced C (K q) in
    let left = led_climbs (leads_sequence (K q) F) n₁ p low.0
    ∙ sym (first_through replacing F (leads_sequence (K q) F) (λ C c. sequence_climb C (K q) F) (climbs n₁ p) (climbs_low n₁ p low.0)) in
    let right = led_climbs (when (K p 0) F) n₂ q low.1 ∙ sym (first_behind p F (climbs n₂ q)) in
    (λ i. or_else (left i) (right i)) ∙ sym (first_append F (map (through replacing) (climbs n₁ p)) (map (behind p) (climbs n₂ q)))
led_climbs F n (two (Present s) p q) low =
    let n₁ : StmtNo = further n 1 in
    let n₂ : StmtNo = further n (1 + size p) in
    (λ i. or_else (led_climbs F n₁ p low.0 i) (led_climbs F n₂ q low.1 i)) ∙ sym (first_append F (climbs n₁ p) (climbs n₂ q))
led_climbs F n (two Parallel p q) low =
    let n₁ : StmtNo = further n 1 in
    let n₂ : StmtNo = further n (1 + size p) in
    let G : Stmt → Codes = λ v. leads_parallel (K v 0 || R v 0) (R v) F in
    let side : (v : Stmt) (C : Codes) → Bounded max_codes C → meet max_codes (besides v C) F ≡ meet max_codes C (G v) =
    λ v C c. parallel_climb (K v 0 || R v 0) C (R v) F in
    let left = led_climbs (G q) n₁ p low.0 ∙ sym (first_through (besides q) F (G q) (side q) (climbs n₁ p) (climbs_low n₁ p low.0)) in
    let right =
    led_climbs (G p) n₂ q low.1 ∙ sym (first_through (besides p) F (G p) (side p) (climbs n₂ q) (climbs_low n₂ q low.1)) in
    let rest =
    (λ i. or_else (left i) (right i))
    ∙ sym (first_append F (map (through (besides q)) (climbs n₁ p)) (map (through (besides p)) (climbs n₂ q))) in
    λ i. pick (meet max_codes (R (two Parallel p q)) F) (Some n) (rest i)

-- with no code to meet, that is the first at fault
meet_empty : (C : Codes) → meet max_codes C empty ≡ false
unfolding meet some
meet_empty C = some_alike max_codes (both C empty) empty (λ j h. and-false (C j))

first_fault_lem : (cs : List Climb) → first_meeting empty cs ≡ first_fault cs
unfolding first_meeting first_fault
first_fault_lem [] = refl
first_fault_lem (c ∷ cs) = rw (meet_empty c.codes, and-false c.starts, or-false c.fault, first_fault_lem cs)

pub led_twice : (n : StmtNo) (t : Stmt) → Low t → first_led empty n t ≡ twice n t
unfolding twice
led_twice n t low = led_climbs empty n t low ∙ first_fault_lem (climbs n t)
