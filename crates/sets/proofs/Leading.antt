-- The codes that lead to a fault, as words.
use mathlib.Core.Path.{◌≡◌, refl, sym, ◌∙◌, fun_ext}
use mathlib.Core.Bool.{Bool, true, false, ◌&&◌, ◌||◌}
use Prim.Native.Nat.{ℕ, zero, suc, ◌+◌, ◌-◌, ◌*◌, ◌/◌, ◌%◌, ◌^◌, ◌<◌}
use native.Mathlib.Omega.{arith}
use native.Mathlib.Decide.{dec_lt}
use lib.Dec.{ltb}
use lib.Pow.{field, mod-mod-pow}
use borrow.Author.Tests.{lt-ltb, le-ltb}
use Rattle.bits.specs.Bits.{has}
use Rattle.bits.proofs.Laws.{empty as has_empty}
use Rattle.limits.specs.Limits.{max_codes}
use Rattle.sheet.specs.declared.Binary.TheVariants.{Sequence, Parallel}
use Rattle.sheet.specs.Stmt.{Stmt}
use Rattle.sets.specs.declared.Both.{Both}
use Rattle.sets.specs.Codes.{Codes, join, when, less0, with0}
use Rattle.sets.specs.Words.{code_span, Means}
use Rattle.sets.specs.Leads.{both, meet, downto, at_least, leads_sequence, leads_trap, leads_parallel, leads_left, leads_right}
use Rattle.sets.proofs.Words.{has_zero, has_suc, by_bits}
use Rattle.sets.proofs.Meaning.{Joined}

-- the remainder by a power of two keeps the codes below it
ltb_suc : (j n : ℕ) → ltb (suc j) (suc n) ≡ ltb j n
ltb_suc j n = go (dec_lt j n)
  where
    go : Dec (j < n) → ltb (suc j) (suc n) ≡ ltb j n
    go (yes h) = lt-ltb (suc j) (suc n) (omega arith) ∙ sym (lt-ltb j n h)
    go (no h) = le-ltb (suc j) (suc n) (omega arith) ∙ sym (le-ltb j n (omega arith))

has_mod : (n w j : ℕ) → has (w % 2 ^ n) j ≡ (ltb j n && has w j)
has_mod zero w j = let nothing : w % 2 ^ 0 ≡ 0 = omega arith in rw (nothing, le-ltb j 0 (omega arith)) (has_empty j)
has_mod (suc n) w zero =
    let next : suc n ≡ n + 1 = omega arith in
    let low : w % 2 ^ suc n % 2 ≡ w % 2 = rw next (mod-mod-pow w n 1) in
    has_zero (w % 2 ^ suc n) ∙ rw (low, lt-ltb 0 (suc n) (omega arith)) (sym (has_zero w))
has_mod (suc n) w (suc j) =
    let next : suc n ≡ n + 1 = omega arith in
    let half : w % 2 ^ suc n / 2 ≡ w / 2 % 2 ^ n = rw next (field w n 1) in
    has_suc (w % 2 ^ suc n) j ∙ rw (half, ltb_suc j n, has_suc w j) (has_mod n (w / 2) j)

-- "A trap maps.": backwards
four_parts : (x y z r : ℕ) → x < 2 → y < 2 → z < 2 → ((x + y * 2 + z * 4 + r * 8) % 2 ≡ x) × ((x + y * 2 + z * 4 + r * 8) / 2 % 2 ≡ y)
    × ((x + y * 2 + z * 4 + r * 8) / 2 / 2 % 2 ≡ z) × ((x + y * 2 + z * 4 + r * 8) / 2 / 2 / 2 ≡ r)
four_parts x y z r hx hy hz = (omega arith, omega arith, omega arith, omega arith)

level_there : (j : ℕ) → ltb j (max_codes - 3) ≡ ltb (suc (suc (suc j))) max_codes
level_there j = go (dec_lt j (max_codes - 3))
  where
    go : Dec (j < max_codes - 3) → ltb j (max_codes - 3) ≡ ltb (suc (suc (suc j))) max_codes
    go (yes h) = lt-ltb j (max_codes - 3) h ∙ sym (lt-ltb (suc (suc (suc j))) max_codes (omega arith))
    go (no h) = le-ltb j (max_codes - 3) (omega arith) ∙ sym (le-ltb (suc (suc (suc j))) max_codes (omega arith))

pub trap_leads : (f : ℕ) → has (f % 2 + f / 2 % 2 * 2 + f % 2 * 4 + f / 4 % (code_span / 8) * 8) ≡ leads_trap (has f)
trap_leads f =
    let levels : ℕ = f / 4 % (code_span / 8) in
    let w : ℕ = f % 2 + f / 2 % 2 * 2 + f % 2 * 4 + levels * 8 in
    let parts = four_parts (f % 2) (f / 2 % 2) (f % 2) levels (omega arith) (omega arith) (omega arith) in
    let quarter : f / 4 ≡ f / 2 / 2 = omega arith in
    let rest : has levels ≡ (λ j. ltb (suc (suc (suc j))) max_codes && has f (suc (suc j))) =
    fun_ext λ j. has_mod (max_codes - 3) (f / 4) j ∙ rw (level_there j, quarter, has_suc f (suc j), has_suc (f / 2) j) in
    by_bits w (leads_trap (has f)) (rw parts.0 (sym (has_zero f)))
    (by_bits (w / 2) (λ j. leads_trap (has f) (suc j)) (rw parts.1 (sym (has_suc f 0 ∙ has_zero (f / 2))))
    (by_bits (w / 2 / 2) (λ j. leads_trap (has f) (suc (suc j))) (rw parts.2 (sym (has_zero f))) (rw parts.3 rest)))

-- a sequence's left: the right may start with a code of F, or not
pub sequence_led : (A F : Codes) → meet max_codes A F ≡ true → with0 F ≡ leads_sequence A F
unfolding leads_sequence
sequence_led A F e = fun_ext go
  where
    go : (j : ℕ) → with0 F j ≡ leads_sequence A F j
    go zero = sym e
    go (suc j) = refl

pub sequence_not : (A F : Codes) → meet max_codes A F ≡ false → less0 F ≡ leads_sequence A F
unfolding leads_sequence
sequence_not A F e = fun_ext go
  where
    go : (j : ℕ) → less0 F j ≡ leads_sequence A F j
    go zero = sym e
    go (suc j) = refl

-- a side of a parallel
pub parallel_leads : (A F : Codes) {ended b : Bool} {Up Down With Alone All : Codes} → Up ≡ at_least F A → Down ≡ downto max_codes (both A F)
    → Joined With Up Down → b ≡ ended → Alone ≡ when b F → Joined All With Alone → All ≡ leads_parallel ended A F
parallel_leads A F up down with_is b_is alone all =
    fun_ext all ∙ (λ i. join ((fun_ext with_is ∙ (λ j. join (up j) (down j))) i) ((alone ∙ (λ j. when (b_is j) F)) i))

-- the same of the parts that the words mean
module _ (q : Both) (v : Stmt) (m : Means q v) (F : Codes) where
  pub sequence_means : leads_sequence (has q.k) F ≡ leads_left Sequence v F
  unfolding leads_left
  sequence_means = λ i. leads_sequence (m.starts i) F

  pub left_means : leads_parallel (has q.k 0 || has q.r 0) (has q.r) F ≡ leads_left Parallel v F
  unfolding leads_left
  left_means = λ i. leads_parallel (m.starts i 0 || m.resumes i 0) (m.resumes i) F

  pub behind_means : {b : Bool} → b ≡ has q.k 0 → when b F ≡ leads_right Sequence v F
  unfolding leads_right
  behind_means e = λ i. when ((e ∙ (λ j. m.starts j 0)) i) F

  pub right_means : leads_parallel (has q.k 0 || has q.r 0) (has q.r) F ≡ leads_right Parallel v F
  unfolding leads_right
  right_means = λ i. leads_parallel (m.starts i 0 || m.resumes i 0) (m.resumes i) F
