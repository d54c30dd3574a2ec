-- Words as sets of codes, taken apart bit by bit: what each function on words does to the sets, for any words.
use mathlib.Core.Path.{◌≡◌, refl, sym, ap, ◌∙◌, fun_ext}
use mathlib.Core.Bool.{Bool, true, false, not, ◌&&◌, ◌||◌, or-true, or-false, and-true, and-false}
use Prim.Native.Nat.{ℕ, zero, suc, ◌+◌, ◌-◌, ◌*◌, ◌/◌, ◌%◌, ◌^◌, ◌<◌}
use native.Mathlib.Omega.{arith}
use lib.Dec.{eqb}
use native.Mathlib.Decide.{ℕ_discrete}
use lib.Bits.{bit_and, and_le_l}
use lib.Pow.{shr-shr, pow_pos}
use native.Mathlib.Nat.{lt_of_le_of_lt}
use borrow.Author.Tests.{eq-eqb, ne_eqb}
use Rattle.bits.specs.Bits.{has}
use Rattle.bits.proofs.Laws.{empty as has_empty}
use Rattle.bits.proofs.None.{has_meet}
use Rattle.sets.specs.Codes.{Codes, empty, same, upto, replaced, less0, with0, caught_codes}
use Rattle.sets.specs.Leads.{some, both, meet, downto, UpTo, at_least}

-- the lowest code of a word, and the others, each one lower, in half of it
pub has_zero : (w : ℕ) → has w 0 ≡ eqb (w % 2) 1
unfolding has
has_zero w = let whole : w / 2 ^ 0 ≡ w = omega arith in rw whole

pub has_suc : (w j : ℕ) → has w (suc j) ≡ has (w / 2) j
unfolding has
has_suc w j = let next : suc j ≡ 1 + j = omega arith in rw (next, ← (shr-shr w 1 j))

pub has_half : (w : ℕ) → has (w / 2) ≡ (λ j. has w (suc j))
has_half w = fun_ext λ j. sym (has_suc w j)

pub by_bits : (w : ℕ) (A : Codes) → eqb (w % 2) 1 ≡ A 0 → has (w / 2) ≡ (λ j. A (suc j)) → has w ≡ A
by_bits w A low rest = fun_ext go
  where
    go : (j : ℕ) → has w j ≡ A j
    go zero = has_zero w ∙ low
    go (suc j) = has_suc w j ∙ ap (λ (B : Codes). B j) rest

odd_has : (w : ℕ) → w % 2 ≡ 1 → has w 0 ≡ true
odd_has w odd = has_zero w ∙ eq-eqb (w % 2) 1 odd

even_has : (w : ℕ) → (w % 2 ≡ 1 → ⊥) → has w 0 ≡ false
even_has w even = has_zero w ∙ ne_eqb (w % 2) 1 even

-- "less 0" and "and 0"
pub has_less0 : (w : ℕ) → has (w - w % 2) ≡ less0 (has w)
has_less0 w =
    let half : (w - w % 2) / 2 ≡ w / 2 = omega arith in
    by_bits (w - w % 2) (less0 (has w)) (ne_eqb ((w - w % 2) % 2) 1 (λ e. omega arith)) (rw half (has_half w))

pub has_with0 : (w : ℕ) → has (w - w % 2 + 1) ≡ with0 (has w)
has_with0 w =
    let half : (w - w % 2 + 1) / 2 ≡ w / 2 = omega arith in
    by_bits (w - w % 2 + 1) (with0 (has w)) (eq-eqb ((w - w % 2 + 1) % 2) 1 (omega arith)) (rw half (has_half w))

-- "with 0 replaced by"
pub replaced_odd : (a b r : ℕ) → a % 2 ≡ 1 → ((j : ℕ) → has r j ≡ (has (a - 1) j || has b j)) → has r ≡ replaced (has a) (has b)
replaced_odd a b r odd joined = fun_ext go
  where
    less : has (a - 1) ≡ less0 (has a)
    less = let same : a - 1 ≡ a - a % 2 = omega arith in rw same (has_less0 a)

    go : (j : ℕ) → has r j ≡ replaced (has a) (has b) j
    go zero = joined 0 ∙ rw (less, odd_has a odd)
    go (suc j) = joined (suc j) ∙ rw (less, odd_has a odd)

pub replaced_even : (a b : ℕ) → (a % 2 ≡ 1 → ⊥) → has a ≡ replaced (has a) (has b)
replaced_even a b even = fun_ext go
  where
    go : (j : ℕ) → has a j ≡ replaced (has a) (has b) j
    go zero = rw (even_has a even)
    go (suc j) = rw (even_has a even) (sym (or-false (has a (suc j))))

-- "Trap: code 0 or 2 becomes 0, 1 stays, larger codes fall by one."
three_parts : (x y z : ℕ) → x < 2 → y < 2
    → ((x + y * 2 + z * 4) % 2 ≡ x) × ((x + y * 2 + z * 4) / 2 % 2 ≡ y) × ((x + y * 2 + z * 4) / 2 / 2 ≡ z)
three_parts x y z hx hy = (omega arith, omega arith, omega arith)

has_caught : (w low : ℕ) → eqb low 1 ≡ (has w 0 || has w 2) → low < 2 → has (low + w / 2 % 2 * 2 + w / 8 * 4) ≡ caught_codes (has w)
has_caught w low e small =
    let v : ℕ = low + w / 2 % 2 * 2 + w / 8 * 4 in
    let parts = three_parts low (w / 2 % 2) (w / 8) small (omega arith) in
    let eighth : w / 8 ≡ w / 2 / 2 / 2 = omega arith in
    by_bits v (caught_codes (has w)) (rw parts.0 e)
    (by_bits (v / 2) (λ j. caught_codes (has w) (suc j)) (rw parts.1 (sym (has_suc w 0 ∙ has_zero (w / 2))))
    (rw (parts.2, eighth) (fun_ext λ j. sym (has_suc w (suc (suc j)) ∙ has_suc (w / 2) (suc j) ∙ has_suc (w / 2 / 2) j))))

pub caught_odd : (w : ℕ) → w % 2 ≡ 1 → has (1 + w / 2 % 2 * 2 + w / 8 * 4) ≡ caught_codes (has w)
caught_odd w odd = has_caught w 1 (rw (odd_has w odd)) (omega arith)

pub caught_even : (w : ℕ) → (w % 2 ≡ 1 → ⊥) → has (w / 4 % 2 + w / 2 % 2 * 2 + w / 8 * 4) ≡ caught_codes (has w)
caught_even w even =
    let quarter : w / 4 ≡ w / 2 / 2 = omega arith in
    has_caught w (w / 4 % 2) (rw (even_has w even, quarter) (sym (has_suc w 1 ∙ has_suc (w / 2) 0 ∙ has_zero (w / 2 / 2)))) (omega arith)

-- the codes of a from the lowest of b on: b is empty, has 0, or has it not
upto_none : (j : ℕ) → upto (has 0) j ≡ false
upto_none j = go (has 0) has_empty j
  where
    go : (A : Codes) → ((j : ℕ) → A j ≡ false) → (j : ℕ) → upto A j ≡ false
    go A none zero = none 0
    go A none (suc j) = rw (none 0) (go (λ x. A (suc x)) (λ x. none (suc x)) j)

pub least_none : (a : ℕ) → has 0 ≡ at_least (has a) (has 0)
least_none a = fun_ext λ j. has_empty j ∙ sym (rw (upto_none j) (and-false (has a j)))

pub least_all : (a b : ℕ) → b % 2 ≡ 1 → has a ≡ at_least (has a) (has b)
least_all a b odd = fun_ext λ j. sym (rw (from_zero j) (and-true (has a j)))
  where
    from_zero : (j : ℕ) → upto (has b) j ≡ true
    from_zero zero = odd_has b odd
    from_zero (suc j) = rw (odd_has b odd)

pub least_rest : (a b r : ℕ) → (b % 2 ≡ 1 → ⊥) → has r ≡ at_least (has (a / 2)) (has (b / 2)) → has (2 * r) ≡ at_least (has a) (has b)
least_rest a b r even rest =
    let half : 2 * r / 2 ≡ r = omega arith in
    by_bits (2 * r) (at_least (has a) (has b)) (ne_eqb (2 * r % 2) 1 (λ e. omega arith) ∙ sym (rw (even_has b even) (and-false (has a 0))))
    (rw half (rest ∙ rw (has_half a, has_half b) (fun_ext λ j. rw (even_has b even))))

-- 0 in both words
low_both : (a b : ℕ) → a % 2 + b % 2 ≡ 2 → (has a 0 && has b 0) ≡ true
low_both a b e = rw (odd_has a (omega arith), odd_has b (omega arith))

low_not : (a b : ℕ) → (a % 2 + b % 2 ≡ 2 → ⊥) → (has a 0 && has b 0) ≡ false
low_not a b e = go (ℕ_discrete (a % 2) 1)
  where
    go : Dec (a % 2 ≡ 1) → (has a 0 && has b 0) ≡ false
    go (yes odd) = rw (even_has b (λ q. e (omega arith))) (and-false (has a 0))
    go (no even) = rw (even_has a even)

half_small : (a n : ℕ) → a < 2 ^ suc n → a / 2 < 2 ^ n
half_small a n h = omega arith

-- a word below 2 ^ n has a code below n unless it is 0
low_or_rest : (w : ℕ) → (eqb (w % 2) 1 || not (eqb (w / 2) 0)) ≡ not (eqb w 0)
low_or_rest w = go (ℕ_discrete w 0) (ℕ_discrete (w % 2) 1)
  where
    go : Dec (w ≡ 0) → Dec (w % 2 ≡ 1) → (eqb (w % 2) 1 || not (eqb (w / 2) 0)) ≡ not (eqb w 0)
    go (yes e) d = rw e
    go (no n) (yes odd) = rw (eq-eqb (w % 2) 1 odd, ne_eqb w 0 n)
    go (no n) (no even) = rw (ne_eqb (w / 2) 0 (λ q. n (omega arith)), ne_eqb w 0 n) (or-true (eqb (w % 2) 1))

some_word : (n w : ℕ) → w < 2 ^ n → some n (has w) ≡ not (eqb w 0)
unfolding some
some_word zero w h = let nothing : w ≡ 0 = omega arith in rw nothing
some_word (suc n) w h =
    ap (λ (x : Bool). x || some n (λ j. has w (suc j))) (has_zero w) ∙ ap (λ (A : Codes). eqb (w % 2) 1 || some n A) (sym (has_half w))
    ∙ ap (λ (x : Bool). eqb (w % 2) 1 || x) (some_word n (w / 2) (half_small w n h)) ∙ low_or_rest w

-- so a and b have a common code unless no bit is in both
pub meet_word : (a b n : ℕ) → a < 2 ^ n → not (eqb (bit_and a b) 0) ≡ meet n (has a) (has b)
unfolding meet
meet_word a b n h =
    sym (some_word n (bit_and a b) (lt_of_le_of_lt (and_le_l a b) h)) ∙ ap (λ (A : Codes). some n A) (fun_ext (has_meet a b))

-- the codes up to a common one
downto_none : (n : ℕ) (A : Codes) → ((j : ℕ) → A j ≡ false) → (j : ℕ) → downto n A j ≡ false
downto_none zero A none j = refl
downto_none (suc n) A none zero = rw (none 0) (downto_none n (λ i. A (suc i)) (λ i. none (suc i)) 0)
downto_none (suc n) A none (suc j) = downto_none n (λ i. A (suc i)) (λ i. none (suc i)) j

pub upto_empty : (b n : ℕ) → UpTo n 0 b 0
upto_empty b n =
    record {
      codes = fun_ext λ j. has_empty j ∙ sym (downto_none n (both (has 0) (has b)) (λ i. rw (has_empty i)) j);
      small = pow_pos n;
    }

-- a word of the lowest code and the rest
low_and_rest : (n a b rest low : ℕ) → low < 2 → UpTo n (a / 2) (b / 2) rest → eqb low 1 ≡ ((has a 0 && has b 0) || has rest 0)
    → UpTo (suc n) a b (2 * rest + low)
low_and_rest n a b rest low small u e =
    let half : (2 * rest + low) / 2 ≡ rest = omega arith in
    let parity : (2 * rest + low) % 2 ≡ low = omega arith in
    let codes : has rest ≡ downto n (λ j. has a (suc j) && has b (suc j)) = u.codes ∙ rw (has_half a, has_half b) in
    record {
      codes = by_bits (2 * rest + low) (downto (suc n) (both (has a) (has b))) (rw parity (e ∙ rw codes)) (rw half codes);
      small = omega (arith, u.small);
    }

pub upto_low : (a b rest : ℕ) → (a ≡ 0 → ⊥) → a % 2 + b % 2 ≡ 2 → ((n : ℕ) → a / 2 < 2 ^ n → UpTo n (a / 2) (b / 2) rest)
    → (n : ℕ) → a < 2 ^ n → UpTo n a b (2 * rest + 1)
upto_low a b rest some_code e u zero h = absurd (some_code (omega arith))
upto_low a b rest some_code e u (suc n) h = low_and_rest n a b rest 1 (omega arith) (u n (half_small a n h)) (rw (low_both a b e))

pub upto_rest : (a b rest : ℕ) → (a ≡ 0 → ⊥) → (a % 2 + b % 2 ≡ 2 → ⊥) → ((n : ℕ) → a / 2 < 2 ^ n → UpTo n (a / 2) (b / 2) rest)
    → (n : ℕ) → a < 2 ^ n → UpTo n a b (2 * rest + rest % 2)
upto_rest a b rest some_code e u zero h = absurd (some_code (omega arith))
upto_rest a b rest some_code e u (suc n) h =
    low_and_rest n a b rest (rest % 2) (omega arith) (u n (half_small a n h)) (rw (low_not a b e) (sym (has_zero rest)))

-- a single code
pub none_is : has 0 ≡ empty
none_is = fun_ext has_empty

pub zero_is : has 1 ≡ same 0
zero_is = by_bits 1 (same 0) refl none_is

pub one_is : has 2 ≡ same 1
one_is = by_bits 2 (same 1) refl zero_is

same_eqb : (k j : ℕ) → eqb j k ≡ same k j
same_eqb k j = go (ℕ_discrete j k)
  where
    itself : (k : ℕ) → same k k ≡ true
    itself zero = refl
    itself (suc k) = itself k

    other : (k j : ℕ) → (j ≡ k → ⊥) → same k j ≡ false
    other zero zero n = absurd (n refl)
    other zero (suc j) n = refl
    other (suc k) zero n = refl
    other (suc k) (suc j) n = other k j (λ e. n (ap suc e))

    go : Dec (j ≡ k) → eqb j k ≡ same k j
    go (yes e) = eq-eqb j k e ∙ sym (rw e (itself k))
    go (no n) = ne_eqb j k n ∙ sym (other k j n)

pub code_is : (k w : ℕ) → ((j : ℕ) → has w j ≡ (has 0 j || eqb j k)) → has w ≡ same k
code_is k w added = fun_ext λ j. added j ∙ rw (has_empty j) (same_eqb k j)
