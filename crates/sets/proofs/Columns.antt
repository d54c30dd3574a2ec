-- The column of K and R: what the words of a statement keep, and that a column which was filled has every statement's entry.
use mathlib.Core.Path.{◌≡◌, sym, ap, ◌∙◌, fun_ext}
use mathlib.Core.Bool.{Bool, true, false}
use mathlib.Core.List.{List}
use Prim.Native.Nat.{ℕ, zero, suc, ◌+◌, ◌*◌, ◌/◌, ◌%◌, ◌^◌, ◌<◌, ◌≤◌}
use native.Mathlib.Omega.{arith}
use lib.Dec.{eqb}
use lib.ListN.{length, get_or, set, length-set}
use lib.Seq.{get_or-set_same, get_or-set_other}
use Rattle.number.specs.declared.StmtNo.{StmtNo}
use Rattle.number.specs.Counts.{of_stmt}
use Rattle.bits.specs.Bits.{has}
use Rattle.bits.proofs.Laws.{empty as has_empty, ext}
use Rattle.limits.specs.Limits.{max_codes}
use Rattle.sheet.specs.Stmt.{Stmt, leaf, one, two, size}
use Rattle.sheet.specs.Read.{further}
use Rattle.sets.specs.declared.Both.{Both}
use Rattle.sets.specs.declared.Entry.{Entry}
use Rattle.sets.specs.Codes.{Codes}
use Rattle.sets.specs.Static.{K, R}
use Rattle.sets.specs.Words.{code_span, Low, digit, word_of, no_sets, entry_of, entry_at, as_entry, filled, Entered, Kept, Means}
use Rattle.sets.proofs.Words.{by_bits}
use Rattle.sets.proofs.Bounds.{Bounded, K_low, R_low}

-- a word of n bits keeps the codes below n
digit_bit : (b : Bool) (y : ℕ) → (eqb ((digit b + 2 * y) % 2) 1 ≡ b) × ((digit b + 2 * y) / 2 ≡ y)
digit_bit true y = let low : (1 + 2 * y) % 2 ≡ 1 = omega arith in (rw low, omega arith)
digit_bit false y = let low : (0 + 2 * y) % 2 ≡ 0 = omega arith in (rw low, omega arith)

pub has_word : (n : ℕ) (A : Codes) → Bounded n A → has (word_of n A) ≡ A
unfolding word_of
has_word zero A a = fun_ext λ j. has_empty j ∙ sym (a j (omega arith))
has_word (suc n) A a =
    let rest : ℕ = word_of n (λ j. A (suc j)) in
    by_bits (digit (A 0) + 2 * rest) A (digit_bit (A 0) rest).0
    (rw (digit_bit (A 0) rest).1 (has_word n (λ j. A (suc j)) (λ j past. a (suc j) (omega arith))))

pub word_small : (n : ℕ) (A : Codes) → word_of n A < 2 ^ n
unfolding word_of
word_small zero A = omega arith
word_small (suc n) A = omega (arith, word_small n (λ j. A (suc j)), one_bit (A 0))
  where
    one_bit : (b : Bool) → digit b ≤ 1
    one_bit true = omega arith
    one_bit false = omega arith

word_is : (n w : ℕ) (A : Codes) → has w ≡ A → Bounded n A → w ≡ word_of n A
word_is n w A e a = ext w (word_of n A) (λ j i. (e ∙ sym (has_word n A a)) i j)

-- the two words of a statement with no code past the last: they are small, and make its entry
module _ (b : Both) (t : Stmt) (low : Low t) (m : Means b t) where
  k_is : b.k ≡ word_of max_codes (K t)
  k_is = word_is max_codes b.k (K t) m.starts (K_low t low)

  r_is : b.r ≡ word_of max_codes (R t)
  r_is = word_is max_codes b.r (R t) m.resumes (R_low t low)

  pub both_small : (b.k < code_span) × (b.r < code_span)
  both_small = (rw k_is (word_small max_codes (K t)), rw r_is (word_small max_codes (R t)))

  pub entry_is : as_entry b ≡ entry_of t
  unfolding entry_of
  entry_is = rw (k_is, r_is)

-- and are read back from it, as codes and no more
pub entry_means : {statics : List Entry} {n : StmtNo} {t : Stmt} → Low t → Entered statics n t
    → Means (record { k = (entry_at statics n).k % code_span; r = (entry_at statics n).r % code_span }) t
unfolding entry_of
entry_means {statics} {n} {t} low at =
    let K_word : ℕ = word_of max_codes (K t) in
    let R_word : ℕ = word_of max_codes (R t) in
    let k_same : K_word % code_span ≡ K_word = omega (arith, word_small max_codes (K t)) in
    let r_same : R_word % code_span ≡ R_word = omega (arith, word_small max_codes (R t)) in
    record {
      starts = ap (λ (x : Entry). has (x.k % code_span)) at.entry ∙ (ap has k_same ∙ has_word max_codes (K t) (K_low t low));
      resumes = ap (λ (x : Entry). has (x.r % code_span)) at.entry ∙ (ap has r_same ∙ has_word max_codes (R t) (R_low t low));
    }

-- filling changes nothing before the statement, nothing past it, nor how many entries there are
pub length_filled : (statics : List Entry) (n : StmtNo) (t : Stmt) → length (filled statics n t) ≡ length statics
unfolding filled
length_filled statics n (leaf l) = length-set statics (of_stmt n) _
length_filled statics n (one u p) = length-set (filled statics (further n 1) p) (of_stmt n) _ ∙ length_filled statics (further n 1) p
length_filled statics n (two b p q) =
    let statics₁ : List Entry = filled statics (further n 1) p in
    length-set (filled statics₁ (further n (1 + size p)) q) (of_stmt n) _ ∙ length_filled statics₁ (further n (1 + size p)) q
    ∙ length_filled statics (further n 1) p

pub filled_before : (statics : List Entry) (n : StmtNo) (t : Stmt) (j : ℕ) → j < of_stmt n → get_or (filled statics n t) j no_sets ≡ get_or statics j no_sets
unfolding filled
filled_before statics n (leaf l) j h = get_or-set_other statics (of_stmt n) j _ no_sets (omega arith)
filled_before statics n (one u p) j h =
    get_or-set_other (filled statics (further n 1) p) (of_stmt n) j _ no_sets (omega arith) ∙ filled_before statics (further n 1) p j (omega arith)
filled_before statics n (two b p q) j h =
    let statics₁ : List Entry = filled statics (further n 1) p in
    get_or-set_other (filled statics₁ (further n (1 + size p)) q) (of_stmt n) j _ no_sets (omega arith)
    ∙ filled_before statics₁ (further n (1 + size p)) q j (omega arith) ∙ filled_before statics (further n 1) p j (omega arith)

pub filled_past : (statics : List Entry) (n : StmtNo) (t : Stmt) (j : ℕ) → of_stmt n + size t ≤ j
    → get_or (filled statics n t) j no_sets ≡ get_or statics j no_sets
unfolding filled size
filled_past statics n (leaf l) j h = get_or-set_other statics (of_stmt n) j _ no_sets (omega arith)
filled_past statics n (one u p) j h =
    get_or-set_other (filled statics (further n 1) p) (of_stmt n) j _ no_sets (omega arith) ∙ filled_past statics (further n 1) p j (omega arith)
filled_past statics n (two b p q) j h =
    let statics₁ : List Entry = filled statics (further n 1) p in
    get_or-set_other (filled statics₁ (further n (1 + size p)) q) (of_stmt n) j _ no_sets (omega arith)
    ∙ filled_past statics₁ (further n (1 + size p)) q j (omega arith) ∙ filled_past statics (further n 1) p j (omega arith)

-- to keep the entries of a statement is a claim on its own places alone
abbrev Agree : List Entry → List Entry → StmtNo → ℕ → Type 0
Agree statics statics' n k = (j : ℕ) → of_stmt n ≤ j → j < of_stmt n + k → get_or statics' j no_sets ≡ get_or statics j no_sets

pub kept_agree : (statics statics' : List Entry) (n : StmtNo) (t : Stmt) → length statics' ≡ length statics → Agree statics statics' n (size t)
    → Kept statics n t → Kept statics' n t
unfolding Kept size
kept_agree statics statics' n (leaf l) len same h =
    record { inside = omega (arith, h.inside); entry = same (of_stmt n) (omega arith) (omega arith) ∙ h.entry }
kept_agree statics statics' n (one u p) len same h = (
  record { inside = omega (arith, h.0.inside); entry = same (of_stmt n) (omega arith) (omega arith) ∙ h.0.entry },
  kept_agree statics statics' (further n 1) p len (λ j x y. same j (omega arith) (omega arith)) h.1,
)
kept_agree statics statics' n (two b p q) len same h = (
  record { inside = omega (arith, h.0.inside); entry = same (of_stmt n) (omega arith) (omega arith) ∙ h.0.entry },
  kept_agree statics statics' (further n 1) p len (λ j x y. same j (omega arith) (omega arith)) h.1,
  kept_agree statics statics' (further n (1 + size p)) q len (λ j x y. same j (omega arith) (omega arith)) h.2,
)

-- the entry that was written last
entered_last : (statics : List Entry) (n : StmtNo) (t : Stmt) → of_stmt n < length statics → Entered (set statics (of_stmt n) (entry_of t)) n t
entered_last statics n t h =
    record { inside = omega (arith, length-set statics (of_stmt n) (entry_of t)); entry = get_or-set_same statics (of_stmt n) (entry_of t) no_sets h }

-- a column that was filled keeps the statement's entries
pub kept_filled : (statics : List Entry) (n : StmtNo) (t : Stmt) → of_stmt n + size t ≤ length statics → Kept (filled statics n t) n t
unfolding filled Kept size
kept_filled statics n (leaf l) room = entered_last statics n (leaf l) (omega arith)
kept_filled statics n (one u p) room =
    let n₁ : StmtNo = further n 1 in
    let statics₁ : List Entry = filled statics n₁ p in
    let len₁ : length statics₁ ≡ length statics = length_filled statics n₁ p in
    let e : Entry = entry_of (one u p) in
    let after : Agree statics₁ (set statics₁ (of_stmt n) e) n₁ (size p) =
    λ j x y. get_or-set_other statics₁ (of_stmt n) j e no_sets (omega arith) in (
      entered_last statics₁ n (one u p) (omega arith),
      kept_agree statics₁ (set statics₁ (of_stmt n) e) n₁ p (length-set statics₁ (of_stmt n) e) after
          (kept_filled statics n₁ p (omega arith)),
    )
kept_filled statics n (two b p q) room =
    let n₁ : StmtNo = further n 1 in
    let n₂ : StmtNo = further n (1 + size p) in
    let statics₁ : List Entry = filled statics n₁ p in
    let statics₂ : List Entry = filled statics₁ n₂ q in
    let e : Entry = entry_of (two b p q) in
    let statics₃ : List Entry = set statics₂ (of_stmt n) e in
    let len₁ : length statics₁ ≡ length statics = length_filled statics n₁ p in
    let len₂ : length statics₂ ≡ length statics₁ = length_filled statics₁ n₂ q in
    let len₃ : length statics₃ ≡ length statics₂ = length-set statics₂ (of_stmt n) e in
    let same : (j : ℕ) → of_stmt n < j → get_or statics₃ j no_sets ≡ get_or statics₂ j no_sets =
    λ j x. get_or-set_other statics₂ (of_stmt n) j e no_sets (omega arith) in
    let after₁ : Agree statics₁ statics₃ n₁ (size p) = λ j x y. same j (omega arith) ∙ filled_before statics₁ n₂ q j (omega arith) in
    let after₂ : Agree statics₂ statics₃ n₂ (size q) = λ j x y. same j (omega arith) in (
      entered_last statics₂ n (two b p q) (omega arith),
      kept_agree statics₁ statics₃ n₁ p (len₃ ∙ len₂) after₁ (kept_filled statics n₁ p (omega arith)),
      kept_agree statics₂ statics₃ n₂ q len₃ after₂ (kept_filled statics₁ n₂ q (omega arith)),
    )
