-- Sets made or asked word by word: what is so of each word is so of the set.
use Prim.Native.Nat.{ℕ, ◌+◌, ◌-◌, ◌*◌, ◌/◌, ◌%◌, ◌^◌, ◌<◌, ◌≤◌, min}
use mathlib.Core.Path.{◌≡◌, refl, sym, ap, ◌∙◌}
use mathlib.Core.Bool.{Bool, true, false, ◌||◌, or-false, true≢false}
use mathlib.Core.List.{List}
use native.Mathlib.Omega.{arith}
use native.Mathlib.Decide.{dec_lt, ℕ_discrete}
use lib.Dec.{eqb}
use lib.ListN.{length, get_or, set, length-set, get_or-eq_default}
use lib.Pow.{pow_pos}
use lib.Seq.{get_or-set_same, get_or-set_other}
use borrow.Author.Tests.{eq-eqb, ne_eqb}
use Rattle.number.proofs.Bools.{off}
use Rattle.bits.specs.declared.Bits.{Bits}
use Rattle.bits.specs.Bits.{has, none_from, no_bits, words, width, whole, words_of}
use Rattle.bits.specs.Code.{SameAt}
use Rattle.bits.proofs.Laws.{has_past}
use Rattle.bits.proofs.NoBits.{no_bits_lem, no_bits_same, bit_off}
use Rattle.bits.proofs.None.{none_past, past_none}
use Rattle.bits.proofs.Whole.{Proper, has_whole, has_word, has_wide, words_whole}

-- after i words: each of those is as P says of its place
pub record Made (P : ℕ → ℕ → Type 0) (ws : List ℕ) (i : ℕ) : Type 0 where
  pub long : length ws ≡ words
  pub small : (p : ℕ) → p < i → get_or ws p 0 < 2 ^ 64
  pub here : (p : ℕ) → p < i → P p (get_or ws p 0)

pub made_none : (P : ℕ → ℕ → Type 0) (ws : List ℕ) → length ws ≡ words → Made P ws 0
made_none P ws e = record { long = e; small = λ p h. absurd (omega arith); here = λ p h. absurd (omega arith) }

pub made_more : {P : ℕ → ℕ → Type 0} {ws : List ℕ} {i : ℕ} → Made P ws i → i < words → (v : ℕ) → v < 2 ^ 64 → P i v → Made P (set ws i v) (i + 1)
made_more {P} {ws} {i} m h v low e =
    record {
      long = length-set ws i v ∙ m.long;
      small = λ p k. small p (ℕ_discrete p i) k;
      here = λ p k. here p (ℕ_discrete p i) k;
    }
  where
    new : get_or (set ws i v) i 0 ≡ v
    new = get_or-set_same ws i v 0 (omega (arith, m.long))

    small : (p : ℕ) → Dec (p ≡ i) → p < i + 1 → get_or (set ws i v) p 0 < 2 ^ 64
    small p (yes q) k = rw (q, new) low
    small p (no n) k = rw (get_or-set_other ws i p v 0 n) (m.small p (omega arith))

    here : (p : ℕ) → Dec (p ≡ i) → p < i + 1 → P p (get_or (set ws i v) p 0)
    here p (yes q) k = rw (q, new) e
    here p (no n) k = rw (get_or-set_other ws i p v 0 n) (m.here p (omega arith))

pub made_proper : {P : ℕ → ℕ → Type 0} {ws : List ℕ} {i : ℕ} → Made P ws i → words ≤ i → Proper ws
made_proper {P} {ws} {i} m all = record { long = m.long; small = λ p. go p (dec_lt p words) }
  where
    go : (p : ℕ) → Dec (p < words) → get_or ws p 0 < 2 ^ 64
    go p (yes h) = m.small p (omega arith)
    go p (no h) = rw (get_or-eq_default ws 0 {n = p} (omega (arith, m.long))) (pow_pos 64)

-- words one of which is another are proper
pub set_proper : {ws : List ℕ} → Proper ws → (i v : ℕ) → v < 2 ^ 64 → Proper (set ws i v)
set_proper {ws} q i v low = record { long = length-set ws i v ∙ q.long; small = λ p. go p (ℕ_discrete p i) (dec_lt i (length ws)) }
  where
    go : (p : ℕ) → Dec (p ≡ i) → Dec (i < length ws) → get_or (set ws i v) p 0 < 2 ^ 64
    go p (yes e) (yes h) = rw (e, get_or-set_same ws i v 0 h) low
    go p (yes e) (no h) = rw (get_or-eq_default (set ws i v) 0 {n = p} (omega (arith, length-set ws i v))) (pow_pos 64)
    go p (no n) d = rw (get_or-set_other ws i p v 0 n) (q.small p)

-- a set is what its words are, and there is nothing past them
pub by_words : {b : Bits} → Proper b.words → (g : ℕ → Bool) → ((p k : ℕ) → p < words → k < 64 → has (get_or b.words p 0) k ≡ g (64 * p + k))
    → ((j : ℕ) → width ≤ j → g j ≡ false) → (j : ℕ) → has (whole b) j ≡ g j
by_words {b} proper g inside past j = go (dec_lt j width)
  where
    go : Dec (j < width) → has (whole b) j ≡ g j
    go (yes h) =
        let e : 64 * (j / 64) + j % 64 ≡ j = omega arith in
        has_whole {b = b} proper j ∙ rw e at (inside (j / 64) (j % 64) (omega arith) (omega arith))
    go (no h) = has_wide {b = b} proper j (omega arith) ∙ sym (past j (omega arith))

-- one number more in one word
pub added : (ws : List ℕ) (k v p m : ℕ) → k / 64 < length ws → m < 64
    → ((j : ℕ) → has v j ≡ (has (get_or ws (k / 64) 0) j || eqb j (k % 64)))
    → has (get_or (set ws (k / 64) v) p 0) m ≡ (has (get_or ws p 0) m || eqb (64 * p + m) k)
added ws k v p m inside small f = go (ℕ_discrete p (k / 64))
  where
    same : Dec (m ≡ k % 64) → p ≡ k / 64 → eqb m (k % 64) ≡ eqb (64 * p + m) k
    same (yes e) q = eq-eqb m (k % 64) e ∙ sym (eq-eqb (64 * p + m) k (omega arith))
    same (no n) q = ne_eqb m (k % 64) n ∙ sym (ne_eqb (64 * p + m) k (λ e. n (omega arith)))

    go : Dec (p ≡ k / 64) → has (get_or (set ws (k / 64) v) p 0) m ≡ (has (get_or ws p 0) m || eqb (64 * p + m) k)
    go (yes q) = rw (q, get_or-set_same ws (k / 64) v 0 inside, f m) (ap (λ (x : Bool). has (get_or ws (k / 64) 0) m || x) (same (ℕ_discrete m (k % 64)) q ∙ ap (λ (x : ℕ). eqb (64 * x + m) k) q))
    go (no n) =
        rw (get_or-set_other ws (k / 64) p v 0 n, ne_eqb (64 * p + m) k (λ q. n (omega arith)))
        (sym (or-false (has (get_or ws p 0) m)))

-- the numbers from a to before b that are below 64 i are not in the set
pub record Off (W a b i : ℕ) : Type 0 where
  pub gone : (j : ℕ) → a ≤ j → j < b → j < 64 * i → has W j ≡ false

pub off_none : (W a b : ℕ) → Off W a b 0
off_none W a b = record { gone = λ j l r h. absurd (omega arith) }

-- .. nor those in word i
off_more : {W a b i : ℕ} → Off W a b i → ((m : ℕ) → m < 64 → a ≤ 64 * i + m → 64 * i + m < b → has W (64 * i + m) ≡ false) → Off W a b (i + 1)
off_more {W} {a} {b} {i} o f = record { gone = λ j l r h. go j l r h (dec_lt j (64 * i)) }
  where
    go : (j : ℕ) → a ≤ j → j < b → j < 64 * (i + 1) → Dec (j < 64 * i) → has W j ≡ false
    go j l r h (yes k) = o.gone j l r k
    go j l r h (no k) =
        let m : ℕ = j - 64 * i in
        let e : 64 * i + m ≡ j = omega arith in
        rw e at (f m (omega arith) (omega arith) (omega arith))

module _ {s : Bits} (proper : Proper s.words) (i : ℕ) where
  abbrev word : ℕ
  word = get_or s.words i 0

  pub none_more : {k b : ℕ} → Off (whole s) k b i → none_from (k - 64 * i) word ≡ true → Off (whole s) k b (i + 1)
  none_more {k} {b} o e =
      off_more o (λ m h l r. has_word {b = s} proper i m h ∙ none_past (k - 64 * i) word e m (omega arith))

  pub none_stop : (k : ℕ) → none_from (k - 64 * i) word ≡ false → none_from k (whole s) ≡ false
  none_stop k e =
      off (none_from k (whole s)) (λ on. let z : true ≡ false = sym (past_none (k - 64 * i) word (λ m l. go on m l (dec_lt m 64))) ∙ e in true≢false z)
    where
      go : none_from k (whole s) ≡ true → (m : ℕ) → k - 64 * i ≤ m → Dec (m < 64) → has word m ≡ false
      go on m l (yes h) = sym (has_word {b = s} proper i m h) ∙ none_past k (whole s) on (64 * i + m) (omega arith)
      go on m l (no h) = has_past 64 word m (proper.small i) (omega arith)

  pub bits_within : (a n : ℕ) → i ≡ 0 → a + n ≤ 64 → no_bits n a (has word) ≡ no_bits n a (has (whole s))
  bits_within a n first few = no_bits_same n a (has word) (has (whole s)) (λ j l r. sym (here j (omega arith)))
    where
      here : (j : ℕ) → j < 64 → has (whole s) j ≡ has word j
      here j h =
          let e : 64 * i + j ≡ j = omega arith in
          rw e at (has_word {b = s} proper i j h)

  pub bits_more : (a n : ℕ) → Off (whole s) a (a + n) i
      → no_bits (min (a + n - 64 * i) 64 - min (a - 64 * i) 64) (min (a - 64 * i) 64) (has word) ≡ true → Off (whole s) a (a + n) (i + 1)
  bits_more a n o e =
      let first : ℕ = min (a - 64 * i) 64 in
      let past : ℕ = min (a + n - 64 * i) 64 in
      off_more o (λ m h l r. has_word {b = s} proper i m h ∙ bit_off (past - first) first (has word) e m (omega arith) (omega arith))

  pub bits_stop : (a n : ℕ) → no_bits (min (a + n - 64 * i) 64 - min (a - 64 * i) 64) (min (a - 64 * i) 64) (has word) ≡ false
      → no_bits n a (has (whole s)) ≡ false
  bits_stop a n e =
      off (no_bits n a (has (whole s))) (λ on. let z : true ≡ false = sym (no_bits_lem (past - first) first (has word) (go on)) ∙ e in true≢false z)
    where
      first : ℕ
      first = min (a - 64 * i) 64

      past : ℕ
      past = min (a + n - 64 * i) 64

      go : no_bits n a (has (whole s)) ≡ true → (m : ℕ) → first ≤ m → m < first + (past - first) → has word m ≡ false
      go on m l r =
          sym (has_word {b = s} proper i m (omega arith)) ∙ bit_off n a (has (whole s)) on (64 * i + m) (omega arith) (omega arith)

pub none_all : {s : Bits} → Proper s.words → {k : ℕ} → Off (whole s) k width words → none_from k (whole s) ≡ true
none_all {s} proper {k} o = past_none k (whole s) (λ j l. go j l (dec_lt j width))
  where
    go : (j : ℕ) → k ≤ j → Dec (j < width) → has (whole s) j ≡ false
    go j l (yes h) = o.gone j l h h
    go j l (no h) = has_wide {b = s} proper j (omega arith)

pub bits_all : (W a n : ℕ) → a + n ≤ width → Off W a (a + n) words → no_bits n a (has W) ≡ true
bits_all W a n h o = no_bits_lem n a (has W) (λ j l r. o.gone j l r (omega arith))

-- the words compared so far are the same at what is in the third
pub record Alike (w a b : List ℕ) (i : ℕ) : Type 0 where
  pub alike : (p : ℕ) → p < i → SameAt 64 (get_or w p 0) (get_or a p 0) (get_or b p 0) true

pub alike_none : (w a b : List ℕ) → Alike w a b 0
alike_none w a b = record { alike = λ p h. absurd (omega arith) }

pub alike_more : {w a b : List ℕ} {i : ℕ} {r : Bool} → Alike w a b i → SameAt 64 (get_or w i 0) (get_or a i 0) (get_or b i 0) r → r ≡ true
    → Alike w a b (i + 1)
alike_more {w} {a} {b} {i} {r} o s e = record { alike = λ p h. go p h (ℕ_discrete p i) }
  where
    here : SameAt 64 (get_or w i 0) (get_or a i 0) (get_or b i 0) true
    here = rw e at s

    go : (p : ℕ) → p < i + 1 → Dec (p ≡ i) → SameAt 64 (get_or w p 0) (get_or a p 0) (get_or b p 0) true
    go p h (yes q) = rw q here
    go p h (no n) = o.alike p (omega arith)

module _ {w a b : Bits} (pw : Proper w.words) (pa : Proper a.words) (pb : Proper b.words) where
  pub alike_all : Alike w.words a.words b.words words → SameAt width (whole w) (whole a) (whole b) true
  alike_all o = record { same = λ e j on. go j on (dec_lt j width); differ = λ e. absurd (true≢false e) }
    where
      go : (j : ℕ) → (j < width → has (whole w) j ≡ true) → Dec (j < width) → has (whole a) j ≡ has (whole b) j
      go j on (yes h) =
          let p : ℕ = j / 64 in
          has_whole {b = a} pa j
          ∙ (o.alike p (omega arith)).same refl (j % 64) (λ k. sym (has_whole {b = w} pw j) ∙ on h)
          ∙ sym (has_whole {b = b} pb j)
      go j on (no h) = has_wide {b = a} pa j (omega arith) ∙ sym (has_wide {b = b} pb j (omega arith))

  pub alike_stop : (i : ℕ) {r : Bool} → SameAt 64 (get_or w.words i 0) (get_or a.words i 0) (get_or b.words i 0) r → r ≡ false
      → SameAt width (whole w) (whole a) (whole b) false
  alike_stop i s e =
      record {
        same = λ on. absurd (true≢false (sym on));
        differ = λ f same. s.differ e (ap (λ (ws : List ℕ). get_or ws i 0) (words_of' same));
      }
    where
      words_of' : whole a ≡ whole b → a.words ≡ b.words
      words_of' same = sym (words_whole {b = a} pa) ∙ ap (λ (n : ℕ). words_of words n) same ∙ words_whole {b = b} pb
