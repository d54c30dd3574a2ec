-- Laws of bytes as they are read, a pair of digits at a time.
use Prim.Native.Nat.{ℕ, suc, ◌+◌, ◌*◌, ◌/◌, ◌≤◌, ◌<◌}
use mathlib.Core.Path.{◌≡◌, refl, sym, ap, ◌∙◌}
use mathlib.Core.Bool.{Bool, true, false}
use mathlib.Core.List.{List, [], ◌∷◌, ◌++◌, append_assoc, append-nil}
use native.Mathlib.Numerals.{add-one}
use native.Mathlib.Omega.{arith}
use borrow.Author.Tests.{le-leb, lt-leb, eq-eqb, ne_eqb, leb-true, eqb-true}
use lib.Dec.{eqb, leb}
use lib.ListN.{length, take, drop, get_or, set, length-append, length-drop}
use lib.Seq.{sets, sets-eq, drop-cons, take-append_seam}
use Rattle.std.specs.Prelude.{Option, Some, None}
use Rattle.texts.specs.Bytes.{byte_of, pairs_of, Paired, Decoded, bytes, malformed, bytes_of, bytes_within, pairs_within, Unhexed}
use Rattle.texts.proofs.Putting.{sets_append}

some_none : {n : ℕ} → Some n ≡ None → ⊥
some_none e = cc

-- What holds after i pairs: their bytes are there, and those of the digits left follow.
pub record Passing (text out₀ : List ℕ) (i : ℕ) (out : List ℕ) : Type 0 where
  pub done : List ℕ
  pub count : length done ≡ i
  pub all : pairs_of text ≡ done ++ pairs_of (drop (2 * i) text)
  pub laid : out ≡ sets out₀ 0 done

pub none_passed : (text out : List ℕ) → Passing text out 0 out
none_passed text out = record { done = []; count = refl; all = refl; laid = refl }

module _ {text out₀ : List ℕ} {i : ℕ} {out : List ℕ} (p : Passing text out₀ i out) where
  stops : pairs_of (drop (2 * i) text) ≡ [] → Paired text i out₀ out
  stops none =
      let whole : pairs_of text ≡ p.done = p.all ∙ rw none (append-nil p.done) in
      record { number = sym p.count ∙ ap length (sym whole); laid = p.laid ∙ rw whole }

  module _ (pair : 2 * i + 1 < length text) {r : Option ℕ} (is : r ≡ byte_of (get_or text (2 * i) 0) (get_or text (2 * i + 1) 0)) where
    first_pair : drop (2 * i) text ≡ get_or text (2 * i) 0 ∷ (get_or text (2 * i + 1) 0 ∷ drop (2 * (i + 1)) text)
    first_pair =
        let next : 2 * (i + 1) ≡ suc (suc (2 * i)) = omega arith in
        rw (drop-cons text (2 * i) 0 (omega arith), drop-cons text (suc (2 * i)) 0 (omega arith), add-one (2 * i), next)

    -- a byte more
    pub pair_next : {b : ℕ} → r ≡ Some b → Passing text out₀ (i + 1) (set out i b)
    unfolding pairs_of
    pair_next {b} some =
        let place : i ≡ 0 + length p.done = omega (arith, p.count) in
        let more : pairs_of (drop (2 * i) text) ≡ b ∷ pairs_of (drop (2 * (i + 1)) text) = rw (first_pair, ← is, some) in
        record {
          done = p.done ++ (b ∷ []);
          count = omega (arith, length-append p.done (b ∷ []), p.count);
          all = p.all ∙ rw more (sym (append_assoc p.done (b ∷ []) (pairs_of (drop (2 * (i + 1)) text))));
          laid = rw (sets_append out₀ 0 p.done (b ∷ []), ← p.laid) (ap (λ (k : ℕ). set out k b) place);
        }

    -- a pair that is no byte
    pub pair_bad : r ≡ None → Paired text i out₀ out
    unfolding pairs_of
    pair_bad none = stops (rw (first_pair, ← is, none))

  -- no pair is left
  pub pairs_end : {n : ℕ} → i ≡ n → length text ≤ 2 * n + 1 → Paired text n out₀ out
  unfolding pairs_of
  pairs_end is few = rw (sym is) (stops (few_left (drop (2 * i) text) (rw length-drop (omega arith))))
    where
      few_left : (l : List ℕ) → length l ≤ 1 → pairs_of l ≡ []
      few_left [] h = refl
      few_left (d ∷ []) h = refl
      few_left (d ∷ (e ∷ l)) h = absurd (omega arith)

-- two digits to a byte
pub pairs_few : (text : List ℕ) → 2 * length (pairs_of text) ≤ length text
unfolding pairs_of
pairs_few [] = omega arith
pairs_few (d ∷ []) = omega arith
pairs_few (high ∷ (low ∷ ds)) = go (byte_of high low) refl (pairs_few ds)
  where
    go : (r : Option ℕ) → byte_of high low ≡ r → 2 * length (pairs_of ds) ≤ length ds
        → 2 * length (pairs_of (high ∷ (low ∷ ds))) ≤ length (high ∷ (low ∷ ds))
    go (Some b) is few = rw is (omega arith)
    go None is few = rw is (omega arith)

-- the answer
pub no_room : (text out : List ℕ) → length out < length text / 2 → Unhexed text None out out
unfolding bytes_within pairs_within
no_room text out h =
    let over = lt-leb (length text / 2) (length out) h in
    record { answer = rw over; laid = rw over }

module _ (text out : List ℕ) (fits : length text / 2 ≤ length out) {n : ℕ} {out' : List ℕ} (p : Paired text n out out') where
  pub not_bytes : (2 * n ≡ length text → ⊥) → Unhexed text None out out'
  unfolding bytes_within pairs_within bytes_of
  not_bytes odd =
      let room = le-leb (length text / 2) (length out) fits in
      let some : eqb (2 * length (pairs_of text)) (length text) ≡ false = rw (sym p.number) (ne_eqb (2 * n) (length text) odd) in
      record { answer = rw (room, some); laid = rw room p.laid }

  pub are_bytes : 2 * n ≡ length text → Unhexed text (Some n) out out'
  unfolding bytes_within pairs_within bytes_of
  are_bytes even =
      let room = le-leb (length text / 2) (length out) fits in
      let all : eqb (2 * length (pairs_of text)) (length text) ≡ true = rw (sym p.number) (eq-eqb (2 * n) (length text) even) in
      record { answer = rw (room, all, ← p.number); laid = rw room p.laid }

-- where there is room for the bytes
pub within : (text : List ℕ) (room : ℕ) → length text / 2 ≤ room → bytes_within room text ≡ bytes_of text
unfolding bytes_within
within text room enough = rw (le-leb (length text / 2) room enough)

-- a text that is bytes: they are its pairs, and there is room for them
record Fits (text : List ℕ) (room : ℕ) (bs : List ℕ) : Type 0 where
  these : pairs_within room text ≡ bs
  room_for : length bs ≤ room

fits : (text : List ℕ) (room : ℕ) {bs : List ℕ} → bytes_within room text ≡ bytes bs → Fits text room bs
unfolding bytes_within pairs_within bytes_of
fits text room {bs} is = go (leb (length text / 2) room) (eqb (2 * length (pairs_of text)) (length text)) refl refl
  where
    no_way : malformed ≡ bytes bs → Fits text room bs
    no_way e = let z : ◌≡◌ {A = ℕ} 0 1 = cc in absurd (omega arith)

    go : (a b : Bool) → leb (length text / 2) room ≡ a → eqb (2 * length (pairs_of text)) (length text) ≡ b → Fits text room bs
    go true true e f =
        let both : bytes (pairs_of text) ≡ bytes bs = rw (e, f) at is in
        let one : pairs_of text ≡ bs = cc in
        record { these = rw e one; room_for = omega (arith, leb-true (length text / 2) room e, eqb-true (2 * length (pairs_of text)) (length text) f, ap length one) }
    go true false e f = no_way (rw (e, f) at is)
    go false b e f = no_way (rw e at is)

-- what a caller learns: bytes, which stand at the buffer's start, or none
module _ {text out out' : List ℕ} where
  pub were_bytes : {n : ℕ} → Unhexed text (Some n) out out' → bytes_within (length out) text ≡ bytes (take n out')
  were_bytes {n} u = by_text (bytes_within (length out) text) refl
    where
      by_text : (d : Decoded) → bytes_within (length out) text ≡ d → bytes_within (length out) text ≡ bytes (take n out')
      by_text malformed is = absurd (some_none {n = n} (u.answer ∙ rw is))
      by_text (bytes bs) is =
          let f = fits text (length out) is in
          let both : Some n ≡ Some (length bs) = u.answer ∙ rw is in
          let count : n ≡ length bs = cc in
          let whole : sets out 0 bs ≡ bs ++ drop (0 + length bs) out = sets-eq bs out 0 (omega (arith, f.room_for)) in
          let front : take n out' ≡ bs = rw (count, u.laid, f.these, whole) (take-append_seam bs (drop (0 + length bs) out)) in
          is ∙ ap bytes (sym front)

  pub were_none : Unhexed text None out out' → bytes_within (length out) text ≡ malformed
  were_none u = by_text (bytes_within (length out) text) refl
    where
      by_text : (d : Decoded) → bytes_within (length out) text ≡ d → bytes_within (length out) text ≡ malformed
      by_text malformed is = is
      by_text (bytes bs) is = absurd (some_none {n = length bs} (sym (u.answer ∙ rw is)))
