-- Which question a text asks, by where its first word ends.
use Prim.Native.Nat.{ℕ, suc, ◌+◌, ◌-◌, ◌≤◌, ◌<◌}
use mathlib.Core.Path.{◌≡◌, sym, ap, ap₂, ◌∙◌}
use mathlib.Core.Bool.{true, false}
use mathlib.Core.List.{List}
use borrow.Author.Tests.{le-leb, lt-leb}
use lib.ListN.{length, take, drop}
use Rattle.texts.specs.Bytes.{bytes}
use Rattle.answers.specs.Words.{word_end}
use Rattle.answers.specs.Questions.{longest, first_word, after_word, one_word, bytes_in, set_in, of, of_bytes}
use Rattle.answers.specs.Questions.{order_in, numbers_in, of_tables, one_table, order, about_order}
use Rattle.answers.specs.Questions.{about_bytes, about_reaction, behind_bytes, with_bytes, asked, question}
use Rattle.answers.proofs.Blanks.{rest_is}
use Rattle.std.specs.Prelude.{Option}

-- what is left of a text behind the blank at a place
abbrev pub left : List ℕ → ℕ → List ℕ
left text end = take (length text - (end + 1)) (drop (end + 1) text)

module _ (text : List ℕ) (end : ℕ) (is : end ≡ word_end text) where
  pub one_word_lem : length text ≤ end → one_word text ≡ true
  one_word_lem h = rw (← is) (le-leb (length text) end h)

  pub more_words : end < length text → one_word text ≡ false
  more_words h = rw (← is) (lt-leb (length text) end h)

  first_is : take end text ≡ first_word text
  first_is = ap (λ (k : ℕ). take k text) is

  left_is : left text end ≡ after_word text
  left_is = rest_is text end ∙ ap (λ (k : ℕ). drop (suc k) text) is

  module _ (word s : List ℕ) where
    -- two words that are sets, or are none
    pub behind_two : {x y : Option ℕ} → end < length text → set_in (take end text) ≡ x → set_in (left text end) ≡ y
        → behind_bytes word s text ≡ of x (λ state. of y (about_reaction word s state))
    unfolding behind_bytes
    behind_two h state event =
        let first = sym (ap set_in first_is) ∙ state in
        let second = sym (ap set_in left_is) ∙ event in
        rw (more_words h) (ap₂ (λ (a b : Option ℕ). of a (λ state. of b (about_reaction word s state))) first second)

    -- the bytes in the first word, and whether there is another
    pub about_bytes_lem : bytes_in (take end text) ≡ bytes s → of_bytes (bytes_in (first_word text)) (with_bytes word text) ≡ with_bytes word text s
    unfolding of_bytes
    about_bytes_lem e = rw (sym (ap bytes_in first_is) ∙ e)

    pub with_one : length text ≤ end → with_bytes word text s ≡ about_bytes word s
    unfolding with_bytes
    with_one h = rw (one_word_lem h)

    pub with_more : end < length text → with_bytes word text s ≡ behind_bytes word s (left text end)
    unfolding with_bytes
    with_more h = rw (more_words h) (ap (behind_bytes word s) (sym left_is))

  -- an order, and what follows it
  pub order_then : {x : Option ℕ} → end < length text → order_in (take end text) ≡ x
      → about_order text ≡ of x (λ n. of_tables (numbers_in (left text end)) (one_table (order n)))
  unfolding about_order
  order_then h is_x =
      let first = sym (ap order_in first_is) ∙ is_x in
      rw (more_words h) (ap₂ (λ (a : Option ℕ) (l : List ℕ). of a (λ n. of_tables (numbers_in l) (one_table (order n)))) first (sym left_is))

  -- a question's word, and what follows it
  pub question_is : length text ≤ longest → end < length text → question text ≡ asked (take end text) (left text end)
  unfolding question
  question_is few h = rw (le-leb (length text) longest few, more_words h) (ap₂ asked (sym first_is) (sym left_is))
