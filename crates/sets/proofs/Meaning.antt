-- K and R of a statement from those of its parts, over the words that the code makes.
use mathlib.Core.Path.{◌≡◌, ap, ◌∙◌, fun_ext}
use mathlib.Core.Bool.{Bool, ◌||◌}
use Prim.Native.Nat.{ℕ}
use lib.Dec.{eqb}
use Rattle.number.specs.declared.HaltNo.{HaltNo}
use Rattle.number.specs.declared.SignalNo.{SignalNo}
use Rattle.bits.specs.Bits.{has}
use Rattle.sheet.specs.declared.Leaf.TheVariants.{Nothing, Halt, Emit, Exit}
use Rattle.sheet.specs.declared.Unary.TheVariants.{Loop, Watching, Trap, Signal}
use Rattle.sheet.specs.declared.Binary.TheVariants.{Sequence, Present, Parallel}
use Rattle.sheet.specs.Stmt.{Stmt, leaf, one, two}
use Rattle.sets.specs.declared.Both.{Both}
use Rattle.sets.specs.Codes.{Codes, join, when, maxima, replaced, less0, with0, caught_codes}
use Rattle.sets.specs.Static.{K, R, has_halts}
use Rattle.sets.specs.Words.{Means}
use Rattle.sets.proofs.Words.{none_is, zero_is, one_is, code_is}

-- two words as one answer
abbrev pub both_of : ℕ → ℕ → Both
both_of k r = record { k = k; r = r }

-- statements without parts
pub means_nothing : Means (both_of 1 0) (leaf Nothing)
unfolding K R
means_nothing = record { starts = zero_is; resumes = none_is }

pub means_halt : (h : HaltNo) → Means (both_of 2 2) (leaf (Halt h))
unfolding K R
means_halt h = record { starts = one_is; resumes = one_is }

pub means_emit : (s : SignalNo) → Means (both_of 1 0) (leaf (Emit s))
unfolding K R
means_emit s = record { starts = zero_is; resumes = none_is }

pub means_exit : (k w : ℕ) → ((j : ℕ) → has w j ≡ (has 0 j || eqb j k)) → Means (both_of w 0) (leaf (Exit k))
unfolding K R
means_exit k w added = record { starts = code_is k w added; resumes = none_is }

-- with one part, whose words are p
module _ (p : Both) (t : Stmt) (part : Means p t) where
  pub means_loop : {k r : ℕ} → has k ≡ less0 (has p.k) → has r ≡ replaced (has p.r) (has k) → Means (both_of k r) (one Loop t)
  unfolding K R
  means_loop {k} {r} less back =
      let starts : has k ≡ less0 (K t) = less ∙ ap less0 part.starts in
      record { starts = starts; resumes = back ∙ (λ i. replaced (part.resumes i) (starts i)) }

  pub means_watching : (s : SignalNo) {r : ℕ} {b : Bool} {A : Codes} → b ≡ has_halts t → A ≡ with0 (has p.r) → has r ≡ when b A
      → Means (both_of p.k r) (one (Watching s) t)
  unfolding K R
  means_watching s some too there =
      record { starts = part.starts; resumes = there ∙ (λ i. when (some i) ((too ∙ ap with0 part.resumes) i)) }

  pub means_trap : {k r : ℕ} → has k ≡ caught_codes (has p.k) → has r ≡ caught_codes (has p.r) → Means (both_of k r) (one Trap t)
  unfolding K R
  means_trap k r = record { starts = k ∙ ap caught_codes part.starts; resumes = r ∙ ap caught_codes part.resumes }

  pub means_signal : (s : SignalNo) → Means p (one (Signal s) t)
  unfolding K R
  means_signal s = record { starts = part.starts; resumes = part.resumes }

-- with two, whose words are p and q
abbrev pub Joined : Codes → Codes → Codes → Type 0
Joined C A B = (j : ℕ) → C j ≡ (A j || B j)

module _ (p q : Both) (t v : Stmt) (left : Means p t) (right : Means q v) where
  pub means_sequence : {k r : ℕ} {A : Codes} → has k ≡ replaced (has p.k) (has q.k) → A ≡ replaced (has p.r) (has q.k)
      → Joined (has r) A (has q.r)
      → Means (both_of k r) (two Sequence t v)
  unfolding K R
  means_sequence starts on all =
      record {
        starts = starts ∙ (λ i. replaced (left.starts i) (right.starts i));
        resumes = fun_ext all ∙ (λ i. join ((on ∙ (λ j. replaced (left.resumes j) (right.starts j))) i) (right.resumes i));
      }

  pub means_present : (s : SignalNo) {k r : ℕ} → Joined (has k) (has p.k) (has q.k) → Joined (has r) (has p.r) (has q.r)
      → Means (both_of k r) (two (Present s) t v)
  unfolding K R
  means_present s starts resumes =
      record {
        starts = fun_ext starts ∙ (λ i. join (left.starts i) (right.starts i));
        resumes = fun_ext resumes ∙ (λ i. join (left.resumes i) (right.resumes i));
      }

  pub means_parallel : {k r : ℕ} → has k ≡ maxima (has p.k) (has q.k) → has r ≡ R (two Parallel t v)
      → Means (both_of k r) (two Parallel t v)
  unfolding K
  means_parallel starts resumes = record { starts = starts ∙ (λ i. maxima (left.starts i) (right.starts i)); resumes = resumes }

  -- R of a parallel: the maxima, and each side alone where the other may stand ended
  pub parallel_resumes : {e f : Bool} {X Y Alone Top All : Codes}
      → e ≡ (has q.k 0 || has q.r 0) → X ≡ when e (has p.r) → f ≡ (has p.k 0 || has p.r 0) → Y ≡ when f (has q.r)
      → Joined Alone X Y → Top ≡ maxima (has p.r) (has q.r) → Joined All Top Alone → All ≡ R (two Parallel t v)
  unfolding K R
  parallel_resumes {e} {f} {X} {Y} {Alone} ended x_is other y_is alone_is top_is all =
      let e_is : e ≡ (K v 0 || R v 0) = ended ∙ (λ i. right.starts i 0 || right.resumes i 0) in
      let f_is : f ≡ (K t 0 || R t 0) = other ∙ (λ i. left.starts i 0 || left.resumes i 0) in
      let first : X ≡ when (K v 0 || R v 0) (R t) = x_is ∙ (λ i. when (e_is i) (left.resumes i)) in
      let second : Y ≡ when (K t 0 || R t 0) (R v) = y_is ∙ (λ i. when (f_is i) (right.resumes i)) in
      let sides : Alone ≡ join (when (K v 0 || R v 0) (R t)) (when (K t 0 || R t 0) (R v)) =
      fun_ext alone_is ∙ (λ i. join (first i) (second i)) in
      fun_ext all ∙ (λ i. join ((top_is ∙ (λ j. maxima (left.resumes j) (right.resumes j))) i) (sides i))
