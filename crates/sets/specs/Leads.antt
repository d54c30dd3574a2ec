-- Not to be believed: what the code keeps to; the proofs check it.
-- TWICE from the root down: instead of climbing from each X with its codes, go down with the codes that lead to the fault from here up. The
-- climb of each code is its own, so the two find the same X (`led_twice`).
use Rattle.std.specs.Prelude.{Bool, true, false, ◌&&◌, ◌||◌, ◌≡◌, ℕ, zero, suc, ◌+◌, ◌^◌, ◌<◌, ltb, Option, Some, None}
use Rattle.limits.specs.Limits.{max_codes}
use Rattle.bits.specs.Bits.{has}
use Rattle.number.specs.declared.StmtNo.{StmtNo}
use Rattle.number.specs.Number.{pick}
use Rattle.sheet.specs.declared.Unary.{Unary}
use Rattle.sheet.specs.declared.Unary.TheVariants.{Loop, Watching, Trap, Signal}
use Rattle.sheet.specs.declared.Binary.{Binary}
use Rattle.sheet.specs.declared.Binary.TheVariants.{Sequence, Present, Parallel}
use Rattle.sheet.specs.declared.Head.{Head}
use Rattle.sheet.specs.declared.Head.TheVariants.{Zero, One, Two}
use Rattle.sheet.specs.Stmt.{Stmt, leaf, one, two, size}
use Rattle.sheet.specs.Read.{further}
use Rattle.sets.specs.Codes.{Codes, join, when, upto, with0}
use Rattle.sets.specs.Static.{K, R}
use Rattle.sets.specs.Faults.{or_else}

-- some code below n is in A; in both A and B
unfoldable pub some : ℕ → Codes → Bool
some zero A = false
some (suc n) A = A 0 || some n (λ j. A (suc j))

abbrev pub both : Codes → Codes → Codes
both A B j = A j && B j

unfoldable pub meet : ℕ → Codes → Codes → Bool
meet n A B = some n (both A B)

-- some code below n and at least j is in A
abbrev pub downto : ℕ → Codes → Codes
downto zero A j = false
downto (suc n) A zero = A 0 || downto n (λ i. A (suc i)) zero
downto (suc n) A (suc j) = downto n (λ i. A (suc i)) j

-- a word has the codes below n up to the largest that two words have in common
pub record UpTo (n a b w : ℕ) : Type 0 where
  pub codes : has w ≡ downto n (both (has a) (has b))
  pub small : w < 2 ^ n

-- the codes of A that some code of B does not exceed
abbrev pub at_least : Codes → Codes → Codes
at_least A B j = A j && upto B j

-- the codes that lead to F from the left of a sequence: 0, where the right may start with one of F, and those of F besides 0
unfoldable pub leads_sequence : Codes → Codes → Codes
leads_sequence K F zero = meet max_codes K F
leads_sequence K F (suc j) = F (suc j)

-- from a trap's body: the codes, of those that there are, which the trap takes to one of F
abbrev pub leads_trap : Codes → Codes
leads_trap F zero = F 0
leads_trap F (suc zero) = F 1
leads_trap F (suc (suc zero)) = F 0
leads_trap F (suc (suc (suc j))) = ltb (suc (suc (suc j))) max_codes && F (suc (suc j))

-- from a side of a parallel whose other side resumes with R, and may stand ended or not: the codes with which the larger is one of F
abbrev pub leads_parallel : Bool → Codes → Codes → Codes
leads_parallel ended R F = join (join (at_least F R) (downto max_codes (both R F))) (when ended F)

-- from the part of a statement with one part, and from the left and the right of one with two: what a climb makes of its codes at each
-- statement, backwards, and nothing else of it, stands here
unfoldable pub leads_one : Unary → Codes → Codes
leads_one Loop F = with0 F
leads_one (Watching s) F = F
leads_one Trap F = leads_trap F
leads_one (Signal s) F = F

unfoldable pub leads_left : Binary → Stmt → Codes → Codes
leads_left Sequence q F = leads_sequence (K q) F
leads_left (Present s) q F = F
leads_left Parallel q F = leads_parallel (K q 0 || R q 0) (R q) F

-- behind a left without 0 in K, a wall, no code leads to the fault of a loop further out
unfoldable pub leads_right : Binary → Stmt → Codes → Codes
leads_right Sequence p F = when (K p 0) F
leads_right (Present s) p F = F
leads_right Parallel p F = leads_parallel (K p 0 || R p 0) (R p) F

-- "some loop"
abbrev pub is_loop : Unary → Bool
is_loop Loop = true
is_loop (Watching s) = false
is_loop Trap = false
is_loop (Signal s) = false

-- "each parallel or signal statement X"
abbrev pub is_x : Head → Bool
is_x (Zero l) = false
is_x (One Loop) = false
is_x (One (Watching s)) = false
is_x (One Trap) = false
is_x (One (Signal s)) = true
is_x (Two Sequence) = false
is_x (Two (Present s)) = false
is_x (Two Parallel) = true

-- the first X of the statement with the number n that has a code of F in its R, F being what leads on from each part
unfoldable pub first_led : Codes → StmtNo → Stmt → Option StmtNo
first_led F n (leaf l) = None
first_led F n (one u p) = pick (is_x (One u) && meet max_codes (R (one u p)) F) (Some n) (first_led (leads_one u F) (further n 1) p)
first_led F n (two b p q) =
    pick (is_x (Two b) && meet max_codes (R (two b p q)) F) (Some n)
    (or_else (first_led (leads_left b q F) (further n 1) p) (first_led (leads_right b p F) (further n (1 + size p)) q))
