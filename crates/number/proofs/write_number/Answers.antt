-- `write_number` meets its contract: it returns early where there is no room, and else its stores are those of the number's bytes.
use Prim.Native.Nat.{ℕ, ◌/◌, ◌%◌}
use mathlib.Core.Path.{◌≡◌}
use native.Mathlib.Omega.{arith}
use Rattle.number.proofs.Laws.{length_at_least, two_bytes}
use Rattle.number.proofs.Writing.{too_large, too_short, one_stored, two_stored}
use Rattle.number.proofs.write_number.Goals as goal

pub returns-then-buf-at : goal.returns-then-buf-at
returns-then-buf-at c = too_short _ _ _ (omega (arith, length_at_least c.args.v))

pub returns-then-v-lt128 : goal.returns-then-v-lt128
returns-then-v-lt128 c =
    let v : ℕ = c.args.v in
    let byte : v % 256 ≡ v = omega arith in
    rw byte (one_stored _ _ _ (omega arith) (omega arith))

pub returns-then-buf-second : goal.returns-then-buf-second
returns-then-buf-second c = too_short _ _ _ (simp (two_bytes _ c.if-v-lt128.false) (omega arith))

pub returns-then-v-ge16384 : goal.returns-then-v-ge16384
returns-then-v-ge16384 c = too_large _ _ _ (omega arith)

pub returns : goal.returns
returns c =
    let v : ℕ = c.args.v in
    let high : v / 128 % 256 ≡ v / 128 = omega arith in
    rw high (two_stored _ _ _ (omega arith) (omega arith) (omega arith))
