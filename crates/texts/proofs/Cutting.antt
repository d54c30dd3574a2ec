-- The laws of the lines of an input: the first of them, those without a newline, and how reads join.
use Prim.Native.Nat.{ℕ, suc, ◌<◌}
use mathlib.Core.Path.{◌≡◌, refl, sym, ap}
use mathlib.Core.Bool.{Bool, true, false}
use mathlib.Core.List.{List, [], ◌∷◌, ◌++◌, append_assoc, append-nil}
use native.Mathlib.Omega.{arith}
use lib.Dec.{eqb}
use lib.ListN.{length, drop}
use Rattle.texts.specs.Written.{newline}
use Rattle.texts.specs.Lines.{Lines, behind, lines_from, last_line, lines_in}
use Rattle.texts.specs.Reads.{before_newline, has_newline}
use Rattle.texts.proofs.Truth.{true_false}

-- the first line is cut off at the first newline
pub by_newline : (held u : List ℕ) → has_newline u ≡ true
    → lines_from held u ≡ behind (held ++ before_newline u) (lines_from [] (drop (suc (length (before_newline u))) u))
unfolding has_newline before_newline lines_from
by_newline held [] is = true_false (sym is)
by_newline held (b ∷ u) is = go (eqb b newline) refl (by_newline (held ++ (b ∷ [])) u)
  where
    go : (e : Bool) → eqb b newline ≡ e
        → (has_newline u ≡ true → lines_from (held ++ (b ∷ [])) u
        ≡ behind ((held ++ (b ∷ [])) ++ before_newline u) (lines_from [] (drop (suc (length (before_newline u))) u)))
        → lines_from held (b ∷ u) ≡ behind (held ++ before_newline (b ∷ u)) (lines_from [] (drop (suc (length (before_newline (b ∷ u)))) (b ∷ u)))
    go true ends rest = rw (ends, append-nil held)
    go false other rest = rw (other, rest (rw other at is), append_assoc held (b ∷ []) (before_newline u))

-- where there is none all of it is left
pub no_newline : (held u : List ℕ) → has_newline u ≡ false → lines_from held u ≡ record { whole = []; left = held ++ before_newline u }
unfolding has_newline before_newline lines_from
no_newline held [] is = rw (append-nil held)
no_newline held (b ∷ u) is = go (eqb b newline) refl (no_newline (held ++ (b ∷ [])) u)
  where
    go : (e : Bool) → eqb b newline ≡ e
        → (has_newline u ≡ false → lines_from (held ++ (b ∷ [])) u ≡ record { whole = []; left = (held ++ (b ∷ [])) ++ before_newline u })
        → lines_from held (b ∷ u) ≡ record { whole = []; left = held ++ before_newline (b ∷ u) }
    go true ends rest = true_false (rw ends at is)
    go false other rest = rw (other, rest (rw other at is), append_assoc held (b ∷ []) (before_newline u))

pub all_before : (u : List ℕ) → has_newline u ≡ false → before_newline u ≡ u
unfolding has_newline before_newline
all_before [] is = refl
all_before (b ∷ u) is = go (eqb b newline) refl (all_before u)
  where
    go : (e : Bool) → eqb b newline ≡ e → (has_newline u ≡ false → before_newline u ≡ u) → before_newline (b ∷ u) ≡ b ∷ u
    go true ends rest = true_false (rw ends at is)
    go false other rest = rw (other, rest (rw other at is))

pub short_of_newline : (u : List ℕ) → has_newline u ≡ true → length (before_newline u) < length u
unfolding has_newline before_newline
short_of_newline [] is = true_false (sym is)
short_of_newline (b ∷ u) is = go (eqb b newline) refl (short_of_newline u)
  where
    go : (e : Bool) → eqb b newline ≡ e → (has_newline u ≡ true → length (before_newline u) < length u) → length (before_newline (b ∷ u)) < suc (length u)
    go true ends rest = rw ends (omega arith)
    go false other rest = let less = rest (rw other at is) in rw other (omega arith)

-- the lines of bytes without a newline
pub none_of_none : (ended : Bool) → lines_in ended [] [] ≡ []
unfolding lines_in lines_from last_line
none_of_none true = refl
none_of_none false = refl

pub only_last : {ended : Bool} (held u : List ℕ) → has_newline u ≡ false → ended ≡ true → lines_in ended held u ≡ last_line (held ++ before_newline u)
unfolding lines_in
only_last held u is ends = rw (no_newline held u is, ends)

pub only_left : {ended : Bool} (held u : List ℕ) → has_newline u ≡ false → ended ≡ false → lines_in ended held u ≡ []
unfolding lines_in
only_left held u is ends = rw (no_newline held u is, ends)

-- a line of which something is kept
pub last_is : (l : List ℕ) → 0 < length l → last_line l ≡ l ∷ []
unfolding last_line
last_is [] some = absurd (omega arith)
last_is (b ∷ l) some = refl

pub last_none : (l : List ℕ) → length l ≡ 0 → last_line l ≡ []
unfolding last_line
last_none [] none = refl
last_none (b ∷ l) none = absurd (omega arith)

-- Lines of some bytes and of those behind them: however the input is cut into reads, its lines are the same.
abbrev going_on : Lines → List ℕ → Lines
going_on x b = record { whole = x.whole ++ (lines_from x.left b).whole; left = (lines_from x.left b).left }

lines_joined : (held a b : List ℕ) → lines_from held (a ++ b) ≡ going_on (lines_from held a) b
unfolding lines_from
lines_joined held [] b = refl
lines_joined held (x ∷ a) b = go (eqb x newline) refl (lines_joined [] a b) (lines_joined (held ++ (x ∷ [])) a b)
  where
    go : (e : Bool) → eqb x newline ≡ e → lines_from [] (a ++ b) ≡ going_on (lines_from [] a) b
        → lines_from (held ++ (x ∷ [])) (a ++ b) ≡ going_on (lines_from (held ++ (x ∷ [])) a) b
        → lines_from held (x ∷ (a ++ b)) ≡ going_on (lines_from held (x ∷ a)) b
    go true is fresh on = rw (is, fresh)
    go false is fresh on = rw (is, on)

pub read_on : (ended : Bool) (held a b : List ℕ) → lines_in ended held (a ++ b) ≡ lines_in false held a ++ lines_in ended (lines_from held a).left b
unfolding lines_in
read_on ended held a b = rw (lines_joined held a b, append-nil (lines_from held a).whole) (append_assoc (lines_from held a).whole _ _)

pub left_on : (held a b : List ℕ) → (lines_from held (a ++ b)).left ≡ (lines_from (lines_from held a).left b).left
left_on held a b = ap (λ (l : Lines). l.left) (lines_joined held a b)
