-- Whether a state fits, by what the walk finds at each row.
use mathlib.Core.Path.{◌≡◌, refl, sym, ap, ◌∙◌, subst}
use mathlib.Core.Bool.{Bool, true, false, not, ◌&&◌, ◌||◌}
use mathlib.Core.List.{List}
use Prim.Native.Nat.{ℕ, ◌+◌, ◌<◌, ◌≤◌}
use native.Mathlib.Omega.{arith}
use lib.ListN.{length}
use Rattle.limits.specs.Limits.{max_halts}
use Rattle.bits.specs.Bits.{has, boot}
use Rattle.number.specs.declared.HaltNo.{HaltNo}
use Rattle.number.specs.declared.StmtNo.{StmtNo}
use Rattle.number.specs.Counts.{halt_no, of_halt, of_stmt}
use Rattle.number.specs.Number.{pick}
use Rattle.sheet.specs.declared.Leaf.{Leaf}
use Rattle.sheet.specs.declared.Unary.{Unary}
use Rattle.sheet.specs.declared.Binary.{Binary}
use Rattle.sheet.specs.declared.Binary.TheVariants.{Sequence, Present, Parallel}
use Rattle.sheet.specs.declared.Head.TheVariants.{Zero, One, Two}
use Rattle.sheet.specs.Stmt.{Stmt, one, two, halt_count}
use Rattle.sheet.specs.Read.{further}
use Rattle.sheet.specs.Rows.{halts_on, row_at, Holds}
use Rattle.sheet.specs.Form.{Proper}
use Rattle.sheet.proofs.Notions.{proper_exits}
use Rattle.sheet.proofs.Walk.{IsTwo, is_leaf, is_one, is_two, holds_second, past_of}
use Rattle.sets.specs.Static.{K, R}
use Rattle.sets.specs.Words.{Low, Entered, Kept}
use Rattle.sets.proofs.Bounds.{exits_low}
use Rattle.sets.proofs.Searching.{kept_own}
use Rattle.number.proofs.Bools.{taut}
use Rattle.rules.specs.Rules.{Halts, active}
use Rattle.rules.specs.States.{no_halts_from, may_end, apart, fits}
use Rattle.rules.specs.Words.{halts_in, sides_fit, Runnable, Inside, Known, PartsFit, ToldApart, root, KnownRoot, Fitted}
use Rattle.rules.proofs.Walks.{holds_one, run_one, run_left, run_right, inside_few, run_proper}
use Rattle.sets.specs.declared.Entry.{Entry}
use Rattle.sheet.specs.declared.Row.{Row}

-- what is known of a statement that the rows hold at m is known of what can be run there
known_at : {rows : List Row} {statics : List Entry} {m : StmtNo} (r : Runnable rows m) (a : HaltNo) (t : Stmt) → Holds rows m a t → Low t → Kept statics m t
    → Known rows statics m
known_at {rows} {statics} {m} r a t h low kept =
    let tree : t ≡ r.stmt = holds_one rows m a r.first t r.stmt h r.holds in
    record { run = r; low = subst Low tree low; kept = subst (λ (x : Stmt). Kept statics m x) tree kept }

-- what is known of the statement at row n is known of its parts
module _ {rows : List Row} {statics : List Entry} {n : StmtNo} (known : Known rows statics n) where
  abbrev run : Runnable rows n
  run = known.run

  pub known_inside : of_stmt n < length statics
  known_inside = (kept_own statics n run.stmt known.kept).inside

  known_of : (a : HaltNo) (t : Stmt) → Holds rows n a t → Low t × Kept statics n t
  known_of a t h =
      let tree : run.stmt ≡ t = holds_one rows n run.first a run.stmt t run.holds h in
      (subst Low tree known.low, subst (λ (x : Stmt). Kept statics n x) tree known.kept)

  pub known_one : {u : Unary} → (row_at rows n).head ≡ One u → Known rows statics (further n 1)
  unfolding Low Kept
  known_one {u} e =
      let k = is_one rows n run.first run.stmt run.holds e in
      let low : Low (one u k.part) = subst Low k.is known.low in
      let kept : Kept statics n (one u k.part) = subst (λ (x : Stmt). Kept statics n x) k.is known.kept in
      known_at (run_one run e) run.first k.part k.holds low kept.1

  module _ {b : Binary} (e : (row_at rows n).head ≡ Two b) where
    sides : IsTwo rows n run.first run.stmt b
    sides = is_two rows n run.first run.stmt run.holds e

    both_low : Low sides.left × Low sides.right
    unfolding Low
    both_low = subst Low sides.is known.low

    both_kept : Kept statics (further n 1) sides.left × Kept statics (row_at rows (further n 1)).end sides.right
    unfolding Kept
    both_kept =
        let kept : Kept statics n (two b sides.left sides.right) = subst (λ (x : Stmt). Kept statics n x) sides.is known.kept in
        (kept.1, subst (λ (m : StmtNo). Kept statics m sides.right) (sym sides.second) kept.2)

    pub known_left : Known rows statics (further n 1)
    known_left = known_at (run_left run e) run.first sides.left sides.holds_left both_low.0 both_kept.0

    pub known_right : Known rows statics (row_at rows (further n 1)).end
    known_right =
        known_at (run_right run e) (halts_on run.first (halt_count sides.left)) sides.right (holds_second rows n run.first sides)
        both_low.1 both_kept.1

regroup : (a b c d : Bool) → (a && (b && (c && d))) ≡ ((a && b) && (c && d))
regroup = taut 4 0 _ _ _ tt

apart_two : (H : Halts) (b : Binary) (x y : Stmt)
    → apart H (two b x y) ≡ (sides_fit b (active H x) (active H y) (may_end x) (may_end y) && (apart H x && apart H y))
unfolding apart
apart_two H Sequence x y = refl
apart_two H (Present s) x y = refl
apart_two H Parallel x y =
    regroup (not (active H x) || (active H y || may_end y)) (not (active H y) || (active H x || may_end x)) (apart H x) (apart H y)

module _ (rows : List Row) (n : StmtNo) (w : ℕ) where
  pub apart_leaf : {l : Leaf} → (row_at rows n).head ≡ Zero l → ToldApart rows n w true
  unfolding apart
  apart_leaf head = record { answer = λ a t h. rw (is_leaf rows n a t h head) }

  pub apart_one : {u : Unary} {r : Bool} → (row_at rows n).head ≡ One u → ToldApart rows (further n 1) w r → ToldApart rows n w r
  unfolding apart
  apart_one {r = r} head part = record { answer = answer }
    where
      answer : (a : HaltNo) (t : Stmt) → Holds rows n a t → r ≡ apart (halts_in w) t
      answer a t h = let k = is_one rows n a t h head in rw k.is (part.answer a k.part k.holds)

-- what `may_end` ensures of the statement at row n
abbrev pub Ends : List Entry → StmtNo → Bool → Type 0
Ends statics n x = (t : Stmt) → Low t → Entered statics n t → x ≡ (K t 0 || R t 0)

known_ends : {rows : List Row} {statics : List Entry} {n : StmtNo} {x : Bool} → Known rows statics n → Ends statics n x → (a : HaltNo) (t : Stmt)
    → Holds rows n a t → x ≡ may_end t
known_ends {statics = statics} {n = n} known ends a t h = let all = known_of known a t h in ends t all.0 (kept_own statics n t all.1)

same_sides : (b : Binary) (p p' q q' x x' y y' : Bool) → p ≡ p' → q ≡ q' → x ≡ x' → y ≡ y' → sides_fit b p q x y ≡ sides_fit b p' q' x' y'
same_sides b p p' q q' x x' y y' hp hq hx hy = rw (hp, hq, hx, hy)

-- the parts' halts, and whether each part may end
pub parts_answer : {rows : List Row} {statics : List Entry} {m n : StmtNo} {p q x y : Bool} (b : Binary) (w : ℕ) → Known rows statics m × Known rows statics n
    → Inside rows m w p → Inside rows n w q → Ends statics m x → Ends statics n y → PartsFit rows b m n w (sides_fit b p q x y)
parts_answer {rows} {m = m} {n} {p} {q} {x} {y} b w known in_m in_n ends_m ends_n = record { answer = answer }
  where
    answer : (a c : HaltNo) (s t : Stmt) → Holds rows m a s → Holds rows n c t
        → sides_fit b p q x y ≡ sides_fit b (active (halts_in w) s) (active (halts_in w) t) (may_end s) (may_end t)
    answer a c s t hs ht =
        same_sides b p (active (halts_in w) s) q (active (halts_in w) t) x (may_end s) y (may_end t)
        (in_m.answer a s hs) (in_n.answer c t ht) (known_ends known.0 ends_m a s hs) (known_ends known.1 ends_n c t ht)

second_off : (a b : Bool) → false ≡ (a && (false && b))
second_off = taut 2 0 _ _ _ tt

module _ {rows : List Row} (n : StmtNo) {b : Binary} {fit : Bool} (w : ℕ) (head : (row_at rows n).head ≡ Two b)
    (parts : PartsFit rows b (further n 1) (row_at rows (further n 1)).end w fit) where
  abbrev H : Halts
  H = halts_in w

  rule : (a : HaltNo) (t : Stmt) → Holds rows n a t → (k : IsTwo rows n a t b)
      → apart H t ≡ (fit && (apart H k.left && apart H k.right))
  rule a t h k =
      let second = holds_second rows n a k in
      let own = parts.answer a (halts_on a (halt_count k.left)) k.left k.right k.holds_left second in
      ap (apart H) k.is ∙ apart_two H b k.left k.right
      ∙ ap (λ (x : Bool). x && (apart H k.left && apart H k.right)) (sym own)

  pub apart_unfit : fit ≡ false → ToldApart rows n w false
  apart_unfit off = record { answer = answer }
    where
      answer : (a : HaltNo) (t : Stmt) → Holds rows n a t → false ≡ apart H t
      answer a t h = let k = is_two rows n a t h head in sym (rw off at (rule a t h k))

  pub apart_left_unfit : ToldApart rows (further n 1) w false → ToldApart rows n w false
  apart_left_unfit left = record { answer = answer }
    where
      answer : (a : HaltNo) (t : Stmt) → Holds rows n a t → false ≡ apart H t
      answer a t h =
          let k = is_two rows n a t h head in
          let off : apart H k.left ≡ false = sym (left.answer a k.left k.holds_left) in
          rw (rule a t h k, off) (second_off fit (apart H k.right))

  pub apart_rest : {r : Bool} → fit ≡ true → ToldApart rows (further n 1) w true → ToldApart rows (row_at rows (further n 1)).end w r
      → ToldApart rows n w r
  apart_rest {r} fits left right = record { answer = answer }
    where
      answer : (a : HaltNo) (t : Stmt) → Holds rows n a t → r ≡ apart H t
      answer a t h =
          let k = is_two rows n a t h head in
          let on : apart H k.left ≡ true = sym (left.answer a k.left k.holds_left) in
          rw (rule a t h k, fits, on) (right.answer (halts_on a (halt_count k.left)) k.right (holds_second rows n a k))

-- a whole sheet has no more halts than a state has bits for
pub root_past : {rows : List Row} {statics : List Entry} → KnownRoot rows statics → of_halt (row_at rows root).past ≤ max_halts
root_past k = (inside_few k.known.run).1

-- the whole state
module _ (rows : List Row) (w : ℕ) where
  pub fits_unbooted : {r : Bool} → has w boot ≡ false → r ≡ no_halts_from 0 (has w) → Fitted rows w r
  unfolding fits pick
  fits_unbooted off e = record { answer = λ t h. rw off e }

  abbrev spare : Bool
  spare = no_halts_from (of_halt (row_at rows root).past) (has w)

  spare_bits : (t : Stmt) → Holds rows root (halt_no 0) t → no_halts_from (halt_count t) (has w) ≡ spare
  spare_bits t h =
      let past : of_halt (row_at rows root).past ≡ 0 + halt_count t = ap (λ (x : HaltNo). of_halt x) (past_of rows root (halt_no 0) t h) in
      let count : halt_count t ≡ of_halt (row_at rows root).past = omega arith in
      rw count

  pub fits_over : has w boot ≡ true → spare ≡ false → Fitted rows w false
  unfolding fits pick
  fits_over on off = record { answer = λ t h. rw (on, spare_bits t h, off) }

  pub fits_apart : {r : Bool} → has w boot ≡ true → spare ≡ true → ToldApart rows root w r → Fitted rows w r
  unfolding fits pick
  fits_apart on none told = record { answer = λ t h. rw (on, spare_bits t h, none) (told.answer (halt_no 0) t h) }

-- A sheet that was read, with its column: what `fits` asks for.
pub known_proper : {i o : ℕ} {t : Stmt} {rows : List Row} {statics : List Entry} → Proper i o t → Holds rows root (halt_no 0) t → Kept statics root t
    → KnownRoot rows statics
unfolding run_proper
known_proper {t = t} h holds kept =
    record {
      known = record { run = run_proper h holds; low = exits_low 0 t (omega arith) (proper_exits h); kept = kept };
      from_zero = refl;
    }
