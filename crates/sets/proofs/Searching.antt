-- What one level of each search answers: at a statement with no part, with one and with two.
use mathlib.Core.Path.{◌≡◌, refl, sym, ap, ◌∙◌}
use mathlib.Core.Bool.{Bool, true, false, ◌&&◌, false≢true}
use mathlib.Core.List.{List}
use Prim.Native.Nat.{◌+◌, ◌<◌}
use Rattle.number.specs.declared.StmtNo.{StmtNo}
use Rattle.number.specs.Number.{pick}
use Rattle.bits.specs.Bits.{has}
use Rattle.limits.specs.Limits.{max_codes}
use Rattle.sheet.specs.declared.Leaf.{Leaf}
use Rattle.sheet.specs.declared.Unary.{Unary}
use Rattle.sheet.specs.declared.Unary.TheVariants.{Loop, Watching, Trap, Signal}
use Rattle.sheet.specs.declared.Binary.{Binary}
use Rattle.sheet.specs.declared.Head.TheVariants.{Zero, One, Two}
use Rattle.sheet.specs.Stmt.{Stmt, leaf, one, two, head_of, size}
use Rattle.sheet.specs.Read.{further}
use Rattle.sheet.specs.Rows.{row_at}
use Rattle.sheet.proofs.Walk.{head_of_lem}
use Rattle.sets.specs.declared.Both.{Both}
use Rattle.sets.specs.declared.Entry.{Entry}
use Rattle.sets.specs.Codes.{Codes}
use Rattle.sets.specs.Static.{K, R}
use Rattle.sets.specs.Faults.{or_else, instant, twice}
use Rattle.sets.specs.Words.{code_span, Low, Stands, Entered, Kept, Means, Reads}
use Rattle.sets.specs.Leads.{meet, leads_one, leads_left, leads_right, is_loop, is_x, first_led}
use Rattle.sets.proofs.Words.{none_is}
use Rattle.sets.proofs.Climbs.{led_twice}
use Rattle.sets.proofs.Columns.{both_small}
use Rattle.sets.proofs.Standing.{OnePart, TwoParts, stands_leaf, stands_one, stands_two}
use Rattle.std.specs.Prelude.{Option, Some, None}
use Rattle.sheet.specs.declared.Row.{Row}

pub kept_own : (statics : List Entry) (n : StmtNo) (t : Stmt) → Kept statics n t → Entered statics n t
unfolding Kept
kept_own statics n (leaf l) h = h
kept_own statics n (one u p) h = h.0
kept_own statics n (two b p q) h = h.0

instant_one : (n : StmtNo) (u : Unary) (p : Stmt) → instant n (one u p) ≡ pick (is_loop u && K p 0) (Some n) (instant (further n 1) p)
unfolding instant pick
instant_one n Loop p = refl
instant_one n (Watching s) p = refl
instant_one n Trap p = refl
instant_one n (Signal s) p = refl

-- an X with a code of F in its R
abbrev pub Led : Codes → Stmt → Bool
Led F t = is_x (head_of t) && meet max_codes (R t) F

led_at : (F : Codes) (n : StmtNo) (t : Stmt) → Led F t ≡ true → Some n ≡ first_led F n t
unfolding first_led head_of pick
led_at F n (leaf l) e = absurd (false≢true e)
led_at F n (one u p) e = sym (ap (λ (b : Bool). pick b (Some n) (first_led (leads_one u F) (further n 1) p)) e)
led_at F n (two b p q) e =
    let rest : Option StmtNo = or_else (first_led (leads_left b q F) (further n 1) p) (first_led (leads_right b p F) (further n (1 + size p)) q) in
    sym (ap (λ (x : Bool). pick x (Some n) rest) e)

led_one_part : (F : Codes) (n : StmtNo) (u : Unary) (p : Stmt) → Led F (one u p) ≡ false
    → first_led F n (one u p) ≡ first_led (leads_one u F) (further n 1) p
unfolding first_led head_of pick
led_one_part F n u p e = ap (λ (b : Bool). pick b (Some n) (first_led (leads_one u F) (further n 1) p)) e

led_two_parts : (F : Codes) (n : StmtNo) (b : Binary) (p q : Stmt) → Led F (two b p q) ≡ false
    → first_led F n (two b p q)
    ≡ or_else (first_led (leads_left b q F) (further n 1) p) (first_led (leads_right b p F) (further n (1 + size p)) q)
unfolding first_led head_of pick
led_two_parts F n b p q e =
    let rest : Option StmtNo = or_else (first_led (leads_left b q F) (further n 1) p) (first_led (leads_right b p F) (further n (1 + size p)) q) in
    ap (λ (x : Bool). pick x (Some n) rest) e

-- a search by f has gone into whatever stands at row m
abbrev pub Sought : (StmtNo → Stmt → Option StmtNo) → List Row → List Entry → StmtNo → Option StmtNo → Type 0
Sought f rows statics m r = (x : Stands rows m) → Kept statics m x.stmt → r ≡ f m x.stmt

-- the rows and the column of a statement and of its parts
module _ {rows : List Row} (statics : List Entry) {n : StmtNo} (s : Stands rows n) (kept : Kept statics n s.stmt) where
  own_means : {b : Both} → Reads statics n b → Means b s.stmt
  own_means reads = reads.means s.stmt s.low (kept_own statics n s.stmt kept)

  kept_one : {u : Unary} (k : OnePart s u) → Kept statics (further n 1) k.part.stmt
  unfolding Kept
  kept_one k = (rw k.is at kept).1

  kept_left : {b : Binary} (k : TwoParts s b) → Kept statics (further n 1) k.left.stmt
  unfolding Kept
  kept_left k = (rw k.is at kept).1

  kept_right : {b : Binary} (k : TwoParts s b) → Kept statics (row_at rows (further n 1)).end k.right.stmt
  unfolding Kept
  kept_right k = rw k.second (rw k.is at kept).2

  -- INSTANT: no part; a loop at fault; another statement with one part; found on the left; not found there
  pub instant_none : {l : Leaf} → (row_at rows n).head ≡ Zero l → None ≡ instant n s.stmt
  unfolding instant
  instant_none e = sym (ap (instant n) (stands_leaf s e))

  body_test : {u : Unary} {b : Both} {r : Bool} (k : OnePart s u) → Reads statics (further n 1) b → r ≡ (is_loop u && has b.k 0)
      → (is_loop u && K k.part.stmt 0) ≡ r
  body_test {u} k reads is =
      let m = reads.means k.part.stmt k.part.low (kept_own statics (further n 1) k.part.stmt (kept_one k)) in
      sym (is ∙ (λ i. is_loop u && m.starts i 0))

  pub instant_here : {u : Unary} {b : Both} {r : Bool} → (row_at rows n).head ≡ One u → Reads statics (further n 1) b
      → r ≡ (is_loop u && has b.k 0)
      → r ≡ true → Some n ≡ instant n s.stmt
  unfolding pick
  instant_here {u} e reads is yes_it_is =
      let k : OnePart s u = stands_one s e in
      let p : Stmt = k.part.stmt in
      sym (ap (instant n) k.is ∙ instant_one n u p
      ∙ ap (λ (x : Bool). pick x (Some n) (instant (further n 1) p)) (body_test k reads is ∙ yes_it_is))

  pub instant_on : {u : Unary} {b : Both} {r : Bool} {f : Option StmtNo} → (row_at rows n).head ≡ One u → Reads statics (further n 1) b
      → r ≡ (is_loop u && has b.k 0) → r ≡ false → Sought instant rows statics (further n 1) f → f ≡ instant n s.stmt
  unfolding pick
  instant_on {u} e reads is not_it rest =
      let k : OnePart s u = stands_one s e in
      let p : Stmt = k.part.stmt in
      rest k.part (kept_one k)
      ∙ sym (ap (instant n) k.is ∙ instant_one n u p
      ∙ ap (λ (x : Bool). pick x (Some n) (instant (further n 1) p)) (body_test k reads is ∙ not_it))

  -- in the definition, the answer of the left stands first
  instant_two : {b : Binary} {f : Option StmtNo} (k : TwoParts s b) → Sought instant rows statics (further n 1) f
      → instant n s.stmt ≡ or_else f (instant (further n (1 + size k.left.stmt)) k.right.stmt)
  unfolding instant
  instant_two k left =
      let second : Option StmtNo = instant (further n (1 + size k.left.stmt)) k.right.stmt in
      ap (instant n) k.is ∙ ap (λ (x : Option StmtNo). or_else x second) (sym (left k.left (kept_left k)))

  pub instant_left : {b : Binary} {m : StmtNo} {f : Option StmtNo} → (row_at rows n).head ≡ Two b → Sought instant rows statics (further n 1) f
      → f ≡ Some m
      → Some m ≡ instant n s.stmt
  unfolding or_else
  instant_left {b} e left is =
      let k : TwoParts s b = stands_two s e in
      let second : Option StmtNo = instant (further n (1 + size k.left.stmt)) k.right.stmt in
      sym (instant_two k left ∙ ap (λ (x : Option StmtNo). or_else x second) is)

  pub instant_right : {b : Binary} {f g : Option StmtNo} → (row_at rows n).head ≡ Two b → Sought instant rows statics (further n 1) f → f ≡ None
      → Sought instant rows statics (row_at rows (further n 1)).end g → g ≡ instant n s.stmt
  unfolding or_else
  instant_right {b} e left is right =
      let k : TwoParts s b = stands_two s e in
      let second : Option StmtNo = instant (further n (1 + size k.left.stmt)) k.right.stmt in
      right k.right (kept_right k) ∙ ap (λ (m : StmtNo). instant m k.right.stmt) k.second
      ∙ sym (instant_two k left ∙ ap (λ (x : Option StmtNo). or_else x second) is)

  -- TWICE, going down with F
  module _ (F : Codes) {own : Both} {r : Bool} (reads : Reads statics n own)
      (test : own.r < code_span → r ≡ (is_x (row_at rows n).head && meet max_codes (has own.r) F)) where
    led_test : r ≡ Led F s.stmt
    led_test = test (both_small own s.stmt s.low (own_means reads)).1 ∙ (λ i. is_x (head_of_lem rows n s.first s.stmt s.holds i) && meet max_codes ((own_means reads).resumes i) F)

    pub led_here : r ≡ true → Some n ≡ first_led F n s.stmt
    led_here e = led_at F n s.stmt (sym led_test ∙ e)

    pub led_none : {l : Leaf} → (row_at rows n).head ≡ Zero l → None ≡ first_led F n s.stmt
    unfolding first_led
    led_none e = sym (ap (first_led F n) (stands_leaf s e))

    pub led_one : {u : Unary} {G : Codes} {f : Option StmtNo} → r ≡ false → (row_at rows n).head ≡ One u → G ≡ leads_one u F
        → Sought (first_led G) rows statics (further n 1) f → f ≡ first_led F n s.stmt
    led_one {u} no_x e leads rest =
        let k : OnePart s u = stands_one s e in
        let p : Stmt = k.part.stmt in
        rest k.part (kept_one k) ∙ ap (λ (A : Codes). first_led A (further n 1) p) leads
        ∙ sym (ap (first_led F n) k.is ∙ led_one_part F n u p (ap (Led F) (sym k.is) ∙ sym led_test ∙ no_x))

    led_two : {b : Binary} {G : Codes} {f : Option StmtNo} {q : Both} (k : TwoParts s b) → r ≡ false
        → Reads statics (row_at rows (further n 1)).end q
        → ((v : Stmt) → Low v → Means q v → G ≡ leads_left b v F) → Sought (first_led G) rows statics (further n 1) f
        → first_led F n s.stmt
        ≡ or_else f (first_led (leads_right b k.left.stmt F) (further n (1 + size k.left.stmt)) k.right.stmt)
    led_two {b} {q = q} k no_x second leads left =
        let p : Stmt = k.left.stmt in
        let v : Stmt = k.right.stmt in
        let m : Means q v = second.means k.right.stmt k.right.low (kept_own statics (row_at rows (further n 1)).end v (kept_right k)) in
        let other : Option StmtNo = first_led (leads_right b p F) (further n (1 + size p)) v in
        let own = left k.left (kept_left k) ∙ ap (λ (A : Codes). first_led A (further n 1) p) (leads v k.right.low m) in
        ap (first_led F n) k.is ∙ led_two_parts F n b p v (ap (Led F) (sym k.is) ∙ sym led_test ∙ no_x)
        ∙ sym (ap (λ (x : Option StmtNo). or_else x other) own)

    pub led_left : {b : Binary} {G : Codes} {f : Option StmtNo} {q : Both} {m : StmtNo} → r ≡ false → (row_at rows n).head ≡ Two b
        → Reads statics (row_at rows (further n 1)).end q → ((v : Stmt) → Low v → Means q v → G ≡ leads_left b v F)
        → Sought (first_led G) rows statics (further n 1) f
        → f ≡ Some m → Some m ≡ first_led F n s.stmt
    unfolding or_else
    led_left {b} no_x e second leads left is =
        let k : TwoParts s b = stands_two s e in
        let other : Option StmtNo = first_led (leads_right b k.left.stmt F) (further n (1 + size k.left.stmt)) k.right.stmt in
        sym (led_two k no_x second leads left ∙ ap (λ (x : Option StmtNo). or_else x other) is)

    pub led_right : {b : Binary} {G H : Codes} {f g : Option StmtNo} {p q : Both} → r ≡ false → (row_at rows n).head ≡ Two b
        → Reads statics (row_at rows (further n 1)).end q → ((v : Stmt) → Low v → Means q v → G ≡ leads_left b v F)
        → Sought (first_led G) rows statics (further n 1) f
        → f ≡ None → Reads statics (further n 1) p → ((t : Stmt) → Low t → Means p t → H ≡ leads_right b t F)
        → Sought (first_led H) rows statics (row_at rows (further n 1)).end g → g ≡ first_led F n s.stmt
    unfolding or_else
    led_right {b} {p = p} no_x e second leads left is first leads_on right =
        let k : TwoParts s b = stands_two s e in
        let t : Stmt = k.left.stmt in
        let v : Stmt = k.right.stmt in
        let m : Means p t = first.means k.left.stmt k.left.low (kept_own statics (further n 1) t (kept_left k)) in
        let other : Option StmtNo = first_led (leads_right b t F) (further n (1 + size t)) v in
        right k.right (kept_right k) ∙ (λ i. first_led (leads_on t k.left.low m i) (k.second i) v)
        ∙ sym (led_two k no_x second leads left ∙ ap (λ (x : Option StmtNo). or_else x other) is)

-- with nothing to lead to but a loop, that is TWICE
pub led_empty : (rows : List Row) (statics : List Entry) (n : StmtNo) (r : Option StmtNo) → Sought (first_led (has 0)) rows statics n r
    → Sought twice rows statics n r
led_empty rows statics n r sought s kept =
    sought s kept ∙ ap (λ (F : Codes). first_led F n s.stmt) none_is ∙ led_twice n s.stmt s.low
