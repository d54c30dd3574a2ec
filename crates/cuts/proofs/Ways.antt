-- The way down from a table's cell, a law for each thing that it does: it begins, an operand is met, a new one comes on top, the word of
-- the cell on top becomes known, and it ends with nothing on the stack. Then what is known is what is met.
use Prim.Native.Nat.{ℕ, zero, suc, ◌+◌, ◌-◌, ◌*◌, ◌<◌, ◌≤◌}
use mathlib.Core.Path.{◌≡◌, refl, sym, ap, ◌∙◌, subst, subst⁻¹}
use mathlib.Core.Bool.{true, false, true≢false}
use mathlib.Core.List.{List, [], ◌∷◌, map}
use mathlib.Core.Logic.{◌⊎◌, inl, inr, ⊎_elim}
use native.Mathlib.Omega.{arith}
use Rattle.std.proofs.Math.Logic.{∥∥₁_elim}
use Rattle.std.specs.Coded.{le_prop}
use native.Mathlib.Decide.{ℕ_discrete, dec_lt}
use native.Mathlib.Nat.{mul-le-mul_right, add-mul}
use lib.ListN.{length, get_or, set, length-set, length-map, get_or-map}
use lib.Seq.{get_or-set_same, get_or-set_other}
use Rattle.number.specs.Counts.{cell_no, of_cell}
use Rattle.number.specs.declared.CellNo.{CellNo}
use Rattle.number.proofs.Bools.{off}
use Rattle.cells.specs.declared.Cell.{Cell}
use Rattle.cells.specs.Cells.{cell_at}
use Rattle.cells.specs.Needs.{IsCell, Needs}
use Rattle.order.specs.Paths.{Reaches, one, more, placed}
use Rattle.order.specs.Search.{mark, zeros}
use Rattle.order.proofs.Columns.{same, mark_same, mark_other, placed_same, placed_other, zeros_new, zeros_again}
use Rattle.cuts.specs.Cut.{is_source, is_pin, Met, operand, onward}
use Rattle.cuts.specs.Cutting.{CanOrder, Lent, Tells, Known, Ready, unknown, Cutting, left}
use Rattle.cuts.proofs.Depth.{lower, acyclic, deep}

pub join : {cells : List Cell} {x y z : CellNo} → Reaches cells x y → Needs cells y z → Reaches cells x z
join (one h) needs = more h (one needs)
join (more h way) needs = more h (join way needs)

-- A mark after a store: that of x, or as it was.
pub marked : (P : CellNo → ℕ → Type 0) (marks : List ℕ) (x : CellNo) (m : ℕ) → of_cell x < length marks → P x m
    → ((y : CellNo) → (y ≡ x → ⊥) → P y (mark marks y)) → (y : CellNo) → P y (mark (set marks (of_cell x) m) y)
marked P marks x m inside here there y = go (same y x)
  where
    go : Dec (y ≡ x) → P y (mark (set marks (of_cell x) m) y)
    go (yes e) =
        subst⁻¹ (λ (z : CellNo). P z (mark (set marks (of_cell x) m) z)) e (subst⁻¹ (P x) (mark_same marks x m inside) here)
    go (no n) = subst⁻¹ (P y) (mark_other marks x y m n) (there y n)

-- How many words are not known after a store.
map_set : (f : ℕ → ℕ) (l : List ℕ) (i v : ℕ) → map f (set l i v) ≡ set (map f l) i (f v)
map_set f [] i v = refl
map_set f (x ∷ l) zero v = refl
map_set f (x ∷ l) (suc i) v = ap (λ (t : List ℕ). f x ∷ t) (map_set f l i v)

abbrev less : ℕ → ℕ → ℕ
less base m = m - (base + 1)

module _ (cells : List Cell) (base : ℕ) (marks : List ℕ) (x : CellNo) (is : IsCell cells x) (wide : length cells ≤ length marks) where
  set_as : map (less base) (set marks (of_cell x) (base + 2)) ≡ set (map (less base) marks) (of_cell x) 1
  set_as =
      let e : less base (base + 2) ≡ 1 = omega arith in
      map_set (less base) marks (of_cell x) (base + 2) ∙ ap (λ (v : ℕ). set (map (less base) marks) (of_cell x) v) e

  there : get_or (map (less base) marks) (of_cell x) 0 ≡ less base (mark marks x)
  there =
      let none : less base 0 ≡ 0 = omega arith in
      ap (λ (d : ℕ). get_or (map (less base) marks) (of_cell x) d) (sym none) ∙ get_or-map (less base) marks (of_cell x) 0

  pub one_known : mark marks x ≤ base + 1 → suc (unknown cells base (set marks (of_cell x) (base + 2))) ≡ unknown cells base marks
  one_known h =
      let inside : of_cell x < length (map (less base) marks) = omega (arith, length-map marks (less base)) in
      let zero_there : less base (mark marks x) ≡ 0 = omega arith in
      let new = zeros_new (length cells) (map (less base) marks) (of_cell x) 0 is inside (there ∙ zero_there) in
      ap (λ (l : List ℕ). suc (zeros (length cells) l)) set_as ∙ new

  pub none_lost : unknown cells base (set marks (of_cell x) (base + 2)) ≤ unknown cells base marks
  none_lost = go (ℕ_discrete (less base (mark marks x)) 0)
    where
      go : Dec (less base (mark marks x) ≡ 0) → unknown cells base (set marks (of_cell x) (base + 2)) ≤ unknown cells base marks
      go (yes e) = omega (arith, one_known (omega arith))
      go (no n) =
          let again = zeros_again (length cells) (map (less base) marks) (of_cell x) 0 (omega (arith, there)) in
          omega (arith, ap (zeros (length cells)) set_as ∙ again)

-- The measure falls where the way goes deeper, and where a word becomes known.
pub left_deeper : (cells : List Cell) (base : ℕ) (marks marks' : List ℕ) (top : ℕ) → unknown cells base marks' ≤ unknown cells base marks
    → top < length cells → left cells base marks' (top + 1) < left cells base marks top
left_deeper cells base marks marks' top few h =
    let m = mul-le-mul_right (suc (length cells)) few in
    omega (arith, m)

pub left_known : (cells : List Cell) (base : ℕ) (marks marks' : List ℕ) (top : ℕ) → unknown cells base marks' < unknown cells base marks
    → left cells base marks' (top - 1) < left cells base marks top
left_known cells base marks marks' top fewer =
    let u : ℕ = unknown cells base marks' in
    let m = mul-le-mul_right (suc (length cells)) fewer in
    let n : u + 1 ≡ suc u = omega arith in
    let e : suc u * suc (length cells) ≡ u * suc (length cells) + 1 * suc (length cells) =
    ap (λ (i : ℕ). i * suc (length cells)) (sym n) ∙ add-mul u 1 (suc (length cells)) in
    omega (arith, m, e)

-- What a cut on its way is for what it does next.
module _ {cells : List Cell} {cut : List CellNo} {c : CellNo} {base : ℕ} {marks values stack : List ℕ} {top : ℕ}
    (k : Cutting cells cut c base marks values stack top) where
  -- a cell on the stack is no pin
  pub no_pin : (x : CellNo) → mark marks x ≤ base → is_pin cut x ≡ false
  no_pin x new = off (is_pin cut x) (λ e. omega (arith, k.marked x e))

  -- what a cell on the stack needs is met
  pub met_below : (j : ℕ) (y : CellNo) → j < top → Needs cells (placed stack j) y → Met cells cut c y
  met_below j y h n =
      ⊎_elim (λ e. operand (subst (λ (z : CellNo). Needs cells z y) e n)) (λ m. onward m (no_pin (placed stack j) (k.fresh j h)) n)
      (k.ways j h)

  in_marks : {x : CellNo} → IsCell cells x → of_cell x < length marks
  in_marks is = omega (arith, k.lent.wide)

  lent_after : {marks' values' stack' : List ℕ} → length marks' ≡ length marks → length values' ≡ length values
      → length stack' ≡ length stack
      → Lent cells marks' values' stack'
  lent_after m v s =
      record {
        few = k.lent.few;
        wide = omega (arith, k.lent.wide);
        valued = omega (arith, k.lent.valued);
        deep = omega (arith, k.lent.deep);
      }

  -- An operand a whose word is there is met, if it was not before.
  module _ (a : CellNo) (is : IsCell cells a) (word : base < mark marks a) (way : Met cells cut c a) where
    abbrev after : List ℕ
    after = set marks (of_cell a) (base + 2)

    -- its word was known, or it is a pin
    was_known : is_pin cut a ≡ false → Known base marks a
    was_known other = go (ℕ_discrete (mark marks a) (base + 1))
      where
        go : Dec (mark marks a ≡ base + 1) → Known base marks a
        go (yes e) = absurd (true≢false (sym (k.waits a e) ∙ other))
        go (no n) = omega arith

    each : (P : CellNo → ℕ → Type 0) → P a (base + 2) → ((y : CellNo) → (y ≡ a → ⊥) → P y (mark marks y)) → (y : CellNo)
        → P y (mark after y)
    each P = marked P marks a (base + 2) (in_marks is)

    still : (y : CellNo) → Known base marks y → Known base after y
    still = each (λ y m. Known base marks y → base + 1 < m) (λ h. omega arith) (λ y n h. h)

    pub meets : Cutting cells cut c base after values stack top
    meets =
        record {
          long = k.long;
          own = k.own;
          lent = lent_after (length-set marks (of_cell a) (base + 2)) refl refl;
          marked = each (λ y m. is_pin cut y ≡ true → base < m) (λ e. omega arith) (λ y n. k.marked y);
          waits = each (λ y m. m ≡ base + 1 → is_pin cut y ≡ true) (λ e. absurd (omega arith)) (λ y n. k.waits y);
          limit = each (λ y m. m ≤ base + 2) (omega arith) (λ y n. k.limit y);
          met = each (λ y m. base + 1 < m → (y ≡ c) ⊎ Met cells cut c y) (λ h. inr way) (λ y n. k.met y);
          closed =
              each (λ y m. base + 1 < m → is_pin cut y ≡ false → is_source (cell_at cells y) ≡ false) (λ h e. k.closed a (was_known e) e)
              (λ y n. k.closed y);
          needs = λ x y.
              each (λ x m. base + 1 < m → is_pin cut x ≡ false → Needs cells x y → Known base after y)
              (λ h e n. still y (k.needs a y (was_known e) e n)) (λ x d h e n. still y (k.needs x y h e n)) x;
          tells =
              each (λ y m. base < m → Tells cells cut (get_or values (of_cell y) 0) y) (λ h. k.tells a word) (λ y n. k.tells y);
          fresh = λ j h.
              each (λ y m. mark marks y ≤ base → m ≤ base) (λ new. absurd (omega arith)) (λ y n new. new) (placed stack j) (k.fresh j h);
          cell = k.cell;
          ways = k.ways;
          down = k.down;
          root = ⊎_elim (λ h. inl (still c h)) (λ h. inr h) k.root;
        }

  -- The cell on top.
  module _ (some : 0 < top) where
    abbrev last : CellNo
    last = placed stack (top - 1)

    low : top - 1 < top
    low = omega arith

    -- There is room for what it needs.
    pub room : CanOrder cells → (a : CellNo) → Needs cells last a → top < length cells
    room o a n =
        ∥∥₁_elim o le_prop (λ w.
        let at = deep w.1 stack top k.cell k.down (top - 1) low in
        let below = lower w.1 (one n) at.0 (omega (arith, at.1)) at.2 in
        omega (arith, at.1, below.1))

    -- A new operand a comes on top.
    module _ (a : CellNo) (is : IsCell cells a) (new : mark marks a ≤ base) (n : Needs cells last a) (inside : top < length stack) where
      abbrev higher : List ℕ
      higher = set stack top (of_cell a)

      top_is : placed higher top ≡ a
      top_is = placed_same stack top a inside

      rest_is : (j : ℕ) → j < top → placed higher j ≡ placed stack j
      rest_is j h = placed_other stack j top a (λ e. omega arith)

      every : (P : ℕ → CellNo → Type 0) → P top a → ((j : ℕ) → j < top → P j (placed stack j)) → (j : ℕ) → j < top + 1
          → P j (placed higher j)
      every P here before j h = go (ℕ_discrete j top)
        where
          go : Dec (j ≡ top) → P j (placed higher j)
          go (yes e) = subst⁻¹ (λ (i : ℕ). P i (placed higher i)) e (subst⁻¹ (P top) top_is here)
          go (no d) = subst⁻¹ (P j) (rest_is j (omega arith)) (before j (omega arith))

      reach_last : (i : ℕ) → i < top → Reaches cells (placed stack i) a
      reach_last i h = go (ℕ_discrete i (top - 1))
        where
          go : Dec (i ≡ top - 1) → Reaches cells (placed stack i) a
          go (yes e) = subst⁻¹ (λ (j : ℕ). Reaches cells (placed stack j) a) e (one n)
          go (no d) = join (k.down i (top - 1) (omega arith) low) n

      down_at : (i j : ℕ) → i < j → j < top + 1 → Reaches cells (placed higher i) (placed higher j)
      down_at i j l h =
          every (λ j y. i < j → Reaches cells (placed higher i) y)
          (λ g. subst⁻¹ (λ (z : CellNo). Reaches cells z a) (rest_is i g) (reach_last i g))
          (λ j g g'. subst⁻¹ (λ (z : CellNo). Reaches cells z (placed stack j)) (rest_is i (omega arith)) (k.down i j g' g)) j h l

      pub deeper : Cutting cells cut c base marks values higher (top + 1)
      deeper =
          record {
            long = k.long;
            own = k.own;
            lent = lent_after refl refl (length-set stack top (of_cell a));
            marked = k.marked;
            waits = k.waits;
            limit = k.limit;
            met = k.met;
            closed = k.closed;
            needs = k.needs;
            tells = k.tells;
            fresh = every (λ j y. mark marks y ≤ base) new k.fresh;
            cell = every (λ j y. IsCell cells y) is k.cell;
            ways = every (λ j y. (y ≡ c) ⊎ Met cells cut c y) (inr (met_below (top - 1) a low n)) k.ways;
            down = down_at;
            root = ⊎_elim (λ h. inl h) (λ h. inr (omega arith, rest_is 0 some ∙ h.1)) k.root;
          }

    -- Its word w becomes known.
    module _ (o : CanOrder cells) (w : ℕ) (tells : Tells cells cut w last) (no_source : is_source (cell_at cells last) ≡ false)
        (all : (y : CellNo) → Needs cells last y → Known base marks y) where
      abbrev known : List ℕ
      known = set marks (of_cell last) (base + 2)

      abbrev words : List ℕ
      words = set values (of_cell last) w

      is : IsCell cells last
      is = k.cell (top - 1) low

      each_one : (P : CellNo → ℕ → Type 0) → P last (base + 2) → ((y : CellNo) → (y ≡ last → ⊥) → P y (mark marks y)) → (y : CellNo)
          → P y (mark known y)
      each_one P = marked P marks last (base + 2) (in_marks is)

      kept : (y : CellNo) → Known base marks y → Known base known y
      kept = each_one (λ y m. Known base marks y → base + 1 < m) (λ h. omega arith) (λ y n h. h)

      -- those below it on the stack are others
      other : (j : ℕ) → j < top - 1 → placed stack j ≡ last → ⊥
      other j h e =
          acyclic o is (subst (λ (z : CellNo). Reaches cells z last) e (k.down j (top - 1) h low))

      root_after : (Known base marks c) ⊎ ((0 < top) × (placed stack 0 ≡ c)) → Known base known c ⊎ ((0 < top - 1) × (placed stack 0 ≡ c))
      root_after (inl h) = inl (kept c h)
      root_after (inr h) = go (ℕ_discrete (top - 1) 0)
        where
          go : Dec (top - 1 ≡ 0) → Known base known c ⊎ ((0 < top - 1) × (placed stack 0 ≡ c))
          go (yes e) =
              let at : last ≡ c = ap (placed stack) e ∙ h.1 in
              inl (subst (λ (z : CellNo). Known base known z) at (omega (arith, mark_same marks last (base + 2) (in_marks is))))
          go (no d) = inr (omega arith, h.1)

      pub settles : Cutting cells cut c base known words stack (top - 1)
      settles =
          record {
            long = k.long;
            own = k.own;
            lent = lent_after (length-set marks (of_cell last) (base + 2)) (length-set values (of_cell last) w) refl;
            marked = each_one (λ y m. is_pin cut y ≡ true → base < m) (λ e. omega arith) (λ y n. k.marked y);
            waits = each_one (λ y m. m ≡ base + 1 → is_pin cut y ≡ true) (λ e. absurd (omega arith)) (λ y n. k.waits y);
            limit = each_one (λ y m. m ≤ base + 2) (omega arith) (λ y n. k.limit y);
            met = each_one (λ y m. base + 1 < m → (y ≡ c) ⊎ Met cells cut c y) (λ h. k.ways (top - 1) low) (λ y n. k.met y);
            closed =
                each_one (λ y m. base + 1 < m → is_pin cut y ≡ false → is_source (cell_at cells y) ≡ false) (λ h e. no_source)
                (λ y n. k.closed y);
            needs = λ x y.
                each_one (λ x m. base + 1 < m → is_pin cut x ≡ false → Needs cells x y → Known base known y) (λ h e n. kept y (all y n))
                (λ x d h e n. kept y (k.needs x y h e n)) x;
            tells =
                each_one (λ y m. base < m → Tells cells cut (get_or words (of_cell y) 0) y)
                (λ h. subst⁻¹ (λ (v : ℕ). Tells cells cut v last) (get_or-set_same values (of_cell last) w 0
                (omega (arith, is, k.lent.valued))) tells)
                (λ y n h. subst⁻¹ (λ (v : ℕ). Tells cells cut v y) (get_or-set_other values (of_cell last) (of_cell y) w 0
                (λ e. n (ap cell_no e))) (k.tells y h));
            fresh = λ j h.
                subst⁻¹ (λ (m : ℕ). m ≤ base) (mark_other marks last (placed stack j) (base + 2) (other j h)) (k.fresh j (omega arith));
            cell = λ j h. k.cell j (omega arith);
            ways = λ j h. k.ways j (omega arith);
            down = λ i j l h. k.down i j l (omega arith);
            root = root_after k.root;
          }

-- The table's cell alone is on the stack.
pub begins : {cells : List Cell} {cut : List CellNo} {c : CellNo} {base : ℕ} {marks values stack : List ℕ} → Lent cells marks values stack
    → Ready cells cut base marks values → is_source (cell_at cells c) ≡ false → IsCell cells c → mark marks c ≤ base
    → Cutting cells cut c base marks values (set stack 0 (of_cell c)) 1
begins {cells} {cut} {c} {base} {marks} {values} {stack} l r own is new =
    record {
      long = r.long;
      own = own;
      lent = record { few = l.few; wide = l.wide; valued = l.valued; deep = rw (length-set stack 0 (of_cell c)) l.deep };
      marked = λ x e. omega (arith, r.marked x e);
      waits = λ x e. r.only x (omega arith);
      limit = λ x. limit x (dec_lt base (mark marks x));
      met = λ x h. absurd (none x h);
      closed = λ x h. absurd (none x h);
      needs = λ x y h. absurd (none x h);
      tells = r.tells;
      fresh = λ j h. subst⁻¹ (λ (x : CellNo). mark marks x ≤ base) (first j h) new;
      cell = λ j h. subst⁻¹ (IsCell cells) (first j h) is;
      ways = λ j h. inl (first j h);
      down = λ i j g h. absurd (omega arith);
      root = inr (omega arith, first 0 (omega arith));
    }
  where
    first : (j : ℕ) → j < 1 → placed (set stack 0 (of_cell c)) j ≡ c
    first j h =
        let e : j ≡ 0 = omega arith in
        ap (placed (set stack 0 (of_cell c))) e ∙ placed_same stack 0 c (omega (arith, l.deep, is))

    -- no word is known yet
    none : (x : CellNo) → Known base marks x → ⊥
    none x h = omega (arith, r.marked x (r.only x (omega arith)))

    limit : (x : CellNo) → Dec (base < mark marks x) → mark marks x ≤ base + 2
    limit x (yes h) = omega (arith, r.marked x (r.only x h))
    limit x (no n) = omega arith

-- Nothing is on the stack: what is met is known, and what is known is met.
module _ {cells : List Cell} {cut : List CellNo} {c : CellNo} {base : ℕ} {marks values stack : List ℕ}
    (k : Cutting cells cut c base marks values stack 0) (no_own : is_pin cut c ≡ false) where
  pub root_known : Known base marks c
  root_known = ⊎_elim (λ h. h) (λ h. absurd (omega (arith, h.0))) k.root

  pub met_known : {y : CellNo} → Met cells cut c y → Known base marks y
  met_known {y} (operand n) = k.needs c y root_known no_own n
  met_known {y} (onward {x} m e n) = k.needs x y (met_known m) e n

  pub known_met : (y : CellNo) → is_pin cut y ≡ true → Known base marks y → Met cells cut c y
  known_met y pin h =
      ⊎_elim (λ e. absurd (true≢false (sym pin ∙ ap (is_pin cut) e ∙ no_own))) (λ m. m) (k.met y h)
