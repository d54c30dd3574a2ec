-- A visit to the cell on top: what it leaves, for each kind of cell.
use Prim.Native.Nat.{ℕ, ◌+◌, ◌-◌, ◌<◌, ◌≤◌}
use mathlib.Core.Path.{◌≡◌, refl, sym, ap, ◌∙◌, subst⁻¹}
use mathlib.Core.Bool.{Bool, true, false}
use mathlib.Core.List.{List}
use mathlib.Core.Logic.{⊎_elim}
use native.Mathlib.Omega.{arith}
use Rattle.std.proofs.Math.Logic.{∥∥₁_elim}
use Rattle.std.specs.Coded.{le_prop}
use lib.ListN.{length, get_or, set}
use Rattle.number.specs.Counts.{of_cell}
use Rattle.number.specs.Number.{pick}
use Rattle.number.specs.declared.CellNo.{CellNo}
use Rattle.number.specs.declared.SignalNo.{SignalNo}
use Rattle.tables.specs.Answering.{pins, settings, bit, setting}
use Rattle.tables.proofs.Bits.{bit_none}
use Rattle.tables.proofs.Settings.{setting_small}
use Rattle.cells.specs.declared.Gate as gate
use Rattle.cells.specs.declared.Cell.{Cell}
use Rattle.cells.specs.declared.Cell.TheVariants.{Low, High, Gate}
use Rattle.cells.specs.Cells.{truth, cell_at}
use Rattle.cells.specs.Words.{cell_in, cells_of}
use Rattle.cells.specs.Values.{before, value}
use Rattle.cells.specs.Needs.{IsCell, pins_of, Needs, Closed}
use Rattle.cells.proofs.Words.{cell_at_word}
use Rattle.cells.proofs.Needing.{needs_first, needs_second, needs_only, needs_none}
use Rattle.order.specs.Paths.{placed}
use Rattle.order.specs.Search.{mark}
use Rattle.order.proofs.Columns.{mark_same, mark_other, same}
use Rattle.run.specs.Held.{SolvesHeld}
use Rattle.cuts.specs.Cut.{is_source, is_pin, Met}
use Rattle.cuts.specs.Cutting.{CanOrder, Tells, Meets, new, known, Known, unknown, Cutting, Went, Strays, Stepped, on, stray}
use Rattle.cuts.proofs.Words.{ones}
use Rattle.cuts.proofs.Depth.{deep}
use Rattle.cuts.proofs.Ways.{one_known, none_lost, left_deeper, left_known, no_pin, met_below, room, deeper, meets, settles}
use Rattle.std.specs.Prelude.{Some, None}

-- the settings of the pins
pub small : (cut : List CellNo) → length cut ≡ pins → (h : CellNo → Bool) → setting h cut < settings
small cut long h = rw long at (setting_small h cut)

-- the cell that was read
pub read_as : (words : List ℕ) {x y : CellNo} {r c : Cell} → x ≡ y → r ≡ cell_in (get_or words (of_cell x) 0) → r ≡ c
    → cell_at (cells_of words) y ≡ c
read_as words {x} {y} e f g = ap (cell_at (cells_of words)) (sym e) ∙ cell_at_word words x ∙ sym f ∙ g

-- what a step leaves
pub went : {cells : List Cell} {cut : List CellNo} {c : CellNo} {base : ℕ} {marks marks' values' stack' : List ℕ} {top top' : ℕ}
    → Stepped cells cut c base marks marks' values' stack' top (Some top') → Went cells cut c base marks marks' values' stack' top top'
went (on w) = w

pub strayed : {cells : List Cell} {cut : List CellNo} {c : CellNo} {base : ℕ} {marks marks' values' stack' : List ℕ} {top : ℕ}
    → Stepped cells cut c base marks marks' values' stack' top None → Strays cells cut c
strayed (stray s) = s

-- An operand y is met whose word is there.
pub record MetOne (cells : List Cell) (cut : List CellNo) (c : CellNo) (base : ℕ) (marks marks' values stack : List ℕ) (top : ℕ)
    (y : CellNo) : Type 0 where
  pub cutting : Cutting cells cut c base marks' values stack top
  pub few : unknown cells base marks' ≤ unknown cells base marks
  pub knows : Known base marks' y
  pub still : (x : CellNo) → Known base marks x → Known base marks' x
  pub same_mark : (x : CellNo) → mark marks x ≤ base → mark marks' x ≤ base

pub meets_one : {cells : List Cell} {cut : List CellNo} {c : CellNo} {base : ℕ} {marks marks' values stack : List ℕ} {top : ℕ}
    (k : Cutting cells cut c base marks values stack top) (y : CellNo) → IsCell cells y → Met cells cut c y → Meets base marks y marks' true
    → MetOne cells cut c base marks marks' values stack top y
meets_one {cells} {cut} {c} {base} {marks} {marks'} {values} {stack} {top} k y is way (known h) =
    record {
      cutting = meets k y is h way;
      few = none_lost cells base marks y is k.lent.wide;
      knows = omega (arith, here);
      still = λ x e. go x e (same x y);
      same_mark = λ x e. stays x e (same x y);
    }
  where
    here : mark (set marks (of_cell y) (base + 2)) y ≡ base + 2
    here = mark_same marks y (base + 2) (omega (arith, is, k.lent.wide))

    go : (x : CellNo) → Known base marks x → Dec (x ≡ y) → Known base (set marks (of_cell y) (base + 2)) x
    go x e (yes q) = subst⁻¹ (Known base (set marks (of_cell y) (base + 2))) q (omega (arith, here))
    go x e (no n) = rw (mark_other marks y x (base + 2) n) e

    stays : (x : CellNo) → mark marks x ≤ base → Dec (x ≡ y) → mark (set marks (of_cell y) (base + 2)) x ≤ base
    stays x e (yes q) = absurd (omega (arith, ap (mark marks) q))
    stays x e (no n) = rw (mark_other marks y x (base + 2) n) e

pub met_new : {base : ℕ} {marks marks' : List ℕ} {y : CellNo} → Meets base marks y marks' false → (mark marks y ≤ base) × (marks' ≡ marks)
met_new (new h) = (h, refl)

module _ {cells : List Cell} {cut : List CellNo} {c : CellNo} {base : ℕ} {marks values stack : List ℕ} {top : ℕ}
    (k : Cutting cells cut c base marks values stack top) (some : 0 < top) (o : CanOrder cells) where
  abbrev last : CellNo
  last = placed stack (top - 1)

  low : top - 1 < top
  low = omega arith

  pub last_new : mark marks last ≤ base
  last_new = k.fresh (top - 1) low

  pub last_cell : IsCell cells last
  last_cell = k.cell (top - 1) low

  -- it lies in the column
  pub last_low : top - 1 < length stack
  last_low = ∥∥₁_elim o le_prop (λ w. let at = deep w.1 stack top k.cell k.down (top - 1) low in omega (arith, at.1, k.lent.deep))

  -- the cell on top is no pin, so it has the value that it asks for
  value_of : (h v : CellNo → Bool) (J : SignalNo → Bool) (S : ℕ → Bool) → SolvesHeld (is_pin cut) h J S cells v
      → v last ≡ value J (S (before cells last)) v (cell_at cells last)
  unfolding pick
  value_of h v J S solves =
      solves last ∙ ap (λ (b : Bool). pick b (h last) (value J (S (before cells last)) v (cell_at cells last))) (no_pin k last last_new)

  -- its word becomes known
  knows : (w : ℕ) → Tells cells cut w last → is_source (cell_at cells last) ≡ false → ((y : CellNo) → Needs cells last y → Known base marks y)
      → Went cells cut c base marks (set marks (of_cell last) (base + 2)) (set values (of_cell last) w) stack top (top - 1)
  knows w tells no_source all =
      record {
        cutting = settles k some o w tells no_source all;
        less = left_known cells base marks (set marks (of_cell last) (base + 2)) top
            (omega (arith, one_known cells base marks last last_cell k.lent.wide (omega (arith, last_new))));
      }

  pub visits_low : {x : CellNo} {marks' values' : List ℕ} → x ≡ last → marks' ≡ set marks (of_cell x) (base + 2)
      → values' ≡ set values (of_cell x) 0
      → cell_at cells last ≡ Low → Went cells cut c base marks marks' values' stack top (top - 1)
  visits_low is p q e =
      rw (p, q, is)
      (knows 0 (λ h v J S s. bit_none (setting h cut) ∙ sym (value_of h v J S s ∙ ap (value J (S (before cells last)) v) e)) (ap is_source e)
      (λ y n. absurd (needs_none (ap pins_of e) n)))

  pub visits_high : {x : CellNo} {marks' values' : List ℕ} → x ≡ last → marks' ≡ set marks (of_cell x) (base + 2)
      → values' ≡ set values (of_cell x) 65535 → cell_at cells last ≡ High → Went cells cut c base marks marks' values' stack top (top - 1)
  visits_high is p q e =
      rw (p, q, is)
      (knows 65535
      (λ h v J S s. ones (setting h cut) (small cut k.long h) ∙ sym (value_of h v J S s ∙ ap (value J (S (before cells last)) v) e))
      (ap is_source e) (λ y n. absurd (needs_none (ap pins_of e) n)))

  -- a register or an input that is on the way was met, unless it is the table's cell
  pub strays : is_source (cell_at cells last) ≡ true → Strays cells cut c
  strays e =
      record {
        at = last;
        met =
            ⊎_elim (λ q. absurd (differ (sym e ∙ ap (λ (x : CellNo). is_source (cell_at cells x)) q ∙ k.own))) (λ m. m)
            (k.ways (top - 1) low);
        source = e;
        no_pin = no_pin k last last_new;
      }
    where
      differ : true ≡ false → ⊥
      differ q = let z : ◌≡◌ {A = ℕ} 0 1 = cc in omega arith

  -- a gate
  module _ (closed : Closed cells) (g : gate.Gate) (a b : CellNo) (e : cell_at cells last ≡ Gate g a b) where
    pub needs_a : Needs cells last a
    needs_a = needs_first (ap pins_of e)

    pub needs_b : Needs cells last b
    needs_b = needs_second (ap pins_of e)

    pub is_a : IsCell cells a
    is_a = closed.gates last a needs_a

    pub is_b : IsCell cells b
    is_b = closed.gates last b needs_b

    pub deep_enough : top < length cells
    deep_enough = room k some o a needs_a

    pub inside : top < length stack
    inside = omega (arith, deep_enough, k.lent.deep)

    -- its first operand is new
    pub goes_first : {marks' : List ℕ} → Meets base marks a marks' false
        → Went cells cut c base marks marks' values (set stack top (of_cell a)) top (top + 1)
    goes_first m =
        let n = met_new m in
        subst⁻¹ (λ (l : List ℕ). Went cells cut c base marks l values (set stack top (of_cell a)) top (top + 1)) n.1
        (record {
          cutting = deeper k some a is_a n.0 needs_a inside;
          less = left_deeper cells base marks marks top (omega arith) deep_enough;
        })

    -- its first operand is met, and then the second is new, or met too
    module _ {marks₁ : List ℕ} (m : Meets base marks a marks₁ true) where
      pub first_met : MetOne cells cut c base marks marks₁ values stack top a
      first_met = meets_one k a is_a (met_below k (top - 1) a low needs_a) m

      pub goes_second : {marks' : List ℕ} → Meets base marks₁ b marks' false
          → Went cells cut c base marks marks' values (set stack top (of_cell b)) top (top + 1)
      goes_second m₂ =
          let n = met_new m₂ in
          subst⁻¹ (λ (l : List ℕ). Went cells cut c base marks l values (set stack top (of_cell b)) top (top + 1)) n.1
          (record {
            cutting = deeper first_met.cutting some b is_b n.0 needs_b inside;
            less = left_deeper cells base marks marks₁ top first_met.few deep_enough;
          })

      module _ {marks₂ : List ℕ} (m₂ : Meets base marks₁ b marks₂ true) where
        pub both_met : MetOne cells cut c base marks₁ marks₂ values stack top b
        both_met = meets_one first_met.cutting b is_b (met_below first_met.cutting (top - 1) b low needs_b) m₂

        -- the word that the gate makes of those of its operands
        tells_gate : (w : ℕ)
            → ((i : ℕ) → i < settings → bit w i ≡ truth g (bit (get_or values (of_cell a) 0) i) (bit (get_or values (of_cell b) 0) i))
            → Tells cells cut w last
        tells_gate w makes h v J S s =
            let j : ℕ = setting h cut in
            let knows_a = both_met.still a first_met.knows in
            let at_a : bit (get_or values (of_cell a) 0) j ≡ v a = both_met.cutting.tells a (omega (arith, knows_a)) h v J S s in
            let at_b : bit (get_or values (of_cell b) 0) j ≡ v b = both_met.cutting.tells b (omega (arith, both_met.knows)) h v J S s in
            makes j (small cut k.long h)
            ∙ ap (λ (x : Bool). truth g x (bit (get_or values (of_cell b) 0) j)) at_a
            ∙ ap (truth g (v a)) at_b
            ∙ sym (value_of h v J S s ∙ ap (value J (S (before cells last)) v) e)

        pub visits_gate : {x : CellNo} {marks' values' : List ℕ} (w : ℕ) → x ≡ last → marks' ≡ set marks₂ (of_cell x) (base + 2)
            → values' ≡ set values (of_cell x) w
            → ((i : ℕ) → i < settings → bit w i ≡ truth g (bit (get_or values (of_cell a) 0) i) (bit (get_or values (of_cell b) 0) i))
            → Went cells cut c base marks marks' values' stack top (top - 1)
        visits_gate w is p q makes =
            let k₂ = both_met.cutting in
            let all = needs_only (ap pins_of e) (Known base marks₂) (both_met.still a first_met.knows) both_met.knows in
            let one = one_known cells base marks₂ last last_cell k₂.lent.wide (omega (arith, k₂.fresh (top - 1) low)) in
            rw (p, q, is)
            (record {
              cutting = settles k₂ some o w (tells_gate w makes) (ap is_source e) all;
              less =
                  left_known cells base marks (set marks₂ (of_cell last) (base + 2)) top
                  (omega (arith, one, first_met.few, both_met.few));
            })
