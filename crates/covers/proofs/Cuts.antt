-- The comparison at the end of the way is the definition's, both ways.
use Prim.Native.Nat.{ℕ, ◌^◌, ◌<◌}
use mathlib.Core.Path.{◌≡◌, refl, sym, ap, ◌∙◌, subst}
use mathlib.Core.Bool.{Bool, true, false, ◌&&◌, true≢false}
use mathlib.Core.List.{List}
use native.Mathlib.Omega.{arith}
use Rattle.std.proofs.Math.Logic.{∥∥₁_elim}
use lib.Dec.{eqb}
use lib.Bits.{bit_and, and_le_l}
use lib.ListN.{length, get_or}
use borrow.Author.Tests.{eqb-true, eqb-false}
use Rattle.number.specs.Counts.{of_cell}
use Rattle.number.specs.Number.{pick}
use Rattle.number.specs.declared.CellNo.{CellNo}
use Rattle.number.specs.declared.SignalNo.{SignalNo}
use Rattle.tables.specs.declared.Table.{Table}
use Rattle.tables.specs.Answering.{pins, settings, bit, setting, answers}
use Rattle.tables.proofs.Bits.{same_bits}
use Rattle.tables.proofs.Settings.{setting_bit, setting_is, value_in, reached}
use Rattle.cells.specs.declared.Cell.{Cell}
use Rattle.cells.specs.Cells.{cell_at}
use Rattle.cells.specs.Needs.{IsCell}
use Rattle.order.specs.Paths.{Reaches, one}
use Rattle.run.specs.Held.{SolvesHeld}
use Rattle.run.proofs.One.{held}
use Rattle.cuts.specs.Cut.{pin_at, is_source, is_constant, is_pin, Met, operand, onward, RightCut}
use Rattle.cuts.specs.Cutting.{CanOrder, HasOrder, Alike, Counted, Cutting, Strays}
use Rattle.covers.specs.Checking.{PinsKnown}
use Rattle.cuts.proofs.Words.{bit_and_lem}
use Rattle.cuts.proofs.Pins.{pin_found, found_pin}
use Rattle.cuts.proofs.Depth.{acyclic}
use Rattle.cuts.proofs.Ways.{join, root_known, met_known, known_met}
use Rattle.cuts.proofs.Visits.{small}

-- what is met is reached
pub met_reached : {cells : List Cell} {cut : List CellNo} {c y : CellNo} → Met cells cut c y → Reaches cells c y
met_reached (operand n) = one n
met_reached (onward m e n) = join (met_reached m) n

-- a pin that is the table's own cell is not met below it
pub own_pin : {cells : List Cell} (t : Table) → CanOrder cells → IsCell cells t.cell → is_constant (cell_at cells t.cell) ≡ false
    → length t.pins ≡ pins → is_pin t.pins t.cell ≡ true → RightCut cells t → ⊥
own_pin {cells} t o is gate long pin right =
    let w = pin_found t.pins t.cell pin in
    let other = ap (λ (x : CellNo). is_constant (cell_at cells x)) w.2 ∙ gate in
    let way = right.met w.0 (omega (arith, w.1, long)) other in
    acyclic o is (subst (Reaches cells t.cell) w.2 (met_reached way))

pub strays_wrong : {cells : List Cell} (t : Table) → Strays cells t.pins t.cell → RightCut cells t → ⊥
strays_wrong t s right = true≢false (sym (right.ends s.at s.met s.source) ∙ s.no_pin)

-- with the pins held at h a net at a pin has its value of h, so that the setting is h's
module _ (cells : List Cell) (cut : List CellNo) (long : length cut ≡ pins) (h v : CellNo → Bool) (J : SignalNo → Bool) (S : ℕ → Bool)
    (s : SolvesHeld (is_pin cut) h J S cells v) where
  pub at_pin : (p : ℕ) → p < pins → v (pin_at cut p) ≡ h (pin_at cut p)
  unfolding pick
  at_pin p l = s (pin_at cut p) ∙ rw (found_pin cut p (rw long l))

  pub same_setting : setting v cut ≡ setting h cut
  same_setting =
      setting_is v cut (setting h cut) (rw long (small cut long h))
      (λ p hp. at_pin p (rw long at hp) ∙ sym (setting_bit h cut p hp))

masked : (a b : Bool) → b ≡ true → (a && b) ≡ a
masked true b e = e
masked false b e = refl

hidden : (a b : Bool) → b ≡ false → (a && b) ≡ false
hidden true b e = e
hidden false b e = refl

module _ {cells : List Cell} (t : Table) {base : ℕ} {marks values stack : List ℕ}
    (k : Cutting cells t.pins t.cell base marks values stack 0) (no_own : is_pin t.pins t.cell ≡ false) where
  pub met_pins : RightCut cells t → PinsKnown cells base marks t.pins
  met_pins right p h e = met_known k no_own (right.met p h e)

  module _ {counts : ℕ} (n : Counted t.pins pins counts) (known : PinsKnown cells base marks t.pins) where
    abbrev cut : List CellNo
    cut = t.pins

    abbrev word : ℕ
    word = get_or values (of_cell t.cell) 0

    -- a setting of values counts
    counts_at : (h : CellNo → Bool) → bit counts (setting h cut) ≡ true
    counts_at h =
        n.all (setting h cut) (small cut k.long h)
        (λ p q hp hq e.
        setting_bit h cut p (omega (arith, k.long)) ∙ ap h e ∙ sym (setting_bit h cut q (omega (arith, k.long))))

    tells : (h v : CellNo → Bool) (J : SignalNo → Bool) (S : ℕ → Bool) → SolvesHeld (is_pin cut) h J S cells v
        → bit word (setting h cut) ≡ v t.cell
    tells h v J S s = k.tells t.cell (omega (arith, root_known k no_own)) h v J S s

    abbrev test : Bool
    test = eqb (bit_and word counts) (bit_and t.truth counts)

    pub passes : test ≡ true → RightCut cells t
    unfolding answers
    passes e =
        record {
          met = λ p h other. known_met k no_own (pin_at cut p) (found_pin cut p (omega (arith, k.long))) (known p h other);
          ends = λ y m source. ends y m source (is_pin cut y) refl;
          equal = λ h v J S s.
              let b : ℕ = setting h cut in
              let on = counts_at h in
              let alike : bit word b ≡ bit t.truth b =
              sym (bit_and_lem word counts b ∙ masked (bit word b) (bit counts b) on)
              ∙ ap (λ (w : ℕ). bit w b) (eqb-true (bit_and word counts) (bit_and t.truth counts) e)
              ∙ (bit_and_lem t.truth counts b ∙ masked (bit t.truth b) (bit counts b) on) in
              ap (bit t.truth) (same_setting cells cut k.long h v J S s) ∙ sym alike ∙ tells h v J S s;
        }
      where
        ends : (y : CellNo) → Met cells t.pins t.cell y → is_source (cell_at cells y) ≡ true → (b : Bool) → is_pin t.pins y ≡ b
            → is_pin t.pins y ≡ true
        ends y m source true f = f
        ends y m source false f = absurd (true≢false (sym source ∙ k.closed y (met_known k no_own m) f))

    wrong : HasOrder cells → word < 2 ^ settings → t.truth < 2 ^ settings → test ≡ false → RightCut cells t → ⊥
    unfolding answers
    wrong o small_word small_truth e right =
        eqb-false (bit_and word counts) (bit_and t.truth counts) e
        (same_bits settings (bit_and word counts) (bit_and t.truth counts) (below word small_word) (below t.truth small_truth)
        (λ b h. at b h (bit counts b) refl))
      where
        below : (w : ℕ) → w < 2 ^ settings → bit_and w counts < 2 ^ settings
        below w h = omega (arith, and_le_l w counts)

        at : (b : ℕ) → b < settings → (c : Bool) → bit counts b ≡ c
            → bit (bit_and (get_or values (of_cell t.cell) 0) counts) b ≡ bit (bit_and t.truth counts) b
        at b h true on =
            let w : ℕ = get_or values (of_cell t.cell) 0 in
            let v₀ : CellNo → Bool = value_in t.pins b in
            let all : Alike t.pins pins b = n.on b h on in
            let is : setting v₀ t.pins ≡ b =
            reached t.pins b (rw k.long h) (λ p q hp hq e. all p q (omega (arith, k.long)) (omega (arith, k.long)) e) in
            let one = held cells o.0 o.1 (is_pin t.pins) v₀ (λ s. false) (λ i. false) in
            let v = one.values in
            let known_word : bit w b ≡ v t.cell = ap (bit w) (sym is) ∙ tells v₀ v (λ s. false) (λ i. false) one.solves in
            let truth_is : bit t.truth b ≡ v t.cell =
            ap (bit t.truth) (sym (same_setting cells t.pins k.long v₀ v (λ s. false) (λ i. false) one.solves ∙ is)) ∙
            right.equal v₀ v (λ s. false)
            (λ i. false) one.solves in
            bit_and_lem w counts b
            ∙ masked (bit w b) (bit counts b) on
            ∙ known_word
            ∙ sym truth_is
            ∙ sym (masked (bit t.truth b) (bit counts b) on)
            ∙ sym (bit_and_lem t.truth counts b)
        at b h false none =
            let w : ℕ = get_or values (of_cell t.cell) 0 in
            bit_and_lem w counts b
            ∙ hidden (bit w b) (bit counts b) none
            ∙ sym (hidden (bit t.truth b) (bit counts b) none)
            ∙ sym (bit_and_lem t.truth counts b)

    pub fails : CanOrder cells → word < 2 ^ settings → t.truth < 2 ^ settings → test ≡ false → RightCut cells t → ⊥
    fails o small_word small_truth e right = ∥∥₁_elim o (λ a b. absurd a) (λ w. wrong w small_word small_truth e right)
