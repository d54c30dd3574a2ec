-- A cover has one answer: nothing else satisfies the description of the entries that check one, and something does, for every netlist and
-- every list of numbers.
use mathlib.Core.Path.{◌≡◌, refl, sym, ap, ◌∙◌}
use mathlib.Core.List.{List}
use mathlib.Core.Logic.{⊎_elim}
use Prim.Native.Nat.{ℕ, ◌<◌}
use native.Mathlib.Omega.{arith}
use native.Mathlib.Decide.{dec_lt}
use Rattle.number.specs.declared.Refusal.TheVariants.{Cover}
use Rattle.number.specs.Refusals.{fault}
use Rattle.cells.specs.Netlist.{Netlist}
use Rattle.files.specs.Read.{FileOutcome, netlist}
use Rattle.netlists.specs.Check.{NetChecks, refused, cyclic, accepted}
use Rattle.netlists.proofs.Checking.{one_check}
use Rattle.netlists.proofs.Exists as netlists
use Rattle.covers.specs.Covers.{RightCover, FirstWrong}
use Rattle.giving.proofs.Deciding.{Decided, right as is_right, wrong as is_wrong, decided}
use Rattle.verdicts.specs.declared.Answer.{Answer}
use Rattle.verdicts.specs.Answers.{Verdict, passes, stops, answer_of}
use Rattle.netlist_entries.specs.Netlists.{net_accepted}
use Rattle.cover_entries.specs.Covers.{CoverVerdict, own, right, wrong, Judges, CoverChecked}

module _ {w : Netlist} {cover : List ℕ} where
  -- a right cover has no fault
  not_both : {place : ℕ} → RightCover w cover → FirstWrong w cover place → ⊥
  not_both {place} r f = ⊎_elim (λ t. t.1 (r.tables place t.0)) (λ e. e.1 r.complete) f.here

  -- and another has one first fault
  not_later : {place other : ℕ} → FirstWrong w cover place → FirstWrong w cover other → place < other → ⊥
  not_later {place} f g l =
      ⊎_elim (λ t. t.1 (g.before place l)) (λ e. ⊎_elim (λ t. omega (arith, t.0, e.0)) (λ d. omega (arith, d.0, e.0)) g.here)
      f.here

  one_place : {place other : ℕ} → FirstWrong w cover place → FirstWrong w cover other → place ≡ other
  one_place {place} {other} f g = go (dec_lt place other) (dec_lt other place)
    where
      go : Dec (place < other) → Dec (other < place) → place ≡ other
      go (yes l) d = absurd (not_later f g l)
      go (no n) (yes l) = absurd (not_later g f l)
      go (no n) (no m) = omega arith

one_verdict : {cover : List ℕ} {o : FileOutcome} {v v' : Verdict} → CoverVerdict cover o v → CoverVerdict cover o v' → v ≡ v'
one_verdict own own = refl
one_verdict (right r) (right s) = refl
one_verdict (right r) (wrong f) = absurd (not_both r f)
one_verdict (wrong f) (right r) = absurd (not_both r f)
one_verdict (wrong f) (wrong g) = ap (λ (place : ℕ). stops (fault Cover place)) (one_place f g)

pub one_cover_checked : (found : FileOutcome) {cover : List ℕ} {r r' : Answer} → CoverChecked found cover r → CoverChecked found cover r'
    → r ≡ r'
one_cover_checked found {cover} a b =
    let j = rw (sym (one_check a.checks b.checks)) at b.judges in
    let same = one_verdict a.judges.judged j.judged in
    a.judges.answer ∙ ap (λ (v : Verdict). answer_of v (net_accepted a.outcome)) same ∙ sym j.answer

-- there is one
pub record Answered (found : FileOutcome) (cover : List ℕ) : Type 0 where
  pub answer : Answer
  pub checked : CoverChecked found cover answer

pub answered : {found : FileOutcome} → netlists.Answered found → (cover : List ℕ) → Answered found cover
answered {found} a cover = go a.checks
  where
    told : {o : FileOutcome} (v : Verdict) → NetChecks found o → CoverVerdict cover o v → Answered found cover
    told {o} v checks j =
        let judges : Judges o cover (answer_of v (net_accepted o)) = record { verdict = v; judged = j; answer = refl } in
        record { answer = answer_of v (net_accepted o); checked = record { outcome = o; checks = checks; judges = judges } }

    by : {w : Netlist} → NetChecks found (netlist w) → Decided w cover → Answered found cover
    by checks (is_right r) = told passes checks (right r)
    by checks (is_wrong place f) = told (stops (fault Cover place)) checks (wrong f)

    go : {o : FileOutcome} → NetChecks found o → Answered found cover
    go (refused {f = f} e) = told (stops f) (refused e) own
    go (cyclic e lowest) = told _ (cyclic e lowest) own
    go (accepted {w = w} order e ordered) = by (accepted order e ordered) (decided w ordered cover)
