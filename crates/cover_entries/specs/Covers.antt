-- The entries that check a cover of a netlist.
use Rattle.std.specs.Prelude.{◌≡◌, List, ℕ}
use Rattle.number.specs.declared.Fault.{Fault}
use Rattle.number.specs.declared.Refusal.TheVariants.{Cover}
use Rattle.number.specs.Refusals.{fault}
use Rattle.cells.specs.Netlist.{Netlist}
use Rattle.files.specs.Read.{FileOutcome, netlist, faulty}
use Rattle.netlists.specs.Check.{NetChecks}
use Rattle.covers.specs.Covers.{RightCover, FirstWrong}
use Rattle.verdicts.specs.declared.Answer.{Answer}
use Rattle.verdicts.specs.Answers.{Verdict, passes, stops, answer_of}
use Rattle.netlist_entries.specs.Netlists.{net_accepted}

-- "Refusals: after the netlist's own, 19 COVER, at the first table in the list that is wrong .., or at the number of tables": a right cover
-- passes
pub data CoverVerdict (cover : List ℕ) : FileOutcome → Verdict → Type 0 where
  own : {f : Fault} → CoverVerdict cover (faulty f) (stops f)
  right : {w : Netlist} → RightCover w cover → CoverVerdict cover (netlist w) passes
  wrong : {w : Netlist} {place : ℕ} → FirstWrong w cover place → CoverVerdict cover (netlist w) (stops (fault Cover place))

-- what is answered of a netlist or its fault
pub record Judges (outcome : FileOutcome) (cover : List ℕ) (r : Answer) : Type 0 where
  pub verdict : Verdict
  pub judged : CoverVerdict cover outcome verdict
  pub answer : r ≡ answer_of verdict (net_accepted outcome)

-- Check a cover: `found` is what reading the netlist's bytes, or judging its words, finds.
pub record CoverChecked (found : FileOutcome) (cover : List ℕ) (r : Answer) : Type 0 where
  pub outcome : FileOutcome
  pub checks : NetChecks found outcome
  pub judges : Judges outcome cover r
