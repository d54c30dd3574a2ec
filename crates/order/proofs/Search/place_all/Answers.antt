-- `place_all` meets its contract: each cell below i is placed. At the end that is every cell.
use mathlib.Core.Path.{refl, ◌∙◌}
use native.Mathlib.Omega.{arith}
use Rattle.cells.proofs.Words.{inside, at_end}
use Rattle.order.proofs.Searches.{begins, upto_more, all_placed}
use Rattle.order.proofs.Search.place_all.Goals as goal

pub loop-i-init : goal.loop-i-init
loop-i-init c = record { same = refl; lent = refl; upto = record { searching = begins c.args.self.now.room c.requires; seen = λ k h. absurd (omega arith) } }

pub visit-requires : goal.visit-requires
visit-requires c =
    let now = c.loop-i.invariant in
    rw (now.same, c.new.ensures) (now.upto.searching, inside c.args.self.now.cells.now c.loop-i-test.true)

pub loop-i-preserved : goal.loop-i-preserved
loop-i-preserved c =
    let now = c.loop-i.invariant in
    let visit = c.visit.ensures in
    let through = rw (now.same, c.new.ensures) at c.in_ok-count.ensures.visited in
    record { same = visit.same ∙ now.same; lent = visit.lent ∙ now.lent; upto = upto_more now.upto through }

pub returns-clause-visited : goal.returns-clause-visited
returns-clause-visited c =
    let now = c.loop-i.invariant in
    let all = at_end c.args.self.now.cells.now c.loop-i-test.false in
    all_placed now.upto.searching (λ k h. now.upto.seen k (omega arith))
