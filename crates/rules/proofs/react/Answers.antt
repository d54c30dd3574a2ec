-- Boot decides, and with boot on whether a halt is set.
use mathlib.Core.Bool.{not}
use mathlib.Core.Path.{ap, sym, ◌∙◌}
use Rattle.rules.proofs.Resumes.{inside_off, inside_on, resume_off, react_resumes, react_starts}
use Rattle.rules.proofs.react.Goals as goal

pub inside-requires : goal.inside-requires
inside-requires c =
    rw c.new-root.ensures c.requires

pub returns-then-not-inside : goal.returns-then-not-inside
returns-then-not-inside c =
    let off = inside_off c.new-root.ensures c.inside.ensures (ap not c.if-not-inside.true) in
    react_resumes _ _ _ _ (sym c.member.ensures ∙ c.if-member.true) (resume_off _ _ _ _ off c.idle.ensures)

pub resume-requires : goal.resume-requires
resume-requires c =
    let on = inside_on c.new-root.ensures c.inside.ensures (ap not c.if-not-inside.false) in
    rw c.new-root.ensures (c.requires, on)

pub returns-then-member : goal.returns-then-member
returns-then-member c =
    react_resumes _ _ _ _ (sym c.member.ensures ∙ c.if-member.true) (rw c.new-root.ensures at c.resume.ensures)

pub start-requires : goal.start-requires
start-requires c =
    rw c.new-root.ensures c.requires

pub returns : goal.returns
returns c =
    react_starts _ _ _ _ (sym c.member.ensures ∙ c.if-member.false) (rw c.new-root.ensures at c.start.ensures)
