-- The buffers are as long as is asked.
use borrow.Author.Rules.{rules}
use Rattle.tracing.proofs.feeding.serve.Goals as goal

pub answer_reads-requires : goal.answer_reads-requires
answer_reads-requires g c =
    (record { line_long = search rules; columns = record { rows_long = search rules; statics_long = search rules } }, search rules)
