use Rattle.sheet.proofs.+read_stmt.Given as goal

abbrev pub decreases-read_stmt : goal.decreases-read_stmt
decreases-read_stmt l = l.left
