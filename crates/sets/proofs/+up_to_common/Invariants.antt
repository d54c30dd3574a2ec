use Rattle.sets.proofs.+up_to_common.Given as goal

abbrev pub decreases-up_to_common : goal.decreases-up_to_common
decreases-up_to_common l = l.a
