use Rattle.sx_lex.proofs.scan.+name_run.Given as goal

abbrev pub decreases-name_run : goal.decreases-name_run
decreases-name_run l = l.most
