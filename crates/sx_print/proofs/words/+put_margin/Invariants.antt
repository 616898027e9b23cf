use Rattle.sx_print.proofs.words.+put_margin.Given as goal

abbrev pub decreases-put_margin : goal.decreases-put_margin
decreases-put_margin l = l.depth
