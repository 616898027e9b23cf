use Rattle.sx_isa.proofs.StandingLemmas.{stands_begins, stands_reads, all_words, all_append, all_same, all_kept}
use Rattle.sx_isa.proofs.laws.standing.Goals as goal

pub returns-clause-begins : goal.returns-clause-begins
returns-clause-begins c = stands_begins

pub returns-clause-reads : goal.returns-clause-reads
returns-clause-reads c = stands_reads

pub returns-clause-words : goal.returns-clause-words
returns-clause-words c = all_words

pub returns-clause-append : goal.returns-clause-append
returns-clause-append c = all_append

pub returns-clause-modulo : goal.returns-clause-modulo
returns-clause-modulo c = all_same

pub returns-clause-kept : goal.returns-clause-kept
returns-clause-kept c = all_kept
