-- A table that passes the check, for the runs of a sound setting.
use Rattle.std.proofs.lemmas.Bool.{and_parts}
use Rattle.law_never.specs.Check.{is_open}
use Rattle.law_never.specs.Demands.{is_shut}
use Rattle.law_never.specs.Laws.{CheckedKeeps}
use Rattle.law_never.proofs.ClosedKeepsInRuns.{closed_keeps_in_runs}
use Rattle.law_never.proofs.Demanded.{check_decides}

pub checked_keeps : CheckedKeeps
checked_keeps reacts o t set sound lines few form ways passed =
    let p = and_parts (is_shut reacts set.app o t) (is_open set.app o t) passed in
    let k = check_decides reacts set.app o t in
    closed_keeps_in_runs reacts o t set sound lines few form ways (k.shut p.0) (k.opens p.1)
