use Rattle.std.proofs.Common.{List, ap, refl, sym}
use Rattle.sx_io.specs.Reading.{Answer}
use Rattle.command_promise.specs.Told.{Output, read_line}
use Rattle.command_promise.proofs.Laws.{begun-line, ends-same, told-stop, told-end, told-too-long, told-failed}
use Rattle.command_explain.specs.Output.{broken_output, stop_output}
use Rattle.command_explain.specs.Trace.{stop_behind}
use Rattle.sx_mean.specs.View.{app_as}
use Rattle.command_explain.proofs.trace.explain_end.Goals as goal

pub returns-in-End-clause-rest : goal.returns-in-End-clause-rest
returns-in-End-clause-rest g c = λ means items is h limit m0 defined aside noted b.
    let f : List Answer → Output = λ more. stop_output items (stop_behind (means.item c.args.deployment.now.names) c.args.number more) in
    told-end {f = f} refl b c.in-End.ensures.next (c.finish_legal.ensures.ends (app_as c.args.deployment.now.app) items h)

pub returns-in-TooLong-clause-rest : goal.returns-in-TooLong-clause-rest
returns-in-TooLong-clause-rest g c = λ means items is h limit m0 defined aside noted b.
    let f : List Answer → Output = λ more. stop_output items (stop_behind (means.item c.args.deployment.now.names) c.args.number more) in
    told-too-long {f = f} refl b c.in-TooLong.ensures.next c.break_off.ensures.ends

pub returns-in-Failed-clause-rest : goal.returns-in-Failed-clause-rest
unfolding read_line
returns-in-Failed-clause-rest g c = λ means items is h limit m0 defined aside noted b.
    let f : List Answer → Output = λ more. stop_output items (stop_behind (means.item c.args.deployment.now.names) c.args.number more) in
    told-failed {f = f} refl b c.in-Failed.ensures.next c.finish.ensures.ends

pub returns-in-Text-clause-rest : goal.returns-in-Text-clause-rest
returns-in-Text-clause-rest g c = λ means items is h limit m0 defined aside noted b.
    let f : List Answer → Output = λ more. stop_output items (stop_behind (means.item c.args.deployment.now.names) c.args.number more) in
    told-stop (begun-line f refl b c.in-Text.ensures.next)
    (λ more. ends-same _ _ _ _ _ _ (ap (λ rule. broken_output rule c.args.number) (sym (c.rule_behind.ensures means is))) c.break_off-in-Text.ensures.ends)

pub returns-in-End-clause-memory : goal.returns-in-End-clause-memory
returns-in-End-clause-memory g c = c.finish_legal.ensures.memory

pub returns-in-TooLong-clause-memory : goal.returns-in-TooLong-clause-memory
returns-in-TooLong-clause-memory g c = c.break_off.ensures.memory

pub returns-in-Failed-clause-memory : goal.returns-in-Failed-clause-memory
returns-in-Failed-clause-memory g c = λ six. cc (six, c.finish.ensures.status (λ five. cc (six, five)))

pub returns-in-Text-clause-memory : goal.returns-in-Text-clause-memory
returns-in-Text-clause-memory g c = c.break_off-in-Text.ensures.memory
