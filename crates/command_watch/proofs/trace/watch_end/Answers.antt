use Rattle.std.proofs.Common.{◌+◌, List, ap, refl, sym}
use Rattle.sx_io.specs.Reading.{Answer}
use Rattle.command_promise.specs.Told.{Output, read_line}
use Rattle.command_promise.proofs.Laws.{begun-line, ends-same, told-stop, told-end, told-too-long, told-failed}
use Rattle.command_explain.specs.Output.{broken_output}
use Rattle.command_explain.specs.Trace.{stop_behind}
use Rattle.command_watch.specs.Output.{stop_output}
use Rattle.command_watch.proofs.trace.watch_end.Goals as goal

pub returns-in-End-clause-rest : goal.returns-in-End-clause-rest
returns-in-End-clause-rest g c = λ means p items is s counted limit m0 defined aside noted b.
    let f : List Answer → Output = λ more. stop_output items (stop_behind (means.item c.args.names.now) (c.args.count + 2) more) in
    told-end {f = f} refl b c.in-End.ensures.next (c.finish_kept.ensures.ends p items s counted)

pub returns-in-TooLong-clause-rest : goal.returns-in-TooLong-clause-rest
returns-in-TooLong-clause-rest g c = λ means p items is s counted limit m0 defined aside noted b.
    let f : List Answer → Output = λ more. stop_output items (stop_behind (means.item c.args.names.now) (c.args.count + 2) more) in
    told-too-long {f = f} refl b c.in-TooLong.ensures.next c.break_off.ensures.ends

pub returns-in-Failed-clause-rest : goal.returns-in-Failed-clause-rest
unfolding read_line
returns-in-Failed-clause-rest g c = λ means p items is s counted limit m0 defined aside noted b.
    let f : List Answer → Output = λ more. stop_output items (stop_behind (means.item c.args.names.now) (c.args.count + 2) more) in
    told-failed {f = f} refl b c.in-Failed.ensures.next c.finish.ensures.ends

pub returns-in-Text-clause-rest : goal.returns-in-Text-clause-rest
returns-in-Text-clause-rest g c = λ means p items is s counted limit m0 defined aside noted b.
    let f : List Answer → Output = λ more. stop_output items (stop_behind (means.item c.args.names.now) (c.args.count + 2) more) in
    told-stop (begun-line f refl b c.in-Text.ensures.next)
    (λ more. ends-same _ _ _ _ _ _ (ap (λ rule. broken_output rule (c.args.count + 2)) (sym (c.rule_behind.ensures means is))) c.break_off-in-Text.ensures.ends)
