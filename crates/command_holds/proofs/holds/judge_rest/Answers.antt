use Rattle.command_promise.specs.Told.{read_line}
use Rattle.command_promise.specs.declared.head.HeadFault.TheVariants as none
use Rattle.sx_deploy.specs.SeenDeployment.{deployed_as}
use Rattle.command_holds.proofs.Endings.{not_six, read_as, rest_failed, rest_found, rest_long, rest_open, rest_starved}
use Rattle.command_holds.proofs.holds.judge_rest.Goals as goal

pub returns-in-Ok : goal.returns-in-Ok
returns-in-Ok g c =
    rest_found (deployed_as c.args.deployment.now) c.in-Ok.text.items c.deref.result.now c.deref.ensures.value c.in-Ok.ensures.further c.judge_text.ensures

pub returns-in-Err-TooLong : goal.returns-in-Err-TooLong
returns-in-Err-TooLong g c =
    rest_long c.read_text.new.lines (deployed_as c.args.deployment.now)
    (read_as (g.S.Source.at c.read_text.new.source) c.read_text.new.lines c.in-Err-TooLong.field-0 none.TooLong c.in-Err-TooLong.field-0-is c.in-Err-TooLong.ensures.further)
    c.refuse_no_property.ensures.ends c.refuse_no_property.ensures.memory

pub returns-in-Err-NoMark : goal.returns-in-Err-NoMark
returns-in-Err-NoMark g c =
    rest_open c.read_text.new.lines (deployed_as c.args.deployment.now)
    (read_as (g.S.Source.at c.read_text.new.source) c.read_text.new.lines c.in-Err-NoMark.field-0 none.NoMark c.in-Err-NoMark.field-0-is c.in-Err-NoMark.ensures.further)
    c.refuse_no_property-in-Err-NoMark.ensures.ends c.refuse_no_property-in-Err-NoMark.ensures.memory

pub returns-in-Err-Failed : goal.returns-in-Err-Failed
unfolding read_line
returns-in-Err-Failed g c =
    rest_failed c.read_text.new.lines (deployed_as c.args.deployment.now)
    (read_as (g.S.Source.at c.read_text.new.source) c.read_text.new.lines c.in-Err-Failed.field-0 none.Failed c.in-Err-Failed.field-0-is c.in-Err-Failed.ensures.further)
    c.finish.ensures.ends (not_six c.finish.result c.finish.ensures.status)

pub returns-in-Err-OutOfMemory : goal.returns-in-Err-OutOfMemory
returns-in-Err-OutOfMemory g c =
    rest_starved c.read_text.new.lines (g.K.Sink.at c.args.output.now) (deployed_as c.args.deployment.now)
    (read_as (g.S.Source.at c.read_text.new.source) c.read_text.new.lines c.in-Err-OutOfMemory.field-0 none.OutOfMemory c.in-Err-OutOfMemory.field-0-is c.in-Err-OutOfMemory.ensures.further)
