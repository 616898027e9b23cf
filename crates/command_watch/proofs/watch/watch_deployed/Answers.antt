use Rattle.std.proofs.Common.{ap, refl, Ok, Err}
use Rattle.command_promise.specs.Told.{read_line}
use Rattle.command_promise.specs.Head.{NoMark, TooLong, Unread}
use Rattle.command_promise.specs.declared.head.HeadFault.TheVariants as none
use Rattle.sx_deploy.specs.SeenDeployment.{deployed_as}
use Rattle.command_watch.proofs.Heads.{text_taken, told_found, told_none, told_starved}
use Rattle.command_watch.proofs.watch.watch_deployed.Goals as goal

pub returns-in-Ok-clause-reads : goal.returns-in-Ok-clause-reads
returns-in-Ok-clause-reads g c = λ means text is e s0 got.
    let d = deployed_as c.args.deployment.now in
    told_found text means d e c.in-Ok.text.items c.deref.result.now c.deref.ensures.value
    (text_taken text means d e (g.S.Source.at c.read_text.new.source) c.read_text.new.lines (Ok c.in-Ok.text.items) (Ok c.in-Ok.text.items) refl c.in-Ok.ensures.further got) (c.watch_text.ensures.rest means is)

pub returns-in-Err-TooLong-clause-reads : goal.returns-in-Err-TooLong-clause-reads
returns-in-Err-TooLong-clause-reads g c = λ means text is e s0 got.
    let d = deployed_as c.args.deployment.now in
    told_none text means d e TooLong tt
    (text_taken text means d e (g.S.Source.at c.read_text.new.source) c.read_text.new.lines (Err c.in-Err-TooLong.field-0) (Err none.TooLong) (ap Err c.in-Err-TooLong.field-0-is) c.in-Err-TooLong.ensures.further got) c.refuse_no_property.ensures.ends

pub returns-in-Err-NoMark-clause-reads : goal.returns-in-Err-NoMark-clause-reads
returns-in-Err-NoMark-clause-reads g c = λ means text is e s0 got.
    let d = deployed_as c.args.deployment.now in
    told_none text means d e NoMark tt
    (text_taken text means d e (g.S.Source.at c.read_text.new.source) c.read_text.new.lines (Err c.in-Err-NoMark.field-0) (Err none.NoMark) (ap Err c.in-Err-NoMark.field-0-is) c.in-Err-NoMark.ensures.further got) c.refuse_no_property-in-Err-NoMark.ensures.ends

pub returns-in-Err-Failed-clause-reads : goal.returns-in-Err-Failed-clause-reads
unfolding read_line
returns-in-Err-Failed-clause-reads g c = λ means text is e s0 got.
    let d = deployed_as c.args.deployment.now in
    told_none text means d e Unread tt
    (text_taken text means d e (g.S.Source.at c.read_text.new.source) c.read_text.new.lines (Err c.in-Err-Failed.field-0) (Err none.Failed) (ap Err c.in-Err-Failed.field-0-is) c.in-Err-Failed.ensures.further got) c.finish.ensures.ends

pub returns-in-Err-OutOfMemory-clause-reads : goal.returns-in-Err-OutOfMemory-clause-reads
returns-in-Err-OutOfMemory-clause-reads g c = λ means text is e s0 got.
    let d = deployed_as c.args.deployment.now in
    let taken = text_taken text means d e (g.S.Source.at c.read_text.new.source) c.read_text.new.lines (Err c.in-Err-OutOfMemory.field-0) (Err none.OutOfMemory) (ap Err c.in-Err-OutOfMemory.field-0-is) c.in-Err-OutOfMemory.ensures.further got in
    told_starved text means d e taken.0 taken.1
