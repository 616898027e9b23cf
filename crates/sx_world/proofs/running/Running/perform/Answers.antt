use Rattle.std.proofs.Common.{[], false, subst}
use Rattle.sx_sched.specs.declared.lines.Line.TheVariants as read
use Rattle.spec_run.specs.Acts.{new_packet}
use Rattle.sx_world.specs.Held.{DoesAct}
use Rattle.sx_observe.specs.InMemory.{setting_in}
use Rattle.spec_run.specs.Run.{put_on, steps_of}
use Rattle.sx_world.proofs.doing.Prepared.{counts_finish, line_does}
use Rattle.sx_world.proofs.running.Running.perform.Goals as goal

pub finish-requires-clause-steps : goal.finish-requires-clause-steps
finish-requires-clause-steps g c = counts_finish c.args.self.now.steps c.requires.ready.steps

pub call-requires-clause-steps : goal.call-requires-clause-steps
call-requires-clause-steps g c = counts_finish c.args.self.now.steps c.requires.ready.steps

pub returns-in-Run : goal.returns-in-Run
returns-in-Run g c =
    let set = setting_in g.T.Tag.mac c.args.setting.now in
    line_does set c.steps_of.result c.args.self.now c.steps_of.new.self c.args.items.now.items c.steps_of.new.items.items c.args.line.now (read.Run c.in-Run.node c.in-Run.steps) c.in-Run.is
    (subst (λ k. DoesAct set c.steps_of.result c.args.self.now c.steps_of.new.self c.args.items.now.items c.steps_of.new.items.items (steps_of set (λ s. false) [] c.in-Run.node k)) c.from.ensures
    c.steps_of.ensures)

pub returns-in-Finish : goal.returns-in-Finish
returns-in-Finish g c =
    let set = setting_in g.T.Tag.mac c.args.setting.now in
    line_does set c.finish.result c.args.self.now c.finish.new.self c.args.items.now.items c.finish.new.items.items c.args.line.now (read.Finish c.in-Finish.node) c.in-Finish.is
    (c.finish.ensures)

pub returns-in-Put : goal.returns-in-Put
returns-in-Put g c =
    let set = setting_in g.T.Tag.mac c.args.setting.now in
    line_does set c.put_on.result c.args.self.now c.put_on.new.self c.args.items.now.items c.put_on.new.items.items c.args.line.now (read.Put c.in-Put.node c.in-Put.at c.in-Put.bytes) c.in-Put.is
    (subst (λ bytes. DoesAct set c.put_on.result c.args.self.now c.put_on.new.self c.args.items.now.items c.put_on.new.items.items (put_on c.in-Put.node c.in-Put.at bytes)) c.deref.ensures.value
    (c.put_on.ensures.does set))

pub returns-in-Set : goal.returns-in-Set
returns-in-Set g c =
    let set = setting_in g.T.Tag.mac c.args.setting.now in
    line_does set c.set_on.result c.args.self.now c.set_on.new.self c.args.items.now.items c.set_on.new.items.items c.args.line.now (read.Set c.in-Set.node c.in-Set.reg c.in-Set.value) c.in-Set.is
    (c.set_on.ensures.does set)

pub returns-in-Take : goal.returns-in-Take
returns-in-Take g c =
    let set = setting_in g.T.Tag.mac c.args.setting.now in
    line_does set c.take.result c.args.self.now c.take.new.self c.args.items.now.items c.take.new.items.items c.args.line.now (read.Take c.in-Take.node c.in-Take.at c.in-Take.len) c.in-Take.is
    (c.take.ensures set)

pub returns-in-Give : goal.returns-in-Give
returns-in-Give g c =
    let set = setting_in g.T.Tag.mac c.args.setting.now in
    line_does set c.give.result c.args.self.now c.give.new.self c.args.items.now.items c.give.new.items.items c.args.line.now (read.Give c.in-Give.packet c.in-Give.node c.in-Give.at) c.in-Give.is
    (c.give.ensures set)

pub returns-in-Forge : goal.returns-in-Forge
returns-in-Forge g c =
    let set = setting_in g.T.Tag.mac c.args.setting.now in
    line_does set c.new_packet.result c.args.self.now c.new_packet.new.self c.args.items.now.items c.new_packet.new.items.items c.args.line.now (read.Forge c.in-Forge.bytes) c.in-Forge.is
    (subst (λ bytes. DoesAct set c.new_packet.result c.args.self.now c.new_packet.new.self c.args.items.now.items c.new_packet.new.items.items
    (λ w. new_packet w bytes)) c.deref-in-Forge.ensures.value
    (c.new_packet.ensures set))

pub returns-in-Sense : goal.returns-in-Sense
returns-in-Sense g c =
    let set = setting_in g.T.Tag.mac c.args.setting.now in
    line_does set c.sense.result c.args.self.now c.sense.new.self c.args.items.now.items c.sense.new.items.items c.args.line.now (read.Sense c.in-Sense.device c.in-Sense.value) c.in-Sense.is
    (c.sense.ensures c.args.setting.now.sites.now)

pub returns-in-Irq : goal.returns-in-Irq
returns-in-Irq g c =
    let set = setting_in g.T.Tag.mac c.args.setting.now in
    line_does set c.irq.result c.args.self.now c.irq.new.self c.args.items.now.items c.irq.new.items.items c.args.line.now (read.Irq c.in-Irq.node c.in-Irq.line) c.in-Irq.is
    c.irq.ensures

pub returns-in-Reset : goal.returns-in-Reset
returns-in-Reset g c =
    let set = setting_in g.T.Tag.mac c.args.setting.now in
    line_does set c.reset.result c.args.self.now c.reset.new.self c.args.items.now.items c.reset.new.items.items c.args.line.now (read.Reset c.in-Reset.node) c.in-Reset.is
    (c.reset.ensures set)

pub returns-in-Ask : goal.returns-in-Ask
returns-in-Ask g c =
    let set = setting_in g.T.Tag.mac c.args.setting.now in
    line_does set c.ask.result c.args.self.now c.ask.new.self c.args.items.now.items c.ask.new.items.items c.args.line.now (read.Ask c.in-Ask.«module») c.in-Ask.is
    (c.ask.ensures.does set)

pub returns-in-Answer : goal.returns-in-Answer
returns-in-Answer g c =
    let set = setting_in g.T.Tag.mac c.args.setting.now in
    line_does set c.answer.result c.args.self.now c.answer.new.self c.args.items.now.items c.answer.new.items.items c.args.line.now
    (read.Answer c.in-Answer.«module» c.in-Answer.boot c.in-Answer.packet) c.in-Answer.is
    (c.answer.ensures.does c.args.setting.now.sites.now)

pub returns-in-Load : goal.returns-in-Load
returns-in-Load g c =
    let set = setting_in g.T.Tag.mac c.args.setting.now in
    line_does set c.load.result c.args.self.now c.load.new.self c.args.items.now.items c.load.new.items.items c.args.line.now (read.Load c.in-Load.«module») c.in-Load.is
    (c.load.ensures)

pub returns-in-Call : goal.returns-in-Call
returns-in-Call g c =
    let set = setting_in g.T.Tag.mac c.args.setting.now in
    line_does set c.call.result c.args.self.now c.call.new.self c.args.items.now.items c.call.new.items.items c.args.line.now
    (read.Call c.in-Call.«module» c.in-Call.entry c.in-Call.input c.in-Call.output) c.in-Call.is
    (c.call.ensures)
