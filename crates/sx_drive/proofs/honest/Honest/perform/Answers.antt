use Rattle.std.proofs.Common.{◌∙◌}
use Rattle.sx_sched.specs.Seen.{line_of}
use Rattle.sx_drive.proofs.Remains.{does_err}
use Rattle.sx_drive.proofs.Performed.{line_part, line_wanted, copy_wanted, line_does, kept_does, is_short, has_room, said_then}
use Rattle.sx_drive.proofs.honest.Honest.perform.Goals as goal

pub act-acted-requires-clause-room : goal.act-acted-requires-clause-room
act-acted-requires-clause-room g c = has_room g.T.Tag.mac c.args.deployment.now c.args.self.now c.requires.going c.requires.room

pub returns-in_err-reserve-clause-does : goal.returns-in_err-reserve-clause-does
returns-in_err-reserve-clause-does g c =
    does_err g.T.Tag.mac c.args.deployment.now c.from_residual.result c.args.self.now c.args.self.now c.args.said.now.items c.reserve.new.self.items
    (line_part (line_of c.args.line)) c.from_residual.ensures.0
    (line_wanted g.T.Tag.mac c.args.deployment.now (line_of c.args.line) c.args.self.now c.args.said.now.items c.reserve.new.self.items c.in_err-reserve.ensures.items)

pub returns-in_err-tell-clause-does : goal.returns-in_err-tell-clause-does
returns-in_err-tell-clause-does g c =
    does_err g.T.Tag.mac c.args.deployment.now c.from_residual-in_err-tell.result c.args.self.now c.tell.new.self c.args.said.now.items
    c.tell.new.said.items (line_part (line_of c.args.line)) c.from_residual-in_err-tell.ensures.0
    (copy_wanted g.T.Tag.mac c.args.deployment.now c.act-acted.result (line_of c.args.line) c.args.self.now c.act-acted.new.self c.tell.new.self
    c.args.said.now.items c.tell.new.said.items c.act-acted.ensures.acted c.act-acted.ensures.front c.act-acted.ensures.made c.in_err-tell.ensures.world
    (said_then c.args.said.now.items c.reserve.new.self.items c.tell.new.said.items (line_of c.args.line) c.act-acted.new.self.shown c.in_ok-reserve.ensures.items c.in_err-tell.ensures.said))

pub returns-clause-does : goal.returns-clause-does
returns-clause-does g c =
    let mid = c.act-acted.new.self in
    kept_does g.T.Tag.mac c.args.deployment.now c.act-acted.result (line_of c.args.line) c.args.self.now mid c.tell.new.self c.args.said.now.items c.tell.new.said.items c.in_ok-tell.ensures.ok
    (line_does g.T.Tag.mac c.args.deployment.now c.act-acted.result (line_of c.args.line) c.args.self.now mid c.args.said.now.items c.tell.new.said.items
    c.act-acted.ensures.acted c.act-acted.ensures.front c.act-acted.ensures.counts (has_room g.T.Tag.mac c.args.deployment.now c.args.self.now c.requires.going c.requires.room)
    c.act-acted.ensures.sites c.act-acted.ensures.waiting (c.act-acted.ensures.long ∙ is_short c.args.self.now c.requires.room)
    c.act-acted.ensures.goes_on c.act-acted.ensures.made
    (said_then c.args.said.now.items c.reserve.new.self.items c.tell.new.said.items (line_of c.args.line) mid.shown c.in_ok-reserve.ensures.items c.in_ok-tell.ensures.said))
