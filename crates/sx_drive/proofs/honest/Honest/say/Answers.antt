use Rattle.std.proofs.Common.{sym, ap, ◌∙◌}
use Rattle.sx_sched.specs.Seen.{line_of}
use Rattle.sx_drive.specs.Honest.{says}
use Rattle.sx_drive.specs.Driving.{Kept}
use Rattle.sx_drive.proofs.Remains.{still_goes}
use Rattle.sx_drive.proofs.Performed.{full_did, room_does, does_goes}
use Rattle.sx_drive.proofs.honest.Honest.say.Goals as goal

pub returns-then-is_full-clause-does : goal.returns-then-is_full-clause-does
returns-then-is_full-clause-does g c =
    full_did g.T.Tag.mac c.args.deployment.now (line_of c.args.line) c.args.self.now c.leave_out.new.self c.args.said.now.items (sym c.is_full.ensures ∙ c.if-is_full.true) c.leave_out.ensures

pub returns-then-is_full-clause-goes_on : goal.returns-then-is_full-clause-goes_on
returns-then-is_full-clause-goes_on g c =
    still_goes g.T.Tag.mac c.args.deployment.now c.args.self.now c.leave_out.new.self c.args.said.now.items c.args.said.now.items (λ set. says set (line_of c.args.line)) c.requires.going
    (full_did g.T.Tag.mac c.args.deployment.now (line_of c.args.line) c.args.self.now c.leave_out.new.self c.args.said.now.items (sym c.is_full.ensures ∙ c.if-is_full.true) c.leave_out.ensures)

pub returns-then-is_full-clause-ran_out : goal.returns-then-is_full-clause-ran_out
returns-then-is_full-clause-ran_out g c = ap (λ (k : Kept). k.ran_out) c.leave_out.ensures

pub perform-requires-clause-room : goal.perform-requires-clause-room
perform-requires-clause-room g c = sym c.is_full.ensures ∙ c.if-is_full.false

pub returns-clause-does : goal.returns-clause-does
returns-clause-does g c =
    room_does g.T.Tag.mac c.args.deployment.now c.perform.result (line_of c.args.line) c.args.self.now c.perform.new.self c.args.said.now.items
    c.perform.new.said.items (sym c.is_full.ensures ∙ c.if-is_full.false) c.perform.ensures.does

pub returns-clause-goes_on : goal.returns-clause-goes_on
returns-clause-goes_on g c =
    does_goes g.T.Tag.mac c.args.deployment.now c.perform.result c.args.self.now c.perform.new.self c.args.said.now.items c.perform.new.said.items
    (λ set. says set (line_of c.args.line)) c.requires.going
    (room_does g.T.Tag.mac c.args.deployment.now c.perform.result (line_of c.args.line) c.args.self.now c.perform.new.self c.args.said.now.items
    c.perform.new.said.items (sym c.is_full.ensures ∙ c.if-is_full.false) c.perform.ensures.does)
