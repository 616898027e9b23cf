use Rattle.std.proofs.Common.{refl}
use Rattle.sx_drive.specs.Driving.{all_said}
use Rattle.command_drive.proofs.Playing.{ends_on, part_stopped, part_told, said_written}
use Rattle.command_drive.proofs.parts.tell.Goals as goal

pub returns-in-On-clause-tells : goal.returns-in-On-clause-tells
returns-in-On-clause-tells g c = λ a says.
    part_told g.K.Sink.tells c.args.names.now (g.K.Sink.at c.args.output.now) (g.K.Sink.at c.put_said.new.output) (g.K.Sink.at c.end_part.new.output)
    (all_said c.args.said.now) c.args.drove a c.end_part.result says c.in-On.ensures.does (c.in-On.ensures.whole refl) c.end_part.ensures.ends

pub returns-in-On-clause-on : goal.returns-in-On-clause-on
returns-in-On-clause-on g c = λ on.
    ends_on g.K.Sink.tells (g.K.Sink.at c.put_said.new.output) (g.K.Sink.at c.end_part.new.output) c.args.drove c.end_part.result c.end_part.ensures.ends on

pub returns-in-Stop-clause-tells : goal.returns-in-Stop-clause-tells
returns-in-Stop-clause-tells g c = λ a says.
    part_stopped g.K.Sink.tells c.args.names.now (g.K.Sink.at c.args.output.now) (g.K.Sink.at c.put_said.new.output) (all_said c.args.said.now) c.args.drove a
    c.in-Stop.status says c.in-Stop.ensures.does

pub returns-in-On-clause-made : goal.returns-in-On-clause-made
returns-in-On-clause-made g c = λ six t.
    said_written g.K.Sink.tells c.args.names.now (g.K.Sink.at c.args.output.now) (g.K.Sink.at c.put_said.new.output) (g.K.Sink.at c.end_part.new.output) (all_said c.args.said.now) c.args.drove
    c.end_part.result (c.end_part.ensures.memory six) (c.in-On.ensures.whole refl) c.end_part.ensures.ends t

pub returns-in-Stop-clause-made : goal.returns-in-Stop-clause-made
returns-in-Stop-clause-made g c = λ six t. absurd (c.in-Stop.ensures.memory six)
