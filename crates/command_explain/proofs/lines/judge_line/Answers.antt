use Rattle.std.proofs.Common.{◌∙◌, ap}
use Rattle.command_explain.specs.Trace.{judged_line}
use Rattle.command_explain.proofs.lines.judge_line.Goals as goal

pub returns-clause-line : goal.returns-clause-line
returns-clause-line c = λ means is. c.kept.ensures.line ∙ ap (judged_line c.args.number) (c.line_of.ensures means is)
