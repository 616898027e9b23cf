use Rattle.std.proofs.Common.{◌∙◌, ap}
use Rattle.command_explain.specs.Trace.{rule_behind}
use Rattle.command_explain.proofs.lines.rule_behind.Goals as goal

pub returns : goal.returns
returns c = λ means is. c.broken_by.ensures ∙ ap rule_behind (c.line_of.ensures means is)
