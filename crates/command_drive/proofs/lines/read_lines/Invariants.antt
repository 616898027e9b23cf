use Rattle.std.specs.Prelude.{◌≡◌, ◌≤◌, ◌-◌, false}
use Rattle.command_promise.specs.Told.{command_at}
use Rattle.spec_run.specs.Setting.{Setting}
use Rattle.sx_drive.specs.Honest.{Honest}
use Rattle.sx_drive.specs.Driving.{Follows, GoesOn}
use Rattle.command_deploy.proofs.Given.{Gave}
use Rattle.command_drive.proofs.Between.{Between}
use Rattle.command_drive.proofs.lines.read_lines.Given as goal

-- Whichever run there was at first, what is left is what is defined from the next line on in the run that there is now.
abbrev pub invariant-lines : goal.invariant-lines
invariant-lines g l = record {
  few : l.number ≤ 65537;
  going : GoesOn g.T.Tag.mac l.deployment l.honest;
  memory : l.honest.ran_out ≡ false;
  between : (set : Setting) (h : Honest) → Follows g.T.Tag.mac l.deployment l.fn.honest set h → h.long ≡ false
      → Between g.S.Source.tells g.K.Sink.tells (command_at (g.S.Source.at l.fn.input) (g.K.Sink.at l.fn.output)) (command_at (g.S.Source.at l.input) (g.K.Sink.at l.output))
      l.fn.lines l.lines g.T.Tag.mac l.deployment set h l.honest l.number;
  gave : Gave g.S.Source.tells (g.S.Source.at l.fn.input) (g.S.Source.at l.input) l.fn.lines l.lines l.number;
}

abbrev pub decreases-lines : goal.decreases-lines
decreases-lines g l = 65537 - l.number
