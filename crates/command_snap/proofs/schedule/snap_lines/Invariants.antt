use Rattle.std.specs.Prelude.{◌≡◌, ◌≤◌, ◌-◌, ◌+◌, [], length}
use Rattle.command_promise.specs.Told.{command_at}
use Rattle.sx_deploy.specs.SeenDeployment.{deployed_as}
use Rattle.spec_run.specs.Accepted.{setting}
use Rattle.sx_snap.specs.Checkpoints.{IsTimeline}
use Rattle.command_snap.specs.Output.{snap_from}
use Rattle.command_snap.proofs.Between.{GoesOn}
use Rattle.command_snap.proofs.Places.{GaveSchedule}
use Rattle.command_snap.proofs.schedule.snap_lines.Given as goal

-- the lines so far are kept, and what is left is what is written from the next line on
abbrev pub invariant-lines : goal.invariant-lines
invariant-lines g l =
    let d = deployed_as l.deployment in
    let first = snap_from d.names (setting g.T.Tag.mac d l.fn.timeline.sites) l.images in record {
      few : l.number ≤ 65537;
      counted : length l.timeline.lines + 1 ≡ l.number;
      sites : l.timeline.sites ≡ l.fn.timeline.sites;
      timeline : IsTimeline g.T.Tag.mac d l.timeline;
      begun : GoesOn g.S.Source.tells g.K.Sink.tells (command_at (g.S.Source.at l.fn.input) (g.K.Sink.at l.fn.output)) (command_at (g.S.Source.at l.input) (g.K.Sink.at l.output))
          l.fn.lines l.lines (first []) (first l.timeline.lines);
      gave : GaveSchedule g.S.Source.tells (g.S.Source.at l.fn.input) (g.S.Source.at l.input) l.fn.lines l.lines l.number;
    }

abbrev pub decreases-lines : goal.decreases-lines
decreases-lines g l = 65537 - l.number
