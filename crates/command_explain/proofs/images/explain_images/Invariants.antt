use Rattle.std.specs.Prelude.{◌-◌, ◌≤◌, ℕ, List}
use Rattle.sx_io.specs.Reading.{Answer, Limit}
use Rattle.command_promise.specs.Told.{CommandAt, Output, command_at}
use Rattle.command_promise.specs.Parts.{Begun, Notes}
use Rattle.sx_deploy.specs.SeenDeployment.{deployed_as}
use Rattle.command_explain.specs.Meant.{AreMeanings, Meanings}
use Rattle.command_explain.specs.Output.{explain_deployed, explain_start}
use Rattle.command_explain.specs.Trace.{image_lines}
use Rattle.command_explain.proofs.Starting.{start_from}
use Rattle.command_explain.proofs.Wanted.{GaveImages}
use Rattle.command_explain.proofs.images.explain_images.Given as goal

-- Whatever came before, what is left is what is said from the line with this number on.
abbrev pub invariant-lines : goal.invariant-lines
invariant-lines g l =
    let d = deployed_as l.deployment in record {
      few : l.number ≤ 33;
      begun : (means : Meanings) → AreMeanings means → (limit : Limit) (m0 : CommandAt) (defined : List Answer → Output) (aside : List Answer → List ℕ) (noted : List ℕ)
          → Begun g.S.Source.tells g.K.Sink.tells limit image_lines m0 (command_at (g.S.Source.at l.fn.input) (g.K.Sink.at l.fn.output)) l.fn.lines defined
          (explain_deployed means d) (Notes aside noted)
          → Begun g.S.Source.tells g.K.Sink.tells limit image_lines m0 (command_at (g.S.Source.at l.input) (g.K.Sink.at l.output)) l.lines defined
          (start_from (explain_start d.app (means.item d.names)) l.number) (Notes aside noted);
      gave : GaveImages g.S.Source.tells (g.S.Source.at l.fn.input) (g.S.Source.at l.input) l.fn.lines l.lines l.number;
    }

abbrev pub decreases-lines : goal.decreases-lines
decreases-lines g l = 33 - l.number
