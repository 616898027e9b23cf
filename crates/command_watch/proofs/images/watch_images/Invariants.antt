use Rattle.std.specs.Prelude.{◌≡◌, ◌-◌, ◌≤◌, ℕ, List}
use Rattle.sx_io.specs.Reading.{Answer, Limit}
use Rattle.command_promise.specs.Told.{CommandAt, Output, command_at}
use Rattle.command_promise.specs.Parts.{Begun, Notes}
use Rattle.sx_watch.specs.Watching.{property_as}
use Rattle.command_explain.specs.Meant.{AreMeanings, Meanings}
use Rattle.command_explain.specs.Trace.{image_lines}
use Rattle.command_explain.proofs.Starting.{start_from}
use Rattle.command_watch.specs.Output.{watch_start}
use Rattle.command_watch.proofs.images.watch_images.Given as goal

-- Whatever came before, what is left is what is said from the line with this number on; and nothing
-- was written.
abbrev pub invariant-lines : goal.invariant-lines
invariant-lines g l = record {
  few : l.number ≤ 33;
  begun : (means : Meanings) → AreMeanings means → (limit : Limit) (m0 : CommandAt) (defined : List Answer → Output) (aside : List Answer → List ℕ) (noted : List ℕ)
      → Begun g.S.Source.tells g.K.Sink.tells limit image_lines m0 (command_at (g.S.Source.at l.fn.input) (g.K.Sink.at l.fn.output)) l.fn.lines defined
      (start_from (watch_start (property_as l.fn.property) (means.item l.names)) 1) (Notes aside noted)
      → Begun g.S.Source.tells g.K.Sink.tells limit image_lines m0 (command_at (g.S.Source.at l.input) (g.K.Sink.at l.output)) l.lines defined
      (start_from (watch_start (property_as l.fn.property) (means.item l.names)) l.number) (Notes aside noted);
  still : g.K.Sink.at l.output ≡ g.K.Sink.at l.fn.output;
}

abbrev pub decreases-lines : goal.decreases-lines
decreases-lines g l = 33 - l.number
