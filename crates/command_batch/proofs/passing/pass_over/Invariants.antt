use Rattle.std.specs.Prelude.{ℕ, ◌-◌, List}
use Rattle.sx_io.specs.Reading.{Answer, Limit}
use Rattle.command_promise.specs.Head.{head_lines}
use Rattle.command_promise.specs.Parts.{Begun, Notes}
use Rattle.command_promise.specs.Told.{CommandAt, Output, command_at}
use Rattle.sx_trace.specs.Names.{NameLists}
use Rattle.spec_run.specs.Setting.{Setting}
use Rattle.spec_run.specs.State.{World}
use Rattle.command_batch.specs.Parts.{Since, passed_from}
use Rattle.command_batch.proofs.passing.pass_over.Given as goal

-- Whatever came before, what is left is what is defined after the line with this number.
abbrev pub invariant-lines : goal.invariant-lines
invariant-lines g l =
    let m1 = command_at (g.S.Source.at l.fn.input) (g.K.Sink.at l.fn.output) in
    let m2 = command_at (g.S.Source.at l.input) (g.K.Sink.at l.output) in record {
      since : Since g.S.Source.tells m1.source m2.source l.fn.lines l.lines;
      begun : (names : NameLists) (set : Setting) (start : World) (first count : ℕ) (limit : Limit) (m0 : CommandAt) (defined : List Answer → Output) (aside : List Answer → List ℕ) (noted : List ℕ)
          → Begun g.S.Source.tells g.K.Sink.tells limit head_lines m0 m1 l.fn.lines defined (passed_from names set start first count l.fn.broken) (Notes aside noted)
          → Begun g.S.Source.tells g.K.Sink.tells limit head_lines m0 m2 l.lines defined (passed_from names set start first count l.number) (Notes aside noted);
    }

abbrev pub decreases-lines : goal.decreases-lines
decreases-lines g l = 4294967295 - l.number
