-- What is written of a schedule and its queries, line by line.
use Rattle.std.specs.Prelude.{if◌then◌else◌, slice_get, Option, Some}
use Rattle.std.proofs.Common.{◌≡◌, ◌∙◌, ℕ, ◌+◌, true, false, Bool, List, [], ◌∷◌, ◌++◌, length, take, refl, sym, ap, Result, Ok, Err}
use Rattle.sx_asm.specs.Assembled.{assembled}
use Rattle.sx_io.specs.Reading.{Answer}
use Rattle.sx_io.specs.Reading as answer
use Rattle.sx_io.specs.Streams.{SinkAt}
use Rattle.command_promise.specs.declared.status.Status.{Status}
use Rattle.command_promise.specs.Told.{CommandEnds, Output, behind, unread_output}
use Rattle.command_promise.specs.Parts.{WroteSome}
use Rattle.command_promise.proofs.Laws.{ends-behind, ends-same}
use Rattle.command_promise.specs.Head.{is_mark}
use Rattle.sx_trace.specs.Names.{NameLists}
use Rattle.sx_sched.specs.Lines.{Line}
use Rattle.spec_run.specs.Setting.{Setting}
use Rattle.command_world.specs.Schedule.{judged_line}
use Rattle.command_world.specs.Broken.{broken_output}
use Rattle.command_snap.specs.declared.queries.Query.{Query}
use Rattle.command_snap.specs.declared.queries.QueryRule.{QueryRule}
use Rattle.command_snap.specs.Input.{judged_query}
use Rattle.spec_machine.specs.State.{State}
use Rattle.sx_world.specs.Held.{Held}
use Rattle.sx_snap.specs.Timeline.{world_at}
use Rattle.sx_snap.specs.Checkpoints.{StandsAfter}
use Rattle.command_snap.specs.Answers.{of_node}
use Rattle.command_snap.specs.Reading.{Asks, asking, on_line}
use Rattle.command_snap.specs.Output.{answers_from, asked_output, ended_output, on_query, snap_from}

module _ (names : NameLists) (set : Setting) (images : List ℕ) (before : List Line) where
  pub asks_end : snap_from names set images before (answer.End ∷ []) ≡ behind images ended_output
  unfolding snap_from
  asks_end = refl

  pub asks_long : snap_from names set images before (answer.Long ∷ []) ≡ broken_output 1 (length before + 1)
  unfolding snap_from
  asks_long = refl

  pub asks_unread : snap_from names set images before (answer.Fault ∷ []) ≡ unread_output
  unfolding snap_from
  asks_unread = refl

  -- a line that is the mark or isn't
  line_by : (text : List ℕ) (more : List Answer) (b : Bool) → is_mark text ≡ b → snap_from names set images before (answer.Line text ∷ more)
      ≡ asked_output names set images (if b then Asks before more else on_line before (judged_line assembled names (length before + 1) text) (λ lines. asking names lines more))
  unfolding snap_from
  line_by text more b e =
      ap (λ (b : Bool). asked_output names set images (if b then Asks before more else on_line before (judged_line assembled names (length before + 1) text) (λ lines. asking names lines more))) e

  pub asks_mark : (text : List ℕ) (more : List Answer) → is_mark text ≡ true
      → snap_from names set images before (answer.Line text ∷ more) ≡ behind images (answers_from names set before 1 more)
  asks_mark text more e = line_by text more true e

  pub asks_line : (text : List ℕ) (line : Line) (more : List Answer) → is_mark text ≡ false → judged_line assembled names (length before + 1) text ≡ Ok line
      → snap_from names set images before (answer.Line text ∷ more) ≡ snap_from names set images (before ++ line ∷ []) more
  unfolding snap_from
  asks_line text line more e h =
      line_by text more false e ∙ ap (λ (r : Result Line ℕ). asked_output names set images (on_line before r (λ lines. asking names lines more))) h

  pub asks_breaks : (text : List ℕ) (rule : ℕ) (more : List Answer) → is_mark text ≡ false → judged_line assembled names (length before + 1) text ≡ Err rule
      → snap_from names set images before (answer.Line text ∷ more) ≡ broken_output rule (length before + 1)
  asks_breaks text rule more e h =
      line_by text more false e ∙ ap (λ (r : Result Line ℕ). asked_output names set images (on_line before r (λ lines. asking names lines more))) h

-- a node of the world that was found
pub of_found : (text : State → List ℕ) (set : Setting) (lines : List Line) (at node : ℕ) (held : Held) (s : State) → StandsAfter set (take at lines) held
    → slice_get held.running.nodes node ≡ Some s → of_node text (slice_get (world_at set lines at).nodes node) ≡ text s
of_found text set lines at node held s here e =
    ap (λ (o : Option State). of_node text o) (ap (λ (ns : List State). slice_get ns node) (sym here.stands.shows.nodes) ∙ e)

-- a query is answered, and then those after it
pub query_line : (names : NameLists) (set : Setting) (lines : List Line) (number : ℕ) (text : List ℕ) (r : Result Query QueryRule) (more : List Answer) → judged_query names (length lines) number text ≡ r
    → answers_from names set lines number (answer.Line text ∷ more) ≡ on_query names set lines number r (answers_from names set lines (number + 1) more)
query_line names set lines number text r more e = ap (λ (r : Result Query QueryRule). on_query names set lines number r (answers_from names set lines (number + 1) more)) e

-- a text was written, and after it the command ends
pub put_and_end : (to_tell : Bool) (k0 k1 k2 : SinkAt) (text : List ℕ) (status : Status) (o : Output) → WroteSome to_tell k0 k1 (λ more. behind text o) (λ more. o)
    → CommandEnds to_tell k1 k2 status o → CommandEnds to_tell k0 k2 status (behind text o)
put_and_end to_tell k0 k1 k2 text status o w e =
    ends-same to_tell k0 k2 status (behind text o) (behind w.text o) (w.same []) (ends-behind to_tell k0 k1 k2 w.text status o w.wrote w.no_fault e)
