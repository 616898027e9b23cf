-- At which line after the head memory may run out.
use Rattle.std.specs.Prelude.{◌≡◌, ℕ, ◌+◌, true, List, length, Option, Result, Ok, Err}
use Rattle.sx_io.specs.Reading.{Answer}
use Rattle.sx_trace.specs.declared.items.Item.{Item}
use Rattle.sx_deploy.specs.Deployment.{Deployed}
use Rattle.sx_explain.specs.Wants.{item_may}
use Rattle.command_explain.specs.declared.lines.TraceLine.{TraceLine}
use Rattle.command_explain.specs.declared.lines.TraceRule.{TraceRule}
use Rattle.command_explain.specs.declared.lines.TraceLine.TheVariants as kind
use Rattle.command_explain.specs.Meant.{Meanings}
use Rattle.command_explain.specs.Trace.{Start, Behind, Missing, is_trace, judged_line, line_of}
use Rattle.command_explain.specs.Trace.{start, trace}

-- a line of a trace may want memory for its item, after these
abbrev pub line_may : List Item → Result TraceLine TraceRule → Type 0
line_may items (Ok (kind.Item item)) = item_may items item
line_may items (Ok kind.Last) = ⊥
line_may items (Err rule) = ⊥

-- the same of its text, after these lines of the trace, each of which has an item
abbrev pub trace_may : (List ℕ → Option Item) → List Answer → List ℕ → Type 0
trace_may item earlier text = let items = (trace item 1 earlier).items in
    (length items ≡ length earlier)
    × line_may items (judged_line (length earlier + 1) (line_of item text))

-- before the trace no line but `trace` may want memory
abbrev pub start_may : (List ℕ → Option Item) → Start → List ℕ → Type 0
start_may item (Behind lines) text = trace_may item lines text
start_may item (Missing stop) text = is_trace text ≡ true

-- at this line after the head of a deployment, after these
abbrev pub explain_may : Meanings → Deployed → List Answer → List ℕ → Type 0
explain_may means d earlier text = start_may (means.item d.names) (start 1 earlier) text
