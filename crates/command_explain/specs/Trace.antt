-- From the answers that the lines of an input give after a deployment to the items of a trace.
-- Nothing is said here of what is written.
use Rattle.std.specs.Prelude.{ℕ, ◌+◌, ◌&&◌, ◌||◌, nat_le, nat_lt, Bool, if◌then◌else◌, List, []}
use Rattle.std.specs.Prelude.{◌∷◌, codes, option_map, take, Option, Some, None, Result, Ok, Err}
use Rattle.std.specs.Str.{bytes_eq}
use Rattle.sx_io.specs.Reading.{Answer, End, Long, Fault, Limit, always, longest}
use Rattle.sx_io.specs.Reading as answer
use Rattle.sx_io.specs.Passed.{longest_passed}
use Rattle.command_promise.specs.Head.{is_mark}
use Rattle.sx_trace.specs.declared.items.Item.{Item}
use Rattle.command_explain.specs.declared.images.ImageLine.{ImageLine}
use Rattle.command_explain.specs.declared.images.ImageLine.TheVariants as image
use Rattle.command_explain.specs.declared.lines.TraceLine.{TraceLine}
use Rattle.command_explain.specs.declared.lines.TraceLine.TheVariants as kind
use Rattle.command_explain.specs.declared.lines.TraceRule.{TraceRule}
use Rattle.command_explain.specs.declared.lines.TraceRule.TheVariants.{NoTrace, NoItem, NoEnd}
use Rattle.command_explain.specs.declared.lines.TraceRule.TheVariants.{PastEnd, TooMany}

-- the number of a rule, as it is printed
abbrev pub rule_number : TraceRule → ℕ
rule_number NoTrace = 1
rule_number NoItem = 2
rule_number NoEnd = 3
rule_number PastEnd = 4
rule_number TooMany = 5

-- where a trace ends: after its last line, at a read that failed, or at the first line that breaks
-- a rule
pub data Stop : Type 0 where
  Whole : Stop
  Unread : Stop
  Breaks : (rule : TraceRule) (number : ℕ) → Stop

-- ---- the lines before `trace`

-- the line before the items
abbrev pub is_trace : List ℕ → Bool
is_trace text = bytes_eq text (codes "trace")

-- a line of an image
abbrev pub is_image : List ℕ → Bool
is_image text = bytes_eq (take 6 text) (codes "image ")

-- at most this many lines of images come before it
abbrev pub most_images : ℕ
most_images = 32

-- what a line is there, with this number, counted from 1 after `%%`
abbrev pub image_line : ℕ → List ℕ → ImageLine
image_line number text =
    if is_trace text then image.Trace
    else if nat_le number most_images && is_image text then image.Image else image.Other

-- the answers to come after the line `trace`, or if there is none
pub data Start : Type 0 where
  Behind : List Answer → Start
  Missing : Stop → Start

-- the start that a line makes
abbrev pub on_image : ℕ → ImageLine → List Answer → Start → Start
on_image number image.Trace more rest = Behind more
on_image number image.Image more rest = rest
on_image number image.Other more rest = Missing (Breaks NoTrace number)

-- the start, from the line with this number on
abbrev pub start : ℕ → List Answer → Start
start number [] = Missing (Breaks NoTrace number)
start number (End ∷ more) = Missing (Breaks NoTrace number)
start number (Long ∷ more) = Missing (Breaks NoTrace number)
start number (Fault ∷ more) = Missing Unread
start number (answer.Line text ∷ more) =
    on_image number (image_line number text) more (start (number + 1) more)

-- ---- the lines of a trace

-- the line that ends a trace: `end`, or the line of a fault
abbrev pub is_last : List ℕ → Bool
is_last text = bytes_eq text (codes "end") || bytes_eq (take 6 text) (codes "fault ")

-- what a line says that is the last one, or has this item
abbrev pub said_by : Bool → Option Item → Option TraceLine
said_by last item = if last then Some kind.Last else option_map kind.Item item

-- what a line says; none if it is no line of a trace
abbrev pub line_of : (List ℕ → Option Item) → List ℕ → Option TraceLine
line_of item text = said_by (is_last text) (item text)

-- a trace has at most this many lines
abbrev pub most_lines : ℕ
most_lines = 4000000

-- what a line of a trace says that has this number, counted from 1 after `trace`, or the first rule
-- that it breaks
abbrev pub judged_line : ℕ → Option TraceLine → Result TraceLine TraceRule
judged_line number None = Err NoItem
judged_line number (Some l) = if nat_lt most_lines number then Err TooMany else Ok l

-- the rule that a line breaks where none may come
abbrev pub rule_behind : Option TraceLine → TraceRule
rule_behind None = NoItem
rule_behind (Some l) = PastEnd

-- how a trace ends after its last line
abbrev pub stop_behind : (List ℕ → Option Item) → ℕ → List Answer → Stop
stop_behind item number [] = Whole
stop_behind item number (End ∷ more) = Whole
stop_behind item number (Long ∷ more) = Breaks NoItem number
stop_behind item number (Fault ∷ more) = Unread
stop_behind item number (answer.Line text ∷ more) =
    Breaks (rule_behind (line_of item text)) number

-- the items of a trace, and where it ends
pub record Trace : Type 0 where
  pub items : List Item
  pub stop : Stop

-- a trace that ends at once
abbrev pub stops : Stop → Trace
stops stop = record { items = []; stop = stop }

-- the trace that a line makes
abbrev pub on_line : ℕ → Result TraceLine TraceRule → Stop → Trace → Trace
on_line number (Err rule) last rest = stops (Breaks rule number)
on_line number (Ok kind.Last) last rest = stops last
on_line number (Ok (kind.Item i)) last rest =
    record { items = i ∷ rest.items; stop = rest.stop }

-- the trace, from the line with this number on
abbrev pub trace : (List ℕ → Option Item) → ℕ → List Answer → Trace
trace item number [] = stops (Breaks NoEnd number)
trace item number (End ∷ more) = stops (Breaks NoEnd number)
trace item number (Long ∷ more) = stops (Breaks NoItem number)
trace item number (Fault ∷ more) = stops Unread
trace item number (answer.Line text ∷ more) =
    on_line number (judged_line number (line_of item text)) (stop_behind item (number + 1) more)
    (trace item (number + 1) more)

-- ---- how long lines may be

-- those of a trace
abbrev pub trace_lines : Limit
trace_lines = always longest

-- those before `trace`, and those of the trace
abbrev pub image_lines : Limit
image_lines [] = longest_passed
image_lines (text ∷ lines) = if is_trace text then trace_lines lines else image_lines lines

-- those of a deployment, and those after it
abbrev pub explain_lines : Limit
explain_lines [] = longest
explain_lines (text ∷ lines) = if is_mark text then image_lines lines else explain_lines lines
