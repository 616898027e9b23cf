-- What the command `watch` writes, and its exit status: a function of what texts of deployments and
-- properties and lines of traces mean, and of the answers that the lines of its input give.
use Rattle.std.specs.Prelude.{ℕ, ◌+◌, List, [], ◌∷◌, ◌++◌, codes, decimal, length, Option, Some}
use Rattle.std.specs.Prelude.{None, if◌then◌else◌}
use Rattle.sx_io.specs.Reading.{Answer, Limit, longest}
use Rattle.command_promise.specs.declared.status.Status.TheVariants.{Done, PropertyBroken}
use Rattle.command_promise.specs.Told.{Output, unread_output}
use Rattle.command_promise.specs.Head.{is_mark}
use Rattle.sx_trace.specs.declared.items.Item.{Item}
use Rattle.sx_model.specs.Legal.{before}
use Rattle.sx_explain.specs.Judging.{first_forged}
use Rattle.command_text.specs.Output.{line, end_line}
use Rattle.command_property.specs.Input.{of_input}
use Rattle.command_explain.specs.Output.{broken_output, forged_line}
use Rattle.command_explain.specs.Trace.{Start, Behind, Missing, Stop, Whole, Unread, Breaks}
use Rattle.command_explain.specs.Trace.{image_lines, start, trace}
use Rattle.sx_watch.specs.Watched.{PropertyTree, broken_at}
use Rattle.command_watch.specs.Meant.{Meanings}

-- status 12: the item with this number is the first that breaks the property
abbrev pub broken_line : ℕ → Output
broken_line n = record { text = line (codes "broken " ++ decimal n); status = PropertyBroken }

-- none of these does: how many come before the first that is forged, and which that is
abbrev pub kept_text : List Item → List ℕ
kept_text items = line (codes "kept " ++ decimal (length (before items)))
    ++ forged_line (first_forged items) ++ end_line

abbrev pub kept_output : List Item → Output
kept_output items = record { text = kept_text items; status = Done }

-- if no item breaks it: the last lines, by where the trace ends
abbrev pub stop_output : List Item → Stop → Output
stop_output items Whole = kept_output items
stop_output items Unread = unread_output
stop_output items (Breaks rule number) = broken_output rule number

-- unless one does
abbrev pub unless_broken : Option ℕ → Output → Output
unless_broken None rest = rest
unless_broken (Some n) rest = broken_line n

-- what is said of a trace, from the line after these items on
unfoldable pub watch_from : PropertyTree → (List ℕ → Option Item) → List Item → List Answer → Output
watch_from p item front answers =
    let t = trace item (length front + 1) answers in
    unless_broken (broken_at p (before (front ++ t.items))) (stop_output (front ++ t.items) t.stop)

-- what is said after a property
abbrev pub watch_start : PropertyTree → (List ℕ → Option Item) → Start → Output
watch_start p item (Behind more) = watch_from p item [] more
watch_start p item (Missing stop) = stop_output [] stop

-- the command `watch`
abbrev pub watch_all : Meanings → List Answer → Output
watch_all means answers = of_input means.trace.deployment means.property
    (λ d p more. watch_start p (means.trace.item d.names) (start 1 more)) answers

-- how long lines may be: those of a head, and these after it
abbrev pub behind_mark : Limit → Limit
behind_mark rest [] = longest
behind_mark rest (text ∷ lines) = if is_mark text then rest lines else behind_mark rest lines

-- those of a deployment, those of a property, and those of images and of a trace
abbrev pub watch_lines : Limit
watch_lines = behind_mark (behind_mark image_lines)
