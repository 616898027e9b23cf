-- What the command `explain` writes, and its exit status: a function of what texts of deployments
-- and lines of traces mean, and of the answers that the lines of its input give.
use Rattle.std.specs.Prelude.{ℕ, ◌+◌, List, [], ◌∷◌, ◌++◌, codes, decimal, length, Option, Some}
use Rattle.std.specs.Prelude.{None, Result, Ok, Err}
use Rattle.sx_io.specs.Reading.{Answer}
use Rattle.command_promise.specs.declared.status.Status.TheVariants as exit
use Rattle.command_promise.specs.Told.{Output, behind, unread_output}
use Rattle.sx_entries.specs.declared.fault.Place.TheVariants.{Nowhere}
use Rattle.sx_entries.specs.declared.fault.DeployFault.{DeployFault}
use Rattle.sx_entries.specs.Fault.{fault}
use Rattle.command_promise.specs.Head.{Head, Found, TooLong, NoMark, head}
use Rattle.command_promise.specs.Head as heads
use Rattle.sx_trace.specs.declared.items.Item.{Item}
use Rattle.sx_mean.specs.Application.{AppTree}
use Rattle.sx_model.specs.Legal.{before}
use Rattle.sx_deploy.specs.Deployment.{Deployed}
use Rattle.sx_explain.specs.declared.judge.Judged.{Judged}
use Rattle.sx_explain.specs.declared.judge.Judged.TheVariants.{Because, Fine, Illegal, Forged}
use Rattle.sx_explain.specs.declared.judge.Judged.TheVariants.{Unjudged}
use Rattle.sx_explain.specs.Judging.{judged, first_forged}
use Rattle.command_text.specs.Refusals as refusals
use Rattle.command_text.specs.Output.{line, end_line}
use Rattle.command_head.specs.Refused.{fault_output}
use Rattle.command_explain.specs.declared.lines.TraceRule.{TraceRule}
use Rattle.command_explain.specs.Meant.{Meanings}
use Rattle.command_explain.specs.Trace.{Start, Behind, Missing, Stop, Whole, Unread, Breaks}
use Rattle.command_explain.specs.Trace.{rule_number, start, trace}

-- which item caused an item
abbrev pub because_line : ℕ → ℕ → List ℕ
because_line number cause =
    line (codes "because " ++ decimal number ++ codes " " ++ decimal cause)

-- status 8: the source doesn't allow the item with this number
abbrev pub illegal_output : ℕ → Output
illegal_output number =
    record { text = line (codes "illegal " ++ decimal number); status = exit.Illegal }

-- the line of the first item that is forged, if one is
abbrev pub forged_line : Option ℕ → List ℕ
forged_line None = []
forged_line (Some number) = line (codes "forged " ++ decimal number)

-- how many items are legal, and which is the first that is forged
abbrev pub legal_text : List Item → List ℕ
legal_text items = line (codes "legal " ++ decimal (length (before items)))
    ++ forged_line (first_forged items) ++ end_line

-- status 3: this line is the first that breaks a rule, and this is the first rule that it breaks
abbrev pub broken_output : TraceRule → ℕ → Output
broken_output rule number =
    refusals.fault_output (codes "fault trace E") (rule_number rule) number exit.Broken

-- the last lines, and the status
abbrev pub stop_output : List Item → Stop → Output
stop_output items Whole = record { text = legal_text items; status = exit.Done }
stop_output items Unread = unread_output
stop_output items (Breaks rule number) = broken_output rule number

-- what is said of an item with this number, and then of what follows it
abbrev pub told_item : ℕ → Judged → Output → Output
told_item number (Because cause) rest = behind (because_line number cause) rest
told_item number Illegal rest = illegal_output number
told_item number Fine rest = rest
told_item number Forged rest = rest
told_item number Unjudged rest = rest

-- what is said of items after others
abbrev pub told_items : AppTree → List Item → List Item → Output → Output
told_items app front [] last = last
told_items app front (i ∷ is) last =
    told_item (length front + 1) (judged app front i) (told_items app (front ++ i ∷ []) is last)

-- what is said of a trace, from the line after these items on
unfoldable pub explain_from : AppTree → (List ℕ → Option Item) → List Item → List Answer → Output
explain_from app item front answers =
    let t = trace item (length front + 1) answers in
    told_items app front t.items (stop_output (front ++ t.items) t.stop)

-- what is said after a deployment
abbrev pub explain_start : AppTree → (List ℕ → Option Item) → Start → Output
explain_start app item (Behind more) = explain_from app item [] more
explain_start app item (Missing stop) = stop_output [] stop

abbrev pub explain_deployed : Meanings → Deployed → List Answer → Output
explain_deployed means d more = explain_start d.app (means.item d.names) (start 1 more)

-- what is said of a deployment's trace, or the rule that the deployment breaks
abbrev pub explain_found : Meanings → Result Deployed DeployFault → List Answer → Output
explain_found means (Ok d) more = explain_deployed means d more
explain_found means (Err f) more = fault_output f

-- what `explain` writes of an input's head
abbrev pub explain_head : Meanings → Head → Output
explain_head means (Found text more) = explain_found means (means.deployment text) more
explain_head means TooLong = fault_output (fault 1 Nowhere)
explain_head means NoMark = fault_output (fault 2 Nowhere)
explain_head means heads.Unread = unread_output

-- the command `explain`
abbrev pub explain_all : Meanings → List Answer → Output
explain_all means answers = explain_head means (head answers)
