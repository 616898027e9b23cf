-- What the command `snap` writes after the head of a deployment, and its exit status: a function
-- of the texts of the modules' images, and of the answers that the lines of its input give.
use Rattle.std.specs.Prelude.{ℕ, ◌+◌, List, [], ◌∷◌, length, codes, Result, Ok, Err}
use Rattle.sx_io.specs.Reading.{Answer, End, Long, Fault}
use Rattle.sx_io.specs.Reading as answer
use Rattle.command_promise.specs.declared.status.Status.TheVariants.{Done, NoQuery}
use Rattle.command_promise.specs.Told.{Output, behind, unread_output}
use Rattle.sx_tag.specs.Mac.{Mac}
use Rattle.sx_trace.specs.Names.{NameLists}
use Rattle.sx_sched.specs.Lines.{Line}
use Rattle.sx_deploy.specs.Deployment.{Deployed}
use Rattle.spec_run.specs.Setting.{Setting}
use Rattle.spec_run.specs.Accepted.{setting_of}
use Rattle.command_text.specs.Output.{end_line}
use Rattle.command_text.specs.Refusals.{fault_output}
use Rattle.command_world.specs.Images.{images_text}
use Rattle.command_world.specs.Broken.{broken_output}
use Rattle.command_snap.specs.declared.queries.Query.{Query}
use Rattle.command_snap.specs.declared.queries.QueryRule.{QueryRule}
use Rattle.command_snap.specs.declared.queries.QueryRule.TheVariants.{TooLong}
use Rattle.command_snap.specs.Input.{judged_query, rule_number}
use Rattle.command_snap.specs.Answers.{answer_text}
use Rattle.command_snap.specs.Reading.{Asking, Asks, Breaks, Unread, asking}

-- status 0: all queries were answered
abbrev pub ended_output : Output
ended_output = record { text = end_line; status = Done }

-- status 11: this line is the first after the mark that breaks a rule, and this is the first rule
-- that it breaks
abbrev pub query_fault : QueryRule → ℕ → Output
query_fault rule number = fault_output (codes "fault query Y") (rule_number rule) number NoQuery

-- the answer to a query before what follows, or the rule that its line breaks
abbrev pub on_query : NameLists → Setting → List Line → ℕ → Result Query QueryRule → Output → Output
on_query names set lines number (Err rule) rest = query_fault rule number
on_query names set lines number (Ok query) rest = behind (answer_text names set lines query) rest

-- what is written of the queries from the line with this number on
abbrev pub answers_from : NameLists → Setting → List Line → ℕ → List Answer → Output
answers_from names set lines number [] = ended_output
answers_from names set lines number (End ∷ more) = ended_output
answers_from names set lines number (Long ∷ more) = query_fault TooLong number
answers_from names set lines number (Fault ∷ more) = unread_output
answers_from names set lines number (answer.Line text ∷ more) =
    on_query names set lines number (judged_query names (length lines) number text)
    (answers_from names set lines (number + 1) more)

-- The images and the answers. If the schedule breaks a rule, or a read failed before it ended,
-- that alone is said.
abbrev pub asked_output : NameLists → Setting → List ℕ → Asking → Output
asked_output names set images (Asks lines more) =
    behind images (answers_from names set lines 1 more)
asked_output names set images (Breaks rule number) = broken_output rule number
asked_output names set images Unread = unread_output

-- what is written if these lines of the schedule have come
unfoldable pub snap_from : NameLists → Setting → List ℕ → List Line → List Answer → Output
snap_from names set images before answers =
    asked_output names set images (asking names before answers)

-- what is written after the head of a deployment
abbrev pub snap_deployed : Mac → Deployed → List (List ℕ) → List Answer → Output
snap_deployed mac d texts more =
    snap_from d.names (setting_of mac d texts) (images_text d.names.modules texts) [] more
