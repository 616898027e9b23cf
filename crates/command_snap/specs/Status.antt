-- The exit status of `snap`, whatever the images are.
use Rattle.std.specs.Prelude.{ℕ, ◌+◌, List, [], ◌∷◌, length, Result, Ok, Err}
use Rattle.sx_io.specs.Reading.{Answer, Line, End, Long, Fault}
use Rattle.command_promise.specs.declared.status.Status.{Status}
use Rattle.command_promise.specs.declared.status.Status.TheVariants.{Done, Broken, ReadFailed, NoQuery}
use Rattle.sx_trace.specs.Names.{NameLists}
use Rattle.sx_deploy.specs.Deployment.{Deployed}
use Rattle.command_snap.specs.declared.queries.Query.{Query}
use Rattle.command_snap.specs.declared.queries.QueryRule.{QueryRule}
use Rattle.command_snap.specs.Input.{judged_query}
use Rattle.command_snap.specs.Reading.{Asking, Asks, Breaks, Unread, asking}

-- the status of a query and what follows
abbrev pub query_status : Result Query QueryRule → Status → Status
query_status (Ok query) rest = rest
query_status (Err rule) rest = NoQuery

-- of the queries from the line with this number on, about a schedule with so many lines
abbrev pub queries_status : NameLists → ℕ → ℕ → List Answer → Status
queries_status names last number [] = Done
queries_status names last number (End ∷ more) = Done
queries_status names last number (Long ∷ more) = NoQuery
queries_status names last number (Fault ∷ more) = ReadFailed
queries_status names last number (Line text ∷ more) =
    query_status (judged_query names last number text)
    (queries_status names last (number + 1) more)

-- of a schedule and its queries
abbrev pub asking_status : NameLists → Asking → Status
asking_status names (Asks lines more) = queries_status names (length lines) 1 more
asking_status names (Breaks rule number) = Broken
asking_status names Unread = ReadFailed

-- the exit status after the head of a deployment
abbrev pub snap_status : Deployed → List Answer → Status
snap_status d more = asking_status d.names (asking d.names [] more)
