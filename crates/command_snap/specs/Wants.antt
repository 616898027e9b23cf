-- At which line after the head memory may run out.
use Rattle.std.specs.Prelude.{ℕ, ◌+◌, ◌≡◌, false, if◌then◌else◌, List, [], ◌∷◌, length, IsOk}
use Rattle.sx_asm.specs.Assembled.{assembled}
use Rattle.sx_io.specs.Reading.{Answer, End, Long, Fault, Line}
use Rattle.command_promise.specs.Head.{is_mark}
use Rattle.sx_trace.specs.Names.{NameLists}
use Rattle.sx_deploy.specs.Deployment.{Deployed}
use Rattle.command_world.specs.Schedule.{judged_line}
use Rattle.command_world.specs.Turning.{MayRunOut}
use Rattle.command_snap.specs.Input.{judged_query}

-- where a line is: after so many lines of the schedule; or after the mark of a schedule of so
-- many lines, and so many queries
pub data Place : Type 0 where
  InSchedule : ℕ → Place
  BehindMark : (last queries : ℕ) → Place

-- the place after these lines, the first of which is after so many
abbrev pub place_behind : ℕ → List Answer → Place
place_behind before [] = InSchedule before
place_behind before (Line text ∷ more) =
    if is_mark text then BehindMark before (length more) else place_behind (before + 1) more
place_behind before (End ∷ more) = InSchedule before
place_behind before (Long ∷ more) = InSchedule before
place_behind before (Fault ∷ more) = InSchedule before

-- Memory may run out at a line of the schedule, as in `run`, but not at its mark; and after that
-- at a query that breaks no rule.
abbrev pub may_at : NameLists → Place → List ℕ → Type 0
may_at names (InSchedule before) text =
    (is_mark text ≡ false) × MayRunOut (judged_line assembled names (before + 1) text)
may_at names (BehindMark last queries) text = IsOk (judged_query names last (queries + 1) text)

-- at this line, after these
abbrev pub snap_may : Deployed → List Answer → List ℕ → Type 0
snap_may d earlier text = may_at d.names (place_behind 0 earlier) text
