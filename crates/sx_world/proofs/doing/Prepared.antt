-- What a line asks of a run, and what it does.
use Rattle.std.proofs.Common.{◌≡◌, ℕ, ◌+◌, ◌≤◌, List, Result, sym, subst}
use Rattle.sx_trace.specs.declared.items.Item.{Item}
use Rattle.sx_sched.specs.declared.lines.Line.{Line}
use Rattle.sx_sched.specs.Seen.{line_of}
use Rattle.spec_run.specs.Setting.{Setting}
use Rattle.sx_world.specs.Held.{Running, DoesAct}
use Rattle.spec_run.specs.Run.{FINISH_STEPS, after_line}

-- a million further steps are counted
pub counts_finish : (steps : ℕ) → steps + 1000000 ≤ 18446744073709551615 → steps + FINISH_STEPS ≤ 18446744073709551615
unfolding FINISH_STEPS
counts_finish steps h = h

-- a line of the code does what the line that it is does
pub line_does : {X E : Type 0} (set : Setting) (r : Result X E) (old new : Running) (before after : List Item) (line read : Line) → line ≡ read
    → DoesAct set r old new before after (λ w. after_line set w (line_of read)) → DoesAct set r old new before after (λ w. after_line set w (line_of line))
line_does set r old new before after line read e does =
    subst (λ (l : Line). DoesAct set r old new before after (λ w. after_line set w (line_of l))) (sym e) does
