-- What holds of every call. Each law is the contract of a function in src/laws.rt.
use Rattle.std.specs.Prelude.{◌≡◌, ℕ, ◌<◌, false, List}
use Rattle.std.specs.List.{list_any}
use Rattle.sx_mean.specs.Application.{AppTree}
use Rattle.sx_trace.specs.declared.items.Item.{Item}
use Rattle.sx_sched.specs.Lines.{Line, Finish, Call}
use Rattle.sx_ledger.specs.Made.{Made}
use Rattle.sx_rules.specs.declared.access.Violation.{Violation}
use Rattle.spec_machine.specs.Step.{pc_of}
use Rattle.spec_invocation.specs.Marks.{Mark}
use Rattle.spec_invocation.specs.Progress.{Progress, Returns, Violates}
use Rattle.law_invocation.specs.Gives.{asked}
use Rattle.spec_run.specs.Setting.{Setting}
use Rattle.spec_run.specs.State.{World, switched_on}
use Rattle.spec_run.specs.Run.{after_line, line_counted, run}
use Rattle.spec_run.specs.Law.{IsSoundSetting, LineInForm, LinesInForm}
use Rattle.law_calls.specs.Shown.{marks_observed, is_stop, is_budget}
use Rattle.law_calls.specs.Calls.{Callee, StandsIdle, IsCallable, invoked}
use Rattle.law_calls.specs.Calls.{HasReturned, HasReset}

-- What one call does, whatever its entry and its windows, and in whatever state the module is.

-- in every run a protected module on whose node no module runs is callable
abbrev pub CallableInRuns : Type 0
CallableInRuns =
    (set : Setting) (lines : List Line) (c : Callee) → IsSoundSetting set → LinesInForm set lines
    → let w = (run set (switched_on set) lines).world in
    StandsIdle set w c → IsCallable set w c

-- a call whose invocation returns does what the invocation says
abbrev pub CallReturns : Type 0
CallReturns =
    (set : Setting) (w : World) (c : Callee) (e input output status : ℕ) (p : Progress)
    → IsSoundSetting set → IsCallable set w c → e < 65536 → input < 65536 → output < 65536
    → let asks = asked e input output in
    invoked set c asks ≡ Returns status p → HasReturned set w c asks status p

-- a call whose invocation ends in a violation resets the node, and shows what was done until then
abbrev pub CallViolates : Type 0
CallViolates =
    (set : Setting) (w : World) (c : Callee) (e input output : ℕ) (v : Violation) (p : Progress)
    → IsSoundSetting set → IsCallable set w c → e < 65536 → input < 65536 → output < 65536
    → let asks = asked e input output in
    invoked set c asks ≡ Violates v p → HasReset set w c asks v p

-- the items of a line
abbrev pub items_of : Setting → World → Line → List Item
items_of set w line = (after_line set (line_counted w) line).items

-- the line doesn't use up its steps
abbrev pub IsWithinBudget : Setting → World → Line → Type 0
IsWithinBudget set w line = list_any is_budget (items_of set w line) ≡ false

-- In every run, if a module is protected and no module runs on its node: `finish` never shows
-- `budget` if PC is the module's entry, and `call` of the module never does.
abbrev pub NeverBudget : Type 0
NeverBudget =
    (set : Setting) (lines : List Line) (c : Callee) → IsSoundSetting set → LinesInForm set lines
    → let w = (run set (switched_on set) lines).world in
    StandsIdle set w c
    → (pc_of c.node ≡ c.site.layout.pub_from → IsWithinBudget set w (Finish c.site.node))
    × ((e input output : ℕ) → LineInForm set (Call c.number e input output)
    → IsWithinBudget set w (Call c.number e input output))

-- marks show no reset, no refusal and no want of steps
abbrev pub MarksGoOn : Type 0
MarksGoOn =
    (app : AppTree) (n m boot : ℕ) (marks : List Mark) (ledger : List Made)
    → list_any is_stop (marks_observed app n m boot marks ledger).items ≡ false
