-- Time, in instructions.
use Rattle.std.specs.Prelude.{◌≡◌, ℕ, List, slice_get, Some}
use Rattle.spec_machine.specs.State.{State}
use Rattle.sx_sched.specs.Lines.{Line}
use Rattle.spec_run.specs.Setting.{Setting}
use Rattle.spec_run.specs.State.{switched_on}
use Rattle.spec_run.specs.Run.{run}
use Rattle.spec_run.specs.Law.{IsSoundSetting, LinesInForm}
use Rattle.law_forgery.specs.Tags.{AgreeOnTags}
use Rattle.law_forgery.specs.Moments.{NoForged}
use Rattle.law_connections.specs.Unlinked.{Unlinked}
use Rattle.law_connections.specs.LinksUnseen.{NothingGuessed}
use Rattle.law_connections.specs.Laws.{HidesKeys}

-- How many instructions the lines take doesn't depend on keys of nodes and modules, whatever code
-- there is.
abbrev pub StepsShowNoKey : Type 0
StepsShowNoKey = (a b : Setting) (lines : List Line) → AgreeOnTags a b
    → (run b (switched_on b) lines).world.steps ≡ (run a (switched_on a) lines).world.steps

-- After each list of lines, so after each instruction too, the registers of all nodes, PC among
-- them, don't depend on keys of connections, as long as no `forged` is shown and nothing is
-- guessed.
abbrev pub ShowsNoLink : Setting → List Line → Type 0
ShowsNoLink a lines = (b : Setting) → IsSoundSetting b → Unlinked a b → NothingGuessed a b lines
    → NoForged (run a (switched_on a) lines).items → (n : ℕ) (s t : State)
    → slice_get (run a (switched_on a) lines).world.nodes n ≡ Some s
    → slice_get (run b (switched_on b) lines).world.nodes n ≡ Some t → t.regs ≡ s.regs

-- So it is if no image shows a key.
abbrev pub RegistersShowNoLink : Type 0
RegistersShowNoLink = (a : Setting) (lines : List Line) → IsSoundSetting a → HidesKeys a
    → LinesInForm a lines → ShowsNoLink a lines
