-- What the command `lines` writes after the head of a deployment, and its exit status: a function
-- of the assembler, of the texts of the modules' images, and of the answers that the lines of its
-- input give.
use Rattle.std.specs.Prelude.{ℕ, List, [], ◌∷◌, ◌++◌, codes, flat_map}
use Rattle.sx_io.specs.Reading.{Answer}
use Rattle.sx_io.specs.Reading as answer
use Rattle.command_promise.specs.Told.{Output, behind}
use Rattle.sx_tag.specs.Mac.{Mac}
use Rattle.sx_trace.specs.declared.items.Item.{Item}
use Rattle.sx_trace.specs.Names.{NameLists}
use Rattle.sx_sched.specs.Lines.{Line}
use Rattle.sx_sched.specs.Reading.{Assembler}
use Rattle.sx_deploy.specs.Deployment.{Deployed}
use Rattle.spec_run.specs.Setting.{Setting}
use Rattle.spec_run.specs.State.{World, switched_on}
use Rattle.spec_run.specs.Accepted.{setting_of}
use Rattle.command_text.specs.Output.{line}
use Rattle.command_world.specs.Schedule.{schedule}
use Rattle.command_world.specs.Items.{items_text}
use Rattle.command_world.specs.Turning.{after_next}
use Rattle.command_run.specs.Output.{stop_output}

-- a line that was performed: its text as it was read, and the items that it gave
pub record Performed : Type 0 where
  pub text : List ℕ
  pub items : List Item

-- the texts of the lines that come before any other answer
abbrev pub texts_in : List Answer → List (List ℕ)
texts_in (answer.Line text ∷ more) = text ∷ texts_in more
texts_in _ = []

-- lines with their texts, performed one after the other from this world on
abbrev pub performed : Setting → World → List (List ℕ) → List Line → List Performed
performed set w (text ∷ texts) (l ∷ ls) =
    let a = after_next set w l in
    record { text = text; items = a.items } ∷ performed set a.world texts ls
performed set w _ _ = []

-- a line's text after `> `, and its items
unfoldable pub performed_text : NameLists → Performed → List ℕ
performed_text names p = line (codes "> " ++ p.text) ++ items_text names p.items

-- the lines of a schedule that are performed where all is switched on, by the texts of the images
-- and the answers of the schedule's lines
abbrev pub performed_of : Assembler → Mac → Deployed → List (List ℕ) → List Answer
    → List Performed
performed_of assemble mac d texts more =
    let set = setting_of mac d texts in
    performed set (switched_on set) (texts_in more) (schedule assemble d.names 1 more).lines

-- these lines, and how the schedule ended; the images aren't written
abbrev pub lines_deployed : Assembler → Mac → Deployed → List (List ℕ) → List Answer → Output
lines_deployed assemble mac d texts more =
    behind (flat_map (performed_text d.names) (performed_of assemble mac d texts more))
    (stop_output (schedule assemble d.names 1 more).stop)
