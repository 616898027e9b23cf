-- The samplings of readings, and the lines and items of what a run said.
use Rattle.std.specs.Prelude.{List, [], ◌∷◌, ◌++◌, map}
use Rattle.sx_trace.specs.declared.items.Item.{Item}
use Rattle.sx_sched.specs.Lines.{Line}
use Rattle.spec_run.specs.Setting.{Setting}
use Rattle.spec_run.specs.State.{World}
use Rattle.sx_world.specs.Whole.{next}
use Rattle.spec_honest.specs.Plain.{Sampling}
use Rattle.sx_drive.specs.Honest.{Reading, Said, SaidItem, SaidLine}

-- a reading, as the source has it
abbrev pub sampling_of : Reading → Sampling
sampling_of r = record { device = r.device; value = r.value }

abbrev pub samplings_of : List Reading → List Sampling
samplings_of readings = map sampling_of readings

-- the items among what is said
abbrev pub items_of : List Said → List Item
items_of [] = []
items_of (SaidLine line ∷ said) = items_of said
items_of (SaidItem i ∷ said) = i ∷ items_of said

-- each line of a run, and after it the items that it shows
abbrev pub told : Setting → World → List Line → List Said
told set w [] = []
told set w (line ∷ lines) =
    let a = next set w line in
    SaidLine line ∷ map SaidItem a.items ++ told set a.world lines
