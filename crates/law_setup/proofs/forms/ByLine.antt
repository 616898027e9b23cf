-- What lines show, line by line, and what the source predicts of it for the lines of the set-up.
use Rattle.std.specs.Prelude.{ℕ, ◌+◌, List, [], ◌∷◌, ◌++◌, length, Some}
use Rattle.sx_mean.specs.declared.events.End.{End}
use Rattle.sx_mean.specs.Application.{AppTree, PartTree}
use Rattle.sx_mean.specs.Ends.{ends_of}
use Rattle.sx_trace.specs.declared.items.Item.{Item}
use Rattle.sx_trace.specs.declared.items.Item.TheVariants as item
use Rattle.sx_sched.specs.Lines.{Line}
use Rattle.spec_run.specs.Setting.{Setting}
use Rattle.spec_run.specs.State.{World}
use Rattle.spec_run.specs.Run.{after_line, line_counted}
use Rattle.spec_honest.specs.Course.{packet_items}

-- the items of each line
abbrev pub shown_by : Setting → World → List Line → List (List Item)
shown_by set w [] = []
shown_by set w (line ∷ lines) =
    let a = after_line set (line_counted w) line in
    a.items ∷ shown_by set a.world lines

-- a module is asked and attested, whose ends are this many: the lines after `load`
abbrev pub asking_shown : ℕ → ℕ → ℕ → ℕ → List (List Item)
asking_shown m a number ends =
    (item.Ask m a ∷ item.Packet number 18 ∷ []) ∷ [] ∷ (item.Vouch m a ∷ item.Done m 1 1 ∷ [])
    ∷ (item.Packet (number + 1) 16 ∷ [])
    ∷ (item.Attested m 0 ∷ packet_items (number + 2) 38 ends) ∷ []

-- it gets the keys of its ends, one by one
abbrev pub keys_shown : ℕ → List End → List (List Item)
keys_shown m [] = []
keys_shown m (e ∷ es) =
    [] ∷ (item.Open m e.link e.side 0 ∷ item.Done m 1 0 ∷ []) ∷ keys_shown m es

-- a module's set-up, whose first packet is of this number
abbrev pub part_shown : ℕ → ℕ → PartTree → List End → List (List Item)
part_shown m number q es = (item.Protect q.node (Some m) ∷ [])
    ∷ asking_shown m m number (length es) ++ keys_shown m es

-- of the modules from the m-th on
abbrev pub parts_shown : AppTree → ℕ → ℕ → List PartTree → List (List Item)
parts_shown app m number [] = []
parts_shown app m number (q ∷ qs) = part_shown m number q (ends_of app m)
    ++ parts_shown app (m + 1) (number + 2 + length (ends_of app m)) qs

-- the whole set-up
abbrev pub setup_shown : AppTree → List (List Item)
setup_shown app = parts_shown app 0 0 app.parts
