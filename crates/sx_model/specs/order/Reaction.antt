-- What an event makes of a module: its cells, what it sends at once, and which acts it owes.
use Rattle.std.specs.Prelude.{ℕ, List, [], ◌∷◌}
use Rattle.sx_lang.specs.Tree.{ModuleTree}
use Rattle.sx_mean.specs.declared.events.End.{End}
use Rattle.sx_mean.specs.declared.events.SourceEvent.{SourceEvent}
use Rattle.sx_mean.specs.declared.events.Act.{Act}
use Rattle.sx_mean.specs.declared.events.Act.TheVariants.{Send}
use Rattle.sx_mean.specs.React.{react}
use Rattle.sx_model.specs.Reaction.{Flow, sent_to}
use Rattle.sx_model.specs.State.{EndView}
use Rattle.sx_model.specs.order.State.{Present, owing}

-- the sends before the first emit are done
abbrev pub sent_first : List End → List EndView → List Act → Flow → Flow
sent_first es views (Send output v ∷ acts) f =
    sent_first es views acts (sent_to es views output v f)
sent_first es views _ f = f

-- the acts from the first emit on
abbrev pub from_emit : List Act → List Act
from_emit (Send output v ∷ acts) = from_emit acts
from_emit acts = acts

-- nothing is emitted yet
abbrev pub flowing : List (List ℕ) → ℕ → Flow
flowing sent pieces = record { sent = sent; emits = []; pieces = pieces }

-- what an event sends before its first emit
abbrev pub flow_of : ModuleTree → List End → SourceEvent → Present → List (List ℕ) → Flow
flow_of tree es event p sent = sent_first es p.ends (react tree event p.cells).acts (flowing sent 0)

-- the module after the event, with what it owes
abbrev pub after_event : ModuleTree → SourceEvent → Flow → Present → Present
after_event tree event f p = record p {
  cells = (react tree event p.cells).cells;
  pending = owing (from_emit (react tree event p.cells).acts) f.pieces;
}
