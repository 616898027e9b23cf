-- What an event makes of a module: its cells, what it sends, and what it owes.
use Rattle.std.specs.Prelude.{ℕ, ◌+◌, ◌*◌, ◌==◌, ◌&&◌, nat_lt, Bool, if◌then◌else◌}
use Rattle.std.specs.Prelude.{List, [], ◌∷◌, ◌++◌, length, slice_get, slice_set, Option, Some, None}
use Rattle.std.specs.Prelude.{is_some}
use Rattle.std.specs.Option.{option_map_or}
use Rattle.sx_lang.specs.Tree.{ModuleTree}
use Rattle.sx_lang.specs.declared.sides.Side.TheVariants.{From}
use Rattle.sx_mean.specs.declared.events.End.{End}
use Rattle.sx_mean.specs.declared.events.SourceEvent.{SourceEvent}
use Rattle.sx_mean.specs.declared.events.Act.{Act}
use Rattle.sx_mean.specs.declared.events.Act.TheVariants.{Send, Emit}
use Rattle.sx_mean.specs.Ends.{same_side}
use Rattle.sx_mean.specs.React.{react}
use Rattle.sx_model.specs.State.{EndView, Present, owing}

-- while acts are done: what was sent over each connection in each epoch, the emits, and how many
-- pieces
pub record Flow : Type 0 where
  pub sent : List (List ℕ)
  pub emits : List ℕ
  pub pieces : ℕ

-- this many events can be sent over a connection in one epoch
abbrev pub MOST_SENT : ℕ
MOST_SENT = 65535

-- the connection field of an end that is open: its connection, and 256 times its epoch
abbrev pub field_at : ℕ → Option ℕ → ℕ
field_at link o = option_map_or (λ epoch. link + 256 * epoch) o link

-- the connection field of an end with this view
abbrev pub field_of : End → EndView → ℕ
field_of e view = field_at e.link view.epoch

-- a value is sent over a connection at whose field these words were sent, unless there are too many
abbrev pub sent_over : ℕ → ℕ → Option (List ℕ) → Flow → Flow
sent_over c v None f = f
sent_over c v (Some words) f =
    if nat_lt (length words) MOST_SENT then record f {
      sent = slice_set f.sent c (words ++ v ∷ []);
      pieces = f.pieces + 1;
    } else f

-- the end sends what its module sends to the output
abbrev pub sends : ℕ → End → EndView → Bool
sends output e view = same_side e.side From && ((e.port == output) && is_some view.epoch)

-- a value is sent over each open connection of the output, in connection order
abbrev pub sent_to : List End → List EndView → ℕ → ℕ → Flow → Flow
sent_to (e ∷ es) (view ∷ views) output v f =
    sent_to es views output v (if sends output e view then
    sent_over (field_of e view) v (slice_get f.sent (field_of e view)) f else f)
sent_to _ _ output v f = f

-- an act is done: a value is sent, or is one more emit
abbrev pub done : List End → List EndView → Act → Flow → Flow
done es views (Send output v) f = sent_to es views output v f
done es views (Emit v) f = record f { emits = f.emits ++ v ∷ [] }

-- acts are done in order
abbrev pub all_done : List End → List EndView → List Act → Flow → Flow
all_done es views [] f = f
all_done es views (a ∷ acts) f = all_done es views acts (done es views a f)

-- what an event's acts come to
abbrev pub flow_of : ModuleTree → List End → SourceEvent → Present → List (List ℕ) → Flow
flow_of tree es event p sent = all_done es p.ends (react tree event p.cells).acts
    (record { sent = sent; emits = []; pieces = 0 })

-- the module after the event, with what it owes
abbrev pub after_event : ModuleTree → SourceEvent → Flow → Present → Present
after_event tree event f p =
    record p { cells = (react tree event p.cells).cells; pending = owing f.emits f.pieces }
