-- What the parts of the command do. Nobody has to believe this file: it is for contracts of
-- functions that aren't public.
use Rattle.std.specs.Prelude.{◌≡◌, ◌≢◌, ℕ, ◌+◌, Bool, true, false, List, [], ◌∷◌, ◌++◌, length, Option}
use Rattle.std.specs.Prelude.{Some, None}
use Rattle.sx_io.specs.Streams.{SinkAt, SourceAt}
use Rattle.sx_io.specs.Reading.{Answer}
use Rattle.sx_io.specs.Next.{Ahead}
use Rattle.command_promise.specs.declared.status.Status.{Status}
use Rattle.command_promise.specs.declared.status.Status.TheVariants as exit
use Rattle.command_promise.specs.Reads.{anything}
use Rattle.command_promise.specs.Got.{Got}
use Rattle.command_promise.specs.Told.{CommandAt, CommandEnds, Told, command_at}
use Rattle.command_promise.specs.declared.turned.Turned.{Turned}
use Rattle.command_promise.specs.declared.turned.Turned.TheVariants.{On, Stop}
use Rattle.command_promise.specs.Head.{Found, Unread, head, head_lines}
use Rattle.sx_trace.specs.declared.items.Item.{Item}
use Rattle.sx_model.specs.Legal.{before}
use Rattle.sx_explain.specs.Judging.{first_forged}
use Rattle.sx_watch.specs.declared.reading.PropertyError.{PropertyError}
use Rattle.sx_watch.specs.declared.reading.PropertyError.TheVariants.{Fault, OutOfMemory}
use Rattle.sx_watch.specs.Watched.{PropertyTree, broken_at}
use Rattle.sx_watch.specs.Watching.{Follows}
use Rattle.command_head.specs.Found.{RunsOutBehindHead}
use Rattle.command_property.specs.Refused.{fault_words, refused_output}
use Rattle.command_watch.specs.declared.following.Following.{Following}
use Rattle.command_watch.specs.Meant.{Meanings}
use Rattle.command_watch.specs.Output.{watch_all, watch_from, watch_lines}

-- None of these items breaks the property before the first that is forged, and f has seen
-- those before that.
pub record Stands (p : PropertyTree) (items : List Item) (f : Following) : Type 0 where
  pub forged : f.forged ≡ first_forged items
  pub unbroken : broken_at p (before items) ≡ None
  pub follows : f.forged ≡ None → Follows p items f.watcher

-- An item came after them: it is the first that breaks the property, or none does yet.
abbrev pub Heeded : PropertyTree → List Item → Item → Following → Bool → Type 0
Heeded p items item new true =
    (more : List Item) → broken_at p (before (items ++ item ∷ more)) ≡ Some (length items + 1)
Heeded p items item new false = Stands p (items ++ item ∷ []) new

-- nothing was written, or the command ends with it
abbrev pub TurnsItem : Bool → SinkAt → SinkAt → PropertyTree → List Item → Item → Following
    → Turned → Type 0
TurnsItem to_tell k0 k1 p items item new On = (k1 ≡ k0) × Stands p (items ++ item ∷ []) new
TurnsItem to_tell k0 k1 p items item new (Stop status) =
    (item_of : List ℕ → Option Item) (more : List Answer)
    → CommandEnds to_tell k0 k1 status (watch_from p item_of (items ++ item ∷ []) more)

-- whatever items came before
abbrev pub TurnsFrom : Bool → SinkAt → SinkAt → Following → Following → ℕ → Item → Turned → Type 0
TurnsFrom to_tell k0 k1 old new number item turned = (p : PropertyTree) (items : List Item)
    → Stands p items old → number ≡ length items + 1
    → TurnsItem to_tell k0 k1 p items item new turned

-- That a property breaks a rule is reported without memory; if there was none for a property,
-- nothing was written.
abbrev pub RefusesText : Bool → SinkAt → SinkAt → Status → PropertyError → Type 0
RefusesText to_tell k0 k1 status (Fault f) =
    CommandEnds to_tell k0 k1 status (refused_output (fault_words f)) × (status ≢ exit.OutOfMemory)
RefusesText to_tell k0 k1 status OutOfMemory = (status ≡ exit.OutOfMemory) × (k1 ≡ k0)

-- after this head of the input, of which nothing was written, the command does the rest
abbrev pub ReadsOn : Meanings → List ℕ → Bool → Bool → SourceAt → Ahead → SinkAt → CommandAt
    → Status → Type 0
ReadsOn means text tells to_tell s1 now k1 m2 status = (s0 : SourceAt)
    → Got tells head_lines head_lines s0 s1 now head (λ more. Found text more) Unread anything
    → Told tells to_tell watch_lines (command_at s0 k1) m2 status (watch_all means)
    (RunsOutBehindHead status)
