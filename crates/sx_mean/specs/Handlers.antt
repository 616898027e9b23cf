-- The number of an event's handler among the module's handlers.
use Rattle.std.specs.Prelude.{◌≡◌, ℕ, List, Option, Some, None, slice_get}
use Rattle.std.specs.List.{position_from}
use Rattle.sx_lang.specs.Tree.{HandlerTree, ModuleTree}
use Rattle.sx_check.specs.Names.{same_input}
use Rattle.sx_mean.specs.declared.events.SourceEvent.{SourceEvent}
use Rattle.sx_mean.specs.declared.events.SourceEvent.TheVariants as event
use Rattle.sx_mean.specs.React.{handler_at, input_names, nth}

-- the number of the first handler of an input, or of the samples
abbrev pub handler_number : List HandlerTree → Option (List ℕ) → Option ℕ
handler_number hs input = position_from (λ h. same_input input h.input) 0 hs

-- the number of the handler of an input's name
abbrev pub number_of_name : List HandlerTree → Option (List ℕ) → Option ℕ
number_of_name hs None = None
number_of_name hs (Some x) = handler_number hs (Some x)

-- the number of the handler of an event, none where the module has none
abbrev pub number_of : ModuleTree → SourceEvent → Option ℕ
number_of m (event.Input j v) = number_of_name m.handlers (nth (input_names m.decls) j)
number_of m (event.Sample v) = handler_number m.handlers None

-- the event's handler is that of the number, and there is none where there is no number
abbrev pub IsNumbered : ModuleTree → SourceEvent → Option ℕ → Type 0
IsNumbered m e None = handler_at m e ≡ None
IsNumbered m e (Some k) =
    (h : HandlerTree) × (handler_at m e ≡ Some h) × (slice_get m.handlers k ≡ Some h)

-- the handler of an event and its number fit together in every module
abbrev pub HandlersNumbered : Type 0
HandlersNumbered = (m : ModuleTree) (e : SourceEvent) → IsNumbered m e (number_of m e)
