-- What a module does at an event.
use Rattle.std.specs.Prelude.{ℕ, ◌-◌, ◌==◌, if◌then◌else◌, List, [], ◌∷◌, Option, Some, None}
use Rattle.std.specs.List.{find}
use Rattle.sx_lang.specs.declared.tree.Decl.{Decl}
use Rattle.sx_lang.specs.declared.tree.Decl.TheVariants.{Input}
use Rattle.sx_lang.specs.Tree.{HandlerTree, ModuleTree}
use Rattle.sx_check.specs.Names.{same_input}
use Rattle.sx_mean.specs.declared.events.SourceEvent.{SourceEvent}
use Rattle.sx_mean.specs.declared.events.SourceEvent.TheVariants as event
use Rattle.sx_mean.specs.Meaning.{HandlerState, new_local, in_block}

-- the names of the inputs, in order of declaration
abbrev pub input_names : List Decl → List (List ℕ)
input_names [] = []
input_names (Input x ∷ ds) = x ∷ input_names ds
input_names (d ∷ ds) = input_names ds

-- the name at this index
abbrev pub nth : List (List ℕ) → ℕ → Option (List ℕ)
nth [] n = None
nth (x ∷ xs) n = if n == 0 then Some x else nth xs (n - 1)

-- the handler of an input, or of samples
abbrev pub handler_of_input : Option (List ℕ) → List HandlerTree → Option HandlerTree
handler_of_input input hs = find (λ h. same_input input h.input) hs

-- the handler of an input that is there
abbrev pub handler_of_name : Option (List ℕ) → List HandlerTree → Option HandlerTree
handler_of_name None hs = None
handler_of_name (Some x) hs = handler_of_input (Some x) hs

-- the handler of an event, none where the module has none
abbrev pub handler_at : ModuleTree → SourceEvent → Option HandlerTree
handler_at m (event.Input j v) = handler_of_name (nth (input_names m.decls) j) m.handlers
handler_at m (event.Sample v) = handler_of_input None m.handlers

-- the value that an event brings
abbrev pub value_of : SourceEvent → ℕ
value_of (event.Input j v) = v
value_of (event.Sample v) = v

-- where a handler begins: its parameter has the event's value
abbrev pub start : HandlerTree → ℕ → List ℕ → HandlerState
start h v cells = record { locals = new_local h.param v ∷ []; cells = cells; acts = [] }

-- without a handler the cells stay, and there are no acts
abbrev pub run : List Decl → Option HandlerTree → ℕ → List ℕ → HandlerState
run ds None v cells = record { locals = []; cells = cells; acts = [] }
run ds (Some h) v cells = in_block ds h.body (start h v cells)

-- what a module does at an event: its acts, and its cells after them
abbrev pub react : ModuleTree → SourceEvent → List ℕ → HandlerState
react m e cells = run m.decls (handler_at m e) (value_of e) cells
