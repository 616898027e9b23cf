-- What an application does with readings where each value that a module sends arrives once, the
-- oldest first: a fold that knows modules and connections, and no node, packet or key.
use Rattle.std.specs.Prelude.{ℕ, zero, suc, ◌+◌, Bool, true, false, if◌then◌else◌, List, [], ◌∷◌}
use Rattle.std.specs.Prelude.{◌++◌, map, flat_map, Option, Some, None, slice_get, slice_set}
use Rattle.std.specs.Prelude.{slice_index_or, option_map}
use Rattle.std.specs.List.{position_from}
use Rattle.std.specs.Option.{option_map_or}
use Rattle.sx_mean.specs.declared.apps.Link.{Link}
use Rattle.sx_mean.specs.declared.events.Act.{Act}
use Rattle.sx_mean.specs.declared.events.Act.TheVariants.{Send, Emit}
use Rattle.sx_mean.specs.declared.events.SourceEvent.{SourceEvent}
use Rattle.sx_mean.specs.declared.events.SourceEvent.TheVariants as event
use Rattle.sx_mean.specs.Application.{AppTree, PartTree, leaves}
use Rattle.sx_mean.specs.Meaning.{HandlerState}
use Rattle.sx_mean.specs.Places.{initial_cells}
use Rattle.sx_mean.specs.React.{react}
use Rattle.sx_model.specs.State.{contains}

-- a value on its way over a connection
pub record Waiting : Type 0 where
  pub link : ℕ
  pub value : ℕ

-- a value that a module put out
pub record Output : Type 0 where
  pub part : ℕ
  pub value : ℕ

-- a reading: a sensor, by its index among the devices, and its value
pub record Sampling : Type 0 where
  pub device : ℕ
  pub value : ℕ

-- where the fold is: each module's cells, the values on their way with the oldest first, and
-- the outputs so far
pub record Plain : Type 0 where
  pub cells : List (List ℕ)
  pub waiting : List Waiting
  pub outputs : List Output

-- modules begin with their first cells, and nothing is on its way
abbrev pub plain_start : AppTree → Plain
plain_start app = record {
  cells = map (λ (q : PartTree). initial_cells q.tree.decls) app.parts;
  waiting = [];
  outputs = [];
}

-- the value on its way over each connection from an output of a module; they are counted from n on
abbrev pub over : ℕ → ℕ → ℕ → ℕ → List Link → List Waiting
over n p output v [] = []
over n p output v (l ∷ ls) =
    if leaves p output l then record { link = n; value = v } ∷ over (n + 1) p output v ls
    else over (n + 1) p output v ls

-- what an act of a module puts on its way
abbrev pub act_sends : List Link → ℕ → Act → List Waiting
act_sends ls p (Send output v) = over 0 p output v ls
act_sends ls p (Emit v) = []

-- what acts put on their way, in order
abbrev pub acts_send : List Link → ℕ → List Act → List Waiting
acts_send ls p acts = flat_map (act_sends ls p) acts

-- what an act emits
abbrev pub act_emits : Act → List ℕ
act_emits (Send output v) = []
act_emits (Emit v) = v ∷ []

-- what acts emit, in order
abbrev pub acts_emit : List Act → List ℕ
acts_emit acts = flat_map act_emits acts

-- what the source says of a module's event, with the modules' cells so far
abbrev pub reaction : ℕ → PartTree → SourceEvent → List (List ℕ) → HandlerState
reaction p q e cells = react q.tree e (slice_index_or cells p [])

-- after a module's event: its new cells; what it sends waits after all others; what it emits is
-- put out
abbrev pub reacted : AppTree → ℕ → SourceEvent → Plain → PartTree → Plain
reacted app p e s q = let h = reaction p q e s.cells in record {
  cells = slice_set s.cells p h.cells;
  waiting = s.waiting ++ acts_send app.links p h.acts;
  outputs = s.outputs ++ map (λ v. record { part = p; value = v }) (acts_emit h.acts);
}

-- an event of the module of this index
abbrev pub reacts : AppTree → ℕ → SourceEvent → Plain → Plain
reacts app p e s = option_map_or (reacted app p e s) (slice_get app.parts p) s

-- a value goes in at the end of a connection
abbrev pub goes_in : AppTree → ℕ → Plain → Link → Plain
goes_in app v s l = reacts app l.to (event.Input l.input v) s

-- the oldest value arrives, and these wait after it
abbrev pub delivers : AppTree → Waiting → List Waiting → Plain → Plain
delivers app w ws s = let t = record s { waiting = ws } in
    option_map_or (goes_in app w.value t) (slice_get app.links w.link) t

-- the module that drives a device, if any
abbrev pub driver_of : AppTree → ℕ → Option ℕ
driver_of app d = position_from (λ (q : PartTree). contains q.device d) 0 app.parts

-- the sensor's driver gets the reading
abbrev pub takes_reading : AppTree → Sampling → Plain → Plain
takes_reading app r s =
    option_map_or (λ p. reacts app p (event.Sample r.value) s) (driver_of app r.device) s

-- what is made of the oldest that waits and of those after it, where one waits
abbrev pub oldest : {A : Type 0} → A → (Waiting → List Waiting → A) → List Waiting → A
oldest none some [] = none
oldest none some (w ∷ ws) = some w ws

-- nothing is on its way
abbrev pub is_still : List Waiting → Bool
is_still [] = true
is_still (w ∷ ws) = false

-- at most n values arrive, the oldest first, until none is on its way
abbrev pub settles : AppTree → ℕ → Plain → Plain
settles app zero s = s
settles app (suc n) s = oldest s (λ w ws. settles app n (delivers app w ws s)) s.waiting

-- readings one by one, each until nothing is on its way; none where that takes more than n values
abbrev pub plays : AppTree → ℕ → List Sampling → Plain → Option Plain
plays app n [] s = Some s
plays app n (r ∷ rs) s = let t = settles app n (takes_reading app r s) in
    if is_still t.waiting then plays app n rs t else None

-- As many values can arrive at a reading of an honest run, whose 65,536 lines hold three for each
-- value: so this bound refuses none.
unfoldable pub MOST_DELIVERIES : ℕ
MOST_DELIVERIES = 21845

-- the outputs of readings, from the start
abbrev pub plain_outputs : AppTree → List Sampling → Option (List Output)
plain_outputs app rs =
    option_map (λ (s : Plain). s.outputs) (plays app MOST_DELIVERIES rs (plain_start app))
