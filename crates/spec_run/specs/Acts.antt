-- The acts that a schedule is made of: one instruction of a node, or one thing that is done from
-- outside.
use Rattle.std.specs.Prelude.{ℕ, ◌+◌, if◌then◌else◌, List, [], ◌∷◌, ◌++◌, length, slice_get}
use Rattle.std.specs.Prelude.{slice_set, Option, Some, None, Result, Ok, Err}
use Rattle.std.specs.Option.{option_flatten}
use Rattle.sx_trace.specs.declared.items.Item.{Item}
use Rattle.sx_trace.specs.declared.items.Item.TheVariants as item
use Rattle.sx_ledger.specs.declared.entry.Maker.TheVariants as maker
use Rattle.spec_machine.specs.declared.kinds.Refused.{Refused}
use Rattle.spec_machine.specs.declared.kinds.Refused.TheVariants.{Busy}
use Rattle.spec_machine.specs.declared.kinds.Seen.{Seen}
use Rattle.spec_machine.specs.State.{State}
use Rattle.spec_machine.specs.Step.{Shown, own_of, step}
use Rattle.spec_machine.specs.Acts.{set}
use Rattle.spec_run.specs.Setting.{Site, Setting, module_of}
use Rattle.spec_run.specs.Ledger.{Made, NO_TARGET, made_entry, is_made}
use Rattle.sx_deployer.specs.Granting.{DeployerState, Grant, after_ask}
use Rattle.spec_run.specs.Deployer.{accepts, after_acceptance}
use Rattle.sx_deployer.specs.Granting.{grants_after}
use Rattle.spec_run.specs.Deployer.{set_key, set_key_entry}
use Rattle.sx_wire.specs.Headers.{ask_packet}
use Rattle.spec_run.specs.State.{World, Acted}
use Rattle.spec_run.specs.Observation.{observed, unless_made}

-- this world, and these items
abbrev pub only : World → List Item → Acted
only w items = record { world = w; items = items }

-- one act, and what follows it
abbrev pub then_ : Acted → (World → Acted) → Acted
then_ a rest = record { world = (rest a.world).world; items = a.items ++ (rest a.world).items }

-- the world with a node in this state, with this ledger and this many steps
abbrev pub with_node : World → ℕ → State → List Made → ℕ → World
with_node w n s ledger steps =
    record w { nodes = slice_set w.nodes n s; ledger = ledger; steps = steps }

-- where there is such a node
abbrev pub at_node : World → (State → Acted) → Option State → Acted
at_node w act None = only w []
at_node w act (Some s) = act s

-- one instruction of a node
abbrev pub after_step : Setting → World → ℕ → State → Acted
after_step set w n s =
    let r = step set.mac s in
    let o = observed set n (module_of set.sites n s (own_of s)) r.state r.shown w.ledger in
    only (with_node w n r.state o.ledger (w.steps + 1)) o.items

-- the item of an act that a node refuses
abbrev pub refused_item : ℕ → Refused → Item
refused_item n Busy = item.Busy n
refused_item n _ = item.Skip n

-- an act on a node that answers nothing: its item where it is done, and where it is refused
abbrev pub or_refused : ℕ → List Item → Result (Unit {0}) Refused → List Item
or_refused n items (Ok u) = items
or_refused n items (Err why) = refused_item n why ∷ []

-- an act on a node from outside, with its item or that of its refusal
abbrev pub done_on : World → ℕ → List Item → Shown (Result (Unit {0}) Refused) → Acted
done_on w n items r =
    only (with_node w n r.state w.ledger w.steps) (or_refused n items r.shown)

-- the world with one more packet, and its item
abbrev pub new_packet : World → List ℕ → Acted
new_packet w bytes =
    only (record w { packets = w.packets ++ bytes ∷ [] })
    (item.Packet (length w.packets) (length bytes) ∷ [])

-- the bytes that were taken become a packet, or the refusal's item is shown
abbrev pub after_take : World → ℕ → Result (List ℕ) Refused → Acted
after_take w n (Ok bytes) = new_packet w bytes
after_take w n (Err why) = only w (refused_item n why ∷ [])

-- an interrupt is run as code outside every module
abbrev pub after_interrupt : Setting → World → ℕ → State → Result Seen Refused → Acted
after_interrupt set w n s (Ok seen) =
    let o = observed set n None s seen w.ledger in
    only (with_node w n s o.ledger w.steps) o.items
after_interrupt set w n s (Err why) = only w (refused_item n why ∷ [])

-- the world with the deployer in this state and this ledger
abbrev pub with_deployer : World → DeployerState → List Made → World
with_deployer w d ledger = record w { deployer = d; ledger = ledger }

-- the deployer asks a module
abbrev pub ask : World → ℕ → Acted
ask w m =
    then_ (only (with_deployer w (after_ask w.deployer m) w.ledger)
    (item.Ask m w.deployer.asks ∷ []))
    (λ v. new_packet v (ask_packet w.deployer.asks))

-- one set-key packet, and its entry
abbrev pub key_given : Setting → World → Grant → Option Site → Acted
key_given set w g None = only w []
key_given set w g (Some site) = new_packet (with_deployer w w.deployer
    (w.ledger ++ set_key_entry set g ∷ [])) (set_key set site g)

-- set-key packets for all grants, one after the other
abbrev pub keys_given : Setting → List Grant → World → Acted
keys_given set [] w = only w []
keys_given set (g ∷ gs) w =
    then_ (key_given set w g (slice_get set.sites g.holder)) (keys_given set gs)

-- an answer to this ask is accepted from a module that was last attested at a boot, if any
abbrev pub attested : Setting → World → ℕ → ℕ → List ℕ → Option ℕ → Acted
attested set w m boot ask last =
    let d = after_acceptance set.app.links w.deployer m boot last in
    let made = is_made w.ledger (made_entry (maker.Module m) NO_TARGET boot ask []) in
    then_ (only (with_deployer w d w.ledger) (unless_made None made (item.Attested m boot)))
    (keys_given set (grants_after set.app d m boot last))

-- the deployer accepts no answer
abbrev pub after_denial : World → ℕ → Acted
after_denial w m = only w (item.Denied m ∷ [])

-- an answer is accepted or denied; without an open ask it is denied
abbrev pub after_verdict : Setting → World → ℕ → Site → ℕ → List ℕ → Option (List ℕ) → Acted
after_verdict set w m site boot answer None = after_denial w m
after_verdict set w m site boot answer (Some ask) =
    let last = option_flatten (slice_get w.deployer.attested m) in
    if accepts set site w.deployer m boot answer (Some ask) last then
    attested set w m boot ask last else after_denial w m

-- a packet is given to the deployer as a module's answer
abbrev pub after_answer : Setting → World → ℕ → ℕ → Option Site → Option (List ℕ) → Acted
after_answer set w m boot None packet = after_denial w m
after_answer set w m boot (Some site) None = after_denial w m
after_answer set w m boot (Some site) (Some answer) =
    after_verdict set w m site boot answer (option_flatten (slice_get w.deployer.open_asks m))
