-- Which items the source allows with acts in their order, and what each makes of its state: this is
-- the model's own Step but for what is pending, at `reacts`, at an output and at the end of an event.
use Rattle.std.specs.Prelude.{ℕ, ◌+◌, ◌*◌, ◌/◌, ◌%◌, ◌==◌, ◌&&◌, ◌||◌, nat_le, not, Bool, true}
use Rattle.std.specs.Prelude.{false, if◌then◌else◌, List, [], ◌∷◌, ◌++◌, map, slice_get, slice_set}
use Rattle.std.specs.Prelude.{slice_index, Option, Some, None, is_some, is_none}
use Rattle.sx_lang.specs.Tree.{ModuleTree}
use Rattle.sx_lang.specs.declared.sides.Side.TheVariants.{To}
use Rattle.sx_mean.specs.Places.{initial_cells}
use Rattle.sx_mean.specs.declared.events.Act.{Act}
use Rattle.sx_mean.specs.declared.events.Act.TheVariants.{Emit}
use Rattle.sx_mean.specs.declared.events.End.{End}
use Rattle.sx_mean.specs.declared.events.SourceEvent.{SourceEvent}
use Rattle.sx_mean.specs.declared.events.SourceEvent.TheVariants as event
use Rattle.sx_trace.specs.declared.items.Item.{Item}
use Rattle.sx_trace.specs.declared.items.Item.TheVariants.{Reset, Protect, Sense, Read, Drain, Ask}
use Rattle.sx_trace.specs.declared.items.Item.TheVariants.{Attested, Vouch, Open, Take, Out, Raw}
use Rattle.sx_trace.specs.declared.items.Item.TheVariants.{Done}
use Rattle.sx_mean.specs.Application.{PartTree, AppTree, is_sensor}
use Rattle.sx_mean.specs.Ends.{ends_of}
use Rattle.sx_model.specs.State.{contains, Reading}
use Rattle.sx_model.specs.Renewal.{may_attest, renewed, boot_of, opens, may_open, takes}
use Rattle.sx_model.specs.Step.{◌>>?◌, stale_at, kind_is, is_vouched, changed_views, waits}
use Rattle.sx_model.specs.order.State.{Present, Standing, Model, owing}
use Rattle.sx_model.specs.order.Reaction.{flow_of, after_event, sent_first, from_emit, flowing}

-- the state, where the test holds
abbrev pub state_if : Bool → Model → Option Model
state_if b s = if b then Some s else None

-- the state with another state of one module
abbrev pub with_standing : Model → ℕ → Standing → Model
with_standing s m x = record s { modules = slice_set s.modules m x }

-- the state with another module at its node
abbrev pub with_present : Model → ℕ → Standing → Present → Model
with_present s m x p = with_standing s m (record x { present = Some p })

-- the state with another reading of a device
abbrev pub with_device : Model → ℕ → Reading → Model
with_device s d r = record s { devices = slice_set s.devices d r }

-- the module is present, and nothing is pending
abbrev pub idle : Standing → Option Present
idle x = x.present >>? (λ p. if is_none p.pending then Some p else None)

-- no driver of the device is present
abbrev pub is_undriven : List PartTree → List Standing → ℕ → Bool
is_undriven (q ∷ qs) (x ∷ xs) d =
    not (contains q.device d && is_some x.present) && is_undriven qs xs d
is_undriven _ _ d = true

-- the node's modules are absent
abbrev pub absent_at : ℕ → List PartTree → List Standing → List Standing
absent_at n (q ∷ qs) (x ∷ xs) =
    (if q.node == n then record x { present = None } else x) ∷ absent_at n qs xs
absent_at n _ xs = xs

-- a node is reset: its modules are absent, its sensors aren't fresh, and its boot rises
abbrev pub reset_at : AppTree → Model → ℕ → ℕ → Model
reset_at app s n boot = record s {
  boots = slice_set s.boots n (boot + 1);
  devices = stale_at n app.devices s.devices;
  modules = absent_at n app.parts s.modules;
}

-- a module as it begins
abbrev pub first_present : ModuleTree → List End → Present
first_present tree es = record {
  cells = initial_cells tree.decls;
  ends = map (λ e. record { epoch = None; next = 0 }) es;
  pending = None;
}

-- the module reacts to an event
abbrev pub reacts : AppTree → Model → ℕ → PartTree → Standing → Present → SourceEvent → Model
reacts app s m q x p e =
    let f = flow_of q.tree (ends_of app m) e p s.sent in
    record (with_present s m x (after_event q.tree e f p)) { sent = f.sent }

-- what is owed after the first act, if that emits this value
abbrev pub behind_emit : ℕ → List Act → Option (List Act)
behind_emit v (Emit e ∷ acts) = if e == v then Some acts else None
behind_emit v _ = None

-- no act is left
abbrev pub is_nothing : List Act → Bool
is_nothing [] = true
is_nothing (x ∷ xs) = false

-- the module goes on with its acts, up to the next emit
abbrev pub goes_on : AppTree → Model → ℕ → Standing → Present → List Act → ℕ → Model
goes_on app s m x p acts pieces =
    let f = sent_first (ends_of app m) p.ends acts (flowing s.sent pieces) in
    record (with_present s m x (record p { pending = owing (from_emit acts) f.pieces })) {
      sent = f.sent;
    }

-- the state after an allowed item
abbrev pub step : AppTree → Model → Item → Option Model
-- a node is reset
step app s (Reset n cause) = slice_get s.boots n >>? (λ boot. Some (reset_at app s n boot))
-- an absent module of the node is protected
step app s (Protect n (Some m)) = slice_get app.parts m >>? (λ q. slice_get s.modules m >>? (λ x.
    state_if ((q.node == n) && is_none x.present)
    (with_present s m x (first_present q.tree (ends_of app m)))))
-- a sensor gets a value
step app s (Sense d v) = slice_get app.devices d >>? (λ w. state_if (is_sensor w.kind)
    (with_device s d (record { value = v; fresh = true })))
-- a driver takes its sensor's fresh value, and reacts to it
step app s (Read m v) = slice_get app.parts m >>? (λ q. slice_get s.modules m >>? (λ x.
    idle x >>? (λ p. q.device >>? (λ d. slice_get s.devices d >>? (λ r.
    state_if (kind_is is_sensor (slice_get app.devices d) && (r.fresh && (r.value == v)))
    (reacts app (with_device s d (record r { fresh = false })) m q x p (event.Sample v)))))))
-- other code takes a sensor's fresh value, while no driver of it is present
step app s (Drain d) = slice_get s.devices d >>? (λ r.
    state_if (r.fresh && (kind_is is_sensor (slice_get app.devices d)
    && is_undriven app.parts s.modules d)) (with_device s d (record r { fresh = false })))
-- the deployer asks a module; the challenge is the number of asks before
step app s (Ask m a) = slice_get s.modules m >>? (λ x. state_if (a == s.asks)
    (with_standing (record s { asks = s.asks + 1 }) m (record x { asked = Some a })))
-- the deployer accepts a module's answer to its open challenge
step app s (Attested m b) = slice_get s.modules m >>? (λ x. x.asked >>? (λ a.
    let epochs = renewed m app.links (boot_of x.attested) s.epochs in
    state_if (is_vouched a b x.vouched && may_attest m app.links s.epochs (boot_of x.attested) b)
    (with_standing (record s { epochs = epochs }) m
    (record x { asked = None; attested = Some (record { boot = b; floors = epochs }) }))))
-- a module vouches for a challenge at its node's boot, in one piece
step app s (Vouch m a) = slice_get app.parts m >>? (λ q. slice_get s.modules m >>? (λ x.
    idle x >>? (λ p. slice_get s.boots q.node >>? (λ boot. Some (with_standing s m (record x {
      present = Some (record p { pending = owing [] 1 });
      vouched = x.vouched ++ record { challenge = a; boot = boot } ∷ [];
    }))))))
-- a module opens an end in an epoch from its floor to the connection's
step app s (Open m c side epoch) = slice_get app.parts m >>? (λ q. slice_get s.modules m >>? (λ x.
    idle x >>? (λ p. slice_get s.boots q.node >>? (λ boot.
    changed_views (opens epoch) c side (ends_of app m) p.ends >>? (λ views.
    state_if (may_open x.attested boot c epoch (slice_index s.epochs c))
    (with_present s m x (record p { ends = views; pending = owing [] 0 })))))))
-- a module takes a word that was sent over a connection, and reacts to it; the number is 65,536
-- times the epoch plus the word's index
step app s (Take m c i v) = slice_get app.parts m >>? (λ q. slice_get s.modules m >>? (λ x.
    idle x >>? (λ p. slice_get app.links c >>? (λ l.
    slice_get s.sent (c + 256 * (i / 65536)) >>? (λ words.
    changed_views (takes (i / 65536) (i % 65536)) c To (ends_of app m) p.ends >>? (λ views.
    state_if (contains (slice_get words (i % 65536)) v)
    (reacts app s m q x (record p { ends = views }) (event.Input l.input v))))))))
-- a module writes the emit that is the first act that it owes, and does the sends before the next
step app s (Out m v) = slice_get s.modules m >>? (λ x. x.present >>? (λ p. p.pending >>? (λ owed.
    behind_emit v owed.acts >>? (λ acts. Some (goes_on app s m x p acts owed.pieces)))))
-- other code writes an actuator, while no driver of it is present
step app s (Raw d v) = state_if (kind_is (λ k. not (is_sensor k)) (slice_get app.devices d)
    && is_undriven app.parts s.modules d) s
-- an invocation did its event, or was refused with a status from 2 to 8
step app s (Done m status k) = slice_get app.parts m >>? (λ q. slice_get s.modules m >>? (λ x.
    x.present >>? (λ p. if status == 1 then p.pending >>? (λ owed.
    state_if (is_nothing owed.acts && (k == owed.pieces))
    (with_present s m x (record p { pending = None })))
    else state_if ((nat_le 2 status && nat_le status 8)
    && ((k == 0) && (is_none p.pending && (not (status == 8) || waits app s.devices q.device))))
    s)))
step app s _ = Some s
