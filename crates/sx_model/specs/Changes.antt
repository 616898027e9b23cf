-- What items make of one device or module. Nobody has to believe this file: it is for contracts of
-- functions that aren't public.
use Rattle.std.specs.Prelude.{ℕ, ◌+◌, ◌*◌, ◌/◌, ◌%◌, ◌==◌, ◌&&◌, List, [], ◌∷◌, ◌++◌, Bool, true}
use Rattle.std.specs.Prelude.{false, ◌||◌, if◌then◌else◌, Option, Some, None, is_none, length, not}
use Rattle.std.specs.Prelude.{nat_le, nat_lt, slice_get, slice_index, slice_set, unwrap_or}
use Rattle.std.specs.List.{position_from}
use Rattle.sx_lang.specs.Tree.{ModuleTree}
use Rattle.sx_lang.specs.declared.sides.Side.{Side}
use Rattle.sx_mean.specs.Application.{AppTree, PartTree, is_sensor}
use Rattle.sx_mean.specs.declared.apps.Link.{Link}
use Rattle.sx_mean.specs.declared.events.End.{End}
use Rattle.sx_lang.specs.declared.sides.Side.TheVariants.{From, To}
use Rattle.sx_mean.specs.declared.events.SourceEvent.{SourceEvent}
use Rattle.sx_mean.specs.declared.events.SourceEvent.TheVariants as event
use Rattle.sx_mean.specs.Ends.{ends_of, same_side}
use Rattle.sx_model.specs.Reaction.{after_event, flow_of}
use Rattle.sx_model.specs.declared.receiving.Taking.{Taking}
use Rattle.sx_model.specs.State.{EndView, Model, Pending, Present, Reading, Standing, Vouched}
use Rattle.sx_model.specs.State.{contains}
use Rattle.sx_model.specs.Step.{◌>>?◌, absent_at, first_present, idle}
use Rattle.sx_model.specs.Step.{is_nothing, kind_is, is_vouched, stale_at, state_if}
use Rattle.sx_model.specs.Step.{is_undriven, waits, with_device, without_first}
use Rattle.sx_trace.specs.declared.items.Item.{Item}
use Rattle.sx_trace.specs.declared.items.Item.TheVariants.{Reset, Protect, Sense, Read, Drain, Ask}
use Rattle.sx_trace.specs.declared.items.Item.TheVariants.{Attested, Denied, Vouch, Open, Take, Out}
use Rattle.sx_trace.specs.declared.items.Item.TheVariants.{Raw, Done, Packet, Forged, Busy, Skip}
use Rattle.sx_trace.specs.declared.items.Item.TheVariants.{Budget}
use Rattle.sx_model.specs.Renewal.{boot_of, may_attest, may_open, opens, renewed, takes}

-- the sending side
abbrev pub is_from : Side → Bool
is_from side = same_side side From

-- the module with another pending event, or with none
abbrev pub with_pending : Present → Option Pending → Present
with_pending p pending = record p { pending = pending }

-- the reading is fresh, with this value
abbrev pub is_fresh_with : ℕ → Reading → Bool
is_fresh_with v r = r.fresh && (r.value == v)

-- the elements with that at the index replaced by what the change makes of it; none where it makes
-- nothing
abbrev pub at_index : {A : Type 0} → List A → ℕ → (A → Option A) → Option (List A)
at_index xs i change = slice_get xs i >>? (λ x. change x >>? (λ y. Some (slice_set xs i y)))

-- what was computed, where the test holds
abbrev pub if_so : {A : Type 0} → Bool → Option A → Option A
if_so b o = if b then o else None

-- the state after a change of one module
abbrev pub on_module : Model → ℕ → (Standing → Option Standing) → Option Model
on_module s m change = at_index s.modules m change >>? (λ xs. Some (record s { modules = xs }))

-- the state after a change of one device
abbrev pub on_device : Model → ℕ → (Reading → Option Reading) → Option Model
on_device s d change = at_index s.devices d change >>? (λ rs. Some (record s { devices = rs }))

-- a module that is present after a change of it
abbrev pub on_present : (Present → Option Present) → Standing → Option Standing
on_present change x = x.present >>? (λ p. change p >>? (λ q. Some (record x { present = Some q })))

-- a fresh reading is taken, where it's free to take
abbrev pub takes_fresh : Bool → Reading → Option Reading
takes_fresh is_free r = if_so (is_free && r.fresh) (Some (record r { fresh = false }))

-- a fresh reading of a sensor that no present module drives is taken by other code
abbrev pub drains : AppTree → Model → ℕ → Option Model
drains app s d = on_device s d (takes_fresh (kind_is is_sensor (slice_get app.devices d)
    && is_undriven app.parts s.modules d))

-- the first emit that is owed is written
abbrev pub writes : ℕ → Pending → Option Pending
writes v owed = without_first v owed.emits owed.pieces

-- a module that is present writes the first emit that it owes
abbrev pub writes_present : ℕ → Present → Option Present
writes_present v p =
    p.pending >>? (λ owed. writes v owed >>? (λ left. Some (with_pending p (Some left))))

-- an event without an emit that is owed is done with this many pieces
abbrev pub is_finished : ℕ → Pending → Bool
is_finished k owed = is_nothing owed.emits && (k == owed.pieces)

-- a module that owes no emit is done with its event, with this many pieces
abbrev pub finishes : ℕ → Present → Option Present
finishes k p = p.pending >>? (λ owed. if_so (is_finished k owed) (Some (with_pending p None)))

-- a module may be refused so
abbrev pub may_refuse : ℕ → ℕ → Bool → Present → Bool
may_refuse status k waiting p = (nat_le 2 status && nat_le status 8)
    && ((k == 0) && (is_none p.pending && (not (status == 8) || waiting)))

-- a module that is present may be refused so
abbrev pub refuses : ℕ → ℕ → Bool → Option Present → Bool
refuses status k waiting None = false
refuses status k waiting (Some p) = may_refuse status k waiting p

-- a module may be refused so: it is present, and the status and the pieces fit
abbrev pub is_refused : ℕ → ℕ → Bool → Option Standing → Bool
is_refused status k waiting None = false
is_refused status k waiting (Some x) = refuses status k waiting x.present

-- a module's open ask is this one
abbrev pub opens_ask : ℕ → Standing → Option Standing
opens_ask a x = Some (record x { asked = Some a })

-- the deployer asks a module; challenges are counted
abbrev pub asks : Model → ℕ → ℕ → Option Model
asks s m a = if_so (a == s.asks) (on_module s m (opens_ask a) >>?
    (λ t. Some (record t { asks = t.asks + 1 })))

-- a module vouches for a challenge at a boot
abbrev pub vouches : ℕ → ℕ → Standing → Option Standing
vouches a boot x = idle x >>? (λ p. Some (record x {
  present = Some (with_pending p (Some (record { emits = []; pieces = 1 })));
  vouched = x.vouched ++ record { challenge = a; boot = boot } ∷ [];
}))

-- an absent module is protected
abbrev pub protects : ModuleTree → List End → Standing → Option Standing
protects tree es x =
    if_so (is_none x.present) (Some (record x { present = Some (first_present tree es) }))

-- the end is that of the connection and the side
abbrev pub is_end : ℕ → Side → End → Bool
is_end c side e = (e.link == c) && same_side e.side side

-- the place of that end among a module's ends
abbrev pub end_at : ℕ → Side → List End → Option ℕ
end_at c side es = position_from (is_end c side) 0 es

-- the views of the ends after a change of that end
abbrev pub on_end : (EndView → Option EndView) → ℕ → Side → List End → List EndView
    → Option (List EndView)
on_end change c side es views = end_at c side es >>? (λ i. at_index views i change)

-- an idle module opens an end
abbrev pub opens_end : Bool → ℕ → ℕ → Side → List End → Present → Option Present
opens_end may epoch c side es p =
    if_so (is_none p.pending && may) (on_end (opens epoch) c side es p.ends >>?
    (λ views. Some (record p {
      ends = views;
      pending =
          Some (record { emits = []; pieces = 0 });
    })))

-- the numbers with that at the index raised by one
abbrev pub raised_at : List ℕ → ℕ → List ℕ
raised_at ns i = slice_set ns i (slice_index ns i + 1)

-- the boots, readings and modules after a reset of a node
abbrev pub resets : AppTree → Model → ℕ → Option Model
resets app s n = if_so (nat_lt n (length s.boots)) (Some (record s {
  boots = raised_at s.boots n;
  devices = stale_at n app.devices s.devices;
  modules = absent_at n app.parts s.modules;
}))

-- an end opens at a boot, where its connection has an epoch now
abbrev pub opens_standing : ℕ → ℕ → ℕ → Side → ℕ → List End → Standing → Option Standing
opens_standing boot now c side epoch es x =
    on_present (opens_end (may_open x.attested boot c epoch now) epoch c side es) x

-- a module opens an end, at the boot of its node and in an epoch
abbrev pub opens_in : AppTree → Model → ℕ → ℕ → Side → ℕ → Option Model
opens_in app s m c side epoch =
    slice_get app.parts m >>? (λ q. slice_get s.boots q.node >>? (λ boot.
    on_module s m (opens_standing boot (slice_index s.epochs c) c side epoch (ends_of app m))))

-- a module vouches for a challenge at the boot of its node
abbrev pub vouches_in : AppTree → Model → ℕ → ℕ → Option Model
vouches_in app s m a = slice_get app.parts m >>?
    (λ q. slice_get s.boots q.node >>? (λ boot. on_module s m (vouches a boot)))

-- a module of the node is protected
abbrev pub protects_in : AppTree → Model → ℕ → ℕ → Option Model
protects_in app s n m = slice_get app.parts m >>?
    (λ q. if_so (q.node == n) (on_module s m (protects q.tree (ends_of app m))))

-- the challenge is open, and was vouched for at the boot
abbrev pub answers : Option ℕ → ℕ → List Vouched → Bool
answers None b xs = false
answers (Some a) b xs = is_vouched a b xs

-- the deployer may accept the module's answer at a boot
abbrev pub is_accepted : ℕ → List Link → List ℕ → ℕ → Standing → Bool
is_accepted m ls es b x = answers x.asked b x.vouched && may_attest m ls es (boot_of x.attested) b

-- a module's answer is accepted at a boot, with these epochs after it
abbrev pub accepts : ℕ → List ℕ → Standing → Option Standing
accepts b epochs x =
    Some (record x { asked = None; attested = Some (record { boot = b; floors = epochs }) })

-- the deployer accepts a module's answer, and these are the epochs after it
abbrev pub accepts_with : Model → ℕ → ℕ → List ℕ → Option Model
accepts_with s m b epochs =
    on_module s m (accepts b epochs) >>? (λ t. Some (record t { epochs = epochs }))

-- the epochs after an answer that is accepted
abbrev pub renewal : List Link → Model → ℕ → ℕ → Option (List ℕ)
renewal ls s m b = slice_get s.modules m >>? (λ x.
    if_so (is_accepted m ls s.epochs b x) (Some (renewed m ls (boot_of x.attested) s.epochs)))

-- the deployer accepts a module's answer and renews its connections, where it may
abbrev pub attests : AppTree → Model → ℕ → ℕ → Option Model
attests app s m b = renewal app.links s m b >>? (λ epochs. accepts_with s m b epochs)

-- an invocation is done, or refused
abbrev pub is_done_in : AppTree → Model → ℕ → ℕ → ℕ → Option Model
is_done_in app s m status k =
    slice_get app.parts m >>? (λ q. if status == 1 then on_module s m (on_present (finishes k))
    else if_so (is_refused status k (waits app s.devices q.device) (slice_get s.modules m))
    (Some s))

-- a module is present so
abbrev pub puts : Present → Standing → Option Standing
puts p x = Some (record x { present = Some p })

-- the state with a module that is present so
abbrev pub with_module : Model → ℕ → Present → Model
with_module s m p = unwrap_or (on_module s m (puts p)) s

-- the module was this one, and reacted to an event
unfoldable pub reacted : ModuleTree → List End → SourceEvent → Model → ℕ → Present → Model
reacted tree es e s m p =
    let f = flow_of tree es e p s.sent in
    with_module (record s { sent = f.sent }) m (after_event tree e f p)

-- a device's reading may be taken, with this value
abbrev pub is_readable : AppTree → ℕ → ℕ → Option Reading → Bool
is_readable app d v None = false
is_readable app d v (Some r) = kind_is is_sensor (slice_get app.devices d) && is_fresh_with v r

-- a reading that is no longer fresh
abbrev pub staled : Reading → Option Reading
staled r = Some (record r { fresh = false })

-- the state in which a device's reading is no longer fresh
abbrev pub with_stale : ℕ → Model → Model
with_stale d s = unwrap_or (on_device s d staled) s

-- a driver takes its sensor's value
abbrev pub reads_from : AppTree → Model → ℕ → PartTree → ℕ → ℕ → Option Model
reads_from app s m q d v =
    if_so (is_readable app d v (slice_get s.devices d))
    ((slice_get s.modules m >>? idle) >>? (λ p. Some
    (with_stale d (reacted q.tree (ends_of app m) (event.Sample v) s m p))))

-- a driver takes its sensor's fresh value and reacts to it
abbrev pub reads : AppTree → Model → ℕ → ℕ → Option Model
reads app s m v = slice_get app.parts m >>? (λ q. q.device >>? (λ d. reads_from app s m q d v))

-- the word of a number that was sent over a connection
abbrev pub word_at : List (List ℕ) → ℕ → ℕ → Option ℕ
word_at sent c i = slice_get sent (c + 256 * (i / 65536)) >>? (λ words. slice_get words (i % 65536))

-- a module's receiving end takes a word
abbrev pub takes_present : ℕ → ℕ → List End → Present → Option Present
takes_present c i es p = on_end (takes (i / 65536) (i % 65536)) c To es p.ends >>?
    (λ views. Some (record p { ends = views }))

-- the views of a module's ends after the word of an event, if it brings one
abbrev pub taken_views : Option Taking → List End → List EndView → Option (List EndView)
taken_views None es views = Some views
taken_views (Some t) es views =
    on_end (takes (t.number / 65536) (t.number % 65536)) t.link To es views

-- the module, with that word taken
abbrev pub readied : Option Taking → List End → Present → Option Present
readied t es p = taken_views t es p.ends >>? (λ views. Some (record p { ends = views }))

-- the same of a module at which nothing is pending
abbrev pub readies : Option Taking → List End → Present → Option Present
readies t es p = if_so (is_none p.pending) (readied t es p)

-- an idle module takes the word and reacts
abbrev pub reacts_present : ModuleTree → List End → SourceEvent → Option Taking → List (List ℕ)
    → Present → Option Present
reacts_present tree es e t sent p = readies t es p >>?
    (λ q. Some (after_event tree e (flow_of tree es e q sent) q))

-- what is sent then
abbrev pub sends_present : ModuleTree → List End → SourceEvent → Option Taking → List (List ℕ)
    → Present → Option (List (List ℕ))
sends_present tree es e t sent p = readies t es p >>? (λ q. Some (flow_of tree es e q sent).sent)

-- the same of a module that may be absent
abbrev pub reacts_standing : ModuleTree → List End → SourceEvent → Option Taking → List (List ℕ)
    → Standing → Option Standing
reacts_standing tree es e t sent x = on_present (reacts_present tree es e t sent) x

-- what is sent then
abbrev pub sends_standing : ModuleTree → List End → SourceEvent → Option Taking → List (List ℕ)
    → Standing → Option (List (List ℕ))
sends_standing tree es e t sent x = x.present >>? sends_present tree es e t sent

-- the state after the event of an idle module
abbrev pub reacts_at : ModuleTree → List End → SourceEvent → Option Taking → Model → ℕ
    → Option Model
reacts_at tree es e t s m = (slice_get s.modules m >>? idle) >>?
    (λ p. readied t es p >>? (λ q. Some (reacted tree es e s m q)))

-- an idle module takes a word at an input
abbrev pub takes_idle : AppTree → Model → ℕ → PartTree → ℕ → ℕ → ℕ → ℕ → Present → Option Model
takes_idle app s m q c i input v p =
    takes_present c i (ends_of app m) p >>? (λ next.
    Some (reacted q.tree (ends_of app m) (event.Input input v) s m next))

-- a module that owes nothing takes a word at an input
abbrev pub takes_at : AppTree → Model → ℕ → PartTree → ℕ → ℕ → ℕ → ℕ → Option Model
takes_at app s m q c i input v =
    (slice_get s.modules m >>? idle) >>? (λ p. takes_idle app s m q c i input v p)

-- a module takes the word of this number from a connection, and reacts to it
abbrev pub takes_in : AppTree → Model → ℕ → ℕ → ℕ → ℕ → Option Model
takes_in app s m c i v =
    slice_get app.parts m >>? (λ q. slice_get app.links c >>?
    (λ l. if_so (contains (word_at s.sent c i) v) (takes_at app s m q c i l.input v)))

-- a sensor gets a value
abbrev pub after_sample : AppTree → Model → ℕ → ℕ → Option Model
after_sample app s d v = slice_get app.devices d >>?
    (λ w. state_if (is_sensor w.kind) (with_device s d (record { value = v; fresh = true })))

-- other code writes an actuator, while no driver of it is present
abbrev pub wrote_raw : AppTree → Model → ℕ → Option Model
wrote_raw app s d = state_if (kind_is (λ k. not (is_sensor k)) (slice_get app.devices d)
    && is_undriven app.parts s.modules d) s

-- the state after an allowed item, put together from these
abbrev pub steps : AppTree → Model → Item → Option Model
steps app s (Reset n cause) = resets app s n
steps app s (Protect n None) = Some s
steps app s (Protect n (Some m)) = protects_in app s n m
steps app s (Sense d v) = after_sample app s d v
steps app s (Read m v) = reads app s m v
steps app s (Drain d) = drains app s d
steps app s (Ask m a) = asks s m a
steps app s (Attested m b) = attests app s m b
steps app s (Denied m) = Some s
steps app s (Vouch m a) = vouches_in app s m a
steps app s (Open m c side epoch) = opens_in app s m c side epoch
steps app s (Take m c i v) = takes_in app s m c i v
steps app s (Out m v) = on_module s m (on_present (writes_present v))
steps app s (Raw d v) = wrote_raw app s d
steps app s (Done m status k) = is_done_in app s m status k
steps app s (Packet k n) = Some s
steps app s (Forged m) = Some s
steps app s (Busy n) = Some s
steps app s (Skip n) = Some s
steps app s (Budget n) = Some s
