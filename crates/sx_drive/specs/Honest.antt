-- The honest run: every module is loaded, attested and given its connection keys; then each reading
-- goes to its driver, and each packet to its receiver, the oldest first. Each line of it follows from
-- what the lines before it showed.
use Rattle.std.specs.Prelude.{ℕ, zero, suc, ◌+◌, ◌*◌, ◌==◌, ◌||◌, Bool, false, true, if◌then◌else◌}
use Rattle.std.specs.Prelude.{List, [], ◌∷◌, ◌++◌, length, map, min, slice_get, Option, Some, None}
use Rattle.std.specs.Prelude.{option_and_then, option_map}
use Rattle.std.specs.List.{position_from}
use Rattle.sx_trace.specs.declared.items.Item.{Item}
use Rattle.sx_trace.specs.declared.items.Item.TheVariants.{Packet, Done}
use Rattle.sx_sched.specs.Lines.{Line, Take, Give, Sense, Ask, Answer, Load, Call}
use Rattle.sx_mean.specs.declared.apps.Link.{Link}
use Rattle.sx_mean.specs.Application.{AppTree, PartTree}
use Rattle.sx_mean.specs.Validity.{same_device}
use Rattle.spec_invocation.specs.declared.protocol.TheConstants.{TAG_SIZE}
use Rattle.spec_invocation.specs.Protocol.{attest_entry, event_size, input_entry, sample_entry}
use Rattle.spec_invocation.specs.Protocol.{set_key_entry}
use Rattle.spec_run.specs.Setting.{Setting}
use Rattle.spec_run.specs.State.{World, Acted, switched_on}
use Rattle.sx_world.specs.Whole.{next}

-- what an honest run says: a line of its schedule, and each item that the line showed
pub data Said : Type 0 where
  SaidLine : Line → Said
  SaidItem : Item → Said

-- where it is: the world, the numbers of the packets that wait with the oldest first, what the
-- last line showed, and whether a line was due for which a schedule has no room
pub record Honest : Type 0 where
  pub world : World
  pub waiting : List ℕ
  pub shown : List Item
  pub long : Bool

-- where it comes to, and what it says on the way
pub record Driven : Type 0 where
  pub honest : Honest
  pub said : List Said

-- nothing is said
abbrev pub still : Honest → Driven
still h = record { honest = h; said = [] }

-- one thing, and what follows it
abbrev pub then_ : Driven → (Honest → Driven) → Driven
then_ a rest =
    record { honest = (rest a.honest).honest; said = a.said ++ (rest a.honest).said }

-- the same for each of these, one after the other
abbrev pub each : {A : Type 0} → (A → Honest → Driven) → List A → Honest → Driven
each act [] h = still h
each act (x ∷ xs) h = then_ (act x h) (each act xs)

-- a schedule has room for this many lines
unfoldable pub MOST_LINES : ℕ
MOST_LINES = 65536

-- where a packet is put before a call, and where a call leaves its pieces: no section and no device
-- begins below 0x0200
abbrev pub IN_WINDOW : ℕ
IN_WINDOW = 0x40

abbrev pub OUT_WINDOW : ℕ
OUT_WINDOW = 0x80

-- a line that has no room is left out
abbrev pub left_out : Honest → Driven
left_out h =
    still (record { world = h.world; waiting = h.waiting; shown = []; long = true })

-- a line with what it showed
abbrev pub performed : Line → Honest → Acted → Driven
performed line h a = record {
  honest = record { world = a.world; waiting = h.waiting; shown = a.items; long = false };
  said = SaidLine line ∷ map SaidItem a.items;
}

-- a line is performed, where a schedule has room for it
abbrev pub says : Setting → Line → Honest → Driven
says set line h =
    if h.long || (h.world.lines == MOST_LINES) then left_out h
    else performed line h (next set h.world line)

-- the packets that a line showed
abbrev pub packets_of : List Item → List ℕ
packets_of [] = []
packets_of (Packet k len ∷ items) = k ∷ packets_of items
packets_of (_ ∷ items) = packets_of items

-- how many packets a call says that it made, of which an event makes no more than 16
abbrev pub made_by : List Item → ℕ
made_by [] = 0
made_by (Done m status k ∷ items) = min k 16
made_by (_ ∷ items) = made_by items

-- a module, and the node that it is at
pub record Callee : Type 0 where
  pub part : ℕ
  pub node : ℕ

-- where the m-th module is, if there is one
abbrev pub callee_at : AppTree → ℕ → Option Callee
callee_at app m =
    option_map (λ (q : PartTree). record { part = m; node = q.node }) (slice_get app.parts m)

-- the same for a module that is there
abbrev pub if_there : (Callee → Honest → Driven) → Option Callee → Honest → Driven
if_there act None h = still h
if_there act (Some x) h = act x h

-- a module is called at an entry
abbrev pub calls : Setting → ℕ → Callee → Honest → Driven
calls set entry x = says set (Call x.part entry IN_WINDOW OUT_WINDOW)

-- a packet is given to a module's node, and the module is called at an entry
abbrev pub hands : Setting → ℕ → Callee → ℕ → Honest → Driven
hands set entry x k h =
    then_ (says set (Give k x.node IN_WINDOW) h)
    (calls set entry x)

-- the packets that were shown wait after the others
abbrev pub queues : Honest → Driven
queues h = still (record {
  world = h.world;
  waiting = h.waiting ++ packets_of h.shown;
  shown = h.shown;
  long = h.long;
})

-- a packet that a call made is taken, and waits
abbrev pub takes_one : Setting → ℕ → ℕ → Honest → Driven
takes_one set n i h = then_ (says set (Take n (OUT_WINDOW + event_size * i) event_size) h) queues

-- as many, from the i-th on
abbrev pub takes : Setting → ℕ → ℕ → ℕ → Honest → Driven
takes set n i zero h = still h
takes set n i (suc k) h = then_ (takes_one set n i h) (takes set n (i + 1) k)

-- the packets that the last call made are taken from its node
abbrev pub collects : Setting → ℕ → Honest → Driven
collects set n h = takes set n 0 (made_by h.shown) h

-- a packet is a module's answer, for the boot at which its node was switched on
abbrev pub answers : Setting → Callee → ℕ → Honest → Driven
answers set x k = says set (Answer x.part 0 k)

-- a module is loaded and asked, and gets the packet that it is sent: it attests itself
abbrev pub asks : Setting → Callee → Honest → Driven
asks set x h =
    then_ (says set (Load x.part) h) (λ h1.
    then_ (says set (Ask x.part) h1) (λ h2. each (hands set attest_entry x) (packets_of h2.shown) h2))

-- its answer is taken and given to the deployer, and it gets each set-key packet that is sent then
abbrev pub opens : Setting → Callee → Honest → Driven
opens set x h =
    then_ (says set (Take x.node OUT_WINDOW TAG_SIZE) h) (λ h1.
    then_ (each (answers set x) (packets_of h1.shown) h1) (λ h2.
    each (hands set set_key_entry x) (packets_of h2.shown) h2))

-- a module is set up
abbrev pub sets_up : Setting → Callee → Honest → Driven
sets_up set x h = then_ (asks set x h) (opens set x)

-- so many modules from the m-th on are set up
abbrev pub sets_up_from : Setting → ℕ → ℕ → Honest → Driven
sets_up_from set m zero h = still h
sets_up_from set m (suc k) h =
    then_ (if_there (sets_up set) (callee_at set.app m) h) (sets_up_from set (m + 1) k)

-- all modules are set up, in order
abbrev pub setup : Setting → Honest → Driven
setup set = sets_up_from set 0 (length set.app.parts)

-- where the module is that a connection leads to
abbrev pub target_of : AppTree → ℕ → Option Callee
target_of app link = option_and_then (λ (l : Link). callee_at app l.to) (slice_get app.links link)

-- where the module is that a packet is for: its third byte is the connection
abbrev pub receiver_of : AppTree → List ℕ → Option Callee
receiver_of app packet = option_and_then (target_of app) (slice_get packet 2)

-- a packet is handed to its receiver, and what that makes waits after the others
abbrev pub receives : Setting → ℕ → Callee → Honest → Driven
receives set k x h = then_ (hands set input_entry x k h) (collects set x.node)

-- the packet is delivered
abbrev pub delivers : Setting → ℕ → Honest → Driven
delivers set k h = if_there (receives set k)
    (option_and_then (receiver_of set.app) (slice_get h.world.packets k)) h

-- these packets wait
abbrev pub with_waiting : Honest → List ℕ → Honest
with_waiting h ks = record { world = h.world; waiting = ks; shown = h.shown; long = h.long }

-- the oldest packet is delivered, where one waits, and then what follows
abbrev pub oldest : Setting → (Honest → Driven) → List ℕ → Honest → Driven
oldest set rest [] h = still h
oldest set rest (k ∷ ks) h = then_ (delivers set k (with_waiting h ks)) rest

-- packets are delivered until none waits; a schedule has no room for more deliveries than lines
abbrev pub settles : Setting → ℕ → Honest → Driven
settles set zero h = still h
settles set (suc n) h = oldest set (settles set n) h.waiting h

-- where the module is that drives a device, if any
abbrev pub driver_of : AppTree → ℕ → Option Callee
driver_of app d = option_and_then (callee_at app)
    (position_from (λ (q : PartTree). same_device (Some d) q.device) 0 app.parts)

-- a driver is called, and what it makes waits
abbrev pub samples : Setting → Callee → Honest → Driven
samples set x h =
    then_ (calls set sample_entry x h) (collects set x.node)

-- a reading: a sensor and its value
pub record Reading : Type 0 where
  pub device : ℕ
  pub value : ℕ

-- the sensor gets its value, its driver is called, and packets are delivered until none waits
abbrev pub reads : Setting → Reading → Honest → Driven
reads set r h =
    then_ (says set (Sense r.device r.value) h) (λ h1.
    then_ (if_there (samples set) (driver_of set.app r.device) h1) (settles set MOST_LINES))

-- all is switched on, and nothing waits
abbrev pub start : Setting → Honest
start set = record { world = switched_on set; waiting = []; shown = []; long = false }

-- the honest run of these readings, from power-on
abbrev pub honest_run : Setting → List Reading → Driven
honest_run set readings = then_ (setup set (start set)) (each (reads set) readings)
