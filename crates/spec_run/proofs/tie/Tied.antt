-- How a run of the world relates to a run of the source.
use Rattle.std.proofs.Common.{◌≡◌, ◌≢◌, ℕ, ◌+◌, ◌*◌, ◌<◌, ◌≤◌, ◌⊎◌, ◌==◌, ◌&&◌, true, false, if◌then◌else◌, List, [], ◌∷◌, ◌++◌, length, Option, Some, None}
use Rattle.std.specs.Prelude.{slice_get, slice_index, is_some, nat_le}
use Rattle.sx_lang.specs.declared.sides.Side.{Side}
use Rattle.sx_lang.specs.declared.sides.Side.TheVariants.{From, To}
use Rattle.sx_mean.specs.declared.apps.Link.{Link}
use Rattle.sx_mean.specs.declared.events.End.{End}
use Rattle.sx_mean.specs.declared.events.Act.{Act}
use Rattle.sx_mean.specs.declared.events.Act.TheVariants.{Send, Emit}
use Rattle.sx_mean.specs.React.{react}
use Rattle.spec_run.proofs.tie.Flows.{AllSending}
use Rattle.sx_mean.specs.declared.events.SourceEvent.{SourceEvent}
use Rattle.sx_mean.specs.declared.events.SourceEvent.TheVariants as event
use Rattle.sx_ledger.specs.declared.entry.Maker.{Maker}
use Rattle.sx_ledger.specs.declared.entry.Maker.TheVariants as maker
use Rattle.sx_rules.specs.declared.access.Violation.{Violation}
use Rattle.sx_rules.specs.declared.section.Section.{Section}
use Rattle.sx_rules.specs.Access.{Lives, holder}
use Rattle.sx_bus.specs.declared.devices.Kind.{Kind}
use Rattle.sx_bus.specs.declared.devices.Window.{Window}
use Rattle.spec_machine.specs.State.{State}
use Rattle.spec_machine.specs.Step.{pc_of}
use Rattle.spec_machine.specs.declared.kinds.Event.{Event}
use Rattle.sx_image.specs.Reach.{Comes}
use Rattle.spec_invocation.specs.ModuleState.{EndState, ModuleState, state_of, end_of, with_end, epoch_of, link_of}
use Rattle.spec_invocation.specs.Marks.{Mark, Wrapped, Unwrapped, Sampled, Actuated}
use Rattle.sx_image.specs.Watched.{Watched, watch}
use Rattle.spec_invocation.specs.Progress.{Progress, Invoked, Returns, Violates, marks_in}
use Rattle.spec_invocation.specs.Entries.{end_found}
use Rattle.spec_machine.specs.Node.{IsNode}
use Rattle.sx_image.specs.Image.{private_bytes, setup_at}
use Rattle.sx_image.specs.Realizes.{Underway, Aborted, Exited}
use Rattle.sx_mean.specs.Application.{PartTree, AppTree, is_sensor}
use Rattle.sx_mean.specs.Ends.{ends_of, same_side}
use Rattle.sx_model.specs.State.{Reading, EndView, Attestation, FIELDS}
use Rattle.sx_model.specs.order.State.{Present, Standing, Model}
use Rattle.sx_model.specs.order.Reaction.{flow_of, after_event, sent_first, from_emit, flowing}
use Rattle.sx_model.specs.Step.{is_vouched, kind_is}
use Rattle.sx_model.specs.Renewal.{boot_of}
use Rattle.spec_run.specs.Setting.{Site, Setting, is_at_site, device_number, windows_at}
use Rattle.sx_wire.specs.Headers.{ask_packet, set_key_header, is_ask, is_set_key_header, is_event_header, challenge_in, link_in, epoch_in, last_in, value_in}
use Rattle.spec_run.specs.Ledger.{Made, is_made}
use Rattle.sx_deployer.specs.Granting.{side_number}
use Rattle.spec_run.specs.State.{World}
use Rattle.spec_run.specs.Observation.{side_in, sender_of}

-- The state of a module's private section, and what the source knows of it.

abbrev pub epoch_at : EndState → Option ℕ
epoch_at x = if x.is_open then Some (epoch_of x.field) else None

-- what was sent over a connection in an epoch are this many words
abbrev pub HasLength : Option (List ℕ) → ℕ → Type 0
HasLength None n = ⊥
HasLength (Some words) n = length words ≡ n

-- a sending end counts the words that were sent in its epoch, and a receiving end knows the next number
abbrev pub Counts : Side → EndState → EndView → Option (List ℕ) → Type 0
Counts From x v words = HasLength words x.number
Counts To x v words = x.number ≡ v.next

-- an open end has its connection's field, with its epoch
pub record SameEnd (e : End) (x : EndState) (v : EndView) (sent : List (List ℕ)) : Type 0 where
  pub epoch : v.epoch ≡ epoch_at x
  pub field : x.is_open ≡ true → link_of x.field ≡ e.link
  pub counts : x.is_open ≡ true → Counts e.side x v (slice_get sent x.field)

abbrev pub SameEnds : List End → List EndState → List EndView → List (List ℕ) → Type 0
SameEnds [] [] [] sent = Unit {0}
SameEnds [] [] (v ∷ vs) sent = ⊥
SameEnds [] (x ∷ xs) vs sent = ⊥
SameEnds (e ∷ es) [] vs sent = ⊥
SameEnds (e ∷ es) (x ∷ xs) [] sent = ⊥
SameEnds (e ∷ es) (x ∷ xs) (v ∷ vs) sent = SameEnd e x v sent × SameEnds es xs vs sent

pub record SameState (es : List End) (p : ModuleState) (cells : List ℕ) (views : List EndView) (sent : List (List ℕ)) : Type 0 where
  pub same : p.cells ≡ cells
  pub each : SameEnds es p.ends views sent

-- What an invocation that is under way still owes: its marks to come, and how it ends.

-- the connection field of a header
abbrev pub place_in : List ℕ → ℕ
place_in header = link_in header + 256 * epoch_in header

-- a header and a body are those of a word that the module sent
pub record WasSent (app : AppTree) (m : ℕ) (sent : List (List ℕ)) (header body : List ℕ) : Type 0 where
  pub sender : sender_of app (link_in header) ≡ m
  pub words : List ℕ
  pub there : slice_get sent (place_in header) ≡ Some words
  pub word : slice_get words (last_in header) ≡ Some (value_in body)

-- the epoch with which an end is open
abbrev pub open_at : ℕ → Side → List End → List EndView → Option ℕ
open_at link side [] views = None
open_at link side (e ∷ es) [] = None
open_at link side (e ∷ es) (v ∷ views) = if (e.link == link) && same_side e.side side then v.epoch else open_at link side es views

-- the field of an open sending end of the module's own
abbrev pub OwnOpen : AppTree → ℕ → List EndView → ℕ → Type 0
OwnOpen app m views f = (open_at (link_of f) From (ends_of app m) views ≡ Some (epoch_of f)) × ((l : Link) × (slice_get app.links (link_of f) ≡ Some l) × (l.from ≡ m))

-- where an act is owed, what it may send over is its module's own
abbrev pub OwnActs : AppTree → ℕ → List EndView → List Act → Type 0
OwnActs app m views [] = Unit {0}
OwnActs app m views (a ∷ acts) = AllSending (OwnOpen app m views) (ends_of app m) views

pub own_acts : (app : AppTree) (m : ℕ) (views : List EndView) (acts : List Act) → AllSending (OwnOpen app m views) (ends_of app m) views → OwnActs app m views acts
own_acts app m views [] h = tt
own_acts app m views (a ∷ acts) h = h

-- how it ends, where these acts and pieces are owed and no mark is to come
abbrev pub Settled : List End → List ℕ → List EndView → List (List ℕ) → ℕ → List Act → Invoked → Type 0
Settled es cells views sent pieces acts (Violates v p) = Unit {0}
Settled es cells views sent pieces acts (Returns status p) =
    (acts ≡ []) × (status ≡ 1) × (length p.pieces ≡ pieces) × SameState es p.state cells views sent

-- after the event: each wrap is of a word that was sent by then, and the writes are the emits that are owed
abbrev pub Settles : AppTree → ℕ → ℕ → Option ℕ → List ℕ → List EndView → List (List ℕ) → ℕ → Invoked → List Mark → List Act → Type 0
Settles app n m d cells views sent pieces result [] acts = Settled (ends_of app m) cells views sent pieces acts result
Settles app n m d cells views sent pieces result (Wrapped header body own ∷ ms) acts =
    (is_event_header header ≡ true) × (length body ≡ 2) × WasSent app m sent header body × Settles app n m d cells views sent pieces result ms acts
Settles app n m d cells views sent pieces result (Actuated k v ∷ ms) [] = ⊥
Settles app n m d cells views sent pieces result (Actuated k v ∷ ms) (Send output w ∷ acts) = ⊥
Settles app n m d cells views sent pieces result (Actuated k v ∷ ms) (Emit e ∷ acts) =
    (d ≡ Some (device_number app n k)) × (v ≡ e)
    × Settles app n m d cells views (sent_first (ends_of app m) views acts (flowing sent pieces)).sent (sent_first (ends_of app m) views acts (flowing sent pieces)).pieces result ms (from_emit acts)
Settles app n m d cells views sent pieces result (Unwrapped header body own ∷ ms) acts = ⊥
Settles app n m d cells views sent pieces result (Sampled k v ∷ ms) acts = ⊥

abbrev pub idle_with : List ℕ → List EndView → Present
idle_with cells views = record { cells = cells; ends = views; pending = None }

-- what an event comes to in this state, whatever other modules send meanwhile
abbrev pub Reacts : AppTree → ℕ → ℕ → PartTree → ModuleState → SourceEvent → Invoked → List Mark → Type 0
Reacts app n m q st e result ms =
    (views : List EndView) (sent : List (List ℕ)) → SameEnds (ends_of app m) st.ends views sent →
    Settles app n m q.device (after_event q.tree e (flow_of q.tree (ends_of app m) e (idle_with st.cells views) sent) (idle_with st.cells views)).cells views
    (flow_of q.tree (ends_of app m) e (idle_with st.cells views) sent).sent
    (flow_of q.tree (ends_of app m) e (idle_with st.cells views) sent).pieces result ms
    (from_emit (react q.tree e st.cells).acts)

-- the module's sensor, of these devices of its node, is the k-th
pub record OwnSensor (app : AppTree) (n : ℕ) (q : PartTree) (devices : List Window) (k : ℕ) (w : Window) : Type 0 where
  pub device : q.device ≡ Some (device_number app n k)
  pub there : slice_get devices k ≡ Some w
  pub sensor : kind_is is_sensor (slice_get app.devices (device_number app n k)) ≡ true

-- an answer to an ask is one piece
abbrev pub Vouched : ModuleState → Invoked → Type 0
Vouched st (Violates v p) = Unit {0}
Vouched st (Returns status p) = (status ≡ 1) × (length p.pieces ≡ 1) × (p.state ≡ st)

-- no mark came yet, and the source has the module idle in this state
pub data Begun (app : AppTree) (n m : ℕ) (q : PartTree) (devices : List Window) (st : ModuleState) : List Mark → Invoked → Type 0 where
  -- it is refused
  Refuses : {status : ℕ} {p : Progress} → nat_le 2 status ≡ true → nat_le status 8 ≡ true → length p.pieces ≡ 0 → p.state ≡ st
      → (status ≡ 8 → (k : ℕ) × (w : Window) × OwnSensor app n q devices k w × (w.fresh ≡ false)) → Begun app n m q devices st [] (Returns status p)
  Breaks : {v : Violation} {p : Progress} → Begun app n m q devices st [] (Violates v p)
  -- it opens an end that is closed, or open with a lower epoch
  Opens : {p : Progress} (k : ℕ) (e : End) (header key : List ℕ) → is_set_key_header header ≡ true
      → end_found (link_in header) (side_in header) 0 (ends_of app m) ≡ Some (k, e)
      → link_in header < 256 → ((end_of st.ends k).is_open ≡ true → epoch_of (end_of st.ends k).field < epoch_in header)
      → length p.pieces ≡ 0
      → (p.state ≡ record { cells = st.cells; ends = with_end st.ends k (record { is_open = true; field = link_in header + 256 * epoch_in header; number = 0; key = key }) })
      → Begun app n m q devices st (Unwrapped header key true ∷ []) (Returns 1 p)
  -- it vouches for itself
  Vouches : {result : Invoked} (header : List ℕ) → is_ask header ≡ true → Vouched st result
      → Begun app n m q devices st (Wrapped header [] true ∷ []) result
  -- it takes an event
  Takes : {ms : List Mark} {result : Invoked} (k : ℕ) (e : End) (header body : List ℕ) → is_event_header header ≡ true
      → end_found (link_in header) To 0 (ends_of app m) ≡ Some (k, e) → (end_of st.ends k).is_open ≡ true → epoch_of (end_of st.ends k).field ≡ epoch_in header
      → (end_of st.ends k).number ≤ last_in header → last_in header < 65536
      → Reacts app n m q (record {
        cells = st.cells;
        ends = with_end st.ends k (record {
          is_open = (end_of st.ends k).is_open;
          field = (end_of st.ends k).field;
          number = last_in header + 1;
          key = (end_of st.ends k).key;
        });
      })
      (event.Input e.port (value_in body)) result ms
      → Begun app n m q devices st (Unwrapped header body false ∷ ms) result
  -- it reads its sensor
  Samples : {ms : List Mark} {result : Invoked} (k : ℕ) (w : Window) → OwnSensor app n q devices k w → w.fresh ≡ true
      → Reacts app n m q st (event.Sample w.value) result ms
      → Begun app n m q devices st (Sampled k w.value ∷ ms) result

-- The invocation's marks to come and its end are those that the source owes: nothing happened yet, or an event is pending.
pub data Owes (app : AppTree) (n m : ℕ) (q : PartTree) (devices : List Window) (pr : Present) (sent : List (List ℕ)) (ms : List Mark) (result : Invoked) : Type 0 where
  Yet : (st : ModuleState) → pr.pending ≡ None → SameState (ends_of app m) st pr.cells pr.ends sent → Begun app n m q devices st ms result → Owes app n m q devices pr sent ms result
  Now : (acts : List Act) (pieces : ℕ) → pr.pending ≡ Some (record { acts = acts; pieces = pieces }) → OwnActs app m pr.ends acts
      → Settles app n m q.device pr.cells pr.ends sent pieces result ms acts → Owes app n m q devices pr sent ms result

-- A module at its node.

-- a live section is the deployed module
pub record IsModule (n : ℕ) (site : Site) (s : State) (sec : Section) : Type 0 where
  pub lives : Lives s.sections.live sec
  pub here : is_at_site n s.mem sec site ≡ true

-- the module is under way: from here the node comes to what the source owes
pub record IsUnderWay (set : Setting) (n m : ℕ) (q : PartTree) (s : State) (sec : Section) (pr : Present) (sent : List (List ℕ)) : Type 0 where
  pub before : State
  pub bound : ℕ
  pub seen : List Mark
  pub last : Event
  pub rest : List Mark
  pub result : Invoked
  pub comes : Comes Watched Violation (watch set.mac) (λ w. 1) (Underway (setup_at set.mac q.tree (ends_of set.app m) sec before) result before) (Aborted result)
      (Exited (setup_at set.mac q.tree (ends_of set.app m) sec before) result before) bound (record { node = s; marks = seen; event = last })
  pub all : seen ++ rest ≡ marks_in result
  pub owes : Owes set.app n m q s.devices pr sent rest result

pub data ModuleTied (set : Setting) (n m : ℕ) (q : PartTree) (site : Site) (s : State) (x : Standing) (sent : List (List ℕ)) : Type 0 where
  Absent : x.present ≡ None → ((sec : Section) → Lives s.sections.live sec → is_at_site n s.mem sec site ≡ false) → ModuleTied set n m q site s x sent
  Rests : (sec : Section) (pr : Present) → x.present ≡ Some pr → IsModule n site s sec → s.cur ≢ sec.id → pr.pending ≡ None
      → SameState (ends_of set.app m) (state_of q.tree (ends_of set.app m) (private_bytes sec.layout s.mem)) pr.cells pr.ends sent
      → ModuleTied set n m q site s x sent
  Runs : (sec : Section) (pr : Present) → x.present ≡ Some pr → IsModule n site s sec → s.cur ≡ sec.id → IsUnderWay set n m q s sec pr sent
      → ModuleTied set n m q site s x sent

-- the places and kinds of devices
abbrev pub shapes : List Window → List (ℕ × Kind)
shapes ws = Rattle.spec_machine.specs.NodeLaws.shapes ws

-- a node, its boots, and a device
pub record NodeTied (set : Setting) (n : ℕ) (s : State) (boot : ℕ) : Type 0 where
  pub windows : shapes s.devices ≡ windows_at n set.app.devices set.places
  pub node : IsNode s
  pub runner : (s.cur ≡ 0) ⊎ (holder s.sections.live (pc_of s) ≡ s.cur)
  pub count : s.boot ≡ boot

pub record DeviceTied (w : Window) (r : Reading) : Type 0 where
  pub value : r.value ≡ w.value
  pub fresh : r.fresh ≡ w.fresh

-- The deployer and the ledger.

abbrev pub asked_as : Option ℕ → Option (List ℕ)
asked_as None = None
asked_as (Some a) = Some (ask_packet a)

-- a module at the deployer; floors are epochs that the connections had
pub record DeployerTied (x : Standing) (ask : Option (List ℕ)) (attested : Option ℕ) (epochs : List ℕ) : Type 0 where
  pub when_attested : attested ≡ boot_of x.attested
  pub open_ask : ask ≡ asked_as x.asked
  pub floors : (a : Attestation) (c : ℕ) → x.attested ≡ Some a → slice_index a.floors c ≤ slice_index epochs c

abbrev pub HasEnd : List End → End → Type 0
HasEnd [] e = ⊥
HasEnd (x ∷ xs) e = (x ≡ e) ⊎ HasEnd xs e

-- a key for an end of a module, at a boot at which it was attested: since it was last, only with epochs from the floor on
pub record KnownKey (app : AppTree) (mo : Model) (e : Made) : Type 0 where
  pub x : Standing
  pub there : slice_get mo.modules e.target ≡ Some x
  pub a : Attestation
  pub attested : x.attested ≡ Some a
  pub older : e.boot ≤ a.boot
  pub «end» : End
  pub held : HasEnd (ends_of app e.target) «end»
  pub epoch : ℕ
  pub header : e.header ≡ set_key_header «end».link epoch (side_number «end».side)
  pub floor : e.boot ≡ a.boot → slice_index a.floors «end».link ≤ epoch
  pub given : epoch ≤ slice_index mo.epochs «end».link

-- a challenge that was vouched for; a word that was sent
pub record KnownVouch (mo : Model) (m : ℕ) (e : Made) : Type 0 where
  pub x : Standing
  pub there : slice_get mo.modules m ≡ Some x
  pub vouched : is_vouched (challenge_in e.header) e.boot x.vouched ≡ true

abbrev pub Known : AppTree → Model → Maker → Made → Type 0
Known app mo maker.Deployer e = KnownKey app mo e
Known app mo (maker.Module m) e =
    (is_ask e.header ≡ true → KnownVouch mo m e) × (is_event_header e.header ≡ true → WasSent app m mo.sent e.header e.body)

-- What holds of the source's state alone.

-- A module vouched, and was attested, at its node's present boot only where it is present since then. One that has an open end was
-- attested at this boot, and its connection has that epoch or a later one.
pub record IsTimely (es : List End) (x : Standing) (boot : ℕ) (epochs : List ℕ) : Type 0 where
  pub vouched : (a b : ℕ) → is_vouched a b x.vouched ≡ true → (b < boot) ⊎ ((b ≡ boot) × (is_some x.present ≡ true))
  pub attested : (a : Attestation) → x.attested ≡ Some a → (a.boot < boot) ⊎ ((a.boot ≡ boot) × (is_some x.present ≡ true))
  pub opened : (pr : Present) (c : ℕ) (side : Side) (e : ℕ) → x.present ≡ Some pr → open_at c side es pr.ends ≡ Some e
      → (a : Attestation) × (x.attested ≡ Some a) × (a.boot ≡ boot) × (e ≤ slice_index epochs c)

abbrev pub AtLeast : ℕ → Option ℕ → Type 0
AtLeast e None = ⊥
AtLeast e (Some k) = e ≤ k

-- A word was sent over a connection in an epoch. Then its sender can't open its end with this epoch any more: the epoch is below the
-- end's floor; or the sender was last attested at an earlier boot; or the end is open with this epoch or a later one.
abbrev pub HasSent : List End → Standing → ℕ → List ℕ → ℕ → ℕ → Type 0
HasSent es x boot epochs c e =
    (a : Attestation) × (x.attested ≡ Some a) × (e ≤ slice_index epochs c)
    × (((e < slice_index a.floors c) ⊎ (a.boot < boot)) ⊎ ((pr : Present) × (x.present ≡ Some pr) × AtLeast e (open_at c From es pr.ends)))

pub record IsSane (app : AppTree) (mo : Model) : Type 0 where
  pub small : (c : ℕ) → slice_index mo.epochs c ≤ 255
  pub timely : (m : ℕ) (q : PartTree) (x : Standing) (boot : ℕ) → slice_get app.parts m ≡ Some q
      → slice_get mo.modules m ≡ Some x → slice_get mo.boots q.node ≡ Some boot → IsTimely (ends_of app m) x boot mo.epochs
  pub unsent : (f : ℕ) (l : Link) (q : PartTree) (x : Standing) (boot : ℕ) (words : List ℕ) → slice_get app.links (link_of f) ≡ Some l → slice_get app.parts l.from ≡ Some q
      → slice_get mo.modules l.from ≡ Some x → slice_get mo.boots q.node ≡ Some boot → slice_get mo.sent f ≡ Some words
      → (words ≡ []) ⊎ HasSent (ends_of app l.from) x boot mo.epochs (link_of f) (epoch_of f)

-- as many of each as the application has
pub record HasSize (set : Setting) (w : World) (mo : Model) : Type 0 where
  pub nodes : length w.nodes ≡ set.app.nodes
  pub boots : length mo.boots ≡ set.app.nodes
  pub devices : length mo.devices ≡ length set.app.devices
  pub modules : length mo.modules ≡ length set.app.parts
  pub epochs : length mo.epochs ≡ length set.app.links
  pub sent : length mo.sent ≡ FIELDS
  pub asks : length w.deployer.open_asks ≡ length set.app.parts
  pub attested : length w.deployer.attested ≡ length set.app.parts

-- The tie.
pub record Tied (set : Setting) (w : World) (mo : Model) : Type 0 where
  pub size : HasSize set w mo
  pub nodes : (n : ℕ) (s : State) (boot : ℕ) → slice_get w.nodes n ≡ Some s → slice_get mo.boots n ≡ Some boot → NodeTied set n s boot
  pub devices : (n k : ℕ) (s : State) (x : Window) (r : Reading) → slice_get w.nodes n ≡ Some s → slice_get s.devices k ≡ Some x
      → slice_get mo.devices (device_number set.app n k) ≡ Some r → DeviceTied x r
  pub modules : (m : ℕ) (q : PartTree) (site : Site) (s : State) (x : Standing) → slice_get set.app.parts m ≡ Some q → slice_get set.sites m ≡ Some site
      → slice_get w.nodes q.node ≡ Some s → slice_get mo.modules m ≡ Some x → ModuleTied set q.node m q site s x mo.sent
  pub asks : w.deployer.asks ≡ mo.asks
  pub few : w.deployer.asks ≤ w.lines
  pub short : w.lines ≤ 65536
  pub recent : (m : ℕ) (x : Standing) (a : ℕ) → slice_get mo.modules m ≡ Some x → x.asked ≡ Some a → a < mo.asks
  pub deployer : (m : ℕ) (x : Standing) (ask : Option (List ℕ)) (attested : Option ℕ) → slice_get mo.modules m ≡ Some x → slice_get w.deployer.open_asks m ≡ Some ask
      → slice_get w.deployer.attested m ≡ Some attested → DeployerTied x ask attested mo.epochs
  pub epochs : w.deployer.epochs ≡ mo.epochs
  pub ledger : (e : Made) → is_made w.ledger e ≡ true → Known set.app mo e.maker e
  pub sane : IsSane set.app mo
