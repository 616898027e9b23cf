-- A world that agrees with a course of an honest run, and what the set-up does.
use Rattle.std.specs.Prelude.{◌≡◌, ℕ, ◌+◌, true, false, if◌then◌else◌, ◌==◌, List, [], ◌∷◌, ◌++◌, length, map}
use Rattle.std.specs.Prelude.{slice_get, slice_index_or, Some, None, All}
use Rattle.sx_lang.specs.declared.sides.Side.{Side}
use Rattle.sx_lang.specs.declared.sides.Side.TheVariants.{From, To}
use Rattle.sx_mean.specs.declared.events.End.{End}
use Rattle.sx_mean.specs.Application.{PartTree}
use Rattle.sx_mean.specs.Ends.{ends_of}
use Rattle.sx_rules.specs.declared.section.Section.{Section}
use Rattle.sx_rules.specs.Access.{Sections}
use Rattle.sx_ledger.specs.declared.entry.Maker.TheVariants as maker
use Rattle.sx_tag.specs.Wrap.{wrapped}
use Rattle.spec_machine.specs.State.{State}
use Rattle.spec_machine.specs.Node.{IsNode}
use Rattle.spec_machine.specs.NodeLaws.{shapes}
use Rattle.spec_invocation.specs.ModuleState.{EndState, ModuleState, state_of}
use Rattle.spec_invocation.specs.Acts.{event_header}
use Rattle.spec_invocation.specs.Windows.{two}
use Rattle.sx_image.specs.Image.{private_bytes, public_bytes}
use Rattle.spec_run.specs.Setting.{Site, Setting, windows_at}
use Rattle.sx_deployer.specs.Granting.{DeployerState}
use Rattle.spec_run.specs.Deployer.{key_of, list_at, connection_key}
use Rattle.spec_run.specs.Ledger.{NO_TARGET, made_entry, is_made}
use Rattle.spec_run.specs.Observation.{sender_of}
use Rattle.spec_run.specs.State.{World, switched_on}
use Rattle.spec_run.specs.Run.{run}
use Rattle.spec_honest.specs.Course.{Course, count_over, course_start, packets_so_far, setup_items, setup_packets}
use Rattle.spec_honest.specs.Plain.{Waiting}
use Rattle.law_setup.specs.Schedule.{setup_schedule}

-- the sections of a node where the modules of these sites were loaded one after the other, the
-- first under this id
abbrev pub sections_of : Setting → ℕ → ℕ → List Site → List Section
sections_of set n id [] = []
sections_of set n id (site ∷ sites) =
    if site.node == n
    then record { layout = site.layout; provider = site.provider; id = id; key = key_of set site 0 }
    ∷ sections_of set n (id + 1) sites
    else sections_of set n id sites

-- its table of sections
abbrev pub table_of : Setting → ℕ → List Site → Sections
table_of set n sites =
    record { live = sections_of set n 1 sites; next = 1 + length (sections_of set n 1 sites) }

-- the number of an end, where these values were delivered and all of those were sent: how many went over its connection, or were taken
-- from it
abbrev pub number_at : List Waiting → List Waiting → Side → ℕ → ℕ
number_at past all From link = count_over link all
number_at past all To link = count_over link past

-- an end that is open in epoch 0, with the key of its connection
abbrev pub open_end : Setting → List Waiting → List Waiting → End → EndState
open_end set past all e = record {
  is_open = true;
  field = e.link;
  number = number_at past all e.side e.link;
  key = connection_key set e.link 0;
}

-- all that was sent
abbrev pub all_sent : Course → List Waiting
all_sent c = c.past ++ c.plain.waiting

-- the state of the m-th module
abbrev pub module_as : Setting → Course → ℕ → ModuleState
module_as set c m = record {
  cells = slice_index_or c.plain.cells m [];
  ends = map (open_end set c.past (all_sent c)) (ends_of set.app m);
}

-- A node that was never reset, where no module runs and the modules of these sites are loaded; no
-- sensor is fresh.
pub record NodeStands (set : Setting) (n : ℕ) (sites : List Site) (s : State) : Type 0 where
  pub node : IsNode s
  pub idle : s.cur ≡ 0
  pub boot : s.boot ≡ 0
  pub key : s.key ≡ list_at set.keys n
  pub sections : s.sections ≡ table_of set n sites
  pub devices : shapes s.devices ≡ windows_at n set.app.devices set.places
  pub stale : All (λ d. d.fresh ≡ false) s.devices

-- a module's text is in its node's memory, and its private section represents this state
pub record ModuleStands (set : Setting) (m : ℕ) (q : PartTree) (site : Site) (st : ModuleState) (s : State) : Type 0 where
  pub text : public_bytes site.layout s.mem ≡ site.text
  pub state : state_of q.tree (ends_of set.app m) (private_bytes site.layout s.mem) ≡ st

-- the packet of a word over a connection in epoch 0, under this number
abbrev pub event_of : Setting → ℕ → ℕ → ℕ → List ℕ
event_of set link number v =
    let header = event_header (record { is_open = true; field = link; number = number; key = [] }) in
    let w = wrapped set.mac (connection_key set link 0) header (two v) in
    header ++ w.cipher ++ w.tag

-- the packet of this number is a word over a connection, under this number, and its sender made it
pub record IsOnItsWay (set : Setting) (w : World) (packet link number v : ℕ) : Type 0 where
  pub stands : slice_get w.packets packet ≡ Some (event_of set link number v)
  pub made : is_made w.ledger (made_entry (maker.Module (sender_of set.app link)) NO_TARGET 0
      (event_header (record { is_open = true; field = link; number = number; key = [] })) (two v))
      ≡ true

-- the deployer asked each module once and attested it at boot 0, and no ask is open
pub record HasAttested (set : Setting) (d : DeployerState) : Type 0 where
  pub asks : d.asks ≡ length set.app.parts
  pub open_asks : d.open_asks ≡ map (λ p. None) set.app.parts
  pub attested : d.attested ≡ map (λ p. Some 0) set.app.parts
  pub epochs : d.epochs ≡ map (λ l. 0) set.app.links

-- A world that agrees with a course.
pub record Settled (set : Setting) (w : World) (c : Course) : Type 0 where
  pub as_many : length w.nodes ≡ length set.keys
  pub nodes : (n : ℕ) (s : State) → slice_get w.nodes n ≡ Some s → NodeStands set n set.sites s
  pub modules : (m : ℕ) (q : PartTree) (site : Site) (s : State) → slice_get set.app.parts m ≡ Some q
      → slice_get set.sites m ≡ Some site → slice_get w.nodes site.node ≡ Some s
      → ModuleStands set m q site (module_as set c m) s
  pub deployer : HasAttested set w.deployer
  pub packets : length w.packets ≡ packets_so_far set.app c
  pub waiting : (x : Waiting) (before after : List Waiting)
      → c.plain.waiting ≡ before ++ x ∷ after
      → IsOnItsWay set w (setup_packets set.app + length c.past + length before) x.link
      (count_over x.link (c.past ++ before)) x.value

-- From power-on the lines of the set-up show what the source predicts, and lead to a world that is
-- as the course says at its start.
pub record IsSetUp (set : Setting) : Type 0 where
  pub items : (run set (switched_on set) (setup_schedule set.app)).items ≡ setup_items set.app
  pub settled : Settled set (run set (switched_on set) (setup_schedule set.app)).world (course_start set.app)
