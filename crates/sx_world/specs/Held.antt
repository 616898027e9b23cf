-- The program's world, which world of a run it shows, and what a call makes of both.
use Rattle.std.specs.Prelude.{◌≡◌, ℕ, ◌+◌, Bool, List, [], ◌∷◌, ◌++◌, length, map, take}
use Rattle.std.specs.Prelude.{slice_get, Some, Result, Ok, Err}
use Rattle.sx_rules.specs.Placed.{Placed}
use Rattle.sx_tag.specs.Keys.{identity}
use Rattle.sx_mean.specs.Ends.{ends_of}
use Rattle.sx_trace.specs.declared.items.Item.{Item}
use Rattle.sx_ledger.specs.declared.entry.Entry.{Entry}
use Rattle.spec_machine.specs.State.{State}
use Rattle.sx_deployer.specs.Keeping.{Keeping, Known}
use Rattle.spec_run.specs.Setting.{Site, Setting}
use Rattle.sx_deployer.specs.Granting.{DeployerState}
use Rattle.spec_run.specs.Deployer.{list_at}
use Rattle.spec_run.specs.State.{World, Acted}
use Rattle.sx_observe.specs.declared.recognized.Recognized.{Recognized}
use Rattle.sx_observe.specs.Recognized.{AreRecognized}
use Rattle.sx_observe.specs.Observing.{Records, AddsFront}

-- what the program keeps of a run but its sites; the ledger is a set, and sections that were
-- recognized as modules are kept so that their texts aren't compared again
pub record Running : Type 0 where
  pub nodes : List State
  pub packets : List (List ℕ)
  pub deployer : Keeping
  pub ledger : List Entry
  pub recognized : List Recognized
  pub steps : ℕ

-- the program's world: where modules are deployed, the state of the run, the number of lines, whether
-- an act has run out of memory, and how many items the list held when the last act ended
pub record Held : Type 0 where
  pub sites : List Site
  pub running : Running
  pub performed : ℕ
  pub ran_out : Bool
  pub made : ℕ

-- the m-th module, at a site, as the deployer knows it
abbrev pub known_as : Setting → ℕ → Site → Known
known_as set m site = record {
  node_key = list_at set.keys site.node;
  provider = site.provider;
  identity = identity site.text site.layout.pub_from site.layout.pub_to site.layout.priv_from
      site.layout.priv_to;
  ends = ends_of set.app m;
}

-- the modules from the m-th on
abbrev pub targets_from : Setting → ℕ → List Site → List Known
targets_from set m [] = []
targets_from set m (site ∷ sites) = known_as set m site ∷ targets_from set (m + 1) sites

-- the deployer keeps the secret and the modules of the setting; it has room for 32 modules and 64
-- connections, of which the first are those of the application
pub record IsKept (set : Setting) (k : Keeping) (d : DeployerState) : Type 0 where
  pub secret : k.secret ≡ set.secret
  pub targets : k.targets ≡ targets_from set 0 set.sites
  pub asks : k.state.asks ≡ d.asks
  pub open_asks : take (length set.app.parts) k.state.open_asks ≡ d.open_asks
  pub attested : take (length set.app.parts) k.state.attested ≡ d.attested
  pub epochs : take (length set.app.links) k.state.epochs ≡ d.epochs

-- how many resets each node has had
abbrev pub boots_of : List State → List ℕ
boots_of nodes = map (λ s. s.boot) nodes

-- the sections of each node are placed
abbrev pub ArePlaced : List State → Type 0
ArePlaced nodes = (n : ℕ) (s : State) → slice_get nodes n ≡ Some s → Placed s.sections

-- the sections of each node are placed, and those that were recognized are the modules
abbrev pub Recognizes : List Site → Running → Type 0
Recognizes sites kept = ArePlaced kept.nodes × AreRecognized sites kept.nodes kept.recognized

-- what the program keeps shows this world of a run
pub record Shows (set : Setting) (kept : Running) (w : World) : Type 0 where
  pub nodes : kept.nodes ≡ w.nodes
  pub packets : kept.packets ≡ w.packets
  pub deployer : IsKept set kept.deployer w.deployer
  pub ledger : Records kept.ledger w.ledger
  pub steps : kept.steps ≡ w.steps
  pub placed : ArePlaced w.nodes
  pub recognized : AreRecognized set.sites w.nodes kept.recognized

-- An act was done: what is kept after it shows what the act leaves, and its items were added.
abbrev pub Did : Setting → Running → Running → List Item → List Item → (World → Acted) → Type 0
Did set old new before after act =
    (w : World) → Shows set old w → Shows set new (act w).world × (after ≡ before ++ (act w).items)

-- Memory ran out: the items that were there before stay, and a prefix of the act's items was added.
abbrev pub Wanted : Setting → Running → List Item → List Item → (World → Acted) → Type 0
Wanted set old before after act =
    (w : World) → Shows set old w → AddsFront before after (act w).items

-- a call did this act, or ran out of memory
abbrev pub DoesAct : {X E : Type 0} → Setting → Result X E → Running → Running → List Item
    → List Item → (World → Acted) → Type 0
DoesAct set (Ok x) old new before after act = Did set old new before after act
DoesAct set (Err e) old new before after act = Wanted set old before after act
