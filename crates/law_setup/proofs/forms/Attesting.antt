-- A module that was loaded is asked, answers, and takes its set-key packets.
use Rattle.std.specs.Prelude.{◌≡◌, ℕ, ◌+◌, ◌<◌, true, List, [], ◌∷◌, ◌++◌, length, map, slice_get, Option, Some, None}
use Rattle.sx_rules.specs.declared.section.Section.{Section}
use Rattle.sx_mean.specs.declared.events.End.{End}
use Rattle.sx_mean.specs.Application.{PartTree}
use Rattle.sx_mean.specs.Ends.{ends_of}
use Rattle.sx_trace.specs.declared.items.Item.{Item}
use Rattle.sx_trace.specs.declared.items.Item.TheVariants as item
use Rattle.sx_ledger.specs.declared.entry.Maker.TheVariants as maker
use Rattle.spec_machine.specs.State.{State}
use Rattle.spec_invocation.specs.ModuleState.{ModuleState, initial_ends}
use Rattle.sx_sched.specs.Lines.{Line, Ask, Give, Call, Take, Answer}
use Rattle.spec_run.specs.Setting.{Site, Setting}
use Rattle.sx_wire.specs.Headers.{ask_packet}
use Rattle.sx_deployer.specs.Granting.{DeployerState, Grant, after_ask}
use Rattle.spec_run.specs.Deployer.{after_acceptance, set_key, set_key_entry}
use Rattle.spec_run.proofs.acts.Asking.{expected}
use Rattle.spec_run.specs.Ledger.{Made, NO_TARGET, made_entry, is_made}
use Rattle.spec_run.specs.State.{World}
use Rattle.spec_run.specs.Law.{IsLawfulSetting}
use Rattle.spec_honest.specs.Course.{open_items, packet_items}
use Rattle.law_invocation.specs.Gives.{low_input, low_output}
use Rattle.law_setup.specs.Schedule.{key_lines}
use Rattle.law_setup.proofs.forms.ByLine.{asking_shown, keys_shown}
use Rattle.law_setup.proofs.forms.Served.{IsServed, Moves, Serves}
use Rattle.law_setup.proofs.forms.Acting.{first_end, first_grant}

-- lines were acted for a module, which is then in this state; what they showed, and the packets,
-- the deployer's record and the ledger after them
pub record DoesFor (set : Setting) (w : World) (m : ℕ) (q : PartTree) (site : Site) (sec : Section) (s : State) (st : ModuleState) (lines : List Line)
    (items : List Item) (shown : List (List Item)) (ps : List (List ℕ)) (d : DeployerState) (made : List Made) : Type 0 where
  pub after : State
  pub serves : Serves sec s after
  pub served : IsServed set m q site sec after st
  pub moves : Moves set w lines items shown site.node after ps d made

-- the ask of a module, given and answered: its lines
abbrev pub asking_lines : ℕ → ℕ → ℕ → List Line
asking_lines m n p =
    Ask m ∷ Give p n low_input ∷ Call m 1 low_input low_output ∷ Take n low_output 16
    ∷ Answer m 0 (p + 1) ∷ []

-- and its items
abbrev pub asking_items : ℕ → ℕ → ℕ → ℕ → List Item
asking_items m a p ends =
    item.Ask m a ∷ item.Packet p 18 ∷ item.Vouch m a ∷ item.Done m 1 1 ∷ item.Packet (p + 1) 16
    ∷ item.Attested m 0 ∷ packet_items (p + 2) 38 ends

-- the entry of an ask that a module answered
abbrev pub vouched_entry : ℕ → ℕ → Made
vouched_entry m a = made_entry (maker.Module m) NO_TARGET 0 (ask_packet a) []

-- the grants for ends of the m-th module in these epochs, at boot 0
abbrev pub grants_at : List ℕ → ℕ → List End → List Grant
grants_at epochs m es = Rattle.sx_deployer.specs.Granting.grants_of epochs m 0 es

-- A module that was never attested is asked, answers, and is attested at boot 0.
abbrev pub ModuleAttested : Type 0
ModuleAttested = (set : Setting) (w : World) (m : ℕ) (q : PartTree) (site : Site) (sec : Section) (s : State) (st : ModuleState) (old : Option (List ℕ))
    → IsLawfulSetting set → slice_get w.nodes site.node ≡ Some s → IsServed set m q site sec s st
    → w.deployer.asks < 65536 → slice_get w.deployer.open_asks m ≡ Some old
    → slice_get w.deployer.attested m ≡ Some None
    → let a = w.deployer.asks in
    let p = length w.packets in
    let gs = grants_at w.deployer.epochs m (ends_of set.app m) in
    DoesFor set w m q site sec s st (asking_lines m site.node p)
    (asking_items m a p (length (ends_of set.app m)))
    (asking_shown m a p (length (ends_of set.app m)))
    (w.packets ++ ask_packet a ∷ expected set site 0 (ask_packet a) ∷ map (set_key set site) gs)
    (after_acceptance set.app.links (after_ask w.deployer m) m 0 None)
    (w.ledger ++ vouched_entry m a ∷ map (set_key_entry set) gs)

-- packets from a number on are the set-key packets of ends, and the deployer made them
abbrev pub HaveKeys : Setting → World → ℕ → Site → ℕ → List End → Type 0
HaveKeys set w m site number [] = Unit {0}
HaveKeys set w m site number (e ∷ es) =
    (slice_get w.packets number ≡ Some (set_key set site (first_grant m e)))
    × (is_made w.ledger (set_key_entry set (first_grant m e)) ≡ true)
    × HaveKeys set w m site (number + 1) es

-- A module whose first ends are open takes the set-key packets of the others, one by one.
abbrev pub KeysTaken : Type 0
KeysTaken = (set : Setting) (w : World) (m : ℕ) (q : PartTree) (site : Site) (sec : Section) (s : State) (cells : List ℕ) (number : ℕ) (before es : List End)
    → IsLawfulSetting set → slice_get w.nodes site.node ≡ Some s
    → IsServed set m q site sec s (record { cells = cells; ends = map (first_end set) before ++ initial_ends es })
    → ends_of set.app m ≡ before ++ es → HaveKeys set w m site number es
    → DoesFor set w m q site sec s
    (record { cells = cells; ends = map (first_end set) (before ++ es) })
    (key_lines m site.node number (length es)) (open_items m es) (keys_shown m es) w.packets
    w.deployer w.ledger
