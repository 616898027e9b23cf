-- What the lines of the set-up do, one by one.
use Rattle.std.specs.Prelude.{◌≡◌, ℕ, ◌+◌, ◌<◌, ◌≤◌, true, false, List, [], ◌∷◌, ◌++◌, length, map, slice_get, Some, None}
use Rattle.sx_rules.specs.declared.section.Section.{Section}
use Rattle.sx_mean.specs.declared.events.End.{End}
use Rattle.sx_mean.specs.Application.{PartTree}
use Rattle.sx_mean.specs.Ends.{ends_of}
use Rattle.sx_trace.specs.declared.items.Item.{Item}
use Rattle.sx_trace.specs.declared.items.Item.TheVariants as item
use Rattle.sx_ledger.specs.declared.entry.Maker.TheVariants as maker
use Rattle.spec_machine.specs.Memory.{bytes_from, put_bytes}
use Rattle.spec_machine.specs.State.{State}
use Rattle.spec_invocation.specs.ModuleState.{EndState, ModuleState, end_of, with_end}
use Rattle.spec_invocation.specs.Entries.{end_found}
use Rattle.sx_sched.specs.Lines.{Line, Give, Call, Take, Answer}
use Rattle.spec_run.specs.Setting.{Site, Setting}
use Rattle.sx_deployer.specs.Granting.{Grant, grants_of}
use Rattle.spec_run.specs.Deployer.{after_acceptance, connection_key, set_key, set_key_entry}
use Rattle.spec_run.proofs.acts.Asking.{expected}
use Rattle.spec_run.specs.Ledger.{NO_TARGET, made_entry, is_made}
use Rattle.spec_run.specs.State.{World}
use Rattle.spec_run.specs.Acts.{with_node, new_packet}
use Rattle.spec_run.specs.Run.{after_line}
use Rattle.spec_run.specs.Law.{IsLawfulSetting}
use Rattle.spec_honest.specs.Course.{packet_items}
use Rattle.law_invocation.specs.Gives.{low_input, low_output}
use Rattle.law_setup.proofs.forms.ByLine.{keys_shown}
use Rattle.law_setup.proofs.forms.Loaded.{StandsHigh}
use Rattle.law_setup.proofs.forms.Served.{IsServed, Moves, Serves}

-- a packet is put below 0x0200
abbrev pub PacketGiven : Type 0
PacketGiven = (set : Setting) (w : World) (k n at : ℕ) (bytes : List ℕ) (s : State)
    → slice_get w.packets k ≡ Some bytes → slice_get w.nodes n ≡ Some s → s.cur ≡ 0 → StandsHigh s
    → at + length bytes ≤ 512
    → after_line set w (Give k n at)
    ≡ record { world = with_node w n (record s { mem = put_bytes s.mem at bytes }) w.ledger w.steps; items = [] }

-- bytes below 0x0200 become a packet
abbrev pub PieceTaken : Type 0
PieceTaken = (set : Setting) (w : World) (n at len : ℕ) (s : State)
    → slice_get w.nodes n ≡ Some s → s.cur ≡ 0 → StandsHigh s → at + len ≤ 512
    → after_line set w (Take n at len) ≡ new_packet w (bytes_from s.mem at len)

-- the world with set-key packets for grants of the module of a site, and their entries
abbrev pub with_keys : Setting → Site → World → List Grant → World
with_keys set site w gs = record {
  nodes = w.nodes;
  packets = w.packets ++ map (set_key set site) gs;
  deployer = w.deployer;
  ledger = w.ledger ++ map (set_key_entry set) gs;
  lines = w.lines;
  steps = w.steps;
}

-- a right answer at boot 0 to the open ask of a module that was never attested: the set-key packets
-- of its ends follow
abbrev pub AnswerAccepted : Type 0
AnswerAccepted = (set : Setting) (w : World) (m k : ℕ) (site : Site) (ask answer : List ℕ)
    → IsLawfulSetting set → slice_get set.sites m ≡ Some site → slice_get w.packets k ≡ Some answer
    → slice_get w.deployer.open_asks m ≡ Some (Some ask)
    → slice_get w.deployer.attested m ≡ Some None → answer ≡ expected set site 0 ask
    → is_made w.ledger (made_entry (maker.Module m) NO_TARGET 0 ask []) ≡ true
    → after_line set w (Answer m 0 k)
    ≡ (let d = after_acceptance set.app.links w.deployer m 0 None in
    let gs = grants_of w.deployer.epochs m 0 (ends_of set.app m) in
    record {
      world = with_keys set site (record w { deployer = d }) gs;
      items = item.Attested m 0 ∷ packet_items (length w.packets) 38 (length (ends_of set.app m));
    })

-- the first grant for an end of the m-th module
abbrev pub first_grant : ℕ → End → Grant
first_grant m e = record { holder = m; boot = 0; «end» = e; epoch = 0 }

-- the end that it opens
abbrev pub first_end : Setting → End → EndState
first_end set e =
    record { is_open = true; field = e.link; number = 0; key = connection_key set e.link 0 }

-- a module took a set-key packet
pub record TakesKey (set : Setting) (w : World) (m : ℕ) (q : PartTree) (site : Site) (sec : Section) (s : State) (st : ModuleState) (lines : List Line)
    (items : List Item) (shown : List (List Item)) : Type 0 where
  pub after : State
  pub serves : Serves sec s after
  pub served : IsServed set m q site sec after st
  pub moves : Moves set w lines items shown site.node after w.packets w.deployer w.ledger

-- a set-key packet for a closed end is given and taken: the end opens
abbrev pub KeyTaken : Type 0
KeyTaken = (set : Setting) (w : World) (m : ℕ) (q : PartTree) (site : Site) (sec : Section) (s : State) (st : ModuleState) (k j : ℕ) (e : End)
    → IsLawfulSetting set → slice_get w.nodes site.node ≡ Some s → IsServed set m q site sec s st
    → end_found e.link e.side 0 (ends_of set.app m) ≡ Some (j, e) → e.link < 256
    → (end_of st.ends j).is_open ≡ false
    → slice_get w.packets k ≡ Some (set_key set site (first_grant m e))
    → is_made w.ledger (set_key_entry set (first_grant m e)) ≡ true
    → TakesKey set w m q site sec s
    (record { cells = st.cells; ends = with_end st.ends j (first_end set e) })
    (Give k site.node low_input ∷ Call m 0 low_input low_output ∷ [])
    (item.Open m e.link e.side 0 ∷ item.Done m 1 0 ∷ []) (keys_shown m (e ∷ []))
