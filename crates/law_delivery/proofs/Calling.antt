-- A module is called in a settled world, and the packets that it made are taken: the world is settled again.
use Rattle.std.proofs.Common.{◌≡◌, ◌≢◌, ℕ, suc, ◌+◌, ◌≤◌, List, [], ◌∷◌, ◌++◌, length, length-append, Some, slice_get, append_assoc, refl, sym, ◌∙◌, ap, subst, arith}
use Rattle.std.specs.Prelude.{All, slice_set}
use Rattle.std.proofs.lemmas.List.{set-set}
use Rattle.sx_rules.specs.declared.section.Section.{Section}
use Rattle.sx_rules.specs.Access.{Lives, Sections}
use Rattle.sx_mean.specs.Application.{PartTree}
use Rattle.sx_trace.specs.declared.items.Item.{Item}
use Rattle.sx_trace.specs.declared.items.Item.TheVariants as item
use Rattle.sx_ledger.specs.Made.{Made}
use Rattle.sx_tag.specs.Mac.{IsTag}
use Rattle.spec_machine.specs.State.{State}
use Rattle.spec_machine.specs.Node.{IsNode}
use Rattle.spec_machine.specs.NodeLaws.{shapes}
use Rattle.spec_machine.proofs.Devices.{same_places}
use Rattle.sx_image.specs.Image.{private_bytes, public_bytes}
use Rattle.spec_invocation.specs.Windows.{two}
use Rattle.spec_invocation.specs.Acts.{event_header}
use Rattle.sx_tag.specs.Wrap.{wrapped}
use Rattle.sx_tag.proofs.TagBytes.{cipher_length, tag_length}
use Rattle.sx_sched.specs.Lines.{Call}
use Rattle.spec_run.specs.Setting.{Site, Setting}
use Rattle.spec_run.specs.Deployer.{connection_key}
use Rattle.spec_run.specs.State.{World, Acted}
use Rattle.spec_run.specs.Acts.{then_, with_node}
use Rattle.spec_run.specs.Run.{after_line, call, line_counted, run}
use Rattle.spec_run.specs.Law.{IsLawfulSetting}
use Rattle.lemmas.proofs.Lists.{get_same}
use Rattle.law_calls.specs.Shown.{devices_after}
use Rattle.law_calls.specs.FourCalls.{CallDoes, CallEffect}
use Rattle.spec_honest.specs.Plain.{Waiting}
use Rattle.spec_honest.specs.Course.{Course, count_over, packet_items}
use Rattle.law_setup.specs.Laws.{HasRoom}
use Rattle.law_setup.proofs.forms.ByLine.{shown_by}
use Rattle.law_setup.proofs.forms.Loaded.{StandsHigh}
use Rattle.law_setup.proofs.forms.Served.{Serves, callee}
use Rattle.law_setup.proofs.forms.Settled.{Settled, all_sent, event_of, module_as}
use Rattle.law_setup.proofs.Sites.{section_at}
use Rattle.law_delivery.specs.Schedule.{take_lines}
use Rattle.law_delivery.proofs.ByLine.{packets_shown}
use Rattle.law_delivery.proofs.Making.{entries_for, pieces_of}
use Rattle.law_delivery.proofs.Serving.{Follows, Passes, own_section, settles_at}
use Rattle.law_delivery.proofs.Taking.{AreEvents, Takes, takes_all}

-- an event's packet has 24 bytes
pub event_size : (set : Setting) → IsTag set.mac → (link number v : ℕ) → length (event_of set link number v) ≡ 24
event_size set tag link number v =
    let header = event_header (record { is_open = Rattle.std.proofs.Common.true; field = link; number = number; key = [] }) in
    let p = wrapped set.mac (connection_key set link 0) header (two v) in
    let a = length-append p.cipher p.tag in
    let b : length p.cipher ≡ 2 = cipher_length set.mac tag (connection_key set link 0) header (two v) (omega arith) in
    let d : length p.tag ≡ 16 = tag_length set.mac tag (connection_key set link 0) header (two v) in
    let e : length (p.cipher ++ p.tag) ≡ 18 = omega (arith, a, b, d) in
    ap (λ (k : ℕ). suc (suc (suc (suc (suc (suc k)))))) e

are_events : (set : Setting) → IsTag set.mac → (all ys : List Waiting) → AreEvents (pieces_of set all ys)
are_events set tag all [] = tt
are_events set tag all (y ∷ ys) = (event_size set tag y.link (count_over y.link all) y.value, are_events set tag (all ++ y ∷ []) ys)

pieces_long : (set : Setting) (all ys : List Waiting) → length (pieces_of set all ys) ≡ length ys
pieces_long set all [] = refl
pieces_long set all (y ∷ ys) = ap (λ (k : ℕ). suc k) (pieces_long set (all ++ y ∷ []) ys)

-- what is done to a node for the module of a section, where its sensors may get values
pub record Stays (sec : Section) (s t : State) : Type 0 where
  pub node : IsNode t
  pub idle : t.cur ≡ 0
  pub boot : t.boot ≡ s.boot
  pub key : t.key ≡ s.key
  pub sections : t.sections ≡ s.sections
  pub windows : shapes t.devices ≡ shapes s.devices
  pub texts : (x : Section) → Lives s.sections.live x → public_bytes x.layout t.mem ≡ public_bytes x.layout s.mem
  pub others : (x : Section) → Lives s.sections.live x → sec.id ≢ x.id → private_bytes x.layout t.mem ≡ private_bytes x.layout s.mem

pub stays : (sec : Section) (s t : State) → Serves sec s t → Stays sec s t
stays sec s t h = record { node = h.node; idle = h.idle; boot = h.boot; key = h.key; sections = h.sections; windows = ap shapes h.devices; texts = h.texts; others = h.others }

module _ (set : Setting) (sound : IsLawfulSetting set) (room : HasRoom set) (c : Course) (w : World) (settled : Settled set w c)
    (m : ℕ) (q : PartTree) (site : Site) (s : State) (part : slice_get set.app.parts m ≡ Some q) (sited : slice_get set.sites m ≡ Some site) (there : slice_get w.nodes site.node ≡ Some s) where
  abbrev pub sec : Section
  sec = section_at set (own_section set sound room c w settled m site s sited there).0 site

  -- the world before the call, where something was given to the module's node
  pub record Before (s1 : State) (w1 : World) : Type 0 where
    pub stays : Stays (section_at set (own_section set sound room c w settled m site s sited there).0 site) s s1
    pub high : StandsHigh s1
    pub nodes : w1.nodes ≡ slice_set w.nodes site.node s1
    pub packets : w1.packets ≡ w.packets
    pub deployer : w1.deployer ≡ w.deployer
    pub ledger : w1.ledger ≡ w.ledger

  -- the call, which makes the packets of these values and leaves the module as the course says
  pub record Makes (s1 : State) (w1 : World) (e : ℕ) (effect : CallEffect) (c1 : Course) (ys : List Waiting) : Type 0 where
    pub does : CallDoes set (line_counted w1) (callee m q site (section_at set (own_section set sound room c w settled m site s sited there).0 site) s1) e effect
    pub pieces : effect.pieces ≡ pieces_of set (all_sent c) ys
    pub entries : effect.entries ≡ entries_for m (all_sent c) ys
    pub state : effect.state ≡ module_as set c1 m
    pub stale : All (λ d. d.fresh ≡ Rattle.std.proofs.Common.false) (devices_after effect.marks s1.devices)
    pub few : length ys ≤ 16

  -- the world after the call and the takes
  pub record CalledThere (w1 : World) (e : ℕ) (items : List Item) (c1 : Course) (ys : List Waiting) : Type 0 where
    pub world : World
    pub is : run set w1 (Call m e 0x40 0x80 ∷ take_lines site.node 0x80 (length ys))
        ≡ record { world = world; items = items ++ item.Done m 1 (length ys) ∷ packet_items (length w.packets) 24 (length ys) }
    pub each : shown_by set w1 (Call m e 0x40 0x80 ∷ take_lines site.node 0x80 (length ys)) ≡ (items ++ item.Done m 1 (length ys) ∷ []) ∷ packets_shown (length w.packets) (length ys)
    pub is_settled : Settled set world c1

  module _ (s1 : State) (w1 : World) (before : Before s1 w1) (e : ℕ) (effect : CallEffect) (c1 : Course) (rest ys : List Waiting)
      (makes : Makes s1 w1 e effect c1 ys) (follows : Follows set sound room c w settled m c1 rest ys) where
    abbrev n : ℕ
    n = site.node

    abbrev w2 : World
    w2 = line_counted w1

    abbrev does : CallDoes set w2 (callee m q site sec s1) e effect
    does = makes.does

    abbrev u : State
    u = does.after

    abbrev w3 : World
    w3 = with_node w2 n u (w1.ledger ++ effect.entries) (w1.steps + does.steps)

    abbrev k : ℕ
    k = length effect.pieces

    long : k ≡ length ys
    long = ap (λ (ps : List (List ℕ)). length ps) makes.pieces ∙ pieces_long set (all_sent c) ys

    call_is : after_line set w2 (Call m e 0x40 0x80) ≡ record { world = w3; items = effect.items ++ item.Done m 1 k ∷ [] }
    call_is = ap (call set w2 e 0x40 0x80) sited ∙ does.is

    there3 : slice_get w3.nodes n ≡ Some u
    there3 = get_same w1.nodes n u s1 (ap (λ (ns : List State). slice_get ns n) before.nodes ∙ get_same w.nodes n s1 s there)

    high3 : StandsHigh u
    high3 = record {
      sections = λ x l. before.high.sections x (subst (λ (z : Sections). Lives z.live x) does.returned.sections l);
      devices = subst (λ ps. All (λ at. 512 ≤ at) ps)
          (same_places s1.devices u.devices (sym does.returned.windows)) before.high.devices;
    }

    takes : Takes set w3 (take_lines n 0x80 k) (packet_items (length w3.packets) 24 k) effect.pieces
    takes =
        takes_all set effect.pieces w3 n 0x80 u there3 does.returned.idle high3 (let l = long in let f = makes.few in omega (arith, l, f))
        (subst (λ ps. AreEvents ps) (sym makes.pieces) (are_events set sound.tag (all_sent c) ys)) does.returned.pieces

    run_is : run set w1 (Call m e 0x40 0x80 ∷ take_lines n 0x80 k)
        ≡ record { world = takes.world; items = (effect.items ++ item.Done m 1 k ∷ []) ++ packet_items (length w.packets) 24 k }
    run_is =
        ap (λ (a : Acted). then_ a (λ v. run set v (take_lines n 0x80 k))) call_is
        ∙ ap (λ (a : Acted). record { world = a.world; items = (effect.items ++ item.Done m 1 k ∷ []) ++ a.items }) takes.is
        ∙ ap (λ (ps : List (List ℕ)). record { world = takes.world; items = (effect.items ++ item.Done m 1 k ∷ []) ++ packet_items (length ps) 24 k }) before.packets

    joined : run set w1 (Call m e 0x40 0x80 ∷ take_lines n 0x80 k) ≡ record { world = takes.world; items = effect.items ++ item.Done m 1 k ∷ packet_items (length w.packets) 24 k }
    joined = run_is ∙ ap (λ (is : List Item). record { world = takes.world; items = is }) (append_assoc effect.items (item.Done m 1 k ∷ []) (packet_items (length w.packets) 24 k))

    each_is : shown_by set w1 (Call m e 0x40 0x80 ∷ take_lines n 0x80 k) ≡ (effect.items ++ item.Done m 1 k ∷ []) ∷ packets_shown (length w.packets) k
    each_is =
        ap (λ (a : Acted). a.items ∷ shown_by set a.world (take_lines n 0x80 k)) call_is
        ∙ ap (λ (zs : List (List Item)). (effect.items ++ item.Done m 1 k ∷ []) ∷ zs) (takes.each ∙ ap (λ (ps : List (List ℕ)). packets_shown (length ps) k) before.packets)

    passes : Passes set sound room c w settled m q site sec s u c1 takes.world rest ys
    passes =
        let still : (x : Section) → Lives s.sections.live x → Lives s1.sections.live x = λ x l. subst (λ (z : Sections). Lives z.live x) (sym before.stays.sections) l in
        record {
          part = part;
          sited = sited;
          there = there;
          lives = (own_section set sound room c w settled m site s sited there).1;
          layout = refl;
          node = does.returned.node;
          idle = does.returned.idle;
          boot = does.returned.boot ∙ before.stays.boot;
          key = does.returned.key ∙ before.stays.key;
          sections = does.returned.sections ∙ before.stays.sections;
          windows = does.returned.windows ∙ before.stays.windows;
          stale = subst (λ ds. All (λ d. d.fresh ≡ Rattle.std.proofs.Common.false) ds) (sym does.returned.devices) makes.stale;
          texts = λ x l. does.returned.texts x (still x l) ∙ before.stays.texts x l;
          others = λ x l ne. does.returned.others x (still x l) ne ∙ before.stays.others x l ne;
          state = does.returned.state ∙ makes.state;
          nodes = takes.nodes ∙ ap (λ (ns : List State). slice_set ns n u) before.nodes ∙ set-set w.nodes n s1 u;
          packets = takes.packets ∙ ap (λ (ps : List (List ℕ)). w1.packets ++ ps) makes.pieces ∙ ap (λ (zs : List (List ℕ)). zs ++ pieces_of set (all_sent c) ys) before.packets;
          deployer = takes.deployer ∙ before.deployer;
          ledger = takes.ledger ∙ ap (λ (es : List Made). w1.ledger ++ es) makes.entries ∙ ap (λ (zs : List Made). zs ++ entries_for m (all_sent c) ys) before.ledger;
          follows = follows;
          pieces = pieces_long set (all_sent c) ys;
        }

    pub called_there : CalledThere w1 e effect.items c1 ys
    called_there = record {
      world = takes.world;
      is = subst (λ (j : ℕ). run set w1 (Call m e 0x40 0x80 ∷ take_lines n 0x80 j)
          ≡ record { world = takes.world; items = effect.items ++ item.Done m 1 j ∷ packet_items (length w.packets) 24 j }) long joined;
      each = subst (λ (j : ℕ). shown_by set w1 (Call m e 0x40 0x80 ∷ take_lines n 0x80 j) ≡ (effect.items ++ item.Done m 1 j ∷ []) ∷ packets_shown (length w.packets) j) long each_is;
      is_settled = settles_at set sound room c w settled m q site sec s u c1 takes.world rest ys passes;
    }
