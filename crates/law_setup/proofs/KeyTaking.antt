-- A set-key packet is given and taken.
use Rattle.std.proofs.Common.{◌≡◌, ℕ, ◌+◌, ◌*◌, ◌-◌, ◌<◌, ◌≤◌, inr, true, false, List, [], ◌∷◌, ◌++◌, length, Some, refl, sym, ◌∙◌, ap, subst, arith}
use Rattle.std.specs.Prelude.{slice_get}
use Rattle.std.proofs.lemmas.List.{append-nil, set-set}
use Rattle.sx_mean.specs.declared.events.End.{End}
use Rattle.sx_mean.specs.Application.{PartTree}
use Rattle.sx_mean.specs.Ends.{ends_of}
use Rattle.sx_rules.specs.declared.section.Section.{Section}
use Rattle.sx_rules.specs.declared.section.Layout.{Layout}
use Rattle.sx_rules.specs.Access.{Lives, Sections}
use Rattle.sx_bus.specs.declared.devices.Window.{Window}
use Rattle.sx_bus.specs.Devices.{places_of}
use Rattle.sx_trace.specs.declared.items.Item.TheVariants as item
use Rattle.sx_ledger.specs.declared.entry.Maker.TheVariants as maker
use Rattle.sx_tag.specs.Wrap.{wrapped}
use Rattle.sx_tag.proofs.TagBytes.{all_bytes, kdf_length}
use Rattle.spec_machine.specs.Memory.{bytes_from, put_bytes}
use Rattle.spec_machine.specs.Node.{IsNode}
use Rattle.spec_machine.specs.NodeLaws.{shapes}
use Rattle.spec_machine.specs.State.{State}
use Rattle.spec_machine.proofs.Meanings.{same_bytes}
use Rattle.spec_machine.proofs.Stays.{put_is_node}
use Rattle.spec_machine.proofs.PublicKept.{put_other}
use Rattle.sx_image.specs.Image.{StandsProtected, private_bytes, public_bytes}
use Rattle.spec_invocation.specs.ModuleState.{ModuleState, end_of, state_of, with_end}
use Rattle.spec_invocation.specs.Progress.{Progress}
use Rattle.spec_invocation.specs.Setup.{Call as Asked}
use Rattle.spec_invocation.specs.Entries.{end_found}
use Rattle.sx_sched.specs.Lines.{Give, Call}
use Rattle.spec_run.specs.Setting.{Site, Setting}
use Rattle.sx_wire.specs.Headers.{set_key_header}
use Rattle.sx_deployer.specs.Granting.{side_number}
use Rattle.spec_run.specs.Deployer.{connection_key, set_key, set_key_entry}
use Rattle.spec_run.specs.Ledger.{made_entry, is_made}
use Rattle.spec_run.specs.State.{World, Acted}
use Rattle.spec_run.specs.Acts.{only, then_, with_node}
use Rattle.spec_run.specs.Run.{after_line, call, line_counted, run}
use Rattle.spec_run.specs.Law.{IsLawfulSetting, image_at}
use Rattle.lemmas.proofs.Lists.{get_same}
use Rattle.law_invocation.specs.Gives.{IsLowFree}
use Rattle.law_calls.specs.Calls.{IsCallable, IsReturned, setup_of}
use Rattle.law_calls.specs.Shown.{devices_after}
use Rattle.law_calls.specs.FourCalls.{CallDoes}
use Rattle.law_calls.proofs.Four.{key_called}
use Rattle.law_setup.proofs.forms.ByLine.{keys_shown, shown_by}
use Rattle.law_setup.proofs.forms.Loaded.{StandsHigh}
use Rattle.law_setup.proofs.forms.Served.{IsServed, Serves, callee, state_on}
use Rattle.law_setup.proofs.forms.Acting.{KeyTaken, TakesKey, first_end, first_grant}
use Rattle.law_setup.proofs.Bytes.{bytes_put}
use Rattle.law_setup.proofs.Free.{no_device_low, with_mem}
use Rattle.law_setup.proofs.Packets.{set_key_bytes, set_key_length}
use Rattle.law_setup.proofs.Acting.{packet_given}

-- What is done for a module, one thing after the other.

pub serves_then : (sec : Section) (s t u : State) → Serves sec s t → Serves sec t u → Serves sec s u
serves_then sec s t u a b =
    let still : (x : Section) → Lives s.sections.live x → Lives t.sections.live x = λ x l. subst (λ (z : Sections). Lives z.live x) (sym a.sections) l in
    record {
      node = b.node;
      idle = b.idle;
      boot = b.boot ∙ a.boot;
      key = b.key ∙ a.key;
      sections = b.sections ∙ a.sections;
      devices = b.devices ∙ a.devices;
      texts = λ x l. b.texts x (still x l) ∙ a.texts x l;
      others = λ x l ne. b.others x (still x l) ne ∙ a.others x l ne;
    }

-- bytes below 0x0200 are put
put_keeps_public : (s : State) (at : ℕ) (bytes : List ℕ) (x : Section) → at + length bytes ≤ 512 → 512 ≤ x.layout.pub_from
    → public_bytes x.layout (put_bytes s.mem at bytes) ≡ public_bytes x.layout s.mem
put_keeps_public s at bytes x le high =
    same_bytes s.mem (put_bytes s.mem at bytes) x.layout.pub_from (x.layout.pub_to - x.layout.pub_from) (λ k lo hi. put_other bytes s.mem at k (inr (omega (arith, le, high, lo))))

put_keeps_private : (s : State) (at : ℕ) (bytes : List ℕ) (x : Section) → at + length bytes ≤ 512 → 512 ≤ x.layout.priv_from
    → private_bytes x.layout (put_bytes s.mem at bytes) ≡ private_bytes x.layout s.mem
put_keeps_private s at bytes x le high =
    same_bytes s.mem (put_bytes s.mem at bytes) x.layout.priv_from (x.layout.priv_to - x.layout.priv_from) (λ k lo hi. put_other bytes s.mem at k (inr (omega (arith, le, high, lo))))

pub put_serves : (sec : Section) (s : State) (at : ℕ) (bytes : List ℕ) → at + length bytes ≤ 512 → IsNode s → s.cur ≡ 0 → StandsHigh s → Serves sec s (with_mem s (put_bytes s.mem at bytes))
put_serves sec s at bytes le node idle low = record {
  node = put_is_node s at bytes node;
  idle = idle;
  boot = refl;
  key = refl;
  sections = refl;
  devices = refl;
  texts = λ x l. put_keeps_public s at bytes x le (low.sections x l).0;
  others = λ x l ne. put_keeps_private s at bytes x le (low.sections x l).1;
}

-- a call that touched no device
pub call_serves : (set : Setting) (m : ℕ) (q : PartTree) (site : Site) (sec : Section) (s : State) (asks : Asked) (status : ℕ) (p : Progress) (t : State)
    → IsReturned set (callee m q site sec s) asks status p t → devices_after p.marks s.devices ≡ s.devices → Serves sec s t
call_serves set m q site sec s asks status p t r same = record {
  node = r.node;
  idle = r.idle;
  boot = r.boot;
  key = r.key;
  sections = r.sections;
  devices = r.devices ∙ same;
  texts = r.texts;
  others = r.others;
}

low_after : (s t : State) → t.sections ≡ s.sections → t.devices ≡ s.devices → StandsHigh s → StandsHigh t
low_after s t sections devices low = record {
  sections = λ x l. low.sections x (subst (λ (z : Sections). Lives z.live x) sections l);
  devices = subst (λ (z : List Window). Rattle.std.specs.Prelude.All (λ at. 512 ≤ at) (places_of z)) (sym devices) low.devices;
}

-- the module is there as before, in another state
pub served_after : (set : Setting) (m : ℕ) (q : PartTree) (site : Site) (sec : Section) (s t : State) (st new : ModuleState)
    → IsServed set m q site sec s st → Serves sec s t → StandsProtected (image_at site) sec t → state_on set m q site t ≡ new → IsServed set m q site sec t new
served_after set m q site sec s t st new h v stands state = record {
  part = h.part;
  sited = h.sited;
  node = v.node;
  idle = v.idle;
  boot = v.boot ∙ h.boot;
  stands = stands;
  key = h.key;
  windows = ap shapes v.devices ∙ h.windows;
  low = low_after s t v.sections v.devices h.low;
  state = state;
}

-- it can be called
pub served_callable : (set : Setting) (w : World) (m : ℕ) (q : PartTree) (site : Site) (sec : Section) (s : State) (st : ModuleState)
    → IsServed set m q site sec s st → slice_get w.nodes site.node ≡ Some s → IsCallable set w (callee m q site sec s)
served_callable set w m q site sec s st h there = record { part = h.part; sited = h.sited; there = there; node = h.node; idle = h.idle; stands = h.stands; windows = h.windows }

pub served_low : (set : Setting) (m : ℕ) (q : PartTree) (site : Site) (sec : Section) (s : State) (st : ModuleState)
    → IsServed set m q site sec s st → IsLowFree (setup_of set (callee m q site sec s)) s.devices
served_low set m q site sec s st h = record {
  lives = h.stands.lives;
  sections = h.low.sections;
  free = λ at lt. no_device_low s.devices 0 at h.low.devices lt;
}

-- after bytes were put below 0x0200 it is there as before
pub served_put : (set : Setting) (m : ℕ) (q : PartTree) (site : Site) (sec : Section) (s : State) (st : ModuleState) (at : ℕ) (bytes : List ℕ)
    → IsServed set m q site sec s st → at + length bytes ≤ 512 → IsServed set m q site sec (with_mem s (put_bytes s.mem at bytes)) st
served_put set m q site sec s st at bytes h le =
    let high = h.low.sections sec h.stands.lives in
    let same : sec.layout ≡ site.layout = h.stands.layout in
    let pub_high : 512 ≤ site.layout.pub_from = subst (λ (z : Layout). 512 ≤ z.pub_from) same high.0 in
    let priv_high : 512 ≤ site.layout.priv_from = subst (λ (z : Layout). 512 ≤ z.priv_from) same high.1 in
    let own : Section = record { layout = site.layout; provider = 0; id = 0; key = [] } in
    served_after set m q site sec s (with_mem s (put_bytes s.mem at bytes)) st st h (put_serves sec s at bytes le h.node h.idle h.low)
    (record { lives = h.stands.lives; layout = h.stands.layout; provider = h.stands.provider; text = put_keeps_public s at bytes own le pub_high ∙ h.stands.text })
    (ap (state_of q.tree (ends_of set.app m)) (put_keeps_private s at bytes own le priv_high) ∙ h.state)

module _ (set : Setting) (w : World) (m : ℕ) (q : PartTree) (site : Site) (sec : Section) (s : State) (st : ModuleState) (k j : ℕ) (e : End)
    (sound : IsLawfulSetting set) (there : slice_get w.nodes site.node ≡ Some s) (h : IsServed set m q site sec s st)
    (found : end_found e.link e.side 0 (ends_of set.app m) ≡ Some (j, e)) (lt : e.link < 256)
    (closed : (end_of st.ends j).is_open ≡ false)
    (got : slice_get w.packets k ≡ Some (set_key set site (first_grant m e)))
    (made : is_made w.ledger (set_key_entry set (first_grant m e)) ≡ true) where
  abbrev n : ℕ
  n = site.node

  abbrev bytes : List ℕ
  bytes = set_key set site (first_grant m e)

  abbrev key : List ℕ
  key = connection_key set e.link 0

  abbrev header : List ℕ
  header = set_key_header e.link 0 (side_number e.side)

  size : length bytes ≡ 38
  size = set_key_length set sound.tag site (first_grant m e)

  fits : 0x40 + length bytes ≤ 512
  fits = let z = size in omega (arith, z)

  abbrev s1 : State
  s1 = with_mem s (put_bytes s.mem 0x40 bytes)

  abbrev w0 : World
  w0 = line_counted w

  abbrev w1 : World
  w1 = with_node w0 n s1 w0.ledger w0.steps

  abbrev w2 : World
  w2 = line_counted w1

  served1 : IsServed set m q site sec s1 st
  served1 = served_put set m q site sec s st 0x40 bytes h fits

  here1 : slice_get w2.nodes n ≡ Some s1
  here1 = get_same w.nodes n s1 s there

  gave : after_line set w0 (Give k n 0x40) ≡ record { world = w1; items = [] }
  gave = packet_given set w0 k n 0x40 bytes s got there h.idle h.low fits

  stands_there : bytes_from s1.mem 0x40 38 ≡ bytes
  stands_there =
      ap (bytes_from s1.mem 0x40) (sym size)
      ∙ bytes_put bytes s.mem 0x40 (all_bytes bytes (set_key_bytes set sound.tag site (first_grant m e) lt (omega arith))) (let z = size in let y = h.node.memory.size in omega (arith, z, y))

  abbrev p : Rattle.sx_tag.specs.Wrap.Wrapped
  p = wrapped set.mac sec.key header key

  packet_there : bytes_from s1.mem 0x40 38 ≡ header ++ p.cipher ++ p.tag
  packet_there = stands_there ∙ ap (λ x. let v = wrapped set.mac x header key in header ++ v.cipher ++ v.tag) (sym h.key)

  closed_there : (end_of (state_on set m q site s1).ends j).is_open ≡ false
  closed_there = ap (λ (z : ModuleState). (end_of z.ends j).is_open) served1.state ∙ closed

  made_there : is_made w2.ledger (made_entry maker.Deployer m s1.boot header key) ≡ true
  made_there = ap (λ b. is_made w.ledger (made_entry maker.Deployer m b header key)) h.boot ∙ made

  does : CallDoes set w2 (callee m q site sec s1) 0 (record {
    state = record { cells = (state_on set m q site s1).cells; ends = with_end (state_on set m q site s1).ends j (record { is_open = true; field = e.link + 256 * 0; number = 0; key = key }) };
    marks = Rattle.spec_invocation.specs.Marks.Unwrapped header key true ∷ [];
    pieces = [];
    items = item.Open m e.link e.side 0 ∷ [];
    entries = [];
  })
  does =
      key_called set w2 (callee m q site sec s1) e.link 0 j e.side e key sound (served_callable set w2 m q site sec s1 st served1 here1) (served_low set m q site sec s1 st served1) lt
      (kdf_length set.mac sound.tag set.secret _) found closed_there packet_there made_there

  abbrev u : State
  u = does.after

  abbrev w3 : World
  w3 = with_node w2 n u (w.ledger ++ []) (w.steps + does.steps)

  called_there : after_line set w2 (Call m 0 0x40 0x80) ≡ record { world = w3; items = item.Open m e.link e.side 0 ∷ item.Done m 1 0 ∷ [] }
  called_there = ap (call set w2 0 0x40 0x80) h.sited ∙ does.is

  serves_call : Serves sec s1 u
  serves_call = call_serves set m q site sec s1 _ _ _ u does.returned refl

  serves_all : Serves sec s u
  serves_all = serves_then sec s s1 u (put_serves sec s 0x40 bytes fits h.node h.idle h.low) serves_call

  state_there : state_on set m q site u ≡ record { cells = st.cells; ends = with_end st.ends j (first_end set e) }
  state_there =
      does.returned.state
      ∙ ap (λ (z : ModuleState). record { cells = z.cells; ends = with_end z.ends j (record { is_open = true; field = e.link + 256 * 0; number = 0; key = key }) }) served1.state
      ∙ ap (λ (f : ℕ). record { cells = st.cells; ends = with_end st.ends j (record { is_open = true; field = f; number = 0; key = key }) }) (plus_none e.link)
    where
      plus_none : (a : ℕ) → a + 256 * 0 ≡ a
      plus_none a = omega arith

  pub key_taken_at : TakesKey set w m q site sec s (record { cells = st.cells; ends = with_end st.ends j (first_end set e) })
      (Give k n 0x40 ∷ Call m 0 0x40 0x80 ∷ []) (item.Open m e.link e.side 0 ∷ item.Done m 1 0 ∷ []) (keys_shown m (e ∷ []))
  key_taken_at = record {
    after = u;
    serves = serves_all;
    served = served_after set m q site sec s u st _ h serves_all does.returned.stands state_there;
    moves = record {
      world = w3;
      is =
          ap (λ (a : Acted). then_ a (λ v. run set v (Call m 0 0x40 0x80 ∷ []))) gave
          ∙ ap (λ (a : Acted). then_ a (λ v. only v [])) called_there;
      each =
          ap (λ (a : Acted). a.items ∷ shown_by set a.world (Call m 0 0x40 0x80 ∷ [])) gave
          ∙ ap (λ (a : Acted). [] ∷ a.items ∷ []) called_there;
      nodes = set-set w.nodes n s1 u;
      packets = refl;
      deployer = refl;
      ledger = append-nil w.ledger;
    };
  }

pub key_taken : KeyTaken
key_taken set w m q site sec s st k j e sound there h found lt closed got made = key_taken_at set w m q site sec s st k j e sound there h found lt closed got made
