-- A module that was loaded is asked and answers.
use Rattle.std.proofs.Common.{◌≡◌, ℕ, ◌+◌, ◌<◌, ◌≤◌, true, List, [], ◌∷◌, ◌++◌, length, length-append, map, Option, Some, None, refl, sym, ◌∙◌, ap, subst, arith}
use Rattle.std.specs.Prelude.{slice_get}
use Rattle.std.proofs.lemmas.List.{set-set}
use Rattle.sx_rules.specs.declared.section.Section.{Section}
use Rattle.sx_mean.specs.Application.{PartTree}
use Rattle.sx_mean.specs.Ends.{ends_of}
use Rattle.sx_trace.specs.declared.items.Item.{Item}
use Rattle.sx_trace.specs.declared.items.Item.TheVariants as item
use Rattle.sx_ledger.specs.declared.entry.Maker.TheVariants as maker
use Rattle.sx_tag.specs.Wrap.{wrapped}
use Rattle.sx_tag.proofs.TagBytes.{all_bytes, tag_length}
use Rattle.spec_machine.specs.Memory.{bytes_from, put_bytes}
use Rattle.spec_machine.specs.State.{State}
use Rattle.spec_invocation.specs.ModuleState.{ModuleState}
use Rattle.sx_sched.specs.Lines.{Ask, Give, Call, Take, Answer}
use Rattle.spec_run.specs.Setting.{Site, Setting}
use Rattle.sx_wire.specs.Headers.{ask_packet, is_ask, challenge_in}
use Rattle.sx_deployer.specs.Granting.{Grant, DeployerState, after_ask}
use Rattle.spec_run.specs.Deployer.{after_acceptance, set_key, set_key_entry}
use Rattle.spec_run.proofs.acts.Asking.{expected}
use Rattle.spec_run.specs.Ledger.{NO_TARGET, made_entry}
use Rattle.spec_run.specs.State.{World, Acted}
use Rattle.spec_run.specs.Acts.{then_, with_node, new_packet}
use Rattle.spec_run.specs.Run.{after_line, call, line_counted, run}
use Rattle.spec_run.specs.Law.{IsLawfulSetting}
use Rattle.spec_run.proofs.tie.Lists.{get_end}
use Rattle.lemmas.proofs.Lists.{get_same}
use Rattle.sx_wire.proofs.Numbers.{challenge_same}
use Rattle.spec_run.proofs.tie.Entries.{made_in}
use Rattle.spec_honest.specs.Course.{packet_items}
use Rattle.law_calls.specs.FourCalls.{CallDoes}
use Rattle.law_calls.proofs.Four.{attest_called}
use Rattle.law_setup.proofs.forms.ByLine.{asking_shown, shown_by}
use Rattle.law_setup.proofs.forms.Served.{IsServed, Serves, callee, state_on}
use Rattle.law_setup.proofs.forms.Acting.{with_keys}
use Rattle.law_setup.proofs.forms.Attesting.{DoesFor, ModuleAttested, asking_items, asking_lines, grants_at, vouched_entry}
use Rattle.law_setup.proofs.Bytes.{bytes_put}
use Rattle.law_setup.proofs.Free.{with_mem}
use Rattle.law_setup.proofs.Packets.{ask_bytes}
use Rattle.law_setup.proofs.Acting.{packet_given, piece_taken}
use Rattle.law_setup.proofs.Answering.{answer_accepted, append_more}
use Rattle.law_setup.proofs.KeyTaking.{call_serves, put_serves, served_after, served_callable, served_low, served_put, serves_then}

ask_size : (a : ℕ) → length (ask_packet a) ≡ 18
ask_size a = refl

ask_is : (a : ℕ) → is_ask (ask_packet a) ≡ true
ask_is a = refl

module _ (set : Setting) (w : World) (m : ℕ) (q : PartTree) (site : Site) (sec : Section) (s : State) (st : ModuleState) (old : Option (List ℕ))
    (sound : IsLawfulSetting set) (there : slice_get w.nodes site.node ≡ Some s) (h : IsServed set m q site sec s st)
    (small : w.deployer.asks < 65536) (asked : slice_get w.deployer.open_asks m ≡ Some old) (fresh : slice_get w.deployer.attested m ≡ Some None) where
  abbrev n : ℕ
  n = site.node

  abbrev a : ℕ
  a = w.deployer.asks

  abbrev p : ℕ
  p = length w.packets

  abbrev ask : List ℕ
  ask = ask_packet a

  abbrev tag : List ℕ
  tag = expected set site 0 ask

  abbrev gs : List Grant
  gs = grants_at w.deployer.epochs m (ends_of set.app m)

  abbrev d1 : DeployerState
  d1 = after_ask w.deployer m

  -- the ask
  abbrev v1 : World
  v1 = record { nodes = w.nodes; packets = w.packets ++ ask ∷ []; deployer = d1; ledger = w.ledger; lines = w.lines + 1; steps = w.steps }

  abbrev w1 : World
  w1 = line_counted v1

  asks_it : after_line set (line_counted w) (Ask m) ≡ record { world = v1; items = item.Ask m a ∷ item.Packet p 18 ∷ [] }
  asks_it = ap (λ k. record { world = v1; items = item.Ask m a ∷ item.Packet p k ∷ [] }) (ask_size a)

  -- it is given
  fits : 0x40 + length ask ≤ 512
  fits = let z = ask_size a in omega (arith, z)

  abbrev s1 : State
  s1 = with_mem s (put_bytes s.mem 0x40 ask)

  abbrev v2 : World
  v2 = with_node w1 n s1 w.ledger w.steps

  abbrev w2 : World
  w2 = line_counted v2

  gave : after_line set w1 (Give p n 0x40) ≡ record { world = v2; items = [] }
  gave = packet_given set w1 p n 0x40 ask s (get_end w.packets ask) there h.idle h.low fits

  served1 : IsServed set m q site sec s1 st
  served1 = served_put set m q site sec s st 0x40 ask h fits

  here1 : slice_get w2.nodes n ≡ Some s1
  here1 = get_same w.nodes n s1 s there

  -- the call
  stands_there : bytes_from s1.mem 0x40 18 ≡ ask
  stands_there =
      ap (bytes_from s1.mem 0x40) (sym (ask_size a))
      ∙ bytes_put ask s.mem 0x40 (all_bytes ask (ask_bytes a)) (let z = ask_size a in let y = h.node.memory.size in omega (arith, z, y))

  does : CallDoes set w2 (callee m q site sec s1) 1 (record {
    state = state_on set m q site s1;
    marks = Rattle.spec_invocation.specs.Marks.Wrapped ask [] true ∷ [];
    pieces = (wrapped set.mac sec.key ask []).tag ∷ [];
    items = item.Vouch m (challenge_in ask) ∷ [];
    entries = made_entry (maker.Module m) NO_TARGET s1.boot ask [] ∷ [];
  })
  does = attest_called set w2 (callee m q site sec s1) ask sound.sound (served_callable set w2 m q site sec s1 st served1 here1) (served_low set m q site sec s1 st served1) stands_there (ask_is a)

  abbrev u : State
  u = does.after

  abbrev v3 : World
  v3 = with_node w2 n u (w.ledger ++ vouched_entry m a ∷ []) (w.steps + does.steps)

  abbrev w3 : World
  w3 = line_counted v3

  calls_it : after_line set w2 (Call m 1 0x40 0x80) ≡ record { world = v3; items = item.Vouch m a ∷ item.Done m 1 1 ∷ [] }
  calls_it =
      ap (call set w2 1 0x40 0x80) h.sited ∙ does.is
      ∙ ap (λ c. record { world = with_node w2 n u (w.ledger ++ made_entry (maker.Module m) NO_TARGET s1.boot ask [] ∷ []) (w.steps + does.steps); items = item.Vouch m c ∷ item.Done m 1 1 ∷ [] })
      (challenge_same a (omega (arith, small)))
      ∙ ap (λ b. record { world = with_node w2 n u (w.ledger ++ made_entry (maker.Module m) NO_TARGET b ask [] ∷ []) (w.steps + does.steps); items = item.Vouch m a ∷ item.Done m 1 1 ∷ [] }) h.boot

  serves_all : Serves sec s u
  serves_all =
      serves_then sec s s1 u (put_serves sec s 0x40 ask fits h.node h.idle h.low) (call_serves set m q site sec s1 _ _ _ u does.returned refl)

  served2 : IsServed set m q site sec u st
  served2 = served_after set m q site sec s u st st h serves_all does.returned.stands (does.returned.state ∙ served1.state)

  here2 : slice_get w3.nodes n ≡ Some u
  here2 = get_same w2.nodes n u s1 here1

  -- the tag
  same_tag : (wrapped set.mac sec.key ask []).tag ≡ tag
  same_tag = ap (λ x. (wrapped set.mac x ask []).tag) h.key

  tag_size : length tag ≡ 16
  tag_size = tag_length set.mac sound.tag (Rattle.spec_run.specs.Deployer.key_of set site 0) ask []

  tag_there : bytes_from u.mem 0x80 16 ≡ tag
  tag_there =
      ap (bytes_from u.mem 0x80) (sym tag_size) ∙ ap (λ x. bytes_from u.mem 0x80 (length x)) (sym same_tag) ∙ does.returned.pieces.0 ∙ same_tag

  abbrev v4 : World
  v4 = record { nodes = w3.nodes; packets = (w.packets ++ ask ∷ []) ++ tag ∷ []; deployer = d1; ledger = w.ledger ++ vouched_entry m a ∷ []; lines = w3.lines; steps = w3.steps }

  abbrev w4 : World
  w4 = line_counted v4

  second : length (w.packets ++ ask ∷ []) ≡ p + 1
  second = length-append w.packets (ask ∷ [])

  takes_it : after_line set w3 (Take n 0x80 16) ≡ record { world = v4; items = item.Packet (p + 1) 16 ∷ [] }
  takes_it =
      piece_taken set w3 n 0x80 16 u here2 served2.idle served2.low (omega arith)
      ∙ ap (new_packet w3) tag_there
      ∙ ap (λ k. record { world = v4; items = item.Packet k (length tag) ∷ [] }) second
      ∙ ap (λ k. record { world = v4; items = item.Packet (p + 1) k ∷ [] }) tag_size

  -- the answer
  got_tag : slice_get w4.packets (p + 1) ≡ Some tag
  got_tag = subst (λ k. slice_get ((w.packets ++ ask ∷ []) ++ tag ∷ []) k ≡ Some tag) second (get_end (w.packets ++ ask ∷ []) tag)

  third : length w4.packets ≡ p + 2
  third = let x = length-append (w.packets ++ ask ∷ []) (tag ∷ []) in let y = second in omega (arith, x, y)

  abbrev d2 : DeployerState
  d2 = after_acceptance set.app.links d1 m 0 None

  abbrev v5 : World
  v5 = with_keys set site (record w4 { deployer = d2 }) gs

  answers_it : after_line set w4 (Answer m 0 (p + 1)) ≡ record { world = v5; items = item.Attested m 0 ∷ packet_items (p + 2) 38 (length (ends_of set.app m)) }
  answers_it =
      answer_accepted set w4 m (p + 1) site ask tag sound h.sited got_tag (get_same w.deployer.open_asks m (Some ask) old asked) fresh refl (made_in w.ledger [] (vouched_entry m a))
      ∙ ap (λ k. record { world = v5; items = item.Attested m 0 ∷ packet_items k 38 (length (ends_of set.app m)) }) third

  -- what each line shows
  abbrev asked_now : List Item
  asked_now = item.Ask m a ∷ item.Packet p 18 ∷ []

  abbrev vouched : List Item
  vouched = item.Vouch m a ∷ item.Done m 1 1 ∷ []

  asking_each : shown_by set w (asking_lines m n p) ≡ asking_shown m a p (length (ends_of set.app m))
  asking_each =
      ap (λ (z : Acted). z.items ∷ shown_by set z.world (Give p n 0x40 ∷ Call m 1 0x40 0x80 ∷ Take n 0x80 16 ∷ Answer m 0 (p + 1) ∷ [])) asks_it
      ∙ ap (λ (z : Acted). asked_now ∷ z.items ∷ shown_by set z.world (Call m 1 0x40 0x80 ∷ Take n 0x80 16 ∷ Answer m 0 (p + 1) ∷ [])) gave
      ∙ ap (λ (z : Acted). asked_now ∷ [] ∷ z.items ∷ shown_by set z.world (Take n 0x80 16 ∷ Answer m 0 (p + 1) ∷ [])) calls_it
      ∙ ap (λ (z : Acted). asked_now ∷ [] ∷ vouched ∷ z.items ∷ shown_by set z.world (Answer m 0 (p + 1) ∷ [])) takes_it
      ∙ ap (λ (z : Acted). asked_now ∷ [] ∷ vouched ∷ (item.Packet (p + 1) 16 ∷ []) ∷ z.items ∷ []) answers_it

  pub attested_at : DoesFor set w m q site sec s st (asking_lines m n p) (asking_items m a p (length (ends_of set.app m))) (asking_shown m a p (length (ends_of set.app m)))
      (w.packets ++ ask ∷ tag ∷ map (set_key set site) gs) d2 (w.ledger ++ vouched_entry m a ∷ map (set_key_entry set) gs)
  attested_at = record {
    after = u;
    serves = serves_all;
    served = served2;
    moves = record {
      world = v5;
      is =
          ap (λ (z : Acted). then_ z (λ v. run set v (Give p n 0x40 ∷ Call m 1 0x40 0x80 ∷ Take n 0x80 16 ∷ Answer m 0 (p + 1) ∷ []))) asks_it
          ∙ ap (λ (z : Acted). record {
            world = (then_ z (λ v. run set v (Call m 1 0x40 0x80 ∷ Take n 0x80 16 ∷ Answer m 0 (p + 1) ∷ []))).world;
            items = item.Ask m a ∷ item.Packet p 18 ∷ (then_ z (λ v. run set v (Call m 1 0x40 0x80 ∷ Take n 0x80 16 ∷ Answer m 0 (p + 1) ∷ []))).items;
          }) gave
          ∙ ap (λ (z : Acted). record {
            world = (then_ z (λ v. run set v (Take n 0x80 16 ∷ Answer m 0 (p + 1) ∷ []))).world;
            items = item.Ask m a ∷ item.Packet p 18 ∷ (then_ z (λ v. run set v (Take n 0x80 16 ∷ Answer m 0 (p + 1) ∷ []))).items;
          }) calls_it
          ∙ ap (λ (z : Acted). record {
            world = (then_ z (λ v. run set v (Answer m 0 (p + 1) ∷ []))).world;
            items = item.Ask m a ∷ item.Packet p 18 ∷ item.Vouch m a ∷ item.Done m 1 1 ∷ (then_ z (λ v. run set v (Answer m 0 (p + 1) ∷ []))).items;
          }) takes_it
          ∙ ap (λ (z : Acted). record {
            world = z.world;
            items = item.Ask m a ∷ item.Packet p 18 ∷ item.Vouch m a ∷ item.Done m 1 1 ∷ item.Packet (p + 1) 16 ∷ (z.items ++ []);
          }) answers_it
          ∙ ap (λ is. record { world = v5; items = item.Ask m a ∷ item.Packet p 18 ∷ item.Vouch m a ∷ item.Done m 1 1 ∷ item.Packet (p + 1) 16 ∷ is })
          (Rattle.std.proofs.lemmas.List.append-nil (item.Attested m 0 ∷ packet_items (p + 2) 38 (length (ends_of set.app m))));
      each = asking_each;
      nodes = set-set w.nodes n s1 u;
      packets = append_more (w.packets ++ ask ∷ []) tag (map (set_key set site) gs) ∙ append_more w.packets ask (tag ∷ map (set_key set site) gs);
      deployer = refl;
      ledger = append_more w.ledger (vouched_entry m a) (map (set_key_entry set) gs);
    };
  }

pub module_attested : ModuleAttested
module_attested set w m q site sec s st old sound there h small asked fresh = attested_at set w m q site sec s st old sound there h small asked fresh
