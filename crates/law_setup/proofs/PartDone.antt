-- One module is set up.
use Rattle.std.proofs.Common.{◌≡◌, ◌≢◌, ℕ, ◌+◌, ◌<◌, ◌≤◌, inl, inr, List, [], ◌∷◌, ◌++◌, length, length-append, map, Option, Some, None, refl, sym, ◌∙◌, ap, subst, arith}
use Rattle.std.specs.Prelude.{All, slice_get, slice_index}
use Rattle.sx_rules.specs.declared.section.Section.{Section}
use Rattle.sx_rules.specs.Access.{Lives, Sections}
use Rattle.sx_bus.specs.declared.devices.Window.{Window}
use Rattle.sx_bus.specs.Devices.{places_of}
use Rattle.sx_mean.specs.declared.events.End.{End}
use Rattle.sx_mean.specs.Application.{PartTree}
use Rattle.sx_mean.specs.Ends.{ends_of}
use Rattle.sx_mean.specs.Places.{initial_cells}
use Rattle.sx_trace.specs.declared.items.Item.{Item}
use Rattle.sx_trace.specs.declared.items.Item.TheVariants as item
use Rattle.spec_machine.specs.NodeLaws.{shapes}
use Rattle.spec_machine.specs.State.{State}
use Rattle.spec_machine.proofs.Stays.{lives_below}
use Rattle.spec_machine.proofs.Meanings.{end_lives}
use Rattle.spec_machine.proofs.Apart.{lives_push}
use Rattle.spec_invocation.specs.ModuleState.{initial_state}
use Rattle.sx_sched.specs.Lines.{Line, Load}
use Rattle.spec_run.specs.Setting.{Site, Setting, windows_at}
use Rattle.sx_wire.specs.Headers.{ask_packet}
use Rattle.sx_deployer.specs.Granting.{Grant, after_ask, grants_of}
use Rattle.spec_run.specs.Deployer.{after_acceptance, key_of, set_key, set_key_entry}
use Rattle.spec_run.proofs.acts.Asking.{expected}
use Rattle.spec_run.specs.Ledger.{Made, is_made}
use Rattle.spec_run.specs.State.{World, Acted}
use Rattle.spec_run.specs.Acts.{only, then_, with_node}
use Rattle.spec_run.specs.Run.{line_counted, load, run}
use Rattle.spec_run.specs.Law.{IsLawfulSetting}
use Rattle.spec_run.proofs.tie.Entries.{made_in}
use Rattle.lemmas.proofs.Lists.{get_same, get_mid}
use Rattle.spec_honest.specs.Course.{open_items, part_items}
use Rattle.law_setup.specs.Schedule.{key_lines, part_lines}
use Rattle.law_setup.proofs.forms.ByLine.{asking_shown, keys_shown, part_shown, shown_by}
use Rattle.law_setup.proofs.forms.Loaded.{IsLoadable, StandsHigh, LoadDoes}
use Rattle.law_setup.proofs.forms.Served.{IsServed, Moves, Serves}
use Rattle.law_setup.proofs.forms.Acting.{first_grant}
use Rattle.law_setup.proofs.forms.Attesting.{DoesFor, HaveKeys, asking_items, asking_lines, grants_at, vouched_entry}
use Rattle.law_setup.proofs.forms.PartDone.{ModuleSetUp, SetsUp, first_state}
use Rattle.law_setup.proofs.Loading.{module_loaded}
use Rattle.law_setup.proofs.Answering.{append_more}
use Rattle.law_setup.proofs.KeyTaking.{serves_then}
use Rattle.law_setup.proofs.Attesting.{module_attested}
use Rattle.law_setup.proofs.KeyLoop.{keys_taken}
use Rattle.law_setup.proofs.Runs.{moves_then}

abbrev firsts : ℕ → List End → List Grant
firsts m es = map (first_grant m) es

-- in epoch 0 the grants are the first ones
grants_first : (epochs : List ℕ) (m : ℕ) (es : List End) → ((c : ℕ) → slice_index epochs c ≡ 0) → grants_of epochs m 0 es ≡ firsts m es
grants_first epochs m [] zero_at = refl
grants_first epochs m (e ∷ es) zero_at =
    ap (λ (k : ℕ). record { holder = m; boot = 0; «end» = e; epoch = k } ∷ grants_of epochs m 0 es) (zero_at e.link)
    ∙ ap (λ gs. first_grant m e ∷ gs) (grants_first epochs m es zero_at)

have_keys : (set : Setting) (m : ℕ) (site : Site) (es : List End) (v : World) (number : ℕ) (before : List (List ℕ)) (made : List Made)
    → v.packets ≡ before ++ map (set_key set site) (firsts m es) → length before ≡ number → v.ledger ≡ made ++ map (set_key_entry set) (firsts m es) → HaveKeys set v m site number es
have_keys set m site [] v number before made ps len ls = tt
have_keys set m site (e ∷ es) v number before made ps len ls =
    let x : List ℕ = set_key set site (first_grant m e) in
    let rest = map (set_key set site) (firsts m es) in
    let y : Made = set_key_entry set (first_grant m e) in
    let others = map (set_key_entry set) (firsts m es) in
    let longer = length-append before (x ∷ []) in (
      ap (λ z. slice_get z number) ps ∙ ap (λ k. slice_get (before ++ x ∷ rest) k) (sym len) ∙ get_mid before rest x,
      ap (λ z. is_made z y) ls ∙ made_in made others y,
      have_keys set m site es v (number + 1) (before ++ x ∷ []) (made ++ y ∷ []) (ps ∙ sym (append_more before x rest)) (omega (arith, longer, len)) (ls ∙ sym (append_more made y others)),
    )

pub first_lives : (xs ys : List Section) (x : Section) → Lives xs x → Lives (xs ++ ys) x
first_lives [] ys x l = absurd l
first_lives (y ∷ xs) ys x l = elim l [ inl e ↦ inl e | inr r ↦ inr (first_lives xs ys x r) ]

module _ (set : Setting) (w : World) (m : ℕ) (q : PartTree) (site : Site) (s : State) (old : Option (List ℕ))
    (sound : IsLawfulSetting set) (h : IsLoadable set w m q site s) (windows : shapes s.devices ≡ windows_at site.node set.app.devices set.places)
    (asks : w.deployer.asks ≡ m) (small : m < 65536) (asked : slice_get w.deployer.open_asks m ≡ Some old) (fresh : slice_get w.deployer.attested m ≡ Some None)
    (zero_at : (c : ℕ) → slice_index w.deployer.epochs c ≡ 0) where
  abbrev n : ℕ
  n = site.node

  abbrev p : ℕ
  p = length w.packets

  abbrev es : List End
  es = ends_of set.app m

  abbrev w0 : World
  w0 = line_counted w

  load_it : LoadDoes set w0 m q site s
  load_it =
      module_loaded set w0 m q site s sound
      (record { part = h.part; sited = h.sited; there = h.there; node = h.node; idle = h.idle; boot = h.boot; key = h.key; low = h.low; high = h.high; free = h.free; bytes = h.bytes })

  abbrev t : State
  t = load_it.after

  abbrev v : World
  v = with_node w0 n t w.ledger (w.steps + 1)

  loads : Moves set w (Load m ∷ []) (item.Protect n (Some m) ∷ []) ((item.Protect n (Some m) ∷ []) ∷ []) n t w.packets w.deployer w.ledger
  loads = record {
    world = v;
    is = ap (λ (a : Acted). then_ a (λ u. only u [])) (ap (load set w0) h.sited ∙ load_it.is);
    each = ap (λ (a : Acted). a.items ∷ []) (ap (load set w0) h.sited ∙ load_it.is);
    nodes = refl;
    packets = refl;
    deployer = refl;
    ledger = refl;
  }

  abbrev sec : Section
  sec = record { layout = site.layout; provider = site.provider; id = s.sections.next; key = key_of set site 0 }

  grown : t.sections.live ≡ s.sections.live ++ sec ∷ []
  grown = ap (λ (z : Sections). z.live) load_it.loaded.sections

  still : (x : Section) → Lives s.sections.live x → Lives t.sections.live x
  still x l = subst (λ z. Lives z x) (sym grown) (first_lives s.sections.live (sec ∷ []) x l)

  low_there : StandsHigh t
  low_there = record {
    sections = λ x l. elim (lives_push s.sections.live sec x (subst (λ z. Lives z x) grown l)) [
      | inl a ↦ h.low.sections x a
      | inr b ↦ subst (λ (z : Section). (512 ≤ z.layout.pub_from) × (512 ≤ z.layout.priv_from)) b h.high
    ];
    devices = subst (λ (z : List Window). All (λ at. 512 ≤ at) (places_of z)) (sym load_it.loaded.devices) h.low.devices;
  }

  served : IsServed set m q site sec t (initial_state q.tree es)
  served = record {
    part = h.part;
    sited = h.sited;
    node = load_it.loaded.node;
    idle = load_it.loaded.idle;
    boot = load_it.loaded.boot;
    stands = record { lives = subst (λ z. Lives z sec) (sym grown) (end_lives s.sections.live sec); layout = refl; provider = refl; text = load_it.loaded.stands.text };
    key = refl;
    windows = ap shapes load_it.loaded.devices ∙ windows;
    low = low_there;
    state = load_it.loaded.stands.state;
  }

  here1 : slice_get v.nodes n ≡ Some t
  here1 = get_same w.nodes n t s h.there

  abbrev gs : List Grant
  gs = grants_at w.deployer.epochs m es

  abbrev ask : List ℕ
  ask = ask_packet w.deployer.asks

  abbrev tag : List ℕ
  tag = expected set site 0 ask

  attested_now : DoesFor set v m q site sec t (initial_state q.tree es) (asking_lines m n p) (asking_items m w.deployer.asks p (length es)) (asking_shown m w.deployer.asks p (length es))
      (w.packets ++ ask ∷ tag ∷ map (set_key set site) gs) (after_acceptance set.app.links (after_ask w.deployer m) m 0 None)
      (w.ledger ++ vouched_entry m w.deployer.asks ∷ map (set_key_entry set) gs)
  attested_now = module_attested set v m q site sec t (initial_state q.tree es) old sound here1 served (omega (arith, asks, small)) asked fresh

  abbrev u : State
  u = attested_now.after

  abbrev v2 : World
  v2 = attested_now.moves.world

  here2 : slice_get v2.nodes n ≡ Some u
  here2 = ap (λ z. slice_get z n) attested_now.moves.nodes ∙ get_same v.nodes n u t here1

  first_packets : v2.packets ≡ ((w.packets ++ ask ∷ []) ++ tag ∷ []) ++ map (set_key set site) (firsts m es)
  first_packets =
      attested_now.moves.packets
      ∙ ap (λ z. w.packets ++ ask ∷ tag ∷ map (set_key set site) z) (grants_first w.deployer.epochs m es zero_at)
      ∙ sym (append_more w.packets ask (tag ∷ map (set_key set site) (firsts m es)))
      ∙ sym (append_more (w.packets ++ ask ∷ []) tag (map (set_key set site) (firsts m es)))

  first_entries : v2.ledger ≡ (w.ledger ++ vouched_entry m w.deployer.asks ∷ []) ++ map (set_key_entry set) (firsts m es)
  first_entries =
      attested_now.moves.ledger
      ∙ ap (λ z. w.ledger ++ vouched_entry m w.deployer.asks ∷ map (set_key_entry set) z) (grants_first w.deployer.epochs m es zero_at)
      ∙ sym (append_more w.ledger (vouched_entry m w.deployer.asks) (map (set_key_entry set) (firsts m es)))

  third : length ((w.packets ++ ask ∷ []) ++ tag ∷ []) ≡ p + 2
  third = let a = length-append (w.packets ++ ask ∷ []) (tag ∷ []) in let b = length-append w.packets (ask ∷ []) in omega (arith, a, b)

  have : HaveKeys set v2 m site (p + 2) es
  have = have_keys set m site es v2 (p + 2) ((w.packets ++ ask ∷ []) ++ tag ∷ []) (w.ledger ++ vouched_entry m w.deployer.asks ∷ []) first_packets third first_entries

  keys_now : DoesFor set v2 m q site sec u (first_state set m q) (key_lines m n (p + 2) (length es)) (open_items m es) (keys_shown m es) v2.packets v2.deployer v2.ledger
  keys_now = keys_taken set v2 m q site sec u (initial_cells q.tree.decls) (p + 2) [] es sound here2 attested_now.served refl have

  all_moves : Moves set w ((Load m ∷ []) ++ (asking_lines m n p ++ key_lines m n (p + 2) (length es)))
      ((item.Protect n (Some m) ∷ []) ++ (asking_items m w.deployer.asks p (length es) ++ open_items m es))
      (((item.Protect n (Some m) ∷ []) ∷ []) ++ (asking_shown m w.deployer.asks p (length es) ++ keys_shown m es)) n keys_now.after v2.packets v2.deployer v2.ledger
  unfolding loads
  all_moves =
      moves_then set w (Load m ∷ []) (asking_lines m n p ++ key_lines m n (p + 2) (length es)) (item.Protect n (Some m) ∷ []) (asking_items m w.deployer.asks p (length es) ++ open_items m es)
      ((item.Protect n (Some m) ∷ []) ∷ []) (asking_shown m w.deployer.asks p (length es) ++ keys_shown m es) n t keys_now.after w.packets v2.packets w.deployer v2.deployer w.ledger v2.ledger loads
      (moves_then set v (asking_lines m n p) (key_lines m n (p + 2) (length es)) (asking_items m w.deployer.asks p (length es)) (open_items m es)
      (asking_shown m w.deployer.asks p (length es)) (keys_shown m es) n u keys_now.after _ v2.packets _ v2.deployer _ v2.ledger
      attested_now.moves keys_now.moves)

  node_same : n ≡ q.node
  node_same = (sound.sound.deployed m q site h.part h.sited).node

  abbrev lines_at : ℕ → List Line
  lines_at k = (Load m ∷ []) ++ (asking_lines m k p ++ key_lines m k (p + 2) (length es))

  abbrev items_at : ℕ → ℕ → List Item
  items_at k a = (item.Protect k (Some m) ∷ []) ++ (asking_items m a p (length es) ++ open_items m es)

  is_run : run set w (part_lines m p q es) ≡ record { world = all_moves.world; items = part_items m p q es }
  is_run =
      ap (λ k. run set w (lines_at k)) (sym node_same) ∙ all_moves.is
      ∙ ap (λ k. record { world = all_moves.world; items = items_at k w.deployer.asks }) node_same
      ∙ ap (λ a. record { world = all_moves.world; items = items_at q.node a }) asks

  abbrev shown_at : ℕ → ℕ → List (List Item)
  shown_at k a = ((item.Protect k (Some m) ∷ []) ∷ []) ++ (asking_shown m a p (length es) ++ keys_shown m es)

  each_run : shown_by set w (part_lines m p q es) ≡ part_shown m p q es
  each_run =
      ap (λ k. shown_by set w (lines_at k)) (sym node_same) ∙ all_moves.each ∙ ap (λ k. shown_at k w.deployer.asks) node_same
      ∙ ap (λ a. shown_at q.node a) asks

  done : Serves sec t keys_now.after
  done = serves_then sec t u keys_now.after attested_now.serves keys_now.serves

  other : (x : Section) → Lives s.sections.live x → sec.id ≢ x.id
  other x l e = let b = lives_below s.sections.next s.sections.live x h.node.placed.each l in absurd (omega (arith, b, e))

  pub set_up_at : SetsUp set w m q site s
  set_up_at = record {
    after = keys_now.after;
    node = done.node;
    idle = done.idle;
    boot = done.boot ∙ load_it.loaded.boot;
    key = done.key ∙ load_it.loaded.key;
    devices = done.devices ∙ load_it.loaded.devices;
    sections = done.sections ∙ load_it.loaded.sections;
    stands = record { text = keys_now.served.stands.text; state = keys_now.served.state };
    public = λ x l. done.texts x (still x l) ∙ load_it.loaded.public x l;
    private = λ x l. done.others x (still x l) (other x l) ∙ load_it.loaded.private x l;
    moves = record {
      world = all_moves.world;
      is = is_run;
      each = each_run;
      nodes = all_moves.nodes;
      packets = all_moves.packets ∙ attested_now.moves.packets;
      deployer = all_moves.deployer ∙ attested_now.moves.deployer;
      ledger = all_moves.ledger ∙ attested_now.moves.ledger;
    };
  }

pub module_set_up : ModuleSetUp
module_set_up set w m q site s old sound h windows asks small asked fresh zero_at = set_up_at set w m q site s old sound h windows asks small asked fresh zero_at
