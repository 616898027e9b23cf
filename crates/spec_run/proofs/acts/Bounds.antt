-- What every line keeps: nodes stay nodes with their devices, and no count gains more than so much.
use Rattle.std.proofs.Common.{◌≡◌, ℕ, zero, suc, ◌+◌, ◌*◌, ◌/◌, ◌<◌, ◌≤◌, ◌==◌, ◌||◌, inl, inr}
use Rattle.std.proofs.Common.{Bool, true, false, if◌then◌else◌, List, [], ◌∷◌, length, take, drop}
use Rattle.std.proofs.Common.{Option, Some, None, Result, Ok, Err, refl, sym, ◌∙◌, ap, subst, arith}
use Rattle.std.proofs.Common.{length-append}
use Rattle.std.specs.Prelude.{slice_get, slice_set}
use Rattle.std.specs.List.{cons_option}
use Rattle.std.proofs.lemmas.Bool.{cases_eq}
use Rattle.std.specs.Option.{option_flatten}
use Rattle.sx_lang.specs.declared.sides.Side.TheVariants.{From, To}
use Rattle.sx_mean.specs.declared.apps.AppDevice.{AppDevice}
use Rattle.sx_mean.specs.declared.apps.Link.{Link}
use Rattle.sx_mean.specs.declared.events.End.{End}
use Rattle.sx_mean.specs.Application.{PartTree}
use Rattle.sx_mean.specs.Ends.{ends_after, ends_of}
use Rattle.sx_trace.specs.declared.items.Item.{Item}
use Rattle.sx_trace.specs.declared.items.Item.TheVariants as item
use Rattle.sx_trace.specs.declared.items.Cause.TheVariants.{Asked}
use Rattle.sx_sched.specs.Lines.{Line, Blank, Run, Finish, Put, Set, Take, Give, Forge, Sense, Irq, Reset, Ask, Answer, Load, Call}
use Rattle.spec_machine.specs.declared.kinds.Event.{Event}
use Rattle.spec_machine.specs.declared.kinds.Event.TheVariants as seen_event
use Rattle.sx_rules.specs.declared.access.Violation.{Violation}
use Rattle.spec_machine.specs.declared.kinds.Refused.{Refused}
use Rattle.spec_machine.specs.declared.kinds.Seen.{Seen}
use Rattle.spec_machine.specs.Memory.{put_bytes}
use Rattle.spec_machine.specs.Registers.{set_reg}
use Rattle.sx_bus.specs.Devices.{with_sample}
use Rattle.spec_machine.specs.Node.{IsNode}
use Rattle.spec_machine.specs.NodeLaws.{shapes}
use Rattle.spec_machine.specs.Acting as acts_of
use Rattle.spec_machine.specs.State.{State, reset}
use Rattle.spec_machine.specs.Step.{Shown, step}
use Rattle.spec_machine.specs.Acts.{put_refusal, busy, unless}
use Rattle.spec_machine.specs.Acts.{put as put_at, set as set_register, take as take_from, sense as sense_on, irq as interrupt}
use Rattle.spec_machine.specs.Acting as acts_of
use Rattle.spec_machine.proofs.Boots.{boots_count, step_quiet}
use Rattle.spec_machine.proofs.Stays.{acted_is_node, acted_shapes}
use Rattle.spec_run.specs.Setting.{Site, Setting, windows_at}
use Rattle.spec_run.specs.Ledger.{Made}
use Rattle.sx_deployer.specs.Granting.{DeployerState, Grant, after_ask, grants_of, grant_to, grant_beyond, grants_beyond, grants_after}
use Rattle.spec_run.specs.Deployer.{accepts, after_acceptance}
use Rattle.spec_run.specs.State.{World, Acted, switched_on}
use Rattle.spec_run.specs.Acts.{only, then_, with_node, at_node, after_step, done_on, with_deployer}
use Rattle.spec_run.specs.Acts.{new_packet, after_take, after_interrupt, ask, key_given, keys_given}
use Rattle.spec_run.specs.Acts.{attested, after_denial, after_verdict, after_answer}
use Rattle.spec_run.specs.Run.{is_reset, steps_of, FINISH_STEPS, finish, put_on, set_on, give}
use Rattle.spec_run.specs.Run.{place_at, sense_at, put_pieces, Register, set_all, register}
use Rattle.spec_run.specs.Run.{unless_busy, load, call, after_line, line_counted, run}
use Rattle.spec_run.specs.Law.{IsSoundSetting, LineInForm, LinesInForm}
use Rattle.spec_run.proofs.tie.Lists.{get_other, get_within, length_set, some_inj}
use Rattle.spec_run.proofs.tie.Start.{get_nodes, nodes_long, on_is_node}
use Rattle.spec_run.proofs.steps.Entry.{shapes_on}
use Rattle.lemmas.proofs.Lists.{get_same, get_some}

-- an event that is no reset
pub no_reset : (e : Event) (v : Violation) → is_reset e ≡ false → e ≡ seen_event.Reset v → ⊥
no_reset e v quiet h = let t : true ≡ false = ap is_reset (sym h) ∙ quiet in cc

-- a refused act resets no node
pub unless_boot : {T : Type 0} (why : Option Refused) (s : State) (done : Shown T) → done.state.boot ≡ s.boot → (unless why s done).state.boot ≡ s.boot
unless_boot None s done e = e
unless_boot (Some why) s done e = refl

-- the grants that follow an answer are at most three for each connection

ends_few : (ls : List Link) (n p : ℕ) → length (ends_after n p ls) ≤ 2 * length ls
ends_few [] n p = omega arith
ends_few (l ∷ ls) n p = two (l.from == p) (l.to == p) (ends_after (n + 1) p ls) (ends_few ls (n + 1) p)
  where
    two : (a b : Bool) (es : List End) → length es ≤ 2 * length ls
        → length (cons_option (if a then Some (record { link = n; side = From; port = l.output }) else None)
        (cons_option (if b then Some (record { link = n; side = To; port = l.input }) else None) es)) ≤ 2 * suc (length ls)
    two true true es h = omega (arith, h)
    two true false es h = omega (arith, h)
    two false true es h = omega (arith, h)
    two false false es h = omega (arith, h)

pub own_few : (epochs : List ℕ) (m boot : ℕ) (es : List End) → length (grants_of epochs m boot es) ≡ length es
own_few epochs m boot [] = refl
own_few epochs m boot (e ∷ es) = ap suc (own_few epochs m boot es)

to_few : (epochs : List ℕ) (k : ℕ) (o : Option (Option ℕ)) (e : End) → length (grant_to epochs k o e) ≤ 1
to_few epochs k None e = omega arith
to_few epochs k (Some None) e = omega arith
to_few epochs k (Some (Some boot)) e = omega arith

if_few : (b : Bool) (xs ys : List Grant) → length xs ≤ 1 → length ys ≤ 1 → length (if b then xs else ys) ≤ 1
if_few true xs ys f g = f
if_few false xs ys f g = g

beyond_few : (d : DeployerState) (m n : ℕ) (ls : List Link) → length (grants_beyond d m n ls) ≤ length ls
beyond_few d m n [] = omega arith
beyond_few d m n (l ∷ ls) =
    let to = grant_to d.epochs l.to (slice_get d.attested l.to) (record { link = n; side = To; port = l.input }) in
    let from = grant_to d.epochs l.from (slice_get d.attested l.from) (record { link = n; side = From; port = l.output }) in
    let last = if l.to == m then from else [] in
    let one : length (grant_beyond d m n l) ≤ 1 =
    if_few (l.from == l.to) [] (if l.from == m then to else last) (omega arith)
    (if_few (l.from == m) to last (to_few d.epochs l.to (slice_get d.attested l.to) _) (if_few (l.to == m) from [] (to_few d.epochs l.from (slice_get d.attested l.from) _) (omega arith))) in
    let rest = beyond_few d m (n + 1) ls in
    let both = length-append (grant_beyond d m n l) (grants_beyond d m (n + 1) ls) in
    omega (arith, one, rest, both)

after_few : (set : Setting) (d : DeployerState) (m boot : ℕ) (last : Option ℕ) → length set.app.links ≤ 64 → length (grants_after set.app d m boot last) ≤ 192
after_few set d m boot None few =
    let own = own_few d.epochs m boot (ends_of set.app m) in
    let ends = ends_few set.app.links 0 m in
    omega (arith, own, ends, few)
after_few set d m boot (Some before) few =
    let own = own_few d.epochs m boot (ends_of set.app m) in
    let ends = ends_few set.app.links 0 m in
    let beyond = beyond_few d m 0 set.app.links in
    let both = length-append (grants_of d.epochs m boot (ends_of set.app m)) (grants_beyond d m 0 set.app.links) in
    omega (arith, own, ends, beyond, both, few)

-- this many steps a line takes at most
abbrev pub steps_in : Line → ℕ
steps_in (Run n k) = k
steps_in line = 1000000

finish_steps : FINISH_STEPS ≡ 1000000
unfolding FINISH_STEPS
finish_steps = refl

module _ (set : Setting) where
  -- a node with its devices that had at most this many resets
  pub record NodeWithin (b n : ℕ) (s : State) : Type 0 where
    pub is_node : IsNode s
    pub devices : shapes s.devices ≡ windows_at n set.app.devices set.places
    pub boot : s.boot ≤ b

  -- such nodes, one for each key; and at most this many steps, packets and asks
  pub record Within (b t p a : ℕ) (w : World) : Type 0 where
    pub as_many : length w.nodes ≡ length set.keys
    pub nodes : (n : ℕ) (s : State) → slice_get w.nodes n ≡ Some s → NodeWithin b n s
    pub steps : w.steps ≤ t
    pub packets : length w.packets ≤ p
    pub asks : w.deployer.asks ≤ a

  later : (b c n : ℕ) (s : State) → NodeWithin b n s → b ≤ c → NodeWithin c n s
  later b c n s h le = record { is_node = h.is_node; devices = h.devices; boot = omega (arith, h.boot, le) }

  more : (b t p a c u q e : ℕ) (w : World) → Within b t p a w → b ≤ c → t ≤ u → p ≤ q → a ≤ e → Within c u q e w
  more b t p a c u q e w h lb lt lp la = record {
    as_many = h.as_many;
    nodes = λ n s here. later b c n s (h.nodes n s here) lb;
    steps = omega (arith, h.steps, lt);
    packets = omega (arith, h.packets, lp);
    asks = omega (arith, h.asks, la);
  }

  -- an act of a node
  acts : (b c t u p a : ℕ) (w : World) (n : ℕ) (s : State) (act : acts_of.Act) (ledger : List Made) (steps : ℕ) → Within b t p a w → slice_get w.nodes n ≡ Some s
      → acts_of.ActInForm act → (acts_of.acted set.mac act s).state.boot ≤ c → b ≤ c → steps ≤ u → Within c u p a (with_node w n (acts_of.acted set.mac act s).state ledger steps)
  acts b c t u p a w n s act ledger steps h here form few le lt = record {
    as_many = length_set w.nodes n (acts_of.acted set.mac act s).state ∙ h.as_many;
    nodes = λ k x there. elim (cases_eq k n) as (λ z. NodeWithin c k x) [
      | inl same ↦
          let now : slice_get (slice_set w.nodes n (acts_of.acted set.mac act s).state) k ≡ Some (acts_of.acted set.mac act s).state =
          ap (λ (i : ℕ). slice_get (slice_set w.nodes n (acts_of.acted set.mac act s).state) i) same ∙ get_same w.nodes n (acts_of.acted set.mac act s).state s here in
          let was = h.nodes n s here in
          let next : NodeWithin c n (acts_of.acted set.mac act s).state = record {
            is_node = acted_is_node set.mac act s form was.is_node;
            devices = acted_shapes set.mac act s was.is_node ∙ was.devices;
            boot = few;
          } in
          subst (λ (i : ℕ). NodeWithin c i x) (sym same) (subst (λ (z : State). NodeWithin c n z) (some_inj (acts_of.acted set.mac act s).state x (sym now ∙ there)) next)
      | inr other ↦ later b c k x (h.nodes k x (sym (get_other w.nodes n k (acts_of.acted set.mac act s).state other) ∙ there)) le
    ];
    steps = lt;
    packets = h.packets;
    asks = h.asks;
  }

  -- one that keeps the count of resets
  quiet : (b t u p a : ℕ) (w : World) (n : ℕ) (s : State) (act : acts_of.Act) (ledger : List Made) (steps : ℕ) → Within b t p a w → slice_get w.nodes n ≡ Some s
      → acts_of.ActInForm act → (acts_of.acted set.mac act s).state.boot ≡ s.boot → steps ≤ u → Within b u p a (with_node w n (acts_of.acted set.mac act s).state ledger steps)
  quiet b t u p a w n s act ledger steps h here form same lt =
      acts b b t u p a w n s act ledger steps h here form (omega (arith, same, (h.nodes n s here).boot)) (omega arith) lt

  -- one that may reset the node
  loud : (b t u p a : ℕ) (w : World) (n : ℕ) (s : State) (act : acts_of.Act) (ledger : List Made) (steps : ℕ) → Within b t p a w → slice_get w.nodes n ≡ Some s
      → acts_of.ActInForm act → steps ≤ u → Within (b + 1) u p a (with_node w n (acts_of.acted set.mac act s).state ledger steps)
  loud b t u p a w n s act ledger steps h here form lt =
      acts b (b + 1) t u p a w n s act ledger steps h here form (omega (arith, (boots_count set.mac act s).1, (h.nodes n s here).boot)) (omega arith) lt

  at : (P : World → Type 0) (w : World) (act : State → Acted) (o : Option State) → P w → ((s : State) → o ≡ Some s → P (act s).world) → P (at_node w act o).world
  at P w act None h f = h
  at P w act (Some s) h f = f s refl

  choose : (P : World → Type 0) (b : Bool) (x y : Acted) → P x.world → P y.world → P (if b then x else y).world
  choose P true x y f g = f
  choose P false x y f g = g

  either : (P : World → Type 0) (b c : Bool) (x y : Acted) → P x.world → (b ≡ false → P y.world) → P (if b || c then x else y).world
  either P true c x y f g = f
  either P false true x y f g = f
  either P false false x y f g = g refl

  steps_within : (stops : State → Bool) (items : List Item) (n k b t p a : ℕ) (w : World) → Within b t p a w → Within (b + 1) (t + k) p a (steps_of set stops items n k w).world
  steps_within stops items n zero b t p a w h = more b t p a (b + 1) (t + 0) p a w h (omega arith) (omega arith) (omega arith) (omega arith)
  steps_within stops items n (suc k) b t p a w h =
      at (Within (b + 1) (t + suc k) p a) w (λ s. if is_reset (step set.mac s).shown.event || stops
      (step set.mac s).state then after_step set w n s else then_ (after_step set w n s) (steps_of set stops items n k))
      (slice_get w.nodes n) (more b t p a (b + 1) (t + suc k) p a w h (omega arith) (omega arith) (omega arith) (omega arith)) (λ s here.
      either (Within (b + 1) (t + suc k) p a) (is_reset (step set.mac s).shown.event) (stops (step set.mac s).state)
      (after_step set w n s) (then_ (after_step set w n s) (steps_of set stops items n k))
      (loud b t (t + suc k) p a w n s acts_of.Step (after_step set w n s).world.ledger (w.steps + 1) h here tt (omega (arith, h.steps)))
      (λ calm.
      let one : Within b (t + 1) p a (after_step set w n s).world =
      quiet b t (t + 1) p a w n s acts_of.Step (after_step set w n s).world.ledger (w.steps + 1) h here tt
      (step_quiet set.mac s (λ v e. no_reset (step set.mac s).shown.event v calm e)) (omega (arith, h.steps)) in
      more (b + 1) (t + 1 + k) p a (b + 1) (t + suc k) p a (steps_of set stops items n k (after_step set w n s).world).world
      (steps_within stops items n k b (t + 1) p a (after_step set w n s).world one) (omega arith) (omega arith) (omega arith) (omega arith)))

  finish_within : (n b t p a : ℕ) (w : World) → Within b t p a w → Within (b + 1) (t + 1000000) p a (finish set n w).world
  finish_within n b t p a w h =
      subst (λ k. Within (b + 1) (t + k) p a (finish set n w).world) finish_steps (steps_within (λ s. s.cur == 0) (item.Budget n ∷ []) n FINISH_STEPS b t p a w h)

  put_within : (n place : ℕ) (bytes : List ℕ) (b t p a : ℕ) (w : World) → Within b t p a w → Within b t p a (put_on n place bytes w).world
  put_within n place bytes b t p a w h =
      at (Within b t p a) w (λ s. done_on w n [] (put_at s place bytes)) (slice_get w.nodes n) h
      (λ s here. quiet b t t p a w n s (acts_of.Put place bytes) w.ledger w.steps h here tt
      (unless_boot {T = Unit {0}} (put_refusal s place (length bytes)) s (record { state = record s { mem = put_bytes s.mem place bytes }; shown = tt }) refl) h.steps)

  set_within : (n r v b t p a : ℕ) (w : World) → v < 65536 → Within b t p a w → Within b t p a (set_on n r v w).world
  set_within n r v b t p a w lt h =
      at (Within b t p a) w (λ s. done_on w n [] (set_register s r v)) (slice_get w.nodes n) h
      (λ s here. quiet b t t p a w n s (acts_of.Set r v) w.ledger w.steps h here lt
      (unless_boot {T = Unit {0}} (busy s) s (record { state = record s { regs = set_reg s.regs r v; last = if r == 0 then 0 else s.last }; shown = tt }) refl) h.steps)

  give_within : (n place b t p a : ℕ) (w : World) (o : Option (List ℕ)) → Within b t p a w → Within b t p a (give w n place o).world
  give_within n place b t p a w None h = h
  give_within n place b t p a w (Some bytes) h = put_within n place bytes b t p a w h

  abbrev AreWords : List Register → Type 0
  AreWords [] = Unit {0}
  AreWords (r ∷ rs) = (r.value < 65536) × AreWords rs

  all_within : (n b t p a : ℕ) (rs : List Register) (w : World) → AreWords rs → Within b t p a w → Within b t p a (set_all n rs w).world
  all_within n b t p a [] w words h = h
  all_within n b t p a (r ∷ rs) w words h = all_within n b t p a rs (set_on n r.number r.value w).world words.1 (set_within n r.number r.value b t p a w words.0 h)

  pieces_within : (n k place b t p a : ℕ) (bytes : List ℕ) (w : World) → Within b t p a w → Within b t p a (put_pieces n k place bytes w).world
  pieces_within n zero place b t p a bytes w h = h
  pieces_within n (suc k) place b t p a bytes w h =
      pieces_within n k (place + 1024) b t p a (drop 1024 bytes) (put_on n place (take 1024 bytes) w).world (put_within n place (take 1024 bytes) b t p a w h)

  unless_within : (P : World → Type 0) (n : ℕ) (w : World) (act : World → Acted) → P w → P (act w).world → P (unless_busy n w act).world
  unless_within P n w act h f =
      at P w (λ s. if s.cur == 0 then act w else only w (item.Busy n ∷ [])) (slice_get w.nodes n) h (λ s here. choose P (s.cur == 0) (act w) (only w (item.Busy n ∷ [])) f h)

  -- a site's numbers are those of registers
  record HasWords (site : Site) : Type 0 where
    provider : site.provider < 65536
    pub_from : site.layout.pub_from < 65536
    pub_to : site.layout.pub_to < 65536
    priv_from : site.layout.priv_from < 65536
    priv_to : site.layout.priv_to < 65536

  -- the part that is deployed at a site
  pub part_at : (m : ℕ) (site : Site) → IsSoundSetting set → slice_get set.sites m ≡ Some site → (q : PartTree) × (slice_get set.app.parts m ≡ Some q)
  part_at m site sound e = get_some set.app.parts m (let lt = get_within set.sites m site e in omega (arith, lt, sound.sites))

  has_words : (m : ℕ) (site : Site) → IsSoundSetting set → slice_get set.sites m ≡ Some site → HasWords site
  has_words m site sound e =
      let q = part_at m site sound e in
      let d = sound.deployed m q.0 site q.1 e in
      record {
        provider = d.provider;
        pub_from = omega (arith, d.text, d.text_end);
        pub_to = omega (arith, d.text_end);
        priv_from = omega (arith, d.data_size, d.data_end);
        priv_to = omega (arith, d.data_end);
      }

  load_within : (b t p a : ℕ) (w : World) (o : Option Site) → ((site : Site) → o ≡ Some site → HasWords site) → Within b t p a w → Within (b + 1) (t + 1) p a (load set w o).world
  load_within b t p a w None f h = more b t p a (b + 1) (t + 1) p a w h (omega arith) (omega arith) (omega arith) (omega arith)
  load_within b t p a w (Some site) f h =
      let n = site.node in
      let s = f site refl in
      let regs = register 9 site.provider ∷ register 10 site.layout.pub_from ∷ register 11 site.layout.pub_to
      ∷ register 12 site.layout.priv_from ∷ register 13 site.layout.priv_to ∷ register 0 0 ∷ [] in
      let first = put_pieces n ((length site.text + 1023) / 1024) site.layout.pub_from site.text in
      let second = put_on n 0 (0x81 ∷ 0x13 ∷ []) in
      let third = set_all n regs in
      let last = steps_of set (λ s. false) [] n 1 in
      let words : AreWords regs = (s.provider, (s.pub_from, (s.pub_to, (s.priv_from, (s.priv_to, (omega arith, tt)))))) in
      let w1 = (first w).world in
      let w2 = (second w1).world in
      unless_within (Within (b + 1) (t + 1) p a) n w (λ w0. then_ (first w0) (λ w1. then_ (second w1) (λ w2. then_ (third w2) last)))
      (more b t p a (b + 1) (t + 1) p a w h (omega arith) (omega arith) (omega arith) (omega arith))
      (steps_within (λ s. false) [] n 1 b t p a (third w2).world (all_within n b t p a regs w2 words (put_within n 0 (0x81 ∷ 0x13 ∷ []) b t p a w1
      (pieces_within n ((length site.text + 1023) / 1024) site.layout.pub_from b t p a site.text w h))))

  call_within : (b t p a : ℕ) (w : World) (e input output : ℕ) (o : Option Site) → ((site : Site) → o ≡ Some site → HasWords site) → e < 65536 → input < 65536 → output < 65536
      → Within b t p a w → Within (b + 1) (t + 1000000) p a (call set w e input output o).world
  call_within b t p a w e input output None f le li lo h = more b t p a (b + 1) (t + 1000000) p a w h (omega arith) (omega arith) (omega arith) (omega arith)
  call_within b t p a w e input output (Some site) f le li lo h =
      let n = site.node in
      let regs = register 12 e ∷ register 13 input ∷ register 14 output ∷ register 15 0 ∷ register 0 site.layout.pub_from ∷ [] in
      let words : AreWords regs = (le, (li, (lo, (omega arith, ((f site refl).pub_from, tt))))) in
      unless_within (Within (b + 1) (t + 1000000) p a) n w (λ w0. then_ (set_all n regs w0) (finish set n))
      (more b t p a (b + 1) (t + 1000000) p a w h (omega arith) (omega arith) (omega arith) (omega arith))
      (finish_within n b t p a (set_all n regs w).world (all_within n b t p a regs w words h))

  sense_within : (b t p a : ℕ) (w : World) (d v : ℕ) (o : Option AppDevice) → v < 32768 → Within b t p a w → Within b t p a (sense_at set w d v o).world
  sense_within b t p a w d v None lt h = h
  sense_within b t p a w d v (Some x) lt h =
      at (Within b t p a) w (λ s. done_on w x.node (item.Sense d v ∷ []) (sense_on s (place_at set x.node d) v)) (slice_get w.nodes x.node) h
      (λ s here. quiet b t t p a w x.node s (acts_of.Sense (place_at set x.node d) v) w.ledger w.steps h here lt
      (unless_boot {T = Unit {0}} (busy s) s (record { state = record s { devices = with_sample s.devices (place_at set x.node d) v }; shown = tt }) refl) h.steps)

  packet_within : (b t p a : ℕ) (w : World) (bytes : List ℕ) → Within b t p a w → Within b t (p + 1) a (new_packet w bytes).world
  packet_within b t p a w bytes h = record {
    as_many = h.as_many;
    nodes = h.nodes;
    steps = h.steps;
    packets = let e = length-append w.packets (bytes ∷ []) in omega (arith, e, h.packets);
    asks = h.asks;
  }

  deployer_within : (b t p a e : ℕ) (w : World) (d : DeployerState) (ledger : List Made) → d.asks ≤ e → Within b t p a w → Within b t p e (with_deployer w d ledger)
  deployer_within b t p a e w d ledger le h = record { as_many = h.as_many; nodes = h.nodes; steps = h.steps; packets = h.packets; asks = le }

  took_within : (b t p a : ℕ) (w : World) (n : ℕ) (r : Result (List ℕ) Refused) → Within b t p a w → Within b t (p + 1) a (after_take w n r).world
  took_within b t p a w n (Ok bytes) h = packet_within b t p a w bytes h
  took_within b t p a w n (Err why) h = more b t p a b t (p + 1) a w h (omega arith) (omega arith) (omega arith) (omega arith)

  irq_within : (b t p a : ℕ) (w : World) (n line : ℕ) (s : State) (r : Result Seen Refused) → slice_get w.nodes n ≡ Some s → Within b t p a w
      → Within (b + 1) t p a (after_interrupt set w n (interrupt s line).state r).world
  irq_within b t p a w n line s (Ok seen) here h =
      loud b t t p a w n s (acts_of.Interrupt line) (after_interrupt set w n (interrupt s line).state (Ok seen)).world.ledger w.steps h here tt h.steps
  irq_within b t p a w n line s (Err why) here h = more b t p a (b + 1) t p a w h (omega arith) (omega arith) (omega arith) (omega arith)

  key_within : (b t p a : ℕ) (w : World) (g : Grant) (o : Option Site) → Within b t p a w → Within b t (p + 1) a (key_given set w g o).world
  key_within b t p a w g None h = more b t p a b t (p + 1) a w h (omega arith) (omega arith) (omega arith) (omega arith)
  key_within b t p a w g (Some site) h = packet_within b t p a (with_deployer w w.deployer _) _ (deployer_within b t p a a w w.deployer _ h.asks h)

  keys_within : (b t p a : ℕ) (gs : List Grant) (w : World) → Within b t p a w → Within b t (p + length gs) a (keys_given set gs w).world
  keys_within b t p a [] w h = more b t p a b t (p + 0) a w h (omega arith) (omega arith) (omega arith) (omega arith)
  keys_within b t p a (g ∷ gs) w h =
      let one = key_given set w g (slice_get set.sites g.holder) in
      more b t (p + 1 + length gs) a b t (p + suc (length gs)) a (keys_given set gs one.world).world
      (keys_within b t (p + 1) a gs one.world (key_within b t p a w g (slice_get set.sites g.holder) h)) (omega arith) (omega arith) (omega arith) (omega arith)

  judged_within : (b t p a : ℕ) (w : World) (m : ℕ) (site : Site) (boot : ℕ) (answer : List ℕ) (o : Option (List ℕ)) → length set.app.links ≤ 64
      → Within b t p a w → Within b t (p + 192) a (after_verdict set w m site boot answer o).world
  judged_within b t p a w m site boot answer None few h = more b t p a b t (p + 192) a w h (omega arith) (omega arith) (omega arith) (omega arith)
  judged_within b t p a w m site boot answer (Some ask) few h =
      let last = option_flatten (slice_get w.deployer.attested m) in
      let d = after_acceptance set.app.links w.deployer m boot last in
      let gs = grants_after set.app d m boot last in
      let some = after_few set d m boot last few in
      choose (Within b t (p + 192) a) (accepts set site w.deployer m boot answer (Some ask) last) (attested set w m boot ask last) (after_denial w m)
      (more b t (p + length gs) a b t (p + 192) a (attested set w m boot ask last).world
      (keys_within b t p a gs (with_deployer w d w.ledger) (deployer_within b t p a a w d w.ledger h.asks h)) (omega arith) (omega arith) (omega (arith, some)) (omega arith))
      (more b t p a b t (p + 192) a w h (omega arith) (omega arith) (omega arith) (omega arith))

  answered_within : (b t p a : ℕ) (w : World) (m boot : ℕ) (o : Option Site) (packet : Option (List ℕ)) → length set.app.links ≤ 64
      → Within b t p a w → Within b t (p + 192) a (after_answer set w m boot o packet).world
  answered_within b t p a w m boot None packet few h = more b t p a b t (p + 192) a w h (omega arith) (omega arith) (omega arith) (omega arith)
  answered_within b t p a w m boot (Some site) None few h = more b t p a b t (p + 192) a w h (omega arith) (omega arith) (omega arith) (omega arith)
  answered_within b t p a w m boot (Some site) (Some answer) few h = judged_within b t p a w m site boot answer (option_flatten (slice_get w.deployer.open_asks m)) few h

  -- what a line leaves
  abbrev pub Leaves : ℕ → ℕ → ℕ → ℕ → Line → World → Type 0
  Leaves b t p a line v = Within (b + 1) (t + steps_in line) (p + 192) (a + 1) v

  pub line_within : (line : Line) (b t p a : ℕ) (w : World) → IsSoundSetting set → LineInForm set line → Within b t p a w → Leaves b t p a line (after_line set w line).world
  line_within Blank b t p a w sound form h = more b t p a (b + 1) (t + 1000000) (p + 192) (a + 1) w h (omega arith) (omega arith) (omega arith) (omega arith)
  line_within (Run n k) b t p a w sound form h =
      more (b + 1) (t + k) p a (b + 1) (t + k) (p + 192) (a + 1) _ (steps_within (λ s. false) [] n k b t p a w h) (omega arith) (omega arith) (omega arith) (omega arith)
  line_within (Finish n) b t p a w sound form h =
      more (b + 1) (t + 1000000) p a (b + 1) (t + 1000000) (p + 192) (a + 1) _ (finish_within n b t p a w h) (omega arith) (omega arith) (omega arith) (omega arith)
  line_within (Put n place bytes) b t p a w sound form h =
      more b t p a (b + 1) (t + 1000000) (p + 192) (a + 1) _ (put_within n place bytes b t p a w h) (omega arith) (omega arith) (omega arith) (omega arith)
  line_within (Set n r v) b t p a w sound form h =
      more b t p a (b + 1) (t + 1000000) (p + 192) (a + 1) _ (set_within n r v b t p a w form.1 h) (omega arith) (omega arith) (omega arith) (omega arith)
  line_within (Take n place len) b t p a w sound form h =
      more b t (p + 1) a (b + 1) (t + 1000000) (p + 192) (a + 1) _
      (at (Within b t (p + 1) a) w (λ s. after_take w n (take_from s place len).shown) (slice_get w.nodes n) (more b t p a b t (p + 1) a w h (omega arith) (omega arith) (omega arith) (omega arith))
      (λ s here. took_within b t p a w n (take_from s place len).shown h)) (omega arith) (omega arith) (omega arith) (omega arith)
  line_within (Give k n place) b t p a w sound form h =
      more b t p a (b + 1) (t + 1000000) (p + 192) (a + 1) _ (give_within n place b t p a w (slice_get w.packets k) h) (omega arith) (omega arith) (omega arith) (omega arith)
  line_within (Forge bytes) b t p a w sound form h =
      more b t (p + 1) a (b + 1) (t + 1000000) (p + 192) (a + 1) _ (packet_within b t p a w bytes h) (omega arith) (omega arith) (omega arith) (omega arith)
  line_within (Sense d v) b t p a w sound form h =
      more b t p a (b + 1) (t + 1000000) (p + 192) (a + 1) _ (sense_within b t p a w d v (slice_get set.app.devices d) form.1 h) (omega arith) (omega arith) (omega arith) (omega arith)
  line_within (Irq n line) b t p a w sound form h =
      more (b + 1) t p a (b + 1) (t + 1000000) (p + 192) (a + 1) _
      (at (Within (b + 1) t p a) w (λ s. after_interrupt set w n (interrupt s line).state (interrupt s line).shown) (slice_get w.nodes n)
      (more b t p a (b + 1) t p a w h (omega arith) (omega arith) (omega arith) (omega arith)) (λ s here. irq_within b t p a w n line s (interrupt s line).shown here h))
      (omega arith) (omega arith) (omega arith) (omega arith)
  line_within (Reset n) b t p a w sound form h =
      more (b + 1) t p a (b + 1) (t + 1000000) (p + 192) (a + 1) _
      (at (Within (b + 1) t p a) w (λ s. record { world = with_node w n (reset s) w.ledger w.steps; items = item.Reset n Asked ∷ [] }) (slice_get w.nodes n)
      (more b t p a (b + 1) t p a w h (omega arith) (omega arith) (omega arith) (omega arith))
      (λ s here. loud b t t p a w n s acts_of.Restart w.ledger w.steps h here tt h.steps)) (omega arith) (omega arith) (omega arith) (omega arith)
  line_within (Ask m) b t p a w sound form h =
      let d = after_ask w.deployer m in
      more b t (p + 1) (a + 1) (b + 1) (t + 1000000) (p + 192) (a + 1) _
      (packet_within b t p (a + 1) (with_deployer w d w.ledger) _ (deployer_within b t p a (a + 1) w d w.ledger (omega (arith, h.asks)) h)) (omega arith) (omega arith) (omega arith) (omega arith)
  line_within (Answer m boot k) b t p a w sound form h =
      more b t (p + 192) a (b + 1) (t + 1000000) (p + 192) (a + 1) _
      (answered_within b t p a w m boot (slice_get set.sites m) (slice_get w.packets k) sound.links h)
      (omega arith) (omega arith) (omega arith) (omega arith)
  line_within (Load m) b t p a w sound form h =
      more (b + 1) (t + 1) p a (b + 1) (t + 1000000) (p + 192) (a + 1) _
      (load_within b t p a w (slice_get set.sites m) (λ site e. has_words m site sound e) h) (omega arith)
      (omega arith) (omega arith) (omega arith)
  line_within (Call m e input output) b t p a w sound form h =
      more (b + 1) (t + 1000000) p a (b + 1) (t + 1000000) (p + 192) (a + 1) _
      (call_within b t p a w e input output (slice_get set.sites m) (λ site e. has_words m site sound e) form.0 form.1 form.2 h) (omega arith) (omega arith) (omega arith) (omega arith)

  pub counted_within : (b t p a : ℕ) (w : World) → Within b t p a w → Within b t p a (line_counted w)
  counted_within b t p a w h = record { as_many = h.as_many; nodes = h.nodes; steps = h.steps; packets = h.packets; asks = h.asks }

  -- what this many lines leave of a world, at whatever number of steps
  abbrev Left : ℕ → ℕ → ℕ → World → Type 0
  Left b p a w = (t : ℕ) × Within b t p a w

  run_within : (lines : List Line) (b t p a : ℕ) (w : World) → IsSoundSetting set → LinesInForm set lines → Within b t p a w
      → Left (b + length lines) (p + 192 * length lines) (a + length lines) (run set w lines).world
  run_within [] b t p a w sound form h = (t, more b t p a (b + 0) t (p + 192 * 0) (a + 0) w h (omega arith) (omega arith) (omega arith) (omega arith))
  run_within (line ∷ lines) b t p a w sound form h =
      let next = after_line set (line_counted w) line in
      let n = length lines in
      let r = run_within lines (b + 1) (t + steps_in line) (p + 192) (a + 1) next.world sound form.1 (line_within line b t p a (line_counted w) sound form.0 (counted_within b t p a w h)) in (
        r.0,
        more (b + 1 + n) r.0 (p + 192 + 192 * n) (a + 1 + n) (b + suc n) r.0 (p + 192 * suc n) (a + suc n)
            (run set next.world lines).world r.1 (omega arith) (omega arith) (omega arith) (omega arith),
      )

  starts_within : IsSoundSetting set → Within 0 0 0 0 (switched_on set)
  starts_within sound = record {
    as_many = nodes_long set 0 set.keys;
    nodes = λ n s here.
        let r = get_nodes set 0 set.keys n s here in
        subst (λ (z : State). NodeWithin 0 n z) (sym (r.1 ∙ ap (λ j. Rattle.spec_machine.specs.State.power_on r.0 (Rattle.spec_run.specs.Law.devices_of set j)) (omega arith)))
        (record { is_node = on_is_node set n r.0 sound; devices = shapes_on (windows_at n set.app.devices set.places); boot = omega arith });
    steps = omega arith;
    packets = omega arith;
    asks = omega arith;
  }

  -- after this many lines in form
  pub lines_within : (lines : List Line) → IsSoundSetting set → LinesInForm set lines
      → Left (length lines) (192 * length lines) (length lines) (run set (switched_on set) lines).world
  lines_within lines sound form =
      let n = length lines in
      let r = run_within lines 0 0 0 0 (switched_on set) sound form (starts_within sound) in
      (r.0, more (0 + n) r.0 (0 + 192 * n) (0 + n) n r.0 (192 * n) n (run set (switched_on set) lines).world r.1 (omega arith) (omega arith) (omega arith) (omega arith))
