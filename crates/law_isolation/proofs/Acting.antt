-- What happens in a run is an act on one node, or touches none.
use Rattle.std.proofs.Common.{◌≡◌, ℕ, ◌+◌, ◌⊎◌, inl, inr, Bool, true, false, if◌then◌else◌, List, [], ◌∷◌, ◌++◌, length, Option, Some, None, Result, Ok, Err, refl, sym, ◌∙◌, ap, subst}
use Rattle.std.specs.Prelude.{slice_get, slice_set}
use Rattle.std.specs.Option.{option_flatten}
use Rattle.sx_trace.specs.declared.items.Item.{Item}
use Rattle.sx_trace.specs.declared.items.Item.TheVariants as item
use Rattle.sx_trace.specs.declared.items.Cause.TheVariants.{Asked}
use Rattle.sx_mean.specs.declared.apps.AppDevice.{AppDevice}
use Rattle.sx_rules.specs.declared.section.Section.{Section}
use Rattle.sx_rules.specs.Access.{Lives}
use Rattle.sx_rules.specs.Placed.{Placed}
use Rattle.sx_tag.specs.Mac.{Mac}
use Rattle.spec_machine.specs.declared.kinds.Refused.{Refused}
use Rattle.spec_machine.specs.declared.kinds.Seen.{Seen}
use Rattle.spec_machine.specs.Memory.{bytes_from}
use Rattle.spec_machine.specs.State.{State, reset}
use Rattle.spec_machine.specs.Step.{Shown, own_of, step, start}
use Rattle.spec_machine.specs.Run.{exec}
use Rattle.spec_machine.specs.Acts.{unless, take_refusal, irq_refusal, interrupt, interrupted, put, set as set_register, take as take_from, sense, irq}
use Rattle.spec_machine.specs.Acting.{Act, Step as NodeStep, Restart, Put as PutAct, Set as SetAct, Take as TakeAct, Sense as SenseAct, Interrupt, Stepped}
use Rattle.spec_machine.specs.Acting.{Answered, Took, Interrupted, acted}
use Rattle.spec_machine.specs.Guard.{Same}
use Rattle.spec_machine.specs.Guarding.{FromOutside}
use Rattle.spec_machine.proofs.Sections.{acted_placed}
use Rattle.spec_machine.proofs.RunGuard.{act_same}
use Rattle.spec_run.specs.Setting.{Site, Setting, module_of}
use Rattle.sx_ledger.specs.declared.entry.Maker.TheVariants as maker
use Rattle.spec_run.specs.Ledger.{made_entry, is_made}
use Rattle.sx_ledger.specs.Made.{Made, NO_TARGET}
use Rattle.sx_deployer.specs.Granting.{Grant, grants_after}
use Rattle.spec_run.specs.Deployer.{accepts, after_acceptance}
use Rattle.spec_run.specs.Observation.{Observed, observed, unless_made}
use Rattle.spec_run.specs.State.{World, Acted}
use Rattle.spec_run.specs.Acts.{only, then_, at_node, after_step, refused_item, or_refused, done_on}
use Rattle.spec_run.specs.Acts.{after_take, after_interrupt, with_deployer, key_given, keys_given}
use Rattle.spec_run.specs.Acts.{attested, after_denial, after_verdict, after_answer}
use Rattle.spec_run.specs.Run.{place_at, sense_at, give, put_on}
use Rattle.spec_run.proofs.steps.Stretch.{set_same}
use Rattle.law_isolation.specs.Happening.{Happening, Begin, Step, Put, Set, Take, Give, Forge, Sense, Irq, Reset, Ask, Answer, Show, done}
use Rattle.law_isolation.proofs.Observing.{observed_alike, runner_alike}

-- the world with other nodes
abbrev pub with_nodes : World → List State → World
with_nodes w ns = record { nodes = ns; packets = w.packets; deployer = w.deployer; ledger = w.ledger; lines = w.lines; steps = w.steps }

abbrev pub renoded : Acted → List State → Acted
renoded a ns = record { world = with_nodes a.world ns; items = a.items }

-- what an act on a node makes of a world
pub record Effect : Type 0 where
  pub state : State
  pub packets : List (List ℕ)
  pub ledger : List Made
  pub steps : ℕ
  pub items : List Item

abbrev pub applied : World → ℕ → Effect → Acted
applied w n e = record {
  world = record { nodes = slice_set w.nodes n e.state; packets = e.packets; deployer = w.deployer; ledger = e.ledger; lines = w.lines; steps = e.steps };
  items = e.items;
}

pub record SameEffect (s : Section) (e f : Effect) : Type 0 where
  pub state : Same s e.state f.state
  pub packets : e.packets ≡ f.packets
  pub ledger : e.ledger ≡ f.ledger
  pub steps : e.steps ≡ f.steps
  pub items : e.items ≡ f.items

-- it looks at no node
pub record Still (act : List State → Acted) : Type 0 where
  pub base : Acted
  pub is : (ns : List State) → act ns ≡ renoded base ns

-- it is an act on a node
pub record OnNode (mac : Mac) (x : Happening) (w : World) (doing : List State → Acted) : Type 0 where
  pub node : ℕ
  pub act : Act
  pub effect : State → Effect
  pub does : (ns : List State) (s : State) → slice_get ns node ≡ Some s → doing ns ≡ applied (with_nodes w ns) node (effect s)
  pub none : (ns : List State) → slice_get ns node ≡ None → doing ns ≡ only (with_nodes w ns) []
  pub leads : (s : State) → (effect s).state ≡ (acted mac act s).state
  pub own : act ≡ NodeStep → x ≡ Step node
  pub alike : (s : Section) (a b : State) → Placed a.sections → (Lives a.sections.live s → FromOutside s act a) → Same s a b → SameEffect s (effect a) (effect b)

abbrev pub Kind : Mac → Happening → World → (List State → Acted) → Type 0
Kind mac x w doing = Still doing ⊎ OnNode mac x w doing

answered_inj : (x y : Result (Unit {0}) Refused) → Answered x ≡ Answered y → x ≡ y
answered_inj x y e = cc

took_inj : (x y : Result (List ℕ) Refused) → Took x ≡ Took y → x ≡ y
took_inj x y e = cc

stepped_inj : (x y : Seen) → Stepped x ≡ Stepped y → x ≡ y
stepped_inj x y e = cc

interrupted_inj : (x y : Result Seen Refused) → Interrupted x ≡ Interrupted y → x ≡ y
interrupted_inj x y e = cc

-- an act that answers nothing
abbrev answer_effect : World → ℕ → List Item → Shown (Result (Unit {0}) Refused) → Effect
answer_effect w n items r = record { state = r.state; packets = w.packets; ledger = w.ledger; steps = w.steps; items = or_refused n items r.shown }

answer_alike : (w : World) (n : ℕ) (items : List Item) (s : Section) (r q : Shown (Result (Unit {0}) Refused)) → r.shown ≡ q.shown → Same s r.state q.state
    → SameEffect s (answer_effect w n items r) (answer_effect w n items q)
answer_alike w n items s r q e h = record { state = h; packets = refl; ledger = refl; steps = refl; items = ap (or_refused n items) e }

at_some : (v : World) (f : State → Acted) (o : Option State) (s : State) → o ≡ Some s → at_node v f o ≡ f s
at_some v f o s e = ap (at_node v f) e

at_none : (v : World) (f : State → Acted) (o : Option State) → o ≡ None → at_node v f o ≡ only v []
at_none v f o e = ap (at_node v f) e

put_kind : (mac : Mac) (x : Happening) (w : World) (n at : ℕ) (bytes : List ℕ) → Kind mac x w (λ ns. put_on n at bytes (with_nodes w ns))
put_kind mac x w n at bytes = inr (record {
  node = n;
  act = PutAct at bytes;
  effect = λ s. answer_effect w n [] (put s at bytes);
  does = λ ns s e. at_some (with_nodes w ns) (λ z. done_on (with_nodes w ns) n [] (put z at bytes)) (slice_get ns n) s e;
  none = λ ns e. at_none (with_nodes w ns) (λ z. done_on (with_nodes w ns) n [] (put z at bytes)) (slice_get ns n) e;
  leads = λ s. refl;
  own = λ e. absurd (no_put e);
  alike = λ s a b p f h.
      let one = act_same mac s (PutAct at bytes) a b p f h in
      answer_alike w n [] s (put a at bytes) (put b at bytes) (answered_inj (put a at bytes).shown (put b at bytes).shown one.0) one.1;
})
  where
    no_put : {at : ℕ} {bytes : List ℕ} → PutAct at bytes ≡ NodeStep → ⊥
    no_put e = cc

set_kind : (mac : Mac) (x : Happening) (w : World) (n r v : ℕ) → Kind mac x w (λ ns. at_node (with_nodes w ns) (λ s. done_on (with_nodes w ns) n [] (set_register s r v)) (slice_get ns n))
set_kind mac x w n r v = inr (record {
  node = n;
  act = SetAct r v;
  effect = λ s. answer_effect w n [] (set_register s r v);
  does = λ ns s e. at_some (with_nodes w ns) (λ z. done_on (with_nodes w ns) n [] (set_register z r v)) (slice_get ns n) s e;
  none = λ ns e. at_none (with_nodes w ns) (λ z. done_on (with_nodes w ns) n [] (set_register z r v)) (slice_get ns n) e;
  leads = λ s. refl;
  own = λ e. absurd (no_set e);
  alike = λ s a b p f h.
      let one = act_same mac s (SetAct r v) a b p f h in
      answer_alike w n [] s (set_register a r v) (set_register b r v) (answered_inj (set_register a r v).shown (set_register b r v).shown one.0) one.1;
})
  where
    no_set : {r v : ℕ} → SetAct r v ≡ NodeStep → ⊥
    no_set e = cc

sense_kind : (set : Setting) (x : Happening) (w : World) (d v : ℕ) (o : Option AppDevice) → Kind set.mac x w (λ ns. sense_at set (with_nodes w ns) d v o)
sense_kind set x w d v None = inl (record { base = only w []; is = λ ns. refl })
sense_kind set x w d v (Some device) = inr (record {
  node = device.node;
  act = SenseAct (place_at set device.node d) v;
  effect = λ s. answer_effect w device.node (item.Sense d v ∷ []) (sense s (place_at set device.node d) v);
  does = λ ns s e. at_some (with_nodes w ns) (λ z. done_on (with_nodes w ns) device.node (item.Sense d v ∷ []) (sense z (place_at set device.node d) v)) (slice_get ns device.node) s e;
  none = λ ns e. at_none (with_nodes w ns) (λ z. done_on (with_nodes w ns) device.node (item.Sense d v ∷ []) (sense z (place_at set device.node d) v)) (slice_get ns device.node) e;
  leads = λ s. refl;
  own = λ e. absurd (no_sense e);
  alike = λ s a b p f h.
      let one = act_same set.mac s (SenseAct (place_at set device.node d) v) a b p f h in
      answer_alike w device.node (item.Sense d v ∷ []) s (sense a (place_at set device.node d) v) (sense b (place_at set device.node d) v)
      (answered_inj (sense a (place_at set device.node d) v).shown (sense b (place_at set device.node d) v).shown one.0) one.1;
})
  where
    no_sense : {k v : ℕ} → SenseAct k v ≡ NodeStep → ⊥
    no_sense e = cc

give_kind : (mac : Mac) (x : Happening) (w : World) (n at : ℕ) (o : Option (List ℕ)) → Kind mac x w (λ ns. give (with_nodes w ns) n at o)
give_kind mac x w n at None = inl (record { base = only w (item.Skip n ∷ []); is = λ ns. refl })
give_kind mac x w n at (Some bytes) = put_kind mac x w n at bytes

-- bytes are taken
abbrev took_packets : List (List ℕ) → Result (List ℕ) Refused → List (List ℕ)
took_packets ps (Ok bytes) = ps ++ bytes ∷ []
took_packets ps (Err why) = ps

abbrev took_items : ℕ → List (List ℕ) → Result (List ℕ) Refused → List Item
took_items n ps (Ok bytes) = item.Packet (length ps) (length bytes) ∷ []
took_items n ps (Err why) = refused_item n why ∷ []

abbrev take_effect : World → ℕ → State → Result (List ℕ) Refused → Effect
take_effect w n s r = record { state = s; packets = took_packets w.packets r; ledger = w.ledger; steps = w.steps; items = took_items n w.packets r }

take_is : (w : World) (ns : List State) (n : ℕ) (s : State) (r : Result (List ℕ) Refused) → slice_get ns n ≡ Some s
    → after_take (with_nodes w ns) n r ≡ applied (with_nodes w ns) n (take_effect w n s r)
take_is w ns n s (Ok bytes) e =
    ap (λ (z : List State). record {
      world = record {
        nodes = z;
        packets = w.packets ++ bytes
            ∷ [];
        deployer = w.deployer;
        ledger = w.ledger;
        lines = w.lines;
        steps = w.steps;
      };
      items = item.Packet
          (length w.packets) (length bytes) ∷ [];
    })
    (sym (set_same ns n s e))
take_is w ns n s (Err why) e = ap (λ (z : List State). only (with_nodes w z) (refused_item n why ∷ [])) (sym (set_same ns n s e))

unless_still : {T : Type 0} (o : Option Refused) (s : State) (shown : T) → (unless o s (record { state = s; shown = shown })).state ≡ s
unless_still None s shown = refl
unless_still (Some why) s shown = refl

take_alike : (w : World) (n : ℕ) (s : Section) (a b : State) (r q : Result (List ℕ) Refused) → r ≡ q → Same s a b → SameEffect s (take_effect w n a r) (take_effect w n b q)
take_alike w n s a b r q e h = record { state = h; packets = ap (took_packets w.packets) e; ledger = refl; steps = refl; items = ap (took_items n w.packets) e }

take_kind : (mac : Mac) (x : Happening) (w : World) (n at len : ℕ) → Kind mac x w (λ ns. at_node (with_nodes w ns) (λ s. after_take (with_nodes w ns) n (take_from s at len).shown) (slice_get ns n))
take_kind mac x w n at len = inr (record {
  node = n;
  act = TakeAct at len;
  effect = λ s. take_effect w n s (take_from s at len).shown;
  does = λ ns s e. at_some (with_nodes w ns) (λ z. after_take (with_nodes w ns) n (take_from z at len).shown) (slice_get ns n) s e ∙ take_is w ns n s (take_from s at len).shown e;
  none = λ ns e. at_none (with_nodes w ns) (λ z. after_take (with_nodes w ns) n (take_from z at len).shown) (slice_get ns n) e;
  leads = λ s. sym (unless_still (take_refusal s at len) s (bytes_from s.mem at len));
  own = λ e. absurd (no_take e);
  alike = λ s a b p f h.
      let one = act_same mac s (TakeAct at len) a b p f h in
      take_alike w n s a b (take_from a at len).shown (take_from b at len).shown (took_inj (take_from a at len).shown (take_from b at len).shown one.0) h;
})
  where
    no_take : {at len : ℕ} → TakeAct at len ≡ NodeStep → ⊥
    no_take e = cc

-- what is seen of a node
abbrev seen_effect : Setting → World → ℕ → ℕ → Option ℕ → State → Seen → Effect
seen_effect set w steps n runner s seen =
    let o = observed set n runner s seen w.ledger in
    record { state = s; packets = w.packets; ledger = o.ledger; steps = steps; items = o.items }

seen_alike : (set : Setting) (w : World) (steps n : ℕ) (s : Section) (r q : Option ℕ) (a b : State) (x y : Seen) → r ≡ q → x ≡ y → Placed a.sections → Same s a b
    → SameEffect s (seen_effect set w steps n r a x) (seen_effect set w steps n q b y)
seen_alike set w steps n s r q a b x y e f p h =
    subst (λ (z : Option ℕ). SameEffect s (seen_effect set w steps n r a x) (seen_effect set w steps n z b y)) e
    (subst (λ (z : Seen). SameEffect s (seen_effect set w steps n r a x) (seen_effect set w steps n r b z)) f
    (let same = observed_alike set n r s a b x w.ledger p h in
    record { state = h; packets = refl; ledger = ap (λ (o : Observed). o.ledger) same; steps = refl; items = ap (λ (o : Observed). o.items) same }))

step_kind : (set : Setting) (w : World) (n : ℕ) → Kind set.mac (Step n) w (λ ns. at_node (with_nodes w ns) (after_step set (with_nodes w ns) n) (slice_get ns n))
step_kind set w n = inr (record {
  node = n;
  act = NodeStep;
  effect = λ s. seen_effect set w (w.steps + 1) n (module_of set.sites n s (own_of s)) (step set.mac s).state (step set.mac s).shown;
  does = λ ns s e. at_some (with_nodes w ns) (after_step set (with_nodes w ns) n) (slice_get ns n) s e;
  none = λ ns e. at_none (with_nodes w ns) (after_step set (with_nodes w ns) n) (slice_get ns n) e;
  leads = λ s. refl;
  own = λ e. refl;
  alike = λ s a b p f h.
      let one = act_same set.mac s NodeStep a b p f h in
      seen_alike set w (w.steps + 1) n s (module_of set.sites n a (own_of a)) (module_of set.sites n b (own_of b))
      (step set.mac a).state (step set.mac b).state (step set.mac a).shown (step set.mac b).shown
      (runner_alike set n s a b p h) (stepped_inj (step set.mac a).shown (step set.mac b).shown one.0) (acted_placed set.mac NodeStep a p) one.1;
})

abbrev irq_effect : Setting → World → ℕ → State → Result Seen Refused → Effect
irq_effect set w n s (Ok seen) = seen_effect set w w.steps n None s seen
irq_effect set w n s (Err why) = record { state = s; packets = w.packets; ledger = w.ledger; steps = w.steps; items = refused_item n why ∷ [] }

irq_is : (set : Setting) (w : World) (ns : List State) (n : ℕ) (s : State) (o : Option Refused) (d : Shown Seen) → slice_get ns n ≡ Some s
    → after_interrupt set (with_nodes w ns) n (unless o s d).state (unless o s d).shown ≡ applied (with_nodes w ns) n (irq_effect set w n (unless o s d).state (unless o s d).shown)
irq_is set w ns n s None d e = refl
irq_is set w ns n s (Some why) d e = ap (λ (z : List State). only (with_nodes w z) (refused_item n why ∷ [])) (sym (set_same ns n s e))

irq_alike : (set : Setting) (w : World) (n : ℕ) (s : Section) (a b : State) (x y : Result Seen Refused)
    → x ≡ y → Placed a.sections → Same s a b → SameEffect s (irq_effect set w n a x) (irq_effect set w n b y)
irq_alike set w n s a b x y e p h = subst (λ (z : Result Seen Refused). SameEffect s (irq_effect set w n a x) (irq_effect set w n b z)) e (by x)
  where
    by : (x : Result Seen Refused) → SameEffect s (irq_effect set w n a x) (irq_effect set w n b x)
    by (Ok seen) = seen_alike set w w.steps n s None None a b seen seen refl refl p h
    by (Err why) = record { state = h; packets = refl; ledger = refl; steps = refl; items = refl }

irq_kind : (set : Setting) (x : Happening) (w : World) (n k : ℕ)
    → Kind set.mac x w (λ ns. at_node (with_nodes w ns) (λ s. after_interrupt set (with_nodes w ns) n (irq s k).state (irq s k).shown)
    (slice_get ns n))
irq_kind set x w n k = inr (record {
  node = n;
  act = Interrupt k;
  effect = λ s. irq_effect set w n (irq s k).state (irq s k).shown;
  does = λ ns s e. at_some (with_nodes w ns) (λ z. after_interrupt set (with_nodes w ns) n (irq z k).state (irq z k).shown) (slice_get ns n) s e
      ∙ irq_is set w ns n s (irq_refusal s) (interrupted s (exec s.sections 0 (interrupt k s.regs) (start s))) e;
  none = λ ns e. at_none (with_nodes w ns) (λ z. after_interrupt set (with_nodes w ns) n (irq z k).state (irq z k).shown) (slice_get ns n) e;
  leads = λ s. same_state (irq s k).state (irq s k).shown;
  own = λ e. absurd (no_irq e);
  alike = λ s a b p f h.
      let one = act_same set.mac s (Interrupt k) a b p f h in
      irq_alike set w n s (irq a k).state (irq b k).state (irq a k).shown (irq b k).shown (interrupted_inj (irq a k).shown (irq b k).shown one.0) (acted_placed set.mac (Interrupt k) a p) one.1;
})
  where
    no_irq : {k : ℕ} → Interrupt k ≡ NodeStep → ⊥
    no_irq e = cc

    same_state : (s : State) (r : Result Seen Refused) → (irq_effect set w n s r).state ≡ s
    same_state s (Ok seen) = refl
    same_state s (Err why) = refl

reset_kind : (mac : Mac) (x : Happening) (w : World) (n : ℕ)
    → Kind mac x w (λ ns. at_node (with_nodes w ns) (λ s. record {
      world = record {
        nodes = slice_set ns n (reset s);
        packets = w.packets;
        deployer = w.deployer;
        ledger = w.ledger;
        lines = w.lines;
        steps = w.steps;
      };
      items = item.Reset n Asked ∷ [];
    }) (slice_get ns n))
reset_kind mac x w n =
    let effect : State → Effect = λ s. record { state = reset s; packets = w.packets; ledger = w.ledger; steps = w.steps; items = item.Reset n Asked ∷ [] } in
    inr (record {
      node = n;
      act = Restart;
      effect = effect;
      does = λ ns s e. at_some (with_nodes w ns) (λ z. applied (with_nodes w ns) n (effect z)) (slice_get ns n) s e;
      none = λ ns e. at_none (with_nodes w ns) (λ z. applied (with_nodes w ns) n (effect z)) (slice_get ns n) e;
      leads = λ s. refl;
      own = λ e. absurd (no_restart e);
      alike = λ s a b p f h.
          let one = act_same mac s Restart a b p f h in
          record { state = one.1; packets = refl; ledger = refl; steps = refl; items = refl };
    })
  where
    no_restart : Restart ≡ NodeStep → ⊥
    no_restart e = cc

-- the deployer
keys_still : (set : Setting) (gs : List Grant) (w : World) (ns : List State) → keys_given set gs (with_nodes w ns) ≡ renoded (keys_given set gs w) ns
keys_still set [] w ns = refl
keys_still set (g ∷ gs) w ns = by (slice_get set.sites g.holder) (keys_still set gs w ns) (λ site. keys_still set gs (key_given set w g (Some site)).world ns)
  where
    by : (o : Option Site) → keys_given set gs (with_nodes w ns) ≡ renoded (keys_given set gs w) ns
        → ((site : Site) → keys_given set gs (with_nodes (key_given set w g (Some site)).world ns) ≡ renoded (keys_given set gs (key_given set w g (Some site)).world) ns)
        → then_ (key_given set (with_nodes w ns) g o) (keys_given set gs) ≡ renoded (then_ (key_given set w g o) (keys_given set gs)) ns
    by None e f = e
    by (Some site) e f = ap (λ (z : Acted). record { world = z.world; items = (key_given set w g (Some site)).items ++ z.items }) (f site)

attested_still : (set : Setting) (w : World) (m boot : ℕ) (bytes : List ℕ) (last : Option ℕ) (ns : List State)
    → attested set (with_nodes w ns) m boot bytes last ≡ renoded (attested set w m boot bytes last) ns
attested_still set w m boot bytes last ns =
    let d = after_acceptance set.app.links w.deployer m boot last in
    let items = unless_made None (is_made w.ledger (made_entry (maker.Module m) NO_TARGET boot bytes [])) (item.Attested m boot) in
    ap (λ (z : Acted). record { world = z.world; items = items ++ z.items }) (keys_still set (grants_after set.app d m boot last) (with_deployer w d w.ledger) ns)

if_still : (b : Bool) (x y : Acted) (ns : List State) (x' y' : Acted) → x' ≡ renoded x ns → y' ≡ renoded y ns → (if b then x' else y') ≡ renoded (if b then x else y) ns
if_still true x y ns x' y' e f = e
if_still false x y ns x' y' e f = f

verdict_still : (set : Setting) (w : World) (m : ℕ) (site : Site) (boot : ℕ) (answer : List ℕ) (o : Option (List ℕ)) (ns : List State)
    → after_verdict set (with_nodes w ns) m site boot answer o ≡ renoded (after_verdict set w m site boot answer o) ns
verdict_still set w m site boot answer None ns = refl
verdict_still set w m site boot answer (Some bytes) ns =
    let last = option_flatten (slice_get w.deployer.attested m) in
    if_still (accepts set site w.deployer m boot answer (Some bytes) last) (attested set w m boot bytes last)
    (after_denial w m) ns (attested set (with_nodes w ns) m boot bytes last) (after_denial (with_nodes w ns) m)
    (attested_still set w m boot bytes last ns) refl

answer_still : (set : Setting) (w : World) (m boot : ℕ) (o : Option Site) (p : Option (List ℕ)) (ns : List State)
    → after_answer set (with_nodes w ns) m boot o p ≡ renoded (after_answer set w m boot o p) ns
answer_still set w m boot None p ns = refl
answer_still set w m boot (Some site) None ns = refl
answer_still set w m boot (Some site) (Some answer) ns = verdict_still set w m site boot answer (option_flatten (slice_get w.deployer.open_asks m)) ns

pub kind : (set : Setting) (x : Happening) (w : World) → Kind set.mac x w (λ ns. done set x (with_nodes w ns))
kind set Begin w = inl (record { base = done set Begin w; is = λ ns. refl })
kind set (Step n) w = step_kind set w n
kind set (Put n at bytes) w = put_kind set.mac (Put n at bytes) w n at bytes
kind set (Set n r v) w = set_kind set.mac (Set n r v) w n r v
kind set (Take n at len) w = take_kind set.mac (Take n at len) w n at len
kind set (Give k n at) w = give_kind set.mac (Give k n at) w n at (slice_get w.packets k)
kind set (Forge bytes) w = inl (record { base = done set (Forge bytes) w; is = λ ns. refl })
kind set (Sense d v) w = sense_kind set (Sense d v) w d v (slice_get set.app.devices d)
kind set (Irq n k) w = irq_kind set (Irq n k) w n k
kind set (Reset n) w = reset_kind set.mac (Reset n) w n
kind set (Ask m) w = inl (record { base = done set (Ask m) w; is = λ ns. refl })
kind set (Answer m boot k) w = inl (record { base = done set (Answer m boot k) w; is = λ ns. answer_still set w m boot (slice_get set.sites m) (slice_get w.packets k) ns })
kind set (Show i) w = inl (record { base = done set (Show i) w; is = λ ns. refl })
