-- A call does what the invocation says.
use Rattle.std.proofs.Common.{◌≡◌, ℕ, ◌+◌, ◌<◌, ◌≤◌, ◌==◌, Bool, true, if◌then◌else◌, List, [], ◌∷◌, ◌++◌, length, Some, sym, ◌∙◌, ap, subst, arith}
use Rattle.std.specs.Prelude.{nat_lt}
use Rattle.std.proofs.lemmas.Bool.{and_parts, eq-eqb, ltb-true}
use Rattle.lemmas.proofs.Lists.{get_same}
use Rattle.sx_lang.specs.Sizes.{module_cost}
use Rattle.sx_mean.specs.Ends.{ends_of}
use Rattle.sx_rules.specs.declared.access.Violation.{Violation}
use Rattle.sx_rules.specs.declared.section.Layout.{Layout}
use Rattle.sx_rules.specs.Access.{Sections, Lives}
use Rattle.sx_rules.specs.Admission.{good_bounds}
use Rattle.sx_trace.specs.declared.items.Item.TheVariants as item
use Rattle.spec_machine.specs.declared.kinds.Event.{Event}
use Rattle.spec_machine.specs.State.{State, reset}
use Rattle.spec_machine.specs.NodeLaws.{shapes}
use Rattle.spec_machine.proofs.RunsByTable.{start_even}
use Rattle.spec_invocation.specs.Setup.{Call}
use Rattle.spec_invocation.specs.ModuleState.{state_of}
use Rattle.spec_invocation.specs.Marks.{Mark}
use Rattle.spec_invocation.specs.Progress.{Progress, Invoked, Returns, Violates}
use Rattle.spec_invocation.specs.Invocation.{invoke}
use Rattle.sx_image.specs.Image.{private_bytes, public_bytes, call_at, progress_at}
use Rattle.sx_image.specs.Realizes.{Exited, KeepsOutside, Stand, exit_registers}
use Rattle.spec_run.specs.Setting.{Setting}
use Rattle.spec_run.specs.State.{World, Acted}
use Rattle.spec_run.specs.Observation.{cause_of}
use Rattle.spec_run.specs.Acts.{then_, with_node, at_node, only}
use Rattle.spec_run.specs.Run.{call_registers, set_all, FINISH_STEPS, finish, call}
use Rattle.spec_run.specs.Law.{IsSoundSetting, IsDeployedModule}
use Rattle.law_invocation.specs.Gives.{asked}
use Rattle.law_calls.specs.Shown.{marks_observed, devices_after}
use Rattle.law_calls.specs.Calls.{Callee, IsCallable, IsReturned, HasReturned, HasReset, called, ended, invoked, setup_of}
use Rattle.law_calls.specs.Laws.{CallReturns, CallViolates}
use Rattle.law_calls.proofs.Observing.{devices_shapes}
use Rattle.law_calls.proofs.Registering.{all_set, node_twice, called_asks, called_enters, called_is_node}
use Rattle.law_calls.proofs.Middle.{Middle}
use Rattle.law_calls.proofs.Running.{Ended, Ending, IsLeft, IsBroken}
use Rattle.law_calls.proofs.Finishing.{finishes, stands}

low_entry : (l : Layout) → good_bounds l ≡ true → l.pub_to ≤ 0xFFE0 → l.pub_from < 65536
low_entry l h le = let a = ltb-true l.pub_from l.pub_to (and_parts (nat_lt l.pub_from l.pub_to) _ h).0 in omega (arith, a, le)

returns_same : (a b : ℕ) (x y : Progress) → Returns a x ≡ Returns b y → (a ≡ b) × (x ≡ y)
returns_same a b x y h = (cc, cc)

violates_same : (u v : Violation) (x y : Progress) → Violates u x ≡ Violates v y → (u ≡ v) × (x ≡ y)
violates_same u v x y h = (cc, cc)

pub returns_violates : (a : ℕ) (x y : Progress) (v : Violation) → Returns a x ≡ Violates v y → ⊥
returns_violates a x y v h = cc

module _ (set : Setting) (w : World) (c : Callee) (e input output : ℕ) (sound : IsSoundSetting set) (h : IsCallable set w c) (el : e < 65536) (il : input < 65536) (ol : output < 65536) where
  dep : IsDeployedModule set c.number c.part c.site
  dep = sound.deployed c.number c.part c.site h.part h.sited

  abbrev asks : Call
  asks = asked e input output

  abbrev before : State
  before = called c asks

  same_call : call_at before ≡ asks
  same_call = called_asks c e input output h.node.registers.sixteen

  abbrev result : Invoked
  result = invoke (setup_of set c) (call_at before) (progress_at (setup_of set c) before)

  gives : result ≡ invoked set c asks
  gives = ap (λ a. invoke (setup_of set c) a (progress_at (setup_of set c) c.node)) same_call

  -- the world with the registers set
  abbrev v : World
  v = with_node w c.site.node before w.ledger w.steps

  abbrev Finishes : Type 0
  Finishes = Ended set sound c.number c.part c.site h.part h.sited c.section before (stands set w c sound h before.regs 0) result FINISH_STEPS (4096 + module_cost c.part.tree) v []

  finished : Finishes
  finished =
      finishes set w c sound h before.regs 0 v (get_same w.nodes c.site.node before c.node h.there)
      (called_is_node c e input output el il ol (low_entry c.site.layout dep.bounds dep.text_end) h.idle h.node)
      (called_enters c e input output h.node.registers.sixteen (start_even c.site.layout dep.bounds))

  abbrev act : World → Acted
  act w0 = then_ (set_all c.site.node (call_registers c.site e input output) w0) (finish set c.site.node)

  begun : call set w e input output (Some c.site) ≡ act w
  begun =
      ap (at_node w (λ s. if s.cur == 0 then act w else only w (item.Busy c.site.node ∷ []))) h.there
      ∙ ap (λ (b : Bool). if b then act w else only w (item.Busy c.site.node ∷ [])) (eq-eqb c.node.cur 0 h.idle)

  set_up : set_all c.site.node (call_registers c.site e input output) w ≡ record { world = v; items = [] }
  set_up = all_set (call_registers c.site e input output) w c.site.node c.node h.there h.idle

  -- what the call leaves and shows
  pub is_ended : (f : Finishes) → call set w e input output (Some c.site) ≡ ended set w c f.rest f.after f.steps f.shown
  is_ended f =
      let o = marks_observed set.app c.site.node c.number c.node.boot f.rest w.ledger in
      begun
      ∙ ap (λ (a : Acted). then_ a (finish set c.site.node)) set_up
      ∙ ap (λ (a : Acted). record { world = a.world; items = a.items }) f.is
      ∙ ap (λ x. record { world = x; items = o.items ++ f.shown ∷ [] }) (node_twice w c.site.node before f.after w.ledger o.ledger w.steps (w.steps + f.steps))

  -- the module left: the node is as the invocation says
  is_returned : (status : ℕ) (p : Progress) → invoked set c asks ≡ Returns status p
      → (t : State) (seen : List Mark) (last : Event) (out : Exited (setup_of set c) result before (record { node = t; marks = seen; event = last })) → Middle c.section before t seen
      → IsReturned set c asks status p t
  is_returned status p returns t seen last out mid =
      let same = returns_same out.status status out.progress p (sym out.returns ∙ gives ∙ returns) in
      let marks : seen ≡ p.marks = out.marks ∙ ap (λ (z : Progress). z.marks) same.1 in
      let devices : t.devices ≡ devices_after p.marks c.node.devices = mid.devices ∙ ap (λ ms. devices_after ms c.node.devices) marks in
      record {
        node = mid.node;
        idle = out.idle;
        boot = mid.boot;
        key = mid.key;
        sections = mid.sections;
        stands = record {
          lives = subst (λ (z : Sections). Lives z.live c.section) (sym mid.sections) h.stands.lives;
          layout = h.stands.layout;
          provider = h.stands.provider;
          text = ap (λ (l : Layout). public_bytes l t.mem) (sym h.stands.layout) ∙ mid.texts c.section h.stands.lives ∙ ap (λ (l : Layout). public_bytes l c.node.mem) h.stands.layout ∙ h.stands.text;
        };
        registers = out.registers ∙ ap (λ a. exit_registers before a (length out.progress.pieces)) same.0 ∙ ap (λ (z : Progress). exit_registers before status (length z.pieces)) same.1;
        state = ap (λ (l : Layout). state_of c.part.tree (ends_of set.app c.number) (private_bytes l t.mem)) (sym h.stands.layout) ∙ out.state ∙ ap (λ (z : Progress). z.state) same.1;
        outside =
            subst (λ (z : Progress). KeepsOutside (setup_of set c) output z.pieces c.node.mem t.mem) same.1
            (subst (λ (a : Call). KeepsOutside (setup_of set c) a.output out.progress.pieces c.node.mem t.mem) same_call out.outside);
        pieces = subst (λ (z : Progress). Stand t.mem output z.pieces) same.1 (subst (λ (a : Call). Stand t.mem a.output out.progress.pieces) same_call out.pieces);
        devices = devices;
        windows = ap shapes devices ∙ devices_shapes p.marks c.node.devices;
        texts = mid.texts;
        others = mid.others;
      }

  abbrev Ends : Finishes → Type 0
  Ends f = Ending c.site.node c.number c.section (setup_of set c) result before f.after f.rest f.shown

  -- an invocation that returns
  returns_by : (status : ℕ) (p : Progress) → invoked set c asks ≡ Returns status p → (f : Finishes) → Ends f → HasReturned set w c asks status p
  returns_by status p returns f (IsLeft last out mid shown) =
      let same = returns_same out.status status out.progress p (sym out.returns ∙ gives ∙ returns) in
      let marks : f.rest ≡ p.marks = out.marks ∙ ap (λ (z : Progress). z.marks) same.1 in
      let done : f.shown ≡ item.Done c.number status (length p.pieces) =
      shown ∙ ap (λ a. item.Done c.number a (length out.progress.pieces)) same.0 ∙ ap (λ (z : Progress). item.Done c.number status (length z.pieces)) same.1 in
      record {
        after = f.after;
        returned = is_returned status p returns f.after f.rest last out mid;
        steps = f.steps;
        few = f.few;
        is = is_ended f ∙ ap (λ ms. ended set w c ms f.after f.steps f.shown) marks ∙ ap (λ i. ended set w c p.marks f.after f.steps i) done;
      }
  returns_by status p returns f (IsBroken u x broken marks after shown) = absurd (returns_violates status p x u (sym returns ∙ sym gives ∙ broken))

  -- an invocation that ends in a violation
  violates_by : (u : Violation) (p : Progress) → invoked set c asks ≡ Violates u p → (f : Finishes) → Ends f → HasReset set w c asks u p
  violates_by u p broken f (IsLeft last out mid shown) = absurd (returns_violates out.status out.progress p u (sym out.returns ∙ gives ∙ broken))
  violates_by u p broken f (IsBroken u2 x broken2 marks after shown) =
      let same = violates_same u2 u x p (sym broken2 ∙ gives ∙ broken) in
      let all : f.rest ≡ p.marks = marks ∙ ap (λ (z : Progress). z.marks) same.1 in
      let cause : f.shown ≡ item.Reset c.site.node (cause_of u) = shown ∙ ap (λ z. item.Reset c.site.node (cause_of z)) same.0 in
      record {
        steps = f.steps;
        few = f.few;
        is = is_ended f ∙ ap (λ ms. ended set w c ms f.after f.steps f.shown) all ∙ ap (λ t. ended set w c p.marks t f.steps f.shown) after
            ∙ ap (λ i. ended set w c p.marks (reset c.node) f.steps i) cause;
      }

  pub returns_as : (status : ℕ) (p : Progress) → invoked set c asks ≡ Returns status p → HasReturned set w c asks status p
  returns_as status p returns = returns_by status p returns finished finished.ending

  pub violates_as : (u : Violation) (p : Progress) → invoked set c asks ≡ Violates u p → HasReset set w c asks u p
  violates_as u p broken = violates_by u p broken finished finished.ending

  -- its last item, and its items
  pub call_ended : (f : Finishes) × (call set w e input output (Some c.site) ≡ ended set w c f.rest f.after f.steps f.shown)
  call_ended = (finished, is_ended finished)

pub call_returns : CallReturns
call_returns set w c e input output status p sound h el il ol returns = returns_as set w c e input output sound h el il ol status p returns

pub call_violates : CallViolates
call_violates set w c e input output v p sound h el il ol broken = violates_as set w c e input output sound h el il ol v p broken
