-- What is done to a node from outside while no module runs: bytes are put, a register is set.
use Rattle.std.proofs.Common.{◌≡◌, ℕ, ◌-◌, ◌<◌, inl, ◌==◌, ◌||◌, not, Bool, true, false, if◌then◌else◌, List, [], ◌∷◌, length, Option, Some, None, refl, sym, ◌∙◌, ap, subst, arith}
use Rattle.std.specs.Prelude.{slice_get}
use Rattle.std.proofs.lemmas.Bool.{or_parts, eqb-true}
use Rattle.lemmas.proofs.Lists.{get_some}
use Rattle.sx_rules.specs.declared.section.Section.{Section}
use Rattle.sx_rules.specs.Access.{Sections, Lives}
use Rattle.spec_machine.specs.declared.kinds.Refused.{Refused}
use Rattle.spec_machine.specs.declared.kinds.Refused.TheVariants.{Busy, Guarded, Masked}
use Rattle.spec_machine.specs.Memory.{put_bytes}
use Rattle.spec_machine.specs.Ranges.{meets, meets_private, meets_public, meets_device, passes_end}
use Rattle.spec_machine.specs.Registers.{set_reg}
use Rattle.spec_machine.specs.State.{State}
use Rattle.spec_machine.specs.Step.{Shown}
use Rattle.spec_machine.specs.Acts.{put_refusal, busy, unless, put as put_at, set as set_register}
use Rattle.spec_invocation.specs.ModuleState.{state_of}
use Rattle.spec_machine.specs.Node.{IsNode}
use Rattle.spec_machine.proofs.Stays.{set_is_node, put_is_node, busy_idle}
use Rattle.sx_image.specs.Image.{private_bytes, public_bytes}
use Rattle.sx_mean.specs.Application.{PartTree}
use Rattle.sx_mean.specs.Ends.{ends_of}
use Rattle.sx_model.specs.order.State.{Standing, Model}
use Rattle.spec_run.specs.Setting.{Site, Setting}
use Rattle.spec_run.specs.State.{World}
use Rattle.spec_run.specs.Acts.{with_node, refused_item, done_on}
use Rattle.spec_run.proofs.tie.Lists.{get_within, some_inj}
use Rattle.spec_run.proofs.tie.Verdicts.{judge, Fares}
use Rattle.spec_run.proofs.steps.Stretch.{set_same}
use Rattle.spec_run.proofs.steps.Bystanders.{at_site_same}
use Rattle.spec_run.proofs.steps.Steps.{nonzero}
use Rattle.spec_run.proofs.steps.Nodes.{tied_node}
use Rattle.spec_run.proofs.tie.Tied.{SameState, ModuleTied, Absent, Rests, Runs, Tied}
use Rattle.spec_run.proofs.acts.Keeping.{Keeps}
use Rattle.spec_machine.proofs.PublicKept.{clear_of_range, none_any, put_other}
use Rattle.spec_machine.proofs.Meanings.{same_bytes}

-- a node to which nothing was done that a deployed module or the source would know of
pub record Calm (s s2 : State) : Type 0 where
  pub idle : s.cur ≡ 0
  pub still : s2.cur ≡ 0
  pub sections : s2.sections ≡ s.sections
  pub devices : s2.devices ≡ s.devices
  pub boot : s2.boot ≡ s.boot
  pub node : IsNode s2
  pub public : (sec : Section) → Lives s.sections.live sec → public_bytes sec.layout s2.mem ≡ public_bytes sec.layout s.mem
  pub private : (sec : Section) → Lives s.sections.live sec → private_bytes sec.layout s2.mem ≡ private_bytes sec.layout s.mem

calm_module : (set : Setting) (n m : ℕ) (q : PartTree) (site : Site) (s s2 : State) (x : Standing) (sent : List (List ℕ))
    → IsNode s → Calm s s2 → ModuleTied set n m q site s x sent → ModuleTied set n m q site s2 x sent
calm_module set n m q site s s2 x sent node c (Absent none f) =
    Absent none (λ sec l. let l2 : Lives s.sections.live sec = subst (λ (z : Sections). Lives z.live sec) c.sections l in at_site_same n s.mem s2.mem sec site (c.public sec l2) ∙ f sec l2)
calm_module set n m q site s s2 x sent node c (Rests sec pr p i cur pend h) =
    Rests sec pr p (record { lives = subst (λ (z : Sections). Lives z.live sec) (sym c.sections) i.lives; here = at_site_same n s.mem s2.mem sec site (c.public sec i.lives) ∙ i.here })
    (λ e. nonzero s sec node i.lives (sym e ∙ c.still)) pend
    (subst (λ bs. SameState (ends_of set.app m) (state_of q.tree (ends_of set.app m) bs) pr.cells pr.ends sent) (sym (c.private sec i.lives)) h)
calm_module set n m q site s s2 x sent node c (Runs sec pr p i cur u) = absurd (nonzero s sec node i.lives (sym cur ∙ c.idle))

pub calm_tied : (set : Setting) (w : World) (mo : Model) (n : ℕ) (s s2 : State) → Tied set w mo → slice_get w.nodes n ≡ Some s → Calm s s2 → Tied set (with_node w n s2 w.ledger w.steps) mo
calm_tied set w mo n s s2 t here c =
    let b : (boot : ℕ) × (slice_get mo.boots n ≡ Some boot) = get_some mo.boots n (omega (arith, get_within w.nodes n s here, t.size.nodes, t.size.boots)) in
    let node = t.nodes n s b.0 here b.1 in
    tied_node set w n mo s s2 w.ledger w.steps mo here t (record {
      boots_size = refl;
      devices_size = refl;
      modules_size = refl;
      sent_size = refl;
      asks = refl;
      epochs = refl;
      other_boots = λ k ne. refl;
      node = λ boot e. record {
        windows = ap Rattle.spec_run.proofs.tie.Tied.shapes c.devices
            ∙ node.windows;
        node = c.node;
        runner = inl c.still;
        count = c.boot ∙ node.count ∙ some_inj b.0 boot (sym b.1 ∙ e);
      };
      devices_here = λ k x r xk rk. t.devices n k s x r here (subst (λ z. slice_get z k ≡ Some x) c.devices xk) rk;
      devices_else = λ j k z x ne zk xk. refl;
      modules_here = λ m q site x pk on_node sk xk. calm_module set n m q site s s2 x mo.sent node.node c
          (subst (λ j. ModuleTied set j m q site s x mo.sent) on_node (t.modules m q site s x pk sk (subst (λ j. slice_get w.nodes j ≡ Some s) (sym on_node) here) xk));
      modules_else = λ m q site z x pk ne sk zk xk. t.modules m q site z x pk sk zk xk;
      standing = λ m x xk. (x, xk, refl, refl);
      known = t.ledger;
      sane = t.sane;
    })

-- a refused act
pub same_tied : (set : Setting) (w : World) (mo : Model) (n : ℕ) (s : State) → Tied set w mo → slice_get w.nodes n ≡ Some s → Tied set (with_node w n s w.ledger w.steps) mo
same_tied set w mo n s t here =
    subst (λ ns. Tied set (record { nodes = ns; packets = w.packets; deployer = w.deployer; ledger = w.ledger; lines = w.lines; steps = w.steps }) mo) (sym (set_same w.nodes n s here)) t

pub refused_fares : (set : Setting) (n : ℕ) (why : Refused) (mo : Model) (good : Model → Type 0) → good mo → Fares (judge set.app mo (refused_item n why ∷ [])) good
refused_fares set n Busy mo good h = h
refused_fares set n Guarded mo good h = h
refused_fares set n Masked mo good h = h

calm_unless : (set : Setting) (w : World) (n : ℕ) (s : State) (o : Option Refused) (done : Shown (Unit {0}))
    → slice_get w.nodes n ≡ Some s → (o ≡ None → IsNode s → Calm s done.state) → Keeps set w (done_on w n [] (unless o s done))
calm_unless set w n s None done here f mo t =
    let b : (boot : ℕ) × (slice_get mo.boots n ≡ Some boot) = get_some mo.boots n (omega (arith, get_within w.nodes n s here, t.size.nodes, t.size.boots)) in
    calm_tied set w mo n s done.state t here (f refl (t.nodes n s b.0 here b.1).node)
calm_unless set w n s (Some why) done here f mo t = refused_fares set n why mo (Tied set (with_node w n s w.ledger w.steps)) (same_tied set w mo n s t here)

pub set_keeps : (set : Setting) (w : World) (n r v : ℕ) (s : State) → r < 16 → v < 65536 → slice_get w.nodes n ≡ Some s → Keeps set w (done_on w n [] (set_register s r v))
set_keeps set w n r v s rl vl here =
    calm_unless set w n s (busy s) (record { state = record s { regs = set_reg s.regs r v; last = if r == 0 then 0 else s.last }; shown = tt }) here (λ none node.
    record {
      idle = busy_idle s none;
      still = busy_idle s none;
      sections = refl;
      devices = refl;
      boot = refl;
      node = set_is_node s r v vl
          (busy_idle s none) node;
      public = λ sec l. refl;
      private = λ sec l. refl;
    })

-- Bytes.

pub record Free (s : State) (at n : ℕ) : Type 0 where
  pub idle : s.cur ≡ 0
  pub public : meets_public s.sections.live at n ≡ false
  pub private : meets_private s.sections.live at n ≡ false

free_of : (s : State) (at n : ℕ) → put_refusal s at n ≡ None → Free s at n
free_of s at n e = by (s.cur == 0) refl e
  where
    second : (b : Bool) → (passes_end at n || (meets_public s.sections.live at n || (meets_private s.sections.live at n || meets_device (Rattle.sx_bus.specs.Devices.places_of s.devices) at n))) ≡ b
        → (if b then Some Guarded else None) ≡ None → (meets_public s.sections.live at n ≡ false) × (meets_private s.sections.live at n ≡ false)
    second true t e = absurd cc
    second false t e =
        let p = or_parts (passes_end at n) _ t in
        let q = or_parts (meets_public s.sections.live at n) _ p.1 in
        (q.0, (or_parts (meets_private s.sections.live at n) _ q.1).0)

    by : (b : Bool) → (s.cur == 0) ≡ b → (if not b then Some Busy else if passes_end at n ||
        (meets_public s.sections.live at n || (meets_private s.sections.live at n || meets_device
        (Rattle.sx_bus.specs.Devices.places_of s.devices) at n)) then Some Guarded else None) ≡ None → Free s at n
    by true t e = let g = second _ refl e in record { idle = eqb-true s.cur 0 t; public = g.0; private = g.1 }
    by false t e = absurd cc

pub put_keeps : (set : Setting) (w : World) (n at : ℕ) (bytes : List ℕ) (s : State) → slice_get w.nodes n ≡ Some s → Keeps set w (done_on w n [] (put_at s at bytes))
put_keeps set w n at bytes s here =
    calm_unless set w n s (put_refusal s at (length bytes)) (record { state = record s { mem = put_bytes s.mem at bytes }; shown = tt }) here (λ none node.
    let f = free_of s at (length bytes) none in
    record {
      idle = f.idle;
      still = f.idle;
      sections = refl;
      devices = refl;
      boot = refl;
      node = put_is_node s at bytes node;
      public = λ sec l. same_bytes s.mem (put_bytes s.mem at bytes) sec.layout.pub_from (sec.layout.pub_to - sec.layout.pub_from) (λ k lo hi.
          put_other bytes s.mem at k (clear_of_range at (length bytes) sec.layout.pub_from sec.layout.pub_to k
          (none_any (λ z. meets at (length bytes) z.layout.pub_from z.layout.pub_to) s.sections.live sec f.public l) lo (omega (arith, lo, hi))));
      private = λ sec l. same_bytes s.mem (put_bytes s.mem at bytes) sec.layout.priv_from (sec.layout.priv_to - sec.layout.priv_from) (λ k lo hi.
          put_other bytes s.mem at k (clear_of_range at (length bytes) sec.layout.priv_from sec.layout.priv_to k
          (none_any (λ z. meets at (length bytes) z.layout.priv_from z.layout.priv_to) s.sections.live sec f.private l) lo
          (omega (arith, lo, hi))));
    })
