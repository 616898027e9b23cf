-- An interrupt, which is run as code outside every module, keeps the world tied.
use Rattle.std.proofs.Common.{◌≡◌, ◌≢◌, ℕ, inl, true, List, [], ◌++◌, Option, Some, None, Ok, refl, sym, ◌∙◌, ap, subst, arith}
use Rattle.std.specs.Prelude.{slice_get}
use Rattle.lemmas.proofs.Lists.{get_some}
use Rattle.sx_rules.specs.declared.section.Section.{Section}
use Rattle.sx_rules.specs.Access.{Sections, Lives}
use Rattle.sx_mean.specs.declared.apps.AppDevice.{AppDevice}
use Rattle.spec_machine.specs.declared.kinds.Refused.{Refused}
use Rattle.spec_machine.specs.State.{State}
use Rattle.spec_machine.specs.Run.{Moment, Outcome, Finished, Violated, Module, exec}
use Rattle.spec_machine.specs.Step.{start}
use Rattle.spec_machine.specs.Acts.{unless, irq_refusal, interrupt, interrupted as machine_interrupted, irq}
use Rattle.spec_machine.specs.Guard.{PrivateKept}
use Rattle.spec_machine.proofs.PlanGuard.{KeptBy, exec_kept}
use Rattle.spec_machine.specs.Node.{IsNode}
use Rattle.spec_machine.specs.Touches.{Replays}
use Rattle.spec_machine.specs.Frame.{KeptPublic}
use Rattle.spec_machine.proofs.Touches.{TracedBy}
use Rattle.spec_machine.proofs.Sparse.{interrupt_traced}
use Rattle.spec_machine.proofs.Frame.{FramedBy, exec_framed}
use Rattle.spec_machine.proofs.PublicKept.{framed_public}
use Rattle.spec_machine.proofs.Stays.{irq_idle, interrupt_ranged, interrupted_is_node}
use Rattle.spec_invocation.specs.ModuleState.{state_of}
use Rattle.sx_image.specs.Watched.{marks_of_touches}
use Rattle.sx_mean.specs.Application.{PartTree}
use Rattle.sx_mean.specs.Ends.{ends_of}
use Rattle.sx_model.specs.State.{Reading}
use Rattle.sx_model.specs.order.State.{Standing, Model}
use Rattle.spec_run.specs.Setting.{Site, Setting, is_at_site, device_number}
use Rattle.spec_run.specs.State.{World}
use Rattle.spec_run.specs.Acts.{with_node, after_interrupt}
use Rattle.spec_run.specs.Observation.{touch_items, cause_of}
use Rattle.spec_run.specs.Law.{IsSoundSetting}
use Rattle.spec_run.proofs.tie.Lists.{get_within, some_inj}
use Rattle.spec_run.proofs.tie.Verdicts.{judge, Fares, fares_map}
use Rattle.spec_run.proofs.tie.Tied.{SameState, NodeTied, ModuleTied, Absent, Rests, Runs, Tied}
use Rattle.spec_run.proofs.acts.Keeping.{Keeps}
use Rattle.spec_run.proofs.steps.Stretch.{readings_all}
use Rattle.spec_run.proofs.steps.Bystanders.{DevicesTied, Apart, replayed, replayed_shapes, at_site_same, kept_bytes}
use Rattle.spec_run.proofs.steps.Steps.{nonzero, readings_long, readings_other, apart_there}
use Rattle.spec_run.proofs.steps.Nodes.{tied_node, device_here, reset_fares, reset_is_node, known_devices}
use Rattle.spec_run.proofs.acts.Outside.{same_tied, refused_fares}
use Rattle.spec_run.proofs.steps.Protecting.{append_none}
use Rattle.spec_run.proofs.steps.Foreign.{touches_fare}
use Rattle.spec_run.proofs.steps.Machine.{public_same}

-- the public bytes of a section are kept where an outcome's code writes only what it may
abbrev PublicBy : Section → List ℕ → Outcome → Type 0
PublicBy s m0 (Finished regs x) = KeptPublic s m0 x.mem
PublicBy s m0 (Violated v) = Unit {0}
PublicBy s m0 (Module regs x t e c) = KeptPublic s m0 x.mem

framed_by : (live : List Section) (s : Section) (m0 : List ℕ) (o : Outcome) → Lives live s → FramedBy live 0 m0 o → PublicBy s m0 o
framed_by live s m0 (Finished regs x) l f = framed_public live 0 s m0 x.mem l f
framed_by live s m0 (Violated v) l f = tt
framed_by live s m0 (Module regs x t e c) l f = framed_public live 0 s m0 x.mem l f

-- a deployed module that rests or is absent, where nothing changed its bytes or the sections
still_module : (set : Setting) (n m : ℕ) (q : PartTree) (site : Site) (s s2 : State) (x : Standing) (sent : List (List ℕ)) → IsNode s → s.cur ≡ 0 → s2.cur ≡ 0 → s2.sections ≡ s.sections
    → ((sec : Section) → Lives s.sections.live sec → KeptPublic sec s.mem s2.mem) → ((sec : Section) → Lives s.sections.live sec → PrivateKept sec s.mem s2.mem)
    → ModuleTied set n m q site s x sent → ModuleTied set n m q site s2 x sent
still_module set n m q site s s2 x sent node idle still same public private (Absent none f) =
    Absent none (λ sec l. let l2 : Lives s.sections.live sec = subst
    (λ (z : Sections). Lives z.live sec) same l in at_site_same n s.mem s2.mem sec site (public_same sec s.mem s2.mem (public sec l2)) ∙ f sec l2)
still_module set n m q site s s2 x sent node idle still same public private (Rests sec pr p i cur pend h) =
    Rests sec pr p (record {
      lives = subst (λ (z : Sections). Lives z.live sec)
          (sym same) i.lives;
      here = at_site_same n s.mem s2.mem sec site (public_same sec s.mem s2.mem (public sec i.lives)) ∙ i.here;
    })
    (λ e. nonzero s sec node i.lives (sym e ∙ still)) pend
    (subst (λ bs. SameState (ends_of set.app m) (state_of q.tree (ends_of set.app m) bs) pr.cells pr.ends sent) (sym (kept_bytes sec s.mem s2.mem (private sec i.lives))) h)
still_module set n m q site s s2 x sent node idle still same public private (Runs sec pr p i cur u) = absurd (nonzero s sec node i.lives (sym cur ∙ idle))

module _ (set : Setting) (w : World) (mo : Model) (n : ℕ) (s : State) (sound : IsSoundSetting set) (t : Tied set w mo) (here : slice_get w.nodes n ≡ Some s) (idle : s.cur ≡ 0) where
  boot_i : (boot : ℕ) × (slice_get mo.boots n ≡ Some boot)
  boot_i = get_some mo.boots n (omega (arith, get_within w.nodes n s here, t.size.nodes, t.size.boots))

  node_i : NodeTied set n s boot_i.0
  node_i = t.nodes n s boot_i.0 here boot_i.1

  tied_i : DevicesTied set.app n s.devices mo.devices
  tied_i k x y a b = t.devices n k s x y here a b

  apart_i : Apart set.app n s.devices
  apart_i = apart_there set n s.devices sound node_i.windows

  strange : (k : ℕ) (site : Site) (sec : Section) → slice_get set.sites k ≡ Some site → Lives s.sections.live sec → is_at_site n s.mem sec site ≡ true → (0 ≢ sec.id) × (s.cur ≢ sec.id)
  strange k site sec sk l at = (λ e. nonzero s sec node_i.node l (sym e), λ e. nonzero s sec node_i.node l (sym e ∙ idle))

  -- where it ends: touches of code of no module, and bytes outside the sections
  module _ (regs : List ℕ) (x : Moment) (traced : Replays s.sections.live 0 x.touches s.devices x.devices) (public : (sec : Section) → Lives s.sections.live sec → KeptPublic sec s.mem x.mem)
      (private : (sec : Section) → Lives s.sections.live sec → PrivateKept sec s.mem x.mem) (node : IsNode (machine_interrupted s (Finished regs x)).state) where
    abbrev s2 : State
    s2 = (machine_interrupted s (Finished regs x)).state

    abbrev reads : List Reading
    reads = readings_all set.app n (marks_of_touches x.touches) mo.devices

    abbrev mo2 : Model
    mo2 = record { boots = mo.boots; devices = reads; modules = mo.modules; sent = mo.sent; asks = mo.asks; epochs = mo.epochs }

    ended_tied : Tied set (with_node w n s2 w.ledger w.steps) mo2
    ended_tied = tied_node set w n mo s s2 w.ledger w.steps mo2 here t (record {
      epochs = refl;
      boots_size = refl;
      devices_size = readings_long set.app n (marks_of_touches x.touches) mo.devices;
      modules_size = refl;
      sent_size = refl;
      asks = refl;
      other_boots = λ k ne. refl;
      node = λ boot e. record {
        windows = replayed_shapes 0 s.sections.live x.touches s.devices x.devices traced ∙ node_i.windows;
        node = node;
        runner = inl idle;
        count = node_i.count ∙ some_inj boot_i.0 boot (sym boot_i.1 ∙ e);
      };
      devices_here = λ k x2 r2 xk rk. replayed set.app n 0 s.sections.live x.touches s.devices x.devices mo.devices traced apart_i tied_i k x2 r2 xk rk;
      devices_else = λ j k z x2 ne zk xk.
          let bj : (b : ℕ) × (slice_get mo.boots j ≡ Some b) = get_some mo.boots j (omega (arith, get_within w.nodes j z zk, t.size.nodes, t.size.boots)) in
          let d = device_here set j k z.devices x2 sound (t.nodes j z bj.0 zk bj.1).windows xk in
          readings_other set.app n 0 s.sections.live x.touches s.devices x.devices mo.devices (device_number set.app j k) traced (λ i v vi same_d.
          let d2 = device_here set n i s.devices v sound node_i.windows vi in
          let dd : d.0 ≡ d2.0 = some_inj d.0 d2.0 (sym d.1 ∙ subst (λ g. slice_get set.app.devices g ≡ Some d2.0) (sym same_d) d2.1) in
          absurd (ne (sym d.2 ∙ ap (λ (g : AppDevice). g.node) dd ∙ d2.2)));
      modules_here = λ m q site z pk on_node sk zk. still_module set n m q site s s2 z mo.sent node_i.node idle idle refl public private
          (subst (λ j. ModuleTied set j m q site s z mo.sent) on_node (t.modules m q site s z pk sk (subst (λ j. slice_get w.nodes j ≡ Some s) (sym on_node) here) zk));
      modules_else = λ m q site z y pk ne sk zk yk. t.modules m q site z y pk sk zk yk;
      standing = λ m z zk. (z, zk, refl, refl);
      known = λ e h. known_devices set.app mo reads e.maker e (t.ledger e h);
      sane = record { small = t.sane.small; timely = t.sane.timely; unsent = t.sane.unsent };
    })

    ended_fares : Fares (judge set.app mo (touch_items set.app n None x.touches ++ [])) (Tied set (with_node w n s2 w.ledger w.steps))
    ended_fares =
        subst (λ items. Fares (judge set.app mo items) (Tied set (with_node w n s2 w.ledger w.steps))) (sym (append_none (touch_items set.app n None x.touches)))
        (fares_map (judge set.app mo (touch_items set.app n None x.touches)) (λ z. z ≡ mo2) (Tied set (with_node w n s2 w.ledger w.steps))
        (λ z e. subst (λ a. Tied set (with_node w n s2 w.ledger w.steps) a) (sym e) ended_tied)
        (touches_fare set w mo n s boot_i.0 sound t here boot_i.1 0 strange x.touches s.devices x.devices mo.devices refl t.size.devices traced apart_i tied_i))

  by_outcome : (o : Outcome) → TracedBy s.sections.live 0 s.devices o → ((sec : Section) → Lives s.sections.live sec → PublicBy sec s.mem o)
      → ((sec : Section) → Lives s.sections.live sec → KeptBy sec s.mem o)
      → IsNode (machine_interrupted s o).state
      → (let a = after_interrupt set w n (machine_interrupted s o).state (Ok (machine_interrupted s o).shown) in Fares (judge set.app mo a.items) (Tied set a.world))
  by_outcome (Finished regs x) traced public private node = ended_fares regs x traced public private node
  by_outcome (Violated v) traced public private node = reset_fares set w mo n s sound reset_is_node t here (cause_of v) w.steps
  by_outcome (Module regs x u e c) traced public private node = same_tied set w mo n s t here

pub irq_keeps : (set : Setting) → IsSoundSetting set → (w : World) (n line : ℕ) (s : State) → slice_get w.nodes n ≡ Some s → Keeps set w (after_interrupt set w n (irq s line).state (irq s line).shown)
irq_keeps set sound w n line s here mo t = by (irq_refusal s) refl
  where
    by : (r : Option Refused) → irq_refusal s ≡ r → (let i = unless r s
        (machine_interrupted s (exec s.sections 0 (interrupt line s.regs) (start s))) in let a = after_interrupt set w n i.state i.shown in Fares
        (judge set.app mo a.items) (Tied set a.world))
    by None e =
        let idle = irq_idle s e in
        let o = exec s.sections 0 (interrupt line s.regs) (start s) in
        let node = (node_i set w mo n s sound t here idle).node in
        by_outcome set w mo n s sound t here idle o (interrupt_traced line s node)
        (λ sec l. framed_by s.sections.live sec s.mem (exec s.sections 0 (interrupt line s.regs) (start s)) l (exec_framed s.sections 0 s.mem (interrupt line s.regs) (start s) (λ k p. refl)))
        (λ sec l. exec_kept s.sections 0 sec l (λ z. nonzero s sec node l (sym z)) (interrupt line s.regs) s.mem (start s) (λ k p. refl))
        (interrupted_is_node s o idle node (interrupt_ranged s line node))
    by (Some why) e = refused_fares set n why mo (Tied set w) t
