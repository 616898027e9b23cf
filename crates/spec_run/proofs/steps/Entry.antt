-- A step of a deployed module's code while the module rests: it is refused, or it is the first of an invocation.
use Rattle.std.proofs.Common.{◌≡◌, ◌≢◌, ℕ, inl, inr, ◌==◌, ◌||◌, not, Bool, true, false, cond, if◌then◌else◌, List, [], ◌∷◌, Option, Some, None, refl, sym, ◌∙◌, ap, subst}
use Rattle.std.specs.Prelude.{slice_get}
use Rattle.std.proofs.lemmas.Bool.{true≢false, and_parts, eqb-true, or_cases, not-true, and_from, eq-eqb}
use Rattle.std.proofs.lemmas.Slice.Eq.{bytes_eq-Decides}
use Rattle.sx_lang.specs.declared.tree.DeviceKind.{DeviceKind}
use Rattle.sx_lang.specs.declared.tree.DeviceKind.TheVariants as declared
use Rattle.sx_mean.specs.Application.{declared_kind, PartTree}
use Rattle.sx_rules.specs.declared.access.Violation.{Violation}
use Rattle.sx_rules.specs.declared.access.Violation.TheVariants as bad
use Rattle.sx_rules.specs.declared.section.Section.{Section}
use Rattle.sx_rules.specs.declared.section.Layout.{Layout}
use Rattle.sx_rules.specs.Access.{Sections, Lives, holder, in_public, in_order}
use Rattle.sx_rules.specs.Placed.{Placed}
use Rattle.sx_rules.proofs.Placing.{placed_found}
use Rattle.sx_bus.specs.declared.devices.Kind.{Kind}
use Rattle.sx_bus.specs.declared.devices.Window.{Window}
use Rattle.sx_bus.specs.Devices.{device_at, powered_on}
use Rattle.sx_tag.specs.Mac.{Mac}
use Rattle.spec_machine.specs.declared.kinds.Event.TheVariants as event
use Rattle.spec_machine.specs.State.{State}
use Rattle.spec_machine.specs.Run.{Violated, device_of}
use Rattle.spec_machine.specs.Step.{step, own_of, pc_of, word_outside, ordered, instruction, settled_step}
use Rattle.spec_machine.proofs.PlanGuard.{passes}
use Rattle.spec_invocation.specs.Setup.{Setup}
use Rattle.spec_invocation.specs.ModuleState.{state_of}
use Rattle.sx_image.specs.Watched.{violation_of}
use Rattle.spec_invocation.specs.Progress.{Invoked, marks_in}
use Rattle.spec_invocation.specs.Invocation.{invoke}
use Rattle.sx_image.specs.Image.{Enters, private_bytes, public_bytes, setup_at, call_at, progress_at}
use Rattle.spec_invocation.specs.Devices.{Drives, HasDevices}
use Rattle.sx_image.specs.Realizes.{Exited}
use Rattle.sx_mean.specs.Ends.{ends_of}
use Rattle.sx_model.specs.order.State.{Present}
use Rattle.spec_run.specs.Setting.{Site, Setting, same_layout, is_at_site, windows_at}
use Rattle.spec_run.specs.Law.{image_at, devices_of, IsDeployedModule}
use Rattle.spec_run.proofs.tie.Lists.{some_inj}
use Rattle.spec_run.proofs.tie.Tied.{SameState, Begun, Yet, IsUnderWay, shapes, NodeTied, IsModule}
use Rattle.spec_machine.proofs.Devices.{device_at_same, window_same, device_of_parts}

-- Devices of the same places and kinds.

pub device_of_from : (a : List Window) (at k : ℕ) (w : Window) → device_at a at ≡ Some k → slice_get a k ≡ Some w → device_of a at ≡ Some (k, w)
device_of_from a at k w d g = rw (d, g) refl

pub drives_same : (a b : List Window) (kind : Kind) (l : Layout) → shapes a ≡ shapes b → Drives a kind l → Drives b kind l
drives_same a b kind l e h =
    let p = device_of_parts a l.priv_from h.device h.window h.found in
    let v = window_same a b h.device h.window e p.1 in
    record {
      device = h.device;
      window = v.0;
      found = device_of_from b l.priv_from h.device v.0 (sym (device_at_same a b l.priv_from e) ∙ p.0) v.1;
      at_start = v.2 ∙ h.at_start;
      kind = v.3 ∙ h.kind;
      alone = λ at lo hi. sym (device_at_same a b at e) ∙ h.alone at lo hi;
    }

pub has_devices_same : (a b : List Window) (kind : Option DeviceKind) (l : Layout) → shapes a ≡ shapes b → HasDevices a kind l → HasDevices b kind l
has_devices_same a b None l e h = λ at lo hi. sym (device_at_same a b at e) ∙ h at lo hi
has_devices_same a b (Some declared.Sensor) l e h = drives_same a b _ l e h
has_devices_same a b (Some declared.Actuator) l e h = drives_same a b _ l e h

pub shapes_on : (xs : List (ℕ × Kind)) → shapes (powered_on xs) ≡ xs
shapes_on [] = refl
shapes_on (x ∷ xs) = ap (λ r. x ∷ r) (shapes_on xs)

-- A section at a site.

pub record AtSite (n : ℕ) (mem : List ℕ) (sec : Section) (site : Site) : Type 0 where
  pub node : site.node ≡ n
  pub layout : sec.layout ≡ site.layout
  pub provider : sec.provider ≡ site.provider
  pub text : public_bytes sec.layout mem ≡ site.text

pub layout_self : (l : Layout) → same_layout l l ≡ true
layout_self l =
    and_from (l.pub_from == l.pub_from) _ (eq-eqb l.pub_from l.pub_from refl)
    (and_from (l.pub_to == l.pub_to) _ (eq-eqb l.pub_to l.pub_to refl)
    (and_from (l.priv_from == l.priv_from) (l.priv_to == l.priv_to) (eq-eqb l.priv_from l.priv_from refl) (eq-eqb l.priv_to l.priv_to refl)))

layout_same : (a b : Layout) → same_layout a b ≡ true → a ≡ b
layout_same a b e =
    let p = and_parts (a.pub_from == b.pub_from) _ e in
    let q = and_parts (a.pub_to == b.pub_to) _ p.1 in
    let r = and_parts (a.priv_from == b.priv_from) (a.priv_to == b.priv_to) q.1 in
    ap (λ z. record { pub_from = z; pub_to = a.pub_to; priv_from = a.priv_from; priv_to = a.priv_to }) (eqb-true a.pub_from b.pub_from p.0)
    ∙ ap (λ z. record { pub_from = b.pub_from; pub_to = z; priv_from = a.priv_from; priv_to = a.priv_to }) (eqb-true a.pub_to b.pub_to q.0)
    ∙ ap (λ z. record { pub_from = b.pub_from; pub_to = b.pub_to; priv_from = z; priv_to = a.priv_to }) (eqb-true a.priv_from b.priv_from r.0)
    ∙ ap (λ z. record { pub_from = b.pub_from; pub_to = b.pub_to; priv_from = b.priv_from; priv_to = z }) (eqb-true a.priv_to b.priv_to r.1)

pub at_site : (n : ℕ) (mem : List ℕ) (sec : Section) (site : Site) → is_at_site n mem sec site ≡ true → AtSite n mem sec site
at_site n mem sec site e =
    let p = and_parts (site.node == n) _ e in
    let q = and_parts (same_layout sec.layout site.layout) _ p.1 in
    let r = and_parts (sec.provider == site.provider) _ q.1 in
    record {
      node = eqb-true site.node n p.0;
      layout = layout_same sec.layout site.layout q.0;
      provider = eqb-true sec.provider site.provider r.0;
      text = (bytes_eq-Decides _ site.text).0 r.1;
    }

-- The order of a step.

some_none : (v : Violation) → ◌≡◌ {A = Option Violation} (Some v) None → ⊥
some_none v e = cc

ordered_quiet : (mac : Mac) (s : State) (d : Option ℕ) → violation_of (settled_step s (ordered mac s d)).shown.event ≡ None → in_order s.sections.live s.cur (pc_of s) ≡ true
ordered_quiet mac s (Some d) q = absurd (some_none bad.Device q)
ordered_quiet mac s None q = order_if (in_order s.sections.live s.cur (pc_of s)) q
  where
    order_if : (b : Bool) → violation_of (settled_step s (cond b (instruction mac s) (Violated bad.Order))).shown.event ≡ None → b ≡ true
    order_if true q = refl
    order_if false q = absurd (some_none bad.Order q)

-- a step that is no violation is in order
pub quiet_order : (mac : Mac) (s : State) → violation_of (step mac s).shown.event ≡ None → in_order s.sections.live s.cur (pc_of s) ≡ true
quiet_order mac s q = outside_if (word_outside s.sections.live (pc_of s)) q
  where
    outside_if : (b : Bool) → violation_of (settled_step s (cond b (ordered mac s (device_at s.devices (pc_of s))) (Violated bad.Fetch))).shown.event
        ≡ None → in_order s.sections.live s.cur (pc_of s) ≡ true
    outside_if true q = ordered_quiet mac s (device_at s.devices (pc_of s)) q
    outside_if false q = absurd (some_none bad.Fetch q)

-- the section that holds a byte
pub record Holding (live : List Section) (at : ℕ) : Type 0 where
  pub section : Section
  pub lives : Lives live section
  pub inside : in_public section at ≡ true
  pub id : holder live at ≡ section.id

pub holding : (live : List Section) (at : ℕ) → (holder live at ≢ 0) → Holding live at
holding [] at ne = absurd (ne refl)
holding (x ∷ live) at ne = held_if (in_public x at) refl ne (λ n. holding live at n)
  where
    held_if : (b : Bool) → in_public x at ≡ b → ((if b then x.id else holder live at) ≢ 0) → ((holder live at ≢ 0) → Holding live at) → Holding (x ∷ live) at
    held_if true e n f = record { section = x; lives = inl refl; inside = e; id = rw e refl }
    held_if false e n f = let h = f n in record { section = h.section; lives = inr h.lives; inside = h.inside; id = rw e h.id }

-- where a live section's id is that of the holder, it holds the byte
pub held_by : (t : Sections) (sec : Section) (at : ℕ) → Placed t → Lives t.live sec → sec.id ≢ 0 → holder t.live at ≡ sec.id → in_public sec at ≡ true
held_by t sec at pl lives nz e =
    let h = holding t.live at (λ z. nz (sym e ∙ z)) in
    let a = placed_found t sec pl lives in
    let b = placed_found t h.section pl h.lives in
    let same : sec ≡ h.section = some_inj sec h.section (sym a ∙ subst (λ i. Rattle.sx_rules.specs.Access.section_of t.live i ≡ Some h.section) (sym (sym e ∙ h.id)) b) in
    subst (λ (z : Section). in_public z at ≡ true) (sym same) h.inside

-- The entry.

pub quiet_left : (id : ℕ) → ◌≡◌ {A = Rattle.spec_machine.specs.declared.kinds.Event.Event} event.Quiet (event.Left id) → ⊥
quiet_left id e = cc

module _ (set : Setting) (m : ℕ) (q : PartTree) (site : Site) (s : State) (sec : Section) (boot : ℕ) (deployed : IsDeployedModule set m q site)
    (node : NodeTied set q.node s boot) (is : IsModule q.node site s sec) (rests : s.cur ≢ sec.id) (own : own_of s ≡ sec.id) (nonzero : sec.id ≢ 0)
    (quiet : violation_of (step set.mac s).shown.event ≡ None) where
  abbrev here : AtSite q.node s.mem sec site
  here = at_site q.node s.mem sec site is.here

  idle : s.cur ≡ 0
  idle = elim node.runner [ inl z ↦ z | inr h ↦ absurd (rests (sym h ∙ own)) ]

  at_entry : pc_of s ≡ site.layout.pub_from
  at_entry =
      let p = passes (λ (x : Section). not (in_public x (pc_of s)) || (s.cur == x.id || pc_of s == x.layout.pub_from)) s.sections.live sec is.lives (quiet_order set.mac s quiet) in
      let inside = held_by s.sections sec (pc_of s) node.node.placed is.lives nonzero own in
      elim (or_cases (not (in_public sec (pc_of s))) _ p) [
        | inl e ↦ absurd (true≢false (sym inside ∙ not-true (in_public sec (pc_of s)) e))
        | inr e ↦ elim (or_cases (s.cur == sec.id) (pc_of s == sec.layout.pub_from) e) [
          | inl c ↦ absurd (rests (eqb-true s.cur sec.id c))
          | inr c ↦ eqb-true (pc_of s) sec.layout.pub_from c ∙ ap (λ (l : Layout). l.pub_from) here.layout
        ]
      ]

  same_shapes : shapes (devices_of set q.node) ≡ shapes s.devices
  same_shapes = shapes_on (windows_at q.node set.app.devices set.places) ∙ sym node.windows

  enters : Enters q.tree (image_at site) sec s
  enters = record {
    node = node.node;
    idle = idle;
    entry = at_entry;
    stands = record { lives = is.lives; layout = here.layout; provider = here.provider; text = subst (λ (l : Layout). public_bytes l s.mem ≡ site.text) here.layout here.text };
    devices = has_devices_same (devices_of set q.node) s.devices (declared_kind q.tree.decls) site.layout same_shapes deployed.devices;
  }

  abbrev setup : Setup
  setup = setup_at set.mac q.tree (ends_of set.app m) sec s

  abbrev result : Invoked
  result = invoke setup (call_at s) (progress_at setup s)

  -- it hasn't left yet
  not_left_yet : Exited setup result s (record { node = s; marks = []; event = event.Quiet }) → ⊥
  not_left_yet out = quiet_left sec.id out.left

  -- the module is under way, with all of the invocation's marks to come
  pub under_way_at_entry : (pr : Present) (sent : List (List ℕ)) → pr.pending ≡ None
      → SameState (ends_of set.app m) (state_of q.tree (ends_of set.app m) (private_bytes sec.layout s.mem)) pr.cells pr.ends sent
      → Begun set.app q.node m q s.devices (state_of q.tree (ends_of set.app m) (private_bytes sec.layout s.mem)) (marks_in result) result
      → (u : IsUnderWay set q.node m q s sec pr sent)
      × (Exited (setup_at set.mac q.tree (ends_of set.app m) sec u.before) u.result u.before (record { node = s; marks = u.seen; event = u.last }) → ⊥)
  under_way_at_entry pr sent pend same begun =
      let u : IsUnderWay set q.node m q s sec pr sent = record {
        before = s;
        bound = _;
        seen = [];
        last = event.Quiet;
        rest = marks_in result;
        result = result;
        comes = deployed.realizes.runs sec s enters;
        all = refl;
        owes = Yet (state_of q.tree (ends_of set.app m) (private_bytes sec.layout s.mem)) pend same begun;
      } in
      (u, not_left_yet)
