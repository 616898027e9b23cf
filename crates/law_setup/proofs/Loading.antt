-- A deployed module is loaded.
use Rattle.std.proofs.Common.{◌≡◌, ℕ, ◌+◌, ◌-◌, ◌*◌, ◌/◌, ◌<◌, ◌≤◌, ◌⊎◌, inl, inr, ◌==◌, ◌&&◌, ◌||◌, not, Bool, true, false, if◌then◌else◌, List, [], ◌∷◌}
use Rattle.std.proofs.Common.{length, replicate, Option, Some, None, refl, sym, ◌∙◌, ap, subst, arith}
use Rattle.std.specs.Prelude.{All, nat_le, nat_lt, option_and_then, slice_get, slice_index, slice_set}
use Rattle.std.proofs.lemmas.Bool.{and_from, and_parts, cases_Bool, eq-eqb, leb-true, ltb-true}
use Rattle.std.proofs.lemmas.List.{get_or-set_same, get_or-set_other, length-set}
use Rattle.sx_rules.specs.declared.section.Section.{Section}
use Rattle.sx_rules.specs.declared.section.Layout.{Layout}
use Rattle.sx_rules.specs.Access.{Lives, Sections, holder, in_order, in_private, in_public, outside_private, section_of}
use Rattle.sx_rules.specs.Admission.{admitted, apart, clear_of, parts_apart, refusal}
use Rattle.sx_rules.proofs.Admits.{admits}
use Rattle.sx_rules.proofs.Placing.{placed_found}
use Rattle.sx_bus.specs.Devices.{device_at, places_of}
use Rattle.sx_mean.specs.Application.{PartTree}
use Rattle.sx_mean.specs.Ends.{ends_of}
use Rattle.sx_lang.specs.Sizes.{module_data_size}
use Rattle.sx_trace.specs.declared.items.Item.TheVariants as item
use Rattle.spec_machine.specs.declared.kinds.Event.TheVariants as event
use Rattle.spec_machine.specs.declared.kinds.Seen.{Seen}
use Rattle.spec_machine.specs.Memory.{bytes_from, put_bytes, word}
use Rattle.spec_machine.specs.State.{State}
use Rattle.spec_machine.specs.Node.{IsNode}
use Rattle.spec_machine.specs.Run.{Outcome}
use Rattle.spec_machine.specs.Given.{Given}
use Rattle.spec_machine.specs.Protect.{layout_in, protect, protected_if, provider_in}
use Rattle.spec_machine.specs.Step.{Shown, attempt, given_at_pc, instruction, own_of, pc_of, settled_step, step, word_outside}
use Rattle.spec_machine.proofs.Frame.{zeroed_other, all_pass}
use Rattle.spec_machine.proofs.PlanGuard.{passes}
use Rattle.spec_machine.proofs.Meanings.{same_bytes, end_lives}
use Rattle.spec_machine.proofs.Stays.{put_is_node, set_is_node, step_is_node}
use Rattle.sx_image.specs.Image.{private_bytes, public_bytes}
use Rattle.spec_invocation.specs.ModuleState.{state_of}
use Rattle.sx_tag.specs.Keys.{identity, module_key, section_key}
use Rattle.spec_run.specs.Setting.{Site, Setting, deployed, is_at_site, module_of}
use Rattle.spec_run.specs.Deployer.{key_of, list_at}
use Rattle.spec_run.specs.Ledger.{Made}
use Rattle.spec_run.specs.Run.{protect_registers}
use Rattle.spec_run.specs.Observation.{Observed, observed}
use Rattle.spec_run.specs.State.{World, Acted}
use Rattle.spec_run.specs.Acts.{after_step, at_node, only, then_, with_node}
use Rattle.spec_run.specs.Run.{load, put_on, put_pieces, set_all, steps_of, is_reset}
use Rattle.spec_run.specs.Law.{IsLawfulSetting, IsDeployedModule}
use Rattle.lemmas.proofs.Lists.{get_same}
use Rattle.spec_run.proofs.steps.Machine.{fresh_sections}
use Rattle.spec_run.proofs.steps.Entry.{at_site}
use Rattle.spec_run.proofs.steps.Bystanders.{apart_self}
use Rattle.law_calls.proofs.Registering.{all_set, node_twice, with_register, with_registers}
use Rattle.law_calls.proofs.Runner.{own_site, first_is}
use Rattle.spec_machine.proofs.PublicKept.{put_other}
use Rattle.spec_machine.proofs.Lengths.{length-put_bytes}
use Rattle.spec_run.proofs.steps.Steps.{bounds_of}
use Rattle.law_setup.proofs.forms.Loaded.{IsLoadable, IsLoaded, LoadDoes, ModuleLoaded}
use Rattle.law_setup.proofs.Bytes.{bytes_put}
use Rattle.law_setup.proofs.Free.{IsOpen, low_open, no_device_low, one_put, open_free, pieces_put, with_mem}
use Rattle.law_invocation.proofs.Low.{below_from}

-- the image is put, and protected
abbrev after_loading : Setting → Site → World → Acted
after_loading set site w =
    then_ (put_pieces site.node ((length site.text + 1023) / 1024) site.layout.pub_from site.text w)
    (λ w1. then_ (put_on site.node 0 (0x81 ∷ 0x13 ∷ []) w1) (λ w2. then_ (set_all site.node (protect_registers site) w2) (steps_of set (λ s. false) [] site.node 1)))

-- Registers of the instruction.

abbrev given_regs : Site → List ℕ → List ℕ
given_regs site regs =
    slice_set (slice_set (slice_set (slice_set (slice_set (slice_set regs 9 site.provider) 10 site.layout.pub_from) 11 site.layout.pub_to) 12 site.layout.priv_from) 13 site.layout.priv_to) 0 0

module _ (site : Site) (regs : List ℕ) (size : length regs ≡ 16) where
  abbrev r1 : List ℕ
  r1 = slice_set regs 9 site.provider

  abbrev r2 : List ℕ
  r2 = slice_set r1 10 site.layout.pub_from

  abbrev r3 : List ℕ
  r3 = slice_set r2 11 site.layout.pub_to

  abbrev r4 : List ℕ
  r4 = slice_set r3 12 site.layout.priv_from

  abbrev r5 : List ℕ
  r5 = slice_set r4 13 site.layout.priv_to

  l1 : length r1 ≡ 16
  l1 = length-set regs 9 site.provider ∙ size

  l2 : length r2 ≡ 16
  l2 = length-set r1 10 site.layout.pub_from ∙ l1

  l3 : length r3 ≡ 16
  l3 = length-set r2 11 site.layout.pub_to ∙ l2

  l4 : length r4 ≡ 16
  l4 = length-set r3 12 site.layout.priv_from ∙ l3

  l5 : length r5 ≡ 16
  l5 = length-set r4 13 site.layout.priv_to ∙ l4

  pub given_pc : slice_index (given_regs site regs) 0 ≡ 0
  given_pc = get_or-set_same r5 0 0 0 (omega (arith, l5))

  pub given_provider : slice_index (given_regs site regs) 9 ≡ site.provider
  given_provider =
      get_or-set_other r5 0 9 0 0 (λ h. omega (arith, h)) ∙ get_or-set_other r4 13 9 site.layout.priv_to 0 (λ h. omega (arith, h)) ∙ get_or-set_other r3 12 9 site.layout.priv_from 0 (λ h. omega (arith, h))
      ∙ get_or-set_other r2 11 9 site.layout.pub_to 0 (λ h. omega (arith, h)) ∙ get_or-set_other r1 10 9 site.layout.pub_from 0 (λ h. omega (arith, h)) ∙ get_or-set_same regs 9 site.provider 0 (omega (arith, size))

  g10 : slice_index (given_regs site regs) 10 ≡ site.layout.pub_from
  g10 =
      get_or-set_other r5 0 10 0 0 (λ h. omega (arith, h)) ∙ get_or-set_other r4 13 10 site.layout.priv_to 0 (λ h. omega (arith, h)) ∙ get_or-set_other r3 12 10 site.layout.priv_from 0 (λ h. omega (arith, h))
      ∙ get_or-set_other r2 11 10 site.layout.pub_to 0 (λ h. omega (arith, h)) ∙ get_or-set_same r1 10 site.layout.pub_from 0 (omega (arith, l1))

  g11 : slice_index (given_regs site regs) 11 ≡ site.layout.pub_to
  g11 =
      get_or-set_other r5 0 11 0 0 (λ h. omega (arith, h)) ∙ get_or-set_other r4 13 11 site.layout.priv_to 0 (λ h. omega (arith, h)) ∙ get_or-set_other r3 12 11 site.layout.priv_from 0 (λ h. omega (arith, h))
      ∙ get_or-set_same r2 11 site.layout.pub_to 0 (omega (arith, l2))

  g12 : slice_index (given_regs site regs) 12 ≡ site.layout.priv_from
  g12 = get_or-set_other r5 0 12 0 0 (λ h. omega (arith, h)) ∙ get_or-set_other r4 13 12 site.layout.priv_to 0 (λ h. omega (arith, h)) ∙ get_or-set_same r3 12 site.layout.priv_from 0 (omega (arith, l3))

  g13 : slice_index (given_regs site regs) 13 ≡ site.layout.priv_to
  g13 = get_or-set_other r5 0 13 0 0 (λ h. omega (arith, h)) ∙ get_or-set_same r4 13 site.layout.priv_to 0 (omega (arith, l4))

  pub given_layout : layout_in (given_regs site regs) ≡ site.layout
  given_layout =
      let g = given_regs site regs in
      ap (λ x. record { pub_from = x; pub_to = slice_index g 11; priv_from = slice_index g 12; priv_to = slice_index g 13 }) g10
      ∙ ap (λ x. record { pub_from = site.layout.pub_from; pub_to = x; priv_from = slice_index g 12; priv_to = slice_index g 13 }) g11
      ∙ ap (λ x. record { pub_from = site.layout.pub_from; pub_to = site.layout.pub_to; priv_from = x; priv_to = slice_index g 13 }) g12
      ∙ ap (λ x. record { pub_from = site.layout.pub_from; pub_to = site.layout.pub_to; priv_from = site.layout.priv_from; priv_to = x }) g13

-- What is below_from 0x0200.

no_holder : (live : List Section) (at : ℕ) → ((x : Section) → Lives live x → at < x.layout.pub_from) → holder live at ≡ 0
no_holder [] at h = refl
no_holder (x ∷ live) at h =
    ap (λ b. if b then x.id else holder live at) (below_from x.layout.pub_from at (nat_lt at x.layout.pub_to) (h x (inl refl)))
    ∙ no_holder live at (λ y l. h y (inr l))

-- either way it is no module
zero_or : (b : Bool) (own : ℕ) → own ≡ 0 → (if b then own else 0) ≡ 0
zero_or true own h = h
zero_or false own h = refl

-- The instruction, on a node that is ready for it.
pub record IsReadyToProtect (set : Setting) (m : ℕ) (q : PartTree) (site : Site) (s : State) : Type 0 where
  pub part : slice_get set.app.parts m ≡ Some q
  pub sited : slice_get set.sites m ≡ Some site
  pub node : IsNode s
  pub idle : s.cur ≡ 0
  pub boot : s.boot ≡ 0
  pub key : s.key ≡ list_at set.keys site.node
  pub sections : (x : Section) → Lives s.sections.live x → (512 ≤ x.layout.pub_from) × (512 ≤ x.layout.priv_from)
  pub devices : All (λ at. 512 ≤ at) (places_of s.devices)
  pub high : (512 ≤ site.layout.pub_from) × (512 ≤ site.layout.priv_from)
  pub free : refusal s.sections site.layout (places_of s.devices) ≡ None
  pub regs : (old : List ℕ) × (length old ≡ 16) × (s.regs ≡ given_regs site old)
  pub text : public_bytes site.layout s.mem ≡ site.text
  pub code : (slice_index s.mem 0 ≡ 0x81) × (slice_index s.mem 1 ≡ 0x13)

module _ (set : Setting) (m : ℕ) (q : PartTree) (site : Site) (s : State) (sound : IsLawfulSetting set) (h : IsReadyToProtect set m q site s) where
  pc : pc_of s ≡ 0
  pc = ap (λ r. slice_index r 0) h.regs.2 ∙ given_pc site h.regs.0 h.regs.1

  layout : layout_in s.regs ≡ site.layout
  layout = ap layout_in h.regs.2 ∙ given_layout site h.regs.0 h.regs.1

  provider : provider_in s.regs ≡ site.provider
  provider = ap (λ r. slice_index r 9) h.regs.2 ∙ given_provider site h.regs.0 h.regs.1

  outside : (at : ℕ) → at < 512 → outside_private s.sections.live at ≡ true
  outside at lt =
      all_pass (λ x. not (in_private x at)) s.sections.live
      (λ x l. ap not (below_from x.layout.priv_from at (nat_lt at x.layout.priv_to) (let a = (h.sections x l).1 in omega (arith, lt, a))))

  lets_word : word_outside s.sections.live (pc_of s) ≡ true
  lets_word =
      ap (word_outside s.sections.live) pc ∙ and_from (outside_private s.sections.live 0) (outside_private s.sections.live 1) (outside 0 (omega arith)) (outside 1 (omega arith))

  no_device_there : device_at s.devices (pc_of s) ≡ None
  no_device_there = ap (device_at s.devices) pc ∙ no_device_low s.devices 0 0 h.devices (omega arith)

  ordered_there : in_order s.sections.live s.cur (pc_of s) ≡ true
  ordered_there =
      ap (in_order s.sections.live s.cur) pc
      ∙ all_pass (λ x. not (in_public x 0) || ((s.cur == x.id) || (0 == x.layout.pub_from))) s.sections.live
      (λ x l. ap (λ b. not b || ((s.cur == x.id) || (0 == x.layout.pub_from))) (below_from x.layout.pub_from 0 (nat_lt 0 x.layout.pub_to) (let a = (h.sections x l).0 in omega (arith, a))))

  own : own_of s ≡ 0
  own = ap (holder s.sections.live) pc ∙ no_holder s.sections.live 0 (λ x l. let a = (h.sections x l).0 in omega (arith, a))

  word_there : word s.mem (pc_of s) ≡ 0x1381
  word_there =
      ap (word s.mem) pc ∙ ap (λ a. a + 256 * slice_index s.mem 1) h.code.0 ∙ ap (λ b. 0x81 + 256 * b) h.code.1

  abbrev g : Given
  g = given_at_pc set.mac s

  abbrev out : Outcome
  out = protected_if set.mac g s.mem site.layout None

  protects : protect set.mac g s.mem ≡ out
  unfolding protect
  protects =
      ap (λ l. protected_if set.mac g s.mem l (refusal s.sections l (places_of s.devices))) layout ∙ ap (protected_if set.mac g s.mem site.layout) h.free

  instruction_is : instruction set.mac s ≡ out
  instruction_is =
      ap (λ v. if Rattle.spec_machine.specs.Step.is_module_word v then Rattle.spec_machine.specs.Modules.module_instruction set.mac (v - 0x1380) g s.mem
      else Rattle.spec_machine.specs.Run.exec s.sections (own_of s) (Rattle.spec_machine.specs.Rows.program v s.regs) (Rattle.spec_machine.specs.Step.start s)) word_there
      ∙ protects

  attempt_is : attempt set.mac s ≡ out
  attempt_is =
      ap (λ b. if b then Rattle.spec_machine.specs.Step.ordered set.mac s (device_at s.devices (pc_of s)) else
      Rattle.spec_machine.specs.Run.Violated Rattle.sx_rules.specs.declared.access.Violation.TheVariants.Fetch) lets_word
      ∙ ap (Rattle.spec_machine.specs.Step.ordered set.mac s) no_device_there
      ∙ ap (λ b. if b then instruction set.mac s else Rattle.spec_machine.specs.Run.Violated Rattle.sx_rules.specs.declared.access.Violation.TheVariants.Order) ordered_there
      ∙ instruction_is

  abbrev r : Shown Seen
  r = settled_step s out

  pub step_there : step set.mac s ≡ r
  step_there = ap (settled_step s) attempt_is

  abbrev pub protected_state : State
  protected_state = r.state

  abbrev t : State
  t = r.state

  pub is_node_after : IsNode t
  is_node_after = subst (λ z. IsNode (z.state)) step_there (step_is_node set.mac s h.node)

  pub idle_after : t.cur ≡ 0
  idle_after = zero_or _ (own_of s) own

  identity_same : Rattle.spec_machine.specs.Protect.identity_at s.mem site.layout ≡ identity site.text site.layout.pub_from site.layout.pub_to site.layout.priv_from site.layout.priv_to
  identity_same = ap (λ x. identity x site.layout.pub_from site.layout.pub_to site.layout.priv_from site.layout.priv_to) h.text

  key_same : Rattle.spec_machine.specs.Protect.key_for set.mac g s.mem site.layout ≡ key_of set site 0
  unfolding module_key
  key_same =
      ap (λ p. section_key set.mac g.base p (Rattle.spec_machine.specs.Protect.identity_at s.mem site.layout)) provider
      ∙ ap (section_key set.mac g.base site.provider) identity_same
      ∙ ap (λ k. module_key set.mac k s.boot site.provider (identity site.text site.layout.pub_from site.layout.pub_to site.layout.priv_from site.layout.priv_to)) h.key
      ∙ ap (λ b. module_key set.mac (list_at set.keys site.node) b site.provider (identity site.text site.layout.pub_from site.layout.pub_to site.layout.priv_from site.layout.priv_to)) h.boot

  pub sections_after : t.sections ≡ admitted s.sections site.layout site.provider (key_of set site 0)
  sections_after = ap (λ p. admitted s.sections site.layout p (Rattle.spec_machine.specs.Protect.key_for set.mac g s.mem site.layout)) provider
      ∙ ap (admitted s.sections site.layout site.provider) key_same

  abbrev new : Section
  new = record { layout = site.layout; provider = site.provider; id = s.sections.next; key = key_of set site 0 }

  pub new_lives : Lives t.sections.live new
  new_lives = subst (λ (z : Sections). Lives z.live new) (sym sections_after) (end_lives s.sections.live new)

  found : section_of t.sections.live s.sections.next ≡ Some new
  found = placed_found t.sections new is_node_after.placed new_lives

  -- memory
  pub kept_after : (k : ℕ) → (k < site.layout.priv_from) ⊎ (site.layout.priv_to ≤ k) → slice_index t.mem k ≡ slice_index s.mem k
  kept_after k away =
      let dep = sound.sound.deployed m q site h.part h.sited in
      let b = (and_parts (nat_lt site.layout.priv_from site.layout.priv_to) _ (and_parts (nat_lt site.layout.pub_from site.layout.pub_to) _ dep.bounds).1).0 in
      let lt = ltb-true site.layout.priv_from site.layout.priv_to b in
      zeroed_other s.mem site.layout.priv_from (site.layout.priv_to - site.layout.priv_from) k (elim away [ inl p ↦ inl p | inr p ↦ inr (omega (arith, p, lt)) ])

  apart_cases : (a b c d k : ℕ) → apart a b c d ≡ true → a ≤ k → k < b → (k < c) ⊎ (d ≤ k)
  apart_cases a b c d k e lo hi = elim (cases_Bool (nat_le b c)) [
    | inl x ↦ let le = leb-true b c x in inl (omega (arith, le, hi))
    | inr x ↦ let le = leb-true d a (sym (ap (λ v. v || nat_le d a) x) ∙ e) in inr (omega (arith, le, lo))
  ]

  pub text_after : public_bytes site.layout t.mem ≡ site.text
  text_after =
      let dep = sound.sound.deployed m q site h.part h.sited in
      same_bytes s.mem t.mem site.layout.pub_from (site.layout.pub_to - site.layout.pub_from)
      (λ k lo hi. kept_after k (apart_cases site.layout.pub_from site.layout.pub_to site.layout.priv_from site.layout.priv_to k dep.parts lo (omega (arith, lo, hi)))) ∙ h.text

  pub zero_after : private_bytes site.layout t.mem ≡ replicate (site.layout.priv_to - site.layout.priv_from) 0
  zero_after =
      let event_is : (step set.mac s).shown.event ≡ event.Protected s.sections.next = ap (λ (z : Shown Seen). z.shown.event) step_there in
      let found_there : section_of (step set.mac s).state.sections.live s.sections.next
      ≡ Some new = subst (λ (z : Shown Seen). section_of z.state.sections.live s.sections.next ≡ Some new) (sym step_there) found in
      subst (λ (z : Shown Seen). private_bytes site.layout z.state.mem ≡ replicate (site.layout.priv_to - site.layout.priv_from) 0) step_there
      (fresh_sections set.mac s s.sections.next new h.node event_is found_there)

  -- the module that it is
  pub module_there : module_of set.sites site.node t s.sections.next ≡ Some m
  module_there =
      ap (λ o. option_and_then (deployed set.sites site.node t.mem) o) found
      ∙ first_is (is_at_site site.node t.mem new) set.sites m site h.sited (own_site site t.mem new refl refl text_after)
      (λ k site2 sk a.
      let b = at_site site.node t.mem new site2 a in
      elim (sound.sound.apart m k site site2 h.sited sk (sym b.node)) [
        | inl e ↦ sym e
        | inr p ↦ absurd (apart_self site.layout.pub_from site.layout.pub_to (bounds_of site.layout (sound.sound.deployed m q site h.part h.sited).bounds)
            (subst (λ (z : Layout). apart site.layout.pub_from site.layout.pub_to z.pub_from z.pub_to ≡ true) (sym b.layout) p.0))
      ])

  -- what is seen
  pub seen : (runner : Option ℕ) (ledger : List Made) → observed set site.node runner r.state r.shown ledger ≡ record { items = item.Protect site.node (Some m) ∷ []; ledger = ledger }
  seen runner ledger = ap (λ o. record { items = item.Protect site.node o ∷ []; ledger = ledger }) module_there

  pub after_protect : (w : World) → slice_get w.nodes site.node ≡ Some s
      → steps_of set (λ s. false) [] site.node 1 w ≡ record { world = with_node w site.node t w.ledger (w.steps + 1); items = item.Protect site.node (Some m) ∷ [] }
  after_protect w here =
      let runner = module_of set.sites site.node s (own_of s) in
      let act : after_step set w site.node s ≡ record { world = with_node w site.node t w.ledger (w.steps + 1); items = item.Protect site.node (Some m) ∷ [] } =
      ap (λ (z : Shown Seen). let o = observed set site.node runner z.state z.shown w.ledger in record { world = with_node w site.node z.state o.ledger (w.steps + 1); items = o.items }) step_there
      ∙ ap (λ (o : Observed). record { world = with_node w site.node t o.ledger (w.steps + 1); items = o.items }) (seen runner w.ledger) in
      let quiet : (is_reset (step set.mac s).shown.event || false) ≡ false = ap (λ (z : Shown Seen). is_reset z.shown.event || false) step_there in
      ap (at_node w (λ s. if is_reset (step set.mac s).shown.event || false then after_step set w site.node s else
      then_ (after_step set w site.node s) (steps_of set (λ s. false) [] site.node 0))) here
      ∙ ap (λ b. if b then after_step set w site.node s else then_ (after_step set w site.node s) (steps_of set (λ s. false) [] site.node 0)) quiet
      ∙ ap (λ (a : Acted). then_ a (steps_of set (λ s. false) [] site.node 0)) act

-- Registers that are set leave a node.
abbrev AreWords : List Rattle.spec_run.specs.Run.Register → Type 0
AreWords [] = Unit {0}
AreWords (r ∷ rs) = (r.value < 65536) × AreWords rs

registers_node : (rs : List Rattle.spec_run.specs.Run.Register) (s : State) → AreWords rs → s.cur ≡ 0 → IsNode s → IsNode (with_registers s rs)
registers_node [] s a idle h = h
registers_node (r ∷ rs) s a idle h = registers_node rs (with_register s r) a.1 idle (set_is_node s r.number r.value a.0 idle h)

apart_away : (a b c d k : ℕ) → apart a b c d ≡ true → c ≤ k → k < d → (k < a) ⊎ (b ≤ k)
apart_away a b c d k e lo hi = elim (cases_Bool (nat_le b c)) [
  | inl x ↦ let le = leb-true b c x in inr (omega (arith, le, lo))
  | inr x ↦ let le = leb-true d a (sym (ap (λ v. v || nat_le d a) x) ∙ e) in inl (omega (arith, le, hi))
]

module _ (set : Setting) (w : World) (m : ℕ) (q : PartTree) (site : Site) (s : State) (sound : IsLawfulSetting set) (h : IsLoadable set w m q site s) where
  dep : IsDeployedModule set m q site
  dep = sound.sound.deployed m q site h.part h.sited

  abbrev n : ℕ
  n = site.node

  abbrev l : Layout
  l = site.layout

  abbrev code : List ℕ
  code = 0x81 ∷ 0x13 ∷ []

  abbrev s1 : State
  s1 = with_mem s (put_bytes s.mem l.pub_from site.text)

  abbrev s2 : State
  s2 = with_mem s1 (put_bytes s1.mem 0 code)

  abbrev s3 : State
  s3 = with_registers s2 (protect_registers site)

  abbrev w1 : World
  w1 = with_node w n s1 w.ledger w.steps

  abbrev w2 : World
  w2 = with_node w1 n s2 w.ledger w.steps

  abbrev w3 : World
  w3 = with_node w2 n s3 w.ledger w.steps

  admits_it : Rattle.sx_rules.proofs.Admits.Admits s.sections l (places_of s.devices)
  admits_it = admits s.sections l (places_of s.devices) h.free

  clear : (x : Section) → Lives s.sections.live x → clear_of l x ≡ true
  clear x live = passes (clear_of l) s.sections.live x live (and_parts (parts_apart l) _ admits_it.overlap).1

  clear1 : (x : Section) → Lives s.sections.live x → apart l.pub_from l.pub_to x.layout.pub_from x.layout.pub_to ≡ true
  clear1 x live = (and_parts (apart l.pub_from l.pub_to x.layout.pub_from x.layout.pub_to) _ (clear x live)).0

  rest1 : (x : Section) → Lives s.sections.live x
      → (apart l.pub_from l.pub_to x.layout.priv_from x.layout.priv_to
      && (apart l.priv_from l.priv_to x.layout.pub_from x.layout.pub_to && apart l.priv_from l.priv_to x.layout.priv_from x.layout.priv_to)) ≡ true
  rest1 x live = (and_parts (apart l.pub_from l.pub_to x.layout.pub_from x.layout.pub_to) _ (clear x live)).1

  clear2 : (x : Section) → Lives s.sections.live x → apart l.pub_from l.pub_to x.layout.priv_from x.layout.priv_to ≡ true
  clear2 x live = (and_parts (apart l.pub_from l.pub_to x.layout.priv_from x.layout.priv_to) _ (rest1 x live)).0

  rest2 : (x : Section) → Lives s.sections.live x → (apart l.priv_from l.priv_to x.layout.pub_from x.layout.pub_to && apart l.priv_from l.priv_to x.layout.priv_from x.layout.priv_to) ≡ true
  rest2 x live = (and_parts (apart l.pub_from l.pub_to x.layout.priv_from x.layout.priv_to) _ (rest1 x live)).1

  clear3 : (x : Section) → Lives s.sections.live x → apart l.priv_from l.priv_to x.layout.pub_from x.layout.pub_to ≡ true
  clear3 x live = (and_parts (apart l.priv_from l.priv_to x.layout.pub_from x.layout.pub_to) _ (rest2 x live)).0

  clear4 : (x : Section) → Lives s.sections.live x → apart l.priv_from l.priv_to x.layout.priv_from x.layout.priv_to ≡ true
  clear4 x live = (and_parts (apart l.priv_from l.priv_to x.layout.pub_from x.layout.pub_to) _ (rest2 x live)).1

  text_open : IsOpen s l.pub_from l.pub_to
  text_open = record { idle = h.idle; within = let e = dep.text_end in omega (arith, e); public = clear1; private = clear2; devices = admits_it.device }

  put_text : put_pieces n ((length site.text + 1023) / 1024) l.pub_from site.text w ≡ record { world = w1; items = [] }
  put_text =
      pieces_put n ((length site.text + 1023) / 1024) l.pub_from l.pub_to site.text w s h.there (omega arith) (omega arith) (λ some. let e = dep.text in omega (arith, e))
      (λ a len from to. open_free s l.pub_from l.pub_to a len text_open from to)

  put_code : put_on n 0 code w1 ≡ record { world = w2; items = [] }
  put_code = one_put n 0 code w1 s1 (get_same w.nodes n s1 s h.there) (open_free s 0 512 0 2 (low_open s h.idle h.low) (omega arith) (omega arith))

  here2 : slice_get w2.nodes n ≡ Some s2
  here2 = get_same w1.nodes n s2 s1 (get_same w.nodes n s1 s h.there)

  here3 : slice_get w3.nodes n ≡ Some s3
  here3 = get_same w2.nodes n s3 s2 here2

  set_them : set_all n (protect_registers site) w2 ≡ record { world = w3; items = [] }
  set_them = all_set (protect_registers site) w2 n s2 here2 h.idle

  node2 : IsNode s2
  node2 = put_is_node s1 0 code (put_is_node s l.pub_from site.text h.node)

  bounds1 : l.pub_from < l.pub_to
  bounds1 = ltb-true l.pub_from l.pub_to (bounds_of l dep.bounds)

  bounds2 : l.priv_from < l.priv_to
  bounds2 = ltb-true l.priv_from l.priv_to (and_parts (nat_lt l.priv_from l.priv_to) _ (and_parts (nat_lt l.pub_from l.pub_to) _ dep.bounds).1).0

  node3 : IsNode s3
  node3 =
      let a = dep.text_end in
      let b = dep.data_end in
      let c = bounds1 in
      let d = bounds2 in
      registers_node (protect_registers site) s2 (dep.provider, (omega (arith, a, c), (omega (arith, a), (omega (arith, b, d), (omega (arith, b), (omega arith, tt)))))) h.idle node2

  text_size : l.pub_to - l.pub_from ≡ length site.text
  text_size = let e = dep.text in omega (arith, e)

  text2 : public_bytes l s2.mem ≡ site.text
  text2 =
      let room : l.pub_from + length site.text ≤ length s.mem = let e = dep.text in let f = dep.text_end in let g = h.node.memory.size in omega (arith, e, f, g) in
      same_bytes s1.mem s2.mem l.pub_from (l.pub_to - l.pub_from) (λ k lo hi. put_other code s1.mem 0 k (inr (let p = h.high.0 in omega (arith, p, lo))))
      ∙ ap (bytes_from s1.mem l.pub_from) text_size ∙ bytes_put site.text s.mem l.pub_from h.bytes room

  code2 : (slice_index s2.mem 0 ≡ 0x81) × (slice_index s2.mem 1 ≡ 0x13)
  code2 =
      let size : length s1.mem ≡ 65536 = length-put_bytes site.text s.mem l.pub_from ∙ h.node.memory.size in
      let one : List ℕ = slice_set s1.mem 0 0x81 in
      let size1 : length one ≡ 65536 = length-set s1.mem 0 0x81 ∙ size in
      (get_or-set_other one 1 0 0x13 0 (λ e. omega (arith, e)) ∙ get_or-set_same s1.mem 0 0x81 0 (omega (arith, size)), get_or-set_same one 1 0x13 0 (omega (arith, size1)))

  ready : IsReadyToProtect set m q site s3
  ready = record {
    part = h.part;
    sited = h.sited;
    node = node3;
    idle = h.idle;
    boot = h.boot;
    key = h.key;
    sections = h.low.sections;
    devices = h.low.devices;
    high = h.high;
    free = h.free;
    regs = (s.regs, h.node.registers.sixteen, refl);
    text = text2;
    code = code2;
  }

  abbrev u : State
  u = protected_state set m q site s3 sound ready

  -- a byte elsewhere stays
  stays : (k : ℕ) → 512 ≤ k → (k < l.pub_from) ⊎ (l.pub_to ≤ k) → (k < l.priv_from) ⊎ (l.priv_to ≤ k) → slice_index u.mem k ≡ slice_index s.mem k
  stays k high off_text off_data =
      kept_after set m q site s3 sound ready k off_data ∙ put_other code s1.mem 0 k (inr (omega (arith, high)))
      ∙ put_other site.text s.mem l.pub_from k (elim off_text [ inl p ↦ inl p | inr p ↦ inr (let e = dep.text in omega (arith, p, e)) ])

  loaded : IsLoaded set m q site s u
  loaded = record {
    node = is_node_after set m q site s3 sound ready;
    idle = idle_after set m q site s3 sound ready;
    boot = h.boot;
    key = refl;
    devices = refl;
    sections = sections_after set m q site s3 sound ready;
    stands = record {
      text = text_after set m q site s3 sound ready;
      state =
          ap (state_of q.tree (ends_of set.app m)) (zero_after set m q site s3 sound ready)
          ∙ ap (λ (k : ℕ). state_of q.tree (ends_of set.app m) (replicate k 0)) data_size ∙ dep.realizes.zeros;
    };
    public = λ x live.
        same_bytes s.mem u.mem x.layout.pub_from (x.layout.pub_to - x.layout.pub_from)
        (λ k lo hi.
        let top : k < x.layout.pub_to = omega (arith, lo, hi) in
        stays k (let a = (h.low.sections x live).0 in omega (arith, a, lo)) (apart_away l.pub_from l.pub_to x.layout.pub_from x.layout.pub_to k (clear1 x live) lo top)
        (apart_away l.priv_from l.priv_to x.layout.pub_from x.layout.pub_to k (clear3 x live) lo top));
    private = λ x live.
        same_bytes s.mem u.mem x.layout.priv_from (x.layout.priv_to - x.layout.priv_from)
        (λ k lo hi.
        let top : k < x.layout.priv_to = omega (arith, lo, hi) in
        stays k (let a = (h.low.sections x live).1 in omega (arith, a, lo)) (apart_away l.pub_from l.pub_to x.layout.priv_from x.layout.priv_to k (clear2 x live) lo top)
        (apart_away l.priv_from l.priv_to x.layout.priv_from x.layout.priv_to k (clear4 x live) lo top));
  }
    where
      data_size : l.priv_to - l.priv_from ≡ module_data_size q.tree (length (ends_of set.app m))
      data_size = let e = dep.data_size in omega (arith, e)

  begins : load set w (Some site) ≡ after_loading set site w
  begins =
      ap (at_node w (λ s. if s.cur == 0 then after_loading set site w else only w (item.Busy n ∷ []))) h.there
      ∙ ap (λ b. if b then after_loading set site w else only w (item.Busy n ∷ [])) (eq-eqb s.cur 0 h.idle)

  abbrev protects_it : World → Acted
  protects_it = steps_of set (λ s. false) [] n 1

  chain : after_loading set site w ≡ protects_it w3
  chain =
      ap (λ (a : Acted). then_ a (λ w1. then_ (put_on n 0 code w1) (λ w2. then_ (set_all n (protect_registers site) w2) protects_it))) put_text
      ∙ ap (λ (a : Acted). then_ a (λ w2. then_ (set_all n (protect_registers site) w2) protects_it)) put_code
      ∙ ap (λ (a : Acted). then_ a protects_it) set_them

  pub load_does : LoadDoes set w m q site s
  load_does = record {
    after = u;
    loaded = loaded;
    is =
        begins ∙ chain ∙ after_protect set m q site s3 sound ready w3 here3
        ∙ ap (λ v. record { world = v; items = item.Protect n (Some m) ∷ [] })
        (node_twice w2 n s3 u w.ledger w.ledger w.steps (w.steps + 1) ∙ node_twice w1 n s2 u w.ledger w.ledger w.steps (w.steps + 1) ∙ node_twice w n s1 u w.ledger w.ledger w.steps (w.steps + 1));
  }

pub module_loaded : ModuleLoaded
module_loaded set w m q site s sound h = load_does set w m q site s sound h
