-- A node does the same step where no tag tells its keys apart.
use Rattle.std.proofs.Common.{◌≡◌, ℕ, ◌-◌, cond, ◌==◌, ◌||◌, List, slice_index, Option, Some, None, refl, sym, ◌∙◌, ap, subst, length}
use Rattle.sx_rules.specs.declared.access.Violation.{Violation}
use Rattle.sx_rules.specs.declared.access.Violation.TheVariants as bad
use Rattle.sx_rules.specs.Access.{Sections, holder, in_order}
use Rattle.sx_bus.specs.Devices.{device_at}
use Rattle.sx_tag.specs.Mac.{Mac}
use Rattle.sx_tag.specs.Keys.{boot_key, section_key, module_key}
use Rattle.spec_machine.specs.declared.kinds.Event.{Event}
use Rattle.spec_machine.specs.declared.kinds.Event.TheVariants.{Quiet, Reset, Left}
use Rattle.spec_machine.specs.declared.kinds.Exchange.{Exchange}
use Rattle.spec_machine.specs.Memory.{word}
use Rattle.spec_machine.specs.State.{State, reset}
use Rattle.spec_machine.specs.Given.{Given}
use Rattle.spec_machine.specs.Rows.{program}
use Rattle.spec_machine.specs.Run.{Moment, untouched, Outcome, Finished, Violated, Module, exec}
use Rattle.spec_machine.specs.Modules.{module_instruction}
use Rattle.spec_machine.specs.Step.{Shown, pc_of, own_of, start, is_module_word, entered_from, given_at_pc, instruction, ordered, word_outside, attempt, state_after, left, settled_step, step}
use Rattle.law_forgery.specs.Tags.{SameTags}
use Rattle.law_forgery.proofs.Tables.{LikeAll, holder_like, in_order_like, word_outside_like, live_like}
use Rattle.law_forgery.proofs.Plans.{LikeOutcome, ifs_like, same_alike, cond_like}
use Rattle.law_forgery.proofs.Instructions.{instruction_like}

-- the node with another key and other sections
abbrev pub with_others : State → List ℕ → Sections → State
with_others s key u = record s { key = key; sections = u }

-- the state after an instruction of `own`, where PC is in the section of the id `at`
abbrev pub ended : State → Sections → List ℕ → Moment → Exchange → (own at caller : ℕ) → State
ended a v regs x exchange own at caller = record a {
  regs = regs;
  mem = x.mem;
  devices = x.devices;
  sections = v;
  cur = cond (at == own) own 0;
  last = own;
  caller = caller;
  exchange = exchange;
}

module _ (mac nac : Mac) where
  -- Tables that differ in keys, and more that can't be seen, tell the same of who entered and who left.

  pub caller_like : (s : State) (u : Sections) → LikeAll mac nac s.sections.live u.live → (own : ℕ) → entered_from (record s { sections = u }) own ≡ entered_from s own
  caller_like s u like own = ap (λ b. cond (own == s.cur) s.caller (cond b s.last 0)) (live_like mac nac s.sections.live u.live s.last like)

  pub left_like : (s : State) (u : Sections) → LikeAll mac nac s.sections.live u.live → (regs : List ℕ)
      → left s (own_of s) regs ≡ left (record s { sections = u }) (own_of (record s { sections = u })) regs
  left_like s u like regs =
      sym (ap (λ (own : ℕ). cond ((own == 0) || (holder u.live (slice_index regs 0) == own)) Quiet (Left own)) (holder_like mac nac s.sections.live u.live (pc_of s) like)
      ∙ ap (λ (a : ℕ). cond ((own_of s == 0) || (a == own_of s)) Quiet (Left (own_of s))) (holder_like mac nac s.sections.live u.live (slice_index regs 0) like))

  -- no tag tells apart the keys that come of a node's
  abbrev pub LikeKeys : List ℕ → List ℕ → Type 0
  LikeKeys k l = (boot provider : ℕ) (id : List ℕ) → SameTags mac (module_key mac k boot provider id) nac (module_key nac l boot provider id)

  -- the nodes differ in keys alone, and no tag tells these apart
  pub record LikeState (s t : State) : Type 0 where
    pub rest : t ≡ with_others s t.key t.sections
    pub sections : LikeAll mac nac s.sections.live t.sections.live
    pub next : t.sections.next ≡ s.sections.next
    pub keys : LikeKeys s.key t.key

  -- what is shown is the same
  abbrev pub LikeShown : {T : Type 0} → Shown T → Shown T → Type 0
  LikeShown x y = (x.shown ≡ y.shown) × LikeState x.state y.state

  module _ (held : (k : List ℕ) → length k ≡ 16 → SameTags mac k nac k) where
    module _ (s : State) (key : List ℕ) (u : Sections)
        (like : LikeAll mac nac s.sections.live u.live) (next : u.next ≡ s.sections.next) (keys : LikeKeys s.key key) where
      abbrev twin : State
      twin = with_others s key u

      own_same : own_of twin ≡ own_of s
      own_same = holder_like mac nac s.sections.live u.live (pc_of s) like

      bases : (provider : ℕ) (id : List ℕ) → SameTags mac (section_key mac (boot_key mac s.key s.boot) provider id) nac (section_key nac (boot_key nac key s.boot) provider id)
      unfolding module_key
      bases provider id = keys s.boot provider id

      -- what an instruction is given, of this module, which that one entered
      abbrev given : ℕ → ℕ → Given
      given own caller = record { regs = s.regs; devices = s.devices; sections = u; own = own; caller = caller; base = boot_key nac key s.boot; exchange = s.exchange }

      module_word_like : (code : ℕ) → LikeOutcome mac nac (module_instruction mac code (given_at_pc mac s) s.mem) (module_instruction nac code (given_at_pc nac twin) s.mem)
      module_word_like code =
          subst (λ (own : ℕ). LikeOutcome mac nac (module_instruction mac code (given_at_pc mac s) s.mem) (module_instruction nac code (given own (entered_from twin own)) s.mem)) (sym own_same)
          (subst (λ (c : ℕ). LikeOutcome mac nac (module_instruction mac code (given_at_pc mac s) s.mem) (module_instruction nac code (given (own_of s) c) s.mem)) (sym (caller_like s u like (own_of s)))
          (instruction_like mac nac held (given_at_pc mac s) u (boot_key nac key s.boot) like next bases code s.mem))

      plain_like : (w : ℕ) → LikeOutcome mac nac (exec s.sections (own_of s) (program w s.regs) (start s)) (exec u (own_of twin) (program w s.regs) (start s))
      plain_like w =
          subst (λ (own : ℕ). LikeOutcome mac nac (exec s.sections (own_of s) (program w s.regs) (start s)) (exec u own (program w s.regs) (start s))) (sym own_same)
          (same_alike mac nac s.sections u like next (own_of s) (program w s.regs) (start s))

      instruction_same : LikeOutcome mac nac (instruction mac s) (instruction nac twin)
      instruction_same =
          let w = word s.mem (pc_of s) in
          cond_like mac nac (is_module_word w) (module_instruction mac (w - 0x1380) (given_at_pc mac s) s.mem) (module_instruction nac (w - 0x1380) (given_at_pc nac twin) s.mem)
          (exec s.sections (own_of s) (program w s.regs) (start s)) (exec u (own_of twin) (program w s.regs) (start s)) (module_word_like (w - 0x1380)) (plain_like w)

      ordered_like : (d : Option ℕ) → LikeOutcome mac nac (ordered mac s d) (ordered nac twin d)
      ordered_like (Some d) = refl
      ordered_like None =
          ifs_like mac nac (in_order s.sections.live s.cur (pc_of s)) (in_order u.live s.cur (pc_of s)) (instruction mac s) (instruction nac twin) bad.Order
          (in_order_like mac nac s.sections.live u.live s.cur (pc_of s) like) instruction_same

      attempt_like : LikeOutcome mac nac (attempt mac s) (attempt nac twin)
      attempt_like =
          ifs_like mac nac (word_outside s.sections.live (pc_of s)) (word_outside u.live (pc_of s)) (ordered mac s (device_at s.devices (pc_of s)))
          (ordered nac twin (device_at s.devices (pc_of s))) bad.Fetch
          (word_outside_like mac nac s.sections.live u.live (pc_of s) like) (ordered_like (device_at s.devices (pc_of s)))

      after_like : (regs : List ℕ) (x : Moment) (v w : Sections) (exchange : Exchange) → LikeAll mac nac v.live w.live → w.next ≡ v.next
          → LikeState (state_after s (own_of s) regs x v exchange) (state_after twin (own_of twin) regs x w exchange)
      after_like regs x v w exchange h e =
          let at = holder v.live (slice_index regs 0) in
          subst (λ (own : ℕ). LikeState (state_after s (own_of s) regs x v exchange) (ended twin w regs x exchange own (holder w.live (slice_index regs 0)) (entered_from twin own))) (sym own_same)
          (subst (λ (a : ℕ). LikeState (state_after s (own_of s) regs x v exchange) (ended twin w regs x exchange (own_of s) a (entered_from twin (own_of s))))
          (sym (holder_like mac nac v.live w.live (slice_index regs 0) h))
          (subst (λ (c : ℕ). LikeState (state_after s (own_of s) regs x v exchange) (ended twin w regs x exchange (own_of s) at c)) (sym (caller_like s u like (own_of s)))
          (record { rest = refl; sections = h; next = e; keys = keys })))

      pub reset_like : LikeState (reset s) (reset twin)
      reset_like = record { rest = refl; sections = tt; next = refl; keys = keys }

      settled_like : (o p : Outcome) → LikeOutcome mac nac o p → LikeShown (settled_step s o) (settled_step twin p)
      settled_like (Finished r x) (Finished q y) h =
          subst (λ (z : List ℕ). LikeShown (settled_step s (Finished r x)) (settled_step twin (Finished z y))) h.0
          (subst (λ (z : Moment). LikeShown (settled_step s (Finished r x)) (settled_step twin (Finished r z))) h.1
          (ap (λ (e : Event). record { touch = x.touches; event = e }) (left_like s u like r), after_like r x s.sections u s.exchange like next))
      settled_like (Violated v) (Violated w) h = (ap (λ (z : Violation). record { touch = untouched; event = Reset z }) h, reset_like)
      settled_like (Module r x t e c) (Module q y v f d) h =
          subst (λ (z : List ℕ). LikeShown (settled_step s (Module r x t e c)) (settled_step twin (Module z y v f d))) h.0
          (subst (λ (z : Moment). LikeShown (settled_step s (Module r x t e c)) (settled_step twin (Module r z v f d))) h.1
          (subst (λ (z : Event). LikeShown (settled_step s (Module r x t e c)) (settled_step twin (Module r x v z d))) h.4
          (subst (λ (z : Exchange). LikeShown (settled_step s (Module r x t e c)) (settled_step twin (Module r x v e z))) h.5
          (refl, after_like r x t v c h.2 h.3))))
      settled_like (Finished r x) (Violated w) h = absurd h
      settled_like (Finished r x) (Module q y v f d) h = absurd h
      settled_like (Violated v) (Finished q y) h = absurd h
      settled_like (Violated v) (Module q y w f d) h = absurd h
      settled_like (Module r x t e c) (Finished q y) h = absurd h
      settled_like (Module r x t e c) (Violated w) h = absurd h

      pub step_twin : LikeShown (step mac s) (step nac twin)
      step_twin = settled_like (attempt mac s) (attempt nac twin) attempt_like

    -- a step of nodes that differ in keys alone
    pub step_like : (s t : State) → LikeState s t → LikeShown (step mac s) (step nac t)
    step_like s t h =
        subst (λ (z : State). LikeShown (step mac s) (step nac z)) (sym h.rest) (step_twin s t.key t.sections h.sections h.next h.keys)
