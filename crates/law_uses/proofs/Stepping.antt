-- A node does the same step where the uses of the step have the same answers.
use Rattle.std.proofs.Common.{◌≡◌, ℕ, ◌-◌, Bool, true, false, cond, not, ◌&&◌, List, [], slice_index, Option, Some, None, is_some, refl, sym, ◌∙◌, ap, subst}
use Rattle.sx_rules.specs.declared.access.Violation.{Violation}
use Rattle.sx_rules.specs.declared.access.Violation.TheVariants as bad
use Rattle.sx_rules.specs.declared.section.Section.{Section}
use Rattle.sx_rules.specs.Access.{Sections, holder, section_of, in_order}
use Rattle.sx_bus.specs.Devices.{device_at}
use Rattle.sx_tag.specs.Keys.{boot_key, module_key}
use Rattle.spec_machine.specs.Memory.{word}
use Rattle.spec_machine.specs.State.{State}
use Rattle.spec_machine.specs.Given.{Given}
use Rattle.spec_machine.specs.Rows.{program}
use Rattle.spec_machine.specs.declared.kinds.Event.{Event}
use Rattle.spec_machine.specs.declared.kinds.Event.TheVariants.{Reset}
use Rattle.spec_machine.specs.declared.kinds.Exchange.{Exchange}
use Rattle.spec_machine.specs.Run.{Moment, untouched, Outcome, Finished, Violated, Module, exec}
use Rattle.spec_machine.specs.Protect.{identity_at}
use Rattle.spec_machine.specs.Modules.{module_instruction}
use Rattle.spec_machine.specs.Frame.{HaveKeys}
use Rattle.spec_machine.specs.Step.{pc_of, own_of, start, is_module_word, entered_from, given_at_pc, instruction, ordered, word_outside, attempt, state_after, settled_step, step}
use Rattle.spec_machine.proofs.Stays.{found_lives}
use Rattle.spec_run.specs.Setting.{Setting}
use Rattle.spec_run.specs.Deployer.{list_at}
use Rattle.law_forgery.proofs.Tables.{LikeAll, holder_like, in_order_like, word_outside_like}
use Rattle.law_forgery.proofs.Plans.{same_alike}
use Rattle.law_forgery.proofs.Steps.{with_others, LikeState, LikeShown, caller_like, left_like, ended}
use Rattle.law_uses.specs.Uses.{key_held, Use, SameUses, section_holder, instruction_uses, step_uses}
use Rattle.law_uses.proofs.Asking.{N, Out, by_test, by_case, instruction_at}

-- What an outcome leaves, whatever the tag functions are.
module _ (s : State) (key : List ℕ) (u : Sections) (like : LikeAll N N s.sections.live u.live) (next : u.next ≡ s.sections.next) where
  abbrev other : State
  other = with_others s key u

  after_at : (regs : List ℕ) (x : Moment) (v w : Sections) (exchange : Exchange) → LikeAll N N v.live w.live → w.next ≡ v.next
      → LikeState N N (state_after s (own_of s) regs x v exchange) (state_after other (own_of other) regs x w exchange)
  after_at regs x v w exchange h e =
      let at = holder v.live (slice_index regs 0) in
      subst (λ (own : ℕ). LikeState N N (state_after s (own_of s) regs x v exchange) (ended other w regs x exchange own (holder w.live (slice_index regs 0)) (entered_from other own)))
      (sym (holder_like N N s.sections.live u.live (pc_of s) like))
      (subst (λ (a : ℕ). LikeState N N (state_after s (own_of s) regs x v exchange) (ended other w regs x exchange (own_of s) a (entered_from other (own_of s))))
      (sym (holder_like N N v.live w.live (slice_index regs 0) h))
      (subst (λ (c : ℕ). LikeState N N (state_after s (own_of s) regs x v exchange) (ended other w regs x exchange (own_of s) at c)) (sym (caller_like N N s u like (own_of s)))
      (record { rest = refl; sections = h; next = e; keys = λ boot provider id kind rest ne. refl })))

  settled_at : (o p : Outcome) → Out o p → LikeShown N N (settled_step s o) (settled_step other p)
  settled_at (Finished r x) (Finished q y) h =
      subst (λ (z : List ℕ). LikeShown N N (settled_step s (Finished r x)) (settled_step other (Finished z y))) h.0
      (subst (λ (z : Moment). LikeShown N N (settled_step s (Finished r x)) (settled_step other (Finished r z))) h.1
      (ap (λ (e : Event). record { touch = x.touches; event = e }) (left_like N N s u like r), after_at r x s.sections u s.exchange like next))
  settled_at (Violated v) (Violated w) h =
      (ap (λ (z : Violation). record { touch = untouched; event = Reset z }) h, record { rest = refl; sections = tt; next = refl; keys = λ boot provider id kind rest ne. refl })
  settled_at (Module r x t e c) (Module q y v f d) h =
      subst (λ (z : List ℕ). LikeShown N N (settled_step s (Module r x t e c)) (settled_step other (Module z y v f d))) h.0
      (subst (λ (z : Moment). LikeShown N N (settled_step s (Module r x t e c)) (settled_step other (Module r z v f d))) h.1
      (subst (λ (z : Event). LikeShown N N (settled_step s (Module r x t e c)) (settled_step other (Module r x v z d))) h.4
      (subst (λ (z : Exchange). LikeShown N N (settled_step s (Module r x t e c)) (settled_step other (Module r x v e z))) h.5
      (refl, after_at r x t v c h.2 h.3))))
  settled_at (Finished r x) (Violated w) h = absurd h
  settled_at (Finished r x) (Module q y v f d) h = absurd h
  settled_at (Violated v) (Finished q y) h = absurd h
  settled_at (Violated v) (Module q y w f d) h = absurd h
  settled_at (Module r x t e c) (Finished q y) h = absurd h
  settled_at (Module r x t e c) (Violated w) h = absurd h

-- the node's key is that of the setting, and its sections have the keys that the chain gives
pub record NodeKeys (set : Setting) (n : ℕ) (s : State) : Type 0 where
  pub own : s.key ≡ list_at set.keys n
  pub sections : HaveKeys set.mac s

pub section_key_held : (set : Setting) (n : ℕ) (s : State) → NodeKeys set n s → (id : ℕ) (x : Section) → section_of s.sections.live id ≡ Some x → x.key ≡ key_held set (section_holder n s x)
section_key_held set n s h id x e =
    h.sections x (found_lives s.sections.live id x e).0
    ∙ ap (λ (key : List ℕ). module_key set.mac key s.boot x.provider (identity_at s.mem x.layout)) h.own

module _ (a b : Setting) (n : ℕ) where
  module _ (s : State) (key : List ℕ) (u : Sections) (like : LikeAll N N s.sections.live u.live) (next : u.next ≡ s.sections.next)
      (left : NodeKeys a n s) (right : NodeKeys b n (with_others s key u)) where
    abbrev twin : State
    twin = with_others s key u

    own_same : own_of twin ≡ own_of s
    own_same = holder_like N N s.sections.live u.live (pc_of s) like

    -- what an instruction is given, of this module, which that one entered
    abbrev given_ : ℕ → ℕ → Given
    given_ own caller = record { regs = s.regs; devices = s.devices; sections = u; own = own; caller = caller; base = boot_key b.mac key s.boot; exchange = s.exchange }

    module_word_at : (code : ℕ) → SameUses a b (instruction_uses a n s code (section_of s.sections.live (own_of s)))
        → Out (module_instruction a.mac code (given_at_pc a.mac s) s.mem) (module_instruction b.mac code (given_at_pc b.mac twin) s.mem)
    module_word_at code h =
        subst (λ (own : ℕ). Out (module_instruction a.mac code (given_at_pc a.mac s) s.mem) (module_instruction b.mac code (given_ own (entered_from twin own)) s.mem)) (sym own_same)
        (subst (λ (c : ℕ). Out (module_instruction a.mac code (given_at_pc a.mac s) s.mem) (module_instruction b.mac code (given_ (own_of s) c) s.mem)) (sym (caller_like N N s u like (own_of s)))
        (instruction_at a b n s u (boot_key b.mac key s.boot) like next (section_key_held a n s left (own_of s)) (section_key_held b n twin right (own_of s)) code h))

    plain_at : (w : ℕ) → Out (exec s.sections (own_of s) (program w s.regs) (start s)) (exec u (own_of twin) (program w s.regs) (start s))
    plain_at w =
        subst (λ (own : ℕ). Out (exec s.sections (own_of s) (program w s.regs) (start s)) (exec u own (program w s.regs) (start s))) (sym own_same)
        (same_alike N N s.sections u like next (own_of s) (program w s.regs) (start s))

    abbrev w : ℕ
    w = word s.mem (pc_of s)

    abbrev asked : List Use
    asked = instruction_uses a n s (w - 0x1380) (section_of s.sections.live (own_of s))

    instruction_same : SameUses a b (cond (is_module_word w) asked []) → Out (instruction a.mac s) (instruction b.mac twin)
    instruction_same h =
        by_case a b (is_module_word w) asked [] (module_instruction a.mac (w - 0x1380) (given_at_pc a.mac s) s.mem) (module_instruction b.mac (w - 0x1380) (given_at_pc b.mac twin) s.mem)
        (exec s.sections (own_of s) (program w s.regs) (start s)) (exec u (own_of twin) (program w s.regs) (start s)) h (module_word_at (w - 0x1380)) (λ h2. plain_at w)

    abbrev asked_by : List Use
    asked_by = cond (is_module_word w) asked []

    ordered_at : (d : Option ℕ) → SameUses a b (cond (not (is_some d) && in_order s.sections.live s.cur (pc_of s)) asked_by []) → Out (ordered a.mac s d) (ordered b.mac twin d)
    ordered_at (Some d) h = refl
    ordered_at None h =
        by_test a b (in_order s.sections.live s.cur (pc_of s)) (in_order u.live s.cur (pc_of s)) asked_by (instruction a.mac s) (instruction b.mac twin) bad.Order
        (in_order_like N N s.sections.live u.live s.cur (pc_of s) like) h instruction_same

    fetched : (t r rest : Bool) (us : List Use) (o p : Outcome) → r ≡ t → SameUses a b (cond (t && rest) us []) → (SameUses a b (cond rest us []) → Out o p)
        → Out (cond t o (Violated bad.Fetch)) (cond r p (Violated bad.Fetch))
    fetched true r rest us o p e h f = subst (λ (d : Bool). Out o (cond d p (Violated bad.Fetch))) (sym e) (f h)
    fetched false r rest us o p e h f = subst (λ (d : Bool). Out (Violated bad.Fetch) (cond d p (Violated bad.Fetch))) (sym e) refl

    attempt_at : SameUses a b (step_uses a n (Some s)) → Out (attempt a.mac s) (attempt b.mac twin)
    attempt_at h =
        let d = device_at s.devices (pc_of s) in
        fetched (word_outside s.sections.live (pc_of s)) (word_outside u.live (pc_of s)) (not (is_some d) && in_order s.sections.live s.cur (pc_of s)) asked_by (ordered a.mac s d) (ordered b.mac twin d)
        (word_outside_like N N s.sections.live u.live (pc_of s) like) h (ordered_at d)

    twins_step : SameUses a b (step_uses a n (Some s)) → LikeShown N N (step a.mac s) (step b.mac twin)
    twins_step h = settled_at s key u like next (attempt a.mac s) (attempt b.mac twin) (attempt_at h)

  -- a step of nodes that differ in keys alone
  pub step_at : (s t : State) → LikeState N N s t → NodeKeys a n s → NodeKeys b n t → SameUses a b (step_uses a n (Some s)) → LikeShown N N (step a.mac s) (step b.mac t)
  step_at s t h left right uses =
      subst (λ (z : State). LikeShown N N (step a.mac s) (step b.mac z)) (sym h.rest)
      (twins_step s t.key t.sections h.sections h.next left (subst (λ (z : State). NodeKeys b n z) h.rest right) uses)
