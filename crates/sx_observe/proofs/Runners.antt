-- What is seen of a step is that of the module whose code it was, as the node after it tells.
use Rattle.std.proofs.Common.{◌≡◌, ℕ, ◌+◌, inl, inr, ◌==◌, ◌||◌, cond, Bool, true, false, if◌then◌else◌, List, [], ◌∷◌, ◌++◌, Option, Some, None, refl, sym, ap, ◌∙◌}
use Rattle.std.specs.Prelude.{slice_index, option_and_then}
use Rattle.std.specs.List.{list_any, position_from}
use Rattle.std.proofs.lemmas.Bool.{true≢false, cases_Bool, eqb-true, or_cases, or_parts}
use Rattle.sx_rules.specs.declared.section.Section.{Section}
use Rattle.sx_rules.specs.Access.{Sections, holder, section_of}
use Rattle.sx_rules.specs.Placed.{Placed}
use Rattle.spec_machine.specs.declared.kinds.Touch.{Touch}
use Rattle.spec_machine.specs.declared.kinds.Touch.TheVariants as touch
use Rattle.spec_machine.specs.declared.kinds.Event.{Event}
use Rattle.spec_machine.specs.declared.kinds.Event.TheVariants as event
use Rattle.spec_machine.specs.declared.kinds.Seen.{Seen}
use Rattle.spec_machine.specs.State.{State}
use Rattle.spec_machine.specs.Given.{Given}
use Rattle.spec_machine.specs.Acting.{Step}
use Rattle.spec_machine.specs.Run.{Outcome, Finished, Violated, Module, untouched}
use Rattle.spec_machine.specs.Step.{own_of, given_at_pc, attempt, settled_step, step}
use Rattle.spec_machine.proofs.Events.{IsTold, Told, Same, Admits, Removes, ToldBy, attempt_told}
use Rattle.spec_machine.proofs.PublicKept.{public_kept}
use Rattle.spec_machine.proofs.Stays.{found_lives}
use Rattle.sx_image.specs.Image.{public_bytes}
use Rattle.sx_tag.specs.Mac.{Mac}
use Rattle.spec_run.proofs.steps.Machine.{public_same, no_reset}
use Rattle.spec_run.proofs.steps.Bystanders.{at_site_same}
use Rattle.sx_observe.proofs.Untouched.{Untouched, attempt_untouched}
use Rattle.sx_mean.specs.Application.{AppTree}
use Rattle.sx_ledger.specs.Made.{Made}
use Rattle.spec_run.specs.Setting.{Site, Setting, deployed, is_at_site, module_of}
use Rattle.spec_run.specs.Observation.{Observed, observed, touch_items, event_seen}
use Rattle.sx_observe.specs.Computed.{is_touch, is_own, tells, author, runner_of}

-- touches that no device shows have no items
no_touch : (app : AppTree) (n : ℕ) (a b : Option ℕ) (ts : List Touch) → list_any is_touch ts ≡ false → touch_items app n a ts ≡ touch_items app n b ts
no_touch app n a b [] h = refl
no_touch app n a b (touch.Quiet ∷ ts) h = no_touch app n a b ts h
no_touch app n a b (touch.DeviceRead k v ∷ ts) h = absurd (true≢false h)
no_touch app n a b (touch.DeviceWrite k v ∷ ts) h = absurd (true≢false h)

no_event : (set : Setting) (n : ℕ) (a b : Option ℕ) (s : State) (ledger : List Made) (e : Event) → is_own e ≡ false → event_seen set n a s ledger e ≡ event_seen set n b s ledger e
no_event set n a b s ledger event.Quiet h = refl
no_event set n a b s ledger (event.Reset v) h = refl
no_event set n a b s ledger (event.Protected id) h = refl
no_event set n a b s ledger (event.Removed id) h = refl
no_event set n a b s ledger (event.Wrapped id) h = absurd (true≢false h)
no_event set n a b s ledger (event.Unwrapped id) h = absurd (true≢false h)
no_event set n a b s ledger (event.Left id) h = absurd (true≢false h)

-- whose code it was
record Authored (s t : State) (seen : Seen) : Type 0 where
  author : author t seen.event ≡ own_of s
  sections : t.sections ≡ s.sections
  boot : t.boot ≡ s.boot

left_author : (s : State) (own : ℕ) (b c : Bool) (cur : ℕ) → ((own == 0) || c) ≡ b → cur ≡ (if c then own else 0) → (t : State) → t.cur ≡ cur
    → author t (if b then event.Quiet else event.Left own) ≡ own
left_author s own true true cur h e t k = k ∙ e
left_author s own true false cur h e t k = k ∙ e ∙ sym (elim (or_cases (own == 0) false h) [ inl z ↦ eqb-true own 0 z | inr f ↦ absurd (true≢false (sym f)) ])
left_author s own false c cur h e t k = refl

told_author : (g : Given) (e : Event) (t : State) → is_own e ≡ true → IsTold g e → author t e ≡ g.own
told_author g event.Quiet t h told = absurd (true≢false (sym h))
told_author g (event.Reset v) t h told = absurd (true≢false (sym h))
told_author g (event.Protected id) t h told = absurd (true≢false (sym h))
told_author g (event.Removed id) t h told = absurd (true≢false (sym h))
told_author g (event.Wrapped id) t h told = told.0
told_author g (event.Unwrapped id) t h told = told.0
told_author g (event.Left id) t h told = absurd told

told_same : (mac : Mac) (g : Given) (m0 m : List ℕ) (u : Sections) (e : Event) (t : State) → is_own e ≡ true → Told mac g m0 m u e → (author t e ≡ g.own) × (u ≡ g.sections)
told_same mac g m0 m u e t h (Same told same) = (told_author g e t h told, same)
told_same mac g m0 m u e t h (Admits r a w) = absurd (true≢false (sym h))
told_same mac g m0 m u e t h (Removes s f r w) = absurd (true≢false (sym h))

by_event : (ts : List Touch) (e : Event) → ts ≡ untouched → (list_any is_touch ts || is_own e) ≡ true → is_own e ≡ true
by_event ts e u h = sym (ap (λ x. list_any is_touch x || is_own e) u) ∙ h

settled_author : (mac : Mac) (s : State) (o : Outcome) → ToldBy mac (given_at_pc mac s) s.mem o → Untouched o
    → tells (settled_step s o).shown ≡ true → Authored s (settled_step s o).state (settled_step s o).shown
settled_author mac s (Finished regs x) told quiet h = record {
  author = left_author s (own_of s) _ (holder s.sections.live (slice_index regs 0) == own_of s) _ refl refl (settled_step s (Finished regs x)).state refl;
  sections = refl;
  boot = refl;
}
settled_author mac s (Violated v) told quiet h = absurd (true≢false (sym h))
settled_author mac s (Module regs x t e c) told quiet h =
    let p = told_same mac (given_at_pc mac s) s.mem x.mem t e (settled_step s (Module regs x t e c)).state (by_event x.touches e quiet h) told in
    record { author = p.0; sections = p.1; boot = refl }

step_author : (mac : Mac) (s : State) → tells (step mac s).shown ≡ true → Authored s (step mac s).state (step mac s).shown
step_author mac s h = settled_author mac s (attempt mac s) (attempt_told mac s) (attempt_untouched mac s) h

-- a section whose public bytes are as before is the deployed module that it was
pub deployed_same : (sites : List Site) (n i : ℕ) (m m2 : List ℕ) (x : Section) → public_bytes x.layout m2 ≡ public_bytes x.layout m
    → position_from (is_at_site n m2 x) i sites ≡ position_from (is_at_site n m x) i sites
deployed_same [] n i m m2 x e = refl
deployed_same (site ∷ sites) n i m m2 x e =
    ap (λ b. cond b (Some i) (position_from (is_at_site n m2 x) (i + 1) sites)) (at_site_same n m m2 x site e)
    ∙ ap (λ r. cond (is_at_site n m x site) (Some i) r) (deployed_same sites n (i + 1) m m2 x e)

module_same : (mac : Mac) (sites : List Site) (n : ℕ) (s : State) (o : Option Section) → Placed s.sections → tells (step mac s).shown ≡ true → section_of s.sections.live (own_of s) ≡ o
    → option_and_then (deployed sites n (step mac s).state.mem) o ≡ option_and_then (deployed sites n s.mem) o
module_same mac sites n s None placed h e = refl
module_same mac sites n s (Some x) placed h e = elim (public_kept mac Step s x placed ((found_lives s.sections.live (own_of s) x e).0)) [
  | inl k ↦ deployed_same sites n 0 s.mem (step mac s).state.mem x (public_same x s.mem (step mac s).state.mem k)
  | inr r ↦ absurd (no_reset s (step mac s).state (step_author mac s h).boot r)
]

-- the module whose code a step was
pub same_runner : (mac : Mac) (sites : List Site) (n : ℕ) (s : State) → Placed s.sections → tells (step mac s).shown ≡ true
    → module_of sites n (step mac s).state (author (step mac s).state (step mac s).shown.event) ≡ module_of sites n s (own_of s)
same_runner mac sites n s placed h =
    let a = step_author mac s h in
    let t = (step mac s).state in
    ap (λ id. module_of sites n t id) a.author
    ∙ ap (λ (u : Sections). option_and_then (deployed sites n t.mem) (section_of u.live (own_of s))) a.sections
    ∙ module_same mac sites n s (section_of s.sections.live (own_of s)) placed h refl

-- where what is seen tells of no module, it is the same of every module
pub unseen : (set : Setting) (n : ℕ) (a b : Option ℕ) (s : State) (seen : Seen) (ledger : List Made) → tells seen ≡ false → observed set n a s seen ledger ≡ observed set n b s seen ledger
unseen set n a b s seen ledger h =
    let p = or_parts (list_any is_touch seen.touch) (is_own seen.event) h in
    let e = no_event set n a b s ledger seen.event p.1 in
    ap (λ ts. record { items = ts ++ (event_seen set n a s ledger seen.event).items; ledger = (event_seen set n a s ledger seen.event).ledger }) (no_touch set.app n a b seen.touch p.0)
    ∙ ap (λ (o : Observed). record { items = touch_items set.app n b seen.touch ++ o.items; ledger = o.ledger }) e

-- what is seen of a step is that of the module whose code it was, as the node after it tells
pub observed_behind : (set : Setting) (n : ℕ) (s : State) (ledger : List Made) → Placed s.sections
    → observed set n (runner_of set.sites n (step set.mac s).state (step set.mac s).shown) (step set.mac s).state (step set.mac s).shown ledger
    ≡ observed set n (module_of set.sites n s (own_of s)) (step set.mac s).state (step set.mac s).shown ledger
observed_behind set n s ledger placed = elim (cases_Bool (tells (step set.mac s).shown)) [
  | inl t ↦
      ap (λ r. observed set n r (step set.mac s).state (step set.mac s).shown ledger)
      (ap (λ (b : Bool). if b then module_of set.sites n (step set.mac s).state (author (step set.mac s).state (step set.mac s).shown.event) else None) t ∙ same_runner set.mac set.sites n s placed t)
  | inr f ↦ unseen set n _ _ (step set.mac s).state (step set.mac s).shown ledger f
]
