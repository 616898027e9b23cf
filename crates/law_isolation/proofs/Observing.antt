-- What is seen of a node doesn't depend on private bytes.
use Rattle.std.proofs.Common.{◌≡◌, ℕ, inl, inr, List, [], ◌∷◌, ◌++◌, Option, Some, None, refl, sym, ap, subst}
use Rattle.sx_trace.specs.declared.items.Item.TheVariants as item
use Rattle.sx_rules.specs.declared.section.Section.{Section}
use Rattle.sx_rules.specs.Placed.{Placed}
use Rattle.spec_machine.specs.declared.kinds.Event.{Event}
use Rattle.spec_machine.specs.declared.kinds.Event.TheVariants as event
use Rattle.spec_machine.specs.declared.kinds.Seen.{Seen}
use Rattle.spec_machine.specs.State.{State}
use Rattle.spec_machine.specs.Step.{own_of}
use Rattle.spec_machine.specs.Guard.{Same}
use Rattle.spec_machine.proofs.StepGuard.{with_mem}
use Rattle.spec_run.specs.Setting.{Setting, module_of}
use Rattle.sx_ledger.specs.Made.{Made}
use Rattle.spec_run.specs.Observation.{Observed, touch_items, event_seen, observed}
use Rattle.law_isolation.proofs.Modules.{module_alike}

event_alike : (set : Setting) (m : ℕ) (runner : Option ℕ) (a : State) (mem : List ℕ) (ledger : List Made) (e : Event)
    → ((id : ℕ) → module_of set.sites m a id ≡ module_of set.sites m (with_mem a mem) id)
    → event_seen set m runner a ledger e ≡ event_seen set m runner (with_mem a mem) ledger e
event_alike set m runner a mem ledger event.Quiet h = refl
event_alike set m runner a mem ledger (event.Reset v) h = refl
event_alike set m runner a mem ledger (event.Protected id) h = ap (λ (o : Option ℕ). record { items = item.Protect m o ∷ []; ledger = ledger }) (h id)
event_alike set m runner a mem ledger (event.Removed id) h = refl
event_alike set m None a mem ledger (event.Wrapped id) h = refl
event_alike set m (Some k) a mem ledger (event.Wrapped id) h = refl
event_alike set m None a mem ledger (event.Unwrapped id) h = refl
event_alike set m (Some k) a mem ledger (event.Unwrapped id) h = refl
event_alike set m None a mem ledger (event.Left id) h = refl
event_alike set m (Some k) a mem ledger (event.Left id) h = refl

pub observed_alike : (set : Setting) (m : ℕ) (runner : Option ℕ) (s : Section) (a b : State) (seen : Seen) (ledger : List Made) → Placed a.sections → Same s a b
    → observed set m runner a seen ledger ≡ observed set m runner b seen ledger
observed_alike set m runner s a b seen ledger p (inr e) = ap (λ (z : State). observed set m runner z seen ledger) e
observed_alike set m runner s a b seen ledger p (inl h) =
    subst (λ (z : State). observed set m runner a seen ledger ≡ observed set m runner z seen ledger) (sym h.1.rest)
    (ap (λ (o : Observed). record { items = touch_items set.app m runner seen.touch ++ o.items; ledger = o.ledger })
    (event_alike set m runner a b.mem ledger seen.event (λ id. module_alike set.sites m s a b.mem id p h.0 h.1.mem)))

pub runner_alike : (set : Setting) (m : ℕ) (s : Section) (a b : State) → Placed a.sections → Same s a b → module_of set.sites m a (own_of a) ≡ module_of set.sites m b (own_of b)
runner_alike set m s a b p (inr e) = ap (λ (z : State). module_of set.sites m z (own_of z)) e
runner_alike set m s a b p (inl h) =
    subst (λ (z : State). module_of set.sites m a (own_of a) ≡ module_of set.sites m z (own_of z)) (sym h.1.rest) (module_alike set.sites m s a b.mem (own_of a) p h.0 h.1.mem)
