-- What happens beside steps, in both runs.
use Rattle.std.proofs.Common.{◌≡◌, ℕ, ◌+◌, ◌==◌, not, List, Option, Some, None, is_some, refl, sym, ◌∙◌, ap}
use Rattle.std.specs.Prelude.{slice_get}
use Rattle.std.proofs.lemmas.Bool.{eq-eqb}
use Rattle.sx_trace.specs.declared.items.Cause.TheVariants.{Asked}
use Rattle.sx_trace.specs.declared.items.Item.TheVariants as item
use Rattle.sx_rules.specs.declared.access.Violation.{Violation}
use Rattle.sx_tag.specs.Mac.{Mac}
use Rattle.spec_machine.specs.declared.kinds.Event.{Event}
use Rattle.spec_machine.specs.declared.kinds.Event.TheVariants as event
use Rattle.spec_machine.specs.State.{State}
use Rattle.spec_machine.specs.Step.{step}
use Rattle.sx_image.specs.Watched.{violation_of}
use Rattle.spec_run.specs.Setting.{Setting}
use Rattle.spec_run.specs.State.{World}
use Rattle.spec_run.specs.Run.{is_reset}
use Rattle.spec_run.proofs.steps.Machine.{violates, onward}
use Rattle.law_isolation.proofs.Performing.{next_boot}
use Rattle.law_isolation.specs.Happening.{Happening, Begin, Step, Put, Set, Take, Give, Forge, Sense, Irq, Reset, Ask, Answer, Show, done}
use Rattle.law_connections.specs.Unlinked.{Unlinked}
use Rattle.law_connections.proofs.Linking.{second}
use Rattle.law_connections.proofs.Worlds.{SameRun, packet_same}
use Rattle.law_connections.proofs.Doing.{SameDone, put_done, set_done, take_done, give_done, sense_done, irq_done, reset_done}
use Rattle.law_connections.proofs.Deploying.{ask_done, answer_done}

-- a step says that it was a reset exactly where the boot count is another
reset_is : (e : Event) → is_reset e ≡ is_some (violation_of e)
reset_is event.Quiet = refl
reset_is (event.Reset v) = refl
reset_is (event.Protected id) = refl
reset_is (event.Removed id) = refl
reset_is (event.Wrapped id) = refl
reset_is (event.Unwrapped id) = refl
reset_is (event.Left id) = refl

pub step_boot : (mac : Mac) (s : State) → is_reset (step mac s).shown.event ≡ not ((step mac s).state.boot == s.boot)
step_boot mac s = by (violation_of (step mac s).shown.event) refl
  where
    by : (o : Option Violation) → violation_of (step mac s).shown.event ≡ o → is_reset (step mac s).shown.event ≡ not ((step mac s).state.boot == s.boot)
    by None e = reset_is (step mac s).shown.event ∙ ap is_some e ∙ sym (ap not (eq-eqb (step mac s).state.boot s.boot (onward mac s e).boot))
    by (Some v) e =
        reset_is (step mac s).shown.event ∙ ap is_some e ∙ next_boot s.boot ∙ sym (ap (λ (z : State). not (z.boot == s.boot)) (violates mac s v e).state)

module _ (a : Setting) (nac : Mac) (keys : List (List ℕ)) (secret : List ℕ) (unlinked : Unlinked a (second a nac keys secret))
    (w v : World) (h : SameRun a nac keys secret w v) where
  abbrev b : Setting
  b = second a nac keys secret

  pub outside_done : (x : Happening) → ((n : ℕ) → x ≡ Step n → ⊥) → SameDone a nac keys secret (done a x w) (done (second a nac keys secret) x v)
  outside_done Begin ne = (refl, record { nodes = h.same.nodes; packets = h.same.packets; deployer = h.same.deployer; lines = ap (λ (l : ℕ). l + 1) h.same.lines; ledger = h.same.ledger })
  outside_done (Step n) ne = absurd (ne n refl)
  outside_done (Put n at bytes) ne = put_done a nac keys secret w v h.same h.first h.second n at bytes
  outside_done (Set n r x) ne = set_done a nac keys secret w v h.same h.first h.second n r x
  outside_done (Take n at len) ne = take_done a nac keys secret w v h.same h.first h.second n at len
  outside_done (Give k n at) ne = give_done a nac keys secret w v h.same h.first h.second k n at
  outside_done (Forge bytes) ne = packet_same a nac keys secret w v bytes h.same
  outside_done (Sense d x) ne = sense_done a nac keys secret w v h.same h.first h.second d x (slice_get a.app.devices d)
  outside_done (Irq n line) ne = irq_done a nac keys secret w v h.same h.first h.second n line
  outside_done (Reset n) ne = reset_done a nac keys secret w v h.same h.first h.second n (item.Reset n Asked)
  outside_done (Ask m) ne = ask_done a nac keys secret unlinked w v h.same m
  outside_done (Answer m boot k) ne = answer_done a nac keys secret unlinked w v h.same m boot k
  outside_done (Show i) ne = (refl, h.same)
