-- Both are parts of what is compared.
use Rattle.std.proofs.Common.{sym, ap}
use Rattle.spec_machine.specs.State.{State}
use Rattle.spec_run.specs.State.{World}
use Rattle.law_forgery.proofs.Scripts.{runs_keys_unseen}
use Rattle.law_connections.proofs.Final.{links_unseen}
use Rattle.law_makers.specs.Time.{StepsShowNoKey, RegistersShowNoLink}

pub steps_show_no_key : StepsShowNoKey
steps_show_no_key a b lines h = sym (ap (λ (w : World). w.steps) (runs_keys_unseen a b lines h).1)

pub registers_show_no_link : RegistersShowNoLink
registers_show_no_link a lines sound hides form b sound2 unlinked none calm n s t e f =
    ap (λ (z : State). z.regs) (((links_unseen a lines sound hides form b sound2 unlinked none).1 calm).nodes n s t e f).rest
