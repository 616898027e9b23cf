use Rattle.std.proofs.Common.{◌∙◌, ap, map, replicate, None, false, []}
use Rattle.sx_model.specs.State.{Reading, Standing}
use Rattle.sx_model.proofs.Counts.{started}
use Rattle.sx_model.proofs.start.power_on.Goals as goal

pub returns : goal.returns
returns c =
    let reading : Reading = record { value = 0; fresh = false } in
    let absent : Standing = record { present = None; asked = None; vouched = []; attested = None } in
    started c.args.app.now c.in_ok-boots.boots.items c.in_ok-devices.devices.items c.in_ok-modules.modules.items c.in_ok-epochs.epochs.items c.in_ok-sent.sent.items
    c.in_ok-boots.ensures
    (c.in_ok-devices.ensures ∙ ap (λ ds. map (λ d. reading) ds) c.deref.ensures.value)
    (c.in_ok-modules.ensures ∙ ap (λ qs. map (λ q. absent) qs) c.deref-2.ensures.value)
    (c.in_ok-epochs.ensures ∙ ap (λ ls. map (λ l. 0) ls) c.deref-3.ensures.value)
    (c.in_ok-sent.ensures ∙ ap (λ n. replicate n []) c.fields.ensures)
