use Rattle.std.proofs.Common.{◌≡◌, ℕ, ◌+◌, ◌-◌, ◌≤◌, sym, subst, ◌∙◌, arith}
use Rattle.sx_executor.specs.Occupancy.{KeepsDeep}
use Rattle.sx_executor.proofs.Deep.{keeps, part_bare}
use Rattle.sx_executor.proofs.home.Deep.of.Goals as goal

pub returns : goal.returns
returns c = λ live kept.
    let h = c.args.home.now in
    let places = c.args.places.now in
    let from = h.layout.pub_from in
    let public = c.between.result in
    let private = c.between-else-meets_device.result in
    let text = part_bare places from h.layout.pub_to public.at public.count c.between.ensures.at c.between.ensures.count
    (sym c.meets_device.ensures ∙ c.if-meets_device.false) in
    let begin = c.after_devices-data_from.result in
    let own = part_bare places begin h.layout.priv_to private.at private.count c.between-else-meets_device.ensures.at c.between-else-meets_device.ensures.count
    (sym c.meets_device-else-meets_device.ensures ∙ c.if-meets_device-2.false) in
    let within : from + (h.layout.pub_to - from) ≤ 65536 = omega (arith, public.within, c.between.ensures.at, c.between.ensures.count) in
    let end : h.layout.pub_to - 4 ≡ c.saturating_sub.result = omega (arith, c.saturating_sub.ensures) in
    subst (λ (to : ℕ). KeepsDeep (record { id = h.id; from = from; to = to; text_to = h.layout.pub_to; data_from = begin; data_to = h.layout.priv_to }) live places) end
    (keeps h live places within text begin c.after_devices-data_from.ensures own kept)
