use Rattle.std.proofs.Common.{sym, ◌∙◌, ap, subst, rules}
use Rattle.sx_bus.specs.Devices.{ArePlaces, HaveSamples, places_of}
use Rattle.sx_bus.specs.Windows.{AreNew}
use Rattle.sx_bus.proofs.Changed.{places_of-powered_on, HaveSamples-powered_on, AreNew-powered_on}
use Rattle.sx_bus.proofs.devices.Windows.new.Goals as goal

pub invariant_of-result : goal.invariant_of-result
invariant_of-result c = (
  c.in_ok-places.ensures ∙ sym (ap places_of c.in_ok-windows.ensures ∙ places_of-powered_on c.args.devices.now),
  subst ArePlaces (sym c.in_ok-places.ensures) c.requires,
  subst HaveSamples (sym c.in_ok-windows.ensures) (HaveSamples-powered_on c.args.devices.now),
  λ page h. (let kept = c.index.ensures page (search rules) in cc),
)

pub returns-clause-new : goal.returns-clause-new
returns-clause-new c = subst AreNew (sym c.in_ok-windows.ensures) (AreNew-powered_on c.args.devices.now)
