use Rattle.std.proofs.Common.{◌≡◌, ℕ, ◌/◌, false, List, All, slice_index_or, sym, ◌∙◌, ap, subst, arith}
use Rattle.std.proofs.lemmas.Grind.{common_steps}
use Rattle.sx_bus.specs.declared.devices.Window.{Window}
use Rattle.sx_bus.specs.Devices.{places_of, device_at}
use Rattle.sx_bus.specs.Windows.{has_place}
use Rattle.sx_bus.proofs.Elsewhere.{IsEven, none_elsewhere}
use Rattle.sx_bus.proofs.devices.Windows.at.Goals as goal

pub returns-then-not-self-from-clause-device : goal.returns-then-not-self-from-clause-device
returns-then-not-self-from-clause-device c =
    let page = c.args.at / 256 in
    let items = c.self.inside.windows.items in
    let unset : slice_index_or c.self.inside.pages (c.args.at / 256) false ≡ false = first_of (cc, grind (arith, common_steps)) in
    let bare : has_place page c.self.inside.places.items ≡ false = sym (c.self.invariant.3 page (omega arith)) ∙ unset in
    let none : has_place page (places_of items) ≡ false = subst (λ (places : List ℕ). has_place page places ≡ false) c.self.invariant.0 bare in
    let even : All IsEven (places_of items) = subst (λ (places : List ℕ). All IsEven places) c.self.invariant.0 c.self.invariant.1.even in
    sym (ap (λ (windows : List Window). device_at windows c.args.at) (sym c.self.view_is) ∙ none_elsewhere items c.args.at 0 even none)
