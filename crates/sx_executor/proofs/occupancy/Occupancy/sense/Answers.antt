use Rattle.std.proofs.Common.{◌≡◌, ℕ, List, sym, ◌∙◌, ap, subst}
use Rattle.sx_bus.specs.Devices.{ArePlaces, places_of}
use Rattle.sx_bus.proofs.Changed.{places_of-with_sample}
use Rattle.sx_executor.specs.Occupancy.{IsVacantIndex, KeepsDeep}
use Rattle.sx_executor.specs.Readable.{KeepsReadable}
use Rattle.sx_executor.proofs.occupancy.Occupancy.sense.Goals as goal

pub invariant_of-self : goal.invariant_of-self
invariant_of-self c =
    let live = c.self.inside.protection.live in
    let same : places_of c.self.inside.windows ≡ places_of c.sense.new.self =
    sym (ap places_of c.sense.ensures ∙ places_of-with_sample c.self.inside.windows c.args.device c.args.value) in (
      subst ArePlaces same c.self.invariant.0,
      subst (λ (places : List ℕ). IsVacantIndex c.self.inside.vacant live places) same c.self.invariant.1,
      subst (λ (places : List ℕ). KeepsDeep c.self.inside.deep live places) same c.self.invariant.2,
      subst (λ (places : List ℕ). KeepsReadable c.self.inside.readable live places) same c.self.invariant.3,
    )
