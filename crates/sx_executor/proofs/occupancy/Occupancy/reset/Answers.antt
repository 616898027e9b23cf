use Rattle.std.proofs.Common.{ℕ, List, [], sym, subst}
use Rattle.sx_rules.specs.Access.{Sections}
use Rattle.sx_bus.specs.Devices.{ArePlaces, places_of}
use Rattle.sx_executor.specs.Occupancy.{IsVacantIndex}
use Rattle.sx_executor.proofs.occupancy.Occupancy.reset.Goals as goal

pub invariant_of-self : goal.invariant_of-self
invariant_of-self c =
    let pages = c.without_sections-self-inside.result in
    let beside = subst (λ (places : List ℕ). IsVacantIndex pages [] places) c.places.ensures.places c.without_sections-self-inside.ensures in (
      subst ArePlaces c.places.ensures.places c.places.ensures.sound,
      subst (λ (t : Sections). IsVacantIndex pages t.live (places_of c.reset.new.self)) (sym c.new-self-inside.ensures) beside,
      c.empty-self-inside.ensures c.new-self-inside.result.live (places_of c.reset.new.self),
      c.empty-self-inside-2.ensures.readable c.new-self-inside.result.live (places_of c.reset.new.self),
    )
