use Rattle.std.proofs.Common.{◌≡◌, ◌++◌, take, drop, length, sym, ◌∙◌, ap, subst, arith}
use Rattle.std.proofs.lemmas.Grind.{common_steps}
use Rattle.sx_bus.specs.Devices.{HaveSamples, places_of, all_stale}
use Rattle.sx_bus.proofs.Changed.{places_of-all_stale, HaveSamples-all_stale}
use Rattle.sx_bus.proofs.devices.Windows.reset.Goals as goal

pub invariant_of-self : goal.invariant_of-self
invariant_of-self c =
    let items = c.self.inside.windows.items in
    let written : take c.self.inside.windows.len (c.clear_all.new.windows ++ drop (length c.clear_all.new.windows) items) ≡ all_stale c.self.inside.windows.items = grind (arith, common_steps) in (
      c.self.invariant.0 ∙ sym (ap places_of written ∙ places_of-all_stale c.self.inside.windows.items),
      c.self.invariant.1,
      subst HaveSamples (sym written) (HaveSamples-all_stale items c.self.invariant.2),
      c.self.invariant.3,
    )
