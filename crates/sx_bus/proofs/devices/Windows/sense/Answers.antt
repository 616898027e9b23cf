use Rattle.std.proofs.Common.{◌≡◌, ◌++◌, take, drop, length, sym, ◌∙◌, ap, subst, arith}
use Rattle.std.proofs.lemmas.Grind.{common_steps}
use Rattle.sx_bus.specs.Devices.{HaveSamples, places_of, with_sample}
use Rattle.sx_bus.proofs.Changed.{places_of-with_sample, HaveSamples-with_sample}
use Rattle.sx_bus.proofs.devices.Windows.sense.Goals as goal

pub invariant_of-self : goal.invariant_of-self
invariant_of-self c =
    let items = c.self.inside.windows.items in
    let written : take c.self.inside.windows.len (c.sense_one.new.windows ++ drop (length c.sense_one.new.windows) items)
    ≡ with_sample c.self.inside.windows.items c.args.device c.args.value = grind (arith, common_steps) in (
      c.self.invariant.0 ∙ sym (ap places_of written ∙ places_of-with_sample c.self.inside.windows.items c.args.device c.args.value),
      c.self.invariant.1,
      subst HaveSamples (sym written) (HaveSamples-with_sample items c.args.device
          c.args.value c.requires.value c.self.invariant.2),
      c.self.invariant.3,
    )
