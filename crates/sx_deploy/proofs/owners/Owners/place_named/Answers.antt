use Rattle.std.proofs.Common.{List, map, ap, ◌∙◌}
use Rattle.sx_index.specs.Places.{place_of}
use Rattle.sx_index.proofs.Indexed.{place_is}
use Rattle.sx_deploy.specs.declared.checks.CheckedModule.{CheckedModule}
use Rattle.sx_deploy.proofs.owners.Owners.place_named.Goals as goal

pub returns : goal.returns
returns c =
    place_is c.self.inside.names (map (λ (m : CheckedModule). m.name) c.self.inside.modules.now) (map (λ (m : CheckedModule). m.name) c.args.self.now) c.bytes.result.now c.place_of.result
    (ap (λ (ms : List CheckedModule). map (λ (m : CheckedModule). m.name) ms) c.self.view_is) c.self.invariant c.place_of.ensures
    ∙ ap (place_of (map (λ (m : CheckedModule). m.name) c.args.self.now)) c.bytes.ensures.bytes
