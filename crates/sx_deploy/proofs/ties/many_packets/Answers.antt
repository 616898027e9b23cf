use Rattle.std.proofs.Common.{◌∙◌}
use Rattle.sx_entries.proofs.Mapped.{entries-map}
use Rattle.sx_entries.specs.declared.fault.Sort.TheVariants.{Module}
use Rattle.sx_deploy.specs.Seen.{checked_as}
use Rattle.sx_deploy.specs.Ties.{makes_many_packets}
use Rattle.sx_deploy.proofs.ties.many_packets.Goals as goal

pub returns : goal.returns
returns c = c.entries.ensures ∙ entries-map checked_as 9 Module (makes_many_packets c.args.links.now) c.args.modules.now
