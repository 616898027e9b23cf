use Rattle.std.proofs.Common.{◌≡◌, refl}
use Rattle.command_promise.specs.declared.status.Status.TheVariants.{NoProperty}
use Rattle.command_text.proofs.Ends.{never_six}
use Rattle.command_property.specs.Refused.{property_line}
use Rattle.command_property.proofs.refusing.refuse_no_property.Goals as goal

pub returns : goal.returns
unfolding property_line
returns g c = record {
  ends = c.finish.ensures.ends;
  memory = never_six _ NoProperty c.finish.ensures.status (λ e. cc e);
}
