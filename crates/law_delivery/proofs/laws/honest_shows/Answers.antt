use Rattle.law_delivery.proofs.Joined.{honest_shows}
use Rattle.law_delivery.proofs.laws.honest_shows.Goals as goal

pub returns : goal.returns
returns c = honest_shows
