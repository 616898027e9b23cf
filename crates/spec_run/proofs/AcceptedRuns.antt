-- What holds of every run of a sound setting holds of the runs of an accepted deployment with its
-- images.
use Rattle.std.proofs.Common.{List}
use Rattle.sx_trace.specs.declared.items.Item.{Item}
use Rattle.sx_mean.specs.Application.{AppTree}
use Rattle.sx_deploy.proofs.Sound.{sound}
use Rattle.spec_run.specs.Accepted.{setting_of, sites_of}
use Rattle.spec_run.specs.Law.{OfRuns}
use Rattle.spec_run.specs.AcceptedLaw.{OfAcceptedRuns}
use Rattle.spec_run.proofs.accepted.Settled.{settled}
use Rattle.spec_run.proofs.accepted.FormedLines.{lines_in_form}

pub of_accepted : (Holds : AppTree → List Item → Type 0) → OfRuns Holds → OfAcceptedRuns Holds
of_accepted Holds runs text d h mac texts tag images lines few are =
    runs (setting_of mac d texts) (settled mac d texts (sound text d h) images tag) lines few
    (lines_in_form mac d (sites_of d.app.parts d.layouts d.providers texts) (sound text d h) lines are)
