-- The keys of connections in the run of an accepted deployment, from its text on.
use Rattle.std.specs.Prelude.{ℕ, List, Ok}
use Rattle.sx_tag.specs.Mac.{Mac, IsTag}
use Rattle.sx_sched.specs.Lines.{Line}
use Rattle.sx_deploy.specs.Deployment.{Deployed, IsRead}
use Rattle.spec_run.specs.Accepted.{setting_of, AreImages}
use Rattle.spec_run.specs.AcceptedLaw.{AreLines}
use Rattle.law_connections.specs.LinksUnseen.{LinksAreUnseen}
use Rattle.law_connections.specs.Laws.{HidesKeys}

-- for every text that is accepted, every lawful tag, all images that realize its modules and show
-- no key, and every schedule
abbrev pub AcceptedUnseen : Type 0
AcceptedUnseen = (text : List ℕ) (d : Deployed) → IsRead text (Ok d)
    → (mac : Mac) (texts : List (List ℕ)) → IsTag mac → AreImages mac d texts
    → HidesKeys (setting_of mac d texts) → (lines : List Line) → AreLines d.names lines
    → LinksAreUnseen (setting_of mac d texts) lines
