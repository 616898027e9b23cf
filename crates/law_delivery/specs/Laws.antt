-- What holds of the honest run of readings: its lines show what the source alone predicts.
use Rattle.std.specs.Prelude.{◌≡◌, ℕ, ◌<◌, List, length, All, slice_get, Some, Ok}
use Rattle.sx_lang.specs.Words.{TreeHasWords}
use Rattle.sx_mean.specs.Application.{AppTree, PartTree}
use Rattle.sx_tag.specs.Mac.{Mac, IsTag}
use Rattle.sx_deploy.specs.Deployment.{Deployed, IsRead}
use Rattle.spec_run.specs.Setting.{Setting}
use Rattle.spec_run.specs.Accepted.{AreImages, setting_of}
use Rattle.spec_run.specs.State.{switched_on}
use Rattle.spec_run.specs.Run.{run}
use Rattle.spec_run.specs.Law.{IsLawfulSetting, LinesInForm}
use Rattle.spec_honest.specs.Plain.{Sampling}
use Rattle.spec_honest.specs.Course.{Course, IsHonest, lines_so_far}
use Rattle.spec_honest.specs.Delivers.{Delivers}
use Rattle.law_setup.specs.Laws.{HasRoom}
use Rattle.law_delivery.specs.Schedule.{honest_schedule}

-- each number in a module's source is a word
abbrev pub HaveWords : AppTree → Type 0
HaveWords app = (m : ℕ) (q : PartTree) → slice_get app.parts m ≡ Some q → TreeHasWords q.tree

-- From power-on the lines of an honest run show exactly the items of its course. A reading's value
-- is below 32,768.
abbrev pub HonestShows : Type 0
HonestShows = (set : Setting) (rs : List Sampling) (c : Course) → IsLawfulSetting set → HasRoom set
    → HaveWords set.app → IsHonest set.app rs c → All (λ (r : Sampling). r.value < 32768) rs
    → (run set (switched_on set) (honest_schedule set.app rs)).items ≡ c.items

-- And so what they show delivers: the source allows it, nothing is forged, each value that is sent
-- is taken once, and the outputs are those of the plain fold.
abbrev pub HonestRunDelivers : Type 0
HonestRunDelivers = (set : Setting) (rs : List Sampling) (c : Course) → IsLawfulSetting set
    → HasRoom set → HaveWords set.app → IsHonest set.app rs c
    → All (λ (r : Sampling). r.value < 32768) rs
    → Delivers set.app rs (run set (switched_on set) (honest_schedule set.app rs)).items

-- From text on: so it is for each accepted deployment, with images that realize its modules.
abbrev pub AcceptedRunDelivers : Type 0
AcceptedRunDelivers = (text : List ℕ) (d : Deployed) → IsRead text (Ok d)
    → (mac : Mac) (texts : List (List ℕ)) → IsTag mac → AreImages mac d texts
    → (rs : List Sampling) (c : Course) → IsHonest d.app rs c
    → All (λ (r : Sampling). r.value < 32768) rs
    → let set = setting_of mac d texts in
    Delivers d.app rs (run set (switched_on set) (honest_schedule d.app rs)).items

-- the lines are as many as the course says, and in form
pub record HasFitLines (set : Setting) (rs : List Sampling) (c : Course) : Type 0 where
  pub lines : length (honest_schedule set.app rs) ≡ lines_so_far set.app (length rs) c
  pub formed : LinesInForm set (honest_schedule set.app rs)

abbrev pub HonestFits : Type 0
HonestFits = (set : Setting) (rs : List Sampling) (c : Course) → IsHonest set.app rs c
    → All (λ (r : Sampling). r.value < 32768) rs → HasFitLines set rs c
