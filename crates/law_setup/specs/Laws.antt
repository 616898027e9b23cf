-- What holds of the set-up of an honest run: it shows what the source alone predicts, and fits.
use Rattle.std.specs.Prelude.{◌≡◌, ℕ, ◌<◌, ◌≤◌, true, List, length, slice_get, Some, Ok, All}
use Rattle.sx_mean.specs.Validity.{is_valid}
use Rattle.sx_tag.specs.Mac.{Mac, IsTag}
use Rattle.sx_deploy.specs.Deployment.{Deployed, IsRead}
use Rattle.spec_run.specs.Setting.{Site, Setting}
use Rattle.spec_run.specs.State.{switched_on}
use Rattle.spec_run.specs.Run.{run}
use Rattle.spec_run.specs.Law.{IsLawfulSetting, LinesInForm}
use Rattle.spec_run.specs.Accepted.{AreImages, setting_of}
use Rattle.spec_honest.specs.Course.{setup_items, setup_lines, setup_packets}
use Rattle.law_setup.specs.Schedule.{setup_schedule}

-- the application is valid, no section and no device begins below 0x0200, and texts are bytes
pub record HasRoom (set : Setting) : Type 0 where
  pub valid : is_valid set.app ≡ true
  pub sections : (m : ℕ) (site : Site) → slice_get set.sites m ≡ Some site
      → (512 ≤ site.layout.pub_from) × (512 ≤ site.layout.priv_from)
  pub devices : All (λ at. 512 ≤ at) set.places
  pub texts : (m : ℕ) (site : Site) → slice_get set.sites m ≡ Some site
      → All (λ b. b < 256) site.text

-- from power-on the lines of the set-up show what the source predicts
abbrev pub ShowsSetUp : Setting → Type 0
ShowsSetUp set = (run set (switched_on set) (setup_schedule set.app)).items ≡ setup_items set.app

abbrev pub SetUp : Type 0
SetUp = (set : Setting) → IsLawfulSetting set → HasRoom set → ShowsSetUp set

-- from text on: so it is for each deployment that is accepted, with images that realize its modules
abbrev pub AcceptedSetUp : Type 0
AcceptedSetUp = (text : List ℕ) (d : Deployed) → IsRead text (Ok d)
    → (mac : Mac) (texts : List (List ℕ)) → IsTag mac → AreImages mac d texts
    → ShowsSetUp (setting_of mac d texts)

-- the set-up has as many lines as the source says, few of them and few packets, and they are in
-- form
pub record FitsIn (set : Setting) : Type 0 where
  pub lines : length (setup_schedule set.app) ≡ setup_lines set.app
  pub few : setup_lines set.app ≤ 1216
  pub packets : setup_packets set.app ≤ 576
  pub formed : LinesInForm set (setup_schedule set.app)

abbrev pub SetUpFits : Type 0
SetUpFits = (set : Setting) → HasRoom set → FitsIn set
