-- An accepted deployment has room.
use Rattle.std.proofs.Common.{◌≡◌, ℕ, suc, ◌≤◌, List, [], ◌∷◌, length, Ok, sym, ◌∙◌, arith}
use Rattle.std.specs.Prelude.{All}
use Rattle.std.proofs.lemmas.List.Elements.{All-cons, All-nil}
use Rattle.sx_mean.specs.declared.apps.AppDevice.{AppDevice}
use Rattle.sx_deploy.specs.Deployment.{Deployed, IsRead}
use Rattle.sx_deploy.specs.Law.{IsWordPlace, words_of}
use Rattle.sx_deploy.proofs.Sound.{sound}
use Rattle.sx_deploy.proofs.ValidApp.{app_valid}
use Rattle.sx_tag.specs.Mac.{Mac}
use Rattle.spec_run.specs.Accepted.{AreByteTexts, setting_of}
use Rattle.spec_run.proofs.accepted.LaidSites.{laid_at, site_at}
use Rattle.spec_run.proofs.accepted.Settled.{lawfully}
use Rattle.law_setup.specs.Laws.{AcceptedSetUp, HasRoom}
use Rattle.law_setup.proofs.SetUp.{set_up}

pub all_low : (ds : List AppDevice) (ats : List ℕ) → length ats ≡ length ds → All IsWordPlace (words_of ds ats) → All (λ at. 512 ≤ at) ats
all_low [] [] len h = All-nil (λ (at : ℕ). 512 ≤ at)
all_low [] (at ∷ ats) len h = absurd (omega (arith, len))
all_low (d ∷ ds) [] len h = All-nil (λ (at : ℕ). 512 ≤ at)
all_low (d ∷ ds) (at ∷ ats) len h =
    All-cons (λ (at : ℕ). 512 ≤ at) at ats (h 0 (record { node = d.node; at = at }) (omega arith)).low
    (all_low ds ats (omega (arith, len)) (λ k x lt. h (suc k) x (omega (arith, lt))))

pub has_room : (text : List ℕ) (d : Deployed) → IsRead text (Ok d) → (mac : Mac) (texts : List (List ℕ)) → AreByteTexts texts → HasRoom (setting_of mac d texts)
has_room text d h mac texts bytes =
    let acc = sound text d h in
    record {
      valid = app_valid text d h;
      sections = λ m site e.
          let r = site_at d.app.parts d.layouts d.providers texts m site e in
          let laid = laid_at d 0 d.app.parts d.layouts m r.part site.layout acc.laid r.found r.layout in
          (laid.text.low, laid.data_part.low);
      devices = all_low d.app.devices d.places (acc.places ∙ sym acc.devices) acc.words;
      texts = λ m site e. bytes m site.text (site_at d.app.parts d.layouts d.providers texts m site e).text;
    }

pub accepted_set_up : AcceptedSetUp
accepted_set_up text d h mac texts tag images = set_up (setting_of mac d texts) (lawfully mac d texts (sound text d h) images tag) (has_room text d h mac texts images.bytes)
