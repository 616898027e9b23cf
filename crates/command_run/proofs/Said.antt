-- What follows for `run` and `lines` from what they wrote and read.
use Rattle.std.proofs.Common.{◌≡◌, ℕ, Bool, List, Option, Some, None}
use Rattle.sx_asm.specs.Assembled.{assembled}
use Rattle.sx_io.specs.Reading.{Answer}
use Rattle.command_promise.specs.declared.status.Status.{Status}
use Rattle.command_promise.specs.declared.status.Status.TheVariants.{Misused}
use Rattle.command_promise.specs.Told.{CommandAt}
use Rattle.sx_tag.specs.Mac.{Mac, IsTag}
use Rattle.std.specs.Prelude.{All}
use Rattle.sx_model.specs.Legal.{Legal}
use Rattle.sx_model.specs.order.Legal.{LegalInOrder}
use Rattle.sx_model.specs.order.Turns.{OneAtATime}
use Rattle.sx_model.specs.order.Given.{IsGiven}
use Rattle.spec_run.proofs.RunsLegal.{runs_legal}
use Rattle.spec_run.proofs.RunsInOrder.{runs_in_order}
use Rattle.spec_run.proofs.turns.RunsTakeTurns.{runs_take_turns}
use Rattle.spec_run.proofs.turns.RunsAreGiven.{runs_are_given}
use Rattle.sx_deploy.specs.Deployment.{Deployed}
use Rattle.spec_run.specs.Accepted.{AreImages, setting_of}
use Rattle.command_head.specs.Begun.{ReadsAs}
use Rattle.command_deploy.specs.Afterwards.{DeployTold}
use Rattle.command_deploy.proofs.Said.{deploy_not_two, deploy_says}
use Rattle.command_run.specs.Lines.{lines_deployed}
use Rattle.command_run.specs.Output.{run_deployed}
use Rattle.command_run.specs.Promise.{RunDeployPromise, RunsWith, run_may, run_part}
use Rattle.command_run.specs.Tells.{LinesSay, lines_part}
use Rattle.law_isolation.proofs.Performing.{runs_guarded}
use Rattle.law_forgery.specs.Forgery.{ForgedIsForgery}
use Rattle.law_connections.specs.LinksUnseen.{LinksAreUnseen}
use Rattle.law_connections.specs.Unlinks.{HasMoved}
use Rattle.command_world.specs.Compiled.{compiled_texts}
use Rattle.command_world.specs.Schedule.{schedule}
use Rattle.command_run.proofs.Legality.{holds_by, items_forged, links_unseen}
use Rattle.command_run.proofs.Moving.{deployed_hides, deployed_moved}
use Rattle.command_run.proofs.Owing.{lines_owe, run_owes}

forged_by : (mac : Mac) (deployment : Option (List ℕ)) (texts : List (List ℕ)) (d : Deployed) → IsTag mac → ReadsAs deployment d → AreImages mac d texts
    → (answers : List Answer) → ForgedIsForgery (setting_of mac d texts) (schedule assembled d.names 1 answers).lines
forged_by mac None texts d tag deploys images answers = absurd deploys
forged_by mac (Some text) texts d tag deploys images answers = items_forged mac text d texts tag deploys images answers

links_by : (mac : Mac) (deployment : Option (List ℕ)) (texts : List (List ℕ)) (d : Deployed) → IsTag mac → ReadsAs deployment d → AreImages mac d texts
    → texts ≡ compiled_texts d → (answers : List Answer) → LinksAreUnseen (setting_of mac d texts) (schedule assembled d.names 1 answers).lines
links_by mac None texts d tag deploys images made answers = absurd deploys
links_by mac (Some text) texts d tag deploys images made answers = links_unseen mac text d texts tag deploys images (deployed_hides mac text d texts deploys made) answers

moved_by : (mac : Mac) (deployment : Option (List ℕ)) (texts : List (List ℕ)) (d : Deployed) → IsTag mac → ReadsAs deployment d → AreImages mac d texts
    → texts ≡ compiled_texts d → HasMoved (setting_of mac d texts)
moved_by mac None texts d tag deploys images made = absurd deploys
moved_by mac (Some text) texts d tag deploys images made = deployed_moved mac text d texts tag deploys images made

-- what holds of images that realize their modules
pub runs_with : (mac : Mac) → IsTag mac → (deployment : Option (List ℕ)) (texts : List (List ℕ)) → ((d : Deployed) → ReadsAs deployment d → AreImages mac d texts) → RunsWith assembled mac deployment texts
runs_with mac tag deployment texts realize = record {
  legal = λ d deploys schedule. holds_by Legal runs_legal mac deployment texts d tag deploys (realize d deploys) schedule;
  order = λ d deploys schedule. holds_by LegalInOrder runs_in_order mac deployment texts d tag deploys (realize d deploys) schedule;
  turns = λ d deploys schedule. holds_by OneAtATime runs_take_turns mac deployment texts d tag deploys (realize d deploys) schedule;
  given = λ d deploys schedule. holds_by (λ app items. All IsGiven items) runs_are_given mac deployment texts d tag deploys (realize d deploys) schedule;
  forged = λ d deploys answers. forged_by mac deployment texts d tag deploys (realize d deploys) answers;
  links = λ d deploys made answers. links_by mac deployment texts d tag deploys (realize d deploys) made answers;
  moved = λ d deploys made. moved_by mac deployment texts d tag deploys (realize d deploys) made;
  guarded = λ d lines. runs_guarded (setting_of mac d texts) lines;
}

pub run_says : {tells to_tell : Bool} {m0 m1 : CommandAt} {status : Status} (mac : Mac) → IsTag mac → DeployTold mac (run_deployed assembled mac) (run_may assembled) tells to_tell m0 m1 status
    → RunDeployPromise assembled mac tells to_tell m0 m1 status
run_says {tells} {to_tell} {m0} {m1} {status} mac tag told =
    deploy_says {tells = tells} {to_tell = to_tell} {m0 = m0} {m1 = m1} {status = status} mac (run_part assembled mac) (run_owes mac)
    (λ deployment texts bytes realize. runs_with mac tag deployment texts realize) told

pub says_not_two : {tells to_tell : Bool} {m0 m1 : CommandAt} {status : Status} (mac : Mac) → RunDeployPromise assembled mac tells to_tell m0 m1 status → status ≡ Misused → ⊥
says_not_two mac run two = deploy_not_two mac (run_part assembled mac) (run_owes mac) run two

pub lines_say : {tells to_tell : Bool} {m0 m1 : CommandAt} {status : Status} (mac : Mac) → IsTag mac → DeployTold mac (lines_deployed assembled mac) (run_may assembled) tells to_tell m0 m1 status
    → LinesSay assembled mac tells to_tell m0 m1 status
lines_say {tells} {to_tell} {m0} {m1} {status} mac tag told =
    deploy_says {tells = tells} {to_tell = to_tell} {m0 = m0} {m1 = m1} {status = status} mac (lines_part assembled mac) (lines_owe mac)
    (λ deployment texts bytes realize. runs_with mac tag deployment texts realize) told

pub lines_not_two : {tells to_tell : Bool} {m0 m1 : CommandAt} {status : Status} (mac : Mac) → LinesSay assembled mac tells to_tell m0 m1 status → status ≡ Misused → ⊥
lines_not_two mac says two = deploy_not_two mac (lines_part assembled mac) (lines_owe mac) says two
