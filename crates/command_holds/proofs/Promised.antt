-- What follows for `holds` from what it wrote and read.
use Rattle.std.proofs.Common.{◌≡◌, ◌∙◌, Bool, [], sym}
use Rattle.sx_io.specs.Reading.{Ended, scan}
use Rattle.command_promise.specs.declared.status.Status.{Status}
use Rattle.command_promise.specs.declared.status.Status.TheVariants.{Misused}
use Rattle.command_promise.specs.Told.{CommandAt, CommandEnds}
use Rattle.command_promise.proofs.Endings.{faultless}
use Rattle.command_promise.specs.Head.{head, head_lines}
use Rattle.command_text.proofs.Ends.{faults_of}
use Rattle.command_head.proofs.Known as deployments
use Rattle.command_property.proofs.Known as properties
use Rattle.command_holds.specs.Output.{AreMeanings, Meanings, holds_all}
use Rattle.command_holds.specs.Promise.{HoldsPromise, SaysOf}
use Rattle.command_holds.specs.Ending.{ToldOf}
use Rattle.command_promise.proofs.Laws.{decides-quiet, told-some}
use Rattle.command_holds.proofs.Statuses.{all_not_four, head_not_two}

-- what the texts mean
abbrev known : Meanings
known = record { deployment = deployments.known; property = properties.known }

are_known : AreMeanings known
are_known = record { deployment = deployments.is_known; property = properties.is_known }

pub promised : {tells to_tell : Bool} {m0 m1 : CommandAt} {status : Status} → ToldOf tells to_tell m0 m1 status → HoldsPromise tells to_tell m0 m1 status
promised {tells} {to_tell} {m0} {m1} {status} (decision, told) = record {
  decision = decision;
  told = told;
  never = λ means is t quiet zero.
      let r = (told means is).reads in
      let also = decides-quiet r.left tells head_lines m0.source m1.source r.taken (λ answers. CommandEnds to_tell m0.sink m1.sink status (holds_all means decision answers) × SaysOf means status answers)
      t quiet.0 (r.from_source t) r.decides in
      also.1.never zero;
  faults = faults_of (λ bytes e. all_not_four known decision (scan head_lines Ended [] bytes) (faultless head_lines [] bytes) e) (told known are_known);
}

pub holds_not_two : {tells to_tell : Bool} {m0 m1 : CommandAt} {status : Status} → HoldsPromise tells to_tell m0 m1 status → status ≡ Misused → ⊥
holds_not_two holds two =
    let w = told-some (holds.told known are_known) in
    head_not_two known holds.decision (head w.0) (sym (w.1.0.whole (λ five. cc (two, five)) (λ six. cc (two, six))).0 ∙ two)
