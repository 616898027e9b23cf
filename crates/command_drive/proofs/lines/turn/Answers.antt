use Rattle.std.proofs.Common.{◌≡◌, ◌∙◌, ◌+◌, [], ap, inl, refl, subst, sym, Result, Ok, Err}
use Rattle.std.proofs.lemmas.List.{append-nil}
use Rattle.command_promise.proofs.Laws.{does-same, ends-same}
use Rattle.sx_deploy.specs.SeenDeployment.{deployed_as}
use Rattle.sx_drive.specs.Driving.{all_said, reading}
use Rattle.command_drive.specs.declared.readings.ReadingLine.{ReadingLine}
use Rattle.command_drive.specs.declared.readings.ReadingLine.TheVariants as says
use Rattle.command_drive.specs.declared.readings.ReadingRule.{ReadingRule}
use Rattle.command_drive.specs.Parts.{drive_from}
use Rattle.command_drive.specs.Input.{MayRunOut, judged_reading}
use Rattle.command_drive.proofs.Named.{are_there, same_app}
use Rattle.command_drive.proofs.Written.{drive_blank, drive_breaks, drive_reading}
use Rattle.command_drive.proofs.lines.turn.Goals as goal

pub returns-in-Ok-Blank-clause-turns : goal.returns-in-Ok-Blank-clause-turns
returns-in-Ok-Blank-clause-turns g c = λ set h f s.
    let d = deployed_as c.args.deployment.now in
    let n = c.args.number in
    let text = c.args.text.now in
    let judged : judged_reading d n text ≡ Ok says.Blank = sym c.judge_reading.ensures.reading ∙ c.in-Ok-Blank.is ∙ ap Ok c.in-Ok-Blank.field-0-is in record {
      next = h;
      follows = λ on. f;
      short = λ on. s;
      does = record {
        text = [];
        wrote = λ t. sym (append-nil _);
        same = λ more. drive_blank d set h n text more judged;
        no_fault = refl;
      };
    }

pub returns-in-Ok-Reading-clause-turns : goal.returns-in-Ok-Reading-clause-turns
returns-in-Ok-Reading-clause-turns g c = λ set h f s.
    let d = deployed_as c.args.deployment.now in
    let n = c.args.number in
    let text = c.args.text.now in
    let device = c.in-Ok-Reading.device in
    let value = c.in-Ok-Reading.value in
    let judged : judged_reading d n text ≡ Ok (says.Reading device value) = sym c.judge_reading.ensures.reading ∙ c.in-Ok-Reading.is ∙ ap Ok c.in-Ok-Reading.field-0-is in
    let there = are_there d set c.requires.going.deployed (same_app g.T.Tag.mac c.args.deployment.now c.args.honest.now set h f) in
    let p = c.read.ensures.plays set h f in record {
      next = (reading device value set h).honest;
      follows = λ on. (p.1 on).0;
      short = λ on. (p.1 on).1;
      does = does-same _ _ _ _ _ _ _ (λ more. drive_reading d set h n text device value more there judged) (p.0 (λ k more. drive_from d set k (n + 1) more));
    }

pub returns-in-Err-clause-turns : goal.returns-in-Err-clause-turns
returns-in-Err-clause-turns g c = λ set h f s.
    let d = deployed_as c.args.deployment.now in
    let n = c.args.number in
    let text = c.args.text.now in
    let rule = c.in-Err.rule in
    let judged : judged_reading d n text ≡ Err rule = sym c.judge_reading.ensures.reading ∙ c.in-Err.is in record {
      next = h;
      follows = λ on. absurd (cc on);
      short = λ on. absurd (cc on);
      does = λ more. ends-same _ _ _ _ _ _ (drive_breaks d set h n text rule more s judged) c.break_reading.ensures.ends;
    }

pub returns-in-Ok-Reading-clause-certain : goal.returns-in-Ok-Reading-clause-certain
returns-in-Ok-Reading-clause-certain g c = λ six.
    let d = deployed_as c.args.deployment.now in
    let P : Result ReadingLine ReadingRule → Type 0 = MayRunOut in
    let judged : judged_reading d c.args.number c.args.text.now ≡ Ok (says.Reading c.in-Ok-Reading.device c.in-Ok-Reading.value) =
    sym c.judge_reading.ensures.reading ∙ c.in-Ok-Reading.is ∙ ap Ok c.in-Ok-Reading.field-0-is in
    subst P (sym judged) tt

pub returns-in-Ok-Blank-clause-lossless : goal.returns-in-Ok-Blank-clause-lossless
returns-in-Ok-Blank-clause-lossless g c = inl (refl, ap all_said c.clear.ensures.items)

pub returns-in-Err-clause-lossless : goal.returns-in-Err-clause-lossless
returns-in-Err-clause-lossless g c = inl (refl, ap all_said c.clear.ensures.items)
