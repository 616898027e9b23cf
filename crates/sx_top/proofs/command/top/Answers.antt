use Rattle.std.proofs.Common.{◌∙◌, map, refl, sym, subst, ap, Option, Some, None}
use Rattle.std.specs.Prelude.{string_bytes}
use Rattle.sx_tag.specs.Mac.{hmac_sha256}
use Rattle.sx_top.specs.declared.words.Command.{Command}
use Rattle.sx_top.specs.declared.words.Command.TheVariants.{Run, Check, Explain, Drive, Snap, Gen, Asm, Dis, Holds, Watch, Lines, Describe, Batch}
use Rattle.sx_top.specs.Chosen.{CarriesFew}
use Rattle.command_text.specs.Refusals.{usage_line}
use Rattle.command_run.proofs.Said.{lines_not_two, says_not_two}
use Rattle.command_batch.proofs.Said.{batch_not_two}
use Rattle.command_report.proofs.Promised.{report_not_two}
use Rattle.command_explain.proofs.Promised.{explain_not_two}
use Rattle.command_watch.proofs.Promised.{watch_not_two}
use Rattle.command_drive.proofs.Said.{says_not_two as drive_not_two}
use Rattle.command_snap.proofs.Said.{says_not_two as snap_not_two}
use Rattle.command_holds.proofs.Promised.{holds_not_two}
use Rattle.command_gen.proofs.Generated.{gen_not_two}
use Rattle.command_asm.proofs.Statused.{asm_not_two, dis_not_two}
use Rattle.sx_top.proofs.Usage.{program}
use Rattle.sx_top.proofs.command.top.Goals as goal

pub returns-in-Some-Run-clause-told : goal.returns-in-Some-Run-clause-told
returns-in-Some-Run-clause-told g c =
    program hmac_sha256 (map string_bytes c.args.words.now) (Some Run)
    (sym c.command_of.ensures.command ∙ c.in-Some-Run.is ∙ ap Some c.in-Some-Run.field-0-is) c.run_over.ensures
    (λ two. absurd (says_not_two hmac_sha256 c.run_over.ensures.says two))

pub returns-in-Some-Check-clause-told : goal.returns-in-Some-Check-clause-told
returns-in-Some-Check-clause-told g c =
    program hmac_sha256 (map string_bytes c.args.words.now) (Some Check)
    (sym c.command_of.ensures.command ∙ c.in-Some-Check.is ∙ ap Some c.in-Some-Check.field-0-is) c.check_over.ensures
    (λ two. absurd (report_not_two c.check_over.ensures two))

pub returns-in-Some-Explain-clause-told : goal.returns-in-Some-Explain-clause-told
returns-in-Some-Explain-clause-told g c =
    program hmac_sha256 (map string_bytes c.args.words.now) (Some Explain)
    (sym c.command_of.ensures.command ∙ c.in-Some-Explain.is ∙ ap Some c.in-Some-Explain.field-0-is) c.explain_over.ensures
    (λ two. absurd (explain_not_two c.explain_over.ensures two))

pub returns-in-Some-Watch-clause-told : goal.returns-in-Some-Watch-clause-told
returns-in-Some-Watch-clause-told g c =
    program hmac_sha256 (map string_bytes c.args.words.now) (Some Watch)
    (sym c.command_of.ensures.command ∙ c.in-Some-Watch.is ∙ ap Some c.in-Some-Watch.field-0-is) c.watch_over.ensures
    (λ two. absurd (watch_not_two c.watch_over.ensures two))

pub returns-in-Some-Drive-clause-told : goal.returns-in-Some-Drive-clause-told
returns-in-Some-Drive-clause-told g c =
    program hmac_sha256 (map string_bytes c.args.words.now) (Some Drive)
    (sym c.command_of.ensures.command ∙ c.in-Some-Drive.is ∙ ap Some c.in-Some-Drive.field-0-is) c.drive_over.ensures
    (λ two. absurd (drive_not_two hmac_sha256 c.drive_over.ensures two))

pub returns-in-Some-Snap-clause-told : goal.returns-in-Some-Snap-clause-told
returns-in-Some-Snap-clause-told g c =
    program hmac_sha256 (map string_bytes c.args.words.now) (Some Snap)
    (sym c.command_of.ensures.command ∙ c.in-Some-Snap.is ∙ ap Some c.in-Some-Snap.field-0-is) c.snap_over.ensures
    (λ two. absurd (snap_not_two hmac_sha256 c.snap_over.ensures two))

pub returns-in-Some-Holds-clause-told : goal.returns-in-Some-Holds-clause-told
returns-in-Some-Holds-clause-told g c =
    program hmac_sha256 (map string_bytes c.args.words.now) (Some Holds)
    (sym c.command_of.ensures.command ∙ c.in-Some-Holds.is ∙ ap Some c.in-Some-Holds.field-0-is) c.holds_over.ensures
    (λ two. absurd (holds_not_two c.holds_over.ensures two))

pub gen_over-requires : goal.gen_over-requires
gen_over-requires g c =
    let P : Option Command → Type 0 = λ command. CarriesFew command in
    subst P (c.in-Some-Gen.is ∙ ap Some c.in-Some-Gen.field-0-is) c.command_of.ensures.few

pub returns-in-Some-Gen-clause-told : goal.returns-in-Some-Gen-clause-told
returns-in-Some-Gen-clause-told g c =
    program hmac_sha256 (map string_bytes c.args.words.now) (Some (Gen c.in-Some-Gen.samples))
    (sym c.command_of.ensures.command ∙ c.in-Some-Gen.is ∙ ap Some c.in-Some-Gen.field-0-is)
    (record { told = c.gen_over.ensures; unread = refl })
    (λ two. absurd (gen_not_two c.gen_over.ensures two))

pub returns-in-Some-Asm-clause-told : goal.returns-in-Some-Asm-clause-told
returns-in-Some-Asm-clause-told g c =
    program hmac_sha256 (map string_bytes c.args.words.now) (Some (Asm c.in-Some-Asm.at))
    (sym c.command_of.ensures.command ∙ c.in-Some-Asm.is ∙ ap Some c.in-Some-Asm.field-0-is) c.asm_over.ensures
    (λ two. absurd (asm_not_two c.in-Some-Asm.at c.asm_over.ensures two))

pub returns-in-Some-Dis-clause-told : goal.returns-in-Some-Dis-clause-told
returns-in-Some-Dis-clause-told g c =
    program hmac_sha256 (map string_bytes c.args.words.now) (Some (Dis c.in-Some-Dis.at))
    (sym c.command_of.ensures.command ∙ c.in-Some-Dis.is ∙ ap Some c.in-Some-Dis.field-0-is) c.dis_over.ensures
    (λ two. absurd (dis_not_two c.in-Some-Dis.at c.dis_over.ensures two))

pub returns-in-Some-Lines-clause-told : goal.returns-in-Some-Lines-clause-told
returns-in-Some-Lines-clause-told g c =
    program hmac_sha256 (map string_bytes c.args.words.now) (Some Lines)
    (sym c.command_of.ensures.command ∙ c.in-Some-Lines.is ∙ ap Some c.in-Some-Lines.field-0-is) c.lines_over.ensures
    (λ two. absurd (lines_not_two hmac_sha256 c.lines_over.ensures.says two))

pub returns-in-Some-Describe-clause-told : goal.returns-in-Some-Describe-clause-told
returns-in-Some-Describe-clause-told g c =
    program hmac_sha256 (map string_bytes c.args.words.now) (Some Describe)
    (sym c.command_of.ensures.command ∙ c.in-Some-Describe.is ∙ ap Some c.in-Some-Describe.field-0-is) c.describe_over.ensures
    (λ two. absurd (report_not_two c.describe_over.ensures two))

pub returns-in-Some-Batch-clause-told : goal.returns-in-Some-Batch-clause-told
returns-in-Some-Batch-clause-told g c =
    program hmac_sha256 (map string_bytes c.args.words.now) (Some Batch)
    (sym c.command_of.ensures.command ∙ c.in-Some-Batch.is ∙ ap Some c.in-Some-Batch.field-0-is) c.batch_over.ensures
    (λ two. absurd (batch_not_two hmac_sha256 c.batch_over.ensures two))

pub returns-in-None-clause-told : goal.returns-in-None-clause-told
unfolding usage_line
returns-in-None-clause-told g c =
    program hmac_sha256 (map string_bytes c.args.words.now) None (sym c.command_of.ensures.command ∙ c.in-None.is)
    (record {
      ends = c.finish.ensures.ends;
      unread = refl;
      memory = λ six. cc (six, c.finish.ensures.status (λ five. cc (five, six)));
    })
    (λ two. refl)
