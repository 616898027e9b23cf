use Rattle.command_promise.specs.declared.status.Status.TheVariants.{ReadFailed, NoCode}
use Rattle.command_promise.specs.Told.{read_line}
use Rattle.command_asm.specs.Disassembling.{Bytes, BadLine, Unread}
use Rattle.command_asm.proofs.Listed.{dis_promise, told_given}
use Rattle.command_text.proofs.Ends.{never_six}
use Rattle.command_asm.proofs.disassembling.dis_over.Goals as goal

pub returns-in-AtEnd : goal.returns-in-AtEnd
returns-in-AtEnd g c =
    let at = c.args.at in
    let h = c.in-AtEnd.ensures in
    dis_promise at
    (told_given at (Bytes h.0) h.2 (c.tell.ensures.told h.0 h.1)) c.tell.ensures.memory

pub returns-in-BadLine : goal.returns-in-BadLine
returns-in-BadLine g c =
    let at = c.args.at in
    dis_promise at
    (told_given at (BadLine c.in-BadLine.number) c.in-BadLine.ensures c.finish_fault.ensures.ends)
    (never_six _ NoCode c.finish_fault.ensures.status (λ e. cc e))

pub returns-in-Failed : goal.returns-in-Failed
unfolding read_line
returns-in-Failed g c =
    let at = c.args.at in
    dis_promise at
    (told_given at Unread c.in-Failed.ensures c.finish.ensures.ends)
    (never_six _ ReadFailed c.finish.ensures.status (λ e. cc e))
