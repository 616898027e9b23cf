use Rattle.std.proofs.Common.{ap, refl, subst, Err}
use Rattle.command_promise.specs.Reads.{anything}
use Rattle.command_promise.specs.Told.{read_line, unread_output}
use Rattle.command_promise.proofs.Laws.{told-reads, told-nothing}
use Rattle.command_asm.specs.declared.assembling.GatherFault.{GatherFault}
use Rattle.command_asm.specs.Assembling.{asm_input, Whole}
use Rattle.command_asm.specs.Gathering.{Gathers, gathered_bytes}
use Rattle.command_asm.proofs.assembling.asm_told.Goals as goal

pub returns-in-Ok : goal.returns-in-Ok
returns-in-Ok g c =
    told-reads (asm_input c.args.at) (asm_input c.args.at (Whole (gathered_bytes c.in-Ok.gathered))) refl c.in-Ok.ensures
    (λ answers e. (ap (asm_input c.args.at) e, tt)) c.tell_code.ensures

pub returns-in-Err-Failed : goal.returns-in-Err-Failed
unfolding read_line
returns-in-Err-Failed g c =
    let P : GatherFault → Type 0 = λ f. Gathers g.S.Source.tells (g.S.Source.at c.args.input.now) (g.S.Source.at c.gather.new.source) (Err f) in
    told-reads (asm_input c.args.at) unread_output refl (subst P c.in-Err-Failed.field-0-is c.in-Err-Failed.ensures)
    (λ answers e. (ap (asm_input c.args.at) e, tt)) c.finish.ensures.ends

pub returns-in-Err-OutOfMemory : goal.returns-in-Err-OutOfMemory
returns-in-Err-OutOfMemory g c =
    let P : GatherFault → Type 0 = λ f. Gathers g.S.Source.tells (g.S.Source.at c.args.input.now) (g.S.Source.at c.gather.new.source) (Err f) in
    told-nothing {P = anything} (asm_input c.args.at) refl (subst P c.in-Err-OutOfMemory.field-0-is c.in-Err-OutOfMemory.ensures) (λ answers q. tt)
