use Rattle.std.proofs.Common.{◌≡◌, ℕ, List, sym, subst}
use Rattle.std.specs.Prelude.{Ok}
use Rattle.sx_asm.specs.Assembled.{assembled}
use Rattle.sx_trace.proofs.Written.{written_text}
use Rattle.sx_sched.specs.Seen.{line_of}
use Rattle.sx_sched.specs.Reading.{said_line}
use Rattle.sx_sched.specs.Written.{line_text}
use Rattle.sx_sched.proofs.SaidTexts.{text_is_said}
use Rattle.sx_sched.proofs.writing.write_line.Goals as goal

pub returns-clause-said : goal.returns-clause-said
returns-clause-said c =
    let names = c.args.names.now in
    let line = line_of c.args.line.now in
    subst (λ (text : List ℕ). said_line assembled names text ≡ Ok line) (sym (written_text (line_text names line) c.args.into.now _ _ c.write_text.ensures))
    (text_is_said names line c.requires.valid c.requires.kind c.requires.in_form)
