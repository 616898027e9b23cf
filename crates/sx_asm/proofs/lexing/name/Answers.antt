use Rattle.std.proofs.Common.{◌≡◌, Some, sym}
use Rattle.sx_lex.specs.Words.{found_in, keywords}
use Rattle.sx_asm.proofs.WordKinds.{any_keyword}
use Rattle.sx_asm.proofs.lexing.name.Goals as goal

pub returns-in-Some : goal.returns-in-Some
returns-in-Some c =
    let e : found_in keywords c.args.word.now ≡ Some c.in-Some.field-0 = cc in
    sym (any_keyword c.args.word.now c.in-Some.field-0 c.requires.form e)
