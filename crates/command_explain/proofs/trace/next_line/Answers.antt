use Rattle.std.proofs.Common.{rules, ◌≡◌, inl, inr, refl, subst, Result, Err}
use Rattle.sx_io.specs.Reading.{longest}
use Rattle.sx_io.specs.Next.{Ahead, Next}
use Rattle.sx_io.specs.declared.lines.LineRead.{LineRead}
use Rattle.sx_io.specs.declared.outside.Failed.{Failed}
use Rattle.command_promise.specs.Told.{command_at}
use Rattle.command_text.specs.Keeping.{ComesNext}
use Rattle.command_explain.proofs.trace.next_line.Goals as goal

pub returns-in-Some-clause-comes : goal.returns-in-Some-clause-comes
returns-in-Some-clause-comes g c = inl (refl, refl, c.in-Some.ensures.held)

pub returns-in_err-put_kept-in-None-clause-comes : goal.returns-in_err-put_kept-in-None-clause-comes
returns-in_err-put_kept-in-None-clause-comes g c =
    let kept = c.args.kept.now.items in
    let R : Result LineRead Failed → Type 0 = λ r. ComesNext g.S.Source.tells g.K.Sink.tells (command_at (g.S.Source.at c.args.input.now) (g.K.Sink.at c.args.output.now))
    (command_at (g.S.Source.at c.args.input.now) (g.K.Sink.at c.put_kept.new.output)) kept kept c.args.lines.now c.next_held.new.lines c.next_held.new.into r in
    let same : Err c.in_err-put_kept-in-None.field-0.0 ≡ c.from_residual.result = search rules in
    subst R same (c.in_err-put_kept-in-None.ensures, refl)

pub returns-in_ok-put_kept-in-None-clause-comes : goal.returns-in_ok-put_kept-in-None-clause-comes
returns-in_ok-put_kept-in-None-clause-comes g c =
    let P : Ahead → Type 0 = λ a. Next longest g.S.Source.tells (g.S.Source.at c.args.input.now) (g.S.Source.at c.next.new.source) a c.next.new.self c.next.new.into c.next.result in
    inr (c.in_ok-put_kept-in-None.ensures, c.clear.ensures, subst P (c.in-None.ensures.none refl) c.next.ensures.next)
