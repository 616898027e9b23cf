use Rattle.std.proofs.Common.{ℕ, List, subst}
use Rattle.command_promise.specs.Told.{command_at}
use Rattle.command_explain.specs.Turns.{ReadWants}
use Rattle.command_explain.proofs.Heads.{told_found, told_headless}
use Rattle.command_explain.proofs.Wanted.{headless_wants, told_wants}
use Rattle.command_explain.proofs.explain.explain_told.Goals as goal

pub returns-in-Ok-clause-told : goal.returns-in-Ok-clause-told
returns-in-Ok-clause-told g c = λ means is. told_found means c.in-Ok.text.items c.deref.result.now c.deref.ensures.value c.in-Ok.ensures (c.explain_text.ensures.rest means is)

pub returns-in-Err-clause-told : goal.returns-in-Err-clause-told
returns-in-Err-clause-told g c = λ means is. told_headless c.read_head.new.lines means c.in-Err.fault c.in-Err.ensures c.refuse_head.ensures

pub returns-in-Ok-clause-memory : goal.returns-in-Ok-clause-memory
returns-in-Ok-clause-memory g c = λ means is six.
    let left = command_at (g.S.Source.at c.explain_text.new.input) (g.K.Sink.at c.explain_text.new.output) in
    let P : List ℕ → Type 0 = λ text. ReadWants means text g.S.Source.tells (g.S.Source.at c.read_head.new.source) left.source c.read_head.new.lines c.explain_text.new.lines in
    told_wants {k0 = g.K.Sink.at c.args.output.now} {m2 = left} {now = c.read_head.new.lines} {new = c.explain_text.new.lines} means c.in-Ok.text.items c.in-Ok.ensures
    (subst P c.deref.ensures.value (c.explain_text.ensures.wanted means is six))

pub returns-in-Err-clause-memory : goal.returns-in-Err-clause-memory
returns-in-Err-clause-memory g c = λ means is six.
    headless_wants g.K.Sink.tells (g.K.Sink.at c.args.output.now) (g.K.Sink.at c.refuse_head.new.output) c.refuse_head.result c.read_head.new.lines means c.in-Err.fault c.in-Err.ensures
    c.refuse_head.ensures six
