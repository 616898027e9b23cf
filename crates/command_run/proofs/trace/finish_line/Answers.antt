use Rattle.std.proofs.Common.{◌∙◌, ◌++◌, ℕ, List, ap, append_assoc}
use Rattle.command_text.proofs.Keeping.{prefix_ends, up_to_ends}
use Rattle.command_run.specs.Turns.{shown_text}
use Rattle.command_run.proofs.trace.finish_line.Goals as goal

pub returns-in-Ok-clause-ends : goal.returns-in-Ok-clause-ends
returns-in-Ok-clause-ends g c = λ o.
    up_to_ends c.args.kept.now.items (shown_text c.args.shown c.args.names.now (record { text = c.args.said.now; items = c.args.items.now })) c.add_line.new.batch.items o
    c.in-Ok.ensures (c.finish_wanted.ensures.ends o)

pub returns-in-Err-clause-ends : goal.returns-in-Err-clause-ends
returns-in-Err-clause-ends g c = λ o.
    prefix_ends c.args.kept.now.items (shown_text c.args.shown c.args.names.now (record { text = c.args.said.now; items = c.args.items.now })) o c.in-Err.ensures

pub returns-in-Ok-clause-whole : goal.returns-in-Ok-clause-whole
returns-in-Ok-clause-whole g c = λ six t.
    let k0 = g.K.Sink.at c.args.output.now in
    let u = c.in-Ok.ensures in
    let left = c.add_line.new.batch.items in
    c.finish_wanted.ensures.made six t ∙ ap (λ (v : List ℕ). v ++ left) (u.wrote t) ∙ append_assoc k0.written u.text left ∙ ap (λ (v : List ℕ). k0.written ++ v) u.parts
