use Rattle.std.proofs.Common.{◌≡◌, ◌∙◌, [], ap, refl, rules}
use Rattle.sx_io.specs.Next.{Ahead}
use Rattle.sx_io.proofs.Parts.{turn_held, turn_read, turn_rest}
use Rattle.sx_io.proofs.lines.Lines.turn.Goals as goal

pub returns-then-not-is_empty-clause-turns : goal.returns-then-not-is_empty-clause-turns
returns-then-not-is_empty-clause-turns g c line h =
    turn_held c.args.limit g.S.Source.tells (g.S.Source.at c.args.source.now) line c.args.self.now.held c.args.begun.count c.turn_held.result c.turn_held.new.self c.turn_held.new.front
    (c.turn_held.ensures.turns line h)

pub returns-else-begun-eq0-clause-turns : goal.returns-else-begun-eq0-clause-turns
returns-else-begun-eq0-clause-turns g c line h =
    let none : c.args.self.now.held ≡ [] = search rules in
    let e = (c.in-AtEnd.ensures.end refl).0 in
    turn_rest c.args.limit g.S.Source.tells (g.S.Source.at c.args.source.now) (g.S.Source.at c.fill.new.source) line c.args.self.now.held c.args.begun c.fill.new.self c.args.front.now none
    (ap (λ (a : Ahead). a.held) e ∙ none) (ap (λ (a : Ahead). a.state) e) h c.if-begun-eq0.false c.requires.few c.in-AtEnd.ensures.read

pub returns-in-Some-clause-turns : goal.returns-in-Some-clause-turns
returns-in-Some-clause-turns g c line h =
    let none : c.args.self.now.held ≡ [] = search rules in
    turn_read c.args.limit g.S.Source.tells (g.S.Source.at c.args.source.now)
    (g.S.Source.at c.fill.new.source) line c.args.self.now.held c.fill.new.self.held c.args.begun.count c.turn_held-in-Some.result
    c.turn_held-in-Some.new.self c.turn_held-in-Some.new.front none c.in-Some.ensures.read (c.turn_held-in-Some.ensures.turns line h)
