use Rattle.std.proofs.Common.{◌∙◌, ℕ, List, [], arith, ap, drop, length, subst, take, ◌+◌, ◌-◌}
use Rattle.std.proofs.lemmas.List.{length-take}
use Rattle.sx_io.specs.Next.{Ahead}
use Rattle.sx_io.specs.Parts.{TakesPart}
use Rattle.sx_io.specs.Reading.{longest}
use Rattle.sx_io.specs.declared.line_parts.Part.{Part}
use Rattle.sx_io.proofs.Parts.{held_text, none_begun, part_view}
use Rattle.sx_io.proofs.Scans.{plain-at}
use Rattle.sx_io.proofs.lines.Lines.held_line.Goals as goal

pub returns-in-Whole-clause-took : goal.returns-in-Whole-clause-took
returns-in-Whole-clause-took c =
    let from = c.self.inside.from in
    let to = c.self.inside.to in
    let used = c.take_chunk-part.result.1 in
    let left : List ℕ = take (to - (from + used)) (drop (from + used) c.self.inside.held) in
    let P : Part → Type 0 = λ p. TakesPart (length c.args.into.now) [] c.args.self.now.held p c.take_chunk-part.new.front left in
    let takes : P c.take_chunk-part.result.0 = part_view (length c.args.into.now) [] c.self.inside.held c.args.self.now.held from to used c.take_chunk-part.result.0 c.take_chunk-part.new.front
    (omega (arith, c.take_chunk-part.ensures.used, length-take (to - from) (drop from c.self.inside.held)))
    (ap (λ (a : Ahead). a.held) c.self.view_is) (c.take_chunk-part.ensures.takes [] (none_begun c.args.into.now)) in
    held_text (length c.args.into.now) longest c.take_chunk-part.new.front c.args.self.now.held c.in-Whole.count _ c.requires.room c.take_chunk-part.ensures.room
    (ap (λ (a : Ahead). a.state) c.self.view_is ∙ c.requires.open) (subst P c.in-Whole.is takes)

pub returns-in-More-clause-plain : goal.returns-in-More-clause-plain
returns-in-More-clause-plain c = λ none.
    let chunk = take (c.self.inside.to - c.self.inside.from) (drop c.self.inside.from c.self.inside.held) in
    let P : Part → Type 0 = λ p. TakesPart (length c.args.into.now) [] chunk p c.take_chunk-part.new.front (drop c.take_chunk-part.result.1 chunk) in
    let m = (subst P c.in-More.is (c.take_chunk-part.ensures.takes [] (none_begun c.args.into.now))).moves in
    plain-at _ _ (m.3 ∙ ap (λ (a : Ahead). a.held) c.self.view_is) m.4

pub returns-in-TooLong-clause-plain : goal.returns-in-TooLong-clause-plain
returns-in-TooLong-clause-plain c = λ none.
    let chunk = take (c.self.inside.to - c.self.inside.from) (drop c.self.inside.from c.self.inside.held) in
    let P : Part → Type 0 = λ p. TakesPart (length c.args.into.now) [] chunk p c.take_chunk-part.new.front (drop c.take_chunk-part.result.1 chunk) in
    let m = (subst P c.in-TooLong.is (c.take_chunk-part.ensures.takes [] (none_begun c.args.into.now))).moves in
    let long = m.0 in
    let room = c.requires.room in
    let few = c.requires.few in
    let same = ap (λ (a : Ahead). length a.held) c.self.view_is in
    absurd (omega (arith, long, room, few, same))
