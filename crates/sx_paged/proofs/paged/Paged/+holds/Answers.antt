use Rattle.std.proofs.Common.{◌+◌, ◌-◌, ◌%◌, true, false, length, take, drop, refl, sym, ◌∙◌, arith}
use Rattle.std.specs.Prelude.{bytes_eq}
use Rattle.sx_paged.specs.Memory.{joined}
use Rattle.sx_paged.proofs.Standing.{length-joined, in_parts}
use Rattle.sx_paged.proofs.paged.Paged.+holds.Goals as goal

pub returns-then-holds_on_page : goal.returns-then-holds_on_page
returns-then-holds_on_page t c =
    let parts = c.split_at.ensures in
    in_parts (joined c.args.self.now) c.args.at (256 - c.args.at % 256) c.args.expected.now c.split_at.result.0.now c.split_at.result.1.now true c.holds.result
    parts.by_index.0 parts.front_len (omega (arith, c.requires.within, length-joined c.args.self.now c.requires.shaped))
    (sym c.if-holds_on_page.true ∙ c.holds_on_page-2.ensures) c.holds.ensures

pub returns-else-holds_on_page : goal.returns-else-holds_on_page
returns-else-holds_on_page t c =
    let parts = c.split_at.ensures in let rest = c.split_at.result.1.now in let next = c.args.at + (256 - c.args.at % 256) in
    c.if-holds_on_page.false
    ∙ in_parts (joined c.args.self.now) c.args.at (256 - c.args.at % 256) c.args.expected.now c.split_at.result.0.now rest false
    (bytes_eq (take (length rest) (drop next (joined c.args.self.now))) rest)
    parts.by_index.0 parts.front_len (omega (arith, c.requires.within, length-joined c.args.self.now c.requires.shaped))
    (sym c.if-holds_on_page.false ∙ c.holds_on_page-2.ensures) refl
