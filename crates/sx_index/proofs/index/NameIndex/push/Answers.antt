use Rattle.std.proofs.Common.{ℕ, List, Some, cond, ap, sym, ◌∙◌}
use Rattle.std.specs.Str.{bytes_eq}
use Rattle.indexmap.specs.IndexMap.{get}
use Rattle.sx_index.specs.Places.{place_of}
use Rattle.sx_index.proofs.Indexed.{grows-again, grows-new, is-new-to}
use Rattle.sx_index.proofs.index.NameIndex.push.Goals as goal

pub returns-then-is_some-clause-grows : goal.returns-then-is_some-clause-grows
returns-then-is_some-clause-grows c =
    grows-again c.args.self.now c.args.name c.args.place c.place_of.result
    (λ names is. c.place_of.ensures names is ∙ ap (place_of names) c.bytes.ensures.bytes)
    (sym c.is_some.ensures ∙ c.if-is_some.true)

pub returns-in-Ok-clause-grows : goal.returns-in-Ok-clause-grows
returns-in-Ok-clause-grows c =
    grows-new c.args.self.now _ c.args.name c.args.place c.bytes.ensures.some c.bytes.ensures.short
    (λ text. c.in-Ok.ensures.updates.0 text ∙ ap (λ (key : List ℕ). cond (bytes_eq key text) (Some c.args.place) (get bytes_eq c.args.self.now.places text)) c.of.ensures)
    c.place_of.result
    (λ names is. c.place_of.ensures names is ∙ ap (place_of names) c.bytes.ensures.bytes)
    (sym c.is_some.ensures ∙ c.if-is_some.false)

pub returns-in-Err-clause-fresh : goal.returns-in-Err-clause-fresh
returns-in-Err-clause-fresh c =
    is-new-to c.args.self.now c.args.name c.place_of.result
    (λ names is. c.place_of.ensures names is ∙ ap (place_of names) c.bytes.ensures.bytes)
    (sym c.is_some.ensures ∙ c.if-is_some.false)
