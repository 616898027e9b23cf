use Rattle.std.proofs.Common.{◌∙◌, ap, take}
use Rattle.std.specs.List.{list_any}
use Rattle.std.specs.Str.{bytes_eq}
use Rattle.sx_index.proofs.Placed.{some_of}
use Rattle.sx_index.specs.Index.{IsNameIndex}
use Rattle.sx_asm.specs.Meaning.{is_label}
use Rattle.sx_asm.proofs.Labelled.{labelled, names, names_take}
use Rattle.sx_asm.proofs.labels.Labels.has_before.Goals as goal

pub returns-in-Some : goal.returns-in-Some
returns-in-Some c =
    let ls = c.self.inside.list.now in
    let count = c.args.count in
    c.has_before.ensures (names ls) (some_of (λ index. IsNameIndex index (names ls)) c.self.inside.index c.in-Some.index c.in-Some.is c.self.invariant)
    ∙ ap (λ text. list_any (λ name. bytes_eq name text) (take count (names ls))) c.bytes.ensures.bytes
    ∙ ap (list_any (λ name. bytes_eq name c.args.name.now)) (names_take count ls)
    ∙ labelled (take count ls) c.args.name.now ∙ ap (λ ls. is_label (take count ls) c.args.name.now) c.self.view_is
