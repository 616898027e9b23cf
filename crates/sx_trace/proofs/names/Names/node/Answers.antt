use Rattle.std.proofs.Common.{◌≡◌, ℕ, ◌≤◌, List, length, true, ap, sym, subst, ◌∙◌}
use Rattle.sx_trace.specs.Names.{NameLists}
use Rattle.sx_trace.specs.ValidNames.{no_repeat}
use Rattle.sx_trace.proofs.Known.{unique_nodes}
use Rattle.sx_trace.proofs.Valid.{few_nodes}
use Rattle.sx_trace.proofs.names.Names.node.Goals as goal

pub place_in-requires-clause-unique : goal.place_in-requires-clause-unique
place_in-requires-clause-unique c =
    subst (λ (xs : List (List ℕ)). no_repeat xs ≡ true) (sym (c.deref.ensures.value ∙ ap (λ (n : NameLists). n.nodes) c.self.view_is)) (unique_nodes c.args.self.now c.requires)

pub place_in-requires-clause-few : goal.place_in-requires-clause-few
place_in-requires-clause-few c =
    subst (λ (xs : List (List ℕ)). length xs ≤ 64) (sym (c.deref.ensures.value ∙ ap (λ (n : NameLists). n.nodes) c.self.view_is)) (few_nodes c.args.self.now c.requires)
