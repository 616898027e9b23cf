use Rattle.std.specs.Prelude.{◌≡◌, ◌++◌, drop}
use Rattle.command_describe.specs.Output.{cell_place, declaration_line, each_from}
use Rattle.command_describe.proofs.declarations.push_declarations.Given as goal

abbrev pub invariant-loop-declared : goal.invariant-loop-declared
invariant-loop-declared l =
    l.text.items ++ each_from (λ i. declaration_line (cell_place l.layout l.ends l.decls) l.owner) l.declared-index (drop l.declared-index l.decls)
    ≡ l.fn.text.items ++ each_from (λ i. declaration_line (cell_place l.layout l.ends l.decls) l.owner) 0 l.decls
