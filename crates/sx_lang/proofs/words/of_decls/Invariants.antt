use Rattle.std.proofs.Common.{drop}
use Rattle.sx_lang.specs.Words.{DeclsHaveWords}
use Rattle.sx_lang.proofs.words.of_decls.Given as goal

abbrev pub invariant-loop-d : goal.invariant-loop-d
invariant-loop-d l = DeclsHaveWords (drop l.d-index l.decls) → DeclsHaveWords l.decls
