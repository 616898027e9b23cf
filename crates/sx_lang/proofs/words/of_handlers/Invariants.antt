use Rattle.std.proofs.Common.{drop, map}
use Rattle.sx_lang.specs.View.{handler_of}
use Rattle.sx_lang.specs.Words.{HandlersHaveWords}
use Rattle.sx_lang.proofs.words.of_handlers.Given as goal

abbrev pub invariant-loop-h : goal.invariant-loop-h
invariant-loop-h l = HandlersHaveWords (map handler_of (drop l.h-index l.handlers)) → HandlersHaveWords (map handler_of l.handlers)
