-- A text spells at most one module, and one at least where it has no fault.
use Rattle.std.proofs.Common.{◌≡◌, ◌⊎◌, inl, inr, List, Option, refl, subst}
use Rattle.sx_lang.specs.Tree.{ModuleTree}
use Rattle.sx_lex.specs.declared.tokens.Place.{Place}
use Rattle.sx_lex.specs.declared.tokens.Placed.{Placed}
use Rattle.sx_lex.specs.Lexed.{Lexed, start}
use Rattle.sx_lex.proofs.Same.{one_reading}
use Rattle.sx_lex.proofs.HasReading.{has_reading}
use Rattle.spec_grammar.specs.Tokens.{given_tokens}
use Rattle.spec_grammar.specs.Grammar.{IsModule, IsFaultAt}
use Rattle.spec_grammar.specs.Text.{Spells, IsFirstFault, place_of}
use Rattle.spec_grammar.specs.Laws.{OneModuleOfText, ModuleOrFault}
use Rattle.spec_grammar.proofs.OneModule.{one_module}
use Rattle.spec_grammar.proofs.Faults.{decided}

pub one_module_of_text : OneModuleOfText
one_module_of_text text m n a b =
    let same : b.tokens ≡ a.tokens = (one_reading start b.end a.end text b.tokens a.tokens b.lexed a.lexed).0 in
    one_module (given_tokens a.tokens) m n a.stands (subst (λ ts. IsModule (given_tokens ts) n) same b.stands)

pub module_or_fault : ModuleOrFault
module_or_fault text = let r = has_reading start text in go r.0 r.1 r.2 (decided r.0)
  where
    go : (ts : List Placed) (end : Place) → Lexed start text ts end → ((m : ModuleTree) × IsModule (given_tokens ts) m) ⊎ ((t : Option Placed) × IsFaultAt ts t)
        → ((m : ModuleTree) × Spells text m) ⊎ ((at : Place) × IsFirstFault text at)
    go ts end lexed (inl m) = inl (m.0, record { tokens = ts; end = end; lexed = lexed; stands = m.1 })
    go ts end lexed (inr t) = inr (place_of end t.0, record { tokens = ts; end = end; lexed = lexed; fault = t.0; here = t.1; place = refl })
