-- What was written of a module is its text, and spells it.
use Rattle.std.proofs.Common.{◌≡◌, ℕ, true, List, [], ◌++◌, nat_le, refl, sym, ap, ◌∙◌, subst, append-nil, arith}
use Rattle.std.specs.Str.{IsUtf8}
use Rattle.std.proofs.lemmas.Bool.Decides.{nat_tests}
use Rattle.std.proofs.lemmas.Bool.{and_parts}
use Rattle.sx_lang.specs.Tree.{ModuleTree}
use Rattle.sx_lex.specs.Lexed.{start}
use Rattle.spec_grammar.specs.Grammar.{IsModule}
use Rattle.spec_grammar.specs.Text.{Spells}
use Rattle.sx_print.specs.Printable.{module_open, is_printable}
use Rattle.sx_print.specs.Pieces.{text_of, declarations_pieces, handlers_pieces, module_pieces}
use Rattle.sx_print.specs.Written.{are_short, Wrote}
use Rattle.sx_print.proofs.Read.{pieces_read, pieces_utf8}
use Rattle.sx_print.proofs.Good.{module_good}
use Rattle.sx_print.proofs.Stands.{module_stands}

pub module_text : (before middle after : List ℕ) (m : ModuleTree) → before ≡ [] → Wrote before (declarations_pieces m.decls) middle
    → Wrote middle (handlers_pieces m.handlers) after → after ≡ text_of (module_pieces m)
module_text before middle after m e a b = sym (ap (λ bs. bs ++ text_of (module_pieces m)) (sym e) ∙ a.text (handlers_pieces m.handlers []) ∙ b.text [] ∙ append-nil after)

module_short : (before middle after : List ℕ) (m : ModuleTree) → Wrote before (declarations_pieces m.decls) middle
    → Wrote middle (handlers_pieces m.handlers) after → are_short (module_pieces m) ≡ true
module_short before middle after m a b = a.short (handlers_pieces m.handlers []) (b.short [] refl)

pub module_utf8 : (before middle after : List ℕ) (m : ModuleTree) → is_printable m ≡ true → before ≡ [] → Wrote before (declarations_pieces m.decls) middle
    → Wrote middle (handlers_pieces m.handlers) after → IsUtf8 after
module_utf8 before middle after m p e a b =
    subst IsUtf8 (sym (module_text before middle after m e a b)) (pieces_utf8 (module_good m (and_parts (nat_le (module_open m) 48) _ p).1) (module_short before middle after m a b))

pub module_spelled : (before middle after : List ℕ) (m : ModuleTree) → is_printable m ≡ true → before ≡ [] → Wrote before (declarations_pieces m.decls) middle
    → Wrote middle (handlers_pieces m.handlers) after → Spells after m
module_spelled before middle after m p e a b =
    let l : nat_le (module_open m) 48 ≡ true = (and_parts _ _ p).0 in
    let r = pieces_read start (module_good m (and_parts (nat_le (module_open m) 48) _ p).1) (module_short before middle after m a b) in
    let s : Spells (text_of (module_pieces m)) m = record {
      tokens = r.tokens;
      end = r.end;
      lexed = r.lexed;
      stands = subst (λ ts. IsModule ts m) (sym r.same) (module_stands m (grind (arith, nat_tests, l)));
    } in
    subst (λ bs. Spells bs m) (sym (module_text before middle after m e a b)) s
