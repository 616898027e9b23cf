-- The answers of the parts, put together.
use Rattle.std.proofs.Common.{◌≡◌, ℕ, List, Option, refl, ap, ◌∙◌, subst, Result, Ok, Err, MatchResult, IfOk, IfErr}
use Rattle.sx_lang.specs.Tree.{HandlerTree, ModuleTree}
use Rattle.sx_lang.specs.View.{module_of}
use Rattle.sx_lang.specs.declared.tree.Decl.{Decl}
use Rattle.sx_lang.specs.declared.tree.Module.{Module}
use Rattle.sx_lex.specs.declared.tokens.Place.{Place}
use Rattle.sx_lex.specs.declared.tokens.Placed.{Placed}
use Rattle.sx_lex.specs.Lexed.{start}
use Rattle.sx_lex.proofs.Same.{one_reading}
use Rattle.spec_grammar.specs.Tokens.{given_tokens}
use Rattle.spec_grammar.specs.Grammar.{IsModule}
use Rattle.spec_grammar.specs.Text.{Spells, place_of}
use Rattle.spec_grammar.specs.Machine.{Handlers, Refused}
use Rattle.spec_grammar.specs.Machine as machine
use Rattle.spec_grammar.proofs.Faults.{read_is_module, refused_is_fault, refused_no_module}
use Rattle.spec_grammar.proofs.OneModule.{one_module}
use Rattle.spec_grammar.proofs.Texts.{one_module_of_text}
use Rattle.sx_parse.specs.Declaring.{Declared, HandlersEnd, HandlersBreak, AnswersText, holding}
use Rattle.sx_parse.specs.Parsed.{at, IsError, IsErrorIn, Read, ParseTold, TokensTold}
use Rattle.sx_parse.specs.declared.error.ParseError.{ParseError}
use Rattle.sx_parse.specs.declared.error.ParseError.TheVariants.{Fault, OutOfMemory}

pub joins : (ts r : List Placed) (ds : List Decl) (hs : List HandlerTree) → Declared ts ds Handlers r → HandlersEnd r hs → AnswersText ts (machine.Read (holding ds hs))
joins ts r ds hs p q = record { answers = p.declared ∙ q.ends ds }

pub joins_break : (ts r : List Placed) (ds : List Decl) (t : Option Placed) → Declared ts ds Handlers r → HandlersBreak r t → AnswersText ts (Refused t)
joins_break ts r ds t p q = record { answers = p.declared ∙ q.breaks ds }

spelled : (text : List ℕ) (m : Module) → Read text m → Spells text (module_of m)
spelled text m h = record { tokens = h.tokens; end = h.end; lexed = h.lexed; stands = read_is_module h.tokens (module_of m) h.reaches.answers }

pub told_found : (text : List ℕ) (r : Result Module ParseError) → ParseTold text r → IfOk r (λ m. Spells text (module_of m))
told_found text (Ok m) h = spelled text m h
told_found text (Err e) h = tt

same_place : (p q : Place) → p.line ≡ q.line → p.column ≡ q.column → p ≡ q
same_place p q l c =
    let a : p ≡ record { line = q.line; column = p.column } = ap (λ n. record { line = n; column = p.column }) l in
    let b : record { line = q.line; column = p.column } ≡ q = ap (λ n. record { line = q.line; column = n }) c in
    a ∙ b

pub told_fault : (text : List ℕ) (r : Result Module ParseError) → ParseTold text r → IfErr r (λ e. IsError text e)
told_fault text (Ok m) h = tt
told_fault text (Err (Fault f)) h = record {
  tokens = h.tokens;
  end = h.end;
  lexed = h.lexed;
  fault = h.stopped.token;
  here = refused_is_fault h.tokens h.stopped.token h.stopped.answers.answers;
  place = same_place (at f) (place_of h.end h.stopped.token) h.stopped.line h.stopped.column;
}
told_fault text (Err OutOfMemory) h = tt

pub told_only : (text : List ℕ) (r : Result Module ParseError) → ParseTold text r → (m : ModuleTree) → Spells text m → MatchResult r (λ n. module_of n ≡ m) (λ e. e ≡ OutOfMemory)
told_only text (Ok n) h m s = one_module_of_text text (module_of n) m (spelled text n h) s
told_only text (Err (Fault f)) h m s =
    let same : s.tokens ≡ h.tokens = (one_reading start s.end h.end text s.tokens h.tokens s.lexed h.lexed).0 in
    absurd (refused_no_module h.tokens h.stopped.token h.stopped.answers.answers m (subst (λ ts. IsModule (given_tokens ts) m) same s.stands))
told_only text (Err OutOfMemory) h m s = refl

pub tokens_found : (ts : List Placed) (end : Place) (r : Result Module ParseError) → TokensTold ts end r → IfOk r (λ m. IsModule (given_tokens ts) (module_of m))
tokens_found ts end (Ok m) h = read_is_module ts (module_of m) h.answers
tokens_found ts end (Err e) h = tt

pub tokens_fault : (ts : List Placed) (end : Place) (r : Result Module ParseError) → TokensTold ts end r → IfErr r (λ e. IsErrorIn ts end e)
tokens_fault ts end (Ok m) h = tt
tokens_fault ts end (Err (Fault f)) h = record {
  fault = h.token;
  here = refused_is_fault ts h.token h.answers.answers;
  place = same_place (at f) (place_of end h.token) h.line h.column;
}
tokens_fault ts end (Err OutOfMemory) h = tt

pub tokens_only : (ts : List Placed) (end : Place) (r : Result Module ParseError) → TokensTold ts end r → (m : ModuleTree) → IsModule (given_tokens ts) m → MatchResult r (λ n. module_of n ≡ m) (λ e. e ≡ OutOfMemory)
tokens_only ts end (Ok n) h m s = one_module (given_tokens ts) (module_of n) m (read_is_module ts (module_of n) h.answers) s
tokens_only ts end (Err (Fault f)) h m s = absurd (refused_no_module ts h.token h.answers.answers m s)
tokens_only ts end (Err OutOfMemory) h m s = refl
