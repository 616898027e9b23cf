-- The numbers of a module that a text spells are words.
use Rattle.std.proofs.Common.{◌≡◌, ℕ, ◌<◌, ◌≤◌, ◌&&◌, nat_le, Bool, true, false, if◌then◌else◌, List, [], ◌∷◌, take, drop, Option, Some, None, refl, subst, arith}
use Rattle.std.specs.Prelude.{nat_eq, ◌==◌}
use Rattle.std.specs.Cmp.Lexicographic.{pointwise}
use Rattle.std.specs.List.{list_all}
use Rattle.std.proofs.lemmas.Bool.{and_parts, leb-true}
use Rattle.sx_lang.specs.Tree.{Expression, Statement, Block, HandlerTree, ModuleTree}
use Rattle.sx_lang.specs.declared.tree.Decl.{Decl}
use Rattle.sx_lex.specs.declared.tokens.Kind.{Kind}
use Rattle.sx_lex.specs.declared.tokens.Kind.TheVariants.{Number, Name}
use Rattle.sx_lex.specs.declared.tokens.Place.{Place}
use Rattle.sx_lex.specs.declared.tokens.Placed.{Placed}
use Rattle.sx_lex.specs.Words.{keywords, signs, found_in, value, is_digit, is_number, is_hexadecimal, is_name, or_else, kind_of}
use Rattle.sx_lex.specs.Lexed as lex
use Rattle.sx_lex.specs.Lexed.{Lexed, at_end, space, newline, comment, bad}
use Rattle.spec_grammar.specs.Tokens.{Token, token, given_tokens}
use Rattle.spec_grammar.specs.Text.{Spells}
use Rattle.spec_grammar.specs.Grammar.{Form, Factors, Addends, IsExpression, number, name, element, brackets, plain, unary, term, no_factor, factor, sum}
use Rattle.spec_grammar.specs.Grammar.{no_addend, addend, whole, comparison, IsStatement, definition, assignment, element_assignment, if_then, if_else}
use Rattle.spec_grammar.specs.Grammar.{repetition, sending, emission, IsBlock, block, AreStatements, no_statement, statement, IsDeclaration, sensor, actuator}
use Rattle.spec_grammar.specs.Grammar.{input, output, variable, variable_with, array, AreDeclarations, no_declaration, declaration, IsHandler, on_input}
use Rattle.spec_grammar.specs.Grammar.{on_sample, AreHandlers, no_handler, handler}
use Rattle.sx_lang.specs.Words.{AreWords, HasWords, BlockHasWords, HandlersHaveWords, DeclHasWords, DeclsHaveWords, TreeHasWords}

-- a token's number is a word

abbrev pub IsSmall : Kind → Type 0
IsSmall (Number n) = n < 65536
IsSmall _ = Unit {0}

abbrev pub AreSmall : List Token → Type 0
AreSmall [] = Unit {0}
AreSmall (token k a ∷ ts) = IsSmall k × AreSmall ts

abbrev pub AllKinds : List (List ℕ × Kind) → Type 0
AllKinds [] = Unit {0}
AllKinds (q ∷ qs) = IsSmall q.1 × AllKinds qs

small_found : (qs : List (List ℕ × Kind)) (w : List ℕ) (k : Kind) → AllKinds qs → found_in qs w ≡ Some k → IsSmall k
small_found [] w k h e = absurd cc
small_found (q ∷ qs) w k h e = go (pointwise nat_eq w q.0) e (small_found qs w k h.1)
  where
    go : (b : Bool) → (if b then Some q.1 else found_in qs w) ≡ Some k → (found_in qs w ≡ Some k → IsSmall k) → IsSmall k
    go true e more = let same : q.1 ≡ k = cc in subst IsSmall same h.0
    go false e more = more e

small_number : (base : ℕ) (w : List ℕ) → is_number base w ≡ true → value base 0 w < 65536
small_number base [] h = absurd cc
small_number base (b ∷ bs) h =
    let p = and_parts (list_all (is_digit base) (b ∷ bs)) (nat_le (value base 0 (b ∷ bs)) 65535) h in
    let le : value base 0 (b ∷ bs) ≤ 65535 = leb-true (value base 0 (b ∷ bs)) 65535 p.1 in
    omega (arith, le)

small_hexadecimal : (w : List ℕ) → is_hexadecimal w ≡ true → value 16 0 (drop 2 w) < 65536
small_hexadecimal [] h = absurd cc
small_hexadecimal (a ∷ []) h = absurd cc
small_hexadecimal (a ∷ b ∷ bs) h = small_number 16 bs (and_parts ((a == 48) && (b == 120)) (is_number 16 bs) h).1

small_kind : (w : List ℕ) (k : Kind) → kind_of w ≡ Some k → IsSmall k
small_kind w k h = by_name (is_name w) h
  where
    some : (a : Kind) → ◌≡◌ {A = Option Kind} (Some a) (Some k) → IsSmall a → IsSmall k
    some a e s = let same : a ≡ k = cc in subst IsSmall same s

    or_small : (o : Option Kind) → ((j : Kind) → o ≡ Some j → IsSmall j) → IsSmall (or_else o (Name w))
    or_small None f = tt
    or_small (Some j) f = f j refl

    by_hexadecimal : (b : Bool) → is_hexadecimal w ≡ b → (if b then Some (Number (value 16 0 (drop 2 w))) else found_in signs w) ≡ Some k → IsSmall k
    by_hexadecimal true t e = some (Number (value 16 0 (drop 2 w))) e (small_hexadecimal w t)
    by_hexadecimal false t e = small_found signs w k (tt, (tt, (tt, (tt, (tt, (tt, (tt, (tt, (tt, (tt, (tt, (tt, (tt, (tt, (tt, (tt, (tt, (tt, (tt, (tt, (tt, (tt, tt)))))))))))))))))))))) e

    by_number : (b : Bool) → is_number 10 w ≡ b → (if b then Some (Number (value 10 0 w)) else
        (if is_hexadecimal w then Some (Number (value 16 0 (drop 2 w))) else found_in signs w)) ≡ Some k → IsSmall k
    by_number true t e = some (Number (value 10 0 w)) e (small_number 10 w t)
    by_number false t e = by_hexadecimal (is_hexadecimal w) refl e

    by_name : (b : Bool) → (if b then Some (or_else (found_in keywords w) (Name w)) else (if is_number 10 w then Some (Number (value 10 0 w)) else
        (if is_hexadecimal w then Some (Number (value 16 0 (drop 2 w))) else found_in signs w))) ≡ Some k → IsSmall k
    by_name true e = some (or_else (found_in keywords w) (Name w)) e (or_small (found_in keywords w)
        (λ j f. small_found keywords w j (tt, (tt, (tt, (tt, (tt, (tt, (tt, (tt, (tt, (tt, (tt, (tt, (tt, (tt, tt)))))))))))))) f))
    by_name false e = by_number (is_number 10 w) refl e

small_tokens : {at end : Place} {bs : List ℕ} {ts : List Placed} → Lexed at bs ts end → AreSmall (given_tokens ts)
small_tokens at_end = tt
small_tokens (space s l) = small_tokens l
small_tokens (newline l) = small_tokens l
small_tokens (comment c l) = small_tokens l
small_tokens (lex.token {n = n} {bs = bs} {k = k} i l) = (small_kind (take n bs) k i.here, small_tokens l)
small_tokens (bad a b c d) = (tt, tt)

-- what a form begins with is a tree of words
abbrev pub Before : Form → Type 0
Before (Factors n l) = AreWords l
Before (Addends n l) = AreWords l
Before _ = Unit {0}

words_stand : {f : Form} {d : ℕ} {ts r : List Token} {e : Expression} → IsExpression f d ts e r → Before f → AreSmall ts → AreWords e × AreSmall r
words_stand number b h = (h.0, h.1)
words_stand name b h = (tt, h.1)
words_stand (element g s) b h = let w = words_stand s tt h.1.1 in (w.0, w.1.1)
words_stand (brackets g s) b h = let w = words_stand s tt h.1 in (w.0, w.1.1)
words_stand (plain s) b h = words_stand s tt h
words_stand (unary u g s) b h = words_stand s tt h.1
words_stand (term s t) b h = let w = words_stand s tt h in words_stand t w.0 w.1
words_stand no_factor b h = (b, h)
words_stand (factor o g s t) b h = let w = words_stand s tt h.1 in words_stand t (b, w.0) w.1
words_stand (sum s t) b h = let w = words_stand s tt h in words_stand t w.0 w.1
words_stand no_addend b h = (b, h)
words_stand (addend o g s t) b h = let w = words_stand s tt h.1 in words_stand t (b, w.0) w.1
words_stand (whole s) b h = words_stand s tt h
words_stand (comparison o s t) b h =
    let v = words_stand s tt h in
    let w = words_stand t tt v.1.1 in
    ((v.0, w.0), w.1)

mutual
  words_statement : {d : ℕ} {ts r : List Token} {s : Statement} → IsStatement d ts s r → AreSmall ts → HasWords s × AreSmall r
  words_statement (definition e) h = let w = words_stand e tt h.1.1.1 in (w.0, w.1.1)
  words_statement (assignment e) h = let w = words_stand e tt h.1.1 in (w.0, w.1.1)
  words_statement (element_assignment g i e) h =
      let v = words_stand i tt h.1.1 in
      let w = words_stand e tt v.1.1.1 in
      ((v.0, w.0), w.1.1)
  words_statement (if_then e b) h =
      let v = words_stand e tt h.1 in
      let w = words_block b v.1 in
      ((v.0, w.0, tt), w.1)
  words_statement (if_else e b c) h =
      let v = words_stand e tt h.1 in
      let w = words_block b v.1 in
      let x = words_block c w.1.1 in
      ((v.0, w.0, x.0), x.1)
  words_statement (repetition b) h = let w = words_block b h.1.1 in ((h.1.0, w.0), w.1)
  words_statement (sending g e) h = let w = words_stand e tt h.1.1.1 in (w.0, w.1.1.1)
  words_statement (emission e) h = let w = words_stand e tt h.1 in (w.0, w.1.1)

  words_block : {d : ℕ} {ts r : List Token} {x : Block} → IsBlock d ts x r → AreSmall ts → BlockHasWords x × AreSmall r
  words_block (block g s) h = words_statements s h.1

  words_statements : {d : ℕ} {ts r : List Token} {x : Block} → AreStatements d ts x r → AreSmall ts → BlockHasWords x × AreSmall r
  words_statements no_statement h = (tt, h.1)
  words_statements (statement s x) h =
      let v = words_statement s h in
      let w = words_statements x v.1 in
      ((v.0, w.0), w.1)

words_declaration : {ts r : List Token} {x : Decl} → IsDeclaration ts x r → AreSmall ts → DeclHasWords x × AreSmall r
words_declaration sensor h = (tt, h.1.1)
words_declaration actuator h = (tt, h.1.1)
words_declaration input h = (tt, h.1.1.1)
words_declaration output h = (tt, h.1.1.1)
words_declaration variable h = (omega arith, h.1.1.1)
words_declaration variable_with h = (h.1.1.1.0, h.1.1.1.1.1)
words_declaration array h = (h.1.1.1.0, h.1.1.1.1.1.1)

words_declarations : {ts r : List Token} {xs : List Decl} → AreDeclarations ts xs r → AreSmall ts → DeclsHaveWords xs × AreSmall r
words_declarations no_declaration h = (tt, h)
words_declarations (declaration x xs) h =
    let v = words_declaration x h in
    let w = words_declarations xs v.1 in
    ((v.0, w.0), w.1)

words_handler : {d : ℕ} {ts r : List Token} {x : HandlerTree} → IsHandler d ts x r → AreSmall ts → BlockHasWords x.body × AreSmall r
words_handler (on_input b) h = words_block b h.1.1.1.1.1
words_handler (on_sample b) h = words_block b h.1.1.1.1

words_handlers : {d : ℕ} {ts r : List Token} {xs : List HandlerTree} → AreHandlers d ts xs r → AreSmall ts → HandlersHaveWords xs × AreSmall r
words_handlers no_handler h = (tt, h)
words_handlers (handler x xs) h =
    let v = words_handler x h in
    let w = words_handlers xs v.1 in
    ((v.0, w.0), w.1)

pub spelled_words : (text : List ℕ) (m : ModuleTree) → Spells text m → TreeHasWords m
spelled_words text m s =
    let v = words_declarations s.stands.declarations (small_tokens s.lexed) in
    record { decls = v.0; handlers = (words_handlers s.stands.handlers v.1).0 }
