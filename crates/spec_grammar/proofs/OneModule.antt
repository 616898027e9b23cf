-- A module of the grammar is read by the machine, so that no tokens are two modules'.
use Rattle.std.proofs.Common.{◌≡◌, ℕ, List, [], ◌∷◌, ◌++◌, Some, None, refl, sym, ap, ◌∙◌, append_assoc, append-nil}
use Rattle.sx_lang.specs.Tree.{HandlerTree, ModuleTree}
use Rattle.sx_lang.specs.declared.tree.Decl.{Decl}
use Rattle.sx_lang.specs.declared.tree.DeviceKind.{DeviceKind}
use Rattle.spec_grammar.specs.Tokens.{Token}
use Rattle.spec_grammar.specs.Grammar.{IsDeclaration, sensor, actuator, input, output, variable, variable_with, array, AreDeclarations, no_declaration}
use Rattle.spec_grammar.specs.Grammar.{declaration, IsHandler, on_input, on_sample, AreHandlers, no_handler, handler, IsModule}
use Rattle.spec_grammar.specs.Laws.{OneModule}
use Rattle.spec_grammar.specs.Machine.{Value, Of_block, Of_module, Say, Do_declare, Do_handle, Declarations, Handlers, reads, begun, nothing}
use Rattle.spec_grammar.proofs.Complete.{said}
use Rattle.spec_grammar.proofs.CompleteStatements.{complete_block}

abbrev pub with_declaration : ModuleTree → Decl → ModuleTree
with_declaration m d = record m { decls = m.decls ++ d ∷ [] }

declared : (d : Decl) (m : ModuleTree) (r : List Token) → reads (Say (Do_declare d) ∷ Declarations ∷ []) (Of_module m ∷ []) r ≡ reads (Declarations ∷ []) (Of_module (with_declaration m d) ∷ []) r
declared d m r = said (Do_declare d) (Declarations ∷ []) (Of_module m ∷ []) r

complete_declaration : {ts r : List Token} {d : Decl} → IsDeclaration ts d r → (m : ModuleTree)
    → reads (Declarations ∷ []) (Of_module m ∷ []) ts ≡ reads (Declarations ∷ []) (Of_module (with_declaration m d) ∷ []) r
complete_declaration (sensor {rest = r}) m = declared (Decl.Device DeviceKind.Sensor) m r
complete_declaration (actuator {rest = r}) m = declared (Decl.Device DeviceKind.Actuator) m r
complete_declaration (input {x = x} {rest = r}) m = declared (Decl.Input x) m r
complete_declaration (output {x = x} {rest = r}) m = declared (Decl.Output x) m r
complete_declaration (variable {x = x} {rest = r}) m = refl
complete_declaration (variable_with {n = n} {x = x} {rest = r}) m = declared (Decl.Var x n) m r
complete_declaration (array {n = n} {x = x} {rest = r}) m = declared (Decl.Array x n) m r

complete_declarations : {ts r : List Token} {ds : List Decl} → AreDeclarations ts ds r → (m : ModuleTree)
    → reads (Declarations ∷ []) (Of_module m ∷ []) ts ≡ reads (Declarations ∷ []) (Of_module (record m { decls = m.decls ++ ds }) ∷ []) r
complete_declarations (no_declaration {rest = r}) m = rw append-nil refl
complete_declarations (declaration {rest = r} {x = d} {xs = ds} a v) m =
    complete_declaration a m ∙ complete_declarations v (with_declaration m d) ∙ ap (λ l. reads (Declarations ∷ []) (Of_module (record m { decls = l }) ∷ []) r) (append_assoc m.decls (d ∷ []) ds)

abbrev pub with_handler : ModuleTree → HandlerTree → ModuleTree
with_handler m h = record m { handlers = m.handlers ++ h ∷ [] }

complete_handler : {d : ℕ} {ts r : List Token} {h : HandlerTree} → IsHandler d ts h r → (m : ModuleTree) → 0 ≡ d
    → reads (Handlers ∷ []) (Of_module m ∷ []) ts ≡ reads (Handlers ∷ []) (Of_module (with_handler m h) ∷ []) r
complete_handler (on_input {x = x} {v = v} {rest = r} {body = b} s) m o =
    complete_block s (Say (Do_handle (Some x) v) ∷ Handlers ∷ []) (Of_module m ∷ []) o ∙ said (Do_handle (Some x) v) (Handlers ∷ []) (Of_block b ∷ Of_module m ∷ []) r
complete_handler (on_sample {v = v} {rest = r} {body = b} s) m o =
    complete_block s (Say (Do_handle None v) ∷ Handlers ∷ []) (Of_module m ∷ []) o ∙ said (Do_handle None v) (Handlers ∷ []) (Of_block b ∷ Of_module m ∷ []) r

complete_handlers : {d : ℕ} {ts r : List Token} {hs : List HandlerTree} → AreHandlers d ts hs r → (m : ModuleTree) → 0 ≡ d
    → reads (Handlers ∷ []) (Of_module m ∷ []) ts ≡ reads (Handlers ∷ []) (Of_module (record m { handlers = m.handlers ++ hs }) ∷ []) r
complete_handlers (no_handler {rest = r}) m o = rw append-nil refl
complete_handlers (handler {rest = r} {h = h} {hs = hs} a v) m o =
    complete_handler a m o ∙ complete_handlers v (with_handler m h) o ∙ ap (λ l. reads (Handlers ∷ []) (Of_module (record m { handlers = l }) ∷ []) r) (append_assoc m.handlers (h ∷ []) hs)

declarations_end : {d : ℕ} {ts : List Token} {hs : List HandlerTree} → AreHandlers d ts hs [] → (vs : List Value) → reads (Declarations ∷ []) vs ts ≡ reads (Handlers ∷ []) vs ts
declarations_end no_handler vs = refl
declarations_end (handler (on_input b) v) vs = refl
declarations_end (handler (on_sample b) v) vs = refl

-- a module's tokens are read as that module
pub complete_module : (ts : List Token) (m : ModuleTree) → IsModule ts m → reads begun nothing ts ≡ Some (Of_module m ∷ [])
complete_module ts m h =
    complete_declarations h.declarations (record { decls = []; handlers = [] }) ∙ declarations_end h.handlers _ ∙ complete_handlers h.handlers (record { decls = m.decls; handlers = [] }) refl

pub one_module : OneModule
one_module ts m n a b =
    let e : Some (Of_module m ∷ []) ≡ Some (Of_module n ∷ []) = sym (complete_module ts m a) ∙ complete_module ts n b in cc
