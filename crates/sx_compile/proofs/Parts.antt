-- The handlers' parts in a module's whole code.
use Rattle.std.proofs.Common.{◌≡◌, ℕ, zero, suc, ◌+◌, ◌≤◌, List, [], ◌∷◌, ◌++◌, length, Some, refl, ap, ◌∙◌, subst, arith}
use Rattle.std.specs.Prelude.{slice_get}
use Rattle.std.proofs.lemmas.List.{append-nil, append_assoc}
use Rattle.std.proofs.lemmas.Option.{none-some, same_Some}
use Rattle.sx_lang.specs.declared.tree.Decl.{Decl}
use Rattle.sx_lang.specs.Sizes.{handler_cost, handlers_cost, module_cost}
use Rattle.sx_lang.specs.Tree.{HandlerTree}
use Rattle.sx_mean.specs.declared.events.End.{End}
use Rattle.sx_mean.proofs.Handlers.{number_handler}
use Rattle.sx_image.proofs.Reaching.{weaken}
use Rattle.spec_invocation.specs.Setup.{Setup}
use Rattle.sx_ir.specs.declared.ir.Ir.{Ir}
use Rattle.sx_ir.specs.Conf.{Conf, Halt}
use Rattle.sx_ir.specs.Invoking.{PartDoes}
use Rattle.sx_ir.specs.Meaning.{no_count, op_count, op_step, part_from}
use Rattle.sx_lower.specs.Lowered.{handler_code, handlers_code, handlers_parts}
use Rattle.sx_lower.specs.Lowering.{IsLowerable}
use Rattle.sx_lower.proofs.Reacts.{lowered_reacts}
use Rattle.sx_stub.specs.Invokes.{StartsWith}
use Rattle.sx_stub.specs.Joined.{PartsDo}
use Rattle.sx_stub.specs.Stub.{returns, stub_code, stub_ops}
use Rattle.sx_stub.proofs.Made.{first_of}
use Rattle.sx_compile.specs.Compiled.{compiled_ops, compiled_parts}

-- each handler's part is listed
part_listed : (ds : List Decl) (ends : List End) (hs : List HandlerTree) (p k : ℕ) (h : HandlerTree) → slice_get hs k ≡ Some h
    → (from : ℕ) × (to : ℕ) × (slice_get (handlers_parts ds ends p hs) k ≡ Some (from, to))
part_listed ds ends [] p k h e = absurd (none-some h e)
part_listed ds ends (x ∷ hs) p zero h e = (p, p + length (handler_code ds ends p x), refl)
part_listed ds ends (x ∷ hs) p (suc k) h e = part_listed ds ends hs (p + length (handler_code ds ends p x)) k h e

-- a handler costs no more than its module
cost_within : (hs : List HandlerTree) (k : ℕ) (h : HandlerTree) → slice_get hs k ≡ Some h → handler_cost h ≤ handlers_cost hs
cost_within [] k h e = absurd (none-some h e)
cost_within (x ∷ hs) zero h e = let c = ap handler_cost (same_Some x h e) in omega (arith, c)
cost_within (x ∷ hs) (suc k) h e = let c = cost_within hs k h e in omega (arith, c)

-- the code begins with the entry protocol
pub starts : (s : Setup) → StartsWith (compiled_ops s.tree s.ends) (stub_code s.tree s.ends)
unfolding compiled_ops
starts s i lt =
    let stub = stub_code s.tree s.ends in
    let bodies = handlers_code s.tree.decls s.ends (length (stub_ops s.tree s.ends)) s.tree.handlers in
    ap (λ (l : List Ir). slice_get l i) (append_assoc stub (returns 5) bodies) ∙ first_of stub (returns 5 ++ bodies) i lt

-- each part does its handler
pub parts_do : (s : Setup) → IsLowerable s.tree s.ends → PartsDo s (compiled_ops s.tree s.ends) (compiled_parts s.tree s.ends) (module_cost s.tree)
unfolding compiled_ops compiled_parts
parts_do s able e k n =
    let stub = stub_ops s.tree s.ends in
    let bodies = handlers_code s.tree.decls s.ends (length stub) s.tree.handlers in
    let parts = handlers_parts s.tree.decls s.ends (length stub) s.tree.handlers in
    let h = number_handler s.tree e k n in
    let listed = part_listed s.tree.decls s.ends s.tree.handlers (length stub) k h.0 h.2 in
    let does = lowered_reacts s (part_from parts) no_count stub [] e h.0 k listed.0 listed.1 able h.1 h.2 listed.2 in (
      listed.0,
      (listed.1, listed.2),
      λ call p c place begins.
          weaken Conf Halt (op_step s (part_from parts) (stub ++ bodies)) (op_count no_count (stub ++ bodies)) _ _ _ _ _ _ (handler_cost h.0) (module_cost s.tree) c
          (cost_within s.tree.handlers k h.0 h.2) (λ t x. x) (λ t v x. x) (λ t x. x)
          (subst (λ (ops : List Ir). PartDoes s (part_from parts) no_count ops listed.0 e (handler_cost h.0)) (ap (λ (l : List Ir). stub ++ l) (append-nil bodies)) does call p c place begins),
    )
