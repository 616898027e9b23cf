-- What an accepted module gives its code.
use Rattle.std.proofs.Common.{◌≡◌, ℕ, ◌*◌, ◌<◌, ◌≤◌, inl, inr, refl, List, [], ◌∷◌, length, None, arith}
use Rattle.sx_lang.specs.Sizes.{module_nodes}
use Rattle.sx_lang.specs.Tree.{HandlerTree, ModuleTree}
use Rattle.sx_check.specs.Names.{locals}
use Rattle.sx_check.specs.Rules.{first_broken}
use Rattle.sx_check.proofs.Accepted.{accepted, fine}
use Rattle.sx_check.proofs.Keeps.{In}
use Rattle.sx_mean.specs.declared.events.End.{End}
use Rattle.sx_ir.specs.Sizes.{ops_bytes}
use Rattle.sx_lower.specs.Lowered.{handlers_code, AreFew}
use Rattle.sx_lower.proofs.Sizes.{handlers_within}

are_few : (hs : List HandlerTree) → ((h : HandlerTree) → In h hs → length (locals h) ≤ 16) → AreFew hs
are_few [] f = tt
are_few (h ∷ hs) f = let l = f h (inl refl) in (omega (arith, l), are_few hs (λ g i. f g (inr i)))

pub few : (m : ModuleTree) → first_broken m ≡ None → AreFew m.handlers
few m checked = are_few m.handlers (λ h i. (fine m checked h i).few_locals)

-- fewer operations than places have numbers
pub short : (m : ModuleTree) (ends : List End) → first_broken m ≡ None → length ends ≤ 16 → length (handlers_code m.decls ends 0 m.handlers) < 65536
short m ends checked le =
    let w = (handlers_within m.decls ends le m.handlers 0).ops in
    let n = (accepted m checked).nodes in
    omega (arith, w, n)

-- and no more bytes than the module's nodes give
pub light : (m : ModuleTree) (ends : List End) (p : ℕ) → length ends ≤ 16 → ops_bytes (handlers_code m.decls ends p m.handlers) ≤ 64 * module_nodes m
light m ends p le = let w = (handlers_within m.decls ends le m.handlers p).size in omega (arith, w)
