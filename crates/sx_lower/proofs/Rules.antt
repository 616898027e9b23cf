-- What an accepted module gives its handlers' code.
use Rattle.std.proofs.Common.{◌≡◌, ℕ, ◌+◌, ◌<◌, ◌≤◌, inl, inr, true, List, [], ◌∷◌, length, None, subst, arith}
use Rattle.std.specs.List.{list_any}
use Rattle.sx_lang.specs.Tree.{HandlerTree, ModuleTree}
use Rattle.sx_lang.specs.Words.{TreeHasWords}
use Rattle.sx_check.specs.Names.{is_actuator, block_lets}
use Rattle.sx_check.specs.Bounds.{block_height, inner_depth}
use Rattle.sx_check.specs.Rules.{first_broken}
use Rattle.sx_check.proofs.Accepted.{fine}
use Rattle.sx_check.proofs.Keeps.{In}
use Rattle.sx_mean.specs.Application.{block_packets}
use Rattle.sx_mean.specs.Variables.{FineBlock, first_value}
use Rattle.sx_mean.proofs.Fine.{fine_handler}
use Rattle.sx_mean.proofs.Variables.{small_values}
use Rattle.sx_lower.specs.Lowering.{SendFew}

sends_in : (links : ℕ → ℕ) (m : ModuleTree) (h : HandlerTree) (hs : List HandlerTree) → In h hs → SendFew links m hs → block_packets links m.decls h.body ≤ 16
sends_in links m h [] i f = absurd i
sends_in links m h (x ∷ hs) (inl e) f = subst (λ (h : HandlerTree). block_packets links m.decls h.body ≤ 16) e f.0
sends_in links m h (x ∷ hs) (inr i) f = sends_in links m h hs i f.1

-- what an accepted module gives a handler, where E is what an `emit` needs
pub record IsFine (m : ModuleTree) (links : ℕ → ℕ) (E : Type 0) (h : HandlerTree) : Type 0 where
  pub fine : FineBlock m.decls E (h.param ∷ []) h.body
  pub height : block_height h.body ≤ 32
  pub depth : inner_depth h.body ≤ 15
  pub lets : 1 + length (block_lets h.body) ≤ 16
  pub packets : block_packets links m.decls h.body ≤ 16
  pub values : (x : List ℕ) → first_value m.decls x < 65536

pub is_fine : (m : ModuleTree) → first_broken m ≡ None → (links : ℕ → ℕ) (E : Type 0) (h : HandlerTree) → In h m.handlers → TreeHasWords m → SendFew links m m.handlers
    → (list_any is_actuator m.decls ≡ true → E) → IsFine m links E h
is_fine m checked links E h i w f em =
    let a = fine m checked h i in
    record {
      fine = fine_handler m checked E h i w.handlers em;
      height = a.height;
      depth = a.depth;
      lets = let l = a.few_locals in omega (arith, l);
      packets = sends_in links m h m.handlers i f;
      values = λ x. small_values m.decls x w.decls;
    }
