use Rattle.std.proofs.Common.{arith, map, Bor, List, ℕ}
use Rattle.std.proofs.lemmas.Grind.{common_steps}
use Rattle.sx_entries.proofs.FieldLemmas.{has_only_keys}
use Rattle.sx_entries.proofs.fields.has_only.Goals as goal

pub returns-then-not-knows : goal.returns-then-not-knows
returns-then-not-knows c = grind (arith, common_steps, has_only_keys (map (λ (k : Bor (List ℕ)). k.now) c.args.keys.now) c.args.table.now.entries)

pub returns : goal.returns
returns c = grind (arith, common_steps, has_only_keys (map (λ (k : Bor (List ℕ)). k.now) c.args.keys.now) c.args.table.now.entries)
