use Rattle.std.proofs.Common.{◌≡◌, map, Bor, List, ℕ, string_bytes}
use Rattle.std.specs.List.{list_all}
use Rattle.std.specs.Map.{keys_of}
use Rattle.sx_entries.specs.Fields.{knows}
use Rattle.sx_entries.proofs.fields.has_only.Given as goal

abbrev pub invariant-loop-key : goal.invariant-loop-key
invariant-loop-key l =
    list_all (λ k. knows (map (λ (k : Bor (List ℕ)). k.now) l.keys) (string_bytes k)) l.key-iterator
    ≡ list_all (λ k. knows (map (λ (k : Bor (List ℕ)). k.now) l.keys) (string_bytes k)) (keys_of l.table.entries)
