-- What a set of the locals in sight stands for.
use Rattle.std.specs.Prelude.{◌≡◌, ℕ, List, IfSome}
use Rattle.sx_check.specs.declared.seen.Seen.{Seen}

-- the set, if there is one, has these names in this order
abbrev pub Knows : Seen → List (List ℕ) → Type 0
Knows seen names = IfSome seen.names (λ set. set.keys ≡ names)
