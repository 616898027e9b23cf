-- How many packets a statement makes.
use Rattle.std.specs.Prelude.{ℕ, List}
use Rattle.sx_lang.specs.declared.tree.Decl.{Decl}
use Rattle.sx_lang.specs.Tree.{Statement}
use Rattle.sx_check.specs.Bounds.{statement_sends_by}
use Rattle.sx_mean.specs.Places.{output_number}

-- how many packets it makes at most: each send counts once for each connection from its output
abbrev pub statement_packets : (ℕ → ℕ) → List Decl → Statement → ℕ
statement_packets links ds s = statement_sends_by (λ x. links (output_number ds x)) s
