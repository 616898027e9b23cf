-- A sign that comes first, or doesn't.
use Rattle.std.proofs.Common.{◌≡◌, List, ◌∷◌, true, false, Some, refl}
use Rattle.sx_lex.specs.declared.tokens.Placed.{Placed}
use Rattle.spec_grammar.specs.Machine.{Sign, is_sign}
use Rattle.sx_parse.specs.Reading.{TakesSign, Misses}

pub takes : (f : Sign) (ts rest : List Placed) (t : Placed) → ts ≡ t ∷ rest → is_sign f t.kind ≡ true → TakesSign f ts rest
takes f ts rest t h k = record { takes = λ st vs. rw (h, k) refl }

pub misses : (f : Sign) (ts rest : List Placed) (t : Placed) → ts ≡ t ∷ rest → is_sign f t.kind ≡ false → Misses f ts (Some t)
misses f ts rest t h k = record { misses = λ st vs. rw (h, k) refl }
