-- Bytes that are read from an address on, by the first of them.
use Rattle.std.proofs.Common.{◌≡◌, ℕ, zero, suc, ◌+◌, List, [], ◌∷◌, ◌++◌, refl, ◌∙◌, ap, arith}
use Rattle.std.specs.Prelude.{slice_index}
use Rattle.spec_machine.specs.Memory.{bytes_from}

pub bytes_none : (m : List ℕ) (a : ℕ) → bytes_from m a 0 ≡ []
unfolding bytes_from
bytes_none m a = refl

pub bytes_first : (m : List ℕ) (a n : ℕ) → slice_index m a ∷ bytes_from m (a + 1) n ≡ bytes_from m a (suc n)
unfolding bytes_from
bytes_first m a zero = ap (λ k. slice_index m k ∷ []) (omega arith)
bytes_first m a (suc n) =
    ap (λ l. l ++ slice_index m (a + 1 + n) ∷ []) (bytes_first m a n)
    ∙ ap (λ k. bytes_from m a (suc n) ++ slice_index m k ∷ []) (omega arith)
