-- Whether a memory holds the bytes of a text from an address on.
use Rattle.std.proofs.Common.{◌≡◌, ℕ, ◌==◌, inl, inr, false, List, length, sym, ap, ◌∙◌}
use Rattle.std.specs.Prelude.{bytes_eq}
use Rattle.std.proofs.lemmas.Bool.{cases_Bool, ne_eqb}
use Rattle.std.proofs.lemmas.Slice.Eq.{bytes_eq-Decides}
use Rattle.spec_machine.specs.Memory.{bytes_from}
use Rattle.spec_machine.proofs.Lengths.{length-bytes_from}

-- the lengths differ
pub not_as_long : (m : List ℕ) (a n : ℕ) (text : List ℕ) → (n ≡ length text → ⊥) → false ≡ bytes_eq (bytes_from m a n) text
not_as_long m a n text h = elim (cases_Bool (bytes_eq (bytes_from m a n) text)) [
  | inl t ↦ absurd (h (sym (length-bytes_from m a n) ∙ ap length ((bytes_eq-Decides (bytes_from m a n) text).0 t)))
  | inr f ↦ sym f
]

pub unlike : (m : List ℕ) (a k n : ℕ) (text : List ℕ) → k ≡ n → (k ≡ length text → ⊥) → (k == length text) ≡ bytes_eq (bytes_from m a n) text
unlike m a k n text e h = ne_eqb k (length text) h ∙ not_as_long m a n text (λ x. h (e ∙ x))
