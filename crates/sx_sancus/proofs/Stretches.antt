-- Stretches of a memory, one after the other.
use Rattle.std.proofs.Common.{◌≡◌, ℕ, zero, suc, ◌+◌, List, [], ◌∷◌, ◌++◌, refl, sym, ap, ◌∙◌, arith, append_assoc, append-nil}
use Rattle.std.specs.Prelude.{slice_index}
use Rattle.spec_machine.specs.Memory.{bytes_from}
use Rattle.spec_machine.proofs.BytesFrom.{bytes_none}

last_byte : (mem : List ℕ) (at n : ℕ) → bytes_from mem at (suc n) ≡ bytes_from mem at n ++ slice_index mem (at + n) ∷ []
unfolding bytes_from
last_byte mem at n = refl

in_two : (mem : List ℕ) (at n k : ℕ) → bytes_from mem at n ++ bytes_from mem (at + n) k ≡ bytes_from mem at (n + k)
in_two mem at n zero =
    let same : n ≡ n + 0 = omega arith in
    ap (λ (bytes : List ℕ). bytes_from mem at n ++ bytes) (bytes_none mem (at + n)) ∙ append-nil (bytes_from mem at n) ∙ ap (bytes_from mem at) same
in_two mem at n (suc k) =
    let place : at + n + k ≡ at + (n + k) = omega arith in let more : suc (n + k) ≡ n + suc k = omega arith in
    let byte : ℕ → List ℕ = λ i. slice_index mem i ∷ [] in
    ap (λ (bytes : List ℕ). bytes_from mem at n ++ bytes) (last_byte mem (at + n) k)
    ∙ sym (append_assoc (bytes_from mem at n) (bytes_from mem (at + n) k) (byte (at + n + k)))
    ∙ (λ j. in_two mem at n k j ++ byte (place j))
    ∙ sym (last_byte mem at (n + k)) ∙ ap (bytes_from mem at) more

-- a stretch after what was fed of the same memory
pub fed_on : (fed mem : List ℕ) (at n k : ℕ) → (fed ++ bytes_from mem at n) ++ bytes_from mem (at + n) k ≡ fed ++ bytes_from mem at (n + k)
fed_on fed mem at n k = append_assoc fed (bytes_from mem at n) (bytes_from mem (at + n) k) ∙ ap (λ (bytes : List ℕ). fed ++ bytes) (in_two mem at n k)
