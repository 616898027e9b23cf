-- The lengths of bytes that are read and of a memory that bytes or a word were written to.
use Rattle.std.proofs.Common.{◌≡◌, ℕ, zero, suc, ◌+◌, List, [], ◌∷◌, length, refl, ◌∙◌, arith, ◌%◌}
use Rattle.std.specs.Prelude.{slice_index, slice_set}
use Rattle.std.proofs.lemmas.List.{length-append, length-set}
use Rattle.spec_machine.specs.Memory.{bytes_from, put_bytes, put_word}

pub length-bytes_from : (m : List ℕ) (at n : ℕ) → length (bytes_from m at n) ≡ n
unfolding bytes_from
length-bytes_from m at zero = refl
length-bytes_from m at (suc n) =
    length-append (bytes_from m at n) (slice_index m (at + n) ∷ []) ∙ (let e = length-bytes_from m at n in omega (arith, e))

pub length-put_word : (m : List ℕ) (at v : ℕ) → length (put_word m at v) ≡ length m
length-put_word m at v = simp length-set

pub length-put_bytes : (bs m : List ℕ) (at : ℕ) → length (put_bytes m at bs) ≡ length m
length-put_bytes [] m at = refl
length-put_bytes (b ∷ bs) m at = length-put_bytes bs (slice_set m at (b % 256)) (at + 1) ∙ length-set m at (b % 256)
