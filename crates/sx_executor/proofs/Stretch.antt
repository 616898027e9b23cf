-- The bytes from an address on, as a part of the memory's list.
use Rattle.std.proofs.Common.{◌≡◌, ℕ, zero, suc, ◌+◌, ◌≤◌, List, [], ◌∷◌, ◌++◌, length, take, drop, refl, sym, ap, ◌∙◌, arith}
use Rattle.std.proofs.lemmas.List.{take_more, get_or-drop, length-drop}
use Rattle.spec_machine.specs.Memory.{bytes_from}

pub bytes_of_stretch : (mem : List ℕ) (at n : ℕ) → at + n ≤ length mem → bytes_from mem at n ≡ take n (drop at mem)
unfolding bytes_from
bytes_of_stretch mem at zero h = refl
bytes_of_stretch mem at (suc n) h =
    let more : n + 1 ≡ suc n = omega arith in
    (λ j. bytes_of_stretch mem at n (omega (arith, h)) j ++ sym (get_or-drop at mem n 0) j ∷ [])
    ∙ sym (take_more (drop at mem) n 0 (omega (arith, h, length-drop at mem)))
    ∙ ap (λ (m : ℕ). take m (drop at mem)) more
