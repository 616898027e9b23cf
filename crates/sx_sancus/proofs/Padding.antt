-- Zeros after a text.
use Rattle.std.proofs.Common.{◌≡◌, ◌≤◌, ℕ, ◌-◌, List, ◌++◌, length, take, drop, replicate, sym, ap, ◌∙◌}
use Rattle.std.proofs.lemmas.List.{drop-replicate, length-take-le}
use Rattle.std.proofs.Math.Seq.{take-append_seam}
use Rattle.sx_tag.specs.Wrap.{padded}

front_padded : (xs rest : List ℕ) → rest ≡ replicate (32 - length xs) 0 → xs ++ rest ≡ padded (take (length xs) (xs ++ rest))
front_padded xs rest h = ap (λ (zeros : List ℕ). xs ++ zeros) h ∙ sym (ap padded (take-append_seam xs rest))

-- bytes that are copied to the start of a block of zeros
pub copied_padded : (bytes front : List ℕ) (n : ℕ) → n ≤ length bytes → front ≡ take n bytes
    → front ++ drop n (replicate 32 0) ≡ padded (take n (front ++ drop n (replicate 32 0)))
copied_padded bytes front n h e =
    let k : length front ≡ n = ap length e ∙ length-take-le n bytes h in
    let zeros : drop n (replicate 32 0) ≡ replicate (32 - length front) 0 =
    drop-replicate n 32 0 ∙ ap (λ (m : ℕ). replicate (32 - m) 0) (sym k) in
    front_padded front (drop n (replicate 32 0)) zeros
    ∙ ap (λ (m : ℕ). padded (take m (front ++ drop n (replicate 32 0)))) k
