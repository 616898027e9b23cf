-- The parts of a packet that was wrapped.
use Rattle.std.proofs.Common.{◌≡◌, ℕ, ◌≤◌, List, ◌++◌, length, take, drop, Some, sym, ap, ◌∙◌, arith}
use Rattle.std.proofs.Math.Seq.{take-append_seam, drop-append_seam}
use Rattle.sx_tag.specs.Mac.{Mac, IsTag}
use Rattle.sx_tag.specs.Wrap.{wrapped, unwrapped, padded}
use Rattle.sx_tag.proofs.UnwrapsWrapped.{unwraps_wrapped, length-crypt}

pub take_first : (n : ℕ) (xs ys : List ℕ) → length xs ≡ n → take n (xs ++ ys) ≡ xs
take_first n xs ys e = ap (λ k. take k (xs ++ ys)) (sym e) ∙ take-append_seam xs ys

pub drop_first : (n : ℕ) (xs ys : List ℕ) → length xs ≡ n → drop n (xs ++ ys) ≡ ys
drop_first n xs ys e = ap (λ k. drop k (xs ++ ys)) (sym e) ∙ drop-append_seam xs ys

-- a body of n bytes that was wrapped is unwrapped from the cipher's bytes and those after
pub unwraps : (mac : Mac) (key ad body : List ℕ) (n : ℕ) → IsTag mac → length body ≡ n → n ≤ 32
    → let w = wrapped mac key ad body in
    unwrapped mac key ad (take n (w.cipher ++ w.tag)) (drop n (w.cipher ++ w.tag)) ≡ Some (padded body)
unwraps mac key ad body n t e le =
    let w = wrapped mac key ad body in
    let size : length w.cipher ≡ n = length-crypt mac key ad body t.width (omega (arith, e, le)) ∙ e in
    ap (λ c. unwrapped mac key ad c (drop n (w.cipher ++ w.tag))) (take_first n w.cipher w.tag size)
    ∙ ap (λ g. unwrapped mac key ad w.cipher g) (drop_first n w.cipher w.tag size)
    ∙ unwraps_wrapped mac key ad body t.width (omega (arith, e, le))
