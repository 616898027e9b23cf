-- Bytes and zeros after them are a name's field.
use Rattle.std.proofs.Common.{◌≡◌, ℕ, ◌+◌, ◌-◌, ◌<◌, ◌≤◌, ◌==◌, false, List, ◌++◌, length, take, drop, refl, sym, ap, ◌∙◌, arith}
use Rattle.std.proofs.Math.ListN.{replicate}
use Rattle.std.proofs.Math.Seq.{take-append_seam, take-append-add}
use Rattle.std.proofs.lemmas.Bool.Decides.{nat_tests}
use Rattle.std.proofs.lemmas.List.{drop-replicate, take-replicate}
use Rattle.sx_lang.specs.Padded.{padded_name, IsStored}

padded_is : (xs : List ℕ) → length xs ≤ 16 → padded_name xs ≡ xs ++ replicate (16 - length xs) 0
padded_is xs h =
    let e : 16 ≡ length xs + (16 - length xs) = omega arith in
    ap (λ n. take n (xs ++ replicate 16 0)) e ∙ take-append-add xs (replicate 16 0) (16 - length xs)
    ∙ ap (λ zs. xs ++ zs) (take-replicate (16 - length xs) 16 0 (omega arith))

some_are : (n : ℕ) → false ≡ (n == 0) → 0 < n
some_are n h = grind (arith, nat_tests)

pub stored : (xs front back : List ℕ) → front ≡ xs → back ≡ drop (length xs) (replicate 16 0) → false ≡ (length xs == 0) → length xs ≤ 16 → IsStored (front ++ back) (length xs)
stored xs front back f b s h =
    let e : front ++ back ≡ xs ++ replicate (16 - length xs) 0 = rw (f, b, drop-replicate {X = ℕ} (length xs) 16 0) refl in
    let t : take (length xs) (front ++ back) ≡ xs = rw f (take-append_seam xs back) in
    record { some = some_are (length xs) s; short = h; counted = ap length t; filled = ap padded_name t ∙ padded_is xs h ∙ sym e }
