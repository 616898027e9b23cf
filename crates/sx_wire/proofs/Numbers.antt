-- The number that bytes write.
use Rattle.std.proofs.Common.{◌≡◌, ℕ, zero, suc, ◌+◌, ◌*◌, ◌^◌, ◌%◌, ◌<◌, List, [], ◌∷◌, length, drop, refl, sym, ap, ◌∙◌, arith}
use Rattle.std.specs.Prelude.{slice_index}
use Rattle.std.specs.Int.{bytes_low_first}
use Rattle.std.proofs.Math.Nat.{div-one, mod-eq_of_lt}
use Rattle.std.proofs.Math.Seq.{drop-cons}
use Rattle.std.proofs.lemmas.List.{append-nil}
use Rattle.byteorder.specs.Endian.{little_bytes, little_from}
use Rattle.byteorder.specs.Numbers.{little_from-bytes}
use Rattle.sx_wire.specs.Headers.{number_in, ask_packet, challenge_in}

past : (xs : List ℕ) (i : ℕ) → length xs ≡ i → drop i xs ≡ []
past [] zero e = refl
past [] (suc i) e = refl
past (x ∷ xs) zero e = absurd (omega (arith, e))
past (x ∷ xs) (suc i) e = past xs i (omega (arith, e))

-- the bytes from the i-th on
pub number_from : (xs : List ℕ) (i n : ℕ) → length xs ≡ i + n → little_from i n xs ≡ number_in (drop i xs)
number_from xs i zero e = sym (ap number_in (past xs i (omega (arith, e))))
number_from xs i (suc n) e =
    ap (λ k. slice_index xs i + 256 * k) (number_from xs (suc i) n (omega (arith, e))) ∙ sym (ap number_in (drop-cons xs i 0 (omega (arith, e))))

low_length : (n j v : ℕ) → length (bytes_low_first j n v) ≡ n
low_length zero j v = refl
low_length (suc n) j v = ap (λ k. suc k) (low_length n (suc j) v)

-- a number's bytes write it
pub low_number : (n v : ℕ) → v < 256 ^ n → number_in (little_bytes n v) ≡ v
low_number n v h =
    let long = low_length n 0 v in
    sym (number_from (little_bytes n v) 0 n (omega (arith, long)))
    ∙ ap (λ (s : List ℕ). little_from 0 n s) (sym (append-nil (little_bytes n v)))
    ∙ little_from-bytes n 0 v []
    ∙ ap (λ k. k % 256 ^ n) (div-one v)
    ∙ mod-eq_of_lt h

-- an ask's challenge
pub challenge_same : (a : ℕ) → a < 4294967295 → challenge_in (ask_packet a) ≡ a
challenge_same a h = low_number 16 a (omega (arith, h))
