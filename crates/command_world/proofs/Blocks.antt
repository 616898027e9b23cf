-- The digits of bytes, block by block.
use Rattle.std.proofs.Common.{◌≡◌, true, ℕ, zero, suc, ◌*◌, ◌≤◌, ◌/◌, ◌%◌, ◌∙◌, List, [], ◌∷◌, ◌++◌, length, replicate, slice_index, take, refl, ap, sym, append_assoc, append-nil, arith}
use Rattle.std.proofs.lemmas.List.{nil_from_length, take-replicate}
use Rattle.hex.specs.Hex.{encode_with, encode_lower}
use Rattle.sx_check.specs.Names.{same}
use Rattle.sx_check.proofs.Distinct.{same-true}

-- the digits of bytes and of those after them
pub encode_with-append : (t xs ys : List ℕ) → encode_with t (xs ++ ys) ≡ encode_with t xs ++ encode_with t ys
unfolding encode_with
encode_with-append t [] ys = refl
encode_with-append t (b ∷ xs) ys = ap (λ (r : List ℕ). slice_index t (b / 16) ∷ slice_index t (b % 16) ∷ r) (encode_with-append t xs ys)

-- a block's digits after those of the blocks before it
pub block_after : (t before now text all block rest : List ℕ) → all ≡ block ++ rest → now ≡ before ++ encode_with t block
    → before ++ encode_with t all ≡ text → now ++ encode_with t rest ≡ text
block_after t before now text all block rest parts added whole =
    rw (added, append_assoc) (sym (ap (λ (r : List ℕ). before ++ r) (ap (encode_with t) parts ∙ encode_with-append t block rest)) ∙ whole)

-- no block is left
pub no_block : (t now text rest : List ℕ) → length rest ≡ 0 → now ++ encode_with t rest ≡ text → now ≡ text
unfolding encode_with
no_block t now text rest none whole = let nil = nil_from_length rest none in rw (nil, append-nil) at whole

-- a part of as many zeros as a block may have
pub zeros : (block : List ℕ) → length block ≤ 1024 → same block (take (length block) (replicate 1024 0)) ≡ true → block ≡ replicate (length block) 0
zeros block short h = same-true block (take (length block) (replicate 1024 0)) h ∙ take-replicate (length block) 1024 0 short

-- the digits of zeros
digits_of_zeros : (n : ℕ) → encode_lower (replicate n 0) ≡ replicate (2 * n) 48
unfolding encode_with
digits_of_zeros zero = refl
digits_of_zeros (suc n) =
    let twice : suc (suc (2 * n)) ≡ 2 * suc n = omega arith in
    ap (λ (r : List ℕ). 48 ∷ 48 ∷ r) (digits_of_zeros n) ∙ ap (λ (k : ℕ). replicate {A = ℕ} k 48) twice

pub zeros_written : (block digits : List ℕ) → digits ≡ replicate (2 * length block) 48 → block ≡ replicate (length block) 0 → digits ≡ encode_lower block
zeros_written block digits all none = all ∙ sym (ap encode_lower none ∙ digits_of_zeros (length block))

-- as many digits as a block has
pub as_many : (n : ℕ) → n ≤ 1024 → take {A = ℕ} (2 * n) (replicate 2048 48) ≡ replicate (2 * n) 48
as_many n short = take-replicate (2 * n) 2048 48 (omega (arith, short))
