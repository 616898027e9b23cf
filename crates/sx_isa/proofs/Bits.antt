-- Fields that are put together by `|`, as a sum.
use Rattle.std.proofs.Common.{◌≡◌, ℕ, ◌+◌, ◌*◌, ◌/◌, ◌%◌, ◌^◌, ◌<◌, ◌∷◌, [], arith, ap, sym, ◌∙◌}
use Rattle.std.specs.Prelude.{bit_or}
use Rattle.std.proofs.lemmas.Nat.{or_shifted, shr_split}
use Rattle.sx_isa.specs.Spelling.{two_word, one_word, packed}

or_low : (n b k : ℕ) → n % 2 ^ k ≡ 0 → b < 2 ^ k → bit_or n b ≡ n + b
or_low n b k low below =
    let e : n ≡ n / 2 ^ k * 2 ^ k = omega (arith, shr_split n k) in
    ap (λ m. bit_or m b) e ∙ or_shifted (n / 2 ^ k) k b below ∙ ap (λ m. m + b) (sym e)

pub two_fields : (a b c e f d op s ad y m : ℕ) → op < 16 → s < 16 → ad < 2 → y < 2 → m < 4 → d < 16 →
    a ≡ op * 4096 → b ≡ s * 256 → c ≡ ad * 128 → e ≡ y * 64 → f ≡ m * 16 →
    bit_or (bit_or (bit_or (bit_or (bit_or a b) c) e) f) d ≡ two_word op s ad y m d
two_fields a b c e f d op s ad y m p q r t u v ea eb ec ee ef =
    rw (
      or_low a b 12 (omega arith) (omega arith),
      or_low (a + b) c 8 (omega arith) (omega arith),
      or_low (a + b + c) e 7 (omega arith) (omega arith),
      or_low (a + b + c + e) f 6 (omega arith) (omega arith),
      or_low (a + b + c + e + f) d 4 (omega arith) (omega arith),
    ) (omega arith)

pub one_fields : (b e f r op y m : ℕ) → op < 8 → y < 2 → m < 4 → r < 16 →
    b ≡ op * 128 → e ≡ y * 64 → f ≡ m * 16 → bit_or
    (bit_or (bit_or (bit_or 4096 b) e) f) r ≡ one_word op y m r
one_fields b e f r op y m p t u v eb ee ef =
    rw (
      or_low 4096 b 10 (omega arith) (omega arith),
      or_low (4096 + b) e 7 (omega arith) (omega arith),
      or_low (4096 + b + e) f 6 (omega arith) (omega arith),
      or_low (4096 + b + e + f) r 4 (omega arith) (omega arith),
    ) (omega arith)

pub jump_fields : (b f cond : ℕ) → cond < 8 → f < 1024 → b ≡ cond * 1024 →
    bit_or (bit_or 8192 b) f ≡ packed 1 ((3, cond) ∷ (10, f) ∷ [])
jump_fields b f cond p q eb =
    rw (or_low 8192 b 13 (omega arith) (omega arith), or_low (8192 + b) f 10 (omega arith) (omega arith)) (omega arith)
