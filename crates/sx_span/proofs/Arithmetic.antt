-- Operators keep to their intervals.
use Rattle.std.proofs.Common.{◌≡◌, ◌≤◌, ◌<◌, ℕ, zero, suc, ◌+◌, ◌*◌, ◌-◌, ◌^◌, ◌/◌, ◌%◌, ◌==◌, Bool, true, false, if◌then◌else◌, nat_lt, nat_le, max, min}
use Rattle.std.proofs.Common.{pow-suc, refl, subst, arith, mul-le-mul}
use Rattle.std.specs.Prelude.{bit_or, bit_xor, ◌&&◌, ◌||◌}
use Rattle.std.proofs.lemmas.Bool.{le-leb, leb-true, eqb-true, ltb-true}
use Rattle.std.proofs.lemmas.Bool.Decides.{nat_tests}
use Rattle.std.proofs.lemmas.Nat.{or_lt, xor_lt, and_le_l, and_le_r, le_or_l, le_or_r}
use lib.Bits.{or_add_and, xor_add_and}
use Rattle.sx_lang.specs.declared.tree.UnOp.{UnOp}
use Rattle.sx_lang.specs.declared.tree.UnOp.TheVariants.{Neg, Inv, Not}
use Rattle.sx_lang.specs.declared.tree.BinOp.{BinOp}
use Rattle.sx_lang.specs.declared.tree.BinOp.TheVariants.{Add, Sub, Or, Xor, Mul, And, Eq, Ne, Lt, Le, Gt, Ge}
use Rattle.lemmas.specs.Truth.{truth}
use Rattle.sx_mean.specs.Meaning.{apply, combine}
use Rattle.sx_mean.proofs.Words.{not_equal}
use Rattle.sx_span.specs.Intervals.{Interval, Lies, between, only, any_word, hull, wrapped, decided, ones, most_of_bits}
use Rattle.sx_span.specs.Operators.{less, at_most, equal, apply_range, combine_range, exact}

pub lies_only : (n : ℕ) → Lies n (only n)
lies_only n = record { above = omega arith; below = omega arith }

pub lies_left : (v : ℕ) (i j : Interval) → Lies v i → Lies v (hull i j)
lies_left v i j l = record { above = omega arith; below = omega arith }

pub lies_right : (v : ℕ) (i j : Interval) → Lies v j → Lies v (hull i j)
lies_right v i j l = record { above = omega arith; below = omega arith }

wraps : (l v h : ℕ) → l ≤ v → v ≤ h → Lies (v % 65536) (wrapped l h)
wraps l v h p q = go (l / 65536 == h / 65536) refl
  where
    go : (t : Bool) → (l / 65536 == h / 65536) ≡ t → Lies (v % 65536) (if t then between (l % 65536) (h % 65536) else any_word)
    go true e = let d = eqb-true (l / 65536) (h / 65536) e in record { above = omega arith; below = omega arith }
    go false e = record { above = omega arith; below = omega arith }

decides : (surely never b : Bool) → (surely ≡ true → b ≡ true) → (never ≡ true → b ≡ false) → Lies (truth b) (decided surely never)
decides true never b p q = rw (p refl) (record { above = omega arith; below = omega arith })
decides false true b p q = rw (q refl) (record { above = omega arith; below = omega arith })
decides false false true p q = record { above = omega arith; below = omega arith }
decides false false false p q = record { above = omega arith; below = omega arith }

less_lies : (v w : ℕ) (a b : Interval) → Lies v a → Lies w b → Lies (truth (nat_lt v w)) (less a b)
less_lies v w a b p q = decides (nat_lt a.high b.low) (nat_le b.high a.low) (nat_lt v w) (λ e. grind (arith, nat_tests)) (λ e. grind (arith, nat_tests))

at_most_lies : (v w : ℕ) (a b : Interval) → Lies v a → Lies w b → Lies (truth (nat_le v w)) (at_most a b)
at_most_lies v w a b p q = decides (nat_le a.high b.low) (nat_lt b.high a.low) (nat_le v w) (λ e. grind (arith, nat_tests)) (λ e. grind (arith, nat_tests))

equal_lies : (v w : ℕ) (a b : Interval) → Lies v a → Lies w b → Lies (truth (v == w)) (equal a b)
equal_lies v w a b p q = decides (nat_le a.high b.low && nat_le b.high a.low) (nat_lt a.high b.low || nat_lt b.high a.low) (v == w)
    (λ e. grind (arith, nat_tests)) (λ e. grind (arith, nat_tests))

ones_or : (k mask n a b : ℕ) → mask + 1 ≡ 2 ^ k → n ≤ mask → a ≤ n → b ≤ n → (bit_or a b ≤ ones k mask n) × (bit_xor a b ≤ ones k mask n)
ones_or zero mask n a b e l p q = let o = or_lt 0 a b (omega arith) (omega arith) in let x = xor_lt 0 a b (omega arith) (omega arith) in (omega arith, omega arith)
ones_or (suc k) mask n a b e l p q = go (nat_le n (mask / 2)) refl (λ m. ones_or k (mask / 2) n a b half m p q)
  where
    half : mask / 2 + 1 ≡ 2 ^ k
    half = omega (arith, e, pow-suc 2 k)

    go : (t : Bool) → nat_le n (mask / 2) ≡ t → (n ≤ mask / 2 → (bit_or a b ≤ ones k (mask / 2) n) × (bit_xor a b ≤ ones k (mask / 2) n))
        → (bit_or a b ≤ (if t then ones k (mask / 2) n else mask)) × (bit_xor a b ≤ (if t then ones k (mask / 2) n else mask))
    go true f more = more (leb-true n (mask / 2) f)
    go false f more =
        let o = or_lt (suc k) a b (omega arith) (omega arith) in
        let x = xor_lt (suc k) a b (omega arith) (omega arith) in
        (omega arith, omega arith)

pub ones_on : (i mask n whole : ℕ) → i < 16 → n ≤ mask / 2 → ones (16 - i) mask n ≡ whole → ones (16 - (i + 1)) (mask / 2) n ≡ whole
ones_on i mask n whole l p e = go (16 - i) (16 - (i + 1)) (omega arith) e
  where
    go : (a b : ℕ) → a ≡ b + 1 → ones a mask n ≡ whole → ones b (mask / 2) n ≡ whole
    go zero b q e = absurd (omega (arith, q))
    go (suc a) b q e = let s : b ≡ a = omega (arith, q) in let t = le-leb n (mask / 2) p in rw s (rw t at e)

bits_most : (a b m n : ℕ) → a ≤ m → b ≤ n → (bit_or a b ≤ most_of_bits m n) × (bit_xor a b ≤ most_of_bits m n)
bits_most a b m n p q = go (nat_lt (max m n) 65536) refl
  where
    go : (t : Bool) → nat_lt (max m n) 65536 ≡ t
        → (bit_or a b ≤ (if t then ones 16 65535 (max m n) else m + n)) × (bit_xor a b ≤ (if t then ones 16 65535 (max m n) else m + n))
    go true e = let l = ltb-true (max m n) 65536 e in ones_or 16 65535 (max m n) a b refl (omega arith) (omega arith) (omega arith)
    go false e = let o = or_add_and a b in let x = xor_add_and a b in (omega arith, omega arith)

pub apply_lies : (o : UnOp) (v : ℕ) (a : Interval) → Lies v a → Lies (apply o v) (apply_range o a)
apply_lies Neg v a l = wraps (65536 - a.high) (65536 - v) (65536 - a.low) (omega arith) (omega arith)
apply_lies Inv v a l = record { above = omega arith; below = omega arith }
apply_lies Not v a l = decides (a.high == 0) (nat_lt 0 a.low) (v == 0) (λ e. grind (arith, nat_tests)) (λ e. grind (arith, nat_tests))

exact_lies : (o : BinOp) (v w : ℕ) (a b i : Interval) → Lies v a → Lies w b → Lies (combine o v w) i → Lies (combine o v w) (exact o a b i)
exact_lies o v w a b i p q l = go (a.low == a.high) (b.low == b.high) refl refl
  where
    go : (s t : Bool) → (a.low == a.high) ≡ s → (b.low == b.high) ≡ t → Lies (combine o v w) (if s && t then only (combine o a.low b.low) else i)
    go true true e f =
        let x = eqb-true a.low a.high e in
        let y = eqb-true b.low b.high f in
        let m : v ≡ a.low = omega arith in
        let n : w ≡ b.low = omega arith in
        rw (m, n) (lies_only (combine o a.low b.low))
    go true false e f = l
    go false t e f = l

pub combine_lies : (o : BinOp) (v w : ℕ) (a b : Interval) → Lies v a → Lies w b → Lies (combine o v w) (combine_range o a b)
combine_lies Add v w a b p q = wraps (a.low + b.low) (v + w) (a.high + b.high) (omega arith) (omega arith)
combine_lies Sub v w a b p q = wraps (a.low + (65536 - b.high)) (v + (65536 - w)) (a.high + (65536 - b.low)) (omega arith) (omega arith)
combine_lies Or v w a b p q =
    let l = le_or_l v w in let r = le_or_r v w in
    exact_lies Or v w a b (between (max a.low b.low) (most_of_bits a.high b.high)) p q
    (record { above = omega arith; below = (bits_most v w a.high b.high p.below q.below).0 })
combine_lies Xor v w a b p q =
    exact_lies Xor v w a b (between 0 (most_of_bits a.high b.high)) p q (record { above = omega arith; below = (bits_most v w a.high b.high p.below q.below).1 })
combine_lies Mul v w a b p q = wraps (a.low * b.low) (v * w) (a.high * b.high) (mul-le-mul p.above q.above) (mul-le-mul p.below q.below)
combine_lies And v w a b p q =
    let l = and_le_l v w in let r = and_le_r v w in
    exact_lies And v w a b (between 0 (min a.high b.high)) p q (record { above = omega arith; below = omega arith })
combine_lies Eq v w a b p q = equal_lies v w a b p q
combine_lies Ne v w a b p q = subst (λ n. Lies n (combine_range Ne a b)) (not_equal v w) (apply_lies Not (truth (v == w)) (equal a b) (equal_lies v w a b p q))
combine_lies Lt v w a b p q = less_lies v w a b p q
combine_lies Le v w a b p q = at_most_lies v w a b p q
combine_lies Gt v w a b p q = less_lies w v b a q p
combine_lies Ge v w a b p q = at_most_lies w v b a q p
