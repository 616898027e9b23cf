-- The lengths and bytes of tags, ciphers and derived keys.
use Rattle.std.proofs.Common.{◌≡◌, ℕ, zero, suc, ◌<◌, ◌≤◌, List, [], ◌∷◌, ◌++◌, length, take, min, ◌∙◌, ap, arith}
use Rattle.std.specs.Prelude.{All}
use Rattle.std.proofs.lemmas.List.{length-take}
use Rattle.std.proofs.lemmas.Nat.{xor_of_8}
use Rattle.sx_tag.specs.Mac.{Mac, IsTag}
use Rattle.sx_tag.specs.Keys.{kdf}
use Rattle.sx_tag.specs.Wrap.{crypt, stream, wrap_tag, wrapped, xor_bytes}
use Rattle.sx_tag.proofs.UnwrapsWrapped.{length-crypt}

-- all are bytes
abbrev pub AreBytes : List ℕ → Type 0
AreBytes [] = Unit {0}
AreBytes (b ∷ bs) = (b < 256) × AreBytes bs

are_bytes : (xs : List ℕ) → All (λ b. b < 256) xs → AreBytes xs
are_bytes [] h = tt
are_bytes (x ∷ xs) h = (h 0 0 (omega arith), are_bytes xs (λ k d lt. h (suc k) d (omega (arith, lt))))

pub all_bytes : (xs : List ℕ) → AreBytes xs → All (λ b. b < 256) xs
all_bytes [] h k d lt = absurd (omega (arith, lt))
all_bytes (x ∷ xs) h zero d lt = h.0
all_bytes (x ∷ xs) h (suc k) d lt = all_bytes xs h.1 k d (omega (arith, lt))

pub both_bytes : (xs ys : List ℕ) → AreBytes xs → AreBytes ys → AreBytes (xs ++ ys)
both_bytes [] ys h g = g
both_bytes (x ∷ xs) ys h g = (h.0, both_bytes xs ys h.1 g)

take_bytes : (n : ℕ) (xs : List ℕ) → AreBytes xs → AreBytes (take n xs)
take_bytes zero xs h = tt
take_bytes (suc n) [] h = tt
take_bytes (suc n) (x ∷ xs) h = (h.0, take_bytes n xs h.1)

xor_are_bytes : (bs ks : List ℕ) → AreBytes bs → AreBytes ks → AreBytes (xor_bytes bs ks)
xor_are_bytes [] ks h g = tt
xor_are_bytes (b ∷ bs) [] h g = tt
xor_are_bytes (b ∷ bs) (k ∷ ks) h g = (xor_of_8 b k h.0 g.0, xor_are_bytes bs ks h.1 g.1)

module _ (mac : Mac) (tag : IsTag mac) where
  pub cipher_bytes : (key ad body : List ℕ) → AreBytes body → AreBytes (wrapped mac key ad body).cipher
  unfolding crypt
  cipher_bytes key ad body h = xor_are_bytes body (stream mac key ad) h (are_bytes _ (tag.bytes key _))

  pub cipher_length : (key ad body : List ℕ) → length body ≤ 32 → length (wrapped mac key ad body).cipher ≡ length body
  cipher_length key ad body h = length-crypt mac key ad body tag.width h

  pub tag_bytes : (key ad body : List ℕ) → AreBytes (wrapped mac key ad body).tag
  unfolding wrap_tag
  tag_bytes key ad body = take_bytes 16 _ (are_bytes _ (tag.bytes key _))

  pub tag_length : (key ad body : List ℕ) → length (wrapped mac key ad body).tag ≡ 16
  unfolding wrap_tag
  tag_length key ad body =
      let c = crypt mac key ad body in
      let w : length (mac key (0x54 ∷ length ad ∷ (ad ++ c))) ≡ 32 = tag.width key (0x54 ∷ length ad ∷ (ad ++ c)) in
      length-take 16 (mac key (0x54 ∷ length ad ∷ (ad ++ c))) ∙ ap (λ n. min 16 n) w

  pub kdf_length : (key part : List ℕ) → length (kdf mac key part) ≡ 16
  unfolding kdf
  kdf_length key part =
      let w : length (mac key (0x4B ∷ part)) ≡ 32 = tag.width key (0x4B ∷ part) in
      length-take 16 (mac key (0x4B ∷ part)) ∙ ap (λ n. min 16 n) w

  pub kdf_bytes : (key part : List ℕ) → AreBytes (kdf mac key part)
  unfolding kdf
  kdf_bytes key part = take_bytes 16 _ (are_bytes _ (tag.bytes key _))

-- a tag has at most 16 bytes, by any tag function
pub tag_short : (mac : Mac) (key ad cipher : List ℕ) → length (wrap_tag mac key ad cipher) ≤ 16
unfolding wrap_tag
tag_short mac key ad cipher = let e = length-take 16 (mac key (0x54 ∷ length ad ∷ (ad ++ cipher))) in omega (arith, e)
