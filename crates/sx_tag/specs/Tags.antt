-- Each tag function here is lawful. Nobody has to believe these proofs: they are in specs/, since
-- what an impl of `Tag` says of its function is a specification.
use Rattle.std.proofs.Common.{◌≡◌, ℕ, zero, suc, ◌+◌, ◌%◌, ◌/◌, ◌^◌, ◌<◌, List, ◌++◌, length, sum}
use Rattle.std.proofs.Common.{lit<}
use Rattle.std.specs.Prelude.{All, slice_index}
use Rattle.std.specs.Int.{to_be_bytes, w32, byte_at, bytes_high_first}
use Rattle.std.proofs.lemmas.Nat.{mod_below}
use Rattle.std.proofs.lemmas.List.{length-replicate}
use Rattle.std.proofs.lemmas.List.Elements.{All-nil, All-cons, All-append, All-replicate}
use Rattle.sha2.specs.Sha256.{sha256, digest_bytes, final_hash, initial_hash_256}
use Rattle.sha2.proofs.Facts256.{length-sha256}
use Rattle.sx_tag.specs.Mac.{IsTag, hmac_sha256, inner_key, outer_key}
use Rattle.sx_tag.specs.Weak.{weak}

byte_at-byte : (i n : ℕ) → byte_at i n < 256
byte_at-byte zero n = mod_below n 256 (lit< tt)
byte_at-byte (suc i) n = mod_below (n / 256 ^ suc i) 256 (lit< tt)

bytes_high_first-bytes : (k n : ℕ) → All (λ b. b < 256) (bytes_high_first k n)
bytes_high_first-bytes zero n = All-nil (λ b. b < 256)
bytes_high_first-bytes (suc k) n = All-cons (λ b. b < 256) (byte_at k n) (bytes_high_first k n)
    (byte_at-byte k n) (bytes_high_first-bytes k n)

digest_bytes-bytes : (h : List ℕ) (n : ℕ) → All (λ b. b < 256) (digest_bytes h n)
unfolding digest_bytes
digest_bytes-bytes h zero = All-nil (λ b. b < 256)
digest_bytes-bytes h (suc n) = All-append (λ b. b < 256) (digest_bytes h n)
    (to_be_bytes w32 (slice_index h n)) (digest_bytes-bytes h n)
    (bytes_high_first-bytes 4 (slice_index h n))

sha256-bytes : (m : List ℕ) → All (λ b. b < 256) (sha256 m)
unfolding sha256
sha256-bytes m = digest_bytes-bytes (final_hash initial_hash_256 m) 8

hmac_sha256-width : (key message : List ℕ) → length (hmac_sha256 key message) ≡ 32
unfolding hmac_sha256
hmac_sha256-width key message = length-sha256 (outer_key key ++ sha256 (inner_key key ++ message))

hmac_sha256-bytes : (key message : List ℕ) → All (λ b. b < 256) (hmac_sha256 key message)
unfolding hmac_sha256
hmac_sha256-bytes key message = sha256-bytes (outer_key key ++ sha256 (inner_key key ++ message))

weak-width : (key message : List ℕ) → length (weak key message) ≡ 32
unfolding weak
weak-width key message = length-replicate 32 ((sum key + sum message) % 256)

weak-bytes : (key message : List ℕ) → All (λ b. b < 256) (weak key message)
unfolding weak
weak-bytes key message = All-replicate (λ b. b < 256) 32
    ((sum key + sum message) % 256) (mod_below (sum key + sum message) 256 (lit< tt))

-- HMAC-SHA-256 is a tag
pub hmac_sha256-is_tag : IsTag hmac_sha256
hmac_sha256-is_tag = record { width = hmac_sha256-width; bytes = hmac_sha256-bytes }

-- the tag for tests is a tag
pub weak-is_tag : IsTag weak
weak-is_tag = record { width = weak-width; bytes = weak-bytes }
