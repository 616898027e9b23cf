-- Tag functions.
use Rattle.std.specs.Prelude.{◌≡◌, ℕ, ◌+◌, ◌-◌, ◌<◌, List, ◌++◌, length, map, replicate, bit_xor}
use Rattle.std.specs.Prelude.{All}
use Rattle.sha2.specs.Sha256.{sha256}

-- a tag function gives 32 bytes for a key and a message
abbrev pub Mac : Type 0
Mac = List ℕ → List ℕ → List ℕ

-- each tag has 32 bytes
abbrev pub GivesTags : Mac → Type 0
GivesTags mac = (key message : List ℕ) → length (mac key message) ≡ 32

-- a lawful tag function: each tag has 32 bytes, each below 256
pub record IsTag (mac : Mac) : Type 0 where
  pub width : GivesTags mac
  pub bytes : (key message : List ℕ) → All (λ b. b < 256) (mac key message)

-- the key with zeros after it up to a block of SHA-256, 64 bytes; a key has at most as many
abbrev pub padded_key : List ℕ → List ℕ
padded_key key = key ++ replicate (64 - length key) 0

-- the inner padded key, K XOR ipad of RFC 2104: each byte exclusive or 0x36
abbrev pub inner_key : List ℕ → List ℕ
inner_key key = map (λ b. bit_xor b 0x36) (padded_key key)

-- the outer padded key, K XOR opad of RFC 2104: each byte exclusive or 0x5C
abbrev pub outer_key : List ℕ → List ℕ
outer_key key = map (λ b. bit_xor b 0x5C) (padded_key key)

-- HMAC-SHA-256 (RFC 2104): H(K XOR opad, H(K XOR ipad, text))
unfoldable pub hmac_sha256 : Mac
hmac_sha256 key text = sha256 (outer_key key ++ sha256 (inner_key key ++ text))
