-- Authenticated encryption of a header `ad` and a body of at most 32 bytes each, over any tag
-- function (own).
use Rattle.std.specs.Prelude.{ℕ, ◌-◌, List, [], ◌∷◌, ◌++◌, length, take, replicate, bit_xor}
use Rattle.std.specs.Prelude.{bytes_eq, if◌then◌else◌, Option, Some, None}
use Rattle.sx_tag.specs.Mac.{Mac}

-- each byte XOR the byte of the stream beside it, up to the end of the shorter list
abbrev pub xor_bytes : List ℕ → List ℕ → List ℕ
xor_bytes [] stream = []
xor_bytes (b ∷ bytes) [] = []
xor_bytes (b ∷ bytes) (s ∷ stream) = bit_xor b s ∷ xor_bytes bytes stream

-- the stream of a header: the tag over `S`, the header's length, the header and a zero
abbrev pub stream : Mac → List ℕ → List ℕ → List ℕ
stream mac key ad = mac key (0x53 ∷ length ad ∷ (ad ++ 0 ∷ []))

-- a body as its cipher, and a cipher as its body
unfoldable pub crypt : Mac → List ℕ → List ℕ → List ℕ → List ℕ
crypt mac key ad bytes = xor_bytes bytes (stream mac key ad)

-- the tag of a cipher: 16 bytes of the tag over `T`, the header's length, the header and the cipher
unfoldable pub wrap_tag : Mac → List ℕ → List ℕ → List ℕ → List ℕ
wrap_tag mac key ad cipher = take 16 (mac key (0x54 ∷ length ad ∷ (ad ++ cipher)))

-- a header and a body, wrapped
pub record Wrapped : Type 0 where
  pub cipher : List ℕ
  pub tag : List ℕ

-- a body wrapped with its header: the cipher, and the tag of both
abbrev pub wrapped : Mac → List ℕ → List ℕ → List ℕ → Wrapped
wrapped mac key ad body =
    record { cipher = crypt mac key ad body; tag = wrap_tag mac key ad (crypt mac key ad body) }

-- a body with zeros after it up to 32 bytes
abbrev pub padded : List ℕ → List ℕ
padded body = body ++ replicate (32 - length body) 0

-- the body after a cipher, where the tag is the cipher's
unfoldable pub unwrapped : Mac → List ℕ → List ℕ → List ℕ → List ℕ → Option (List ℕ)
unwrapped mac key ad cipher tag =
    if bytes_eq tag (wrap_tag mac key ad cipher) then Some (padded (crypt mac key ad cipher)) else
    None
