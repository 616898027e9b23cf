-- The bytes of a header where the connection, the epoch and the end are bytes.
use Rattle.std.proofs.Common.{◌≡◌, ℕ, ◌+◌, ◌*◌, ◌/◌, ◌%◌, ◌<◌, List, [], ◌∷◌, ap, ◌∙◌, arith}
use Rattle.byteorder.specs.Endian.{little_bytes}
use Rattle.sx_wire.specs.Headers.{header, set_key_header}

pub field_low : (link epoch : ℕ) → link < 256 → (link + 256 * epoch) % 256 ≡ link
field_low link epoch h = omega arith

field_high : (link epoch : ℕ) → link < 256 → epoch < 256 → (link + 256 * epoch) / 256 % 256 ≡ epoch
field_high link epoch h g = omega arith

field_bytes : (link epoch : ℕ) → link < 256 → epoch < 256 → little_bytes 2 (link + 256 * epoch) ≡ link ∷ epoch ∷ []
field_bytes link epoch h g =
    ap (λ x. x ∷ (link + 256 * epoch) / 256 % 256 ∷ []) (field_low link epoch h) ∙ ap (λ x. link ∷ x ∷ []) (field_high link epoch h g)

byte_word : (b : ℕ) → b < 256 → little_bytes 2 b ≡ b ∷ 0 ∷ []
byte_word b h =
    let low : b % 256 ≡ b = omega arith in
    let high : b / 256 % 256 ≡ 0 = omega arith in
    ap (λ x. x ∷ b / 256 % 256 ∷ []) low ∙ ap (λ x. b ∷ x ∷ []) high

pub set_key_header_bytes : (link epoch «end» : ℕ) → link < 256 → epoch < 256 → «end» < 256
    → header 1 (little_bytes 2 (link + 256 * epoch)) (little_bytes 2 «end») ≡ set_key_header link epoch «end»
set_key_header_bytes link epoch «end» h g e =
    ap (λ (s : List ℕ). header 1 s (little_bytes 2 «end»)) (field_bytes link epoch h g) ∙ ap (λ (s : List ℕ). header 1 (link ∷ epoch ∷ []) s) (byte_word «end» e)
