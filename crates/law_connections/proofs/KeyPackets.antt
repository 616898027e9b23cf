-- A set-key packet that opens to the one connection key opens to the other.
use Rattle.std.proofs.Common.{◌≡◌, ℕ, zero, suc, ◌+◌, ◌-◌, ◌≤◌, List, [], ◌∷◌, length, drop, sym, ◌∙◌, length-take-le, arith}
use Rattle.std.specs.Prelude.{replicate}
use Rattle.sx_tag.specs.Mac.{Mac}
use Rattle.sx_tag.specs.Wrap.{crypt}
use Rattle.spec_run.specs.Law.{IsTagUnder}
use Rattle.law_forgery.proofs.Accepting.{crypt_long}
use Rattle.spec_invocation.specs.Protocol.{set_key_size, header_size, key_size}
use Rattle.spec_invocation.specs.Entries.{header_in}
use Rattle.law_invocation.proofs.Wraps.{take_first}
use Rattle.law_connections.proofs.Pads.{pads_tell}
use Rattle.law_connections.proofs.Twice.{key_cipher, key_in}

drop_long : (n m : ℕ) (xs : List ℕ) → n + m ≤ length xs → m ≤ length (drop n xs)
drop_long zero m xs h = omega (arith, h)
drop_long (suc n) m [] h = omega (arith, h)
drop_long (suc n) m (x ∷ xs) h = drop_long n m xs (omega (arith, h))

-- the cipher of a set-key packet is as long as a key
pub cipher_length : (packet : List ℕ) → length packet ≡ set_key_size → length (key_cipher packet) ≡ 16
cipher_length packet e = length-take-le key_size (drop header_size packet) (drop_long header_size key_size packet (omega (arith, e)))

-- where set-key packets are the same, the second node opens to its key what the first opens to its
pub key_tells : (mac nac : Mac) (one two k l packet a b : List ℕ) → IsTagUnder one mac → IsTagUnder two nac → length packet ≡ set_key_size → length a ≡ 16 → length b ≡ 16
    → crypt mac k (header_in packet) a ≡ crypt nac l (header_in packet) b → key_in mac k packet ≡ a → key_in nac l packet ≡ b
key_tells mac nac one two k l packet a b gives givet whole la lb same opens =
    let ad = header_in packet in
    let size = cipher_length packet whole in
    let c = key_cipher packet in
    let zeros : ℕ → List ℕ = λ n. replicate n 0 in
    let first : crypt mac k ad c ≡ a = sym (take_first 16 (crypt mac k ad c) (zeros (32 - length (crypt mac k ad c))) (crypt_long one mac k ad c gives (omega (arith, size)) ∙ size)) ∙ opens in
    let second : crypt nac l ad c ≡ b = pads_tell mac nac one two gives givet k l ad a b c (omega (arith, la)) (omega (arith, lb)) (omega (arith, size)) same first in
    take_first 16 (crypt nac l ad c) (zeros (32 - length (crypt nac l ad c))) (crypt_long two nac l ad c givet (omega (arith, size)) ∙ size) ∙ second
