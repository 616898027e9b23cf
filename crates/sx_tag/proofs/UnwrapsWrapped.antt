-- What was wrapped is unwrapped: bytes that are XORed twice with one stream are as they were.
use Rattle.std.proofs.Common.{◌≡◌, ℕ, suc, ◌-◌, ◌≤◌, List, [], ◌∷◌, ◌++◌, length, drop, replicate, Some, None, bit_xor, refl, sym, ◌∙◌, ap, arith}
use Rattle.std.specs.Int.Bits.{xor_assoc, xor_self, xor_zero_r}
use Rattle.std.proofs.lemmas.Bool.{cond-true}
use Rattle.std.proofs.lemmas.List.{drop-replicate}
use Rattle.sx_tag.specs.Mac.{Mac, GivesTags}
use Rattle.sx_tag.specs.Wrap.{xor_bytes, stream, crypt, wrap_tag, padded, unwrapped}
use Rattle.sx_tag.specs.Laws.{UnwrapsWrapped}
use Rattle.lemmas.proofs.Texts.{bytes_eq-same}

xor_twice : (b s : ℕ) → bit_xor (bit_xor b s) s ≡ b
xor_twice b s = xor_assoc b s s ∙ ap (λ (n : ℕ). bit_xor b n) (xor_self s) ∙ xor_zero_r b

xor_bytes_twice : (bytes stream : List ℕ) → length bytes ≤ length stream → xor_bytes (xor_bytes bytes stream) stream ≡ bytes
xor_bytes_twice [] stream h = refl
xor_bytes_twice (b ∷ bytes) [] h = absurd (omega arith)
xor_bytes_twice (b ∷ bytes) (s ∷ stream) h =
    ap (λ (n : ℕ). n ∷ xor_bytes (xor_bytes bytes stream) stream) (xor_twice b s)
    ∙ ap (λ (rest : List ℕ). b ∷ rest) (xor_bytes_twice bytes stream (omega arith))

pub length-xor_bytes : (bytes stream : List ℕ) → length bytes ≤ length stream → length (xor_bytes bytes stream) ≡ length bytes
length-xor_bytes [] stream h = refl
length-xor_bytes (b ∷ bytes) [] h = absurd (omega arith)
length-xor_bytes (b ∷ bytes) (s ∷ stream) h = ap (λ (n : ℕ). suc n) (length-xor_bytes bytes stream (omega arith))

pub length-crypt : (mac : Mac) (key ad bytes : List ℕ) → GivesTags mac → length bytes ≤ 32 → length (crypt mac key ad bytes) ≡ length bytes
unfolding crypt
length-crypt mac key ad bytes gives h =
    length-xor_bytes bytes (stream mac key ad) (omega (arith, gives key (0x53 ∷ length ad ∷ (ad ++ 0 ∷ []))))

-- decrypted into a block of zeros
pub padded-crypt : (mac : Mac) (key ad bytes : List ℕ) → GivesTags mac → length bytes ≤ 32 →
    crypt mac key ad bytes ++ drop (length bytes) (replicate 32 0) ≡ padded (crypt mac key ad bytes)
padded-crypt mac key ad bytes gives h =
    ap (λ (rest : List ℕ). crypt mac key ad bytes ++ rest)
    (drop-replicate (length bytes) 32 0 ∙ ap (λ (n : ℕ). replicate (32 - n) 0) (sym (length-crypt mac key ad bytes gives h)))

pub crypt-crypt : (mac : Mac) (key ad body : List ℕ) → GivesTags mac → length body ≤ 32 → crypt mac key ad (crypt mac key ad body) ≡ body
unfolding crypt
crypt-crypt mac key ad body gives h =
    xor_bytes_twice body (stream mac key ad) (omega (arith, gives key (0x53 ∷ length ad ∷ (ad ++ 0 ∷ []))))

pub unwraps_wrapped : UnwrapsWrapped
unfolding unwrapped
unwraps_wrapped mac key ad body gives h =
    cond-true _ _ None (bytes_eq-same (wrap_tag mac key ad (crypt mac key ad body)))
    ∙ ap (λ (found : List ℕ). Some (padded found)) (crypt-crypt mac key ad body gives h)
