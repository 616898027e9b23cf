-- Tag functions that are lawful where they make tags.
use Rattle.std.proofs.Common.{◌≡◌, ℕ, ◌≤◌, ◌==◌, Bool, true, false, cond, if◌then◌else◌, List, [], ◌∷◌, length, refl, sym, ◌∙◌, arith}
use Rattle.std.proofs.lemmas.Bool.{true≢false, eq-eqb}
use Rattle.sx_tag.specs.Mac.{Mac, IsTag}
use Rattle.sx_tag.specs.Wrap.{crypt}
use Rattle.sx_tag.proofs.UnwrapsWrapped.{crypt-crypt}
use Rattle.spec_run.specs.Law.{IsTagBytes, IsTagUnder}

-- one that is lawful under every key is
pub tag_under : (secret : List ℕ) (mac : Mac) → IsTag mac → IsTagUnder secret mac
tag_under secret mac tag = record {
  tags = λ key kind rest ne. (tag.width key (kind ∷ rest), tag.bytes key (kind ∷ rest));
  derived = λ rest. (tag.width secret (0x4B ∷ rest), tag.bytes secret (0x4B ∷ rest));
}

-- the tag function with other tags for what is no tag
abbrev pub lawful : Mac → Mac
lawful mac key [] = mac key (0x53 ∷ [])
lawful mac key (kind ∷ rest) = mac key ((if kind == 0x4B then 0x53 else kind) ∷ rest)

-- it is lawful under every key
pub is_lawful : (secret : List ℕ) (mac : Mac) → IsTagUnder secret mac → IsTag (lawful mac)
is_lawful secret mac tag = record { width = λ key message. (is key message).0; bytes = λ key message. (is key message).1 }
  where
    stream : (key rest : List ℕ) → IsTagBytes (mac key (0x53 ∷ rest))
    stream key rest = tag.tags key 0x53 rest (λ e. absurd (omega (arith, e)))

    of : (key : List ℕ) (kind : ℕ) (rest : List ℕ) (b : Bool) → (kind == 0x4B) ≡ b → IsTagBytes (mac key (cond b 0x53 kind ∷ rest))
    of key kind rest true e = stream key rest
    of key kind rest false e = tag.tags key kind rest (λ k. true≢false (sym (eq-eqb kind 0x4B k) ∙ e))

    is : (key message : List ℕ) → IsTagBytes (lawful mac key message)
    is key [] = stream key []
    is key (kind ∷ rest) = of key kind rest (kind == 0x4B) refl

-- its streams are those of the tag function, so what is encrypted twice is as it was
pub crypt_twice : (secret : List ℕ) (mac : Mac) (key ad body : List ℕ) → IsTagUnder secret mac → length body ≤ 32 → crypt mac key ad (crypt mac key ad body) ≡ body
unfolding crypt
crypt_twice secret mac key ad body tag few = crypt-crypt (lawful mac) key ad body (is_lawful secret mac tag).width few
