-- The pages of a block are 256 of 256 slots, at the start and after a write.
use Rattle.std.proofs.Common.{◌≡◌, ℕ, ◌+◌, ◌*◌, ◌/◌, ◌%◌, ◌<◌, List, [], ◌∷◌, length, get_or, set, map, ◌∙◌, refl, arith, length-set, Some, None, ◌⊎◌, inl, inr}
use Rattle.std.proofs.lemmas.List.{length-replicate}
use Rattle.std.proofs.lemmas.List.Elements.{All-get_or, All-set, All-replicate, All-head, All-tail}
use Rattle.std.specs.Prelude.{All}
use Rattle.sx_pages.specs.Arena.{HasByte, byte_in, slot_of, with_slot}
use Rattle.sx_pages.specs.Ownership.{Slot, IsArenaBlock, unwritten_page, unwritten}

pub length-unwritten_page : length unwritten_page ≡ 256
unfolding unwritten_page
length-unwritten_page = length-replicate {A = Slot} 256 None

pub IsArenaBlock-unwritten : IsArenaBlock (unwritten 256)
unfolding unwritten
IsArenaBlock-unwritten = (length-replicate 256 unwritten_page, All-replicate (λ page. length page ≡ 256) 256 unwritten_page length-unwritten_page)

pub length-page : (pages : List (List Slot)) (p : ℕ) → p < 256 → IsArenaBlock pages → length (get_or pages p []) ≡ 256
length-page pages p h is = All-get_or (λ page. length page ≡ 256) pages p [] (omega (arith, is.0)) is.1

pub IsArenaBlock-set : (pages : List (List Slot)) (p at byte : ℕ) → p < 256 → IsArenaBlock pages
    → IsArenaBlock (set pages p (set (get_or pages p []) at (Some byte)))
IsArenaBlock-set pages p at byte h is =
    (length-set pages p _ ∙ is.0, All-set (λ page. length page ≡ 256) pages p _ (length-set (get_or pages p []) at (Some byte) ∙ length-page pages p h is) is.1)

-- a slot by how many are before it
pub slot-at : (pages : List (List Slot)) (p at : ℕ) → at < 256 → slot_of pages ((p * 256 + at) / 256) ((p * 256 + at) % 256) ≡ slot_of pages p at
slot-at pages p at h =
    let page : (p * 256 + at) / 256 ≡ p = omega (arith, h) in let index : (p * 256 + at) % 256 ≡ at = omega (arith, h) in
    λ j. slot_of pages (page j) (index j)

pub with-slot-at : (pages : List (List Slot)) (p at byte : ℕ) → at < 256
    → with_slot pages ((p * 256 + at) / 256) ((p * 256 + at) % 256) byte ≡ with_slot pages p at byte
with-slot-at pages p at byte h =
    let page : (p * 256 + at) / 256 ≡ p = omega (arith, h) in let index : (p * 256 + at) % 256 ≡ at = omega (arith, h) in
    λ j. with_slot pages (page j) (index j) byte

some_byte : (slot : Slot) → HasByte slot → slot ≡ Some (byte_in slot)
some_byte (Some byte) h = refl
some_byte None h = let no = h.1 in cc

-- slots that were all written hold their bytes
pub bytes_there : (slots : List Slot) → All HasByte slots → slots ≡ map Some (map byte_in slots)
bytes_there [] all = refl
bytes_there (s ∷ slots) all =
    (λ j. some_byte s (All-head HasByte s slots all) j ∷ bytes_there slots (All-tail HasByte s slots all) j)

-- by cases
pub choose : {A B X : Type 0} → A ⊎ B → (A → X) → (B → X) → X
choose (inl a) f g = f a
choose (inr b) f g = g b
