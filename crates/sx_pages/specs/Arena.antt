-- How an arena keeps its pages in the block. Nobody has to believe it: the contracts of `Arena`
-- cite Pages.antt alone.
use Rattle.std.specs.Prelude.{◌≡◌, ℕ, zero, suc, ◌+◌, ◌<◌, Bool, true, false, List, [], ◌∷◌, length}
use Rattle.std.specs.Prelude.{get_or, set, map, replicate, All, Option, Some, None}
use Rattle.sx_pages.specs.Ownership.{Slot}
use Rattle.sx_pages.specs.Pages.{Pages}

-- the byte in a slot, 0 where it is empty
abbrev pub byte_in : Slot → ℕ
byte_in None = 0
byte_in (Some byte) = byte

-- what a page holds, if it is marked as live
abbrev pub page_of : Bool → List Slot → Option (List ℕ)
page_of false slots = None
page_of true slots = Some (map byte_in slots)

-- what the pages hold that are marked as live
abbrev pub pages_of : List Bool → List (List Slot) → Pages
pages_of [] pages = []
pages_of (live ∷ lives) [] = page_of live [] ∷ pages_of lives []
pages_of (live ∷ lives) (page ∷ pages) = page_of live page ∷ pages_of lives pages

-- a byte is in the slot
abbrev pub HasByte : Slot → Type 0
HasByte slot = (byte : ℕ) × (slot ≡ Some byte)

-- one slot of a page
abbrev pub slot_of : List (List Slot) → ℕ → ℕ → Slot
slot_of pages page at = get_or (get_or pages page []) at None

-- the block after a byte was written
abbrev pub with_slot : List (List Slot) → ℕ → ℕ → ℕ → List (List Slot)
with_slot pages page at byte = set pages page (set (get_or pages page []) at (Some byte))

-- the first slot of a page, which links a free one to the next
abbrev pub first : List (List Slot) → ℕ → Slot
first pages page = slot_of pages page 0

-- From a page on, this many free ones are linked. Each is marked as it is passed, so none comes
-- twice
abbrev pub IsChain : List Bool → List (List Slot) → ℕ → ℕ → Type 0
IsChain lives pages page zero = Unit {0}
IsChain lives pages page (suc n) =
    (page < 256) × (get_or lives page false ≡ false) × (next : ℕ) × (next < 256)
    × (first pages page ≡ Some next) × IsChain (set lives page true) pages next n

-- how many are marked
abbrev pub count : List Bool → ℕ
count [] = 0
count (false ∷ lives) = count lives
count (true ∷ lives) = suc (count lives)

-- each live page is written, all others hold a link, and as many as are free form a chain
pub record IsArena (lives : List Bool) (pages : List (List Slot)) (head free : ℕ) : Type 0 where
  pub flags : length lives ≡ 256
  pub begins : head < 256
  pub full : (page : ℕ) → page < 256 → get_or lives page false ≡ true
      → All HasByte (get_or pages page [])
  pub links : (page : ℕ) → page < 256 → get_or lives page false ≡ false → HasByte (first pages page)
  pub chained : IsChain lives pages head free
  pub counted : free + count lives ≡ 256

-- a page of zeros
unfoldable pub zeroed : List Slot
zeroed = replicate 256 (Some 0)

-- each page is linked to the next
abbrev pub AllLinked : List (List Slot) → ℕ → Type 0
AllLinked pages n = (page : ℕ) → page < n → (next : ℕ) × (next < 256)
    × (first pages page ≡ Some next) × (page < 255 → next ≡ page + 1)

-- what a copy reads is written: the live pages whole, and the links of the others
abbrev pub CanCopy : List Bool → List (List Slot) → Type 0
CanCopy lives pages = (page : ℕ) → page < 256
    → (get_or lives page false ≡ true → All HasByte (get_or pages page []))
    × (get_or lives page false ≡ false → HasByte (first pages page))

-- the live pages among the first n are copied whole, and the links of the others
abbrev pub AreCopied : List Bool → List (List Slot) → List (List Slot) → ℕ → Type 0
AreCopied lives from to n = (page : ℕ) → page < n
    → (get_or lives page false ≡ true → get_or to page [] ≡ get_or from page [])
    × (get_or lives page false ≡ false → first to page ≡ first from page)
