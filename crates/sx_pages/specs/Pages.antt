-- The pages of an arena: a finite map from their numbers to what they hold.
--     Pages, no_pages      the map, as a list with an entry for each number
--     is_live, held, size      its domain, its values, and how many there are
--     with_byte      the pages after a byte was written
--     Takes      what a page that is taken has to be
use Rattle.std.specs.Prelude.{◌≡◌, ℕ, suc, ◌<◌, Bool, true, false, List, [], ◌∷◌, get_or, set}
use Rattle.std.specs.Prelude.{replicate, Option, Some, None}

-- for each number what the page holds, if it is live
abbrev pub Pages : Type 0
Pages = List (Option (List ℕ))

-- no page is live
unfoldable pub no_pages : Pages
no_pages = replicate 256 None

-- what a page of zeros holds
unfoldable pub zeros : List ℕ
zeros = replicate 256 0

-- whether an entry of the list is a page
abbrev pub is_page : Option (List ℕ) → Bool
is_page None = false
is_page (Some bytes) = true

-- the bytes of an entry; none where it isn't a page
abbrev pub bytes_of : Option (List ℕ) → List ℕ
bytes_of None = []
bytes_of (Some bytes) = bytes

-- whether the page with this number is live
abbrev pub is_live : Pages → ℕ → Bool
is_live pages page = is_page (get_or pages page None)

-- what a live page holds
abbrev pub held : Pages → ℕ → List ℕ
held pages page = bytes_of (get_or pages page None)

-- how many pages are live
abbrev pub size : Pages → ℕ
size [] = 0
size (None ∷ pages) = size pages
size (Some bytes ∷ pages) = suc (size pages)

-- the pages after a byte of a live one was written
abbrev pub with_byte : Pages → ℕ → ℕ → ℕ → Pages
with_byte pages page at byte = set pages page (Some (set (held pages page) at byte))

-- a page that was free becomes live and is all zeros; none is taken exactly where all 256 are live
abbrev pub TakesPage : Pages → Option ℕ → Pages → Type 0
TakesPage old (Some page) new =
    (page < 256) × (size old < 256) × (is_live old page ≡ false) × (new ≡ set old page (Some zeros))
TakesPage old None new = (size old ≡ 256) × (new ≡ old)
