-- A memory by its 256 pages, each of which is present or absent. An absent page reads as zeros.
--     joined      its 65,536 bytes
--     after_put      the pages after a byte was written
--     IsMemory      how many pages there are, and of how many bytes
-- A page of the memory is named by its index: the page at the index i has the addresses 256 i to
-- 256 i + 255.
use Rattle.std.specs.Prelude.{◌≡◌, ℕ, ◌/◌, ◌%◌, List, [], ◌∷◌, ◌++◌, length, get_or, set, All}
use Rattle.std.specs.Prelude.{Option, Some, None}
use Rattle.sx_pages.specs.Pages.{Pages, zeros}

-- the bytes of a page: zeros where it is absent
abbrev pub page_bytes : Option (List ℕ) → List ℕ
page_bytes None = zeros
page_bytes (Some bytes) = bytes

-- the bytes of the pages, one after the other
abbrev pub joined : Pages → List ℕ
joined [] = []
joined (page ∷ pages) = page_bytes page ++ joined pages

-- 256 pages of 256 bytes
pub record IsMemory (pages : Pages) : Type 0 where
  pub count : length pages ≡ 256
  pub even : All (λ page. length (page_bytes page) ≡ 256) pages

-- the byte at an address
abbrev pub byte_at : Pages → ℕ → ℕ
byte_at pages address = get_or (page_bytes (get_or pages (address / 256) None)) (address % 256) 0

-- the pages after a byte was written, in a page that is made where it was absent
abbrev pub after_put : Pages → ℕ → ℕ → Pages
after_put pages address byte =
    set pages (address / 256) (Some (set (page_bytes (get_or pages (address / 256) None))
    (address % 256) byte))
