-- How a paged memory keeps its pages in an arena. Nobody has to believe it: the contracts of
-- `PagedBus` cite Memory.antt alone.
use Rattle.std.specs.Prelude.{◌≡◌, ◌≢◌, ℕ, ◌+◌, ◌<◌, ◌≤◌, ◌/◌, ◌%◌, ◌==◌, nat_lt, true, if◌then◌else◌, List}
use Rattle.std.specs.Prelude.{length, map, get_or, Option, Some, None}
use Rattle.sx_pages.specs.Pages.{Pages, is_live, size, zeros}

-- the page of the memory under a number, none under that of the blank page
abbrev pub page_of : Pages → ℕ → ℕ → Option (List ℕ)
page_of arena blank number = if number == blank then None else get_or arena number None

-- the pages of the memory, at each index the one under the number there
abbrev pub paged : Pages → List ℕ → ℕ → Pages
paged arena numbers blank = map (page_of arena blank) numbers

-- how many blank pages there are: one, or none if no page is absent
abbrev pub spare : ℕ → ℕ
spare blank = if nat_lt blank 256 then 1 else 0

-- the first n indices have the blank page
abbrev pub AreBlank : List ℕ → ℕ → ℕ → Type 0
AreBlank starts blank n = (index : ℕ) → index < n → get_or starts index 0 ≡ blank

-- Each number is that of a live page, the blank page is zeros, no two indices have the same number
-- except that of the blank page, and no other page is live
pub record IsPaged (arena : Pages) (numbers : List ℕ) (blank : ℕ) : Type 0 where
  pub whole : length arena ≡ 256
  pub long : length numbers ≡ 256
  pub live : (index : ℕ) → index < 256 → is_live arena (get_or numbers index 0) ≡ true
  pub apart : (index other : ℕ) → index < 256 → other < 256 → get_or numbers index 0 ≢ blank
      → get_or numbers index 0 ≡ get_or numbers other 0 → index ≡ other
  pub within : blank ≤ 256
  pub zeroed : blank < 256 → get_or arena blank None ≡ Some zeros
  pub counted : size arena ≡ size (paged arena numbers blank) + spare blank

-- the number of the page that starts there; 256, which no page has, for what is no start
abbrev pub number : ℕ → ℕ
number start = (start + 255) / 256

-- the pages of the memory, at each index the one that starts there
abbrev pub kept : Pages → List ℕ → ℕ → Pages
kept arena starts blank = paged arena (map number starts) (number blank)

-- the starts are those of pages, and so is that of the blank page if there is one
pub record IsKept (arena : Pages) (starts : List ℕ) (blank : ℕ) : Type 0 where
  pub pages : IsPaged arena (map number starts) (number blank)
  pub even : (index : ℕ) → get_or starts index 0 % 256 ≡ 0
  pub small : blank < 65536
  pub start : blank ≢ 65535 → blank % 256 ≡ 0
