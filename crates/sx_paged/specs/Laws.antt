-- What holds of every paged memory.
use Rattle.std.specs.Prelude.{◌≡◌, ℕ, ◌+◌, ◌/◌, ◌<◌, true, false}
use Rattle.sx_pages.specs.Pages.{Pages, is_live, size}
use Rattle.sx_paged.specs.Memory.{IsMemory, after_put}

-- a write makes a page where the address had none, and else no page
abbrev pub PresentGrows : Type 0
PresentGrows = (pages : Pages) (address byte : ℕ) → IsMemory pages → address < 65536
    → (is_live pages (address / 256) ≡ true → size (after_put pages address byte) ≡ size pages)
    × (is_live pages (address / 256) ≡ false → size (after_put pages address byte) ≡ size pages + 1)
