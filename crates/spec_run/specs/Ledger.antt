-- Who made which header and body. An entry is there exactly where it was made.
use Rattle.std.specs.Prelude.{ℕ, ◌==◌, ◌&&◌, Bool, true, false, List, take, bytes_eq}
use Rattle.std.specs.List.{list_any}
use Rattle.sx_ledger.specs.declared.entry.Maker.{Maker}
use Rattle.sx_ledger.specs.declared.entry.Maker.TheVariants.{Deployer, Module}
use Rattle.spec_machine.specs.declared.kinds.Exchange.{Exchange}
pub use Rattle.sx_ledger.specs.Made.{Made, NO_TARGET}

-- an entry with these parts
abbrev pub made_entry : Maker → ℕ → ℕ → List ℕ → List ℕ → Made
made_entry maker target boot header body =
    record { maker = maker; target = target; boot = boot; header = header; body = body }

-- the makers are the same
abbrev pub same_maker : Maker → Maker → Bool
same_maker Deployer Deployer = true
same_maker (Module m) (Module k) = m == k
same_maker _ _ = false

-- the entries are the same
abbrev pub same_entry : Made → Made → Bool
same_entry a b =
    same_maker a.maker b.maker && ((a.target == b.target)
    && ((a.boot == b.boot) && (bytes_eq a.header b.header && bytes_eq a.body b.body)))

-- whether the entry was made
abbrev pub is_made : List Made → Made → Bool
is_made ledger e = list_any (same_entry e) ledger

-- the header of an exchange
abbrev pub header_of : Exchange → List ℕ
header_of x = take x.ad_len x.ad

-- the body of an exchange
abbrev pub body_of : Exchange → List ℕ
body_of x = take x.body_len x.body
