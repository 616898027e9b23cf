-- A module's ends in memory, where a connection's number is a byte.
use Rattle.std.specs.Prelude.{◌≡◌, ℕ, ◌+◌, ◌≤◌, List, [], ◌∷◌, length, map}
use Rattle.std.specs.List.{cons_option}
use Rattle.sx_mean.specs.declared.apps.Link.{Link}
use Rattle.sx_mean.specs.declared.events.End.{End}
use Rattle.sx_mean.specs.Application.{AppTree}
use Rattle.sx_mean.specs.Ends.{ends_of, receiving, sending}
use Rattle.sx_deploy.specs.Ties.{byte}

-- the end in memory: its connection's number fits where there are at most 256 connections
abbrev pub end_as : End → End
end_as e = record { link = byte e.link; side = e.side; port = e.port }

-- these are the ends of the p-th part, and where there are at most 256 connections, with their own
-- numbers
pub record AreHeld (app : AppTree) (p : ℕ) (ends : List End) : Type 0 where
  pub all : ends ≡ map end_as (ends_of app p)
  pub few : length app.links ≤ 256 → ends ≡ ends_of app p

-- The form that the loop computes. Nobody has to believe it.

-- the ends that a module holds of the connections from the n-th on
abbrev pub ends_after : ℕ → ℕ → List Link → List End
ends_after n module_place [] = []
ends_after n module_place (l ∷ ls) = cons_option (sending (byte n) module_place l)
    (cons_option (receiving (byte n) module_place l) (ends_after (n + 1) module_place ls))

-- the ends that a module holds, in connection order, a sending end before a receiving one
abbrev pub ends_held : List Link → ℕ → List End
ends_held links module_place = ends_after 0 module_place links
