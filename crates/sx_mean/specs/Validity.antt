-- When modules make an application.
use Rattle.std.specs.Prelude.{ℕ, ◌+◌, ◌-◌, if◌then◌else◌, Bool, true, false, ◌||◌, not, List, []}
use Rattle.std.specs.Prelude.{◌∷◌, Option, Some, ◌==◌, nat_lt, count_by, length}
use Rattle.std.specs.List.{list_any}
use Rattle.sx_lang.specs.declared.tree.Decl.{Decl}
use Rattle.sx_check.specs.Bounds.{is_input, is_output}
use Rattle.sx_mean.specs.declared.apps.AppDevice.{AppDevice}
use Rattle.sx_mean.specs.declared.apps.Link.{Link}
use Rattle.sx_mean.specs.Application.{PartTree, AppTree, declared_kind, is_driven, ends_from}
use Rattle.sx_mean.specs.Application.{ends_to, sends_too_much}

-- two parts drive one device
abbrev pub same_device : Option ℕ → Option ℕ → Bool
same_device (Some a) (Some b) = a == b
same_device _ _ = false

-- how many parts a node has
abbrev pub parts_at : List PartTree → ℕ → ℕ
parts_at parts node = count_by (λ q. q.node == node) parts

-- how many parts drive a device
abbrev pub parts_with : List PartTree → Option ℕ → ℕ
parts_with parts device = count_by (λ q. same_device device q.device) parts

-- the part's node is not there, or the part does not have the device that its module declares
unfoldable pub is_misplaced : AppTree → PartTree → Bool
is_misplaced a part = not (nat_lt part.node a.nodes)
    || not (is_driven a.devices part.node part.device (declared_kind part.tree.decls))

-- the part's node has more than 8 parts, or its device another part
unfoldable pub is_crowded : AppTree → PartTree → Bool
is_crowded a part =
    nat_lt 8 (parts_at a.parts part.node) || nat_lt 1 (parts_with a.parts part.device)

-- the part has more than 16 ends of connections, or makes too many packets at an event
unfoldable pub is_overloaded : AppTree → ℕ → PartTree → Bool
is_overloaded a p part =
    nat_lt 16 (ends_from a.links p + ends_to a.links p) || sends_too_much a.links p part.tree

-- the part breaks one of the rules
unfoldable pub is_wrong : AppTree → ℕ → PartTree → Bool
is_wrong a p part = is_misplaced a part || (is_crowded a part || is_overloaded a p part)

-- some part, with its place, is so
abbrev pub any_part : (ℕ → PartTree → Bool) → ℕ → List PartTree → Bool
any_part test p [] = false
any_part test p (part ∷ parts) = test p part || any_part test (p + 1) parts

-- the declaration is of an output, or of an input
abbrev pub is_port : Bool → Decl → Bool
is_port output d = if output then is_output d else is_input d

-- the number names a port of this kind, of the part of this index
abbrev pub has_port : (Decl → Bool) → List PartTree → ℕ → ℕ → Bool
has_port is_port [] p port = false
has_port is_port (part ∷ parts) p port = if p == 0 then
    nat_lt port (count_by is_port part.tree.decls) else has_port is_port parts (p - 1) port

-- a connection whose output or input is not there
unfoldable pub is_loose : AppTree → Link → Bool
is_loose a l = not (has_port (is_port true) a.parts l.from l.output)
    || not (has_port (is_port false) a.parts l.to l.input)

-- a device whose node is not there
abbrev pub is_stray : AppTree → AppDevice → Bool
is_stray a d = not (nat_lt d.node a.nodes)

-- there are more than 16 nodes, 32 devices, 32 parts or 64 connections
unfoldable pub is_too_large : AppTree → Bool
is_too_large a = nat_lt 16 a.nodes || (nat_lt 32 (length a.devices)
    || (nat_lt 32 (length a.parts) || nat_lt 64 (length a.links)))

-- The counts keep the limits; each device is at a node; each part is at a node, with its device and
-- within the limits; and each connection goes from an output to an input.
unfoldable pub is_valid : AppTree → Bool
is_valid a = not (is_too_large a || (list_any (is_stray a) a.devices
    || (any_part (is_wrong a) 0 a.parts || list_any (is_loose a) a.links)))
