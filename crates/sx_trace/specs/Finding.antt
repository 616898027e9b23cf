-- How the item of a line is found. Nobody has to believe this file: the contract of `read_item` is
-- about the lines of `Items` alone.
use Rattle.std.specs.Prelude.{ℕ, ◌+◌, ◌-◌, ◌*◌, ◌^◌, ◌==◌, ◌&&◌, nat_le, nat_lt, Bool, true}
use Rattle.std.specs.Prelude.{false, if◌then◌else◌, List, [], ◌∷◌, length, take, drop, position}
use Rattle.std.specs.Prelude.{codes, Option, Some, None}
use Rattle.std.specs.Str.{bytes_eq}
use Rattle.sx_lang.specs.declared.sides.Side.{Side}
use Rattle.sx_lang.specs.declared.sides.Side.TheVariants.{From, To}
use Rattle.sx_index.specs.Places.{place_of}
use Rattle.sx_trace.specs.Names.{NameLists, deployer}
use Rattle.sx_trace.specs.declared.items.Cause.{Cause}
use Rattle.sx_trace.specs.declared.items.Cause.TheVariants as cause
use Rattle.sx_trace.specs.declared.items.Item.{Item}
use Rattle.sx_trace.specs.declared.items.Item.TheVariants.{Reset, Protect, Sense, Read, Drain, Ask}
use Rattle.sx_trace.specs.declared.items.Item.TheVariants.{Attested, Denied, Vouch, Open, Take, Out}
use Rattle.sx_trace.specs.declared.items.Item.TheVariants.{Raw, Done, Packet, Forged, Busy, Skip}
use Rattle.sx_trace.specs.declared.items.Item.TheVariants.{Budget}

-- the first value, and what is made of it
infixl 10 ◌>>=◌
abbrev pub ◌>>=◌ : {A B : Type 0} → Option A → (A → Option B) → Option B
Some x >>= f = f x
None >>= f = None

-- the first value, or else the second
abbrev pub or_else : {A : Type 0} → Option A → Option A → Option A
or_else (Some x) o = Some x
or_else None o = o

-- the byte that ends a word
abbrev pub is_space : ℕ → Bool
is_space b = b == 32

-- what is before the first space, and what follows it; none without a space
unfoldable pub cut : List ℕ → Option (List ℕ × List ℕ)
cut text = position is_space text >>= (λ i. Some (take i text, drop (i + 1) text))

-- the number with one more digit, below a limit
abbrev pub with_digit : ℕ → ℕ → ℕ → Option ℕ
with_digit limit n b =
    if nat_le 48 b && nat_le b 57 && nat_lt (n * 10 + (b - 48)) limit then
    Some (n * 10 + (b - 48)) else None

-- the number with more digits, below a limit
abbrev pub with_digits : ℕ → ℕ → List ℕ → Option ℕ
with_digits limit n [] = Some n
with_digits limit n (b ∷ bs) = with_digit limit n b >>= (λ more. with_digits limit more bs)

-- some byte is first, and a 0 only if it is alone
abbrev pub has_first : List ℕ → Bool
has_first [] = false
has_first (b ∷ bs) = if b == 48 then length bs == 0 else true

-- the number below a limit that a text writes without leading zeros
unfoldable pub number_below : ℕ → List ℕ → Option ℕ
number_below limit text = if has_first text then with_digits limit 0 text else None

-- none where the word is the other one, else the place of the name
abbrev pub index_or_none : List ℕ → List (List ℕ) → List ℕ → Option (Option ℕ)
index_or_none other names word =
    if bytes_eq word other then Some None
    else do
      i ← place_of names word
      Some (Some i)

-- the cause that a word names
abbrev pub cause_of : List ℕ → Option Cause
cause_of word =
    if bytes_eq word (codes "order") then Some cause.Order
    else if bytes_eq word (codes "fetch") then Some cause.Fetch
    else if bytes_eq word (codes "read") then Some cause.Read
    else if bytes_eq word (codes "write") then Some cause.Write
    else if bytes_eq word (codes "device") then Some cause.Device
    else if bytes_eq word (codes "illegal") then Some cause.Illegal
    else if bytes_eq word (codes "range") then Some cause.Range
    else if bytes_eq word (codes "asked") then Some cause.Asked
    else None

-- the side that a word names
abbrev pub side_of : List ℕ → Option Side
side_of word =
    if bytes_eq word (codes "from") then Some From
    else if bytes_eq word (codes "to") then Some To
    else None

-- the item `open` with this side and this epoch, which isn't 0
abbrev pub later_open : ℕ → ℕ → List ℕ → List ℕ → Option Item
later_open m link side epoch = do
  side ← side_of side
  epoch ← number_below (2 ^ 8) epoch
  if epoch == 0 then None else Some (Open m link side epoch)

-- the item `open` of a side and an epoch
abbrev pub later_in : ℕ → ℕ → List ℕ → Option Item
later_in m link fields = cut fields >>= (λ f. later_open m link f.0 f.1)

-- the item `open` of these words after the connection: without an epoch it is 0
abbrev pub side_in : ℕ → ℕ → List ℕ → Option Item
side_in m link fields =
    or_else (side_of fields >>= (λ side. Some (Open m link side 0))) (later_in m link fields)

-- the item `open` of these words
abbrev pub open_in : NameLists → ℕ → List ℕ → Option Item
open_in n m fields = do
  first ← cut fields
  link ← place_of n.links first.0
  side_in m link first.1

-- the item `take` of these words
abbrev pub take_in : NameLists → ℕ → List ℕ → Option Item
take_in n m fields = do
  first ← cut fields
  second ← cut first.1
  link ← place_of n.links first.0
  number ← number_below (2 ^ 32) second.0
  value ← number_below (2 ^ 16) second.1
  Some (Take m link number value)

-- the item `done` of these words
abbrev pub done_in : ℕ → List ℕ → Option Item
done_in m fields = do
  both ← cut fields
  status ← number_below (2 ^ 16) both.0
  pieces ← number_below (2 ^ 16) both.1
  Some (Done m status pieces)

-- the item `packet` of these words
abbrev pub packet_in : List ℕ → Option Item
packet_in fields = do
  both ← cut fields
  number ← number_below (2 ^ 32) both.0
  len ← number_below (2 ^ 16) both.1
  Some (Packet number len)

-- an item of a module and one number
abbrev pub numbered_in : List ℕ → ℕ → List ℕ → Option Item
numbered_in kind m fields =
    if bytes_eq kind (codes "read") then number_below (2 ^ 16) fields >>=
    (λ value. Some (Read m value))
    else if bytes_eq kind (codes "out") then number_below (2 ^ 16) fields >>=
    (λ value. Some (Out m value))
    else if bytes_eq kind (codes "ask") then number_below (2 ^ 128) fields >>=
    (λ challenge. Some (Ask m challenge))
    else if bytes_eq kind (codes "vouch") then number_below (2 ^ 128) fields >>=
    (λ challenge. Some (Vouch m challenge))
    else if bytes_eq kind (codes "attested") then number_below (2 ^ 32) fields >>=
    (λ boot. Some (Attested m boot))
    else None

-- an item whose first field is a module, and not its only one
abbrev pub module_in : NameLists → List ℕ → ℕ → List ℕ → Option Item
module_in n kind m fields =
    if bytes_eq kind (codes "done") then done_in m fields
    else if bytes_eq kind (codes "take") then take_in n m fields
    else if bytes_eq kind (codes "open") then open_in n m fields
    else numbered_in kind m fields

-- an item of a device and one number
abbrev pub device_in : List ℕ → ℕ → List ℕ → Option Item
device_in kind d fields =
    if bytes_eq kind (codes "sense") then number_below (2 ^ 16) fields >>=
    (λ value. Some (Sense d value))
    else number_below (2 ^ 16) fields >>= (λ value. Some (Raw d value))

-- an item of a node and one other word
abbrev pub node_in : NameLists → List ℕ → ℕ → List ℕ → Option Item
node_in n kind node fields =
    if bytes_eq kind (codes "reset") then cause_of fields >>= (λ why. Some (Reset node why))
    else index_or_none (codes "-") n.modules fields >>= (λ m. Some (Protect node m))

-- an item of a node alone
abbrev pub refused_in : List ℕ → ℕ → Item
refused_in kind node =
    if bytes_eq kind (codes "busy") then Busy node
    else if bytes_eq kind (codes "skip") then Skip node
    else Budget node

-- a kind of item that has one name and nothing else
abbrev pub has_one_name : List ℕ → Bool
has_one_name kind =
    if bytes_eq kind (codes "busy") then true
    else if bytes_eq kind (codes "skip") then true
    else if bytes_eq kind (codes "budget") then true
    else if bytes_eq kind (codes "drain") then true
    else if bytes_eq kind (codes "denied") then true
    else bytes_eq kind (codes "forged")

-- an item of this kind and this name
abbrev pub named_in : NameLists → List ℕ → List ℕ → Option Item
named_in n kind name =
    if bytes_eq kind (codes "drain") then place_of n.devices name >>= (λ d. Some (Drain d))
    else if bytes_eq kind (codes "denied") then place_of n.modules name >>= (λ m. Some (Denied m))
    else if bytes_eq kind (codes "forged") then index_or_none deployer n.modules name >>=
    (λ m. Some (Forged m))
    else place_of n.nodes name >>= (λ node. Some (refused_in kind node))

-- a kind of item whose first field is a node, and not its only one
abbrev pub is_of_node : List ℕ → Bool
is_of_node kind =
    if bytes_eq kind (codes "reset") then true else bytes_eq kind (codes "protect")

-- a kind of item whose first field is a device, and not its only one
abbrev pub is_of_device : List ℕ → Bool
is_of_device kind =
    if bytes_eq kind (codes "sense") then true else bytes_eq kind (codes "raw")

-- an item of this kind, whose first field is this name
abbrev pub first_in : NameLists → List ℕ → List ℕ → List ℕ → Option Item
first_in n kind name fields =
    if is_of_node kind then place_of n.nodes name >>= (λ node. node_in n kind node fields)
    else if is_of_device kind then place_of n.devices name >>= (λ d. device_in kind d fields)
    else place_of n.modules name >>= (λ m. module_in n kind m fields)

-- an item of this kind and these fields
abbrev pub kind_in : NameLists → List ℕ → List ℕ → Option Item
kind_in n kind fields =
    if bytes_eq kind (codes "packet") then packet_in fields
    else if has_one_name kind then named_in n kind fields
    else cut fields >>= (λ f. first_in n kind f.0 f.1)

-- the item that has this line
unfoldable pub item_in : NameLists → List ℕ → Option Item
item_in n line = cut line >>= (λ f. kind_in n f.0 f.1)
