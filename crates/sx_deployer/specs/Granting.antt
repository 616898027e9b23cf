-- The deployer of an application: what it knows, how it asks and takes an answer, and the keys that
-- it then gives for the module's ends and, where it renews them, for the other ends of its
-- connections.
use Rattle.std.specs.Prelude.{ℕ, ◌+◌, ◌*◌, ◌==◌, Bool, false, if◌then◌else◌, List, [], ◌∷◌, ◌++◌}
use Rattle.std.specs.Prelude.{slice_get, slice_set, slice_index, Option, Some, None, bytes_eq}
use Rattle.byteorder.specs.Endian.{little_bytes}
use Rattle.sx_lang.specs.declared.sides.Side.{Side}
use Rattle.sx_lang.specs.declared.sides.Side.TheVariants.{From, To}
use Rattle.sx_mean.specs.declared.apps.Link.{Link}
use Rattle.sx_mean.specs.declared.events.End.{End}
use Rattle.sx_mean.specs.Application.{AppTree}
use Rattle.sx_mean.specs.Ends.{ends_of}
use Rattle.sx_tag.specs.Mac.{Mac}
use Rattle.sx_tag.specs.Keys.{kdf}
use Rattle.sx_tag.specs.Wrap.{wrapped}
use Rattle.sx_wire.specs.Headers.{ask_packet, set_key_header}

-- the number of asks; of each module its open ask and the boot at which it was last attested; and
-- the connections' epochs
pub record DeployerState : Type 0 where
  pub asks : ℕ
  pub open_asks : List (Option (List ℕ))
  pub attested : List (Option ℕ)
  pub epochs : List ℕ

-- the module is asked
abbrev pub after_ask : DeployerState → ℕ → DeployerState
after_ask d m =
    record d { asks = d.asks + 1; open_asks = slice_set d.open_asks m (Some (ask_packet d.asks)) }

-- these bytes are the tag that answers the open ask, if there is one, under a module's key
abbrev pub is_answer : Mac → List ℕ → List ℕ → Option (List ℕ) → Bool
is_answer mac key answer None = false
is_answer mac key answer (Some ask) = bytes_eq answer (wrapped mac key ask []).tag

-- a side as a set-key packet has it
abbrev pub side_number : Side → ℕ
side_number From = 0
side_number To = 1

-- the key of a connection in an epoch
abbrev pub connection_key : Mac → List ℕ → ℕ → ℕ → List ℕ
connection_key mac secret link epoch = kdf mac secret (little_bytes 2 (link + 256 * epoch))

-- the set-key packet for an end of the module with this key, in an epoch
abbrev pub set_key : Mac → List ℕ → List ℕ → End → ℕ → List ℕ
set_key mac secret key e epoch =
    let header = set_key_header e.link epoch (side_number e.side) in
    let w = wrapped mac key header (connection_key mac secret e.link epoch) in
    header ++ w.cipher ++ w.tag

-- what a set-key packet is for: an end of a module at a boot, and the epoch
pub record Grant : Type 0 where
  pub holder : ℕ
  pub boot : ℕ
  pub «end» : End
  pub epoch : ℕ

-- the grant for an end of a module, in the present epoch of its connection
abbrev pub grant : List ℕ → ℕ → ℕ → End → Grant
grant epochs m boot e =
    record { holder = m; boot = boot; «end» = e; epoch = slice_index epochs e.link }

-- the grants for the ends that a module holds
abbrev pub grants_of : List ℕ → ℕ → ℕ → List End → List Grant
grants_of epochs m boot [] = []
grants_of epochs m boot (e ∷ es) = grant epochs m boot e ∷ grants_of epochs m boot es

-- for an end of a module, where that was attested
abbrev pub grant_to : List ℕ → ℕ → Option (Option ℕ) → End → List Grant
grant_to epochs k None e = []
grant_to epochs k (Some None) e = []
grant_to epochs k (Some (Some boot)) e = grant epochs k boot e ∷ []

-- for the other end of the n-th connection, where that is in another module that was attested
abbrev pub grant_beyond : DeployerState → ℕ → ℕ → Link → List Grant
grant_beyond d m n l =
    if l.from == l.to then []
    else if l.from == m then grant_to d.epochs l.to (slice_get d.attested l.to)
    (record { link = n; side = To; port = l.input })
    else if l.to == m then grant_to d.epochs l.from (slice_get d.attested l.from)
    (record { link = n; side = From; port = l.output })
    else []

-- the grants for the other ends of the module's connections, from the n-th connection on
abbrev pub grants_beyond : DeployerState → ℕ → ℕ → List Link → List Grant
grants_beyond d m n [] = []
grants_beyond d m n (l ∷ ls) = grant_beyond d m n l ++ grants_beyond d m (n + 1) ls

-- the set-key packets that follow an answer: those of the module's ends, and where it was attested
-- before those of the ends beyond
abbrev pub grants_after : AppTree → DeployerState → ℕ → ℕ → Option ℕ → List Grant
grants_after app d m boot None = grants_of d.epochs m boot (ends_of app m)
grants_after app d m boot (Some last) =
    grants_of d.epochs m boot (ends_of app m) ++ grants_beyond d m 0 app.links
