-- The deployer of a run: the keys of the setting's modules and connections, and what it makes of an
-- answer of a module.
use Rattle.std.specs.Prelude.{ℕ, ◌-◌, ◌==◌, ◌&&◌, Bool, if◌then◌else◌, List, [], ◌∷◌}
use Rattle.std.specs.Prelude.{slice_set, Option, Some, None}
use Rattle.sx_mean.specs.declared.apps.Link.{Link}
use Rattle.sx_ledger.specs.declared.entry.Maker.TheVariants as maker
use Rattle.sx_tag.specs.Keys.{module_key, identity}
use Rattle.sx_wire.specs.Headers.{set_key_header}
use Rattle.sx_model.specs.Renewal.{may_attest, renewed}
use Rattle.sx_deployer.specs.Granting as deployer
use Rattle.sx_deployer.specs.Granting.{DeployerState, Grant, is_answer, side_number}
use Rattle.spec_run.specs.Setting.{Site, Setting}
use Rattle.spec_run.specs.Ledger.{Made, made_entry}

-- the element of this index, or nothing
abbrev pub list_at : List (List ℕ) → ℕ → List ℕ
list_at [] i = []
list_at (x ∷ xs) i = if i == 0 then x else list_at xs (i - 1)

-- the key of a module at a boot of its node
abbrev pub key_of : Setting → Site → ℕ → List ℕ
key_of set site boot =
    module_key set.mac (list_at set.keys site.node) boot site.provider
    (identity site.text site.layout.pub_from site.layout.pub_to site.layout.priv_from
    site.layout.priv_to)

-- the module has an open ask, this is its answer, and it may be attested at the boot
abbrev pub accepts : Setting → Site → DeployerState → ℕ → ℕ → List ℕ → Option (List ℕ) → Option ℕ
    → Bool
accepts set site d m boot answer ask last =
    is_answer set.mac (key_of set site boot) answer ask
    && may_attest m set.app.links d.epochs last boot

-- acceptance closes the ask, and renews the connections of a module that was attested before
abbrev pub after_acceptance : List Link → DeployerState → ℕ → ℕ → Option ℕ → DeployerState
after_acceptance links d m boot last = record d {
  open_asks = slice_set d.open_asks m None;
  attested = slice_set d.attested m (Some boot);
  epochs = renewed m links last d.epochs;
}

-- the key of a connection in an epoch
abbrev pub connection_key : Setting → ℕ → ℕ → List ℕ
connection_key set link epoch = deployer.connection_key set.mac set.secret link epoch

-- the header of a grant's set-key packet
abbrev pub grant_header : Grant → List ℕ
grant_header g = set_key_header g.«end».link g.epoch (side_number g.«end».side)

-- the set-key packet of a grant
abbrev pub set_key : Setting → Site → Grant → List ℕ
set_key set site g = deployer.set_key set.mac set.secret (key_of set site g.boot) g.«end» g.epoch

-- the ledger's entry of a grant's set-key packet
abbrev pub set_key_entry : Setting → Grant → Made
set_key_entry set g = made_entry maker.Deployer g.holder g.boot (grant_header g)
    (connection_key set g.«end».link g.epoch)
