-- What holds of each valid application, of each device, part and connection alone.
use Rattle.std.specs.Prelude.{◌≡◌, ℕ, ◌+◌, ◌<◌, ◌≤◌, true, false, All, length, Some, slice_get}
use Rattle.sx_mean.specs.declared.apps.Link.{Link}
use Rattle.sx_mean.specs.Application.{AppTree, PartTree, declared_kind, ends_from, ends_to}
use Rattle.sx_mean.specs.Application.{is_driven}
use Rattle.sx_mean.specs.Validity.{has_port, is_port, is_valid, parts_at, parts_with}
use Rattle.sx_mean.specs.Application.{sends_too_much}

-- The p-th part is at a node of the application with at most 8 parts; it has a device exactly where
-- its module declares one, at its node, of that kind and of no other part; and it has neither too
-- many ends nor sends too much.
pub record IsPlaced (app : AppTree) (p : ℕ) (q : PartTree) : Type 0 where
  pub node : q.node < app.nodes
  pub driven : is_driven app.devices q.node q.device (declared_kind q.tree.decls) ≡ true
  pub few_beside : parts_at app.parts q.node ≤ 8
  pub one_driver : parts_with app.parts q.device ≤ 1
  pub ends : ends_from app.links p + ends_to app.links p ≤ 16
  pub packets : sends_too_much app.links p q.tree ≡ false

-- a connection goes from an output of a part to an input of a part
pub record IsTied (app : AppTree) (l : Link) : Type 0 where
  pub output : has_port (is_port true) app.parts l.from l.output ≡ true
  pub input : has_port (is_port false) app.parts l.to l.input ≡ true

-- what the limits and rules of a valid application say, clause by clause
pub record IsApplication (app : AppTree) : Type 0 where
  pub few_nodes : app.nodes ≤ 16
  pub few_devices : length app.devices ≤ 32
  pub few_parts : length app.parts ≤ 32
  pub few_links : length app.links ≤ 64
  pub devices : All (λ d. d.node < app.nodes) app.devices
  pub parts : (p : ℕ) (q : PartTree) → slice_get app.parts p ≡ Some q → IsPlaced app p q
  pub links : All (IsTied app) app.links

-- what passes the test `is_valid` is a valid application
abbrev pub ValidApplications : Type 0
ValidApplications = (app : AppTree) → is_valid app ≡ true → IsApplication app
