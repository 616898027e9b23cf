-- The lighting application: a light sensor, a module that compares, and a lamp. Nobody has to
-- believe this file.
use Rattle.std.specs.Prelude.{[], ◌∷◌, codes, Some, None}
use Rattle.sx_lang.specs.declared.tree.DeviceKind.TheVariants.{Sensor, Actuator}
use Rattle.sx_lang.specs.declared.tree.Decl.TheVariants as decl
use Rattle.sx_lang.specs.declared.tree.BinOp.TheVariants.{Gt}
use Rattle.sx_lang.specs.Tree.{Variable, Constant, Combined, Chooses, Sends, Emits, Done, Then}
use Rattle.sx_lang.specs.Tree.{ModuleTree}
use Rattle.sx_mean.specs.Application.{AppTree}

-- sensor; output level; sample(v) { send level(v); }
abbrev pub eye : ModuleTree
eye = record {
  decls = decl.Device Sensor ∷ decl.Output (codes "level") ∷ [];
  handlers = record {
    input = None;
    param = codes "v";
    body =
        Then (Sends (codes "level") (Variable (codes "v"))) Done;
  } ∷ [];
}

-- input level; output bright; var limit = 100; on level(v) { if v > limit { send bright(1); } else
-- { send bright(0); } }
abbrev pub logic : ModuleTree
logic = record {
  decls =
      decl.Input (codes "level") ∷ decl.Output (codes "bright") ∷ decl.Var (codes "limit") 100 ∷ [];
  handlers = record {
    input = Some (codes "level");
    param = codes "v";
    body = Then (Chooses (Combined Gt (Variable (codes "v")) (Variable (codes "limit")))
        (Then (Sends (codes "bright") (Constant 1)) Done)
        (Then (Sends (codes "bright") (Constant 0)) Done)) Done;
  } ∷ [];
}

-- actuator; input show; on show(v) { emit v; }
abbrev pub lamp : ModuleTree
lamp = record {
  decls = decl.Device Actuator ∷ decl.Input (codes "show") ∷ [];
  handlers = record {
    input = Some (codes "show");
    param = codes "v";
    body =
        Then (Emits (Variable (codes "v"))) Done;
  } ∷ [];
}

-- the modules 0, 1 and 2; the connections 0 (up) and 1 (down)
abbrev pub lighting : AppTree
lighting = record {
  nodes = 2;
  devices = record { node = 0; kind = Sensor } ∷ record { node = 1; kind = Actuator } ∷ [];
  parts = record { node = 0; device = Some 0; tree = eye }
      ∷ record { node = 0; device = None; tree = logic }
      ∷ record { node = 1; device = Some 1; tree = lamp } ∷ [];
  links = record { from = 0; output = 0; to = 1; input = 0 }
      ∷ record { from = 1; output = 0; to = 2; input = 0 } ∷ [];
}
