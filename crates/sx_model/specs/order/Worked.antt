-- A worked run whose handler emits and then sends. Nobody has to believe this file.
use Rattle.std.specs.Prelude.{List, [], ◌∷◌, ◌++◌, Some, None, codes}
use Rattle.sx_lang.specs.declared.tree.DeviceKind.TheVariants.{Sensor, Actuator}
use Rattle.sx_lang.specs.declared.tree.Decl.TheVariants as decl
use Rattle.sx_lang.specs.declared.sides.Side.TheVariants.{From, To}
use Rattle.sx_lang.specs.Tree.{ModuleTree, Variable, Sends, Emits, Done, Then}
use Rattle.sx_mean.specs.Application.{AppTree}
use Rattle.sx_mean.specs.Worked.{eye}
use Rattle.sx_trace.specs.declared.items.Item.{Item}
use Rattle.sx_trace.specs.declared.items.Item.TheVariants as item
use Rattle.sx_model.specs.Worked.{attestation}

-- actuator; input show; output shown; on show(v) { emit v; send shown(v); }
abbrev pub echo : ModuleTree
echo = record {
  decls = decl.Device Actuator ∷ decl.Input (codes "show") ∷ decl.Output (codes "shown") ∷ [];
  handlers = record {
    input = Some (codes "show");
    param = codes "v";
    body = Then (Emits (Variable (codes "v")))
        (Then (Sends (codes "shown") (Variable (codes "v"))) Done);
  } ∷ [];
}

-- input heard; on heard(v) { }
abbrev pub ear : ModuleTree
ear = record {
  decls = decl.Input (codes "heard") ∷ [];
  handlers = record { input = Some (codes "heard"); param = codes "v"; body = Done } ∷ [];
}

-- the eye sends to the echo, which shows the value and then tells the ear
abbrev pub telling : AppTree
telling = record {
  nodes = 2;
  devices = record { node = 0; kind = Sensor } ∷ record { node = 1; kind = Actuator } ∷ [];
  parts = record { node = 0; device = Some 0; tree = eye }
      ∷ record { node = 1; device = Some 1; tree = echo }
      ∷ record { node = 0; device = None; tree = ear } ∷ [];
  links = record { from = 0; output = 0; to = 1; input = 0 }
      ∷ record { from = 1; output = 0; to = 2; input = 0 } ∷ [];
}

-- all is set up, and the echo takes a value
abbrev pub told : List Item
told =
    item.Protect 0 (Some 0) ∷ item.Protect 1 (Some 1) ∷ item.Protect 0 (Some 2) ∷ []
    ++ attestation 0 0 0 ++ item.Open 0 0 From 0 ∷ item.Done 0 1 0 ∷ []
    ++ attestation 1 1 0 ++ item.Open 1 0 To 0 ∷ item.Done 1 1 0 ∷ item.Open 1 1 From 0
    ∷ item.Done 1 1 0 ∷ []
    ++ attestation 2 2 0 ++ item.Open 2 1 To 0 ∷ item.Done 2 1 0 ∷ []
    ++ item.Sense 0 120 ∷ item.Read 0 120 ∷ item.Done 0 1 1 ∷ item.Take 1 0 0 120 ∷ []
