-- The modules of the deployment, and that its sources spell them.
use Rattle.std.proofs.Common.{ℕ, List, [], ◌∷◌, codes, Some, None, refl}
use Rattle.sx_lang.specs.declared.tree.DeviceKind.TheVariants.{Sensor, Actuator}
use Rattle.sx_lang.specs.declared.tree.Decl.TheVariants as decl
use Rattle.sx_lang.specs.declared.tree.BinOp.TheVariants.{Gt}
use Rattle.sx_lang.specs.Tree.{Variable, Constant, Combined, Chooses, Sends, Emits, Done, Then, ModuleTree}
use Rattle.spec_grammar.specs.Text.{Spells}
use Rattle.sx_bulk.proofs.Lexing.{read_as, spells}

unfoldable pub eye_text : List ℕ
eye_text = codes "sensor;\noutput level;\nsample(v) { send level(v); }\n"

unfoldable pub eye : ModuleTree
eye = record {
  decls = decl.Device Sensor ∷ decl.Output (codes "level") ∷ [];
  handlers = record { input = None; param = codes "v"; body = Then (Sends (codes "level") (Variable (codes "v"))) Done } ∷ [];
}

unfoldable pub logic_text : List ℕ
logic_text = codes "input level;\noutput bright;\nvar limit = 100;\non level(v) { if v > limit { send bright(1); } else { send bright(0); } }\n"

unfoldable pub logic : ModuleTree
logic = record {
  decls = decl.Input (codes "level") ∷ decl.Output (codes "bright") ∷ decl.Var (codes "limit") 100 ∷ [];
  handlers = record {
    input = Some (codes "level");
    param = codes "v";
    body = Then (Chooses (Combined Gt (Variable (codes "v")) (Variable (codes "limit")))
        (Then (Sends (codes "bright") (Constant 1)) Done) (Then (Sends (codes "bright") (Constant 0)) Done)) Done;
  } ∷ [];
}

unfoldable pub lamp_text : List ℕ
lamp_text = codes "actuator;\ninput show;\non show(v) { emit v; }\n"

unfoldable pub lamp : ModuleTree
lamp = record {
  decls = decl.Device Actuator ∷ decl.Input (codes "show") ∷ [];
  handlers = record { input = Some (codes "show"); param = codes "v"; body = Then (Emits (Variable (codes "v"))) Done } ∷ [];
}

pub lamp_spelled : Spells lamp_text lamp
unfolding read_as lamp_text lamp
lamp_spelled = spells 200 lamp_text lamp refl

pub eye_spelled : Spells eye_text eye
unfolding read_as eye_text eye
eye_spelled = spells 200 eye_text eye refl

pub logic_spelled : Spells logic_text logic
unfolding read_as logic_text logic
logic_spelled = spells 200 logic_text logic refl
