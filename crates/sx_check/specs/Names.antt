-- The names that a module declares and a handler defines.
use Rattle.std.specs.Prelude.{ℕ, Bool, true, false, ◌||◌, List, [], ◌∷◌, ◌++◌, Option, Some, None}
use Rattle.std.specs.Prelude.{nat_eq, nat_lt, count_by}
use Rattle.std.specs.Cmp.Lexicographic.{pointwise}
use Rattle.std.specs.List.{list_any}
use Rattle.sx_lang.specs.declared.tree.DeviceKind.TheVariants.{Sensor, Actuator}
use Rattle.sx_lang.specs.declared.tree.Decl.{Decl}
use Rattle.sx_lang.specs.declared.tree.Decl.TheVariants.{Device, Input, Output, Var, Array}
use Rattle.sx_lang.specs.Tree.{Statement, Defines, Chooses, Repeats}
use Rattle.sx_lang.specs.Tree.{Block, Done, Then, HandlerTree}

-- two names are equal
abbrev pub same : List ℕ → List ℕ → Bool
same x y = pointwise nat_eq x y

-- the declaration is of this name
abbrev pub declares : List ℕ → Decl → Bool
declares x (Device kind) = false
declares x (Input y) = same x y
declares x (Output y) = same x y
declares x (Var y n) = same x y
declares x (Array y n) = same x y

-- a declaration of a device
abbrev pub is_device : Decl → Bool
is_device (Device kind) = true
is_device _ = false

-- a declaration of a sensor
abbrev pub is_sensor : Decl → Bool
is_sensor (Device Sensor) = true
is_sensor _ = false

-- a declaration of an actuator
abbrev pub is_actuator : Decl → Bool
is_actuator (Device Actuator) = true
is_actuator _ = false

-- a declaration has this name
abbrev pub is_declared : List Decl → List ℕ → Bool
is_declared ds x = list_any (declares x) ds

-- another declaration is of the same name, or also of a device
abbrev pub is_repeated : List Decl → Decl → Bool
is_repeated ds (Device kind) = nat_lt 1 (count_by is_device ds)
is_repeated ds (Input x) = nat_lt 1 (count_by (declares x) ds)
is_repeated ds (Output x) = nat_lt 1 (count_by (declares x) ds)
is_repeated ds (Var x n) = nat_lt 1 (count_by (declares x) ds)
is_repeated ds (Array x n) = nat_lt 1 (count_by (declares x) ds)

-- the names that a statement itself defines, none or one
abbrev pub defined : Statement → List (List ℕ)
defined (Defines x e) = x ∷ []
defined _ = []

-- the names that are defined in it at any depth
abbrev mutual
  pub statement_lets : Statement → List (List ℕ)
  statement_lets (Defines x e) = x ∷ []
  statement_lets (Chooses e a b) = block_lets a ++ block_lets b
  statement_lets (Repeats n a) = block_lets a
  statement_lets _ = []

  pub block_lets : Block → List (List ℕ)
  block_lets Done = []
  block_lets (Then s b) = statement_lets s ++ block_lets b

-- a handler's locals: its parameter, and each that is defined in it
abbrev pub locals : HandlerTree → List (List ℕ)
locals h = h.param ∷ block_lets h.body

-- a local's name is declared, or another local of its handler has it too
unfoldable pub is_taken : List Decl → HandlerTree → List ℕ → Bool
is_taken ds h x = is_declared ds x || nat_lt 1 (count_by (same x) (locals h))

-- a local of the handler has a name that is taken
unfoldable pub has_taken : List Decl → HandlerTree → Bool
has_taken ds h = list_any (is_taken ds h) (locals h)

-- two handlers are for the same event: the same input, or both for samples
abbrev pub same_input : Option (List ℕ) → Option (List ℕ) → Bool
same_input None None = true
same_input (Some x) (Some y) = same x y
same_input _ _ = false

-- another handler is of the same input, or also of the samples
unfoldable pub is_handled_twice : List HandlerTree → HandlerTree → Bool
is_handled_twice hs h = nat_lt 1 (count_by (λ g. same_input h.input g.input) hs)

-- a handler of the sensor's samples
abbrev pub is_sample : HandlerTree → Bool
is_sample h = same_input None h.input
