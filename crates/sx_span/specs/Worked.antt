-- Examples. Nobody has to believe this file.
use Rattle.std.specs.Prelude.{◌≡◌, [], ◌∷◌, codes, None}
use Rattle.sx_lang.specs.declared.tree.DeviceKind.TheVariants.{Sensor}
use Rattle.sx_lang.specs.declared.tree.Decl.TheVariants as decl
use Rattle.sx_lang.specs.declared.tree.BinOp.TheVariants.{Add, Lt, And}
use Rattle.sx_lang.specs.Tree.{Variable, Constant, Combined, Assigns, Stores, Chooses, Sends}
use Rattle.sx_lang.specs.Tree.{Repeats, Done, Then}
use Rattle.sx_lang.specs.Tree.{ModuleTree}
use Rattle.sx_mean.specs.Worked.{logic}
use Rattle.sx_span.specs.Intervals.{between, only}
use Rattle.sx_span.specs.Ranges.{SendIn}
use Rattle.sx_span.specs.Paths.{InputIn, SampleIn, new_range, react_within}

-- a level from 50 to 150 may be above the limit of 100, or not: two paths, each with what it knows
abbrev pub LogicHasTwo : Type 0
LogicHasTwo = react_within logic (InputIn 0 (between 50 150)) (only 100 ∷ [])
    ≡ record {
      locals = new_range (codes "v") (between 101 150) ∷ [];
      cells = only 100 ∷ [];
      acts = SendIn 0 (only 1) ∷ [];
    } ∷ record {
      locals = new_range (codes "v") (between 50 100) ∷ [];
      cells = only 100 ∷ [];
      acts = SendIn 0 (only 0) ∷ [];
    } ∷ []

-- a level above the limit has one path
abbrev pub LogicHasOne : Type 0
LogicHasOne = react_within logic (InputIn 0 (between 101 65535)) (only 100 ∷ [])
    ≡ record {
      locals = new_range (codes "v") (between 101 65535) ∷ [];
      cells = only 100 ∷ [];
      acts = SendIn 0 (only 1) ∷ [];
    } ∷ []

-- sensor; output o; var n = 0; array a[4];
-- sample(v) { a[v & 3] = v; repeat 2 { n = n + 1; } if n < 10 { send o(n); } else { n = 0; } }
abbrev pub counter : ModuleTree
counter = record {
  decls = decl.Device Sensor ∷ decl.Output (codes "o") ∷ decl.Var (codes "n") 0
      ∷ decl.Array (codes "a") 4 ∷ [];
  handlers = record {
    input = None;
    param = codes "v";
    body =
        Then (Stores (codes "a") (Combined And (Variable (codes "v")) (Constant 3))
        (Variable (codes "v")))
        (Then (Repeats 2
        (Then (Assigns (codes "n") (Combined Add (Variable (codes "n")) (Constant 1))) Done))
        (Then (Chooses (Combined Lt (Variable (codes "n")) (Constant 10))
        (Then (Sends (codes "o") (Variable (codes "n"))) Done)
        (Then (Assigns (codes "n") (Constant 0)) Done)) Done));
  } ∷ [];
}

-- the count stays below 10, and any of the four elements may have the new value
abbrev pub CounterStays : Type 0
CounterStays = react_within counter (SampleIn (between 5 9))
    (between 0 9 ∷ only 0 ∷ only 0 ∷ only 0 ∷ only 0 ∷ [])
    ≡ record {
      locals = new_range (codes "v") (between 5 9) ∷ [];
      cells = between 2 9 ∷ between 0 9 ∷ between 0 9 ∷ between 0 9 ∷ between 0 9 ∷ [];
      acts = SendIn 0 (between 2 9) ∷ [];
    } ∷ record {
      locals = new_range (codes "v") (between 5 9) ∷ [];
      cells = only 0 ∷ between 0 9 ∷ between 0 9 ∷ between 0 9 ∷ between 0 9 ∷ [];
      acts = [];
    } ∷ []
