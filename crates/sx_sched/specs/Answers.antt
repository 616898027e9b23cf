-- What is answered for a line, and where memory may run out.
use Rattle.std.specs.Prelude.{◌≡◌, ℕ, List, Result, Ok, Err, IsTrue}
use Rattle.std.specs.Str.{is_utf8}
use Rattle.sx_sched.specs.declared.lines.LineError.{LineError}
use Rattle.sx_sched.specs.declared.lines.LineError.TheVariants.{Fault, OutOfMemory}
use Rattle.sx_sched.specs.Lines.{Line, Put, Forge}

-- a broken rule, and not a lack of memory
abbrev pub IsBrokenRule : LineError → Type 0
IsBrokenRule (Fault rule) = Unit {0}
IsBrokenRule OutOfMemory = ⊥

-- lines whose bytes take memory
abbrev pub TakesMemory : Line → Type 0
TakesMemory (Put node at bytes) = Unit {0}
TakesMemory (Forge bytes) = Unit {0}
TakesMemory _ = ⊥

-- bytes are said, for which memory may be needed
abbrev pub AreSaid : Result (List ℕ) LineError → Type 0
AreSaid (Ok bytes) = Unit {0}
AreSaid (Err e) = ⊥

-- Memory may be needed for a value that takes some, and to find whether a text that is UTF-8 breaks
-- rule 8. It never hides another broken rule.
abbrev pub MayWant : {V : Type 0} → (V → Type 0) → List ℕ → Result V LineError → Type 0
MayWant Takes text (Ok x) = Takes x
MayWant Takes text (Err (Fault rule)) = (rule ≡ 8) × IsTrue (is_utf8 text)
MayWant Takes text (Err OutOfMemory) = ⊥

-- the answer is the defined one; memory may run out only where some may be needed
abbrev pub Answers : {T V : Type 0} → (T → V) → (Result V LineError → Type 0) → Result V LineError
    → Result T LineError → Type 0
Answers view Wants meant (Ok x) = meant ≡ Ok (view x)
Answers view Wants meant (Err (Fault rule)) = meant ≡ Err (Fault rule)
Answers view Wants meant (Err OutOfMemory) = Wants meant
