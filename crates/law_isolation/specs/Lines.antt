-- The script of a schedule. Nobody has to believe it where a clause says that there is one.
use Rattle.std.specs.Prelude.{ℕ, zero, suc, ◌+◌, ◌/◌, ◌==◌, ◌||◌, not, Bool, true, false}
use Rattle.std.specs.Prelude.{if◌then◌else◌, List, [], ◌∷◌, length, take, drop, slice_get, Option}
use Rattle.std.specs.Prelude.{Some, None}
use Rattle.sx_trace.specs.declared.items.Item.TheVariants as item
use Rattle.sx_sched.specs.Lines as line
use Rattle.sx_sched.specs.Lines.{Line}
use Rattle.spec_run.specs.Setting.{Site, Setting}
use Rattle.spec_run.specs.Run.{FINISH_STEPS, Register, protect_registers, call_registers}
use Rattle.law_isolation.specs.Happening.{Happening, Begin, Step, Put, Set, Take, Give, Forge, Sense, Irq}
use Rattle.law_isolation.specs.Happening.{Reset, Ask, Answer, Show}
use Rattle.law_isolation.specs.Script.{Look, Script, End, Do}

-- these things happen, and then the rest
abbrev pub all : List Happening → (List Look → Script) → List Look → Script
all [] rest now = rest now
all (x ∷ xs) rest now = Do x (all xs rest)

-- the steps end: the node was reset, or it is as `stops` says
abbrev pub ends : (Look → Bool) → Look → Option Look → Bool
ends stops a None = true
ends stops a (Some b) = not (b.boot == a.boot) || stops b

-- if there is such a node
abbrev pub where_node : Option Look → (Look → Script) → Script → Script
where_node None some none = none
where_node (Some a) some none = some a

-- at most this many steps of a node, and then what is in `last`; they end after a reset, or
-- if `stops` says so
abbrev pub steps : (Look → Bool) → List Happening → ℕ → ℕ → (List Look → Script) → List Look
    → Script
steps stops last n zero rest now = all last rest now
steps stops last n (suc k) rest now =
    where_node (slice_get now n) (λ a. Do (Step n) (λ next.
    if ends stops a (slice_get next n) then rest next else steps stops last n k rest next))
    (rest now)

-- a step, and further steps while a module runs, at most a million
abbrev pub finishing : ℕ → (List Look → Script) → List Look → Script
finishing n = steps (λ a. a.cur == 0) (Show (item.Budget n) ∷ []) n FINISH_STEPS

-- if no module of the node runs
abbrev pub unless_running : ℕ → (List Look → Script) → (List Look → Script) → List Look → Script
unless_running n doing rest now =
    where_node (slice_get now n) (λ a. if a.cur == 0 then doing now else
    Do (Show (item.Busy n)) rest) (rest now)

-- the pieces of an image, of 1,024 bytes each
abbrev pub pieces : ℕ → ℕ → ℕ → List ℕ → List Happening
pieces n zero at bytes = []
pieces n (suc k) at bytes = Put n at (take 1024 bytes) ∷ pieces n k (at + 1024) (drop 1024 bytes)

-- registers are set, one after the other
abbrev pub setting_of : ℕ → List Register → List Happening
setting_of n [] = []
setting_of n (r ∷ rs) = Set n r.number r.value ∷ setting_of n rs

-- a deployed image is put, and protected by an instruction at 0
abbrev pub loading : Option Site → (List Look → Script) → List Look → Script
loading None rest now = rest now
loading (Some site) rest now =
    unless_running site.node
    (all (pieces site.node ((length site.text + 1023) / 1024) site.layout.pub_from site.text)
    (all (Put site.node 0 (0x81 ∷ 0x13 ∷ []) ∷ [])
    (all (setting_of site.node (protect_registers site)) (all (Step site.node ∷ []) rest))))
    rest now

-- a deployed module is called at its entry
abbrev pub calling : ℕ → ℕ → ℕ → Option Site → (List Look → Script) → List Look → Script
calling e input output None rest now = rest now
calling e input output (Some site) rest now =
    unless_running site.node
    (all (setting_of site.node (call_registers site e input output)) (finishing site.node rest))
    rest now

-- what a line does, and then the rest
abbrev pub line_script : Setting → Line → (List Look → Script) → List Look → Script
line_script set line.Blank rest now = rest now
line_script set (line.Run n k) rest now = steps (λ a. false) [] n k rest now
line_script set (line.Finish n) rest now = finishing n rest now
line_script set (line.Put n at bytes) rest now = Do (Put n at bytes) rest
line_script set (line.Set n r v) rest now = Do (Set n r v) rest
line_script set (line.Take n at len) rest now = Do (Take n at len) rest
line_script set (line.Give k n at) rest now = Do (Give k n at) rest
line_script set (line.Forge bytes) rest now = Do (Forge bytes) rest
line_script set (line.Sense d v) rest now = Do (Sense d v) rest
line_script set (line.Irq n k) rest now = Do (Irq n k) rest
line_script set (line.Reset n) rest now = Do (Reset n) rest
line_script set (line.Ask m) rest now = Do (Ask m) rest
line_script set (line.Answer m boot k) rest now = Do (Answer m boot k) rest
line_script set (line.Load m) rest now = loading (slice_get set.sites m) rest now
line_script set (line.Call m e input output) rest now =
    calling e input output (slice_get set.sites m) rest now

-- the script of a schedule
abbrev pub script_of : Setting → List Line → Script
script_of set [] = End
script_of set (l ∷ lines) = Do Begin (line_script set l (λ now. script_of set lines))
