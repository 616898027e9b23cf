-- A schedule's lines as acts, and the run of a schedule.
use Rattle.std.specs.Prelude.{ℕ, zero, suc, ◌+◌, ◌/◌, ◌==◌, ◌||◌, Bool, true, false, if◌then◌else◌}
use Rattle.std.specs.Prelude.{List, [], ◌∷◌, length, take, drop, slice_get, Option, Some, None}
use Rattle.std.specs.Prelude.{unwrap_or}
use Rattle.std.specs.List.{position_from}
use Rattle.sx_trace.specs.declared.items.Cause.TheVariants.{Asked}
use Rattle.sx_trace.specs.declared.items.Item.{Item}
use Rattle.sx_trace.specs.declared.items.Item.TheVariants as item
use Rattle.sx_sched.specs.Lines.{Line, Blank, Run, Finish, Put, Set, Take, Give, Forge, Sense, Irq}
use Rattle.sx_sched.specs.Lines.{Reset, Ask, Answer, Load, Call}
use Rattle.sx_mean.specs.declared.apps.AppDevice.{AppDevice}
use Rattle.spec_machine.specs.declared.kinds.Event.{Event}
use Rattle.spec_machine.specs.declared.kinds.Event.TheVariants as event
use Rattle.spec_machine.specs.State.{State, reset}
use Rattle.spec_machine.specs.Step.{step}
use Rattle.spec_machine.specs.Acts.{put, set, take as take_from, sense, irq}
use Rattle.spec_run.specs.Setting.{Site, Setting, devices_at}
use Rattle.spec_run.specs.State.{World, Acted}
use Rattle.spec_run.specs.Acts.{only, then_, with_node, at_node, after_step, done_on, new_packet}
use Rattle.spec_run.specs.Acts.{after_take, after_interrupt, ask, after_answer}

-- the step's event is a reset
abbrev pub is_reset : Event → Bool
is_reset (event.Reset v) = true
is_reset _ = false

-- at most this many steps of a node, ending after a reset, or where `stops` says so of the node
abbrev pub steps_of : Setting → (State → Bool) → List Item → ℕ → ℕ → World → Acted
steps_of set stops items n zero w = only w items
steps_of set stops items n (suc k) w =
    at_node w (λ s.
    if is_reset (step set.mac s).shown.event || stops (step set.mac s).state then
    after_step set w n s
    else then_ (after_step set w n s) (steps_of set stops items n k))
    (slice_get w.nodes n)

-- the most steps of one `finish` or `call`
unfoldable pub FINISH_STEPS : ℕ
FINISH_STEPS = 1000000

-- a step, and further steps while a module runs, at most a million
abbrev pub finish : Setting → ℕ → World → Acted
finish set n w = steps_of set (λ s. s.cur == 0) (item.Budget n ∷ []) n FINISH_STEPS w

-- bytes are put into a node's memory
abbrev pub put_on : ℕ → ℕ → List ℕ → World → Acted
put_on n at bytes w = at_node w (λ s. done_on w n [] (put s at bytes)) (slice_get w.nodes n)

-- a register of a node is set
abbrev pub set_on : ℕ → ℕ → ℕ → World → Acted
set_on n r v w = at_node w (λ s. done_on w n [] (set s r v)) (slice_get w.nodes n)

-- a packet is put into a node's memory, where there is such a packet
abbrev pub give : World → ℕ → ℕ → Option (List ℕ) → Acted
give w n at None = only w (item.Skip n ∷ [])
give w n at (Some bytes) = put_on n at bytes w

-- a device's index among those of its node
abbrev pub place_at : Setting → ℕ → ℕ → ℕ
place_at set n d = unwrap_or (position_from (λ k. k == d) 0 (devices_at n 0 set.app.devices)) 0

-- a sensor gets a value, where there is such a device
abbrev pub sense_at : Setting → World → ℕ → ℕ → Option AppDevice → Acted
sense_at set w d v None = only w []
sense_at set w d v (Some x) =
    at_node w (λ s. done_on w x.node (item.Sense d v ∷ []) (sense s (place_at set x.node d) v))
    (slice_get w.nodes x.node)

-- the pieces of an image, of 1,024 bytes each
abbrev pub put_pieces : ℕ → ℕ → ℕ → List ℕ → World → Acted
put_pieces n zero at bytes w = only w []
put_pieces n (suc k) at bytes w =
    then_ (put_on n at (take 1024 bytes) w) (put_pieces n k (at + 1024) (drop 1024 bytes))

-- registers set one after the other
pub record Register : Type 0 where
  pub number : ℕ
  pub value : ℕ

-- registers of a node are set, one after the other
abbrev pub set_all : ℕ → List Register → World → Acted
set_all n [] w = only w []
set_all n (r ∷ rs) w = then_ (set_on n r.number r.value w) (set_all n rs)

-- a register's number and its value
abbrev pub register : ℕ → ℕ → Register
register r v = record { number = r; value = v }

-- what the instruction that protects a module is given, and where it is
abbrev pub protect_registers : Site → List Register
protect_registers site =
    register 9 site.provider ∷ register 10 site.layout.pub_from ∷ register 11 site.layout.pub_to
    ∷ register 12 site.layout.priv_from ∷ register 13 site.layout.priv_to ∷ register 0 0 ∷ []

-- what a called module's code is given: its entry, its windows, no place to return to
abbrev pub call_registers : Site → ℕ → ℕ → ℕ → List Register
call_registers site e input output =
    register 12 e ∷ register 13 input ∷ register 14 output ∷ register 15 0
    ∷ register 0 site.layout.pub_from ∷ []

-- where no module runs
abbrev pub unless_busy : ℕ → World → (World → Acted) → Acted
unless_busy n w act =
    at_node w (λ s. if s.cur == 0 then act w else only w (item.Busy n ∷ [])) (slice_get w.nodes n)

-- a deployed image is put, and protected by an instruction at 0
abbrev pub load : Setting → World → Option Site → Acted
load set w None = only w []
load set w (Some site) =
    unless_busy site.node w (λ w0.
    then_ (put_pieces site.node ((length site.text + 1023) / 1024) site.layout.pub_from site.text
    w0) (λ w1.
    then_ (put_on site.node 0 (0x81 ∷ 0x13 ∷ []) w1) (λ w2.
    then_ (set_all site.node (protect_registers site) w2)
    (steps_of set (λ s. false) [] site.node 1))))

-- a deployed module is called at its entry
abbrev pub call : Setting → World → ℕ → ℕ → ℕ → Option Site → Acted
call set w e input output None = only w []
call set w e input output (Some site) =
    unless_busy site.node w (λ w0.
    then_ (set_all site.node (call_registers site e input output) w0) (finish set site.node))

-- what a line does
abbrev pub after_line : Setting → World → Line → Acted
after_line set w Blank = only w []
after_line set w (Run n k) = steps_of set (λ s. false) [] n k w
after_line set w (Finish n) = finish set n w
after_line set w (Put n at bytes) = put_on n at bytes w
after_line set w (Set n r v) = set_on n r v w
after_line set w (Take n at len) =
    at_node w (λ s. after_take w n (take_from s at len).shown) (slice_get w.nodes n)
after_line set w (Give k n at) = give w n at (slice_get w.packets k)
after_line set w (Forge bytes) = new_packet w bytes
after_line set w (Sense d v) = sense_at set w d v (slice_get set.app.devices d)
after_line set w (Irq n line) = at_node w (λ s.
    after_interrupt set w n (irq s line).state (irq s line).shown) (slice_get w.nodes n)
after_line set w (Reset n) = at_node w (λ s.
    only (with_node w n (reset s) w.ledger w.steps) (item.Reset n Asked ∷ []))
    (slice_get w.nodes n)
after_line set w (Ask m) = ask w m
after_line set w (Answer m boot k) =
    after_answer set w m boot (slice_get set.sites m) (slice_get w.packets k)
after_line set w (Load m) = load set w (slice_get set.sites m)
after_line set w (Call m e input output) = call set w e input output (slice_get set.sites m)

-- the world with one more line counted
abbrev pub line_counted : World → World
line_counted w = record w { lines = w.lines + 1 }

-- the run of a schedule's lines
abbrev pub run : Setting → World → List Line → Acted
run set w [] = only w []
run set w (line ∷ lines) = then_ (after_line set (line_counted w) line) (λ v. run set v lines)
