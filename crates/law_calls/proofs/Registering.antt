-- The registers of a call are set, one after the other, where no module runs.
use Rattle.std.proofs.Common.{◌≡◌, ℕ, ◌-◌, ◌%◌, ◌<◌, ◌==◌, Bool, if◌then◌else◌, List, [], ◌∷◌, length, Some, None, sym, ◌∙◌, ap, arith}
use Rattle.std.specs.Prelude.{slice_get, slice_set, slice_index}
use Rattle.std.proofs.lemmas.Bool.{eq-eqb}
use Rattle.std.proofs.lemmas.List.{get_or-set_same, get_or-set_other, length-set, set-set}
use Rattle.sx_ledger.specs.Made.{Made}
use Rattle.spec_machine.specs.declared.kinds.Refused.TheVariants.{Busy}
use Rattle.spec_machine.specs.Registers.{set_reg}
use Rattle.spec_machine.specs.State.{State}
use Rattle.spec_machine.specs.Node.{IsNode}
use Rattle.spec_machine.specs.Step.{pc_of}
use Rattle.spec_machine.specs.Acts.{set as set_register, unless}
use Rattle.spec_machine.proofs.Stays.{set_is_node}
use Rattle.sx_image.specs.Image.{call_at}
use Rattle.spec_run.specs.State.{World, Acted}
use Rattle.spec_run.specs.Acts.{only, then_, with_node, at_node, done_on}
use Rattle.spec_run.specs.Run.{Register, set_on, set_all}
use Rattle.lemmas.proofs.Lists.{get_same}
use Rattle.spec_run.proofs.steps.Stretch.{set_same}
use Rattle.law_calls.specs.Calls.{Callee, called}
use Rattle.law_invocation.specs.Gives.{asked}

-- the node with a register set
abbrev pub with_register : State → Register → State
with_register s r = record s { regs = set_reg s.regs r.number r.value; last = if r.number == 0 then 0 else s.last }

abbrev pub with_registers : State → List Register → State
with_registers s [] = s
with_registers s (r ∷ rs) = with_registers (with_register s r) rs

-- nothing refuses it
accepted : (s : State) (r : Register) (w : World) (n : ℕ) → s.cur ≡ 0
    → done_on w n [] (set_register s r.number r.value) ≡ record { world = with_node w n (with_register s r) w.ledger w.steps; items = [] }
accepted s r w n idle =
    ap (λ (b : Bool). done_on w n [] (unless (if b then None else Some Busy) s (record { state = with_register s r; shown = tt }))) (eq-eqb s.cur 0 idle)

pub same_node : (w : World) (n : ℕ) (s : State) → slice_get w.nodes n ≡ Some s → w ≡ with_node w n s w.ledger w.steps
same_node w n s there =
    ap (λ ns. record { nodes = ns; packets = w.packets; deployer = w.deployer; ledger = w.ledger; lines = w.lines; steps = w.steps }) (sym (set_same w.nodes n s there))

-- a node that changed twice
pub node_twice : (w : World) (n : ℕ) (s t : State) (a b : List Made) (j k : ℕ) → with_node (with_node w n s a j) n t b k ≡ with_node w n t b k
node_twice w n s t a b j k =
    ap (λ ns. record { nodes = ns; packets = w.packets; deployer = w.deployer; ledger = b; lines = w.lines; steps = k }) (set-set w.nodes n s t)

pub all_set : (rs : List Register) (w : World) (n : ℕ) (s : State) → slice_get w.nodes n ≡ Some s → s.cur ≡ 0
    → set_all n rs w ≡ record { world = with_node w n (with_registers s rs) w.ledger w.steps; items = [] }
all_set [] w n s there idle = ap (λ v. only v []) (same_node w n s there)
all_set (r ∷ rs) w n s there idle =
    let t = with_register s r in
    let v = with_node w n t w.ledger w.steps in
    let one : set_on n r.number r.value w ≡ record { world = v; items = [] } =
    ap (at_node w (λ s. done_on w n [] (set_register s r.number r.value))) there ∙ accepted s r w n idle in
    let rest = all_set rs v n t (get_same w.nodes n t s there) idle in
    ap (λ (a : Acted). then_ a (set_all n rs)) one
    ∙ ap (λ (a : Acted). record { world = a.world; items = a.items }) rest
    ∙ ap (λ u. record { world = u; items = [] }) (node_twice w n t (with_registers t rs) w.ledger w.ledger w.steps w.steps)

-- what the registers then are

pub called_asks : (c : Callee) (e input output : ℕ) → length c.node.regs ≡ 16 → call_at (called c (asked e input output)) ≡ asked e input output
called_asks c e input output size =
    let r1 : List ℕ = slice_set c.node.regs 12 e in
    let r2 : List ℕ = slice_set r1 13 input in
    let r3 : List ℕ = slice_set r2 14 output in
    let r4 : List ℕ = slice_set r3 15 0 in
    let pc = c.site.layout.pub_from - c.site.layout.pub_from % 2 in
    let l1 : length r1 ≡ 16 = length-set c.node.regs 12 e ∙ size in
    let l2 : length r2 ≡ 16 = length-set r1 13 input ∙ l1 in
    let l3 : length r3 ≡ 16 = length-set r2 14 output ∙ l2 in
    let first : slice_index (slice_set r4 0 pc) 12 ≡ e =
    get_or-set_other r4 0 12 pc 0 (λ h. omega (arith, h)) ∙ get_or-set_other r3 15 12 0 0 (λ h. omega (arith, h)) ∙ get_or-set_other r2 14 12 output 0 (λ h. omega (arith, h))
    ∙ get_or-set_other r1 13 12 input 0 (λ h. omega (arith, h)) ∙ get_or-set_same c.node.regs 12 e 0 (omega (arith, size)) in
    let second : slice_index (slice_set r4 0 pc) 13 ≡ input =
    get_or-set_other r4 0 13 pc 0 (λ h. omega (arith, h)) ∙ get_or-set_other r3 15 13 0 0 (λ h. omega (arith, h)) ∙ get_or-set_other r2 14 13 output 0 (λ h. omega (arith, h)) ∙ get_or-set_same r1 13 input 0 (omega (arith, l1)) in
    let third : slice_index (slice_set r4 0 pc) 14 ≡ output =
    get_or-set_other r4 0 14 pc 0 (λ h. omega (arith, h)) ∙ get_or-set_other r3 15 14 0 0 (λ h. omega (arith, h)) ∙ get_or-set_same r2 14 output 0 (omega (arith, l2)) in
    let last : slice_index (slice_set r4 0 pc) 15 ≡ 0 = get_or-set_other r4 0 15 pc 0 (λ h. omega (arith, h)) ∙ get_or-set_same r3 15 0 0 (omega (arith, l3)) in
    ap (λ x. record { entry = x; input = slice_index (slice_set r4 0 pc) 13; output = slice_index (slice_set r4 0 pc) 14; back = slice_index (slice_set r4 0 pc) 15 }) first
    ∙ ap (λ x. record { entry = e; input = x; output = slice_index (slice_set r4 0 pc) 14; back = slice_index (slice_set r4 0 pc) 15 }) second
    ∙ ap (λ x. record { entry = e; input = input; output = x; back = slice_index (slice_set r4 0 pc) 15 }) third
    ∙ ap (λ x. record { entry = e; input = input; output = output; back = x }) last

-- PC is the entry, where that is even
pub called_enters : (c : Callee) (e input output : ℕ) → length c.node.regs ≡ 16 → c.site.layout.pub_from % 2 ≡ 0 → pc_of (called c (asked e input output)) ≡ c.site.layout.pub_from
called_enters c e input output size even =
    let r1 : List ℕ = slice_set c.node.regs 12 e in
    let r2 : List ℕ = slice_set r1 13 input in
    let r3 : List ℕ = slice_set r2 14 output in
    let r4 : List ℕ = slice_set r3 15 0 in
    let l1 : length r1 ≡ 16 = length-set c.node.regs 12 e ∙ size in
    let l2 : length r2 ≡ 16 = length-set r1 13 input ∙ l1 in
    let l3 : length r3 ≡ 16 = length-set r2 14 output ∙ l2 in
    let l4 : length r4 ≡ 16 = length-set r3 15 0 ∙ l3 in
    get_or-set_same r4 0 (c.site.layout.pub_from - c.site.layout.pub_from % 2) 0 (omega (arith, l4)) ∙ omega (arith, even)

-- it is a node
pub called_is_node : (c : Callee) (e input output : ℕ) → e < 65536 → input < 65536 → output < 65536 → c.site.layout.pub_from < 65536 → c.node.cur ≡ 0
    → IsNode c.node → IsNode (called c (asked e input output))
called_is_node c e input output el il ol pl idle h =
    let h1 = set_is_node c.node 12 e el idle h in
    let s1 = with_register c.node (record { number = 12; value = e }) in
    let h2 = set_is_node s1 13 input il idle h1 in
    let s2 = with_register s1 (record { number = 13; value = input }) in
    let h3 = set_is_node s2 14 output ol idle h2 in
    let s3 = with_register s2 (record { number = 14; value = output }) in
    let h4 = set_is_node s3 15 0 (omega arith) idle h3 in
    let s4 = with_register s3 (record { number = 15; value = 0 }) in
    set_is_node s4 0 c.site.layout.pub_from pl idle h4
