-- The run of a schedule is its script, performed.
use Rattle.std.proofs.Common.{◌≡◌, ℕ, zero, suc, ◌+◌, ◌/◌, ◌==◌, ◌||◌, not, inl, inr, Bool, true}
use Rattle.std.proofs.Common.{false, if◌then◌else◌, List, [], ◌∷◌, ◌++◌, length, take, drop, Option}
use Rattle.std.proofs.Common.{Some, None, refl, sym, ◌∙◌, ap, subst, arith}
use Rattle.std.specs.Prelude.{slice_get}
use Rattle.std.proofs.lemmas.Bool.Decides.{nat_tests}
use Rattle.sx_tag.specs.Mac.{Mac}
use Rattle.sx_trace.specs.declared.items.Item.{Item}
use Rattle.sx_trace.specs.declared.items.Item.TheVariants as item
use Rattle.sx_sched.specs.Lines as line
use Rattle.sx_sched.specs.Lines.{Line}
use Rattle.sx_rules.specs.Placed.{Placed}
use Rattle.spec_machine.specs.declared.kinds.Event.TheVariants as event
use Rattle.spec_machine.specs.State.{State}
use Rattle.spec_machine.specs.Run.{Outcome, Finished, Violated, Module}
use Rattle.spec_machine.specs.Step.{own_of, attempt, settled_step, step}
use Rattle.spec_machine.specs.Events.{Says}
use Rattle.spec_machine.proofs.Meanings.{steps_say}
use Rattle.sx_rules.specs.Access.{holder}
use Rattle.std.specs.Prelude.{slice_index}
use Rattle.std.proofs.lemmas.List.{append_assoc}
use Rattle.spec_run.specs.Setting.{Site, Setting}
use Rattle.spec_run.specs.State.{World, Acted}
use Rattle.spec_run.specs.Acts.{only, then_, at_node, after_step}
use Rattle.spec_run.specs.Run.{is_reset, steps_of, FINISH_STEPS, finish, put_on, put_pieces, Register, set_all, unless_busy, load, call, after_line, line_counted, run}
use Rattle.spec_run.specs.Run.{protect_registers, call_registers}
use Rattle.law_isolation.specs.Happening.{Happening, Step, Put, Set, Take, Give, Forge, Sense, Irq, Reset, Ask, Answer, Show, done}
use Rattle.law_isolation.specs.Script.{Look, look, looks, Script, Do, performed, after}
use Rattle.law_isolation.specs.Lines.{all, ends, where_node, steps, finishing, unless_running, pieces, setting_of, loading, calling, line_script, script_of}
use Rattle.law_isolation.specs.Laws.{RunsArePerformed, RunsGuarded}
use Rattle.law_isolation.proofs.Places.{get_map, get_map_none}
use Rattle.law_isolation.proofs.Alone.{AllPlaced, done_placed, some_or_none}
use Rattle.law_isolation.proofs.Guarding.{after_placed, scripts_guarded}
use Rattle.lemmas.proofs.Lists.{get_same}

-- A step says that it was a reset exactly where the boot count is another.

same_boot : (b : ℕ) → false ≡ not (b == b)
same_boot b = grind (arith, nat_tests)

pub next_boot : (b : ℕ) → true ≡ not ((b + 1) == b)
next_boot b = grind (arith, nat_tests)

left_quiet : (b : Bool) (own : ℕ) → is_reset (if b then event.Quiet else event.Left own) ≡ false
left_quiet true own = refl
left_quiet false own = refl

boot_shows : (mac : Mac) (a : State) (o : Outcome) → Says mac a (settled_step a o).state (settled_step a o).shown.event
    → is_reset (settled_step a o).shown.event ≡ not ((settled_step a o).state.boot == a.boot)
boot_shows mac a (Finished regs x) h = left_quiet ((own_of a == 0) || (holder a.sections.live (slice_index regs 0) == own_of a)) (own_of a) ∙ same_boot a.boot
boot_shows mac a (Violated v) h = next_boot a.boot
boot_shows mac a (Module regs x t event.Quiet c) h = same_boot a.boot
boot_shows mac a (Module regs x t (event.Reset v) c) h = let e : a.boot ≡ a.boot + 1 = ap (λ (z : State). z.boot) h in absurd (omega (arith, e))
boot_shows mac a (Module regs x t (event.Protected id) c) h = same_boot a.boot
boot_shows mac a (Module regs x t (event.Removed id) c) h = same_boot a.boot
boot_shows mac a (Module regs x t (event.Wrapped id) c) h = same_boot a.boot
boot_shows mac a (Module regs x t (event.Unwrapped id) c) h = same_boot a.boot
boot_shows mac a (Module regs x t (event.Left id) c) h = same_boot a.boot

reset_shows : (mac : Mac) (a : State) → Placed a.sections → is_reset (step mac a).shown.event ≡ not ((step mac a).state.boot == a.boot)
reset_shows mac a p = boot_shows mac a (attempt mac a) (steps_say mac a p)

-- Acts one after the other.

then_same : (a : Acted) (f g : World → Acted) → f a.world ≡ g a.world → then_ a f ≡ then_ a g
then_same a f g e = ap (λ (z : Acted). record { world = z.world; items = a.items ++ z.items }) e

append_none : (xs : List Item) → xs ++ [] ≡ xs
append_none [] = refl
append_none (x ∷ xs) = ap (λ (r : List Item). x ∷ r) (append_none xs)

then_then : (a : Acted) (f g : World → Acted) → then_ (then_ a f) g ≡ then_ a (λ v. then_ (f v) g)
then_then a f g =
    ap (λ (items : List Item). record { world = (g (f a.world).world).world; items = items }) (append_assoc a.items (f a.world).items (g (f a.world).world).items)

then_none : (a : Acted) → then_ a (λ v. only v []) ≡ a
then_none a = ap (λ (items : List Item). record { world = a.world; items = items }) (append_none a.items)

module _ (set : Setting) where
  abbrev After : (List Look → Script) → World → Acted
  After rest v = performed set (rest (looks v)) v

  -- a part of a script does an act
  record Does (part : (List Look → Script) → List Look → Script) (act : World → Acted) : Type 0 where
    is : (rest : List Look → Script) (w : World) → AllPlaced w → performed set (part rest (looks w)) w ≡ then_ (act w) (After rest)
    keeps : (w : World) → AllPlaced w → AllPlaced (act w).world

  does_none : Does (λ rest now. rest now) (λ w. only w [])
  does_none = record { is = λ rest w p. refl; keeps = λ w p. p }

  does_one : (x : Happening) → Does (λ rest now. Do x rest) (done set x)
  does_one x = record { is = λ rest w p. refl; keeps = done_placed set x }

  does_then : (p q : (List Look → Script) → List Look → Script) (f g : World → Acted) → Does p f → Does q g → Does (λ rest now. p (q rest) now) (λ w. then_ (f w) g)
  does_then p q f g a b = record {
    is = λ rest w h.
        a.is (q rest) w h ∙ then_same (f w) (After (q rest)) (λ v. then_ (g v) (After rest)) (b.is rest (f w).world (a.keeps w h)) ∙ sym (then_then (f w) g (After rest));
    keeps = λ w h. b.keeps (f w).world (a.keeps w h);
  }

  does_as : (p : (List Look → Script) → List Look → Script) (f g : World → Acted) → ((w : World) → g w ≡ f w) → Does p f → Does p g
  does_as p f g e a = record {
    is = λ rest w h. a.is rest w h ∙ ap (λ (z : Acted). then_ z (After rest)) (sym (e w));
    keeps = λ w h. subst (λ (z : Acted). AllPlaced z.world) (sym (e w)) (a.keeps w h);
  }

  does_show : (i : Item) → Does (all (Show i ∷ [])) (λ w. only w (i ∷ []))
  does_show i = record { is = λ rest w p. refl; keeps = λ w p. p }

  -- steps
  if_part : (b : Bool) (a : Acted) (f : World → Acted) (rest : List Look → Script) (other : Script) → performed set other a.world ≡ then_ (f a.world) (After rest)
      → then_ a (λ v. performed set (if b then rest (looks a.world) else other) a.world) ≡ then_ (if b then a else then_ a f) (After rest)
  if_part true a f rest other h = refl
  if_part false a f rest other h = then_same a (λ v. performed set other a.world) (λ v. then_ (f v) (After rest)) h ∙ sym (then_then a f (After rest))

  placed_if : (b : Bool) (a c : Acted) → AllPlaced a.world → AllPlaced c.world → AllPlaced (if b then a else c).world
  placed_if true a c p q = p
  placed_if false a c p q = q

  module _ (stops : Look → Bool) (last : List Happening) (items : List Item) (n : ℕ) (ending : Does (all last) (λ w. only w items)) where
    abbrev Halts : State → Bool
    Halts s = stops (look s)

    abbrev Stepped : World → ℕ → State → Acted
    Stepped w k s = if is_reset (step set.mac s).shown.event || stops (look (step set.mac s).state) then after_step set w n s else then_ (after_step set w n s) (steps_of set Halts items n k)

    step_placed : (w : World) (s : State) → slice_get w.nodes n ≡ Some s → AllPlaced w → AllPlaced (after_step set w n s).world
    step_placed w s here p = subst (λ (z : Acted). AllPlaced z.world) (ap (at_node w (after_step set w n)) here) (done_placed set (Step n) w p)

    steps_placed : (k : ℕ) (w : World) → AllPlaced w → AllPlaced (steps_of set Halts items n k w).world
    steps_placed zero w p = p
    steps_placed (suc k) w p = elim (some_or_none (slice_get w.nodes n)) [
      | inr e ↦ subst (λ (o : Option State). AllPlaced (at_node w (Stepped w k) o).world) (sym e) p
      | inl s ↦ subst (λ (o : Option State). AllPlaced (at_node w (Stepped w k) o).world) (sym s.1)
          (placed_if (is_reset (step set.mac s.0).shown.event || stops (look (step set.mac s.0).state)) (after_step set w n s.0) (then_ (after_step set w n s.0) (steps_of set Halts items n k))
          (step_placed w s.0 s.1 p) (steps_placed k (after_step set w n s.0).world (step_placed w s.0 s.1 p)))
    ]

    abbrev Next : (List Look → Script) → ℕ → Look → List Look → Script
    Next rest k a now = if ends stops a (slice_get now n) then rest now else steps stops last n k rest now

    steps_is : (k : ℕ) (rest : List Look → Script) (w : World) → AllPlaced w → performed set (steps stops last n k rest (looks w)) w ≡ then_ (steps_of set Halts items n k w) (After rest)
    steps_is zero rest w p = ending.is rest w p
    steps_is (suc k) rest w p = elim (some_or_none (slice_get w.nodes n)) [
      | inr e ↦
          ap (λ (o : Option Look). performed set (where_node o (λ a. Do (Step n) (Next rest k a)) (rest (looks w))) w) (get_map_none look w.nodes n e)
          ∙ ap (λ (o : Option State). then_ (at_node w (Stepped w k) o) (After rest)) (sym e)
      | inl s ↦
          ap (λ (o : Option Look). performed set (where_node o (λ a. Do (Step n) (Next rest k a)) (rest (looks w))) w) (get_map look w.nodes n s.0 s.1)
          ∙ ap (λ (o : Option State). then_ (at_node w (after_step set w n) o) (After (Next rest k (look s.0)))) s.1
          ∙ after s.0 s.1 (steps_is k rest (after_step set w n s.0).world (step_placed w s.0 s.1 p))
          ∙ ap (λ (o : Option State). then_ (at_node w (Stepped w k) o) (After rest)) (sym s.1)
    ]
      where
        after : (s : State) → slice_get w.nodes n ≡ Some s
            → performed set (steps stops last n k rest (looks (after_step set w n s).world))
            (after_step set w n s).world ≡ then_ (steps_of set Halts items n k (after_step set w n s).world) (After rest)
            → then_ (after_step set w n s) (After (Next rest k (look s))) ≡ then_ (Stepped w k s) (After rest)
        after s here more =
            let a = after_step set w n s in
            let new = (step set.mac s).state in
            let there : slice_get (looks a.world) n ≡ Some (look new) = get_map look a.world.nodes n new (get_same w.nodes n new s here) in
            let b = is_reset (step set.mac s).shown.event || stops (look new) in
            let same : ends stops (look s) (slice_get (looks a.world) n) ≡ b =
            ap (ends stops (look s)) there ∙ ap (λ (z : Bool). z || stops (look new)) (sym (reset_shows set.mac s (p n s here))) in
            then_same a (After (Next rest k (look s))) (λ v. performed set (if b then rest (looks a.world) else steps stops last n k rest (looks a.world)) a.world)
            (ap (λ (z : Bool). performed set (if z then rest (looks a.world) else steps stops last n k rest (looks a.world)) a.world) same)
            ∙ if_part b a (steps_of set Halts items n k) rest (steps stops last n k rest (looks a.world)) more

    does_steps : (k : ℕ) → Does (steps stops last n k) (steps_of set Halts items n k)
    does_steps k = record { is = steps_is k; keeps = steps_placed k }

  does_finish : (n : ℕ) → Does (finishing n) (finish set n)
  does_finish n = does_steps (λ a. a.cur == 0) (Show (item.Budget n) ∷ []) (item.Budget n ∷ []) n (does_show (item.Budget n)) FINISH_STEPS

  does_run : (n k : ℕ) → Does (steps (λ a. false) [] n k) (steps_of set (λ s. false) [] n k)
  does_run n k = does_steps (λ a. false) [] [] n does_none k

  -- one step alone
  one_step : (n : ℕ) (w : World) (o : Option State) → at_node w
      (λ s. if is_reset (step set.mac s).shown.event || false then after_step set w n s else then_
      (after_step set w n s) (λ v. only v [])) o ≡ at_node w (after_step set w n) o
  one_step n w None = refl
  one_step n w (Some s) = by (is_reset (step set.mac s).shown.event || false)
    where
      by : (b : Bool) → (if b then after_step set w n s else then_ (after_step set w n s) (λ v. only v [])) ≡ after_step set w n s
      by true = refl
      by false = then_none (after_step set w n s)

  does_one_step : (n : ℕ) → Does (all (Step n ∷ [])) (steps_of set (λ s. false) [] n 1)
  does_one_step n = does_as (λ rest now. Do (Step n) rest) (done set (Step n)) (steps_of set (λ s. false) [] n 1) (λ w. one_step n w (slice_get w.nodes n)) (does_one (Step n))

  -- where no module runs
  abbrev Chosen : ℕ → ((List Look → Script) → List Look → Script) → (List Look → Script) → World → Look → Script
  Chosen n part rest w l = if l.cur == 0 then part rest (looks w) else Do (Show (item.Busy n)) rest

  abbrev Doing : ℕ → (World → Acted) → World → State → Acted
  Doing n act w s = if s.cur == 0 then act w else only w (item.Busy n ∷ [])

  does_unless : (n : ℕ) (part : (List Look → Script) → List Look → Script) (act : World → Acted) → Does part act → Does (λ rest now. unless_running n (part rest) rest now) (λ w. unless_busy n w act)
  does_unless n part act a = record {
    is = λ rest w p. elim (some_or_none (slice_get w.nodes n)) [
      | inr e ↦
          ap (λ (o : Option Look). performed set (where_node o (Chosen n part rest w) (rest (looks w))) w) (get_map_none look w.nodes n e)
          ∙ ap (λ (o : Option State). then_ (at_node w (Doing n act w) o) (After rest)) (sym e)
      | inl s ↦
          ap (λ (o : Option Look). performed set (where_node o (Chosen n part rest w) (rest (looks w))) w) (get_map look w.nodes n s.0 s.1)
          ∙ either (s.0.cur == 0) rest w p
          ∙ ap (λ (o : Option State). then_ (at_node w (Doing n act w) o) (After rest)) (sym s.1)
    ];
    keeps = λ w p. elim (some_or_none (slice_get w.nodes n)) [
      | inr e ↦ subst (λ (o : Option State). AllPlaced (at_node w (Doing n act w) o).world) (sym e) p
      | inl s ↦ subst (λ (o : Option State). AllPlaced (at_node w (Doing n act w) o).world) (sym s.1) (placed_if (s.0.cur == 0) (act w) (only w (item.Busy n ∷ [])) (a.keeps w p) p)
    ];
  }
    where
      either : (b : Bool) (rest : List Look → Script) (w : World) → AllPlaced w
          → performed set (if b then part rest (looks w) else Do (Show (item.Busy n)) rest) w ≡ then_ (if b then act w else only w (item.Busy n ∷ [])) (After rest)
      either true rest w p = a.is rest w p
      either false rest w p = refl

  does_pieces : (n k at : ℕ) (bytes : List ℕ) → Does (all (pieces n k at bytes)) (put_pieces n k at bytes)
  does_pieces n zero at bytes = does_none
  does_pieces n (suc k) at bytes =
      does_then (λ rest now. Do (Put n at (take 1024 bytes)) rest) (all (pieces n k (at + 1024) (drop 1024 bytes))) (put_on n at (take 1024 bytes)) (put_pieces n k (at + 1024) (drop 1024 bytes))
      (does_one (Put n at (take 1024 bytes))) (does_pieces n k (at + 1024) (drop 1024 bytes))

  does_set : (n : ℕ) (rs : List Register) → Does (all (setting_of n rs)) (set_all n rs)
  does_set n [] = does_none
  does_set n (r ∷ rs) =
      does_then (λ rest now. Do (Set n r.number r.value) rest) (all (setting_of n rs)) (done set (Set n r.number r.value)) (set_all n rs) (does_one (Set n r.number r.value)) (does_set n rs)

  does_load : (o : Option Site) → Does (loading o) (λ w. load set w o)
  does_load None = does_none
  does_load (Some site) =
      let n = site.node in
      let first = pieces n ((length site.text + 1023) / 1024) site.layout.pub_from site.text in
      let third = setting_of n (protect_registers site) in
      let f = put_pieces n ((length site.text + 1023) / 1024) site.layout.pub_from site.text in
      let g = put_on n 0 (0x81 ∷ 0x13 ∷ []) in
      let h = set_all n (protect_registers site) in
      let last = steps_of set (λ s. false) [] n 1 in
      does_unless n (λ rest. all first (all (Put n 0 (0x81 ∷ 0x13 ∷ []) ∷ []) (all third (all (Step n ∷ []) rest)))) (λ w0. then_ (f w0) (λ w1. then_ (g w1) (λ w2. then_ (h w2) last)))
      (does_then (all first) (λ rest. all (Put n 0 (0x81 ∷ 0x13 ∷ []) ∷ []) (all third (all (Step n ∷ []) rest))) f (λ w1. then_ (g w1) (λ w2. then_ (h w2) last))
      (does_pieces n ((length site.text + 1023) / 1024) site.layout.pub_from site.text)
      (does_then (all (Put n 0 (0x81 ∷ 0x13 ∷ []) ∷ [])) (λ rest. all third (all (Step n ∷ []) rest)) g (λ w2. then_ (h w2) last)
      (does_one (Put n 0 (0x81 ∷ 0x13 ∷ [])))
      (does_then (all third) (all (Step n ∷ [])) h last (does_set n (protect_registers site)) (does_one_step n))))

  does_call : (e input output : ℕ) (o : Option Site) → Does (calling e input output o) (λ w. call set w e input output o)
  does_call e input output None = does_none
  does_call e input output (Some site) =
      let n = site.node in
      let regs = call_registers site e input output in
      does_unless n (λ rest. all (setting_of n regs) (finishing n rest)) (λ w0. then_ (set_all n regs w0) (finish set n))
      (does_then (all (setting_of n regs)) (finishing n) (set_all n regs) (finish set n) (does_set n regs) (does_finish n))

  does_line : (l : Line) → Does (line_script set l) (λ w. after_line set w l)
  does_line line.Blank = does_none
  does_line (line.Run n k) = does_run n k
  does_line (line.Finish n) = does_finish n
  does_line (line.Put n at bytes) = does_one (Put n at bytes)
  does_line (line.Set n r v) = does_one (Set n r v)
  does_line (line.Take n at len) = does_one (Take n at len)
  does_line (line.Give k n at) = does_one (Give k n at)
  does_line (line.Forge bytes) = does_one (Forge bytes)
  does_line (line.Sense d v) = does_one (Sense d v)
  does_line (line.Irq n k) = does_one (Irq n k)
  does_line (line.Reset n) = does_one (Reset n)
  does_line (line.Ask m) = does_one (Ask m)
  does_line (line.Answer m boot k) = does_one (Answer m boot k)
  does_line (line.Load m) = does_load (slice_get set.sites m)
  does_line (line.Call m e input output) = does_call e input output (slice_get set.sites m)

  pub is_performed : (lines : List Line) (w : World) → AllPlaced w → run set w lines ≡ performed set (script_of set lines) w
  is_performed [] w p = refl
  is_performed (l ∷ lines) w p =
      let one = does_line l in
      then_same (after_line set (line_counted w) l) (λ v. run set v lines) (λ v. performed set (script_of set lines) v)
      (is_performed lines (after_line set (line_counted w) l).world (one.keeps (line_counted w) p))
      ∙ sym (one.is (λ now. script_of set lines) (line_counted w) p)

pub runs_are_performed : RunsArePerformed
runs_are_performed set lines before = is_performed set lines (after set before) (after_placed set before)

pub runs_guarded : RunsGuarded
runs_guarded set lines = record {
  script = script_of set lines;
  is = λ before. runs_are_performed set lines before;
  each = λ before. scripts_guarded set before (script_of set lines);
}
