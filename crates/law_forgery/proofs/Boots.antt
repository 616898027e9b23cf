-- A node is reset at most once in a line, so in a schedule's run its boots are few.
use Rattle.std.proofs.Common.{◌≡◌, ℕ, zero, suc, ◌+◌, ◌≤◌, ◌/◌, ◌==◌, ◌||◌, not, inl, inr, Bool, true, false, if◌then◌else◌, List, [], ◌∷◌, length, drop}
use Rattle.std.proofs.Common.{Option, Some, None, Result, Ok, Err, refl, sym, ◌∙◌, ap, subst, arith}
use Rattle.std.specs.Prelude.{slice_get, slice_set}
use Rattle.std.proofs.lemmas.Bool.{true≢false, eqb-true, cases_eq}
use Rattle.sx_trace.specs.declared.items.Item.TheVariants as item
use Rattle.sx_mean.specs.declared.apps.AppDevice.{AppDevice}
use Rattle.sx_rules.specs.declared.access.Violation.{Violation}
use Rattle.spec_machine.specs.declared.kinds.Refused.{Refused}
use Rattle.spec_machine.specs.declared.kinds.Seen.{Seen}
use Rattle.spec_machine.specs.State.{State}
use Rattle.spec_machine.specs.Run.{Outcome, Finished, Violated, Module, exec}
use Rattle.spec_machine.specs.Step.{Shown, step, start}
use Rattle.spec_machine.specs.Acts.{irq, take as take_from, put_refusal, take_refusal, busy, irq_refusal, unless, interrupted, interrupt}
use Rattle.spec_machine.specs.Acting.{Act, acted}
use Rattle.spec_machine.specs.Acting as act
use Rattle.sx_image.specs.Watched.{violation_of}
use Rattle.sx_sched.specs.Lines as line
use Rattle.sx_sched.specs.Lines.{Line}
use Rattle.spec_run.specs.Setting.{Setting, Site}
use Rattle.spec_run.specs.State.{World, Acted, switched_on}
use Rattle.spec_run.specs.Acts.{at_node, after_step, after_take, after_interrupt}
use Rattle.spec_run.specs.Run.{FINISH_STEPS, Register, protect_registers, call_registers, place_at, sense_at, give}
use Rattle.spec_run.proofs.tie.Lists.{some_inj, get_other}
use Rattle.spec_run.proofs.tie.Start.{get_nodes}
use Rattle.spec_run.proofs.steps.Machine.{violates, onward}
use Rattle.lemmas.proofs.Lists.{get_same}
use Rattle.law_isolation.specs.Happening.{Happening, Begin, Step, Put, Set, Take, Give, Forge, Sense, Irq, Reset, Ask, Answer, Show, done}
use Rattle.law_isolation.specs.Script.{Look, Script, End, Do, look, looks}
use Rattle.law_isolation.specs.Lines.{all, ends, where_node, steps, finishing, unless_running, pieces, setting_of, loading, calling, line_script, script_of}
use Rattle.law_isolation.proofs.Places.{get_map, get_map_none}
use Rattle.law_forgery.specs.Moments.{Moment, moment_from, moment}
use Rattle.law_forgery.proofs.Reaching.{answer_keeps}

-- every node was reset at most so often
abbrev pub Few : ℕ → World → Type 0
Few k w = (n : ℕ) (s : State) → slice_get w.nodes n ≡ Some s → s.boot ≤ k

more_few : (k : ℕ) (w : World) → Few k w → Few (k + 1) w
more_few k w h n s e = let b = h n s e in omega (arith, b)

less_few : (k j : ℕ) (w : World) → k ≤ j → Few k w → Few j w
less_few k j w le h n s e = let b = h n s e in omega (arith, b, le)

-- An act resets its node at most once; other acts than a step, an interrupt and a reset don't.

abbrev Gentle : Act → Type 0
Gentle act.Step = ⊥
Gentle act.Restart = ⊥
Gentle (act.Put at bytes) = Unit {0}
Gentle (act.Set r v) = Unit {0}
Gentle (act.Take at k) = Unit {0}
Gentle (act.Sense device v) = Unit {0}
Gentle (act.Interrupt line) = ⊥

unless_boot : {T : Type 0} (P : ℕ → Type 0) (o : Option Refused) (s : State) (done : Shown T) → P s.boot → P done.state.boot → P (unless o s done).state.boot
unless_boot P None s done h g = g
unless_boot P (Some r) s done h g = h

gentle_boot : (set : Setting) (a : Act) (s : State) → Gentle a → (acted set.mac a s).state.boot ≡ s.boot
gentle_boot set act.Step s g = absurd g
gentle_boot set act.Restart s g = absurd g
gentle_boot set (act.Put at bytes) s g = unless_boot {T = Unit {0}} (λ k. k ≡ s.boot) (put_refusal s at (length bytes)) s _ refl refl
gentle_boot set (act.Set r v) s g = unless_boot {T = Unit {0}} (λ k. k ≡ s.boot) (busy s) s _ refl refl
gentle_boot set (act.Take at k) s g = unless_boot (λ k. k ≡ s.boot) (take_refusal s at k) s _ refl refl
gentle_boot set (act.Sense device v) s g = unless_boot {T = Unit {0}} (λ k. k ≡ s.boot) (busy s) s _ refl refl
gentle_boot set (act.Interrupt line) s g = absurd g

interrupted_boot : (s : State) (o : Outcome) → (interrupted s o).state.boot ≤ s.boot + 1
interrupted_boot s (Finished regs x) = omega arith
interrupted_boot s (Violated v) = omega arith
interrupted_boot s (Module regs x t e c) = omega arith

step_boot : (set : Setting) (s : State) → (v : Option Violation) → violation_of (step set.mac s).shown.event ≡ v → (step set.mac s).state.boot ≤ s.boot + 1
step_boot set s None e = let b = (onward set.mac s e).boot in omega (arith, b)
step_boot set s (Some v) e = let b = ap (λ (z : State). z.boot) (violates set.mac s v e).state in omega (arith, b)

act_boot : (set : Setting) (a : Act) (s : State) → (acted set.mac a s).state.boot ≤ s.boot + 1
act_boot set act.Step s = step_boot set s _ refl
act_boot set act.Restart s = omega arith
act_boot set (act.Put at bytes) s = let e = gentle_boot set (act.Put at bytes) s tt in omega (arith, e)
act_boot set (act.Set r v) s = let e = gentle_boot set (act.Set r v) s tt in omega (arith, e)
act_boot set (act.Take at k) s = let e = gentle_boot set (act.Take at k) s tt in omega (arith, e)
act_boot set (act.Sense device v) s = let e = gentle_boot set (act.Sense device v) s tt in omega (arith, e)
act_boot set (act.Interrupt line) s = unless_boot (λ k. k ≤ s.boot + 1) (irq_refusal s) s _ (omega arith) (interrupted_boot s (exec s.sections 0 (interrupt line s.regs) (start s)))

-- What happens to one node.

module _ (set : Setting) (w : World) where
  one_few : (k j n : ℕ) (s t : State) (ns : List State) → Few k w → k ≤ j → slice_get w.nodes n ≡ Some s → t.boot ≤ j → ns ≡ slice_set w.nodes n t
      → (m : ℕ) (u : State) → slice_get ns m ≡ Some u → u.boot ≤ j
  one_few k j n s t ns h le there low e m u g =
      let g2 : slice_get (slice_set w.nodes n t) m ≡ Some u = subst (λ (z : List State). slice_get z m ≡ Some u) e g in
      elim (cases_eq m n) [
        | inl same ↦
            let is = ap (λ (z : State). z.boot) (some_inj t u (sym (get_same w.nodes n t s there) ∙ subst (λ k. slice_get (slice_set w.nodes n t) k ≡ Some u) same g2)) in
            omega (arith, low, is)
        | inr ne ↦ let b = h m u (sym (get_other w.nodes n m t ne) ∙ g2) in omega (arith, b, le)
      ]

  at_few : (k j n : ℕ) (f : State → Acted) (a : Act) → Few k w → k ≤ j → ((s : State) → s.boot ≤ k → (acted set.mac a s).state.boot ≤ j)
      → ((s : State) → (f s).world.nodes ≡ slice_set w.nodes n (acted set.mac a s).state)
      → (o : Option State) → slice_get w.nodes n ≡ o → Few j (at_node w f o).world
  at_few k j n f a h le low nodes None e = less_few k j w le h
  at_few k j n f a h le low nodes (Some s) e = one_few k j n s (acted set.mac a s).state (f s).world.nodes h le e (low s (h n s e)) (nodes s)

  -- a gentle act
  gentle_few : (k n : ℕ) (f : State → Acted) (a : Act) → Few k w → Gentle a → ((s : State) → (f s).world.nodes ≡ slice_set w.nodes n (acted set.mac a s).state)
      → Few k (at_node w f (slice_get w.nodes n)).world
  gentle_few k n f a h g nodes = at_few k k n f a h (omega arith) (λ s low. let e = gentle_boot set a s g in omega (arith, e, low)) nodes (slice_get w.nodes n) refl

  -- any act
  act_few : (k n : ℕ) (f : State → Acted) (a : Act) → Few k w → ((s : State) → (f s).world.nodes ≡ slice_set w.nodes n (acted set.mac a s).state)
      → Few (k + 1) (at_node w f (slice_get w.nodes n)).world
  act_few k n f a h nodes = at_few k (k + 1) n f a h (omega arith) (λ s low. let e = act_boot set a s in omega (arith, e, low)) nodes (slice_get w.nodes n) refl

  take_few : (k n at len : ℕ) → Few k w → (o : Option State) → Few k (at_node w (λ s. after_take w n (take_from s at len).shown) o).world
  take_few k n at len h None = h
  take_few k n at len h (Some s) = by (take_from s at len).shown
    where
      by : (r : Result (List ℕ) Refused) → Few k (after_take w n r).world
      by (Ok bytes) = h
      by (Err why) = h

  irq_few : (k n i : ℕ) → Few k w → (o : Option State) → slice_get w.nodes n ≡ o → Few (k + 1) (at_node w (λ s. after_interrupt set w n (irq s i).state (irq s i).shown) o).world
  irq_few k n i h None e = more_few k w h
  irq_few k n i h (Some s) e = by (irq s i).shown
    where
      by : (r : Result Seen Refused) → Few (k + 1) (after_interrupt set w n (irq s i).state r).world
      by (Ok seen) = let low = h n s e in let b = act_boot set (act.Interrupt i) s in one_few k (k + 1) n s (irq s i).state _ h (omega arith) e (omega (arith, low, b)) refl
      by (Err why) = more_few k w h

  give_few : (k n at : ℕ) (o : Option (List ℕ)) → Few k w → Few k (give w n at o).world
  give_few k n at None h = h
  give_few k n at (Some bytes) h = gentle_few k n _ (act.Put at bytes) h tt (λ s. refl)

  sense_few : (k d v : ℕ) (o : Option AppDevice) → Few k w → Few k (sense_at set w d v o).world
  sense_few k d v None h = h
  sense_few k d v (Some y) h = gentle_few k y.node _ (act.Sense (place_at set y.node d) v) h tt (λ s. refl)

  nodes_few : (k : ℕ) (v : World) → Few k w → v.nodes ≡ w.nodes → Few k v
  nodes_few k v h e n s g = h n s (subst (λ (z : List State). slice_get z n ≡ Some s) e g)

-- it resets no node
abbrev Mild : Happening → Type 0
Mild (Step n) = ⊥
Mild (Irq n k) = ⊥
Mild (Reset n) = ⊥
Mild _ = Unit {0}

done_mild : (set : Setting) (k : ℕ) (x : Happening) (w : World) → Mild x → Few k w → Few k (done set x w).world
done_mild set k Begin w g h = h
done_mild set k (Step n) w g h = absurd g
done_mild set k (Put n at bytes) w g h = gentle_few set w k n _ (act.Put at bytes) h tt (λ s. refl)
done_mild set k (Set n r v) w g h = gentle_few set w k n _ (act.Set r v) h tt (λ s. refl)
done_mild set k (Take n at len) w g h = take_few set w k n at len h (slice_get w.nodes n)
done_mild set k (Give p n at) w g h = give_few set w k n at (slice_get w.packets p) h
done_mild set k (Forge bytes) w g h = h
done_mild set k (Sense d v) w g h = sense_few set w k d v (slice_get set.app.devices d) h
done_mild set k (Irq n i) w g h = absurd g
done_mild set k (Reset n) w g h = absurd g
done_mild set k (Ask m) w g h = h
done_mild set k (Answer m boot p) w g h = nodes_few set w k (done set (Answer m boot p) w).world h (answer_keeps set w m boot (slice_get set.sites m) (slice_get w.packets p))
done_mild set k (Show i) w g h = h

done_reset : (set : Setting) (k : ℕ) (x : Happening) (w : World) → Few k w → Few (k + 1) (done set x w).world
done_reset set k (Step n) w h = act_few set w k n (after_step set w n) act.Step h (λ s. refl)
done_reset set k (Irq n i) w h = irq_few set w k n i h (slice_get w.nodes n) refl
done_reset set k (Reset n) w h = act_few set w k n _ act.Restart h (λ s. refl)
done_reset set k Begin w h = more_few k (done set Begin w).world (done_mild set k Begin w tt h)
done_reset set k (Put n at bytes) w h = more_few k (done set (Put n at bytes) w).world (done_mild set k (Put n at bytes) w tt h)
done_reset set k (Set n r v) w h = more_few k (done set (Set n r v) w).world (done_mild set k (Set n r v) w tt h)
done_reset set k (Take n at len) w h = more_few k (done set (Take n at len) w).world (done_mild set k (Take n at len) w tt h)
done_reset set k (Give p n at) w h = more_few k (done set (Give p n at) w).world (done_mild set k (Give p n at) w tt h)
done_reset set k (Forge bytes) w h = more_few k (done set (Forge bytes) w).world (done_mild set k (Forge bytes) w tt h)
done_reset set k (Sense d v) w h = more_few k (done set (Sense d v) w).world (done_mild set k (Sense d v) w tt h)
done_reset set k (Ask m) w h = more_few k (done set (Ask m) w).world (done_mild set k (Ask m) w tt h)
done_reset set k (Answer m boot p) w h = more_few k (done set (Answer m boot p) w).world (done_mild set k (Answer m boot p) w tt h)
done_reset set k (Show i) w h = more_few k (done set (Show i) w).world (done_mild set k (Show i) w tt h)

-- a step that leaves the count of its node's boots leaves all
step_few : (set : Setting) (k n : ℕ) (w : World) (a b : Look) → Few k w → slice_get (looks w) n ≡ Some a
    → slice_get (looks (done set (Step n) w).world) n ≡ Some b → b.boot ≡ a.boot → Few k (done set (Step n) w).world
step_few set k n w a b h la lb same m u g =
    elim (cases_eq m n) [
      | inl e ↦
          let there = subst (λ (i : ℕ). slice_get (done set (Step n) w).world.nodes i ≡ Some u) e g in
          let bu : Some (look u) ≡ Some b = sym (get_map look (done set (Step n) w).world.nodes n u there) ∙ lb in
          let ub = ap (λ (z : Look). z.boot) (some_inj (look u) b bu) in
          let low = first_low (slice_get w.nodes n) refl in
          omega (arith, ub, same, low)
      | inr ne ↦ h m u (other (slice_get w.nodes n) refl m ne u g)
    ]
  where
    first_low : (o : Option State) → slice_get w.nodes n ≡ o → a.boot ≤ k
    first_low None e = absurd (none_some (sym (get_map_none look w.nodes n e) ∙ la))
      where
        none_some : ◌≡◌ {A = Option Look} None (Some a) → ⊥
        none_some e = cc
    first_low (Some s) e =
        let sa = ap (λ (z : Look). z.boot) (some_inj (look s) a (sym (get_map look w.nodes n s e) ∙ la)) in
        let low = h n s e in
        omega (arith, sa, low)

    other : (o : Option State) → slice_get w.nodes n ≡ o → (m : ℕ) → (m ≡ n → ⊥) → (u : State) → slice_get (at_node w (after_step set w n) o).world.nodes m ≡ Some u → slice_get w.nodes m ≡ Some u
    other None e m ne u g = g
    other (Some s) e m ne u g = sym (get_other w.nodes n m (step set.mac s).state ne) ∙ g

-- Scripts. At each moment of a script from here on the boots are at most so many.

abbrev pub AllFew : Setting → ℕ → Script → World → Type 0
AllFew set most End w = Unit {0}
AllFew set most (Do x rest) w = Few most w × AllFew set most (rest (looks (done set x w).world)) (done set x w).world

pub moment_few : (set : Setting) (most k : ℕ) (script : Script) (w : World) (now : Moment) → AllFew set most script w → moment_from set k script w ≡ Some now → Few most now.world
moment_few set most k End w now h e = absurd cc
moment_few set most zero (Do x rest) w now h e = subst (λ (z : Moment). Few most z.world) (some_inj _ now e) h.0
moment_few set most (suc k) (Do x rest) w now h e = moment_few set most k (rest (looks (done set x w).world)) (done set x w).world now h.1 e

module _ (set : Setting) (most : ℕ) where
  -- from each world with at most k boots on
  abbrev From : ℕ → (List Look → Script) → Type 0
  From k f = (w : World) → Few k w → AllFew set most (f (looks w)) w

  abbrev AllMild : List Happening → Type 0
  AllMild [] = Unit {0}
  AllMild (x ∷ xs) = Mild x × AllMild xs

  if_few : (b : Bool) (p q : Script) (w : World) → (b ≡ true → AllFew set most p w) → (b ≡ false → AllFew set most q w) → AllFew set most (if b then p else q) w
  if_few true p q w f g = f refl
  if_few false p q w f g = g refl

  all_few : (k : ℕ) (xs : List Happening) (rest : List Look → Script) → k ≤ most → AllMild xs → From k rest → From k (all xs rest)
  all_few k [] rest le m f w h = f w h
  all_few k (x ∷ xs) rest le m f w h = (less_few k most w le h, all_few k xs rest le m.1 f (done set x w).world (done_mild set k x w m.0 h))

  one_more : (k : ℕ) (x : Happening) (rest : List Look → Script) → k + 1 ≤ most → From (k + 1) rest → From k (λ now. Do x rest)
  one_more k x rest le f w h = (less_few k most w (omega (arith, le)) h, f (done set x w).world (done_reset set k x w h))

  steps_few : (stops : Look → Bool) (last : List Happening) (n i k : ℕ) (rest : List Look → Script) → k + 1 ≤ most → AllMild last → From (k + 1) rest → From k (steps stops last n i rest)
  steps_few stops last n zero k rest le m f = all_few k last rest (omega (arith, le)) m (λ w h. f w (more_few k w h))
  steps_few stops last n (suc i) k rest le m f = by (steps_few stops last n i k rest le m f)
    where
      go : From k (steps stops last n i rest) → (w : World) → Few k w → (a : Look) → slice_get (looks w) n ≡ Some a → (o : Option Look) → slice_get (looks (done set (Step n) w).world) n ≡ o
          → AllFew set most (if ends stops a o then rest (looks (done set (Step n) w).world) else steps stops last n i rest (looks (done set (Step n) w).world)) (done set (Step n) w).world
      go again w h a la None lb = f (done set (Step n) w).world (done_reset set k (Step n) w h)
      go again w h a la (Some b) lb = if_few (ends stops a (Some b)) _ _ (done set (Step n) w).world (λ t. f (done set (Step n) w).world (done_reset set k (Step n) w h))
          (λ t. again (done set (Step n) w).world (step_few set k n w a b h la lb (same_boots (b.boot == a.boot) (stops b) refl t)))
        where
          same_boots : (p q : Bool) → (b.boot == a.boot) ≡ p → (not p || q) ≡ false → b.boot ≡ a.boot
          same_boots true q e g = eqb-true b.boot a.boot e
          same_boots false q e g = absurd (true≢false g)

      at : From k (steps stops last n i rest) → (w : World) → Few k w → (o : Option Look) → slice_get (looks w) n ≡ o
          → AllFew set most (where_node o (λ a. Do (Step n) (λ next. if ends stops a (slice_get next n) then rest next else steps stops last n i rest next)) (rest (looks w))) w
      at again w h None e = f w (more_few k w h)
      at again w h (Some a) e = (less_few k most w (omega (arith, le)) h, go again w h a e (slice_get (looks (done set (Step n) w).world) n) refl)

      by : From k (steps stops last n i rest) → From k (steps stops last n (suc i) rest)
      by again w h = at again w h (slice_get (looks w) n) refl

  finish_few : (n k : ℕ) (rest : List Look → Script) → k + 1 ≤ most → From (k + 1) rest → From k (finishing n rest)
  finish_few n k rest le f = steps_few (λ a. a.cur == 0) (Show (item.Budget n) ∷ []) n FINISH_STEPS k rest le (tt, tt) f

  unless_few : (n k : ℕ) (doing rest : List Look → Script) → k + 1 ≤ most → From k doing → From (k + 1) rest → From k (unless_running n doing rest)
  unless_few n k doing rest le d f w h = by (slice_get (looks w) n)
    where
      by : (o : Option Look) → AllFew set most (where_node o (λ a. if a.cur == 0 then doing (looks w) else Do (Show (item.Busy n)) rest) (rest (looks w))) w
      by None = f w (more_few k w h)
      by (Some a) = if_few (a.cur == 0) (doing (looks w)) (Do (Show (item.Busy n)) rest) w (λ e. d w h) (λ e. (less_few k most w (omega (arith, le)) h, f w (more_few k w h)))

  pieces_mild : (n k at : ℕ) (bytes : List ℕ) → AllMild (pieces n k at bytes)
  pieces_mild n zero at bytes = tt
  pieces_mild n (suc k) at bytes = (tt, pieces_mild n k (at + 1024) (drop 1024 bytes))

  setting_mild : (n : ℕ) (rs : List Register) → AllMild (setting_of n rs)
  setting_mild n [] = tt
  setting_mild n (r ∷ rs) = (tt, setting_mild n rs)

  loading_few : (k : ℕ) (rest : List Look → Script) (o : Option Site) → k + 1 ≤ most → From (k + 1) rest → From k (loading o rest)
  loading_few k rest None le f = λ w h. f w (more_few k w h)
  loading_few k rest (Some site) le f =
      let n = site.node in
      let low : k ≤ most = omega (arith, le) in
      let r3 : List Look → Script = all (Step n ∷ []) rest in
      let r2 : List Look → Script = all (setting_of n (protect_registers site)) r3 in
      let r1 : List Look → Script = all (Put n 0 (0x81 ∷ 0x13 ∷ []) ∷ []) r2 in
      unless_few n k (all (pieces n ((length site.text + 1023) / 1024) site.layout.pub_from site.text) r1) rest le
      (all_few k (pieces n ((length site.text + 1023) / 1024) site.layout.pub_from site.text) r1 low (pieces_mild n ((length site.text + 1023) / 1024) site.layout.pub_from site.text)
      (all_few k (Put n 0 (0x81 ∷ 0x13 ∷ []) ∷ []) r2 low (tt, tt)
      (all_few k (setting_of n (protect_registers site)) r3 low (setting_mild n (protect_registers site))
      (one_more k (Step n) rest le f)))) f

  calling_few : (k e input output : ℕ) (rest : List Look → Script) (o : Option Site) → k + 1 ≤ most → From (k + 1) rest → From k (calling e input output o rest)
  calling_few k e input output rest None le f = λ w h. f w (more_few k w h)
  calling_few k e input output rest (Some site) le f =
      unless_few site.node k (all (setting_of site.node (call_registers site e input output)) (finishing site.node rest)) rest le
      (all_few k (setting_of site.node (call_registers site e input output)) (finishing site.node rest) (omega (arith, le))
      (setting_mild site.node (call_registers site e input output)) (finish_few site.node k rest le f)) f

  line_few : (k : ℕ) (l : Line) (rest : List Look → Script) → k + 1 ≤ most → From (k + 1) rest → From k (line_script set l rest)
  line_few k line.Blank rest le f = λ w h. f w (more_few k w h)
  line_few k (line.Run n i) rest le f = steps_few (λ a. false) [] n i k rest le tt f
  line_few k (line.Finish n) rest le f = finish_few n k rest le f
  line_few k (line.Put n at bytes) rest le f = one_more k (Put n at bytes) rest le f
  line_few k (line.Set n r v) rest le f = one_more k (Set n r v) rest le f
  line_few k (line.Take n at len) rest le f = one_more k (Take n at len) rest le f
  line_few k (line.Give p n at) rest le f = one_more k (Give p n at) rest le f
  line_few k (line.Forge bytes) rest le f = one_more k (Forge bytes) rest le f
  line_few k (line.Sense d v) rest le f = one_more k (Sense d v) rest le f
  line_few k (line.Irq n i) rest le f = one_more k (Irq n i) rest le f
  line_few k (line.Reset n) rest le f = one_more k (Reset n) rest le f
  line_few k (line.Ask m) rest le f = one_more k (Ask m) rest le f
  line_few k (line.Answer m boot p) rest le f = one_more k (Answer m boot p) rest le f
  line_few k (line.Load m) rest le f = loading_few k rest (slice_get set.sites m) le f
  line_few k (line.Call m e input output) rest le f = calling_few k e input output rest (slice_get set.sites m) le f

  lines_few : (lines : List Line) (k : ℕ) → k + length lines ≤ most → From k (λ now. script_of set lines)
  lines_few [] k le w h = tt
  lines_few (l ∷ lines) k le w h =
      (less_few k most w (omega (arith, le)) h, line_few k l (λ now. script_of set lines) (omega (arith, le)) (lines_few lines (k + 1) (omega (arith, le))) (done set Begin w).world h)

  on_few : Few 0 (switched_on set)
  on_few n s e = let r = get_nodes set 0 set.keys n s e in let b = ap (λ (z : State). z.boot) r.1 in omega (arith, b)

  -- at each moment of a schedule's run no node was reset more often than the schedule has lines
  pub boots_few : (lines : List Line) (k : ℕ) (now : Moment) → length lines ≤ most → moment set lines k ≡ Some now → Few most now.world
  boots_few lines k now le e = moment_few set most k (script_of set lines) (switched_on set) now (lines_few lines 0 (omega (arith, le)) (switched_on set) on_few) e
