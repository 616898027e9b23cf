-- No act counts lines.
use Rattle.std.proofs.Common.{◌≡◌, ℕ, zero, suc, ◌+◌, ◌/◌, ◌||◌, ◌==◌, Bool, true, false, if◌then◌else◌, List, [], ◌∷◌, length, take, drop, Option, Some, None, Result, Ok, Err, refl, ◌∙◌, arith}
use Rattle.std.specs.Prelude.{slice_get}
use Rattle.std.specs.Option.{option_flatten}
use Rattle.sx_mean.specs.declared.apps.AppDevice.{AppDevice}
use Rattle.sx_trace.specs.declared.items.Item.{Item}
use Rattle.sx_trace.specs.declared.items.Item.TheVariants as item
use Rattle.sx_sched.specs.Lines.{Line, Blank, Run, Finish, Put, Set, Take, Give, Forge, Sense, Irq, Reset, Ask, Answer, Load, Call}
use Rattle.spec_machine.specs.declared.kinds.Refused.{Refused}
use Rattle.spec_machine.specs.declared.kinds.Seen.{Seen}
use Rattle.spec_machine.specs.State.{State}
use Rattle.spec_machine.specs.Step.{step}
use Rattle.spec_machine.specs.Acts.{put as put_at, set as set_register, take as take_from, sense as sense_on, irq as interrupt}
use Rattle.spec_run.specs.Setting.{Site, Setting}
use Rattle.sx_deployer.specs.Granting.{Grant, grants_after}
use Rattle.spec_run.specs.Deployer.{accepts, after_acceptance}
use Rattle.spec_run.specs.State.{World, Acted}
use Rattle.spec_run.specs.Acts.{only, then_, at_node, after_step, done_on, with_deployer, after_take}
use Rattle.spec_run.specs.Acts.{after_interrupt, key_given, keys_given, attested, after_denial}
use Rattle.spec_run.specs.Acts.{after_verdict, after_answer}
use Rattle.spec_run.specs.Run.{is_reset, steps_of, FINISH_STEPS, finish, put_on, set_on, give, place_at, sense_at, put_pieces, Register, set_all, register, unless_busy, load, call, after_line, line_counted, run}

abbrev Same : World → Acted → Type 0
Same w a = a.world.lines ≡ w.lines

same_then : (w : World) (a : Acted) (rest : World → Acted) → Same w a → ((v : World) → Same v (rest v)) → Same w (then_ a rest)
same_then w a rest f g = g a.world ∙ f

same_at : (w : World) (act : State → Acted) (o : Option State) → ((s : State) → Same w (act s)) → Same w (at_node w act o)
same_at w act None f = refl
same_at w act (Some s) f = f s

same_if : (w : World) (b : Bool) (x y : Acted) → Same w x → Same w y → Same w (if b then x else y)
same_if w true x y f g = f
same_if w false x y f g = g

same_steps : (set : Setting) (stops : State → Bool) (items : List Item) (n k : ℕ) (w : World) → Same w (steps_of set stops items n k w)
same_steps set stops items n zero w = refl
same_steps set stops items n (suc k) w =
    same_at w (λ s. if is_reset (step set.mac s).shown.event || stops (step set.mac s).state then after_step set w n s else then_
    (after_step set w n s) (steps_of set stops items n k)) (slice_get w.nodes n) (λ s.
    same_if w (is_reset (step set.mac s).shown.event || stops (step set.mac s).state) (after_step set w n s) (then_ (after_step set w n s) (steps_of set stops items n k)) refl
    (same_steps set stops items n k (after_step set w n s).world))

same_put : (n at : ℕ) (bytes : List ℕ) (w : World) → Same w (put_on n at bytes w)
same_put n at bytes w = same_at w (λ s. done_on w n [] (put_at s at bytes)) (slice_get w.nodes n) (λ s. refl)

same_set : (n r v : ℕ) (w : World) → Same w (set_on n r v w)
same_set n r v w = same_at w (λ s. done_on w n [] (set_register s r v)) (slice_get w.nodes n) (λ s. refl)

same_give : (w : World) (n at : ℕ) (o : Option (List ℕ)) → Same w (give w n at o)
same_give w n at None = refl
same_give w n at (Some bytes) = same_put n at bytes w

same_all : (n : ℕ) (rs : List Register) (w : World) → Same w (set_all n rs w)
same_all n [] w = refl
same_all n (r ∷ rs) w = same_all n rs (set_on n r.number r.value w).world ∙ same_set n r.number r.value w

same_pieces : (n k at : ℕ) (bytes : List ℕ) (w : World) → Same w (put_pieces n k at bytes w)
same_pieces n zero at bytes w = refl
same_pieces n (suc k) at bytes w = same_pieces n k (at + 1024) (drop 1024 bytes) (put_on n at (take 1024 bytes) w).world ∙ same_put n at (take 1024 bytes) w

same_busy : (n : ℕ) (w : World) (act : World → Acted) → Same w (act w) → Same w (unless_busy n w act)
same_busy n w act f = same_at w (λ s. if s.cur == 0 then act w else only w (item.Busy n ∷ [])) (slice_get w.nodes n) (λ s. same_if w (s.cur == 0) (act w) (only w (item.Busy n ∷ [])) f refl)

same_load : (set : Setting) (w : World) (o : Option Site) → Same w (load set w o)
same_load set w None = refl
same_load set w (Some site) =
    let n = site.node in
    let regs = register 9 site.provider ∷ register 10 site.layout.pub_from ∷ register 11 site.layout.pub_to ∷ register 12 site.layout.priv_from ∷ register 13 site.layout.priv_to ∷ register 0 0 ∷ [] in
    let first = put_pieces n ((length site.text + 1023) / 1024) site.layout.pub_from site.text in
    let second = put_on n 0 (0x81 ∷ 0x13 ∷ []) in
    let third = set_all n regs in
    let last = steps_of set (λ s. false) [] n 1 in
    same_busy n w (λ w0. then_ (first w0) (λ w1. then_ (second w1) (λ w2. then_ (third w2) last)))
    (same_then w (first w) (λ w1. then_ (second w1) (λ w2. then_ (third w2) last)) (same_pieces n ((length site.text + 1023) / 1024) site.layout.pub_from site.text w)
    (λ v. same_then v (second v) (λ w2. then_ (third w2) last) (same_put n 0 (0x81 ∷ 0x13 ∷ []) v)
    (λ u. same_then u (third u) last (same_all n regs u) (λ x. same_steps set (λ s. false) [] n 1 x))))

same_call : (set : Setting) (w : World) (e input output : ℕ) (o : Option Site) → Same w (call set w e input output o)
same_call set w e input output None = refl
same_call set w e input output (Some site) =
    let n = site.node in
    let regs = register 12 e ∷ register 13 input ∷ register 14 output ∷ register 15 0 ∷ register 0 site.layout.pub_from ∷ [] in
    same_busy n w (λ w0. then_ (set_all n regs w0) (finish set n))
    (same_then w (set_all n regs w) (finish set n) (same_all n regs w) (λ v. same_steps set (λ s. s.cur == 0) (item.Budget n ∷ []) n FINISH_STEPS v))

same_sense : (set : Setting) (w : World) (d v : ℕ) (o : Option AppDevice) → Same w (sense_at set w d v o)
same_sense set w d v None = refl
same_sense set w d v (Some x) = same_at w (λ s. done_on w x.node (item.Sense d v ∷ []) (sense_on s (place_at set x.node d) v)) (slice_get w.nodes x.node) (λ s. refl)

same_took : (w : World) (n : ℕ) (r : Result (List ℕ) Refused) → Same w (after_take w n r)
same_took w n (Ok bytes) = refl
same_took w n (Err why) = refl

same_irq : (set : Setting) (w : World) (n : ℕ) (s : State) (r : Result Seen Refused) → Same w (after_interrupt set w n s r)
same_irq set w n s (Ok seen) = refl
same_irq set w n s (Err why) = refl

same_key : (set : Setting) (w : World) (g : Grant) (o : Option Site) → Same w (key_given set w g o)
same_key set w g None = refl
same_key set w g (Some site) = refl

same_keys : (set : Setting) (gs : List Grant) (w : World) → Same w (keys_given set gs w)
same_keys set [] w = refl
same_keys set (g ∷ gs) w =
    let one = key_given set w g (slice_get set.sites g.holder) in
    same_keys set gs one.world ∙ same_key set w g (slice_get set.sites g.holder)

same_judged : (set : Setting) (w : World) (m : ℕ) (site : Site) (boot : ℕ) (answer : List ℕ) (o : Option (List ℕ)) → Same w (after_verdict set w m site boot answer o)
same_judged set w m site boot answer None = refl
same_judged set w m site boot answer (Some ask) =
    let last = option_flatten (slice_get w.deployer.attested m) in
    let d = after_acceptance set.app.links w.deployer m boot last in
    same_if w (accepts set site w.deployer m boot answer (Some ask) last) (attested set w m boot ask last) (after_denial w m)
    (same_keys set (grants_after set.app d m boot last) (with_deployer w d w.ledger)) refl

same_answered : (set : Setting) (w : World) (m boot : ℕ) (o : Option Site) (p : Option (List ℕ)) → Same w (after_answer set w m boot o p)
same_answered set w m boot None p = refl
same_answered set w m boot (Some site) None = refl
same_answered set w m boot (Some site) (Some answer) = same_judged set w m site boot answer (option_flatten (slice_get w.deployer.open_asks m))

pub counts_lines : (set : Setting) (w : World) (line : Line) → (after_line set w line).world.lines ≡ w.lines
counts_lines set w Blank = refl
counts_lines set w (Run n k) = same_steps set (λ s. false) [] n k w
counts_lines set w (Finish n) = same_steps set (λ s. s.cur == 0) (item.Budget n ∷ []) n FINISH_STEPS w
counts_lines set w (Put n at bytes) = same_put n at bytes w
counts_lines set w (Set n r v) = same_set n r v w
counts_lines set w (Take n at len) = same_at w (λ s. after_take w n (take_from s at len).shown) (slice_get w.nodes n) (λ s. same_took w n (take_from s at len).shown)
counts_lines set w (Give k n at) = same_give w n at (slice_get w.packets k)
counts_lines set w (Forge bytes) = refl
counts_lines set w (Sense d v) = same_sense set w d v (slice_get set.app.devices d)
counts_lines set w (Irq n line) = same_at w (λ s. after_interrupt set w n (interrupt s line).state (interrupt s line).shown)
    (slice_get w.nodes n) (λ s. same_irq set w n (interrupt s line).state (interrupt s line).shown)
counts_lines set w (Reset n) = same_at w _ (slice_get w.nodes n) (λ s. refl)
counts_lines set w (Ask m) = refl
counts_lines set w (Answer m boot k) = same_answered set w m boot (slice_get set.sites m) (slice_get w.packets k)
counts_lines set w (Load m) = same_load set w (slice_get set.sites m)
counts_lines set w (Call m e input output) = same_call set w e input output (slice_get set.sites m)

-- a world counts the lines of its run
pub run_counts : (set : Setting) (lines : List Line) (w : World) → (run set w lines).world.lines ≡ w.lines + length lines
run_counts set [] w = omega arith
run_counts set (x ∷ lines) w =
    let after = (after_line set (line_counted w) x).world in
    let rest : (run set after lines).world.lines ≡ after.lines + length lines = run_counts set lines after in
    let one : after.lines ≡ w.lines + 1 = counts_lines set (line_counted w) x in
    omega (arith, rest, one)
