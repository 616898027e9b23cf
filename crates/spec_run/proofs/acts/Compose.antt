-- From each act to the run: every act forges, or goes on to a tied state, and each of its items is so
-- where it is.
use Rattle.std.proofs.Common.{◌≡◌, ℕ, zero, suc, ◌+◌, ◌/◌, ◌<◌, ◌==◌, ◌||◌, Bool, true, false, if◌then◌else◌, List, [], ◌∷◌, length, take, drop, Option, Some, None, refl, arith}
use Rattle.std.specs.Prelude.{slice_get}
use Rattle.sx_trace.specs.declared.items.Item.{Item}
use Rattle.sx_trace.specs.declared.items.Item.TheVariants as item
use Rattle.sx_trace.specs.declared.items.Cause.TheVariants.{Asked}
use Rattle.sx_sched.specs.Lines.{Line, Blank, Run, Finish, Put, Set, Take, Give, Forge, Sense, Irq, Reset, Ask, Answer, Load, Call}
use Rattle.sx_mean.specs.declared.apps.AppDevice.{AppDevice}
use Rattle.spec_machine.specs.State.{State, reset as restarted}
use Rattle.sx_mean.specs.Application.{is_sensor}
use Rattle.sx_model.specs.order.State.{Model}
use Rattle.spec_machine.specs.Step.{step as stepped_node}
use Rattle.spec_machine.specs.Acts.{put as put_at, set as set_register, take as take_from, sense as sense_on, irq as interrupt}
use Rattle.sx_model.specs.Step.{kind_is}
use Rattle.spec_run.specs.Setting.{Site, Setting}
use Rattle.spec_run.specs.State.{World, Acted}
use Rattle.spec_run.specs.Acts.{only, then_, with_node, at_node, after_step, done_on, new_packet, after_take, after_interrupt, ask as asks, after_answer}
use Rattle.spec_run.specs.Run.{is_reset, steps_of, FINISH_STEPS, finish, put_on, set_on, give}
use Rattle.spec_run.specs.Run.{place_at, sense_at, put_pieces, Register, set_all, register}
use Rattle.spec_run.specs.Run.{unless_busy, load, call, after_line, line_counted, run}
use Rattle.spec_run.specs.Law.{LineInForm, LinesInForm}
use Rattle.spec_run.proofs.tie.Verdicts.{judge, Fares, fares_then}
use Rattle.spec_run.proofs.tie.Tied.{Tied}
use Rattle.spec_run.proofs.acts.Walks.{Walks, walks_then}

-- from a tied state the act forges, or it is legal and leads to a tied state; each item is so where it
-- is
abbrev pub Walked : (Setting → Model → Item → Type 0) → Setting → World → Acted → Type 0
Walked P set w a = (mo : Model) → Tied set w mo → Fares (judge set.app mo a.items) (Tied set a.world) × Walks (P set) set.app mo a.items

-- so does each act that a schedule is made of
pub record ActsWalk (P : Setting → Model → Item → Type 0) (set : Setting) : Type 0 where
  pub skip : (s : Model) (n : ℕ) → P set s (item.Skip n)
  pub busy : (s : Model) (n : ℕ) → P set s (item.Busy n)
  pub budget : (s : Model) (n : ℕ) → P set s (item.Budget n)
  pub denied : (s : Model) (m : ℕ) → P set s (item.Denied m)
  pub step : (w : World) (n : ℕ) (s : State) → slice_get w.nodes n ≡ Some s → Walked P set w (after_step set w n s)
  pub put : (w : World) (n at : ℕ) (bytes : List ℕ) (s : State) → slice_get w.nodes n ≡ Some s → Walked P set w (done_on w n [] (put_at s at bytes))
  pub set_ : (w : World) (n r v : ℕ) (s : State) → r < 16 → v < 65536 → slice_get w.nodes n ≡ Some s → Walked P set w (done_on w n [] (set_register s r v))
  pub take : (w : World) (n at len : ℕ) (s : State) → slice_get w.nodes n ≡ Some s → Walked P set w (after_take w n (take_from s at len).shown)
  pub packet : (w : World) (bytes : List ℕ) → Walked P set w (new_packet w bytes)
  pub sense : (w : World) (d v : ℕ) (x : AppDevice) (s : State) → slice_get set.app.devices d ≡ Some x → is_sensor x.kind ≡ true → v < 32768 → slice_get w.nodes x.node ≡ Some s
      → Walked P set w (done_on w x.node (item.Sense d v ∷ []) (sense_on s (place_at set x.node d) v))
  pub irq : (w : World) (n line : ℕ) (s : State) → line < 15 → slice_get w.nodes n ≡ Some s → Walked P set w (after_interrupt set w n (interrupt s line).state (interrupt s line).shown)
  pub reset : (w : World) (n : ℕ) (s : State) → slice_get w.nodes n ≡ Some s → Walked P set w (record { world = with_node w n (restarted s) w.ledger w.steps; items = item.Reset n Asked ∷ [] })
  pub ask : (w : World) (m : ℕ) → m < length set.app.parts → w.lines < 65536 → (mo : Model) → Tied set w mo
      → Fares (judge set.app mo (asks (line_counted w) m).items) (Tied set (asks (line_counted w) m).world) × Walks (P set) set.app mo (asks (line_counted w) m).items
  pub answer : (w : World) (m boot : ℕ) (answer : List ℕ) (site : Site) → slice_get set.sites m ≡ Some site → Walked P set w (after_answer set w m boot (Some site) (Some answer))

-- a site's numbers are those of registers
pub record IsWordly (site : Site) : Type 0 where
  pub provider : site.provider < 65536
  pub pub_from : site.layout.pub_from < 65536
  pub pub_to : site.layout.pub_to < 65536
  pub priv_from : site.layout.priv_from < 65536
  pub priv_to : site.layout.priv_to < 65536

-- so are all sites'
abbrev pub Wordly : Setting → Type 0
Wordly set = (m : ℕ) (site : Site) → slice_get set.sites m ≡ Some site → IsWordly site

-- no line's act counts lines
abbrev pub CountsLines : Setting → Type 0
CountsLines set = (w : World) (line : Line) → (after_line set w line).world.lines ≡ w.lines

-- a line that begins is counted
tied_counted : (set : Setting) (w : World) (mo : Model) → w.lines < 65536 → Tied set w mo → Tied set (line_counted w) mo
tied_counted set w mo lt t = record {
  size = record {
    nodes = t.size.nodes;
    boots = t.size.boots;
    devices = t.size.devices;
    modules =
        t.size.modules;
    epochs = t.size.epochs;
    sent = t.size.sent;
    asks = t.size.asks;
    attested = t.size.attested;
  };
  nodes = t.nodes;
  devices = t.devices;
  modules = t.modules;
  asks = t.asks;
  few = omega (arith, t.few);
  short = omega (arith, lt);
  recent = t.recent;
  deployer = t.deployer;
  epochs = t.epochs;
  ledger = t.ledger;
  sane = t.sane;
}

module _ (P : Setting → Model → Item → Type 0) (set : Setting) (keep : ActsWalk P set) where
  keeps_nothing : (w : World) → Walked P set w (only w [])
  keeps_nothing w mo t = (t, tt)

  keeps_then : (w : World) (a : Acted) (rest : World → Acted) → Walked P set w a → Walked P set a.world (rest a.world) → Walked P set w (then_ a rest)
  keeps_then w a rest f g mo t = (
    fares_then set.app mo a.items (rest a.world).items (Tied set a.world) (Tied set (rest a.world).world) (f mo t).0 (λ u tu. (g u tu).0),
    walks_then (P set) set.app mo a.items (rest a.world).items (Tied set a.world) (f mo t).0 (f mo t).1 (λ u tu. (g u tu).1),
  )

  keeps_at : (w : World) (act : State → Acted) (n : ℕ) (o : Option State) → slice_get w.nodes n ≡ o → ((s : State) → slice_get w.nodes n ≡ Some s → Walked P set w (act s)) → Walked P set w (at_node w act o)
  keeps_at w act n None e f = keeps_nothing w
  keeps_at w act n (Some s) e f = f s e

  keeps_if : (w : World) (b : Bool) (x y : Acted) → Walked P set w x → Walked P set w y → Walked P set w (if b then x else y)
  keeps_if w true x y f g = f
  keeps_if w false x y f g = g

  keeps_steps : (stops : State → Bool) (items : List Item) (n k : ℕ) (w : World) → ((w : World) → Walked P set w (only w items)) → Walked P set w (steps_of set stops items n k w)
  keeps_steps stops items n zero w f = f w
  keeps_steps stops items n (suc k) w f =
      keeps_at w (λ s. if is_reset (stepped_node set.mac s).shown.event || stops
      (stepped_node set.mac s).state then after_step set w n s else then_ (after_step set w n s) (steps_of set stops items n k)) n
      (slice_get w.nodes n) refl (λ s e.
      keeps_if w (is_reset (stepped_node set.mac s).shown.event || stops (stepped_node set.mac s).state)
      (after_step set w n s) (then_ (after_step set w n s) (steps_of set stops items n k)) (keep.step w n s e)
      (keeps_then w (after_step set w n s) (steps_of set stops items n k) (keep.step w n s e) (keeps_steps stops items n k (after_step set w n s).world f)))

  keeps_finish : (n : ℕ) (w : World) → Walked P set w (finish set n w)
  keeps_finish n w = keeps_steps (λ s. s.cur == 0) (item.Budget n ∷ []) n FINISH_STEPS w (λ w mo t. (t, (keep.budget mo n, tt)))

  keeps_put : (n at : ℕ) (bytes : List ℕ) (w : World) → Walked P set w (put_on n at bytes w)
  keeps_put n at bytes w = keeps_at w (λ s. done_on w n [] (put_at s at bytes)) n (slice_get w.nodes n) refl (λ s e. keep.put w n at bytes s e)

  keeps_set : (n r v : ℕ) (w : World) → r < 16 → v < 65536 → Walked P set w (set_on n r v w)
  keeps_set n r v w a b = keeps_at w (λ s. done_on w n [] (set_register s r v)) n (slice_get w.nodes n) refl (λ s e. keep.set_ w n r v s a b e)

  keeps_give : (w : World) (n at : ℕ) (o : Option (List ℕ)) → Walked P set w (give w n at o)
  keeps_give w n at None = λ mo t. (t, (keep.skip mo n, tt))
  keeps_give w n at (Some bytes) = keeps_put n at bytes w

  abbrev AreRegisters : List Register → Type 0
  AreRegisters [] = Unit {0}
  AreRegisters (r ∷ rs) = ((r.number < 16) × (r.value < 65536)) × AreRegisters rs

  keeps_set_all : (n : ℕ) (rs : List Register) (w : World) → AreRegisters rs → Walked P set w (set_all n rs w)
  keeps_set_all n [] w h = keeps_nothing w
  keeps_set_all n (r ∷ rs) w h = keeps_then w (set_on n r.number r.value w) (set_all n rs) (keeps_set n r.number r.value w h.0.0 h.0.1) (keeps_set_all n rs (set_on n r.number r.value w).world h.1)

  keeps_pieces : (n k at : ℕ) (bytes : List ℕ) (w : World) → Walked P set w (put_pieces n k at bytes w)
  keeps_pieces n zero at bytes w = keeps_nothing w
  keeps_pieces n (suc k) at bytes w =
      keeps_then w (put_on n at (take 1024 bytes) w) (put_pieces n k (at + 1024) (drop 1024 bytes))
      (keeps_put n at (take 1024 bytes) w) (keeps_pieces n k (at + 1024) (drop 1024 bytes) (put_on n at (take 1024 bytes) w).world)

  keeps_unless_busy : (n : ℕ) (w : World) (act : World → Acted) → Walked P set w (act w) → Walked P set w (unless_busy n w act)
  keeps_unless_busy n w act f = keeps_at w (λ s. if s.cur == 0 then act w else only w (item.Busy n ∷ [])) n (slice_get w.nodes n) refl (λ s e.
      keeps_if w (s.cur == 0) (act w) (only w (item.Busy n ∷ [])) f (λ mo t. (t, (keep.busy mo n, tt))))

  keeps_load : (w : World) (o : Option Site) → ((site : Site) → o ≡ Some site → IsWordly site) → Walked P set w (load set w o)
  keeps_load w None f = keeps_nothing w
  keeps_load w (Some site) f =
      let n = site.node in
      let h = f site refl in
      let regs = register 9 site.provider ∷ register 10 site.layout.pub_from ∷ register 11 site.layout.pub_to
      ∷ register 12 site.layout.priv_from ∷ register 13 site.layout.priv_to ∷ register 0 0 ∷ [] in
      let first = put_pieces n ((length site.text + 1023) / 1024) site.layout.pub_from site.text in
      let second = put_on n 0 (0x81 ∷ 0x13 ∷ []) in
      let third = set_all n regs in
      let last = steps_of set (λ s. false) [] n 1 in
      let are : AreRegisters regs = (
        (omega arith, h.provider),
        (
          (omega arith, h.pub_from),
          (
            (omega arith, h.pub_to),
            ((omega arith, h.priv_from), ((omega arith, h.priv_to), ((omega arith, omega arith), tt))),
          ),
        ),
      ) in
      keeps_unless_busy n w (λ w0. then_ (first w0) (λ w1. then_ (second w1) (λ w2. then_ (third w2) last)))
      (keeps_then w (first w) (λ w1. then_ (second w1) (λ w2. then_ (third w2) last)) (keeps_pieces n ((length site.text + 1023) / 1024) site.layout.pub_from site.text w)
      (keeps_then (first w).world (second (first w).world) (λ w2. then_ (third w2) last) (keeps_put n 0 (0x81 ∷ 0x13 ∷ []) (first w).world)
      (keeps_then (second (first w).world).world (third (second (first w).world).world) last (keeps_set_all n regs (second (first w).world).world are)
      (keeps_steps (λ s. false) [] n 1 (third (second (first w).world).world).world keeps_nothing))))

  keeps_call : (w : World) (e input output : ℕ) (o : Option Site) → ((site : Site) → o ≡ Some site → IsWordly site)
      → e < 65536 → input < 65536 → output < 65536 → Walked P set w (call set w e input output o)
  keeps_call w e input output None f a b c = keeps_nothing w
  keeps_call w e input output (Some site) f a b c =
      let n = site.node in
      let h = f site refl in
      let regs = register 12 e ∷ register 13 input ∷ register 14 output ∷ register 15 0 ∷ register 0 site.layout.pub_from ∷ [] in
      let are : AreRegisters regs = ((omega arith, a), ((omega arith, b), ((omega arith, c), ((omega arith, omega arith), ((omega arith, h.pub_from), tt))))) in
      keeps_unless_busy n w (λ w0. then_ (set_all n regs w0) (finish set n))
      (keeps_then w (set_all n regs w) (finish set n) (keeps_set_all n regs w are) (keeps_finish n (set_all n regs w).world))

  keeps_sense : (w : World) (d v : ℕ) (o : Option AppDevice) → slice_get set.app.devices d ≡ o → kind_is is_sensor o ≡ true → v < 32768 → Walked P set w (sense_at set w d v o)
  keeps_sense w d v None e k lt = keeps_nothing w
  keeps_sense w d v (Some x) e k lt =
      keeps_at w (λ s. done_on w x.node (item.Sense d v ∷ []) (sense_on s (place_at set x.node d) v)) x.node (slice_get w.nodes x.node) refl (λ s g. keep.sense w d v x s e k lt g)

  keeps_answer : (w : World) (m boot : ℕ) (o : Option Site) (p : Option (List ℕ)) → slice_get set.sites m ≡ o → Walked P set w (after_answer set w m boot o p)
  keeps_answer w m boot None p e = λ mo t. (t, (keep.denied mo m, tt))
  keeps_answer w m boot (Some site) None e = λ mo t. (t, (keep.denied mo m, tt))
  keeps_answer w m boot (Some site) (Some answer) e = keep.answer w m boot answer site e

  keeps_line : Wordly set → (w : World) (line : Line) → w.lines < 65536 → LineInForm set line → Walked P set w (after_line set (line_counted w) line)
  keeps_line words w Blank lt form mo t = (tied_counted set w mo lt t, tt)
  keeps_line words w (Run n k) lt form mo t = keeps_steps (λ s. false) [] n k (line_counted w) keeps_nothing mo (tied_counted set w mo lt t)
  keeps_line words w (Finish n) lt form mo t = keeps_finish n (line_counted w) mo (tied_counted set w mo lt t)
  keeps_line words w (Put n at bytes) lt form mo t = keeps_put n at bytes (line_counted w) mo (tied_counted set w mo lt t)
  keeps_line words w (Set n r v) lt form mo t = keeps_set n r v (line_counted w) form.0 form.1 mo (tied_counted set w mo lt t)
  keeps_line words w (Take n at len) lt form mo t =
      keeps_at (line_counted w) (λ s. after_take (line_counted w) n (take_from s at len).shown) n
      (slice_get w.nodes n) refl (λ s e. keep.take (line_counted w) n at len s e) mo (tied_counted set w mo lt t)
  keeps_line words w (Give k n at) lt form mo t = keeps_give (line_counted w) n at (slice_get w.packets k) mo (tied_counted set w mo lt t)
  keeps_line words w (Forge bytes) lt form mo t = keep.packet (line_counted w) bytes mo (tied_counted set w mo lt t)
  keeps_line words w (Sense d v) lt form mo t = keeps_sense (line_counted w) d v (slice_get set.app.devices d) refl form.0 form.1 mo (tied_counted set w mo lt t)
  keeps_line words w (Irq n line) lt form mo t =
      keeps_at (line_counted w) (λ s. after_interrupt set (line_counted w) n (interrupt s line).state (interrupt s line).shown) n
      (slice_get w.nodes n) refl (λ s e. keep.irq (line_counted w) n line s form e) mo (tied_counted set w mo lt t)
  keeps_line words w (Reset n) lt form mo t =
      keeps_at (line_counted w) (λ s. record { world = with_node (line_counted w) n (restarted s) w.ledger w.steps; items = item.Reset n Asked ∷ [] })
      n (slice_get w.nodes n) refl (λ s e. keep.reset (line_counted w) n s e) mo (tied_counted set w mo lt t)
  keeps_line words w (Ask m) lt form mo t = keep.ask w m form lt mo t
  keeps_line words w (Answer m boot k) lt form mo t = keeps_answer (line_counted w) m boot (slice_get set.sites m) (slice_get w.packets k) refl mo (tied_counted set w mo lt t)
  keeps_line words w (Load m) lt form mo t = keeps_load (line_counted w) (slice_get set.sites m) (words m) mo (tied_counted set w mo lt t)
  keeps_line words w (Call m e input output) lt form mo t = keeps_call (line_counted w) e input output (slice_get set.sites m) (words m) form.0 form.1 form.2 mo (tied_counted set w mo lt t)

  pub keeps_run : Wordly set → CountsLines set → (lines : List Line) (w : World) → w.lines + length lines < 65537 → LinesInForm set lines → Walked P set w (run set w lines)
  keeps_run words counts [] w few form = keeps_nothing w
  keeps_run words counts (line ∷ lines) w few form =
      keeps_then w (after_line set (line_counted w) line) (λ v. run set v lines) (keeps_line words w line (omega (arith, few)) form.0)
      (keeps_run words counts lines (after_line set (line_counted w) line).world (rw (counts (line_counted w) line) (omega (arith, few))) form.1)
