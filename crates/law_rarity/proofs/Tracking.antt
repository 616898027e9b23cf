-- Each moment of a run that shows no `forged` leads to a world that is tied to the source.
use Rattle.std.proofs.Common.{◌≡◌, ◌==◌, ℕ, zero, suc, ◌+◌, ◌/◌, ◌<◌, ◌≤◌, ◌⊎◌, inl, inr, Bool, true, false, cond, List, [], ◌∷◌, length, drop, Option, Some, None, refl, sym, ◌∙◌, subst, arith}
use Rattle.std.specs.Prelude.{slice_get}
use Rattle.sx_trace.specs.declared.items.Item.{Item}
use Rattle.sx_trace.specs.declared.items.Item.TheVariants as item
use Rattle.sx_sched.specs.Lines as line
use Rattle.sx_sched.specs.Lines.{Line}
use Rattle.sx_mean.specs.Application.{AppTree, is_sensor}
use Rattle.sx_mean.specs.declared.apps.AppDevice.{AppDevice}
use Rattle.sx_model.specs.order.State.{Model, power_on}
use Rattle.sx_model.specs.order.Step.{step as model_step}
use Rattle.sx_model.specs.Step.{kind_is}
use Rattle.sx_model.specs.Legal.{is_forged}
use Rattle.spec_machine.specs.State.{State}
use Rattle.spec_run.specs.Setting.{Setting, Site}
use Rattle.spec_run.specs.State.{World, Acted, switched_on}
use Rattle.spec_run.specs.Acts.{at_node}
use Rattle.spec_run.specs.Run.{FINISH_STEPS, Register, protect_registers, call_registers, line_counted}
use Rattle.spec_run.specs.Law.{IsSoundSetting, LineInForm, LinesInForm}
use Rattle.spec_run.proofs.tie.Lists.{some_inj}
use Rattle.spec_run.proofs.tie.Verdicts.{Fares, judge, judge_on, Verdict, Over}
use Rattle.spec_run.proofs.tie.Tied.{Tied}
use Rattle.spec_run.proofs.tie.Start.{starts_tied}
use Rattle.spec_run.proofs.acts.Compose.{Walked, ActsWalk, keeps_run}
use Rattle.spec_run.proofs.acts.Counting.{counts_lines}
use Rattle.spec_run.proofs.ActsKeep.{are_wordly}
use Rattle.spec_run.proofs.acts.Walks.{Walks}
use Rattle.spec_run.proofs.ActsWalk.{Always, Easy, acts_walk, each_all, each_walks}
use Rattle.law_isolation.specs.Happening.{Happening, Begin, Step, Put, Set, Take, Give, Forge, Sense, Irq, Reset, Ask, Answer, Show, done}
use Rattle.law_isolation.specs.Script.{Look, Script, Do, looks}
use Rattle.law_isolation.specs.Lines.{all, ends, where_node, steps, finishing, unless_running, pieces, setting_of, loading, calling, line_script, script_of}
use Rattle.law_forgery.specs.Moments.{Moment, moment_from, moment, shown_at, NoForged}
use Rattle.law_forgery.proofs.Forging.{forged_is}

-- Acts of a run, and no more of their items than that they are legal.

abbrev Any : Setting → Model → Item → Type 0
Any set s i = Unit {0}

easy : (set : Setting) → Easy Any set
easy set = record {
  reset = λ n c s. tt;
  ask = λ m a s. tt;
  attested = λ m b s. tt;
  denied = λ m s. tt;
  packet = λ k n s. tt;
  forged = λ m s. tt;
  busy = λ n s. tt;
  skip = λ n s. tt;
  budget = λ n s. tt;
}

any : (set : Setting) (s : Model) (items : List Item) → Walks (Any set) set.app s items
any set s items = each_walks Any set s items (each_all (Always Any set) (λ i s. tt) items)

keep : (set : Setting) → IsSoundSetting set → ActsWalk Any set
keep set sound = acts_walk Any set (easy set) sound (λ w n s here mo t. any set mo _) (λ w d v x s dev sensor lt here mo t. any set mo _) (λ w n line s lt here mo t. any set mo _)

still_head : (i : Item) (items : List Item) (b : Bool) (o : Option Model) (f : Model → Verdict) (good : Model → Type 0) → is_forged i ≡ b → NoForged (i ∷ items)
    → ((u : Model) → Fares (f u) good → (t : Model) × good t) → Fares (cond b Over (judge_on o f)) good → (t : Model) × good t
still_head i items true o f good e none k h = let n = forged_is i e in absurd (none n.0 (inl n.1))
still_head i items false None f good e none k h = absurd h
still_head i items false (Some u) f good e none k h = k u h

still : (app : AppTree) (s : Model) (items : List Item) (good : Model → Type 0) → NoForged items → Fares (judge app s items) good → (t : Model) × good t
still app s [] good none h = (s, h)
still app s (i ∷ items) good none h =
    still_head i items (is_forged i) (model_step app s i) (λ t. judge app t items) good refl none
    (λ u g. still app u items good (λ who m. none who (inr m)) g) h

module _ (set : Setting) (sound : IsSoundSetting set) where
  abbrev Moves : World → Acted → Type 0
  Moves = Walked Any set

  abbrev kept : ActsWalk Any set
  kept = keep set sound

  nothing : (w : World) → Moves w (record { world = w; items = [] })
  nothing w mo t = (t, tt)

  at_moves : (w : World) (act : State → Acted) (n : ℕ) (o : Option State) → slice_get w.nodes n ≡ o → ((s : State) → slice_get w.nodes n ≡ Some s → Moves w (act s)) → Moves w (at_node w act o)
  at_moves w act n None e f = nothing w
  at_moves w act n (Some s) e f = f s e

  -- what happens in a line, but the line's beginning and an ask
  abbrev Fits : Happening → Type 0
  Fits Begin = ⊥
  Fits (Set n r v) = (r < 16) × (v < 65536)
  Fits (Sense d v) = (kind_is is_sensor (slice_get set.app.devices d) ≡ true) × (v < 32768)
  Fits (Irq n k) = k < 15
  Fits (Ask m) = ⊥
  Fits (Show (item.Busy n)) = Unit {0}
  Fits (Show (item.Budget n)) = Unit {0}
  Fits (Show i) = ⊥
  Fits x = Unit {0}

  shown : (w : World) (i : Item) → Fits (Show i) → Moves w (done set (Show i) w)
  shown w (item.Busy n) f mo t = (t, (tt, tt))
  shown w (item.Budget n) f mo t = (t, (tt, tt))
  shown w i f mo t = absurd f

  given : (w : World) (k n at : ℕ) (o : Option (List ℕ)) → slice_get w.packets k ≡ o → Moves w (done set (Give k n at) w)
  given w k n at None e = subst (λ (o : Option (List ℕ)). Moves w (Rattle.spec_run.specs.Run.give w n at o)) (sym e) (λ mo t. (t, (tt, tt)))
  given w k n at (Some bytes) e =
      subst (λ (o : Option (List ℕ)). Moves w (Rattle.spec_run.specs.Run.give w n at o)) (sym e)
      (at_moves w _ n (slice_get w.nodes n) refl (λ s g. kept.put w n at bytes s g))

  sensed : (w : World) (d v : ℕ) (o : Option AppDevice) → slice_get set.app.devices d ≡ o → kind_is is_sensor o ≡ true → v < 32768 → Moves w (Rattle.spec_run.specs.Run.sense_at set w d v o)
  sensed w d v None e k lt = nothing w
  sensed w d v (Some x) e k lt = at_moves w _ x.node (slice_get w.nodes x.node) refl (λ s g. kept.sense w d v x s e k lt g)

  answered : (w : World) (m boot : ℕ) (o : Option Site) (p : Option (List ℕ)) → slice_get set.sites m ≡ o → Moves w (Rattle.spec_run.specs.Acts.after_answer set w m boot o p)
  answered w m boot None p e mo t = (t, (tt, tt))
  answered w m boot (Some site) None e mo t = (t, (tt, tt))
  answered w m boot (Some site) (Some answer) e mo t = kept.answer w m boot answer site e mo t

  moves : (x : Happening) (w : World) → Fits x → Moves w (done set x w)
  moves Begin w f = absurd f
  moves (Step n) w f = at_moves w _ n (slice_get w.nodes n) refl (λ s e. kept.step w n s e)
  moves (Put n at bytes) w f = at_moves w _ n (slice_get w.nodes n) refl (λ s e. kept.put w n at bytes s e)
  moves (Set n r v) w f = at_moves w _ n (slice_get w.nodes n) refl (λ s e. kept.set_ w n r v s f.0 f.1 e)
  moves (Take n at len) w f = at_moves w _ n (slice_get w.nodes n) refl (λ s e. kept.take w n at len s e)
  moves (Give k n at) w f = given w k n at (slice_get w.packets k) refl
  moves (Forge bytes) w f = kept.packet w bytes
  moves (Sense d v) w f = sensed w d v (slice_get set.app.devices d) refl f.0 f.1
  moves (Irq n k) w f = at_moves w _ n (slice_get w.nodes n) refl (λ s e. kept.irq w n k s f e)
  moves (Reset n) w f = at_moves w _ n (slice_get w.nodes n) refl (λ s e. kept.reset w n s e)
  moves (Ask m) w f = absurd f
  moves (Answer m boot k) w f = answered w m boot (slice_get set.sites m) (slice_get w.packets k) refl
  moves (Show i) w f = shown w i f

  step_lines : (n : ℕ) (w : World) (o : Option State) → (at_node w (Rattle.spec_run.specs.Acts.after_step set w n) o).world.lines ≡ w.lines
  step_lines n w None = refl
  step_lines n w (Some s) = refl

  same_lines : (x : Happening) (w : World) → Fits x → (done set x w).world.lines ≡ w.lines
  same_lines Begin w f = absurd f
  same_lines (Step n) w f = step_lines n w (slice_get w.nodes n)
  same_lines (Put n at bytes) w f = counts_lines set w (line.Put n at bytes)
  same_lines (Set n r v) w f = counts_lines set w (line.Set n r v)
  same_lines (Take n at len) w f = counts_lines set w (line.Take n at len)
  same_lines (Give k n at) w f = counts_lines set w (line.Give k n at)
  same_lines (Forge bytes) w f = counts_lines set w (line.Forge bytes)
  same_lines (Sense d v) w f = counts_lines set w (line.Sense d v)
  same_lines (Irq n k) w f = counts_lines set w (line.Irq n k)
  same_lines (Reset n) w f = counts_lines set w (line.Reset n)
  same_lines (Ask m) w f = absurd f
  same_lines (Answer m boot k) w f = counts_lines set w (line.Answer m boot k)
  same_lines (Show i) w f = refl

  -- Scripts.

  abbrev Quiet : ℕ → Script → World → Type 0
  Quiet k script w = (j : ℕ) (past : Moment) → j ≤ k → moment_from set j script w ≡ Some past → NoForged (shown_at set past)

  -- from a tied world each moment leads to one, as long as none shows a `forged`
  abbrev pub Tracks : Script → World → Type 0
  Tracks script w = (mo : Model) → Tied set w mo → (k : ℕ) (now : Moment) → moment_from set k script w ≡ Some now → Quiet k script w
      → (u : Model) × Tied set (done set now.next now.world).world u

  first_tied : (x : Happening) (rest : List Look → Script) (w : World) → Moves w (done set x w) → (mo : Model) → Tied set w mo → (k : ℕ) → Quiet k (Do x rest) w
      → (u : Model) × Tied set (done set x w).world u
  first_tied x rest w moved mo t k quiet =
      still set.app mo (done set x w).items (Tied set (done set x w).world) (quiet 0 (record { next = x; world = w }) (omega arith) refl) (moved mo t).0

  do_tracks : (x : Happening) (rest : List Look → Script) (w : World) → Moves w (done set x w) → Tracks (rest (looks (done set x w).world)) (done set x w).world → Tracks (Do x rest) w
  do_tracks x rest w moved after mo t zero now e quiet =
      subst (λ (z : Moment). (u : Model) × Tied set (done set z.next z.world).world u) (some_inj (record { next = x; world = w }) now e) (first_tied x rest w moved mo t 0 quiet)
  do_tracks x rest w moved after mo t (suc k) now e quiet =
      let f = first_tied x rest w moved mo t (suc k) quiet in
      after f.0 f.1 k now e (λ j past le g. quiet (suc j) past (omega (arith, le)) g)

  -- what follows in a world with so many lines
  abbrev Good : ℕ → (List Look → Script) → Type 0
  Good l f = (w : World) → w.lines ≡ l → Tracks (f (looks w)) w

  do_good : (l : ℕ) (x : Happening) (f : List Look → Script) → Fits x → Good l f → (w : World) → w.lines ≡ l → Tracks (Do x f) w
  do_good l x f fit h w e = do_tracks x f w (moves x w fit) (h (done set x w).world (same_lines x w fit ∙ e))

  abbrev AllFit : List Happening → Type 0
  AllFit [] = Unit {0}
  AllFit (x ∷ xs) = Fits x × AllFit xs

  module _ (l : ℕ) where
    all_good : (xs : List Happening) (f : List Look → Script) → AllFit xs → Good l f → Good l (all xs f)
    all_good [] f fit h w e = h w e
    all_good (x ∷ xs) f fit h w e = do_good l x (all xs f) fit.0 (all_good xs f fit.1 h) w e

    if_tracks : (b : Bool) (p q : Script) (w : World) → Tracks p w → Tracks q w → Tracks (cond b p q) w
    if_tracks true p q w f g = f
    if_tracks false p q w f g = g

    steps_good : (stops : Look → Bool) (last : List Happening) (n k : ℕ) (f : List Look → Script) → AllFit last → Good l f → Good l (steps stops last n k f)
    steps_good stops last n zero f fit h w e = all_good last f fit h w e
    steps_good stops last n (suc k) f fit h w e = by (slice_get (looks w) n) (steps_good stops last n k f fit h)
      where
        by : (o : Option Look) → Good l (steps stops last n k f)
            → Tracks (where_node o (λ a. Do (Step n) (λ next. cond (ends stops a (slice_get next n)) (f next) (steps stops last n k f next))) (f (looks w))) w
        by None more = h w e
        by (Some a) more =
            do_good l (Step n) (λ next. cond (ends stops a (slice_get next n)) (f next) (steps stops last n k f next)) tt
            (λ v g. if_tracks (ends stops a (slice_get (looks v) n)) (f (looks v)) (steps stops last n k f (looks v)) v (h v g) (more v g)) w e

    unless_good : (n : ℕ) (doing f : List Look → Script) → Good l doing → Good l f → Good l (unless_running n doing f)
    unless_good n doing f d h w e = by (slice_get (looks w) n)
      where
        by : (o : Option Look) → Tracks (where_node o (λ a. cond (a.cur == 0) (doing (looks w)) (Do (Show (item.Busy n)) f)) (f (looks w))) w
        by None = h w e
        by (Some a) = if_tracks (a.cur == 0) (doing (looks w)) (Do (Show (item.Busy n)) f) w (d w e) (do_good l (Show (item.Busy n)) f tt h w e)

    finishing_good : (n : ℕ) (f : List Look → Script) → Good l f → Good l (finishing n f)
    finishing_good n f h = steps_good (λ a. a.cur == 0) (Show (item.Budget n) ∷ []) n FINISH_STEPS f (tt, tt) h

    pieces_fit : (n k at : ℕ) (bytes : List ℕ) → AllFit (pieces n k at bytes)
    pieces_fit n zero at bytes = tt
    pieces_fit n (suc k) at bytes = (tt, pieces_fit n k (at + 1024) (drop 1024 bytes))

    loading_good : (o : Option Site) (i : ℕ) (f : List Look → Script) → slice_get set.sites i ≡ o → Good l f → Good l (loading o f)
    loading_good None i f q h w e = h w e
    loading_good (Some site) i f q h w e =
        let g = are_wordly set sound i site q in
        let n = site.node in
        let regs = setting_of n (protect_registers site) in
        let put = pieces n ((length site.text + 1023) / 1024) site.layout.pub_from site.text in
        let code = Put n 0 (0x81 ∷ 0x13 ∷ []) ∷ [] in
        let f3 = all (Step n ∷ []) f in
        let f2 = all regs f3 in
        let f1 = all code f2 in
        unless_good n (all put f1) f
        (all_good put f1 (pieces_fit n ((length site.text + 1023) / 1024) site.layout.pub_from site.text)
        (all_good code f2 (tt, tt)
        (all_good regs f3 ((omega arith, g.provider), ((omega arith, g.pub_from), ((omega arith, g.pub_to), ((omega arith, g.priv_from), ((omega arith, g.priv_to), ((omega arith, omega arith), tt))))))
        (all_good (Step n ∷ []) f (tt, tt) h)))) h w e

    calling_good : (a input output i : ℕ) (o : Option Site) (f : List Look → Script) → slice_get set.sites i ≡ o → (a < 65536) × (input < 65536) × (output < 65536) → Good l f → Good l (calling a input output o f)
    calling_good a input output i None f q form h w e = h w e
    calling_good a input output i (Some site) f q form h w e =
        let g = are_wordly set sound i site q in
        let n = site.node in
        let regs = setting_of n (call_registers site a input output) in
        unless_good n (all regs (finishing n f)) f
        (all_good regs (finishing n f) ((omega arith, form.0), ((omega arith, form.1), ((omega arith, form.2), ((omega arith, omega arith), ((omega arith, g.pub_from), tt))))) (finishing_good n f h)) h w e

    abbrev NoAsk : Line → Type 0
    NoAsk (line.Ask m) = ⊥
    NoAsk x = Unit {0}

    line_good : (x : Line) → NoAsk x → LineInForm set x → (f : List Look → Script) → Good l f → Good l (line_script set x f)
    line_good line.Blank calm form f h w e = h w e
    line_good (line.Run n k) calm form f h w e = steps_good (λ a. false) [] n k f tt h w e
    line_good (line.Finish n) calm form f h w e = finishing_good n f h w e
    line_good (line.Put n at bytes) calm form f h w e = do_good l (Put n at bytes) f tt h w e
    line_good (line.Set n r v) calm form f h w e = do_good l (Set n r v) f form h w e
    line_good (line.Take n at len) calm form f h w e = do_good l (Take n at len) f tt h w e
    line_good (line.Give k n at) calm form f h w e = do_good l (Give k n at) f tt h w e
    line_good (line.Forge bytes) calm form f h w e = do_good l (Forge bytes) f tt h w e
    line_good (line.Sense d v) calm form f h w e = do_good l (Sense d v) f form h w e
    line_good (line.Irq n k) calm form f h w e = do_good l (Irq n k) f form h w e
    line_good (line.Reset n) calm form f h w e = do_good l (Reset n) f tt h w e
    line_good (line.Ask m) calm form f h w e = absurd calm
    line_good (line.Answer m boot k) calm form f h w e = do_good l (Answer m boot k) f tt h w e
    line_good (line.Load m) calm form f h w e = loading_good (slice_get set.sites m) m f refl h w e
    line_good (line.Call m a input output) calm form f h w e = calling_good a input output m (slice_get set.sites m) f refl form h w e

  -- a line begins
  begun : (w : World) → w.lines < 65536 → Moves w (done set Begin w)
  begun w lt mo t = keeps_run Any set kept (are_wordly set sound) (λ v x. counts_lines set v x) (line.Blank ∷ []) w (omega (arith, lt)) (tt, tt) mo t

  -- one that asks
  module _ (m : ℕ) (f : List Look → Script) (w : World) (lt : w.lines < 65536) (low : m < length set.app.parts) (h : Good (w.lines + 1) f) where
    abbrev asked : Acted
    asked = done set (Ask m) (line_counted w)

    then_asked : (mo : Model) → Tied set w mo → NoForged asked.items → (u : Model) × Tied set asked.world u
    then_asked mo t none = still set.app mo asked.items (Tied set asked.world) none (kept.ask w m low lt mo t).0

    asks_track : Tracks (Do Begin (line_script set (line.Ask m) f)) w
    asks_track mo t zero now e quiet =
        subst (λ (z : Moment). (u : Model) × Tied set (done set z.next z.world).world u) (some_inj (record { next = Begin; world = w }) now e)
        (first_tied Begin (line_script set (line.Ask m) f) w (begun w lt) mo t 0 quiet)
    asks_track mo t (suc zero) now e quiet =
        subst (λ (z : Moment). (u : Model) × Tied set (done set z.next z.world).world u) (some_inj (record { next = Ask m; world = line_counted w }) now e)
        (then_asked mo t (quiet 1 (record { next = Ask m; world = line_counted w }) (omega arith) refl))
    asks_track mo t (suc (suc k)) now e quiet =
        let u = then_asked mo t (quiet 1 (record { next = Ask m; world = line_counted w }) (omega arith) refl) in
        h asked.world (counts_lines set (line_counted w) (line.Ask m)) u.0 u.1 k now e (λ j past le g. quiet (suc (suc j)) past (omega (arith, le)) g)

  ask_or : (x : Line) → ((m : ℕ) × (x ≡ line.Ask m)) ⊎ NoAsk 0 x
  ask_or (line.Ask m) = inl (m, refl)
  ask_or x = inr tt

  pub lines_track : (lines : List Line) (w : World) → w.lines + length lines < 65537 → LinesInForm set lines → Tracks (script_of set lines) w
  lines_track [] w few form = λ mo t k now e quiet. absurd cc
  lines_track (x ∷ lines) w few form = by (ask_or x) form.0 (λ v e. lines_track lines v (omega (arith, few, e)) form.1)
    where
      f : List Look → Script
      f now = script_of set lines

      lt : w.lines < 65536
      lt = omega (arith, few)

      by : ((m : ℕ) × (x ≡ line.Ask m)) ⊎ NoAsk 0 x → LineInForm set x → Good (w.lines + 1) f → Tracks (Do Begin (line_script set x f)) w
      by (inl a) g h =
          subst (λ (z : Line). Tracks (Do Begin (line_script set z f)) w) (sym a.1) (asks_track a.0 f w lt (subst (LineInForm set) a.1 g) h)
      by (inr calm) g h = do_tracks Begin (line_script set x f) w (begun w lt) (line_good (w.lines + 1) x calm g f h (line_counted w) refl)

-- from power-on
pub tied_then : (set : Setting) → IsSoundSetting set → (lines : List Line) → length lines ≤ 65536 → LinesInForm set lines → (k : ℕ) (now : Moment) → moment set lines k ≡ Some now
    → ((j : ℕ) (past : Moment) → j ≤ k → moment set lines j ≡ Some past → NoForged (shown_at set past))
    → (u : Model) × Tied set (done set now.next now.world).world u
tied_then set sound lines few form k now e quiet =
    lines_track set sound lines (switched_on set) (omega (arith, few)) form (power_on set.app) (starts_tied set sound) k now e quiet
