-- Every act of a run keeps the turns.
use Rattle.std.proofs.Common.{◌≡◌, ℕ, zero, suc, ◌+◌, ◌-◌, ◌/◌, ◌<◌, ◌⊎◌, inl, inr, ◌==◌, Bool, true, false, cond, if◌then◌else◌, List, [], ◌∷◌, length, drop}
use Rattle.std.proofs.Common.{Option, Some, None, refl, sym, ◌∙◌, ap, subst, arith}
use Rattle.std.specs.Prelude.{slice_get, slice_set, Result, Ok, Err}
use Rattle.std.proofs.lemmas.Bool.{eqb-true, cases_eq}
use Rattle.std.specs.Option.{option_flatten}
use Rattle.sx_sched.specs.Lines as line
use Rattle.sx_sched.specs.Lines.{Line}
use Rattle.sx_trace.specs.declared.items.Item.TheVariants as item
use Rattle.sx_mean.specs.declared.apps.AppDevice.{AppDevice}
use Rattle.sx_rules.specs.Access.{Lives}
use Rattle.spec_machine.specs.declared.kinds.Refused.{Refused}
use Rattle.spec_machine.specs.declared.kinds.Seen.{Seen}
use Rattle.spec_machine.specs.State.{State, power_on}
use Rattle.spec_machine.specs.Acts.{irq, take as take_from}
use Rattle.spec_machine.specs.Acting.{Act, acted, ActInForm}
use Rattle.spec_machine.specs.Acting as act
use Rattle.spec_machine.proofs.Keys.{power_on_has_keys}
use Rattle.spec_run.specs.Setting.{Setting, Site, windows_at}
use Rattle.spec_run.specs.State.{World, Acted, nodes_from, switched_on}
use Rattle.sx_deployer.specs.Granting.{Grant, grants_after}
use Rattle.spec_run.specs.Deployer.{list_at, after_acceptance}
use Rattle.spec_run.specs.Acts.{at_node, with_deployer, key_given, keys_given, attested, after_take, after_interrupt, after_verdict, after_answer, after_denial}
use Rattle.spec_run.specs.Run.{place_at, sense_at, give, protect_registers, call_registers, FINISH_STEPS}
use Rattle.spec_run.specs.Law.{IsSoundSetting, LineInForm, LinesInForm, devices_of}
use Rattle.spec_run.proofs.tie.Lists.{some_inj, get_other, get_within}
use Rattle.spec_run.proofs.tie.Start.{get_nodes, on_is_node}
use Rattle.spec_run.proofs.steps.Entry.{shapes_on}
use Rattle.lemmas.proofs.Lists.{get_same, get_some}
use Rattle.law_isolation.specs.Happening.{Happening, Begin, Step, Put, Set, Take, Give, Forge, Sense, Irq, Reset, Ask, Answer, Show, done}
use Rattle.law_isolation.specs.Script.{Look, Script, End, Do}
use Rattle.law_isolation.specs.Lines.{all, ends, where_node, steps, finishing, unless_running, pieces, setting_of, loading, calling, line_script, script_of}
use Rattle.law_forgery.proofs.Turns.{NodeTurns, AllTurn}
use Rattle.law_forgery.proofs.Turning.{act_turns}

-- What happens is in form.

abbrev pub InForm : Happening → Type 0
InForm (Set n r v) = v < 65536
InForm (Sense d v) = v < 32768
InForm (Show i) = (who : Option ℕ) → i ≡ item.Forged who → ⊥
InForm _ = Unit {0}

abbrev pub ScriptInForm : Script → Type 0
ScriptInForm End = Unit {0}
ScriptInForm (Do x rest) = InForm x × ((now : List Look) → ScriptInForm (rest now))

-- Of the nodes nothing changes, or one acts.

pub record OneActs (set : Setting) (x : Happening) (ns ms : List State) : Type 0 where
  pub node : ℕ
  pub state : State
  pub act : Act
  pub there : slice_get ns node ≡ Some state
  pub form : ActInForm act
  pub own : act ≡ Rattle.spec_machine.specs.Acting.Step → x ≡ Step node
  pub nodes : ms ≡ slice_set ns node (acted set.mac act state).state

abbrev pub After : Setting → Happening → List State → List State → Type 0
After set x ns ms = (ms ≡ ns) ⊎ OneActs set x ns ms

keys_keep : (set : Setting) (gs : List Grant) (w : World) → (keys_given set gs w).world.nodes ≡ w.nodes
keys_keep set [] w = refl
keys_keep set (g ∷ gs) w = keys_keep set gs (key_given set w g (slice_get set.sites g.holder)).world ∙ one (slice_get set.sites g.holder)
  where
    one : (o : Option Site) → (key_given set w g o).world.nodes ≡ w.nodes
    one None = refl
    one (Some site) = refl

pub answer_keeps : (set : Setting) (w : World) (m boot : ℕ) (o : Option Site) (p : Option (List ℕ)) → (after_answer set w m boot o p).world.nodes ≡ w.nodes
answer_keeps set w m boot None p = refl
answer_keeps set w m boot (Some site) None = refl
answer_keeps set w m boot (Some site) (Some answer) = verdict (option_flatten (slice_get w.deployer.open_asks m))
  where
    verdict : (o : Option (List ℕ)) → (after_verdict set w m site boot answer o).world.nodes ≡ w.nodes
    verdict None = refl
    verdict (Some ask) = by (Rattle.spec_run.specs.Deployer.accepts set site w.deployer m boot answer (Some ask) (option_flatten (slice_get w.deployer.attested m)))
      where
        by : (b : Bool) → (cond b (attested set w m boot ask (option_flatten (slice_get w.deployer.attested m))) (after_denial w m)).world.nodes ≡ w.nodes
        by true =
            let d = after_acceptance set.app.links w.deployer m boot (option_flatten (slice_get w.deployer.attested m)) in
            keys_keep set (grants_after set.app d m boot (option_flatten (slice_get w.deployer.attested m))) (with_deployer w d w.ledger)
        by false = refl

module _ (set : Setting) (w : World) where
  at_after : (x : Happening) (n : ℕ) (a : Act) (f : State → Acted) → ActInForm a → (a ≡ act.Step → x ≡ Step n) → ((s : State) → (f s).world.nodes ≡ slice_set w.nodes n (acted set.mac a s).state)
      → (o : Option State) → slice_get w.nodes n ≡ o → After set x w.nodes (at_node w f o).world.nodes
  at_after x n a f form own h None e = inl refl
  at_after x n a f form own h (Some s) e = inr (record { node = n; state = s; act = a; there = e; form = form; own = own; nodes = h s })

  take_after : (x : Happening) (n at len : ℕ) (o : Option State) → After set x w.nodes (at_node w (λ s. after_take w n (take_from s at len).shown) o).world.nodes
  take_after x n at len None = inl refl
  take_after x n at len (Some s) = by (take_from s at len).shown
    where
      by : (r : Result (List ℕ) Refused) → After set x w.nodes (after_take w n r).world.nodes
      by (Ok bytes) = inl refl
      by (Err why) = inl refl

  irq_after : (x : Happening) (n k : ℕ) (o : Option State) → slice_get w.nodes n ≡ o → After set x w.nodes (at_node w (λ s. after_interrupt set w n (irq s k).state (irq s k).shown) o).world.nodes
  irq_after x n k None e = inl refl
  irq_after x n k (Some s) e = by (irq s k).shown
    where
      by : (r : Result Seen Refused) → After set x w.nodes (after_interrupt set w n (irq s k).state r).world.nodes
      by (Ok seen) = inr (record { node = n; state = s; act = act.Interrupt k; there = e; form = tt; own = λ q. cc; nodes = refl })
      by (Err why) = inl refl

  give_after : (x : Happening) (n at : ℕ) (o : Option (List ℕ)) → After set x w.nodes (give w n at o).world.nodes
  give_after x n at None = inl refl
  give_after x n at (Some bytes) = at_after x n (act.Put at bytes) _ tt (λ q. cc) (λ s. refl) (slice_get w.nodes n) refl

  sense_after : (x : Happening) (d v : ℕ) (o : Option AppDevice) → v < 32768 → After set x w.nodes (sense_at set w d v o).world.nodes
  sense_after x d v None lt = inl refl
  sense_after x d v (Some y) lt = at_after x y.node (act.Sense (place_at set y.node d) v) _ lt (λ q. cc) (λ s. refl) (slice_get w.nodes y.node) refl

  pub after_happening : (x : Happening) → InForm x → After set x w.nodes (done set x w).world.nodes
  after_happening Begin f = inl refl
  after_happening (Step n) f = at_after (Step n) n act.Step _ tt (λ q. refl) (λ s. refl) (slice_get w.nodes n) refl
  after_happening (Put n at bytes) f = at_after (Put n at bytes) n (act.Put at bytes) _ tt (λ q. cc) (λ s. refl) (slice_get w.nodes n) refl
  after_happening (Set n r v) f = at_after (Set n r v) n (act.Set r v) _ f (λ q. cc) (λ s. refl) (slice_get w.nodes n) refl
  after_happening (Take n at len) f = take_after (Take n at len) n at len (slice_get w.nodes n)
  after_happening (Give k n at) f = give_after (Give k n at) n at (slice_get w.packets k)
  after_happening (Forge bytes) f = inl refl
  after_happening (Sense d v) f = sense_after (Sense d v) d v (slice_get set.app.devices d) f
  after_happening (Irq n k) f = irq_after (Irq n k) n k (slice_get w.nodes n) refl
  after_happening (Reset n) f = at_after (Reset n) n act.Restart _ tt (λ q. cc) (λ s. refl) (slice_get w.nodes n) refl
  after_happening (Ask m) f = inl refl
  after_happening (Answer m boot k) f = inl (answer_keeps set w m boot (slice_get set.sites m) (slice_get w.packets k))
  after_happening (Show i) f = inl refl

nodes_turn : (set : Setting) (x : Happening) (ns ms : List State) → IsSoundSetting set → ((n : ℕ) (s : State) → slice_get ns n ≡ Some s → NodeTurns set n s) → After set x ns ms
    → (n : ℕ) (s : State) → slice_get ms n ≡ Some s → NodeTurns set n s
nodes_turn set x ns ms sound h (inl e) n s g = h n s (subst (λ (z : List State). slice_get z n ≡ Some s) e g)
nodes_turn set x ns ms sound h (inr a) n s g =
    let g2 : slice_get (slice_set ns a.node (acted set.mac a.act a.state).state) n ≡ Some s = subst (λ (z : List State). slice_get z n ≡ Some s) a.nodes g in
    elim (cases_eq n a.node) [
      | inl e ↦
          let now = get_same ns a.node (acted set.mac a.act a.state).state a.state a.there in
          let same : (acted set.mac a.act a.state).state ≡ s = some_inj _ s (sym now ∙ subst (λ k. slice_get (slice_set ns a.node (acted set.mac a.act a.state).state) k ≡ Some s) e g2) in
          subst (λ k. NodeTurns set k s) (sym e) (subst (λ (z : State). NodeTurns set a.node z) same (act_turns set a.node a.act a.state sound a.form (h a.node a.state a.there)))
      | inr ne ↦ h n s (sym (get_other ns a.node n (acted set.mac a.act a.state).state ne) ∙ g2)
    ]

pub done_turns : (set : Setting) (x : Happening) (w : World) → IsSoundSetting set → InForm x → AllTurn set w → AllTurn set (done set x w).world
done_turns set x w sound f h = nodes_turn set x w.nodes (done set x w).world.nodes sound h (after_happening set w x f)

-- At power-on.

key_at : (set : Setting) (i : ℕ) (keys : List (List ℕ)) (n : ℕ) (s : State) → slice_get (nodes_from set i keys) n ≡ Some s → s.key ≡ list_at keys n
key_at set i [] n s e = absurd cc
key_at set i (key ∷ keys) zero s e = ap (λ (z : State). z.key) (sym (some_inj _ s e))
key_at set i (key ∷ keys) (suc n) s e = by (suc n == 0) refl (let less : suc n - 1 ≡ n = omega arith in key_at set (i + 1) keys n s e ∙ ap (list_at keys) (sym less))
  where
    by : (b : Bool) → (suc n == 0) ≡ b → s.key ≡ list_at keys (suc n - 1) → s.key ≡ cond b key (list_at keys (suc n - 1))
    by true f h = let z = eqb-true (suc n) 0 f in absurd (omega (arith, z))
    by false f h = h

pub starts_turning : (set : Setting) → IsSoundSetting set → AllTurn set (switched_on set)
starts_turning set sound n s e =
    let r = get_nodes set 0 set.keys n s e in
    let same : s ≡ power_on r.0 (devices_of set n) = r.1 ∙ ap (λ j. power_on r.0 (devices_of set j)) (omega arith) in
    record {
      windows = subst (λ (z : State). Rattle.spec_machine.specs.NodeLaws.shapes z.devices ≡ windows_at n set.app.devices set.places) (sym same) (shapes_on (windows_at n set.app.devices set.places));
      node = subst (λ (z : State). Rattle.spec_machine.specs.Node.IsNode z) (sym same) (on_is_node set n r.0 sound);
      key = key_at set 0 set.keys n s e;
      keys = subst (λ (z : State). Rattle.spec_machine.specs.Frame.HaveKeys set.mac z) (sym same) (power_on_has_keys set.mac r.0 (devices_of set n));
      turns = λ m q site sec part sited lives at cur. absurd (subst (λ (z : State). Lives z.sections.live sec) same lives);
    }

-- Schedules in form have scripts in form.

abbrev AllIn : List Happening → Type 0
AllIn [] = Unit {0}
AllIn (x ∷ xs) = InForm x × AllIn xs

abbrev Rest : (List Look → Script) → Type 0
Rest rest = (now : List Look) → ScriptInForm (rest now)

all_form : (xs : List Happening) (rest : List Look → Script) → AllIn xs → Rest rest → Rest (all xs rest)
all_form [] rest f h now = h now
all_form (x ∷ xs) rest f h now = (f.0, all_form xs rest f.1 h)

if_form : (b : Bool) (p q : Script) → ScriptInForm p → ScriptInForm q → ScriptInForm (if b then p else q)
if_form true p q f g = f
if_form false p q f g = g

steps_form : (stops : Look → Bool) (last : List Happening) (n k : ℕ) (rest : List Look → Script) → AllIn last → Rest rest → Rest (steps stops last n k rest)
steps_form stops last n zero rest f h now = all_form last rest f h now
steps_form stops last n (suc k) rest f h now = by (steps_form stops last n k rest f h) (slice_get now n)
  where
    by : Rest (steps stops last n k rest) → (o : Option Look) → ScriptInForm (where_node o
        (λ a. Do (Step n) (λ next. if ends stops a (slice_get next n) then rest next else steps stops last n k rest next)) (rest now))
    by more None = h now
    by more (Some a) = (tt, λ next. if_form (ends stops a (slice_get next n)) (rest next) (steps stops last n k rest next) (h next) (more next))

unless_form : (n : ℕ) (doing rest : List Look → Script) → Rest doing → Rest rest → Rest (unless_running n doing rest)
unless_form n doing rest f h now = by (slice_get now n)
  where
    by : (o : Option Look) → ScriptInForm (where_node o (λ a. if a.cur == 0 then doing now else Do (Show (item.Busy n)) rest) (rest now))
    by None = h now
    by (Some a) = if_form (a.cur == 0) (doing now) (Do (Show (item.Busy n)) rest) (f now) (λ who e. cc, h)

pieces_form : (n k at : ℕ) (bytes : List ℕ) → AllIn (pieces n k at bytes)
pieces_form n zero at bytes = tt
pieces_form n (suc k) at bytes = (tt, pieces_form n k (at + 1024) (drop 1024 bytes))

record Wordly (site : Site) : Type 0 where
  provider : site.provider < 65536
  pub_from : site.layout.pub_from < 65536
  pub_to : site.layout.pub_to < 65536
  priv_from : site.layout.priv_from < 65536
  priv_to : site.layout.priv_to < 65536

wordly : (set : Setting) (m : ℕ) (site : Site) → IsSoundSetting set → slice_get set.sites m ≡ Some site → Wordly site
wordly set m site sound sited =
    let q = get_some set.app.parts m (omega (arith, get_within set.sites m site sited, sound.sites)) in
    let d = sound.deployed m q.0 site q.1 sited in
    let te = d.text_end in
    let de = d.data_end in
    let t = d.text in
    let z = d.data_size in
    record {
      provider = d.provider;
      pub_from = omega (arith, te, t);
      pub_to = omega (arith, te);
      priv_from = omega (arith, de, z);
      priv_to = omega (arith, de);
    }

finish_form : (n : ℕ) (rest : List Look → Script) → Rest rest → Rest (finishing n rest)
finish_form n rest h = steps_form (λ a. a.cur == 0) (Show (item.Budget n) ∷ []) n FINISH_STEPS rest (λ who e. cc, tt) h

loading_form : (set : Setting) (m : ℕ) (rest : List Look → Script) → IsSoundSetting set → (o : Option Site) → slice_get set.sites m ≡ o → Rest rest → Rest (loading o rest)
loading_form set m rest sound None e h now = h now
loading_form set m rest sound (Some site) e h now =
    let g = wordly set m site sound e in
    let n = site.node in
    let r3 : List Look → Script = all (Step n ∷ []) rest in
    let r2 : List Look → Script = all (setting_of n (protect_registers site)) r3 in
    let r1 : List Look → Script = all (Put n 0 (0x81 ∷ 0x13 ∷ []) ∷ []) r2 in
    let r0 : List Look → Script = all (pieces n ((length site.text + 1023) / 1024) site.layout.pub_from site.text) r1 in
    unless_form n r0 rest
    (all_form (pieces n ((length site.text + 1023) / 1024) site.layout.pub_from site.text) r1 (pieces_form n ((length site.text + 1023) / 1024) site.layout.pub_from site.text)
    (all_form (Put n 0 (0x81 ∷ 0x13 ∷ []) ∷ []) r2 (tt, tt)
    (all_form (setting_of n (protect_registers site)) r3 (g.provider, (g.pub_from, (g.pub_to, (g.priv_from, (g.priv_to, (omega arith, tt))))))
    (all_form (Step n ∷ []) rest (tt, tt) h)))) h now

calling_form : (set : Setting) (m e input output : ℕ) (rest : List Look → Script) → IsSoundSetting set → (e < 65536) × (input < 65536) × (output < 65536)
    → (o : Option Site) → slice_get set.sites m ≡ o → Rest rest → Rest (calling e input output o rest)
calling_form set m e input output rest sound f None q h now = h now
calling_form set m e input output rest sound f (Some site) q h now =
    let g = wordly set m site sound q in
    unless_form site.node (all (setting_of site.node (call_registers site e input output)) (finishing site.node rest)) rest
    (all_form (setting_of site.node (call_registers site e input output)) (finishing site.node rest) (f.0, (f.1, (f.2, (omega arith, (g.pub_from, tt))))) (finish_form site.node rest h)) h now

line_form : (set : Setting) (l : Line) (rest : List Look → Script) → IsSoundSetting set → LineInForm set l → Rest rest → Rest (line_script set l rest)
line_form set line.Blank rest sound f h now = h now
line_form set (line.Run n k) rest sound f h now = steps_form (λ a. false) [] n k rest tt h now
line_form set (line.Finish n) rest sound f h now = finish_form n rest h now
line_form set (line.Put n at bytes) rest sound f h now = (tt, h)
line_form set (line.Set n r v) rest sound f h now = (f.1, h)
line_form set (line.Take n at len) rest sound f h now = (tt, h)
line_form set (line.Give k n at) rest sound f h now = (tt, h)
line_form set (line.Forge bytes) rest sound f h now = (tt, h)
line_form set (line.Sense d v) rest sound f h now = (f.1, h)
line_form set (line.Irq n k) rest sound f h now = (tt, h)
line_form set (line.Reset n) rest sound f h now = (tt, h)
line_form set (line.Ask m) rest sound f h now = (tt, h)
line_form set (line.Answer m boot k) rest sound f h now = (tt, h)
line_form set (line.Load m) rest sound f h now = loading_form set m rest sound (slice_get set.sites m) refl h now
line_form set (line.Call m e input output) rest sound f h now = calling_form set m e input output rest sound f (slice_get set.sites m) refl h now

pub lines_form : (set : Setting) (lines : List Line) → IsSoundSetting set → LinesInForm set lines → ScriptInForm (script_of set lines)
lines_form set [] sound f = tt
lines_form set (l ∷ lines) sound f = (tt, line_form set l (λ now. script_of set lines) sound f.0 (λ now. lines_form set lines sound f.1))
