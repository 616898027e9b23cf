-- Acts that show only what is so wherever it is.
use Rattle.std.proofs.Common.{◌≡◌, ℕ, ◌<◌, Bool, true, false, if◌then◌else◌, List, [], ◌∷◌, ◌++◌, length, Option, Some, None, Result, Ok, Err}
use Rattle.std.specs.Prelude.{slice_get, IfSome}
use Rattle.std.specs.Option.{option_flatten}
use Rattle.sx_trace.specs.declared.items.Item.{Item}
use Rattle.sx_trace.specs.declared.items.Item.TheVariants as item
use Rattle.sx_trace.specs.declared.items.Cause.{Cause}
use Rattle.sx_trace.specs.declared.items.Cause.TheVariants.{Asked}
use Rattle.sx_mean.specs.declared.apps.AppDevice.{AppDevice}
use Rattle.sx_mean.specs.Application.{is_sensor}
use Rattle.spec_machine.specs.declared.kinds.Refused.{Refused}
use Rattle.spec_machine.specs.declared.kinds.Refused.TheVariants.{Busy, Guarded, Masked}
use Rattle.spec_machine.specs.State.{State}
use Rattle.spec_machine.specs.Acts.{put as put_at, set as set_register, take as take_from, sense as sense_on, irq as interrupt}
use Rattle.sx_model.specs.order.State.{Model}
use Rattle.sx_model.specs.order.Step.{step}
use Rattle.sx_model.specs.Legal.{is_forged}
use Rattle.sx_deployer.specs.Granting.{Grant, grants_after}
use Rattle.spec_run.specs.Setting.{Site, Setting}
use Rattle.spec_run.specs.State.{World}
use Rattle.spec_run.specs.Observation.{unless_made}
use Rattle.spec_run.specs.Acts.{only, with_deployer, after_denial, after_step, refused_item, or_refused, done_on, after_take, after_interrupt, key_given, keys_given, attested, after_verdict, new_packet, ask as asks, after_answer}
use Rattle.spec_run.specs.Deployer.{accepts, after_acceptance, set_key}
use Rattle.spec_run.specs.Ledger.{NO_TARGET, made_entry, is_made}
use Rattle.sx_ledger.specs.declared.entry.Maker.TheVariants as maker
use Rattle.spec_run.specs.Run.{place_at, line_counted}
use Rattle.sx_wire.specs.Headers.{ask_packet}
use Rattle.spec_run.specs.Law.{IsSoundSetting}
use Rattle.spec_run.proofs.tie.Tied.{Tied}
use Rattle.spec_run.proofs.ActsKeep.{acts_keep}
use Rattle.spec_run.proofs.acts.Walks.{Unless, Walks}
use Rattle.spec_run.proofs.acts.Compose.{ActsWalk}

-- what is so of each item
abbrev pub Each : (Item → Type 0) → List Item → Type 0
Each Q [] = Unit {0}
Each Q (i ∷ items) = Q i × Each Q items

pub each_all : (Q : Item → Type 0) → ((i : Item) → Q i) → (items : List Item) → Each Q items
each_all Q f [] = tt
each_all Q f (i ∷ items) = (f i, each_all Q f items)

pub each_append : (Q : Item → Type 0) (xs ys : List Item) → Each Q xs → Each Q ys → Each Q (xs ++ ys)
each_append Q [] ys h g = g
each_append Q (x ∷ xs) ys h g = (h.0, each_append Q xs ys h.1 g)

pub unless_so : (b : Bool) (A : Type 0) → A → Unless b A
unless_so true A a = tt
unless_so false A a = a

pub if_some_so : {A : Type 0} → (o : Option A) (Q : A → Type 0) → ((x : A) → Q x) → IfSome o Q
if_some_so None Q h = tt
if_some_so (Some x) Q h = h x

-- what is so in every state
abbrev pub Always : (Setting → Model → Item → Type 0) → Setting → Item → Type 0
Always P set i = (s : Model) → P set s i

pub each_walks : (P : Setting → Model → Item → Type 0) (set : Setting) (s : Model) (items : List Item) → Each (Always P set) items → Walks (P set) set.app s items
each_walks P set s [] h = tt
each_walks P set s (i ∷ items) h = unless_so (is_forged i) _ (h.0 s, if_some_so (step set.app s i) _ (λ t. each_walks P set t items h.1))

-- items of which it is so wherever they are
pub record Easy (P : Setting → Model → Item → Type 0) (set : Setting) : Type 0 where
  pub reset : (n : ℕ) (c : Cause) → Always P set (item.Reset n c)
  pub ask : (m a : ℕ) → Always P set (item.Ask m a)
  pub attested : (m b : ℕ) → Always P set (item.Attested m b)
  pub denied : (m : ℕ) → Always P set (item.Denied m)
  pub packet : (k n : ℕ) → Always P set (item.Packet k n)
  pub forged : (m : Option ℕ) → Always P set (item.Forged m)
  pub busy : (n : ℕ) → Always P set (item.Busy n)
  pub skip : (n : ℕ) → Always P set (item.Skip n)
  pub budget : (n : ℕ) → Always P set (item.Budget n)

module _ (P : Setting → Model → Item → Type 0) (set : Setting) (easy : Easy P set) where
  abbrev E : List Item → Type 0
  E items = Each (Always P set) items

  pub refused_each : (n : ℕ) (why : Refused) → E (refused_item n why ∷ [])
  refused_each n Busy = (easy.busy n, tt)
  refused_each n Guarded = (easy.skip n, tt)
  refused_each n Masked = (easy.skip n, tt)

  pub done_each : (n : ℕ) (r : Result (Unit {0}) Refused) → E (or_refused n [] r)
  done_each n (Ok u) = tt
  done_each n (Err why) = refused_each n why

  took_each : (w : World) (n : ℕ) (r : Result (List ℕ) Refused) → E (after_take w n r).items
  took_each w n (Ok bytes) = (easy.packet (length w.packets) (length bytes), tt)
  took_each w n (Err why) = refused_each n why

  given_each : (w : World) (g : Grant) (o : Option Site) → E (key_given set w g o).items
  given_each w g None = tt
  given_each w g (Some site) = (easy.packet (length w.packets) (length (set_key set site g)), tt)

  keys_each : (gs : List Grant) (w : World) → E (keys_given set gs w).items
  keys_each [] w = tt
  keys_each (g ∷ gs) w =
      each_append (Always P set) (key_given set w g (slice_get set.sites g.holder)).items (keys_given set gs (key_given set w g (slice_get set.sites g.holder)).world).items (given_each w g (slice_get set.sites g.holder))
      (keys_each gs (key_given set w g (slice_get set.sites g.holder)).world)

  made_each : (who : Option ℕ) (made : Bool) (i : Item) → Always P set i → E (unless_made who made i)
  made_each who true i h = (h, tt)
  made_each who false i h = (easy.forged who, (h, tt))

  attested_each : (w : World) (m boot : ℕ) (a : List ℕ) (last : Option ℕ) → E (attested set w m boot a last).items
  attested_each w m boot a last =
      let d = after_acceptance set.app.links w.deployer m boot last in
      let made = is_made w.ledger (made_entry (maker.Module m) NO_TARGET boot a []) in
      let first = only (with_deployer w d w.ledger) (unless_made None made (item.Attested m boot)) in
      each_append (Always P set) first.items (keys_given set (grants_after set.app d m boot last) first.world).items
      (made_each None made (item.Attested m boot) (easy.attested m boot)) (keys_each (grants_after set.app d m boot last) first.world)

  if_each : (b : Bool) (w : World) (x y : Rattle.spec_run.specs.State.Acted) → E x.items → E y.items → E (if b then x else y).items
  if_each true w x y h g = h
  if_each false w x y h g = g

  verdict_each : (w : World) (m : ℕ) (site : Site) (boot : ℕ) (answer : List ℕ) (o : Option (List ℕ)) → E (after_verdict set w m site boot answer o).items
  verdict_each w m site boot answer None = (easy.denied m, tt)
  verdict_each w m site boot answer (Some a) =
      let last = option_flatten (slice_get w.deployer.attested m) in
      if_each (accepts set site w.deployer m boot answer (Some a) last) w (attested set w m boot a last) (after_denial w m) (attested_each w m boot a last) (easy.denied m, tt)

  abbrev pub Walking : Model → List Item → Type 0
  Walking mo items = Walks (P set) set.app mo items

  abbrev pub StepsWalk : Type 0
  StepsWalk = (w : World) (n : ℕ) (s : State) → slice_get w.nodes n ≡ Some s → (mo : Model) → Tied set w mo → Walking mo (after_step set w n s).items

  abbrev pub SensesWalk : Type 0
  SensesWalk = (w : World) (d v : ℕ) (x : AppDevice) (s : State) → slice_get set.app.devices d ≡ Some x → is_sensor x.kind ≡ true → v < 32768
      → slice_get w.nodes x.node ≡ Some s → (mo : Model) → Tied set w mo → Walking mo (done_on w x.node (item.Sense d v ∷ []) (sense_on s (place_at set x.node d) v)).items

  abbrev pub InterruptsWalk : Type 0
  InterruptsWalk = (w : World) (n line : ℕ) (s : State) → line < 15 → slice_get w.nodes n ≡ Some s → (mo : Model) → Tied set w mo
      → Walking mo (after_interrupt set w n (interrupt s line).state (interrupt s line).shown).items

  -- each act walks
  pub acts_walk : IsSoundSetting set → StepsWalk → SensesWalk → InterruptsWalk → ActsWalk P set
  acts_walk sound step sense irq =
      let a = acts_keep set sound in
      record {
        skip = λ s n. easy.skip n s;
        busy = λ s n. easy.busy n s;
        budget = λ s n. easy.budget n s;
        denied = λ s m. easy.denied m s;
        step = λ w n s here mo t. (a.step w n s here mo t, step w n s here mo t);
        put = λ w n at bytes s here mo t. (a.put w n at bytes s here mo t, each_walks P set mo (or_refused n [] (put_at s at bytes).shown) (done_each n (put_at s at bytes).shown));
        set_ = λ w n r v s rl vl here mo t. (a.set_ w n r v s rl vl here mo t, each_walks P set mo (or_refused n [] (set_register s r v).shown) (done_each n (set_register s r v).shown));
        take = λ w n at len s here mo t. (a.take w n at len s here mo t, each_walks P set mo (after_take w n (take_from s at len).shown).items (took_each w n (take_from s at len).shown));
        packet = λ w bytes mo t. (a.packet w bytes mo t, each_walks P set mo (new_packet w bytes).items (easy.packet (length w.packets) (length bytes), tt));
        sense = λ w d v x s dev sensor lt here mo t. (a.sense w d v x s dev sensor lt here mo t, sense w d v x s dev sensor lt here mo t);
        irq = λ w n line s lt here mo t. (a.irq w n line s lt here mo t, irq w n line s lt here mo t);
        reset = λ w n s here mo t. (a.reset w n s here mo t, each_walks P set mo (item.Reset n Asked ∷ []) (easy.reset n Asked, tt));
        ask = λ w m lt lines mo t. (a.ask w m lt lines mo t, each_walks P set mo (asks (line_counted w) m).items (easy.ask m w.deployer.asks, (easy.packet (length w.packets) (length (ask_packet w.deployer.asks)), tt)));
        answer = λ w m boot answer site sited mo t. (
          a.answer w m boot answer site sited mo t,
          each_walks P set mo (after_answer set w m boot (Some site) (Some answer)).items (verdict_each w m site boot answer (option_flatten (slice_get w.deployer.open_asks m))),
        );
      }
