-- At each moment the deployer's open asks are numbered, and the boots at which modules were attested are below 2^32.
use Rattle.std.proofs.Common.{◌≡◌, ℕ, zero, suc, ◌+◌, ◌==◌, ◌^◌, ◌<◌, Bool, true, false, cond, List, [], ◌∷◌, ◌++◌, map, Option, Some, None, Result, Ok, Err, refl, sym, ◌∙◌, ap, subst}
use Rattle.std.specs.Prelude.{slice_get, slice_set}
use Rattle.std.specs.Option.{option_flatten}
use Rattle.sx_lang.specs.declared.sides.Side.TheVariants.{From, To}
use Rattle.sx_mean.specs.declared.apps.Link.{Link}
use Rattle.sx_mean.specs.declared.apps.AppDevice.{AppDevice}
use Rattle.sx_mean.specs.declared.events.End.{End as ModuleEnd}
use Rattle.sx_mean.specs.Application.{AppTree}
use Rattle.sx_mean.specs.Ends.{ends_of}
use Rattle.sx_wire.specs.Headers.{ask_packet}
use Rattle.sx_deployer.specs.Granting.{DeployerState, Grant, grants_of, grant_to, grant_beyond, grants_beyond, grants_after}
use Rattle.spec_machine.specs.declared.kinds.Refused.{Refused}
use Rattle.spec_machine.specs.declared.kinds.Seen.{Seen}
use Rattle.spec_machine.specs.State.{State}
use Rattle.spec_machine.specs.Acts.{take as take_from, irq}
use Rattle.spec_run.specs.Setting.{Setting, Site}
use Rattle.spec_run.specs.Deployer.{accepts, after_acceptance}
use Rattle.spec_run.specs.State.{World, Acted, switched_on}
use Rattle.spec_run.specs.Acts.{at_node, with_deployer, after_take, after_interrupt, key_given, keys_given, attested, after_denial, after_verdict, after_answer}
use Rattle.spec_run.specs.Run.{give, sense_at}
use Rattle.spec_run.proofs.tie.Lists.{some_inj}
use Rattle.sx_sched.specs.Lines.{Line}
use Rattle.law_isolation.specs.Happening.{Happening, Begin, Step, Put, Set, Take, Give, Forge, Sense, Irq, Reset, Ask, Answer, Show, done}
use Rattle.law_isolation.specs.Script.{Script, End, Do, looks}
use Rattle.law_isolation.specs.Lines.{script_of}
use Rattle.law_forgery.specs.Moments.{Moment, moment, moment_from}
use Rattle.law_rarity.specs.Rare.{AreInRange}

pub record Deals (d : DeployerState) : Type 0 where
  pub asks : (m : ℕ) (ask : List ℕ) → option_flatten (slice_get d.open_asks m) ≡ Some ask → (c : ℕ) × (ask ≡ ask_packet c)
  pub boots : (m boot : ℕ) → option_flatten (slice_get d.attested m) ≡ Some boot → boot < 2 ^ 32

set_each : {X : Type 0} (Q : X → Type 0) (xs : List (Option X)) (m : ℕ) (v : Option X) → ((k : ℕ) (a : X) → option_flatten (slice_get xs k) ≡ Some a → Q a)
    → ((a : X) → v ≡ Some a → Q a) → (k : ℕ) (a : X) → option_flatten (slice_get (slice_set xs m v) k) ≡ Some a → Q a
set_each Q [] m v p q k a e = p k a e
set_each Q (x ∷ xs) zero v p q zero a e = q a e
set_each Q (x ∷ xs) zero v p q (suc k) a e = p (suc k) a e
set_each Q (x ∷ xs) (suc m) v p q zero a e = p zero a e
set_each Q (x ∷ xs) (suc m) v p q (suc k) a e = set_each Q xs m v (λ i b f. p (suc i) b f) q k a e

keys_same : (set : Setting) (gs : List Grant) (w : World) → (keys_given set gs w).world.deployer ≡ w.deployer
keys_same set [] w = refl
keys_same set (g ∷ gs) w = keys_same set gs (key_given set w g (slice_get set.sites g.holder)).world ∙ one (slice_get set.sites g.holder)
  where
    one : (o : Option Site) → (key_given set w g o).world.deployer ≡ w.deployer
    one None = refl
    one (Some site) = refl

pub accepted_deals : (links : List Link) (d : DeployerState) (m boot : ℕ) (last : Option ℕ) → boot < 2 ^ 32 → Deals d → Deals (after_acceptance links d m boot last)
accepted_deals links d m boot last low h = record {
  asks = set_each (λ ask. (c : ℕ) × (ask ≡ ask_packet c)) d.open_asks m None h.asks (λ a e. absurd cc);
  boots = set_each (λ b. b < 2 ^ 32) d.attested m (Some boot) h.boots (λ b e. subst (λ (z : ℕ). z < 2 ^ 32) (some_inj boot b e) low);
}

module _ (set : Setting) (w : World) (h : Deals w.deployer) where
  abbrev Stays : World → Type 0
  Stays v = Deals v.deployer

  at_same : (f : State → Acted) → ((s : State) → Stays (f s).world) → (o : Option State) → Stays (at_node w f o).world
  at_same f g None = h
  at_same f g (Some s) = g s

  take_same : (n : ℕ) (r : Result (List ℕ) Refused) → Stays (after_take w n r).world
  take_same n (Ok bytes) = h
  take_same n (Err why) = h

  irq_same : (n : ℕ) (s : State) (r : Result Seen Refused) → Stays (after_interrupt set w n s r).world
  irq_same n s (Ok seen) = h
  irq_same n s (Err why) = h

  give_same : (n at : ℕ) (o : Option (List ℕ)) → Stays (give w n at o).world
  give_same n at None = h
  give_same n at (Some bytes) = at_same _ (λ s. h) (slice_get w.nodes n)

  sense_same : (d v : ℕ) (o : Option AppDevice) → Stays (sense_at set w d v o).world
  sense_same d v None = h
  sense_same d v (Some x) = at_same _ (λ s. h) (slice_get w.nodes x.node)

  answer_deals : (m boot : ℕ) → boot < 2 ^ 32 → (o : Option Site) (p : Option (List ℕ)) → Stays (after_answer set w m boot o p).world
  answer_deals m boot low None p = h
  answer_deals m boot low (Some site) None = h
  answer_deals m boot low (Some site) (Some answer) = verdict (option_flatten (slice_get w.deployer.open_asks m))
    where
      by : (ask : List ℕ) (b : Bool) → Stays (cond b (attested set w m boot ask (option_flatten (slice_get w.deployer.attested m))) (after_denial w m)).world
      by ask true =
          let last = option_flatten (slice_get w.deployer.attested m) in
          let d = after_acceptance set.app.links w.deployer m boot last in
          subst Deals (sym (keys_same set (grants_after set.app d m boot last) (with_deployer w d w.ledger))) (accepted_deals set.app.links w.deployer m boot last low h)
      by ask false = h

      verdict : (o : Option (List ℕ)) → Stays (after_verdict set w m site boot answer o).world
      verdict None = h
      verdict (Some ask) = by ask (accepts set site w.deployer m boot answer (Some ask) (option_flatten (slice_get w.deployer.attested m)))

  done_deals : (x : Happening) → ((m boot p : ℕ) → x ≡ Answer m boot p → boot < 2 ^ 32) → Stays (done set x w).world
  done_deals Begin low = h
  done_deals (Step n) low = at_same _ (λ s. h) (slice_get w.nodes n)
  done_deals (Put n at bytes) low = at_same _ (λ s. h) (slice_get w.nodes n)
  done_deals (Set n r v) low = at_same _ (λ s. h) (slice_get w.nodes n)
  done_deals (Take n at len) low = at_same (λ s. after_take w n (take_from s at len).shown) (λ s. take_same n (take_from s at len).shown) (slice_get w.nodes n)
  done_deals (Give k n at) low = give_same n at (slice_get w.packets k)
  done_deals (Forge bytes) low = h
  done_deals (Sense d v) low = sense_same d v (slice_get set.app.devices d)
  done_deals (Irq n k) low = at_same (λ s. after_interrupt set w n (irq s k).state (irq s k).shown) (λ s. irq_same n (irq s k).state (irq s k).shown) (slice_get w.nodes n)
  done_deals (Reset n) low = at_same _ (λ s. h) (slice_get w.nodes n)
  done_deals (Ask m) low = record {
    asks = set_each (λ ask. (c : ℕ) × (ask ≡ ask_packet c)) w.deployer.open_asks m (Some (ask_packet w.deployer.asks)) h.asks
        (λ a e. (w.deployer.asks, sym (some_inj (ask_packet w.deployer.asks) a e)));
    boots = h.boots;
  }
  done_deals (Answer m boot k) low = answer_deals m boot (low m boot k refl) (slice_get set.sites m) (slice_get w.packets k)
  done_deals (Show i) low = h

abbrev Low : Setting → Script → World → Type 0
Low set script w = (k : ℕ) (now : Moment) (m boot packet : ℕ) → moment_from set k script w ≡ Some now → now.next ≡ Answer m boot packet → boot < 2 ^ 32

from_here : (set : Setting) (k : ℕ) (script : Script) (w : World) (now : Moment) → Low set script w → Deals w.deployer → moment_from set k script w ≡ Some now → Deals now.world.deployer
from_here set k End w now low h e = absurd cc
from_here set zero (Do x rest) w now low h e = subst (λ (o : Moment). Deals o.world.deployer) (some_inj (record { next = x; world = w }) now e) h
from_here set (suc k) (Do x rest) w now low h e =
    let v = (done set x w).world in
    from_here set k (rest (looks v)) v now (λ j past m boot packet f. low (suc j) past m boot packet f)
    (done_deals set w h x (λ m boot p f. low 0 (record { next = x; world = w }) m boot p refl f)) e

none_yet : {X Y : Type 0} (n : Option Y) → n ≡ None → (xs : List X) (m : ℕ) (y : Y) → option_flatten (slice_get (map (λ (x : X). n) xs) m) ≡ Some y → ⊥
none_yet n none [] m y e = absurd cc
none_yet n none (x ∷ xs) zero y e = absurd cc
none_yet n none (x ∷ xs) (suc m) y e = none_yet n none xs m y e

pub deals : (set : Setting) (lines : List Line) → AreInRange set lines → (k : ℕ) (now : Moment) → moment set lines k ≡ Some now → Deals now.world.deployer
deals set lines range k now e =
    from_here set k (script_of set lines) (switched_on set) now range.boots
    (record { asks = λ m ask f. absurd (none_yet None refl set.app.parts m ask f); boots = λ m boot f. absurd (none_yet None refl set.app.parts m boot f) }) e

-- The boots of grants.

abbrev pub AllLow : List Grant → Type 0
AllLow [] = Unit {0}
AllLow (g ∷ gs) = (g.boot < 2 ^ 32) × AllLow gs

both_low : (gs hs : List Grant) → AllLow gs → AllLow hs → AllLow (gs ++ hs)
both_low [] hs p q = q
both_low (g ∷ gs) hs p q = (p.0, both_low gs hs p.1 q)

own_low : (epochs : List ℕ) (m boot : ℕ) → boot < 2 ^ 32 → (es : List ModuleEnd) → AllLow (grants_of epochs m boot es)
own_low epochs m boot low [] = tt
own_low epochs m boot low (e ∷ es) = (low, own_low epochs m boot low es)

module _ (d : DeployerState) (h : Deals d) where
  to_low : (k : ℕ) (e : ModuleEnd) (o : Option (Option ℕ)) → slice_get d.attested k ≡ o → AllLow (grant_to d.epochs k o e)
  to_low k e None f = tt
  to_low k e (Some None) f = tt
  to_low k e (Some (Some boot)) f = (h.boots k boot (ap option_flatten f), tt)

  beyond_low : (m n : ℕ) (l : Link) → AllLow (grant_beyond d m n l)
  beyond_low m n l = by (l.from == l.to) (l.from == m) (l.to == m)
    where
      by : (a b c : Bool) → AllLow (cond a [] (cond b (grant_to d.epochs l.to (slice_get d.attested l.to) (record { link = n; side = To; port = l.input }))
          (cond c (grant_to d.epochs l.from (slice_get d.attested l.from) (record { link = n; side = From; port = l.output })) [])))
      by true b c = tt
      by false true c = to_low l.to (record { link = n; side = To; port = l.input }) (slice_get d.attested l.to) refl
      by false false true = to_low l.from (record { link = n; side = From; port = l.output }) (slice_get d.attested l.from) refl
      by false false false = tt

  all_beyond_low : (m n : ℕ) (ls : List Link) → AllLow (grants_beyond d m n ls)
  all_beyond_low m n [] = tt
  all_beyond_low m n (l ∷ ls) = both_low (grant_beyond d m n l) (grants_beyond d m (n + 1) ls) (beyond_low m n l) (all_beyond_low m (n + 1) ls)

  pub grants_low : (app : AppTree) (m boot : ℕ) → boot < 2 ^ 32 → (last : Option ℕ) → AllLow (grants_after app d m boot last)
  grants_low app m boot low None = own_low d.epochs m boot low (ends_of app m)
  grants_low app m boot low (Some last) =
      both_low (grants_of d.epochs m boot (ends_of app m)) (grants_beyond d m 0 app.links) (own_low d.epochs m boot low (ends_of app m)) (all_beyond_low m 0 app.links)
