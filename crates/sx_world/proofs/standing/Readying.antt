-- A world that is at a run's world is ready for the next line, and is at the next world after it.
use Rattle.std.proofs.Common.{◌≡◌, ℕ, suc, ◌+◌, ◌*◌, ◌<◌, ◌≤◌, List, [], ◌∷◌, ◌++◌, length, Some, refl, sym, ◌∙◌, ap, subst, arith, length-append}
use Rattle.std.specs.Prelude.{slice_get}
use Rattle.sx_tag.specs.Mac.{Mac}
use Rattle.sx_trace.specs.declared.items.Item.{Item}
use Rattle.sx_sched.specs.Lines.{Line, Blank, Run, Finish, Put, Set, Take, Give, Forge, Sense, Irq, Reset, Ask, Answer, Load, Call}
use Rattle.sx_sched.specs.InForm.{IsLine}
use Rattle.spec_machine.specs.State.{State}
use Rattle.sx_deploy.specs.Deployment.{Deployed}
use Rattle.sx_deploy.specs.Law as deployment
use Rattle.spec_run.specs.Setting.{Site, Setting}
use Rattle.spec_run.specs.State.{World, switched_on}
use Rattle.spec_run.specs.Run.{after_line, line_counted, run}
use Rattle.spec_run.specs.Law.{IsSoundSetting, LineInForm, LinesInForm}
use Rattle.sx_world.specs.Held.{Held, Running, Shows, Did, Wanted, targets_from}
use Rattle.sx_observe.specs.Observing.{AddsFront}
use Rattle.spec_run.specs.Accepted.{setting}
use Rattle.sx_world.specs.Standing.{Stands}
use Rattle.sx_world.specs.Ready.{IsReady}
use Rattle.spec_run.proofs.acts.Bounds.{NodeWithin, Within, steps_in, line_within, counted_within, lines_within, part_at}
use Rattle.spec_run.proofs.accepted.FormedLines.{in_form}

pub targets_long : (set : Setting) (m : ℕ) (sites : List Site) → length (targets_from set m sites) ≡ length sites
targets_long set m [] = refl
targets_long set m (site ∷ sites) = ap suc (targets_long set (m + 1) sites)

module _ (mac : Mac) (d : Deployed) (sites : List Site) (acc : deployment.IsSoundDeployment d) (sound : IsSoundSetting (setting mac d sites)) where
  abbrev set : Setting
  set = setting mac d sites

  -- the counts of the world at which it is
  bounded : (held : Held) (w : World) → Stands set held w → Within set held.performed w.steps (192 * held.performed) held.performed w
  bounded held w s =
      let l = lines_within set s.lines sound s.formed in
      let n = length s.lines in
      let there : Within set n l.0 (192 * n) n w = subst (λ (v : World). Within set n l.0 (192 * n) n v) (sym s.is) l.1 in
      let same = subst (λ (i : ℕ). Within set i l.0 (192 * i) i w) s.count there in
      record { as_many = same.as_many; nodes = same.nodes; steps = omega arith; packets = same.packets; asks = same.asks }

  -- a site is at a node, and its text in memory
  at_node : (m : ℕ) (site : Site) → slice_get sites m ≡ Some site → site.node < length d.names.nodes
  at_node m site e =
      let q = part_at set m site sound e in
      let part = acc.modules m q.0 q.1 in
      let same = (sound.deployed m q.0 site q.1 e).node in
      omega (arith, same, part.node, acc.nodes)

  in_memory : (m : ℕ) (site : Site) → slice_get sites m ≡ Some site → site.layout.pub_from + length site.text ≤ 65536
  in_memory m site e =
      let q = part_at set m site sound e in
      let x = sound.deployed m q.0 site q.1 e in
      omega (arith, x.text, x.text_end)

  pub stands_ready : (held : Held) (w : World) → held.performed < 65536 → Stands set held w → IsReady d sites held.running
  stands_ready held w few s =
      let b = bounded held w s in
      let nodes = s.shows.nodes in
      let node : (n : ℕ) (x : State) → slice_get held.running.nodes n ≡ Some x → NodeWithin set held.performed n x =
      λ n x here. b.nodes n x (ap (λ (ns : List State). slice_get ns n) (sym nodes) ∙ here) in
      let long : length held.running.nodes ≡ length d.names.nodes = ap length nodes ∙ b.as_many ∙ acc.keys in
      record {
        nodes = long;
        boots = λ n x here. let f = (node n x here).boot in omega (arith, f, few);
        devices = λ n x here. (node n x here).devices;
        steps = let same = s.shows.steps in let most = s.steps in omega (arith, same, most, few);
        packets = let same = ap length s.shows.packets in let most = b.packets in omega (arith, same, most, few);
        asks = let same = s.shows.deployer.asks in let most = b.asks in omega (arith, same, most, few);
        targets = ap length s.shows.deployer.targets ∙ targets_long set 0 sites ∙ sound.sites;
        as_many = sound.sites;
        at_nodes = λ m site e. let lt = at_node m site e in omega (arith, lt, long);
        texts = in_memory;
      }

  few_steps : (line : Line) → IsLine d.names line → steps_in line ≤ 1000000
  few_steps Blank h = omega arith
  few_steps (Run n k) h = let lt = h.2 in omega (arith, lt)
  few_steps (Finish n) h = omega arith
  few_steps (Put n at bytes) h = omega arith
  few_steps (Set n r v) h = omega arith
  few_steps (Take n at len) h = omega arith
  few_steps (Give k n at) h = omega arith
  few_steps (Forge bytes) h = omega arith
  few_steps (Sense x v) h = omega arith
  few_steps (Irq n line) h = omega arith
  few_steps (Reset n) h = omega arith
  few_steps (Ask m) h = omega arith
  few_steps (Answer m boot k) h = omega arith
  few_steps (Load m) h = omega arith
  few_steps (Call m e input output) h = omega arith

  pub run_then : (lines : List Line) (line : Line) (w : World) → (run set w (lines ++ line ∷ [])).world ≡ (after_line set (line_counted (run set w lines).world) line).world
  run_then [] line w = refl
  run_then (x ∷ lines) line w = run_then lines line (after_line set (line_counted w) x).world

  pub formed_then : (lines : List Line) (line : Line) → LinesInForm set lines → LineInForm set line → LinesInForm set (lines ++ line ∷ [])
  formed_then [] line are is = (is, tt)
  formed_then (x ∷ lines) line are is = (are.0, formed_then lines line are.1 is)

  shows_counted : (kept : Running) (w : World) → Shows set kept w → Shows set kept (line_counted w)
  shows_counted kept w h = record { nodes = h.nodes; packets = h.packets; deployer = h.deployer; ledger = h.ledger; steps = h.steps; placed = h.placed; recognized = h.recognized }

  -- after a line that was acted it is at the world after it
  pub acted_stands : (old new : Held) (w : World) (line : Line) → IsLine d.names line → new.performed ≡ old.performed + 1
      → Shows set new.running (after_line set (line_counted w) line).world → Stands set old w → Stands set new (after_line set (line_counted w) line).world
  acted_stands old new w line form more shows s =
      let is = in_form mac d sites acc line form in
      let next = (after_line set (line_counted w) line).world in
      let b = line_within set line old.performed w.steps (192 * old.performed) old.performed (line_counted w) sound is (counted_within set _ _ _ _ w (bounded old w s)) in
      record {
        lines = s.lines ++ line ∷ [];
        formed = formed_then s.lines line s.formed is;
        count = let e = length-append s.lines (line ∷ []) in let c = s.count in omega (arith, e, c, more);
        steps = let few = few_steps line form in let most = b.steps in let was = s.steps in omega (arith, few, most, was, more);
        is = sym (run_then s.lines line (switched_on set) ∙ ap (λ (v : World). (after_line set (line_counted v) line).world) (sym s.is));
        shows = shows;
      }

  -- so a call that acts a line leaves it
  pub act_did : (old new : Held) (kept : Running) (lent : List Site) (before after : List Item) (line : Line) → IsLine d.names line → new.performed ≡ old.performed + 1
      → lent ≡ sites → kept ≡ old.running → Did (setting mac d lent) kept new.running before after (λ w. after_line (setting mac d lent) w line)
      → (w : World) → Stands set old w → Stands set new (after_line set (line_counted w) line).world × (after ≡ before ++ (after_line set (line_counted w) line).items)
  act_did old new kept lent before after line form more el ek did w s =
      let here = subst (λ (xs : List Site). Did (setting mac d xs) kept new.running before after (λ w. after_line (setting mac d xs) w line)) el did in
      let shown = subst (λ (k : Running). Shows set k w) (sym ek) s.shows in
      let r = here (line_counted w) (shows_counted kept w shown) in
      (acted_stands old new w line form more r.0 s, r.1)

  -- and one in which memory ran out has added a prefix of its items
  pub act_wanted : (old : Held) (kept : Running) (lent : List Site) (before after : List Item) (line : Line) → lent ≡ sites → kept ≡ old.running
      → Wanted (setting mac d lent) kept before after (λ w. after_line (setting mac d lent) w line)
      → (w : World) → Stands set old w → AddsFront before after (after_line set (line_counted w) line).items
  act_wanted old kept lent before after line el ek front w s =
      let here = subst (λ (xs : List Site). Wanted (setting mac d xs) kept before after (λ w. after_line (setting mac d xs) w line)) el front in
      let shown = subst (λ (k : Running). Shows set k w) (sym ek) s.shows in
      here (line_counted w) (shows_counted kept w shown)
