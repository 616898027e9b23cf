-- What holds of each part of an honest run: one induction over its definition.
use Rattle.std.proofs.Common.{◌≡◌, ℕ, zero, suc, ◌+◌, ◌*◌, ◌<◌, ◌^◌, true, List, [], ◌∷◌, length, Option, Some, None, refl, arith}
use Rattle.std.specs.Prelude.{IfSome, option_and_then, slice_get}
use Rattle.std.specs.List.{position_from}
use Rattle.sx_mean.specs.declared.apps.Link.{Link}
use Rattle.sx_mean.specs.Application.{PartTree}
use Rattle.sx_mean.specs.Validity.{same_device}
use Rattle.sx_trace.specs.Names.{NameLists}
use Rattle.sx_sched.specs.Lines.{Line, Take, Give, Sense, Ask, Answer, Load, Call}
use Rattle.spec_run.specs.Setting.{Setting}
use Rattle.sx_drive.specs.Honest.{Callee, Driven, Honest, Reading, IN_WINDOW, OUT_WINDOW, MOST_LINES, still, then_, each, says, packets_of, made_by, callee_at}
use Rattle.sx_drive.specs.Honest.{if_there, calls, hands, queues, takes_one, takes, collects, answers, asks, opens, sets_up, sets_up_from, setup, target_of}
use Rattle.sx_drive.specs.Honest.{receiver_of, receives, delivers, with_waiting, oldest, settles, driver_of, samples, reads}
use Rattle.command_drive.specs.Parts.{IsNamed}

-- the module is one of those that have names, and so is its node
pub record IsThere (names : NameLists) (x : Callee) : Type 0 where
  pub part : x.part < length names.modules
  pub node : x.node < length names.nodes

-- so is each module of the application
abbrev pub AreThere : NameLists → Setting → Type 0
AreThere names set = (m : ℕ) → IfSome (callee_at set.app m) (IsThere names)

-- It holds of each line that can be written, and of parts that it holds of, one after the other. The run may change what waits, and what was shown.
pub record Ways (names : NameLists) (set : Setting) (P : Honest → Driven → Type 0) : Type 0 where
  pub moved : (h g : Honest) → g.world ≡ h.world → g.long ≡ h.long → P h (still g)
  pub said : (line : Line) (h : Honest) → IsNamed names line → P h (says set line h)
  pub joined : (h : Honest) (a : Driven) (rest : Honest → Driven) → P h a → P a.honest (rest a.honest) → P h (then_ a rest)
  pub begun : (h g : Honest) (a : Driven) → g.world ≡ h.world → g.long ≡ h.long → P g a → P h a

if_both : {A B : Type 0} (Q : B → Type 0) (f : A → Option B) (o : Option A) → ((x : A) → IfSome (f x) Q) → IfSome (option_and_then f o) Q
if_both Q f None h = tt
if_both Q f (Some x) h = h x

module _ (names : NameLists) (set : Setting) (P : Honest → Driven → Type 0) (w : Ways names set P) (there : AreThere names set) where
  pub each_by : {A : Type 0} (act : A → Honest → Driven) (xs : List A) → ((x : A) (h : Honest) → P h (act x h)) → (h : Honest) → P h (each act xs h)
  each_by act [] f h = w.moved h h refl refl
  each_by act (x ∷ xs) f h = w.joined h (act x h) (each act xs) (f x h) (each_by act xs f (act x h).honest)

  there_by : (act : Callee → Honest → Driven) (o : Option Callee) → IfSome o (IsThere names) → ((x : Callee) (h : Honest) → IsThere names x → P h (act x h)) → (h : Honest) → P h (if_there act o h)
  there_by act None is f h = w.moved h h refl refl
  there_by act (Some x) is f h = f x h is

  calls_by : (entry : ℕ) (x : Callee) (h : Honest) → IsThere names x → P h (calls set entry x h)
  calls_by entry x h is = w.said (Call x.part entry IN_WINDOW OUT_WINDOW) h is.part

  hands_by : (entry : ℕ) (x : Callee) (k : ℕ) (h : Honest) → IsThere names x → P h (hands set entry x k h)
  hands_by entry x k h is =
      let given = says set (Give k x.node IN_WINDOW) h in
      w.joined h given (calls set entry x) (w.said (Give k x.node IN_WINDOW) h is.node) (calls_by entry x given.honest is)

  queues_by : (h : Honest) → P h (queues h)
  queues_by h = w.moved h (queues h).honest refl refl

  takes_one_by : (n i : ℕ) (h : Honest) → n < length names.nodes → P h (takes_one set n i h)
  takes_one_by n i h is =
      let line = Take n (OUT_WINDOW + 24 * i) 24 in
      let taken = says set line h in
      w.joined h taken queues (w.said line h (is, omega arith, omega arith)) (queues_by taken.honest)

  takes_by : (n i k : ℕ) (h : Honest) → n < length names.nodes → P h (takes set n i k h)
  takes_by n i zero h is = w.moved h h refl refl
  takes_by n i (suc k) h is =
      let taken = takes_one set n i h in w.joined h taken (takes set n (i + 1) k) (takes_one_by n i h is) (takes_by n (i + 1) k taken.honest is)

  collects_by : (n : ℕ) (h : Honest) → n < length names.nodes → P h (collects set n h)
  collects_by n h is = takes_by n 0 (made_by h.shown) h is

  answers_by : (x : Callee) (k : ℕ) (h : Honest) → IsThere names x → P h (answers set x k h)
  answers_by x k h is = w.said (Answer x.part 0 k) h is.part

  -- what a load and an ask showed is handed to the module
  hands_shown : (entry : ℕ) (x : Callee) (h : Honest) → IsThere names x → P h (each (hands set entry x) (packets_of h.shown) h)
  hands_shown entry x h is = each_by (hands set entry x) (packets_of h.shown) (λ k g. hands_by entry x k g is) h

  answers_shown : (x : Callee) (h : Honest) → IsThere names x → P h (each (answers set x) (packets_of h.shown) h)
  answers_shown x h is = each_by (answers set x) (packets_of h.shown) (λ k g. answers_by x k g is) h

  asks_by : (x : Callee) (h : Honest) → IsThere names x → P h (asks set x h)
  asks_by x h is =
      let loaded = says set (Load x.part) h in
      let asked = says set (Ask x.part) loaded.honest in
      let rest = λ (g : Honest). each (hands set 1 x) (packets_of g.shown) g in
      w.joined h loaded (λ g. then_ (says set (Ask x.part) g) rest) (w.said (Load x.part) h is.part)
      (w.joined loaded.honest asked rest (w.said (Ask x.part) loaded.honest is.part) (hands_shown 1 x asked.honest is))

  opens_by : (x : Callee) (h : Honest) → IsThere names x → P h (opens set x h)
  opens_by x h is =
      let line = Take x.node OUT_WINDOW 16 in
      let taken = says set line h in
      let answer = λ (g : Honest). each (answers set x) (packets_of g.shown) g in
      let answered = answer taken.honest in
      let rest = λ (g : Honest). each (hands set 0 x) (packets_of g.shown) g in
      w.joined h taken (λ g. then_ (answer g) rest) (w.said line h (is.node, omega arith, omega arith))
      (w.joined taken.honest answered rest (answers_shown x taken.honest is) (hands_shown 0 x answered.honest is))

  sets_up_by : (x : Callee) (h : Honest) → IsThere names x → P h (sets_up set x h)
  sets_up_by x h is = w.joined h (asks set x h) (opens set x) (asks_by x h is) (opens_by x (asks set x h).honest is)

  sets_up_from_by : (m k : ℕ) (h : Honest) → P h (sets_up_from set m k h)
  sets_up_from_by m zero h = w.moved h h refl refl
  sets_up_from_by m (suc k) h =
      let one = if_there (sets_up set) (callee_at set.app m) h in
      w.joined h one (sets_up_from set (m + 1) k) (there_by (sets_up set) (callee_at set.app m) (there m) sets_up_by h) (sets_up_from_by (m + 1) k one.honest)

  pub setup_by : (h : Honest) → P h (setup set h)
  setup_by h = sets_up_from_by 0 (length set.app.parts) h

  target_there : (link : ℕ) → IfSome (target_of set.app link) (IsThere names)
  target_there link = if_both (IsThere names) (λ (l : Link). callee_at set.app l.to) (slice_get set.app.links link) (λ l. there l.to)

  receiver_there : (packet : List ℕ) → IfSome (receiver_of set.app packet) (IsThere names)
  receiver_there packet = if_both (IsThere names) (target_of set.app) (slice_get packet 2) target_there

  receives_by : (k : ℕ) (x : Callee) (h : Honest) → IsThere names x → P h (receives set k x h)
  receives_by k x h is =
      let handed = hands set 2 x k h in w.joined h handed (collects set x.node) (hands_by 2 x k h is) (collects_by x.node handed.honest is.node)

  delivers_by : (k : ℕ) (h : Honest) → P h (delivers set k h)
  delivers_by k h =
      let o = option_and_then (receiver_of set.app) (slice_get h.world.packets k) in
      there_by (receives set k) o (if_both (IsThere names) (receiver_of set.app) (slice_get h.world.packets k) receiver_there) (receives_by k) h

  oldest_by : (rest : Honest → Driven) (ks : List ℕ) → ((h : Honest) → P h (rest h)) → (h : Honest) → P h (oldest set rest ks h)
  oldest_by rest [] f h = w.moved h h refl refl
  oldest_by rest (k ∷ ks) f h =
      let g = with_waiting h ks in
      let one = delivers set k g in w.joined h one rest (w.begun h g one refl refl (delivers_by k g)) (f one.honest)

  settles_by : (n : ℕ) (h : Honest) → P h (settles set n h)
  settles_by zero h = w.moved h h refl refl
  settles_by (suc n) h = oldest_by (settles set n) h.waiting (settles_by n) h

  driver_there : (d : ℕ) → IfSome (driver_of set.app d) (IsThere names)
  driver_there d = if_both (IsThere names) (callee_at set.app) (position_from (λ (q : PartTree). same_device (Some d) q.device) 0 set.app.parts) there

  samples_by : (x : Callee) (h : Honest) → IsThere names x → P h (samples set x h)
  samples_by x h is =
      let called = calls set 3 x h in w.joined h called (collects set x.node) (calls_by 3 x h is) (collects_by x.node called.honest is.node)

  pub reads_by : (r : Reading) (h : Honest) → r.device < length names.devices → slice_get names.sensors r.device ≡ Some true → r.value < 2 ^ 15 → P h (reads set r h)
  reads_by r h device sensor value =
      let line = Sense r.device r.value in
      let sensed = says set line h in
      let sample = λ (g : Honest). if_there (samples set) (driver_of set.app r.device) g in
      let sampled = sample sensed.honest in
      w.joined h sensed (λ g. then_ (sample g) (settles set MOST_LINES)) (w.said line h (device, sensor, value))
      (w.joined sensed.honest sampled (settles set MOST_LINES)
      (there_by (samples set) (driver_of set.app r.device) (driver_there r.device) samples_by sensed.honest) (settles_by MOST_LINES sampled.honest))
