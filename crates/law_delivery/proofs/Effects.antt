-- What an event of a module leaves of the course, and which values it sends.
use Rattle.std.proofs.Common.{◌≡◌, ℕ, ◌+◌, ◌<◌, ◌≤◌, Bool, true, false, cond, if◌then◌else◌, List, [], ◌∷◌, ◌++◌, length, length-append, map, Some, slice_get, append_assoc, refl, sym, ◌∙◌, ap, arith}
use Rattle.std.specs.Prelude.{slice_index_or, slice_set, count_by}
use Rattle.std.proofs.lemmas.List.{get_or-set_other, get_or-set_same}
use Rattle.std.proofs.lemmas.List.Sums.{sum_by-cons}
use Rattle.lemmas.proofs.Lists.{get_some}
use Rattle.sx_mean.specs.declared.events.Act.{Act}
use Rattle.sx_mean.specs.declared.events.Act.TheVariants.{Send, Emit}
use Rattle.sx_mean.specs.declared.events.End.{End}
use Rattle.sx_mean.specs.declared.events.SourceEvent.{SourceEvent}
use Rattle.sx_mean.specs.Application.{AppTree, PartTree}
use Rattle.sx_mean.specs.Validity.{is_valid}
use Rattle.sx_mean.specs.Ends.{ends_of, is_sending}
use Rattle.sx_mean.specs.EndLaws.{senders}
use Rattle.sx_mean.specs.React.{react}
use Rattle.sx_mean.proofs.ValidApplications.{valid_applications}
use Rattle.sx_trace.specs.declared.items.Item.{Item}
use Rattle.spec_machine.specs.State.{State}
use Rattle.spec_invocation.specs.ModuleState.{EndState}
use Rattle.spec_run.specs.Setting.{Site, Setting}
use Rattle.spec_run.specs.Observation.{sender_of}
use Rattle.spec_run.specs.State.{World}
use Rattle.spec_run.specs.Law.{IsLawfulSetting}
use Rattle.spec_run.proofs.tie.Lists.{get_within}
use Rattle.law_invocation.specs.Effect.{acts_packets}
use Rattle.law_invocation.proofs.Few.{few_made}
use Rattle.law_calls.specs.FourCalls.{emitted}
use Rattle.spec_honest.specs.Plain.{Output, Waiting, act_sends, acts_emit, acts_send}
use Rattle.spec_honest.specs.Course.{Course}
use Rattle.law_setup.proofs.forms.Settled.{Settled, all_sent, module_as, open_end}
use Rattle.law_setup.proofs.KeyLoop.{state_with}
use Rattle.law_delivery.proofs.Leaving.{Among, acts_leave, ends_kept}
use Rattle.law_delivery.proofs.Making.{sends_are, sends_over}

-- what acts put out, in two words
pub emits_same : (acts : List Act) → emitted acts ≡ acts_emit acts
emits_same [] = refl
emits_same (Send output v ∷ acts) = emits_same acts
emits_same (Emit v ∷ acts) = ap (λ (vs : List ℕ). v ∷ vs) (emits_same acts)

-- No event sends more than 16 values.

count_more : (p : End → Bool) (e : End) (es : List End) → count_by p (e ∷ es) ≡ cond (p e) 1 0 + count_by p es
count_more p e es = sum_by-cons (λ x. cond (p x) 1 0) e es

senders_long : (output v : ℕ) (es : List End) → length (sends_over output v es) ≡ senders es output
senders_long output v [] = refl
senders_long output v (e ∷ es) = go (is_sending output e.side e.port) refl (senders_long output v es)
  where
    more : senders (e ∷ es) output ≡ cond (is_sending output e.side e.port) 1 0 + senders es output
    more = count_more (λ (x : End). is_sending output x.side x.port) e es

    go : (b : Bool) → is_sending output e.side e.port ≡ b → length (sends_over output v es) ≡ senders es output
        → length (if b then record { link = e.link; value = v } ∷ sends_over output v es else sends_over output v es) ≡ senders (e ∷ es) output
    go true t rest = let a : senders (e ∷ es) output ≡ 1 + senders es output = more ∙ ap (λ (b : Bool). cond b 1 0 + senders es output) t in omega (arith, a, rest)
    go false t rest = let a : senders (e ∷ es) output ≡ 0 + senders es output = more ∙ ap (λ (b : Bool). cond b 1 0 + senders es output) t in omega (arith, a, rest)

sends_counted : (app : AppTree) (m : ℕ) (acts : List Act) → length (acts_send app.links m acts) ≡ acts_packets (ends_of app m) acts
sends_counted app m [] = refl
sends_counted app m (Send output v ∷ acts) =
    let a = length-append (act_sends app.links m (Send output v)) (acts_send app.links m acts) in
    let b : length (sends_over output v (ends_of app m)) ≡ length (act_sends app.links m (Send output v)) = ap (λ (zs : List Waiting). length zs) (sends_are 0 m output v app.links) in
    let d = senders_long output v (ends_of app m) in
    let rest = sends_counted app m acts in
    omega (arith, a, b, d, rest)
sends_counted app m (Emit v ∷ acts) = let rest = sends_counted app m acts in omega (arith, rest)

pub sends_few : (app : AppTree) (m : ℕ) (q : PartTree) → is_valid app ≡ true → slice_get app.parts m ≡ Some q → (e : SourceEvent) (cells : List ℕ)
    → length (acts_send app.links m (react q.tree e cells).acts) ≤ 16
sends_few app m q valid part e cells =
    let a = sends_counted app m (react q.tree e cells).acts in
    let b = few_made app m q valid part e cells in
    omega (arith, a, b)

-- the sender of what an event sends
pub sent_by : (app : AppTree) (m : ℕ) (acts : List Act) (x : Waiting) → Among x (acts_send app.links m acts) → sender_of app x.link ≡ m
sent_by app m acts x a =
    let l = acts_leave m app.links acts x a in
    let at : x.link ≡ l.place = (let z = l.at in omega (arith, z)) in
    ap (sender_of app) at ∙ ap Rattle.spec_run.specs.Observation.from_of l.there ∙ l.from

-- a module's node is there
pub node_there : (set : Setting) → IsLawfulSetting set → is_valid set.app ≡ true → (c : Course) (w : World) → Settled set w c → (m : ℕ) (q : PartTree) (site : Site) → slice_get set.app.parts m ≡ Some q
    → slice_get set.sites m ≡ Some site → (s : State) × (slice_get w.nodes site.node ≡ Some s)
node_there set sound valid c w settled m q site part sited =
    let a = ((valid_applications set.app valid).parts m q part).node in
    let b = (sound.sound.deployed m q site part sited).node in
    let d = settled.as_many in
    let e = sound.sound.keys in
    get_some w.nodes site.node (omega (arith, a, b, d, e))

pub site_there : (set : Setting) → IsLawfulSetting set → (m : ℕ) (q : PartTree) → slice_get set.app.parts m ≡ Some q → (site : Site) × (slice_get set.sites m ≡ Some site)
site_there set sound m q part = (let a = get_within set.app.parts m q part in let b = sound.sound.sites in get_some set.sites m (omega (arith, a, b)))

-- A course after an event of the m-th module, where these values wait from before.
module _ (set : Setting) (c : Course) (m : ℕ) (acts : List Act) (past2 rest : List Waiting) (new : List ℕ) (outs : List Output) (items : List Item) (sent : past2 ++ rest ≡ all_sent c) where
  abbrev ys : List Waiting
  ys = acts_send set.app.links m acts

  all_after : past2 ++ (rest ++ ys) ≡ all_sent c ++ ys
  all_after = sym (append_assoc past2 rest ys) ∙ ap (λ (zs : List Waiting). zs ++ ys) sent

  pub own_after : (ends : List EndState) → ends ≡ map (open_end set past2 (all_sent c ++ acts_send set.app.links m acts)) (ends_of set.app m) → m < length c.plain.cells
      → state_with new ends ≡ module_as set (record {
        plain = record { cells = slice_set c.plain.cells m new; waiting = rest ++ acts_send set.app.links m acts; outputs = outs };
        past = past2;
        items = items;
      }) m
  own_after ends is within =
      ap (λ (es : List EndState). state_with new es) (is ∙ ap (λ (zs : List Waiting). map (open_end set past2 zs) (ends_of set.app m)) (sym all_after))
      ∙ ap (λ (cs : List ℕ). state_with cs (map (open_end set past2 (past2 ++ (rest ++ ys))) (ends_of set.app m))) (sym (get_or-set_same c.plain.cells m new [] within))

  pub others_after : (p : ℕ) → (m ≡ p → ⊥) → map (open_end set c.past (all_sent c)) (ends_of set.app p) ≡ map (open_end set past2 (all_sent c)) (ends_of set.app p)
      → module_as set c p ≡ module_as set (record {
        plain = record { cells = slice_set c.plain.cells m new; waiting = rest ++ acts_send set.app.links m acts; outputs = outs };
        past = past2;
        items = items;
      }) p
  others_after p ne kept =
      ap (λ (es : List EndState). state_with (slice_index_or c.plain.cells p []) es)
      (kept ∙ ends_kept set p m past2 (all_sent c) acts ne ∙ ap (λ (zs : List Waiting). map (open_end set past2 zs) (ends_of set.app p)) (sym all_after))
      ∙ ap (λ (cs : List ℕ). state_with cs (map (open_end set past2 (past2 ++ (rest ++ ys))) (ends_of set.app p))) (sym (get_or-set_other c.plain.cells m p new [] (λ z. ne (sym z))))
