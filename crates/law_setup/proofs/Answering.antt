-- A right answer is accepted, and set-key packets follow.
use Rattle.std.proofs.Common.{◌≡◌, ℕ, suc, ◌+◌, ◌&&◌, true, if◌then◌else◌, List, [], ◌∷◌, ◌++◌, length, length-append, map, Some, None, refl, sym, ◌∙◌, ap}
use Rattle.std.specs.Prelude.{bytes_eq, slice_get}
use Rattle.std.proofs.lemmas.Bool.{and_from}
use Rattle.std.proofs.lemmas.List.{append-nil}
use Rattle.std.proofs.lemmas.Slice.Eq.{bytes_eq-Decides}
use Rattle.std.specs.Option.{option_flatten}
use Rattle.sx_mean.specs.declared.events.End.{End}
use Rattle.sx_mean.specs.Ends.{ends_of}
use Rattle.sx_trace.specs.declared.items.Item.TheVariants as item
use Rattle.sx_tag.specs.Mac.{IsTag}
use Rattle.spec_run.specs.Setting.{Site, Setting}
use Rattle.sx_deployer.specs.Granting.{Grant, grant, grants_after, grants_of}
use Rattle.spec_run.specs.Deployer.{accepts, after_acceptance, set_key, set_key_entry}
use Rattle.spec_run.proofs.acts.Asking.{expected}
use Rattle.spec_run.specs.Ledger.{Made}
use Rattle.spec_run.specs.Observation.{unless_made}
use Rattle.spec_run.specs.State.{World, Acted}
use Rattle.spec_run.specs.Acts.{after_answer, after_denial, after_verdict, attested, key_given, keys_given, then_, with_deployer}
use Rattle.spec_honest.specs.Course.{packet_items}
use Rattle.law_setup.proofs.forms.Acting.{AnswerAccepted, with_keys}
use Rattle.law_setup.proofs.Packets.{set_key_length}

pub append_more : {X : Type 0} → (xs : List X) (x : X) (ys : List X) → (xs ++ x ∷ []) ++ ys ≡ xs ++ x ∷ ys
append_more [] x ys = refl
append_more (z ∷ xs) x ys = ap (λ r. z ∷ r) (append_more xs x ys)

-- the packets for ends of the module
pub keys_all : (set : Setting) (m : ℕ) (site : Site) (epochs : List ℕ) → IsTag set.mac → slice_get set.sites m ≡ Some site → (es : List End) (w : World)
    → keys_given set (grants_of epochs m 0 es) w ≡ record { world = with_keys set site w (grants_of epochs m 0 es); items = packet_items (length w.packets) 38 (length es) }
keys_all set m site epochs tag sited [] w =
    ap (λ ps. record { world = record { nodes = w.nodes; packets = ps; deployer = w.deployer; ledger = w.ledger; lines = w.lines; steps = w.steps }; items = [] }) (sym (append-nil w.packets))
    ∙ ap (λ ls. record { world = record { nodes = w.nodes; packets = w.packets ++ []; deployer = w.deployer; ledger = ls; lines = w.lines; steps = w.steps }; items = [] }) (sym (append-nil w.ledger))
keys_all set m site epochs tag sited (e ∷ es) w =
    let g : Grant = grant epochs m 0 e in
    let gs = grants_of epochs m 0 es in
    let p : List ℕ = set_key set site g in
    let made : Made = set_key_entry set g in
    let v : World = record { nodes = w.nodes; packets = w.packets ++ p ∷ []; deployer = w.deployer; ledger = w.ledger ++ made ∷ []; lines = w.lines; steps = w.steps } in
    let count : length (w.packets ++ p ∷ []) ≡ length w.packets + 1 = length-append w.packets (p ∷ []) in
    let rest = keys_all set m site epochs tag sited es v in
    ap (λ o. then_ (key_given set w g o) (keys_given set gs)) sited
    ∙ ap (λ (a : Acted). record { world = a.world; items = item.Packet (length w.packets) (length p) ∷ a.items }) rest
    ∙ ap (λ k. record { world = with_keys set site v gs; items = item.Packet (length w.packets) k ∷ packet_items (length (w.packets ++ p ∷ [])) 38 (length es) }) (set_key_length set tag site g)
    ∙ ap (λ k. record { world = with_keys set site v gs; items = item.Packet (length w.packets) 38 ∷ packet_items k 38 (length es) }) count
    ∙ ap (λ ps. record {
      world =
          record { nodes = w.nodes; packets = ps; deployer = w.deployer; ledger = v.ledger ++ map (set_key_entry set) gs; lines = w.lines; steps = w.steps };
      items = packet_items (length w.packets) 38 (suc (length es));
    }) (append_more w.packets p (map (set_key set site) gs))
    ∙ ap (λ ls. record {
      world = record {
        nodes = w.nodes;
        packets = w.packets ++ p ∷ map (set_key set site) gs;
        deployer = w.deployer;
        ledger = ls;
        lines = w.lines;
        steps = w.steps;
      };
      items = packet_items (length w.packets) 38 (suc (length es));
    }) (append_more w.ledger made (map (set_key_entry set) gs))

pub answer_accepted : AnswerAccepted
answer_accepted set w m k site ask answer sound sited got asked fresh right made =
    let d = after_acceptance set.app.links w.deployer m 0 None in
    let first : (bytes_eq answer (expected set site 0 ask) && true) ≡ true = and_from (bytes_eq answer (expected set site 0 ask)) true
    ((bytes_eq-Decides answer (expected set site 0 ask)).1 right) refl in
    ap (λ o. after_answer set w m 0 o (slice_get w.packets k)) sited
    ∙ ap (after_answer set w m 0 (Some site)) got
    ∙ ap (λ o. after_verdict set w m site 0 answer (option_flatten o)) asked
    ∙ ap (λ o. let last = option_flatten o in if accepts set site w.deployer m 0 answer (Some ask) last then attested set w m 0 ask last else after_denial w m) fresh
    ∙ ap (λ b. if b then attested set w m 0 ask None else after_denial w m) first
    ∙ ap (λ b. then_ (record { world = with_deployer w d w.ledger; items = unless_made None b (item.Attested m 0) }) (keys_given set (grants_after set.app d m 0 None))) made
    ∙ ap (λ (a : Acted). record { world = a.world; items = item.Attested m 0 ∷ a.items }) (keys_all set m site w.deployer.epochs sound.tag sited (ends_of set.app m) (with_deployer w d w.ledger))
