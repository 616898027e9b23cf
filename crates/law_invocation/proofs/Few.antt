-- An event of a module of a valid application makes at most 16 packets.
use Rattle.std.proofs.Common.{◌≡◌, ℕ, ◌≤◌, Bool, true, false, cond, List, [], ◌∷◌, Option, Some, None, refl, subst, arith}
use Rattle.std.specs.Prelude.{nat_lt, find}
use Rattle.std.specs.List.{list_any}
use Rattle.std.proofs.lemmas.Bool.{ltb-false, or_parts}
use Rattle.std.proofs.lemmas.Option.{none-some, same_Some}
use Rattle.sx_lang.specs.declared.tree.Decl.{Decl}
use Rattle.sx_lang.specs.Tree.{HandlerTree, ModuleTree}
use Rattle.sx_check.specs.Names.{same_input}
use Rattle.sx_mean.specs.declared.events.End.{End}
use Rattle.sx_mean.specs.declared.events.Act.{Act}
use Rattle.sx_mean.specs.declared.events.Act.TheVariants.{Send, Emit}
use Rattle.sx_mean.specs.declared.events.SourceEvent.{SourceEvent}
use Rattle.sx_mean.specs.declared.events.SourceEvent.TheVariants as event
use Rattle.sx_mean.specs.Application.{block_packets, links_from}
use Rattle.sx_mean.specs.React.{react, run, start, handler_at, value_of, handler_of_name, input_names, nth}
use Rattle.sx_mean.specs.Ends.{ends_of}
use Rattle.sx_mean.specs.EndLaws.{senders}
use Rattle.sx_mean.proofs.Ends.{ends_counted}
use Rattle.sx_mean.proofs.ValidApplications.{valid_applications}
use Rattle.sx_mean.proofs.SendsCounted.{block_sent, sends_by}
use Rattle.law_invocation.specs.Effect.{acts_packets}
use Rattle.law_invocation.specs.Laws.{FewMade}

packets_as : (es : List End) (f : ℕ → ℕ) → ((o : ℕ) → senders es o ≡ f o) → (acts : List Act) → acts_packets es acts ≡ sends_by f acts
packets_as es f h [] = refl
packets_as es f h (Send output v ∷ acts) = let a = h output in let b = packets_as es f h acts in omega (arith, a, b)
packets_as es f h (Emit v ∷ acts) = let b = packets_as es f h acts in omega (arith, b)

-- no handler makes more than 16 packets
abbrev AllFew : (ℕ → ℕ) → List Decl → List HandlerTree → Type 0
AllFew f ds hs = list_any (λ (h : HandlerTree). nat_lt 16 (block_packets f ds h.body)) hs ≡ false

find_few : (f : ℕ → ℕ) (ds : List Decl) (test : HandlerTree → Bool) (hs : List HandlerTree) (h : HandlerTree) → AllFew f ds hs → find test hs ≡ Some h → block_packets f ds h.body ≤ 16
find_few f ds test [] h few e = absurd (none-some h e)
find_few f ds test (x ∷ hs) h few e = go (test x) e (λ e. find_few f ds test hs h both.1 e)
  where
    both : (nat_lt 16 (block_packets f ds x.body) ≡ false) × AllFew f ds hs
    both = or_parts (nat_lt 16 (block_packets f ds x.body)) (list_any (λ (h : HandlerTree). nat_lt 16 (block_packets f ds h.body)) hs) few

    go : (b : Bool) → cond b (Some x) (find test hs) ≡ Some h → (find test hs ≡ Some h → block_packets f ds h.body ≤ 16) → block_packets f ds h.body ≤ 16
    go true e g = subst (λ (y : HandlerTree). block_packets f ds y.body ≤ 16) (same_Some x h e) (ltb-false 16 (block_packets f ds x.body) both.0)
    go false e g = g e

handler_few : (f : ℕ → ℕ) (m : ModuleTree) (e : SourceEvent) (h : HandlerTree) → AllFew f m.decls m.handlers → handler_at m e ≡ Some h → block_packets f m.decls h.body ≤ 16
handler_few f m (event.Input j v) h few e = go (nth (input_names m.decls) j) e
  where
    go : (x : Option (List ℕ)) → handler_of_name x m.handlers ≡ Some h → block_packets f m.decls h.body ≤ 16
    go None e = absurd (none-some h e)
    go (Some x) e = find_few f m.decls (λ h. same_input (Some x) h.input) m.handlers h few e
handler_few f m (event.Sample v) h few e = find_few f m.decls (λ h. same_input None h.input) m.handlers h few e

react_few : (f : ℕ → ℕ) (m : ModuleTree) (e : SourceEvent) (cells : List ℕ) → AllFew f m.decls m.handlers → sends_by f (react m e cells).acts ≤ 16
react_few f m e cells few = go (handler_at m e) refl
  where
    go : (o : Option HandlerTree) → handler_at m e ≡ o → sends_by f (run m.decls o (value_of e) cells).acts ≤ 16
    go None g = omega arith
    go (Some h) g =
        let a = block_sent m.decls f h.body (start h (value_of e) cells) in
        let b = handler_few f m e h few g in
        omega (arith, a, b)

pub few_made : FewMade
few_made app m q valid here e cells =
    let f : ℕ → ℕ = links_from app.links m in
    let placed = (valid_applications app valid).parts m q here in
    let same = packets_as (ends_of app m) f (ends_counted app m).sending (react q.tree e cells).acts in
    let few = react_few f q.tree e cells placed.packets in
    omega (arith, same, few)
