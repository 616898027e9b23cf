-- Connections that stand for a module's ends, with which tests count its packets.
use Rattle.std.proofs.Common.{◌≡◌, ℕ, ◌+◌, ◌<◌, ◌≤◌, Bool, true, false, ◌∙◌, add-one, cond, List, [], ◌∷◌, ◌++◌, drop, get_or, length, sym, ap, subst, arith}
use Rattle.std.proofs.Math.Seq.{drop-cons}
use Rattle.std.proofs.lemmas.List.{drop_all}
use Rattle.std.specs.Prelude.{IsTrue, not, nat_lt}
use Rattle.std.specs.List.{list_any}
use Rattle.std.proofs.lemmas.Bool.{false≢true, ltb-false, or_parts}
use Rattle.std.proofs.lemmas.List.Sums.{sum_by-append}
use Rattle.sx_check.proofs.Distinct.{count_by-cons}
use Rattle.sx_lang.specs.Tree.{HandlerTree, ModuleTree}
use Rattle.sx_mean.specs.declared.apps.Link.{Link}
use Rattle.sx_mean.specs.declared.events.End.{End}
use Rattle.sx_mean.specs.Application.{block_packets, leaves, links_from, sends_too_much}
use Rattle.sx_mean.specs.Ends.{is_sending}
use Rattle.sx_mean.specs.EndLaws.{senders}
use Rattle.sx_lower.specs.Lowering.{SendFew}

-- as many connections leave each output as ends send what is sent to it
abbrev pub SendSame : List Link → List End → Type 0
SendSame links ends = (output : ℕ) → links_from links 0 output ≡ senders ends output

-- the connection counts where the end sends
abbrev pub Leaves : Link → End → Type 0
Leaves l e = (output : ℕ) → leaves 0 output l ≡ is_sending output e.side e.port

-- a connection more, and an end less to come
pub one_more : (links : List Link) (l : Link) (e : End) (es ends : List End) → Leaves l e → ((output : ℕ) → links_from links 0 output + senders (e ∷ es) output ≡ senders ends output) → (output : ℕ)
    → links_from (links ++ l ∷ []) 0 output + senders es output ≡ senders ends output
one_more links l e es ends same so output =
    let a = sum_by-append (λ l. cond (leaves 0 output l) 1 0) links (l ∷ []) in
    let b = count_by-cons (leaves 0 output) l [] in
    let c = count_by-cons (λ e. is_sending output e.side e.port) e es in
    let d = ap {B = ℕ} (λ (b : Bool). cond b 1 0) (same output) in
    let h = so output in
    omega (arith, a, b, c, d, h)

handlers_few : (links : ℕ → ℕ) (m : ModuleTree) (hs : List HandlerTree) → list_any (λ h. nat_lt 16 (block_packets links m.decls h.body)) hs ≡ false → SendFew links m hs
handlers_few links m [] e = tt
handlers_few links m (h ∷ hs) e =
    let p = or_parts (nat_lt 16 (block_packets links m.decls h.body)) (list_any (λ h. nat_lt 16 (block_packets links m.decls h.body)) hs) e in
    (ltb-false 16 (block_packets links m.decls h.body) p.0, handlers_few links m hs p.1)

-- what is counted over the connections holds of the ends
pub sends_few : (m : ModuleTree) (links : List Link) (ends : List End) → SendSame links ends → sends_too_much links 0 m ≡ false → SendFew (senders ends) m m.handlers
sends_few m links ends same e = subst (λ (f : ℕ → ℕ). SendFew f m m.handlers) (λ i output. same output i) (handlers_few (links_from links 0) m m.handlers e)

abbrev IsSo : List Link → List End → List End → Type 0
IsSo links es ends = (output : ℕ) → links_from links 0 output + senders es output ≡ senders ends output

-- one turn, and the end
pub links_turn : (ends : List End) (i : ℕ) (d : End) (links new : List Link) (l : Link) → i < length ends → Leaves l (get_or ends i d) → new ≡ links ++ l ∷ [] → IsSo links (drop i ends) ends
    → IsSo new (drop (i + 1) ends) ends
links_turn ends i d links new l lt same is so =
    let front : drop i ends ≡ get_or ends i d ∷ drop (i + 1) ends = drop-cons ends i d lt ∙ ap (λ n. get_or ends i d ∷ drop n ends) (sym (add-one i)) in
    subst (λ (ls : List Link). IsSo ls (drop (i + 1) ends) ends) (sym is) (one_more links l (get_or ends i d) (drop (i + 1) ends) ends same (subst (λ (es : List End). IsSo links es ends) front so))

pub links_done : (ends : List End) (i : ℕ) (links : List Link) → length ends ≤ i → IsSo links (drop i ends) ends → SendSame links ends
links_done ends i links le so output = let h = subst (λ (es : List End). IsSo links es ends) (drop_all i ends le) so output in omega (arith, h)

-- a test that was passed
pub few_tested : (m : ModuleTree) (links : List Link) (ends : List End) → SendSame links ends → (r : Bool) → r ≡ sends_too_much links 0 m → IsTrue (not r) → SendFew (senders ends) m m.handlers
few_tested m links ends same true e t = absurd (false≢true t)
few_tested m links ends same false e t = sends_few m links ends same (sym e)
