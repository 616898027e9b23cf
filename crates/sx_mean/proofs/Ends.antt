-- The ends of a part: their number, their order, and in a valid application their ports.
use Rattle.std.proofs.Common.{◌≡◌, ℕ, ◌+◌, ◌<◌, ◌≤◌, inl, inr, ◌==◌, Bool, true, false, ◌&&◌, cond, if◌then◌else◌, List, [], ◌∷◌, length, Some, None, slice_get}
use Rattle.std.proofs.Common.{count_by, refl, sym, ap, ◌∙◌, subst, arith}
use Rattle.std.specs.List.{cons_option, All, AllPairs}
use Rattle.std.proofs.lemmas.Bool.{eqb-true}
use Rattle.std.proofs.lemmas.List.Elements.{All-nil, All-cons, All-head, All-tail, All-weaker}
use Rattle.std.proofs.lemmas.List.Kept.{AllPairs-cons}
use Rattle.std.proofs.lemmas.List.Sums.{sum_by-cons}
use Rattle.sx_check.proofs.Distinct.{count_by-cons}
use Rattle.sx_lang.specs.declared.sides.Side.TheVariants.{From, To}
use Rattle.sx_lang.specs.Tree.{ModuleTree}
use Rattle.sx_lang.specs.declared.sides.Side.{Side}
use Rattle.sx_mean.specs.declared.apps.Link.{Link}
use Rattle.sx_mean.specs.declared.events.End.{End}
use Rattle.sx_mean.specs.Application.{AppTree, PartTree, ends_from, ends_to, leaves, links_from}
use Rattle.sx_mean.specs.Validity.{has_port, is_port, is_valid}
use Rattle.sx_mean.specs.Valid.{IsTied}
use Rattle.sx_mean.specs.Ends.{ends_after, ends_of, is_sending, same_side}
use Rattle.sx_mean.specs.EndLaws.{AreCountedEnds, AreEnds, IsBefore, ports_of, senders}
use Rattle.sx_mean.proofs.ValidApplications.{port_of_part, valid_applications}

-- the two ends of the n-th connection
abbrev from_end : ℕ → Link → End
from_end n l = record { link = n; side = From; port = l.output }

abbrev to_end : ℕ → Link → End
to_end n l = record { link = n; side = To; port = l.input }

-- those that are held, before others
abbrev pub held : Bool → Bool → ℕ → Link → List End → List End
held a b n l es = cons_option (if a then Some (from_end n l) else None) (cons_option (if b then Some (to_end n l) else None) es)

-- Numbers

length-ends : (ls : List Link) (n p : ℕ) → length (ends_after n p ls) ≡ ends_from ls p + ends_to ls p
length-ends [] n p = refl
length-ends (l ∷ ls) n p = go (l.from == p) (l.to == p) refl refl (length-ends ls (n + 1) p)
  where
    by : (a b : Bool) → ends_from (l ∷ ls) p ≡ cond a 1 0 + ends_from ls p → ends_to (l ∷ ls) p ≡ cond b 1 0 + ends_to ls p
        → length (ends_after (n + 1) p ls) ≡ ends_from ls p + ends_to ls p → length (held a b n l (ends_after (n + 1) p ls)) ≡ ends_from (l ∷ ls) p + ends_to (l ∷ ls) p
    by true true f g more = omega (arith, f, g, more)
    by true false f g more = omega (arith, f, g, more)
    by false true f g more = omega (arith, f, g, more)
    by false false f g more = omega (arith, f, g, more)

    go : (a b : Bool) → (l.from == p) ≡ a → (l.to == p) ≡ b → length (ends_after (n + 1) p ls) ≡ ends_from ls p + ends_to ls p
        → length (held a b n l (ends_after (n + 1) p ls)) ≡ ends_from (l ∷ ls) p + ends_to (l ∷ ls) p
    go a b ea eb more =
        by a b (count_by-cons (λ l. l.from == p) l ls ∙ ap (λ t. cond t 1 0 + ends_from ls p) ea) (count_by-cons (λ l. l.to == p) l ls ∙ ap (λ t. cond t 1 0 + ends_to ls p) eb) more

senders-ends : (ls : List Link) (n p output : ℕ) → senders (ends_after n p ls) output ≡ links_from ls p output
senders-ends [] n p output = refl
senders-ends (l ∷ ls) n p output = go (l.from == p) (l.to == p) refl (senders-ends ls (n + 1) p output)
  where
    received : (b : Bool) → senders (held false b n l (ends_after (n + 1) p ls)) output ≡ senders (ends_after (n + 1) p ls) output
    received true = let c = count_by-cons (λ e. is_sending output e.side e.port) (to_end n l) (ends_after (n + 1) p ls) in omega (arith, c)
    received false = refl

    sent : (a b : Bool) → senders (held a b n l (ends_after (n + 1) p ls)) output ≡ cond (a && (l.output == output)) 1 0 + senders (ends_after (n + 1) p ls) output
    sent true b =
        count_by-cons (λ e. is_sending output e.side e.port) (from_end n l) (held false b n l (ends_after (n + 1) p ls))
        ∙ ap (λ k. cond (l.output == output) 1 0 + k) (received b)
    sent false b = let r = received b in omega (arith, r)

    go : (a b : Bool) → (l.from == p) ≡ a → senders (ends_after (n + 1) p ls) output ≡ links_from ls p output → senders (held a b n l (ends_after (n + 1) p ls)) output ≡ links_from (l ∷ ls) p output
    go a b e more =
        sent a b ∙ ap (λ k. cond (a && (l.output == output)) 1 0 + k) more
        ∙ ap (λ t. cond (t && (l.output == output)) 1 0 + links_from ls p output) (sym e)
        ∙ sym (count_by-cons (leaves p output) l ls)

pub ends_counted : (app : AppTree) (p : ℕ) → AreCountedEnds app p
ends_counted app p = record { all = length-ends app.links 0 p; sending = λ output. senders-ends app.links 0 p output }

-- Order

abbrev pub IsIn : ℕ → ℕ → End → Type 0
IsIn n m e = (n ≤ e.link) × (e.link < m)

-- what holds of the ends of a connection and of the others holds of all
all_held : (P : End → Type 0) (a b : Bool) (n : ℕ) (l : Link) (es : List End) → (a ≡ true → P (from_end n l)) → (b ≡ true → P (to_end n l))
    → All P es → All P (held a b n l es)
all_held P true true n l es f g h = All-cons P (from_end n l) (to_end n l ∷ es) (f refl) (All-cons P (to_end n l) es (g refl) h)
all_held P true false n l es f g h = All-cons P (from_end n l) es (f refl) h
all_held P false true n l es f g h = All-cons P (to_end n l) es (g refl) h
all_held P false false n l es f g h = h

ends_in : (ls : List Link) (n m p : ℕ) → n + length ls ≤ m → All (IsIn n m) (ends_after n p ls)
ends_in [] n m p h = All-nil (IsIn n m)
ends_in (l ∷ ls) n m p h =
    all_held (IsIn n m) (l.from == p) (l.to == p) n l (ends_after (n + 1) p ls) (λ e. (omega arith, omega arith)) (λ e. (omega arith, omega arith))
    (All-weaker (IsIn (n + 1) m) (IsIn n m) (λ e i. (omega (arith, i.0), i.1)) (ends_after (n + 1) p ls) (ends_in ls (n + 1) m p (omega (arith, h))))

ends_ordered : (ls : List Link) (n p : ℕ) → AllPairs IsBefore (ends_after n p ls)
ends_ordered [] n p = λ i j d h k. absurd (omega arith)
ends_ordered (l ∷ ls) n p = go (l.from == p) (l.to == p) (ends_in ls (n + 1) (n + 1 + length ls) p (omega arith)) (ends_ordered ls (n + 1) p)
  where
    later : (s : End) → s.link ≡ n → All (IsIn (n + 1) (n + 1 + length ls)) (ends_after (n + 1) p ls) → All (IsBefore s) (ends_after (n + 1) p ls)
    later s q i = All-weaker (IsIn (n + 1) (n + 1 + length ls)) (IsBefore s) (λ e k. inl (omega (arith, q, k.0))) (ends_after (n + 1) p ls) i

    go : (a b : Bool) → All (IsIn (n + 1) (n + 1 + length ls)) (ends_after (n + 1) p ls) → AllPairs IsBefore (ends_after (n + 1) p ls) → AllPairs IsBefore (held a b n l (ends_after (n + 1) p ls))
    go true true i h =
        AllPairs-cons IsBefore (from_end n l) (to_end n l ∷ ends_after (n + 1) p ls)
        (All-cons (IsBefore (from_end n l)) (to_end n l) (ends_after (n + 1) p ls) (inr (refl, refl, refl)) (later (from_end n l) refl i))
        (AllPairs-cons IsBefore (to_end n l) (ends_after (n + 1) p ls) (later (to_end n l) refl i) h)
    go true false i h = AllPairs-cons IsBefore (from_end n l) (ends_after (n + 1) p ls) (later (from_end n l) refl i) h
    go false true i h = AllPairs-cons IsBefore (to_end n l) (ends_after (n + 1) p ls) (later (to_end n l) refl i) h
    go false false i h = h

-- Ports

abbrev IsAtPort : ModuleTree → End → Type 0
IsAtPort m e = e.port < ports_of m e.side

ends_at_ports : (app : AppTree) (p : ℕ) (q : PartTree) → slice_get app.parts p ≡ Some q → (ls : List Link) (n : ℕ) → All (IsTied app) ls → All (IsAtPort q.tree) (ends_after n p ls)
ends_at_ports app p q e [] n h = All-nil (IsAtPort q.tree)
ends_at_ports app p q e (l ∷ ls) n h =
    let t = All-head (IsTied app) l ls h in
    all_held (IsAtPort q.tree) (l.from == p) (l.to == p) n l (ends_after (n + 1) p ls)
    (λ i. port_of_part (is_port true) app.parts p l.output q (subst (λ k. has_port (is_port true) app.parts k l.output ≡ true) (eqb-true l.from p i) t.output) e)
    (λ i. port_of_part (is_port false) app.parts p l.input q (subst (λ k. has_port (is_port false) app.parts k l.input ≡ true) (eqb-true l.to p i) t.input) e)
    (ends_at_ports app p q e ls (n + 1) (All-tail (IsTied app) l ls h))

pub ends_hold : (app : AppTree) (p : ℕ) (q : PartTree) → is_valid app ≡ true → slice_get app.parts p ≡ Some q → AreEnds q.tree (ends_of app p)
ends_hold app p q v e =
    let a = valid_applications app v in
    let few = (a.parts p q e).ends in
    record {
      few = omega (arith, few, length-ends app.links 0 p);
      ordered = ends_ordered app.links 0 p;
      links = All-weaker (IsIn 0 64) (λ e. e.link < 64) (λ e i. i.1) (ends_of app p) (ends_in app.links 0 64 p (omega (arith, a.few_links)));
      ports = ends_at_ports app p q e app.links 0 a.links;
    }

-- the sending ends of a list, by its first
pub senders-cons : (e : End) (es : List End) (output : ℕ) → senders (e ∷ es) output ≡ (if is_sending output e.side e.port then 1 + senders es output else senders es output)
senders-cons e es output = go (is_sending output e.side e.port) refl
  where
    go : (b : Bool) → is_sending output e.side e.port ≡ b → senders (e ∷ es) output ≡ (if b then 1 + senders es output else senders es output)
    go true is = let c = ap {B = ℕ} (λ b. cond b 1 0) is in omega (arith, sum_by-cons (λ (e : End). cond (is_sending output e.side e.port) 1 0) e es, c)
    go false is = let c = ap {B = ℕ} (λ b. cond b 1 0) is in omega (arith, sum_by-cons (λ (e : End). cond (is_sending output e.side e.port) 1 0) e es, c)

pub same_side-refl : (s : Side) → same_side s s ≡ true
same_side-refl From = refl
same_side-refl To = refl
