-- What the acts of an event send over open ends is what the plain fold puts on its way.
use Rattle.std.proofs.Common.{◌≡◌, ℕ, ◌+◌, ◌<◌, ◌≤◌, inl, inr, ◌==◌, ◌&&◌, Bool, true, false, if◌then◌else◌, List, [], ◌∷◌, ◌++◌, length, map, Some, None}
use Rattle.std.proofs.Common.{slice_get, nat_lt, append_assoc, zero-add, add-zero, refl, sym, ap, ◌∙◌, subst, arith}
use Rattle.std.specs.Prelude.{slice_set}
use Rattle.std.specs.List.{cons_option}
use Rattle.std.proofs.lemmas.Bool.{cases_eq, eq-eqb, ne_eqb}
use Rattle.std.proofs.lemmas.Bool.Decides.{nat_tests}
use Rattle.std.proofs.lemmas.List.{append-nil, length-append}
use Rattle.sx_lang.specs.declared.sides.Side.TheVariants.{From, To}
use Rattle.sx_lang.specs.Tree.{ModuleTree}
use Rattle.sx_mean.specs.declared.apps.Link.{Link}
use Rattle.sx_mean.specs.declared.events.Act.{Act}
use Rattle.sx_mean.specs.declared.events.Act.TheVariants.{Send, Emit}
use Rattle.sx_mean.specs.declared.events.End.{End}
use Rattle.sx_mean.specs.declared.events.SourceEvent.{SourceEvent}
use Rattle.sx_mean.specs.Application.{AppTree, leaves}
use Rattle.sx_mean.specs.Ends.{ends_after, ends_of, receiving, sending}
use Rattle.sx_mean.specs.React.{react}
use Rattle.sx_model.specs.State.{Present}
use Rattle.sx_model.specs.Reaction.{Flow, all_done, done, flow_of, sent_over, sent_to}
use Rattle.spec_honest.specs.Plain.{Waiting, act_emits, act_sends, acts_emit, acts_send, over}
use Rattle.spec_honest.specs.Course.{words_over}
use Rattle.spec_honest.proofs.Agreement.{view_of}
use Rattle.spec_honest.proofs.Lists.{words-append, words-few}
use Rattle.sx_model.proofs.Written.{get_other}
use Rattle.lemmas.proofs.Lists.{get_same}

-- over the first so many connections' fields those words were sent
abbrev pub SentAs : ℕ → List (List ℕ) → List Waiting → Type 0
SentAs fields ss xs = (k : ℕ) → k < fields → slice_get ss k ≡ Some (words_over k xs)

-- a flow goes on: these values are put on their way, and those are emitted
pub record Flowed (fields : ℕ) (f g : Flow) (xs ys : List Waiting) (emits : List ℕ) : Type 0 where
  pub sent : SentAs fields g.sent (xs ++ ys)
  pub emits_are : g.emits ≡ f.emits ++ emits
  pub pieces_are : g.pieces ≡ f.pieces + length ys

flowed_none : (fields : ℕ) (f : Flow) (xs : List Waiting) → SentAs fields f.sent xs → Flowed fields f f xs [] []
flowed_none fields f xs h = record {
  sent = subst (λ zs. SentAs fields f.sent zs) (sym (append-nil xs)) h;
  emits_are = sym (append-nil f.emits);
  pieces_are = sym (add-zero f.pieces);
}

flowed_on : (fields : ℕ) (f g h : Flow) (xs ys zs : List Waiting) (a b : List ℕ) → Flowed fields f g xs ys a → Flowed fields g h (xs ++ ys) zs b → Flowed fields f h xs (ys ++ zs) (a ++ b)
flowed_on fields f g h xs ys zs a b u v = record {
  sent = subst (λ ws. SentAs fields h.sent ws) (append_assoc xs ys zs) v.sent;
  emits_are = v.emits_are ∙ ap (λ es. es ++ b) u.emits_are ∙ append_assoc f.emits a b;
  pieces_are = (let m = u.pieces_are in let n = v.pieces_are in let l = length-append ys zs in omega (arith, m, n, l));
}

pub words-push : (k : ℕ) (xs : List Waiting) (w : Waiting) → w.link ≡ k → words_over k (xs ++ w ∷ []) ≡ words_over k xs ++ w.value ∷ []
words-push k xs w e =
    let t : (w.link == k) ≡ true = eq-eqb w.link k e in
    words-append k xs (w ∷ []) ∙ ap (λ b. words_over k xs ++ (if b then w.value ∷ [] else [])) t

pub words-other : (k : ℕ) (xs : List Waiting) (w : Waiting) → (w.link ≡ k → ⊥) → words_over k (xs ++ w ∷ []) ≡ words_over k xs
words-other k xs w e =
    let t : (w.link == k) ≡ false = ne_eqb w.link k e in
    words-append k xs (w ∷ []) ∙ ap (λ b. words_over k xs ++ (if b then w.value ∷ [] else [])) t ∙ append-nil (words_over k xs)

-- one value
one_flowed : (fields : ℕ) (f : Flow) (xs : List Waiting) (w : Waiting) → SentAs fields f.sent xs → w.link < fields → length xs < 65535
    → Flowed fields f (sent_over w.link w.value (slice_get f.sent w.link) f) xs (w ∷ []) []
one_flowed fields f xs w h within few =
    let words = words_over w.link xs in
    let there : slice_get f.sent w.link ≡ Some words = h w.link within in
    let room : nat_lt (length words) 65535 ≡ true = (let n = words-few w.link xs in let lt : length words < 65535 = omega arith in grind (arith, nat_tests)) in
    let next : Flow = record f { sent = slice_set f.sent w.link (words ++ w.value ∷ []); pieces = f.pieces + 1 } in
    let is : next ≡ sent_over w.link w.value (slice_get f.sent w.link) f = (rw (there, room) refl) in
    subst (λ g. Flowed fields f g xs (w ∷ []) []) is (record {
      sent = λ k lt. elim (cases_eq w.link k) [
        | inl e ↦ subst (λ k. slice_get (slice_set f.sent w.link (words ++ w.value ∷ [])) k ≡ Some (words_over k (xs ++ w ∷ []))) e
            (get_same f.sent w.link (words ++ w.value ∷ []) words there ∙ ap (λ (zs : List ℕ). Some zs) (sym (words-push w.link xs w refl)))
        | inr n ↦ get_other f.sent w.link k (words ++ w.value ∷ []) n ∙ h k lt ∙ ap (λ (zs : List ℕ). Some zs) (sym (words-other k xs w n))
      ];
      emits_are = sym (append-nil f.emits);
      pieces_are = refl;
    })

-- the ends of one connection, before others
ends_send : (past : List Waiting) (n p output v : ℕ) (l : Link) (es : List End) (f : Flow)
    → sent_to (cons_option (sending n p l) (cons_option (receiving n p l) es)) (map (view_of past) (cons_option (sending n p l) (cons_option (receiving n p l) es))) output v f
    ≡ sent_to es (map (view_of past) es) output v (if leaves p output l then sent_over n v (slice_get f.sent n) f else f)
ends_send past n p output v l es f = go (l.from == p) (l.to == p) (l.output == output) refl
  where
    go : (a b c : Bool) → (l.output == output) ≡ c
        → let held : List End = cons_option (if a then Some (record { link = n; side = From; port = l.output }) else None)
        (cons_option (if b then Some (record { link = n; side = To; port = l.input }) else None) es) in
        sent_to held (map (view_of past) held) output v f ≡ sent_to es (map (view_of past) es) output v (if a && (l.output == output) then sent_over n v (slice_get f.sent n) f else f)
    go true true true e = rw (e, add-zero) refl
    go true true false e = rw e refl
    go true false true e = rw (e, add-zero) refl
    go true false false e = rw e refl
    go false true c e = refl
    go false false c e = refl

over_flowed : (fields : ℕ) (past : List Waiting) (n p output v : ℕ) (ls : List Link) (f : Flow) (xs : List Waiting) → SentAs fields f.sent xs → n + length ls ≤ fields
    → length xs + length (over n p output v ls) ≤ 65535 → Flowed fields f (sent_to (ends_after n p ls) (map (view_of past) (ends_after n p ls)) output v f) xs (over n p output v ls) []
over_flowed fields past n p output v [] f xs h within few = flowed_none fields f xs h
over_flowed fields past n p output v (l ∷ ls) f xs h within few =
    subst (λ g. Flowed fields f g xs (over n p output v (l ∷ ls)) []) (sym (ends_send past n p output v l (ends_after (n + 1) p ls) f))
    (go (leaves p output l) few (λ g ys. over_flowed fields past (n + 1) p output v ls g ys))
  where
    go : (b : Bool) → length xs + length (if b then record { link = n; value = v } ∷ (over (n + 1) p output v ls) else (over (n + 1) p output v ls)) ≤ 65535
        → ((g : Flow) (ys : List Waiting) → SentAs fields g.sent ys → n + 1 + length ls ≤ fields → length ys + length (over (n + 1) p output v ls) ≤ 65535
        → Flowed fields g (sent_to (ends_after (n + 1) p ls) (map (view_of past) (ends_after (n + 1) p ls)) output v g) ys (over (n + 1) p output v ls) [])
        → Flowed fields f (sent_to (ends_after (n + 1) p ls) (map (view_of past) (ends_after (n + 1) p ls)) output v (if b then sent_over n v
        (slice_get f.sent n) f else f)) xs (if b then record { link = n; value = v } ∷ (over (n + 1) p output v ls) else (over (n + 1) p output v ls)) []
    go true few more =
        let w : Waiting = record { link = n; value = v } in
        let g = sent_over n v (slice_get f.sent n) f in
        let lt : n < fields = omega (arith, within) in
        let room : length xs < 65535 = omega (arith, few) in
        let one = one_flowed fields f xs w h lt room in
        let l = length-append xs (w ∷ []) in
        let left : length (xs ++ w ∷ []) + length (over (n + 1) p output v ls) ≤ 65535 = omega (arith, few, l) in
        flowed_on fields f g (sent_to (ends_after (n + 1) p ls) (map (view_of past) (ends_after (n + 1) p ls)) output v g) xs (w ∷ [])
        (over (n + 1) p output v ls) [] [] one (more g (xs ++ w ∷ []) one.sent (omega (arith, within)) left)
    go false few more = more f xs h (omega (arith, within)) few

-- an act of a part
act_flowed : (fields : ℕ) (past : List Waiting) (p : ℕ) (ls : List Link) (a : Act) (f : Flow) (xs : List Waiting) → SentAs fields f.sent xs → length ls ≤ fields
    → length xs + length (act_sends ls p a) ≤ 65535 → Flowed fields f (done (ends_after 0 p ls) (map (view_of past) (ends_after 0 p ls)) a f) xs (act_sends ls p a) (act_emits a)
act_flowed fields past p ls (Send output v) f xs h within few = over_flowed fields past 0 p output v ls f xs h (omega (arith, within)) few
act_flowed fields past p ls (Emit v) f xs h within few = record {
  sent = subst (λ zs. SentAs fields f.sent zs) (sym (append-nil xs)) h;
  emits_are = refl;
  pieces_are = sym (add-zero f.pieces);
}

acts_flowed : (fields : ℕ) (past : List Waiting) (p : ℕ) (ls : List Link) (acts : List Act) (f : Flow) (xs : List Waiting) → SentAs fields f.sent xs → length ls ≤ fields
    → length xs + length (acts_send ls p acts) ≤ 65535
    → Flowed fields f (all_done (ends_after 0 p ls) (map (view_of past) (ends_after 0 p ls)) acts f) xs (acts_send ls p acts) (acts_emit acts)
acts_flowed fields past p ls [] f xs h within few = flowed_none fields f xs h
acts_flowed fields past p ls (a ∷ acts) f xs h within few =
    let es = ends_after 0 p ls in
    let views = map (view_of past) es in
    let g = done es views a f in
    let ys = act_sends ls p a in
    let zs = acts_send ls p acts in
    let l = length-append ys zs in
    let m = length-append xs ys in
    let first : length xs + length ys ≤ 65535 = omega (arith, few, l) in
    let left : length (xs ++ ys) + length zs ≤ 65535 = omega (arith, few, l, m) in
    let one = act_flowed fields past p ls a f xs h within first in
    flowed_on fields f g (all_done es views acts g) xs ys zs (act_emits a) (acts_emit acts) one (acts_flowed fields past p ls acts g (xs ++ ys) one.sent within left)

-- what an event of a part comes to, with all of its ends open
pub record Comes (fields : ℕ) (app : AppTree) (p : ℕ) (acts : List Act) (xs : List Waiting) (f : Flow) : Type 0 where
  pub sent : SentAs fields f.sent (xs ++ acts_send app.links p acts)
  pub emits : f.emits ≡ acts_emit acts
  pub pieces : f.pieces ≡ length (acts_send app.links p acts)

pub comes : (fields : ℕ) (app : AppTree) (p : ℕ) (tree : ModuleTree) (e : SourceEvent) (past : List Waiting) (r : Present) (ss : List (List ℕ)) (xs : List Waiting) → SentAs fields ss xs
    → length app.links ≤ fields → length xs + length (acts_send app.links p (react tree e r.cells).acts) ≤ 65535 → r.ends ≡ map (view_of past) (ends_of app p)
    → Comes fields app p (react tree e r.cells).acts xs (flow_of tree (ends_of app p) e r ss)
comes fields app p tree e past r ss xs h within few ends =
    let acts = (react tree e r.cells).acts in
    let f : Flow = record { sent = ss; emits = []; pieces = 0 } in
    let flowed = acts_flowed fields past p app.links acts f xs h within few in
    let g = all_done (ends_of app p) (map (view_of past) (ends_of app p)) acts f in
    let there : Comes fields app p acts xs g = record { sent = flowed.sent; emits = flowed.emits_are; pieces = flowed.pieces_are ∙ zero-add (length (acts_send app.links p acts)) } in
    subst (λ views. Comes fields app p acts xs (all_done (ends_of app p) views acts f)) (sym ends) there
