-- Each module's cells, and each value on its way, are words: an event leaves them so.
use Rattle.std.proofs.Common.{◌≡◌, ℕ, suc, ◌+◌, ◌<◌, inl, inr, Bool, true, false, if◌then◌else◌, List, [], ◌∷◌, length, map, Some, slice_get, refl, sym, ◌∙◌, ap, subst, arith}
use Rattle.std.specs.Prelude.{slice_index_or, slice_set}
use Rattle.std.specs.List.{All}
use Rattle.std.proofs.lemmas.Bool.{cases_eq}
use Rattle.std.proofs.lemmas.List.{get_or-set_other, get_or-set_same, length-set}
use Rattle.std.proofs.lemmas.List.Elements.{All-append, All-cons, All-head, All-nil, All-tail}
use Rattle.std.proofs.lemmas.Option.{same_Some, slice_get_within}
use Rattle.sx_lang.specs.Words.{IsWord}
use Rattle.sx_mean.specs.declared.apps.Link.{Link}
use Rattle.sx_mean.specs.declared.events.Act.{Act}
use Rattle.sx_mean.specs.declared.events.Act.TheVariants.{Send, Emit}
use Rattle.sx_mean.specs.declared.events.SourceEvent.{SourceEvent}
use Rattle.sx_mean.specs.Application.{AppTree, PartTree, leaves}
use Rattle.sx_mean.specs.Places.{initial_cells}
use Rattle.sx_mean.specs.React.{value_of}
use Rattle.sx_mean.specs.Words.{ActsOnWord, AreCells}
use Rattle.sx_mean.proofs.Words.{cells_begin, reactions_keep_words}
use Rattle.spec_honest.specs.Plain.{Plain, Waiting, act_sends, acts_send, over, plain_start, reacted, reaction}
use Rattle.spec_honest.proofs.Setup.{first_cells_at}
use Rattle.law_delivery.specs.Laws.{HaveWords}

-- a value on its way is a word
abbrev pub HasWord : Waiting → Type 0
HasWord w = IsWord w.value

pub record InWords (app : AppTree) (s : Plain) : Type 0 where
  pub many : length s.cells ≡ length app.parts
  pub cells : (m : ℕ) (q : PartTree) → slice_get app.parts m ≡ Some q → AreCells q.tree.decls (slice_index_or s.cells m [])
  pub waiting : All HasWord s.waiting

-- at the start

as_many : (qs : List PartTree) → length (map (λ (q : PartTree). initial_cells q.tree.decls) qs) ≡ length qs
as_many [] = refl
as_many (q ∷ qs) = ap (λ (k : ℕ). suc k) (as_many qs)

pub words_start : (app : AppTree) → HaveWords app → InWords app (plain_start app)
words_start app words = record {
  many = as_many app.parts;
  cells = λ m q there. subst (λ (cs : List ℕ). AreCells q.tree.decls cs) (sym (first_cells_at app.parts m q there)) (cells_begin q.tree.decls (words m q there).decls);
  waiting = All-nil HasWord;
}

-- what acts on words sends is words

over_words : (n p output v : ℕ) (ls : List Link) → IsWord v → All HasWord (over n p output v ls)
over_words n p output v [] h = All-nil HasWord
over_words n p output v (l ∷ ls) h = go (leaves p output l) (over_words (n + 1) p output v ls h)
  where
    go : (b : Bool) → All HasWord (over (n + 1) p output v ls) → All HasWord (if b then record { link = n; value = v } ∷ over (n + 1) p output v ls else over (n + 1) p output v ls)
    go true more = All-cons HasWord (record { link = n; value = v }) (over (n + 1) p output v ls) h more
    go false more = more

act_words : (ls : List Link) (p : ℕ) (a : Act) → ActsOnWord a → All HasWord (act_sends ls p a)
act_words ls p (Send output v) h = over_words 0 p output v ls h
act_words ls p (Emit v) h = All-nil HasWord

acts_words : (ls : List Link) (p : ℕ) (acts : List Act) → All ActsOnWord acts → All HasWord (acts_send ls p acts)
acts_words ls p [] h = All-nil HasWord
acts_words ls p (a ∷ acts) h = All-append HasWord (act_sends ls p a) (acts_send ls p acts) (act_words ls p a (All-head ActsOnWord a acts h)) (acts_words ls p acts (All-tail ActsOnWord a acts h))

-- an event of a module
pub reacted_words : (app : AppTree) → HaveWords app → (p : ℕ) (e : SourceEvent) (s : Plain) (q : PartTree) → slice_get app.parts p ≡ Some q
    → IsWord (value_of e) → InWords app s → InWords app (reacted app p e s q)
reacted_words app words p e s q part v h =
    let r = reactions_keep_words q.tree e (slice_index_or s.cells p []) (words p q part) v (h.cells p q part) in
    let new = (reaction p q e s.cells).cells in
    record {
      many = length-set s.cells p new ∙ h.many;
      cells = λ m z there. elim (cases_eq p m) [
        | inl same ↦
            let parts : q ≡ z = same_Some q z (sym part ∙ ap (λ (i : ℕ). slice_get app.parts i) same ∙ there) in
            let within : p < length s.cells = (let a = slice_get_within app.parts p q part in let b = h.many in omega (arith, a, b)) in
            let own : AreCells q.tree.decls (slice_index_or (slice_set s.cells p new) p []) = subst (λ (cs : List ℕ). AreCells q.tree.decls cs)
            (sym (get_or-set_same s.cells p new [] within)) r.cells_stay in
            subst (λ (k : ℕ). AreCells z.tree.decls (slice_index_or (slice_set s.cells p new) k [])) same
            (subst (λ (y : PartTree). AreCells y.tree.decls (slice_index_or (slice_set s.cells p new) p [])) parts own)
        | inr apart ↦ subst (λ (cs : List ℕ). AreCells z.tree.decls cs) (sym (get_or-set_other s.cells p m new [] (λ k. apart (sym k)))) (h.cells m z there)
      ];
      waiting = All-append HasWord s.waiting (acts_send app.links p (reaction p q e s.cells).acts) h.waiting (acts_words app.links p (reaction p q e s.cells).acts r.acts);
    }

-- where others wait
pub words_with : (app : AppTree) (s : Plain) (ws : List Waiting) → All HasWord ws → InWords app s → InWords app (record s { waiting = ws })
words_with app s ws w h = record { many = h.many; cells = h.cells; waiting = w }
