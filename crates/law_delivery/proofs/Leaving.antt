-- An event's values go over connections that leave its module, so the ends of other modules are as they were.
use Rattle.std.proofs.Common.{◌≡◌, ℕ, suc, ◌+◌, ◌⊎◌, inl, inr, ◌==◌, Bool, true, false, if◌then◌else◌, List, [], ◌∷◌, ◌++◌, length, map, Some, slice_get, refl, sym, ap, ◌∙◌, arith}
use Rattle.std.proofs.lemmas.Bool.{and_parts, eqb-true, ne_eqb}
use Rattle.std.proofs.lemmas.List.{append-nil}
use Rattle.std.proofs.lemmas.Option.{same_Some}
use Rattle.sx_lang.specs.declared.sides.Side.{Side}
use Rattle.sx_lang.specs.declared.sides.Side.TheVariants.{From, To}
use Rattle.sx_mean.specs.declared.apps.Link.{Link}
use Rattle.sx_mean.specs.declared.events.Act.{Act}
use Rattle.sx_mean.specs.declared.events.Act.TheVariants.{Send, Emit}
use Rattle.sx_mean.specs.declared.events.End.{End}
use Rattle.sx_mean.specs.Application.{leaves}
use Rattle.sx_mean.specs.Ends.{ends_of}
use Rattle.spec_invocation.specs.ModuleState.{EndState}
use Rattle.spec_run.specs.Setting.{Setting}
use Rattle.spec_run.specs.Deployer.{connection_key}
use Rattle.spec_run.proofs.tie.Tied.{HasEnd}
use Rattle.spec_run.proofs.tie.Ends.{EndOf, has_link}
use Rattle.spec_honest.specs.Plain.{Waiting, act_sends, acts_send, over}
use Rattle.spec_honest.specs.Course.{count_over, words_over}
use Rattle.spec_honest.proofs.Lists.{words-append}
use Rattle.spec_honest.proofs.Views.{count-other}
use Rattle.law_setup.proofs.forms.Settled.{open_end}

-- a value is one of these
abbrev pub Among : Waiting → List Waiting → Type 0
Among w [] = ⊥
Among w (x ∷ xs) = (x ≡ w) ⊎ Among w xs

among_split : (w : Waiting) (xs ys : List Waiting) → Among w (xs ++ ys) → Among w xs ⊎ Among w ys
among_split w [] ys h = inr h
among_split w (x ∷ xs) ys (inl e) = inl (inl e)
among_split w (x ∷ xs) ys (inr h) = elim (among_split w xs ys h) [ inl a ↦ inl (inr a) | inr b ↦ inr b ]

-- a value's connection, of those from the n-th on, leaves the module
pub record Leaves (n m : ℕ) (ls : List Link) (w : Waiting) : Type 0 where
  pub place : ℕ
  pub link : Link
  pub at : w.link ≡ n + place
  pub there : slice_get ls place ≡ Some link
  pub from : link.from ≡ m

over_leaves : (n m output v : ℕ) (ls : List Link) (w : Waiting) → Among w (over n m output v ls) → Leaves n m ls w
over_leaves n m output v [] w h = absurd h
over_leaves n m output v (l ∷ ls) w h = go (leaves m output l) refl h (λ k. over_leaves (n + 1) m output v ls w k)
  where
    later : Leaves (n + 1) m ls w → Leaves n m (l ∷ ls) w
    later r = record { place = suc r.place; link = r.link; at = r.at ∙ omega arith; there = r.there; from = r.from }

    go : (b : Bool) → leaves m output l ≡ b → Among w (if b then record { link = n; value = v } ∷ over (n + 1) m output v ls else over (n + 1) m output v ls)
        → (Among w (over (n + 1) m output v ls) → Leaves (n + 1) m ls w) → Leaves n m (l ∷ ls) w
    go true t (inl e) more = record {
      place = 0;
      link = l;
      at = ap (λ (x : Waiting). x.link) (sym e) ∙ omega arith;
      there = refl;
      from = eqb-true l.from m (and_parts (l.from == m) (l.output == output) t).0;
    }
    go true t (inr k) more = later (more k)
    go false t k more = later (more k)

pub acts_leave : (m : ℕ) (ls : List Link) (acts : List Act) (w : Waiting) → Among w (acts_send ls m acts) → Leaves 0 m ls w
acts_leave m ls [] w h = absurd h
acts_leave m ls (a ∷ acts) w h = elim (among_split w (act_sends ls m a) (acts_send ls m acts) h) [ inl k ↦ one a k | inr k ↦ acts_leave m ls acts w k ]
  where
    one : (a : Act) → Among w (act_sends ls m a) → Leaves 0 m ls w
    one (Send output v) k = over_leaves 0 m output v ls w k
    one (Emit v) k = absurd k

words_none : (k : ℕ) (xs : List Waiting) → ((w : Waiting) → Among w xs → w.link ≡ k → ⊥) → words_over k xs ≡ []
words_none k [] n = refl
words_none k (x ∷ xs) n =
    let t : (x.link == k) ≡ false = ne_eqb x.link k (n x (inl refl)) in
    ap (λ b. if b then x.value ∷ words_over k xs else words_over k xs) t ∙ words_none k xs (λ w a. n w (inr a))

count_kept : (k : ℕ) (xs ys : List Waiting) → ((w : Waiting) → Among w ys → w.link ≡ k → ⊥) → count_over k (xs ++ ys) ≡ count_over k xs
count_kept k xs ys n =
    ap (λ (zs : List ℕ). length zs) (words-append k xs ys ∙ ap (λ zs. words_over k xs ++ zs) (words_none k ys n) ∙ append-nil (words_over k xs))

map_same : (f g : End → EndState) (es : List End) → ((e : End) → HasEnd es e → f e ≡ g e) → map f es ≡ map g es
map_same f g [] h = refl
map_same f g (e ∷ es) h = ap (λ (z : EndState). z ∷ map f es) (h e (inl refl)) ∙ ap (λ (zs : List EndState). g e ∷ zs) (map_same f g es (λ x k. h x (inr k)))

-- an end with another number, on a side
numbered_end : (set : Setting) (past all past2 all2 : List Waiting) (c : ℕ) (side : Side) (port : ℕ)
    → (side ≡ From → count_over c all ≡ count_over c all2) → (side ≡ To → count_over c past ≡ count_over c past2)
    → ◌≡◌ {A = EndState} (open_end set past all (record { link = c; side = side; port = port })) (open_end set past2 all2 (record { link = c; side = side; port = port }))
numbered_end set past all past2 all2 c From port a b = ap (λ (i : ℕ). record { is_open = true; field = c; number = i; key = connection_key set c 0 }) (a refl)
numbered_end set past all past2 all2 c To port a b = ap (λ (i : ℕ). record { is_open = true; field = c; number = i; key = connection_key set c 0 }) (b refl)

from_is : (p port : ℕ) (side : Side) (l : Link) → side ≡ From → EndOf p side port l → l.from ≡ p
from_is p port From l s h = h.0
from_is p port To l s h = absurd cc

to_is : (p port : ℕ) (side : Side) (l : Link) → side ≡ To → EndOf p side port l → l.to ≡ p
to_is p port From l s h = absurd cc
to_is p port To l s h = h.0

module _ (set : Setting) (p : ℕ) where
  -- the ends of a module whose event it isn't
  pub ends_kept : (m : ℕ) (past all : List Waiting) (acts : List Act) → (m ≡ p → ⊥)
      → map (open_end set past all) (ends_of set.app p) ≡ map (open_end set past (all ++ acts_send set.app.links m acts)) (ends_of set.app p)
  ends_kept m past all acts apart =
      map_same (open_end set past all) (open_end set past (all ++ acts_send set.app.links m acts)) (ends_of set.app p)
      (λ e k.
      let h = has_link 0 p set.app.links e k in
      numbered_end set past all past (all ++ acts_send set.app.links m acts) e.link e.side e.port
      (λ side.
      sym (count_kept e.link all (acts_send set.app.links m acts)
      (λ w a at.
      let l = acts_leave m set.app.links acts w a in
      let place : h.place ≡ l.place = (let x = h.at in let y = l.at in omega (arith, x, y, at)) in
      let same : h.link ≡ l.link = same_Some h.link l.link (sym h.there ∙ ap (λ i. slice_get set.app.links i) place ∙ l.there) in
      apart (sym l.from ∙ ap (λ (z : Link). z.from) (sym same) ∙ from_is p e.port e.side h.link side h.ends))))
      (λ side. refl))

  -- the ends of a module that the value doesn't go to
  pub ends_passed : (m : ℕ) (past all : List Waiting) (w : Waiting) (l : Link) → slice_get set.app.links w.link ≡ Some l → l.to ≡ m → (m ≡ p → ⊥)
      → map (open_end set past all) (ends_of set.app p) ≡ map (open_end set (past ++ w ∷ []) all) (ends_of set.app p)
  ends_passed m past all w l there to apart =
      map_same (open_end set past all) (open_end set (past ++ w ∷ []) all) (ends_of set.app p)
      (λ e k.
      let h = has_link 0 p set.app.links e k in
      numbered_end set past all (past ++ w ∷ []) all e.link e.side e.port (λ side. refl)
      (λ side.
      sym (count-other e.link past w
      (λ at.
      let place : h.place ≡ w.link = (let x = h.at in omega (arith, x, at)) in
      let same : h.link ≡ l = same_Some h.link l (sym h.there ∙ ap (λ i. slice_get set.app.links i) place ∙ there) in
      apart (sym to ∙ ap (λ (z : Link). z.to) (sym same) ∙ to_is p e.port e.side h.link side h.ends)))))
