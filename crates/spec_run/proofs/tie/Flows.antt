-- What an event's acts do to the connections: words are sent over the module's own open ends alone, after those before.
use Rattle.std.proofs.Common.{◌≡◌, ℕ, ◌+◌, ◌⊎◌, inl, inr, ◌==◌, ◌&&◌, Bool, true, false, if◌then◌else◌, List, [], ◌∷◌, ◌++◌, length, Option, Some, None, refl, sym, ◌∙◌, ap, subst}
use Rattle.std.specs.Prelude.{slice_get, slice_set, is_some, nat_lt}
use Rattle.std.proofs.lemmas.Bool.{true≢false, and_parts, cases_eq}
use Rattle.std.proofs.lemmas.List.{append-nil, append_assoc}
use Rattle.sx_lang.specs.declared.sides.Side.{Side}
use Rattle.sx_lang.specs.declared.sides.Side.TheVariants.{From, To}
use Rattle.sx_mean.specs.declared.events.End.{End}
use Rattle.sx_mean.specs.declared.events.Act.{Act}
use Rattle.sx_mean.specs.declared.events.Act.TheVariants.{Send, Emit}
use Rattle.sx_model.specs.State.{EndView}
use Rattle.sx_model.specs.Reaction.{Flow, MOST_SENT, field_of, sent_over, sends, sent_to, done, all_done}
use Rattle.sx_model.specs.order.Reaction.{sent_first}
use Rattle.sx_model.specs.Changes.{is_from}
use Rattle.spec_run.proofs.tie.Lists.{get_other, length_set, some_inj}
use Rattle.lemmas.proofs.Lists.{get_same}

-- so it is of the connection field of each open sending end
abbrev pub AllSending : (ℕ → Type 0) → List End → List EndView → Type 0
AllSending P [] vs = Unit {0}
AllSending P (e ∷ es) [] = Unit {0}
AllSending P (e ∷ es) (v ∷ vs) = (e.side ≡ From → is_some v.epoch ≡ true → P (field_of e v)) × AllSending P es vs

-- the words of connections before and after: more words, and only over these
pub record Flows (P : ℕ → Type 0) (before after : List (List ℕ)) : Type 0 where
  pub size : length after ≡ length before
  pub grown : (c : ℕ) (words : List ℕ) → slice_get before c ≡ Some words → (more : List ℕ) × (slice_get after c ≡ Some (words ++ more))
  pub only : (c : ℕ) → (slice_get after c ≡ slice_get before c) ⊎ P c

pub flows_same : (P : ℕ → Type 0) (s : List (List ℕ)) → Flows P s s
flows_same P s = record { size = refl; grown = λ c words e. ([], e ∙ ap Some (sym (append-nil words))); only = λ c. inl refl }

pub flows_on : (P : ℕ → Type 0) (a b c : List (List ℕ)) → Flows P a b → Flows P b c → Flows P a c
flows_on P a b c f g = record {
  size = g.size ∙ f.size;
  grown = λ k words e.
      let m = f.grown k words e in
      let n = g.grown k (words ++ m.0) m.1 in
      (m.0 ++ n.0, n.1 ∙ ap Some (append_assoc words m.0 n.0));
  only = λ k. elim (g.only k) [ inl e ↦ elim (f.only k) [ inl d ↦ inl (e ∙ d) | inr p ↦ inr p ] | inr p ↦ inr p ];
}

flows_set : (P : ℕ → Type 0) (s : List (List ℕ)) (c v : ℕ) (words : List ℕ) → slice_get s c ≡ Some words → P c → Flows P s (slice_set s c (words ++ v ∷ []))
flows_set P s c v words there p = record {
  size = length_set s c (words ++ v ∷ []);
  grown = λ k ws e. elim (cases_eq k c) [
    | inl same ↦ (
      v ∷ [],
      subst (λ j. slice_get (slice_set s c (words ++ v ∷ [])) j ≡ Some (ws ++ v ∷ [])) (sym same)
          (get_same s c (words ++ v ∷ []) words there ∙ ap (λ w. Some (w ++ v ∷ [])) (some_inj words ws (sym there ∙ subst (λ j. slice_get s j ≡ Some ws) same e))),
    )
    | inr ne ↦ ([], get_other s c k (words ++ v ∷ []) ne ∙ e ∙ ap Some (sym (append-nil ws)))
  ];
  only = λ k. elim (cases_eq k c) [ inl same ↦ inr (subst P (sym same) p) | inr ne ↦ inl (get_other s c k (words ++ v ∷ []) ne) ];
}

flows_if : (P : ℕ → Type 0) (b : Bool) (f g : Flow) (s : List (List ℕ)) → (b ≡ true → Flows P s f.sent) → (b ≡ false → Flows P s g.sent) → Flows P s (if b then f else g).sent
flows_if P true f g s h k = h refl
flows_if P false f g s h k = k refl

flows_over : (P : ℕ → Type 0) (c v : ℕ) (o : Option (List ℕ)) (f : Flow) → slice_get f.sent c ≡ o → P c → Flows P f.sent (sent_over c v o f).sent
flows_over P c v None f e p = flows_same P f.sent
flows_over P c v (Some words) f e p =
    flows_if P (nat_lt (length words) MOST_SENT) (record { sent = slice_set f.sent c (words ++ v ∷ []); emits = f.emits; pieces = f.pieces + 1 }) f f.sent
    (λ _. flows_set P f.sent c v words e p) (λ _. flows_same P f.sent)

pub is_from-side : (s : Side) → is_from s ≡ true → s ≡ From
is_from-side From e = refl
is_from-side To e = absurd (true≢false (sym e))

pub flows_to : (P : ℕ → Type 0) (es : List End) (vs : List EndView) (output v : ℕ) (f : Flow) → AllSending P es vs → Flows P f.sent (sent_to es vs output v f).sent
flows_to P [] vs output v f a = flows_same P f.sent
flows_to P (e ∷ es) [] output v f a = flows_same P f.sent
flows_to P (e ∷ es) (view ∷ vs) output v f a =
    let g = if sends output e view then sent_over (field_of e view) v (slice_get f.sent (field_of e view)) f else f in
    flows_on P f.sent g.sent (sent_to es vs output v g).sent
    (flows_if P (sends output e view) (sent_over (field_of e view) v (slice_get f.sent (field_of e view)) f) f f.sent
    (λ h. let p = and_parts (is_from e.side) ((e.port == output) && is_some view.epoch) h in
    flows_over P (field_of e view) v (slice_get f.sent (field_of e view)) f refl (a.0 (is_from-side e.side p.0) (and_parts (e.port == output) (is_some view.epoch) p.1).1))
    (λ h. flows_same P f.sent))
    (flows_to P es vs output v g a.1)

pub flows_act : (P : ℕ → Type 0) (es : List End) (vs : List EndView) (a : Act) (f : Flow) → AllSending P es vs → Flows P f.sent (done es vs a f).sent
flows_act P es vs (Send output v) f h = flows_to P es vs output v f h
flows_act P es vs (Emit v) f h = flows_same P f.sent

pub flows_all : (P : ℕ → Type 0) (es : List End) (vs : List EndView) (acts : List Act) (f : Flow) → AllSending P es vs → Flows P f.sent (all_done es vs acts f).sent
flows_all P es vs [] f h = flows_same P f.sent
flows_all P es vs (a ∷ acts) f h =
    flows_on P f.sent (done es vs a f).sent (all_done es vs acts (done es vs a f)).sent (flows_act P es vs a f h) (flows_all P es vs acts (done es vs a f) h)

-- the sends before the first emit
pub flows_first : (P : ℕ → Type 0) (es : List End) (vs : List EndView) (acts : List Act) (f : Flow) → AllSending P es vs → Flows P f.sent (sent_first es vs acts f).sent
flows_first P es vs [] f h = flows_same P f.sent
flows_first P es vs (Emit v ∷ acts) f h = flows_same P f.sent
flows_first P es vs (Send output v ∷ acts) f h =
    flows_on P f.sent (sent_to es vs output v f).sent (sent_first es vs acts (sent_to es vs output v f)).sent (flows_to P es vs output v f h) (flows_first P es vs acts (sent_to es vs output v f) h)

pub all_sending : (P Q : ℕ → Type 0) (es : List End) (vs : List EndView) → ((f : ℕ) → P f → Q f) → AllSending P es vs → AllSending Q es vs
all_sending P Q [] vs j h = tt
all_sending P Q (e ∷ es) [] j h = tt
all_sending P Q (e ∷ es) (v ∷ vs) j h = (λ s o. j (field_of e v) (h.0 s o), all_sending P Q es vs j h.1)
