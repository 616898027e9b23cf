-- A module takes the word of an event and reacts: as a change of itself, and of the state.
use Rattle.std.proofs.Common.{Result, Ok, Err, OnOk, ◌≡◌, ℕ, zero, suc, ◌+◌, ◌/◌, ◌%◌, ◌&&◌, ◌<◌, ◌≤◌, Bool, true, false, if◌then◌else◌, List, [], ◌∷◌, length, Option, Some, None, is_some, unwrap_or, get_or, set, refl, sym, ap, ◌∙◌}
use Rattle.std.specs.Prelude.{is_none, nat_le, slice_get, slice_set}
use Rattle.std.proofs.lemmas.Option.{slice_get_past, slice_get_read}
use Rattle.std.proofs.lemmas.List.{set-get_or}
use Rattle.sx_lang.specs.Tree.{ModuleTree}
use Rattle.sx_mean.specs.declared.events.Act.{Act}
use Rattle.sx_mean.specs.declared.events.Act.TheVariants.{Send, Emit}
use Rattle.sx_mean.specs.declared.events.End.{End}
use Rattle.sx_mean.specs.declared.events.SourceEvent.{SourceEvent}
use Rattle.sx_mean.specs.React.{react}
use Rattle.sx_model.specs.declared.receiving.Taking.{Taking}
use Rattle.sx_model.specs.State.{EndView, Model, Pending, Present, Standing, contains}
use Rattle.sx_model.specs.Renewal.{takes}
use Rattle.sx_model.specs.Step.{◌>>?◌}
use Rattle.sx_model.specs.Changes.{at_index, end_at, if_so, reacted, reacts_at, reacts_present, reacts_standing, readied, readies, sends_present, sends_standing, taken_views}
use Rattle.sx_lang.specs.declared.sides.Side.TheVariants.{To}
use Rattle.sx_model.specs.Reaction.{Flow, after_event, all_done, done, field_of, flow_of, sends, sent_over, sent_to}

-- what an end sends doesn't depend on the number that it takes next
end_blind : (e : End) (es : List End) (w x : EndView) (ws : List EndView) (next output v : ℕ) (f : Flow) → Some w ≡ Some x →
    sent_to (e ∷ es) (record { epoch = x.epoch; next = next } ∷ ws) output v f ≡ sent_to (e ∷ es) (w ∷ ws) output v f
end_blind e es w x ws next output v f is =
    let at : Option ℕ → EndView = λ epoch. record { epoch = epoch; next = next } in
    ap (λ o. sent_to (e ∷ es) (at (o >>? (λ y. y.epoch)) ∷ ws) output v f) (sym is)

sent_blind : (es : List End) (views : List EndView) (i : ℕ) (x : EndView) (next output v : ℕ) (f : Flow) → slice_get views i ≡ Some x →
    sent_to es (slice_set views i (record { epoch = x.epoch; next = next })) output v f ≡ sent_to es views output v f
sent_blind [] views i x next output v f is = refl
sent_blind (e ∷ es) [] i x next output v f is = absurd cc
sent_blind (e ∷ es) (w ∷ ws) zero x next output v f is = end_blind e es w x ws next output v f is
sent_blind (e ∷ es) (w ∷ ws) (suc i) x next output v f is =
    sent_blind es ws i x next output v (if sends output e w then sent_over (field_of e w) v (slice_get f.sent (field_of e w)) f else f) is

acts_blind : (es : List End) (views : List EndView) (i : ℕ) (x : EndView) (next : ℕ) (acts : List Act) (f : Flow) → slice_get views i ≡ Some x →
    all_done es (slice_set views i (record { epoch = x.epoch; next = next })) acts f ≡ all_done es views acts f
acts_blind es views i x next [] f is = refl
acts_blind es views i x next (Send output v ∷ acts) f is =
    ap (λ g. all_done es (slice_set views i (record { epoch = x.epoch; next = next })) acts g) (sent_blind es views i x next output v f is)
    ∙ acts_blind es views i x next acts (sent_to es views output v f) is
acts_blind es views i x next (Emit v ∷ acts) f is = acts_blind es views i x next acts (done es views (Emit v) f) is

-- so a module's acts come to the same before it takes a word and after
abbrev AreBlind : List End → List EndView → List EndView → Type 0
AreBlind es views next = (acts : List Act) (f : Flow) → all_done es next acts f ≡ all_done es views acts f

view_blind : (es : List End) (views next : List EndView) (i epoch n : ℕ) (x : EndView) → slice_get views i ≡ Some x →
    (takes epoch n x >>? (λ y. Some (slice_set views i y))) ≡ Some next → AreBlind es views next
view_blind es views next i epoch n x at is acts f = go (contains x.epoch epoch && nat_le x.next n) is
  where
    go : (b : Bool) → ((if b then Some (record { epoch = x.epoch; next = n + 1 }) else None) >>? (λ y. Some (slice_set views i y))) ≡ Some next →
        all_done es next acts f ≡ all_done es views acts f
    go false is = absurd cc
    go true is = ap (λ o. all_done es (unwrap_or o views) acts f) (sym is) ∙ acts_blind es views i x (n + 1) acts f at

index_blind : (es : List End) (views next : List EndView) (i epoch n : ℕ) (o : Option EndView) → slice_get views i ≡ o →
    (o >>? (λ x. takes epoch n x >>? (λ y. Some (slice_set views i y)))) ≡ Some next → AreBlind es views next
index_blind es views next i epoch n None at is acts f = absurd cc
index_blind es views next i epoch n (Some x) at is acts f = view_blind es views next i epoch n x at is acts f

end_taken : (es : List End) (views next : List EndView) (epoch n : ℕ) (o : Option ℕ) → (o >>? (λ i. at_index views i (takes epoch n))) ≡ Some next → AreBlind es views next
end_taken es views next epoch n None is acts f = absurd cc
end_taken es views next epoch n (Some i) is acts f = index_blind es views next i epoch n (slice_get views i) refl is acts f

taken_blind : (t : Option Taking) (es : List End) (views next : List EndView) → taken_views t es views ≡ Some next → AreBlind es views next
taken_blind None es views next is acts f = ap (λ o. all_done es (unwrap_or o views) acts f) (sym is)
taken_blind (Some t) es views next is acts f = end_taken es views next (t.number / 65536) (t.number % 65536) (end_at t.link To es) is acts f

-- a module that doesn't owe anything is idle
pub owes_nothing : (o : Option Pending) (b : Bool) → b ≡ is_some o → b ≡ false → is_none o ≡ true
owes_nothing None b is none = refl
owes_nothing (Some x) b is none = absurd cc

-- a module after an event
abbrev after : ModuleTree → List End → SourceEvent → List (List ℕ) → Present → Present
after tree es e ss p = after_event tree e (flow_of tree es e p ss) p

abbrev with_ends : Present → List EndView → Present
with_ends p views = record p { ends = views }

-- the module reacts, and then its end takes the word
module _ (tree : ModuleTree) (es : List End) (e : SourceEvent) (t : Option Taking) (ss : List (List ℕ)) (p : Present) (idle : is_none p.pending ≡ true) where
  flow_kept : (next : List EndView) → taken_views t es p.ends ≡ Some next → flow_of tree es e p ss ≡ flow_of tree es e (record p { ends = next }) ss
  flow_kept next is = sym (taken_blind t es p.ends next is (react tree e p.cells).acts (record { sent = ss; emits = []; pieces = 0 }))

  ready_is : (next : List EndView) → taken_views t es p.ends ≡ Some next → readies t es p ≡ Some (record p { ends = next })
  ready_is next is = rw (idle, is) refl

  pub present_sent : (new : List (List ℕ)) → is_some (taken_views t es p.ends) ≡ true → new ≡ (flow_of tree es e p ss).sent → new ≡ unwrap_or (sends_present tree es e t ss p) ss
  present_sent new some sent = go (taken_views t es p.ends) refl some
    where
      go : (o : Option (List EndView)) → taken_views t es p.ends ≡ o → is_some o ≡ true → new ≡ unwrap_or (sends_present tree es e t ss p) ss
      go None is some = absurd cc
      go (Some next) is some = rw (ready_is next is) (sent ∙ ap (λ f. f.sent) (flow_kept next is))

  pub present_reacted : (new : Present) (views : List EndView) → is_some (taken_views t es p.ends) ≡ true → new ≡ after tree es e ss p → views ≡ unwrap_or (taken_views t es new.ends) new.ends →
      record new { ends = views } ≡ unwrap_or (reacts_present tree es e t ss p) p
  present_reacted new views some made took = go (taken_views t es p.ends) refl some
    where
      here : record new { ends = views } ≡ record (after tree es e ss p) { ends = unwrap_or (taken_views t es p.ends) p.ends }
      here = ap (λ (vs : List EndView). with_ends new vs) took ∙ ap (λ (q : Present). with_ends q (unwrap_or (taken_views t es q.ends) q.ends)) made

      go : (o : Option (List EndView)) → taken_views t es p.ends ≡ o → is_some o ≡ true → record new { ends = views } ≡ unwrap_or (reacts_present tree es e t ss p) p
      go None is some = absurd cc
      go (Some next) is some =
          let q : Present = record p { ends = next } in
          here
          ∙ ap (λ (o : Option (List EndView)). with_ends (after tree es e ss p) (unwrap_or o p.ends)) is
          ∙ ap (λ f. after_event tree e f q) (flow_kept next is)
          ∙ ap (λ o. unwrap_or (o >>? (λ r. Some (after tree es e ss r))) p) (sym (ready_is next is))

-- the same of a state
idle_then : {A : Type 0} → (o : Option Present) (f : Present → Option A) →
    ((o >>? (λ p. if is_none p.pending then Some p else None)) >>? f) ≡ (o >>? (λ p. if_so (is_none p.pending) (f p)))
idle_then None f = refl
idle_then (Some p) f = go (is_none p.pending)
  where
    go : (b : Bool) → ((if b then Some p else None) >>? f) ≡ if_so b (f p)
    go true = refl
    go false = refl

module _ (tree : ModuleTree) (es : List End) (e : SourceEvent) (t : Option Taking) (s : Model) (m : ℕ) (x : Standing) (within : m < length s.modules) (e_is : x ≡ get_or s.modules m x) where
  found : slice_get s.modules m ≡ Some x
  found = slice_get_read s.modules (length s.modules) m x refl within e_is

  at_module : reacts_at tree es e t s m ≡ (x.present >>? (λ p. if_so (is_none p.pending) (readied t es p >>? (λ q. Some (reacted tree es e s m q)))))
  at_module = rw found (idle_then x.present (λ p. readied t es p >>? (λ q. Some (reacted tree es e s m q))))

  abbrev made : Present → Standing
  made q = record x { present = Some (after tree es e s.sent q) }

  abbrev moved : Standing → List (List ℕ) → Model
  moved y ss = record s { modules = set s.modules m y; sent = ss }

  unmoved : (y : Standing) (ss : List (List ℕ)) → y ≡ x → ss ≡ s.sent → moved y ss ≡ s
  unmoved y ss same sent =
      ap (λ z. moved z ss) same ∙ ap (λ zs. moved x zs) sent ∙ ap (λ xs. record s { modules = xs }) (ap (λ z. set s.modules m z) e_is ∙ set-get_or s.modules m x)

  reacted_is : (q : Present) → moved (made q) (flow_of tree es e q s.sent).sent ≡ reacted tree es e s m q
  unfolding reacted
  reacted_is q = rw found refl

  module_reacted : (y : Standing) (ss : List (List ℕ)) → y ≡ unwrap_or (reacts_standing tree es e t s.sent x) x → ss ≡ unwrap_or (sends_standing tree es e t s.sent x) s.sent →
      record s { modules = set s.modules m y; sent = ss } ≡ unwrap_or (reacts_at tree es e t s m) s
  module_reacted y ss same sent = at_present x.present same sent ∙ ap (λ o. unwrap_or o s) (sym at_module)
    where
      ready : (o : Option Present) → y ≡ unwrap_or ((o >>? (λ q. Some (after tree es e s.sent q))) >>? (λ q. Some (record x { present = Some q }))) x →
          ss ≡ unwrap_or (o >>? (λ q. Some (flow_of tree es e q s.sent).sent)) s.sent → moved y ss ≡ unwrap_or (o >>? (λ q. Some (reacted tree es e s m q))) s
      ready None same sent = unmoved y ss same sent
      ready (Some q) same sent = ap (λ z. moved z ss) same ∙ ap (λ zs. moved (made q) zs) sent ∙ reacted_is q

      tested : (b : Bool) (o : Option Present) → y ≡ unwrap_or ((if_so b o >>? (λ q. Some (after tree es e s.sent q))) >>? (λ q. Some (record x { present = Some q }))) x →
          ss ≡ unwrap_or (if_so b o >>? (λ q. Some (flow_of tree es e q s.sent).sent)) s.sent → moved y ss ≡ unwrap_or (if_so b (o >>? (λ q. Some (reacted tree es e s m q)))) s
      tested true o same sent = ready o same sent
      tested false o same sent = unmoved y ss same sent

      at_present : (o : Option Present) → y ≡ unwrap_or (o >>? (λ p. reacts_present tree es e t s.sent p >>? (λ q. Some (record x { present = Some q })))) x →
          ss ≡ unwrap_or (o >>? sends_present tree es e t s.sent) s.sent →
          moved y ss ≡ unwrap_or (o >>? (λ p. if_so (is_none p.pending) (readied t es p >>? (λ q. Some (reacted tree es e s m q))))) s
      at_present None same sent = unmoved y ss same sent
      at_present (Some p) same sent = tested (is_none p.pending) (readied t es p) same sent

  pub module_reacted_on : {T E : Type 0} (r : Result T E) (y : Standing) (ss : List (List ℕ)) → OnOk r (y ≡ unwrap_or (reacts_standing tree es e t s.sent x) x) →
      OnOk r (ss ≡ unwrap_or (sends_standing tree es e t s.sent x) s.sent) → OnOk r (record s { modules = set s.modules m y; sent = ss } ≡ unwrap_or (reacts_at tree es e t s m) s)
  module_reacted_on (Ok v) y ss same sent = module_reacted y ss same sent
  module_reacted_on (Err v) y ss same sent = tt

pub no_reaction : (tree : ModuleTree) (es : List End) (e : SourceEvent) (t : Option Taking) (s : Model) (m : ℕ) → length s.modules ≤ m → reacts_at tree es e t s m ≡ None
no_reaction tree es e t s m past = rw (slice_get_past s.modules m past) refl
