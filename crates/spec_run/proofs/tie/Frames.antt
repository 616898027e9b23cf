-- What other modules send doesn't touch what is known of a module.
use Rattle.std.proofs.Common.{◌≡◌, ◌≢◌, ℕ, ◌+◌, ◌==◌, ◌&&◌, inl, inr, Bool, true, false, if◌then◌else◌, List, [], ◌∷◌, ◌++◌, length, Option, Some, None, refl, sym, ◌∙◌, ap, subst, arith}
use Rattle.std.specs.Prelude.{slice_get, slice_set, nat_lt, is_some}
use Rattle.std.proofs.lemmas.Bool.{cases_eq, and_parts}
use Rattle.std.proofs.lemmas.List.{append-nil}
use Rattle.lemmas.proofs.Lists.{get_same}
use Rattle.sx_mean.specs.declared.events.Act.{Act}
use Rattle.sx_mean.specs.declared.events.Act.TheVariants.{Send, Emit}
use Rattle.sx_model.specs.Reaction.{Flow, MOST_SENT, field_of, sent_over, sends, sent_to}
use Rattle.sx_model.specs.Changes.{is_from}
use Rattle.sx_model.specs.order.Reaction.{sent_first, from_emit, flowing}
use Rattle.sx_lang.specs.declared.sides.Side.{Side}
use Rattle.sx_lang.specs.declared.sides.Side.TheVariants.{From, To}
use Rattle.sx_mean.specs.declared.events.End.{End}
use Rattle.sx_bus.specs.declared.devices.Window.{Window}
use Rattle.spec_machine.specs.State.{State}
use Rattle.spec_invocation.specs.ModuleState.{EndState, ModuleState, link_of}
use Rattle.spec_invocation.specs.Marks.{Mark, Wrapped, Unwrapped, Sampled, Actuated}
use Rattle.spec_invocation.specs.Progress.{Invoked, Returns, Violates}
use Rattle.sx_mean.specs.Application.{PartTree, AppTree}
use Rattle.sx_mean.specs.Ends.{ends_of}
use Rattle.sx_model.specs.State.{EndView}
use Rattle.sx_model.specs.order.State.{Present, Standing}
use Rattle.spec_run.specs.Setting.{Site, Setting}
use Rattle.spec_run.proofs.tie.Lists.{get_before, get_other, some_inj}
use Rattle.spec_run.proofs.tie.Ends.{has_link, EndOf}
use Rattle.spec_run.proofs.tie.Flows.{Flows, AllSending, all_sending, is_from-side}
use Rattle.spec_run.proofs.tie.Moves.{IsOwn}
use Rattle.spec_run.proofs.tie.Tied.{Counts, SameEnds, SameState, Settled, Settles, HasEnd, OwnOpen, OwnActs, own_acts, Owes, Yet, Now, ModuleTied, Absent, Rests, Runs}

-- the words over the connections of these sending ends are the same
abbrev pub SameSent : List End → List (List ℕ) → List (List ℕ) → Type 0
SameSent es a b = (e : End) → HasEnd es e → e.side ≡ From → (f : ℕ) → link_of f ≡ e.link → slice_get b f ≡ slice_get a f

counts_frame : (s : Side) (x : EndState) (v : EndView) (a b : Option (List ℕ)) → (s ≡ From → b ≡ a) → Counts s x v a → Counts s x v b
counts_frame From x v a b f h = subst (λ o. Counts From x v o) (sym (f refl)) h
counts_frame To x v a b f h = h

pub ends_frame : (es : List End) (xs : List EndState) (vs : List EndView) (a b : List (List ℕ)) → SameSent es a b → SameEnds es xs vs a → SameEnds es xs vs b
ends_frame [] [] [] a b f h = tt
ends_frame [] [] (v ∷ vs) a b f h = absurd h
ends_frame [] (x ∷ xs) vs a b f h = absurd h
ends_frame (e ∷ es) [] vs a b f h = absurd h
ends_frame (e ∷ es) (x ∷ xs) [] a b f h = absurd h
ends_frame (e ∷ es) (x ∷ xs) (v ∷ vs) a b f h = (
  record { epoch = h.0.epoch; field = h.0.field; counts = λ o. counts_frame e.side x v (slice_get a x.field) (slice_get b x.field) (λ s. f e (inl refl) s x.field (h.0.field o)) (h.0.counts o) },
  ends_frame es xs vs a b (λ y k s. f y (inr k) s) h.1,
)

pub state_frame : (es : List End) (p : ModuleState) (cells : List ℕ) (vs : List EndView) (a b : List (List ℕ)) → SameSent es a b → SameState es p cells vs a → SameState es p cells vs b
state_frame es p cells vs a b f h = record { same = h.same; each = ends_frame es p.ends vs a b f h.each }

-- the words over a module's own connections are the same, and others were sent beside
pub record Beside (app : AppTree) (m : ℕ) (a b : List (List ℕ)) : Type 0 where
  pub grown : (c : ℕ) (words : List ℕ) → slice_get a c ≡ Some words → (more : List ℕ) × (slice_get b c ≡ Some (words ++ more))
  pub own : (f : ℕ) → IsOwn app m f → slice_get b f ≡ slice_get a f

module _ (app : AppTree) (m : ℕ) where
  beside_ends : (a b : List (List ℕ)) → Beside app m a b → SameSent (ends_of app m) a b
  beside_ends a b h e has s f fe =
      let l = has_link 0 m app.links e has in
      let at : l.place ≡ e.link = sym (omega (arith, l.at)) in
      h.own f (l.link, subst (λ j. slice_get app.links j ≡ Some l.link) (at ∙ sym fe) l.there, (subst (λ t. EndOf m t e.port l.link) s l.ends).0)

  beside_set : (a b : List (List ℕ)) (f : ℕ) (words ws : List ℕ) → slice_get a f ≡ Some words → slice_get b f ≡ Some words → Beside app m a b → Beside app m (slice_set a f ws) (slice_set b f ws)
  beside_set a b f words ws ae be h = record {
    grown = λ c w e. elim (cases_eq c f) [
      | inl same ↦
          let w2 : ws ≡ w = some_inj ws w (sym (get_same a f ws words ae) ∙ subst (λ j. slice_get (slice_set a f ws) j ≡ Some w) same e) in
          ([], subst (λ j. slice_get (slice_set b f ws) j ≡ Some (w ++ [])) (sym same) (get_same b f ws words be ∙ ap Some (w2 ∙ sym (append-nil w))))
      | inr ne ↦
          let g = h.grown c w (sym (get_other a f c ws ne) ∙ e) in (g.0, get_other b f c ws ne ∙ g.1)
    ];
    own = λ c o. elim (cases_eq c f) [
      | inl same ↦ subst (λ j. slice_get (slice_set b f ws) j ≡ slice_get (slice_set a f ws) j) (sym same) (get_same b f ws words be ∙ sym (get_same a f ws words ae))
      | inr ne ↦ get_other b f c ws ne ∙ h.own c o ∙ sym (get_other a f c ws ne)
    ];
  }

  -- two flows of the module's acts
  abbrev Twin : Flow → Flow → Type 0
  Twin f g = Beside app m f.sent g.sent × (g.pieces ≡ f.pieces)

  twin_if : (b : Bool) (f f2 g g2 : Flow) → Twin f g → Twin f2 g2 → Twin (if b then f else f2) (if b then g else g2)
  twin_if true f f2 g g2 h k = h
  twin_if false f f2 g g2 h k = k

  twin_over : (c v : ℕ) (o : Option (List ℕ)) (f g : Flow) → slice_get f.sent c ≡ o → slice_get g.sent c ≡ o → Twin f g → Twin (sent_over c v o f) (sent_over c v o g)
  twin_over c v None f g fe ge h = h
  twin_over c v (Some words) f g fe ge h =
      twin_if (nat_lt (length words) MOST_SENT)
      (record { sent = slice_set f.sent c (words ++ v ∷ []); emits = f.emits; pieces = f.pieces + 1 }) f
      (record { sent = slice_set g.sent c (words ++ v ∷ []); emits = g.emits; pieces = g.pieces + 1 }) g
      (beside_set f.sent g.sent c words (words ++ v ∷ []) fe ge h.0, ap (λ n. n + 1) h.1) h

  twin_at : (c v : ℕ) (f g : Flow) → IsOwn app m c → Twin f g → Twin (sent_over c v (slice_get f.sent c) f) (sent_over c v (slice_get g.sent c) g)
  twin_at c v f g own h =
      subst (λ o. Twin (sent_over c v (slice_get f.sent c) f) (sent_over c v o g)) (sym (h.0.own c own))
      (twin_over c v (slice_get f.sent c) f g refl (h.0.own c own) h)

  twin_sends : (output v : ℕ) (e : End) (view : EndView) (b : Bool) (f g : Flow) → (b ≡ true → IsOwn app m (field_of e view)) → Twin f g
      → Twin (if b then sent_over (field_of e view) v (slice_get f.sent (field_of e view)) f else f) (if b then sent_over (field_of e view) v (slice_get g.sent (field_of e view)) g else g)
  twin_sends output v e view true f g own h = twin_at (field_of e view) v f g (own refl) h
  twin_sends output v e view false f g own h = h

  twin_to : (es : List End) (vs : List EndView) (output v : ℕ) (f g : Flow) → AllSending (IsOwn app m) es vs → Twin f g → Twin (sent_to es vs output v f) (sent_to es vs output v g)
  twin_to [] vs output v f g a h = h
  twin_to (e ∷ es) [] output v f g a h = h
  twin_to (e ∷ es) (view ∷ vs) output v f g a h =
      let f1 = if sends output e view then sent_over (field_of e view) v (slice_get f.sent (field_of e view)) f else f in
      let g1 = if sends output e view then sent_over (field_of e view) v (slice_get g.sent (field_of e view)) g else g in
      twin_to es vs output v f1 g1 a.1 (twin_sends output v e view (sends output e view) f g
      (λ b. let p = and_parts (is_from e.side) ((e.port == output) && is_some view.epoch) b in a.0 (is_from-side e.side p.0) (and_parts (e.port == output) (is_some view.epoch) p.1).1) h)

  twin_first : (es : List End) (vs : List EndView) (acts : List Act) (f g : Flow) → AllSending (IsOwn app m) es vs → Twin f g → Twin (sent_first es vs acts f) (sent_first es vs acts g)
  twin_first es vs [] f g a h = h
  twin_first es vs (Emit v ∷ acts) f g a h = h
  twin_first es vs (Send output v ∷ acts) f g a h = twin_first es vs acts (sent_to es vs output v f) (sent_to es vs output v g) a (twin_to es vs output v f g a h)

  settled_frame : (a b : List (List ℕ)) → Beside app m a b → (cells : List ℕ) (vs : List EndView) (pieces : ℕ) (acts : List Act) (result : Invoked)
      → Settled (ends_of app m) cells vs a pieces acts result → Settled (ends_of app m) cells vs b pieces acts result
  settled_frame a b beside cells vs pieces acts (Violates v p) h = tt
  settled_frame a b beside cells vs pieces acts (Returns status p) h = (h.0, h.1, h.2, state_frame (ends_of app m) p.state cells vs a b (beside_ends a b beside) h.3)

  settles_frame : (n : ℕ) (d : Option ℕ) (cells : List ℕ) (vs : List EndView) (result : Invoked) (ms : List Mark) (acts : List Act) (a b : List (List ℕ)) (pieces : ℕ) → Beside app m a b
      → OwnActs app m vs acts
      → Settles app n m d cells vs a pieces result ms acts → Settles app n m d cells vs b pieces result ms acts
  settles_frame n d cells vs result [] acts a b pieces beside own h = settled_frame a b beside cells vs pieces acts result h
  settles_frame n d cells vs result (Wrapped header body key ∷ ms) acts a b pieces beside own h =
      let g = beside.grown _ h.2.words h.2.there in
      (h.0, h.1, record { sender = h.2.sender; words = h.2.words ++ g.0; there = g.1; word = get_before h.2.words g.0 _ _ h.2.word }, settles_frame n d cells vs result ms acts a b pieces beside own h.3)
  settles_frame n d cells vs result (Unwrapped header body key ∷ ms) acts a b pieces beside own h = absurd h
  settles_frame n d cells vs result (Sampled k v ∷ ms) acts a b pieces beside own h = absurd h
  settles_frame n d cells vs result (Actuated k v ∷ ms) [] a b pieces beside own h = absurd h
  settles_frame n d cells vs result (Actuated k v ∷ ms) (Send output w ∷ acts) a b pieces beside own h = absurd h
  settles_frame n d cells vs result (Actuated k v ∷ ms) (Emit e ∷ acts) a b pieces beside own h =
      let f = sent_first (ends_of app m) vs acts (flowing a pieces) in
      let g = sent_first (ends_of app m) vs acts (flowing b pieces) in
      let t = twin_first (ends_of app m) vs acts (flowing a pieces) (flowing b pieces)
      (all_sending (OwnOpen app m vs) (IsOwn app m) (ends_of app m) vs (λ c o. o.1) own) (beside, refl) in (
        h.0,
        h.1,
        subst (λ k. Settles app n m d cells vs g.sent k result ms (from_emit acts)) (sym t.1)
            (settles_frame n d cells vs result ms (from_emit acts) f.sent g.sent f.pieces t.0 (own_acts app m vs (from_emit acts) own) h.2),
      )

  pub owes_frame : (a b : List (List ℕ)) → Beside app m a b → (n : ℕ) (q : PartTree) (devices : List Window) (pr : Present) (ms : List Mark) (result : Invoked) → Owes app n m q devices pr a ms result → Owes app n m q devices pr b ms result
  owes_frame a b beside n q devices pr ms result (Yet st pend h g) = Yet st pend (state_frame (ends_of app m) st pr.cells pr.ends a b (beside_ends a b beside) h) g
  owes_frame a b beside n q devices pr ms result (Now acts pieces pend own h) = Now acts pieces pend own (settles_frame n q.device pr.cells pr.ends result ms acts a b pieces beside own h)

-- one that sends leaves another's words
pub beside_other : (app : AppTree) (m k : ℕ) (a b : List (List ℕ)) → Flows (IsOwn app m) a b → k ≢ m → Beside app k a b
beside_other app m k a b flows ne = record {
  grown = flows.grown;
  own = λ f o. elim (flows.only f) [
    | inl same ↦ same
    | inr other ↦ absurd (ne (sym o.2 ∙ ap (λ (z : Rattle.sx_mean.specs.declared.apps.Link.Link). z.from) (some_inj o.0 other.0 (sym o.1 ∙ other.1)) ∙ other.2))
  ];
}

-- a module beside one that sends
pub same_sent : (app : AppTree) (m k : ℕ) (a b : List (List ℕ)) → Flows (IsOwn app m) a b → k ≢ m → SameSent (ends_of app k) a b
same_sent app m k a b flows ne e h s f fe =
    let l = has_link 0 k app.links e h in
    elim (flows.only f) [
      | inl same ↦ same
      | inr own ↦
          let at : l.place ≡ e.link = sym (omega (arith, l.at)) in
          let from : l.link.from ≡ k = (subst (λ t. EndOf k t e.port l.link) s l.ends).0 in
          let one : own.0 ≡ l.link = some_inj own.0 l.link (sym own.1 ∙ subst (λ j. slice_get app.links j ≡ Some l.link) (at ∙ sym fe) l.there) in
          absurd (ne (sym from ∙ sym (ap (λ (z : Rattle.sx_mean.specs.declared.apps.Link.Link). z.from) one) ∙ own.2))
    ]

pub module_frame : (set : Setting) (n m k : ℕ) (q : PartTree) (site : Site) (s : State) (x : Standing) (a b : List (List ℕ)) → Flows (IsOwn set.app m) a b → k ≢ m
    → ModuleTied set n k q site s x a → ModuleTied set n k q site s x b
module_frame set n m k q site s x a b flows ne (Absent none f) = Absent none f
module_frame set n m k q site s x a b flows ne (Rests sec pr p i c pend h) = Rests sec pr p i c pend (state_frame (ends_of set.app k) _ pr.cells pr.ends a b (same_sent set.app m k a b flows ne) h)
module_frame set n m k q site s x a b flows ne (Runs sec pr p i c u) =
    Runs sec pr p i c (record {
      before = u.before;
      bound = u.bound;
      seen = u.seen;
      last = u.last;
      rest = u.rest;
      result = u.result;
      comes = u.comes;
      all = u.all;
      owes = owes_frame set.app k a b (beside_other set.app m k a b flows ne) n q s.devices pr u.rest u.result u.owes;
    })
