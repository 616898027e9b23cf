-- An answer is judged: what the program's deployer says, and what follows.
use Rattle.std.proofs.Common.{◌≡◌, ℕ, ◌+◌, ◌<◌, ◌≤◌, ◌&&◌, Bool, true, false, if◌then◌else◌, List}
use Rattle.std.proofs.Common.{[], ◌∷◌, ◌++◌, length, Option, Some, None, Result, Ok, Err, OnOk}
use Rattle.std.proofs.Common.{OnErr, refl, sym, subst, ap, ◌∙◌, arith}
use Rattle.std.specs.Prelude.{slice_get}
use Rattle.std.proofs.lemmas.Bool.{true≢false}
use Rattle.std.proofs.lemmas.List.{append_assoc}
use Rattle.std.proofs.lemmas.Option.{none-some}
use Rattle.std.specs.Option.{option_flatten}
use Rattle.lemmas.proofs.Lists.{get_some}
use Rattle.sx_trace.specs.declared.items.Item.{Item}
use Rattle.sx_trace.specs.declared.items.Item.TheVariants.{Attested, Denied}
use Rattle.sx_ledger.specs.declared.entry.Maker.TheVariants as maker
use Rattle.sx_deployer.specs.Keeping.{Known, Keeping}
use Rattle.sx_deployer.specs.Keeping as keeping
use Rattle.spec_run.specs.Setting.{Site, Setting}
use Rattle.spec_run.specs.Ledger.{made_entry, is_made}
use Rattle.sx_ledger.specs.Made.{Made, NO_TARGET}
use Rattle.sx_deployer.specs.Granting.{Grant, grants_after, is_answer}
use Rattle.spec_run.specs.Deployer.{accepts, after_acceptance}
use Rattle.spec_run.specs.State.{World, Acted}
use Rattle.spec_run.specs.Observation.{unless_made}
use Rattle.spec_run.specs.Acts.{keys_given, with_deployer, attested, after_denial, after_verdict, after_answer}
use Rattle.sx_world.specs.Granted.{granted, accepted_ask, judged_by, confirmed}
use Rattle.sx_world.specs.Held.{Running, IsKept, Shows, Wanted, DoesAct}
use Rattle.sx_observe.specs.Observing.{Records, AddsFront}
use Rattle.sx_observe.proofs.Fronts.{front_more, front_next, front_same}
use Rattle.sx_world.proofs.granting.SameKeys.{same_ask, same_boot, unknown_site, accepted_kept, same_accepts}
use Rattle.sx_world.proofs.granting.SameGrants.{same_grants}
use Rattle.sx_world.proofs.granting.Sent.{sent, deployer_shown}

-- what is told of the attestation, before the keys
abbrev told : ℕ → ℕ → Bool → List Item
told m boot b = unless_made None b (Attested m boot)

abbrev vouched : ℕ → ℕ → List ℕ → List Made → Bool
vouched m boot ask list = is_made list (made_entry (maker.Module m) NO_TARGET boot ask [])

-- the attestation was told, and the keys given
pub confirm_does : {X E : Type 0} (set : Setting) (r : Result X E) (old new : Running) (before mid after : List Item) (m boot P : ℕ) (ask : List ℕ) (last : Option ℕ) (b : Bool) (gs : List Grant)
    → ((list : List Made) → Records old.ledger list → b ≡ is_made list (made_entry (maker.Module m) NO_TARGET boot ask []))
    → mid ≡ before ++ unless_made None b (Attested m boot)
    → P ≡ length set.app.parts → gs ≡ granted old.deployer P set.app.links m boot last
    → DoesAct set r old new mid after (keys_given set gs) → DoesAct set r old new before after (confirmed set m boot ask last)
confirm_does set r old new before mid after m boot P ask last b gs says began p e = go r
  where
    first : (w : World) → Shows set old w → mid ≡ before ++ told m boot (vouched m boot ask w.ledger)
    first w h = began ∙ ap (λ t. before ++ told m boot t) (says w.ledger h.ledger)

    same : (w : World) → Shows set old w → keys_given set gs w ≡ keys_given set (grants_after set.app w.deployer m boot last) w
    same w h =
        ap (λ (x : List Grant). keys_given set x w) (e ∙ ap (λ n. granted old.deployer n set.app.links m boot last) p ∙ same_grants set old.deployer w.deployer m boot last h.deployer)

    go : {X E : Type 0} (r : Result X E) → DoesAct set r old new mid after (keys_given set gs) → DoesAct set r old new before after (confirmed set m boot ask last)
    go (Ok x) does = λ w h.
        let d = does w h in
        let head = told m boot (vouched m boot ask w.ledger) in (
          subst (λ (a : Acted). Shows set new a.world) (same w h) d.0,
          d.1 ∙ ap (λ (i : List Item). i ++ (keys_given set gs w).items) (first w h) ∙ append_assoc before head (keys_given set gs w).items
              ∙ ap (λ (a : Acted). before ++ (head ++ a.items)) (same w h),
        )
    go (Err x) does = λ w h.
        let head = told m boot (vouched m boot ask w.ledger) in
        subst (λ (a : Acted). AddsFront before after (head ++ a.items)) (same w h)
        (front_next after mid before head (keys_given set gs w).items (first w h) (does w h))

-- memory ran out before the keys
pub confirm_wanted : (set : Setting) (old : Running) (before after : List Item) (m boot : ℕ) (ask : List ℕ) (last : Option ℕ) (b : Bool)
    → ((list : List Made) → Records old.ledger list → b ≡ is_made list (made_entry (maker.Module m) NO_TARGET boot ask []))
    → AddsFront before after (unless_made None b (Attested m boot)) → Wanted set old before after (confirmed set m boot ask last)
confirm_wanted set old before after m boot ask last b says f = λ w h.
    front_more after before (told m boot (vouched m boot ask w.ledger)) (keys_given set (grants_after set.app w.deployer m boot last) w).items
    (subst (λ t. AddsFront before after (told m boot t)) (says w.ledger h.ledger) f)

pub more_ok : {X E : Type 0} (r : Result X E) (a b n : ℕ) → n ≤ 192 → OnOk r (a ≤ b + n) → OnOk r (a ≤ b + 192)
more_ok (Ok x) a b n h e = omega (arith, h, e)
more_ok (Err x) a b n h e = tt

packet_of : (set : Setting) (old : Running) (w : World) (n : ℕ) (p : Option (List ℕ)) → Shows set old w → slice_get old.packets n ≡ p → slice_get w.packets n ≡ p
packet_of set old w n p h e = ap (λ (ps : List (List ℕ)). slice_get ps n) (sym h.packets) ∙ e

-- a module that the deployer knows has a site
has_site : (set : Setting) (old : Running) (w : World) (m : ℕ) → Shows set old w → m < length old.deployer.targets → slice_get set.sites m ≡ None → ⊥
has_site set old w m h lt e =
    let f = get_some old.deployer.targets m lt in no_known f.0 (sym f.1 ∙ unknown_site set old.deployer w.deployer m h.deployer e)
  where
    no_known : (t : Known) → ◌≡◌ {A = Option Known} (Some t) None → ⊥
    no_known t e = cc

-- the answer was accepted
seen : (set : Setting) (old : Running) (k : Keeping) (m boot n : ℕ) (ask : List ℕ) → m < length set.app.parts → m < length old.deployer.targets
    → k ≡ judged_by set.mac old.deployer m boot (slice_get old.packets n) → accepted_ask set.mac old.deployer m boot (slice_get old.packets n) ≡ Some ask
    → (w : World) → Shows set old w → (v : World) × Shows set (sent old old.packets k old.ledger) v
    × (confirmed set m boot ask (keeping.attested_at old.deployer m) v ≡ after_answer set w m boot (slice_get set.sites m) (slice_get w.packets n))
seen set old k m boot n ask lt known kj aa w h = by_packet (slice_get old.packets n) refl kj aa
  where
    Due : Type 0
    Due = (v : World) × Shows set (sent old old.packets k old.ledger) v
        × (confirmed set m boot ask (keeping.attested_at old.deployer m) v ≡ after_answer set w m boot (slice_get set.sites m) (slice_get w.packets n))

    by_site : (answer : List ℕ) → slice_get old.packets n ≡ Some answer → keeping.accepts set.mac old.deployer m boot answer ≡ true
        → k ≡ keeping.accepted old.deployer m boot → keeping.open_ask old.deployer m ≡ Some ask → (o : Option Site) → slice_get set.sites m ≡ o → Due
    by_site answer e acc kj aa None es = absurd (has_site set old w m h known es)
    by_site answer e acc kj aa (Some site) es =
        let d = after_acceptance set.app.links w.deployer m boot (keeping.attested_at old.deployer m) in
        let kept = accepted_kept set old.deployer w.deployer m boot site (keeping.attested_at old.deployer m) h.deployer es refl in (
          with_deployer w d w.ledger,
          deployer_shown set old w k d old.ledger w.ledger h (subst (λ (x : Keeping). IsKept set x d) (sym kj) kept) h.ledger,
          sym (ap (λ (o : Option Site). after_answer set w m boot o (slice_get w.packets n)) es
              ∙ ap (λ p. after_answer set w m boot (Some site) p) (packet_of set old w n (Some answer) h e)
              ∙ ap (λ a. after_verdict set w m site boot answer a) (same_ask set old.deployer w.deployer m h.deployer lt ∙ aa)
              ∙ ap (λ (l : Option ℕ). if accepts set site w.deployer m boot answer (Some ask) l then attested set w m boot ask l else after_denial w m)
              (same_boot set old.deployer w.deployer m h.deployer lt)
              ∙ ap (λ (b : Bool). if b then attested set w m boot ask (keeping.attested_at old.deployer m) else after_denial w m)
              (same_accepts set old.deployer w.deployer m boot answer site (Some ask) (keeping.attested_at old.deployer m) h.deployer es (sym aa) refl ∙ acc)),
        )

    by_verdict : (answer : List ℕ) → slice_get old.packets n ≡ Some answer → (b : Bool) → keeping.accepts set.mac old.deployer m boot answer ≡ b
        → k ≡ (if b then keeping.accepted old.deployer m boot else old.deployer) → (if b then keeping.open_ask old.deployer m else None) ≡ Some ask → Due
    by_verdict answer e true acc kj aa = by_site answer e acc kj aa (slice_get set.sites m) refl
    by_verdict answer e false acc kj aa = absurd (none-some ask aa)

    by_packet : (p : Option (List ℕ)) → slice_get old.packets n ≡ p → k ≡ judged_by set.mac old.deployer m boot p → accepted_ask set.mac old.deployer m boot p ≡ Some ask → Due
    by_packet None e kj aa = absurd (none-some ask aa)
    by_packet (Some answer) e kj aa = by_verdict answer e (keeping.accepts set.mac old.deployer m boot answer) refl kj aa

-- it was denied
unanswered : (set : Setting) (old : Running) (k : Keeping) (m boot n : ℕ) → m < length set.app.parts
    → k ≡ judged_by set.mac old.deployer m boot (slice_get old.packets n) → accepted_ask set.mac old.deployer m boot (slice_get old.packets n) ≡ None
    → (w : World) → Shows set old w → Shows set (sent old old.packets k old.ledger) w × (after_answer set w m boot (slice_get set.sites m) (slice_get w.packets n) ≡ after_denial w m)
unanswered set old k m boot n lt kj aa w h = by_packet (slice_get old.packets n) refl kj aa
  where
    Due : Type 0
    Due = Shows set (sent old old.packets k old.ledger) w × (after_answer set w m boot (slice_get set.sites m) (slice_get w.packets n) ≡ after_denial w m)

    kept : k ≡ old.deployer → Shows set (sent old old.packets k old.ledger) w
    kept e = subst (λ (x : Keeping). Shows set (sent old old.packets x old.ledger) w) (sym e) h

    no_packet : (o : Option Site) → after_answer set w m boot o None ≡ after_denial w m
    no_packet None = refl
    no_packet (Some site) = refl

    by_ask : (answer : List ℕ) (site : Site) → slice_get set.sites m ≡ Some site → keeping.accepts set.mac old.deployer m boot answer ≡ false
        → (a : Option (List ℕ)) → option_flatten (slice_get w.deployer.open_asks m) ≡ a → after_verdict set w m site boot answer a ≡ after_denial w m
    by_ask answer site es acc None ea = refl
    by_ask answer site es acc (Some ask) ea =
        let l = option_flatten (slice_get w.deployer.attested m) in
        ap (λ (b : Bool). if b then attested set w m boot ask l else after_denial w m)
        (same_accepts set old.deployer w.deployer m boot answer site (Some ask) l h.deployer es (sym ea ∙ same_ask set old.deployer w.deployer m h.deployer lt)
        (same_boot set old.deployer w.deployer m h.deployer lt) ∙ acc)

    by_site : (answer : List ℕ) → keeping.accepts set.mac old.deployer m boot answer ≡ false → (o : Option Site) → slice_get set.sites m ≡ o
        → after_answer set w m boot o (Some answer) ≡ after_denial w m
    by_site answer acc None es = refl
    by_site answer acc (Some site) es = by_ask answer site es acc (option_flatten (slice_get w.deployer.open_asks m)) refl

    by_verdict : (answer : List ℕ) → slice_get old.packets n ≡ Some answer → (b : Bool) → keeping.accepts set.mac old.deployer m boot answer ≡ b
        → k ≡ (if b then keeping.accepted old.deployer m boot else old.deployer) → (if b then keeping.open_ask old.deployer m else None) ≡ None → Due
    by_verdict answer e true acc kj aa =
        absurd (true≢false (sym acc ∙ ap (λ a. is_answer set.mac (keeping.key_of set.mac (keeping.target_at old.deployer m) boot) answer a
        && keeping.may_attest (keeping.target_at old.deployer m).ends old.deployer.state.epochs (keeping.attested_at old.deployer m) boot) aa))
    by_verdict answer e false acc kj aa =
        (kept kj, ap (λ p. after_answer set w m boot (slice_get set.sites m) p) (packet_of set old w n (Some answer) h e) ∙ by_site answer acc (slice_get set.sites m) refl)

    by_packet : (p : Option (List ℕ)) → slice_get old.packets n ≡ p → k ≡ judged_by set.mac old.deployer m boot p → accepted_ask set.mac old.deployer m boot p ≡ None → Due
    by_packet None e kj aa = (kept kj, ap (λ p. after_answer set w m boot (slice_get set.sites m) p) (packet_of set old w n None h e) ∙ no_packet (slice_get set.sites m))
    by_packet (Some answer) e kj aa = by_verdict answer e (keeping.accepts set.mac old.deployer m boot answer) refl kj aa

-- what is done to an answer that was accepted
pub answer_does : {X E : Type 0} (set : Setting) (r : Result X E) (old new : Running) (k : Keeping) (before after : List Item) (m boot n : ℕ) (ask : List ℕ) (last : Option ℕ)
    → m < length set.app.parts → m < length old.deployer.targets → last ≡ keeping.attested_at old.deployer m
    → k ≡ judged_by set.mac old.deployer m boot (slice_get old.packets n) → accepted_ask set.mac old.deployer m boot (slice_get old.packets n) ≡ Some ask
    → DoesAct set r (sent old old.packets k old.ledger) new before after (confirmed set m boot ask last)
    → DoesAct set r old new before after (λ w. after_answer set w m boot (slice_get set.sites m) (slice_get w.packets n))
answer_does set (Ok x) old new k before after m boot n ask last lt known el kj aa does = λ w h.
    let s = seen set old k m boot n ask lt known kj aa w h in
    let d = does s.0 s.1 in
    let same = ap (λ (l : Option ℕ). confirmed set m boot ask l s.0) el ∙ s.2 in
    (subst (λ (a : Acted). Shows set new a.world) same d.0, d.1 ∙ ap (λ (a : Acted). before ++ a.items) same)
answer_does set (Err x) old new k before after m boot n ask last lt known el kj aa does = λ w h.
    let s = seen set old k m boot n ask lt known kj aa w h in
    subst (λ (a : Acted). AddsFront before after a.items) (ap (λ (l : Option ℕ). confirmed set m boot ask l s.0) el ∙ s.2) (does s.0 s.1)

-- and to one that was denied
pub denied_does : {X E : Type 0} (set : Setting) (r : Result X E) (old : Running) (k : Keeping) (before after : List Item) (m boot n : ℕ)
    → m < length set.app.parts
    → k ≡ judged_by set.mac old.deployer m boot (slice_get old.packets n) → accepted_ask set.mac old.deployer m boot (slice_get old.packets n) ≡ None
    → OnOk r (after ≡ before ++ Denied m ∷ []) → OnErr r (after ≡ before)
    → DoesAct set r old (sent old old.packets k old.ledger) before after (λ w. after_answer set w m boot (slice_get set.sites m) (slice_get w.packets n))
denied_does set (Ok x) old k before after m boot n lt kj aa ok err = λ w h.
    let s = unanswered set old k m boot n lt kj aa w h in
    (subst (λ (a : Acted). Shows set (sent old old.packets k old.ledger) a.world) (sym s.1) s.0, ok ∙ ap (λ (a : Acted). before ++ a.items) (sym s.1))
denied_does set (Err x) old k before after m boot n lt kj aa ok err = λ w h. front_same after before _ err
