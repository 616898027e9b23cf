-- Settings whose connections have keys of their own show the same.
use Rattle.std.proofs.Common.{◌≡◌, ℕ, zero, suc, ◌+◌, ◌<◌, Bool, inl, List, [], ◌∷◌, length, Option, Some, None, is_some, refl, sym, ◌∙◌, ap, ap₂, subst, arith}
use Rattle.std.specs.Prelude.{slice_get, map}
use Rattle.std.proofs.lemmas.Bool.{true≢false}
use Rattle.sx_bus.specs.declared.devices.Window.{Window}
use Rattle.sx_rules.specs.declared.section.Section.{Section}
use Rattle.sx_tag.specs.Mac.{Mac}
use Rattle.spec_machine.specs.State.{State, power_on}
use Rattle.sx_sched.specs.Lines.{Line}
use Rattle.spec_run.specs.Setting.{Setting}
use Rattle.spec_run.specs.State.{World, nodes_from, switched_on}
use Rattle.spec_run.specs.Run.{run}
use Rattle.spec_run.specs.Law.{IsSoundSetting, LinesInForm}
use Rattle.spec_run.proofs.tie.Lists.{some_inj}
use Rattle.law_isolation.specs.Happening.{done}
use Rattle.law_isolation.specs.Script.{Script, End, Do, looks}
use Rattle.law_isolation.specs.Lines.{script_of}
use Rattle.law_forgery.specs.Bare.{bare_section}
use Rattle.law_forgery.specs.Moments.{Moment, moment_from, shown_at, NoForged}
use Rattle.law_forgery.proofs.Reaching.{starts_turning}
use Rattle.sx_deploy.proofs.Sound.{sound}
use Rattle.spec_run.specs.Accepted.{setting_of, sites_of}
use Rattle.spec_run.proofs.accepted.Settled.{settled}
use Rattle.spec_run.proofs.accepted.FormedLines.{lines_in_form}
use Rattle.law_connections.specs.Unlinked.{Unlinked}
use Rattle.law_connections.specs.Accepted.{AcceptedUnseen}
use Rattle.law_connections.specs.LinksUnseen.{SameOutside, SameWorldOutside, NothingGuessed, RunsAlike}
use Rattle.law_connections.specs.Laws.{HidesKeys, LinksUnseen}
use Rattle.law_connections.proofs.Outside.{sites_on, is_deployed, SameSections, AlikeOutside}
use Rattle.law_connections.proofs.Doing.{outside_turn}
use Rattle.sx_tmpl.proofs.Agreeing.{agree_self}
use Rattle.law_connections.proofs.Upto.{none_clean}
use Rattle.law_connections.proofs.Linking.{second, SameNode}
use Rattle.law_connections.proofs.Worlds.{SameAt, SameWorld, SameRun}
use Rattle.law_connections.proofs.Lines.{GuessesNow, NoGuesses, lines_same}

-- what no moment of the run guesses, the script doesn't
of_moments : (a b : Setting) (script : Script) (w : World)
    → ((k : ℕ) (now : Moment) → moment_from a k script w ≡ Some now → ((j : ℕ) (past : Moment) → j < k → moment_from a j script w ≡ Some past → NoForged (shown_at a past))
    → GuessesNow a b now.next now.world) → NoGuesses a b script w
of_moments a b End w f = tt
of_moments a b (Do x rest) w f = (
  f 0 (record { next = x; world = w }) refl (λ j past lt e. absurd (omega (arith, lt))),
  λ clean. of_moments a b (rest (looks (done a x w).world)) (done a x w).world (λ k now e none.
      f (suc k) now e (λ j past lt g. before j past lt g clean none)),
)
  where
    before : {k : ℕ} (j : ℕ) (past : Moment) → j < suc k → moment_from a j (Do x rest) w ≡ Some past → NoForged (done a x w).items
        → ((i : ℕ) (p : Moment) → i < k → moment_from a i (rest (looks (done a x w).world)) (done a x w).world ≡ Some p → NoForged (shown_at a p)) → NoForged (shown_at a past)
    before zero past lt g clean none = subst (λ (z : Moment). NoForged (shown_at a z)) (some_inj (record { next = x; world = w }) past g) clean
    before (suc j) past lt g clean none = none j past (omega (arith, lt)) g

module _ (a : Setting) (nac : Mac) (keys : List (List ℕ)) (secret : List ℕ) where
  abbrev b : Setting
  b = second a nac keys secret

  on_same : (n : ℕ) (key ley : List ℕ) (devices : List Window) → SameNode a nac keys secret n (power_on key devices) (power_on ley devices)
  on_same n key ley devices = record {
    outside = record { rest = refl; mem = agree_self _ (power_on key devices).mem; sections = tt; next = refl };
    rests = λ x l d c. l;
    states = λ m q site x part sited l at. absurd l;
  }

  nodes_same : (i : ℕ) (ks ls : List (List ℕ)) → length ks ≡ length ls → (n k : ℕ) → SameAt a nac keys secret k (slice_get (nodes_from a i ks) n) (slice_get (nodes_from b i ls) n)
  nodes_same i [] [] e n k = tt
  nodes_same i [] (l ∷ ls) e n k = absurd (omega (arith, e))
  nodes_same i (x ∷ ks) [] e n k = absurd (omega (arith, e))
  nodes_same i (x ∷ ks) (l ∷ ls) e zero k = inl (on_same k x l _)
  nodes_same i (x ∷ ks) (l ∷ ls) e (suc n) k = nodes_same (i + 1) ks ls (omega (arith, e)) n k

  -- What the worlds have in common outside.

  live_same : (hides : Section → Bool) (xs ys : List Section) → SameSections a.mac nac hides xs ys → map bare_section ys ≡ map bare_section xs
  live_same hides [] [] h = refl
  live_same hides [] (y ∷ ys) h = absurd h
  live_same hides (x ∷ xs) [] h = absurd h
  live_same hides (x ∷ xs) (y ∷ ys) h = ap₂ (λ (z : Section) (zs : List Section). z ∷ zs) (ap bare_section h.0.0) (live_same hides xs ys h.1)

  node_outside : (n : ℕ) (s t : State) → AlikeOutside a.mac nac (sites_on a.sites n) s t → SameOutside a n s t
  node_outside n s t h = record {
    rest = h.rest;
    live = live_same (is_deployed (sites_on a.sites n) s.mem) s.sections.live t.sections.live h.sections;
    next = h.next;
    size = sym h.mem.size;
    mem = λ k free. sym (h.mem.same k (λ x l d. free x l (λ none. true≢false (sym d ∙ ap is_some none))));
  }

  abbrev Matches : Option State → Option State → Type 0
  Matches None None = Unit {0}
  Matches None (Some t) = ⊥
  Matches (Some s) None = ⊥
  Matches (Some s) (Some t) = Unit {0}

  matches : (n : ℕ) (o p : Option State) → SameAt a nac keys secret n o p → Matches o p
  matches n None None h = tt
  matches n None (Some t) h = h
  matches n (Some s) None h = h
  matches n (Some s) (Some t) h = tt

  count_same : (xs ys : List State) → ((n : ℕ) → Matches (slice_get xs n) (slice_get ys n)) → length ys ≡ length xs
  count_same [] [] h = refl
  count_same [] (y ∷ ys) h = absurd (h 0)
  count_same (x ∷ xs) [] h = absurd (h 0)
  count_same (x ∷ xs) (y ∷ ys) h = ap suc (count_same xs ys (λ n. h (suc n)))

  world_outside : (w v : World) → SameWorld a nac keys secret w v → SameWorldOutside a w v
  world_outside w v h = record {
    count = count_same w.nodes v.nodes (λ n. matches n (slice_get w.nodes n) (slice_get v.nodes n) (h.nodes n));
    nodes = λ n s t here there. node_outside n s t (outside_turn a nac keys secret n s t
        (subst (λ (o : Option State). SameAt a nac keys secret n o (Some t)) here (subst (λ (o : Option State). SameAt a nac keys secret n (slice_get w.nodes n) o) there (h.nodes n))));
    packets = h.packets;
    deployer = h.deployer;
  }

  of_second : (lines : List Line) → IsSoundSetting a → IsSoundSetting (second a nac keys secret) → Unlinked a (second a nac keys secret) → HidesKeys a
      → LinesInForm a lines → NothingGuessed a (second a nac keys secret) lines
      → RunsAlike a (second a nac keys secret) lines
  of_second lines first_sound sound2 unlinked hides form guess =
      let start : SameRun a nac keys secret (switched_on a) (switched_on b) = record {
        same = record { nodes = λ n. nodes_same 0 a.keys keys unlinked.count n n; packets = refl; deployer = refl; lines = refl; ledger = tt };
        first = starts_turning a first_sound;
        second = starts_turning b sound2;
      } in
      let none : NoGuesses a b (script_of a lines) (switched_on a) =
      of_moments a b (script_of a lines) (switched_on a) (λ k now e none n s is here runs. guess k now e none n s is here runs) in
      let h = lines_same a nac keys secret first_sound sound2 unlinked hides lines (switched_on a) (switched_on b) start form none in
      let x = run a (switched_on a) lines in
      let y = run b (switched_on b) lines in
      (h.0, λ clean. world_outside x.world y.world (h.1 (none_clean x.items clean)).same)

pub links_unseen : LinksUnseen
links_unseen a lines first_sound hides form b sound2 unlinked guess =
    let is = unlinked.rest in
    subst (λ (z : Setting). RunsAlike a z lines) (sym is)
    (of_second a b.mac b.keys b.secret lines first_sound (subst IsSoundSetting is sound2) (subst (Unlinked a) is unlinked) hides form
    (subst (λ (z : Setting). NothingGuessed a z lines) is guess))

-- An accepted deployment.

pub accepted_unseen : AcceptedUnseen
accepted_unseen text d read mac texts tag images hides lines are =
    let acc = sound text d read in
    links_unseen (setting_of mac d texts) lines (settled mac d texts acc images tag) hides
    (lines_in_form mac d (sites_of d.app.parts d.layouts d.providers texts) acc lines are)
