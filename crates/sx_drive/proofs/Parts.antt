-- Parts of an honest run that are done one after the other, or where a module was found.
use Rattle.std.proofs.Common.{◌≡◌, ℕ, ◌++◌, List, [], Option, Some, None, Result, Ok, Err, IsErr, OnOk, inl, refl, sym, subst, ap, ◌∙◌}
use Rattle.std.specs.Prelude.{slice_get, option_and_then}
use Rattle.std.proofs.lemmas.List.{append-nil}
use Rattle.sx_tag.specs.Mac.{Mac}
use Rattle.sx_mean.specs.Application.{AppTree}
use Rattle.sx_deploy.specs.SeenDeployment.{deployed_as}
use Rattle.sx_deploy.specs.declared.deployment.Deployment.{Deployment}
use Rattle.spec_run.specs.Setting.{Setting}
use Rattle.sx_drive.specs.declared.said.Said.{Said as Told}
use Rattle.sx_drive.specs.Honest.{Callee, Honest, Driven, then_, each, packets_of, if_there, receiver_of, queues}
use Rattle.sx_drive.specs.Driving.{Kept, Follows, GoesOn, SaysFront, LosesNothing, Did, Wanted, Does, all_said, queued}
use Rattle.sx_drive.proofs.Remains.{Part, remains_start, remains_on, remains_wanted, remains_last, does_err}

-- a part that was done, and then what follows
pub then_does : {X E : Type 0} (mac : Mac) (d : Deployment) (r : Result X E) (old mid new : Kept) (before among after : List Told) (a b : Part)
    → Did mac d old mid before among a → Does mac d r mid new among after b → Does mac d r old new before after (λ set h. then_ (a set h) (b set))
then_does mac d r old mid new before among after a b first next =
    let whole : Part = λ set h. then_ (a set h) (b set) in
    remains_last mac d r whole b b old mid new before among after
    (remains_on mac d whole whole a b old old mid before before among (remains_start mac d whole old before) (λ set h f. refl) first)
    (λ set h f. refl) next

-- a part in which memory ran out
pub first_err : {X E : Type 0} (mac : Mac) (d : Deployment) (r : Result X E) (old new : Kept) (before after : List Told) (a b : Part)
    → IsErr r → Wanted mac d old new before after a → Does mac d r old new before after (λ set h. then_ (a set h) (b set))
first_err mac d r old new before after a b is wanted =
    let whole : Part = λ set h. then_ (a set h) (b set) in
    does_err mac d r old new before after whole is
    (remains_wanted mac d whole whole a b old old new before before after (remains_start mac d whole old before) (λ set h f. refl) wanted)

-- the same part, said otherwise
pub does_same : {X E : Type 0} (mac : Mac) (d : Deployment) (r : Result X E) (old new : Kept) (before after : List Told) (act other : Part)
    → ((set : Setting) (h : Honest) → Follows mac d old set h → act set h ≡ other set h) → Does mac d r old new before after act → Does mac d r old new before after other
does_same mac d (Ok x) old new before after act other same does = λ set h f.
    subst (λ (a : Driven). Follows mac d new set a.honest × (all_said after ≡ all_said before ++ a.said) × LosesNothing old.world new.world (all_said before) (all_said after))
    (same set h f) (does set h f)
does_same mac d (Err e) old new before after act other same does = λ set h f.
    subst (λ (a : Driven). SaysFront (all_said before) (all_said after) a.said × LosesNothing old.world new.world (all_said before) (all_said after))
    (same set h f) (does set h f)

-- what is found in the deployment is found in a setting that the run follows
pub found_there : (mac : Mac) (d : Deployment) (old : Kept) (find : AppTree → Option Callee) (o : Option Callee) → o ≡ find (deployed_as d).app
    → (set : Setting) (h : Honest) → Follows mac d old set h → o ≡ find set.app
found_there mac d old find o is set h f = is ∙ ap (λ (s : Setting). find s.app) (sym f.setting)

-- and so is the module that a packet is for
pub receiver_there : (mac : Mac) (d : Deployment) (old : Kept) (k : ℕ) (o : Option Callee)
    → o ≡ option_and_then (receiver_of (deployed_as d).app) (slice_get old.world.running.packets k)
    → (set : Setting) (h : Honest) → Follows mac d old set h → o ≡ option_and_then (receiver_of set.app) (slice_get h.world.packets k)
receiver_there mac d old k o is set h f =
    is ∙ ap (λ (s : Setting). option_and_then (receiver_of s.app) (slice_get old.world.running.packets k)) (sym f.setting)
    ∙ ap (λ ps. option_and_then (receiver_of set.app) (slice_get ps k)) f.world.shows.packets

-- a part for a module that was found
pub found_does : {X E : Type 0} (mac : Mac) (d : Deployment) (r : Result X E) (old new : Kept) (before after : List Told)
    (find : Setting → Honest → Option Callee) (x : Callee) (act : Setting → Callee → Honest → Driven)
    → ((set : Setting) (h : Honest) → Follows mac d old set h → Some x ≡ find set h) → Does mac d r old new before after (λ set. act set x)
    → Does mac d r old new before after (λ set h. if_there (act set) (find set h) h)
found_does mac d r old new before after find x act is does =
    let one : Part = λ set. act set x in
    let whole : Part = λ set h. if_there (act set) (find set h) h in
    does_same mac d r old new before after one whole (λ set h f. ap (λ o. if_there (act set) o h) (is set h f)) does

-- nothing, where none was found
pub none_did : (mac : Mac) (d : Deployment) (old : Kept) (before : List Told) (find : Setting → Honest → Option Callee) (act : Setting → Callee → Honest → Driven)
    → ((set : Setting) (h : Honest) → Follows mac d old set h → None ≡ find set h)
    → Did mac d old old before before (λ set h. if_there (act set) (find set h) h)
none_did mac d old before find act is = λ set h f.
    subst (λ (a : Driven). Follows mac d old set a.honest × (all_said before ≡ all_said before ++ a.said) × LosesNothing old.world old.world (all_said before) (all_said before))
    (ap (λ o. if_there (act set) o h) (is set h f)) (f, sym (append-nil (all_said before)), inl (refl, refl))

-- nothing was said, since memory had run out
pub says_nothing : (mac : Mac) (d : Deployment) (old : Kept) (before : List Told) (act : Part) → Wanted mac d old old before before act
says_nothing mac d old before act = λ set h f.
    (record { front = []; rest = (act set h).said; added = sym (append-nil (all_said before)); prefix = refl }, inl (refl, refl))

-- the packets that were shown wait: nothing is said
pub queue_does : {X E : Type 0} (mac : Mac) (d : Deployment) (r : Result X E) (old new : Kept) (before : List Told)
    → OnOk r (new ≡ queued old) → new.world ≡ old.world → Does mac d r old new before before (λ set. queues)
queue_does mac d (Ok x) old new before is world = λ set h f. (
  subst (λ (k : Kept). Follows mac d k set (queues h).honest) (sym is) (record {
    setting = f.setting;
    world = f.world;
    waiting = ap (λ ks. ks ++ packets_of old.shown) f.waiting ∙ ap (λ items. h.waiting ++ packets_of items) f.shown;
    shown = f.shown;
    long = f.long;
    room = f.room;
    memory = f.memory;
  }),
  sym (append-nil (all_said before)),
  inl (world, refl),
)
queue_does mac d (Err e) old new before is world = λ set h f.
    (record { front = []; rest = []; added = sym (append-nil (all_said before)); prefix = refl }, inl (world, refl))

pub queue_goes : {X E : Type 0} (mac : Mac) (d : Deployment) (r : Result X E) (old new : Kept) → GoesOn mac d old → OnOk r (new ≡ queued old) → OnOk r (GoesOn mac d new)
queue_goes mac d (Ok x) old new goes is =
    let f = goes.follows in
    subst (λ (k : Kept). GoesOn mac d k) (sym is) (record {
      set = goes.set;
      honest = (queues goes.honest).honest;
      follows = record {
        setting = f.setting;
        world = f.world;
        waiting = ap (λ ks. ks ++ packets_of old.shown) f.waiting ∙ ap (λ items. goes.honest.waiting ++ packets_of items) f.shown;
        shown = f.shown;
        long = f.long;
        room = f.room;
        memory = f.memory;
      };
      deployed = goes.deployed;
      sound = goes.sound;
    })
queue_goes mac d (Err e) old new goes is = tt

-- the same for each packet that the last line showed
pub shown_does : {X E : Type 0} (mac : Mac) (d : Deployment) (r : Result X E) (old new : Kept) (before after : List Told) (act : Setting → ℕ → Honest → Driven) (ks : List ℕ)
    → ks ≡ packets_of old.shown → Does mac d r old new before after (λ set. each (act set) ks)
    → Does mac d r old new before after (λ set h. each (act set) (packets_of h.shown) h)
shown_does mac d r old new before after act ks is does =
    let these : Part = λ set. each (act set) ks in
    let shown : Part = λ set h. each (act set) (packets_of h.shown) h in
    does_same mac d r old new before after these shown (λ set h f. ap (λ xs. each (act set) xs h) (is ∙ ap packets_of f.shown)) does

-- what a call that went well says, said otherwise
pub ok_more : {X E : Type 0} {P Q : Type 0} (r : Result X E) → (P → Q) → OnOk r P → OnOk r Q
ok_more (Ok x) f p = f p
ok_more (Err e) f p = tt
