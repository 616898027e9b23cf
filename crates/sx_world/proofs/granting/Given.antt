-- Connection keys that are given: the packet and the entry of each grant.
use Rattle.std.proofs.Common.{◌≡◌, ℕ, ◌+◌, ◌<◌, List, [], ◌∷◌, ◌++◌, length, take, drop}
use Rattle.std.proofs.Common.{drop-cons, add-one, get_or, IsErr, Option, Some, None, option_map}
use Rattle.std.proofs.Common.{Result, Ok, Err, OnOk, OnErr, refl, sym, subst, ap, ◌∙◌}
use Rattle.std.specs.Prelude.{slice_get}
use Rattle.std.proofs.lemmas.List.{append-nil}
use Rattle.std.proofs.lemmas.Option.{same_Some}
use Rattle.sx_trace.specs.declared.items.Item.{Item}
use Rattle.sx_trace.specs.declared.items.Item.TheVariants.{Packet}
use Rattle.sx_ledger.specs.declared.entry.Entry.{Entry}
use Rattle.sx_ledger.specs.declared.entry.Maker.TheVariants as maker
use Rattle.sx_ledger.specs.Made.{Made}
use Rattle.sx_ledger.specs.Entries.{made}
use Rattle.sx_deployer.specs.Granting.{DeployerState, Grant}
use Rattle.sx_deployer.specs.Granting as granting
use Rattle.sx_deployer.specs.Keeping.{Keeping, Known, packet_for}
use Rattle.sx_deployer.specs.Keeping as keeping
use Rattle.spec_run.specs.Setting.{Site, Setting}
use Rattle.spec_run.specs.Deployer.{connection_key, grant_header, set_key, set_key_entry}
use Rattle.spec_run.specs.State.{World, Acted}
use Rattle.spec_run.specs.Acts.{then_, with_deployer, key_given, keys_given}
use Rattle.sx_world.specs.Held.{Running, IsKept, known_as, Shows, Did, Wanted, DoesAct}
use Rattle.sx_observe.specs.Observing.{Records, AddsFront}
use Rattle.sx_observe.proofs.Fronts.{front_more, front_same, Comes, comes_on, comes_all, comes_front}
use Rattle.sx_world.proofs.granting.SameKeys.{known_site, unknown_site}
use Rattle.sx_world.proofs.granting.Sent.{sent, deployer_shown, packet_shown, packet_item}

-- a grant's packet for a module as the deployer knows it
abbrev packet_to : Setting → Grant → List ℕ → Known → List ℕ
packet_to set g secret t = granting.set_key set.mac secret (keeping.key_of set.mac t g.boot) g.«end» g.epoch

-- the packet of a grant, where there is the holder
same_answer : (set : Setting) (k : Keeping) (d : DeployerState) (g : Grant) (o : Option Site) → IsKept set k d → slice_get set.sites g.holder ≡ o
    → packet_for set.mac k g.holder g.boot g.«end» g.epoch ≡ option_map (λ site. set_key set site g) o
same_answer set k d g None h e = ap (option_map (packet_to set g k.secret)) (unknown_site set k d g.holder h e)
same_answer set k d g (Some site) h e =
    ap (option_map (packet_to set g k.secret)) (known_site set k d g.holder site h e)
    ∙ ap (λ (s : List ℕ). Some (packet_to set g s (known_as set g.holder site))) h.secret

-- a key was given
pub given_some : {X E : Type 0} (set : Setting) (r : Result X E) (old : Running) (entries : List Entry) (packets : List (List ℕ)) (before after : List Item) (g : Grant)
    (count : ℕ) (packet key : List ℕ)
    → Some packet ≡ packet_for set.mac old.deployer g.holder g.boot g.«end» g.epoch → key ≡ granting.connection_key set.mac old.deployer.secret g.«end».link g.epoch
    → ((list : List Made) → Records old.ledger list → Records entries (list ++ made maker.Deployer g.holder g.boot (take 6 packet) key ∷ []))
    → count ≡ length old.packets
    → OnOk r (packets ≡ old.packets ++ packet ∷ []) → OnOk r (after ≡ before ++ Packet count (length packet) ∷ []) → OnErr r (after ≡ before)
    → DoesAct set r old (sent old packets old.deployer entries) before after (λ w. key_given set w g (slice_get set.sites g.holder))
given_some set (Err e) old entries packets before after g count packet key made_by key_is records n more added none = λ w h. front_same after before _ none
given_some set (Ok x) old entries packets before after g count packet key made_by key_is records n more added none = λ w h. did w h (slice_get set.sites g.holder) refl
  where
    did : (w : World) → Shows set old w → (o : Option Site) → slice_get set.sites g.holder ≡ o
        → Shows set (sent old packets old.deployer entries) (key_given set w g o).world × (after ≡ before ++ (key_given set w g o).items)
    did w h None e = absurd (no_packet (made_by ∙ same_answer set old.deployer w.deployer g None h.deployer e))
      where
        no_packet : ◌≡◌ {A = Option (List ℕ)} (Some packet) None → ⊥
        no_packet e = cc
    did w h (Some site) e =
        let same : packet ≡ set_key set site g = same_Some packet (set_key set site g) (made_by ∙ same_answer set old.deployer w.deployer g (Some site) h.deployer e) in
        let own_key : key ≡ connection_key set g.«end».link g.epoch =
        key_is ∙ ap (λ (s : List ℕ). granting.connection_key set.mac s g.«end».link g.epoch) h.deployer.secret in
        let entry : made maker.Deployer g.holder g.boot (take 6 packet) key ≡ set_key_entry set g =
        ap (λ (p : List ℕ). made maker.Deployer g.holder g.boot (take 6 p) key) same
        ∙ ap (λ (p : List ℕ). made maker.Deployer g.holder g.boot (grant_header g) p) own_key in
        let ledger = w.ledger ++ set_key_entry set g ∷ [] in
        let kept : Records entries ledger = subst (λ (m : Made). Records entries (w.ledger ++ m ∷ [])) entry (records w.ledger h.ledger) in (
          packet_shown set (sent old old.packets old.deployer entries) (with_deployer w w.deployer ledger) packets packet (set_key set site g)
              (deployer_shown set old w old.deployer w.deployer entries ledger h h.deployer kept) more same,
          added ∙ ap (λ i. before ++ i ∷ []) (packet_item old.packets w.packets count packet (set_key set site g) h.packets n same),
        )

-- no such holder
pub given_none : (set : Setting) (old : Running) (before : List Item) (g : Grant)
    → None ≡ packet_for set.mac old.deployer g.holder g.boot g.«end» g.epoch
    → Did set old old before before (λ w. key_given set w g (slice_get set.sites g.holder))
given_none set old before g made_by = λ w h. did w h (slice_get set.sites g.holder) refl
  where
    did : (w : World) → Shows set old w → (o : Option Site) → slice_get set.sites g.holder ≡ o
        → Shows set old (key_given set w g o).world × (before ≡ before ++ (key_given set w g o).items)
    did w h None e = (h, sym (append-nil before))
    did w h (Some site) e =
        absurd (no_packet (made_by ∙ same_answer set old.deployer w.deployer g (Some site) h.deployer e))
      where
        no_packet : {p : List ℕ} → ◌≡◌ {A = Option (List ℕ)} None (Some p) → ⊥
        no_packet e = cc

-- of all grants these are left, and these items have come
pub record Giving (set : Setting) (all left : List Grant) (old now : Running) (before came : List Item) : Type 0 where
  pub goes : (w : World) → Shows set old w → (v : World) × Shows set now v
      × ((keys_given set left v).world ≡ (keys_given set all w).world)
      × Comes before came (keys_given set left v).items (keys_given set all w).items

-- one more key was given
pub giving_on : (set : Setting) (all left rest : List Grant) (g : Grant) (old now new : Running) (before came after : List Item)
    → Giving set all left old now before came → left ≡ g ∷ rest → Did set now new came after (λ w. key_given set w g (slice_get set.sites g.holder))
    → Giving set all rest old new before after
giving_on set all left rest g old now new before came after giving e did = record {
  goes = λ w h.
      let a = giving.goes w h in
      let v = a.0 in
      let one = key_given set v g (slice_get set.sites g.holder) in
      let d = did v a.1 in
      let whole : keys_given set left v ≡ then_ one (keys_given set rest) = ap (λ gs. keys_given set gs v) e in
      let more = (keys_given set rest one.world).items in (
        one.world,
        d.0,
        ap (λ x. x.world) (sym whole) ∙ a.2,
        comes_on before came after one.items more (keys_given set left v).items (keys_given set all w).items a.3 d.1 (ap (λ x. x.items) whole),
      );
}

-- all keys were given
pub giving_all : (set : Setting) (all left : List Grant) (old now : Running) (before came : List Item) → Giving set all left old now before came → left ≡ []
    → Did set old now before came (keys_given set all)
giving_all set all left old now before came giving e = λ w h.
    let a = giving.goes w h in
    let none : keys_given set left a.0 ≡ keys_given set [] a.0 = ap (λ gs. keys_given set gs a.0) e in (
      subst (λ x. Shows set now x) (ap (λ x. x.world) (sym none) ∙ a.2) a.1,
      comes_all before came came (keys_given set left a.0).items (keys_given set all w).items a.3 (sym (append-nil came) ∙ ap (λ x. came ++ x.items) (sym none)),
    )

-- a key for which memory ran out
pub giving_front : (set : Setting) (all left rest : List Grant) (g : Grant) (old now : Running) (before came after : List Item)
    → Giving set all left old now before came → left ≡ g ∷ rest → Wanted set now came after (λ w. key_given set w g (slice_get set.sites g.holder))
    → Wanted set old before after (keys_given set all)
giving_front set all left rest g old now before came after giving e wanted = λ w h.
    let a = giving.goes w h in
    let v = a.0 in
    let one = key_given set v g (slice_get set.sites g.holder) in
    let whole : keys_given set left v ≡ then_ one (keys_given set rest) = ap (λ gs. keys_given set gs v) e in
    comes_front before came after (keys_given set left v).items (keys_given set all w).items a.3
    (subst (λ x. AddsFront came after x.items) (sym whole) (front_more after came one.items (keys_given set rest one.world).items (wanted v a.1)))

pub next_grant : (gs : List Grant) (i : ℕ) (g : Grant) → i < length gs → g ≡ get_or gs i g → drop i gs ≡ g ∷ drop (i + 1) gs
next_grant gs i g h e =
    drop-cons gs i g h ∙ ap (λ (n : ℕ). get_or gs i g ∷ drop n gs) (sym (add-one i)) ∙ ap (λ (x : Grant). x ∷ drop (i + 1) gs) (sym e)

-- a lack of memory
pub does_err : {X E : Type 0} (set : Setting) (r : Result X E) (old new : Running) (before after : List Item) (act : World → Acted) → IsErr r
    → Wanted set old before after act → DoesAct set r old new before after act
does_err set (Ok x) old new before after act e wanted = absurd cc
does_err set (Err x) old new before after act e wanted = wanted
