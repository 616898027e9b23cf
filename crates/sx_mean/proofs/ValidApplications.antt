-- What a valid application's devices, parts and connections are.
use Rattle.std.proofs.Common.{◌≡◌, ℕ, zero, suc, ◌+◌, ◌-◌, ◌<◌, ◌==◌, Bool, true, false, ◌||◌, not, List, [], ◌∷◌, length, Some, nat_lt, count_by, subst, arith}
use Rattle.std.specs.Prelude.{slice_get}
use Rattle.std.specs.List.{list_any, All}
use Rattle.std.proofs.lemmas.Bool.{ltb-false, ltb-true, or_parts, not-true, not-false}
use Rattle.std.proofs.lemmas.Bool.Decides.{nat_tests}
use Rattle.std.proofs.lemmas.List.Elements.{All-nil, All-cons}
use Rattle.sx_lang.specs.declared.tree.Decl.{Decl}
use Rattle.sx_mean.specs.declared.apps.AppDevice.{AppDevice}
use Rattle.sx_mean.specs.declared.apps.Link.{Link}
use Rattle.sx_mean.specs.Application.{AppTree, PartTree, declared_kind, ends_from, ends_to, is_driven, sends_too_much}
use Rattle.sx_mean.specs.Validity.{any_part, has_port, is_crowded, is_loose, is_misplaced, is_overloaded, is_port, is_stray, is_too_large, is_valid, is_wrong, parts_at, parts_with}
use Rattle.sx_mean.specs.Valid.{IsApplication, IsPlaced, IsTied}

-- a port that is there is one of the part's
pub port_of_part : (ports : Decl → Bool) (qs : List PartTree) (p port : ℕ) (q : PartTree) → has_port ports qs p port ≡ true → slice_get qs p ≡ Some q → port < count_by ports q.tree.decls
port_of_part ports [] p port q h e = absurd (cc)
port_of_part ports (x ∷ qs) zero port q h e =
    let same : x ≡ q = cc in
    subst (λ (x : PartTree). port < count_by ports x.tree.decls) same (ltb-true port (count_by ports x.tree.decls) h)
port_of_part ports (x ∷ qs) (suc p) port q h e =
    let later : (suc p == 0) ≡ false = grind (arith, nat_tests) in
    let one_less : suc p - 1 ≡ p = omega arith in
    port_of_part ports qs p port q (subst (λ n. has_port ports qs n port ≡ true) one_less (rw later at h)) e

-- a test that no part passes isn't passed by one
pub no_part : (test : ℕ → PartTree → Bool) (qs : List PartTree) (n p : ℕ) (q : PartTree) → any_part test n qs ≡ false → slice_get qs p ≡ Some q → test (n + p) q ≡ false
no_part test [] n p q h e = absurd (cc)
no_part test (x ∷ qs) n zero q h e =
    let same : x ≡ q = cc in
    let here : n ≡ n + 0 = omega arith in
    subst (λ k. test k q ≡ false) here (subst (λ (x : PartTree). test n x ≡ false) same (or_parts (test n x) (any_part test (n + 1) qs) h).0)
no_part test (x ∷ qs) n (suc p) q h e =
    let next : n + 1 + p ≡ n + suc p = omega arith in
    subst (λ k. test k q ≡ false) next (no_part test qs (n + 1) p q (or_parts (test n x) (any_part test (n + 1) qs) h).1 e)

devices_at : (app : AppTree) (ds : List AppDevice) → list_any (is_stray app) ds ≡ false → All (λ (d : AppDevice). d.node < app.nodes) ds
devices_at app [] h = All-nil (λ (d : AppDevice). d.node < app.nodes)
devices_at app (d ∷ ds) h =
    let b = or_parts (is_stray app d) (list_any (is_stray app) ds) h in
    All-cons (λ (d : AppDevice). d.node < app.nodes) d ds (ltb-true d.node app.nodes (not-false (nat_lt d.node app.nodes) b.0)) (devices_at app ds b.1)

placed_part : (app : AppTree) (p : ℕ) (q : PartTree) → is_wrong app p q ≡ false → IsPlaced app p q
unfolding is_wrong is_misplaced is_crowded is_overloaded
placed_part app p q h =
    let misplaced = not (nat_lt q.node app.nodes) || not (is_driven app.devices q.node q.device (declared_kind q.tree.decls)) in
    let crowded = nat_lt 8 (parts_at app.parts q.node) || nat_lt 1 (parts_with app.parts q.device) in
    let overloaded = nat_lt 16 (ends_from app.links p + ends_to app.links p) || sends_too_much app.links p q.tree in
    let w = or_parts misplaced (crowded || overloaded) h in
    let r = or_parts crowded overloaded w.1 in
    let m = or_parts (not (nat_lt q.node app.nodes)) (not (is_driven app.devices q.node q.device (declared_kind q.tree.decls))) w.0 in
    let c = or_parts (nat_lt 8 (parts_at app.parts q.node)) (nat_lt 1 (parts_with app.parts q.device)) r.0 in
    let o = or_parts (nat_lt 16 (ends_from app.links p + ends_to app.links p)) (sends_too_much app.links p q.tree) r.1 in
    record {
      node = ltb-true q.node app.nodes (not-false (nat_lt q.node app.nodes) m.0);
      driven = not-false (is_driven app.devices q.node q.device (declared_kind q.tree.decls)) m.1;
      few_beside = ltb-false 8 (parts_at app.parts q.node) c.0;
      one_driver = ltb-false 1 (parts_with app.parts q.device) c.1;
      ends = ltb-false 16 (ends_from app.links p + ends_to app.links p) o.0;
      packets = o.1;
    }

tied_link : (app : AppTree) (l : Link) → is_loose app l ≡ false → IsTied app l
unfolding is_loose
tied_link app l h =
    let b = or_parts (not (has_port (is_port true) app.parts l.from l.output)) (not (has_port (is_port false) app.parts l.to l.input)) h in
    record { output = not-false (has_port (is_port true) app.parts l.from l.output) b.0; input = not-false (has_port (is_port false) app.parts l.to l.input) b.1 }

tied_links : (app : AppTree) (ls : List Link) → list_any (is_loose app) ls ≡ false → All (IsTied app) ls
tied_links app [] h = All-nil (IsTied app)
tied_links app (l ∷ ls) h =
    let b = or_parts (is_loose app l) (list_any (is_loose app) ls) h in
    All-cons (IsTied app) l ls (tied_link app l b.0) (tied_links app ls b.1)

pub valid_applications : (app : AppTree) → is_valid app ≡ true → IsApplication app
unfolding is_valid is_too_large
valid_applications app h =
    let nodes = nat_lt 16 app.nodes in
    let devices = nat_lt 32 (length app.devices) in
    let parts = nat_lt 32 (length app.parts) in
    let links = nat_lt 64 (length app.links) in
    let stray = list_any (is_stray app) app.devices in
    let wrong = any_part (is_wrong app) 0 app.parts in
    let loose = list_any (is_loose app) app.links in
    let a = or_parts (nodes || (devices || (parts || links))) (stray || (wrong || loose)) (not-true _ h) in
    let b = or_parts stray (wrong || loose) a.1 in
    let c = or_parts wrong loose b.1 in
    let n = or_parts nodes (devices || (parts || links)) a.0 in
    let d = or_parts devices (parts || links) n.1 in
    let p = or_parts parts links d.1 in
    record {
      few_nodes = ltb-false 16 app.nodes n.0;
      few_devices = ltb-false 32 (length app.devices) d.0;
      few_parts = ltb-false 32 (length app.parts) p.0;
      few_links = ltb-false 64 (length app.links) p.1;
      devices = devices_at app app.devices b.0;
      parts = λ p q e. (let at_p : 0 + p ≡ p = omega arith in placed_part app p q (subst (λ n. is_wrong app n q ≡ false) at_p (no_part (is_wrong app) app.parts 0 p q c.0 e)));
      links = tied_links app app.links c.1;
    }
