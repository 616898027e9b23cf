-- A world whose nodes were just switched on is at the start of a run: its sites, what the deployer knows, and what it keeps.
use Rattle.std.proofs.Common.{◌≡◌, ℕ, ◌+◌, ◌<◌, ◌≤◌}
use Rattle.std.proofs.Common.{List, [], length, take, map, replicate, Option, Some, None}
use Rattle.std.proofs.Common.{refl, sym, ◌∙◌, ap, subst, arith}
use Rattle.std.specs.Prelude.{slice_get}
use Rattle.std.specs.List.{Contains}
use Rattle.std.proofs.lemmas.Bool.{true≢false}
use Rattle.std.proofs.lemmas.List.{take-replicate}
use Rattle.std.proofs.lemmas.Simd.{splat_is_map}
use Rattle.sx_rules.specs.Placed.{Placed}
use Rattle.sx_rules.proofs.Placing.{starts_placed}
use Rattle.sx_ledger.specs.declared.entry.Entry.{Entry}
use Rattle.sx_ledger.specs.Entries.{entry_of}
use Rattle.spec_machine.specs.State.{State}
use Rattle.sx_deploy.specs.Deployment.{Deployed}
use Rattle.sx_deploy.specs.Law as deployment
use Rattle.sx_mean.specs.declared.events.End.{End}
use Rattle.sx_mean.specs.Ends.{ends_of}
use Rattle.sx_tag.specs.Keys.{identity}
use Rattle.sx_tag.specs.Mac.{Mac}
use Rattle.sx_deployer.specs.Keeping.{Keeping, Known, first}
use Rattle.spec_run.specs.Setting.{Site, Setting}
use Rattle.spec_run.specs.State.{nodes_from, switched_on}
use Rattle.spec_run.specs.Accepted.{sites_of}
use Rattle.sx_world.specs.Held.{Held, Running, IsKept, ArePlaced, Shows, targets_from}
use Rattle.sx_observe.specs.Observing.{Records}
use Rattle.sx_observe.specs.Recognized.{none_recognized}
use Rattle.sx_observe.proofs.Recognizing.{first_recognized}
use Rattle.spec_run.specs.Accepted.{setting}
use Rattle.sx_world.specs.Standing.{Stands}
use Rattle.spec_run.proofs.accepted.LaidSites.{site_at}
use Rattle.sx_world.proofs.granting.SameKeys.{known_at}
use Rattle.spec_run.proofs.tie.Lists.{list_at_is}
use Rattle.spec_run.proofs.tie.Start.{get_nodes}

-- each site is at a node that has a key
pub keyed : (d : Deployed) → deployment.IsSoundDeployment d → (ts : List (List ℕ)) (m : ℕ) (site : Site) → slice_get (sites_of d.app.parts d.layouts d.providers ts) m ≡ Some site
    → site.node < length d.keys
keyed d acc ts m site e =
    let r = site_at d.app.parts d.layouts d.providers ts m site e in
    let part = acc.modules m r.part r.found in
    omega (arith, r.node, part.node, acc.nodes, acc.keys)

-- The deployer's modules

pub target_is : (mac : Mac) (d : Deployed) (sites : List Site) (m : ℕ) (site : Site) (key bytes : List ℕ) (provider : ℕ) (ends : List End) → slice_get sites m ≡ Some site
    → slice_get d.keys site.node ≡ Some key → provider ≡ site.provider → bytes ≡ identity site.text site.layout.pub_from site.layout.pub_to site.layout.priv_from site.layout.priv_to
    → ends ≡ ends_of d.app m
    → slice_get (targets_from (setting mac d sites) 0 sites) m ≡ Some (record { node_key = key; provider = provider; identity = bytes; ends = ends })
target_is mac d sites m site key bytes provider ends e ek ep eb ee =
    let known : List ℕ → ℕ → List ℕ → List End → Option Known = λ k p b es. Some (record { node_key = k; provider = p; identity = b; ends = es }) in
    let id = identity site.text site.layout.pub_from site.layout.pub_to site.layout.priv_from site.layout.priv_to in
    known_at (setting mac d sites) sites 0 m site e
    ∙ ap (λ k. known k site.provider id (ends_of d.app (0 + m))) (list_at_is d.keys site.node key ek)
    ∙ ap (λ p. known key p id (ends_of d.app (0 + m))) (sym ep)
    ∙ ap (λ b. known key provider b (ends_of d.app (0 + m))) (sym eb)
    ∙ ap (λ (i : ℕ). known key provider bytes (ends_of d.app i)) (omega arith)
    ∙ ap (λ es. known key provider bytes es) (sym ee)

-- What is kept

blanks : {A X : Type 0} (v : A) (xs : List X) (n : ℕ) → length xs ≤ n → take (length xs) (replicate n v) ≡ map (λ x. v) xs
blanks v xs n le = take-replicate (length xs) n v le ∙ splat_is_map xs (length xs) v refl

first_kept : (set : Setting) (secret : List ℕ) (targets : List Known) → length set.app.parts ≤ 32 → length set.app.links ≤ 64 → secret ≡ set.secret → targets ≡ targets_from set 0 set.sites
    → IsKept set (first secret targets) (switched_on set).deployer
first_kept set secret targets parts links es et = record {
  secret = es;
  targets = et;
  asks = refl;
  open_asks = blanks None set.app.parts 32 parts;
  attested = blanks None set.app.parts 32 parts;
  epochs = blanks 0 set.app.links 64 links;
}

nothing_made : Records [] []
nothing_made m short = (λ c. absurd (nowhere (entry_of m) c), λ t. absurd (true≢false (sym t)))
  where
    nowhere : (e : Entry) → Contains [] e → ⊥
    nowhere e c = let lt = c.1 in absurd (omega (arith, lt))

all_placed : (set : Setting) → ArePlaced (nodes_from set 0 set.keys)
all_placed set n s e = let r = get_nodes set 0 set.keys n s e in subst (λ (z : State). Placed z.sections) (sym r.1) starts_placed

-- such a world is where no line was acted
pub stands_first : (set : Setting) (held : Held) (nodes : List State) (deployer : Keeping) (targets : List Known) → length set.app.parts ≤ 32 → length set.app.links ≤ 64
    → targets ≡ targets_from set 0 set.sites → held.performed ≡ 0 → held.running ≡ record { nodes = nodes; packets = []; deployer = deployer; ledger = []; recognized = none_recognized; steps = 0 }
    → nodes ≡ nodes_from set 0 set.keys → deployer ≡ first set.secret targets → Stands set held (switched_on set)
stands_first set held nodes deployer targets parts links et el er en ed = record {
  lines = [];
  formed = tt;
  count = sym el;
  steps = omega arith;
  is = refl;
  shows = subst (λ (k : Running). Shows set k (switched_on set)) (sym er) (record {
    nodes = en;
    packets = refl;
    deployer = subst (λ (k : Keeping). IsKept set k (switched_on set).deployer) (sym ed) (first_kept set set.secret targets parts links refl et);
    ledger = nothing_made;
    steps = refl;
    placed = all_placed set;
    recognized = first_recognized set.sites (nodes_from set 0 set.keys) (all_placed set);
  });
}
