-- What each rule gave where a text means a deployment.
use Rattle.std.proofs.Common.{◌≡◌, ℕ, List, [], ◌∷◌, ◌++◌, length, map, Option, Some, None, Result, Ok, Err, refl, sym, subst, ap, ◌∙◌, append_assoc, append-nil}
use Rattle.toml.specs.Data.{Members}
use Rattle.sx_entries.specs.Fault.{◌>>=◌, passes}
use Rattle.sx_entries.specs.Stage.{made_after}
use Rattle.sx_entries.specs.declared.fault.DeployFault.{DeployFault}
use Rattle.sx_entries.proofs.Each.{bind-Ok, Each}
use Rattle.sx_entries.specs.Documents.{table_of}
use Rattle.sx_entries.specs.Arrays.{RowLists, rows_of}
use Rattle.sx_entries.specs.Entries.{EntryLists, entries_of}
use Rattle.sx_check.specs.Rules.{first_broken}
use Rattle.sx_check.specs.declared.rules.Rule.{Rule}
use Rattle.sx_mean.specs.declared.apps.Link.{Link}
use Rattle.sx_deploy.specs.declared.placing.Placement.{Placement}
use Rattle.sx_deploy.specs.Counts.{counts_fault}
use Rattle.sx_deploy.specs.Sources.{AreCoded, Coded}
use Rattle.sx_deploy.specs.Checks.{checked_all, checked_nth, unless_broken}
use Rattle.sx_deploy.specs.Ties.{app_device, links_of}
use Rattle.sx_deploy.specs.Places.{placements_of}
use Rattle.sx_deploy.specs.Deployment.{Deployed, arranged, counted_in, deployed, IsFrom, IsRead}

pub record Accepted (d : Deployed) : Type 0 where
  pub table : Members
  pub rows : RowLists
  pub e : EntryLists
  pub modules : List Coded
  pub links : List Link
  pub placements : List Placement
  pub read : rows_of table ≡ Ok rows
  pub named : entries_of rows ≡ Ok e
  pub few : counts_fault e ≡ None
  pub are_coded : AreCoded 0 e.modules (Ok modules)
  pub sound : Each (λ (m : Coded). first_broken m.tree ≡ None) modules
  pub tied : links_of (map app_device e.devices) modules e.links ≡ Ok links
  pub placed : placements_of e.devices links modules ≡ Ok placements
  pub same : arranged e modules links placements ≡ d

pub passes-None : (o : Option DeployFault) (u : Unit {0}) → passes o ≡ Ok u → o ≡ None
passes-None None u h = refl
passes-None (Some f) u h = absurd (cc)

-- a check gives the module back
checked-same : (n : ℕ) (m c : Coded) → checked_nth n m ≡ Ok c → (m ≡ c) × (first_broken m.tree ≡ None)
checked-same n m c h = by_case (first_broken m.tree) refl h
  where
    by_case : (o : Option Rule) → first_broken m.tree ≡ o → unless_broken n m o ≡ Ok c → (m ≡ c) × (first_broken m.tree ≡ None)
    by_case None e i = (cc, e)
    by_case (Some rule) e i = absurd (cc)

all_checked : (done ms out : List Coded) → made_after (λ done m. checked_nth (length done) m) done ms ≡ Ok out → (out ≡ done ++ ms) × Each (λ (m : Coded). first_broken m.tree ≡ None) ms
all_checked done [] out h = let same : done ≡ out = cc in (rw (append-nil done) (sym same), tt)
all_checked done (m ∷ ms) out h =
    let step = bind-Ok (checked_nth (length done) m) (λ c. made_after (λ done m. checked_nth (length done) m) (done ++ c ∷ []) ms) out h in
    let one = checked-same (length done) m step.0 step.1 in
    let rest = all_checked (done ++ step.0 ∷ []) ms out step.2 in
    let front : (done ++ step.0 ∷ []) ++ ms ≡ done ++ m ∷ ms = append_assoc done (step.0 ∷ []) ms ∙ ap (λ c. done ++ c ∷ ms) (sym one.0) in
    (rest.0 ∙ front, (one.1, rest.1))

pub accepted : (text : List ℕ) (d : Deployed) → IsRead text (Ok d) → Accepted d
accepted text d h = by_case (table_of text >>= counted_in) refl h
  where
    by_deployed : (e : EntryLists) → (table_of text >>= counted_in) ≡ Ok e → (c : Result (List Coded) DeployFault) → AreCoded 0 e.modules c → Ok d ≡ (c >>= deployed e) → Accepted d
    by_deployed e q (Err f) a i = absurd (cc)
    by_deployed e q (Ok cs) a i =
        let table = bind-Ok (table_of text) counted_in e q in
        let rows = bind-Ok (rows_of table.0) _ e table.2 in
        let entries = bind-Ok (entries_of rows.0) _ e rows.2 in
        let few = bind-Ok (passes (counts_fault entries.0)) _ e entries.2 in
        let same_entries : entries.0 ≡ e = cc in
        let checked = bind-Ok (checked_all cs) _ d (sym i) in
        let all = all_checked [] cs checked.0 checked.1 in
        let links = bind-Ok (links_of (map app_device e.devices) checked.0 e.links) _ d checked.2 in
        let placements = bind-Ok (placements_of e.devices links.0 checked.0) _ d links.2 in
        let same_deployed : arranged e checked.0 links.0 placements.0 ≡ d = cc in
        record {
          table = table.0;
          rows = rows.0;
          e = e;
          modules = checked.0;
          links = links.0;
          placements = placements.0;
          read = rows.1;
          named = subst (λ (x : EntryLists). entries_of rows.0 ≡ Ok x) same_entries entries.1;
          few = subst (λ (x : EntryLists). counts_fault x ≡ None) same_entries (passes-None _ few.0 few.1);
          are_coded = subst (λ (x : List Coded). AreCoded 0 e.modules (Ok x)) (sym all.0) a;
          sound = subst (λ (x : List Coded). Each (λ (m : Coded). first_broken m.tree ≡ None) x) (sym all.0) all.1;
          tied = links.1;
          placed = placements.1;
          same = same_deployed;
        }

    by_case : (r : Result EntryLists DeployFault) → (table_of text >>= counted_in) ≡ r → IsFrom r (Ok d) → Accepted d
    by_case (Err f) q i = absurd (cc)
    by_case (Ok e) q i = by_deployed e q i.coded i.are_coded i.comes
