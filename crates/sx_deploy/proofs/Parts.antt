-- The modules of a deployment that is read: they keep the rules, and their numbers are words.
use Rattle.std.proofs.Common.{◌≡◌, ℕ, ◌+◌, List, [], ◌∷◌, map, true, None, Some, Ok, refl, sym, ap, subst}
use Rattle.std.specs.Prelude.{slice_get}
use Rattle.sx_lang.specs.Words.{TreeHasWords}
use Rattle.sx_check.specs.Rules.{first_broken}
use Rattle.spec_grammar.proofs.SpelledWords.{spelled_words}
use Rattle.sx_mean.specs.Application.{PartTree, is_sensor}
use Rattle.sx_mean.specs.Validity.{is_valid}
use Rattle.sx_mean.specs.declared.apps.AppDevice.{AppDevice}
use Rattle.sx_mean.proofs.ValidApplications.{valid_applications}
use Rattle.sx_entries.proofs.Each.{Each}
use Rattle.sx_entries.specs.declared.entries.DeviceEntry.{DeviceEntry}
use Rattle.sx_entries.specs.declared.entries.ModuleEntry.{ModuleEntry}
use Rattle.sx_deploy.specs.Sources.{AreCoded, none_left, each, Coded}
use Rattle.sx_deploy.specs.Ties.{app_device}
use Rattle.sx_deploy.specs.Deployment.{Deployed, part_of}
use Rattle.sx_deploy.specs.Law.{IsDeployedPart}
use Rattle.sx_deploy.proofs.Linked.{each-get}
use Rattle.sx_deploy.proofs.ValidApp.{each-both, each-map}

-- the numbers of the trees that sources spell
pub coded_words : (n : ℕ) (ms : List ModuleEntry) (cs : List Coded) → AreCoded n ms (Ok cs) → Each (λ (c : Coded). TreeHasWords c.tree) cs
coded_words n [] [] none_left = tt
coded_words n [] (c ∷ cs) h = elim h [ ]
coded_words n (m ∷ ms) [] h = elim h [ ]
coded_words n (m ∷ ms) (c ∷ cs) (each h t) = (subst (λ (c : Coded). TreeHasWords c.tree) (sym h.2) (spelled_words m.source h.0 h.1), coded_words (n + 1) ms cs t)

pub sensors_same : (ds : List DeviceEntry) → map (λ (d : DeviceEntry). is_sensor d.kind) ds ≡ map (λ (x : AppDevice). is_sensor x.kind) (map app_device ds)
sensors_same [] = refl
sensors_same (d ∷ ds) = ap (λ r. is_sensor d.kind ∷ r) (sensors_same ds)

-- what is known of each module alone
abbrev IsModule : PartTree → Type 0
IsModule q = (first_broken q.tree ≡ None) × TreeHasWords q.tree

pub are_parts : (d : Deployed) (modules : List Coded) → d.app.parts ≡ map part_of modules → is_valid d.app ≡ true
    → Each (λ (c : Coded). first_broken c.tree ≡ None) modules → Each (λ (c : Coded). TreeHasWords c.tree) modules
    → (p : ℕ) (q : PartTree) → slice_get d.app.parts p ≡ Some q → IsDeployedPart d p q
are_parts d modules same valid checked words p q e =
    let all : Each IsModule (map part_of modules) =
    each-map part_of IsModule modules (each-both (λ (c : Coded). first_broken c.tree ≡ None) (λ (c : Coded). TreeHasWords c.tree)
    (λ (c : Coded). IsModule (part_of c)) (λ c k w. (k, w)) modules checked words) in
    let one = each-get IsModule d.app.parts p q (subst (λ (qs : List PartTree). Each IsModule qs) (sym same) all) e in
    let placed = (valid_applications d.app valid).parts p q e in
    record { checked = one.0; words = one.1; node = placed.node; driven = placed.driven; ends = placed.ends; packets = placed.packets }
