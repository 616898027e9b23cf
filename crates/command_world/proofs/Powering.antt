-- The nodes of a deployment, as they are switched on.
use Rattle.std.proofs.Common.{◌≡◌, ◌∙◌, ℕ, ◌+◌, ◌<◌, ◌≤◌, Bool, if◌then◌else◌, List, [], ◌∷◌, ◌++◌, length, drop, get_or, map, refl, sym, ap, subst, append_assoc}
use Rattle.std.proofs.lemmas.Bool.{eq-eqb, ne_eqb}
use Rattle.std.proofs.lemmas.List.{append-nil, drop_all, drop_more}
use Rattle.sx_mean.specs.declared.apps.AppDevice.{AppDevice}
use Rattle.spec_machine.specs.State.{State, power_on}
use Rattle.sx_bus.specs.declared.devices.Kind.{Kind}
use Rattle.sx_bus.specs.Devices.{ArePlaces, places_of, powered_on}
use Rattle.sx_deploy.specs.Deployment.{Deployed}
use Rattle.sx_deploy.specs.Law.{IsSoundDeployment}
use Rattle.spec_run.specs.Setting.{Setting, kind_of, windows_at}
use Rattle.spec_run.specs.State.{nodes_from}
use Rattle.spec_run.proofs.accepted.DeviceWords.{are_places}

places_powered : (xs : List (ℕ × Kind)) → places_of (powered_on xs) ≡ map (λ (x : ℕ × Kind). x.0) xs
places_powered [] = refl
places_powered (x ∷ xs) = ap (λ (ps : List ℕ). x.0 ∷ ps) (places_powered xs)

-- the devices of a node are where devices may be
pub stand_apart : (d : Deployed) (n : ℕ) (xs : List (ℕ × Kind)) → IsSoundDeployment d → xs ≡ windows_at n d.app.devices d.places → ArePlaces (map (λ (x : ℕ × Kind). x.0) xs)
stand_apart d n xs sound e =
    let P : List (ℕ × Kind) → Type 0 = λ ws. ArePlaces (places_of (powered_on ws)) in
    subst ArePlaces (places_powered xs) (subst P (sym e) (are_places d.app.devices d.places sound.few_devices sound.words sound.words_apart n))

-- ---- the devices of a node

windows_left : (n i : ℕ) (ds : List AppDevice) (ats : List ℕ) (x : AppDevice) (at : ℕ) → i < length ds → i < length ats
    → windows_at n (drop i ds) (drop i ats) ≡ windows_at n (get_or ds i x ∷ drop (i + 1) ds) (get_or ats i at ∷ drop (i + 1) ats)
windows_left n i ds ats x at le lt =
    ap (λ (xs : List AppDevice). windows_at n xs (drop i ats)) (drop_more ds i x le) ∙ ap (λ (ys : List ℕ). windows_at n (get_or ds i x ∷ drop (i + 1) ds) ys) (drop_more ats i at lt)

-- the next device is the node's
pub one_window : (n i : ℕ) (ds : List AppDevice) (ats : List ℕ) (x : AppDevice) (at : ℕ) (found new all : List (ℕ × Kind)) → i < length ds → i < length ats
    → (get_or ds i x).node ≡ n → new ≡ found ++ (get_or ats i at, kind_of (get_or ds i x).kind) ∷ [] → found ++ windows_at n (drop i ds) (drop i ats) ≡ all
    → new ++ windows_at n (drop (i + 1) ds) (drop (i + 1) ats) ≡ all
one_window n i ds ats x at found new all le lt own made h =
    let rest = windows_at n (drop (i + 1) ds) (drop (i + 1) ats) in
    let one : ℕ × Kind = (get_or ats i at, kind_of (get_or ds i x).kind) in
    ap (λ (ws : List (ℕ × Kind)). ws ++ rest) made ∙ append_assoc found (one ∷ []) rest
    ∙ ap (λ (b : Bool). found ++ (if b then one ∷ rest else rest)) (sym (eq-eqb (get_or ds i x).node n own))
    ∙ ap (λ (ws : List (ℕ × Kind)). found ++ ws) (sym (windows_left n i ds ats x at le lt)) ∙ h

-- it is another's
pub no_window : (n i : ℕ) (ds : List AppDevice) (ats : List ℕ) (x : AppDevice) (at : ℕ) (found all : List (ℕ × Kind)) → i < length ds → i < length ats
    → ((get_or ds i x).node ≡ n → ⊥) → found ++ windows_at n (drop i ds) (drop i ats) ≡ all → found ++ windows_at n (drop (i + 1) ds) (drop (i + 1) ats) ≡ all
no_window n i ds ats x at found all le lt own h =
    let rest = windows_at n (drop (i + 1) ds) (drop (i + 1) ats) in
    let one : ℕ × Kind = (get_or ats i at, kind_of (get_or ds i x).kind) in
    ap (λ (b : Bool). found ++ (if b then one ∷ rest else rest)) (sym (ne_eqb (get_or ds i x).node n own))
    ∙ ap (λ (ws : List (ℕ × Kind)). found ++ ws) (sym (windows_left n i ds ats x at le lt)) ∙ h

without_places : (n : ℕ) (ds : List AppDevice) → windows_at n ds [] ≡ []
without_places n [] = refl
without_places n (d ∷ ds) = refl

-- no device is left
pub no_devices : (n i : ℕ) (ds : List AppDevice) (ats : List ℕ) → length ds ≤ i → windows_at n (drop i ds) (drop i ats) ≡ []
no_devices n i ds ats h = ap (λ (xs : List AppDevice). windows_at n xs (drop i ats)) (drop_all i ds h)

pub no_places : (n i : ℕ) (ds : List AppDevice) (ats : List ℕ) → length ats ≤ i → windows_at n (drop i ds) (drop i ats) ≡ []
no_places n i ds ats h = ap (λ (ys : List ℕ). windows_at n (drop i ds) ys) (drop_all i ats h) ∙ without_places n (drop i ds)

pub all_windows : (found rest all : List (ℕ × Kind)) → found ++ rest ≡ all → rest ≡ [] → found ≡ all
all_windows found rest all h e = sym (append-nil found) ∙ ap (λ (ws : List (ℕ × Kind)). found ++ ws) (sym e) ∙ h

-- ---- the nodes

pub one_node : (set : Setting) (all nodes new : List State) (node : State) (i : ℕ) (keys : List (List ℕ)) (key : List ℕ) → i < length keys → get_or keys i key ≡ key
    → new ≡ nodes ++ node ∷ [] → node ≡ power_on key (powered_on (windows_at i set.app.devices set.places))
    → nodes ++ nodes_from set i (drop i keys) ≡ all → new ++ nodes_from set (i + 1) (drop (i + 1) keys) ≡ all
one_node set all nodes new node i keys key lt at e made h =
    let left : drop i keys ≡ key ∷ drop (i + 1) keys = drop_more keys i key lt ∙ ap (λ (k : List ℕ). k ∷ drop (i + 1) keys) at in
    let rest = nodes_from set (i + 1) (drop (i + 1) keys) in
    ap (λ (ns : List State). ns ++ rest) e ∙ append_assoc nodes (node ∷ []) rest ∙ ap (λ (s : State). nodes ++ s ∷ rest) made
    ∙ ap (λ (ks : List (List ℕ)). nodes ++ nodes_from set i ks) (sym left) ∙ h
