-- Modules whose sources are read one after another.
use Rattle.std.proofs.Common.{◌≡◌, ℕ, ◌+◌, suc, List, [], ◌∷◌, ◌++◌, ◌<◌, ◌≤◌, ◌∙◌, length, drop, get_or, Result, Ok, Err, sym, ap, subst, arith}
use Rattle.std.proofs.Common.{append_assoc, append-nil, length-append, length-drop, drop-cons, add-one}
use Rattle.std.proofs.lemmas.List.{nil_from_length}
use Rattle.sx_entries.specs.Gives.{GivesOne}
use Rattle.sx_entries.specs.declared.fault.DeployFault.{DeployFault}
use Rattle.sx_entries.specs.declared.fault.DeployError.{DeployError}
use Rattle.sx_entries.specs.declared.fault.DeployError.TheVariants.{Fault, OutOfMemory}
use Rattle.sx_entries.specs.declared.entries.ModuleEntry.{ModuleEntry}
use Rattle.sx_deploy.specs.Sources.{AreCoded, none_left, each, later, here, Coded, IsCoded}

-- what is done, before what is to come
abbrev pub front : List Coded → Result (List Coded) DeployFault → Result (List Coded) DeployFault
front done (Ok out) = Ok (done ++ out)
front done (Err f) = Err f

-- whatever the rest becomes, the whole becomes what is done and then that
pub record Begun (modules : List ModuleEntry) (done : List Coded) (rest : List ModuleEntry) : Type 0 where
  pub begun : (r : Result (List Coded) DeployFault) → AreCoded (length done) rest r → AreCoded 0 modules (front done r)

nothing_done : (modules : List ModuleEntry) (r : Result (List Coded) DeployFault) → AreCoded 0 modules r → AreCoded 0 modules (front [] r)
nothing_done modules (Ok out) h = h
nothing_done modules (Err f) h = h

pub begins : (modules : List ModuleEntry) (done : List Coded) → done ≡ [] → Begun modules done modules
begins modules done e = rw e (record { begun = nothing_done modules })

one_more : (done : List Coded) (c : Coded) → length (done ++ c ∷ []) ≡ length done + 1
one_more done c = length-append done (c ∷ [])

next_in : (modules : List ModuleEntry) (i : ℕ) (m : ModuleEntry) → i < length modules → m ≡ get_or modules i m → drop i modules ≡ m ∷ drop (i + 1) modules
next_in modules i m h e = rw (add-one) (drop-cons modules i m h ∙ ap (λ x. x ∷ drop (suc i) modules) (sym e))

pub goes_on : (modules : List ModuleEntry) (i : ℕ) (m : ModuleEntry) (done out : List Coded) (n : ℕ) (c : Coded)
    → Begun modules done (drop i modules) → i < length modules → m ≡ get_or modules i m → n ≡ length done → IsCoded n m (Ok c) → out ≡ done ++ c ∷ []
    → Begun modules out (drop (i + 1) modules)
goes_on modules i m done out n c b k e l h o = rw o (record { begun = go })
  where
    more : List ModuleEntry
    more = drop (i + 1) modules

    whole : Begun modules done (m ∷ more)
    whole = subst (λ r. Begun modules done r) (next_in modules i m k e) b

    go : (r : Result (List Coded) DeployFault) → AreCoded (length (done ++ c ∷ [])) more r → AreCoded 0 modules (front (done ++ c ∷ []) r)
    go (Ok cs) a = rw (append_assoc done (c ∷ []) cs) (whole.begun (Ok (c ∷ cs)) (each (subst (λ (k : ℕ). IsCoded k m (Ok c)) l h) (rw (one_more done c) at a)))
    go (Err f) a = whole.begun (Err f) (later (subst (λ (k : ℕ). IsCoded k m (Ok c)) l h) (rw (one_more done c) at a))

pub ends : (modules : List ModuleEntry) (i : ℕ) (done : List Coded) → Begun modules done (drop i modules) → length modules ≤ i → AreCoded 0 modules (Ok done)
ends modules i done b e = rw (← append-nil done) (b.begun (Ok []) (rw (nil_from_length (drop i modules) (omega (arith, length-drop i modules))) none_left))

-- a module that has no tree, or lack of memory
pub stops : {S T : Type 0} (seen : S → Coded) (seen_all : T → List Coded) (modules : List ModuleEntry) (i : ℕ) (m : ModuleEntry) (done : List Coded) (n : ℕ) (e : DeployError)
    → Begun modules done (drop i modules) → i < length modules → m ≡ get_or modules i m → n ≡ length done → GivesOne seen (Err e) (IsCoded n m) → GivesOne seen_all (Err e) (AreCoded 0 modules)
stops seen seen_all modules i m done n (Fault f) b k q l h = b.begun (Err f) (rw (next_in modules i m k q) (here (subst (λ (k : ℕ). IsCoded k m (Err f)) l h)))
stops seen seen_all modules i m done n OutOfMemory b k q l h = tt
