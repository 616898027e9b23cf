-- Judging an answer, and the grants after it, as the code computes them from what the deployer
-- keeps. Nobody has to believe these forms: lemmas show that they say what the definitions say.
use Rattle.std.specs.Prelude.{ℕ, ◌+◌, ◌==◌, nat_lt, if◌then◌else◌, List, [], ◌∷◌, ◌++◌, Option}
use Rattle.std.specs.Prelude.{Some, None}
use Rattle.std.specs.Option.{option_to_list}
use Rattle.sx_lang.specs.declared.sides.Side.TheVariants.{From, To}
use Rattle.sx_mean.specs.declared.apps.Link.{Link}
use Rattle.sx_mean.specs.declared.events.End.{End}
use Rattle.sx_mean.specs.Ends.{sending, receiving}
use Rattle.sx_tag.specs.Mac.{Mac}
use Rattle.sx_trace.specs.declared.items.Item.TheVariants.{Attested}
use Rattle.sx_ledger.specs.declared.entry.Maker.TheVariants as maker
use Rattle.sx_deployer.specs.Keeping.{Keeping, open_ask, attested_at, accepts, judged}
use Rattle.spec_run.specs.Setting.{Setting}
use Rattle.spec_run.specs.Ledger.{made_entry, is_made}
use Rattle.sx_ledger.specs.Made.{NO_TARGET}
use Rattle.sx_deployer.specs.Granting.{Grant, grant, grants_of, grants_after}
use Rattle.spec_run.specs.State.{World, Acted}
use Rattle.spec_run.specs.Observation.{unless_made}
use Rattle.spec_run.specs.Acts.{then_, keys_given}

-- the boot at which the k-th of this many modules was last attested, if it was
abbrev pub boot_in : Keeping → ℕ → ℕ → Option ℕ
boot_in d parts k = if nat_lt k parts then attested_at d k else None

-- for an end of a module that was last attested at a boot, if it was
abbrev pub grant_if_any : List ℕ → ℕ → End → Option ℕ → Option Grant
grant_if_any epochs k e None = None
grant_if_any epochs k e (Some boot) = Some (grant epochs k boot e)

-- for a module's ends of the n-th connection
abbrev pub own_at : List ℕ → ℕ → ℕ → ℕ → Link → List Grant
own_at epochs m boot n l = grants_of epochs m boot (option_to_list (sending n m l))
    ++ grants_of epochs m boot (option_to_list (receiving n m l))

-- for its ends of the connections from the n-th on
abbrev pub own_from : List ℕ → ℕ → ℕ → ℕ → List Link → List Grant
own_from epochs m boot n [] = []
own_from epochs m boot n (l ∷ ls) = own_at epochs m boot n l ++ own_from epochs m boot (n + 1) ls

-- for the end of the n-th connection that is in another module
abbrev pub across_at : Keeping → ℕ → ℕ → ℕ → Link → Option Grant
across_at d parts m n l =
    if l.from == l.to then None
    else if l.from == m then grant_if_any d.state.epochs l.to
    (record { link = n; side = To; port = l.input }) (boot_in d parts l.to)
    else if l.to == m then grant_if_any d.state.epochs l.from
    (record { link = n; side = From; port = l.output }) (boot_in d parts l.from)
    else None

-- for such ends of the connections from the n-th on
abbrev pub across_from : Keeping → ℕ → ℕ → ℕ → List Link → List Grant
across_from d parts m n [] = []
across_from d parts m n (l ∷ ls) =
    option_to_list (across_at d parts m n l) ++ across_from d parts m (n + 1) ls

-- after the answer of a module that was last attested at a boot, if any
abbrev pub granted : Keeping → ℕ → List Link → ℕ → ℕ → Option ℕ → List Grant
granted d parts links m boot None = own_from d.state.epochs m boot 0 links
granted d parts links m boot (Some last) =
    own_from d.state.epochs m boot 0 links ++ across_from d parts m 0 links

-- the open ask that a packet, if there is one, answers
abbrev pub accepted_ask : Mac → Keeping → ℕ → ℕ → Option (List ℕ) → Option (List ℕ)
accepted_ask mac d m boot None = None
accepted_ask mac d m boot (Some answer) = if accepts mac d m boot answer then open_ask d m else None

-- the deployer after it
abbrev pub judged_by : Mac → Keeping → ℕ → ℕ → Option (List ℕ) → Keeping
judged_by mac d m boot None = d
judged_by mac d m boot (Some answer) = judged mac d m boot answer

-- what follows in a world whose deployer has accepted the answer
abbrev pub confirmed : Setting → ℕ → ℕ → List ℕ → Option ℕ → World → Acted
confirmed set m boot ask last w =
    then_ (record {
      world = w;
      items = unless_made None (is_made w.ledger (made_entry (maker.Module m) NO_TARGET boot ask
          [])) (Attested m boot);
    }) (keys_given set (grants_after set.app w.deployer m boot last))
