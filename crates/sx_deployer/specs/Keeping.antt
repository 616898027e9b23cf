-- What the code of a deployer keeps, when it accepts an answer, and what that changes: it knows the
-- modules' ends and no application.
use Rattle.std.specs.Prelude.{◌≡◌, ℕ, ◌+◌, ◌==◌, ◌&&◌, nat_lt, nat_le, not, Bool, true, false}
use Rattle.std.specs.Prelude.{if◌then◌else◌, List, [], ◌∷◌, replicate, slice_set, slice_index}
use Rattle.std.specs.Prelude.{get_or, slice_get, Option, Some, None, option_map, unwrap_or}
use Rattle.std.specs.List.{list_any}
use Rattle.sx_lang.specs.declared.sides.Side.TheVariants.{From}
use Rattle.sx_mean.specs.declared.events.End.{End}
use Rattle.sx_tag.specs.Mac.{Mac}
use Rattle.sx_tag.specs.Keys.{module_key}
use Rattle.sx_deployer.specs.Granting.{DeployerState, after_ask, is_answer, set_key}
use Rattle.sx_deployer.specs.declared.deployer.Verdict.{Verdict}
use Rattle.sx_deployer.specs.declared.deployer.Verdict.TheVariants.{Attested, Denied}
use Rattle.sx_deployer.specs.declared.derived.DerivedKey.{DerivedKey}
use Rattle.sx_deployer.specs.declared.target.Target.{Target}

-- a module: its node's key, its provider, its identity, and its ends in order
pub record Known : Type 0 where
  pub node_key : List ℕ
  pub provider : ℕ
  pub identity : List ℕ
  pub ends : List End

-- what contracts see of a target
abbrev pub known : Target → Known
known t = record {
  node_key = t.node_key;
  provider = t.provider;
  identity = t.identity.items;
  ends =
      t.ends.items;
}

-- the secret, the modules, and what it knows of them; it has room for 32 modules and 64 connections
pub record Keeping : Type 0 where
  pub secret : List ℕ
  pub targets : List Known
  pub state : DeployerState

-- nothing was asked yet
abbrev pub first : List ℕ → List Known → Keeping
first secret targets = record {
  secret = secret;
  targets = targets;
  state = record {
    asks = 0;
    open_asks = replicate 32 None;
    attested = replicate 32 None;
    epochs = replicate 64 0;
  };
}

-- the module is asked
abbrev pub asked : Keeping → ℕ → Keeping
asked d m = record d { state = after_ask d.state m }

-- the key of a module at a boot of its node
abbrev pub key_of : Mac → Known → ℕ → List ℕ
key_of mac t boot = module_key mac t.node_key boot t.provider t.identity

-- one of the ends is of this connection
abbrev pub has_link : List End → ℕ → Bool
has_link es c = list_any (λ e. e.link == c) es

-- one of the modules has an end of this connection
abbrev pub is_held : List Known → ℕ → Bool
is_held targets c = list_any (λ t. has_link t.ends c) targets

-- a connection that no module has is in its first epoch
abbrev pub AreFirst : List Known → List ℕ → Type 0
AreFirst targets epochs = (c : ℕ) → is_held targets c ≡ false → slice_index epochs c ≡ 0

-- one of the ends' connections has the last epoch
abbrev pub is_spent : List End → List ℕ → Bool
is_spent es epochs = list_any (λ e. nat_le 255 (slice_index epochs e.link)) es

-- the epoch of the c-th connection after an attestation of a module with these ends
abbrev pub next_epoch : List End → ℕ → ℕ → ℕ
next_epoch es c epoch = if has_link es c then epoch + 1 else epoch

-- the epochs of the connections from c on, with those of the ends' connections raised by one
abbrev pub raised_from : ℕ → List End → List ℕ → List ℕ
raised_from c es [] = []
raised_from c es (epoch ∷ epochs) = next_epoch es c epoch ∷ raised_from (c + 1) es epochs

-- a module with these ends that was last attested at a boot, if any, may be attested at this one
abbrev pub may_attest : List End → List ℕ → Option ℕ → ℕ → Bool
may_attest es epochs None boot = true
may_attest es epochs (Some last) boot = nat_lt last boot && not (is_spent es epochs)

-- a module that was attested before has no connection with the last epoch
abbrev pub IsRenewable : List End → List ℕ → Option ℕ → Type 0
IsRenewable es epochs None = Unit {0}
IsRenewable es epochs (Some last) = is_spent es epochs ≡ false

-- the epochs after it: where the module was attested before, its connections are renewed
abbrev pub renewed : List End → Option ℕ → List ℕ → List ℕ
renewed es None epochs = epochs
renewed es (Some last) epochs = raised_from 0 es epochs

-- a module of which nothing is known
abbrev pub nobody : Known
nobody = record { node_key = []; provider = 0; identity = []; ends = [] }

-- the key that is kept, if any, is the key of its module at its boot
abbrev pub IsDerived : Mac → List Known → Option DerivedKey → Type 0
IsDerived mac targets None = Unit {0}
IsDerived mac targets (Some derived) =
    derived.key ≡ key_of mac (get_or targets derived.«module» nobody) derived.boot

-- the module of this index, its open ask, and the boot at which it was last attested
abbrev pub target_at : Keeping → ℕ → Known
target_at d m = get_or d.targets m nobody

-- a module's open ask
abbrev pub open_ask : Keeping → ℕ → Option (List ℕ)
open_ask d m = get_or d.state.open_asks m None

-- the boot at which a module was last attested
abbrev pub attested_at : Keeping → ℕ → Option ℕ
attested_at d m = get_or d.state.attested m None

-- the answer is accepted from the module at a boot
abbrev pub accepts : Mac → Keeping → ℕ → ℕ → List ℕ → Bool
accepts mac d m boot answer =
    is_answer mac (key_of mac (target_at d m) boot) answer (open_ask d m)
    && may_attest (target_at d m).ends d.state.epochs (attested_at d m) boot

-- acceptance closes the ask, and renews the connections of a module that was attested before
abbrev pub accepted : Keeping → ℕ → ℕ → Keeping
accepted d m boot = record d {
  state = record d.state {
    open_asks = slice_set d.state.open_asks m None;
    attested = slice_set d.state.attested m (Some boot);
    epochs = renewed (target_at d m).ends (attested_at d m) d.state.epochs;
  };
}

-- the deployer after an answer
abbrev pub judged : Mac → Keeping → ℕ → ℕ → List ℕ → Keeping
judged mac d m boot answer = if accepts mac d m boot answer then accepted d m boot else d

-- what it says to the answer
abbrev pub verdict : Mac → Keeping → ℕ → ℕ → List ℕ → Verdict
verdict mac d m boot answer = if accepts mac d m boot answer then Attested else Denied

-- the set-key packet for an end of a module at a boot and in an epoch, where there is the module
abbrev pub packet_for : Mac → Keeping → ℕ → ℕ → End → ℕ → Option (List ℕ)
packet_for mac d m boot e epoch =
    option_map (λ t. set_key mac d.secret (key_of mac t boot) e epoch) (slice_get d.targets m)

-- no end
abbrev pub no_end : End
no_end = record { link = 0; side = From; port = 0 }

-- the set-key packet for the n-th end of a module, at the boot at which it was last attested and in
-- the connection's present epoch
abbrev pub packet_at : Mac → Keeping → ℕ → ℕ → List ℕ
packet_at mac d m n =
    let e = get_or (target_at d m).ends n no_end in
    set_key mac d.secret (key_of mac (target_at d m) (unwrap_or (attested_at d m) 0)) e
    (slice_index d.state.epochs e.link)
