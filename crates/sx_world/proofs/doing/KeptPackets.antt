-- Packets that are kept, and what is given of them.
use Rattle.std.proofs.Common.{◌≡◌, ℕ, ◌<◌, ◌≤◌, List, [], ◌∷◌, ◌++◌, length, map, get_or, Some, None, Result, Ok, Err, OnOk, OnErr, sym, subst, ap, ◌∙◌}
use Rattle.std.specs.Prelude.{slice_get}
use Rattle.std.proofs.lemmas.Option.{slice_get-map, slice_get-get_or, slice_get_past, get_or_from_slice_get}
use Rattle.std.specs.Option.{option_map}
use Rattle.sx_trace.specs.declared.items.Item.{Item}
use Rattle.sx_trace.specs.declared.items.Item.TheVariants.{Packet, Skip}
use Rattle.spec_run.specs.Setting.{Setting}
use Rattle.spec_machine.specs.declared.kinds.Refused.{Refused}
use Rattle.spec_machine.specs.State.{State}
use Rattle.spec_machine.specs.Acts.{take}
use Rattle.spec_run.specs.Acts.{at_node, refused_item, after_take, new_packet}
use Rattle.spec_run.specs.Run.{give, put_on}
use Rattle.spec_run.specs.State.{World, Acted}
use Rattle.sx_world.specs.Held.{Running, Shows, Did, DoesAct}
use Rattle.sx_world.proofs.doing.Composed.{does_same}
use Rattle.sx_observe.proofs.Fronts.{front_same}

-- what is kept, with other packets
abbrev pub with_packets : Running → List (List ℕ) → Running
with_packets h packets = record { nodes = h.nodes; packets = packets; deployer = h.deployer; ledger = h.ledger; recognized = h.recognized; steps = h.steps }

-- packets in memory, each with the bytes in it
module _ {X : Type 0} (bytes_in : X → List ℕ) where
  pub packet_found : (xs lent : List X) (packets : List (List ℕ)) (k : ℕ) (v : X) → map bytes_in xs ≡ packets → lent ≡ xs → k < length lent → v ≡ get_or lent k v
      → slice_get packets k ≡ Some (bytes_in v)
  packet_found xs lent packets k v e same lt here =
      ap (λ ps. slice_get ps k) (sym e) ∙ slice_get-map bytes_in xs k
      ∙ ap (option_map bytes_in) (ap (λ l. slice_get l k) (sym same) ∙ slice_get-get_or lent k v lt ∙ ap (λ x. Some x) (sym here))

  pub packet_none : (xs lent : List X) (packets : List (List ℕ)) (k : ℕ) → map bytes_in xs ≡ packets → lent ≡ xs → length lent ≤ k → slice_get packets k ≡ None
  packet_none xs lent packets k e same le =
      ap (λ ps. slice_get ps k) (sym e) ∙ slice_get-map bytes_in xs k ∙ ap (option_map bytes_in) (ap (λ l. slice_get l k) (sym same) ∙ slice_get_past lent k le)

-- a packet that is there is put
pub give_did : {T E : Type 0} (r : Result T E) (old new : Running) (before after : List Item) (n at k : ℕ) (bytes : List ℕ) → slice_get old.packets k ≡ Some bytes
    → OnOk r ((set : Setting) → Did set old new before after (put_on n at bytes)) → OnOk r ((set : Setting) → Did set old new before after (λ w. give w n at (slice_get w.packets k)))
give_did (Ok x) old new before after n at k bytes found f = λ set w h.
    subst (λ o. Shows set new (give w n at o).world × (after ≡ before ++ (give w n at o).items)) (sym (ap (λ ps. slice_get ps k) (sym h.packets) ∙ found)) (f set w h)
give_did (Err x) old new before after n at k bytes found f = tt

-- no packet is there
pub give_none : {T E : Type 0} (r : Result T E) (old : Running) (before after : List Item) (n at k : ℕ) → slice_get old.packets k ≡ None
    → OnOk r (after ≡ before ++ Skip n ∷ []) → OnOk r ((set : Setting) → Did set old old before after (λ w. give w n at (slice_get w.packets k)))
give_none (Ok x) old before after n at k found e = λ set w h.
    subst (λ o. Shows set old (give w n at o).world × (after ≡ before ++ (give w n at o).items)) (sym (ap (λ ps. slice_get ps k) (sym h.packets) ∙ found)) (h, e)
give_none (Err x) old before after n at k found e = tt

-- a new packet is kept
pub packet_does : {T E : Type 0} (set : Setting) (r : Result T E) (old : Running) (packets : List (List ℕ)) (before after : List Item) (bytes : List ℕ) (number : ℕ)
    → number ≡ length old.packets → OnOk r (packets ≡ old.packets ++ bytes ∷ []) → OnOk r (after ≡ before ++ Packet number (length bytes) ∷ []) → OnErr r (after ≡ before)
    → DoesAct set r old (with_packets old packets) before after (λ w. new_packet w bytes)
packet_does set (Ok x) old packets before after bytes number count e added none = λ w h. (
  record {
    nodes = h.nodes;
    packets = e ∙ ap (λ ps. ps ++ bytes ∷ []) h.packets;
    deployer = h.deployer;
    ledger = h.ledger;
    steps = h.steps;
    placed = h.placed;
    recognized = h.recognized;
  },
  added ∙ ap (λ k. before ++ Packet k (length bytes) ∷ []) (count ∙ ap length h.packets),
)
packet_does set (Err x) old packets before after bytes number count e added none = λ w h. front_same after before _ none

-- bytes that were taken are a new packet
pub took_does : {T E : Type 0} (set : Setting) (r : Result T E) (old new : Running) (before after : List Item) (n at len : ℕ) (bytes : List ℕ) (s : State)
    → slice_get old.nodes n ≡ Some s → (take s at len).shown ≡ Ok bytes
    → DoesAct set r old new before after (λ w. new_packet w bytes)
    → DoesAct set r old new before after (λ w. at_node w (λ s. after_take w n (take s at len).shown) (slice_get w.nodes n))
took_does set r old new before after n at len bytes s here shown does =
    let taken : World → State → Acted = λ w s. after_take w n (take s at len).shown in
    does_same set r old new before after (λ w. new_packet w bytes) (λ w. at_node w (taken w) (slice_get w.nodes n))
    (λ w h. ap (λ o. after_take w n o) (sym shown) ∙ ap (λ o. at_node w (taken w) o) (sym (ap (λ ns. slice_get ns n) (sym h.nodes) ∙ here)))
    does

pub took_refused : {T E : Type 0} (r : Result T E) (old : Running) (before after : List Item) (n at len : ℕ) (why : Refused) (s : State)
    → slice_get old.nodes n ≡ Some s → (take s at len).shown ≡ Err why
    → OnOk r (after ≡ before ++ refused_item n why ∷ [])
    → OnOk r ((set : Setting) → Did set old old before after (λ w. at_node w (λ s. after_take w n (take s at len).shown) (slice_get w.nodes n)))
took_refused (Ok x) old before after n at len why s here shown e = λ set w h.
    subst (λ o. Shows set old (at_node w (λ s. after_take w n (take s at len).shown) o).world × (after ≡ before ++ (at_node w (λ s. after_take w n (take s at len).shown) o).items))
    (sym (ap (λ ns. slice_get ns n) (sym h.nodes) ∙ here))
    (subst (λ o. Shows set old (after_take w n o).world × (after ≡ before ++ (after_take w n o).items)) (sym shown) (h, e))
took_refused (Err x) old before after n at len why s here shown e = tt

-- the node at a place
pub node_at : (nodes : List State) (n i : ℕ) (s node : State) → slice_get nodes n ≡ Some s → i ≡ n → node ≡ get_or nodes i node → node ≡ s
node_at nodes n i s node here same e = e ∙ ap (λ k. get_or nodes k node) same ∙ get_or_from_slice_get nodes n s node here
