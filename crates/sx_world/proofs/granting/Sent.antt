-- What the deployer's packets leave of the world that the program shows.
use Rattle.std.proofs.Common.{◌≡◌, ℕ, ◌<◌, List, [], ◌∷◌, ◌++◌, length, Result, Ok, Err, OnOk, OnErr, refl, sym, subst, ap, ◌∙◌}
use Rattle.std.proofs.lemmas.List.{append_assoc}
use Rattle.sx_trace.specs.declared.items.Item.{Item}
use Rattle.sx_trace.specs.declared.items.Item.TheVariants.{Ask, Packet}
use Rattle.sx_ledger.specs.declared.entry.Entry.{Entry}
use Rattle.sx_ledger.specs.Made.{Made}
use Rattle.sx_deployer.specs.Keeping.{Keeping}
use Rattle.sx_deployer.specs.Keeping as keeping
use Rattle.spec_run.specs.Setting.{Setting}
use Rattle.sx_wire.specs.Headers.{ask_packet, challenge_in}
use Rattle.sx_deployer.specs.Granting.{DeployerState, after_ask}
use Rattle.spec_run.specs.State.{World}
use Rattle.spec_run.specs.Acts.{ask, with_deployer, new_packet}
use Rattle.sx_world.specs.Held.{Running, IsKept, Shows, DoesAct}
use Rattle.sx_observe.specs.Observing.{Records}
use Rattle.sx_world.proofs.granting.SameKeys.{asked_kept}
use Rattle.sx_wire.proofs.Numbers.{challenge_same}

-- what is kept, with other packets, another deployer and another ledger
abbrev pub sent : Running → List (List ℕ) → Keeping → List Entry → Running
sent h packets deployer ledger = record { nodes = h.nodes; packets = packets; deployer = deployer; ledger = ledger; recognized = h.recognized; steps = h.steps }

-- the deployer and the ledger changed
pub deployer_shown : (set : Setting) (old : Running) (w : World) (k : Keeping) (d : DeployerState) (entries : List Entry) (ledger : List Made)
    → Shows set old w → IsKept set k d → Records entries ledger → Shows set (sent old old.packets k entries) (with_deployer w d ledger)
deployer_shown set old w k d entries ledger h kept records = record {
  nodes = h.nodes;
  packets = h.packets;
  deployer = kept;
  ledger = records;
  steps = h.steps;
  placed = h.placed;
  recognized = h.recognized;
}

-- a packet came
pub packet_shown : (set : Setting) (old : Running) (w : World) (packets : List (List ℕ)) (bytes sent_bytes : List ℕ)
    → Shows set old w → packets ≡ old.packets ++ bytes ∷ [] → bytes ≡ sent_bytes
    → Shows set (sent old packets old.deployer old.ledger) (new_packet w sent_bytes).world
packet_shown set old w packets bytes sent_bytes h e same = record {
  nodes = h.nodes;
  packets = e ∙ ap (λ (ps : List (List ℕ)). ps ++ bytes ∷ []) h.packets ∙ ap (λ b. w.packets ++ b ∷ []) same;
  deployer = h.deployer;
  ledger = h.ledger;
  steps = h.steps;
  placed = h.placed;
  recognized = h.recognized;
}

-- its item
pub packet_item : (old w : List (List ℕ)) (count : ℕ) (bytes sent_bytes : List ℕ) → old ≡ w → count ≡ length old → bytes ≡ sent_bytes
    → Packet count (length bytes) ≡ Packet (length w) (length sent_bytes)
packet_item old w count bytes sent_bytes e n same =
    ap (λ k. Packet k (length bytes)) (n ∙ ap (λ (ps : List (List ℕ)). length ps) e) ∙ ap (λ b. Packet (length w) (length b)) same

-- the deployer asked a module
pub ask_does : {X E : Type 0} (set : Setting) (r : Result X E) (old : Running) (k : Keeping) (before mid after : List Item) (m count challenge : ℕ) (bytes : List ℕ) (packets : List (List ℕ))
    → old.deployer.state.asks < 4294967295 → k ≡ keeping.asked old.deployer m → bytes ≡ ask_packet old.deployer.state.asks
    → challenge ≡ challenge_in bytes → mid ≡ before ++ Ask m challenge ∷ [] → count ≡ length old.packets
    → OnOk r (packets ≡ old.packets ++ bytes ∷ []) → OnOk r (after ≡ mid ++ Packet count (length bytes) ∷ []) → OnErr r (after ≡ mid)
    → DoesAct set r old (sent old packets k old.ledger) before after (λ w. ask w m)
ask_does set r old k before mid after m count challenge bytes packets small kept b said began n = go r
  where
    same : (w : World) → Shows set old w → bytes ≡ ask_packet w.deployer.asks
    same w h = b ∙ ap ask_packet h.deployer.asks

    front : (w : World) → Shows set old w → mid ≡ before ++ Ask m w.deployer.asks ∷ []
    front w h =
        began ∙ ap (λ a. before ++ Ask m a ∷ []) (said ∙ ap challenge_in (same w h)
        ∙ challenge_same w.deployer.asks (subst (λ a. a < 4294967295) h.deployer.asks small))

    go : {X E : Type 0} (r : Result X E) → OnOk r (packets ≡ old.packets ++ bytes ∷ []) → OnOk r (after ≡ mid ++ Packet count (length bytes) ∷ []) → OnErr r (after ≡ mid)
        → DoesAct set r old (sent old packets k old.ledger) before after (λ w. ask w m)
    go (Ok x) more added none = λ w h.
        let shown = deployer_shown set old w k (after_ask w.deployer m) old.ledger w.ledger h
        (subst (λ (x : Keeping). IsKept set x (after_ask w.deployer m)) (sym kept) (asked_kept set old.deployer w.deployer m h.deployer)) h.ledger in (
          packet_shown set (sent old old.packets k old.ledger) (with_deployer w (after_ask w.deployer m) w.ledger) packets bytes (ask_packet w.deployer.asks) shown more (same w h),
          added ∙ ap (λ (i : List Item). i ++ Packet count (length bytes) ∷ []) (front w h)
              ∙ append_assoc before (Ask m w.deployer.asks ∷ []) (Packet count (length bytes) ∷ [])
              ∙ ap (λ i. before ++ Ask m w.deployer.asks ∷ i ∷ []) (packet_item old.packets w.packets count bytes (ask_packet w.deployer.asks) h.packets n (same w h)),
        )
    go (Err e) more added none = λ w h.
        let p = Packet (length w.packets) (length (ask_packet w.deployer.asks)) in
        (Ask m w.deployer.asks ∷ [], none ∙ front w h, (p ∷ [], refl))
