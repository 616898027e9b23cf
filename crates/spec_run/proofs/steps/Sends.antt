-- What a handler's acts do to a module's state and the out-window is what they do in the source.
use Rattle.std.proofs.Common.{◌≡◌, ℕ, zero, suc, ◌+◌, ◌*◌, ◌≤◌, inl, inr, ◌==◌, ◌&&◌}
use Rattle.std.proofs.Common.{Bool, true, false, if◌then◌else◌, List, [], ◌∷◌, ◌++◌, length, Option}
use Rattle.std.proofs.Common.{Some, None, Result, Ok, Err, refl, sym, ◌∙◌, ap, subst, arith}
use Rattle.std.specs.Prelude.{slice_get, slice_set, is_some, nat_lt}
use Rattle.std.proofs.lemmas.List.{append-nil, append_assoc, length-append}
use Rattle.sx_lang.specs.declared.sides.Side.{Side}
use Rattle.sx_lang.specs.declared.sides.Side.TheVariants.{From, To}
use Rattle.sx_mean.specs.declared.events.End.{End}
use Rattle.sx_mean.specs.declared.events.Act.{Act}
use Rattle.sx_mean.specs.declared.events.Act.TheVariants.{Send, Emit}
use Rattle.sx_rules.specs.declared.access.Violation.{Violation}
use Rattle.sx_bus.specs.declared.devices.Window.{Window}
use Rattle.spec_invocation.specs.Setup.{Setup, Call}
use Rattle.spec_invocation.specs.ModuleState.{EndState, ModuleState, end_of, with_end, epoch_of, link_of}
use Rattle.spec_invocation.specs.Marks.{Mark, Wrapped, Actuated}
use Rattle.spec_invocation.specs.Windows.{two, write_bytes}
use Rattle.spec_invocation.specs.Progress.{Progress, Course, Going, Broken, and_on, finished, marks_in}
use Rattle.spec_invocation.specs.Acts.{copied_to, with_piece, event_header, wrap_counted, event_packet, with_packet, with_packets, own_window, actuated, with_acts}
use Rattle.sx_mean.specs.Ends.{is_sending}
use Rattle.sx_mean.specs.Application.{PartTree, AppTree}
use Rattle.sx_mean.specs.Ends.{ends_of}
use Rattle.sx_model.specs.State.{EndView}
use Rattle.sx_model.specs.Reaction.{Flow, MOST_SENT, field_at, field_of, sent_over, sends, sent_to}
use Rattle.sx_model.specs.Changes.{is_from}
use Rattle.sx_model.specs.order.Reaction.{sent_first, from_emit, flowing}
use Rattle.spec_run.specs.Setting.{device_number}
use Rattle.sx_wire.specs.Headers.{last_in, value_in}
use Rattle.spec_run.specs.Observation.{sender_of}
use Rattle.spec_run.proofs.tie.Lists.{get_other, get_end, get_before}
use Rattle.spec_run.proofs.tie.Ends.{has_link, EndOf, epoch_open, epoch_closed}
use Rattle.spec_run.proofs.tie.Flows.{Flows, flows_on, flows_to, flows_first, AllSending}
use Rattle.spec_run.proofs.tie.Unique.{Distinct, distinct}
use Rattle.spec_run.proofs.tie.Frames.{ends_frame}
use Rattle.spec_run.proofs.tie.Tied.{HasLength, Counts, SameEnd, SameEnds, WasSent, Settles, HasEnd}
use Rattle.lemmas.proofs.Lists.{get_same}
use Rattle.lemmas.proofs.Numbers.{two_bytes}

-- an end and what the source knows of it, at one place
abbrev pub PlaceAt : List End → List EndView → ℕ → End → EndView → Type 0
PlaceAt [] vs k e v = ⊥
PlaceAt (x ∷ es) [] k e v = ⊥
PlaceAt (x ∷ es) (w ∷ vs) zero e v = (x ≡ e) × (w ≡ v)
PlaceAt (x ∷ es) (w ∷ vs) (suc k) e v = PlaceAt es vs k e v

same_at : (es : List End) (xs : List EndState) (vs : List EndView) (sent : List (List ℕ)) (k : ℕ) (e : End) (v : EndView)
    → SameEnds es xs vs sent → PlaceAt es vs k e v → SameEnd e (end_of xs k) v sent
same_at [] xs vs sent k e v h p = absurd p
same_at (y ∷ es) [] vs sent k e v h p = absurd h
same_at (y ∷ es) (x ∷ xs) [] sent k e v h p = absurd h
same_at (y ∷ es) (x ∷ xs) (w ∷ vs) sent zero e v h p = subst (λ z. SameEnd z x v sent) p.0 (subst (λ z. SameEnd y x z sent) p.1 h.0)
same_at (y ∷ es) (x ∷ xs) (w ∷ vs) sent (suc k) e v h p = same_at es xs vs sent k e v h.1 p

has_at : (es : List End) (vs : List EndView) (k : ℕ) (e : End) (v : EndView) → PlaceAt es vs k e v → HasEnd es e
has_at [] vs k e v p = absurd p
has_at (x ∷ es) [] k e v p = absurd p
has_at (x ∷ es) (w ∷ vs) zero e v p = inl p.0
has_at (x ∷ es) (w ∷ vs) (suc k) e v p = inr (has_at es vs k e v p)

abbrev numbered : EndState → EndState
numbered x = record x { number = x.number + 1 }

abbrev longer : List (List ℕ) → ℕ → List ℕ → ℕ → List (List ℕ)
longer sent link words v = slice_set sent link (words ++ v ∷ [])

counts_longer : (side : Side) (x : EndState) (view : EndView) (sent : List (List ℕ)) (v : ℕ) (words : List ℕ)
    → side ≡ From → slice_get sent x.field ≡ Some words → Counts side x view (slice_get sent x.field)
    → Counts side (numbered x) view (slice_get (longer sent x.field words v) x.field)
counts_longer side x view sent v words f there h =
    let n : length words ≡ x.number = subst (λ o. HasLength o x.number) there (subst (λ t. Counts t x view (slice_get sent x.field)) f h) in
    subst (λ t. Counts t (numbered x) view (slice_get (longer sent x.field words v) x.field)) (sym f)
    (subst (λ o. HasLength o (x.number + 1)) (sym (get_same sent x.field (words ++ v ∷ []) words there)) (length-append words (v ∷ []) ∙ ap (λ k. k + 1) n))

counted_at : (es : List End) (xs : List EndState) (vs : List EndView) (sent : List (List ℕ)) (k v : ℕ) (e : End) (view : EndView) (words : List ℕ)
    → Distinct es → SameEnds es xs vs sent → PlaceAt es vs k e view
    → e.side ≡ From → (end_of xs k).is_open ≡ true → link_of (end_of xs k).field ≡ e.link → slice_get sent (end_of xs k).field ≡ Some words
    → SameEnds es (with_end xs k (numbered (end_of xs k))) vs (longer sent (end_of xs k).field words v)
counted_at [] xs vs sent k v e view words d h p f o le there = absurd p
counted_at (y ∷ es) [] vs sent k v e view words d h p f o le there = absurd h
counted_at (y ∷ es) (x ∷ xs) [] sent k v e view words d h p f o le there = absurd h
counted_at (y ∷ es) (x ∷ xs) (w ∷ vs) sent zero v e view words d h p f o le there =
    let fy : y.side ≡ From = ap (λ (z : End). z.side) p.0 ∙ f in
    let ly : y.link ≡ e.link = ap (λ (z : End). z.link) p.0 in (
      record { epoch = h.0.epoch; field = h.0.field; counts = λ g. counts_longer y.side x w sent v words fy there (h.0.counts g) },
      ends_frame es xs vs sent (longer sent x.field words v) (λ z has s i iz. get_other sent x.field i (words ++ v ∷ []) (λ same. d.0 z has (sym iz ∙ ap link_of same ∙ le ∙ sym ly, s ∙ sym fy))) h.1,
    )
counted_at (y ∷ es) (x ∷ xs) (w ∷ vs) sent (suc k) v e view words d h p f o le there = (
  record {
    epoch = h.0.epoch;
    field = h.0.field;
    counts = λ g. counts_other y.side x w sent (end_of xs k).field v words
        (λ s same. d.0 e (has_at es vs k e view p) (sym le ∙ ap link_of (sym same) ∙ h.0.field g, f ∙ sym s)) (h.0.counts g);
  },
  counted_at es xs vs sent k v e view words d.1 h.1 p f o le there,
)
  where
    counts_other : (side : Side) (x : EndState) (w : EndView) (sent : List (List ℕ)) (place v : ℕ) (words : List ℕ) → (side ≡ From → x.field ≡ place → ⊥) → Counts side x w (slice_get sent x.field)
        → Counts side x w (slice_get (longer sent place words v) x.field)
    counts_other From x w sent place v words ne h = subst (λ o. HasLength o x.number) (sym (get_other sent place x.field (words ++ v ∷ []) (λ e. ne refl e))) h
    counts_other To x w sent place v words ne h = h

all_unit : (es : List End) (vs : List EndView) → AllSending (λ c. Unit {0}) es vs
all_unit [] vs = tt
all_unit (e ∷ es) [] = tt
all_unit (e ∷ es) (v ∷ vs) = (λ s o. tt, all_unit es vs)

abbrev Any : ℕ → Type 0
Any c = Unit {0}

sends_as : (output : ℕ) (e : End) (view : EndView) → e.side ≡ From → sends output e view ≡ ((e.port == output) && is_some view.epoch)
sends_as output e view f = ap (λ s. is_from s && ((e.port == output) && is_some view.epoch)) f

sending_as : (output : ℕ) (side : Side) (port : ℕ) → side ≡ From → is_sending output side port ≡ (port == output)
sending_as output side port f = ap (λ s. is_sending output s port) f

and_on_on : (c : Course) (f g : Progress → Course) → and_on (and_on c f) g ≡ and_on c (λ p. and_on (f p) g)
and_on_on (Going p) f g = refl
and_on_on (Broken v p) f g = refl

-- as long
abbrev pub SameSize : List End → List EndView → Type 0
SameSize [] [] = Unit {0}
SameSize [] (v ∷ vs) = ⊥
SameSize (e ∷ es) [] = ⊥
SameSize (e ∷ es) (v ∷ vs) = SameSize es vs

pub same_size : (es : List End) (xs : List EndState) (vs : List EndView) (sent : List (List ℕ)) → SameEnds es xs vs sent → SameSize es vs
same_size [] [] [] sent h = tt
same_size [] [] (v ∷ vs) sent h = h
same_size [] (x ∷ xs) vs sent h = absurd h
same_size (e ∷ es) [] vs sent h = absurd h
same_size (e ∷ es) (x ∷ xs) [] sent h = h
same_size (e ∷ es) (x ∷ xs) (v ∷ vs) sent h = same_size es xs vs sent h.1

-- an emit is of a module that drives the device at the start of its private section
abbrev pub Emits : AppTree → ℕ → PartTree → Setup → List Window → List Act → Type 0
Emits app n q s devices [] = Unit {0}
Emits app n q s devices (Send output v ∷ acts) = Emits app n q s devices acts
Emits app n q s devices (Emit v ∷ acts) = ((k : ℕ) × (w : Window) × (own_window s devices ≡ Some (k, w)) × (q.device ≡ Some (device_number app n k))) × Emits app n q s devices acts

module _ (app : AppTree) (m n : ℕ) (q : PartTree) (s : Setup) (c : Call) (cells : List ℕ) (views : List EndView) (few : length app.links ≤ 256)
    (final : List (List ℕ)) (pieces : ℕ) (devices : List Window) where
  abbrev es : List End
  es = ends_of app m

  -- the module is as the source has it, while its acts are done
  pub record Stand (p : Progress) (f : Flow) : Type 0 where
    pub ends : SameEnds es p.state.ends views f.sent
    pub count : length p.pieces ≡ f.pieces
    pub kept : p.state.cells ≡ cells
    pub beside : p.devices ≡ devices

  -- the rest of the acts does what is owed
  abbrev DoesOwed : Course → List Act → List Mark → Type 0
  DoesOwed course emits before =
      (ms : List Mark) × (marks_in (finished course) ≡ before ++ ms) × Settles app n m q.device cells views final pieces (finished course) ms emits

  -- a word that was just sent is in what is sent in the end
  was_sent : (e : End) (x : EndState) (v : ℕ) (f : Flow) (words : List ℕ) → HasEnd es e → e.side ≡ From → link_of x.field ≡ e.link → slice_get f.sent x.field ≡ Some words → length words ≡ x.number
      → Flows Any (longer f.sent x.field words v) final → WasSent app m final (event_header x) (two v)
  was_sent e x v f words has side fe there n flows =
      let l = has_link 0 m app.links e has in
      let at : l.place ≡ e.link = sym (omega (arith, l.at)) in
      let link_there : slice_get app.links e.link ≡ Some l.link = subst (λ k. slice_get app.links k ≡ Some l.link) at l.there in
      let g = flows.grown x.field (words ++ v ∷ []) (get_same f.sent x.field (words ++ v ∷ []) words there) in
      let last : last_in (event_header x) ≡ length words = two_bytes x.number ∙ sym n in
      record {
        sender = ap (λ k. sender_of app k) fe ∙ ap Rattle.spec_run.specs.Observation.from_of link_there ∙ (subst (λ t. EndOf m t e.port l.link) side l.ends).0;
        words = (words ++ v ∷ []) ++ g.0;
        there = subst (λ k. slice_get final k ≡ Some ((words ++ v ∷ []) ++ g.0)) (sym (two_bytes x.field)) g.1;
        word = subst (λ k. slice_get ((words ++ v ∷ []) ++ g.0) k ≡ Some (value_in (two v))) (sym last)
            (get_before (words ++ v ∷ []) g.0 (length words) (value_in (two v)) (get_end words v ∙ ap Some (sym (two_bytes v))));
      }

  abbrev sealed : EndState → ℕ → Mark
  sealed x v = Wrapped (event_header x) (two v) false

  -- a copy, and then the rest
  copy_owed : (r : Result (List ℕ) Violation) (k v : ℕ) (piece : List ℕ) (p : Progress) (f : Flow) (emits : List Act) (rest : Progress → Course) (x : EndState)
      → WasSent app m final (event_header x) (two v)
      → ((p1 : Progress) → p1.state ≡ (wrap_counted k x v p).state → p1.pieces ≡ p.pieces ++ piece ∷ [] → p1.devices ≡ p.devices → DoesOwed (rest p1) emits p1.marks)
      → DoesOwed (and_on (copied_to r (record (wrap_counted k x v p) { pieces = p.pieces ++ piece ∷ [] })) rest) emits p.marks
  copy_owed (Ok mem) k v piece p f emits rest x was on =
      let h = on (record (record (wrap_counted k x v p) { pieces = p.pieces ++ piece ∷ [] }) { mem = mem }) refl refl refl in
      (sealed x v ∷ h.0, h.1 ∙ append_assoc p.marks (sealed x v ∷ []) h.0, (refl, refl, was, h.2))
  copy_owed (Err w) k v piece p f emits rest x was on = (sealed x v ∷ [], refl, (refl, refl, was, tt))

  same_pieces : (p : Progress) (piece : List ℕ) (f : Flow) → length p.pieces ≡ f.pieces → length (p.pieces ++ piece ∷ []) ≡ f.pieces + 1
  same_pieces p piece f h = length-append p.pieces (piece ∷ []) ∙ ap (λ k. k + 1) h

  -- a packet for an open end, or none
  abbrev after_packet : End → EndView → ℕ → Flow → Flow
  after_packet e view v f = if is_some view.epoch then sent_over (field_of e view) v (slice_get f.sent (field_of e view)) f else f

  after_some : (e : End) (view : EndView) (v : ℕ) (f : Flow) (place : ℕ) → is_some view.epoch ≡ true → field_of e view ≡ place → after_packet e view v f ≡ sent_over place v (slice_get f.sent place) f
  after_some e view v f place some at = ap (λ t. if t then sent_over (field_of e view) v (slice_get f.sent (field_of e view)) f else f) some ∙ ap (λ k. sent_over k v (slice_get f.sent k) f) at

  whole_field : (field link : ℕ) → link_of field ≡ link → link + 256 * epoch_of field ≡ field
  whole_field field link e = omega (arith, e)

  open_packet : (k v : ℕ) (e : End) (view : EndView) (p : Progress) (f : Flow) (emits : List Act)
      (rest : Progress → Course) (o : Option (List ℕ)) (b : Bool) → PlaceAt es views k e view → e.side ≡ From → Stand p f
      → (end_of p.state.ends k).is_open ≡ true → slice_get f.sent (end_of p.state.ends k).field ≡ o → HasLength o (end_of p.state.ends k).number → nat_lt (end_of p.state.ends k).number 65535 ≡ b
      → Flows Any (sent_over (end_of p.state.ends k).field v o f).sent final
      → ((p1 : Progress) → Stand p1 (sent_over (end_of p.state.ends k).field v o f) → DoesOwed (rest p1) emits p1.marks)
      → DoesOwed (and_on (if b then with_piece s c (event_packet s (end_of p.state.ends k) v) (wrap_counted k (end_of p.state.ends k) v p) else Going p) rest) emits p.marks
  open_packet k v e view p f emits rest None b at side st op there len lt flows on = absurd len
  open_packet k v e view p f emits rest (Some words) true at side st op there len lt flows on =
      let x = end_of p.state.ends k in
      let se = same_at es p.state.ends views f.sent k e view st.ends at in
      let piece = event_packet s x v in
      let room : nat_lt (length words) MOST_SENT ≡ true = subst (λ j. nat_lt j 65535 ≡ true) (sym len) lt in
      let g : Flow = record { sent = longer f.sent (end_of p.state.ends k).field words v; emits = f.emits; pieces = f.pieces + 1 } in
      let over : sent_over (end_of p.state.ends k).field v (Some words) f ≡ g = rw room refl in
      let flows2 : Flows Any (longer f.sent (end_of p.state.ends k).field words v) final = subst (λ (z : Flow). Flows Any z.sent final) over flows in
      copy_owed (write_bytes s p.devices p.mem (c.output + 24 * length p.pieces) piece) k v piece p f emits rest x
      (was_sent e x v f words (has_at es views k e view at) side (se.field op) there len flows2)
      (λ p1 state made same_dev. on p1 (subst (λ (z : Flow). Stand p1 z) (sym over) (record {
        ends = subst (λ (z : ModuleState). SameEnds es z.ends views (longer f.sent (end_of p.state.ends k).field words v))
            (sym state) (counted_at es p.state.ends views f.sent k v e view words (distinct 0 m app.links) st.ends at side op (se.field op) there);
        count = ap length made ∙ same_pieces p piece f st.count;
        kept = ap (λ (z : ModuleState). z.cells) state ∙ st.kept;
        beside = same_dev ∙ st.beside;
      })))
  open_packet k v e view p f emits rest (Some words) false at side st op there len lt flows on =
      let full : nat_lt (length words) MOST_SENT ≡ false = subst (λ j. nat_lt j 65535 ≡ false) (sym len) lt in
      let over : sent_over (end_of p.state.ends k).field v (Some words) f ≡ f = rw full refl in
      on p (subst (λ (z : Flow). Stand p z) (sym over) st)

  packet_owed : (k v : ℕ) (e : End) (view : EndView) (p : Progress) (f : Flow) (emits : List Act) (rest : Progress → Course) (b : Bool) → PlaceAt es views k e view → e.side ≡ From → Stand p f
      → (end_of p.state.ends k).is_open ≡ b
      → Flows Any (after_packet e view v f).sent final
      → ((p1 : Progress) → Stand p1 (after_packet e view v f) → DoesOwed (rest p1) emits p1.marks)
      → DoesOwed (and_on (with_packet s c v k p) rest) emits p.marks
  unfolding with_packet
  packet_owed k v e view p f emits rest true at side st op flows on =
      let se = same_at es p.state.ends views f.sent k e view st.ends at in
      let some : is_some view.epoch ≡ true = ap is_some (se.epoch ∙ epoch_open (end_of p.state.ends k) op) in
      let x = end_of p.state.ends k in
      let len : HasLength (slice_get f.sent x.field) x.number = subst (λ t. Counts t x view (slice_get f.sent x.field)) side (se.counts op) in
      let place : field_of e view ≡ x.field = ap (λ o. field_at e.link o) (se.epoch ∙ epoch_open x op) ∙ whole_field x.field e.link (se.field op) in
      let after : after_packet e view v f ≡ sent_over x.field v (slice_get f.sent x.field) f = after_some e view v f x.field some place in
      subst (λ t. DoesOwed (and_on (if t then with_piece s c (event_packet s x v) (wrap_counted k x v p) else Going p) rest) emits p.marks) (sym (ap (λ t. t && nat_lt x.number 65535) op))
      (open_packet k v e view p f emits rest (slice_get f.sent x.field) (nat_lt (end_of p.state.ends k).number 65535) at side st op refl len refl
      (subst (λ (z : Flow). Flows Any z.sent final) after flows) (λ p1 h. on p1 (subst (λ (z : Flow). Stand p1 z) (sym after) h)))
  packet_owed k v e view p f emits rest false at side st op flows on =
      let se = same_at es p.state.ends views f.sent k e view st.ends at in
      let none : is_some view.epoch ≡ false = ap is_some (se.epoch ∙ epoch_closed (end_of p.state.ends k) op) in
      let after : after_packet e view v f ≡ f = rw none refl in
      let x = end_of p.state.ends k in
      subst (λ t. DoesOwed (and_on (if t then with_piece s c (event_packet s x v) (wrap_counted k x v p) else Going p) rest) emits p.marks) (sym (ap (λ t. t && nat_lt x.number 65535) op))
      (on p (subst (λ (z : Flow). Stand p z) (sym after) st))

  -- the ends from the k-th on
  abbrev Suffix : ℕ → List End → List EndView → Type 0
  Suffix k ends vs = (j : ℕ) (e : End) (v : EndView) → PlaceAt ends vs j e v → PlaceAt es views (k + j) e v

  suffix_on : (k : ℕ) (e : End) (ends : List End) (v : EndView) (vs : List EndView) → Suffix k (e ∷ ends) (v ∷ vs) → Suffix (k + 1) ends vs
  suffix_on k e ends v vs f j x w p = subst (λ i. PlaceAt es views i x w) (omega arith) (f (suc j) x w p)

  -- what follows the k-th end
  abbrev Later : ℕ → ℕ → ℕ → List End → List EndView → List Act → (Progress → Course) → Type 0
  Later output v k ends vs emits rest = (p : Progress) (f : Flow) → Stand p f → Flows Any (sent_to ends vs output v f).sent final
      → ((p1 : Progress) → Stand p1 (sent_to ends vs output v f) → DoesOwed (rest p1) emits p1.marks)
      → DoesOwed (and_on (with_packets s c output v k ends p) rest) emits p.marks

  abbrev sent_by : ℕ → ℕ → End → EndView → Flow → Flow
  sent_by output v e w f = if sends output e w then sent_over (field_of e w) v (slice_get f.sent (field_of e w)) f else f

  no_packet : (output v k : ℕ) (e : End) (ends : List End) (w : EndView) (vs : List EndView) (p : Progress) (f : Flow) (emits : List Act) (rest : Progress → Course)
      → is_sending output e.side e.port ≡ false → sends output e w ≡ false → Later output v (k + 1) ends vs emits rest → Stand p f
      → Flows Any (sent_to (e ∷ ends) (w ∷ vs) output v f).sent final
      → ((p1 : Progress) → Stand p1 (sent_to (e ∷ ends) (w ∷ vs) output v f) → DoesOwed (rest p1) emits p1.marks)
      → DoesOwed (and_on (with_packets s c output v k (e ∷ ends) p) rest) emits p.marks
  no_packet output v k e ends w vs p f emits rest a b ih st flows on =
      let g : sent_by output v e w f ≡ f = ap (λ t. if t then sent_over (field_of e w) v (slice_get f.sent (field_of e w)) f else f) b in
      subst (λ t. DoesOwed (and_on (if t then and_on (with_packet s c v k p) (with_packets s c output v (k + 1) ends) else with_packets s c output v (k + 1) ends p) rest) emits p.marks) (sym a)
      (ih p f st (subst (λ (z : Flow). Flows Any (sent_to ends vs output v z).sent final) g flows)
      (λ p1 h. on p1 (subst (λ (z : Flow). Stand p1 (sent_to ends vs output v z)) (sym g) h)))

  a_packet : (output v k : ℕ) (e : End) (ends : List End) (w : EndView) (vs : List EndView) (p : Progress) (f : Flow) (emits : List Act) (rest : Progress → Course)
      → e.side ≡ From → is_sending output e.side e.port ≡ true → sends output e w ≡ is_some w.epoch → PlaceAt es views k e w → Later output v (k + 1) ends vs emits rest → Stand p f
      → Flows Any (sent_to (e ∷ ends) (w ∷ vs) output v f).sent final
      → ((p1 : Progress) → Stand p1 (sent_to (e ∷ ends) (w ∷ vs) output v f) → DoesOwed (rest p1) emits p1.marks)
      → DoesOwed (and_on (with_packets s c output v k (e ∷ ends) p) rest) emits p.marks
  a_packet output v k e ends w vs p f emits rest side a b at ih st flows on =
      let g : sent_by output v e w f ≡ after_packet e w v f = ap (λ t. if t then sent_over (field_of e w) v (slice_get f.sent (field_of e w)) f else f) b in
      let flows2 : Flows Any (sent_to ends vs output v (after_packet e w v f)).sent final = subst (λ (z : Flow). Flows Any (sent_to ends vs output v z).sent final) g flows in
      subst (λ t. DoesOwed (and_on (if t then and_on (with_packet s c v k p) (with_packets s c output v (k + 1) ends) else with_packets s c output v (k + 1) ends p) rest) emits p.marks) (sym a)
      (subst (λ z. DoesOwed z emits p.marks) (sym (and_on_on (with_packet s c v k p) (with_packets s c output v (k + 1) ends) rest))
      (packet_owed k v e w p f emits (λ p1. and_on (with_packets s c output v (k + 1) ends p1) rest) (end_of p.state.ends k).is_open at side st refl
      (flows_on Any (after_packet e w v f).sent (sent_to ends vs output v (after_packet e w v f)).sent final (flows_to Any ends vs output v (after_packet e w v f) (all_unit ends vs)) flows2)
      (λ p1 h. ih p1 (after_packet e w v f) h flows2 (λ p2 h2. on p2 (subst (λ (z : Flow). Stand p2 (sent_to ends vs output v z)) (sym g) h2)))))

  either_packet : (output v k : ℕ) (e : End) (ends : List End) (w : EndView) (vs : List EndView) (p : Progress) (f : Flow) (emits : List Act) (rest : Progress → Course) (t : Side) (b : Bool)
      → e.side ≡ t → (e.port == output) ≡ b → PlaceAt es views k e w → Later output v (k + 1) ends vs emits rest → Stand p f
      → Flows Any (sent_to (e ∷ ends) (w ∷ vs) output v f).sent final
      → ((p1 : Progress) → Stand p1 (sent_to (e ∷ ends) (w ∷ vs) output v f) → DoesOwed (rest p1) emits p1.marks)
      → DoesOwed (and_on (with_packets s c output v k (e ∷ ends) p) rest) emits p.marks
  either_packet output v k e ends w vs p f emits rest To b side port at ih st flows on =
      no_packet output v k e ends w vs p f emits rest (ap (λ t. is_sending output t e.port) side) (ap (λ t. is_from t && ((e.port == output) && is_some w.epoch)) side) ih st flows on
  either_packet output v k e ends w vs p f emits rest From true side port at ih st flows on =
      a_packet output v k e ends w vs p f emits rest side (sending_as output e.side e.port side ∙ port) (sends_as output e w side ∙ ap (λ t. t && is_some w.epoch) port) at ih st flows on
  either_packet output v k e ends w vs p f emits rest From false side port at ih st flows on =
      no_packet output v k e ends w vs p f emits rest (sending_as output e.side e.port side ∙ port) (sends_as output e w side ∙ ap (λ t. t && is_some w.epoch) port) ih st flows on

  -- a packet for each open sending end of the output
  packets_owed : (output v k : ℕ) (ends : List End) (vs : List EndView) (emits : List Act) (rest : Progress → Course) → SameSize ends vs → Suffix k ends vs → Later output v k ends vs emits rest
  packets_owed output v k [] [] emits rest size suffix p f st flows on = on p st
  packets_owed output v k [] (w ∷ vs) emits rest size suffix p f st flows on = absurd size
  packets_owed output v k (e ∷ ends) [] emits rest size suffix p f st flows on = absurd size
  packets_owed output v k (e ∷ ends) (w ∷ vs) emits rest size suffix p f st flows on =
      either_packet output v k e ends w vs p f emits rest e.side (e.port == output) refl refl (subst (λ i. PlaceAt es views i e w) (omega arith) (suffix 0 e w (refl, refl)))
      (packets_owed output v (k + 1) ends vs emits rest size (suffix_on k e ends w vs suffix)) st flows on

  suffix_all : Suffix 0 es views
  suffix_all j e v p = subst (λ i. PlaceAt es views i e v) (omega arith) p

module _ (app : AppTree) (m n : ℕ) (q : PartTree) (s : Setup) (c : Call) (cells : List ℕ) (views : List EndView) (few : length app.links ≤ 256) (devices : List Window) where
  abbrev all_es : List End
  all_es = ends_of app m

  abbrev Standing : Progress → Flow → Type 0
  Standing p f = (final : List (List ℕ)) (pieces : ℕ) → Stand app m n q s c cells views few final pieces devices p f

  abbrev Owed : Course → List (List ℕ) → ℕ → List Act → List Mark → Type 0
  Owed course sent pieces acts before =
      (ms : List Mark) × (marks_in (finished course) ≡ before ++ ms) × Settles app n m q.device cells views sent pieces (finished course) ms acts

  -- the acts, one after the other
  acts_owed : (ends_same : s.ends ≡ all_es) (acts : List Act) (p : Progress) (f : Flow) → Emits app n q s devices acts → SameSize all_es views → Standing p f
      → Owed (with_acts s c acts p) (sent_first all_es views acts f).sent (sent_first all_es views acts f).pieces (from_emit acts) p.marks
  acts_owed ends_same [] p f em size st =
      let t = st f.sent f.pieces in
      ([], sym (append-nil p.marks), (refl, refl, t.count, record { same = t.kept; each = t.ends }))
  acts_owed ends_same (Emit v ∷ acts) p f em size st =
      let t = st f.sent f.pieces in
      let k = em.0.0 in
      let p1 : Progress = record p { marks = p.marks ++ Actuated k v ∷ [] } in
      let one : actuated v (own_window s p.devices) p ≡ p1 = ap (λ d. actuated v (own_window s d) p) t.beside ∙ ap (λ o. actuated v o p) em.0.2 in
      let h = acts_owed ends_same acts p1 (flowing f.sent f.pieces) em.1 size (λ final pieces. record { ends = t.ends; count = t.count; kept = t.kept; beside = t.beside }) in
      subst (λ (z : Progress). Owed (with_acts s c acts z) f.sent f.pieces (Emit v ∷ acts) p.marks) (sym one)
      (Actuated k v ∷ h.0, h.1 ∙ append_assoc p.marks (Actuated k v ∷ []) h.0, (em.0.3, refl, h.2))
  acts_owed ends_same (Send output v ∷ acts) p f em size st =
      let f1 = sent_to all_es views output v f in
      let g = sent_first all_es views acts f1 in
      let flows : Flows (λ c. Unit {0}) f1.sent g.sent = flows_first (λ c. Unit {0}) all_es views acts f1 (all_unit all_es views) in
      subst (λ z. Owed (and_on (with_packets s c output v 0 z p) (with_acts s c acts)) g.sent g.pieces (from_emit acts) p.marks) (sym ends_same)
      (packets_owed app m n q s c cells views few g.sent g.pieces devices output v 0 all_es views (from_emit acts) (with_acts s c acts) size
      (suffix_all app m n q s c cells views few g.sent g.pieces devices) p f (st g.sent g.pieces) flows
      (λ p1 h. acts_owed ends_same acts p1 f1 em size (λ final pieces. record { ends = h.ends; count = h.count; kept = h.kept; beside = h.beside })))

  -- the acts of an event, from the state in which it finds the module
  pub event_owed : (ends_same : s.ends ≡ all_es) (acts : List Act) (p : Progress) (sent : List (List ℕ))
      → Emits app n q s devices acts → SameEnds all_es p.state.ends views sent → p.pieces ≡ [] → p.state.cells ≡ cells → p.devices ≡ devices
      → (let f = sent_first all_es views acts (flowing sent 0) in Owed (with_acts s c acts p) f.sent f.pieces (from_emit acts) p.marks)
  event_owed ends_same acts p sent em same none kept beside =
      acts_owed ends_same acts p (flowing sent 0) em (same_size all_es p.state.ends views sent same)
      (λ final pieces. record { ends = same; count = ap length none; kept = kept; beside = beside })
