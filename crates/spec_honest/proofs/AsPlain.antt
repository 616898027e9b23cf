-- An honest run's items look as the plain fold says.
use Rattle.std.proofs.Common.{◌≡◌, ℕ, zero, suc, ◌+◌, ◌-◌, ◌<◌, ◌==◌, ◌&&◌, Bool, true, false, if◌then◌else◌, List, [], ◌∷◌, ◌++◌, length, map, Option, Some}
use Rattle.std.proofs.Common.{None, slice_get, zero-add, refl, sym, ap, ◌∙◌, subst, arith}
use Rattle.std.specs.Prelude.{flat_map, option_map}
use Rattle.std.specs.List.{All, list_all}
use Rattle.std.proofs.lemmas.Bool.{eqb-true}
use Rattle.std.proofs.lemmas.Bool.Decides.{nat_tests}
use Rattle.std.proofs.lemmas.List.Elements.{All-nil, All-cons, All-append, All-head, All-tail}
use Rattle.std.proofs.lemmas.List.{append-nil}
use Rattle.std.proofs.lemmas.Grind.{flat_map-append}
use Rattle.sx_lang.specs.declared.tree.Decl.{Decl}
use Rattle.sx_mean.specs.declared.apps.Link.{Link}
use Rattle.sx_mean.specs.declared.events.Act.{Act}
use Rattle.sx_mean.specs.declared.events.Act.TheVariants.{Send, Emit}
use Rattle.sx_mean.specs.declared.events.End.{End}
use Rattle.sx_mean.specs.declared.events.SourceEvent.{SourceEvent}
use Rattle.sx_mean.specs.declared.events.SourceEvent.TheVariants as event
use Rattle.sx_mean.specs.Application.{AppTree, PartTree, leaves}
use Rattle.sx_mean.specs.Validity.{has_port, is_port, is_valid}
use Rattle.sx_mean.specs.Ends.{ends_of}
use Rattle.sx_mean.specs.Valid.{IsTied}
use Rattle.sx_mean.proofs.ValidApplications.{valid_applications}
use Rattle.sx_trace.specs.declared.items.Item.{Item}
use Rattle.sx_trace.specs.declared.items.Item.TheVariants as item
use Rattle.spec_honest.specs.Plain.{MOST_DELIVERIES, Output, Plain, Sampling, Waiting, act_sends, acts_emit, acts_send, delivers, driver_of, is_still, oldest}
use Rattle.spec_honest.specs.Plain.{over, plain_outputs, plays, reacted, reaction, settles, takes_reading}
use Rattle.spec_honest.specs.Course.{Course, IsHonest, IsSampling, count_over, course_start, delivered, acts_items, open_items, packet_items, packets_so_far}
use Rattle.spec_honest.specs.Course.{part_items, parts_items, played, sensed, settled, words_over}
use Rattle.spec_honest.specs.Told.{is_well, numbered, outputs_of, put_out, taken_by, takes_of}
use Rattle.spec_honest.proofs.Lists.{all-append, found_at, numbered-push, put-outs, told-outs, told-packets, words-append}
use Rattle.spec_honest.proofs.Course.{Keeps, played_keeps, total}
use Rattle.sx_model.specs.State.{contains}

-- a value waits on a connection that is there
abbrev pub IsLinked : AppTree → Waiting → Type 0
IsLinked app w = w.link < length app.links

over_linked : (n p output v : ℕ) (ls : List Link) → All (λ (w : Waiting). w.link < n + length ls) (over n p output v ls)
over_linked n p output v [] = All-nil _
over_linked n p output v (l ∷ ls) = go (leaves p output l)
    (let e : n + 1 + length ls ≡ n + suc (length ls) = omega arith in subst (λ (k : ℕ). All (λ (w : Waiting). w.link < k) (over (n + 1) p output v ls)) e (over_linked (n + 1) p output v ls))
  where
    go : (b : Bool) → All (λ (w : Waiting). w.link < n + suc (length ls)) (over (n + 1) p output v ls)
        → All (λ (w : Waiting). w.link < n + suc (length ls)) (if b then record { link = n; value = v } ∷ over (n + 1) p output v ls else over (n + 1) p output v ls)
    go true more = All-cons (λ (w : Waiting). w.link < n + suc (length ls)) (record { link = n; value = v }) (over (n + 1) p output v ls) (omega arith) more
    go false more = more

pub acts_linked : (app : AppTree) (p : ℕ) (acts : List Act) → All (IsLinked app) (acts_send app.links p acts)
acts_linked app p [] = All-nil _
acts_linked app p (a ∷ acts) = All-append (IsLinked app) (act_sends app.links p a) (acts_send app.links p acts) (one a) (acts_linked app p acts)
  where
    one : (a : Act) → All (IsLinked app) (act_sends app.links p a)
    one (Send output v) = subst (λ (k : ℕ). All (λ (w : Waiting). w.link < k) (over 0 p output v app.links)) (zero-add (length app.links)) (over_linked 0 p output v app.links)
    one (Emit v) = All-nil _

has_part : (ports : Decl → Bool) (qs : List PartTree) (p port : ℕ) → has_port ports qs p port ≡ true → (q : PartTree) × (slice_get qs p ≡ Some q)
has_part ports [] p port h = absurd cc
has_part ports (q ∷ qs) zero port h = (q, refl)
has_part ports (q ∷ qs) (suc p) port h =
    let later : (suc p == 0) ≡ false = grind (arith, nat_tests) in
    let one_less : suc p - 1 ≡ p = omega arith in
    has_part ports qs p port (subst (λ n. has_port ports qs n port ≡ true) one_less (rw later at h))

-- a connection that is there goes to a part that is there
pub record Goes (app : AppTree) (c : ℕ) : Type 0 where
  pub link : Link
  pub there : slice_get app.links c ≡ Some link
  pub part : PartTree
  pub to : slice_get app.parts link.to ≡ Some part

all_at : {X : Type 0} (P : X → Type 0) (xs : List X) (i : ℕ) → All P xs → i < length xs → (x : X) × (slice_get xs i ≡ Some x) × P x
all_at P [] i all h = absurd (omega (arith, h))
all_at P (x ∷ xs) zero all h = (x, refl, All-head P x xs all)
all_at P (x ∷ xs) (suc i) all h = all_at P xs i (All-tail P x xs all) (omega (arith, h))

pub goes : (app : AppTree) (c : ℕ) → is_valid app ≡ true → c < length app.links → Goes app c
goes app c valid within =
    let l = all_at (IsTied app) app.links c (valid_applications app valid).links within in
    let q = has_part (is_port false) app.parts l.0.to l.0.input l.2.input in
    record { link = l.0; there = l.1; part = q.0; to = q.1 }

-- a driver is a part that is there, and drives the device
pub record Drives (app : AppTree) (d p : ℕ) : Type 0 where
  pub part : PartTree
  pub there : slice_get app.parts p ≡ Some part
  pub device : part.device ≡ Some d

pub driver : (app : AppTree) (d p : ℕ) → driver_of app d ≡ Some p → Drives app d p
driver app d p e =
    let f = found_at (λ (q : PartTree). contains q.device d) 0 p app.parts e in
    let is : p ≡ f.place = (let s = f.is in omega arith) in
    record { part = f.found; there = subst (λ k. slice_get app.parts k ≡ Some f.found) (sym is) f.there; device = same f.found.device f.passes }
  where
    same : (o : Option ℕ) → contains o d ≡ true → o ≡ Some d
    same None h = absurd cc
    same (Some e) h = ap (λ (k : ℕ). Some k) (eqb-true e d h)

-- what the items of an event tell, where a packet and the end tell nothing
told_event : {A : Type 0} (tells : Item → List A) (app : AppTree) (p : ℕ) (begins : Item) (number : ℕ) (acts : List Act)
    → ((n len : ℕ) → tells (item.Packet n len) ≡ []) → ((k : ℕ) → tells (item.Done p 1 k) ≡ [])
    → flat_map tells (acts_items app p begins number acts) ≡ tells begins ++ flat_map tells (map (λ v. item.Out p v) (acts_emit acts))
told_event tells app p begins number acts packets ends =
    let k = length (acts_send app.links p acts) in
    let outs = map (λ v. item.Out p v) (acts_emit acts) in
    let rest : flat_map tells (item.Done p 1 k ∷ packet_items number 24 k) ≡ [] = ap (λ zs. zs ++ flat_map tells (packet_items number 24 k)) (ends k) ∙ told-packets tells packets number 24 k in
    ap (λ zs. tells begins ++ zs) (flat_map-append tells outs (item.Done p 1 k ∷ packet_items number 24 k) ∙ ap (λ zs. flat_map tells outs ++ zs) rest ∙ append-nil (flat_map tells outs))

takes_event : (c : ℕ) (app : AppTree) (p : ℕ) (begins : Item) (number : ℕ) (acts : List Act) → takes_of c (acts_items app p begins number acts) ≡ taken_by c begins
takes_event c app p begins number acts =
    told_event (taken_by c) app p begins number acts (λ n len. refl) (λ k. refl)
    ∙ ap (λ zs. taken_by c begins ++ zs) (told-outs (taken_by c) p (λ v. refl) (acts_emit acts)) ∙ append-nil (taken_by c begins)

outs_event : (app : AppTree) (p : ℕ) (begins : Item) (number : ℕ) (acts : List Act) → put_out begins ≡ []
    → outputs_of (acts_items app p begins number acts) ≡ map (λ v. record { part = p; value = v }) (acts_emit acts)
outs_event app p begins number acts quiet =
    told_event put_out app p begins number acts (λ n len. refl) (λ k. refl) ∙ ap (λ zs. zs ++ flat_map put_out (map (λ v. item.Out p v) (acts_emit acts))) quiet ∙ put-outs p (acts_emit acts)

well_packets : (n len k : ℕ) → list_all is_well (packet_items n len k) ≡ true
well_packets n len zero = refl
well_packets n len (suc k) = well_packets (n + 1) len k

well_outs : (p : ℕ) (vs : List ℕ) → list_all is_well (map (λ v. item.Out p v) vs) ≡ true
well_outs p [] = refl
well_outs p (v ∷ vs) = well_outs p vs

well_event : (app : AppTree) (p : ℕ) (begins : Item) (number : ℕ) (acts : List Act) → is_well begins ≡ true → list_all is_well (acts_items app p begins number acts) ≡ true
well_event app p begins number acts h =
    let k = length (acts_send app.links p acts) in
    all-append is_well (begins ∷ []) (map (λ v. item.Out p v) (acts_emit acts) ++ item.Done p 1 k ∷ packet_items number 24 k) (ap (λ b. b && true) h)
    (all-append is_well (map (λ v. item.Out p v) (acts_emit acts)) (item.Done p 1 k ∷ packet_items number 24 k) (well_outs p (acts_emit acts)) (well_packets number 24 k))

-- The set-up.

told_opens : {A : Type 0} (tells : Item → List A) (p : ℕ) → ((e : End) → tells (item.Open p e.link e.side 0) ≡ []) → tells (item.Done p 1 0) ≡ []
    → (es : List End) → flat_map tells (open_items p es) ≡ []
told_opens tells p f g [] = refl
told_opens tells p f g (e ∷ es) = ap (λ zs. zs ++ (tells (item.Done p 1 0) ++ flat_map tells (open_items p es))) (f e) ∙ ap (λ zs. zs ++ flat_map tells (open_items p es)) g ∙ told_opens tells p f g es

takes_part : (c p number : ℕ) (q : PartTree) (es : List End) → takes_of c (part_items p number q es) ≡ []
takes_part c p number q es =
    flat_map-append (taken_by c) (packet_items (number + 2) 38 (length es)) (open_items p es)
    ∙ ap (λ zs. zs ++ flat_map (taken_by c) (open_items p es)) (told-packets (taken_by c) (λ n len. refl) (number + 2) 38 (length es)) ∙ told_opens (taken_by c) p (λ e. refl) refl es

takes_parts : (c : ℕ) (app : AppTree) (p number : ℕ) (qs : List PartTree) → takes_of c (parts_items app p number qs) ≡ []
takes_parts c app p number [] = refl
takes_parts c app p number (q ∷ qs) =
    flat_map-append (taken_by c) (part_items p number q (ends_of app p)) (parts_items app (p + 1) (number + 2 + length (ends_of app p)) qs)
    ∙ ap (λ zs. zs ++ takes_of c (parts_items app (p + 1) (number + 2 + length (ends_of app p)) qs)) (takes_part c p number q (ends_of app p))
    ∙ takes_parts c app (p + 1) (number + 2 + length (ends_of app p)) qs

outs_part : (p number : ℕ) (q : PartTree) (es : List End) → outputs_of (part_items p number q es) ≡ []
outs_part p number q es =
    flat_map-append put_out (packet_items (number + 2) 38 (length es)) (open_items p es)
    ∙ ap (λ zs. zs ++ flat_map put_out (open_items p es)) (told-packets put_out (λ n len. refl) (number + 2) 38 (length es)) ∙ told_opens put_out p (λ e. refl) refl es

outs_parts : (app : AppTree) (p number : ℕ) (qs : List PartTree) → outputs_of (parts_items app p number qs) ≡ []
outs_parts app p number [] = refl
outs_parts app p number (q ∷ qs) =
    flat_map-append put_out (part_items p number q (ends_of app p)) (parts_items app (p + 1) (number + 2 + length (ends_of app p)) qs)
    ∙ ap (λ zs. zs ++ outputs_of (parts_items app (p + 1) (number + 2 + length (ends_of app p)) qs)) (outs_part p number q (ends_of app p))
    ∙ outs_parts app (p + 1) (number + 2 + length (ends_of app p)) qs

well_opens : (p : ℕ) (es : List End) → list_all is_well (open_items p es) ≡ true
well_opens p [] = refl
well_opens p (e ∷ es) = well_opens p es

well_parts : (app : AppTree) (p number : ℕ) (qs : List PartTree) → list_all is_well (parts_items app p number qs) ≡ true
well_parts app p number [] = refl
well_parts app p number (q ∷ qs) =
    let es = ends_of app p in
    all-append is_well (part_items p number q es) (parts_items app (p + 1) (number + 2 + length es) qs)
    (all-append is_well (packet_items (number + 2) 38 (length es)) (open_items p es) (well_packets (number + 2) 38 (length es)) (well_opens p es))
    (well_parts app (p + 1) (number + 2 + length es) qs)

-- What holds of each course.

pub record IsTold (app : AppTree) (c : Course) : Type 0 where
  pub well : list_all is_well c.items ≡ true
  pub takes : (k : ℕ) → takes_of k c.items ≡ numbered 0 (words_over k c.past)
  pub outs : outputs_of c.items ≡ c.plain.outputs
  pub linked : All (IsLinked app) c.plain.waiting

pub told_start : (app : AppTree) → IsTold app (course_start app)
told_start app = record {
  well = well_parts app 0 0 app.parts;
  takes = λ k. takes_parts k app 0 0 app.parts;
  outs = outs_parts app 0 0 app.parts;
  linked = All-nil (IsLinked app);
}

-- a module reacts
reacted_linked : (app : AppTree) (p : ℕ) (e : SourceEvent) (s : Plain) (q : PartTree) → All (IsLinked app) s.waiting → All (IsLinked app) (reacted app p e s q).waiting
reacted_linked app p e s q h = All-append (IsLinked app) s.waiting (acts_send app.links p (reaction p q e s.cells).acts) h (acts_linked app p (reaction p q e s.cells).acts)

-- what an event adds
pub record Adds (app : AppTree) (p : ℕ) (e : SourceEvent) (begins : Item) (number : ℕ) (s : Plain) (q : PartTree) : Type 0 where
  pub well : list_all is_well (acts_items app p begins number (reaction p q e s.cells).acts) ≡ true
  pub takes : (k : ℕ) → takes_of k (acts_items app p begins number (reaction p q e s.cells).acts) ≡ taken_by k begins
  pub outs : s.outputs ++ outputs_of (acts_items app p begins number (reaction p q e s.cells).acts) ≡ (reacted app p e s q).outputs

adds : (app : AppTree) (p : ℕ) (e : SourceEvent) (begins : Item) (number : ℕ) (s : Plain) (q : PartTree) → is_well begins ≡ true → put_out begins ≡ [] → Adds app p e begins number s q
adds app p e begins number s q h quiet =
    let acts = (reaction p q e s.cells).acts in
    record {
      well = well_event app p begins number acts h;
      takes = λ k. takes_event k app p begins number acts;
      outs = ap (λ zs. s.outputs ++ zs) (outs_event app p begins number acts quiet);
    }

pub told_sensed : (app : AppTree) (r : Sampling) (c : Course) → IsSampling app r → IsTold app c → IsTold app (sensed app r c)
told_sensed app r c is h =
    let p = is.driver in
    let e = event.Sample r.value in
    let begins = item.Read p r.value in
    let number = packets_so_far app c in
    let d = driver app r.device p is.driven in
    let a = adds app p e begins number c.plain d.part refl refl in
    let new = acts_items app p begins number (reaction p d.part e c.plain.cells).acts in
    let next : Course = record { plain = reacted app p e c.plain d.part; past = c.past; items = c.items ++ item.Sense r.device r.value ∷ new } in
    let same : next ≡ sensed app r c = (rw (is.driven, d.there) refl) in
    let told : IsTold app next = record {
      well = all-append is_well c.items (item.Sense r.device r.value ∷ new) h.well a.well;
      takes = λ k. flat_map-append (taken_by k) c.items (item.Sense r.device r.value ∷ new) ∙ ap (λ zs. takes_of k c.items ++ zs) (a.takes k) ∙ append-nil (takes_of k c.items) ∙ h.takes k;
      outs = flat_map-append put_out c.items (item.Sense r.device r.value ∷ new) ∙ ap (λ zs. zs ++ outputs_of new) h.outs ∙ a.outs;
      linked = reacted_linked app p e c.plain d.part h.linked;
    } in
    subst (λ c. IsTold app c) same told

-- one more is taken
takes_more : (k m : ℕ) (w : Waiting) (past : List Waiting)
    → numbered 0 (words_over k past) ++ taken_by k (item.Take m w.link (count_over w.link past) w.value) ≡ numbered 0 (words_over k (past ++ w ∷ []))
takes_more k m w past = go (w.link == k) refl ∙ ap (λ zs. numbered 0 zs) (sym (words-append k past (w ∷ [])))
  where
    go : (b : Bool) → (w.link == k) ≡ b
        → numbered 0 (words_over k past) ++ (if b then record { number = count_over w.link past; value = w.value } ∷ [] else []) ≡ numbered 0 (words_over k past ++ (if b then w.value ∷ [] else []))
    go true t =
        let same : w.link ≡ k = eqb-true w.link k t in
        let at : count_over w.link past ≡ 0 + length (words_over k past) = ap (λ c. count_over c past) same ∙ sym (zero-add (length (words_over k past))) in
        ap (λ (n : ℕ). numbered 0 (words_over k past) ++ record { number = n; value = w.value } ∷ []) at ∙ sym (numbered-push 0 (words_over k past) w.value)
    go false t = append-nil (numbered 0 (words_over k past)) ∙ ap (λ zs. numbered 0 zs) (sym (append-nil (words_over k past)))

pub told_delivered : (app : AppTree) (w : Waiting) (ws : List Waiting) (c : Course) → is_valid app ≡ true → c.plain.waiting ≡ w ∷ ws → IsTold app c → IsTold app (delivered app w ws c)
told_delivered app w ws c valid waits h =
    let linked : All (IsLinked app) (w ∷ ws) = subst (λ xs. All (IsLinked app) xs) waits h.linked in
    let g = goes app w.link valid (All-head (IsLinked app) w ws linked) in
    let p = g.link.to in
    let e = event.Input g.link.input w.value in
    let begins = item.Take p w.link (count_over w.link c.past) w.value in
    let number = packets_so_far app c in
    let s : Plain = record c.plain { waiting = ws } in
    let a = adds app p e begins number s g.part refl refl in
    let new = acts_items app p begins number (reaction p g.part e c.plain.cells).acts in
    let next : Course = record { plain = reacted app p e s g.part; past = c.past ++ w ∷ []; items = c.items ++ new } in
    let same : next ≡ delivered app w ws c = (rw (g.there, g.to) refl) in
    let told : IsTold app next = record {
      well = all-append is_well c.items new h.well a.well;
      takes = λ k. flat_map-append (taken_by k) c.items new ∙ ap (λ zs. takes_of k c.items ++ zs) (a.takes k)
          ∙ ap (λ zs. zs ++ taken_by k begins) (h.takes k) ∙ takes_more k p w c.past;
      outs = flat_map-append put_out c.items new ∙ ap (λ zs. zs ++ outputs_of new) h.outs ∙ a.outs;
      linked = reacted_linked app p e s g.part (All-tail (IsLinked app) w ws linked);
    } in
    subst (λ c. IsTold app c) same told

-- The course goes along with the plain fold.

settles_as : (app : AppTree) (n : ℕ) (c : Course) → (settled app n c).plain ≡ settles app n c.plain
settles_as app zero c = refl
settles_as app (suc n) c = go c.plain.waiting (λ d. settles_as app n d)
  where
    go : (ws : List Waiting) → ((d : Course) → (settled app n d).plain ≡ settles app n d.plain)
        → (oldest c (λ w ws. settled app n (delivered app w ws c)) ws).plain ≡ oldest c.plain (λ w ws. settles app n (delivers app w ws c.plain)) ws
    go [] more = refl
    go (w ∷ ws) more = more (delivered app w ws c)

plays_as : (app : AppTree) (n : ℕ) (rs : List Sampling) (c : Course) → plays app n rs c.plain ≡ option_map (λ (d : Course). d.plain) (played app n rs c)
plays_as app n [] c = refl
plays_as app n (r ∷ rs) c =
    let d = settled app n (sensed app r c) in
    let same : settles app n (takes_reading app r c.plain) ≡ d.plain = sym (settles_as app n (sensed app r c)) in
    rw same (go (is_still d.plain.waiting) (plays_as app n rs d))
  where
    go : (b : Bool) → plays app n rs (settled app n (sensed app r c)).plain ≡ option_map (λ (d : Course). d.plain) (played app n rs (settled app n (sensed app r c)))
        → (if b then plays app n rs (settled app n (sensed app r c)).plain else None) ≡ option_map (λ (d : Course). d.plain) (if b then played app n rs (settled app n (sensed app r c)) else None)
    go true more = more
    go false more = refl

keeps_told : (app : AppTree) (most : ℕ) → is_valid app ≡ true → Keeps app most (λ c. IsTold app c)
keeps_told app most valid = record {
  reading = λ r c is still h few. told_sensed app r c is h;
  delivery = λ w ws c waits h few. told_delivered app w ws c valid waits h;
}

-- nothing goes wrong, what was delivered was taken, nothing waits, and the outputs are those of the plain fold
pub record IsAsPlain (app : AppTree) (rs : List Sampling) (c : Course) : Type 0 where
  pub well : list_all is_well c.items ≡ true
  pub takes : (k : ℕ) → takes_of k c.items ≡ numbered 0 (words_over k c.past)
  pub still : c.plain.waiting ≡ []
  pub outputs : plain_outputs app rs ≡ Some (outputs_of c.items)

pub honest_is_as_plain : (app : AppTree) (rs : List Sampling) (c : Course) → IsHonest app rs c → IsAsPlain app rs c
honest_is_as_plain app rs c h =
    let n = MOST_DELIVERIES in
    let k = played_keeps app (total c) (λ c. IsTold app c) (keeps_told app (total c) h.valid) n rs (course_start app) c h.readings (told_start app) refl h.course (omega arith) in
    let t = k.0 in
    record {
      well = t.well;
      takes = t.takes;
      still = k.1;
      outputs =
          ap (λ o. option_map (λ (s : Plain). s.outputs) o) (plays_as app n rs (course_start app) ∙ ap (λ o. option_map (λ (d : Course). d.plain) o) h.course)
          ∙ ap (λ (zs : List Output). Some zs) (sym t.outs);
    }
