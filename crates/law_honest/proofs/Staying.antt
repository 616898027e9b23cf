-- Once a line was left out, each part of the program's honest run leaves out all that follows.
use Rattle.std.proofs.Common.{◌≡◌, ℕ, zero, suc, ◌+◌, ◌*◌, ◌==◌, ◌||◌, Bool, if◌then◌else◌, List, [], ◌∷◌, Option, Some, None, slice_get, refl, sym, ap, subst}
use Rattle.std.specs.Prelude.{option_and_then}
use Rattle.sx_sched.specs.Lines.{Line, Answer, Ask, Call, Give, Load, Sense, Take}
use Rattle.spec_run.specs.Setting.{Setting}
use Rattle.sx_world.specs.Whole.{next}
use Rattle.sx_drive.specs.Honest.{Callee, Driven, Honest, IN_WINDOW, MOST_LINES, OUT_WINDOW, Reading, answers, asks, callee_at, calls, collects, delivers}
use Rattle.sx_drive.specs.Honest.{driver_of, each, hands, if_there, left_out, made_by, oldest, opens, packets_of, performed, queues, reads, receiver_of}
use Rattle.sx_drive.specs.Honest.{receives, samples, says, sets_up, sets_up_from, settles, takes, takes_one, then_, with_waiting}
use Rattle.law_honest.proofs.Playing.{IsSilent, Stays, still_silent, then_silent}

pub each_stay : {A : Type 0} (act : A → Honest → Driven) → ((x : A) → Stays (act x)) → (xs : List A) → Stays (each act xs)
each_stay act one [] h cut = still_silent h cut
each_stay act one (x ∷ xs) h cut = then_silent (act x h) (each act xs) (one x h cut) (each_stay act one xs)

pub there_stays : (act : Callee → Honest → Driven) → ((x : Callee) → Stays (act x)) → (o : Option Callee) → Stays (if_there act o)
there_stays act one None h cut = still_silent h cut
there_stays act one (Some x) h cut = one x h cut

pub says_stays : (set : Setting) (l : Line) → Stays (says set l)
says_stays set l h cut =
    let left : says set l h ≡ left_out h = ap (λ (b : Bool). if b || (h.world.lines == MOST_LINES) then left_out h else performed l h (next set h.world l)) cut in
    subst (λ (d : Driven). IsSilent d) (sym left) (record { said = refl; long = refl })

pub hands_stay : (set : Setting) (e : ℕ) (x : Callee) (k : ℕ) → Stays (hands set e x k)
hands_stay set e x k h cut = then_silent (says set (Give k x.node IN_WINDOW) h) (calls set e x) (says_stays set (Give k x.node IN_WINDOW) h cut) (says_stays set (Call x.part e IN_WINDOW OUT_WINDOW))

takes_one_stays : (set : Setting) (n i : ℕ) → Stays (takes_one set n i)
takes_one_stays set n i h cut =
    then_silent (says set (Take n (OUT_WINDOW + 24 * i) 24) h) queues (says_stays set (Take n (OUT_WINDOW + 24 * i) 24) h cut) (λ g also. record { said = refl; long = also })

pub takes_stay : (set : Setting) (n i k : ℕ) → Stays (takes set n i k)
takes_stay set n i zero h cut = still_silent h cut
takes_stay set n i (suc k) h cut = then_silent (takes_one set n i h) (takes set n (i + 1) k) (takes_one_stays set n i h cut) (takes_stay set n (i + 1) k)

pub collects_stay : (set : Setting) (n : ℕ) → Stays (collects set n)
collects_stay set n h cut = takes_stay set n 0 (made_by h.shown) h cut

-- The set-up.

pub answers_stay : (set : Setting) (x : Callee) (k : ℕ) → Stays (answers set x k)
answers_stay set x k = says_stays set (Answer x.part 0 k)

-- each packet that was shown is handed
pub hand_each_stays : (set : Setting) (e : ℕ) (x : Callee) → Stays (λ h. each (hands set e x) (packets_of h.shown) h)
hand_each_stays set e x h cut = each_stay (hands set e x) (hands_stay set e x) (packets_of h.shown) h cut

pub answer_each_stays : (set : Setting) (x : Callee) → Stays (λ h. each (answers set x) (packets_of h.shown) h)
answer_each_stays set x h cut = each_stay (answers set x) (answers_stay set x) (packets_of h.shown) h cut

pub asking_stays : (set : Setting) (x : Callee) → Stays (λ h. then_ (says set (Ask x.part) h) (λ g. each (hands set 1 x) (packets_of g.shown) g))
asking_stays set x h cut = then_silent (says set (Ask x.part) h) (λ g. each (hands set 1 x) (packets_of g.shown) g) (says_stays set (Ask x.part) h cut) (hand_each_stays set 1 x)

asks_stay : (set : Setting) (x : Callee) → Stays (asks set x)
asks_stay set x h cut =
    then_silent (says set (Load x.part) h) (λ g. then_ (says set (Ask x.part) g) (λ u. each (hands set 1 x) (packets_of u.shown) u)) (says_stays set (Load x.part) h cut) (asking_stays set x)

pub opening_stays : (set : Setting) (x : Callee) → Stays (λ h. then_ (each (answers set x) (packets_of h.shown) h) (λ g. each (hands set 0 x) (packets_of g.shown) g))
opening_stays set x h cut =
    then_silent (each (answers set x) (packets_of h.shown) h) (λ g. each (hands set 0 x) (packets_of g.shown) g) (answer_each_stays set x h cut) (hand_each_stays set 0 x)

pub opens_stay : (set : Setting) (x : Callee) → Stays (opens set x)
opens_stay set x h cut =
    then_silent (says set (Take x.node OUT_WINDOW 16) h) (λ g. then_ (each (answers set x) (packets_of g.shown) g) (λ u. each (hands set 0 x) (packets_of u.shown) u))
    (says_stays set (Take x.node OUT_WINDOW 16) h cut) (opening_stays set x)

pub sets_up_stays : (set : Setting) (x : Callee) → Stays (sets_up set x)
sets_up_stays set x h cut = then_silent (asks set x h) (opens set x) (asks_stay set x h cut) (opens_stay set x)

pub sets_up_from_stays : (set : Setting) (m k : ℕ) → Stays (sets_up_from set m k)
sets_up_from_stays set m zero h cut = still_silent h cut
sets_up_from_stays set m (suc k) h cut =
    then_silent (if_there (sets_up set) (callee_at set.app m) h) (sets_up_from set (m + 1) k) (there_stays (sets_up set) (sets_up_stays set) (callee_at set.app m) h cut)
    (sets_up_from_stays set (m + 1) k)

-- Readings and deliveries.

receives_stay : (set : Setting) (k : ℕ) (x : Callee) → Stays (receives set k x)
receives_stay set k x h cut = then_silent (hands set 2 x k h) (collects set x.node) (hands_stay set 2 x k h cut) (collects_stay set x.node)

delivers_stay : (set : Setting) (k : ℕ) → Stays (delivers set k)
delivers_stay set k h cut = there_stays (receives set k) (receives_stay set k) (option_and_then (receiver_of set.app) (slice_get h.world.packets k)) h cut

oldest_stays : (set : Setting) (rest : Honest → Driven) → Stays rest → (ks : List ℕ) → Stays (oldest set rest ks)
oldest_stays set rest stays [] h cut = still_silent h cut
oldest_stays set rest stays (k ∷ ks) h cut = then_silent (delivers set k (with_waiting h ks)) rest (delivers_stay set k (with_waiting h ks) cut) stays

pub settles_stay : (set : Setting) (n : ℕ) → Stays (settles set n)
settles_stay set zero h cut = still_silent h cut
settles_stay set (suc n) h cut = oldest_stays set (settles set n) (settles_stay set n) h.waiting h cut

pub samples_stay : (set : Setting) (x : Callee) → Stays (samples set x)
samples_stay set x h cut = then_silent (calls set 3 x h) (collects set x.node) (says_stays set (Call x.part 3 IN_WINDOW OUT_WINDOW) h cut) (collects_stay set x.node)

pub reads_stay : (set : Setting) (r : Reading) → Stays (reads set r)
reads_stay set r h cut =
    then_silent (says set (Sense r.device r.value) h) (λ g. then_ (if_there (samples set) (driver_of set.app r.device) g) (settles set MOST_LINES)) (says_stays set (Sense r.device r.value) h cut)
    (λ g also. then_silent (if_there (samples set) (driver_of set.app r.device) g) (settles set MOST_LINES)
    (there_stays (samples set) (samples_stay set) (driver_of set.app r.device) g also) (settles_stay set MOST_LINES))
