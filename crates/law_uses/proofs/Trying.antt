-- Where a step unwraps, it tried.
use Rattle.std.proofs.Common.{◌≡◌, ℕ, ◌-◌, ◌++◌, Bool, true, false, cond, not, ◌==◌, ◌&&◌, ◌||◌, inl, inr, bytes_eq, List, [], ◌∷◌, length, take, slice_index, Option, Some, None, is_some, Result, Ok, Err, refl, sym, ◌∙◌, ap, subst}
use Rattle.std.specs.Prelude.{nat_le, replicate, slice_get}
use Rattle.std.specs.List.{list_any}
use Rattle.std.proofs.lemmas.List.{take_at}
use Rattle.sx_rules.specs.declared.access.Access.TheVariants.{Read, Write}
use Rattle.sx_rules.specs.declared.access.Violation.{Violation}
use Rattle.sx_rules.specs.declared.access.Violation.TheVariants as bad
use Rattle.sx_rules.specs.declared.section.Section.{Section}
use Rattle.sx_rules.specs.declared.admission.Refusal.{Refusal}
use Rattle.sx_rules.specs.Access.{Sections, holder, section_of, in_order}
use Rattle.sx_rules.specs.Admission.{refusal}
use Rattle.sx_bus.specs.Devices.{places_of, device_at}
use Rattle.sx_tag.specs.Mac.{Mac}
use Rattle.sx_tag.specs.Wrap.{crypt, padded, wrap_tag, unwrapped}
use Rattle.spec_machine.specs.declared.kinds.Event.{Event}
use Rattle.spec_machine.specs.declared.kinds.Event.TheVariants as event
use Rattle.spec_machine.specs.Memory.{word, bytes_from, put_bytes}
use Rattle.spec_machine.proofs.Lengths.{length-bytes_from}
use Rattle.spec_machine.specs.Ranges.{passes_end, meets_device}
use Rattle.spec_machine.specs.Plan.{Plan, Done, Tell, Stop, Fetch, Load, Store, Need, Writable, Bytes, Put}
use Rattle.spec_machine.specs.Rows.{program}
use Rattle.spec_machine.specs.Run.{Moment, Outcome, Finished, Violated, Module, may_range, may_each, load, store, fetch, after_read, after_write, after_fetch, exec}
use Rattle.spec_machine.specs.Given.{Given, own_section, untouched_with, concluded}
use Rattle.spec_machine.specs.Protect.{layout_in, protected_if, protect, removed_if, unprotect}
use Rattle.spec_machine.specs.ModuleRows.{answer, within, Buffer, tested, attested, attest, own_key, buffers, with_key, exchanged, wrap, opened, unwrap, module_row}
use Rattle.spec_machine.specs.Modules.{module_instruction}
use Rattle.spec_machine.specs.State.{State}
use Rattle.spec_machine.specs.Step.{own_of, pc_of, start as starts, given_at_pc, instruction, ordered, word_outside, is_module_word, attempt, settled_step, step}
use Rattle.spec_machine.proofs.Events.{IsTold, Tells, tells_program}
use Rattle.spec_run.specs.Setting.{Setting}
use Rattle.spec_run.specs.State.{switched_on}
use Rattle.spec_run.specs.Ledger.{header_of, body_of}
use Rattle.law_isolation.specs.Happening.{Happening, Step}
use Rattle.law_isolation.specs.Script.{Script}
use Rattle.law_forgery.specs.Moments.{moment_from}
use Rattle.law_forgery.specs.Moments.{Moment as Happened}
use Rattle.law_forgery.proofs.Instructions.{behind, opens}
use Rattle.law_uses.specs.Uses.{Holder, Held, key_held, Use, Tries, tried, reading, in_reach, section_holder, attest_uses, key_uses, wrap_uses, unwrap_uses, instruction_uses, step_uses, uses_at}
use Rattle.law_uses.specs.GivenLogged.{IsUse}
use Rattle.law_uses.specs.Tried.{UnwrapsAreTried}
use Rattle.law_uses.proofs.Stepping.{section_key_held}
use Rattle.law_uses.proofs.Keeping.{on_kept}
use Rattle.law_uses.proofs.Giving.{IsHolder}
use Rattle.law_uses.proofs.Logged.{kept_at}

-- Plans that never tell of an unwrap.

abbrev Never : Plan → Type 0
Never (Done regs) = Unit {0}
Never (Tell regs e c) = (id : ℕ) → e ≡ event.Unwrapped id → ⊥
Never (Stop v) = Unit {0}
Never (Fetch at k) = (w : ℕ) → Never (k w)
Never (Load wide at k) = (v : ℕ) → Never (k v)
Never (Store wide at v k) = Never k
Never (Need b v k) = Never k
Never (Writable at n k) = Never k
Never (Bytes at n k) = (bs : List ℕ) → Never (k bs)
Never (Put at bs k) = Never k

abbrev event_of : Outcome → Event
event_of (Finished r y) = event.Quiet
event_of (Violated v) = event.Reset v
event_of (Module r y t e c) = e

abbrev Opens_not : Outcome → Type 0
Opens_not o = (id : ℕ) → event_of o ≡ event.Unwrapped id → ⊥

not_if : (b : Bool) (o : Outcome) (v : Violation) → Opens_not o → Opens_not (cond b o (Violated v))
not_if true o v h = h
not_if false o v h = λ id e. absurd cc

fetch_not : (r : Result ℕ Violation) (f : ℕ → Outcome) → ((w : ℕ) → Opens_not (f w)) → Opens_not (after_fetch r f)
fetch_not (Ok w) f h = h w
fetch_not (Err v) f h = λ id e. absurd cc

read_not : (r : Result (ℕ × Moment) Violation) (f : ℕ → Moment → Outcome) → ((v : ℕ) (z : Moment) → Opens_not (f v z)) → Opens_not (after_read r f)
read_not (Ok r) f h = h r.0 r.1
read_not (Err v) f h = λ id e. absurd cc

write_not : (r : Result Moment Violation) (f : Moment → Outcome) → ((z : Moment) → Opens_not (f z)) → Opens_not (after_write r f)
write_not (Ok z) f h = h z
write_not (Err v) f h = λ id e. absurd cc

never_runs : (t : Sections) (own : ℕ) (p : Plan) → Never p → (y : Moment) → Opens_not (exec t own p y)
never_runs t own (Done regs) h y = λ id e. absurd cc
never_runs t own (Tell regs e c) h y = h
never_runs t own (Stop v) h y = λ id e. absurd cc
never_runs t own (Fetch at k) h y = fetch_not (fetch t.live own at y) (λ w. exec t own (k w) y) (λ w. never_runs t own (k w) (h w) y)
never_runs t own (Load wide at k) h y = read_not (load t.live own wide at y) (λ v z. exec t own (k v) z) (λ v z. never_runs t own (k v) (h v) z)
never_runs t own (Store wide at v k) h y = write_not (store t.live own wide at v y) (λ z. exec t own k z) (λ z. never_runs t own k h z)
never_runs t own (Need b v k) h y = not_if b (exec t own k y) v (never_runs t own k h y)
never_runs t own (Writable at n k) h y = not_if (may_range t.live own Write at n) (exec t own k y) bad.Write (never_runs t own k h y)
never_runs t own (Bytes at n k) h y =
    not_if (may_range t.live own Read at n) (exec t own (k (bytes_from y.mem at n)) y) bad.Read (never_runs t own (k (bytes_from y.mem at n)) (h (bytes_from y.mem at n)) y)
never_runs t own (Put at bs k) h y =
    let z : Moment = record y { mem = put_bytes y.mem at bs } in
    not_if (may_each t.live own Write at bs) (exec t own k z) bad.Write (never_runs t own k h z)

-- a plain instruction's, since code of no section tells the same
module _ (g : Given) (none : own_section g ≡ None) where
  told_never : (p : Plan) → Tells g p → Never p
  told_never (Done regs) h = tt
  told_never (Tell regs e c) h = λ id q. let i : IsTold g (event.Unwrapped id) = subst (IsTold g) q h in nothing i.1 (sym none ∙ i.2)
    where
      nothing : (x : Section) → None ≡ Some x → ⊥
      nothing x e = absurd cc
  told_never (Stop v) h = tt
  told_never (Fetch at k) h = λ w. told_never (k w) (h w)
  told_never (Load wide at k) h = λ v. told_never (k v) (h v)
  told_never (Store wide at v k) h = told_never k h
  told_never (Need b v k) h = told_never k h
  told_never (Writable at n k) h = told_never k h
  told_never (Bytes at n k) h = λ bs. told_never (k bs) (h bs)
  told_never (Put at bs k) h = told_never k h

module _ (set : Setting) (n : ℕ) (s : State) where
  abbrev g : Given
  g = given_at_pc set.mac s

  abbrev start : Moment
  start = untouched_with g s.mem

  pub record Tried (o : Outcome) (us : List Use) : Type 0 where
    pub whose : Holder
    pub header : List ℕ
    pub cipher : List ℕ
    pub tag : List ℕ
    pub is : IsUse (Tries whose 0x54 (length header ∷ (header ++ cipher)) tag) us
    pub right : bytes_eq tag (wrap_tag set.mac (key_held set whose) header cipher) ≡ true
    pub regs : List ℕ
    pub stands : Moment
    pub section : Section
    pub found : section_of s.sections.live (own_of s) ≡ Some section
    pub owner : IsHolder set n s section whose
    pub long : length cipher ≡ slice_index s.regs 13
    pub ends : o ≡ Module regs stands s.sections (event.Unwrapped (own_of s)) (exchanged s.regs header (take (slice_index s.regs 13) (padded (crypt set.mac (key_held set whose) header cipher))))

  abbrev Opens : Outcome → List Use → Type 0
  Opens o us = (id : ℕ) → event_of o ≡ event.Unwrapped id → Tried o us

  by_test : (t : Bool) (us : List Use) (o : Outcome) (v : Violation) → Opens o us → Opens (cond t o (Violated v)) (cond t us [])
  by_test true us o v h = h
  by_test false us o v h = λ id e. absurd cc

  either : (t : Bool) (us vs : List Use) (o p : Outcome) → Opens o us → Opens p vs → Opens (cond t o p) (cond t us vs)
  either true us vs o p h k = h
  either false us vs o p h k = k

  shut : (o : Outcome) (us : List Use) → Opens_not o → Opens o us
  shut o us h = λ id e. absurd (h id e)

  abbrev Runs : Plan → List Use → Type 0
  Runs p us = Opens (exec g.sections g.own p start) us

  never : (p : Plan) (us : List Use) → Never p → Runs p us
  never p us h = shut (exec g.sections g.own p start) us (never_runs g.sections g.own p h start)

  reads : (at m : ℕ) (us : List ℕ → List Use) (k : List ℕ → Plan) → ((bs : List ℕ) → length bs ≡ m → Runs (k bs) (us bs)) → Runs (Bytes at m k) (reading s at m us)
  reads at m us k f =
      let bs = bytes_from s.mem at m in
      by_test (may_range s.sections.live (own_of s) Read at m) (us bs) (exec g.sections g.own (k bs) start) bad.Read (f bs (length-bytes_from s.mem at m))

  tested_open : (bs : List Buffer) (us : List Use) (p : Plan) → Runs p us → Runs (tested g bs p) (in_reach s bs us)
  tested_open bs us p h =
      let inside = not (list_any (λ b. passes_end b.at b.count) bs) in
      let off = not (list_any (λ b. meets_device (places_of s.devices) b.at b.count) bs) in
      by_test inside (cond off us []) (exec g.sections g.own (Need off bad.Device p) start) bad.Range (by_test off us (exec g.sections g.own p start) bad.Device h)

  answer_never : (v : ℕ) → Never (answer g v)
  answer_never v = λ id e. absurd cc

  module _ (x : Section) (found : section_of s.sections.live (own_of s) ≡ Some x) (own : x.key ≡ key_held set (section_holder n s x)) where
    key_open : (c : Bool) → own_key s.regs ≡ c → (us : Holder → List Use) (rest : List ℕ → Plan) → ((who : Holder) → IsHolder set n s x who → Runs (rest (key_held set who)) (us who))
        → Runs (cond c (rest x.key) (Bytes (slice_index g.regs 9) 16 rest)) (cond c (us (section_holder n s x)) (reading s (slice_index s.regs 9) 16 (λ key. us (Held key))))
    key_open true e us rest f = subst (λ (z : List ℕ). Runs (rest z) (us (section_holder n s x))) (sym own) (f (section_holder n s x) (inl (e, refl)))
    key_open false e us rest f = reads (slice_index g.regs 9) 16 (λ key. us (Held key)) rest (λ key long. f (Held key) (inr (key, e, refl)))

    abbrev plain : Holder → List ℕ → List ℕ → List ℕ
    plain who ad cipher = take (slice_index g.regs 13) (padded (crypt set.mac (key_held set who) ad cipher))

    abbrev stood : Holder → List ℕ → List ℕ → Moment
    stood who ad cipher = record start { mem = put_bytes s.mem (slice_index g.regs 14) (plain who ad cipher) }

    abbrev ended : Holder → List ℕ → List ℕ → Outcome
    ended who ad cipher = Module (concluded g.regs 1) (stood who ad cipher) s.sections (event.Unwrapped (own_of s)) (exchanged g.regs ad (plain who ad cipher))

    module _ (who : Holder) (owner : IsHolder set n s x who) (ad cipher tag : List ℕ) (long : length cipher ≡ slice_index s.regs 13) where
      put_open : (d : Bool) → bytes_eq tag (wrap_tag set.mac (key_held set who) ad cipher) ≡ true → Opens (cond d (ended who ad cipher) (Violated bad.Write)) (tried set who ad cipher tag)
      put_open true e = λ id q. record {
        whose = who;
        header = ad;
        cipher = cipher;
        tag = tag;
        is = inl refl;
        right = e;
        regs = concluded g.regs 1;
        stands = stood who ad cipher;
        section = x;
        found = found;
        owner = owner;
        long = long;
        ends = refl;
      }
      put_open false e = λ id q. absurd cc

      opened_open : Runs (opened g ad (unwrapped set.mac (key_held set who) ad cipher tag)) (tried set who ad cipher tag)
      unfolding unwrapped
      opened_open = by (bytes_eq tag (wrap_tag set.mac (key_held set who) ad cipher)) refl
        where
          by : (c : Bool) → bytes_eq tag (wrap_tag set.mac (key_held set who) ad cipher) ≡ c
              → Runs (opened g ad (cond c (Some (padded (crypt set.mac (key_held set who) ad cipher))) None)) (tried set who ad cipher tag)
          by true e = put_open (may_each s.sections.live (own_of s) Write (slice_index g.regs 14) (plain who ad cipher)) e
          by false e = never (answer g 0) (tried set who ad cipher tag) (answer_never 0)

    unwrap_open : Runs (unwrap set.mac g x) (unwrap_uses set n s x)
    unwrap_open =
        let may = may_range s.sections.live (own_of s) Write (slice_index s.regs 14) (slice_index s.regs 13) in
        let us : Holder → List ℕ → List ℕ → List Use = λ who ad cipher. reading s (slice_index s.regs 15) 16 (λ tag. cond may (tried set who ad cipher tag) []) in
        let vs : Holder → List Use = λ who. reading s (slice_index s.regs 10) (slice_index s.regs 11) (λ ad. reading s (slice_index s.regs 12) (slice_index s.regs 13) (λ text. us who ad text)) in
        let rest : List ℕ → List ℕ → List ℕ → Plan = λ key ad cipher. Bytes (slice_index g.regs 15) 16 (opens g set.mac key ad cipher) in
        let p = with_key g x (behind g rest) in
        by_test (nat_le (slice_index g.regs 11) 32 && nat_le (slice_index g.regs 13) 32) (in_reach s (buffers s.regs) (key_uses n s x vs)) (exec g.sections g.own (tested g (buffers g.regs) p) start) bad.Range
        (tested_open (buffers g.regs) (key_uses n s x vs) p
        (key_open (own_key g.regs) refl vs (behind g rest) (λ who owner.
        reads (slice_index g.regs 10) (slice_index g.regs 11) (λ ad. reading s (slice_index s.regs 12) (slice_index s.regs 13) (λ text. us who ad text))
        (λ ad. Bytes (slice_index g.regs 12) (slice_index g.regs 13) (λ text. rest (key_held set who) ad text)) (λ ad short.
        reads (slice_index g.regs 12) (slice_index g.regs 13) (λ text. us who ad text) (λ text. rest (key_held set who) ad text) (λ text long.
        reads (slice_index g.regs 15) 16 (λ tag. cond may (tried set who ad text tag) []) (opens g set.mac (key_held set who) ad text) (λ tag sixteen.
        by_test may (tried set who ad text tag) (exec g.sections g.own (opened g ad (unwrapped set.mac (key_held set who) ad text tag)) start) bad.Write (opened_open who owner ad text tag long)))))))

    attested_never : (tag : List ℕ) (o : Option Section) → Never (attested set.mac g x tag o)
    attested_never tag None = answer_never 0
    attested_never tag (Some t) = λ text id e. absurd cc

    attest_never : Never (attest set.mac g x)
    attest_never = λ tag. attested_never tag (section_of g.sections.live (holder g.sections.live (slice_index g.regs 9)))

    abbrev sealing : List ℕ → Plan
    sealing = behind g (λ key ad body. Rattle.law_forgery.proofs.Instructions.sealed g ad body (Rattle.sx_tag.specs.Wrap.wrapped set.mac key ad body))

    wrap_never : Never (wrap set.mac g x)
    wrap_never = by (own_key g.regs)
      where
        by : (c : Bool) → Never (cond c (sealing x.key) (Bytes (slice_index g.regs 9) 16 sealing))
        by true = λ ad body id e. absurd cc
        by false = λ key ad body id e. absurd cc

  pick : (c : Bool) (us vs : List Use) (p q : Plan) → Runs p us → Runs q vs → Runs (cond c p q) (cond c us vs)
  pick true us vs p q h k = h
  pick false us vs p q h k = k

  both : (c : Bool) (p q : Plan) → Never p → Never q → Never (cond c p q)
  both true p q h k = h
  both false p q h k = k

  abbrev rows : ℕ → Option Section → Plan
  rows code o =
      cond (code == 2) (within g (attest set.mac g) o)
      (cond (code == 4) (within g (wrap set.mac g) o)
      (cond (code == 5) (within g (unwrap set.mac g) o)
      (cond (code == 6) (answer g (holder g.sections.live (slice_index g.regs 9)))
      (within g (λ own. answer g g.caller) o))))

  module _ (keys : (y : Section) → section_of s.sections.live (own_of s) ≡ Some y → y.key ≡ key_held set (section_holder n s y)) where
    rows_open : (code : ℕ) (o : Option Section) → section_of s.sections.live (own_of s) ≡ o → Runs (rows code o) (instruction_uses set n s code o)
    rows_open code None e =
        let c = answer g 0 in
        let h = answer g (holder g.sections.live (slice_index g.regs 9)) in
        never (rows code None) []
        (both (code == 2) c (cond (code == 4) c (cond (code == 5) c (cond (code == 6) h c))) (answer_never 0)
        (both (code == 4) c (cond (code == 5) c (cond (code == 6) h c)) (answer_never 0)
        (both (code == 5) c (cond (code == 6) h c) (answer_never 0)
        (both (code == 6) h c (answer_never (holder g.sections.live (slice_index g.regs 9))) (answer_never 0)))))
    rows_open code (Some x) e =
        let h = answer g (holder g.sections.live (slice_index g.regs 9)) in
        let r6 = cond (code == 6) h (answer g g.caller) in
        let r5 = cond (code == 5) (unwrap set.mac g x) r6 in
        let u5 = cond (code == 5) (unwrap_uses set n s x) [] in
        pick (code == 2) (attest_uses n s x) (cond (code == 4) (wrap_uses set n s x) u5) (attest set.mac g x) (cond (code == 4) (wrap set.mac g x) r5)
        (never (attest set.mac g x) (attest_uses n s x) (attest_never x e (keys x e)))
        (pick (code == 4) (wrap_uses set n s x) u5 (wrap set.mac g x) r5 (never (wrap set.mac g x) (wrap_uses set n s x) (wrap_never x e (keys x e)))
        (pick (code == 5) (unwrap_uses set n s x) [] (unwrap set.mac g x) r6 (unwrap_open x e (keys x e))
        (never r6 [] (both (code == 6) h (answer g g.caller) (answer_never (holder g.sections.live (slice_index g.regs 9))) (answer_never g.caller)))))

    row_open : (code : ℕ) → Runs (module_row set.mac code g) (instruction_uses set n s code (section_of s.sections.live (own_of s)))
    unfolding module_row
    row_open code = rows_open code (section_of s.sections.live (own_of s)) refl

    removed_not : (m : List ℕ) (o : Option Section) → Opens_not (removed_if g m o)
    removed_not m None = λ id e. absurd cc
    removed_not m (Some x) = λ id e. absurd cc

    unprotect_not : (m : List ℕ) → Opens_not (unprotect g m)
    unfolding unprotect
    unprotect_not m = removed_not m (own_section g)

    protected_not : (m : List ℕ) (o : Option Refusal) → Opens_not (protected_if set.mac g m (layout_in g.regs) o)
    protected_not m None = λ id e. absurd cc
    protected_not m (Some why) = λ id e. absurd cc

    protect_not : (m : List ℕ) → Opens_not (protect set.mac g m)
    unfolding protect
    protect_not m = protected_not m (refusal g.sections (layout_in g.regs) (places_of g.devices))

    module_open : (code : ℕ) → Opens (module_instruction set.mac code g s.mem) (instruction_uses set n s code (section_of s.sections.live (own_of s)))
    module_open code = by (code == 0) (code == 1)
      where
        by : (c d : Bool) → Opens (cond c (unprotect g s.mem) (cond d (protect set.mac g s.mem) (exec g.sections g.own (module_row set.mac code g) start))) (instruction_uses set n s code (section_of s.sections.live (own_of s)))
        by true d = shut (unprotect g s.mem) (instruction_uses set n s code (section_of s.sections.live (own_of s))) (unprotect_not s.mem)
        by false true = shut (protect set.mac g s.mem) (instruction_uses set n s code (section_of s.sections.live (own_of s))) (protect_not s.mem)
        by false false = row_open code

    -- what is given to code of no section
    abbrev nobody : Given
    nobody = record g { sections = record { live = []; next = 1 } }

    abbrev w : ℕ
    w = word s.mem (pc_of s)

    abbrev asked : List Use
    asked = cond (is_module_word w) (instruction_uses set n s (w - 0x1380) (section_of s.sections.live (own_of s))) []

    instruction_open : Opens (instruction set.mac s) asked
    instruction_open =
        let plain = exec s.sections (own_of s) (program w s.regs) (starts s) in
        either (is_module_word w) (instruction_uses set n s (w - 0x1380) (section_of s.sections.live (own_of s))) [] (module_instruction set.mac (w - 0x1380) g s.mem) plain (module_open (w - 0x1380))
        (shut plain [] (never_runs s.sections (own_of s) (program w s.regs) (told_never nobody refl (program w s.regs) (tells_program nobody w s.regs)) (starts s)))

    ordered_open : (d : Option ℕ) → Opens (ordered set.mac s d) (cond (not (is_some d) && in_order s.sections.live s.cur (pc_of s)) asked [])
    ordered_open (Some d) = λ id e. absurd cc
    ordered_open None = by_test (in_order s.sections.live s.cur (pc_of s)) asked (instruction set.mac s) bad.Order instruction_open

    fetched : (t r : Bool) (o : Outcome) → Opens o (cond r asked []) → Opens (cond t o (Violated bad.Fetch)) (cond (t && r) asked [])
    fetched true r o h = h
    fetched false r o h = λ id e. absurd cc

    attempt_open : Opens (attempt set.mac s) (step_uses set n (Some s))
    attempt_open =
        let d = device_at s.devices (pc_of s) in
        fetched (word_outside s.sections.live (pc_of s)) (not (is_some d) && in_order s.sections.live s.cur (pc_of s)) (ordered set.mac s d) (ordered_open d)

    left_not : (c : Bool) (own id : ℕ) → cond c event.Quiet (event.Left own) ≡ event.Unwrapped id → ⊥
    left_not true own id e = absurd cc
    left_not false own id e = absurd cc

    settled_event : (o : Outcome) (id : ℕ) → (settled_step s o).shown.event ≡ event.Unwrapped id → event_of o ≡ event.Unwrapped id
    settled_event (Finished r y) id e = absurd (left_not ((own_of s == 0) || (holder s.sections.live (slice_index r 0) == own_of s)) (own_of s) id e)
    settled_event (Violated v) id e = e
    settled_event (Module r y t v c) id e = e

    pub step_tries : (id : ℕ) → (step set.mac s).shown.event ≡ event.Unwrapped id → Tried (attempt set.mac s) (step_uses set n (Some s))
    step_tries id e = attempt_open id (settled_event (attempt set.mac s) id e)

pub tag_is : (mac : Mac) (key header cipher tag : List ℕ) → bytes_eq tag (wrap_tag mac key header cipher) ≡ true → bytes_eq tag (take 16 (mac key (0x54 ∷ length header ∷ (header ++ cipher)))) ≡ true
unfolding wrap_tag
tag_is mac key header cipher tag h = h

-- what was exchanged
module _ (set : Setting) (n : ℕ) (s : State) (us : List Use) (t : Tried set n s (attempt set.mac s) us) where
  abbrev pub opened_body : List ℕ
  opened_body = take (slice_index s.regs 13) (padded (crypt set.mac (key_held set t.whose) t.header t.cipher))

  pub exchange_is : (step set.mac s).state.exchange ≡ exchanged s.regs t.header opened_body
  exchange_is = ap (λ (o : Outcome). (settled_step s o).state.exchange) t.ends

  pub header_is : header_of (step set.mac s).state.exchange ≡ t.header
  header_is = ap header_of exchange_is ∙ take_at t.header (replicate (32 - length t.header) 0) (length t.header) refl

  pub body_is : body_of (step set.mac s).state.exchange ≡ opened_body
  body_is = ap body_of exchange_is ∙ take_at opened_body (replicate (32 - length opened_body) 0) (length opened_body) refl

-- a step that unwraps at a moment
module _ (set : Setting) (script : Script) (k : ℕ) (now : Happened) (at : moment_from set k script (switched_on set) ≡ Some now) (n id : ℕ) (s : State)
    (next : now.next ≡ Step n) (here : slice_get now.world.nodes n ≡ Some s) (e : (step set.mac s).shown.event ≡ event.Unwrapped id) where
  abbrev pub tried_at : Tried set n s (attempt set.mac s) (step_uses set n (Some s))
  tried_at = step_tries set n s (section_key_held set n s (kept_at set k script (switched_on set) now (on_kept set) at n s here).keys (own_of s)) id e

  pub use_at : (u : Use) → IsUse u (step_uses set n (Some s)) → IsUse u (uses_at set now.next now.world)
  use_at u i =
      subst (λ (y : Happening). IsUse u (uses_at set y now.world)) (sym next)
      (subst (λ (o : Option State). IsUse u (step_uses set n o)) (sym here) i)

pub unwraps_are_tried : UnwrapsAreTried
unwraps_are_tried set script k now at n id s next here e =
    let t = tried_at set script k now at n id s next here e in
    record {
      whose = t.whose;
      header = t.header;
      cipher = t.cipher;
      tag = t.tag;
      is = use_at set script k now at n id s next here e (Tries t.whose 0x54 (length t.header ∷ (t.header ++ t.cipher)) t.tag) t.is;
      right = tag_is set.mac (key_held set t.whose) t.header t.cipher t.tag t.right;
      header_is = header_is set n s (step_uses set n (Some s)) t;
      body_is = body_is set n s (step_uses set n (Some s)) t;
    }
