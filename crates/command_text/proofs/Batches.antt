-- Texts that are written in parts, one after the other.
use Rattle.std.proofs.Common.{◌≡◌, ◌∙◌, ℕ, Bool, List, [], ◌++◌, refl, sym, ap, subst, append_assoc, Result, Ok, Err}
use Rattle.std.specs.Prelude.{IsTrue, OnOk, OnErr}
use Rattle.std.proofs.lemmas.List.{append-nil}
use Rattle.sx_io.specs.Counts.{next_count}
use Rattle.sx_io.specs.Prefixes.{AppendsPrefix}
use Rattle.sx_io.specs.Reading.{Answer}
use Rattle.sx_io.specs.Streams.{SinkAt}
use Rattle.sx_io.specs.declared.outside.Failed.{Failed}
use Rattle.command_promise.specs.Told.{Output, behind}
use Rattle.command_promise.specs.Parts.{WroteSome}
use Rattle.command_promise.proofs.Laws.{prefix-behind, prefix-more}
use Rattle.command_text.specs.Batch.{Writes, WritesPrefix, WritesUpTo}

-- nothing was written, and all is kept
pub writes_none : (to_tell : Bool) (k : SinkAt) (due : List ℕ) → WritesUpTo to_tell k k due due
writes_none to_tell k due = record { text = []; wrote = λ t. sym (append-nil k.written); parts = refl; no_fault = refl }

-- all was written, and nothing is kept
pub writes_all : {to_tell : Bool} {k0 k1 : SinkAt} (due kept : List ℕ) → (IsTrue to_tell → k1.written ≡ k0.written ++ due) → k1.faults ≡ k0.faults → kept ≡ []
    → WritesUpTo to_tell k0 k1 due kept
writes_all due kept wrote same none = record {
  text = due;
  wrote = wrote;
  parts = ap (λ (t : List ℕ). due ++ t) none ∙ append-nil due;
  no_fault = same;
}

-- more is due, and kept
pub writes_more : {to_tell : Bool} {k0 k1 : SinkAt} {due kept : List ℕ} (more now : List ℕ) → WritesUpTo to_tell k0 k1 due kept → now ≡ kept ++ more
    → WritesUpTo to_tell k0 k1 (due ++ more) now
writes_more {to_tell} {k0} {k1} {due} {kept} more now w e = record {
  text = w.text;
  wrote = w.wrote;
  parts = ap (λ (t : List ℕ). w.text ++ t) e ∙ sym (append_assoc w.text kept more) ∙ ap (λ (t : List ℕ). t ++ more) w.parts;
  no_fault = w.no_fault;
}

pub prefix_more : {to_tell : Bool} {k0 k1 : SinkAt} {due : List ℕ} (more : List ℕ) → WritesPrefix to_tell k0 k1 due → WritesPrefix to_tell k0 k1 (due ++ more)
prefix_more {to_tell} {k0} {k1} {due} more w = record { prefix = λ t. prefix-more k0.written k1.written due more (w.prefix t); fault = w.fault }

-- one part after the other
pub up_to_then : {to_tell : Bool} {k0 k1 k2 : SinkAt} {due kept left : List ℕ} → WritesUpTo to_tell k0 k1 due kept → WritesUpTo to_tell k1 k2 kept left
    → WritesUpTo to_tell k0 k2 due left
up_to_then {to_tell} {k0} {k1} {k2} {due} {kept} {left} a b = record {
  text = a.text ++ b.text;
  wrote = λ t. b.wrote t ∙ ap (λ (v : List ℕ). v ++ b.text) (a.wrote t) ∙ append_assoc k0.written a.text b.text;
  parts = append_assoc a.text b.text left ∙ ap (λ (v : List ℕ). a.text ++ v) b.parts ∙ a.parts;
  no_fault = b.no_fault ∙ a.no_fault;
}

pub prefix_then : {to_tell : Bool} {k0 k1 k2 : SinkAt} {due kept : List ℕ} → WritesUpTo to_tell k0 k1 due kept → WritesPrefix to_tell k1 k2 kept
    → WritesPrefix to_tell k0 k2 due
prefix_then {to_tell} {k0} {k1} {k2} {due} {kept} a b = record {
  prefix = λ t.
      subst (λ (v : List ℕ). AppendsPrefix k0.written k2.written v) a.parts (prefix-behind k0.written k1.written k2.written a.text kept (a.wrote t) (b.prefix t));
  fault = b.fault ∙ ap next_count a.no_fault;
}

-- and a last part
pub writes_then : {to_tell : Bool} {k0 k1 : SinkAt} {due kept : List ℕ} (k2 : SinkAt) (left : List ℕ) (r : Result (Unit {0}) Failed) → WritesUpTo to_tell k0 k1 due kept
    → Writes to_tell k1 k2 kept left r → Writes to_tell k0 k2 due left r
writes_then k2 left (Ok done) a b = up_to_then a b
writes_then k2 left (Err failed) a b = prefix_then a b

-- what a write of a whole text says
pub writes_put : (to_tell : Bool) (k0 k1 : SinkAt) (text : List ℕ) (r : Result (Unit {0}) Failed) → OnOk r (IsTrue to_tell → k1.written ≡ k0.written ++ text)
    → OnErr r (IsTrue to_tell → AppendsPrefix k0.written k1.written text) → OnOk r (k1.faults ≡ k0.faults) → OnErr r (k1.faults ≡ next_count k0.faults)
    → Writes to_tell k0 k1 text [] r
writes_put to_tell k0 k1 text (Ok done) ok failed faultless fault = writes_all text [] ok faultless refl
writes_put to_tell k0 k1 text (Err e) ok failed faultless fault = record { prefix = failed; fault = fault }

-- a batch that was begun with nothing
pub writes_batch : {to_tell : Bool} {k0 k1 : SinkAt} {due : List ℕ} (batch kept text : List ℕ) → batch ≡ [] → text ≡ kept → WritesUpTo to_tell k0 k1 (batch ++ due) kept
    → WritesUpTo to_tell k0 k1 due text
writes_batch {to_tell} {k0} {k1} {due} batch kept text none same w =
    let P : List ℕ → Type 0 = λ t. WritesUpTo to_tell k0 k1 (t ++ due) text in
    let Q : List ℕ → Type 0 = λ t. WritesUpTo to_tell k0 k1 (batch ++ due) t in subst P none (subst Q (sym same) w)

-- all was written: what a part of a command says
pub does_whole : {to_tell : Bool} {k0 k1 : SinkAt} {due : List ℕ} → WritesUpTo to_tell k0 k1 due [] → (left : List Answer → Output)
    → WroteSome to_tell k0 k1 (λ more. behind due (left more)) left
does_whole {to_tell} {k0} {k1} {due} w left = record {
  text = w.text;
  wrote = w.wrote;
  same = λ more. ap (λ (t : List ℕ). behind t (left more)) (sym (sym (append-nil w.text) ∙ w.parts));
  no_fault = w.no_fault;
}

pub whole_text : {to_tell : Bool} {k0 k1 : SinkAt} {due : List ℕ} → WritesUpTo to_tell k0 k1 due [] → IsTrue to_tell → k1.written ≡ k0.written ++ due
whole_text {to_tell} {k0} {k1} {due} w t = w.wrote t ∙ ap (λ (v : List ℕ). k0.written ++ v) (sym (append-nil w.text) ∙ w.parts)
