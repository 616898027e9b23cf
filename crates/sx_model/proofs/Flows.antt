-- What an event's acts come to, as what is sent and what is emitted.
use Rattle.std.proofs.Common.{◌≡◌, ℕ, ◌+◌, Bool, true, false, List, [], ◌∷◌, ◌++◌, length, Option, Some, None, slice_get, nat_lt, if◌then◌else◌, refl, sym, ap}
use Rattle.std.proofs.Common.{◌∙◌, append_assoc, add_assoc, add-zero, zero-add}
use Rattle.std.proofs.lemmas.List.{append-nil}
use Rattle.std.specs.Option.{option_to_list}
use Rattle.sx_lang.specs.Tree.{ModuleTree}
use Rattle.sx_mean.specs.declared.events.Act.{Act}
use Rattle.sx_mean.specs.declared.events.Act.TheVariants.{Send, Emit}
use Rattle.sx_mean.specs.declared.events.End.{End}
use Rattle.sx_mean.specs.declared.events.SourceEvent.{SourceEvent}
use Rattle.sx_mean.specs.React.{react}
use Rattle.sx_model.specs.declared.sendings.Sending.{Sending}
use Rattle.sx_model.specs.State.{EndView, Pending, Present}
use Rattle.sx_model.specs.Reaction.{Flow, MOST_SENT, after_event, all_done, done, field_of, flow_of, sends, sent_over, sent_to}
use Rattle.sx_model.specs.Sendings.{act_to_send, all_to_send, emits_of, emits_of_act, has_room, owed_of, sending_of, sent_one, sent_pieces, sent_words, to_send, with_word}

-- a flow after sendings and emits
abbrev flowed : List Sending → List ℕ → Flow → Flow
flowed xs emits f = record { sent = sent_words xs f.sent; emits = f.emits ++ emits; pieces = f.pieces + sent_pieces xs f.sent }

words_append : (xs ys : List Sending) (ss : List (List ℕ)) → sent_words (xs ++ ys) ss ≡ sent_words ys (sent_words xs ss)
words_append [] ys ss = refl
words_append (x ∷ xs) ys ss = words_append xs ys (sent_one x ss)

pieces_append : (xs ys : List Sending) (ss : List (List ℕ)) → sent_pieces (xs ++ ys) ss ≡ sent_pieces xs ss + sent_pieces ys (sent_words xs ss)
pieces_append [] ys ss = sym (zero-add (sent_pieces ys ss))
pieces_append (x ∷ xs) ys ss =
    let first = if has_room (slice_get ss x.field) then 1 else 0 in
    ap (λ n. first + n) (pieces_append xs ys (sent_one x ss)) ∙ sym (add_assoc first (sent_pieces xs (sent_one x ss)) (sent_pieces ys (sent_words xs (sent_one x ss))))

flow_is : (f : Flow) (sent : List (List ℕ)) (emits : List ℕ) (pieces : ℕ) → f.sent ≡ sent → f.emits ≡ emits → f.pieces ≡ pieces →
    f ≡ record { sent = sent; emits = emits; pieces = pieces }
flow_is f sent emits pieces a b c =
    let first : Flow = record { sent = sent; emits = f.emits; pieces = f.pieces } in
    let second : Flow = record { sent = sent; emits = emits; pieces = f.pieces } in
    let third : Flow = record { sent = sent; emits = emits; pieces = pieces } in
    let one : f ≡ first = ap (λ s. record { sent = s; emits = f.emits; pieces = f.pieces }) a in
    let two : first ≡ second = ap (λ e. record { sent = sent; emits = e; pieces = f.pieces }) b in
    let three : second ≡ third = ap (λ p. record { sent = sent; emits = emits; pieces = p }) c in
    one ∙ two ∙ three

flowed_append : (xs ys : List Sending) (a b : List ℕ) (f : Flow) → flowed ys b (flowed xs a f) ≡ flowed (xs ++ ys) (a ++ b) f
flowed_append xs ys a b f =
    flow_is (flowed ys b (flowed xs a f)) (sent_words (xs ++ ys) f.sent) (f.emits ++ (a ++ b)) (f.pieces + sent_pieces (xs ++ ys) f.sent)
    (sym (words_append xs ys f.sent)) (append_assoc f.emits a b)
    (add_assoc f.pieces (sent_pieces xs f.sent) (sent_pieces ys (sent_words xs f.sent)) ∙ ap (λ n. f.pieces + n) (sym (pieces_append xs ys f.sent)))

flowed_none : (f : Flow) → f ≡ flowed [] [] f
flowed_none f = flow_is f f.sent (f.emits ++ []) (f.pieces + 0) refl (sym (append-nil f.emits)) (sym (add-zero f.pieces))

-- one word
over_room : (c v : ℕ) (ws : List ℕ) (b : Bool) (f : Flow) → nat_lt (length ws) MOST_SENT ≡ b →
    sent_over c v (Some ws) f ≡ record { sent = with_word c v (Some ws) f.sent; emits = f.emits ++ []; pieces = f.pieces + ((if has_room (Some ws) then 1 else 0) + 0) }
over_room c v ws true f e = rw e (flow_is _ _ _ _ refl (sym (append-nil f.emits)) refl)
over_room c v ws false f e = rw e (flow_is _ _ _ _ refl (sym (append-nil f.emits)) (sym (add-zero f.pieces)))

over_is : (c v : ℕ) (o : Option (List ℕ)) (f : Flow) →
    sent_over c v o f ≡ record { sent = with_word c v o f.sent; emits = f.emits ++ []; pieces = f.pieces + ((if has_room o then 1 else 0) + 0) }
over_is c v None f = flow_is f f.sent (f.emits ++ []) (f.pieces + 0) refl (sym (append-nil f.emits)) (sym (add-zero f.pieces))
over_is c v (Some ws) f = over_room c v ws (nat_lt (length ws) MOST_SENT) f refl

end_sends : (e : End) (view : EndView) (output v : ℕ) (b : Bool) (f : Flow) → sends output e view ≡ b →
    (if b then sent_over (field_of e view) v (slice_get f.sent (field_of e view)) f else f) ≡ flowed (option_to_list (if b then Some (record { field = field_of e view; value = v }) else None)) [] f
end_sends e view output v true f is = over_is (field_of e view) v (slice_get f.sent (field_of e view)) f
end_sends e view output v false f is = flowed_none f

sent_is : (es : List End) (views : List EndView) (output v : ℕ) (f : Flow) → sent_to es views output v f ≡ flowed (to_send es views output v) [] f
sent_is [] views output v f = flowed_none f
sent_is (e ∷ es) [] output v f = flowed_none f
sent_is (e ∷ es) (view ∷ views) output v f =
    ap (λ g. sent_to es views output v g) (end_sends e view output v (sends output e view) f refl)
    ∙ sent_is es views output v (flowed (option_to_list (sending_of e view output v)) [] f)
    ∙ flowed_append (option_to_list (sending_of e view output v)) (to_send es views output v) [] [] f

act_is : (es : List End) (views : List EndView) (a : Act) (f : Flow) → done es views a f ≡ flowed (act_to_send es views a) (emits_of_act a) f
act_is es views (Send output v) f = sent_is es views output v f
act_is es views (Emit v) f = flow_is _ _ _ _ refl refl (sym (add-zero f.pieces))

acts_are : (es : List End) (views : List EndView) (acts : List Act) (f : Flow) → all_done es views acts f ≡ flowed (all_to_send es views acts) (emits_of acts) f
acts_are es views [] f = flowed_none f
acts_are es views (a ∷ acts) f =
    ap (λ g. all_done es views acts g) (act_is es views a f)
    ∙ acts_are es views acts (flowed (act_to_send es views a) (emits_of_act a) f)
    ∙ flowed_append (act_to_send es views a) (all_to_send es views acts) (emits_of_act a) (emits_of acts) f

-- what an event's acts come to
flow_sent : (tree : ModuleTree) (es : List End) (e : SourceEvent) (p : Present) (ss : List (List ℕ)) →
    (flow_of tree es e p ss).sent ≡ sent_words (all_to_send es p.ends (react tree e p.cells).acts) ss
flow_sent tree es e p ss = ap (λ f. f.sent) (acts_are es p.ends (react tree e p.cells).acts (record { sent = ss; emits = []; pieces = 0 }))

flow_event : (tree : ModuleTree) (es : List End) (e : SourceEvent) (p : Present) (ss : List (List ℕ)) →
    after_event tree e (flow_of tree es e p ss) p ≡ record {
      cells = (react tree e p.cells).cells;
      ends = p.ends;
      pending = Some (record {
        emits = emits_of (react tree e p.cells).acts;
        pieces = sent_pieces (all_to_send es p.ends (react tree e p.cells).acts) ss;
      });
    }
flow_event tree es e p ss =
    ap (λ f. after_event tree e f p) (acts_are es p.ends (react tree e p.cells).acts (record { sent = ss; emits = []; pieces = 0 }))
    ∙ ap (λ n. record { cells = (react tree e p.cells).cells; ends = p.ends; pending = Some (record { emits = emits_of (react tree e p.cells).acts; pieces = n }) })
    (zero-add (sent_pieces (all_to_send es p.ends (react tree e p.cells).acts) ss))

-- the same of what was done, where these are the module's cells and ends
pub reacted_sent : (tree : ModuleTree) (es : List End) (e : SourceEvent) (p : Present) (cells : List ℕ) (views : List EndView) (ss new : List (List ℕ)) → cells ≡ p.cells → views ≡ p.ends →
    new ≡ sent_words (all_to_send es views (react tree e cells).acts) ss → new ≡ (flow_of tree es e p ss).sent
reacted_sent tree es e p cells views ss new held same is =
    is
    ∙ ap (λ ws. sent_words (all_to_send es views (react tree e ws).acts) ss) held
    ∙ ap (λ vs. sent_words (all_to_send es vs (react tree e p.cells).acts) ss) same
    ∙ sym (flow_sent tree es e p ss)

pub reacted_event : (tree : ModuleTree) (es : List End) (e : SourceEvent) (p : Present) (cells : List ℕ) (views : List EndView) (left : List ℕ) (owed : Pending) (ss : List (List ℕ)) → cells ≡ p.cells →
    views ≡ p.ends → left ≡ (react tree e cells).cells → owed ≡ owed_of tree es e cells views ss →
    record { cells = left; ends = p.ends; pending = Some owed } ≡ after_event tree e (flow_of tree es e p ss) p
reacted_event tree es e p cells views left owed ss held same made is =
    let after : List ℕ → Pending → Present = λ ws o. record { cells = ws; ends = p.ends; pending = Some o } in
    ap (λ ws. after ws owed) (made ∙ ap (λ ws. (react tree e ws).cells) held)
    ∙ ap (λ o. after (react tree e p.cells).cells o) (is ∙ ap (λ ws. owed_of tree es e ws views ss) held ∙ ap (λ vs. owed_of tree es e p.cells vs ss) same)
    ∙ sym (flow_event tree es e p ss)
