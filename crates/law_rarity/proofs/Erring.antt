-- A distinguisher seldom takes a random table for the key tree.
use Rattle.std.proofs.Common.{◌≡◌, ℕ, zero, suc, ◌^◌, ◌<◌, ◌==◌, ◌⊎◌, inl, inr, Bool, true, false, cond, List, [], ◌∷◌, ◌++◌, length, drop, Option, Some, None, refl, sym, ◌∙◌, ap, subst, arith}
use Rattle.std.specs.Prelude.{slice_get}
use Rattle.std.proofs.lemmas.Bool.{true≢false, eqb-true}
use Rattle.sx_trace.specs.declared.items.Item.{Item}
use Rattle.sx_trace.specs.declared.items.Item.TheVariants as item
use Rattle.sx_tag.specs.Mac.{Mac}
use Rattle.sx_model.specs.Legal.{is_forged}
use Rattle.spec_run.specs.Setting.{Setting, Site}
use Rattle.spec_run.specs.State.{World, Acted, switched_on}
use Rattle.spec_run.specs.Run.{run}
use Rattle.spec_run.specs.Law.{IsSoundSetting}
use Rattle.spec_run.proofs.tie.Lists.{some_inj, get_within}
use Rattle.law_isolation.specs.Happening.{done}
use Rattle.law_isolation.specs.Script.{Script, End, Do, looks, performed}
use Rattle.law_isolation.specs.Lines.{script_of}
use Rattle.law_isolation.proofs.Guarding.{on_placed}
use Rattle.law_isolation.proofs.Performing.{is_performed}
use Rattle.law_forgery.specs.Moments.{Moment, moment_from, shown_at, IsAmong, NoForged}
use Rattle.law_forgery.specs.Named.{code, looked, named, named_setting}
use Rattle.law_forgery.specs.Forgery.{key_at}
use Rattle.law_forgery.proofs.Scripts.{runs_keys_unseen}
use Rattle.law_forgery.proofs.Naming.{names_agree}
use Rattle.law_uses.specs.Hit.{IsFreshHit, warned, is_of_module}
use Rattle.law_uses.proofs.Hit.{warned_behind, hits_fresh}
use Rattle.law_forgery.proofs.Forging.{forged_is}
use Rattle.law_counting.specs.Counting.{IsTable}
use Rattle.law_makers.specs.Makers.{Made, made}
use Rattle.law_makers.proofs.Making.{makers_see_the_same}
use Rattle.law_makers.proofs.NamedSound.{named_is_sound}
use Rattle.law_rarity.specs.Tables.{Entry, bytes_of, tabled, with_tags}
use Rattle.law_rarity.specs.Rare.{HitsAt}
use Rattle.law_rarity.specs.Covering.{all_entries}
use Rattle.law_rarity.specs.Erring.{forges_of_module, module_distinguisher, ForgersAreTold, DistinguisherSeldomErrs}
use Rattle.law_rarity.proofs.Entries.{has, has_parts, tabled_others}
use Rattle.law_rarity.proofs.Covering.{all_cover, all_have_boots}
use Rattle.law_rarity.proofs.Extending.{moment_before}
use Rattle.law_rarity.proofs.Names.{named_has_names, names_short, is_tried_at}
use Rattle.law_rarity.proofs.Tabled.{with_tags_sound}
use Rattle.spec_run.specs.Accepted.{setting_of, sites_of}
use Rattle.spec_run.proofs.accepted.Settled.{settled}
use Rattle.spec_run.proofs.accepted.FormedLines.{lines_in_form}
use Rattle.sx_deploy.proofs.Sound.{sound as whole_deployment}
use Rattle.law_rarity.specs.Accepted.{AcceptedSeldomErrs}
use Rattle.law_rarity.proofs.Lasting.{few_moments, low_answers}
use Rattle.law_rarity.proofs.Rare.{made_long, forgeries_are_rare}

-- Over the tags of the key tree.

pub forgers_are_told : ForgersAreTold
forgers_are_told set make n oracle long has_tags =
    let b = named_setting oracle set in
    let agree = names_agree oracle set long has_tags in
    sym (ap (λ (items : List Item). is_of_module (warned items)) (runs_keys_unseen set b (made set make n).lines agree).0
    ∙ ap (λ (m : Made). is_of_module (warned (run b (switched_on b) m.lines).items)) (makers_see_the_same set b make n agree))

-- The moment that shows the first `forged`, and the items from there on.

first_among : (items : List Item) → ((who : Option ℕ) × IsAmong (item.Forged who) items) ⊎ NoForged items
first_among [] = inr (λ who a. a)
first_among (i ∷ items) = by (is_forged i) refl (first_among items)
  where
    by : (b : Bool) → is_forged i ≡ b → ((who : Option ℕ) × IsAmong (item.Forged who) items) ⊎ NoForged items
        → ((who : Option ℕ) × IsAmong (item.Forged who) (i ∷ items)) ⊎ NoForged (i ∷ items)
    by true e rest = let n = forged_is i e in inl (n.0, inl n.1)
    by false e (inl f) = inl (f.0, inr f.1)
    by false e (inr none) = inr (λ who a. elim a [ inl same ↦ true≢false (sym (ap is_forged same) ∙ e) | inr more ↦ none who more ])

record Found (set : Setting) (script : Script) (w : World) : Type 0 where
  k : ℕ
  now : Moment
  at : moment_from set k script w ≡ Some now
  who : Option ℕ
  shown : IsAmong (item.Forged who) (shown_at set now)
  first : (j : ℕ) (past : Moment) → j < k → moment_from set j script w ≡ Some past → NoForged (shown_at set past)
  more : List Item
  warns : is_of_module (warned (shown_at set now ++ more)) ≡ true

find : (set : Setting) (script : Script) (w : World) → is_of_module (warned (performed set script w).items) ≡ true → Found set script w
find set End w h = absurd (true≢false (sym h))
find set (Do x rest) w h =
    let v = done set x w in
    let after = (performed set (rest (looks v.world)) v.world).items in
    elim (first_among v.items) [
      | inl f ↦ record {
        k = 0;
        now = record { next = x; world = w };
        at = refl;
        who = f.0;
        shown = f.1;
        first = λ j past lt g. absurd (omega (arith, lt));
        more = after;
        warns = h;
      }
      | inr none ↦
          let f = find set (rest (looks v.world)) v.world (ap is_of_module (sym (warned_behind v.items after none)) ∙ h) in
          record {
            k = suc f.k;
            now = f.now;
            at = f.at;
            who = f.who;
            shown = f.shown;
            first = earlier none f;
            more = f.more;
            warns = f.warns;
          }
    ]
  where
    earlier : NoForged (done set x w).items → (f : Found set (rest (looks (done set x w).world)) (done set x w).world)
        → (j : ℕ) (past : Moment) → j < suc f.k → moment_from set j (Do x rest) w ≡ Some past → NoForged (shown_at set past)
    earlier none f zero past lt g = subst (λ (z : Moment). NoForged (shown_at set z)) (some_inj (record { next = x; world = w }) past g) none
    earlier none f (suc j) past lt g = f.first j past (omega (arith, lt)) g

-- A table under names.

module _ (set : Setting) (base : Mac) (es : List Entry) (t : List ℕ) where
  abbrev bare_names : Setting
  bare_names = named_setting base set

  -- no entry's key is as long as one that code holds
  none_held : (xs : List Entry) (vs : List ℕ) (key message : List ℕ) → length key ≡ 16 → tabled bare_names xs vs key message ≡ bare_names.mac key message
  none_held [] vs key message long = refl
  none_held (e ∷ xs) [] key message long = refl
  none_held (e ∷ xs) (v ∷ vs) key message long = by (has bare_names e key message) refl (none_held xs vs key message long)
    where
      short : (o : Option Site) → slice_get bare_names.sites e.m ≡ o → length (key_at bare_names e.boot o) ≡ 16 → ⊥
      short None g h = let z : 0 ≡ 16 = h in absurd (omega (arith, z))
      short (Some site) g h = names_short bare_names (named_has_names set base) site e.boot h

      by : (b : Bool) → has bare_names e key message ≡ b → tabled bare_names xs vs key message ≡ bare_names.mac key message → cond b (bytes_of 16 v ++ drop 16 (bare_names.mac key message)) (tabled bare_names xs vs key message) ≡ bare_names.mac key message
      by true f h = absurd (short (slice_get bare_names.sites e.m) refl (sym (ap length (has_parts bare_names e key message f).0) ∙ long))
      by false f h = h

  same_tags : (key message : List ℕ) → named (tabled bare_names es t) set.mac key message ≡ tabled bare_names es t key message
  same_tags key message = by (length key == 16) refl message
    where
      by : (b : Bool) → (length key == 16) ≡ b → (message : List ℕ) → cond b (set.mac key message) (looked (tabled bare_names es t) key message) ≡ tabled bare_names es t key message
      by true e message =
          ap (λ (b : Bool). cond b (set.mac key message) (looked base key message)) (sym e)
          ∙ sym (none_held es t key message (eqb-true (length key) 16 e))
      by false e [] = refl
      by false e (kind ∷ rest) = derived (kind == 0x4B) refl
        where
          derived : (c : Bool) → (kind == 0x4B) ≡ c → cond c (key ++ code rest ∷ []) (tabled bare_names es t key (kind ∷ rest)) ≡ tabled bare_names es t key (kind ∷ rest)
          derived false f = refl
          derived true f =
              ap (λ (b : Bool). cond b (key ++ code rest ∷ []) (base key (kind ∷ rest))) (sym f)
              ∙ ap (λ (b : Bool). cond b (set.mac key (kind ∷ rest)) (looked base key (kind ∷ rest))) (sym e)
              ∙ sym (tabled_others bare_names es t key kind rest (λ z. let y : 0x4B ≡ 0x54 = sym (eqb-true kind 0x4B f) ∙ z in absurd (omega (arith, y))))

  pub same_setting : named_setting (tabled bare_names es t) set ≡ with_tags bare_names es t
  same_setting = ap (λ (mac : Mac). record bare_names { mac = mac }) (λ i key message. same_tags key message i)

pub distinguisher_seldom_errs : DistinguisherSeldomErrs
distinguisher_seldom_errs set base make n q sound always tag long few keeps le =
    forgeries_are_rare names es make n q whole always (named_has_names set base) (all_have_boots (length set.app.parts)) few (λ t table. (keeps t table).range) le
    (λ t. module_distinguisher set make n (tabled names es t)) hits
  where
    names : Setting
    names = named_setting base set

    es : List Entry
    es = all_entries (length set.app.parts)

    whole : IsSoundSetting names
    whole = named_is_sound set base sound always tag long

    hits : (t : List ℕ) → IsTable (length es) (2 ^ 128) t → module_distinguisher set make n (tabled names es t) ≡ true
        → HitsAt es (with_tags names es t) (made (with_tags names es t) make n).lines q
    hits t table h =
        let b = with_tags names es t in
        let lines = (made b make n).lines in
        let range = (keeps t table).range in
        let sound_too = with_tags_sound names whole always es t in
        let f = find b (script_of b lines) (switched_on b)
        (ap (λ (r : Acted). is_of_module (warned r.items)) (sym (is_performed b lines (switched_on b) (on_placed b)))
        ∙ sym (ap (λ (s : Setting). forges_of_module s make n) (same_setting set base es t)) ∙ h) in
        let hit : IsFreshHit b lines f.k f.now = hits_fresh b sound_too lines range.form f.k f.now f.who (record { at = f.at; shown = f.shown; first = f.first }) f.more f.warns in
        let rest = length hit.header ∷ (hit.header ++ hit.cipher) in
        let m_low : hit.m < length set.app.parts = (let l = get_within set.sites hit.m hit.site hit.sited in let s = sound.sites in omega (arith, l, s)) in
        let tried = is_tried_at b sound_too lines range (let l = made_long b make n in omega (arith, l, few)) f.k f.now f.at hit.site hit.boot rest hit.tag hit.is in
        let there = all_cover (length set.app.parts) hit.m hit.boot rest m_low tried.low tried.long tried.bytes in
        record {
          k = f.k;
          soon = moment_before b lines f.k q f.now (keeps t table).ends f.at;
          now = f.now;
          at = f.at;
          hit = hit;
          i = there.0;
          there = there.1;
        }

-- An accepted deployment.

pub accepted_seldom_errs : AcceptedSeldomErrs
accepted_seldom_errs text d read long mac base texts lawful tag images always make n few lines =
    let acc = whole_deployment text d read in
    let set = setting_of mac d texts in
    let sound = settled mac d texts acc images lawful in
    let names = named_setting base set in
    let es = all_entries (length d.app.parts) in
    distinguisher_seldom_errs set base make n (2 ^ 37) sound always tag long few (λ t table.
    let s = with_tags names es t in
    let whole = with_tags_sound names (named_is_sound set base sound always tag long) always es t in
    let ls = (made s make n).lines in
    let size = made_long s make n in
    record {
      range = record {
        form = lines_in_form mac d (sites_of d.app.parts d.layouts d.providers texts) acc ls (lines t table);
        boots = low_answers s whole d.names ls (lines t table);
      };
      ends = few_moments s whole d.names ls (lines t table) (omega (arith, size, few));
    }) (omega arith)
