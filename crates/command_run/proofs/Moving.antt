-- Where the images of an accepted deployment are the compiler's, they hide keys, and there are settings with any other keys of connections.
use Rattle.std.proofs.Common.{◌≡◌, ◌∙◌, ℕ, zero, suc, ◌+◌, ◌<◌, ◌≤◌, ◌==◌, Bool, true, false, cond, List, [], ◌∷◌, length, Some, None, Ok, sym, ap, arith}
use Rattle.std.specs.Prelude.{All, slice_get}
use Rattle.std.specs.List.{cons_option}
use Rattle.std.proofs.lemmas.List.Elements.{All-nil, All-cons}
use Rattle.sx_lang.specs.declared.sides.Side.TheVariants.{From, To}
use Rattle.sx_rules.specs.declared.section.Layout.{Layout}
use Rattle.sx_tag.specs.Mac.{Mac, IsTag}
use Rattle.sx_mean.specs.Application.{PartTree}
use Rattle.sx_mean.specs.Ends.{ends_after, ends_of}
use Rattle.sx_mean.specs.declared.apps.Link.{Link}
use Rattle.sx_mean.specs.declared.events.End.{End}
use Rattle.sx_deploy.specs.Deployment.{Deployed, IsRead}
use Rattle.sx_deploy.specs.Law.{IsSoundDeployment}
use Rattle.sx_deploy.proofs.Sound.{sound}
use Rattle.sx_compile.specs.Compiled.{compiled_text}
use Rattle.spec_run.specs.Setting.{Site}
use Rattle.spec_run.specs.Accepted.{AreImages, setting_of}
use Rattle.spec_run.proofs.accepted.LaidSites.{site_at}
use Rattle.spec_run.proofs.accepted.Settled.{lawfully}
use Rattle.spec_run.proofs.tie.Lists.{some_inj}
use Rattle.law_connections.specs.Compiles.{IsCompiledAt}
use Rattle.law_connections.specs.Laws.{HidesKeys}
use Rattle.law_connections.specs.Unlinks.{HasMoved}
use Rattle.law_connections.proofs.Compiling.{compiled_always}
use Rattle.law_connections.proofs.Finding.{unlinks_all}
use Rattle.command_world.specs.Built.{texts_from}
use Rattle.command_world.specs.Compiled.{compiled_texts}
use Rattle.command_world.proofs.Building.{few_ends, few_packets, has_sections}

-- numbers of connections are bytes
Small : List End → Type 0
Small es = All (λ (e : End). e.link < 256) es

with_end : (b : Bool) (e : End) (es : List End) → e.link < 256 → Small es → Small (cons_option (cond b (Some e) None) es)
unfolding Small
with_end true e es lt h = All-cons (λ (e : End). e.link < 256) e es lt h
with_end false e es lt h = h

small_links : (n p : ℕ) (ls : List Link) → n + length ls ≤ 256 → Small (ends_after n p ls)
unfolding Small
small_links n p [] h = All-nil (λ (e : End). e.link < 256)
small_links n p (l ∷ ls) h =
    let rest = with_end (l.to == p) (record { link = n; side = To; port = l.input }) (ends_after (n + 1) p ls) (omega (arith, h)) (small_links (n + 1) p ls (omega (arith, h))) in
    with_end (l.from == p) (record { link = n; side = From; port = l.output }) _ (omega (arith, h)) rest

-- the texts that the compiler makes, by their indices
text_made : (d : Deployed) (p : ℕ) (qs : List PartTree) (ls : List Layout) (m : ℕ) (q : PartTree) (l : Layout) (text : List ℕ) → slice_get qs m ≡ Some q → slice_get ls m ≡ Some l
    → slice_get (texts_from d p qs ls) m ≡ Some text → text ≡ compiled_text l q.tree (ends_of d.app (p + m))
text_made d p [] ls m q l text a b c = absurd (cc a)
text_made d p (x ∷ qs) [] m q l text a b c = absurd (cc b)
text_made d p (x ∷ qs) (y ∷ ls) zero q l text a b c =
    let here : p ≡ p + 0 = omega arith in
    sym (some_inj _ text c) ∙ ap (λ (z : Layout). compiled_text z x.tree (ends_of d.app p)) (some_inj y l b)
    ∙ ap (λ (z : PartTree). compiled_text l z.tree (ends_of d.app p)) (some_inj x q a) ∙ ap (λ (n : ℕ). compiled_text l q.tree (ends_of d.app n)) here
text_made d p (x ∷ qs) (y ∷ ls) (suc m) q l text a b c =
    let next : p + 1 + m ≡ p + suc m = omega arith in
    text_made d (p + 1) qs ls m q l text a b c ∙ ap (λ (n : ℕ). compiled_text l q.tree (ends_of d.app n)) next

module _ (mac : Mac) (d : Deployed) (texts : List (List ℕ)) (acc : IsSoundDeployment d) (made : texts ≡ compiled_texts d) where
  compiled_at : (m : ℕ) (q : PartTree) (site : Site) → slice_get d.app.parts m ≡ Some q → slice_get (setting_of mac d texts).sites m ≡ Some site
      → IsCompiledAt (setting_of mac d texts) m q site
  unfolding compiled_texts Small
  compiled_at m q site part found =
      let r = site_at d.app.parts d.layouts d.providers texts m site found in
      let ends = ends_of d.app m in
      let few = acc.few_links in
      let at : 0 + m ≡ m = omega arith in
      let text : site.text ≡ compiled_text site.layout q.tree ends =
      text_made d 0 d.app.parts d.layouts m q site.layout site.text part r.layout (ap (λ (ts : List (List ℕ)). slice_get ts m) (sym made) ∙ r.text)
      ∙ ap (λ (n : ℕ). compiled_text site.layout q.tree (ends_of d.app n)) at in
      record {
        is = ap (λ (t : List ℕ). record { text = t; layout = site.layout; provider = site.provider }) text;
        lowerable = record {
          checked = (acc.modules m q part).checked;
          words = (acc.modules m q part).words;
          few_ends = few_ends d m q acc part;
          few_packets = few_packets d m q acc part;
        };
        links = small_links 0 m d.app.links (omega (arith, few));
        sections = has_sections d m q site.layout acc part r.layout;
      }

pub deployed_hides : (mac : Mac) (text : List ℕ) (d : Deployed) (texts : List (List ℕ)) → IsRead text (Ok d) → texts ≡ compiled_texts d → HidesKeys (setting_of mac d texts)
deployed_hides mac text d texts read made = (compiled_always (setting_of mac d texts) (compiled_at mac d texts (sound text d read) made)).1

pub deployed_moved : (mac : Mac) (text : List ℕ) (d : Deployed) (texts : List (List ℕ)) → IsTag mac → IsRead text (Ok d) → AreImages mac d texts → texts ≡ compiled_texts d
    → HasMoved (setting_of mac d texts)
deployed_moved mac text d texts tag read images made =
    let acc = sound text d read in
    unlinks_all (setting_of mac d texts) (lawfully mac d texts acc images tag) (compiled_always (setting_of mac d texts) (compiled_at mac d texts acc made)).0
