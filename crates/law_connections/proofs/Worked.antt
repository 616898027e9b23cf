-- The worked case meets the premises: its text and its lines are read by computing.
use Rattle.std.proofs.Common.{◌≡◌, ℕ, ◌≤◌, List, [], ◌∷◌, ◌++◌, length, map, codes, Result, Ok, Err, refl, sym, ap, subst, arith}
use Rattle.sx_io.specs.Numbers.{number_of}
use Rattle.sx_tag.specs.Mac.{Mac, IsTag}
use Rattle.sx_trace.specs.Names.{NameLists}
use Rattle.sx_asm.specs.Assembled.{assembled}
use Rattle.sx_sched.specs.Lines.{Line}
use Rattle.sx_sched.specs.Words.{words_of}
use Rattle.sx_sched.specs.Reading.{said_line}
use Rattle.sx_sched.proofs.Form.{said_in_form}
use Rattle.sx_entries.specs.Fault.{◌>>=◌}
use Rattle.sx_entries.specs.declared.fault.DeployFault.{DeployFault}
use Rattle.sx_entries.specs.Entries.{EntryLists}
use Rattle.sx_mean.specs.declared.apps.Link.{Link}
use Rattle.sx_deploy.specs.Sources.{Coded}
use Rattle.sx_deploy.specs.Checks.{checked_all}
use Rattle.sx_deploy.specs.Ties.{app_device, links_of}
use Rattle.sx_deploy.specs.Places.{placements_of}
use Rattle.sx_deploy.specs.declared.placing.Placement.{Placement}
use Rattle.sx_deploy.specs.Deployment.{Deployed, IsRead, IsFrom, arranged, deployed}
use Rattle.sx_deploy.proofs.Sound.{sound}
use Rattle.sx_bulk.specs.Bulk.{head, setup}
use Rattle.sx_bulk.specs.Laws.{names}
use Rattle.sx_bulk.proofs.Accepts.{accepted}
use Rattle.sx_bulk.proofs.Entries.{entries, counted}
use Rattle.spec_run.specs.Accepted.{AreImages, setting_of, sites_of}
use Rattle.spec_run.specs.AcceptedLaw.{AreLines}
use Rattle.spec_run.proofs.accepted.Settled.{lawfully}
use Rattle.spec_run.proofs.accepted.FormedLines.{lines_in_form}
use Rattle.law_forgery.proofs.Naming.{names_agree}
use Rattle.law_forgery.proofs.Tabling.{tags_tabled}
use Rattle.law_connections.specs.Worked.{lighting_lines, Meets, LightingMeets}

-- the lines of the schedule, without its comments
texts : List (List ℕ)
texts =
    setup ++ codes "sense light 120" ∷ codes "call eye 3 0x300 0x400" ∷ codes "take a 0x400 24"
    ∷ codes "give 10 a 0x300" ∷ codes "call logic 2 0x300 0x400" ∷ codes "take a 0x400 24"
    ∷ codes "give 11 b 0x300" ∷ codes "call lamp 2 0x300 0x400" ∷ []

said : map (said_line assembled names) texts ≡ map (λ (x : Line). Ok x) lighting_lines
unfolding texts setup said_line words_of names number_of
said = refl

-- lines that are said are in form
are_lines : (n : NameLists) (ts : List (List ℕ)) (xs : List Line) → map (said_line assembled n) ts ≡ map (λ (x : Line). Ok x) xs → AreLines n xs
are_lines n [] [] e = tt
are_lines n [] (x ∷ xs) e = absurd cc
are_lines n (t ∷ ts) [] e = absurd cc
are_lines n (t ∷ ts) (x ∷ xs) e =
    let here : said_line assembled n t ≡ Ok x = cc in
    let more : map (said_line assembled n) ts ≡ map (λ (x : Line). Ok x) xs = cc in
    (said_in_form n t x here, are_lines n ts xs more)

few : length lighting_lines ≤ 65536
few = omega arith

-- the secret is that of the text's entries
of_placements : (e : EntryLists) (modules : List Coded) (links : List Link) (d : Deployed) (r : Result (List Placement) DeployFault)
    → ◌≡◌ {A = Result Deployed DeployFault} (Ok d) (r >>= (λ placements. Ok (arranged e modules links placements))) → d.secret ≡ e.secret
of_placements e modules links d (Err f) h = absurd cc
of_placements e modules links d (Ok placements) h =
    let same : d ≡ arranged e modules links placements = cc in ap (λ (z : Deployed). z.secret) same

of_links : (e : EntryLists) (modules : List Coded) (d : Deployed) (r : Result (List Link) DeployFault)
    → ◌≡◌ {A = Result Deployed DeployFault} (Ok d) (r >>= (λ links. placements_of e.devices links modules >>= (λ placements. Ok (arranged e modules links placements)))) → d.secret ≡ e.secret
of_links e modules d (Err f) h = absurd cc
of_links e modules d (Ok links) h = of_placements e modules links d (placements_of e.devices links modules) h

of_checked : (e : EntryLists) (d : Deployed) (r : Result (List Coded) DeployFault)
    → ◌≡◌ {A = Result Deployed DeployFault} (Ok d) (r >>= (λ modules. links_of (map app_device e.devices) modules e.links
    >>= (λ links. placements_of e.devices links modules >>= (λ placements. Ok (arranged e modules links placements))))) → d.secret ≡ e.secret
of_checked e d (Err f) h = absurd cc
of_checked e d (Ok modules) h = of_links e modules d (links_of (map app_device e.devices) modules e.links) h

of_coded : (e : EntryLists) (d : Deployed) (r : Result (List Coded) DeployFault) → ◌≡◌ {A = Result Deployed DeployFault} (Ok d) (r >>= deployed e) → d.secret ≡ e.secret
of_coded e d (Err f) h = absurd cc
of_coded e d (Ok modules) h = of_checked e d (checked_all modules) h

-- Any deployment that is read so, by these names.
module _ (d : Deployed) (read : IsRead head (Ok d)) (named : d.names ≡ names) where
  in_form : AreLines d.names lighting_lines
  in_form = subst (λ (n : NameLists). AreLines n lighting_lines) (sym named) (are_lines names texts lighting_lines said)

  long : length d.secret ≡ 16
  unfolding entries
  long =
      let from = subst (λ r. IsFrom r (Ok d)) counted read in
      ap length (of_coded entries d from.coded from.comes)

  meets : (mac : Mac) (images : List (List ℕ)) → IsTag mac → AreImages mac d images → Meets (setting_of mac d images) lighting_lines
  meets mac images lawful are =
      let set = setting_of mac d images in
      let accepts = sound head d read in
      let t = tags_tabled set in
      record {
        sound = lawfully mac d images accepts are lawful;
        form = lines_in_form mac d (sites_of d.app.parts d.layouts d.providers images) accepts lighting_lines in_form;
        few = few;
        names = (t.0, names_agree t.0 set long t.1);
      }

pub lighting_meets : LightingMeets
lighting_meets = let a = accepted in (a.0, a.1, in_form a.0 a.1 a.2, meets a.0 a.1 a.2)
