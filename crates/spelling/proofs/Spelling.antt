-- A load: it gives a parish just where the two sheets spell it within its limits, and else the first fault. Assumes nothing.
use Rattle.std.proofs.Common.{◌≡◌, ℕ, List, [], Ok, Err, sym, ap, ◌∙◌, subst, ⊎_elim, arith}
use Rattle.parish.specs.Model.{Model, Sound, no_model}
use Rattle.spelling.specs.declared.counts.Counts.{Counts}
use Rattle.faults.specs.declared.LoadFault.{LoadFault}
use Rattle.spelling.specs.Kinds.{households_kind, links_kind}
use Rattle.spelling.specs.Laws.{Loaded, Faulty, Spells, SheetFails, LoadFails, in_households, in_links, FaultsAreFirst, SpellingIsUnique}
use Rattle.spelling.specs.Lines.{and_then, sheet_read}
use Rattle.spelling.specs.Loads.{loaded, counts_of}
use Rattle.spelling.proofs.Lawful.{households_lawful, links_lawful}
use Rattle.spelling.proofs.Reading.{ok_or_not, and_then_ok, and_then_err, sheet_ok, sheet_err, sheet_back, sheet_fails_back}

no_model_sound : Sound no_model
no_model_sound =
    record {
      few = omega arith;
      weights = λ k d lt. absurd (let z : ⊥ = omega arith in z);
      short = omega arith;
      joined = λ k d lt. absurd (let z : ⊥ = omega arith in z);
    }

pub loaded_ok : (one two : List ℕ) (m : Model) → loaded one two ≡ Ok m → Sound m × Spells one two m
loaded_ok one two m e =
    let both = and_then_ok (sheet_read households_kind no_model one) (λ k. sheet_read links_kind k two) m e in
    let hs = sheet_ok households_kind households_lawful no_model both.0 one no_model_sound both.1 in
    let ls = sheet_ok links_kind links_lawful both.0 m two hs.3 both.2 in
    let is : m ≡ record { households = hs.0; links = ls.0 } = ls.2 ∙ ap (λ k. links_kind.with_more k ls.0) hs.2 in (
      ls.3,
      subst (Spells one two) (sym is) (record { first = hs.1; second = ls.1 }),
    )

pub loaded_err : (one two : List ℕ) (f : LoadFault) → loaded one two ≡ Err f → LoadFails one two f
loaded_err one two f e =
    ⊎_elim
    (λ bad. in_households f (sheet_err households_kind households_lawful no_model one f no_model_sound bad))
    (λ both.
    let hs = sheet_ok households_kind households_lawful no_model both.0 one no_model_sound both.1 in
    in_links f hs.0 hs.1 (subst Sound hs.2 hs.3)
    (subst (λ m. SheetFails links_kind m two f) hs.2 (sheet_err links_kind links_lawful both.0 two f hs.3 both.2)))
    (and_then_err (sheet_read households_kind no_model one) (λ k. sheet_read links_kind k two) f e)

households_alone : (m : Model) → Sound m → Sound (record { households = m.households; links = [] })
households_alone m sound =
    record { few = sound.few; weights = sound.weights; short = omega arith; joined = λ k d lt. absurd (let z : ⊥ = omega arith in z) }

pub loaded_back : (one two : List ℕ) (m : Model) → Sound m → Spells one two m → loaded one two ≡ Ok m
loaded_back one two m sound spells =
    let alone : Model = record { households = m.households; links = [] } in
    ap (λ s. and_then (sheet_read households_kind no_model s) (λ k. sheet_read links_kind k two)) spells.first
    ∙ ap (λ r. and_then r (λ k. sheet_read links_kind k two))
    (sheet_back households_kind households_lawful no_model m.households no_model_sound (households_alone m sound))
    ∙ ap (sheet_read links_kind alone) spells.second
    ∙ sheet_back links_kind links_lawful alone m.links (households_alone m sound) sound

pub load_fails_back : (one two : List ℕ) {f : LoadFault} → LoadFails one two f → loaded one two ≡ Err f
load_fails_back one two (in_households f fails) =
    ap (λ r. and_then r (λ k. sheet_read links_kind k two)) (sheet_fails_back households_kind households_lawful no_model one no_model_sound fails)
load_fails_back one two (in_links f hs whole sound fails) =
    ap (λ s. and_then (sheet_read households_kind no_model s) (λ k. sheet_read links_kind k two)) whole
    ∙ ap (λ r. and_then r (λ k. sheet_read links_kind k two)) (sheet_back households_kind households_lawful no_model hs no_model_sound sound)
    ∙ sheet_fails_back links_kind links_lawful (record { households = hs; links = [] }) two sound fails

pub faults_are_first : FaultsAreFirst
faults_are_first one two f = (loaded_err one two f, load_fails_back one two)

pub spelling_is_unique : SpellingIsUnique
spelling_is_unique one two m n sm sn spells-m spells-n =
    let a = loaded_back one two m sm spells-m in
    let b = loaded_back one two n sn spells-n in
    cc

-- what a load means, where it succeeds and where it does not
pub load_good : (one two : List ℕ) (m : Model) (c : Counts) → loaded one two ≡ Ok m → c ≡ counts_of m → Loaded one two m c
load_good one two m c e counted =
    let good = loaded_ok one two m e in
    record {
      is = e;
      counted = counted;
      sound = good.0;
      spells = good.1;
      only = λ k sound spells. let back = loaded_back one two k sound spells in cc;
    }

pub load_bad : (one two : List ℕ) (f : LoadFault) → loaded one two ≡ Err f → Faulty one two f
load_bad one two f e =
    record {
      is = e;
      first = loaded_err one two f e;
      none = λ k sound spells. ok_or_not k f (sym (loaded_back one two k sound spells) ∙ e);
    }
