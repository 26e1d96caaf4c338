-- Both kinds of sheet are lawful. Assumes nothing.
use Rattle.std.proofs.Common.{◌≡◌, ℕ, ◌^◌, ◌<◌, ◌≤◌, Bool, true, not, ◌&&◌, eqb, ltb, leb, List, [], ◌∷◌, ◌++◌, length, get_or, is_some, Some, None, Err, codes, decimal, Option, unwrap_or, sym, refl, ap, ◌∙◌, subst, arith, le-ltb, ne_eqb}
use borrow.Author.Tests.{eqb-false, lt-leb, not-true, clash}
use Rattle.std.proofs.lemmas.Bool.Decides.{nat_tests}
use Rattle.std.proofs.lemmas.Grind.{common_steps}
use Rattle.std.proofs.lemmas.List.{append_assoc, append-nil, get_or_at, length-append, length_push}
use Rattle.std.proofs.lemmas.Bool.{and_parts, or_from}
use Rattle.std.specs.Option.{option_map}
use Rattle.parish.proofs.Kept.{weights_push, joined_push, joined_among_more}
use Rattle.parish.specs.declared.items.Link.{Link}
use Rattle.parish.specs.declared.refusals.Refusal.{Refusal}
use Rattle.parish.specs.Edits.{Edited, answer_by, left_by, link_table}
use Rattle.parish.specs.Limits.{Joins}
use Rattle.parish.specs.Model.{Model}
use Rattle.parish.specs.Refusals.{first_applying}
use Rattle.spelling.specs.Fields.{number_of, pin_of, pin_field}
use Rattle.spelling.specs.Kinds.{households_kind, links_kind, blamed_in_link}
use Rattle.faults.specs.declared.Place.{Place}
use Rattle.spelling.specs.Lines.{accepted as accepted-by, first_unwanted, spelt, spelt_by, household_by, link_by}
use Rattle.spelling.specs.Pieces.{Lacks, pieces}
use Rattle.spelling.proofs.Digits.{number_fields, number_plain, pin_fields, pin_of_field, pin_plain}
use Rattle.spelling.proofs.Reading.{LawfulKind, answer_err}

some_value : {X : Type 0} (o : Option X) (d : X) → is_some o ≡ true → o ≡ Some (unwrap_or o d)
some_value None d e = absurd (clash e)
some_value (Some x) d e = refl

-- a field that writes something is the writing of it
number_written : (f : List ℕ) → is_some (number_of f) ≡ true → decimal (unwrap_or (number_of f) 0) ≡ f
number_written f e = sym ((number_fields f (unwrap_or (number_of f) 0)).0 (some_value (number_of f) 0 e)).0

pin_written : (f : List ℕ) → is_some (pin_of f) ≡ true → pin_field (unwrap_or (pin_of f) None) ≡ f
pin_written f e = sym ((pin_fields f (unwrap_or (pin_of f) None)).0 (some_value (pin_of f) None e))

-- a small number's writing writes it
number_reads : (n : ℕ) → n < 10 ^ 7 → number_of (decimal n) ≡ Some n
number_reads n lt = (number_fields (decimal n) n).1 refl lt

-- a text without a byte, by a test that computes
abbrev free : ℕ → List ℕ → Bool
free b [] = true
free b (x ∷ xs) = not (eqb x b) && free b xs

lacking : (b : ℕ) (s : List ℕ) → free b s ≡ true → Lacks b s
lacking b [] e = tt
lacking b (x ∷ xs) e =
    let both = and_parts (not (eqb x b)) (free b xs) e in
    (eqb-false x b (not-true (eqb x b) both.0), lacking b xs both.1)

-- ---- households
household_forth : (fs : List (List ℕ)) → length fs ≡ 2 → first_unwanted 1 households_kind.wanted fs ≡ None
    → households_kind.fields (households_kind.value fs) ≡ fs
household_forth [] l e = absurd (let z : ⊥ = omega arith in z)
household_forth (a ∷ []) l e = absurd (let z : ⊥ = omega arith in z)
household_forth (a ∷ (b ∷ [])) l e =
    let w = number_written a (grind (arith, common_steps)) in
    let p = pin_written b (grind (arith, common_steps)) in
    cc
household_forth (a ∷ (b ∷ (c ∷ fs))) l e = absurd (let z : ⊥ = omega arith in z)

pub households_lawful : LawfulKind households_kind
households_lawful =
    record {
      forth = household_forth;
      back = λ m h sound e.
          let light : h.weight ≤ 10000 = grind (arith, nat_tests, common_steps) in
          let w = number_reads h.weight (omega (arith, light)) in
          let p = pin_of_field h.pin in
          (refl, simp (w, p), simp (w, p), (number_plain (decimal h.weight) h.weight w, (pin_plain h.pin, tt)));
      named = lacking 10 (codes "weight,lot") refl;
      some = omega arith;
      keeps = λ m h sound e.
          let light : h.weight ≤ 10000 = grind (arith, nat_tests, common_steps) in
          let room : length m.households < 128 = grind (arith, nat_tests, common_steps) in
          let long = length_push m.households h in
          record {
            few = omega (arith, room);
            weights = weights_push m.households (m.households ++ (h ∷ [])) h refl sound.weights light;
            short = sound.short;
            joined = joined_among_more (length m.households) (length (m.households ++ (h ∷ []))) m.links (omega arith) sound.joined;
          };
      room = λ m h hs sound.
          let at : get_or (m.households ++ (h ∷ hs)) (length m.households) h ≡ h = get_or_at m.households h hs h (length m.households) refl in
          let long = length-append m.households (h ∷ hs) in
          let light : h.weight ≤ 10000 = subst (λ x. x.weight ≤ 10000) at (sound.weights (length m.households) h (omega arith)) in
          simp (le-ltb 10000 h.weight light, lt-leb 128 (length m.households) (omega (arith, sound.few)));
      none = λ m. ap (λ hs. record { households = hs; links = m.links }) (append-nil m.households);
      more = λ m h hs. ap (λ xs. record { households = xs; links = m.links }) (append_assoc m.households (h ∷ []) hs);
    }

-- ---- links
link_forth : (fs : List (List ℕ)) → length fs ≡ 3 → first_unwanted 1 links_kind.wanted fs ≡ None → links_kind.fields (links_kind.value fs) ≡ fs
link_forth [] l e = absurd (let z : ⊥ = omega arith in z)
link_forth (a ∷ []) l e = absurd (let z : ⊥ = omega arith in z)
link_forth (a ∷ (b ∷ [])) l e = absurd (let z : ⊥ = omega arith in z)
link_forth (a ∷ (b ∷ (c ∷ []))) l e =
    let from = number_written a (grind (arith, common_steps)) in
    let to = number_written b (grind (arith, common_steps)) in
    let strength = number_written c (grind (arith, common_steps)) in
    cc
link_forth (a ∷ (b ∷ (c ∷ (d ∷ fs)))) l e = absurd (let z : ⊥ = omega arith in z)

-- a link that is accepted joins two households, and there is room for it
record Accepted (m : Model) (l : Link) : Type 0 where
  joins : Joins (length m.households) l
  room : length m.links < 1024

accepted : (m : Model) (l : Link) → links_kind.refusal m l ≡ None → Accepted m l
accepted m l e =
    record {
      joins = (
        grind (arith, nat_tests, common_steps),
        grind (arith, nat_tests, common_steps),
        grind (arith, nat_tests, common_steps),
        grind (arith, nat_tests, common_steps),
        grind (arith, nat_tests, common_steps),
      );
      room = grind (arith, nat_tests, common_steps);
    }

-- and one that joins two households is accepted where there is room
accepts : (m : Model) (l : Link) → Accepted m l → links_kind.refusal m l ≡ None
accepts m l a =
    let n = length m.households in
    let j = a.joins in
    simp (
      or_from (ltb l.strength 1) (ltb 1000 l.strength) (le-ltb l.strength 1 j.3) (le-ltb 1000 l.strength j.4),
      or_from (leb n l.from) (leb n l.to) (lt-leb n l.from j.0) (lt-leb n l.to j.1),
      ne_eqb l.from l.to j.2,
      lt-leb 1024 (length m.links) a.room,
    )

pub links_lawful : LawfulKind links_kind
links_lawful =
    record {
      forth = link_forth;
      back = λ m l sound e.
          let j = (accepted m l e).joins in
          let few = sound.few in
          let from = number_reads l.from (omega (arith, j.0, few)) in
          let to = number_reads l.to (omega (arith, j.1, few)) in
          let strength = number_reads l.strength (omega (arith, j.4)) in (
            refl,
            simp (from, to, strength),
            simp (from, to, strength),
            (
              number_plain (decimal l.from) l.from from,
              (number_plain (decimal l.to) l.to to, (number_plain (decimal l.strength) l.strength strength, tt)),
            ),
          );
      named = lacking 10 (codes "from,to,strength") refl;
      some = omega arith;
      keeps = λ m l sound e.
          let a = accepted m l e in
          let long = length_push m.links l in
          record {
            few = sound.few;
            weights = sound.weights;
            short = omega (arith, a.room);
            joined = joined_push (length m.households) m.links (m.links ++ (l ∷ [])) l refl sound.joined a.joins;
          };
      room = λ m l ls sound.
          let at : get_or (m.links ++ (l ∷ ls)) (length m.links) l ≡ l = get_or_at m.links l ls l (length m.links) refl in
          let long = length-append m.links (l ∷ ls) in
          accepts m l
          (record {
            joins = subst (Joins (length m.households)) at (sound.joined (length m.links) l (omega arith));
            room = omega (arith, sound.short);
          });
      none = λ m. ap (λ ls. record { households = m.households; links = ls }) (append-nil m.links);
      more = λ m l ls. ap (λ xs. record { households = m.households; links = xs }) (append_assoc m.links (l ∷ []) ls);
    }

-- ---- field by field
pub household_by_fields : (p : Place) (a b : List ℕ) → household_by p a b ≡ spelt_by households_kind p (a ∷ (b ∷ []))
household_by_fields p a b = grind (arith, common_steps)

pub link_by_fields : (p : Place) (a b c : List ℕ) → link_by p a b c ≡ spelt_by links_kind p (a ∷ (b ∷ (c ∷ [])))
link_by_fields p a b c = grind (arith, common_steps)

-- the fields that a line was cut into, one after another
pub household_spelt : (p : Place) (line a b rest : List ℕ) → pieces 44 line ≡ a ∷ pieces 44 rest → pieces 44 rest ≡ b ∷ []
    → household_by p a b ≡ spelt households_kind p line
household_spelt p line a b rest one two = household_by_fields p a b ∙ ap (spelt_by households_kind p) (sym (one ∙ ap (λ fs. a ∷ fs) two))

pub link_spelt : (p : Place) (line a b c more rest : List ℕ) → pieces 44 line ≡ a ∷ pieces 44 more → pieces 44 more ≡ b ∷ pieces 44 rest
    → pieces 44 rest ≡ c ∷ [] → link_by p a b c ≡ spelt links_kind p line
link_spelt p line a b c more rest one two three =
    link_by_fields p a b c ∙ ap (spelt_by links_kind p) (sym (one ∙ ap (λ fs. a ∷ fs) (two ∙ ap (λ fs. b ∷ fs) three)))

-- a link that is refused
pub link_refused : (p : Place) (m m' changed : Model) (l : Link) (n : ℕ) (k : Option ℕ) (e : Refusal) → Edited (link_table m l) n m changed m' (Err e)
    → k ≡ blamed_in_link (length m.households) l e → (accepted-by links_kind p m l ≡ Err (record { place = p; field = k; refusal = e })) × (m' ≡ m)
link_refused p m m' changed l n k e edited blamed =
    let why = answer_err (first_applying (link_table m l)) n e (sym edited.answer) in (
      ap (λ o. answer_by (option_map (λ d. record { place = p; field = blamed_in_link (length m.households) l d; refusal = d }) o) (links_kind.with_more m (l ∷ []))) why
          ∙ ap (λ j. Err (record { place = p; field = j; refusal = e })) (sym blamed),
      edited.leaves ∙ ap (λ o. left_by o m changed) why,
    )
