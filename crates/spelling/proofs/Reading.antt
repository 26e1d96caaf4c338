-- Reading a sheet of any lawful kind: it succeeds just where the sheet spells records that the parish can take, and else
-- gives the first fault. Assumes nothing.
use Rattle.std.proofs.Common.{◌≡◌, ℕ, zero, suc, ◌+◌, ◌<◌, Bool, true, false, cond, eqb, ◌⊎◌, List, [], ◌∷◌, ◌++◌, length, get_or, Some, None, Ok, Err, Option, Result, Bor, sym, refl, ap, ◌∙◌, subst, inl, inr, ⊎_elim, arith, eq-eqb, eqb-true}
use borrow.Author.Tests.{eqb-false, clash}
use Rattle.std.proofs.ByRecursion.{All-append}
use Rattle.std.proofs.lemmas.List.{append_assoc, append-nil}
use Rattle.std.proofs.lemmas.Bool.{cond-true, cond-false}
use Rattle.std.proofs.lemmas.Bool.Decides.{nat_tests}
use Rattle.std.proofs.lemmas.Grind.{common_steps}
use Rattle.std.proofs.lemmas.Option.{none-some}
use Rattle.std.specs.Option.{option_map, option_eq}
use lib.Pointwise.{pointwise}
use Rattle.std.specs.List.{flat_map, AllByRecursion}
use Rattle.parish.specs.declared.refusals.Refusal.{Refusal}
use Rattle.parish.specs.Edits.{answer_by}
use Rattle.parish.specs.Model.{Model, Sound}
use Rattle.faults.specs.declared.LineFault.{LineFault}
use Rattle.faults.specs.declared.LineFault.TheVariants.{WrongNames, WrongCount, Field}
use Rattle.faults.specs.declared.LoadFault.{LoadFault}
use Rattle.faults.specs.declared.LoadFault.TheVariants.{Line, Parish}
use Rattle.faults.specs.declared.ParishFault.{ParishFault}
use Rattle.faults.specs.declared.Place.{Place}
use Rattle.spelling.specs.Fields.{same}
use Rattle.spelling.specs.Kinds.{Kind}
use Rattle.spelling.specs.Laws.{line_of, sheet_of, never, Plain, Opens, LineFails, unended, miscounted, unwanted, refused, SheetFails, misnamed, bad_line}
use Rattle.spelling.specs.Lines.{and_then, raised, first_unwanted, line_fault, place_of, spelt, accepted, line_read, lines_read, all_read, sheet_read}
use Rattle.spelling.specs.Pieces.{pieces, glued, Lacks, Parted}
use Rattle.spelling.proofs.Cutting.{pieces_some, pieces_lack, pieces_free, pieces_at, pieces_glued, pieces_whole, glued_pieces}
use Rattle.spelling.proofs.Digits.{same_self, same_decides, same_by_items, differ}

-- what a kind of sheet has to keep
pub record LawfulKind {R : Type 0} (K : Kind R) : Type 0 where
  -- a line as wanted is the line of its record
  pub forth : (fs : List (List ℕ)) → length fs ≡ length K.wanted → first_unwanted 1 K.wanted fs ≡ None → K.fields (K.value fs) ≡ fs
  -- the line of a record that a parish accepts is as wanted, and writes it
  pub back : (m : Model) (r : R) → Sound m → K.refusal m r ≡ None
      → (length (K.fields r) ≡ length K.wanted) × (first_unwanted 1 K.wanted (K.fields r) ≡ None) × (K.value (K.fields r) ≡ r)
      × AllByRecursion Plain (K.fields r)
  pub named : Lacks 10 K.names
  pub some : 0 < length K.wanted
  -- what is accepted keeps the limits, and what keeps them was accepted
  pub keeps : (m : Model) (r : R) → Sound m → K.refusal m r ≡ None → Sound (K.with_more m (r ∷ []))
  pub room : (m : Model) (r : R) (rs : List R) → Sound (K.with_more m (r ∷ rs)) → K.refusal m r ≡ None
  pub none : (m : Model) → K.with_more m [] ≡ m
  pub more : (m : Model) (r : R) (rs : List R) → K.with_more (K.with_more m (r ∷ [])) rs ≡ K.with_more m (r ∷ rs)

-- ---- results
pub ok_or_not : {X E : Type 0} (x : X) (e : E) → ◌≡◌ {A = Result X E} (Ok x) (Err e) → ⊥
ok_or_not x e p = let z : ◌≡◌ {A = ℕ} 0 1 = cc in omega arith

pub and_then_ok : {X Y E : Type 0} (a : Result X E) (f : X → Result Y E) (y : Y) → and_then a f ≡ Ok y → (x : X) × (a ≡ Ok x) × (f x ≡ Ok y)
and_then_ok (Ok x) f y e = (x, refl, e)
and_then_ok (Err d) f y e = absurd (ok_or_not y d (sym e))

pub and_then_err : {X Y E : Type 0} (a : Result X E) (f : X → Result Y E) (d : E) → and_then a f ≡ Err d → (a ≡ Err d) ⊎ ((x : X) × (a ≡ Ok x) × (f x ≡ Err d))
and_then_err (Ok x) f d e = inr (x, refl, e)
and_then_err (Err c) f d e = inl (let z : c ≡ d = cc in ap Err z)

raised_ok : {X E F : Type 0} (up : E → F) (a : Result X E) (x : X) → raised up a ≡ Ok x → a ≡ Ok x
raised_ok up (Ok y) x e = let z : y ≡ x = cc in ap Ok z
raised_ok up (Err d) x e = absurd (ok_or_not x (up d) (sym e))

raised_err : {X E F : Type 0} (up : E → F) (a : Result X E) (f : F) → raised up a ≡ Err f → (e : E) × (a ≡ Err e) × (f ≡ up e)
raised_err up (Ok y) f e = absurd (ok_or_not y f e)
raised_err up (Err d) f e = (d, refl, let z : f ≡ up d = cc in z)

answer_ok : {X E : Type 0} (o : Option E) (x y : X) → answer_by o x ≡ Ok y → (o ≡ None) × (y ≡ x)
answer_ok None x y e = (refl, let z : y ≡ x = cc in z)
answer_ok (Some d) x y e = absurd (ok_or_not y d (sym e))

pub answer_err : {X E : Type 0} (o : Option E) (x : X) (d : E) → answer_by o x ≡ Err d → o ≡ Some d
answer_err None x d e = absurd (ok_or_not x d e)
answer_err (Some c) x d e = let z : c ≡ d = cc in ap Some z

mapped_none : {X Y : Type 0} (f : X → Y) (o : Option X) → option_map f o ≡ None → o ≡ None
mapped_none f None e = refl
mapped_none f (Some x) e = absurd (none-some _ (sym e))

mapped_some : {X Y : Type 0} (f : X → Y) (o : Option X) (y : Y) → option_map f o ≡ Some y → (x : X) × (o ≡ Some x) × (y ≡ f x)
mapped_some f None y e = absurd (none-some _ e)
mapped_some f (Some x) y e = (x, refl, let z : y ≡ f x = cc in z)

-- ---- the fields of a line
wanted_more : (w : List ℕ → Bool) (ws : List (List ℕ → Bool)) (f : List ℕ) (fs : List (List ℕ)) (k : ℕ) → w f ≡ true
    → ((j : ℕ) → j < k → get_or ws j never (get_or fs j []) ≡ true) → (j : ℕ) → j < suc k → get_or (w ∷ ws) j never (get_or (f ∷ fs) j []) ≡ true
wanted_more w ws f fs k here all zero lt = here
wanted_more w ws f fs k here all (suc j) lt = all j (omega arith)

-- the field found is the first that is not as wanted
unwanted_first : (n : ℕ) (ws : List (List ℕ → Bool)) (fs : List (List ℕ)) (i : ℕ) → first_unwanted n ws fs ≡ Some i
    → (k : ℕ) × (i ≡ n + k) × (k < length fs) × ((j : ℕ) → j < k → get_or ws j never (get_or fs j []) ≡ true)
    × (get_or ws k never (get_or fs k []) ≡ true → ⊥)
unwanted_first n [] fs i e = absurd (none-some _ e)
unwanted_first n (w ∷ ws) [] i e = absurd (none-some _ e)
unwanted_first n (w ∷ ws) (f ∷ fs) i e =
    elim (w f) as (λ t. w f ≡ t → cond t (first_unwanted (n + 1) ws fs) (Some n) ≡ Some i
    → (k : ℕ) × (i ≡ n + k) × (k < length (f ∷ fs)) × ((j : ℕ) → j < k → get_or (w ∷ ws) j never (get_or (f ∷ fs) j []) ≡ true)
    × (get_or (w ∷ ws) k never (get_or (f ∷ fs) k []) ≡ true → ⊥)) [
      | true ↦ λ here more.
          let ih = unwanted_first (n + 1) ws fs i more in
          (suc ih.0, omega (arith, ih.1), omega (arith, ih.2), wanted_more w ws f fs ih.0 here ih.3, ih.4)
      | false ↦ λ here more.
          (zero, let z : n ≡ i = cc in omega arith, omega arith, λ j lt. absurd (let z : ⊥ = omega arith in z), λ yes. clash (sym here ∙ yes))
    ] refl e

-- where no field is found, each is as wanted
none_wanted : (n : ℕ) (ws : List (List ℕ → Bool)) (fs : List (List ℕ)) → length fs ≡ length ws → first_unwanted n ws fs ≡ None
    → (j : ℕ) → j < length fs → get_or ws j never (get_or fs j []) ≡ true
none_wanted n ws [] l e j lt = absurd (let z : ⊥ = omega arith in z)
none_wanted n [] (f ∷ fs) l e j lt = absurd (let z : ⊥ = omega arith in z)
none_wanted n (w ∷ ws) (f ∷ fs) l e j lt =
    elim (w f) as (λ t. w f ≡ t → cond t (first_unwanted (n + 1) ws fs) (Some n) ≡ None → get_or (w ∷ ws) j never (get_or (f ∷ fs) j []) ≡ true) [
      | true ↦ λ here more. wanted_more w ws f fs (length fs) here (none_wanted (n + 1) ws fs (omega arith) more) j lt
      | false ↦ λ here more. absurd (none-some _ (sym more))
    ] refl e

-- and where each is as wanted, no field is found
wanted_none : (n : ℕ) (ws : List (List ℕ → Bool)) (fs : List (List ℕ)) → length fs ≡ length ws
    → ((j : ℕ) → j < length fs → get_or ws j never (get_or fs j []) ≡ true) → first_unwanted n ws fs ≡ None
wanted_none n [] fs l all = refl
wanted_none n (w ∷ ws) [] l all = refl
wanted_none n (w ∷ ws) (f ∷ fs) l all =
    ap (λ t. cond t (first_unwanted (n + 1) ws fs) (Some n)) (all zero (omega arith))
    ∙ wanted_none (n + 1) ws fs (omega arith) (λ j lt. all (suc j) (omega arith))

-- the first field that is not as wanted is the one found
first_found : (n : ℕ) (ws : List (List ℕ → Bool)) (fs : List (List ℕ)) (k : ℕ) → length fs ≡ length ws → k < length fs
    → ((j : ℕ) → j < k → get_or ws j never (get_or fs j []) ≡ true) → (get_or ws k never (get_or fs k []) ≡ true → ⊥)
    → first_unwanted n ws fs ≡ Some (n + k)
first_found n ws [] k l lt all bad = absurd (let z : ⊥ = omega arith in z)
first_found n [] (f ∷ fs) k l lt all bad = absurd (let z : ⊥ = omega arith in z)
first_found n (w ∷ ws) (f ∷ fs) zero l lt all bad =
    elim (w f) as (λ t. w f ≡ t → cond t (first_unwanted (n + 1) ws fs) (Some n) ≡ Some (n + zero)) [
      | true ↦ λ here. absurd (bad here)
      | false ↦ λ here. ap Some (let z : n ≡ n + zero = omega arith in z)
    ] refl
first_found n (w ∷ ws) (f ∷ fs) (suc k) l lt all bad =
    ap (λ t. cond t (first_unwanted (n + 1) ws fs) (Some n)) (all zero (omega arith))
    ∙ first_found (n + 1) ws fs k (omega arith) (omega arith) (λ j below. all (suc j) (omega arith)) bad
    ∙ ap Some (let z : n + 1 + k ≡ n + suc k = omega arith in z)

module _ (ws : List (List ℕ → Bool)) (p : Place) (fs : List (List ℕ)) where
  fault_none : line_fault ws p fs ≡ None → (length fs ≡ length ws) × (first_unwanted 1 ws fs ≡ None)
  fault_none e = grind (arith, nat_tests, common_steps, mapped_none)

  none_fault : length fs ≡ length ws → first_unwanted 1 ws fs ≡ None → line_fault ws p fs ≡ None
  none_fault l n = simp (eq-eqb (length fs) (length ws) l, n)

  fault_some : (d : LineFault) → line_fault ws p fs ≡ Some d
      → ((length fs ≡ length ws → ⊥) × (d ≡ WrongCount p))
      ⊎ ((length fs ≡ length ws) × ((i : ℕ) × (first_unwanted 1 ws fs ≡ Some i) × (d ≡ Field (record { place = p; field = i }))))
  fault_some d e =
      elim (eqb (length fs) (length ws)) as (λ t. eqb (length fs) (length ws) ≡ t
      → cond t (option_map (λ i. Field (record { place = p; field = i })) (first_unwanted 1 ws fs)) (Some (WrongCount p)) ≡ Some d
      → ((length fs ≡ length ws → ⊥) × (d ≡ WrongCount p))
      ⊎ ((length fs ≡ length ws) × ((i : ℕ) × (first_unwanted 1 ws fs ≡ Some i) × (d ≡ Field (record { place = p; field = i }))))) [
        | true ↦ λ t s. inr (eqb-true (length fs) (length ws) t, mapped_some (λ i. Field (record { place = p; field = i })) (first_unwanted 1 ws fs) d s)
        | false ↦ λ t s. inl (eqb-false (length fs) (length ws) t, let z : d ≡ WrongCount p = cc in z)
      ] refl e

plain_from : (ps : List (List ℕ)) → AllByRecursion (Lacks 44) ps → AllByRecursion (Lacks 10) ps → AllByRecursion Plain ps
plain_from [] a b = tt
plain_from (p ∷ ps) a b = ((a.0, b.0), plain_from ps a.1 b.1)

plain_commas : (ps : List (List ℕ)) → AllByRecursion Plain ps → AllByRecursion (Lacks 44) ps
plain_commas [] a = tt
plain_commas (p ∷ ps) a = (a.0.0, plain_commas ps a.1)

glued_plain : (ps : List (List ℕ)) → AllByRecursion Plain ps → Lacks 10 (glued 44 ps)
glued_plain [] a = tt
glued_plain (p ∷ []) a = a.0.1
glued_plain (p ∷ (q ∷ ps)) a = All-append (λ x. x ≡ 10 → ⊥) p (44 ∷ glued 44 (q ∷ ps)) a.0.1 ((λ e. omega arith), glued_plain (q ∷ ps) a.1)

-- ---- lines
module _ {R : Type 0} (K : Kind R) where
  -- where another piece follows, a line is read and then the rest
  pub lines_step : (n : ℕ) (m : Model) (line : List ℕ) (ps : List (List ℕ)) → 0 < length ps
      → lines_read K n m (line ∷ ps) ≡ and_then (line_read K (place_of K n) m line) (λ k. lines_read K (n + 1) k ps)
  lines_step n m line [] some = absurd (let z : ⊥ = omega arith in z)
  lines_step n m line (p ∷ ps) some = refl

  -- where another piece follows the names line, the value lines are read
  pub all_step : (m : Model) (p : List ℕ) (ps : List (List ℕ)) → 0 < length ps
      → all_read K m (p ∷ ps) ≡ cond (same p K.names) (lines_read K 2 m ps) (Err (Line (WrongNames (place_of K 1))))
  all_step m p [] some = absurd (let z : ⊥ = omega arith in z)
  all_step m p (q ∷ ps) some = refl

  -- what is read of the unread bytes, one line on
  line_step : (n : ℕ) (m : Model) (before after line : List ℕ) → pieces 10 before ≡ line ∷ pieces 10 after
      → lines_read K n m (pieces 10 before) ≡ and_then (line_read K (place_of K n) m line) (λ k. lines_read K (n + 1) k (pieces 10 after))
  line_step n m before after line cut = ap (lines_read K n m) cut ∙ lines_step n m line (pieces 10 after) (pieces_some 10 after)

  module _ (p : Place) (m : Model) (before after line : List ℕ) (here : p.sheet ≡ K.sheet) (cut : pieces 10 before ≡ line ∷ pieces 10 after) where
    -- a place is its sheet and its line
    placed : lines_read K p.line m (pieces 10 before) ≡ and_then (line_read K p m line) (λ k. lines_read K (p.line + 1) k (pieces 10 after))
    placed =
        line_step p.line m before after line cut
        ∙ ap (λ s. and_then (line_read K (record { sheet = s; line = p.line }) m line) (λ k. lines_read K (p.line + 1) k (pieces 10 after))) (sym here)

    -- the line writes no record
    pub line_unspelt : (e : LineFault) → Err e ≡ spelt K p line → lines_read K p.line m (pieces 10 before) ≡ Err (Line e)
    line_unspelt e s = let step = placed in grind (arith, common_steps)

    -- it writes a record, which the parish refuses
    pub line_refused : (r : R) (e : ParishFault) → Ok r ≡ spelt K p line → accepted K p m r ≡ Err e → lines_read K p.line m (pieces 10 before) ≡ Err (Parish e)
    line_refused r e s a = let step = placed in grind (arith, common_steps)

    -- or takes, and reading goes on
    pub line_added : (r : R) (m' : Model) → Ok r ≡ spelt K p line → accepted K p m r ≡ Ok m'
        → lines_read K p.line m (pieces 10 before) ≡ lines_read K (p.line + 1) m' (pieces 10 after)
    line_added r m' s a = let step = placed in grind (arith, common_steps)

  -- the names line of the unread bytes
  names_step : (m : Model) (sheet after line : List ℕ) → pieces 10 sheet ≡ line ∷ pieces 10 after
      → sheet_read K m sheet ≡ cond (same line K.names) (lines_read K 2 m (pieces 10 after)) (Err (Line (WrongNames (place_of K 1))))
  names_step m sheet after line cut = ap (all_read K m) cut ∙ all_step m line (pieces 10 after) (pieces_some 10 after)

  -- what is read, by the part up to the first byte 10
  pub names_read : (m : Model) (sheet after : List ℕ) (o : Option (Bor (List ℕ))) (names : Bor (List ℕ)) → Parted 10 sheet after o → names.now ≡ K.names
      → sheet_read K m sheet
      ≡ cond (option_eq (λ x y. pointwise eqb x.now y.now) o (Some names)) (lines_read K 2 m (pieces 10 after)) (Err (Line (WrongNames (place_of K 1))))
  names_read m sheet after None names p e = ap (all_read K m) p.0
  names_read m sheet after (Some line) names p e =
      names_step m sheet after line.now p.0
      ∙ ap (λ t. cond t (lines_read K 2 m (pieces 10 after)) (Err (Line (WrongNames (place_of K 1)))))
      (ap (same line.now) (sym e) ∙ same_by_items line.now names.now)

  pub names_wrong : (m : Model) (sheet after line : List ℕ) → pieces 10 sheet ≡ line ∷ pieces 10 after → (line ≡ K.names → ⊥)
      → sheet_read K m sheet ≡ Err (Line (WrongNames (place_of K 1)))
  names_wrong m sheet after line cut ne =
      names_step m sheet after line cut
      ∙ cond-false (same line K.names) (lines_read K 2 m (pieces 10 after)) (Err (Line (WrongNames (place_of K 1)))) (differ line K.names ne)

  pub names_right : (m : Model) (sheet after line : List ℕ) → pieces 10 sheet ≡ line ∷ pieces 10 after → line ≡ K.names
      → sheet_read K m sheet ≡ lines_read K 2 m (pieces 10 after)
  names_right m sheet after line cut e =
      names_step m sheet after line cut
      ∙ cond-true (same line K.names) (lines_read K 2 m (pieces 10 after)) (Err (Line (WrongNames (place_of K 1)))) ((same_decides line K.names).1 e)

module _ {R : Type 0} (K : Kind R) (lawful : LawfulKind K) where
  -- the lines of records, one after another
  abbrev lines_of : List R → List ℕ
  lines_of rs = flat_map (λ r. line_of (K.fields r)) rs

  -- a line that is read writes a record that the parish accepts
  line_ok : (p : Place) (m m' : Model) (line : List ℕ) → line_read K p m line ≡ Ok m'
      → (r : R) × (line ≡ glued 44 (K.fields r)) × (K.refusal m r ≡ None) × (m' ≡ K.with_more m (r ∷ []))
  line_ok p m m' line e =
      let fs = pieces 44 line in
      let two = and_then_ok (raised Line (spelt K p line)) (λ r. raised Parish (accepted K p m r)) m' e in
      let r = two.0 in
      let spelled = answer_ok (line_fault K.wanted p fs) (K.value fs) r (raised_ok Line (spelt K p line) r two.1) in
      let wanted = fault_none K.wanted p fs spelled.0 in
      let taken = answer_ok (option_map (λ d. record { place = p; field = K.blamed m r d; refusal = d }) (K.refusal m r)) (K.with_more m (r ∷ [])) m'
      (raised_ok Parish (accepted K p m r) m' two.2) in (
        r,
        sym (glued_pieces 44 line) ∙ ap (glued 44) (sym (lawful.forth fs wanted.0 wanted.1) ∙ ap K.fields (sym spelled.1)),
        mapped_none (λ d. record { place = p; field = K.blamed m r d; refusal = d }) (K.refusal m r) taken.0,
        taken.1,
      )

  -- the line of a record that the parish accepts is read
  line_back : (p : Place) (m : Model) (r : R) → Sound m → K.refusal m r ≡ None → line_read K p m (glued 44 (K.fields r)) ≡ Ok (K.with_more m (r ∷ []))
  line_back p m r sound taken =
      let ways = lawful.back m r sound taken in
      let fs : pieces 44 (glued 44 (K.fields r)) ≡ K.fields r =
      pieces_glued 44 (K.fields r) (let s = lawful.some in omega (arith, ways.0)) (plain_commas (K.fields r) ways.3) in
      let good : line_fault K.wanted p (K.fields r) ≡ None = none_fault K.wanted p (K.fields r) ways.0 ways.1 in
      simp (fs, good, ways.2, taken)

  -- a line between its start and byte 10, by its fields
  opens : (line more : List ℕ) → Lacks 10 line → Opens (line ++ (10 ∷ more)) (pieces 44 line)
  opens line more ended =
      let fs = pieces 44 line in
      record {
        more = more;
        whole = ap (λ l. l ++ (10 ∷ more)) (sym (glued_pieces 44 line)) ∙ sym (append_assoc (glued 44 fs) (10 ∷ []) more);
        some = pieces_some 44 line;
        plain = plain_from fs (pieces_lack 44 line) (pieces_free 44 10 line ended);
      }

  -- a line that is not read fails by its first test
  line_err : (p : Place) (m : Model) (line more : List ℕ) (f : LoadFault) → Lacks 10 line → line_read K p m line ≡ Err f
      → LineFails K m p (line ++ (10 ∷ more)) f
  line_err p m line more f ended e =
      let fs = pieces 44 line in
      let at_front = opens line more ended in
      ⊎_elim
      (λ bad.
      let up = raised_err Line (spelt K p line) f bad in
      subst (LineFails K m p (line ++ (10 ∷ more))) (sym up.2)
      (⊎_elim
      (λ w. subst (λ d. LineFails K m p (line ++ (10 ∷ more)) (Line d)) (sym w.1) (miscounted fs at_front w.0))
      (λ w.
      let i = w.1.0 in
      let k = unwanted_first 1 K.wanted fs i w.1.1 in
      let at : k.0 + 1 ≡ i = omega (arith, k.1) in
      subst (λ d. LineFails K m p (line ++ (10 ∷ more)) (Line d)) (sym w.1.2)
      (subst (λ j. LineFails K m p (line ++ (10 ∷ more)) (Line (Field (record { place = p; field = j })))) at
      (unwanted fs k.0 at_front w.0 k.2 k.3 k.4)))
      (fault_some K.wanted p fs up.0 (answer_err (line_fault K.wanted p fs) (K.value fs) up.0 up.1))))
      (λ bad.
      let r = bad.0 in
      let spelled = answer_ok (line_fault K.wanted p fs) (K.value fs) r (raised_ok Line (spelt K p line) r bad.1) in
      let wanted = fault_none K.wanted p fs spelled.0 in
      let up = raised_err Parish (accepted K p m r) f bad.2 in
      let why = mapped_some (λ d. record { place = p; field = K.blamed m r d; refusal = d }) (K.refusal m r) up.0
      (answer_err (option_map (λ d. record { place = p; field = K.blamed m r d; refusal = d }) (K.refusal m r)) (K.with_more m (r ∷ [])) up.0 up.1) in
      subst (LineFails K m p (line ++ (10 ∷ more))) (sym (up.2 ∙ ap Parish why.2 ∙ ap (λ x. Parish (record { place = p; field = K.blamed m x why.0; refusal = why.0 })) spelled.1))
      (refused fs why.0 at_front wanted.0 (λ j lt. none_wanted 1 K.wanted fs wanted.0 wanted.1 j lt)
      (ap (K.refusal m) (sym spelled.1) ∙ why.1)))
      (and_then_err (raised Line (spelt K p line)) (λ r. raised Parish (accepted K p m r)) f e)

  -- one line more at the front
  line_on : (r : R) (rs : List R) (line more rest : List ℕ) → line ≡ glued 44 (K.fields r) → more ≡ lines_of rs ++ rest
      → line ++ (10 ∷ more) ≡ lines_of (r ∷ rs) ++ rest
  line_on r rs line more rest e f =
      ap (λ l. l ++ (10 ∷ more)) e
      ∙ ap (λ t. glued 44 (K.fields r) ++ (10 ∷ t)) f
      ∙ sym (append_assoc (glued 44 (K.fields r)) (10 ∷ []) (lines_of rs ++ rest))
      ∙ sym (append_assoc (line_of (K.fields r)) (lines_of rs) rest)

  -- the pieces of a sheet's value lines that are read whole are the lines of records
  lines_ok : (n : ℕ) (m m' : Model) (ps : List (List ℕ)) → Sound m → 0 < length ps → lines_read K n m ps ≡ Ok m'
      → (rs : List R) × (glued 10 ps ≡ lines_of rs) × (m' ≡ K.with_more m rs) × Sound m'
  lines_ok n m m' [] sound some e = absurd (let z : ⊥ = omega arith in z)
  lines_ok n m m' ([] ∷ []) sound some e =
      let same_model : m ≡ m' = cc in ([], refl, sym same_model ∙ sym (lawful.none m), subst Sound same_model sound)
  lines_ok n m m' ((x ∷ xs) ∷ []) sound some e = absurd (ok_or_not m' (Line (WrongCount (place_of K n))) (sym e))
  lines_ok n m m' (line ∷ (next ∷ more)) sound some e =
      let two = and_then_ok (line_read K (place_of K n) m line) (λ k. lines_read K (n + 1) k (next ∷ more)) m' e in
      let m₁ = two.0 in
      let here = line_ok (place_of K n) m m₁ line two.1 in
      let sound₁ = subst Sound (sym here.3) (lawful.keeps m here.0 sound here.2) in
      let rest = lines_ok (n + 1) m₁ m' (next ∷ more) sound₁ (omega arith) two.2 in (
        here.0 ∷ rest.0,
        line_on here.0 rest.0 line (glued 10 (next ∷ more)) [] here.1 (rest.1 ∙ sym (append-nil (lines_of rest.0)))
            ∙ append-nil (lines_of (here.0 ∷ rest.0)),
        rest.2 ∙ ap (λ k. K.with_more k rest.0) here.3 ∙ lawful.more m here.0 rest.0,
        rest.3,
      )

  -- else the lines before the first bad one are those of records
  lines_err : (n : ℕ) (m : Model) (ps : List (List ℕ)) (f : LoadFault) → Sound m → 0 < length ps → AllByRecursion (Lacks 10) ps → lines_read K n m ps ≡ Err f
      → (good : List R) × (rest : List ℕ) × (glued 10 ps ≡ lines_of good ++ rest) × Sound (K.with_more m good)
      × ((k : ℕ) × (k ≡ length good + n) × LineFails K (K.with_more m good) (place_of K k) rest f)
  lines_err n m [] f sound some free e = absurd (let z : ⊥ = omega arith in z)
  lines_err n m ([] ∷ []) f sound some free e = absurd (ok_or_not m f e)
  lines_err n m ((x ∷ xs) ∷ []) f sound some free e =
      let here : Line (WrongCount (place_of K n)) ≡ f = cc in (
        [],
        x ∷ xs,
        refl,
        subst Sound (sym (lawful.none m)) sound,
        (
          n,
          omega arith,
          subst (λ k. LineFails K k (place_of K n) (x ∷ xs) f) (sym (lawful.none m))
              (subst (LineFails K m (place_of K n) (x ∷ xs)) here (unended (omega arith) free.0)),
        ),
      )
  lines_err n m (line ∷ (next ∷ more)) f sound some free e =
      ⊎_elim
      (λ bad. (
        [],
        line ++ (10 ∷ glued 10 (next ∷ more)),
        refl,
        subst Sound (sym (lawful.none m)) sound,
        (
          n,
          omega arith,
          subst (λ k. LineFails K k (place_of K n) (line ++ (10 ∷ glued 10 (next ∷ more))) f) (sym (lawful.none m))
              (line_err (place_of K n) m line (glued 10 (next ∷ more)) f free.0 bad),
        ),
      ))
      (λ two.
      let m₁ = two.0 in
      let here = line_ok (place_of K n) m m₁ line two.1 in
      let sound₁ = subst Sound (sym here.3) (lawful.keeps m here.0 sound here.2) in
      let rest = lines_err (n + 1) m₁ (next ∷ more) f sound₁ (omega arith) free.1 two.2 in
      let model : K.with_more m₁ rest.0 ≡ K.with_more m (here.0 ∷ rest.0) =
      ap (λ k. K.with_more k rest.0) here.3 ∙ lawful.more m here.0 rest.0 in
      let at = rest.4 in (
        here.0 ∷ rest.0,
        rest.1,
        line_on here.0 rest.0 line (glued 10 (next ∷ more)) rest.1 here.1 rest.2,
        subst Sound model rest.3,
        (at.0, omega (arith, at.1), subst (λ k. LineFails K k (place_of K at.0) rest.1 f) model at.2),
      ))
      (and_then_err (line_read K (place_of K n) m line) (λ k. lines_read K (n + 1) k (next ∷ more)) f e)

  -- the lines of records that keep the limits are read
  lines_back : (n : ℕ) (m : Model) (rs : List R) → Sound m → Sound (K.with_more m rs) → lines_read K n m (pieces 10 (lines_of rs)) ≡ Ok (K.with_more m rs)
  lines_back n m [] sound whole = ap Ok (sym (lawful.none m))
  lines_back n m (r ∷ rs) sound whole =
      let taken = lawful.room m r rs whole in
      let m₁ = K.with_more m (r ∷ []) in
      let line = glued 44 (K.fields r) in
      let cut : pieces 10 (lines_of (r ∷ rs)) ≡ line ∷ pieces 10 (lines_of rs) =
      ap (pieces 10) (append_assoc line (10 ∷ []) (lines_of rs))
      ∙ pieces_at 10 line (lines_of rs) (glued_plain (K.fields r) (lawful.back m r sound taken).3) in
      ap (lines_read K n m) cut
      ∙ lines_step K n m line (pieces 10 (lines_of rs)) (pieces_some 10 (lines_of rs))
      ∙ ap (λ x. and_then x (λ k. lines_read K (n + 1) k (pieces 10 (lines_of rs)))) (line_back (place_of K n) m r sound taken)
      ∙ lines_back (n + 1) m₁ rs (lawful.keeps m r sound taken) (subst Sound (sym (lawful.more m r rs)) whole)
      ∙ ap Ok (lawful.more m r rs)

  -- ---- sheets
  names_on : (p : List ℕ) (rs : List R) (more rest : List ℕ) → p ≡ K.names → more ≡ lines_of rs ++ rest → p ++ (10 ∷ more) ≡ sheet_of K rs ++ rest
  names_on p rs more rest e f =
      ap (λ x. x ++ (10 ∷ more)) e ∙ ap (λ t. K.names ++ (10 ∷ t)) f ∙ sym (append_assoc K.names (10 ∷ lines_of rs) rest)

  all_ok : (m m' : Model) (ps : List (List ℕ)) → Sound m → all_read K m ps ≡ Ok m'
      → (rs : List R) × (glued 10 ps ≡ sheet_of K rs) × (m' ≡ K.with_more m rs) × Sound m'
  all_ok m m' [] sound e = absurd (ok_or_not m' (Line (WrongNames (place_of K 1))) (sym e))
  all_ok m m' (p ∷ []) sound e = absurd (ok_or_not m' (Line (WrongNames (place_of K 1))) (sym e))
  all_ok m m' (p ∷ (q ∷ ps)) sound e =
      elim (same p K.names) as (λ t. same p K.names ≡ t → cond t (lines_read K 2 m (q ∷ ps)) (Err (Line (WrongNames (place_of K 1)))) ≡ Ok m'
      → (rs : List R) × (glued 10 (p ∷ (q ∷ ps)) ≡ sheet_of K rs) × (m' ≡ K.with_more m rs) × Sound m') [
        | true ↦ λ t g.
            let rest = lines_ok 2 m m' (q ∷ ps) sound (omega arith) g in (
              rest.0,
              names_on p rest.0 (glued 10 (q ∷ ps)) [] ((same_decides p K.names).0 t) (rest.1 ∙ sym (append-nil (lines_of rest.0)))
                  ∙ append-nil (sheet_of K rest.0),
              rest.2,
              rest.3,
            )
        | false ↦ λ t g. absurd (ok_or_not m' (Line (WrongNames (place_of K 1))) (sym g))
      ] refl e

  -- pieces that open with the names line are those of a sheet that does
  misnamed_by : (m : Model) (ps : List (List ℕ)) (f : LoadFault) → 0 < length ps → AllByRecursion (Lacks 10) ps
      → ((rest : List ℕ) → ps ≡ K.names ∷ pieces 10 rest → ⊥) → ◌≡◌ {A = Result Model LoadFault} (Err (Line (WrongNames (place_of K 1)))) (Err f)
      → SheetFails K m (glued 10 ps) f
  misnamed_by m ps f some free not_named e =
      let here : Line (WrongNames (place_of K 1)) ≡ f = cc in
      subst (SheetFails K m (glued 10 ps)) here
      (misnamed
      (λ rest opens. not_named rest
      (sym (pieces_glued 10 ps some free) ∙ ap (pieces 10) opens ∙ pieces_at 10 K.names rest lawful.named)))

  all_err : (m : Model) (ps : List (List ℕ)) (f : LoadFault) → Sound m → 0 < length ps → AllByRecursion (Lacks 10) ps → all_read K m ps ≡ Err f → SheetFails K m (glued 10 ps) f
  all_err m [] f sound some free e = absurd (let z : ⊥ = omega arith in z)
  all_err m (p ∷ []) f sound some free e =
      misnamed_by m (p ∷ []) f some free
      (λ rest opens. let l = ap length opens in let s = pieces_some 10 rest in let z : ⊥ = omega arith in z) e
  all_err m (p ∷ (q ∷ ps)) f sound some free e =
      elim (same p K.names) as (λ t. same p K.names ≡ t → cond t (lines_read K 2 m (q ∷ ps)) (Err (Line (WrongNames (place_of K 1)))) ≡ Err f
      → SheetFails K m (glued 10 (p ∷ (q ∷ ps))) f) [
        | true ↦ λ t g.
            let bad = lines_err 2 m (q ∷ ps) f sound (omega arith) free.1 g in
            let at = bad.4 in
            bad_line bad.0 bad.1 f
            (names_on p bad.0 (glued 10 (q ∷ ps)) bad.1 ((same_decides p K.names).0 t) bad.2)
            bad.3
            (subst (λ k. LineFails K (K.with_more m bad.0) (place_of K k) bad.1 f) at.1 at.2)
        | false ↦ λ t g.
            misnamed_by m (p ∷ (q ∷ ps)) f some free
            (λ rest opens.
            let first : p ≡ K.names = cc in
            clash (sym t ∙ subst (λ x. same p x ≡ true) first (same_self p))) g
      ] refl e

  pub sheet_ok : (m m' : Model) (s : List ℕ) → Sound m → sheet_read K m s ≡ Ok m'
      → (rs : List R) × (s ≡ sheet_of K rs) × (m' ≡ K.with_more m rs) × Sound m'
  sheet_ok m m' s sound e =
      let all = all_ok m m' (pieces 10 s) sound e in (all.0, sym (glued_pieces 10 s) ∙ all.1, all.2, all.3)

  pub sheet_err : (m : Model) (s : List ℕ) (f : LoadFault) → Sound m → sheet_read K m s ≡ Err f → SheetFails K m s f
  sheet_err m s f sound e =
      subst (λ t. SheetFails K m t f) (glued_pieces 10 s) (all_err m (pieces 10 s) f sound (pieces_some 10 s) (pieces_lack 10 s) e)

  pub sheet_back : (m : Model) (rs : List R) → Sound m → Sound (K.with_more m rs) → sheet_read K m (sheet_of K rs) ≡ Ok (K.with_more m rs)
  sheet_back m rs sound whole =
      let lines = lines_of rs in
      ap (all_read K m) (pieces_at 10 K.names lines lawful.named)
      ∙ all_step K m K.names (pieces 10 lines) (pieces_some 10 lines)
      ∙ ap (λ t. cond t (lines_read K 2 m (pieces 10 lines)) (Err (Line (WrongNames (place_of K 1))))) (same_self K.names)
      ∙ lines_back 2 m rs sound whole

  -- ---- the first fault is the one that reading gives
  -- an ended line is cut off whole, and into its fields again
  module _ (rest : List ℕ) (fs : List (List ℕ)) (o : Opens rest fs) where
    line_cut : pieces 10 rest ≡ glued 44 fs ∷ pieces 10 o.more
    line_cut =
        ap (pieces 10) (o.whole ∙ append_assoc (glued 44 fs) (10 ∷ []) o.more)
        ∙ pieces_at 10 (glued 44 fs) o.more (glued_plain fs o.plain)

    fields_cut : pieces 44 (glued 44 fs) ≡ fs
    fields_cut = pieces_glued 44 fs o.some (plain_commas fs o.plain)

    -- reading stops at it where it has a fault of its own, or its record is refused
    line_faulty : (n : ℕ) (m : Model) (d : LineFault) → line_fault K.wanted (place_of K n) fs ≡ Some d → lines_read K n m (pieces 10 rest) ≡ Err (Line d)
    line_faulty n m d e =
        let step = line_step K n m rest o.more (glued 44 fs) line_cut in let cut = fields_cut in grind (arith, common_steps)

    line_unwelcome : (n : ℕ) (m : Model) (e : Refusal) → line_fault K.wanted (place_of K n) fs ≡ None → K.refusal m (K.value fs) ≡ Some e
        → lines_read K n m (pieces 10 rest) ≡ Err (Parish (record { place = place_of K n; field = K.blamed m (K.value fs) e; refusal = e }))
    line_unwelcome n m e good why =
        let step = line_step K n m rest o.more (glued 44 fs) line_cut in let cut = fields_cut in grind (arith, common_steps)

  -- what is not ended is no line
  tail_fails : (n : ℕ) (m : Model) (rest : List ℕ) → 0 < length rest → Lacks 10 rest → lines_read K n m (pieces 10 rest) ≡ Err (Line (WrongCount (place_of K n)))
  tail_fails n m [] some lacks = absurd (let z : ⊥ = omega arith in z)
  tail_fails n m (x ∷ xs) some lacks = ap (lines_read K n m) (pieces_whole 10 (x ∷ xs) lacks)

  line_fails_back : (n : ℕ) (m : Model) (rest : List ℕ) {f : LoadFault} → LineFails K m (place_of K n) rest f → lines_read K n m (pieces 10 rest) ≡ Err f
  line_fails_back n m rest (unended some lacks) = tail_fails n m rest some lacks
  line_fails_back n m rest (miscounted fs o ne) =
      line_faulty rest fs o n m (WrongCount (place_of K n))
      (grind (arith, nat_tests, common_steps))
  line_fails_back n m rest (unwanted fs k o long lt all bad) =
      line_faulty rest fs o n m (Field (record { place = place_of K n; field = k + 1 }))
      (let first = first_found 1 K.wanted fs k long lt all bad in let at : 1 + k ≡ k + 1 = omega arith in grind (arith, nat_tests, common_steps))
  line_fails_back n m rest (refused fs e o long all why) =
      line_unwelcome rest fs o n m e (none_fault K.wanted (place_of K n) fs long (wanted_none 1 K.wanted fs long all)) why

  -- the good lines before it are read
  lines_through : (n : ℕ) (m : Model) (good : List R) (rest : List ℕ) → Sound m → Sound (K.with_more m good)
      → lines_read K n m (pieces 10 (lines_of good ++ rest)) ≡ lines_read K (length good + n) (K.with_more m good) (pieces 10 rest)
  lines_through n m [] rest sound whole =
      ap (λ k. lines_read K k m (pieces 10 rest)) (let z : n ≡ 0 + n = omega arith in z)
      ∙ ap (λ k. lines_read K (0 + n) k (pieces 10 rest)) (sym (lawful.none m))
  lines_through n m (r ∷ rs) rest sound whole =
      let taken = lawful.room m r rs whole in
      let m₁ = K.with_more m (r ∷ []) in
      let line = glued 44 (K.fields r) in
      let after = lines_of rs ++ rest in
      let cut : pieces 10 (lines_of (r ∷ rs) ++ rest) ≡ line ∷ pieces 10 after =
      ap (pieces 10) (sym (line_on r rs line after rest refl refl))
      ∙ pieces_at 10 line after (glued_plain (K.fields r) (lawful.back m r sound taken).3) in
      line_step K n m (lines_of (r ∷ rs) ++ rest) after line cut
      ∙ ap (λ x. and_then x (λ k. lines_read K (n + 1) k (pieces 10 after))) (line_back (place_of K n) m r sound taken)
      ∙ lines_through (n + 1) m₁ rs rest (lawful.keeps m r sound taken) (subst Sound (sym (lawful.more m r rs)) whole)
      ∙ ap (λ k. lines_read K (length rs + (n + 1)) k (pieces 10 rest)) (lawful.more m r rs)
      ∙ ap (λ j. lines_read K j (K.with_more m (r ∷ rs)) (pieces 10 rest)) (let z : length rs + (n + 1) ≡ suc (length rs) + n = omega arith in z)

  misnamed_back : (m : Model) (ps : List (List ℕ)) → 0 < length ps → ((rest : List ℕ) → glued 10 ps ≡ K.names ++ (10 ∷ rest) → ⊥)
      → all_read K m ps ≡ Err (Line (WrongNames (place_of K 1)))
  misnamed_back m [] some unnamed = absurd (let z : ⊥ = omega arith in z)
  misnamed_back m (p ∷ []) some unnamed = refl
  misnamed_back m (p ∷ (q ∷ ps)) some unnamed =
      cond-false (same p K.names) (lines_read K 2 m (q ∷ ps)) (Err (Line (WrongNames (place_of K 1))))
      (differ p K.names (λ e. unnamed (glued 10 (q ∷ ps)) (ap (λ x. x ++ (10 ∷ glued 10 (q ∷ ps))) e)))

  pub sheet_fails_back : (m : Model) (s : List ℕ) {f : LoadFault} → Sound m → SheetFails K m s f → sheet_read K m s ≡ Err f
  sheet_fails_back m s sound (misnamed unnamed) =
      misnamed_back m (pieces 10 s) (pieces_some 10 s) (λ rest e. unnamed rest (sym (glued_pieces 10 s) ∙ e))
  sheet_fails_back m s sound (bad_line good rest f whole keeps fails) =
      names_right K m s (lines_of good ++ rest) K.names
      (ap (pieces 10) (whole ∙ append_assoc K.names (10 ∷ lines_of good) rest) ∙ pieces_at 10 K.names (lines_of good ++ rest) lawful.named) refl
      ∙ lines_through 2 m good rest sound keeps
      ∙ line_fails_back (length good + 2) (K.with_more m good) rest fails
