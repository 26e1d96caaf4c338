-- What a load means, in plain words: how a parish is spelled, and which fault is the first. Assumes nothing.
use Rattle.std.specs.Prelude.{◌≡◌, ℕ, ◌+◌, ◌<◌, Bool, true, false, List, [], ◌∷◌, ◌++◌, length, get_or, Some, Ok, Err, Result, ◌≢◌, slice_index_or}
use Rattle.std.specs.List.{flat_map, AllByRecursion}
use Rattle.parish.specs.declared.refusals.Refusal.{Refusal}
use Rattle.parish.specs.declared.items.Household.{Household}
use Rattle.parish.specs.Model.{Model, Sound, no_model}
use Rattle.faults.specs.declared.LineFault.TheVariants.{WrongNames, WrongCount, Field}
use Rattle.faults.specs.declared.LoadFault.{LoadFault}
use Rattle.faults.specs.declared.LoadFault.TheVariants.{Line, Parish}
use Rattle.faults.specs.declared.Place.{Place}
use Rattle.spelling.specs.Kinds.{Kind, households_kind, links_kind}
use Rattle.spelling.specs.declared.counts.Counts.{Counts}
use Rattle.spelling.specs.Lines.{place_of}
use Rattle.spelling.specs.Loads.{loaded, counts_of}
use Rattle.spelling.specs.Pieces.{glued, Lacks}

-- a line: its fields with commas between them, and byte 10
abbrev pub line_of : List (List ℕ) → List ℕ
line_of fs = glued 44 fs ++ (10 ∷ [])

-- how a list of records is spelled: the names line, then a line for each in number order
abbrev pub sheet_of : {R : Type 0} → Kind R → List R → List ℕ
sheet_of K rs = K.names ++ (10 ∷ flat_map (λ r. line_of (K.fields r)) rs)

-- two sheets spell a parish
pub record Spells (households links : List ℕ) (m : Model) : Type 0 where
  pub first : households ≡ sheet_of households_kind m.households
  pub second : links ≡ sheet_of links_kind m.links

-- no byte of a field ends a field or a line
abbrev pub Plain : List ℕ → Type 0
Plain f = Lacks 44 f × Lacks 10 f

-- what no field's test says
abbrev pub never : List ℕ → Bool
never f = false

module _ {R : Type 0} (K : Kind R) where
  -- field k is as wanted
  abbrev pub Wanted : List (List ℕ) → ℕ → Type 0
  Wanted fs k = get_or K.wanted k never (slice_index_or fs k []) ≡ true

-- the line at the front of a text: it is ended, and these are its fields
pub record Opens (text : List ℕ) (fs : List (List ℕ)) : Type 0 where
  pub more : List ℕ
  pub whole : text ≡ line_of fs ++ more
  pub some : 0 < length fs
  pub plain : AllByRecursion Plain fs

-- Why the value line at the front of `rest` is bad, at its place, for a parish that holds m. Each way says that the tests
-- before it passed.
pub data LineFails {R : Type 0} (K : Kind R) (m : Model) (p : Place) (rest : List ℕ) : LoadFault → Type 0 where
  -- something stands there, and no byte 10 ends it
  unended : (0 < length rest) → Lacks 10 rest → LineFails K m p rest (Line (WrongCount p))
  -- it has a wrong count of fields
  miscounted : (fs : List (List ℕ)) → Opens rest fs → (length fs ≢ length K.wanted) → LineFails K m p rest (Line (WrongCount p))
  -- of its fields, as many as there should be, field k is the first that is not as wanted
  unwanted : (fs : List (List ℕ)) (k : ℕ) → Opens rest fs → length fs ≡ length K.wanted → k < length fs
      → ((j : ℕ) → j < k → Wanted K fs j) → (Wanted K fs k → ⊥) → LineFails K m p rest (Line (Field (record { place = p; field = k + 1 })))
  -- its fields are all as wanted, and the parish refuses the record that they write
  refused : (fs : List (List ℕ)) (e : Refusal) → Opens rest fs → length fs ≡ length K.wanted → ((j : ℕ) → j < length fs → Wanted K fs j)
      → K.refusal m (K.value fs) ≡ Some e
      → LineFails K m p rest (Parish (record { place = p; field = K.blamed m (K.value fs) e; refusal = e }))

-- The first fault of a sheet that is read onto a parish that holds m.
pub data SheetFails {R : Type 0} (K : Kind R) (m : Model) (sheet : List ℕ) : LoadFault → Type 0 where
  -- it does not open with the names line
  misnamed : ((rest : List ℕ) → sheet ≢ K.names ++ (10 ∷ rest)) → SheetFails K m sheet (Line (WrongNames (place_of K 1)))
  -- every line before the bad one writes a record, and the parish with all these records keeps its limits
  bad_line : (good : List R) (rest : List ℕ) (f : LoadFault) → sheet ≡ sheet_of K good ++ rest → Sound (K.with_more m good)
      → LineFails K (K.with_more m good) (place_of K (length good + 2)) rest f → SheetFails K m sheet f

-- The first fault of a load. The links sheet is looked at only where the households sheet is good.
pub data LoadFails (households links : List ℕ) : LoadFault → Type 0 where
  in_households : (f : LoadFault) → SheetFails households_kind no_model households f → LoadFails households links f
  in_links : (f : LoadFault) (hs : List Household) → households ≡ sheet_of households_kind hs → Sound (record { households = hs; links = [] })
      → SheetFails links_kind (record { households = hs; links = [] }) links f → LoadFails households links f

-- these say which fault a load gives: it gives just the one that is the first
abbrev pub FaultsAreFirst : Type 0
FaultsAreFirst =
    (households links : List ℕ) (f : LoadFault)
    → (loaded households links ≡ Err f → LoadFails households links f) × (LoadFails households links f → loaded households links ≡ Err f)

-- one pair of sheets spells one parish at most
abbrev pub SpellingIsUnique : Type 0
SpellingIsUnique = (households links : List ℕ) (m n : Model) → Sound m → Sound n → Spells households links m → Spells households links n → m ≡ n

-- A good load: the two sheets spell the parish that it leaves, within its limits, and they spell no other.
pub record Loaded (households links : List ℕ) (after : Model) (counts : Counts) : Type 0 where
  pub is : loaded households links ≡ Ok after
  pub counted : counts ≡ counts_of after
  pub sound : Sound after
  pub spells : Spells households links after
  pub only : (m : Model) → Sound m → Spells households links m → m ≡ after

-- A bad load: its fault is the first, and the two sheets spell no parish that keeps its limits.
pub record Faulty (households links : List ℕ) (f : LoadFault) : Type 0 where
  pub is : loaded households links ≡ Err f
  pub first : LoadFails households links f
  pub none : (m : Model) → Sound m → Spells households links m → ⊥

-- A load replaces the parish whole, or leaves it as it was.
abbrev pub LoadResult : List ℕ → List ℕ → Model → Model → Result Counts LoadFault → Type 0
LoadResult households links before after (Ok counts) = Loaded households links after counts
LoadResult households links before after (Err f) = Faulty households links f × (after ≡ before)
