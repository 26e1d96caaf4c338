-- Sending along paths. Of link k there is `get_or left k 0` left. Its room from the first end to the second, `get_or room k 0`,
-- is that much at first; its room back is twice what is left, less that. Assumes nothing.
use Rattle.std.specs.Prelude.{◌≡◌, ℕ, ◌+◌, ◌-◌, ◌*◌, ◌<◌, ◌≤◌, cond, List, [], ◌∷◌, length, fold, ◌≢◌, slice_index, slice_set}
use Rattle.std.specs.List.{AllByRecursion}
use Rattle.parish.specs.declared.items.Link.{Link}
use Rattle.bisection.specs.Answers.{least}
use Rattle.flows.specs.declared.items.Arc.{Arc}
use Rattle.bounds.specs.Sums.{listed}
use Rattle.bounds.specs.Left.{link_at}
use Rattle.flows.specs.Flows.{Flow}

-- the household that an arc comes from
abbrev pub tail : List Link → Arc → ℕ
tail ls a = cond a.onward (link_at ls a.link).from (link_at ls a.link).to

-- and the one that it leads to
abbrev pub head : List Link → Arc → ℕ
head ls a = cond a.onward (link_at ls a.link).to (link_at ls a.link).from

-- the room along an arc
abbrev pub room_of : List ℕ → List ℕ → Arc → ℕ
room_of left room a = cond a.onward (slice_index room a.link) (2 * slice_index left a.link - slice_index room a.link)

-- the least room along a path: its last arc, and those before it
abbrev pub least_room : List ℕ → List ℕ → Arc → List Arc → ℕ
least_room left room a p = least (room_of left room) (room_of left room a) p

-- the room after an amount is sent along an arc
abbrev pub send : ℕ → List ℕ → Arc → List ℕ
send d room a = slice_set room a.link (cond a.onward (slice_index room a.link - d) (slice_index room a.link + d))

-- and along each arc of a path
abbrev pub send_all : ℕ → List ℕ → List Arc → List ℕ
send_all d room path = fold (send d) room path

-- no two arcs of a path have one link
abbrev pub Apart : List Arc → Type 0
Apart [] = Unit {0}
Apart (a ∷ p) = AllByRecursion (λ b. a.link ≢ b.link) p × Apart p

-- the arcs of a path, the last first, lead from one household to another
abbrev pub Leads : List Link → List Arc → ℕ → ℕ → Type 0
Leads ls [] start goal = start ≡ goal
Leads ls (a ∷ p) start goal = (head ls a ≡ goal) × Leads ls p start (tail ls a)

-- an amount can be sent along a path: no link comes twice, each is there and has the room
pub record Open (ls : List Link) (left room : List ℕ) (d : ℕ) (p : List Arc) : Type 0 where
  pub apart : Apart p
  pub there : AllByRecursion (λ a. a.link < length ls) p
  pub roomy : AllByRecursion (λ a. d ≤ room_of left room a) p

-- the flow that some room shows
abbrev pub flow_of : List ℕ → List ℕ → Flow
flow_of left room = record { along = λ k. slice_index left k - slice_index room k; against = λ k. slice_index room k - slice_index left k }

-- how far two numbers are apart
abbrev pub distance : ℕ → ℕ → ℕ
distance x y = (x - y) + (y - x)

-- the amount of that flow on each link
abbrev pub amounts : List ℕ → List ℕ → List ℕ
amounts left room = listed (length left) (λ k. distance (slice_index left k) (slice_index room k))
