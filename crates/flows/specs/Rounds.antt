-- Searches, one after another, each of which sends along paths from A to B. Assumes nothing.
use Rattle.std.specs.Prelude.{◌≡◌, ℕ, zero, suc, ◌+◌, ◌*◌, ◌<◌, ◌≤◌, Bool, true, false, List, [], ◌∷◌, length, sum, ◌==◌, slice_index, slice_index_or}
use Rattle.parish.specs.declared.items.Link.{Link}
use Rattle.flows.specs.declared.items.Arc.{Arc}
use Rattle.flows.specs.Paths.{tail, head, room_of, send_all, Leads, Open}

-- how much a search has sent, and the room that it leaves
pub record Sending : Type 0 where
  pub sent : ℕ
  pub room : List ℕ

-- a search, for the room that there is
abbrev pub Search : Type 0
Search = List ℕ → Sending

-- search again and again, until nothing is sent or the rounds are over
abbrev pub rounds : Search → ℕ → List ℕ → List ℕ
rounds seek zero room = room
rounds seek (suc n) room =
    let s : Sending = seek room in
    elim (s.sent == 0) [
      | true ↦ s.room
      | false ↦ rounds seek n s.room
    ]

-- the room at the end: each round but the last sends at least 1, and no more is sent than is left in all
abbrev pub last_room : Search → List ℕ → List ℕ
last_room seek left = rounds seek (suc (sum left)) left

-- a room for each link, none above what is left both ways
pub record Roomed (ls : List Link) (left room : List ℕ) : Type 0 where
  pub long : length room ≡ length ls
  pub within : (k : ℕ) → slice_index room k ≤ 2 * slice_index left k

-- a path from a household of A to one of B, along which an amount can be sent
pub record Way (ls : List Link) (lots left room : List ℕ) (d : ℕ) (p : List Arc) : Type 0 where
  pub start : ℕ
  pub goal : ℕ
  pub from_A : slice_index_or lots start 0 ≡ 1
  pub to_B : slice_index_or lots goal 0 ≡ 2
  pub leads : Leads ls p start goal
  pub clear : Open ls left room d p

-- an amount and the path that it is sent along
pub record Send : Type 0 where
  pub amount : ℕ
  pub path : List Arc

-- some sends, the last first, each along a way that is open then, come to an amount and leave some room
abbrev pub Sends : List Link → List ℕ → List ℕ → List ℕ → List Send → ℕ → List ℕ → Type 0
Sends ls lots left room [] d after = (d ≡ 0) × (after ≡ room)
Sends ls lots left room (s ∷ earlier) d after =
    (c : ℕ) × (mid : List ℕ) × Sends ls lots left room earlier c mid × Way ls lots left mid s.amount s.path
    × (d ≡ c + s.amount) × (after ≡ send_all s.amount mid s.path)

-- a side of the households, with those of A and none of B, out of which no arc has room
pub record Shut (ls : List Link) (lots left room : List ℕ) : Type 0 where
  pub side : ℕ → Bool
  pub has_A : (v : ℕ) → slice_index lots v ≡ 1 → side v ≡ true
  pub lacks_B : (v : ℕ) → slice_index lots v ≡ 2 → side v ≡ false
  pub full : (a : Arc) → a.link < length ls → side (tail ls a) ≡ true → side (head ls a) ≡ false → room_of left room a ≡ 0

-- all that a search owes: it sends along ways, and where it sends nothing a side is shut
pub record Searches (ls : List Link) (lots left : List ℕ) (seek : Search) : Type 0 where
  pub sends : (room : List ℕ) → Roomed ls left room
      → (list : List Send) × Sends ls lots left room list (seek room).sent (seek room).room
  pub ends : (room : List ℕ) → Roomed ls left room → (seek room).sent ≡ 0 → Shut ls lots left (seek room).room
