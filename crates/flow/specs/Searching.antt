-- What the program holds of a search, in the words of the theory. Assumes nothing.
use Rattle.std.specs.Prelude.{◌≡◌, ℕ, ◌+◌, Bool, List, ◌∷◌, Some, Option, slice_set}
use Rattle.parish.specs.Model.{Model, Sound}
use Rattle.bisection.specs.Lots.{Lots}
use Rattle.flows.specs.declared.items.Arc.{Arc}
use Rattle.flows.specs.Cuts.{least_cut}
use Rattle.flows.specs.Paths.{tail, head, room_of, least_room, send_all, Open, amounts}
use Rattle.flows.specs.Levels.{level_of, Scan, path_before, leads_on, arc_on, scan_level, searched, chosen_room}
use Rattle.flows.specs.Trees.{Ready}
use Rattle.flow.specs.declared.network.Network.{Network}
use Rattle.flow.specs.declared.network.Search.{Search}

-- a network is that of a parish and a list of its lots
pub record IsNetworkOf (m : Model) (net : Network) : Type 0 where
  pub sound : Sound m
  pub links : net.links.now ≡ m.links
  pub lots : Lots m net.lots.now

-- the room along an arc
abbrev pub room_in : Search → Arc → ℕ
room_in s a = room_of s.network.left.now s.room.now a

-- the amount of flow on each link
abbrev pub amounts_in : Search → List ℕ
amounts_in s = amounts s.network.left.now s.room.now

-- an arc leads, with room, from a household of a level to one not reached
abbrev pub leads_on_in : Search → ℕ → Arc → Bool
leads_on_in s depth a = leads_on s.network.links.now s.network.left.now s.room.now s.marks.now depth a

-- the arc by which a link does so, if one does
abbrev pub arc_on_in : Search → ℕ → ℕ → Option Arc
arc_on_in s depth k = arc_on s.network.links.now s.network.left.now s.room.now s.marks.now depth k

-- the path that an arc ends, back through the levels
abbrev pub path_to : Search → Arc → List Arc
path_to s a = a ∷ path_before s.network.links.now s.marks.now (level_of s.marks.now (tail s.network.links.now a)) a

-- the least room along it
abbrev pub least_room_in : Search → Arc → ℕ
least_room_in s a =
    least_room s.network.left.now s.room.now a (path_before s.network.links.now s.marks.now (level_of s.marks.now (tail s.network.links.now a)) a)

-- an amount can be sent along a path
abbrev pub IsOpen : Search → ℕ → List Arc → Type 0
IsOpen s d p = Open s.network.links.now s.network.left.now s.room.now d p

-- before a level is scanned
abbrev pub IsReady : Search → ℕ → Type 0
IsReady s depth = Ready s.network.links.now s.network.lots.now s.network.left.now depth s.room.now s.marks.now

-- an amount is sent along a path, and no more changes
pub record SendsAlong (s s' : Search) (d : ℕ) (p : List Arc) : Type 0 where
  pub network : s'.network ≡ s.network
  pub room : s'.room.now ≡ send_all d s.room.now p
  pub marks : s'.marks.now ≡ s.marks.now

-- an arc from a level reaches a household, and no more changes
pub record Reaches (s s' : Search) (depth : ℕ) (a : Arc) : Type 0 where
  pub network : s'.network ≡ s.network
  pub room : s'.room.now ≡ s.room.now
  pub marks : s'.marks.now ≡ slice_set s.marks.now (head s.network.links.now a) (Some (record { level = depth + 1; arc = Some a }))

-- a level is scanned
pub record Scans (s s' : Search) (depth : ℕ) (grew : Bool) (sent : ℕ) : Type 0 where
  pub network : s'.network ≡ s.network
  pub scan : ◌≡◌ {A = Scan} (record { grew = grew; sent = sent; room = s'.room.now; marks = s'.marks.now })
      (scan_level s.network.links.now s.network.lots.now s.network.left.now depth s.room.now s.marks.now)

-- all levels are, until something is sent or no household is reached
pub record SearchesOnce (s s' : Search) (amount : ℕ) : Type 0 where
  pub network : s'.network ≡ s.network
  pub sent : amount ≡ (searched s.network.links.now s.network.lots.now s.network.left.now s.room.now).sent
  pub room : s'.room.now ≡ (searched s.network.links.now s.network.lots.now s.network.left.now s.room.now).room

-- search follows search until nothing is sent: in a parish with this network, as much as the least cut, and the chosen room is left
pub record SendsAll (s s' : Search) (amount : ℕ) : Type 0 where
  pub network : s'.network ≡ s.network
  pub sent : (m : Model) → IsNetworkOf m s.network → amount ≡ least_cut m s.network.lots.now s.network.left.now
  pub room : (m : Model) → IsNetworkOf m s.network → s'.room.now ≡ chosen_room m s.network.lots.now s.network.left.now
