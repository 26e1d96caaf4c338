-- A search for shortest paths, level by level. Level 1 has the households set in A. To scan a level, the links are taken in
-- number order. A link that leads, with room that way, from a household of the level to one not yet reached either ends a
-- path, where that one is set in B: then as much is sent along the path as it has room for; or it reaches that one, at the
-- next level. The search goes on to the next level where nothing was sent and some household was reached. Assumes nothing.
use Rattle.std.specs.Prelude.{ℕ, zero, suc, ◌+◌, ◌-◌, Bool, true, false, cond, ◌&&◌, List, [], ◌∷◌, map, length, Some, None, Option, is_none, option_and_then, ◌==◌, nat_lt, slice_index, slice_index_or, slice_set}
use Rattle.std.specs.Option.{option_map_or}
use Rattle.parish.specs.Model.{Model}
use Rattle.parish.specs.declared.items.Link.{Link}
use Rattle.flows.specs.declared.items.Arc.{Arc}
use Rattle.flows.specs.declared.items.Mark.{Mark}
use Rattle.flows.specs.Flows.{Flow}
use Rattle.flows.specs.Paths.{tail, head, room_of, least_room, send_all, flow_of, amounts}
use Rattle.flows.specs.Rounds.{Search, last_room}

-- the mark of a household, if it is reached
abbrev pub mark_of : List (Option Mark) → ℕ → Option Mark
mark_of marks v = slice_index_or marks v None

-- its level, or 0 if it is not reached
abbrev pub level_of : List (Option Mark) → ℕ → ℕ
level_of marks v = option_map_or (λ m. m.level) (mark_of marks v) 0

-- whether it was reached at a level
abbrev pub is_at : List (Option Mark) → ℕ → ℕ → Bool
is_at marks depth v = option_map_or (λ m. m.level == depth) (mark_of marks v) false

-- at first the households set in A are reached, by no arc
abbrev pub level_one : List ℕ → List (Option Mark)
level_one lots = map (λ x. cond (x == 1) (Some (record { level = 1; arc = None })) None) lots

-- the arc by which a household was reached, if by one
abbrev pub arc_to : List (Option Mark) → ℕ → Option Arc
arc_to marks v = option_and_then (λ m. m.arc) (mark_of marks v)

-- the path to a household, back through so many arcs
abbrev pub path_back : List Link → List (Option Mark) → ℕ → ℕ → List Arc
path_back ls marks zero v = []
path_back ls marks (suc n) v =
    elim (arc_to marks v) [
      | None ↦ []
      | Some a ↦ a ∷ path_back ls marks n (tail ls a)
    ]

-- how far a scan has come: whether a household was reached, how much was sent, the room and the marks
pub record Scan : Type 0 where
  pub grew : Bool
  pub sent : ℕ
  pub room : List ℕ
  pub marks : List (Option Mark)

-- nothing scanned
abbrev pub fresh : List ℕ → List (Option Mark) → Scan
fresh room marks = record { grew = false; sent = 0; room = room; marks = marks }

-- nothing was sent, and some household was reached
abbrev pub goes_on : Scan → Bool
goes_on s = s.grew && s.sent == 0

-- an arc leads, with room, from a household of a level to one not reached
abbrev pub leads_on : List Link → List ℕ → List ℕ → List (Option Mark) → ℕ → Arc → Bool
leads_on ls left room marks depth a =
    is_at marks depth (tail ls a) && (is_none (mark_of marks (head ls a)) && nat_lt 0 (room_of left room a))

-- the arc by which link k does so, if one does
abbrev pub arc_on : List Link → List ℕ → List ℕ → List (Option Mark) → ℕ → ℕ → Option Arc
arc_on ls left room marks depth k =
    cond (leads_on ls left room marks depth (record { link = k; onward = true })) (Some (record { link = k; onward = true }))
    (cond (leads_on ls left room marks depth (record { link = k; onward = false })) (Some (record { link = k; onward = false })) None)

-- the path that an arc from a level goes on from
abbrev pub path_before : List Link → List (Option Mark) → ℕ → Arc → List Arc
path_before ls marks depth a = path_back ls marks (depth - 1) (tail ls a)

-- an arc from a level ends a path: as much is sent as the path has room for
abbrev pub sent_by : List Link → List ℕ → ℕ → Scan → Arc → Scan
sent_by ls left depth s a =
    let p : List Arc = path_before ls s.marks depth a in
    let d : ℕ = least_room left s.room a p in
    record { grew = s.grew; sent = s.sent + d; room = send_all d s.room (a ∷ p); marks = s.marks }

-- an arc from a level reaches a household, at the next level
abbrev pub reached_by : List Link → ℕ → Scan → Arc → Scan
reached_by ls depth s a =
    record {
      grew = true;
      sent = s.sent;
      room = s.room;
      marks = slice_set s.marks (head ls a) (Some (record { level = depth + 1; arc = Some a }));
    }

module _ (ls : List Link) (lots left : List ℕ) where
  -- which of the two: by the lot of the household that the arc leads to
  abbrev pub by_arc : ℕ → Scan → Option Arc → Scan
  by_arc depth s None = s
  by_arc depth s (Some a) = cond (slice_index lots (head ls a) == 2) (sent_by ls left depth s a) (reached_by ls depth s a)

  -- link k is taken
  abbrev pub take_link : ℕ → Scan → ℕ → Scan
  take_link depth s k = by_arc depth s (arc_on ls left s.room s.marks depth k)

  -- so many links are taken
  abbrev pub take_links : ℕ → Scan → ℕ → Scan
  take_links depth s zero = s
  take_links depth s (suc k) = take_link depth (take_links depth s k) k

  -- a level is scanned
  abbrev pub scan_level : ℕ → List ℕ → List (Option Mark) → Scan
  scan_level depth room marks = take_links depth (fresh room marks) (length ls)

  -- level after level, so many at most
  abbrev pub search_from : ℕ → ℕ → List ℕ → List (Option Mark) → Scan
  search_from zero depth room marks = fresh room marks
  search_from (suc more) depth room marks =
      let s : Scan = scan_level depth room marks in
      elim (goes_on s) [
        | true ↦ search_from more (depth + 1) s.room s.marks
        | false ↦ s
      ]

  -- from the first level on; there are no more levels than households
  abbrev pub searched : List ℕ → Scan
  searched room = search_from (length lots) 1 room (level_one lots)

  -- as one of the searches that follow one another
  abbrev pub by_levels : Search
  by_levels room = let s : Scan = searched room in record { sent = s.sent; room = s.room }

-- the room at the end of all searches
abbrev pub chosen_room : Model → List ℕ → List ℕ → List ℕ
chosen_room m lots left = last_room (by_levels m.links lots left) left

-- the flow that is chosen
abbrev pub chosen_flow : Model → List ℕ → List ℕ → Flow
chosen_flow m lots left = flow_of left (chosen_room m lots left)

-- and what it puts on each link
abbrev pub flow_charges : Model → List ℕ → List ℕ → List ℕ
flow_charges m lots left = amounts left (chosen_room m lots left)
