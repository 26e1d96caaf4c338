-- The loop over searches: what holds before each, and what each and the last give. Assumes nothing.
use Rattle.std.proofs.Common.{◌≡◌, ℕ, suc, ◌+◌, ◌-◌, ◌*◌, ◌<◌, ◌≤◌, List, length, get_or, sum, sym, refl, ap, ◌∙◌, subst, arith}
use Rattle.parish.specs.Limits.{most_links, strongest_held}
use Rattle.parish.specs.Model.{Sound}
use Rattle.parish.specs.View.{view}
use Rattle.parish.specs.declared.items.Link.{Link}
use Rattle.parish.specs.declared.store.Parish.{Parish}
use Rattle.parish.proofs.Viewed.{parish_sound}
use Rattle.bisection.specs.Lots.{Lots}
use Rattle.bounds.proofs.Sums.{sum_most}
use Rattle.flows.specs.Rounds.{Search as Seek, rounds, last_room, Searches as Sought}
use Rattle.flows.specs.Levels.{by_levels}
use Rattle.flows.specs.Trees.{IsNetwork}
use Rattle.flows.proofs.Ends.{sound_within}
use Rattle.flows.proofs.Rounds.{Holds, Ended, at_first, value_most, round_holds, round_ended, rounds_last, rounds_more}
use Rattle.flows.proofs.Least.{ended_least}
use Rattle.flows.proofs.Scanning.{by_levels_searches}
use Rattle.flow.specs.declared.network.Network.{Network}
use Rattle.flow.specs.declared.network.Search.{Search}
use Rattle.flow.specs.Searching.{SearchesOnce, SendsAll}

-- the searches that follow one another
abbrev pub seek_in : Network → Seek
seek_in net = by_levels net.links.now net.lots.now net.left.now

-- before a search, from s to t: so much was sent, and the rounds that are left lead to the room at the end
pub record Round (s t : Search) (value : ℕ) : Type 0 where
  pub network : t.network ≡ s.network
  pub holds : Holds s.network.links.now s.network.lots.now s.network.left.now t.room.now value
  pub more : ℕ
  pub enough : sum s.network.left.now < more + value
  pub same : rounds (seek_in s.network) more t.room.now ≡ last_room (seek_in s.network) s.network.left.now

pub first_round : (s : Search) → s.room.now ≡ s.network.left.now → Round s s 0
first_round s unused =
    record {
      network = refl;
      holds = subst (λ r. Holds s.network.links.now s.network.lots.now s.network.left.now r 0) (sym unused)
          (at_first s.network.links.now s.network.lots.now s.network.left.now s.network.fits.left_long);
      more = suc (sum s.network.left.now);
      enough = omega arith;
      same = ap (rounds (seek_in s.network) (suc (sum s.network.left.now))) unused;
    }

module _ {s t t' : Search} {value d : ℕ} (r : Round s t value) (q : SearchesOnce t t' d) where
  good : Sought s.network.links.now s.network.lots.now s.network.left.now (seek_in s.network)
  good = by_levels_searches s.network.links.now s.network.lots.now s.network.left.now s.network.fits.ends

  same_network : t'.network ≡ s.network
  same_network = q.network ∙ r.network

  sent_is : d ≡ (seek_in s.network t.room.now).sent
  sent_is = q.sent ∙ ap (λ net. (seek_in net t.room.now).sent) r.network

  room_is : t'.room.now ≡ (seek_in s.network t.room.now).room
  room_is = q.room ∙ ap (λ net. (seek_in net t.room.now).room) r.network

  -- what is sent so far stays within what is left
  next_holds : Holds s.network.links.now s.network.lots.now s.network.left.now t'.room.now (value + d)
  next_holds =
      rw (room_is, sent_is)
      (round_holds s.network.links.now s.network.lots.now s.network.left.now (seek_in s.network) good t.room.now value r.holds)

  pub next_most : value + d ≤ sum s.network.left.now
  next_most = value_most s.network.links.now s.network.lots.now s.network.left.now s.network.fits.left_long t'.room.now (value + d) next_holds

  pub next_small : value + d ≤ strongest_held * most_links
  next_small = omega (arith, next_most, sum_most s.network.left.now s.network.fits.small, s.network.fits.left_long, s.network.fits.short)

  some_left : 1 ≤ r.more
  some_left = omega (arith, r.enough, value_most s.network.links.now s.network.lots.now s.network.left.now s.network.fits.left_long t.room.now value r.holds)

  -- something was sent
  pub next_round : (d ≡ 0 → ⊥) → Round s t' (value + d)
  next_round some =
      record {
        network = same_network;
        holds = next_holds;
        more = r.more - 1;
        enough = omega (arith, r.enough);
        same = ap (rounds (seek_in s.network) (r.more - 1)) room_is
            ∙ sym (rounds_more s.network.links.now s.network.lots.now s.network.left.now (seek_in s.network) r.more (r.more - 1) t.room.now (omega (arith, some_left)) (λ z. some (sent_is ∙ z)))
            ∙ r.same;
      }

  -- nothing was
  module _ (none : d ≡ 0) where
    pub last_is : t'.room.now ≡ last_room (seek_in s.network) s.network.left.now
    last_is =
        room_is
        ∙ sym (rounds_last s.network.links.now s.network.lots.now s.network.left.now (seek_in s.network) r.more t.room.now some_left (sym sent_is ∙ none))
        ∙ r.same

    pub last_ended : Ended s.network.links.now s.network.lots.now s.network.left.now t'.room.now value
    last_ended =
        rw room_is
        (round_ended s.network.links.now s.network.lots.now s.network.left.now (seek_in s.network) good t.room.now value r.holds (sym sent_is ∙ none))

    pub last_round : SendsAll s t' value
    last_round =
        record {
          network = same_network;
          sent = λ m of.
              ended_least m s.network.lots.now s.network.left.now of.sound of.lots (s.network.fits.left_long ∙ ap length of.links) t'.room.now value
              (subst (λ (ls : List Link). Ended ls s.network.lots.now s.network.left.now t'.room.now value) of.links last_ended);
          room = λ m of. last_is ∙ ap (λ (ls : List Link). last_room (by_levels ls s.network.lots.now s.network.left.now) s.network.left.now) of.links;
        }

-- of a parish whose links they are
module _ (p : Parish) (left : List ℕ) {lots : List ℕ} (ok : Lots (view p) lots) (long : length left ≡ length (view p).links)
    (small : (k : ℕ) → get_or left k 0 ≤ strongest_held) where
  sound : Sound (view p)
  sound = parish_sound p

  pub links_network : {ls : List Link} → ls ≡ (view p).links → IsNetwork ls left (length lots)
  links_network links =
      rw links
      (record { ends = sound_within (view p) lots sound ok; few = omega (arith, ok.long, sound.few); short = sound.short; left_long = long; small = small })

  -- what is left in all fits
  pub all_small : sum left ≤ strongest_held * most_links
  all_small = omega (arith, sum_most left small, sound.short)
