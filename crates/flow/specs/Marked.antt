-- What a clause sees of a mark as a search holds it. Assumes nothing.
use Rattle.std.specs.Prelude.{◌≡◌, ℕ, ◌+◌, ◌≤◌, ◌<◌, ◌≢◌, Bool, true, false, cond, ◌==◌, Option, Some, None, IfSome, refl}
use Rattle.std.proofs.Common.{sym, arith}
use Rattle.std.proofs.lemmas.Bool.{eqb-true}
use Rattle.parish.specs.Limits.{most_households, most_links}
use Rattle.flows.specs.declared.items.Arc.{Arc}
use Rattle.flows.specs.declared.items.Mark.{Mark}
use Rattle.flow.specs.declared.marked.Marked.TheInside.{Inside}

-- the arc of a mark at a level: those of level 1 have none
abbrev pub arc_at : ℕ → Inside → Option Arc
arc_at level c = cond (level == 1) None (Some (record { link = c.link; onward = c.onward }))

-- a level of 0 is no mark
abbrev pub seen : Inside → Option Mark
seen c = cond (c.level == 0) None (Some (record { level = c.level; arc = arc_at c.level c }))

-- where there is no arc, its place is bare
abbrev pub IsBare : Inside → Type 0
IsBare c = c.level ≤ 1 → (c.link ≡ 0) × (c.onward ≡ false)

-- a mark can be held: it is within the limits, and has an arc just where it is past level 1
pub record IsMark (m : Mark) : Type 0 where
  pub ranked : 1 ≤ m.level
  pub low : m.level ≤ most_households + 1
  pub first : m.level ≡ 1 → m.arc ≡ None
  pub later : 1 < m.level → m.arc ≢ None
  pub linked : IfSome m.arc (λ a. a.link < most_links)

-- what it is seen as gives it back
abbrev pub held : Option Mark → Inside
held None = record { level = 0; link = 0; onward = false }
held (Some m) =
    elim m.arc [
      | None ↦ record { level = m.level; link = 0; onward = false }
      | Some a ↦ record { level = m.level; link = a.link; onward = a.onward }
    ]

pub held_seen : (c : Inside) → IsBare c → held (seen c) ≡ c
held_seen c bare = by (c.level == 0) refl
  where
    reached : (b : Bool) → (c.level == 1) ≡ b
        → held (Some (record { level = c.level; arc = cond b None (Some (record { link = c.link; onward = c.onward })) })) ≡ c
    reached true e =
        let one = eqb-true c.level 1 e in
        let p = bare (omega (arith, one)) in
        λ i. record { level = c.level; link = sym p.0 i; onward = sym p.1 i }
    reached false e = refl

    by : (b : Bool) → (c.level == 0) ≡ b → held (cond b None (Some (record { level = c.level; arc = arc_at c.level c }))) ≡ c
    by true e =
        let zero_is = eqb-true c.level 0 e in
        let p = bare (omega (arith, zero_is)) in
        λ i. record { level = sym zero_is i; link = sym p.0 i; onward = sym p.1 i }
    by false e = reached (c.level == 1) refl
