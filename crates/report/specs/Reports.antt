-- What a report answers, and what it leaves in the bytes that were lent. Assumes nothing.
use Rattle.std.specs.Prelude.{◌≡◌, ℕ, ◌<◌, ◌≤◌, List, ◌++◌, length, drop, Ok, Err, Result}
use Rattle.parish.specs.declared.refusals.Refusal.{Refusal}
use Rattle.parish.specs.declared.refusals.Refusal.TheVariants.{WrongList}

-- the text stands at the front and its length is answered; where it does not fit, the bytes are left as they were
abbrev pub Written : List ℕ → List ℕ → List ℕ → Result ℕ Refusal → Type 0
Written text before after (Ok n) = (n ≡ length text) × (n ≤ length before) × (after ≡ text ++ drop n before)
Written text before after (Err e) = (e ≡ WrongList) × (length before < length text) × (after ≡ before)
