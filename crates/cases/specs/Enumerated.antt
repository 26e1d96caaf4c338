-- Small parishes whose values an independent enumeration gave, tools/enumerate.py. Assumes nothing.
use Rattle.std.specs.Prelude.{◌≡◌, ℕ, List, [], ◌∷◌, Some, None, Option}
use Rattle.parish.specs.declared.items.Household.{Household}
use Rattle.parish.specs.declared.items.Link.{Link}
use Rattle.bisection.specs.Meanings.{bare, decided}
use Rattle.cases.specs.Parishes.{free, in_A, in_B, link, priced_answer, steps_over}

-- a parish at a tolerance and under a ceiling: its answer with the cost, and the steps over bare and over decided
pub record Gives (hs : List Household) (ls : List Link) (tolerance ceiling : ℕ) (found : Option (List ℕ × ℕ)) (over_bare over_decided : ℕ) : Type 0 where
  pub answers : priced_answer (record { households = hs; links = ls }) tolerance ceiling ≡ found
  pub bare_steps : steps_over bare (record { households = hs; links = ls }) tolerance ceiling ≡ over_bare
  pub decided_steps : steps_over decided (record { households = hs; links = ls }) tolerance ceiling ≡ over_decided

-- the parishes, by the names that the program gives them
pub record EnumeratedCases : Type 0 where
  pub triangle : Gives (free 1 ∷ free 1 ∷ free 1 ∷ []) (link 0 1 5 ∷ link 1 2 1 ∷ link 0 2 2 ∷ []) 0 100 (Some (1 ∷ 1 ∷ 2 ∷ [], 3)) 15 11
  pub path : Gives (free 2 ∷ free 2 ∷ free 2 ∷ free 2 ∷ []) (link 0 1 1 ∷ link 1 2 3 ∷ link 2 3 1 ∷ []) 0 100 (Some (1 ∷ 2 ∷ 2 ∷ 1 ∷ [], 2)) 27 21
  pub star : Gives (free 3 ∷ free 1 ∷ free 1 ∷ free 1 ∷ []) (link 0 1 2 ∷ link 0 2 3 ∷ link 0 3 4 ∷ []) 0 100 (Some (1 ∷ 2 ∷ 2 ∷ 2 ∷ [], 9)) 15 15
  pub drawn : Gives (in_A 5 ∷ in_B 5 ∷ free 1 ∷ []) (link 0 2 7 ∷ link 1 2 3 ∷ []) 0 100 (Some (1 ∷ 2 ∷ 1 ∷ [], 3)) 3 3
  pub pinned : Gives (in_A 1 ∷ in_B 1 ∷ []) (link 0 1 4 ∷ []) 0 5 (Some (1 ∷ 2 ∷ [], 4)) 1 1
  pub crowded : Gives (in_A 3 ∷ in_A 3 ∷ []) (link 0 1 4 ∷ []) 0 100 None 1 1
  pub double : Gives (free 1 ∷ free 1 ∷ []) (link 0 1 2 ∷ link 1 0 3 ∷ []) 0 100 (Some (1 ∷ 2 ∷ [], 5)) 7 7
  pub dear : Gives (free 2 ∷ free 2 ∷ free 2 ∷ free 2 ∷ []) (link 0 1 1 ∷ link 1 2 3 ∷ link 2 3 1 ∷ []) 0 2 None 27 19
  pub loose : Gives (free 4 ∷ free 1 ∷ free 1 ∷ []) (link 0 1 1 ∷ link 0 2 6 ∷ []) 500 100 (Some (1 ∷ 2 ∷ 2 ∷ [], 7)) 11 11
  pub tight : Gives (free 4 ∷ free 1 ∷ free 1 ∷ []) (link 0 1 1 ∷ link 0 2 6 ∷ []) 0 100 None 3 3
  pub weightless : Gives (free 0 ∷ free 0 ∷ free 0 ∷ []) (link 0 1 1 ∷ link 1 2 1 ∷ []) 0 100 (Some (1 ∷ 1 ∷ 1 ∷ [], 0)) 7 7
  pub ring : Gives (free 1 ∷ free 1 ∷ free 1 ∷ free 1 ∷ []) (link 0 1 1 ∷ link 1 2 1 ∷ link 2 3 1 ∷ link 3 0 1 ∷ []) 0 100 (Some (1 ∷ 1 ∷ 2 ∷ 2 ∷ [], 2)) 27 23
  pub mirrored : Gives (in_B 3 ∷ free 2 ∷ free 2 ∷ free 3 ∷ []) (link 0 1 4 ∷ link 1 2 1 ∷ link 2 3 4 ∷ link 0 3 1 ∷ []) 0 100 (Some (2 ∷ 2 ∷ 1 ∷ 1 ∷ [], 2)) 13 13
  pub five : Gives (free 2 ∷ in_A 1 ∷ free 2 ∷ in_B 1 ∷ free 2 ∷ []) (link 0 1 3 ∷ link 1 2 2 ∷ link 2 3 2 ∷ link 3 4 3 ∷ link 4 0 1 ∷ link 0 2 4 ∷ []) 250 9 (Some (1 ∷ 1 ∷ 1 ∷ 2 ∷ 2 ∷ [], 3)) 15 7
