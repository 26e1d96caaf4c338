use Rattle.std.proofs.Common.{◌≡◌, ℕ, Bool, true, false, eqb, rules}
use borrow.Author.Tests.{tests}
use Rattle.std.proofs.lemmas.Iterator.{first_from_Range}
use Rattle.forest.specs.Grounds.{leads}
use Rattle.packing.specs.Grounded.{ground_of}
use Rattle.packing.proofs.Questions.{below_first}
use Rattle.packing.proofs.question.Question.root_link.Goals as goal

pub returns : goal.returns
returns c =
    let G = ground_of c.args.self.now in
    let test : ℕ → Bool = leads (ground_of c.args.self.now) (ground_of c.args.self.now).home (λ u. eqb u c.args.household) in
    below_first test G.links c.find.result
    (first_from_Range _ _ _ c.find.result (λ k. test k ≡ true) (λ k. test k ≡ false) c.find.ensures.ran (λ x q k. search (rules, tests)) (λ x q k. search (rules, tests)))
