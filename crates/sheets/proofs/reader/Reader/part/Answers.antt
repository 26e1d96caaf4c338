use Rattle.std.proofs.Common.{◌≡◌, ◌≢◌, Some, None, refl, arith, rules, tests}
use Rattle.std.proofs.lemmas.Iterator.{IsFirst-from_position, YieldsList-from_slice}
use Rattle.spelling.proofs.Cutting.{part_found, part_none}
use Rattle.sheets.proofs.reader.Reader.part.Goals as goal

pub returns-in_err-length : goal.returns-in_err-length
returns-in_err-length c =
    let none =
    IsFirst-from_position _ _ None (λ x. x ≡ c.args.end) (λ x. x ≢ c.args.end) c.in_err-length.ensures.ran
    (YieldsList-from_slice c.rest-rest.result.now cc) (λ x q k. search (rules, tests)) (λ x q k. search (rules, tests)) in
    rw c.from_residual.ensures (part_none c.args.end _ _ c.rest-rest.ensures (λ k lt. none k 0 (omega arith) lt), refl)

pub returns : goal.returns
returns c =
    let first =
    IsFirst-from_position _ _ (Some c.in_ok-length.length) (λ x. x ≡ c.args.end) (λ x. x ≢ c.args.end) c.in_ok-length.ensures.ran
    (YieldsList-from_slice c.rest-rest.result.now cc) (λ x q k. search (rules, tests)) (λ x q k. search (rules, tests)) in
    let at =
    part_found c.args.end c.in_ok-length.length c.self.inside.place c.self.inside.bytes.now _ _ c.self.view_is c.rest-rest.ensures first.0
    (λ k lt. first.2 k 0 (omega arith) lt) (first.1 0) in
    (at.0, at.1)
