use Rattle.std.proofs.Common.{ap, ◌∙◌, subst, sym}
use borrow.Author.Tests.{not-true, not-false}
use Rattle.std.proofs.lemmas.Bool.{cond-true, cond-false}
use Rattle.parish.specs.View.{view}
use Rattle.spelling.specs.Lines.{Read, sheet_read}
use Rattle.spelling.proofs.Reading.{names_read}
use Rattle.sheets.proofs.loading.read_sheet.Goals as goal

pub returns-then-ne : goal.returns-then-ne
returns-then-ne g c =
    let named = not-true _ (sym c.ne.ensures ∙ c.if-ne.true) in
    let read =
    names_read g.K.SheetKind.kind (view c.args.parish.now) c.new-reader.result c.part.new.self c.part.result c.names_line.result c.part.ensures
    c.names_line.ensures ∙ cond-false _ _ _ named in
    ap (sheet_read g.K.SheetKind.kind (view c.args.parish.now)) (sym c.new-reader.ensures) ∙ read
    ∙ (let here = c.sheet-sheet.ensures in let told = c.into.ensures in cc)

pub returns : goal.returns
returns g c =
    let named = not-false _ (sym c.ne.ensures ∙ c.if-ne.false) in
    let read =
    names_read g.K.SheetKind.kind (view c.args.parish.now) c.new-reader.result c.part.new.self c.part.result c.names_line.result c.part.ensures
    c.names_line.ensures ∙ cond-true _ _ _ named in
    subst (λ o. Read o (view c.read_lines.new.parish) c.read_lines.result)
    (sym (ap (sheet_read g.K.SheetKind.kind (view c.args.parish.now)) (sym c.new-reader.ensures) ∙ read)) c.read_lines.ensures
