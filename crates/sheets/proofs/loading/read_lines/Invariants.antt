use Rattle.std.proofs.Common.{◌≡◌, ◌+◌, ◌^◌, ◌<◌, length}
use Rattle.parish.specs.View.{view}
use Rattle.spelling.specs.Lines.{lines_read}
use Rattle.spelling.specs.Pieces.{pieces}
use Rattle.sheets.proofs.loading.read_lines.Given as goal

abbrev pub invariant-loop-line : goal.invariant-loop-line
invariant-loop-line g l =
    (l.place.sheet ≡ g.K.SheetKind.kind.sheet)
    × (l.place.line + length l.reader < 2 ^ 64)
    × (lines_read g.K.SheetKind.kind l.place.line (view l.parish) (pieces 10 l.reader)
    ≡ lines_read g.K.SheetKind.kind 2 (view l.initial.parish) (pieces 10 l.initial.reader))

abbrev pub decreases-loop-line : goal.decreases-loop-line
decreases-loop-line g l = length l.reader
