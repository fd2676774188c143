use Rattle.std.proofs.Common.{map, take}
use Rattle.std.specs.Io.Buffered.{writer_contents}
use Rattle.std.specs.Io.KnownBytes.{Appends}
use Rattle.serve.specs.Printed.{row_lines}
use Rattle.book.specs.Rows.{row_of}
use Rattle.serve.proofs.service.print_rows.Given as goal

abbrev pub invariant-loop-row : goal.invariant-loop-row
invariant-loop-row g l =
    Appends (writer_contents g.W.Write.contents l.fn.output) (writer_contents g.W.Write.contents l.output) (row_lines (map row_of (take l.row-index l.rows)))
