use Rattle.std.proofs.Common.{map, sym, subst}
use Rattle.std.proofs.KnownBytes.{Appends-trans}
use Rattle.std.proofs.lemmas.List.{take_all}
use Rattle.std.specs.Io.Buffered.{writer_contents}
use Rattle.std.specs.Io.KnownBytes.{Appends}
use Rattle.serve.specs.Printed.{row_lines}
use Rattle.book.specs.Rows.{row_of}
use Rattle.serve.proofs.Printing.{appends_nothing, row_lines_more}
use Rattle.serve.proofs.service.print_rows.Goals as goal

pub loop-row-init : goal.loop-row-init
loop-row-init g c = appends_nothing _

pub loop-row-preserved : goal.loop-row-preserved
loop-row-preserved g c =
    subst (Appends _ _) (sym (row_lines_more c.args.rows.now c.loop-row.row-index _ c.loop-row-test.true))
    (Appends-trans _ _ _ _ _ c.loop-row.invariant c.in_ok-writeln.ensures.bytes)

pub returns : goal.returns
returns g c =
    subst (λ rows. Appends (writer_contents g.W.Write.contents c.args.output.now) (writer_contents g.W.Write.contents c.loop-row.output) (row_lines (map row_of rows))) (take_all c.loop-row.row-index c.args.rows.now c.loop-row-test.false) c.loop-row.invariant
