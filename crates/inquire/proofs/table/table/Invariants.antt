use Rattle.std.proofs.Common.{◌≡◌, take}
use Rattle.std.specs.List.{flat_map}
use Rattle.session.specs.Views.{view_of}
use Rattle.inquire.specs.Entries.{entries_in}
use Rattle.inquire.specs.Table.{quarter_part}
use Rattle.inquire.proofs.table.table.Given as goal

abbrev pub invariant-loop-quarter : goal.invariant-loop-quarter
invariant-loop-quarter l = entries_in l.lines ≡ flat_map (quarter_part (view_of l.session)) (take l.quarter-index l.quarters)
