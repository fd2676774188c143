use Rattle.std.proofs.Common.{rules}
use Rattle.book.specs.Calls.{asks_position, groups_in}
use Rattle.session.specs.Views.{SessionState, view_of}
use Rattle.inquire.specs.Entries.{position_asked}
use Rattle.inquire.proofs.Each.{extended, line_each}
use Rattle.inquire.proofs.table.push_positions.Goals as goal

pub returns : goal.returns
returns c =
    let s : SessionState = view_of c.args.session.now in
    extended c.args.lines.now c.extend.new.self c.extend.result c.extend.ensures.ran (λ xs p. p.0)
    (line_each _ (λ a. position_asked c.args.quarter a (asks_position s.place s.sheet a c.args.quarter)) _ (λ x r q k. search rules)
    (groups_in s.place) (search rules) c.map.ensures.closure)
