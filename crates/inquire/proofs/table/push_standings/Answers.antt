use Rattle.std.proofs.Common.{rules, refl}
use Rattle.std.proofs.lemmas.Iterator.Adapters.{YieldsList-from_flat_map}
use Rattle.std.proofs.lemmas.Iterator.Consumers.{YieldsList-at}
use Rattle.std.specs.Iterator.Adapters.{map_callee}
use Rattle.book.specs.Calls.{asks_standing, groups_in, days_cut_in}
use Rattle.session.specs.Views.{SessionState, view_of}
use Rattle.inquire.specs.Entries.{entry_of, standing}
use Rattle.inquire.specs.Table.{day_standings}
use Rattle.inquire.proofs.Each.{extended, from_1_to, line_each}
use Rattle.inquire.proofs.table.push_standings.Goals as goal

pub returns : goal.returns
returns c =
    let s : SessionState = view_of c.args.session.now in
    extended c.args.lines.now c.extend.new.self c.extend.result c.extend.ensures.ran (λ xs p. p.0)
    (YieldsList-from_flat_map _ _ _ entry_of (day_standings s) _
    (λ x u q k. (
      search rules,
      λ j b. YieldsList-at b (line_each _ (λ a. standing x a (asks_standing (λ m. m) s.place a x)) (map_callee u) (λ y r p m. search rules)
          (groups_in s.place) (search rules) refl),
    ))
    (from_1_to (days_cut_in s.place) (search rules)) c.flat_map.ensures.closure c.flat_map.ensures.front c.flat_map.ensures.back c.flat_map.ensures.done)
