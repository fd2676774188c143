use Rattle.std.proofs.Common.{rules}
use Rattle.settlement.proofs.Places.{place_below}
use Rattle.settlement.proofs.sheet.slot_place.Goals as goal

pub returns-clause-bound : goal.returns-clause-bound
returns-clause-bound c = search (rules, place_below)
