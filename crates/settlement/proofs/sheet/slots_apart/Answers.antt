use Rattle.settlement.proofs.Places as places
use Rattle.settlement.proofs.sheet.slots_apart.Goals as goal

pub returns : goal.returns
returns c = places.slots_apart
