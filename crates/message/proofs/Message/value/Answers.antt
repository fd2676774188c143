use Rattle.std.proofs.Common.{rules}
use Rattle.message.proofs.Spans.{value_from_start}
use Rattle.message.proofs.Message.value.Goals as goal

pub returns : goal.returns
returns c = search (rules, value_from_start)
