use Rattle.std.proofs.Common.{arith, rules}
use Rattle.message.proofs.Spans.{values_end}
use Rattle.message.proofs.Message.start.Goals as goal

pub returns : goal.returns
returns c = record {
  value = search rules;
  room = omega (arith, values_end c.args.self.now.quarters c.args.self.now.bytes.now c.args.i c.args.self.now.formed c.requires);
}
