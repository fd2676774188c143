use Rattle.std.proofs.Common.{arith}
use Rattle.message.proofs.Spans.{be32_of_chunk}
use Rattle.message.proofs.words_of.Goals as goal

pub returns-clause-each : goal.returns-clause-each
returns-clause-each c = λ t l. rw c.as_chunks.ensures.front (be32_of_chunk c.args.bytes.now _ t (omega arith))
