use Rattle.std.proofs.Common.{rules}
use Rattle.serve.proofs.Framing.{serves_kept}
use Rattle.serve.proofs.service.Service.serve_frames.Goals as goal

pub returns-clause-frames : goal.returns-clause-frames
returns-clause-frames g c = search (rules, serves_kept)

pub returns-clause-out : goal.returns-clause-out
returns-clause-out g c = search rules
