use Rattle.std.proofs.lemmas.Result.{IfOk-weaker}
use Rattle.session.specs.Runs.{new_session}
use Rattle.session.specs.Views.{view_of}
use Rattle.serve.proofs.Framing.{frames_make}
use Rattle.serve.proofs.run_for.Goals as goal

pub returns : goal.returns
returns c =
    let service = c.in_ok-new.field-0 in
    IfOk-weaker c.serve.result _ _
    (λ s. frames_make c.args.most service.most new_session (view_of service.session) (view_of s) service.input c.in_ok-new.ensures.most c.in_ok-new.ensures.session)
    c.serve.ensures
