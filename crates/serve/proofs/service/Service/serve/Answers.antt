use Rattle.serve.proofs.service.Service.serve.Goals as goal

pub returns : goal.returns
returns g c =
    let served = c.in_ok-serve_frames.ensures.frames in
    (served.0, served.1, c.serve_frames.new.self.input, served.2)
