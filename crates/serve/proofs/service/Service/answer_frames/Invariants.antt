use Rattle.std.proofs.Common.{◌≡◌, ℕ, List, map, length}
use Rattle.std.specs.Io.Buffered.{writer_contents}
use Rattle.session.specs.Views.{view_of}
use Rattle.serve.specs.Sessions.{GoesOn}
use Rattle.serve.specs.Taken.{frame_of}
use Rattle.serve.proofs.Framing.{Made}
use Rattle.serve.proofs.service.Service.answer_frames.Given as goal

-- so many frames were taken as there were turns, and none was answered STOP
abbrev pub invariant-loop-turn : goal.invariant-loop-turn
invariant-loop-turn g l =
    (l.self.most ≡ l.fn.self.most)
    × ((frames : List (List ℕ)) × (length frames ≡ l._turn) × GoesOn l.fn.self.most (view_of l.fn.self.session) (map frame_of frames)
    × Made l.fn.self.most frames (view_of l.fn.self.session) (view_of l.self.session) l.fn.self.input l.self.input
    (writer_contents g.W.Write.contents l.fn.self.output) (writer_contents g.W.Write.contents l.self.output))
