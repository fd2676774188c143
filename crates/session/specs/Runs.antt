-- A session over frames. A program serves at most so many groups.
use Rattle.std.specs.Prelude.{ℕ, List, [], ◌∷◌, None}
use Rattle.session.specs.Replies.{Told}
use Rattle.session.specs.Steps.{stepped}
use Rattle.session.specs.Views.{SessionState}

pub record Frame : Type 0 where
  pub letter : ℕ
  pub body : List ℕ

-- what a session tells of a frame, and its state afterwards
abbrev pub told_at : ℕ → SessionState → Frame → Told
told_at most x f = (stepped most x f.letter f.body).0

abbrev pub state_after : ℕ → SessionState → Frame → SessionState
state_after most x f = (stepped most x f.letter f.body).1

-- a session's state after frames, of which the newest stands first
abbrev pub session_from : ℕ → SessionState → List Frame → SessionState
session_from most x [] = x
session_from most x (f ∷ fs) = state_after most (session_from most x fs) f

-- from its first frame on
abbrev pub new_session : SessionState
new_session = record { rule = None; place = None; sheet = []; rows = [] }

abbrev pub session_after : ℕ → List Frame → SessionState
session_after most frames = session_from most new_session frames
