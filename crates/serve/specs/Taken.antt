-- How the next frame of an input is taken.
use Rattle.std.specs.Prelude.{◌≡◌, ℕ, ◌+◌, ◌-◌, ◌<◌, ◌≤◌, ◌⊎◌, List, length, take, drop, Some, IfSome, slice_index}
use Rattle.std.specs.Io.KnownBytes.{Keeps, Consumes, IsAtEnd}
use Rattle.session.specs.Frames.{announced, frame_head}
use Rattle.session.specs.Replies.{Told, stop}
use Rattle.session.specs.Runs.{Frame, told_at, state_after, session_from}
use Rattle.session.specs.Views.{SessionState}
use Rattle.serve.specs.Held.{Held, to_come}

-- a head that says how long the body is, and the body
abbrev pub IsFrame : List ℕ → Type 0
IsFrame frame = (frame_head ≤ length frame) × (announced (take frame_head frame) ≡ Some (length frame - frame_head))

-- the frame of these bytes: its letter, and its body behind the head
abbrev pub frame_of : List ℕ → Frame
frame_of bytes = record { letter = slice_index bytes 0; body = drop frame_head bytes }

-- the bytes of one frame are taken, and a session that serves at most so many groups takes its step by them
abbrev pub Steps : ℕ → SessionState → Told → SessionState → Held → Held → Type 0
Steps most before reply after held left =
    (frame : List ℕ) × IsFrame frame × Consumes (to_come held) (to_come left) frame
    × (reply ≡ told_at most before (frame_of frame)) × (after ≡ state_after most before (frame_of frame))

-- behind this head the input ends before the body does; where the head announces too much, nothing is said
abbrev pub BodyIsCut : List ℕ → Held → Type 0
BodyIsCut head left = IfSome (announced head) (λ size. (length left.bytes < frame_head + size) × IsAtEnd left.rest)

-- no whole frame stands at the front, and none will: the input ends in the head or in the body, or the head announces too much
pub record IsCut (left : Held) : Type 0 where
  pub some : 0 < length left.bytes
  pub head : length left.bytes < frame_head → IsAtEnd left.rest
  pub body : frame_head ≤ length left.bytes → BodyIsCut (take frame_head left.bytes) left

-- no byte is taken, and the session ends as it was
abbrev pub Ends : SessionState → Told → SessionState → Held → Held → Type 0
Ends before reply after held left = (reply ≡ stop) × (after ≡ before) × Keeps (to_come held) (to_come left) × IsCut left

-- a frame that is cut short or too long ends the session, any other is a step
abbrev pub TakesFrame : ℕ → SessionState → Told → SessionState → Held → Held → Type 0
TakesFrame most before reply after held left = Ends before reply after held left ⊎ Steps most before reply after held left

-- some frames, one after another, make the second session of the first
abbrev pub FramesMake : ℕ → SessionState → SessionState → Type 0
FramesMake most before after = (frames : List Frame) × (after ≡ session_from most before frames)
