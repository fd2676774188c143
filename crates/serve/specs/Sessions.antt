-- A whole session: frame after frame of an input, what they are answered, and why it ends.
use Rattle.std.specs.Prelude.{◌≡◌, ◌≢◌, ℕ, ◌-◌, ◌^◌, List, [], ◌∷◌, ◌++◌, ⊤, Option, All, length, map}
use Rattle.std.specs.Io.KnownBytes.{Consumes, Appends, IsAtEnd}
use Rattle.session.specs.Replies.{line, stop}
use Rattle.session.specs.Runs.{Frame, told_at, session_from}
use Rattle.session.specs.Views.{SessionState}
use Rattle.serve.specs.Held.{Held, to_come}
use Rattle.serve.specs.Printed.{answer}
use Rattle.serve.specs.Taken.{frame_of, IsFrame, IsCut}

-- In each list of frames here the newest stands first, as in the session's runs.

-- the bytes of frames, as they came
abbrev pub bytes_of_frames : List (List ℕ) → List ℕ
bytes_of_frames [] = []
bytes_of_frames (f ∷ fs) = bytes_of_frames fs ++ f

-- what is printed for frames, in the order in which they came: for each its answer, with the rows as it left them
abbrev pub answers : ℕ → SessionState → List Frame → List ℕ
answers most x [] = []
answers most x (f ∷ fs) = answers most x fs ++ answer (told_at most (session_from most x fs) f) (session_from most x (f ∷ fs))

-- none of the frames is answered STOP
abbrev pub GoesOn : ℕ → SessionState → List Frame → Type 0
GoesOn most x [] = ⊤
GoesOn most x (f ∷ fs) = (told_at most (session_from most x fs) f ≢ stop) × GoesOn most x fs

-- why a session takes no more: nothing comes; the newest frame is answered STOP; what comes is no frame, but one
-- that is cut short or too long; or so many frames were taken that the count of turns ends
pub data Why : Type 0 where
  all_taken : Why
  stopped : Why
  cut : Why
  counted_out : Why

-- before that, no frame is answered STOP
abbrev pub Ended : ℕ → SessionState → List Frame → Held → Why → Type 0
Ended most x frames left all_taken = GoesOn most x frames × IsAtEnd (to_come left)
Ended most x [] left stopped = ⊥
Ended most x (f ∷ fs) left stopped = (told_at most (session_from most x fs) f ≡ stop) × GoesOn most x fs
Ended most x frames left cut = GoesOn most x frames × IsCut left
Ended most x frames left counted_out = GoesOn most x frames × (length frames ≡ 2 ^ 64 - 1)

-- these frames are what is taken of the input, byte for byte, and make of one session the other, which ends for this reason
pub record TakesFrames (most : ℕ) (frames : List (List ℕ)) (why : Why) (before after : SessionState) (held left : Held) : Type 0 where
  pub whole : All IsFrame frames
  pub bytes : Consumes (to_come held) (to_come left) (bytes_of_frames frames)
  pub session : after ≡ session_from most before (map frame_of frames)
  pub ended : Ended most before (map frame_of frames) left why

-- what is printed at the end: a frame that is cut short or too long is answered too, though it is never taken
abbrev pub last_answer : Why → List ℕ
last_answer cut = line stop ++ 10 ∷ []
last_answer why = []

-- frames are taken one after another, and their answers printed
abbrev pub Serves : ℕ → SessionState → SessionState → Held → Held → Option (List ℕ) → Option (List ℕ) → Type 0
Serves most before after held left old new =
    (frames : List (List ℕ)) × (why : Why) × TakesFrames most frames why before after held left
    × Appends old new (answers most before (map frame_of frames) ++ last_answer why)

-- of a session and an input this session is left
abbrev pub SessionLeft : ℕ → SessionState → SessionState → Held → Type 0
SessionLeft most before after held = (frames : List (List ℕ)) × (why : Why) × (left : Held) × TakesFrames most frames why before after held left
