-- A message that has passed all tests, as the code keeps it.
use Rattle.std.specs.Prelude.{◌≡◌, ℕ, ◌-◌, List}
use Rattle.message.specs.Form.{said}
use Rattle.book.specs.declared.submit.Accepted.{Accepted}
use Rattle.book.specs.Messages.{Read, flags_after}
use Rattle.book.specs.States.{State, size}

-- it is these bytes, read for the current day, with the sender and the version that they name and the flags after it
pub record IsAccepted (s : State) (form : List ℕ) (x : Accepted) : Type 0 where
  pub bytes : x.message.bytes.now ≡ form
  pub read : Read s x.own x.message.quarters form
  pub sender : x.own ≡ (said form).group - 1
  pub version : x.version ≡ (said form).version
  pub sent : x.sent ≡ flags_after (size s) x.own form s.sent
