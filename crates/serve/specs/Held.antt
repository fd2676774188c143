-- What an input buffer stands for.
use Rattle.std.specs.Prelude.{ℕ, List, Option}
use Rattle.std.specs.Io.KnownBytes.{prepend_known}

pub record Held : Type 0 where
  -- the bytes that have come and are not yet taken
  pub bytes : List ℕ
  -- those that the input will still give, where they are known
  pub rest : Option (List ℕ)

-- all that is still to be taken, where it is known
abbrev pub to_come : Held → Option (List ℕ)
to_come h = prepend_known h.bytes h.rest
