-- A frame's head: a letter and the length of the body.
use Rattle.std.specs.Prelude.{ℕ, List, Option, nat_le}
use Rattle.std.specs.Bool.{then_some}
use Rattle.forms.specs.Bytes.{be32}

-- the bytes before the body
abbrev pub frame_head : ℕ
frame_head = 5

-- no body is longer
abbrev pub longest_body : ℕ
longest_body = 12746

-- the length that a head announces for its body, none where that is above the bound
abbrev pub announced : List ℕ → Option ℕ
announced head = then_some (nat_le (be32 head 1) longest_body) (be32 head 1)
