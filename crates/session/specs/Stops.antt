-- When a frame ends the session, before anything else is tested.
use Rattle.std.specs.Prelude.{ℕ, ◌+◌, Bool, true, cond, not, ◌&&◌, ◌||◌, List, length, ◌==◌, nat_le, nat_lt}
use Rattle.forms.specs.Bounds.{most_groups}
use Rattle.forms.specs.Bytes.{byte}
use Rattle.session.specs.declared.letter.Letter.TheVariants.{Rule, Opening, Message, Advance, Closing}
use Rattle.session.specs.Letters.{code_of}

-- the most groups that the program `account` serves
abbrev pub account_groups : ℕ
account_groups = 8

-- an opening form for more groups than a program serves, which are at most so many, and no more than a book can have
abbrev pub too_many : ℕ → List ℕ → Bool
too_many most body = nat_lt 0 (length body) && (nat_le (most + 1) (byte body 0) && nat_le (byte body 0) most_groups)

-- A rule form comes once, an opening form once and after it, and all others after that; an advance has no body. The letters are R, O, S, A, C.
abbrev pub stops : ℕ → Bool → Bool → ℕ → List ℕ → Bool
stops most ruled opened letter body =
    cond (letter == code_of Rule) ruled
    (cond (letter == code_of Opening) (not ruled || (opened || too_many most body))
    (cond (letter == code_of Message || letter == code_of Closing) (not opened)
    (cond (letter == code_of Advance) (not opened || nat_lt 0 (length body)) true)))
