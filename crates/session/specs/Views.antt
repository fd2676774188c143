-- What a session stands for. A rule stands for its meaning.
use Rattle.std.specs.Prelude.{ℕ, List, map, vec_items, Option}
use Rattle.std.specs.Option.{option_map}
use Rattle.stage.specs.Asked.{meaning_of}
use Rattle.stage.specs.Rules.{Meaning}
use Rattle.book.specs.Calls.{Place}
use Rattle.book.specs.Opens.{held_in}
use Rattle.book.specs.Rows.{Row, row_of}
use Rattle.session.specs.declared.session.Session.{Session}

pub record SessionState : Type 0 where
  -- the rule, once one is accepted
  pub rule : Option Meaning
  -- the book, once one is open
  pub place : Place Meaning
  -- what the session lends the book
  pub sheet : List ℕ
  pub rows : List Row

abbrev pub view_of : Session → SessionState
view_of s = record { rule = option_map meaning_of s.rule; place = option_map (λ p. (meaning_of p.0, p.1)) (held_in s.book.inner); sheet = s.sheet; rows = map row_of (vec_items s.rows) }
