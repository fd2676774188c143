-- A message by itself.
use Rattle.std.proofs.Common.{◌≡◌, ℕ, List, refl}
use Rattle.std.proofs.lemmas.Bool.{eq-eqb}
use Rattle.forms.specs.Slots.{Slot}
use Rattle.message.specs.Places.{stated}
use Rattle.book.specs.Messages.{by_message}

pub by_sender : (own q : ℕ) (form : List ℕ) (slot : Slot) (t : ℕ) → by_message own q form own slot t ≡ stated q form slot t
unfolding by_message
by_sender own q form slot t = rw (eq-eqb own own refl) refl
