-- The outcome of close, by what its tests find.
use Rattle.std.proofs.Common.{◌≡◌, ℕ, Bool, List, length, replicate, Ok, Err, refl}
use Rattle.forms.specs.declared.fault.Fault.{Fault}
use Rattle.forms.specs.Checks.{Verdict}
use Rattle.book.specs.Closes.{Lent, close_check, closed_by, day_closed, day_rows, balance_today}
use Rattle.book.specs.States.{State}

module _ (m : List Bool → ℕ) (s : State) (lent : Lent) (form : List ℕ) where
  pub close_refused : (r : Verdict) (e : Fault) → r ≡ Err e → Err e ≡ close_check s lent.sheet (length lent.rows) form
      → ◌≡◌ {A = Verdict × State × Lent} (r, s, lent) (closed_by m s lent form)
  close_refused r e p q = rw (p, ← q) refl

  pub close_accepted : (after : State) (left : Lent) → Ok tt ≡ close_check s lent.sheet (length lent.rows) form
      → after ≡ day_closed s (balance_today s lent.sheet form)
      → left ≡ record { sheet = replicate (length lent.sheet) 0; rows = day_rows m s lent.sheet form }
      → ◌≡◌ {A = Verdict × State × Lent} (Ok tt, after, left) (closed_by m s lent form)
  close_accepted after left q a l = rw (← q) (λ j. (Ok tt, a j, l j))
