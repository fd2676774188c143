-- Entries that move nothing: questions, and whatever was refused.
use Rattle.std.proofs.Common.{◌≡◌, ℕ, ◌+◌, ◌*◌, ◌/◌, false, List, ◌∷◌, None, sym, refl, ap, ◌∙◌, arith}
use Rattle.forms.specs.Calendar.{quarters}
use Rattle.forms.specs.Slots.{Slot}
use Rattle.settlement.specs.declared.phase.Phase.TheVariants.{After}
use Rattle.book.specs.States.{State}
use Rattle.journal.specs.Journals.{Entry, Journal, advanced_here, closed_here, message_in, closes, cut_offs, today, says, last_message}
use Rattle.journal.specs.Reckoned.{penalty_on}
use Rattle.stage.specs.Rules.{Meaning}
use Rattle.journal.proofs.Counting.{no_more}
use Rattle.journal.proofs.Earlier.{penalty_kept}
use Rattle.journal.proofs.Keeping.{Keeps, advances_in, marks_still, penalties_still, balance_still}

pub record Quiet (e : Entry) : Type 0 where
  pub no_advance : advanced_here e ≡ false
  pub no_close : closed_here e ≡ false
  pub no_message : (a : ℕ) → message_in a e ≡ None

pub says_still : (e : Entry) (j : Journal) (a : ℕ) (slot : Slot) (t : ℕ) → closed_here e ≡ false → message_in a e ≡ None → says j a slot t ≡ says (e ∷ j) a slot t
unfolding says last_message
says_still e j a slot t lasts none =
    let c = no_more closed_here e j lasts in
    rw (c, lasts, none) refl

-- the penalty of the current day, once it is fixed, stays while the day lasts
pub due_still : (m : Meaning) (s : State) (w : List ℕ) (e : Entry) (j : Journal) → Keeps m j s w → closes (e ∷ j) ≡ closes j → (a : ℕ) → s.phase ≡ After
    → penalty_on m s.terms j a (today j) ≡ penalty_on m s.terms (e ∷ j) a (today (e ∷ j))
due_still m s w e j k h a p =
    sym (ap (λ n. penalty_on m s.terms (e ∷ j) a (n + 1)) h
    ∙ penalty_kept s.terms e j a m (today j) (omega arith) (omega (arith, k.advanced, ap advances_in p)))

pub keeps_quiet : (m : Meaning) (s : State) (w : List ℕ) (e : Entry) (j : Journal) → Quiet e → Keeps m j s w → Keeps m (e ∷ j) s w
keeps_quiet m s w e j quiet k =
    let c = no_more closed_here e j quiet.no_close in
    let v = no_more advanced_here e j quiet.no_advance in
    let o : cut_offs (e ∷ j) ≡ cut_offs j = ap (λ n. n / 2) v in
    record {
      closed = k.closed ∙ sym c;
      advanced = v ∙ k.advanced ∙ ap (λ n. 2 * n + advances_in s.phase) (sym c);
      year = omega (arith, o, k.year);
      room = k.room;
      few = k.few;
      flags = k.flags;
      agree = λ t l a slot b d. k.agree t (omega (arith, ap (λ n. quarters (n + 1)) c)) a slot b d ∙ says_still e j a slot t quiet.no_close (quiet.no_message a);
      marks = λ a l. k.marks a l ∙ marks_still s.terms e j a o;
      due = λ a l p. k.due a l p ∙ due_still m s w e j k c a p;
      owed = λ a l. k.owed a l ∙ penalties_still s.terms e j a m o;
      settled = λ a l. k.settled a l ∙ balance_still s.terms e j a c;
    }
