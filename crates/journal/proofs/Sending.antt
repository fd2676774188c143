-- An accepted message.
use Rattle.std.proofs.Common.{◌≡◌, ℕ, ◌+◌, ◌-◌, ◌*◌, ◌/◌, ◌<◌, List, ◌∷◌, length, Ok, Option, Result, sym, refl, ap, ◌∙◌, inl, inr, arith}
use Rattle.std.proofs.lemmas.List.FromFn.{length-map-range_with_len}
use Rattle.std.proofs.lemmas.Bool.{cases_eq, eq-eqb, ne_eqb, cond-true, cond-false}
use Rattle.forms.specs.declared.fault.Fault.{Fault}
use Rattle.forms.specs.Calendar.{quarters}
use Rattle.forms.specs.Slots.{Slot, Within}
use Rattle.message.specs.Form.{said}
use Rattle.message.specs.Places.{stated}
use Rattle.book.specs.Messages.{submit_check, submitted, state_with, sheet_after, word_after, flags_after, sent_after, beyond_count}
use Rattle.book.specs.States.{State, size, kept, day_quarters, statements}
use Rattle.book.proofs.Meaning.{message_stands, message_fixes_nothing, sender_named}
use Rattle.book.proofs.Submitting.{submit_accepted}
use Rattle.journal.specs.Journals.{Entry, submit, Journal, advanced_here, closed_here, advances, closes, cut_offs, today, says, last_message}
use Rattle.stage.specs.Rules.{Meaning}
use Rattle.journal.proofs.Counting.{no_more}
use Rattle.journal.proofs.Keeping.{Keeps, advances_in, marks_still, penalties_still, balance_still}
use Rattle.journal.proofs.Quiet.{due_still}

module _ (m : Meaning) (s : State) (w form : List ℕ) (j : Journal) (given : List ℕ) (x : ℕ × Option ℕ) (k : Keeps m j s w) (accepted : submit_check s w form ≡ Ok tt) where
  abbrev e : Entry
  e = submit form given (Ok x)

  abbrev own : ℕ
  own = (said form).group - 1

  abbrev after : State
  after = state_with s own (said form).version form

  abbrev left : List ℕ
  left = sheet_after (size s) (day_quarters s) own form w

  pub outcome : ◌≡◌ {A = Result (ℕ × Option ℕ) Fault × State × List ℕ} (submitted s w form) (Ok (beyond_count s own form), after, left)
  outcome = sym (submit_accepted s w form (beyond_count s own form) after left accepted refl refl refl)

  pub same_closes : closes (e ∷ j) ≡ closes j
  same_closes = no_more closed_here e j refl

  pub same_advances : advances (e ∷ j) ≡ advances j
  same_advances = no_more advanced_here e j refl

  -- what is said afterwards: by the sender the message, by all others what they had said
  pub says_sender : (a : ℕ) (slot : Slot) (t : ℕ) → (said form).group ≡ a + 1 → says (e ∷ j) a slot t ≡ stated (quarters (today j)) form slot t
  unfolding says last_message
  says_sender a slot t h =
      let c = same_closes in
      let i = eq-eqb (said form).group (a + 1) h in
      rw (c, i) refl

  says_other : (a : ℕ) (slot : Slot) (t : ℕ) → ((said form).group ≡ a + 1 → ⊥) → says (e ∷ j) a slot t ≡ says j a slot t
  unfolding says last_message
  says_other a slot t h =
      let c = same_closes in
      let i = ne_eqb (said form).group (a + 1) h in
      rw (c, i) refl

  agree_after : (t : ℕ) → t < quarters (today j) → (a : ℕ) (slot : Slot) → a < size s → Within (size s) slot → statements after left a slot t ≡ says (e ∷ j) a slot t
  agree_after t l a slot b d =
      let q : day_quarters s ≡ quarters (today j) = ap (λ n. quarters (n + 1)) k.closed in
      let named = sender_named s w form accepted in
      ap (λ o. statements o.1 o.2 a slot t) (sym outcome)
      ∙ message_stands s w form a slot t k.flags accepted b d (omega (arith, q))
      ∙ elim (cases_eq a own) [
        | inl h ↦ cond-true _ _ _ (eq-eqb a own h) ∙ ap (λ n. stated n form slot t) q ∙ sym (says_sender a slot t (omega (arith, named)))
        | inr h ↦ cond-false _ _ _ (ne_eqb a own h) ∙ k.agree t l a slot b d ∙ sym (says_other a slot t (λ i. h (omega (arith, named))))
      ]

  fixed : (a : ℕ) → ((kept after a).marks ≡ (kept s a).marks) × ((kept after a).due ≡ (kept s a).due) × ((kept after a).penalties ≡ (kept s a).penalties) × ((kept after a).balance ≡ (kept s a).balance)
  fixed a =
      let f = message_fixes_nothing s w form a in
      let o = outcome in (
        ap (λ r. (kept r.1 a).marks) (sym o) ∙ f.0,
        ap (λ r. (kept r.1 a).due) (sym o) ∙ f.1,
        ap (λ r. (kept r.1 a).penalties) (sym o) ∙ f.2,
        ap (λ r. (kept r.1 a).balance) (sym o) ∙ f.3,
      )

  long_left : length left ≡ length w
  unfolding sheet_after
  long_left = length-map-range_with_len (word_after (size s) (day_quarters s) own form w) 0 (length w)

  long_sent : length after.sent ≡ length s.sent
  unfolding flags_after
  long_sent = length-map-range_with_len (sent_after (size s) own form s.sent) 0 (length s.sent)

  pub keeps_message : Keeps m (e ∷ j) after left
  keeps_message =
      let c = same_closes in
      let v = same_advances in
      let o : cut_offs (e ∷ j) ≡ cut_offs j = ap (λ n. n / 2) v in
      record {
        closed = k.closed ∙ sym c;
        advanced = v ∙ k.advanced ∙ ap (λ n. 2 * n + advances_in s.phase) (sym c);
        year = omega (arith, o, k.year);
        room = long_left ∙ k.room;
        few = k.few;
        flags = omega (arith, long_sent, k.flags);
        agree = λ t l a slot b d. agree_after t (omega (arith, ap (λ n. quarters (n + 1)) c)) a slot b d;
        marks = λ a l. (fixed a).0 ∙ k.marks a l ∙ marks_still s.terms e j a o;
        due = λ a l p. (fixed a).1 ∙ k.due a l p ∙ due_still m s w e j k c a p;
        owed = λ a l. (fixed a).2 ∙ k.owed a l ∙ penalties_still s.terms e j a m o;
        settled = λ a l. (fixed a).3 ∙ k.settled a l ∙ balance_still s.terms e j a c;
      }
