-- What the outcome of a message means.
use Rattle.std.proofs.Common.{◌≡◌, ℕ, ◌+◌, ◌-◌, ◌*◌, ◌/◌, ◌<◌, ◌≤◌, Bool, true, false, eqb, leb, List, length, get_or, set, Ok, Err, unwrap_or, sym, refl, ap, ◌∙◌, inl, inr, arith}
use Rattle.std.specs.Bool.{then_some}
use Rattle.std.specs.Result.{result_and}
use Rattle.std.proofs.lemmas.Nat.{mul-add-lt, mul-le}
use Rattle.std.proofs.lemmas.List.FromFn.{get_or-map-range_with_len}
use Rattle.std.proofs.lemmas.List.{get_or-set_same, get_or-set_other, get_or_past, length-set}
use Rattle.std.proofs.lemmas.Bool.{cases_eq, cases_lt, eq-eqb, ne_eqb, eqb-true, leb-true, and_parts, cond-true, cond-false}
use Rattle.forms.specs.Checks.{Verdict, verdict, refuse_if, if_passed}
use Rattle.forms.specs.Slots.{Slot, Within, slots, slot_number}
use Rattle.forms.specs.declared.fault.Fault.TheVariants.{WrongPhase, WrongBuffer, WrongGroup}
use Rattle.forms.proofs.Firsts.{passed_left, passed_right, allowed}
use Rattle.message.specs.Form.{header_of, said}
use Rattle.settlement.specs.Sheets.{slot_place, sheet_size, on_sheet}
use Rattle.forms.proofs.SlotNumbers.{number_below}
use Rattle.settlement.proofs.Places.{place_below}
use Rattle.book.specs.Meant.{MessageStands, MessageFixesNothing}
use Rattle.book.specs.Messages.{sent_after, word_after, sheet_after, flags_after, submit_check, sender_check, series_check, with_version, state_with, beyond_count}
use Rattle.std.specs.Int.{is_in_range}
use Rattle.book.specs.Queries.{day_check, group_check}
use Rattle.book.specs.Sheets.{sheet_fits, all_powers}
use Rattle.book.specs.States.{State, GroupState, nothing_kept, size, kept, today, day_quarters, year_over, statements}
use Rattle.book.proofs.Accepted.{own_statements}
use Rattle.book.proofs.Days.{quarters_fit}
use Rattle.book.proofs.Flagging.{flag_below, flag_past}
use Rattle.book.proofs.Laying.{word_below, word_past}
use Rattle.book.proofs.Submitting.{submit_accepted}

module _ (g q own : ℕ) (form sheet : List ℕ) (sent : List Bool) (a : ℕ) (s : Slot) (apart : a ≡ own → ⊥) (within : Within g s) where
  -- a place of another group's slot lies before the sender's or past them
  flag_other : sent_after g own form sent (slot_place g a s) ≡ get_or sent (slot_place g a s) false
  flag_other =
      elim (cases_lt a own) [
        | inl l ↦ flag_below g own form sent (slot_place g a s) (omega (arith, mul-add-lt a (slots g) (slot_number g s) own l (number_below g s within)))
        | inr l ↦ flag_past g own form sent (slot_place g a s) (omega (arith, mul-le (own + 1) (slots g) a (slots g) (omega (arith, apart)) (omega arith)))
      ]

  word_other : (k : ℕ) → k / 96 ≡ slot_place g a s → word_after g q own form sheet k ≡ get_or sheet k 0
  word_other k e =
      elim (cases_lt a own) [
        | inl l ↦ word_below g q own form sheet k (omega (arith, mul-add-lt a (slots g) (slot_number g s) own l (number_below g s within)))
        | inr l ↦ word_past g q own form sheet k (omega (arith, mul-le (own + 1) (slots g) a (slots g) (omega (arith, apart)) (omega arith)))
      ]

  -- so its statements stay
  other_statements : (t : ℕ) → a < g → t < q → q ≤ 96 → length sheet ≡ sheet_size g → g * slots g ≤ length sent
      → on_sheet g (flags_after g own form sent) (sheet_after g q own form sheet) a s t ≡ on_sheet g sent sheet a s t
  unfolding on_sheet flags_after sheet_after
  other_statements t l m fits room flags =
      let place = slot_place g a s in
      let placed = place_below g a s l within in
      let flag = get_or-map-range_with_len (sent_after g own form sent) 0 (length sent) place place false (omega arith) (omega arith) ∙ flag_other in
      let word =
      get_or-map-range_with_len (word_after g q own form sheet) 0 (length sheet) (place * 96 + t) (place * 96 + t) 0 (omega arith) (omega arith)
      ∙ word_other (place * 96 + t) (omega arith) in
      λ j. unwrap_or (then_some (flag j) (word j)) 0

module _ (s : State) (sheet form : List ℕ) (accepted : submit_check s sheet form ≡ Ok tt) where
  abbrev after-header : Verdict
  after-header =
      result_and (day_check s sheet)
      (result_and (sender_check s (said form).group (said form).day (said form).version) (series_check s sheet ((said form).group - 1) form))

  past_header : after-header ≡ Ok tt
  past_header = passed_right (verdict (header_of (day_quarters s) form)) after-header accepted

  -- the sheet fits, and the sender is one of the groups
  room_there : length sheet ≡ sheet_size (size s)
  room_there =
      eqb-true (length sheet) (sheet_size (size s))
      (and_parts (eqb (length sheet) (sheet_size (size s))) (all_powers sheet)
      (allowed (sheet_fits (size s) sheet) WrongBuffer
      (passed_right (refuse_if (year_over s) WrongPhase) _ (passed_left (day_check s sheet) _ past_header)))
      ).0

  sender_one : is_in_range 1 (size s) (said form).group ≡ true
  sender_one =
      allowed (is_in_range 1 (size s) (said form).group) WrongGroup
      (passed_left (group_check s (said form).group) _
      (passed_left (sender_check s (said form).group (said form).day (said form).version) _
      (passed_right (day_check s sheet) _ past_header)))

  pub sender_named : 1 ≤ (said form).group
  sender_named = leb-true 1 (said form).group (and_parts (leb 1 (said form).group) (leb (said form).group (size s)) sender_one).0

  sender_there : (said form).group - 1 < size s
  sender_there =
      let p = and_parts (leb 1 (said form).group) (leb (said form).group (size s)) sender_one in
      omega (arith, leb-true 1 (said form).group p.0, leb-true (said form).group (size s) p.1)

pub message_stands : MessageStands
message_stands s sheet form a slot t flags accepted l w m =
    let own = (said form).group - 1 in
    let room = room_there s sheet form accepted in
    let fits = quarters_fit (today s) in
    let outcome = submit_accepted s sheet form (beyond_count s own form) (state_with s own (said form).version form) (sheet_after (size s) (day_quarters s) own form sheet) accepted refl refl refl in
    ap (λ o. statements o.1 o.2 a slot t) (sym outcome)
    ∙ elim (cases_eq a own) [
      | inl e ↦
          ap (λ b. on_sheet (size s) (flags_after (size s) own form s.sent) (sheet_after (size s) (day_quarters s) own form sheet) b slot t) e
          ∙ own_statements (size s) (day_quarters s) own form sheet s.sent (sender_there s sheet form accepted) fits room flags slot t w m
          ∙ sym (cond-true _ _ _ (eq-eqb a own e))
      | inr e ↦ other_statements (size s) (day_quarters s) own form sheet s.sent a slot e w t l m fits room flags ∙ sym (cond-false _ _ _ (ne_eqb a own e))
    ]

-- what a list holds of its elements stays where one is written that is alike
alike_set : {A B : Type 0} (p : A → B) (xs : List A) (i a : ℕ) (v d : A) → p v ≡ p (get_or xs i d) → p (get_or (set xs i v) a d) ≡ p (get_or xs a d)
alike_set p xs i a v d h =
    elim (cases_eq a i) [
      | inl e ↦
          elim (cases_lt i (length xs)) [
            | inl l ↦ ap (λ k. p (get_or (set xs i v) k d)) e ∙ ap p (get_or-set_same xs i v d l) ∙ h ∙ ap (λ k. p (get_or xs k d)) (sym e)
            | inr l ↦ ap p (get_or_past (set xs i v) a d (omega (arith, length-set xs i v)) ∙ sym (get_or_past xs a d (omega arith)))
          ]
      | inr e ↦ ap p (get_or-set_other xs i a v d e)
    ]

alike : {B : Type 0} (p : GroupState → B) (s : State) (own version : ℕ) (form : List ℕ) (a : ℕ) (v : Verdict)
    → p (with_version (kept s own) version) ≡ p (kept s own) → p (kept (if_passed v (state_with s own version form) s) a) ≡ p (kept s a)
alike p s own version form a (Ok x) h = alike_set p s.groups own a (with_version (kept s own) version) nothing_kept h
alike p s own version form a (Err x) h = refl

pub message_fixes_nothing : MessageFixesNothing
message_fixes_nothing s sheet form a =
    let own = (said form).group - 1 in
    let version = (said form).version in
    let v = submit_check s sheet form in (
      alike (λ k. k.marks) s own version form a v refl,
      alike (λ k. k.due) s own version form a v refl,
      alike (λ k. k.penalties) s own version form a v refl,
      alike (λ k. k.balance) s own version form a v refl,
    )
