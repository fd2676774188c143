-- The presence flags while a message is taken, slot by slot of the sender.
use Rattle.std.proofs.Common.{◌≡◌, ℕ, ◌+◌, ◌-◌, ◌*◌, ◌<◌, ◌≤◌, ◌++◌, Bool, false, List, length, get_or, take, drop, sym, ap, ◌∙◌, inl, inr, add-mul, arith}
use Rattle.std.proofs.lemmas.List.FromFn.{fill_by_all}
use Rattle.std.proofs.lemmas.List.{get_or_append_left, get_or-append_right, get_or-take, get_or-drop, length-take-le, length-drop}
use Rattle.std.proofs.lemmas.Bool.{cases_lt, lt-ltb, le-ltb, le-leb, lt-leb, and_from, and_left, and_right, cond-true, cond-false}
use borrow.Rule.Slice.PartMut.{put_mid, mid_of, post_of, same_len_mid}
use Rattle.message.specs.Places.{sent_in}
use Rattle.forms.specs.Slots.{slots, slot_at}
use Rattle.book.specs.Messages.{sent_after, flags_after}

module _ (g own : ℕ) (form : List ℕ) (sent : List Bool) where
  pub flag_below : (k : ℕ) → k < own * slots g → sent_after g own form sent k ≡ get_or sent k false
  flag_below k l = cond-false _ _ _ (and_left _ _ (lt-leb (own * slots g) k l))

  pub flag_past : (k : ℕ) → (own + 1) * slots g ≤ k → sent_after g own form sent k ≡ get_or sent k false
  flag_past k l = cond-false _ _ _ (and_right _ _ (le-ltb k ((own + 1) * slots g) l))

  pub flag_own : (n k : ℕ) → n < slots g → k ≡ own * slots g + n → sent_after g own form sent k ≡ sent_in form (slot_at g n)
  flag_own n k l e =
      cond-true _ _ _ (and_from _ _ (le-leb (own * slots g) k (omega arith)) (lt-ltb k ((own + 1) * slots g) (omega (arith, add-mul own 1 (slots g)))))
      ∙ ap (λ j. sent_in form (slot_at g j)) (let d : k - own * slots g ≡ n = omega arith in d)

  -- the sender's flags in their place, and those of the others as they were
  pub flags_between : (a k : ℕ) (xs : List Bool) → a ≡ own * slots g → k ≡ slots g → a + k ≤ length sent → length xs ≡ length (mid_of a k sent)
      → ((n : ℕ) → n < k → get_or xs n false ≡ sent_in form (slot_at g n)) → put_mid a k sent xs ≡ flags_after g own form sent
  unfolding flags_after
  flags_between a k xs start count room same inv =
      let rest = post_of a k sent in
      let before : length (take a sent) ≡ a = length-take-le a sent (omega arith) in
      let long : length xs ≡ k = same ∙ length-take-le k (drop a sent) (omega (arith, length-drop a sent)) in
      fill_by_all (sent_after g own form sent) (put_mid a k sent xs) (length sent) false (same_len_mid a k sent xs same)
      (λ i _.
      elim (cases_lt i a) [
        | inl l ↦ get_or_append_left (take a sent) (xs ++ rest) false i (omega arith) ∙ get_or-take a sent i false l ∙ sym (flag_below i (omega (arith, start)))
        | inr l ↦
            get_or-append_right (take a sent) (xs ++ rest) a i false before l
            ∙ elim (cases_lt i (a + k)) [
              | inl m ↦
                  get_or_append_left xs rest false (i - a) (omega arith) ∙ inv (i - a) (omega arith)
                  ∙ sym (flag_own (i - a) i (omega (arith, count)) (omega (arith, start)))
              | inr m ↦
                  get_or-append_right xs rest k (i - a) false long (omega arith) ∙ get_or-drop k (drop a sent) (i - a - k) false
                  ∙ get_or-drop a sent (k + (i - a - k)) false ∙ ap (λ j. get_or sent j false) (let e : a + (k + (i - a - k)) ≡ i = omega arith in e)
                  ∙ sym (flag_past i (omega (arith, start, count, add-mul own 1 (slots g))))
            ]
      ])
