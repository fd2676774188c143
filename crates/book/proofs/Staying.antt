-- A sheet of which no word is above the bound on powers stays one.
use Rattle.std.proofs.Common.{◌≡◌, ℕ, zero, suc, ◌-◌, ◌/◌, ◌%◌, ◌<◌, ◌≤◌, true, ◌&&◌, leb, ltb, List, [], ◌∷◌, ◌++◌, take, map, length, replicate, get_or, Some, None, Ok, Err, Option, refl, ap, ◌∙◌, inl, inr, arith}
use Rattle.std.specs.List.{range_with_len}
use Rattle.std.proofs.lemmas.Bool.{cases_Bool, and_parts, leb-true, le-leb, ltb-true, ltb-false, cond-true, cond-false}
use Rattle.forms.specs.Bounds.{power_bound}
use Rattle.forms.specs.Checks.{Verdict, verdict, refuse_if, if_passed}
use Rattle.forms.specs.declared.fault.Fault.TheVariants.{MissingSeries}
use Rattle.forms.specs.Slots.{Slot, kind_of, counter_of}
use Rattle.forms.proofs.Firsts.{each_passed, passed_left, passed_right, unrefused}
use Rattle.message.specs.Form.{header_of, said, series_count, value_at}
use Rattle.message.specs.Heads.{heads_check}
use Rattle.message.specs.Places.{head_is, place_under, sent_in, stated, value_under}
use Rattle.message.specs.Values.{in_series, in_message, range_check, values_check}
use Rattle.message.proofs.Search.{first_at}
use Rattle.message.proofs.Stated.{value_found, value_missing}
use Rattle.std.proofs.Math.Seq.{take-append_seam}
use Rattle.book.specs.Messages.{owns, own_slot, word_after, sheet_after, sender_check, series_check, submit_check, submitted, incomplete, growth_check}
use Rattle.book.specs.Queries.{day_check}
use Rattle.book.specs.Sheets.{all_powers}
use Rattle.book.specs.States.{State, size, figures, day_quarters}

-- each word of such a sheet, and a list of words by a rule of which none is above the bound
pub each_word : (ws : List ℕ) (k : ℕ) → all_powers ws ≡ true → get_or ws k 0 ≤ power_bound
unfolding all_powers
each_word [] k h = omega arith
each_word (w ∷ ws) zero h = leb-true w power_bound (and_parts (leb w power_bound) (all_powers ws) h).0
each_word (w ∷ ws) (suc k) h = each_word ws k (and_parts (leb w power_bound) (all_powers ws) h).1

by_rule : (f : ℕ → ℕ) (ks : List ℕ) → ((k : ℕ) → f k ≤ power_bound) → all_powers (map f ks) ≡ true
unfolding all_powers
by_rule f [] h = refl
by_rule f (k ∷ ks) h = (λ j. le-leb (f k) power_bound (h k) j && by_rule f ks h j)

pub zeros_low : (n : ℕ) → all_powers (replicate n 0) ≡ true
unfolding all_powers
zeros_low zero = refl
zeros_low (suc n) = zeros_low n

module _ (q : ℕ) (form : List ℕ) (passed : in_message q form (range_check q form) ≡ Ok tt) where
  value_low : (i t : ℕ) → i < series_count form → t < q → value_at q form i t ≤ power_bound
  value_low i t l m =
      let one = each_passed (in_series q (range_check q form)) (series_count form) i passed l in
      ltb-false power_bound (value_at q form i t) (unrefused _ _ (each_passed (range_check q form i) q t one m))

  under_low : (kind counter t : ℕ) (o : Option ℕ) → place_under form kind counter ≡ o → t < q → value_under q form kind counter t ≤ power_bound
  unfolding place_under
  under_low kind counter t (Some i) e m =
      let first = first_at (head_is form kind counter) (series_count form) (Some i) e in
      omega (arith, value_found q form kind counter i t e, value_low i t first.0 m)
  under_low kind counter t None e m = omega (arith, value_missing q form kind counter t e)

  pub stated_low : (s : Slot) (t : ℕ) → t < q → stated q form s t ≤ power_bound
  stated_low s t m = under_low (kind_of s) (counter_of s) t _ refl m

  word_low : (g own : ℕ) (sheet : List ℕ) → all_powers sheet ≡ true → (k : ℕ) → word_after g q own form sheet k ≤ power_bound
  word_low g own sheet h k =
      elim (cases_Bool (owns g own (k / 96) && (sent_in form (own_slot g own (k / 96)) && ltb (k % 96) q))) [
        | inl there ↦
            let within = (and_parts (sent_in form (own_slot g own (k / 96))) (ltb (k % 96) q) (and_parts (owns g own (k / 96)) _ there).1).1 in
            let e : word_after g q own form sheet k ≡ stated q form (own_slot g own (k / 96)) (k % 96) = cond-true _ _ _ there in
            omega (arith, e, stated_low (own_slot g own (k / 96)) (k % 96) (ltb-true (k % 96) q within))
        | inr other ↦
            let e : word_after g q own form sheet k ≡ get_or sheet k 0 = cond-false _ _ _ other in
            omega (arith, e, each_word sheet k h)
      ]

-- the values of a message that has passed all tests are within their range
ranges_passed : (s : State) (sheet form : List ℕ) → submit_check s sheet form ≡ Ok tt → in_message (day_quarters s) form (range_check (day_quarters s) form) ≡ Ok tt
ranges_passed s sheet form h =
    let q = day_quarters s in
    let own = (said form).group - 1 in
    let series =
    passed_right (sender_check s (said form).group (said form).day (said form).version) (series_check s sheet own form)
    (passed_right (day_check s sheet) _ (passed_right (verdict (header_of q form)) _ h)) in
    let values =
    passed_left (values_check q (figures s own).metered form) (growth_check s sheet own form)
    (passed_right (refuse_if (incomplete s own form) MissingSeries) _ (passed_right (heads_check (size s) own form) _ series)) in
    passed_left (in_message q form (range_check q form)) _ values

-- what stands after a test, passed or not
keeps_by : (v : Verdict) (after before : List ℕ) → (v ≡ Ok tt → all_powers after ≡ true) → all_powers before ≡ true → all_powers (if_passed v after before) ≡ true
keeps_by (Ok x) after before f h = f refl
keeps_by (Err e) after before f h = h

pub after_low : (s : State) (sheet form : List ℕ) → all_powers sheet ≡ true → submit_check s sheet form ≡ Ok tt
    → all_powers (sheet_after (size s) (day_quarters s) ((said form).group - 1) form sheet) ≡ true
unfolding sheet_after
after_low s sheet form h p =
    let own = (said form).group - 1 in
    by_rule (word_after (size s) (day_quarters s) own form sheet) (range_with_len 0 (length sheet)) (word_low (day_quarters s) form (ranges_passed s sheet form p) (size s) own sheet h)

pub submit_keeps : (s : State) (sheet form : List ℕ) → all_powers sheet ≡ true → all_powers (submitted s sheet form).2 ≡ true
submit_keeps s sheet form h =
    keeps_by (submit_check s sheet form) (sheet_after (size s) (day_quarters s) ((said form).group - 1) form sheet) sheet (after_low s sheet form h) h

-- what a slice of all words of a vector leaves there
pub laid_back : (n : ℕ) (new rest : List ℕ) → n ≡ length new → all_powers new ≡ true → all_powers (take n (new ++ rest)) ≡ true
laid_back n new rest e h = ap all_powers (ap (λ k. take k (new ++ rest)) e ∙ take-append_seam new rest) ∙ h
