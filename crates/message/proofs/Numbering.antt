-- The series of a message whose heads are lawful, by the numbers of their slots.
use Rattle.std.proofs.Common.{◌≡◌, ℕ, ◌+◌, ◌<◌, ◌≤◌, Bool, true, false, List, length, get_or, set, replicate, is_some, Some, None, Option, Ok, Err, sym, ap, ◌∙◌, subst, inl, inr, arith}
use Rattle.std.proofs.lemmas.List.{get_or-replicate, get_or-set_same, get_or-set_other, length-set, length-replicate}
use Rattle.std.proofs.lemmas.Bool.{cases_Bool, cases_eq, cond-true, cond-false}
use Rattle.forms.specs.Bounds.{most_groups}
use Rattle.forms.specs.Checks.{each_of}
use Rattle.forms.specs.Slots.{kind_of, counter_of, slots, slot_number, slot_at, Within}
use Rattle.forms.specs.declared.fault.Fault.TheVariants.{RepeatedHead}
use Rattle.forms.proofs.Firsts.{each_none, each_more, each_err}
use Rattle.forms.proofs.SlotNumbers.{number_below, slot_again, number_again}
use Rattle.message.specs.Form.{series_count, kind_at, counter_at}
use Rattle.message.specs.Heads.{head_check, repeats, once_check}
use Rattle.message.specs.Read.{SeriesRead, slot_read, series_of}
use Rattle.message.specs.Places.{first_of, head_is, place_under, ListsPlaces}
use Rattle.message.proofs.HeadLaws.{kind_about, counter_about, about_head, within}
use Rattle.message.proofs.Search.{first_none, first_found, first_no, none_from}
use Rattle.message.proofs.SeriesLaws.{slot_told}
use Rattle.message.proofs.Stated.{about, head_about}

-- series i is about the slot of number n
abbrev pub is_about : ℕ → List ℕ → ℕ → ℕ → Bool
is_about g s n = head_is s (kind_of (slot_at g n)) (counter_of (slot_at g n))

module _ (g own : ℕ) (s : List ℕ) (lawful : each_of (head_check g own s) (series_count s) ≡ Ok tt) (i : ℕ) (there : i < series_count s) where
  abbrev pub number : ℕ
  number = slot_number g (about s i)

  pub slot_number_of : slot_at g number ≡ about s i
  slot_number_of = slot_again g (about s i) (within g own s lawful i there)

  -- who is about the slot of its number has its head
  pub own_head : (n : ℕ) → first_of (is_about g s number) n ≡ first_of (head_is s (kind_at s i) (counter_at s i)) n
  own_head n =
      rw slot_number_of (λ j. first_of (head_is s (kind_about g own s lawful i there j) (counter_about g own s lawful i there j)) n)

  -- it is the first that is about it, where no series before it has its head
  pub found : first_of (head_is s (kind_at s i) (counter_at s i)) i ≡ None → first_of (is_about g s number) (i + 1) ≡ Some i
  found none = first_found (is_about g s number) (i + 1) i (omega arith) (own_head i ∙ none) (rw slot_number_of (about_head g own s lawful i there))

  -- and is about no other
  pub skipped : (n : ℕ) → n < slots g → (n ≡ number → ⊥) → first_of (is_about g s n) (i + 1) ≡ first_of (is_about g s n) i
  skipped n l apart = first_no (is_about g s n) i (elim (cases_Bool (is_about g s n i)) [
    | inl e ↦ absurd (apart (sym (ap (slot_number g) (head_about s (slot_at g n) i e) ∙ number_again g n l)))
    | inr e ↦ e
  ])

  -- what is asked and known of series i as read
  module _ (q : ℕ) (x : SeriesRead) (shown : series_of q s i ≡ Some x) where
    pub within_told : Within g (slot_read x)
    within_told = subst (Within g) (sym (slot_told q s i x shown)) (within g own s lawful i there)

    pub number_told : slot_number g (slot_read x) ≡ number
    number_told = ap (slot_number g) (slot_told q s i x shown)

-- the first n series are listed by the numbers of their slots, and no two of them have one head
pub record Listed (g : ℕ) (s : List ℕ) (n : ℕ) (places : List (Option ℕ)) : Type 0 where
  pub long : length places ≡ 35
  pub once : each_of (once_check s) n ≡ Ok tt
  pub each : (k : ℕ) → k < slots g → get_or places k None ≡ first_of (is_about g s k) n

pub listed_none : (g : ℕ) (s : List ℕ) → g ≤ most_groups → Listed g s 0 (replicate 35 None)
listed_none g s few = record {
  long = length-replicate {A = Option ℕ} 35 None;
  once = each_none (once_check s);
  each = λ k l. get_or-replicate 35 k None None (omega arith) ∙ sym (first_none (is_about g s k));
}

pub listed_all : (g : ℕ) (s : List ℕ) (n : ℕ) (places : List (Option ℕ)) → n ≡ series_count s → Listed g s n places
    → (each_of (once_check s) (series_count s) ≡ Ok tt) × ListsPlaces g s places
unfolding place_under
listed_all g s n places e h = (
  ap (each_of (once_check s)) (sym e) ∙ h.once,
  λ slot w.
      h.each (slot_number g slot) (number_below g slot w)
      ∙ (λ j. first_of (head_is s (kind_of (slot_again g slot w j)) (counter_of (slot_again g slot w j))) (e j)),
)

-- one more series, where its slot is taken and where it is free
module _ (g own : ℕ) (s : List ℕ) (lawful : each_of (head_check g own s) (series_count s) ≡ Ok tt) (i : ℕ) (there : i < series_count s)
    (few : g ≤ most_groups) (places : List (Option ℕ)) (listed : Listed g s i places) (m : ℕ) (is : m ≡ number g own s lawful i there) where
  below : m < slots g
  below = omega (arith, is, number_below g (about s i) (within g own s lawful i there))

  seen : get_or places m None ≡ first_of (head_is s (kind_at s i) (counter_at s i)) i
  seen = listed.each m below ∙ ap (λ k. first_of (is_about g s k) i) is ∙ own_head g own s lawful i there i

  pub slot_taken : is_some (get_or places m None) ≡ true → each_of (once_check s) (series_count s) ≡ Err (RepeatedHead (i + 1))
  slot_taken e = each_err (once_check s) (series_count s) i (RepeatedHead (i + 1)) there listed.once (cond-true (repeats s i) _ _ (ap is_some (sym seen) ∙ e))

  pub listed_more : is_some (get_or places m None) ≡ false → Listed g s (i + 1) (set places m (Some i))
  listed_more e = record {
    long = length-set places m (Some i) ∙ listed.long;
    once = each_more (once_check s) i listed.once (cond-false (repeats s i) _ _ (ap is_some (sym seen) ∙ e));
    each = λ k l. elim (cases_eq k m) [
      | inl p ↦
          ap (λ n. get_or (set places m (Some i)) n None) p ∙ get_or-set_same places m (Some i) None (omega (arith, below, listed.long))
          ∙ sym (ap (λ n. first_of (is_about g s n) (i + 1)) (p ∙ is) ∙ found g own s lawful i there (none_from _ (ap is_some (sym seen) ∙ e)))
      | inr p ↦
          get_or-set_other places m k (Some i) None p ∙ listed.each k l
          ∙ sym (skipped g own s lawful i there k l (λ d. p (d ∙ sym is)))
    ];
  }
