-- The sheet while a message's series are written, one after another.
use Rattle.std.proofs.Common.{◌≡◌, ℕ, ◌+◌, ◌-◌, ◌*◌, ◌/◌, ◌%◌, ◌<◌, ◌≤◌, true, cond, ◌&&◌, leb, ltb, List, length, get_or, set, is_some, Some, sym, ap, ◌∙◌, inl, inr, add-mul, arith}
use Rattle.std.proofs.lemmas.List.FromFn.{fill_by_all}
use Rattle.std.proofs.lemmas.List.{get_or-set_same, get_or-set_other}
use Rattle.std.proofs.lemmas.Bool.{cases_Bool, cases_eq, leb-true, ltb-true, and_parts, cases_lt, cases_order, lt-ltb, le-ltb, le-leb, lt-leb, and_from, and_left, and_right, cond-true, cond-false}
use Rattle.forms.specs.Bytes.{be32}
use Rattle.message.specs.Form.{series_count}
use Rattle.message.specs.Places.{first_of, place_under, sent_in, stated}
use Rattle.message.proofs.Search.{first_none}
use Rattle.forms.specs.Slots.{slots, slot_at}
use Rattle.message.proofs.Numbering.{is_about}
use Rattle.book.specs.Messages.{series_laid, owns, own_slot, word_after, sheet_after}

module _ (bytes : List ℕ) (at : ℕ) (sheet : List ℕ) where
  laid_in : (n k : ℕ) → at ≤ k → k < at + n → series_laid bytes at n sheet k ≡ be32 bytes (4 * (k - at))
  unfolding series_laid
  laid_in n k l m = cond-true _ _ _ (and_from _ _ (le-leb at k l) (lt-ltb k (at + n) m))

  laid_before : (n k : ℕ) → k < at → series_laid bytes at n sheet k ≡ get_or sheet k 0
  unfolding series_laid
  laid_before n k l = cond-false _ _ _ (and_left _ _ (lt-leb at k l))

  laid_past : (n k : ℕ) → at + n ≤ k → series_laid bytes at n sheet k ≡ get_or sheet k 0
  unfolding series_laid
  laid_past n k l = cond-false _ _ _ (and_right _ _ (le-ltb k (at + n) l))

  pub laid_none : (k : ℕ) → get_or sheet k 0 ≡ series_laid bytes at 0 sheet k
  laid_none k =
      elim (cases_lt k at) [
        | inl l ↦ sym (laid_before 0 k l)
        | inr l ↦ sym (laid_past 0 k (omega arith))
      ]

  pub laid_more : (xs : List ℕ) (n v : ℕ) → at + n < length xs → v ≡ be32 bytes (4 * n)
      → ((k : ℕ) → get_or xs k 0 ≡ series_laid bytes at n sheet k) → (k : ℕ) → get_or (set xs (at + n) v) k 0 ≡ series_laid bytes at (n + 1) sheet k
  laid_more xs n v h e inv k =
      elim (cases_eq k (at + n)) [
        | inl p ↦
            ap (λ j. get_or (set xs (at + n) v) j 0) p ∙ get_or-set_same xs (at + n) v 0 h ∙ e
            ∙ ap (λ t. be32 bytes (4 * t)) (let d : n ≡ k - at = omega arith in d) ∙ sym (laid_in (n + 1) k (omega arith) (omega arith))
        | inr p ↦
            get_or-set_other xs (at + n) k v 0 p ∙ inv k
            ∙ elim (cases_lt k at) [
              | inl l ↦ laid_before n k l ∙ sym (laid_before (n + 1) k l)
              | inr l ↦ elim (cases_lt k (at + n)) [
                | inl m ↦ laid_in n k l m ∙ sym (laid_in (n + 1) k l (omega arith))
                | inr m ↦ laid_past n k m ∙ sym (laid_past (n + 1) k (omega (arith, p)))
              ]
            ]
      ]

-- the sheet once the first i series of the message stand in their slots
unfoldable pub laid_by : ℕ → ℕ → ℕ → List ℕ → ℕ → List ℕ → ℕ → ℕ
laid_by g q own form i sheet k =
    cond (owns g own (k / 96) && (is_some (first_of (is_about g form (k / 96 - own * slots g)) i) && ltb (k % 96) q))
    (stated q form (own_slot g own (k / 96)) (k % 96))
    (get_or sheet k 0)

module _ (g q own : ℕ) (form sheet : List ℕ) where
  -- a word of another group's slots stays
  pub word_below : (k : ℕ) → k / 96 < own * slots g → word_after g q own form sheet k ≡ get_or sheet k 0
  word_below k l = cond-false _ _ _ (and_left _ _ (and_left _ _ (lt-leb (own * slots g) (k / 96) l)))

  pub word_past : (k : ℕ) → (own + 1) * slots g ≤ k / 96 → word_after g q own form sheet k ≡ get_or sheet k 0
  word_past k l = cond-false _ _ _ (and_left _ _ (and_right _ _ (le-ltb (k / 96) ((own + 1) * slots g) l)))

  -- a word of one of the sender's slots that the message has
  pub word_own : (n : ℕ) → n < slots g → (k t : ℕ) → k / 96 ≡ own * slots g + n → k % 96 ≡ t → t < q → sent_in form (slot_at g n) ≡ true
      → word_after g q own form sheet k ≡ stated q form (slot_at g n) t
  word_own n below k t e f l there =
      let number : own_slot g own (k / 96) ≡ slot_at g n = ap (slot_at g) (let d : k / 96 - own * slots g ≡ n = omega arith in d) in
      cond-true (owns g own (k / 96) && (sent_in form (own_slot g own (k / 96)) && ltb (k % 96) q)) (stated q form (own_slot g own (k / 96)) (k % 96)) (get_or sheet k 0)
      (and_from _ _ (and_from _ _ (le-leb (own * slots g) (k / 96) (omega arith)) (lt-ltb (k / 96) ((own + 1) * slots g) (omega (arith, add-mul own 1 (slots g)))))
      (and_from _ _ (ap (sent_in form) number ∙ there) (lt-ltb (k % 96) q (omega arith))))
      ∙ (λ j. stated q form (number j) (f j))

  laid_late : (i k : ℕ) → q ≤ k % 96 → laid_by g q own form i sheet k ≡ get_or sheet k 0
  unfolding laid_by
  laid_late i k l = cond-false _ _ _ (and_right _ _ (and_right _ _ (le-ltb (k % 96) q l)))

  pub laid_first : (k : ℕ) → get_or sheet k 0 ≡ laid_by g q own form 0 sheet k
  unfolding laid_by
  laid_first k = sym (cond-false _ _ _ (and_right _ _ (and_left _ _ (ap is_some (first_none (is_about g form (k / 96 - own * slots g)))))))

  -- series i, about the slot of number n, is written
  module _ (i n : ℕ) (below : n < slots g) (found : first_of (is_about g form n) (i + 1) ≡ Some i)
      (skipped : (m : ℕ) → m < slots g → (m ≡ n → ⊥) → first_of (is_about g form m) (i + 1) ≡ first_of (is_about g form m) i) where
    laid_here : (k : ℕ) → k / 96 ≡ own * slots g + n → k % 96 < q → laid_by g q own form (i + 1) sheet k ≡ stated q form (slot_at g n) (k % 96)
    unfolding laid_by
    laid_here k e l =
        let number : k / 96 - own * slots g ≡ n = omega arith in
        cond-true _ _ _
        (and_from _ _ (and_from _ _ (le-leb (own * slots g) (k / 96) (omega arith)) (lt-ltb (k / 96) ((own + 1) * slots g) (omega (arith, add-mul own 1 (slots g)))))
        (and_from _ _ (ap (λ m. is_some (first_of (is_about g form m) (i + 1))) number ∙ ap is_some found) (lt-ltb (k % 96) q l)))
        ∙ ap (λ m. stated q form (slot_at g m) (k % 96)) number

    laid_other : (k : ℕ) → (k / 96 ≡ own * slots g + n → ⊥) → laid_by g q own form i sheet k ≡ laid_by g q own form (i + 1) sheet k
    unfolding laid_by
    laid_other k apart =
        elim (cases_Bool (owns g own (k / 96))) [
          | inl e ↦
              let p = and_parts (leb (own * slots g) (k / 96)) (ltb (k / 96) ((own + 1) * slots g)) e in
              let low = leb-true _ _ p.0 in
              let high = ltb-true _ _ p.1 in
              let same = skipped (k / 96 - own * slots g) (omega (arith, low, high, add-mul own 1 (slots g))) (λ d. apart (omega (arith, low))) in
              ap (λ o. cond (owns g own (k / 96) && (is_some o && ltb (k % 96) q)) (stated q form (own_slot g own (k / 96)) (k % 96)) (get_or sheet k 0)) (sym same)
          | inr e ↦ cond-false _ _ _ (and_left _ _ e) ∙ sym (cond-false _ _ _ (and_left _ _ e))
        ]

    pub laid_next : (bytes xs ys : List ℕ) → q ≤ 96
        → ((t : ℕ) → t < q → be32 bytes (4 * t) ≡ stated q form (slot_at g n) t)
        → ((k : ℕ) → get_or xs k 0 ≡ laid_by g q own form i sheet k)
        → ((k : ℕ) → get_or ys k 0 ≡ series_laid bytes ((own * slots g + n) * 96) q xs k)
        → (k : ℕ) → get_or ys k 0 ≡ laid_by g q own form (i + 1) sheet k
    laid_next bytes xs ys fits same inv written k =
        let at = (own * slots g + n) * 96 in
        written k
        ∙ elim (cases_order (k / 96) (own * slots g + n)) [
          | inl e ↦
              elim (cases_lt (k % 96) q) [
                | inl l ↦
                    laid_in bytes at xs q k (omega arith) (omega arith) ∙ same (k - at) (omega arith)
                    ∙ ap (stated q form (slot_at g n)) (let d : k - at ≡ k % 96 = omega arith in d)
                    ∙ sym (laid_here k e l)
                | inr l ↦ laid_past bytes at xs q k (omega arith) ∙ inv k ∙ laid_late i k l ∙ sym (laid_late (i + 1) k l)
              ]
          | inr (inl l) ↦ laid_before bytes at xs q k (omega arith) ∙ inv k ∙ laid_other k (λ e. omega arith)
          | inr (inr l) ↦ laid_past bytes at xs q k (omega arith) ∙ inv k ∙ laid_other k (λ e. omega arith)
        ]

  -- all series are written: the sheet after the message
  pub laid_all : (xs : List ℕ) → length xs ≡ length sheet → ((k : ℕ) → get_or xs k 0 ≡ laid_by g q own form (series_count form) sheet k)
      → xs ≡ sheet_after g q own form sheet
  unfolding sheet_after laid_by place_under
  laid_all xs long inv = fill_by_all (word_after g q own form sheet) xs (length sheet) 0 long (λ k l. inv k)
