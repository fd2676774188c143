-- The marks as a list: how many there are, and the mark of a day.
use Rattle.std.specs.Prelude.{◌≡◌, ℕ, zero, suc, ◌+◌, ◌-◌, ◌<◌, ◌≤◌, min, Bool, true, false, List, [], ◌∷◌, ◌++◌, map, length, take, ◌≢◌, slice_index_or, refl}
use Rattle.std.proofs.Common.{sym, ap, ◌∙◌, inl, inr, add-one, arith}
use Rattle.std.specs.List.{range_with_len}
use Rattle.std.proofs.lemmas.List.{get_or_past, get_or-take, get_or_append_left, get_or_push, take_all}
use Rattle.std.proofs.lemmas.List.FromFn.{length-map-range_with_len, take-map-range_with_len, get_or-map-range_with_len}
use Rattle.std.proofs.lemmas.Bool.{cases_lt}
use Rattle.forms.specs.Calendar.{year_days}
use Rattle.stage.specs.declared.marks.Marks.{Marks}
use Rattle.stage.specs.Marked.{flag, marks_of, on_day, Under}

pub length_marks : (m : Marks) → length (marks_of m) ≡ m.days
unfolding marks_of
length_marks m = length-map-range_with_len (flag m.words) 0 m.days

-- there are marks of at most the days of a year
pub marks_le_year : (m : Marks) → length (marks_of m) ≤ year_days
marks_le_year m = omega (arith, length_marks m, m.year)

-- the day after the first i days
pub on_day_next : (xs : List Bool) (i : ℕ) → on_day xs (i + 1) ≡ slice_index_or xs i false
on_day_next xs i = rw (add-one i) refl

pub on_day_past : (xs : List Bool) (d : ℕ) → length xs < d → on_day xs d ≡ false
on_day_past xs zero h = refl
on_day_past xs (suc i) h = get_or_past xs i false (omega arith)

-- the marks up to a day
pub first_marks : (m : Marks) (n day : ℕ) → n ≡ min m.days day → map (flag m.words) (range_with_len 0 n) ≡ take day (marks_of m)
unfolding marks_of
first_marks m n day e =
    elim (cases_lt day m.days) [
      | inl l ↦ ap (λ k. map (flag m.words) (range_with_len 0 k)) (let f : n ≡ day = omega arith in f) ∙ sym (take-map-range_with_len (flag m.words) 0 m.days day (omega arith))
      | inr l ↦ ap (λ k. map (flag m.words) (range_with_len 0 k)) (let f : n ≡ m.days = omega arith in f) ∙ sym (take_all day (marks_of m) (omega (arith, length_marks m)))
    ]

-- the mark of a day, out of its bit
pub on_day_bit : (m : Marks) (day : ℕ) → (day ≢ 0) → day ≤ m.days → on_day (marks_of m) day ≡ flag m.words (day - 1)
unfolding marks_of
on_day_bit m zero some h = absurd (some refl)
on_day_bit m (suc i) some h = get_or-map-range_with_len (flag m.words) 0 m.days i (suc i - 1) false (omega arith) (omega arith)

-- what is marked in the first n days
pub on_day_take : (n : ℕ) (xs : List Bool) (d : ℕ) → d ≤ n → on_day (take n xs) d ≡ on_day xs d
on_day_take n xs zero h = refl
on_day_take n xs (suc i) h = get_or-take n xs i false (omega arith)

-- one more day leaves the days before it, and has its own mark
pub on_day_kept : (xs : List Bool) (x : Bool) (d : ℕ) → d ≤ length xs → on_day (xs ++ x ∷ []) d ≡ on_day xs d
on_day_kept xs x zero h = refl
on_day_kept xs x (suc i) h = get_or_append_left xs (x ∷ []) false i (omega arith)

pub on_day_push : (xs : List Bool) (x : Bool) → on_day (xs ++ x ∷ []) (length xs + 1) ≡ x
on_day_push xs x = on_day_next (xs ++ x ∷ []) (length xs) ∙ get_or_push xs x false (length xs) refl

pub under_same : (xs : List Bool) → Under xs xs
under_same [] = tt
under_same (x ∷ xs) = (λ e. e, under_same xs)

pub under_take : (n : ℕ) (xs ys : List Bool) → Under xs ys → Under (take n xs) (take n ys)
under_take zero xs ys h = tt
under_take (suc n) [] [] h = tt
under_take (suc n) [] (y ∷ ys) h = absurd h
under_take (suc n) (x ∷ xs) [] h = absurd h
under_take (suc n) (x ∷ xs) (y ∷ ys) h = (h.0, under_take n xs ys h.1)

under_from_get_or : (xs ys : List Bool) → length xs ≡ length ys
    → ((i : ℕ) → i < length xs → slice_index_or xs i false ≡ true → slice_index_or ys i false ≡ true) → Under xs ys
under_from_get_or [] [] e h = tt
under_from_get_or [] (y ∷ ys) e h = absurd (omega arith)
under_from_get_or (x ∷ xs) [] e h = absurd (omega arith)
under_from_get_or (x ∷ xs) (y ∷ ys) e h =
    (h 0 (omega arith), under_from_get_or xs ys (omega arith) (λ i l. h (suc i) (omega arith)))

-- of equally many days, each that the first marks is marked by the second
pub under_from_days : (xs ys : List Bool) → length xs ≡ length ys
    → ((d : ℕ) → 1 ≤ d → d ≤ length xs → on_day xs d ≡ true → on_day ys d ≡ true) → Under xs ys
under_from_days xs ys e h = under_from_get_or xs ys e (λ i l. h (suc i) (omega arith) (omega arith))
