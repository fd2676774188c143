use Rattle.std.proofs.Common.{◌≡◌, ℕ, ◌+◌, ◌-◌, ◌<◌, ◌≤◌, List, [], length, get_or, take, drop, sym, ap, subst, ◌∙◌, inl, inr, arith, rules}
use Rattle.std.proofs.lemmas.List.{get_or-take, get_or_past, get_or_append_left, get_or-append_right, get_or-drop, length-append, length-take-le, length-drop}
use Rattle.std.proofs.lemmas.Bool.{cases_lt}
use Rattle.forms.specs.Bytes.{be32}
use Rattle.forms.specs.Slots.{slot_of, Within}
use Rattle.message.specs.Places.{stated}
use Rattle.message.proofs.Stated.{stated_unsent}
use Rattle.book.specs.States.{state_of, today}
use Rattle.book.proofs.Days.{quarters_fit}
use Rattle.book.proofs.Staying.{stated_low}
use Rattle.book.proofs.growth.Stating.add_series.Goals as goal

pub words-requires : goal.words-requires
words-requires c = subst (λ g. Within g (slot_of c.args.slot)) (sym c.args.self.now.sending.now.groups) c.requires.within

pub add_words-requires-clause-room : goal.add_words-requires-clause-room
add_words-requires-clause-room c = λ t.
    let xs = c.args.sums.now in
    let n = length c.in-Some.words.now in
    let few : n ≤ length xs = omega (arith, c.requires.room.0, c.in-Some.ensures.count, c.args.self.now.sending.now.read.quarters, quarters_fit (today (state_of c.args.self.now.sending.now.day.ledger.now))) in
    elim (cases_lt t n) [
      | inl l ↦ omega (arith, get_or-take n xs t 0 l, c.requires.room.1 t)
      | inr l ↦ omega (arith, get_or_past (take n xs) t 0 (omega (arith, length-take-le n xs few)))
    ]

pub add_words-requires-clause-low : goal.add_words-requires-clause-low
add_words-requires-clause-low c = λ u w l p.
    let x = c.args.self.now.sending.now in
    let q = x.series.message.quarters in
    let n = length c.in-Some.words.now in
    let same : n ≡ q = c.in-Some.ensures.count in
    let cut : length (take n c.args.sums.now) ≡ n = length-take-le n c.args.sums.now (omega (arith, c.requires.room.0, same, x.read.quarters, quarters_fit (today (state_of x.day.ledger.now)))) in
    let below : u < q = omega (arith, l, cut, same) in
    let read : w ≡ be32 (get_or {A = List ℕ} c.in-Some.words.now u []) 0 = search rules in
    omega (arith, read, c.in-Some.ensures.each u below, stated_low q x.series.message.bytes.now c.args.self.now.ranges (slot_of c.args.slot) u below)

pub slice_bounds-add_words-end : goal.slice_bounds-add_words-end
slice_bounds-add_words-end c = omega (arith, c.requires.room.0, c.in-Some.ensures.count, c.args.self.now.sending.now.read.quarters, quarters_fit (today (state_of c.args.self.now.sending.now.day.ledger.now)))

pub slice_bounds-add_words-end-in-Some : goal.slice_bounds-add_words-end-in-Some
slice_bounds-add_words-end-in-Some c =
    let n = length c.in-Some.words.now in
    let few : n ≤ length c.args.sums.now = omega (arith, c.requires.room.0, c.in-Some.ensures.count, c.args.self.now.sending.now.read.quarters, quarters_fit (today (state_of c.args.self.now.sending.now.day.ledger.now))) in
    omega (arith, length-take-le n c.args.sums.now few)

pub returns-in-Some-clause-value : goal.returns-in-Some-clause-value
returns-in-Some-clause-value c = λ t l.
    let x = c.args.self.now.sending.now in
    let q = x.series.message.quarters in
    let states = stated q x.series.message.bytes.now (slot_of c.args.slot) in
    let xs = c.args.sums.now in
    let ys = c.add_words.new.sums in
    let n = length c.in-Some.words.now in
    let same : n ≡ q = c.in-Some.ensures.count in
    let cut : length (take n xs) ≡ n = length-take-le n xs (omega (arith, c.requires.room.0, same, x.read.quarters, quarters_fit (today (state_of x.day.ledger.now)))) in
    let within : t < n = omega (arith, same, x.read.quarters) in
    let added = c.add_words.ensures.value states
    (λ u w h p.
    let read : w ≡ be32 (get_or {A = List ℕ} c.in-Some.words.now u []) 0 = search rules in
    read ∙ c.in-Some.ensures.each u (omega (arith, cut, same)))
    t (omega (arith, cut)) in
    get_or_append_left ys (drop n xs) 0 t (omega (arith, c.add_words.auto.sums, cut))
    ∙ added ∙ ap (λ v. v + states t) (get_or-take n xs t 0 within)

pub returns-in-Some-clause-bound : goal.returns-in-Some-clause-bound
returns-in-Some-clause-bound c =
    let xs = c.args.sums.now in
    let ys = c.add_words.new.sums in
    let n = length c.in-Some.words.now in
    let few : n ≤ length xs = omega (arith, c.requires.room.0, c.in-Some.ensures.count, c.args.self.now.sending.now.read.quarters, quarters_fit (today (state_of c.args.self.now.sending.now.day.ledger.now))) in
    let long : length ys ≡ n = c.add_words.auto.sums ∙ length-take-le n xs few in (
      omega (arith, length-append ys (drop n xs), length-drop n xs, long, few),
      λ t. elim (cases_lt t n) [
        | inl l ↦ omega (arith, get_or_append_left ys (drop n xs) 0 t (omega (arith, long)), c.add_words.ensures.bound t, get_or-take n xs t 0 l)
        | inr l ↦ omega (arith, get_or-append_right ys (drop n xs) n t 0 long l, get_or-drop n xs (t - n) 0, ap (λ k. get_or xs k 0) (back t n l))
      ],
    )
  where
    back : (t n : ℕ) → n ≤ t → n + (t - n) ≡ t
    back t n l = omega arith

pub returns-in_default-clause-value : goal.returns-in_default-clause-value
returns-in_default-clause-value c = λ t l.
    let message = c.args.self.now.sending.now.series.message in
    omega (arith, stated_unsent message.quarters message.bytes.now (slot_of c.args.slot) t (sym c.in_default.ensures.there))
