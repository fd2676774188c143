use Rattle.std.proofs.Common.{◌≡◌, ◌<◌, ◌+ℤ◌, pos, nat_abs, get_or, ap, ◌∙◌, arith, w32, w64, to_z, of_z, rules}
use Rattle.std.proofs.lemmas.Int.{to_z-of_z}
use Rattle.forms.specs.Closings.{feed_in, long_price, short_price}
use Rattle.forms.proofs.ClosingLaws.{feed_in_within, long_price_within, short_price_within}
use Rattle.settlement.specs.Amounts.{imbalance_cost}
use Rattle.settlement.specs.Positions.{net_purchases}
use Rattle.settlement.specs.Sheets.{on_sheet}
use Rattle.book.specs.Closes.{quarter_today}
use Rattle.book.specs.States.{State, state_of, size, today}
use Rattle.book.proofs.Days.{quarters_fit}
use Rattle.book.proofs.settled_day.SettledDay.quarter_cost.Goals as goal

pub offset_bounds-prices-t : goal.offset_bounds-prices-t
offset_bounds-prices-t c = let l : c.args.t < 96 = omega (arith, c.requires.1, quarters_fit (today (state_of c.args.self.now.day.ledger.now))) in search rules

pub bounds-prices-t : goal.bounds-prices-t
bounds-prices-t c = omega (arith, c.requires.1, quarters_fit (today (state_of c.args.self.now.day.ledger.now)))

pub offset_bounds-prices-t-2 : goal.offset_bounds-prices-t-2
offset_bounds-prices-t-2 c = let l : c.args.t < 96 = omega (arith, c.requires.1, quarters_fit (today (state_of c.args.self.now.day.ledger.now))) in search rules

pub bounds-prices-t-2 : goal.bounds-prices-t-2
bounds-prices-t-2 c = omega (arith, c.requires.1, quarters_fit (today (state_of c.args.self.now.day.ledger.now)))

pub quarter_cost-requires : goal.quarter_cost-requires
quarter_cost-requires c =
    let x = c.args.self.now in
    let s : State = state_of x.day.ledger.now in
    let form = x.form.bytes.now in
    let p = x.closing in
    let q : c.args.t < x.form.quarters = omega (arith, c.requires.1, p.quarters) in
    let long : to_z w32 (of_z w32 (get_or x.prices.now.long c.args.t (pos 0))) ≡ long_price x.form.groups x.form.quarters form c.args.t =
    to_z-of_z w32 (get_or x.prices.now.long c.args.t (pos 0)) (search rules) ∙ x.long c.args.t q in
    let short : to_z w32 (of_z w32 (get_or x.prices.now.short c.args.t (pos 0))) ≡ short_price x.form.groups x.form.quarters form c.args.t =
    to_z-of_z w32 (get_or x.prices.now.short c.args.t (pos 0)) (search rules) ∙ x.short c.args.t q in
    record {
      within = (omega (arith, c.requires.0, x.groups), omega (arith, c.requires.1, quarters_fit (today s)));
      lawful = (
        omega (arith, feed_in_within _ _ form p.lawful c.args.a c.args.t (omega (arith, c.requires.0, p.groups)) q, ap nat_abs (to_z-of_z w32 c.feed_in-feed.result (search rules) ∙ c.feed_in-feed.ensures)),
        (
          omega (arith, long_price_within _ _ form p.lawful c.args.t q, ap nat_abs long),
          omega (arith, short_price_within _ _ form p.lawful c.args.t q, ap nat_abs short),
        ),
      );
    }

pub returns : goal.returns
unfolding quarter_today
returns c =
    let x = c.args.self.now in
    let s : State = state_of x.day.ledger.now in
    let form = x.form.bytes.now in
    let a = c.args.a in
    let t = c.args.t in
    let of_book = x.closing.groups in
    let of-day = x.closing.quarters in
    let q : t < x.form.quarters = omega (arith, c.requires.1, of-day) in
    let feed = to_z-of_z w32 c.feed_in-feed.result (search rules) ∙ c.feed_in-feed.ensures in
    let long : to_z w32 (of_z w32 (get_or x.prices.now.long t (pos 0))) ≡ long_price x.form.groups x.form.quarters form t =
    to_z-of_z w32 (get_or x.prices.now.long t (pos 0)) (search rules) ∙ x.long t q in
    let short : to_z w32 (of_z w32 (get_or x.prices.now.short t (pos 0))) ≡ short_price x.form.groups x.form.quarters form t =
    to_z-of_z w32 (get_or x.prices.now.short t (pos 0)) (search rules) ∙ x.short t q in
    let same : to_z w64 (of_z w64 c.quarter_cost.result) ≡ c.quarter_cost.result = to_z-of_z w64 c.quarter_cost.result (search rules) in
    record {
      value =
          same ∙ c.quarter_cost.ensures.value
          ∙ (λ j. imbalance_cost (net_purchases (on_sheet (x.groups j) (x.sent j) (x.words j)) (x.groups j) t a +ℤ feed j) (long j) (short j))
          ∙ (λ j. imbalance_cost (net_purchases (on_sheet (size s) x.day.ledger.now.sent x.day.sheet.now) (size s) t a +ℤ feed_in (of-day j) form a t)
          (long_price (of_book j) (of-day j) form t) (short_price (of_book j) (of-day j) form t));
      bound = omega (arith, ap nat_abs same, c.quarter_cost.ensures.bound);
    }
