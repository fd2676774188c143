use Rattle.std.proofs.Common.{length, ◌≡◌, ℕ, ◌<◌, nat_abs, set, Option, ap, ◌∙◌, arith, w64, to_z, of_z, rules}
use Rattle.std.proofs.lemmas.Int.{to_z-of_z}
use Rattle.std.proofs.lemmas.List.{length-set}
use Rattle.forms.proofs.OpeningLaws.{lawful_in}
use Rattle.book.specs.Kept.{days_in, penalties_in, balance_in}
use Rattle.book.specs.Messages.{beyond_now, beyond_at, beyond_count, state_with, sheet_after}
use Rattle.book.specs.Sheets.{all_powers}
use Rattle.book.specs.States.{State, GroupState, state_of, size, day_quarters}
use Rattle.book.specs.Tallies.{tally}
use Rattle.book.proofs.Accepted.{beyond_same, tally_same}
use Rattle.book.proofs.Accounts.{bounded_set, own_set}
use Rattle.book.proofs.Days.{flags_enough}
use Rattle.book.proofs.Staying.{after_low}
use Rattle.book.proofs.Submitting.{submit_accepted, sheet_passed}
use Rattle.book.proofs.ledger.Ledger.take.Goals as goal

pub bounds-accounts-own : goal.bounds-accounts-own
bounds-accounts-own c = omega (arith, c.requires.accepted.read.sender, (lawful_in c.args.self.now.opening).groups_most)

pub lay-requires : goal.lay-requires
lay-requires c = record {
  read = c.requires.accepted.read;
  sheet = (sheet_passed (state_of c.args.self.now) c.args.sheet.now c.args.accepted.now.message.bytes.now c.requires.passed).0;
}

pub invariant_of-self : goal.invariant_of-self
invariant_of-self c =
    let l = c.args.self.now in
    let x = c.args.accepted.now in
    let within : x.own < length l.accounts = omega (arith, c.requires.accepted.read.sender, (lawful_in l.opening).groups_most, l.groups) in
    let old = c.account.ensures in
    let same : to_z w64 (of_z w64 c.account.result.balance) ≡ c.account.result.balance = to_z-of_z w64 c.account.result.balance (search rules) in
    record {
      year = l.year;
      flags = search rules;
      groups = length-set l.accounts x.own _ ∙ l.groups;
      marked = bounded_set days_in l.accounts x.own _ _ within old.days l.marked;
      owed = bounded_set penalties_in l.accounts x.own _ _ within old.penalties l.owed;
      settled = bounded_set balance_in l.accounts x.own _ _ within (omega (arith, ap nat_abs same, old.balance)) l.settled;
    }

pub invariant_of-day : goal.invariant_of-day
invariant_of-day c =
    let s : State = state_of c.args.self.now in
    let sheet = c.args.sheet.now in
    let x = c.args.accepted.now in
    let form = x.message.bytes.now in
    let fits = sheet_passed s sheet form c.requires.passed in
    record {
      room = c.lay.auto.sheet ∙ fits.0;
      lawful =
          ap all_powers (c.lay.ensures ∙ (λ j. sheet_after (size s) (day_quarters s) (c.requires.accepted.sender j) form sheet))
          ∙ after_low s sheet form fits.1 c.requires.passed;
    }

pub returns : goal.returns
returns c =
    let l = c.args.self.now in
    let s : State = state_of l in
    let g = size s in
    let q = day_quarters s in
    let sheet = c.args.sheet.now in
    let x = c.args.accepted.now in
    let form = x.message.bytes.now in
    let is = c.requires.accepted in
    let mine : x.own < size s = is.read.sender in
    let old = c.account.ensures.value in
    let same_balance : to_z w64 (of_z w64 c.account.result.balance) ≡ c.account.result.balance = to_z-of_z w64 c.account.result.balance (search rules) in
    let kept = same_balance ∙ ap (λ (k : GroupState). k.balance) old in
    let groups =
    own_set (size s) l.accounts x.own _ mine (omega (arith, (lawful_in l.opening).groups_most, l.groups))
    ∙ (λ j. set s.groups x.own (record { version = x.version; marks = (old j).marks; due = (old j).due; penalties = (old j).penalties; balance = kept j })) in
    let after : ◌≡◌ {A = State} (record { terms = s.terms; closed = s.closed; phase = s.phase; sent = x.sent; groups = _ }) (state_with s x.own x.version form) =
    λ j. record { terms = s.terms; closed = s.closed; phase = s.phase; sent = is.sent j; groups = groups j } in
    let enough = flags_enough g (omega (arith, (lawful_in l.opening).groups_most)) in
    let same : (t : ℕ) → t < q → beyond_now (state_with s x.own x.version form) (sheet_after g q x.own form sheet) x.own t ≡ beyond_at s x.own form t =
    beyond_same s x.own x.version form sheet mine (sheet_passed s sheet form c.requires.passed).0 (omega (arith, enough, l.flags)) in
    let told : ◌≡◌ {A = ℕ × Option ℕ} (c.beyond.result.beyond, c.beyond.result.first) (tally (beyond_at s x.own form) q) =
    c.beyond.ensures ∙ (λ j. tally (beyond_now (after j) (c.lay.ensures j) x.own) (day_quarters (after j))) ∙ tally_same _ _ q same in
    submit_accepted s sheet form _ _ _ c.requires.passed
    (told ∙ ap (λ a. beyond_count s a form) is.sender)
    (after ∙ (λ j. state_with s (is.sender j) (is.version j) form))
    (c.lay.ensures ∙ (λ j. sheet_after g q (is.sender j) form sheet))
