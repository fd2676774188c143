use Rattle.std.proofs.Common.{◌<◌, sym, arith, rules}
use Rattle.forms.proofs.OpeningLaws.{lawful_in}
use Rattle.book.specs.Kept.{days_in, penalties_in, balance_in}
use Rattle.book.proofs.Accounts.{account_at, bounded_at}
use Rattle.book.proofs.ledger.Ledger.account.Goals as goal

pub offset_bounds-self-a : goal.offset_bounds-self-a
offset_bounds-self-a c = let l : c.args.a < 16 = omega (arith, (lawful_in c.args.self.now.opening).groups_most) in search rules

pub listed : goal.listed
listed c = omega (arith, (lawful_in c.args.self.now.opening).groups_most)

pub bounds-self-a : goal.bounds-self-a
bounds-self-a c = omega (arith, (lawful_in c.args.self.now.opening).groups_most)

pub returns : goal.returns
returns c =
    let l = c.args.self.now in
    let a = c.args.a in
    let r = c.index-self-a.result in
    let h = (lawful_in l.opening).groups_most in
    record {
      value = sym (account_at _ l.accounts a r _ c.requires (omega (arith, h)));
      days = bounded_at days_in l.accounts a r _ (omega (arith, h)) l.marked;
      penalties = bounded_at penalties_in l.accounts a r _ (omega (arith, h)) l.owed;
      balance = bounded_at balance_in l.accounts a r _ (omega (arith, h)) l.settled;
    }
