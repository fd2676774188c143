use Rattle.std.proofs.Common.{◌≡◌, ℕ, length, get_or, replicate, pos, sym, ap, ◌∙◌, subst}
use Rattle.stage.proofs.MarkLists.{length_marks}
use Rattle.book.proofs.Accounts.{get_or_zeros}
use Rattle.book.proofs.begin.nothing_kept.Goals as goal

pub returns : goal.returns
returns c =
    let none = c.none.result in
    let no-days : none.days ≡ 0 = sym (length_marks none) ∙ ap length c.none.ensures in
    record {
      states = λ j. replicate 16 (record { version = 0; marks = c.none.ensures j; due = 0; penalties = 0; balance = pos 0 });
      days = λ k. let P : ℕ → Type 0 = λ d. get_or (replicate 16 d) k 0 ≡ 0 in subst P (sym no-days) (get_or_zeros 16 k);
      penalties = get_or_zeros 16;
      balances = get_or_zeros 16;
    }
