use Rattle.std.proofs.Common.{◌≡◌, ℕ, ◌+◌, ◌*◌, min, get_or, sym, inl, inr, ◌∙◌, arith, rules}
use Rattle.std.proofs.lemmas.Bool.{and_parts, and_cases}
use Rattle.settlement.specs.Positions.{confirmed}
use Rattle.settlement.specs.Statements.{sent_on}
use Rattle.settlement.proofs.Places.{confirmed_at, no_out_at, no_in_at}
use Rattle.settlement.proofs.sheet.WholeSheet.add_trade.Goals as goal

pub returns-then-both_sent-clause-value : goal.returns-then-both_sent-clause-value
returns-then-both_sent-clause-value c =
    let sheet = c.args.self.now in
    let ws = sheet.words.now in
    let out = c.slot_place-out in
    let into = c.slot_place-into in
    let sent = and_parts _ _ (sym c.both_sent.ensures ∙ c.if-both_sent.true) in
    let both =
    c.add_to_both.ensures.value (λ u. confirmed (sent_on sheet) u c.args.a c.args.b)
    (λ u w h p.
    let read : w ≡ min (get_or ws (out.result * 96 + u) 0) (get_or ws (into.result * 96 + u) 0) = search rules in
    read ∙ confirmed_at _ _ _ u _ _ _ _ out.ensures.value into.ensures.value sent.0 sent.1) in
    (λ t l. both.0 t (omega arith), λ t l. both.1 t (omega arith))

pub returns-else-both_sent-clause-value : goal.returns-else-both_sent-clause-value
returns-else-both_sent-clause-value c =
    let sheet = c.args.self.now in
    let out = c.slot_place-out.ensures.value in
    let into = c.slot_place-into.ensures.value in
    let none : (t : ℕ) → confirmed (sent_on sheet) t c.args.a c.args.b ≡ 0 =
    λ t. elim (and_cases _ _ (sym c.both_sent.ensures ∙ c.if-both_sent.false)) [
      | inl no-out ↦ no_out_at _ _ _ t _ _ _ _ out into no-out
      | inr no-in ↦ no_in_at _ _ _ t _ _ _ _ out into no-in
    ] in
    (λ t l. omega (arith, none t), λ t l. omega (arith, none t))
