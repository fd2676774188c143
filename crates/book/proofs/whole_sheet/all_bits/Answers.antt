use Rattle.std.proofs.Common.{ℕ, List, fold, bit_or, ◌∙◌, rules, tests}
use Rattle.std.proofs.lemmas.Iterator.{YieldsList-from_slice}
use Rattle.std.proofs.lemmas.Iterator.Consumers.{fold_from_yields_List}
use Rattle.book.proofs.Powers.{bits_by_slots}
use Rattle.book.proofs.whole_sheet.all_bits.Goals as goal

pub returns : goal.returns
returns c =
    let each : ℕ → List ℕ → ℕ = λ bits slot. fold bit_or bits slot in
    let bits = fold_from_yields_List _ each 0 _ c.fold-bits.ensures.ran (YieldsList-from_slice c.as_chunks.result.0.now cc) (λ a x b q k. search (rules, tests)) in
    c.with_bits.ensures
    ∙ (λ j. fold bit_or ((bits ∙ (λ i. fold each 0 (c.as_chunks.ensures.front i))) j) (c.as_chunks.ensures.back j))
    ∙ bits_by_slots 96 _ 0 c.args.words.now
