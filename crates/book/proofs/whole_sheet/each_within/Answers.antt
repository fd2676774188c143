use Rattle.std.proofs.Common.{◌&&◌, sym, ◌∙◌, rules, tests}
use Rattle.std.specs.List.{list_all}
use Rattle.std.proofs.lemmas.Iterator.{YieldsList-from_slice}
use Rattle.std.proofs.lemmas.Iterator.Search.{all_from_yields_List}
use Rattle.book.specs.Sheets.{all_powers}
use Rattle.book.proofs.Powers.{powers_by_slots}
use Rattle.book.proofs.whole_sheet.each_within.Goals as goal

pub returns-then-all : goal.returns-then-all
returns-then-all c =
    let slots = all_from_yields_List all_powers _ _ _ c.all.ensures.ran (YieldsList-from_slice c.as_chunks.result.0.now cc) (λ x b q k. search (rules, tests)) in
    let first = sym c.if-all.true ∙ slots ∙ (λ i. list_all all_powers (c.as_chunks.ensures.front i)) in
    c.all_within.ensures ∙ (λ j. first j && all_powers (c.as_chunks.ensures.back j)) ∙ powers_by_slots 96 _ c.args.words.now

pub returns-else-all : goal.returns-else-all
returns-else-all c =
    let slots = all_from_yields_List all_powers _ _ _ c.all.ensures.ran (YieldsList-from_slice c.as_chunks.result.0.now cc) (λ x b q k. search (rules, tests)) in
    let first = sym c.if-all.false ∙ slots ∙ (λ i. list_all all_powers (c.as_chunks.ensures.front i)) in
    c.if-all.false ∙ (λ j. first j && all_powers (c.as_chunks.ensures.back j)) ∙ powers_by_slots 96 _ c.args.words.now
