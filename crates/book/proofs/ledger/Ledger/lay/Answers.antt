use Rattle.std.proofs.Common.{◌≡◌, ℕ, ◌+◌, ◌*◌, ◌/◌, ◌<◌, length, get_or, sym, ap, ◌∙◌, subst, arith}
use Rattle.forms.specs.Bytes.{be32}
use Rattle.message.specs.Form.{series_count}
use Rattle.message.specs.Places.{stated}
use Rattle.message.specs.Read.{as_read, bytes_of}
use Rattle.message.proofs.HeadLaws.{heads_lawful, none_before, within, stated_about}
use Rattle.message.proofs.SeriesLaws.{series_there, names_told, value_told, length_told}
use Rattle.forms.specs.Slots.{Within, slots, slot_number, slot_at}
use Rattle.forms.proofs.SlotNumbers.{number_below}
use Rattle.book.specs.Messages.{series_laid}
use Rattle.book.specs.States.{State, state_of, size, today, day_quarters}
use Rattle.book.proofs.Days.{quarters_fit}
use Rattle.book.proofs.Laying.{laid_by, laid_first, laid_next, laid_all}
use Rattle.message.proofs.Numbering.{number, slot_number_of, found, skipped, within_told, number_told}
use Rattle.book.proofs.ledger.Ledger.lay.Goals as goal
use Rattle.book.proofs.ledger.Ledger.lay.Goals.{in-Some, in_default}

pub loop-i-init : goal.loop-i-init
loop-i-init c = laid_first _ _ _ _ _

pub slot-requires : goal.slot-requires
slot-requires c =
    let m = c.args.message.now in
    names_told (size (state_of c.args.self.now)) c.args.own m.quarters m.bytes.now (heads_lawful (size (state_of c.args.self.now)) c.args.own m.bytes.now c.requires.read.heads) c.loop-i.i (omega (arith, c.loop-i-test.true, c.count-i-end.ensures)) (as_read c.in-Some.series) c.in-Some.ensures

pub number-number-requires : goal.number-number-requires
number-number-requires c =
    let m = c.args.message.now in
    let g = size (state_of c.args.self.now) in
    let within = within_told g c.args.own m.bytes.now (heads_lawful g c.args.own m.bytes.now c.requires.read.heads) c.loop-i.i (omega (arith, c.loop-i-test.true, c.count-i-end.ensures)) m.quarters (as_read c.in-Some.series) c.in-Some.ensures in
    (c.groups-groups.ensures.few, rw c.groups-groups.ensures.value (subst (Within g) (sym c.slot.ensures) within))

pub lay_series-requires : goal.lay_series-requires
lay_series-requires c =
    let m = c.args.message.now in
    let there : c.loop-i.i < series_count m.bytes.now = omega (arith, c.loop-i-test.true, c.count-i-end.ensures) in
    let long = length_told m.quarters m.bytes.now c.loop-i.i (as_read c.in-Some.series) c.in-Some.ensures c.requires.read.formed there in
    omega (arith, long, c.place-at.ensures.room, c.requires.read.quarters, quarters_fit (today (state_of c.args.self.now)), c.loop-i.auto.sheet, c.requires.sheet)

pub loop-i-preserved : goal.loop-i-preserved
loop-i-preserved c =
    let s : State = state_of c.args.self.now in
    let g = size s in
    let q = day_quarters s in
    let own = c.args.own in
    let p = c.args.message.now.quarters in
    let form = c.args.message.now.bytes.now in
    let i = c.loop-i.i in
    let xs = c.loop-i.sheet in
    let heads = c.requires.read.heads in
    let lawful = heads_lawful g own form heads in
    let of-day = c.requires.read.quarters in
    let there : i < series_count form = omega (arith, c.loop-i-test.true, c.count-i-end.ensures) in
    elim c.match-series.branch [
      | in-Some w ↦
          let x = as_read w.in-Some.series in
          let shown = w.in-Some.ensures in
          let n = number g own form lawful i there in
          let below : n < slots g = number_below g _ (within g own form lawful i there) in
          let is : w.number-number.result ≡ n =
          w.number-number.ensures.value ∙ (λ j. slot_number (c.groups-groups.ensures.value j) (w.slot.ensures j)) ∙ number_told g own form lawful i there p x shown in
          let at : w.place-at.result * 96 ≡ (own * slots g + n) * 96 = (λ j. w.place-at.ensures.value j * 96) ∙ ap (λ m. (own * slots g + m) * 96) is in
          let long : length (bytes_of x) / 4 ≡ q = omega (arith, length_told p form i x shown c.requires.read.formed there, of-day) in
          let written : (k : ℕ) → get_or w.lay_series.new.sheet k 0 ≡ series_laid (bytes_of x) ((own * slots g + n) * 96) q xs k =
          λ k. w.lay_series.ensures k ∙ (λ j. series_laid (bytes_of x) (at j) (long j) xs k) in
          let value : (t : ℕ) → t < q → be32 (bytes_of x) (4 * t) ≡ stated q form (slot_at g n) t =
          λ t l. value_told p form i x shown t (omega (arith, of-day)) ∙ sym (stated_about g own form heads p i t there)
          ∙ (λ j. stated (of-day j) form (sym (slot_number_of g own form lawful i there) j) t) in
          λ k. ap (λ zs. get_or zs k 0) w.sheet-is
          ∙ laid_next g q own form c.args.sheet.now i n below (found g own form lawful i there (none_before g own form heads i there)) (skipped g own form lawful i there) (bytes_of x) xs w.lay_series.new.sheet
          (quarters_fit (today s)) value c.loop-i.invariant written k
      | in_default w ↦ absurd (series_there g own p form lawful i there w.in_default.ensures)
    ]

pub returns : goal.returns
returns c =
    let s : State = state_of c.args.self.now in
    let form = c.args.message.now.bytes.now in
    let sheet = c.args.sheet.now in
    let all : c.loop-i.i ≡ series_count form = omega (arith, c.loop-i-test.false, c.loop-i.auto.i-end, c.count-i-end.ensures) in
    laid_all (size s) (day_quarters s) c.args.own form sheet c.loop-i.sheet c.loop-i.auto.sheet
    (λ k. c.loop-i.invariant k ∙ ap (λ n. laid_by (size s) (day_quarters s) c.args.own form n sheet k) all)
