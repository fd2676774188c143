-- The theorem, part by part.
use Rattle.std.proofs.Common.{◌≡◌, ℕ, ◌+◌, ◌-◌, ◌<◌, ◌≤◌, Bool, List, [], ◌∷◌, ℤ, Ok, sym, refl, ap, ◌∙◌, arith}
use Rattle.forms.specs.Figures.{group_count}
use Rattle.forms.specs.Openings.{terms_of}
use Rattle.forms.specs.Lawful.{NeverFalls}
use Rattle.settlement.proofs.Laws.{balanced, below_both}
use Rattle.book.specs.States.{State, size}
use Rattle.journal.specs.Books.{Brings, JournalOf, Unchanged}
use Rattle.journal.specs.Journals.{Journal, standing, total, cut_offs, says}
use Rattle.journal.specs.Reckoned.{mark, stage, penalties, balance}
use Rattle.stage.specs.Rules.{Meaning}
use Rattle.journal.specs.Theorem.{Answers, Energy, MarksAlone, FartherNoCheaper, AskedNext, JournalsAreSound}
use Rattle.journal.proofs.Answering.{standing_next, total_next}
use Rattle.journal.proofs.Opening.{never_falls}
use Rattle.journal.proofs.Parts.{stage_same, stage_no_less, penalties_no_less}
use Rattle.journal.proofs.Running.{holds, all_right}

tariff_rises : (m : Meaning) (form : List ℕ) (j : Journal) (s : State) (w : List ℕ) → Brings m form j s w → NeverFalls (terms_of form).tariff
tariff_rises m form [] s w (place, given, h) = never_falls m place form given s w h
tariff_rises m form (e ∷ j) s w (before, sheet, b, st) = tariff_rises m form j before sheet b

in_year : (m : Meaning) (form : List ℕ) (j : Journal) → JournalOf m form j → cut_offs j ≤ 366
in_year m form j (s, w, b) = (holds m form j s w b).keeps.year

answers : (form : List ℕ) → Answers form
answers form m j (s, w, b) = all_right m form j s w b

energy : (form : List ℕ) → Energy form
energy form m j b t l = (balanced (says j) (group_count (terms_of form)) t, λ a c p q. below_both (says j) t a c)

-- what standing and total answer next
standing_told : (m : Meaning) (form : List ℕ) (j : Journal) (a day : ℕ) (x : Bool × ℕ) → JournalOf m form (standing (a + 1) day (Ok x) ∷ j) → x.1 ≡ stage m (terms_of form) j a day
standing_told m form j a day x (s, w, b) =
    ap (λ y. y.1) (all_right m form (standing (a + 1) day (Ok x) ∷ j) s w b).0
    ∙ ap (λ c. stage m (terms_of form) j c day) (let d : a + 1 - 1 ≡ a = omega arith in d)

total_told : (m : Meaning) (form : List ℕ) (j : Journal) (a : ℕ) (x : ℕ × ℤ) → JournalOf m form (total (a + 1) (Ok x) ∷ j) → x.0 ≡ penalties m (terms_of form) j a
total_told m form j a x (s, w, b) =
    ap (λ y. y.0) (all_right m form (total (a + 1) (Ok x) ∷ j) s w b).0
    ∙ ap (penalties m (terms_of form) j) (let d : a + 1 - 1 ≡ a = omega arith in d)

marks_alone : (form : List ℕ) → MarksAlone form
marks_alone form m n j k one b c a day there l h i same =
    let year = in_year m form j b in
    let stages = stage_same (terms_of form) m n j k one a day l (omega arith) same in
    (stages, λ x y p q. standing_told m form j a day x p ∙ stages ∙ sym (standing_told n form k a day y q))

farther_no_cheaper : (form : List ℕ) → FartherNoCheaper form
farther_no_cheaper form m n j k lawful one (s, w, b) c many a there far =
    let terms = terms_of form in
    let year = in_year m form j (s, w, b) in
    let rises = tariff_rises m form j s w b in
    let stages = stage_no_less terms m n j k lawful one rises a (cut_offs j) year far in
    let owed = penalties_no_less terms m n j k lawful one rises a (cut_offs j) year far refl (sym many) in (
      λ day l h. (stages day l h, λ x y p q. omega (arith, standing_told m form j a day x p, stages day l h, standing_told n form k a day y q)),
      owed,
      λ x y p q. omega (arith, total_told m form j a x p, owed, total_told n form k a y q),
    )

asked_next : (form : List ℕ) → AskedNext form
asked_next form m j (s, w, b) a there =
    let h = holds m form j s w b in
    let own : a < size s = omega (arith, there, ap group_count h.terms_same) in
    let same : (s : State) (w : List ℕ) → Unchanged s w s w = λ s w. record { book = refl; sheet = refl } in (
      λ day low high.
          let told = standing_next m s w j h.keeps a day own low high ∙ ap (λ terms. Ok (mark terms j a day, stage m terms j a day)) h.terms_same in
          (s, w, (s, w, b, (sym told, same s w))),
      let told = total_next m s w j h.keeps a own ∙ ap (λ terms. Ok (penalties m terms j a, balance terms j a)) h.terms_same in
          (s, w, (s, w, b, (sym told, same s w))),
    )

pub journals_are_sound : JournalsAreSound
journals_are_sound form = (answers form, energy form, marks_alone form, farther_no_cheaper form, asked_next form)
