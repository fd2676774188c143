-- The letters of frames.
use Rattle.std.specs.Prelude.{◌≡◌, ◌≢◌, ℕ, Result, MatchResult}
use Rattle.session.specs.declared.letter.Letter.{Letter}
use Rattle.session.specs.declared.letter.Letter.TheVariants.{Rule, Opening, Message, Advance, Closing}
use Rattle.session.specs.declared.letter.UnknownLetter.{UnknownLetter}

-- R, O, S, A and C
abbrev pub code_of : Letter → ℕ
code_of Rule = 82
code_of Opening = 79
code_of Message = 83
code_of Advance = 65
code_of Closing = 67

-- the letter with this code, or an error for a code that no letter has
abbrev pub Decodes : ℕ → Result Letter UnknownLetter → Type 0
Decodes code r = MatchResult r (λ letter. code_of letter ≡ code) (λ _. (code ≢ code_of Rule) × (code ≢ code_of Opening) × (code ≢ code_of Message) × (code ≢ code_of Advance) × (code ≢ code_of Closing))
