use Rattle.book.proofs.Meaning.{message_stands, message_fixes_nothing}
use Rattle.book.proofs.meant.message_stands.Goals as goal

pub returns : goal.returns
returns c = record { stands = message_stands; fixed = message_fixes_nothing }
