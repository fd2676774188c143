use Rattle.journal.proofs.Exhibited.{farther_costs_more}
use Rattle.journal.proofs.Replay.{one_journal}
use Rattle.journal.proofs.Sessions.{sessions_are_journals}
use Rattle.journal.proofs.Whole.{journals_are_sound}
use Rattle.journal.proofs.journals_are_sound.Goals as goal

pub returns : goal.returns
returns c = record { theorem = journals_are_sound; journals = one_journal; exhibit = farther_costs_more; sessions = sessions_are_journals }
