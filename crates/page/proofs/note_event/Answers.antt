-- `page::note_event` meets its contract: `noted-full` where no record is left, else three stores are one record more, by `noted-on`.
-- Assumes nothing.
use native.Mathlib.Omega.{arith}
use Rattle.page.proofs.Pages.{noted-full, noted-on}
use Rattle.page.proofs.note_event.Goals as goal

pub returns-then-events-at-lt-EVENT_WORDS : goal.returns-then-events-at-lt-EVENT_WORDS
returns-then-events-at-lt-EVENT_WORDS c = noted-full c.args.page _ _ _ (omega arith)

pub returns : goal.returns
returns c = noted-on c.args.page _ _ _ (omega arith)
