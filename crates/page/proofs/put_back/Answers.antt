-- `page::put_back` meets its contract, by `put_back`.
-- Assumes nothing.
use mathlib.Core.Path.{refl}
use Rattle.page.proofs.Pages.{put_back}
use Rattle.page.proofs.put_back.Goals as goal

pub returns : goal.returns
returns c = record { same = refl; answer = λ grew out ev. put_back c.args.page c.args.saved out ev grew }
