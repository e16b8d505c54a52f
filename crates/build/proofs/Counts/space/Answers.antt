-- `space`: a Text of one blank.
use Rattle.buffer.specs.Utf8.{every, ascii, no_feed}
use Rattle.table.specs.Fault.{columns_right}
use Rattle.build.proofs.Counts.space.Goals as goal

pub returns : goal.returns
unfolding columns_right ascii no_feed every
returns c =
    c.text.ensures
