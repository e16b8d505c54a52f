-- `solid`: counts what is no Nil.
use Rattle.std.proofs.Common.{rules, sym, ◌∙◌, ◌≡◌, not, eqb, take, ◌*◌, count_by}
use Rattle.table.specs.Node.{word}
use Rattle.build.proofs.Counting.{solid_is}
use Rattle.build.proofs.Counts.solid.Goals as goal

pub returns : goal.returns
returns c =
    let args = c.args in
    let table = take (args.self.nodes * 4) args.table.now in
    let counted : c.count.result ≡ count_by (λ n. not (eqb (word table n 0) 0)) args.ns.now = search rules in
    counted ∙ sym (solid_is table args.ns.now)
