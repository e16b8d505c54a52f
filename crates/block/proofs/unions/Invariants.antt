-- `unions`: one alternative fewer is left each turn.
use Rattle.block.proofs.Loops.{Left}
use Rattle.block.proofs.unions.Given as goal

abbrev pub invariant-loop-split : goal.invariant-loop-split
invariant-loop-split l =
    Left l.initial.c l.initial.table l.text l.block l.shared l.affixes.prefixes.now l.affixes.suffixes.now l.affixes.nests.now l.initial.n l.initial.split l.split l.c l.n l.table
